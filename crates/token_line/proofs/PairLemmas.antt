-- What is kept of tokens once one of them is written, added or taken out.
use Rattle.std.proofs.Common.{◌≡◌, ◌≢◌, ℕ, ◌<◌, Bool, true, false, cond, List, [], ◌∷◌, ◌++◌, length, slice_get, slice_index_or, Option, Some, None, IfSome, Result, Ok, Err, OnOk, OnErr, pos, refl, sym, ap, subst, ◌∙◌, bytes_eq}
use Rattle.std.specs.List.{IsDistinct, swap_remove}
use Rattle.std.specs.Map.{keys_of}
use Rattle.std.specs.Option.{ForSome}
use Rattle.std.proofs.lemmas.Cmp.{nat_list_eq_equiv}
use Rattle.std.proofs.lemmas.Map.Entries.{lookup_from_place}
use Rattle.std.proofs.lemmas.Map.Keys.{IsDistinct-tail}
use Rattle.std.proofs.lemmas.Option.{slice_get-get_or, slice_get_within}
use Rattle.std.proofs.lemmas.Slice.Eq.{bytes_eq-Decides}
use Rattle.indexmap.specs.IndexMap.{set_value_at}
use Rattle.token_line.specs.declared.tokens.TokenCount.{TokenCount}
use Rattle.token_line.specs.inner.Pairs.{ArePairs, Pairs, cell_of, place_of}
use Rattle.token_line.proofs.SmallMapLemmas.{keys_set, missing_value, no_keys, pair_of, push_apart, push_lookup, remove_apart_all, remove_lookup, set_lookup}

abbrev pub Pair : Type 0
Pair = List ℕ × TokenCount

abbrev pub no_pair : Pair
no_pair = ([], record { sum = pos 0; blockers = 0 })

pub same_bytes : (a b : List ℕ) → bytes_eq a b ≡ true → a ≡ b
same_bytes a b e = (bytes_eq-Decides a b).0 e

-- ---- places

pub place_found : (kept : Pairs) (t : List ℕ) (i : ℕ) → place_of kept t ≡ Some i → (c : TokenCount) × (slice_get kept i ≡ Some (t, c))
place_found kept t i is =
    let own = pair_of nat_list_eq_equiv kept i t is in
    (own.0.1, own.1.0 ∙ ap (λ k. Some (k, own.0.1)) (sym (same_bytes t own.0.0 own.1.1)))

pub place_missing : (kept : Pairs) (t : List ℕ) → place_of kept t ≡ None → cell_of kept t ≡ None
place_missing kept t is = missing_value (bytes_eq t) kept is

pub cell_at : (kept : Pairs) → ArePairs kept → (i : ℕ) (t : List ℕ) (c : TokenCount) → slice_get kept i ≡ Some (t, c) → cell_of kept t ≡ Some c
cell_at kept are i t c at = lookup_from_place nat_list_eq_equiv kept i t c are.apart at

pub some_at : (kept : Pairs) → ArePairs kept → (i : ℕ) (t : List ℕ) (c : TokenCount) → slice_get kept i ≡ Some (t, c) → c.sum ≢ pos 0
some_at kept are i t c at = are.some t c (cell_at kept are i t c at)

-- what is kept after a change of one token
pub record Keeps (kept : Pairs) (t : List ℕ) (o : Option TokenCount) (new : Pairs) : Type 0 where
  pub apart : IsDistinct bytes_eq (keys_of new)
  pub cells : (u : List ℕ) → cell_of new u ≡ cond (bytes_eq u t) o (cell_of kept u)

pub keep_pairs : (kept : Pairs) (t : List ℕ) (o : Option TokenCount) (new : Pairs) → ArePairs kept → ForSome o (λ c. c.sum ≢ pos 0) → Keeps kept t o new → ArePairs new
keep_pairs kept t o new are some keeps = record {
  apart = keeps.apart;
  some = λ u c at. by u c (bytes_eq u t) (sym (keeps.cells u) ∙ at);
}
  where
    by : (u : List ℕ) (c : TokenCount) (b : Bool) → cond b o (cell_of kept u) ≡ Some c → c.sum ≢ pos 0
    by u c true at = some c at
    by u c false at = are.some u c at

-- ---- one is written

pub set_keeps : (kept : Pairs) → ArePairs kept → (i : ℕ) (t : List ℕ) (old c : TokenCount) → slice_get kept i ≡ Some (t, old) → Keeps kept t (Some c) (set_value_at kept i c)
set_keeps kept are i t old c at = record {
  apart = subst (IsDistinct bytes_eq) (sym (keys_set kept i c)) are.apart;
  cells = set_lookup nat_list_eq_equiv kept i (t, old) c are.apart at;
}

-- ---- one is added

pub push_keeps : (kept : Pairs) → ArePairs kept → (t : List ℕ) (c : TokenCount) → cell_of kept t ≡ None → Keeps kept t (Some c) (kept ++ (t, c) ∷ [])
push_keeps kept are t c none = record {
  apart = push_apart nat_list_eq_equiv kept (kept ++ (t, c) ∷ []) t c are.apart none refl;
  cells = push_lookup nat_list_eq_equiv kept t c none;
}

-- ---- one is taken out

pub remove_keeps : (kept : Pairs) → ArePairs kept → (i : ℕ) (t : List ℕ) (old : TokenCount) → slice_get kept i ≡ Some (t, old) → Keeps kept t None (swap_remove kept i (t, old))
remove_keeps kept are i t old at = record {
  apart = IsDistinct-tail bytes_eq t (keys_of (swap_remove kept i (t, old))) (remove_apart_all nat_list_eq_equiv kept i (t, old) at are.apart);
  cells = remove_lookup nat_list_eq_equiv kept i (t, old) are.apart at;
}

-- ---- the same, as what the clauses say

pub no_pairs : (kept : Pairs) → kept ≡ [] → ArePairs kept
no_pairs kept is = subst ArePairs (sym is) (record { apart = no_keys bytes_eq; some = λ t c at. absurd (cc) })

pub set_are : (kept : Pairs) → ArePairs kept → (i : ℕ) (c : TokenCount) → i < length kept → c.sum ≢ pos 0 → (new : Pairs) → new ≡ set_value_at kept i c → ArePairs new
set_are kept are i c within some new is =
    let e = slice_index_or kept i no_pair in
    subst ArePairs (sym is)
    (keep_pairs kept e.0 (Some c) (set_value_at kept i c) are (λ d at. (let same : c ≡ d = cc in subst (λ (z : TokenCount). z.sum ≢ pos 0) same some))
    (set_keeps kept are i e.0 e.1 c (slice_get-get_or kept i no_pair within)))

pub removed_are : (kept : Pairs) → ArePairs kept → (i : ℕ) → i < length kept → (new : Pairs) → IfSome (slice_get kept i) (λ e. new ≡ swap_remove kept i e) → ArePairs new
removed_are kept are i within new is =
    let e = slice_index_or kept i no_pair in
    let at : slice_get kept i ≡ Some e = slice_get-get_or kept i no_pair within in
    let gone : new ≡ swap_remove kept i e = subst (λ o. IfSome o (λ (x : Pair). new ≡ swap_remove kept i x)) at is in
    subst ArePairs (sym gone) (keep_pairs kept e.0 None (swap_remove kept i e) are (λ d at. absurd (cc)) (remove_keeps kept are i e.0 e.1 at))

pub pushed_are : (kept : Pairs) → ArePairs kept → (t : List ℕ) (c : TokenCount) → cell_of kept t ≡ None → c.sum ≢ pos 0 → (new : Pairs) → new ≡ kept ++ (t, c) ∷ [] → ArePairs new
pushed_are kept are t c none some new is =
    subst ArePairs (sym is)
    (keep_pairs kept t (Some c) (kept ++ (t, c) ∷ []) are (λ d at. (let same : c ≡ d = cc in subst (λ (z : TokenCount). z.sum ≢ pos 0) same some)) (push_keeps kept are t c none))

pub pushed_or_not : {T E : Type 0} (r : Result T E) (kept new : Pairs) (t : List ℕ) (c : TokenCount) → ArePairs kept → cell_of kept t ≡ None → c.sum ≢ pos 0
    → OnOk r (new ≡ kept ++ (t, c) ∷ []) → OnErr r (new ≡ kept) → ArePairs new
pushed_or_not (Ok x) kept new t c are none some ok err = pushed_are kept are t c none some new ok
pushed_or_not (Err e) kept new t c are none some ok err = subst ArePairs (sym err) are

-- ---- by the place of a token

module _ (kept : Pairs) (are : ArePairs kept) (t : List ℕ) where
  pub place_within : (i : ℕ) → place_of kept t ≡ Some i → i < length kept
  place_within i is = let found = place_found kept t i is in slice_get_within kept i (t, found.0) found.1

  pub set_by_place : (i : ℕ) → place_of kept t ≡ Some i → (c : TokenCount) (new : Pairs) → new ≡ set_value_at kept i c → (u : List ℕ) → cell_of new u ≡ cond (bytes_eq u t) (Some c) (cell_of kept u)
  set_by_place i is c new written u =
      let found = place_found kept t i is in ap (λ k. cell_of k u) written ∙ (set_keeps kept are i t found.0 c found.1).cells u

  pub remove_by_place : (i : ℕ) → place_of kept t ≡ Some i → (new : Pairs) → IfSome (slice_get kept i) (λ e. new ≡ swap_remove kept i e) → (u : List ℕ) → cell_of new u ≡ cond (bytes_eq u t) None (cell_of kept u)
  remove_by_place i is new gone u =
      let found = place_found kept t i is in
      let out : new ≡ swap_remove kept i (t, found.0) = subst (λ o. IfSome o (λ (x : Pair). new ≡ swap_remove kept i x)) found.1 gone in
      ap (λ k. cell_of k u) out ∙ (remove_keeps kept are i t found.0 found.1).cells u

  pub push_by_place : place_of kept t ≡ None → (c : TokenCount) (new : Pairs) → new ≡ kept ++ (t, c) ∷ [] → (u : List ℕ) → cell_of new u ≡ cond (bytes_eq u t) (Some c) (cell_of kept u)
  push_by_place is c new more u = ap (λ k. cell_of k u) more ∙ (push_keeps kept are t c (place_missing kept t is)).cells u

  pub same_by_place : place_of kept t ≡ None → (u : List ℕ) → cell_of kept u ≡ cond (bytes_eq u t) None (cell_of kept u)
  same_by_place is u = by (bytes_eq u t) refl
    where
      by : (b : Bool) → bytes_eq u t ≡ b → cell_of kept u ≡ cond b None (cell_of kept u)
      by true q = ap (cell_of kept) (same_bytes u t q) ∙ place_missing kept t is
      by false q = refl

  -- what is kept of the token at that place is what is kept of the token
  pub kept_at : (i : ℕ) → place_of kept t ≡ Some i → (e : Pair) → slice_get kept i ≡ Some e → Some e.1 ≡ cell_of kept t
  kept_at i is e at =
      let found = place_found kept t i is in
      let same : Some e ≡ Some (t, found.0) = sym at ∙ found.1 in
      let cell : e.1 ≡ found.0 = cc in
      ap Some cell ∙ sym (cell_at kept are i t found.0 found.1)
