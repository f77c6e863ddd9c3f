-- Tags as tokens: what is done among the tags is done among the tokens.
use Rattle.std.proofs.Common.{◌≡◌, ℕ, zero, suc, ◌+◌, ◌-◌, cond, List, [], ◌∷◌, ◌++◌, length, take, drop, position, slice_get, slice_index_or, slice_set, Option, Some, None, IfSome, refl, sym, ap, ap₂, subst, ◌∙◌, add-one, bytes_eq, nat_eq}
use Rattle.std.proofs.Math.Bool.{and-true}
use Rattle.std.proofs.Math.ListN.{get_or-map as get_or-map_default}
use Rattle.std.proofs.Math.Path.{fun_ext}
use Rattle.std.proofs.Math.Seq.{drop-cons, take-suc}
use Rattle.std.proofs.lemmas.Cmp.{nat_list_eq_equiv}
use Rattle.std.proofs.lemmas.List.{length-map, map-set, take-append-drop, take-map}
use Rattle.std.proofs.lemmas.Option.{get_or_from_slice_get, slice_get-map, slice_get_within}
use Rattle.std.specs.List.{IsDistinct, swap_remove}
use Rattle.std.specs.Map.{keys_of, lookup}
use Rattle.std.specs.Option.{option_map}
use Rattle.indexmap.proofs.MapLemmas.{absent_before}
use Rattle.indexmap.specs.IndexMap.{set_value_at}
use Rattle.token_line.specs.declared.tokens.TokenCount.{TokenCount}
use Rattle.token_line.specs.declared.token_room.TokenRoom.{TokenRoom}
use Rattle.token_line.specs.declared.token_room.TokenRoom.TheVariants.{Elements}
use Rattle.token_line.specs.inner.Pairs.{Pairs, cell_of, place_of}
use Rattle.token_line.specs.inner.TokenRooms.{as_tokens, only_tag, tokens_in}
use Rattle.token_line.proofs.PairLemmas.{Pair, no_pair, place_found}
use Rattle.token_line.proofs.SmallMapLemmas.{position-map}

abbrev pub Tag : Type 0
Tag = ℕ × TokenCount

abbrev as_token : Tag → Pair
as_token e = (e.0 ∷ [], e.1)

-- ---- one is written, or taken out

pub set_tags : (tags : List Tag) (i : ℕ) (c : TokenCount) → as_tokens (set_value_at tags i c) ≡ set_value_at (as_tokens tags) i c
set_tags [] i c = refl
set_tags (e ∷ es) zero c = refl
set_tags (e ∷ es) (suc i) c = ap (λ l. as_token e ∷ l) (set_tags es i c)

swap_tags : (tags : List Tag) (i : ℕ) (e : Tag) → as_tokens (swap_remove tags i e) ≡ swap_remove (as_tokens tags) i (as_token e)
swap_tags tags i e =
    let last = slice_index_or tags (length tags - 1) e in
    let moved : as_tokens (slice_set tags i last) ≡ slice_set (as_tokens tags) i (as_token last) = map-set as_token tags i last in
    let same : length (as_tokens tags) ≡ length tags = length-map tags as_token in
    let own : slice_index_or (as_tokens tags) (length tags - 1) (as_token e) ≡ as_token last = get_or-map_default as_token tags (length tags - 1) e in
    sym (take-map as_token (length tags - 1) (slice_set tags i last))
    ∙ (ap (take (length tags - 1)) (moved ∙ ap (slice_set (as_tokens tags) i) (sym own))
    ∙ ap (λ n. take (n - 1) (slice_set (as_tokens tags) i (slice_index_or (as_tokens tags) (n - 1) (as_token e)))) (sym same))

pub removed_tags : (tags new : List Tag) (i : ℕ) → IfSome (slice_get tags i) (λ e. new ≡ swap_remove tags i e)
    → IfSome (slice_get (as_tokens tags) i) (λ e. as_tokens new ≡ swap_remove (as_tokens tags) i e)
removed_tags tags new i gone = subst (λ o. IfSome o (λ (e : Pair). as_tokens new ≡ swap_remove (as_tokens tags) i e)) (sym (slice_get-map as_token tags i)) (by (slice_get tags i) gone)
  where
    by : (o : Option Tag) → IfSome o (λ e. new ≡ swap_remove tags i e) → IfSome (option_map as_token o) (λ (e : Pair). as_tokens new ≡ swap_remove (as_tokens tags) i e)
    by None is = tt
    by (Some e) is = ap as_tokens is ∙ swap_tags tags i e

-- ---- one is looked for

same_test : (t u : ℕ) → bytes_eq (t ∷ []) (u ∷ []) ≡ nat_eq t u
same_test t u = and-true (nat_eq t u)

pub lookup_tags : (tags : List Tag) (t : ℕ) → cell_of (as_tokens tags) (t ∷ []) ≡ lookup (nat_eq t) tags
lookup_tags [] t = refl
lookup_tags (e ∷ es) t = ap₂ (λ b o. cond b (Some e.1) o) (same_test t e.0) (lookup_tags es t)

pub place_tags : (tags : List Tag) (t : ℕ) → place_of (as_tokens tags) (t ∷ []) ≡ position (nat_eq t) (keys_of tags)
place_tags tags t =
    position-map (bytes_eq (t ∷ [])) (λ (e : Pair). e.0) (as_tokens tags)
    ∙ (position-map (λ (e : Pair). bytes_eq (t ∷ []) e.0) as_token tags
    ∙ (ap (λ p. position p tags) (fun_ext (λ (e : Tag). same_test t e.0))
    ∙ sym (position-map (nat_eq t) (λ (e : Tag). e.0) tags)))

only_is : (token : List ℕ) (t : ℕ) → only_tag token ≡ Some t → token ≡ t ∷ []
only_is [] t is = absurd (cc)
only_is (u ∷ []) t is = let same : u ≡ t = cc in ap (λ x. x ∷ []) same
only_is (u ∷ v ∷ vs) t is = absurd (cc)

pub found_by_tag : (room : TokenRoom) (tags : List Tag) (token : List ℕ) (t : ℕ) (r : Option ℕ) → room ≡ Elements tags → only_tag token ≡ Some t
    → r ≡ position (nat_eq t) (keys_of tags) → r ≡ place_of (tokens_in room) token
found_by_tag room tags token t r here own is =
    is ∙ (sym (place_tags tags t) ∙ ap₂ place_of (ap tokens_in (sym here)) (sym (only_is token t own)))

no_tag : (o : Option Tag) (token : List ℕ) (c : TokenCount) → only_tag token ≡ None → option_map as_token o ≡ Some (token, c) → ⊥
no_tag None token c none at = absurd (cc)
no_tag (Some e) token c none at =
    let whole : as_token e ≡ (token, c) = cc in
    let same : e.0 ∷ [] ≡ token = ap (λ (p : Pair). p.0) whole in
    let own : Some e.0 ≡ only_tag token = ap only_tag same in
    let not : Some e.0 ≡ None = own ∙ none in
    absurd (cc)

pub longer_missing : (room : TokenRoom) (tags : List Tag) (token : List ℕ) → room ≡ Elements tags → only_tag token ≡ None → None ≡ place_of (tokens_in room) token
longer_missing room tags token here none = by (place_of (as_tokens tags) token) refl ∙ ap (λ r. place_of (tokens_in r) token) (sym here)
  where
    by : (o : Option ℕ) → place_of (as_tokens tags) token ≡ o → None ≡ place_of (as_tokens tags) token
    by None is = sym is
    by (Some i) is =
        let found = place_found (as_tokens tags) token i is in
        absurd (no_tag (slice_get tags i) token found.0 none (sym (slice_get-map as_token tags i) ∙ found.1))

-- ---- they are copied one after another

module _ (kept : Pairs) (i : ℕ) (token : List ℕ) (c : TokenCount) (at : slice_get kept i ≡ Some (token, c)) where
  this_is : slice_index_or kept i no_pair ≡ (token, c)
  this_is = get_or_from_slice_get kept i (token, c) no_pair at

  pub one_more : take (i + 1) kept ≡ take i kept ++ (token, c) ∷ []
  one_more =
      ap (λ n. take n kept) (add-one i)
      ∙ (take-suc kept i no_pair (slice_get_within kept i (token, c) at) ∙ ap (λ (e : Pair). take i kept ++ e ∷ []) this_is)

  pub not_before : IsDistinct bytes_eq (keys_of kept) → cell_of (take i kept) token ≡ None
  not_before apart =
      let next : drop i kept ≡ (token, c) ∷ drop (suc i) kept =
      drop-cons kept i no_pair (slice_get_within kept i (token, c) at) ∙ ap (λ (e : Pair). e ∷ drop (suc i) kept) this_is in
      let whole : kept ≡ take i kept ++ (token, c) ∷ drop (suc i) kept = sym (take-append-drop i kept) ∙ ap (λ l. take i kept ++ l) next in
      absent_before nat_list_eq_equiv (take i kept) (drop (suc i) kept) (token, c) (subst (λ l. IsDistinct bytes_eq (keys_of l)) whole apart)
