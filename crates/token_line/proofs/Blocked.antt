-- Left tokens after one right token more or less, which goes with some of them.
use Rattle.std.proofs.Common.{◌≡◌, ◌≢◌, ℕ, zero, suc, ◌+◌, ◌<◌, Bool, true, false, cond, List, [], ◌∷◌, map, length, slice_get, slice_index_or, Some, pos, refl, sym, ap, subst, ◌∙◌, add-one, bytes_eq, IfSome}
use Rattle.std.specs.List.{All}
use Rattle.std.specs.Map.{lookup}
use Rattle.std.specs.Option.{option_map, option_map_or}
use Rattle.std.proofs.lemmas.Option.{slice_get-get_or}
use Rattle.indexmap.specs.IndexMap.{set_value_at}
use Rattle.token_line.specs.declared.tokens.TokenCount.{TokenCount}
use Rattle.token_line.specs.inner.Pairs.{ArePairs, Pairs, cell_of}
use Rattle.token_line.specs.Sums.{blocked, blockers_of, kept_sum}
use Rattle.token_line.proofs.PairLemmas.{Pair, cell_at, no_pair, same_bytes}

module _ (matches : List ℕ → Bool) (plus : Bool) where
  abbrev pub entry_blocked : Pair → Pair
  entry_blocked e = (e.0, blocked (matches e.0) plus e.1)

  -- each of them counted, if it matches
  abbrev pub all_blocked : List Pair → List Pair
  all_blocked es = map entry_blocked es

  -- the same for the first i of them alone
  abbrev pub first_blocked : ℕ → List Pair → List Pair
  first_blocked zero es = es
  first_blocked (suc i) [] = []
  first_blocked (suc i) (e ∷ es) = entry_blocked e ∷ first_blocked i es

  -- ---- the entries, one by one

  same_at : (i : ℕ) (es : List Pair) → slice_get (first_blocked i es) i ≡ slice_get es i
  same_at zero es = refl
  same_at (suc i) [] = refl
  same_at (suc i) (e ∷ es) = same_at i es

  set_next : (i : ℕ) (es : List Pair) (e : Pair) → slice_get es i ≡ Some e → set_value_at (first_blocked i es) i (blocked (matches e.0) plus e.1) ≡ first_blocked (suc i) es
  set_next zero [] e at = cc
  set_next zero (x ∷ xs) e at =
      let same : x ≡ e = cc in
      ap (λ (y : Pair). (x.0, blocked (matches y.0) plus y.1) ∷ xs) (sym same)
  set_next (suc i) [] e at = cc
  set_next (suc i) (x ∷ xs) e at = ap (λ ys. entry_blocked x ∷ ys) (set_next i xs e at)

  pub length-first_blocked : (i : ℕ) (es : List Pair) → length (first_blocked i es) ≡ length es
  length-first_blocked zero es = refl
  length-first_blocked (suc i) [] = refl
  length-first_blocked (suc i) (e ∷ es) = ap suc (length-first_blocked i es)

  pub first_all : (es : List Pair) → first_blocked (length es) es ≡ all_blocked es
  first_all [] = refl
  first_all (e ∷ es) = ap (λ ys. entry_blocked e ∷ ys) (first_all es)

  -- the entry at i is still as it was
  pub entry_there : (i : ℕ) (es now : List Pair) → now ≡ first_blocked i es → i < length es → slice_get now i ≡ Some (slice_index_or es i no_pair)
  entry_there i es now is within = ap (λ xs. slice_get xs i) is ∙ (same_at i es ∙ slice_get-get_or es i no_pair within)

  pub next_blocked : (i : ℕ) (es now new : List Pair) → now ≡ first_blocked i es → i < length es
      → IfSome (slice_get now i) (λ e. new ≡ set_value_at now i (blocked (matches e.0) plus e.1)) → new ≡ first_blocked (i + 1) es
  next_blocked i es now new is within set =
      let there = entry_there i es now is within in
      let e = slice_index_or es i no_pair in
      let here : new ≡ set_value_at now i (blocked (matches e.0) plus e.1) = subst (λ o. IfSome o (λ (x : Pair). new ≡ set_value_at now i (blocked (matches x.0) plus x.1))) there set in
      here ∙ (ap (λ xs. set_value_at xs i (blocked (matches e.0) plus e.1)) is ∙ (set_next i es e (slice_get-get_or es i no_pair within) ∙ ap (λ k. first_blocked k es) (sym (add-one i))))

  -- what holds of each entry holds of the one at i
  pub all_there : (P : Pair → Type 0) (i : ℕ) (es now : List Pair) → now ≡ first_blocked i es → i < length es → All P es → IfSome (slice_get now i) P
  all_there P i es now is within all = subst (λ o. IfSome o P) (sym (entry_there i es now is within)) (all i no_pair within)

  -- ---- what a look-up finds

  lookup_blocked : (t : List ℕ) (es : Pairs) → cell_of (all_blocked es) t ≡ option_map (blocked (matches t) plus) (cell_of es t)
  lookup_blocked t [] = refl
  lookup_blocked t (e ∷ es) = by (lookup_blocked t es) (bytes_eq t e.0) refl
    where
      by : cell_of (all_blocked es) t ≡ option_map (blocked (matches t) plus) (cell_of es t) → (b : Bool) → bytes_eq t e.0 ≡ b
          → cond b (Some (blocked (matches e.0) plus e.1)) (cell_of (all_blocked es) t) ≡ option_map (blocked (matches t) plus) (cond b (Some e.1) (cell_of es t))
      by rest true q = ap (λ z. Some (blocked (matches z) plus e.1)) (sym (same_bytes t e.0 q))
      by rest false q = rest

  module _ (old new : Pairs) (is : new ≡ all_blocked old) where
    pub found : (t : List ℕ) → cell_of new t ≡ option_map (blocked (matches t) plus) (cell_of old t)
    found t = ap (lookup (bytes_eq t)) is ∙ lookup_blocked t old

-- ---- room

-- where each left token that is kept has room, each pair has
pub room_at_each : (bound : ℕ) (kept : Pairs) → ArePairs kept → ((t : List ℕ) → kept_sum kept t ≢ pos 0 → blockers_of kept t < bound) → All (λ e. e.1.blockers < bound) kept
room_at_each bound kept are room i d within =
    let e = slice_index_or kept i d in
    let at : cell_of kept e.0 ≡ Some e.1 = cell_at kept are i e.0 e.1 (slice_get-get_or kept i d within) in
    let sum : kept_sum kept e.0 ≡ e.1.sum = ap (λ o. option_map_or (λ (c : TokenCount). c.sum) o (pos 0)) at in
    let number : blockers_of kept e.0 ≡ e.1.blockers = ap (λ o. option_map_or (λ (c : TokenCount). c.blockers) o 0) at in
    subst (λ k. k < bound) number (room e.0 (λ z. are.some e.0 e.1 at (sym sum ∙ z)))
