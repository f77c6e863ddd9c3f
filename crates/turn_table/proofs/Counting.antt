-- How many passes are in use.
use Rattle.std.proofs.Common.{◌≡◌, ℕ, ◌+◌, ◌≤◌, Bool, true, List, [], ◌∷◌, ◌++◌, set, refl, sym, ap, ◌∙◌, arith, suc, zero, if◌then◌else◌}
use mathlib.Core.Option.{some-injective, some-ne-none}
use Rattle.turn_table.specs.declared.views.View.{View}
use Rattle.turn_table.specs.Log.{IsAt}
use Rattle.turn_table.specs.Rule.{count_in_use}

module _ {X E : Type 0} where
  abbrev pub one : View X E → ℕ
  one v = if v.in_use then 1 else 0

  pub one-in_use : (v : View X E) → v.in_use ≡ true → one v ≡ 1
  one-in_use v e = ap (λ (b : Bool). if b then 1 else 0) e

  pub count_in_use-set : (vs : List (View X E)) (i : ℕ) (v w : View X E) → IsAt vs i v
      → count_in_use (set vs i w) + one v ≡ count_in_use vs + one w
  count_in_use-set [] i v w at = absurd (some-ne-none v (sym at))
  count_in_use-set (u ∷ us) zero v w at = let h = ap one (some-injective u v at) in omega arith
  count_in_use-set (u ∷ us) (suc i) v w at = let h = count_in_use-set us i v w at in omega arith

  pub count_in_use-append : (vs : List (View X E)) (w : View X E) → count_in_use (vs ++ w ∷ []) ≡ count_in_use vs + one w
  count_in_use-append [] w = omega arith
  count_in_use-append (u ∷ us) w = let h = count_in_use-append us w in omega arith

  -- where a pass in use stays so, there are as many
  pub count_in_use-same : (vs : List (View X E)) (i : ℕ) (v w : View X E) → IsAt vs i v → v.in_use ≡ true → w.in_use ≡ true
      → count_in_use (set vs i w) ≡ count_in_use vs
  count_in_use-same vs i v w at on on' = let h = count_in_use-set vs i v w at in let a = one-in_use v on in let b = one-in_use w on' in
      omega arith

  pub some_in_use : (vs : List (View X E)) (i : ℕ) (v : View X E) → IsAt vs i v → v.in_use ≡ true → 1 ≤ count_in_use vs
  some_in_use [] i v at on = absurd (some-ne-none v (sym at))
  some_in_use (u ∷ us) zero v at on = let h = ap one (some-injective u v at) ∙ one-in_use v on in omega arith
  some_in_use (u ∷ us) (suc i) v at on = let h = some_in_use us i v at on in omega arith

  -- where just one pass is in use, and the first is, it is that one
  pub is_first : (vs : List (View X E)) (i : ℕ) (v w : View X E) → IsAt vs 0 v → v.in_use ≡ true → count_in_use vs ≡ 1 → IsAt vs i w
      → w.in_use ≡ true → i ≡ 0
  is_first [] i v w at on one_left at' on' = absurd (some-ne-none v (sym at))
  is_first (u ∷ us) zero v w at on one_left at' on' = refl
  is_first (u ∷ us) (suc i) v w at on one_left at' on' = let h = ap one (some-injective u v at) ∙ one-in_use v on in
      let g = some_in_use us i w at' on' in absurd (omega arith)
