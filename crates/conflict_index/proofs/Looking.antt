-- Whether an instantiation is among marks that stand in order.
use Rattle.std.proofs.Common.{◌≡◌, ◌≢◌, ℕ, zero, suc, List, [], ◌∷◌, ◌++◌, drop, true, false, ap, sym, subst, inl, inr, ◌||◌}
use Rattle.std.specs.Prelude.{Contains}
use Rattle.ops_base.specs.declared.rules.Inst.{Inst}
use Rattle.ops_base.specs.Instances.{Before, IsInOrder}
use Rattle.ops_base.specs.Refraction.{is_same_inst, is_among}
use Rattle.ops_base.proofs.InOrder.{AllBefore, before_from_all_pairs}
use Rattle.ops_base.proofs.InstOrder.{before_differs, before_trans, before_itself}
use Rattle.ops_base.proofs.Members.{IsMember, member_from_contains, member_right}
use Rattle.ops_base.proofs.RefractionLaws.{is_same_inst-Decides, is_among-Decides}
use Rattle.conflict_index.proofs.Restoring.{decided_false}

pub all_before-drop : {X : Type 0} (R : X → X → Type 0) (n : ℕ) (xs : List X) → AllBefore R xs → AllBefore R (drop n xs)
all_before-drop R zero xs a = a
all_before-drop R (suc n) [] a = tt
all_before-drop R (suc n) (x ∷ xs) a = all_before-drop R n xs a.1

-- an instantiation that differs from the first is among these where it is among the others
pub among_others : (i m : Inst) (marks : List Inst) → m ≢ i → is_among (m ∷ marks) i ≡ is_among marks i
among_others i m marks differ =
    ap (λ b. b || is_among marks i) (decided_false (is_same_inst i m) (i ≡ m) (is_same_inst-Decides i m) (λ e. differ (sym e)))

pub among_first : (i m : Inst) (marks : List Inst) → m ≡ i → is_among (m ∷ marks) i ≡ true
among_first i m marks e =
    ap (λ b. b || is_among marks i) ((is_same_inst-Decides i m).1 (sym e))

-- one before the first is none of them
pub among_none : (i m : Inst) (marks : List Inst) → AllBefore Before (m ∷ marks) → Before i m → is_among (m ∷ marks) i ≡ false
among_none i m marks a b =
    decided_false (is_among (m ∷ marks) i) (Contains (m ∷ marks) i) (is_among-Decides (m ∷ marks) i) (λ c. none (member_from_contains i (m ∷ marks) c))
  where
    none : IsMember i (m ∷ marks) → ⊥
    none (inl e) = before_differs i m b e
    none (inr h) = before_itself i (before_trans i m i b (a.0 i h))

pub from_place : (n : ℕ) (marks : List Inst) → IsInOrder marks → AllBefore Before (drop n marks)
from_place n marks h = all_before-drop Before n marks (before_from_all_pairs Before marks h)

-- what stands in the first part is before what stands in the second
pub append_before : {X : Type 0} (R : X → X → Type 0) (xs ys : List X) → AllBefore R (xs ++ ys) → (x y : X) → IsMember x xs → IsMember y ys → R x y
append_before R [] ys a x y h g = absurd h
append_before {X} R (z ∷ xs) ys a x y (inl e) g =
    let P : X → Type 0 = λ w. R w y in subst P (sym e) (a.0 y (member_right y xs ys g))
append_before R (z ∷ xs) ys a x y (inr h) g = append_before R xs ys a.1 x y h g
