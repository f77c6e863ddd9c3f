-- What of one list in order is not in another, found by going over both side by side.
use Rattle.std.proofs.Common.{◌≡◌, zero, suc, ◌+◌, ◌<◌, ℕ, List, [], ◌∷◌, length, drop, get_or, Bool, true, false, cond, not, ◌||◌, refl, ap, sym, ◌∙◌, subst, inl, inr, ◌⊎◌, drop-cons, add-one}
use Rattle.std.specs.Prelude.{filter, Contains, ◌↔◌}
use Rattle.std.specs.Bool.{Decides}
use Rattle.std.proofs.lemmas.Bool.Decides.{Decides-not}
use Rattle.ops_base.specs.declared.rules.Inst.{Inst}
use Rattle.ops_base.specs.Instances.{Before, IsInOrder}
use Rattle.ops_base.specs.Refraction.{is_same_inst, is_among}
use Rattle.ops_base.proofs.Members.{IsMember, member_from_contains}
use Rattle.ops_base.proofs.InOrder.{AllBefore, all_pairs_from_before, before_from_all_pairs}
use Rattle.ops_base.proofs.InstOrder.{before_trans, before_itself}
use Rattle.ops_base.proofs.Filtered.{Contains-filter, all_before-filter}
use Rattle.ops_base.proofs.RefractionLaws.{is_same_inst-Decides, is_among-Decides}
use Rattle.work_store.specs.Settling.{IsSettled}

-- those that are not among the others
abbrev pub without : List Inst → List Inst → List Inst
without insts others = filter (λ i. not (is_among others i)) insts

untrue : {P : Type 0} (b : Bool) → Decides b P → (P → ⊥) → b ≡ false
untrue true d refuted = absurd (refuted (d.0 refl))
untrue false d refuted = refl

-- one that stands before all of them is not among them
not_among : (i : Inst) (insts : List Inst) → ((j : Inst) → IsMember j insts → Before i j) → is_among insts i ≡ false
not_among i insts below =
    untrue (is_among insts i) (is_among-Decides insts i) (λ m. before_itself i (below i (member_from_contains i insts m)))

-- one more that is not in the list changes nothing
one_more : (insts others : List Inst) (j : Inst) → (IsMember j insts → ⊥) → without insts (j ∷ others) ≡ without insts others
one_more [] others j apart = refl
one_more (i ∷ insts) others j apart =
    ap (λ b. cond (not (b || is_among others i)) (i ∷ without insts (j ∷ others)) (without insts (j ∷ others)))
    (untrue (is_same_inst i j) (is_same_inst-Decides i j) (λ e. apart (inl (sym e))))
    ∙ ap (λ xs. cond (not (is_among others i)) (i ∷ xs) xs) (one_more insts others j (λ m. apart (inr m)))

-- the first stands before all of the other list
below_all : (i j : Inst) (js : List Inst) → Before i j → AllBefore Before (j ∷ js) → (k : Inst) → IsMember k (j ∷ js) → Before i k
below_all i j js b a k (inl e) = let P : Inst → Type 0 = Before i in subst P (sym e) b
below_all i j js b a k (inr m) = before_trans i j k b (a.0 k m)

-- the first of two stands before the other: it is only in the first list
pub first_only : (i j : Inst) (is js : List Inst) → Before i j → AllBefore Before (j ∷ js) → without (i ∷ is) (j ∷ js) ≡ i ∷ without is (j ∷ js)
first_only i j is js b a =
    ap (λ t. cond (not t) (i ∷ without is (j ∷ js)) (without is (j ∷ js))) (not_among i (j ∷ js) (below_all i j js b a))

pub first_not_in_other : (i j : Inst) (is js : List Inst) → Before i j → AllBefore Before (j ∷ js) → without (j ∷ js) (i ∷ is) ≡ without (j ∷ js) is
first_not_in_other i j is js b a = one_more (j ∷ js) is i (λ m. before_itself i (below_all i j js b a i m))

-- the two are the same: it is in neither difference
pub first_in_both : (i j : Inst) (is js : List Inst) → i ≡ j → AllBefore Before (i ∷ is) → without (i ∷ is) (j ∷ js) ≡ without is js
first_in_both i j is js e a =
    let P : Inst → Type 0 = λ w. IsMember w is in
    ap (λ t. cond (not (t || is_among js i)) (i ∷ without is (j ∷ js)) (without is (j ∷ js))) ((is_same_inst-Decides i j).1 e)
    ∙ one_more is js j (λ m. before_itself i (a.0 i (subst P (sym e) m)))

pub without_none : (insts : List Inst) → without insts [] ≡ insts
without_none [] = refl
without_none (i ∷ insts) = ap (λ xs. i ∷ xs) (without_none insts)

-- ---- the steps

-- the item at a place is the first of those that are left
pub first_left : (insts : List Inst) (at : ℕ) (i : Inst) → i ≡ get_or insts at i → at < length insts → drop at insts ≡ i ∷ drop (at + 1) insts
first_left insts at i is within =
    rw add-one (drop-cons insts at i within) ∙ ap (λ j. j ∷ drop (at + 1) insts) (sym is)

pub drop_in_order : (n : ℕ) (insts : List Inst) → AllBefore Before insts → AllBefore Before (drop n insts)
drop_in_order zero insts a = a
drop_in_order (suc n) [] a = tt
drop_in_order (suc n) (i ∷ insts) a = drop_in_order n insts a.1

pub left_in_order : (n : ℕ) (insts : List Inst) → IsInOrder insts → AllBefore Before (drop n insts)
left_in_order n insts a = drop_in_order n insts (before_from_all_pairs Before insts a)

-- the first of the one list stands before that of the other
pub only_in_one : (is js rest behind : List Inst) (i j : Inst) → is ≡ i ∷ rest → js ≡ j ∷ behind → AllBefore Before js → Before i j
    → (without is js ≡ i ∷ without rest js) × (without js is ≡ without js rest)
only_in_one is js rest behind i j e f a b =
    let P : List Inst → Type 0 = AllBefore Before in
    let order = subst P f a in (
      ap (λ xs. without xs js) e ∙ ap (without (i ∷ rest)) f ∙ first_only i j rest behind b order ∙ ap (λ xs. i ∷ without rest xs) (sym f),
      ap (without js) e ∙ ap (λ xs. without xs (i ∷ rest)) f ∙ first_not_in_other i j rest behind b order ∙ ap (λ xs. without xs rest) (sym f),
    )

-- the two lists begin with the same
pub in_both : (is js rest behind : List Inst) (i j : Inst) → is ≡ i ∷ rest → js ≡ j ∷ behind → AllBefore Before is → i ≡ j → without is js ≡ without rest behind
in_both is js rest behind i j e f a same =
    let P : List Inst → Type 0 = AllBefore Before in
    ap (λ xs. without xs js) e ∙ ap (without (i ∷ rest)) f ∙ first_in_both i j rest behind same (subst P e a)

-- one list is at its end
pub all_of_the_other : (is js : List Inst) → (is ≡ []) ⊎ (js ≡ []) → (without is js ≡ is) × (without js is ≡ js)
all_of_the_other is js (inl e) = (ap (λ xs. without xs js) e ∙ sym e, ap (without js) e ∙ without_none js)
all_of_the_other is js (inr e) = (ap (without is) e ∙ without_none is, ap (λ xs. without xs is) e ∙ sym e)

-- ---- in order

without_in_order : (insts others : List Inst) → IsInOrder insts → IsInOrder (without insts others)
without_in_order insts others a =
    all_pairs_from_before Before (without insts others)
    (all_before-filter Before (λ i. not (is_among others i)) insts (before_from_all_pairs Before insts a))

in_without : (insts others : List Inst) (i : Inst) → Contains (without insts others) i ↔ (Contains insts i × ¬ Contains others i)
in_without insts others i =
    Contains-filter (λ j. not (is_among others j)) (λ j. ¬ Contains others j) (λ j. Decides-not (is_among others j) (is_among-Decides others j)) i insts

-- what each has without the other is how the set changed
pub is_settled : (before now : List Inst) → IsInOrder before → IsInOrder now → IsSettled before now (without before now) (without now before)
is_settled before now a b = record {
  gone_is = in_without before now;
  come_is = in_without now before;
  gone_in_order = without_in_order before now a;
  come_in_order = without_in_order now before b;
}
