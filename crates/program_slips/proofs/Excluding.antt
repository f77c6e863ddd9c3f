-- An element that meets a condition passes its tests, and no value passes two tests that exclude each other.
use Rattle.std.proofs.Common.{◌≡◌, List, [], ◌∷◌, Bool, true, false, Option, Some, None, refl, sym, ap, cond, subst, ◌∙◌, ◌⊎◌, inl, inr, arith}
use Rattle.std.specs.Prelude.{not, ◌==◌, ◌&&◌, ◌||◌, ℤ, int_lt, int_le, option_and_then}
use Rattle.std.specs.List.{list_any, AllByRecursion}
use Rattle.std.proofs.lemmas.Int.{ints}
use Rattle.std.proofs.lemmas.Bool.{eqb-true}
use Rattle.std.proofs.lemmas.Bool.Decides.{Decides-int_eq}
use Rattle.ops_base.specs.declared.values.Value.{Value}
use Rattle.ops_base.specs.declared.values.Value.TheVariants.{Symbol, Whole}
use Rattle.ops_base.specs.declared.values.Pred.{Pred}
use Rattle.ops_base.specs.declared.values.Pred.TheVariants.{Eq, Ne, Lt, Le, Gt, Ge, SameKind}
use Rattle.ops_base.specs.declared.conditions.Operand.{Operand}
use Rattle.ops_base.specs.declared.conditions.Operand.TheVariants.{Constant, OneOf, Variable}
use Rattle.ops_base.specs.declared.conditions.Test.{Test}
use Rattle.ops_base.specs.declared.elements.Element.{Element}
use Rattle.ops_base.specs.declared.matching.Binding.{Binding}
use Rattle.ops_base.specs.Values.{are_same, are_ordered, are_of_one_kind, holds_of}
use Rattle.ops_base.specs.WorkingMemory.{field_of}
use Rattle.ops_base.specs.Matching.{operand_holds, bound_to, after_test, after_tests, match_of}
use Rattle.program_slips.specs.Unmet.{passes_by, is_whole, is_order, are_crossed, are_crossed_values, are_of_two_kinds, exclude_constants, exclude_by, exclude, NoElementMeets}

both : (a b : Bool) → (a && b) ≡ true → (a ≡ true) × (b ≡ true)
both true b e = (refl, e)
both false b e = absurd (cc)

either : (a b : Bool) → (a || b) ≡ true → (a ≡ true) ⊎ (b ≡ true)
either true b e = inl refl
either false b e = inr e

left_holds : (a b : Bool) → a ≡ true → (a || b) ≡ true
left_holds a b e = ap (λ x. x || b) e

right_holds : (a b : Bool) → b ≡ true → (a || b) ≡ true
right_holds true b e = refl
right_holds false b e = e

not_both : (b : Bool) → b ≡ true → not b ≡ true → ⊥
not_both true e f = cc
not_both false e f = cc

-- ---- values

same_values : (a b : Value) → are_same a b ≡ true → a ≡ b
same_values (Symbol a) (Symbol b) e = ap (λ n. Symbol (record { 0 = n })) (eqb-true a.0 b.0 e)
same_values (Symbol a) (Whole y) e = absurd (cc)
same_values (Whole x) (Symbol b) e = absurd (cc)
same_values (Whole x) (Whole y) e = ap Whole ((Decides-int_eq x y).0 e)

ordered_are_whole : (order : ℤ → ℤ → Bool) (v w : Value) → are_ordered order v w ≡ true → (is_whole v ≡ true) × (is_whole w ≡ true)
ordered_are_whole order (Whole x) (Whole y) h = (refl, refl)
ordered_are_whole order (Whole x) (Symbol b) h = absurd (cc)
ordered_are_whole order (Symbol a) w h = absurd (cc)

orders_are_whole : (p : Pred) (v w : Value) → is_order p ≡ true → holds_of p v w ≡ true → (is_whole v ≡ true) × (is_whole w ≡ true)
orders_are_whole Eq v w e h = absurd (cc)
orders_are_whole Ne v w e h = absurd (cc)
orders_are_whole Lt v w e h = ordered_are_whole int_lt v w h
orders_are_whole Le v w e h = ordered_are_whole int_le v w h
orders_are_whole Gt v w e h = let turned = ordered_are_whole int_lt w v h in (turned.1, turned.0)
orders_are_whole Ge v w e h = let turned = ordered_are_whole int_le w v h in (turned.1, turned.0)
orders_are_whole SameKind v w e h = absurd (cc)

of_one_kind : (v w : Value) → are_of_one_kind v w ≡ true → is_whole v ≡ is_whole w
of_one_kind (Symbol a) (Symbol b) h = refl
of_one_kind (Symbol a) (Whole y) h = absurd (cc)
of_one_kind (Whole x) (Symbol b) h = absurd (cc)
of_one_kind (Whole x) (Whole y) h = refl

-- ---- numbers

above : (q : Pred) (n m : ℤ) (v : Value) → are_crossed Gt n q m ≡ true → are_ordered int_lt (Whole n) v ≡ true → holds_of q v (Whole m) ≡ true → ⊥
above Lt n m (Whole x) e h k = omega (arith, ints)
above Le n m (Whole x) e h k = omega (arith, ints)
above Lt n m (Symbol s) e h k = cc
above Le n m (Symbol s) e h k = cc
above Eq n m v e h k = cc
above Ne n m v e h k = cc
above Gt n m v e h k = cc
above Ge n m v e h k = cc
above SameKind n m v e h k = cc

from : (q : Pred) (n m : ℤ) (v : Value) → are_crossed Ge n q m ≡ true → are_ordered int_le (Whole n) v ≡ true → holds_of q v (Whole m) ≡ true → ⊥
from Lt n m (Whole x) e h k = omega (arith, ints)
from Le n m (Whole x) e h k = omega (arith, ints)
from Lt n m (Symbol s) e h k = cc
from Le n m (Symbol s) e h k = cc
from Eq n m v e h k = cc
from Ne n m v e h k = cc
from Gt n m v e h k = cc
from Ge n m v e h k = cc
from SameKind n m v e h k = cc

numbers_cross : (p q : Pred) (n m : ℤ) (v : Value) → are_crossed p n q m ≡ true → holds_of p v (Whole n) ≡ true → holds_of q v (Whole m) ≡ true → ⊥
numbers_cross Gt q n m v e h k = above q n m v e h k
numbers_cross Ge q n m v e h k = from q n m v e h k
numbers_cross Eq q n m v e h k = cc
numbers_cross Ne q n m v e h k = cc
numbers_cross Lt q n m v e h k = cc
numbers_cross Le q n m v e h k = cc
numbers_cross SameKind q n m v e h k = cc

values_cross : (p q : Pred) (a b v : Value) → are_crossed_values p a q b ≡ true → holds_of p v a ≡ true → holds_of q v b ≡ true → ⊥
values_cross p q (Whole n) (Whole m) v e h k = numbers_cross p q n m v e h k
values_cross p q (Whole n) (Symbol t) v e h k = cc
values_cross p q (Symbol s) b v e h k = cc

-- ---- kinds

only_same_kind : (f : Pred → Bool) → f Eq ≡ false → f Ne ≡ false → f Lt ≡ false → f Le ≡ false → f Gt ≡ false → f Ge ≡ false → (q : Pred) → f q ≡ true → q ≡ SameKind
only_same_kind f a b c d e g Eq h = absurd (cc)
only_same_kind f a b c d e g Ne h = absurd (cc)
only_same_kind f a b c d e g Lt h = absurd (cc)
only_same_kind f a b c d e g Le h = absurd (cc)
only_same_kind f a b c d e g Gt h = absurd (cc)
only_same_kind f a b c d e g Ge h = absurd (cc)
only_same_kind f a b c d e g SameKind h = refl

second_is : (p q : Pred) (a b : Value) → are_of_two_kinds p a q b ≡ true → q ≡ SameKind
second_is Eq q a b e = only_same_kind (λ r. are_of_two_kinds Eq a r b) refl refl refl refl refl refl q e
second_is Ne q a b e = only_same_kind (λ r. are_of_two_kinds Ne a r b) refl refl refl refl refl refl q e
second_is Lt q a b e = only_same_kind (λ r. are_of_two_kinds Lt a r b) refl refl refl refl refl refl q e
second_is Le q a b e = only_same_kind (λ r. are_of_two_kinds Le a r b) refl refl refl refl refl refl q e
second_is Gt q a b e = only_same_kind (λ r. are_of_two_kinds Gt a r b) refl refl refl refl refl refl q e
second_is Ge q a b e = only_same_kind (λ r. are_of_two_kinds Ge a r b) refl refl refl refl refl refl q e
second_is SameKind q a b e = only_same_kind (λ r. are_of_two_kinds SameKind a r b) refl refl refl refl refl refl q e

-- a value that passes the first test is a number, and the constant of the second is not one
first_is_whole : (p : Pred) (a b v : Value) → are_of_two_kinds p a SameKind b ≡ true → holds_of p v a ≡ true → (is_whole v ≡ true) × (not (is_whole b) ≡ true)
first_is_whole Eq a b v e h = absurd (cc)
first_is_whole Ne a b v e h = absurd (cc)
first_is_whole Lt a b v e h = ((orders_are_whole Lt v a refl h).0, e)
first_is_whole Le a b v e h = ((orders_are_whole Le v a refl h).0, e)
first_is_whole Gt a b v e h = ((orders_are_whole Gt v a refl h).0, e)
first_is_whole Ge a b v e h = ((orders_are_whole Ge v a refl h).0, e)
first_is_whole SameKind a b v e h = let two = both (is_whole a) (not (is_whole b)) e in (of_one_kind v a h ∙ two.0, two.1)

kinds_differ : (p q : Pred) (a b v : Value) → are_of_two_kinds p a q b ≡ true → holds_of p v a ≡ true → holds_of q v b ≡ true → ⊥
kinds_differ p q a b v e h k =
    let is = second_is p q a b e in
    let two = first_is_whole p a b v (subst (λ r. are_of_two_kinds p a r b ≡ true) is e) h in
    let same = of_one_kind v b (subst (λ r. holds_of r v b ≡ true) is k) in
    not_both (is_whole b) (sym same ∙ two.0) two.1

-- ---- two tests

module _ (p q : Pred) (a b v : Value) (h : holds_of p v a ≡ true) (k : holds_of q v b ≡ true) where
  others_exclude : ((is_order p && not (is_whole a)) || are_crossed_values p a q b || are_of_two_kinds p a q b) ≡ true → ⊥
  others_exclude e = elim (either ((is_order p && not (is_whole a)) || are_crossed_values p a q b) (are_of_two_kinds p a q b) e) [
    | inl some ↦ elim (either (is_order p && not (is_whole a)) (are_crossed_values p a q b) some) [
      | inl order ↦ let two = both (is_order p) (not (is_whole a)) order in not_both (is_whole a) (orders_are_whole p v a two.0 h).1 two.1
      | inr crossed ↦ values_cross p q a b v crossed h k
    ]
    | inr kinds ↦ kinds_differ p q a b v kinds h k
  ]

constants_exclude : (p q : Pred) (a b v : Value) → exclude_constants p a q b ≡ true → holds_of p v a ≡ true → holds_of q v b ≡ true → ⊥
constants_exclude Eq q a b v e h k = not_both (holds_of q a b) (subst (λ w. holds_of q w b ≡ true) (same_values v a h) k) e
constants_exclude Ne q a b v e h k = others_exclude Ne q a b v h k e
constants_exclude Lt q a b v e h k = others_exclude Lt q a b v h k e
constants_exclude Le q a b v e h k = others_exclude Le q a b v h k e
constants_exclude Gt q a b v e h k = others_exclude Gt q a b v h k e
constants_exclude Ge q a b v e h k = others_exclude Ge q a b v h k e
constants_exclude SameKind q a b v e h k = others_exclude SameKind q a b v h k e

-- if a choice passes, one of its values does
one_passes : (f : Value → Bool) (v : Value) (cs : List Value) → list_any (λ c. are_same v c) cs ≡ true → f v ≡ true → list_any f cs ≡ true
one_passes f v [] e h = absurd (cc)
one_passes f v (c ∷ cs) e h = elim (either (are_same v c) (list_any (λ c. are_same v c) cs) e) [
  | inl is ↦ left_holds (f c) (list_any f cs) (subst (λ w. f w ≡ true) (same_values v c is) h)
  | inr later ↦ right_holds (f c) (list_any f cs) (one_passes f v cs later h)
]

no_value_passes : (p q : Pred) (o r : Operand) (v : Value) → exclude_by p o q r ≡ true → passes_by p o v ≡ true → passes_by q r v ≡ true → ⊥
no_value_passes p q (Constant a) (Constant b) v e h k = constants_exclude p q a b v e h k
no_value_passes p q (Constant a) (OneOf bs) v e h k = cc
no_value_passes p q (Constant a) (Variable x) v e h k = cc
no_value_passes p q (OneOf cs) r v e h k = not_both (list_any (passes_by q r) cs) (one_passes (passes_by q r) v cs h k) e
no_value_passes p q (Variable x) r v e h k = cc

-- ---- elements

-- the value of its attribute passes the test, if that does not bind
abbrev Passes : Element → Test → Type 0
Passes e t = not t.binds ≡ true → passes_by t.pred t.operand (field_of e t.field) ≡ true

excluded : (e : Element) (t u : Test) → exclude t u ≡ true → Passes e t → Passes e u → ⊥
excluded e t u is one other =
    let last = both (not t.binds && not u.binds && (t.field == u.field)) (exclude_by t.pred t.operand u.pred u.operand) is in
    let fields = both (not t.binds && not u.binds) (t.field == u.field) last.0 in
    let free = both (not t.binds) (not u.binds) fields.0 in
    no_value_passes t.pred u.pred t.operand u.operand (field_of e t.field) last.1 (one free.0)
    (subst (λ f. passes_by u.pred u.operand (field_of e f) ≡ true) (sym (eqb-true t.field u.field fields.1)) (other free.1))

none_excludes : (e : Element) (t : Test) (us : List Test) → Passes e t → AllByRecursion (Passes e) us → list_any (exclude t) us ≡ true → ⊥
none_excludes e t [] one all is = cc
none_excludes e t (u ∷ us) one all is = elim (either (exclude t u) (list_any (exclude t) us) is) [
  | inl here ↦ excluded e t u here one all.0
  | inr later ↦ none_excludes e t us one all.1 later
]

none_excluded : (e : Element) (ts us : List Test) → AllByRecursion (Passes e) ts → AllByRecursion (Passes e) us → list_any (λ t. list_any (exclude t) us) ts ≡ true → ⊥
none_excluded e [] us some all is = cc
none_excluded e (t ∷ ts) us some all is = elim (either (list_any (exclude t) us) (list_any (λ t. list_any (exclude t) us) ts) is) [
  | inl here ↦ none_excludes e t us some.0 all here
  | inr later ↦ none_excluded e ts us some.1 all later
]

operand_passes : (p : Pred) (v : Value) (o : Operand) (bindings : List Binding) → operand_holds p v o bindings ≡ true → passes_by p o v ≡ true
operand_passes p v (Constant c) bindings h = h
operand_passes p v (OneOf cs) bindings h = h
operand_passes p v (Variable x) bindings h = refl

test_passes : (t : Test) (e : Element) (bindings new : List Binding) → after_test t e bindings ≡ Some new → Passes e t
test_passes t e bindings new made free = by t.binds (operand_holds t.pred (field_of e t.field) t.operand bindings) refl made free
  where
    by : (b h : Bool) → operand_holds t.pred (field_of e t.field) t.operand bindings ≡ h
        → cond b (Some (bound_to bindings t.operand (field_of e t.field))) (cond h (Some bindings) None) ≡ Some new → not b ≡ true
        → passes_by t.pred t.operand (field_of e t.field) ≡ true
    by true h holds is free = absurd (cc)
    by false true holds is free = operand_passes t.pred (field_of e t.field) t.operand bindings holds
    by false false holds is free = absurd (cc)

all_pass : (ts : List Test) (e : Element) (bindings new : List Binding) → after_tests ts e bindings ≡ Some new → AllByRecursion (Passes e) ts
all_pass [] e bindings new is = tt
all_pass (t ∷ ts) e bindings new is = by (after_test t e bindings) refl is (λ b more. all_pass ts e b new more)
  where
    by : (o : Option (List Binding)) → after_test t e bindings ≡ o → option_and_then (λ b. after_tests ts e b) o ≡ Some new
        → ((b : List Binding) → after_tests ts e b ≡ Some new → AllByRecursion (Passes e) ts) → AllByRecursion (Passes e) (t ∷ ts)
    by None made more later = absurd (cc)
    by (Some b) made more later = (test_passes t e bindings b made, later b more)

pub none_meets : NoElementMeets
none_meets c e bindings unmet = by (match_of c e bindings) refl
  where
    met : (b : Bool) (new : List Binding) → cond b (after_tests c.tests e bindings) None ≡ Some new → after_tests c.tests e bindings ≡ Some new
    met true new is = is
    met false new is = absurd (cc)

    by : (o : Option (List Binding)) → match_of c e bindings ≡ o → match_of c e bindings ≡ None
    by None is = is
    by (Some new) is =
        let all = all_pass c.tests e bindings new (met (e.class == c.class) new is) in
        absurd (none_excluded e c.tests c.tests all all unmet)
