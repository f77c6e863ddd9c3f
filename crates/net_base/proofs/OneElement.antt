-- An element meets the tests of a condition where it meets them in normal form.
use Rattle.std.proofs.Common.{◌≡◌, ℕ, Bool, true, false, cond, ◌&&◌, List, [], ◌∷◌, ◌++◌, map, Option, Some, None, option_map, option_and_then, slice_index, refl, sym, ap, ◌∙◌}
use Rattle.std.specs.Bool.{MatchBool}
use Rattle.std.specs.List.{list_all, list_any, cons_option}
use Rattle.ops_base.specs.declared.values.Value.{Value}
use Rattle.ops_base.specs.declared.values.Pred.{Pred}
use Rattle.ops_base.specs.declared.conditions.Operand.{Operand}
use Rattle.ops_base.specs.declared.conditions.Operand.TheVariants.{Constant, OneOf, Variable}
use Rattle.ops_base.specs.declared.conditions.Test.{Test}
use Rattle.ops_base.specs.declared.elements.Element.{Element}
use Rattle.ops_base.specs.Values.{are_same, holds_of}
use Rattle.ops_base.specs.WorkingMemory.{field_of}
use Rattle.ops_base.specs.Matching.{holds_against, operand_holds, bound_to, after_tests}
use Rattle.net_base.specs.declared.normal.Binder.{Binder}
use Rattle.net_base.specs.declared.normal.NormalOperand.{NormalOperand}
use Rattle.net_base.specs.declared.normal.NormalOperand.TheVariants as normal
use Rattle.net_base.specs.declared.normal.NormalTest.{NormalTest}
use Rattle.net_base.specs.Normal.{binders_with, binders_after, normal_operand, normal_test, normal_tests}
use Rattle.net_base.specs.Tokens.{Elements, field_in}
use Rattle.net_base.proofs.Variables.{origin_value, binding_of, bindings_at, value_is, IsBound, AreBound, at_place}

abbrev pub normal_operand_holds : Pred → Value → NormalOperand → Elements → List ℕ → Bool
normal_operand_holds pred a (normal.Constant c) el t = holds_of pred a c
normal_operand_holds pred a (normal.OneOf cs) el t = list_any (λ c. are_same a c) cs
normal_operand_holds pred a (normal.Bound o) el t = holds_of pred a (origin_value el t o)

-- a normal test of the element e, where the token names it too
abbrev pub normal_test_holds : Elements → List ℕ → Element → NormalTest → Bool
normal_test_holds el t e n = normal_operand_holds n.pred (field_of e n.field) n.operand el t

record Normalised (pred : Pred) (a : Value) (el : Elements) (t : List ℕ) (bs : List Binder) (o : Operand) : Type 0 where
  operand : NormalOperand
  is : normal_operand bs o ≡ Some operand
  holds : operand_holds pred a o (bindings_at el t bs) ≡ normal_operand_holds pred a operand el t

operand_is : (pred : Pred) (a : Value) (el : Elements) (t : List ℕ) (bs : List Binder) (o : Operand) → IsBound bs o → Normalised pred a el t bs o
operand_is pred a el t bs (Constant c) h = record { operand = normal.Constant c; is = refl; holds = refl }
operand_is pred a el t bs (OneOf cs) h = record { operand = normal.OneOf cs; is = refl; holds = refl }
operand_is pred a el t bs (Variable v) h = record {
  operand = normal.Bound h.0;
  is = ap (option_map (λ o. normal.Bound o)) h.1;
  holds = ap (holds_against pred a) (value_is el t v bs ∙ ap (option_map (origin_value el t)) h.1);
}

map_push : {A B : Type 0} (f : A → B) (xs : List A) (x : A) → map f (xs ++ x ∷ []) ≡ map f xs ++ f x ∷ []
map_push f [] x = refl
map_push f (y ∷ xs) x = ap (λ r. f y ∷ r) (map_push f xs x)

bound_is : (el : Elements) (t : List ℕ) (e : Element) (place f : ℕ) (bs : List Binder) (o : Operand) → el (slice_index t place) ≡ Some e
    → bound_to (bindings_at el t bs) o (field_of e f) ≡ bindings_at el t (binders_with bs o (record { place = place; field = f }))
bound_is el t e place f bs (Constant c) is = refl
bound_is el t e place f bs (OneOf cs) is = refl
bound_is el t e place f bs (Variable v) is =
    ap (λ (z : Option Element). bindings_at el t bs ++ record { variable = v; value = field_in z f } ∷ []) (sym is)
    ∙ sym (map_push (binding_of el t) bs (record { variable = v; origin = record { place = place; field = f } }))

-- Matching the tests of an element is matching their normal form, and leaves the values of the binders.
pub after_tests_is : (el : Elements) (t : List ℕ) (e : Element) (place : ℕ) (ts : List Test) (bs : List Binder) → el (slice_index t place) ≡ Some e → AreBound place ts bs
    → after_tests ts e (bindings_at el t bs) ≡ cond (list_all (normal_test_holds el t e) (normal_tests place ts bs)) (Some (bindings_at el t (binders_after place ts bs))) None
after_tests_is el t e place [] bs is h = refl
after_tests_is el t e place (q ∷ ts) bs is h = by_binds (λ cs g. after_tests_is el t e place ts cs is g) q.binds h
  where
    with : List Binder
    with = binders_with bs q.operand (at_place place q)

    by_holds : after_tests ts e (bindings_at el t bs) ≡ cond (list_all (normal_test_holds el t e) (normal_tests place ts bs)) (Some (bindings_at el t (binders_after place ts bs))) None
        → (c d : Bool) → c ≡ d
        → option_and_then (λ b. after_tests ts e b) (cond c (Some (bindings_at el t bs)) None)
        ≡ cond (d && list_all (normal_test_holds el t e) (normal_tests place ts bs)) (Some (bindings_at el t (binders_after place ts bs))) None
    by_holds ih c true g = ap (λ x. option_and_then (λ b. after_tests ts e b) (cond x (Some (bindings_at el t bs)) None)) g ∙ ih
    by_holds ih c false g = ap (λ x. option_and_then (λ b. after_tests ts e b) (cond x (Some (bindings_at el t bs)) None)) g

    by_binds : ((cs : List Binder) → AreBound place ts cs → after_tests ts e (bindings_at el t cs) ≡ cond (list_all (normal_test_holds el t e) (normal_tests place ts cs)) (Some (bindings_at el t (binders_after place ts cs))) None)
        → (b : Bool) → MatchBool b (AreBound place ts (binders_with bs q.operand (at_place place q))) (IsBound bs q.operand × AreBound place ts bs)
        → option_and_then (λ b. after_tests ts e b) (cond b (Some (bound_to (bindings_at el t bs) q.operand (field_of e q.field))) (cond (operand_holds q.pred (field_of e q.field) q.operand (bindings_at el t bs)) (Some (bindings_at el t bs)) None))
        ≡ cond (list_all (normal_test_holds el t e) (cond b (normal_tests place ts (binders_with bs q.operand (at_place place q))) (cons_option (normal_test q (normal_operand bs q.operand)) (normal_tests place ts bs))))
        (Some (bindings_at el t (cond b (binders_after place ts (binders_with bs q.operand (at_place place q))) (binders_after place ts bs)))) None
    by_binds ih true g = ap (after_tests ts e) (bound_is el t e place q.field bs q.operand is) ∙ ih (binders_with bs q.operand (at_place place q)) g
    by_binds ih false g =
        let n = operand_is q.pred (field_of e q.field) el t bs q.operand g.0 in
        by_holds (ih bs g.1) (operand_holds q.pred (field_of e q.field) q.operand (bindings_at el t bs)) (normal_operand_holds q.pred (field_of e q.field) n.operand el t) n.holds
        ∙ ap (λ o. cond (list_all (normal_test_holds el t e) (cons_option (normal_test q o) (normal_tests place ts bs))) (Some (bindings_at el t (binders_after place ts bs))) None) (sym n.is)
