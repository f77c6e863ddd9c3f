-- A condition none of whose tests binds leaves the bindings as they are, whatever the element.
use Rattle.std.proofs.Common.{◌≡◌, List, [], ◌∷◌, Bool, true, false, cond, ◌||◌, ◌==◌, Option, Some, None, option_and_then, refl, ap, ◌∙◌}
use Rattle.std.specs.Prelude.{unwrap_or}
use Rattle.std.specs.List.{list_any}
use Rattle.ops_base.specs.declared.conditions.Condition.{Condition}
use Rattle.ops_base.specs.declared.conditions.Test.{Test}
use Rattle.ops_base.specs.declared.elements.Element.{Element}
use Rattle.ops_base.specs.declared.matching.Binding.{Binding}
use Rattle.ops_base.specs.Matching.{operand_holds, bound_to, after_tests}
use Rattle.ops_base.specs.WorkingMemory.{field_of}
use Rattle.ops_meaning.specs.Acting.{matched_by}

neither : (a b : Bool) → (a || b) ≡ false → (a ≡ false) × (b ≡ false)
neither true b h = absurd (cc)
neither false b h = (refl, h)

tests_unbound : (tests : List Test) (e : Element) (bindings : List Binding) → list_any (λ t. t.binds) tests ≡ false → unwrap_or (after_tests tests e bindings) bindings ≡ bindings
tests_unbound [] e bindings none = refl
tests_unbound (t ∷ tests) e bindings none =
    let both = neither t.binds (list_any (λ t. t.binds) tests) none in
    let holds = operand_holds t.pred (field_of e t.field) t.operand bindings in
    let after : Bool → Bool → List Binding = λ binds holds. unwrap_or (option_and_then (λ b. after_tests tests e b) (cond binds (Some (bound_to bindings t.operand (field_of e t.field))) (cond holds (Some bindings) None))) bindings in
    ap (λ b. after b holds) both.0 ∙ by holds (tests_unbound tests e bindings both.1)
  where
    by : (holds : Bool) → unwrap_or (after_tests tests e bindings) bindings ≡ bindings → unwrap_or (option_and_then (λ b. after_tests tests e b) (cond holds (Some bindings) None)) bindings ≡ bindings
    by true ih = ih
    by false ih = refl

pub unbound : (c : Condition) (o : Option Element) (bindings : List Binding) → list_any (λ t. t.binds) c.tests ≡ false → matched_by c o bindings ≡ bindings
unbound c None bindings none = refl
unbound c (Some e) bindings none = by (e.class == c.class)
  where
    by : (b : Bool) → unwrap_or (cond b (after_tests c.tests e bindings) None) bindings ≡ bindings
    by true = tests_unbound c.tests e bindings none
    by false = refl
