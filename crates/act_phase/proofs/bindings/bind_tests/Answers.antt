use Rattle.std.proofs.Common.{◌≡◌, ℕ, ◌+◌, ◌<◌, Bool, true, List, [], ◌∷◌, ◌++◌, length, drop, get_or, Some, None, if◌then◌else◌, unwrap_or, refl, ap, sym, ◌∙◌, append_assoc}
use Rattle.std.specs.Prelude.{option_and_then}
use Rattle.std.proofs.lemmas.List.{append-nil, drop_more, drop_all}
use Rattle.ops_base.specs.declared.conditions.Test.{Test}
use Rattle.ops_base.specs.declared.elements.Element.{Element}
use Rattle.ops_base.specs.declared.matching.Binding.{Binding}
use Rattle.ops_base.specs.Matching.{after_test, after_tests, bound_to}
use Rattle.ops_base.specs.WorkingMemory.{field_of}
use Rattle.act_phase.proofs.bindings.bind_tests.Goals as goal

-- a test that holds, and those after it
holds_on : (tests : List Test) (i : ℕ) (t : Test) (e : Element) (old new : List Binding) (b : Bool) → i < length tests → t ≡ get_or tests i t → b ≡ true → after_test t e old ≡ (if b then Some new else None)
    → after_tests (drop i tests) e old ≡ after_tests (drop (i + 1) tests) e new
holds_on tests i t e old new b within is holds after =
    ap (λ ts. after_tests ts e old) (drop_more tests i t within ∙ ap (λ u. u ∷ drop (i + 1) tests) (sym is))
    ∙ ap (option_and_then (λ bs. after_tests (drop (i + 1) tests) e bs)) (after ∙ ap (λ b. if b then Some new else None) holds)

pub loop-test-init : goal.loop-test-init
loop-test-init c = record { rest = refl; more = []; grown = sym (append-nil c.args.bindings.now.items) }

pub loop-test-preserved : goal.loop-test-preserved
loop-test-preserved c =
    let l = c.loop-test in
    let t = c.test-item.result in
    let added = if t.binds then bound_to [] t.operand (field_of c.args.e.now t.field) else [] in
    record {
      rest = sym (holds_on c.args.tests.now l.test-index t c.args.e.now l.bindings.items c.pass.new.bindings.items c.in_ok-pass.field-0 c.loop-test-test.true c.test-item.is c.if-not-branch.false c.in_ok-pass.ensures.after)
          ∙ l.invariant.rest;
      more = l.invariant.more ++ added;
      grown = c.in_ok-pass.ensures.adds ∙ ap (λ bs. bs ++ added) l.invariant.grown ∙ append_assoc c.args.bindings.now.items l.invariant.more added;
    }

pub returns : goal.returns
returns c =
    let l = c.loop-test in
    sym (ap (λ o. unwrap_or o c.args.bindings.now.items)
    (sym l.invariant.rest ∙ ap (λ ts. after_tests ts c.args.e.now l.bindings.items) (drop_all l.test-index c.args.tests.now c.loop-test-test.false)))
