use Rattle.std.proofs.Common.{◌≡◌, ℕ, List, [], Bool, true, Some, ap, sym, ◌∙◌, arith, rules}
use Rattle.std.proofs.lemmas.Grind.{common_steps}
use Rattle.std.proofs.lemmas.Option.{gets}
use Rattle.std.specs.Prelude.{slice_get}
use Rattle.ops_base.specs.declared.conditions.Part.{Part}
use Rattle.ops_base.specs.WorkingMemory.{shown}
use Rattle.why.specs.Checking.{agrees}
use Rattle.why.proofs.Instantiations.{checked}
use Rattle.why.proofs.checking.check.Goals as goal

pub returns-in-Some : goal.returns-in-Some
returns-in-Some c =
    let wm = shown c.args.wm.now in
    let i = c.args.inst.now in
    let rule = c.in-Some.rule.now in
    let there : slice_get c.args.program.now.rules i.rule ≡ Some rule = first_of (grind (arith, common_steps, gets), grind (arith, common_steps, gets, c.in-Some.ensures.lookup, c.as_slice.ensures)) in
    let is : c.agrees.result ≡ agrees wm rule.conditions [] i.tags c.args.bound.now =
    c.agrees.ensures
    ∙ ap (λ (ps : List Part). agrees wm ps [] c.as_slice-in-Some-2.result.now c.args.bound.now) c.as_slice-in-Some.ensures
    ∙ ap (λ (tags : List ℕ). agrees wm rule.conditions [] tags c.args.bound.now) c.as_slice-in-Some-2.ensures in
    let r = checked c.args.program.now.rules wm i c.args.bound.now rule c.requires there in
    (λ t. r.0 (sym is ∙ t), λ both. is ∙ r.1 both)
