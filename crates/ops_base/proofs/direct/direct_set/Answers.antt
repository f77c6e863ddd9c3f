-- The references show the elements of the slice, so what is said of those that they show is said of the slice.
use Rattle.std.proofs.Common.{List, IfOk, ◌∙◌, ap, subst}
use Rattle.ops_base.specs.declared.elements.Element.{Element}
use Rattle.ops_base.specs.WorkingMemory.{HasRisingTags, shown}
use Rattle.ops_base.specs.Instances.{IsConflictSet}
use Rattle.ops_base.proofs.direct.direct_set.Goals as goal

pub returns-clause-set : goal.returns-clause-set
returns-clause-set c =
    let P : List Element → Type 0 = λ wm. IfOk c.direct_set_of.result
    (λ set. HasRisingTags wm → IsConflictSet c.args.program.now.rules wm set) in
    subst P (ap shown c.as_slice.ensures.value ∙ c.in_ok-wm.ensures) c.direct_set_of.ensures.set
