use Rattle.std.proofs.Common.{List, IfOk, ap, ◌∙◌, subst}
use Rattle.std.proofs.lemmas.Result.{IfOk-weaker}
use Rattle.ops_base.specs.declared.elements.Element.{Element}
use Rattle.ops_base.specs.WorkingMemory.{HasRisingTags, shown}
use Rattle.ops_base.specs.Instances.{IsConflictSet}
use Rattle.direct_engine.proofs.engine.find.Goals as goal

pub returns : goal.returns
returns c =
    let rules = c.args.program.now.rules in
    let wm = c.args.store.now.elements in
    let P : List Element → Type 0 = λ es. IfOk c.direct_set_of.result (λ set. HasRisingTags es → IsConflictSet rules es set) in
    IfOk-weaker c.direct_set_of.result (λ set. HasRisingTags wm → IsConflictSet rules wm set) (IsConflictSet rules wm) (λ set h. h c.in_ok-present.ensures.rising)
    (subst P (ap shown c.as_slice.ensures.value ∙ c.in_ok-present.ensures.elements) c.direct_set_of.ensures.set)
