use Rattle.std.proofs.Common.{◌≡◌, List, [], length, subst}
use Rattle.ops_base.specs.declared.elements.Element.{Element}
use Rattle.ops_base.specs.Instances.{IsConflictSet}
use Rattle.direct_engine.specs.Engines.{Engine}
use Rattle.direct_engine.proofs.NothingFound.{nothing_found}
use Rattle.direct_engine.proofs.engine.DirectEngineMatcher.store.Goals as goal

pub returns-clause-none : goal.returns-clause-none
returns-clause-none c =
    let program = c.self.inside.program in
    let P : Engine → Type 0 = λ e. e.stored.elements ≡ [] → e.found ≡ [] in
    let Q : List Element → Type 0 = λ wm. IsConflictSet program.rules wm c.self.inside.found in
    subst P c.self.view_is (λ empty. nothing_found program.classes program.rules program.templates program.commands (length program.text) c.self.inside.found program.valid (subst Q empty c.self.invariant))
