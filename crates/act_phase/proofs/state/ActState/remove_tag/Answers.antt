use Rattle.std.proofs.Common.{refl}
use Rattle.act_phase.specs.Outcomes.{setting_of}
use Rattle.act_phase.proofs.Cells.{still_there}
use Rattle.act_phase.proofs.States.{state_removed}
use Rattle.act_phase.proofs.state.ActState.remove_tag.Goals as goal

pub invariant_of-self : goal.invariant_of-self
invariant_of-self c =
    let fields = c.self.inside in
    still_there fields.working c.remove.new.self fields.cells.items c.remove.ensures.goes_on c.self.invariant

pub invariant_of-self-2 : goal.invariant_of-self-2
invariant_of-self-2 c =
    let fields = c.self.inside in
    still_there fields.working c.remove.new.self fields.cells.items c.remove.ensures.goes_on c.self.invariant

pub returns-clause-does : goal.returns-clause-does
returns-clause-does c = λ names coming.
    let fields = c.self.inside in
    state_removed names coming (setting_of fields.program.now fields.watch) fields.working c.remove.new.self fields.bindings.items fields.cells.items fields.halted fields.built.items c.args.self.now c.self.view_is c.remove.ensures.goes_on c.self.invariant
    c.args.tag _ c.in_ok-remove.ensures.does refl
