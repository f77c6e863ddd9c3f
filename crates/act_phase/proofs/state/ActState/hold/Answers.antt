use Rattle.std.proofs.Common.{length, ap, arith}
use Rattle.act_phase.specs.Outcomes.{setting_of}
use Rattle.act_phase.specs.State.{State}
use Rattle.act_phase.specs.declared.state.Cell.TheVariants as cell
use Rattle.act_phase.proofs.Cells.{below_is, there_set}
use Rattle.act_phase.proofs.States.{state_set}
use Rattle.act_phase.proofs.state.ActState.hold.Goals as goal

pub invariant_of-self : goal.invariant_of-self
invariant_of-self c =
    let fields = c.self.inside in
    let same = ap (λ (s : State). length s.working.changes) c.self.view_is in
    there_set (length fields.working.changes) fields.cells.items c.args.cell (cell.Made c.args.place) c.self.invariant
    (below_is c.args.place (length fields.working.changes) (omega (arith, same)))

pub returns-then-cell-len : goal.returns-then-cell-len
returns-then-cell-len c =
    let fields = c.self.inside in
    state_set (setting_of fields.program.now fields.watch) fields.working fields.bindings.items fields.cells.items fields.halted fields.built.items c.args.self.now c.self.view_is c.args.cell c.args.place
