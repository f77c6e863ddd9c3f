use Rattle.std.proofs.Common.{length, ap, arith, length-append}
use Rattle.ops_base.specs.declared.elements.Change.{Change}
use Rattle.act_phase.specs.Outcomes.{setting_of}
use Rattle.act_phase.specs.Changed.{Changed}
use Rattle.act_phase.specs.State.{State}
use Rattle.act_phase.proofs.Cells.{still_there}
use Rattle.act_phase.proofs.States.{state_added}
use Rattle.act_phase.proofs.state.ActState.make.Goals as goal

pub invariant_of-self : goal.invariant_of-self
invariant_of-self c =
    let fields = c.self.inside in
    still_there fields.working c.add.new.self fields.cells.items c.add.ensures.goes_on c.self.invariant

pub invariant_of-self-2 : goal.invariant_of-self-2
invariant_of-self-2 c =
    let fields = c.self.inside in
    still_there fields.working c.add.new.self fields.cells.items c.add.ensures.goes_on c.self.invariant

pub returns-clause-does : goal.returns-clause-does
returns-clause-does c = λ names coming.
    let fields = c.self.inside in
    state_added names coming (setting_of fields.program.now fields.watch) fields.working c.add.new.self fields.bindings.items fields.cells.items fields.halted fields.built.items c.args.self.now c.self.view_is c.add.ensures.goes_on c.self.invariant
    c.args.class c.args.fields.items (rw c.from_vec.ensures at c.in_ok-add.ensures.does)

pub returns-clause-grows : goal.returns-clause-grows
returns-clause-grows c =
    let more = ap (λ (w : Changed). length w.changes) c.in_ok-add.ensures.does in
    let same = ap (λ (s : State). length s.working.changes) c.self.view_is in
    omega (arith, more, same, length-append {A = Change})
