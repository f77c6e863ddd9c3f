use Rattle.std.proofs.Common.{ℕ, sym, subst}
use Rattle.turn_table.specs.Turns.{first_values, knows}
use Rattle.free_engine.specs.Slots.{IsSlotFor}
use Rattle.free_engine.proofs.Holding.{comes_row, is_slot, few}
use Rattle.free_engine.proofs.turns.do_task.Goals as goal

pub activate_in-requires-clause-line : goal.activate_in-requires-clause-line
activate_in-requires-clause-line g c = let a = c.args in let y = c.claim-turn.result.value in
    let i : ℕ = c.place_of-place.result.line in
    let has = comes_row a.phase.now.net.now a.phase.now.store.now a.phase.now.lines a.phase.now.workers a.phase.now.first.now.value.items (first_values a.phase.now.cells.now) a.phase.now.set_up (knows a.pass) c.requires.pass.0.same_values y i c.claim-turn.ensures.value in
    subst (IsSlotFor a.phase.now.net.now a.phase.now.store.now a.task.now) (sym c.value.ensures.value) (is_slot a.phase.now.net.now a.phase.now.store.now a.phase.now.lines i a.task.now y has (sym c.place_of-place.ensures.line))

pub give-requires-clause-room : goal.give-requires-clause-room
give-requires-clause-room g c = few c.activate_in.new.slot
