-- No entry of a fresh slot is signed.
use Rattle.free_engine.proofs.LinesBack.{opened_fresh}
use Rattle.free_engine.proofs.SharedLines.{all_unsigned}
use Rattle.free_engine.proofs.team.start.Goals as goal

pub new-requires-clause-unsigned : goal.new-requires-clause-unsigned
new-requires-clause-unsigned c =
    let a = c.args in
    all_unsigned c.in_ok-slots.slots.items (opened_fresh a.net.now a.store.now a.workers a.parts.flight.items a.parts.lines.items c.in_ok-slots.slots.items c.in_ok-slots.ensures.opened)
