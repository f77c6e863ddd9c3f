use Rattle.std.proofs.Common.{arith, rules}
use Rattle.ops_io.proofs.Known.{whole_at_end, more_than_room}
use Rattle.ops_io.proofs.real.read_all.Goals as goal

pub returns-then-count-eq0-clause-whole : goal.returns-then-count-eq0-clause-whole
returns-then-count-eq0-clause-whole g c =
    whole_at_end _ _ _ c.loop-count.text _ _ _ c.if-count-eq0.true c.loop-count.invariant.given c.in-Ok.ensures.bytes.0
    (c.in-Ok.ensures.bytes.1 c.if-count-eq0.true (search (rules, c))) (search (rules, c))

pub returns-then-count-room-clause-whole : goal.returns-then-count-room-clause-whole
returns-then-count-room-clause-whole g c =
    more_than_room _ _ _ c.loop-count.text.items _ c.in-Ok.count _ c.in-Ok.ensures.bound.1 c.loop-count.invariant.given c.in-Ok.ensures.bytes.0
    (omega (arith, c.if-count-room.true, c.len.ensures, c.loop-count.text.ok)) (search (rules, c))
