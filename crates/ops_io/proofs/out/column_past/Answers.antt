use Rattle.std.proofs.Common.{◌-◌, arith, lit<}
use Rattle.ops_io.proofs.Known.{column_past_lf}
use Rattle.ops_io.proofs.out.column_past.Goals as goal

pub returns-then-bytes-at-eq10 : goal.returns-then-bytes-at-eq10
returns-then-bytes-at-eq10 c =
    let lf = column_past_lf c.args.column c.args.bytes.now (c.loop-at.at - 1) c.loop-at.at (omega arith) (omega arith) c.if-bytes-at-eq10.true in
    let rest = c.loop-at.invariant.rest 0 (lit< tt) in
    omega (arith, lf, rest)
