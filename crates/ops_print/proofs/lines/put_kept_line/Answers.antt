use Rattle.std.proofs.Common.{decimal}
use Rattle.ops_io.proofs.PortLemmas.{puts_then, puts_refused}
use Rattle.ops_meaning.specs.Layout.{fresh_line}
use Rattle.ops_print.proofs.Split.{kept_pieces}
use Rattle.ops_print.proofs.lines.put_kept_line.Goals as goal

pub returns-in_err-fresh_line-clause-puts : goal.returns-in_err-fresh_line-clause-puts
returns-in_err-fresh_line-clause-puts g c = puts_refused _ _ _ _ _ _ c.from_residual.ensures.1 c.in_err-fresh_line.ensures.puts

pub returns-clause-puts : goal.returns-clause-puts
returns-clause-puts g c =
    rw (kept_pieces (fresh_line c.args.out.now.column) (decimal c.args.kept)) (puts_then _ _ _ _ _ _ c.in_ok-fresh_line.ensures.puts c.put_numbered.ensures.puts)
