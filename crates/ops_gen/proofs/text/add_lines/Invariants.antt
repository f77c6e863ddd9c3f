use Rattle.std.proofs.Common.{◌≡◌, ◌++◌}
use Rattle.ops_gen.specs.Workload.{lines_to, line_of}
use Rattle.ops_gen.proofs.text.add_lines.Given as goal

abbrev pub invariant-loop-number : goal.invariant-loop-number
invariant-loop-number l = l.text.items ≡ l.fn.text.items ++ lines_to (line_of l.lines l.seed) l.number
