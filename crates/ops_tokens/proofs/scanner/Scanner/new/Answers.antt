use Rattle.std.proofs.Common.{arith}
use Rattle.ops_tokens.specs.Program.{program_table}
use Rattle.ops_tokens.proofs.Program.{is_table}
use Rattle.ops_tokens.proofs.scanner.Scanner.new.Goals as goal

pub from_table-requires : goal.from_table-requires
unfolding program_table
from_table-requires c = (omega arith, (omega arith, (omega arith, (omega arith, is_table))))

pub invariant_of-result : goal.invariant_of-result
unfolding program_table
invariant_of-result c = record { is_program_table = c.from_table.ensures }
