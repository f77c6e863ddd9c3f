-- The codes of the statuses.
use Rattle.std.specs.Prelude.{ℕ}
use Rattle.ops_meaning.specs.declared.statuses.Status.{Status}
use Rattle.ops_meaning.specs.declared.statuses.Status.TheVariants as status

-- the exit status of the program
abbrev pub code_of : Status → ℕ
code_of status.Done = 0
code_of (status.Refused f line column) = 1
code_of status.Usage = 2
code_of (status.ActFault firing rule action kind) = 3
code_of status.Limit = 4
code_of status.ReadFault = 5
code_of status.WriteFault = 6
code_of status.OutOfMemory = 7
