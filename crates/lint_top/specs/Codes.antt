-- The exit status of each result.
use Rattle.std.specs.Prelude.{ℕ}
use Rattle.lint_top.specs.declared.statuses.LintStatus.{LintStatus}
use Rattle.lint_top.specs.declared.statuses.LintStatus.TheVariants as status

abbrev pub code_of : LintStatus → ℕ
code_of status.Clean = 0
code_of status.Warned = 1
code_of status.Faulty = 2
code_of status.Usage = 2
code_of status.Unread = 5
code_of status.Unwritten = 6
code_of status.OutOfMemory = 7
