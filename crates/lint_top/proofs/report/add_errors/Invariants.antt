use Rattle.std.proofs.Common.{◌≡◌, ◌++◌, drop}
use Rattle.std.specs.Prelude.{flat_map}
use Rattle.ops_jobs.specs.Words.{word_bytes}
use Rattle.lint_top.specs.Report.{error_line}
use Rattle.lint_top.proofs.report.add_errors.Given as goal

abbrev pub invariant-loop-fault : goal.invariant-loop-fault
invariant-loop-fault l =
    l.initial.lines.items ++ flat_map (error_line (word_bytes l.files.names.now) l.files.text.now l.files.parts.now) l.faults
    ≡ l.lines.items ++ flat_map (error_line (word_bytes l.files.names.now) l.files.text.now l.files.parts.now) (drop l.fault-index l.faults)
