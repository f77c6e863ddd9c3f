use Rattle.std.proofs.Common.{◌≡◌, ◌++◌, drop}
use Rattle.std.specs.Prelude.{flat_map}
use Rattle.ops_jobs.specs.Words.{word_bytes}
use Rattle.lint_top.specs.Report.{warning_line}
use Rattle.lint_top.proofs.report.add_warnings.Given as goal

abbrev pub invariant-loop-slip : goal.invariant-loop-slip
invariant-loop-slip l =
    l.initial.lines.items ++ flat_map (warning_line (word_bytes l.files.names.now) l.files.text.now l.files.parts.now) l.slips
    ≡ l.lines.items ++ flat_map (warning_line (word_bytes l.files.names.now) l.files.text.now l.files.parts.now) (drop l.slip-index l.slips)
