use Rattle.std.proofs.Common.{◌≡◌, ◌++◌, drop}
use Rattle.std.specs.Prelude.{flat_map}
use Rattle.ops_jobs.specs.Words.{word_bytes}
use Rattle.lint_top.specs.Report.{remark_line}
use Rattle.lint_top.proofs.report.report_remarks.Given as goal

abbrev pub invariant-loop-remark : goal.invariant-loop-remark
invariant-loop-remark l =
    flat_map (remark_line (word_bytes l.files.names.now) l.files.text.now l.files.parts.now l.terms.names.now l.terms.classes.now) l.remarks
    ≡ l.bytes.items ++ flat_map (remark_line (word_bytes l.files.names.now) l.files.text.now l.files.parts.now l.terms.names.now l.terms.classes.now) (drop l.remark-index l.remarks)
