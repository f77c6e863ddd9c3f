use Rattle.std.proofs.Common.{sym, ap, ◌∙◌}
use Rattle.ops_jobs.specs.Words.{word_bytes}
use Rattle.ops_grammar.specs.Reads.{Read, reads}
use Rattle.lint_top.specs.Remarks.{remarks}
use Rattle.lint_top.specs.Report.{Reply}
use Rattle.lint_top.proofs.Reading.{if_more, read_is}
use Rattle.lint_top.proofs.report.report_program.Goals as goal

pub returns-in_ok-remarks-in-Ok-clause-bytes : goal.returns-in_ok-remarks-in-Ok-clause-bytes
returns-in_ok-remarks-in-Ok-clause-bytes c =
    let text = c.args.files.text.now in
    let p : Read = record { classes = c.in-Ok.program.classes; rules = c.in-Ok.program.rules; templates = c.in-Ok.program.templates; commands = c.in-Ok.program.commands; names = c.in-Ok.names } in
    let is = ap reads (sym c.in_ok-text.ensures.items) ∙ c.in-Ok.ensures.ok in
    let finds = c.deref.ensures.value ∙ c.in_ok-remarks-in-Ok.ensures
    ∙ ap (λ t. remarks t p.classes p.rules p.templates p.commands) (c.in-Ok.ensures.text ∙ c.in_ok-text.ensures.items) in
    let same = read_is (word_bytes c.args.files.names.now) text c.args.files.parts.now (reads text) p c.as_slice.result.now c.deref.result.now is c.as_slice.ensures finds in
    if_more _ _ c.report_remarks.result c.report_remarks.ensures.bytes (λ v h. h ∙ ap (λ (o : Reply). o.bytes) same)

pub returns-in_ok-remarks-in-Ok-clause-status : goal.returns-in_ok-remarks-in-Ok-clause-status
returns-in_ok-remarks-in-Ok-clause-status c =
    let text = c.args.files.text.now in
    let p : Read = record { classes = c.in-Ok.program.classes; rules = c.in-Ok.program.rules; templates = c.in-Ok.program.templates; commands = c.in-Ok.program.commands; names = c.in-Ok.names } in
    let is = ap reads (sym c.in_ok-text.ensures.items) ∙ c.in-Ok.ensures.ok in
    let finds = c.deref.ensures.value ∙ c.in_ok-remarks-in-Ok.ensures
    ∙ ap (λ t. remarks t p.classes p.rules p.templates p.commands) (c.in-Ok.ensures.text ∙ c.in_ok-text.ensures.items) in
    let same = read_is (word_bytes c.args.files.names.now) text c.args.files.parts.now (reads text) p c.as_slice.result.now c.deref.result.now is c.as_slice.ensures finds in
    if_more _ _ c.report_remarks.result c.report_remarks.ensures.status (λ v h. h ∙ ap (λ (o : Reply). o.status) same)
