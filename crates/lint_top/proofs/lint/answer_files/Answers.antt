use Rattle.std.proofs.Common.{sym, subst, arith}
use Rattle.ops_jobs.specs.Words.{word_bytes}
use Rattle.joined_files.specs.Files.{Gathered}
use Rattle.joined_files.specs.declared.files.JoinedText.{JoinedText}
use Rattle.joined_files.proofs.Contents.{contents_map}
use Rattle.lint_top.specs.Whole.{answer_gathered}
use Rattle.lint_top.specs.Calls.{Delivers}
use Rattle.lint_top.proofs.Answering.{report_loads, why_loads, why_last, all_asked, why_asked}
use Rattle.lint_top.proofs.lint.answer_files.Goals as goal

pub returns-in-Ok-clause-delivers : goal.returns-in-Ok-clause-delivers
returns-in-Ok-clause-delivers g c =
    let names = word_bytes c.args.names.now in
    let D : Gathered → Type 0 = λ found. Delivers c.say_report.result (answer_gathered names found) (g.K.Sink.taken c.args.sink.now) (g.K.Sink.faults c.args.sink.now) (g.K.Sink.taken c.say_report.new.sink) (g.K.Sink.faults c.say_report.new.sink) in
    contents_map (g.H.Shelf.told c.args.shelf.now) names _ _ (λ contents e. subst D (sym e) c.say_report.ensures.delivers) c.in-Ok.ensures.text

pub returns-in-Err-clause-delivers : goal.returns-in-Err-clause-delivers
returns-in-Err-clause-delivers g c =
    let names = word_bytes c.args.names.now in
    contents_map (g.H.Shelf.told c.args.shelf.now) names _ _ (λ contents h. c.say_why.ensures.delivers names _ h) c.in-Err.ensures.fault

pub returns-in-Ok-clause-loads : goal.returns-in-Ok-clause-loads
returns-in-Ok-clause-loads g c =
    let sink = c.args.sink.now in
    let after = c.say_report.new.sink in
    report_loads c.say_report.result (word_bytes c.args.names.now) c.in-Ok.joined.text.items c.in-Ok.joined.parts.items
    (g.K.Sink.taken sink) (g.K.Sink.taken after) (g.K.Sink.faults sink) (g.K.Sink.faults after)
    (g.H.Shelf.faults c.args.shelf.now) (g.H.Shelf.faults c.load_files.new.shelf) c.say_report.ensures.delivers c.in-Ok.ensures.cause

pub returns-in-Err-clause-loads : goal.returns-in-Err-clause-loads
returns-in-Err-clause-loads g c =
    let sink = c.args.sink.now in
    let after = c.say_why.new.sink in
    why_loads JoinedText c.in-Err.why c.say_why.result
    (g.K.Sink.taken sink) (g.K.Sink.taken after) (g.K.Sink.faults sink) (g.K.Sink.faults after)
    (g.H.Shelf.faults c.args.shelf.now) (g.H.Shelf.faults c.load_files.new.shelf) c.in-Err.ensures.cause c.say_why.ensures.delivers

pub returns-in-Ok-clause-last : goal.returns-in-Ok-clause-last
returns-in-Ok-clause-last g c = λ rose. absurd (omega (arith, rose, c.in-Ok.ensures.cause))

pub returns-in-Err-clause-last : goal.returns-in-Err-clause-last
returns-in-Err-clause-last g c =
    λ rose. why_last JoinedText c.in-Err.why c.say_why.result _ _ _ _ _ _ _ c.in-Err.ensures.cause c.in-Err.ensures.last c.say_why.ensures.delivers rose

pub returns-in-Ok-clause-names : goal.returns-in-Ok-clause-names
returns-in-Ok-clause-names g c = all_asked _ _ _ _ c.in-Ok.ensures.names

pub returns-in-Err-clause-names : goal.returns-in-Err-clause-names
returns-in-Err-clause-names g c = why_asked c.in-Err.why c.say_why.result _ _ _ _ _ _ _ c.say_why.ensures.delivers c.in-Err.ensures.names
