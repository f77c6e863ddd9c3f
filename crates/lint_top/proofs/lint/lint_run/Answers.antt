use Rattle.std.proofs.Common.{Bool, refl, subst, sym, ◌∙◌, arith}
use Rattle.ops_jobs.specs.Words.{word_bytes}
use Rattle.joined_files.proofs.Contents.{contents_map, contents_any}
use Rattle.lint_top.specs.Calls.{TellsLoads, AskedForBy, has_text}
use Rattle.joined_files.specs.Loads.{AskedFor}
use Rattle.lint_top.proofs.Answering.{files_answer, usage_answers, usage_loads, last_answers}
use Rattle.lint_top.proofs.lint.lint_run.Goals as goal

pub returns-then-are_files-clause-answers : goal.returns-then-are_files-clause-answers
returns-then-are_files-clause-answers g c =
    let words = word_bytes c.args.words.now in
    let fit = sym c.are_files.ensures ∙ c.if-are_files.true in
    contents_map (g.H.Shelf.told c.args.shelf.now) words _ _
    (λ contents d. files_answer words contents _ c.status_after.result c.answer_files-answered.result _ _ _ _ c.status_after.ensures fit d) c.answer_files-answered.ensures.delivers

pub returns-clause-answers : goal.returns-clause-answers
returns-clause-answers g c =
    let words = word_bytes c.args.words.now in
    let unfit = sym c.are_files.ensures ∙ c.if-are_files.false in
    contents_any (g.H.Shelf.told c.args.shelf.now) words _
    (λ contents. usage_answers words contents _ c.status_after-2.result c.say_usage-answered.result _ _ _ _ c.status_after-2.ensures unfit c.say_usage-answered.ensures.delivers)

pub returns-then-are_files-clause-loads : goal.returns-then-are_files-clause-loads
returns-then-are_files-clause-loads g c =
    subst (λ s. TellsLoads s (g.H.Shelf.faults c.args.shelf.now) (g.H.Shelf.faults c.answer_files-answered.new.shelf)) (sym c.status_after.ensures) c.answer_files-answered.ensures.loads

pub returns-clause-loads : goal.returns-clause-loads
returns-clause-loads g c =
    usage_loads c.status_after-2.result c.say_usage-answered.result _ _ _ _ _ c.status_after-2.ensures c.say_usage-answered.ensures.delivers

pub returns-then-are_files-clause-last : goal.returns-then-are_files-clause-last
returns-then-are_files-clause-last g c =
    λ rose. last_answers c.status_after.result c.answer_files-answered.result _ _ _ _ _ c.status_after.ensures (c.answer_files-answered.ensures.last rose)

pub returns-clause-last : goal.returns-clause-last
returns-clause-last g c = λ rose. absurd (omega (arith, rose))

pub returns-then-are_files-clause-names : goal.returns-then-are_files-clause-names
returns-then-are_files-clause-names g c =
    let words = word_bytes c.args.words.now in
    let fit = sym c.are_files.ensures ∙ c.if-are_files.true in
    let old = g.H.Shelf.names c.args.shelf.now in
    let new = g.H.Shelf.names c.answer_files-answered.new.shelf in
    subst (λ (b : Bool). AskedForBy b c.status_after.result words old new) (sym fit)
    (subst (λ s. AskedFor (has_text s) words old new) (sym c.status_after.ensures) c.answer_files-answered.ensures.names)

pub returns-clause-names : goal.returns-clause-names
returns-clause-names g c =
    let words = word_bytes c.args.words.now in
    let unfit = sym c.are_files.ensures ∙ c.if-are_files.false in
    let old = g.H.Shelf.names c.args.shelf.now in
    subst (λ (b : Bool). AskedForBy b c.status_after-2.result words old old) (sym unfit) refl
