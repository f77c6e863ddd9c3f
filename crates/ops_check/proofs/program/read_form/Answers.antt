use Rattle.std.proofs.Common.{ap, ◌∙◌}
use Rattle.ops_grammar.specs.Words.{words_from, names_from}
use Rattle.ops_check.specs.Walks.{view}
use Rattle.ops_check.specs.Answered.{rest_of}
use Rattle.ops_check.proofs.Texts.{form_read, form_failed}
use Rattle.ops_check.proofs.program.read_form.Goals as goal

pub returns-in-Ok : goal.returns-in-Ok
returns-in-Ok c = λ from form.
    let made = c.as_slice-2.ensures.value ∙ c.in_ok-words.ensures.words ∙ ap (words_from c.args.text.now c.args.names.now) c.as_slice.ensures.value in
    let held = c.in_ok-words.ensures.names ∙ ap (names_from c.args.text.now c.args.names.now) c.as_slice.ensures.value in
    form_read c.args.text.now c.args.names.now c.words_of.new.names from (view c.args.draft.now) (view c.forms.new.self) c.args.form.now c.as_slice-2.result.now form made held c.in-Ok.ensures

pub returns : goal.returns
returns c = λ from form.
    let made = c.as_slice-2.ensures.value ∙ c.in_ok-words.ensures.words ∙ ap (words_from c.args.text.now c.args.names.now) c.as_slice.ensures.value in
    rw c.fault_at.ensures
    (form_failed c.args.text.now c.args.names.now from (view c.args.draft.now) (view c.forms.new.self) (rest_of c.args.text.now c.words_of.new.names c.args.form.now.past (view c.forms.new.self)) c.args.form.now c.as_slice-2.result.now c.in-Err.refusal form made c.in-Err.ensures)
