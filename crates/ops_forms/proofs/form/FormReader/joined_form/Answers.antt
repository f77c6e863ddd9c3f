use Rattle.std.proofs.Common.{◌≡◌, ◌∙◌, false, ap, sym}
use Rattle.ops_grammar.specs.Words.{outside, joined}
use Rattle.ops_forms.specs.Pairs.{has_hole}
use Rattle.ops_forms.proofs.Joined.{form_is, as_they_are}
use Rattle.ops_forms.proofs.form.FormReader.joined_form.Goals as goal

pub returns : goal.returns
returns c = λ from le next.
    form_is c.args.text.now from c.in_ok-form.form c.in_ok-tokens.tokens le (c.in_ok-tokens.ensures ∙ ap (joined c.args.text.now outside) c.as_slice-2.ensures.value) (c.in_ok-form.ensures.1 from le next)

pub returns-then-not-has_hole : goal.returns-then-not-has_hole
returns-then-not-has_hole c = λ from le next.
    let text = c.args.text.now in
    let tokens = c.in_ok-form.form.tokens in
    let none : has_hole text tokens.items ≡ false = ap (has_hole text) (sym c.as_slice.ensures.value) ∙ sym c.has_hole.ensures ∙ c.if-not-has_hole.true in
    form_is text from c.in_ok-form.form tokens le (sym (as_they_are text outside tokens.items none)) (c.in_ok-form.ensures.1 from le next)
