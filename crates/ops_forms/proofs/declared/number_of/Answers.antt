use Rattle.std.proofs.Common.{◌<◌, ◌==◌, sym, ◌∙◌, length}
use Rattle.std.proofs.lemmas.List.Quantifiers.{position-Some}
use Rattle.std.proofs.lemmas.Option.{slice_get-get_or}
use Rattle.ops_grammar.specs.declared.words.Named.{Named}
use Rattle.ops_forms.proofs.Numbered.{number_unnamed, number_named}
use Rattle.ops_forms.proofs.declared.number_of.Goals as goal

pub returns-in_err-place : goal.returns-in_err-place
returns-in_err-place c =
    c.from_residual.ensures ∙ sym (number_unnamed c.args.name c.args.named.now (sym c.place_of.ensures ∙ c.in_err-place.was))

pub returns-in_err-get : goal.returns-in_err-get
returns-in_err-get c =
    let nobody : Named = record { name = record { 0 = 0 }; number = 0 } in
    let lt : c.in_ok-place.place < length c.args.named.now =
    (position-Some (λ n. n.name.0 == c.args.name.0) c.args.named.now c.in_ok-place.place nobody (sym c.place_of.ensures ∙ c.in_ok-place.was)).0 in
    let there = slice_get-get_or c.args.named.now c.in_ok-place.place nobody lt in
    let missing = rw c.in_err-get.was at c.get.ensures in
    absurd (cc)

pub returns : goal.returns
returns c =
    let there = rw c.in_ok-get.was at c.get.ensures in
    sym (number_named c.args.name c.args.named.now c.in_ok-place.place c.in_ok-get.field-0.now (sym c.place_of.ensures ∙ c.in_ok-place.was) (sym there))
