use Rattle.std.proofs.Common.{◌++◌, ◌∙◌, sym, ap, drop}
use Rattle.std.proofs.lemmas.Bool.{lt-ltb}
use Rattle.ops_base.specs.Valid.{most_fields}
use Rattle.ops_grammar.specs.Grammar.{goes, after, place, within}
use Rattle.ops_lhs.specs.Taking.{seen, IsAround}
use Rattle.ops_forms.proofs.Walks.{goes_as_among}
use Rattle.ops_lhs.proofs.Rooms.{no_place}
use Rattle.ops_lhs.proofs.left.Left.next_place_from.Goals.{else-begins_place-via-then-begins_place+else-field-ge-MOST_FIELDS, else-begins_place-via-else-begins_place}
use Rattle.ops_lhs.proofs.left.Left.next_place_from.Goals as goal

pub returns-clause-acts : goal.returns-clause-acts
returns-clause-acts c =
    let w = c.args.word in
    goes_as_among (IsAround c.args.around.now) _ _
    (λ more ws s i. ap (after (goes (drop c.args.at c.args.words.now ++ more)) w)
    (elim c.else-begins_place.branch [
      | else-begins_place-via-then-begins_place+else-field-ge-MOST_FIELDS b ↦ ap (λ room. within room (place c.args.field w ws (seen s c.args.self.now))) (lt-ltb c.args.field most_fields b.if-field-ge-MOST_FIELDS.false)
      | else-begins_place-via-else-begins_place b ↦ no_place c.args.field w ws (seen s c.args.self.now) c.args.around.now.values.now i.values (sym c.begins_place.ensures ∙ b.if-begins_place.false) _
    ]))
    c.args.words.now (λ s. seen s c.place_from.new.self) c.place_from.result c.place_from.ensures.acts
