use Rattle.std.proofs.Common.{◌++◌, ◌+◌, ◌<◌, ◌∙◌, sym, ap, refl, length, arith}
use Rattle.std.proofs.lemmas.Bool.{lt-ltb}
use Rattle.ops_base.specs.Valid.{most_fields}
use Rattle.ops_grammar.specs.Grammar.{goes, after, value_for, within, ToConstants}
use Rattle.ops_check.specs.Walks.{view}
use Rattle.ops_forms.proofs.Ways.{goes_as}
use Rattle.ops_check.proofs.Rooms.{no_value}
use Rattle.ops_check.proofs.draft.Draft.next_constant_from.Goals.{else-begins_value-via-then-begins_value+else-len-room, else-begins_value-via-else-begins_value}
use Rattle.ops_check.proofs.draft.Draft.next_constant_from.Goals as goal

pub returns-clause-acts : goal.returns-clause-acts
returns-clause-acts c =
    let w = c.args.word in
    let s = view c.args.self.now in
    goes_as _ _
    (λ more ws. ap (after (goes (c.args.rest.now ++ more)) w)
    (elim c.else-begins_value.branch [
      | else-begins_value-via-then-begins_value+else-len-room b ↦
          let lt = b.if-len-room.false in
          let len = b.len.ensures in
          let room = c.saturating_sub-room.ensures in
          let below : c.args.field + length s.constants < most_fields = omega (arith, lt, len, room) in
          ap (λ room. within room (value_for ToConstants w ws s)) (lt-ltb (c.args.field + length s.constants) most_fields below)
      | else-begins_value-via-else-begins_value b ↦ no_value w ws s refl (sym c.begins_value.ensures ∙ b.if-begins_value.false) _
    ]))
    (view c.value_from.new.self) c.value_from.result c.value_from.ensures.acts
