use Rattle.std.proofs.Common.{◌∙◌}
use Rattle.ops_base.specs.Names.{spellings}
use Rattle.program_slips.proofs.Adding.{one_added}
use Rattle.program_slips.proofs.alike.add_rule.Goals as goal

pub returns : goal.returns
returns c = λ rest.
    one_added c.args.found.now.items c.note.new.found.items c.args.names.now.items c.note.new.names.items (spellings c.args.texts.now.keys) (spellings c.meet.new.texts.keys)
    c.args.rule.now c.deref.result.now c.in_ok-place.place rest (c.deref.ensures.value ∙ c.in_ok-text.ensures) c.in_ok-place.ensures.place c.in_ok-place.ensures.texts
    c.in_ok-note.ensures.found c.in_ok-note.ensures.names
