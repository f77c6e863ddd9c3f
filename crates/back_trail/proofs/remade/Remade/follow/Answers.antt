use Rattle.std.proofs.Common.{false, ◌∙◌, ap}
use Rattle.cycle.specs.Standing.{with_inst, without_gone}
use Rattle.back_trail.proofs.SoundLaws.{followed}
use Rattle.back_trail.proofs.remade.Remade.follow.Goals as goal

pub invariant_of-result : goal.invariant_of-result
invariant_of-result c =
    (followed c.self.inside.changes.items c.args.changes.now c.self.inside.marks.keys c.args.self c.self.view_is c.self.invariant c.requires c.args.inst.now false c.args.gone.now c.add_changes.new.changes.items c.drop_marks.new.marks.keys
    c.in_ok-add_changes.ensures
    (c.drop_marks.ensures ∙ ap (λ gone. without_gone gone c.put_mark.new.marks.keys) c.in_ok-copies_of.ensures
    ∙ ap (without_gone c.args.gone.now) (c.in_ok-put_mark.ensures.ok ∙ ap (λ i. with_inst i c.self.inside.marks.keys) c.in_ok-copy.ensures))).1

pub returns : goal.returns
returns c =
    (followed c.self.inside.changes.items c.args.changes.now c.self.inside.marks.keys c.args.self c.self.view_is c.self.invariant c.requires c.args.inst.now false c.args.gone.now c.add_changes.new.changes.items c.drop_marks.new.marks.keys
    c.in_ok-add_changes.ensures
    (c.drop_marks.ensures ∙ ap (λ gone. without_gone gone c.put_mark.new.marks.keys) c.in_ok-copies_of.ensures
    ∙ ap (without_gone c.args.gone.now) (c.in_ok-put_mark.ensures.ok ∙ ap (λ i. with_inst i c.self.inside.marks.keys) c.in_ok-copy.ensures))).0
