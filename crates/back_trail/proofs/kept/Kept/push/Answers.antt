use Rattle.back_trail.specs.Kept.{late_of}
use Rattle.back_trail.proofs.TrailLaws.{push_all}
use Rattle.back_trail.proofs.kept.Kept.push.Goals as goal

pub returns-clause-ok : goal.returns-clause-ok
returns-clause-ok c =
    (push_all c.self.inside.oldest c.catch_up.new.oldest c.self.inside.late c.catch_up.new.late c.self.inside.steps.items c.add_step.new.steps.items c.args.step c.in_ok-add_step.field-0 c.args.self.now c.self.view_is c.self.invariant
    c.in_ok-catch_up.ensures.none c.in_ok-catch_up.ensures.same c.in_ok-add_step.ensures.ok c.in_ok-add_step.ensures.first c.in_ok-add_step.ensures.few c.requires (late_of c.late_from.result) c.late_from.ensures).0

pub invariant_of-self-2 : goal.invariant_of-self-2
invariant_of-self-2 c =
    (push_all c.self.inside.oldest c.catch_up.new.oldest c.self.inside.late c.catch_up.new.late c.self.inside.steps.items c.add_step.new.steps.items c.args.step c.in_ok-add_step.field-0 c.args.self.now c.self.view_is c.self.invariant
    c.in_ok-catch_up.ensures.none c.in_ok-catch_up.ensures.same c.in_ok-add_step.ensures.ok c.in_ok-add_step.ensures.first c.in_ok-add_step.ensures.few c.requires (late_of c.late_from.result) c.late_from.ensures).1
