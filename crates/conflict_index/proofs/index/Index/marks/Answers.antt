use Rattle.std.proofs.Common.{ap, ◌∙◌}
use Rattle.std.specs.HashMap.{spare}
use Rattle.conflict_index.specs.Indexed.{Indexed, fired_of}
use Rattle.conflict_index.proofs.Restored.{marks_are, marks_in_order}
use Rattle.conflict_index.proofs.index.Index.marks.Goals as goal

pub returns-clause-marks : goal.returns-clause-marks
returns-clause-marks c =
    marks_are c.self.inside.strategy c.self.inside.waiting.entries c.self.inside.fired.entries (spare c.self.inside.fired) c.self.invariant c.in_ok-marked.field-0.items c.in_order.result.items c.in_ok-marked.ensures
    c.in_order.ensures.same c.in_order.ensures.order
    ∙ ap (λ (x : Indexed). fired_of x.members) c.self.view_is

pub returns-clause-in_order : goal.returns-clause-in_order
returns-clause-in_order c =
    marks_in_order c.self.inside.strategy c.self.inside.waiting.entries c.self.inside.fired.entries (spare c.self.inside.fired) c.self.invariant c.in_ok-marked.field-0.items c.in_order.result.items c.in_ok-marked.ensures
    c.in_order.ensures.same c.in_order.ensures.order
