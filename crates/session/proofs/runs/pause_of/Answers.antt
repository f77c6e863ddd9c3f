use Rattle.std.proofs.Common.{refl, sym}
use Rattle.session.proofs.runs.pause_of.Goals as goal

pub returns-in_default : goal.returns-in_default
returns-in_default c = λ names. rw c.in_default.is (c.pause_by_count.ensures names)

pub returns-in-Some-pause_by_break : goal.returns-in-Some-pause_by_break
returns-in-Some-pause_by_break c = λ names.
    rw (c.in-Some.is, c.if-fired.false, sym (c.pause_by_break.ensures names), c.in-Some-pause_by_break.is) refl

pub returns-in-None : goal.returns-in-None
returns-in-None c = λ names.
    rw (c.in-Some.is, c.if-fired.false, sym (c.pause_by_break.ensures names), c.in-None.is) (c.pause_by_count-in-None.ensures names)
