use Rattle.std.proofs.Common.{◌∙◌, add-one}
use Rattle.live_rules.proofs.growing.grow_all.Goals as goal

pub loop-number-preserved : goal.loop-number-preserved
loop-number-preserved g c = record {
  course = λ names coming. c.in_ok-state.ensures.course names coming ∙ c.loop-number.invariant.course names coming;
  of = rw add-one c.in_ok-state.ensures.after;
}
