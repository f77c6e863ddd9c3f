use Rattle.std.proofs.Common.{refl, ◌∙◌, arith}
use Rattle.std.proofs.lemmas.Grind.{common_steps}
use Rattle.act_phase.proofs.Following.{stays_as, goes_on_then}
use Rattle.act_phase.proofs.right_side.remove.Goals as goal

pub loop-cell-init : goal.loop-cell-init
loop-cell-init c = record { does = λ names coming. refl; goes_on = stays_as c.args.doing.now.working; setting = refl }

pub loop-cell-preserved : goal.loop-cell-preserved
loop-cell-preserved c = record {
  does = λ names coming. grind (arith, common_steps, c.loop-cell.invariant.does names coming, c.in_ok-remove.ensures.does names coming);
  goes_on = goes_on_then _ _ _ c.loop-cell.invariant.goes_on c.in_ok-remove.ensures.goes_on;
  setting = c.remove.ensures.setting ∙ c.loop-cell.invariant.setting;
}

pub returns : goal.returns
returns c = record {
  does = λ names coming. grind (arith, common_steps, c.loop-cell.invariant.does names coming);
  goes_on = c.loop-cell.invariant.goes_on;
  setting = c.loop-cell.invariant.setting;
}
