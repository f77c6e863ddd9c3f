-- Each line tells of just the tasks that came to terminals.
use Rattle.std.proofs.Common.{subst, sym}
use Rattle.activation.specs.Acting.{TellsOfLasts}
use Rattle.step_core.proofs.gathering.look_over_all.Goals as goal

pub look_over-requires : goal.look_over-requires
look_over-requires c = subst (TellsOfLasts c.args.net.now.nodes) (sym c.line-item.is) (c.requires c.loop-line.line-index c.line-item.result c.loop-line-test.true)
