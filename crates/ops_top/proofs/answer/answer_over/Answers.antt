use Rattle.std.proofs.Common.{sym}
use Rattle.ops_top.proofs.answer.answer_over.Goals as goal

pub returns : goal.returns
returns g c = rw (sym c.new-live.ensures) c.answer_live-answered.ensures
