use Rattle.std.proofs.Common.{◌∙◌, ap}
use Rattle.cycle.proofs.Stores.{stored_kept}
use Rattle.cycle.proofs.state.last_of.Goals as goal

pub returns-clause-kept : goal.returns-clause-kept
returns-clause-kept g c = stored_kept c.store.result.now (g.M.Matcher.stored c.args.matcher.now) (c.store.ensures.stored ∙ ap g.M.Matcher.stored c.get.ensures) c.last.ensures.stored
