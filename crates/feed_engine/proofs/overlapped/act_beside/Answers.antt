use Rattle.std.proofs.Common.{refl}
use Rattle.act_phase.specs.Outcomes.{setting_of}
use Rattle.act_phase.proofs.Steps.{whole_short}
use Rattle.feed_engine.proofs.Whole.{all_elements, all_last, does_paired, does_err}
use Rattle.feed_engine.proofs.overlapped.act_beside.Goals as goal

pub act_and_settle-requires-clause-excerpt : goal.act_and_settle-requires-clause-excerpt
act_and_settle-requires-clause-excerpt g c κs w = rw c.store.ensures.stored at c.in_ok-part.ensures.excerpt

pub act_and_settle-requires-clause-last : goal.act_and_settle-requires-clause-last
act_and_settle-requires-clause-last g c κs w = rw c.store.ensures.stored at c.in_ok-part.ensures.last

pub returns-in_err-part-clause-does : goal.returns-in_err-part-clause-does
returns-in_err-part-clause-does g c =
    let stored = g.M.Matcher.stored c.args.matcher in
    whole_short (setting_of c.args.ground.now.program.now c.args.ground.now.watch) c.args.inst.now stored.elements stored.last _ _ c.from_residual.result c.from_residual.ensures.1 c.requires.whole

pub returns-in_err-acted-clause-does : goal.returns-in_err-acted-clause-does
returns-in_err-acted-clause-does g c = does_err _ c.from_residual-in_err-acted.result c.from_residual-in_err-acted.ensures.1 c.in_err-acted.ensures.does

pub returns-clause-does : goal.returns-clause-does
returns-clause-does g c = does_paired refl c.in_ok-acted.ensures.does

pub returns-clause-elements : goal.returns-clause-elements
returns-clause-elements g c = all_elements g.M.Matcher.stored g.M.Matcher.found g.M.Matcher.stands_for c.args.matcher c.in_ok-acted.acted.changes c.in_ok-acted.feed c.in_ok-acted.ensures.settled

pub returns-clause-last : goal.returns-clause-last
returns-clause-last g c = all_last g.M.Matcher.stored g.M.Matcher.found g.M.Matcher.stands_for c.args.matcher c.in_ok-acted.acted.changes c.in_ok-acted.feed c.in_ok-acted.ensures.settled

pub returns-clause-settled : goal.returns-clause-settled
returns-clause-settled g c = c.in_ok-acted.ensures.settled.changed

pub returns-clause-stands : goal.returns-clause-stands
returns-clause-stands g c = c.in_ok-acted.ensures.settled.stands
