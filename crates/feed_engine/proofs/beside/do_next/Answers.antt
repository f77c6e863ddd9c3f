use Rattle.std.proofs.Common.{refl}
use Rattle.act_phase.specs.State.{doing_of}
use Rattle.act_phase.specs.declared.outcome.ActFault.TheVariants as fault
use Rattle.act_phase.proofs.Deeds.{still_all, still_short}
use Rattle.feed_engine.proofs.Pieces.{no_further}
use Rattle.feed_engine.proofs.Told.{both_err, both_ok}
use Rattle.feed_engine.proofs.beside.do_next.Goals as goal

pub returns-then-settled-count-clause-further : goal.returns-then-settled-count-clause-further
returns-then-settled-count-clause-further g c = no_further g.M.Matcher.stored g.M.Matcher.found g.M.Matcher.stands_for _ _ c.args.feed c.requires.within

pub returns-in_err-more-clause-does : goal.returns-in_err-more-clause-does
returns-in_err-more-clause-does g c =
    record { does = still_short c.from_residual-in_err-more.result fault.OutOfMemory c.from_residual-in_err-more.ensures.1 refl refl (still_all _ _ c.requires.whole) }

pub returns-in_err-feed-clause-does : goal.returns-in_err-feed-clause-does
returns-in_err-feed-clause-does g c =
    let b = c.settle_beside-fed in
    record { does = both_err _ _ _ _ _ c.from_residual-in_err-feed.result b.result.0 b.result.1 _ c.from_residual-in_err-feed.ensures.1 c.in_err-feed.ensures.err b.ensures.does.does }

pub returns-clause-does : goal.returns-clause-does
returns-clause-does g c =
    let b = c.settle_beside-fed in
    record { does = both_ok _ _ _ _ (λ d. doing_of b.new.acting.state b.new.names d) _ b.result.0 b.result.1 c.in_ok-feed.ensures.ok.1 (λ z d. refl) b.ensures.does.does }
