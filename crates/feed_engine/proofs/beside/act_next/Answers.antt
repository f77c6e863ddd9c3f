use Rattle.feed_engine.proofs.beside.act_next.Goals as goal

pub returns-clause-does : goal.returns-clause-does
returns-clause-does g c = record { does = c.next.ensures.does c.args.action.now c.requires.next }
