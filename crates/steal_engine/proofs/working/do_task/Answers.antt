use Rattle.steal_engine.proofs.Grown.{all_fit}
use Rattle.steal_engine.proofs.working.do_task.Goals as goal

pub returns-in-Ok-clause-fit : goal.returns-in-Ok-clause-fit
returns-in-Ok-clause-fit g c _ = all_fit g.J.Fitting.fits c.args.phase.now.net.now.nodes c.args.phase.now.store.now c.args.task _ _ c.args.list.now.items c.activate_in.new.out.items c.requires.ready.meant c.in-Ok.ensures.ok c.requires.fit
