use Rattle.std.proofs.lemmas.Result.{err_from_is_err_and}
use Rattle.ops_io.specs.declared.stop.Stop.TheVariants as stop
use Rattle.ops_io.proofs.PortLemmas.{underway_step, underway_stop}
use Rattle.ops_print.proofs.Shown.{tags_here}
use Rattle.ops_print.proofs.instances.put_tags.Goals as goal

pub returns-in_err-put_numbered-clause-puts : goal.returns-in_err-put_numbered-clause-puts
returns-in_err-put_numbered-clause-puts g c =
    let p = err_from_is_err_and c.from_residual.result c.from_residual.ensures.1 in
    rw p.1 (underway_stop stop.Write _ _ _ _ _ _ _ c.loop-tag.invariant (tags_here c.args.tags.now c.loop-tag.tag-index _ c.loop-tag-test.true) c.in_err-put_numbered.ensures.puts)

pub loop-tag-preserved : goal.loop-tag-preserved
loop-tag-preserved g c = underway_step _ _ _ _ _ _ _ c.loop-tag.invariant (tags_here c.args.tags.now c.loop-tag.tag-index _ c.loop-tag-test.true) c.in_ok-put_numbered.ensures.puts
