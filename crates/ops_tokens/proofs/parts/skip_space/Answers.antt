use Rattle.std.proofs.lemmas.Result.{err_from_is_err_and}
use Rattle.ops_tokens.proofs.Taking.{counted_more, counted_end, counted_stopped}
use Rattle.ops_tokens.proofs.parts.skip_space.Goals as goal

pub returns-in_err-take_of : goal.returns-in_err-take_of
returns-in_err-take_of g c =
    let p = err_from_is_err_and c.from_residual.result c.from_residual.ensures.1 in
    rw (p.1, p.2) (counted_stopped _ c.loop-count.count _ _ _ c.loop-count.invariant c.in_err-take_of.ensures)

pub loop-count-preserved : goal.loop-count-preserved
loop-count-preserved g c = counted_more c.loop-count.count c.in_ok-take_of.field-0 _ _ _ c.if-is_some.ensures c.loop-count.invariant c.in_ok-take_of.ensures

pub returns : goal.returns
returns g c = counted_end c.loop-count.count c.in_ok-take_of.field-0 _ _ _ c.if-is_some.ensures c.loop-count.invariant c.in_ok-take_of.ensures
