use Rattle.std.proofs.Common.{◌∙◌, ap, sym, ◌+◌, drop, ◌&&◌}
use Rattle.ops_meaning.specs.Running.{has_values}
use Rattle.session.proofs.Values.{values_here}
use Rattle.session.proofs.lists.has_values.Goals as goal

pub returns-then-not-is_same : goal.returns-then-not-is_same
returns-then-not-is_same c =
    let place = c.loop-place.place in
    sym (ap (λ b. b && has_values c.args.element.now (c.args.field + (place + 1)) (drop (place + 1) c.args.values.now)) c.if-not-is_same.true)
    ∙ sym (values_here c.args.element.now c.args.field c.fields_from-fields.result.now c.args.values.now place _ c.value_at.result c.is_same.result c.fields_from-fields.ensures c.value_at.ensures c.is_same.ensures c.loop-place-test.true)
    ∙ c.loop-place.invariant

pub loop-place-preserved : goal.loop-place-preserved
loop-place-preserved c =
    let place = c.loop-place.place in
    sym (ap (λ b. b && has_values c.args.element.now (c.args.field + (place + 1)) (drop (place + 1) c.args.values.now)) c.if-not-is_same.false)
    ∙ sym (values_here c.args.element.now c.args.field c.fields_from-fields.result.now c.args.values.now place _ c.value_at.result c.is_same.result c.fields_from-fields.ensures c.value_at.ensures c.is_same.ensures c.loop-place-test.true)
    ∙ c.loop-place.invariant
