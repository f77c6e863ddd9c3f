use Rattle.std.proofs.Common.{sym, ap, ◌∙◌}
use Rattle.act_phase.specs.Deeds.{fields_found}
use Rattle.act_phase.proofs.Deeds.{gives_short}
use Rattle.act_phase.proofs.Placing.{none_placed}
use Rattle.act_phase.proofs.fields.place_values.Goals as goal

pub returns-then-at-ge-MOST_FIELDS : goal.returns-then-at-ge-MOST_FIELDS
returns-then-at-ge-MOST_FIELDS c =
    let l = c.loop-value in
    ap fields_found (sym l.invariant ∙ none_placed l.at l.value-index c.args.values.now l.fields.items c.if-at-ge-MOST_FIELDS.true c.loop-value-test.true)

pub returns-in_err-place_value : goal.returns-in_err-place_value
returns-in_err-place_value c = gives_short _ _ _ c.from_residual.ensures.1
