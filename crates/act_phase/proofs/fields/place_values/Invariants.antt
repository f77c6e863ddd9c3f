use Rattle.std.proofs.Common.{◌≡◌, drop}
use Rattle.ops_meaning.specs.Acting.{values_placed}
use Rattle.act_phase.proofs.fields.place_values.Given as goal

abbrev pub invariant-loop-value : goal.invariant-loop-value
invariant-loop-value l =
    values_placed l.at (drop l.value-index l.values) l.fields.items ≡ values_placed l.from l.values l.fn.fields.items
