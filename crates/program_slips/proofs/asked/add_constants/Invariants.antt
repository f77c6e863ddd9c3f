use Rattle.std.proofs.Common.{◌≡◌, ◌++◌, drop}
use Rattle.std.specs.Prelude.{map}
use Rattle.program_slips.specs.declared.asked.What.TheVariants as what
use Rattle.program_slips.specs.Asked.{ask_at}
use Rattle.program_slips.proofs.asked.add_constants.Given as goal

abbrev pub invariant-loop-value : goal.invariant-loop-value
invariant-loop-value l =
    l.initial.asks.items ++ map (λ v. ask_at l.place.at l.place.number l.place.class (what.Constant l.field v)) l.values
    ≡ l.asks.items ++ map (λ v. ask_at l.place.at l.place.number l.place.class (what.Constant l.field v)) (drop l.value-index l.values)
