use Rattle.std.proofs.Common.{◌≡◌, ℕ, ◌++◌, map, drop}
use Rattle.why_lines.specs.declared.spots.Spot.{Spot}
use Rattle.why_lines.specs.WhyLines.{fields_bound}
use Rattle.why_lines.proofs.spots.add_spots.Given as goal

abbrev pub invariant-loop-test : goal.invariant-loop-test
invariant-loop-test l =
    let spot : ℕ → Spot = λ f. record { place = l.place; class = l.c.class; field = f } in
    l.spots.items ++ map spot (fields_bound (drop l.test-index l.test-items)) ≡ l.fn.spots.items ++ map spot (fields_bound l.c.tests)
