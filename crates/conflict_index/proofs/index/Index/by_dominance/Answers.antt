use Rattle.std.proofs.Common.{◌≤◌, length, slice_get, subst}
use Rattle.std.specs.HashMap.{spare}
use Rattle.std.specs.Option.{MatchOption}
use Rattle.std.specs.Prelude.{reverse}
use Rattle.conflict_index.specs.Indexed.{Indexed, waiting}
use Rattle.conflict_index.specs.Keeping.{unfired_insts}
use Rattle.conflict_index.specs.Selecting.{IsAt}
use Rattle.conflict_index.proofs.Kept.{viewed_in_order}
use Rattle.conflict_index.proofs.Dominant.{at_place}
use Rattle.conflict_index.proofs.index.Index.by_dominance.Goals as goal

pub returns-clause-places : goal.returns-clause-places
returns-clause-places c = λ place.
    let P : Indexed → Type 0 = λ v. MatchOption (slice_get (reverse (unfired_insts c.values.result)) place) (length (waiting v.members) ≤ place) (λ i. IsAt v.strategy v.members place i) in
    subst P c.self.view_is
    (at_place c.self.inside.strategy c.self.inside.waiting.entries c.self.inside.fired.entries (spare c.self.inside.fired) c.self.invariant c.values.result c.values.ensures.rest place)

pub returns-clause-in_order : goal.returns-clause-in_order
returns-clause-in_order c =
    viewed_in_order c.self.inside.strategy c.self.inside.waiting.entries c.self.inside.fired.entries c.args.self.now c.self.view_is
