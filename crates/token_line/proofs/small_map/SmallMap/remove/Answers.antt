-- The pairs that stay have the keys and values that they had.
use Rattle.std.proofs.Common.{◌<◌, ◌≡◌, IfSome, None, cond, length, slice_get, subst, sym}
use Rattle.std.specs.Map.{lookup}
use Rattle.token_line.specs.inner.SmallMap.{pairs_in}
use Rattle.token_line.proofs.SmallMapLemmas.{removed_apart, removed_values}
use Rattle.token_line.proofs.small_map.SmallMap.remove.Goals as goal

pub invariant_of-self : goal.invariant_of-self
invariant_of-self g c =
    removed_apart g.met.K.Eq.laws (pairs_in c.self.inside.room) (pairs_in c.remove.new.self) c.args.place
    (subst (λ l. c.args.place < length l) (sym c.self.view_is) c.requires) c.self.invariant c.remove.ensures

pub returns-clause-values : goal.returns-clause-values
returns-clause-values g c =
    let eq = g.K.PartialEq.eq in
    let new = pairs_in c.remove.new.self in
    subst (λ l. IfSome (slice_get l c.args.place) (λ e. (k : g.row.K.Denot) → lookup (eq k) new ≡ cond (eq k e.0) None (lookup (eq k) l))) c.self.view_is
    (removed_values g.met.K.Eq.laws (pairs_in c.self.inside.room) new c.args.place c.self.invariant c.remove.ensures)
