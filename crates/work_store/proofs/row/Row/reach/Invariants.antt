use Rattle.std.proofs.Common.{◌≡◌, ℕ, ◌+◌, ◌-◌, ◌<◌, ◌≤◌, length}
use Rattle.work_store.specs.Rows.{IsGrown}
use Rattle.work_store.proofs.row.Row.reach.Given as goal

abbrev pub invariant-loop-self : goal.invariant-loop-self
invariant-loop-self g l = record {
  grown : IsGrown l.fn.self.places.items l.self.places.items;
  held : l.self.held ≡ l.fn.self.held;
  within : (n : ℕ) → length l.fn.self.places.items ≤ n → l.at < n → length l.self.places.items ≤ n;
}

abbrev pub decreases-loop-self : goal.decreases-loop-self
decreases-loop-self g l = l.at + 1 - length l.self.places.items
