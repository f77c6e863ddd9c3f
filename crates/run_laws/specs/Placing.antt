-- Where values are placed.
use Rattle.std.specs.Prelude.{◌≡◌, ℕ, ◌+◌, ◌<◌, ◌≤◌, List, length, slice_get}
use Rattle.ops_base.specs.declared.values.Value.{Value}

-- From this field on, the new fields are the values, and all other fields are unchanged.
pub record StandAt (at : ℕ) (values old new : List Value) : Type 0 where
  pub placed : (k : ℕ) → k < length values → slice_get new (at + k) ≡ slice_get values k
  pub before : (k : ℕ) → k < at → slice_get new k ≡ slice_get old k
  pub after : (k : ℕ) → at + length values ≤ k → slice_get new k ≡ slice_get old k
