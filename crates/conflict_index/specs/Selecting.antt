-- Which member fires, and which is at a given place in the order of dominance.
use Rattle.std.specs.Prelude.{◌≡◌, ◌≢◌, ℕ, List, length, filter, IsTrue, Contains}
use Rattle.ops_base.specs.declared.commands.Strategy.{Strategy}
use Rattle.ops_base.specs.declared.rules.Inst.{Inst}
use Rattle.conflict_index.specs.Indexed.{Member, waiting, outranks}

-- the instantiation has not fired, and outranks all others that have not fired
pub record IsFirst (strategy : Strategy) (members : List Member) (i : Inst) : Type 0 where
  pub member : (m : Member) × Contains (waiting members) m × (m.inst ≡ i)
  pub above : (m n : Member)
      → Contains (waiting members) m → m.inst ≡ i → Contains (waiting members) n → n.inst ≢ i → IsTrue (outranks strategy m n)

-- the instantiation has not fired, and exactly this many of the others that have not fired outrank it
pub record IsAt (strategy : Strategy) (members : List Member) (place : ℕ) (i : Inst) : Type 0 where
  pub member : (m : Member) × Contains (waiting members) m × (m.inst ≡ i)
      × (length (filter (λ n. outranks strategy n m) (waiting members)) ≡ place)
