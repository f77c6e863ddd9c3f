-- How a state of the cycle changes when productions come and go.
use Rattle.std.specs.Prelude.{List}
use Rattle.ops_base.specs.declared.rules.Rule.{Rule}
use Rattle.ops_meaning.specs.Running.{Course}
use Rattle.conflict_index.specs.Indexed.{KeepsSpecificities}
use Rattle.cycle.specs.States.{Held}
use Rattle.live_rules.specs.Moves.{Places, Leads, insts_moved}

-- The state is that of older productions, from which these places lead to those in force.
pub record IsFrom {M : Type 0} (stands_for : M → List Rule → Type 0) (places : Places) (rules : List Rule) (s : Held M) : Type 0 where
  pub old : List Rule
  pub leads : Leads places old rules
  pub stands : stands_for s.matcher old
  pub specificities : KeepsSpecificities old s.index.members

-- The state is that of these productions.
pub record IsOf {M : Type 0} (stands_for : M → List Rule → Type 0) (rules : List Rule) (s : Held M) : Type 0 where
  pub stands : stands_for s.matcher rules
  pub specificities : KeepsSpecificities rules s.index.members

-- the marks of the productions that stay, under their new numbers
abbrev pub moved_course : Places → Course → Course
moved_course places m = record m { fired = insts_moved places m.fired }
