-- One turn of a run.
use Rattle.std.specs.Prelude.{ℕ, Option}
use Rattle.ops_base.specs.declared.endings.Ending.{Ending}
use Rattle.ops_base.specs.declared.rules.Inst.{Inst}
use Rattle.ops_meaning.specs.Acting.{Setting}
use Rattle.ops_meaning.specs.Effects.{Effect, told_as}
use Rattle.ops_meaning.specs.Running.{Session, LastFiring, Turned, firing, in_force, last_of, turned_on}

-- what a turn leaves: the session, and the firing that was made
pub record TurnLeft : Type 0 where
  pub session : Session
  pub last : Option LastFiring

-- what a turn leaves of this session whose firing left this
abbrev pub turn_left : Inst → Session → Turned → TurnLeft
turn_left i k t = record { session = turned_on t k; last = last_of k.rules i t }

-- A turn fires this instantiation, and then the productions that the firing built are added.
abbrev pub turn_fired : Setting → ℕ → Inst → Session → Effect Ending TurnLeft
turn_fired s column i k = told_as (turn_left i k) (λ f. f) (firing (in_force s k) column i k.course)
