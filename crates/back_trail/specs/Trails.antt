-- The trail as a contract sees it: the states before the firings that it keeps, and the state after them.
use Rattle.std.specs.Prelude.{ℕ, ◌≤◌, ◌-◌, List, [], ◌∷◌, ◌++◌, length, drop, take, All, Contains, Option, None, Some}
use Rattle.ops_base.specs.declared.rules.Rule.{Rule}
use Rattle.ops_base.specs.declared.symbols.Point.{Point}
use Rattle.ops_base.specs.ConflictSet.{conflict_set}
use Rattle.ops_base.specs.Names.{Spellings}
use Rattle.ops_meaning.specs.Running.{Course}
use Rattle.cycle.specs.declared.fired.Fired.{Fired}
use Rattle.cycle.specs.Standing.{Standing, after_firing}

-- the state before a firing, and where the names stood
pub record Earlier : Type 0 where
  pub standing : Standing
  pub point : Point

-- the states before the firings that are kept, the oldest first, and the state after them all; none where none is known
pub record Trailed : Type 0 where
  pub states : List Earlier
  pub now : Option Standing

abbrev pub nothing_kept : Trailed
nothing_kept = record { states = []; now = None }

-- the same where a state after them is known
pub record Begun : Type 0 where
  pub states : List Earlier
  pub now : Standing

abbrev pub trail_of : Option Begun → Trailed
trail_of None = nothing_kept
trail_of (Some b) = record { states = b.states; now = Some b.now }

-- of the states the last 32
abbrev pub last_ones : List Earlier → List Earlier
last_ones states = drop (length states - 32) states

-- The trail has one firing more, which was made in this state, with the names at this point.
abbrev pub with_firing : Standing → Point → Fired → Trailed → Trailed
with_firing s point f t = record {
  states = last_ones (t.states ++ record { standing = s; point = point } ∷ []);
  now = Some (after_firing f s);
}

-- The last n states are taken off, of which this is the earliest.
abbrev pub taken_back : ℕ → Earlier → Trailed → Trailed
taken_back n e t = record { states = take (length t.states - n) t.states; now = Some e.standing }

-- ---- what comes back

-- the first of these names, as many as a point has, with its number of fresh atoms: the names that were in use at the
-- point, if names were only added since
abbrev pub names_at : Point → Spellings → Spellings
names_at point names = record { held = take point.held names.held; made = point.fresh }

-- Working memory, the marks and the last tag are those of an earlier state, and all else stays.
abbrev pub gone_back : Earlier → Course → Course
gone_back e m = record m { wm = e.standing.wm; fired = e.standing.fired; last = e.standing.last }

-- ---- what the caller keeps true

-- Each point has at least this many spellings and no fewer than the one before it, and these names have no fewer than
-- the last.
abbrev pub AreNamedFrom : ℕ → Spellings → List Earlier → Type 0
AreNamedFrom least names [] = least ≤ length names.held
AreNamedFrom least names (e ∷ states) = (least ≤ e.point.held) × AreNamedFrom e.point.held names states

-- Each point has at least one spelling and no fewer than the point before it, and none has more than these names. So it
-- is if these names gave the points one after another, and none was gone back to behind a later one.
abbrev pub AreNamedBy : Spellings → List Earlier → Type 0
AreNamedBy names states = AreNamedFrom 1 names states

-- what is marked in a state is in the conflict set of these productions over its elements
abbrev pub IsMarkedIn : List Rule → Standing → Type 0
IsMarkedIn rules s = All (Contains (conflict_set rules s.wm)) s.fired

-- the same of each state
abbrev pub AreMarkedIn : List Rule → List Earlier → Type 0
AreMarkedIn rules [] = Unit {0}
AreMarkedIn rules (e ∷ states) = IsMarkedIn rules e.standing × AreMarkedIn rules states
