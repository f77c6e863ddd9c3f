-- How the trail keeps its states: the oldest one whole, and of each firing since what it changed.
use Rattle.std.specs.Prelude.{◌≡◌, ℕ, ◌<◌, ◌≤◌, ◌-◌, List, [], ◌∷◌, ◌++◌, length, drop, take, All, Option, None, Some}
use Rattle.ops_base.specs.Instances.{IsInOrder}
use Rattle.ops_base.specs.declared.commands.Strategy.{Strategy}
use Rattle.ops_base.specs.declared.elements.Change.{Change}
use Rattle.ops_base.specs.declared.rules.Rule.{Rule}
use Rattle.ops_base.specs.ConflictSet.{conflict_set}
use Rattle.ops_base.specs.Names.{Spellings}
use Rattle.ops_base.specs.Refraction.{still_fired}
use Rattle.ops_base.specs.WorkingMemory.{Lawful, done, last_after, tags_of}
use Rattle.ops_io.specs.Coming.{Coming}
use Rattle.ops_meaning.specs.Running.{Course}
use Rattle.work_store.specs.Stored.{Stored}
use Rattle.ops_base.specs.declared.rules.Inst.{Inst}
use Rattle.ops_meaning.specs.Kept.{WellKept}
use Rattle.cycle.specs.declared.fired.Fired.{Fired}
use Rattle.cycle.specs.Standing.{Standing, after_firing}
use Rattle.back_trail.specs.declared.steps.Step.{Step}
use Rattle.back_trail.specs.declared.steps.Late.{Late}
use Rattle.back_trail.specs.Trails.{Earlier, Begun, last_ones}

-- what holds of a state of the cycle: tags rise from 1 on and none is above the last, and marks stand in order
pub record IsSound (s : Standing) : Type 0 where
  pub well : WellKept s.wm s.last
  pub above : All (λ t. 0 < t) (tags_of s.wm)
  pub in_order : IsInOrder s.fired

-- a firing of which some changes are done already
abbrev pub left_of : Late → Fired
left_of l = record l.fired { changes = drop l.did l.fired.changes }

abbrev pub late_of : Option Late → Option Fired
late_of None = None
late_of (Some l) = Some (left_of l)

-- the state after a firing that may be left to do
abbrev pub after_late : Option Fired → Standing → Standing
after_late None s = s
after_late (Some f) s = after_firing f s

-- the states before these firings
abbrev pub states_from : Standing → List Step → List Earlier
states_from s [] = []
states_from s (t ∷ steps) = record { standing = s; point = t.point } ∷ states_from (after_firing t.fired s) steps

-- the state after them
abbrev pub after_steps : Standing → List Step → Standing
after_steps s [] = s
after_steps s (t ∷ steps) = after_steps (after_firing t.fired s) steps

-- their changes can be done one after another
abbrev pub AreLawful : Standing → List Step → Type 0
AreLawful s [] = Unit {0}
AreLawful s (t ∷ steps) = Lawful s.wm s.last t.fired.changes × AreLawful (after_firing t.fired s) steps

abbrev pub IsLateLawful : Standing → Option Fired → Type 0
IsLateLawful s None = Unit {0}
IsLateLawful s (Some f) = Lawful s.wm s.last f.changes

-- the trail with this oldest state, perhaps a firing from there to the first state shown, and the firings since
abbrev pub begun : Standing → Option Fired → List Step → Begun
begun oldest late steps =
    let first = after_late late oldest in record { states = states_from first steps; now = after_steps first steps }

-- it has one firing more
abbrev pub one_more : Step → Begun → Begun
one_more t b = record {
  states = last_ones (b.states ++ record { standing = b.now; point = t.point } ∷ []);
  now = after_firing t.fired b.now;
}

-- the last n states are taken off, of which this is the earliest
abbrev pub cut_to : ℕ → Earlier → Begun → Begun
cut_to n e b = record { states = take (length b.states - n) b.states; now = e.standing }

-- what a trail keeps true of these
pub record IsTrail (oldest : Standing) (late : Option Fired) (steps : List Step) : Type 0 where
  pub late_lawful : IsLateLawful oldest late
  pub lawful : AreLawful (after_late late oldest) steps
  pub few : length steps ≤ 32

-- What the oldest state keeps true of its store, its marks and its last tag.
pub record IsHeld (store : Stored) (fired : List Inst) (last : ℕ) : Type 0 where
  pub below : store.last ≤ last
  pub sound : IsSound (record { wm = store.elements; fired = fired; last = last })

-- ---- a state that is made anew

-- what these changes make from nothing, with these marks
abbrev pub remade : List Change → List Inst → Standing
remade changes fired = record { wm = done [] changes; fired = fired; last = last_after 0 changes }

pub record IsRemade (changes : List Change) (fired : List Inst) : Type 0 where
  pub lawful : Lawful [] 0 changes
  pub sound : IsSound (remade changes fired)

-- what a session has come to in a state whose marks are looked for in the conflict set
abbrev pub course_over : List Rule → Standing → Strategy → ℕ → Spellings → Coming → Course
course_over rules s strategy firings names coming = record {
  wm = s.wm;
  strategy = strategy;
  fired = still_fired (conflict_set rules s.wm) s.fired;
  firings = firings;
  last = s.last;
  names = names;
  coming = coming;
}

-- ---- the firings

-- these behind one that was taken off, if one was
abbrev pub with_first : Option Step → List Step → List Step
with_first None steps = steps
with_first (Some t) steps = t ∷ steps

-- One is taken off only from 32.
abbrev pub IsOver : Option Step → ℕ → Type 0
IsOver None n = n < 32
IsOver (Some t) n = n ≡ 32

-- what was taken off is the firing from the oldest state
abbrev pub given_up : Option Step → Option Fired
given_up None = None
given_up (Some t) = Some t.fired
