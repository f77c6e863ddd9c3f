-- What a state of the recognise-act cycle holds, and the point that a session has reached in it.
use Rattle.std.specs.Prelude.{ℕ, ◌<◌, List, [], false, ◌↔◌, All, Contains}
use Rattle.ops_base.specs.declared.rules.Inst.{Inst}
use Rattle.ops_base.specs.declared.rules.Rule.{Rule}
use Rattle.ops_base.specs.Instances.{IsInOrder, IsConflictSet}
use Rattle.ops_base.specs.Names.{Spellings}
use Rattle.ops_base.specs.WorkingMemory.{tags_of}
use Rattle.ops_io.specs.Coming.{Coming}
use Rattle.ops_meaning.specs.Kept.{WellKept}
use Rattle.ops_meaning.specs.Running.{Course}
use Rattle.work_store.specs.Stored.{Stored}
use Rattle.conflict_index.specs.Indexed.{Member, Indexed, insts_of, fired_of}

-- its matcher, the index of the conflict set, and the number of firings
pub record Held (M : Type 0) : Type 0 where
  pub matcher : M
  pub index : Indexed
  pub firings : ℕ

-- the point that a session has reached, with these names in use and this input to come
abbrev pub course_of : Stored → Indexed → ℕ → Spellings → Coming → Course
course_of stored index firings names coming = record {
  wm = stored.elements;
  strategy = index.strategy;
  fired = fired_of index.members;
  firings = firings;
  last = stored.last;
  names = names;
  coming = coming;
}

-- the same for a state, if `stored` gives the store of its matcher
abbrev pub state_course : {M : Type 0} → (M → Stored) → Held M → Spellings → Coming → Course
state_course stored s names coming = course_of (stored s.matcher) s.index s.firings names coming

abbrev pub no_names : Spellings
no_names = record { held = []; made = 0 }

abbrev pub no_input : Coming
no_input = record { bytes = []; fails = false }

-- the same with no names and no input, if neither matters
abbrev pub alone : {M : Type 0} → (M → Stored) → Held M → Course
alone stored s = state_course stored s no_names no_input

-- The members of the index are what the matcher has found, in order, and the elements that it stores are well kept,
-- with tags above 0. What it has found is the conflict set of each program that it implements.
pub record Agree (stored : Stored) (found : List Inst) (stands_for : List Rule → Type 0) (members : List Member) : Type 0 where
  pub same : (i : Inst) → Contains (insts_of members) i ↔ Contains found i
  pub in_order : IsInOrder (insts_of members)
  pub well : WellKept stored.elements stored.last
  pub above : All (λ t. 0 < t) (tags_of stored.elements)
  pub set : (rules : List Rule) → stands_for rules → IsConflictSet rules stored.elements found
