-- The point that a session has reached, as the code represents it.
use Rattle.std.specs.Prelude.{◌≡◌, ℕ, List, [], length, Bool, true, false, Option, Some, None, Result, Err}
use Rattle.ops_base.specs.declared.commands.Command.{Command}
use Rattle.ops_base.specs.declared.commands.Command.TheVariants as command
use Rattle.ops_base.specs.declared.elements.Change.{Change}
use Rattle.ops_base.specs.declared.endings.Ending.{Ending}
use Rattle.ops_base.specs.declared.endings.Ending.TheVariants as ending
use Rattle.ops_base.specs.declared.rules.Inst.{Inst}
use Rattle.ops_base.specs.declared.rules.Rule.{Rule}
use Rattle.ops_base.specs.WorkingMemory.{done, last_after, Lawful}
use Rattle.ops_base.specs.Names.{Spellings}
use Rattle.ops_base.specs.Refraction.{unfired}
use Rattle.ops_io.specs.Coming.{Coming}
use Rattle.ops_meaning.specs.Running.{Course, Session as Meant, ranked}
use Rattle.conflict_index.specs.Indexed.{Indexed, insts_of, fired_of, KeepsSpecificities}
use Rattle.cycle.specs.States.{Held, alone, state_course}
use Rattle.work_store.specs.Stored.{Stored}
use Rattle.live_rules.specs.Moves.{Places, insts_moved, unmoved}
use Rattle.live_rules.specs.Renewing.{IsFrom}
use Rattle.session.specs.declared.session.Session.{Session}

-- the point that a session has reached, after the changes that wait are made
abbrev pub with_pending : List Change → Course → Course
with_pending changes m = record m { wm = done m.wm changes; last = last_after m.last changes }

-- marks under the new numbers of their productions, if there are new numbers
abbrev pub marks_moved : Option Places → List Inst → List Inst
marks_moved None fired = fired
marks_moved (Some places) fired = insts_moved places fired

-- the same point, with the marks under these numbers
abbrev pub with_moved : Option Places → Course → Course
with_moved moved m = record m { fired = marks_moved moved m.fired }

-- the point that a session has reached, if `stored` gives the store of its matcher
abbrev pub course_of : {M H : Type 0} → (M → Stored) → Session M H → Spellings → Coming → Course
course_of stored s names coming = with_pending s.pending (with_moved s.moved (state_course stored s.state names coming))

-- the same, together with the productions in force, which are these, and with the session's trace level and breaks, but
-- without a trail
abbrev pub meant_by : {M H : Type 0} → (M → Stored) → List Rule → Session M H → Spellings → Coming → Meant
meant_by stored rules s names coming =
    record { course = course_of stored s names coming; rules = rules; watch = s.watch; breaks = s.breaks; trail = None }

-- The matcher of a state implements the program of these rules, and its index keeps their specificities.
pub record IsOf {M : Type 0} (stands_for : M → List Rule → Type 0) (rules : List Rule) (s : Held M) : Type 0 where
  pub stands : stands_for s.matcher rules
  pub specificities : KeepsSpecificities rules s.index.members

-- the new numbers so far, or if there are none, those of this many productions none of which has moved
abbrev pub places_of : Option Places → ℕ → Places
places_of None n = unmoved n
places_of (Some places) n = places

-- The state is that of these productions, or of older ones from which these places lead to them.
abbrev pub IsFollowed : {M : Type 0} → (M → List Rule → Type 0) → List Rule → Option Places → Held M → Type 0
IsFollowed stands_for rules None s = IsOf stands_for rules s
IsFollowed stands_for rules (Some places) s = IsFrom stands_for places rules s

-- The productions in force are these. Changes wait only before the first run, while no instantiation is marked. They
-- are lawful, and the session has the last tag that they assigned.
pub record IsUnderWay {M H : Type 0} (stored : M → Stored) (stands_for : M → List Rule → Type 0) (rules : List Rule) (s : Session M H) : Type 0 where
  pub state : IsFollowed stands_for rules s.moved s.state
  pub unmarked : s.ran ≡ false → (alone stored s.state).fired ≡ []
  pub none_waits : s.ran ≡ true → s.pending ≡ []
  pub lawful : Lawful (alone stored s.state).wm (alone stored s.state).last s.pending
  pub last : s.last_tag ≡ last_after (alone stored s.state).last s.pending

-- the instantiations of an index that have not fired, the dominant one first
abbrev pub standing_in : List Rule → Indexed → List Inst
standing_in rules x = let insts = unfired (insts_of x.members) (fired_of x.members) in ranked (length insts) x.strategy rules insts

-- the input failed
abbrev pub ends_unread : {X : Type 0} → Result X Ending → Bool
ends_unread (Err ending.ReadFault) = true
ends_unread _ = false

-- What a command requires of a session: nothing waits if the command reads working memory, and the state is that of the
-- productions in force if it reads the conflict set.
abbrev pub IsReadyFor : {M H : Type 0} → Command → Session M H → Type 0
IsReadyFor (command.Make class puts) s = s.ran ≡ true → s.moved ≡ None
IsReadyFor (command.Remove tags) s = (s.pending ≡ []) × (s.moved ≡ None)
IsReadyFor command.RemoveAll s = (s.pending ≡ []) × (s.moved ≡ None)
IsReadyFor (command.Run count) s = (s.pending ≡ []) × (s.moved ≡ None)
IsReadyFor command.Cs s = (s.pending ≡ []) × (s.moved ≡ None)
IsReadyFor (command.Wm tags) s = s.pending ≡ []
IsReadyFor (command.Ppwm pattern) s = s.pending ≡ []
IsReadyFor (command.Matches names) s = s.pending ≡ []
IsReadyFor (command.Pm names) s = Unit {0}
IsReadyFor (command.Strategy set) s = Unit {0}
IsReadyFor (command.Watch set) s = Unit {0}
IsReadyFor (command.Pbreak names) s = Unit {0}
IsReadyFor (command.Add r) s = Unit {0}
IsReadyFor (command.Excise names) s = Unit {0}
IsReadyFor (command.Back count) s = Unit {0}
IsReadyFor command.Exit s = Unit {0}

-- it adds productions to those in force, or removes some, or does so by its firings
abbrev pub changes_productions : Command → Bool
changes_productions (command.Add r) = true
changes_productions (command.Excise names) = true
changes_productions (command.Make class puts) = false
changes_productions (command.Remove tags) = false
changes_productions command.RemoveAll = false
changes_productions (command.Run count) = true
changes_productions (command.Wm tags) = false
changes_productions (command.Ppwm pattern) = false
changes_productions command.Cs = false
changes_productions (command.Pm names) = false
changes_productions (command.Strategy set) = false
changes_productions (command.Watch set) = false
changes_productions (command.Pbreak names) = false
changes_productions (command.Back count) = false
changes_productions (command.Matches names) = false
changes_productions command.Exit = false
