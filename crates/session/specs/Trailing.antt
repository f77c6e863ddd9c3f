-- A session with the trail by which its last firings can be undone.
use Rattle.std.specs.Prelude.{◌≡◌, ℕ, List, [], map, Bool, true, false, Option, Some, None, option_map, Result, Ok, Err, IfOk, length}
use Rattle.ops_base.specs.declared.commands.Command.{Command}
use Rattle.ops_base.specs.declared.commands.Command.TheVariants as command
use Rattle.ops_base.specs.declared.endings.Ending.{Ending}
use Rattle.ops_base.specs.declared.endings.Ending.TheVariants as ending
use Rattle.ops_base.specs.declared.rules.Rule.{Rule}
use Rattle.ops_base.specs.Names.{Spellings}
use Rattle.ops_io.specs.Coming.{Coming}
use Rattle.ops_io.specs.Ports.{Port}
use Rattle.ops_io.specs.declared.stop.Stop.{Stop}
use Rattle.ops_io.specs.declared.stop.Stop.TheVariants as stop
use Rattle.ops_meaning.specs.Effects.{Effect, Performs, of_ending}
use Rattle.ops_meaning.specs.Running.{Course, Earlier, Session as Meant}
use Rattle.cycle.specs.Standing.{Standing}
use Rattle.cycle.specs.States.{no_names, no_input, state_course}
use Rattle.work_store.specs.Stored.{Stored}
use Rattle.back_trail.specs.Trails.{Trailed, Earlier as Kept, names_at, AreMarkedIn, AreNamedFrom}
use Rattle.session.specs.Courses.{IsUnderWay, course_of, ends_unread, meant_by}
use Rattle.session.specs.declared.undoable.Undoable.{Undoable}

-- a state that the trail keeps, where these names are in use now
abbrev pub earlier_by : Spellings → Kept → Earlier
earlier_by names e = record { wm = e.standing.wm; fired = e.standing.fired; last = e.standing.last; names = names_at e.point names }

abbrev pub trail_by : Spellings → Option Trailed → Option (List Earlier)
trail_by names trail = option_map (λ t. map (earlier_by names) t.states) trail

-- the states that a trail keeps, none where there is no trail
abbrev pub states_of : Option Trailed → List Kept
states_of None = []
states_of (Some t) = t.states

-- what a session has come to with its trail
abbrev pub meant_with : {M H : Type 0} → (M → Stored) → List Rule → Undoable M H → Spellings → Coming → Meant
meant_with stored rules u names coming = record (meant_by stored rules u.session names coming) { trail = trail_by names u.trail }

-- what a trail keeps of a course
abbrev pub standing_of : Course → Standing
standing_of m = record { wm = m.wm; fired = m.fired; last = m.last }

-- What the trail knows of now is what the session has come to, and the marks of each state are in the conflict set of the
-- productions in force.
abbrev pub IsTrailOf : List Rule → Course → Option Trailed → Type 0
IsTrailOf rules m None = Unit {0}
IsTrailOf rules m (Some t) = ((s : Standing) → t.now ≡ Some s → s ≡ standing_of m) × AreMarkedIn rules t.states

-- The points of the trail have at least this many spellings, and no more than these names, and rise.
abbrev pub IsNamedFrom : ℕ → Spellings → Option Trailed → Type 0
IsNamedFrom least names None = Unit {0}
IsNamedFrom least names (Some t) = AreNamedFrom least names t.states

-- the session is under way, and its trail is that of what it has come to
pub record IsUndoable {M H : Type 0} (stored : M → Stored) (stands_for : M → List Rule → Type 0) (rules : List Rule) (u : Undoable M H) : Type 0 where
  pub under_way : IsUnderWay stored stands_for rules u.session
  pub trail : IsTrailOf rules (course_of stored u.session no_names no_input) u.trail

-- what a session has come to where nothing waits and no number has changed
abbrev pub ready_with : {M H : Type 0} → (M → Stored) → List Rule → Undoable M H → Spellings → Coming → Meant
ready_with stored rules u names coming = record {
  course = state_course stored u.session.state names coming;
  rules = rules;
  watch = u.session.watch;
  breaks = u.session.breaks;
  trail = trail_by names u.trail;
}

-- so its trail is that of its state
abbrev pub IsTrailed : {M H : Type 0} → (M → Stored) → List Rule → Undoable M H → Type 0
IsTrailed stored rules u = IsTrailOf rules (state_course stored u.session.state no_names no_input) u.trail

-- What a command leaves that reads no input and lets the names be, where these are the productions in force before it and
-- after it. Whatever input is to come, it performs this, and the session and its trail are kept so.
pub record DoesWith {M H : Type 0} (stored : M → Stored) (stands_for : M → List Rule → Type 0) (old new : List Rule) (names : Spellings) (before : Undoable M H) (r : Result (Undoable M H) Ending) (a b : Port) (e : Meant → Effect Ending Meant) : Type 0 where
  pub performs : (c : Coming) → Performs (λ u. meant_with stored new u names c) of_ending r a b (e (meant_with stored old before names c))
  pub reads : ends_unread r ≡ false
  pub undoable : IfOk r (IsUndoable stored stands_for new)
  pub named : IfOk r (λ u. (least : ℕ) → IsNamedFrom least names before.trail → IsNamedFrom least names u.trail)

-- It reads no input, changes no production, and leaves the names as they are.
abbrev pub is_plain : Command → Bool
is_plain (command.Run count) = false
is_plain (command.Back count) = false
is_plain (command.Add r) = false
is_plain (command.Excise names) = false
is_plain (command.Make class puts) = true
is_plain (command.Remove tags) = true
is_plain command.RemoveAll = true
is_plain (command.Wm tags) = true
is_plain (command.Ppwm pattern) = true
is_plain command.Cs = true
is_plain (command.Pm names) = true
is_plain (command.Strategy set) = true
is_plain (command.Watch set) = true
is_plain (command.Pbreak names) = true
is_plain (command.Matches names) = true
is_plain command.Exit = true

-- no firing before it can be undone after it
abbrev pub empties : Command → Bool
empties (command.Make class puts) = true
empties (command.Remove tags) = true
empties command.RemoveAll = true
empties _ = false

-- the ending of a session that is known, or why none is
abbrev pub ended : {M H : Type 0} → (M → Stored) → Result (Undoable M H) Ending → Result Ending Stop
ended stored (Ok u) =
    let s = u.session.state in Ok (ending.Done s.firings (length (stored s.matcher).elements) (stored s.matcher).last)
ended stored (Err ending.WriteFault) = Err stop.Write
ended stored (Err ending.OutOfMemory) = Err stop.OutOfMemory
ended stored (Err f) = Ok f
