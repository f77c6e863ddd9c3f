-- The effect of a command that reads no input.
use Rattle.std.specs.Prelude.{◌≡◌, ℕ, List, false, Result, Ok, Err, IfOk}
use Rattle.ops_base.specs.declared.endings.Ending.{Ending}
use Rattle.ops_base.specs.declared.rules.Rule.{Rule}
use Rattle.ops_base.specs.Names.{Spellings}
use Rattle.ops_io.specs.Coming.{Coming}
use Rattle.ops_io.specs.Ports.{Port, Put, Stopped}
use Rattle.ops_io.specs.declared.stop.Stop.{Stop}
use Rattle.ops_meaning.specs.Effects.{Effect, Performs, of_ending}
use Rattle.ops_meaning.specs.Running.{Session as Meant}
use Rattle.work_store.specs.Stored.{Stored}
use Rattle.session.specs.Courses.{IsUnderWay, meant_by, ends_unread}
use Rattle.session.specs.declared.session.Session.{Session}

-- Whatever input is to come, the call has this effect on the point that the session has reached. No read fails in it,
-- and the session is still in progress.
pub record Does {M H : Type 0} (stored : M → Stored) (stands_for : M → List Rule → Type 0) (rules : List Rule) (names : Spellings) (before : Session M H) (r : Result (Session M H) Ending) (old new : Port) (e : Meant → Effect Ending Meant) : Type 0 where
  pub performs : (c : Coming) → Performs (λ s. meant_by stored rules s names c) of_ending r old new (e (meant_by stored rules before names c))
  pub reads : ends_unread r ≡ false
  pub under_way : IfOk r (IsUnderWay stored stands_for rules)

-- The effect of a call that puts these bytes and may allocate: either all of them are put, or the sink refused a write
-- or memory ran out, and the sink has received a prefix.
abbrev pub PutsOrStops : {X : Type 0} → Result X Stop → Port → Port → List ℕ → Type 0
PutsOrStops (Ok x) old new bytes = Put old new bytes
PutsOrStops (Err why) old new bytes = Stopped why old new bytes
