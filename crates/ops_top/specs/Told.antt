-- How a part of a run tells its outcome, or gives up.
use Rattle.std.specs.Prelude.{◌≡◌, ℕ, List, Bool, Option, Result, Ok, Err}
use Rattle.ops_base.specs.declared.endings.Ending.{Ending}
use Rattle.ops_io.specs.Outside.{GrewBy, GrewByPrefix}
use Rattle.ops_io.specs.Ports.{Port, Put, Stopped, Cause}
use Rattle.ops_io.specs.declared.stop.Stop.{Stop}
use Rattle.ops_io.specs.declared.stop.Stop.TheVariants as stop
use Rattle.ops_meaning.specs.declared.statuses.Status.{Status}
use Rattle.ops_meaning.specs.declared.statuses.Status.TheVariants as status
use Rattle.ops_meaning.specs.Effects.{Effect}
use Rattle.ops_top.specs.Whole.{Reply, told}
use Rattle.ops_base.specs.Names.{Spellings}
use Rattle.ops_io.specs.Coming.{Coming, Inlet, preceded_by, Took, ComesAfter}
use Rattle.ops_meaning.specs.Running.{Session as Meant, ending_of}

-- All bytes of the outcome went out and its status is answered; or the call gave up, for the reason that the count of
-- failed writes tells, and a prefix went out.
abbrev pub Delivers : Result Status Stop → Reply → Option (List ℕ) → ℕ → Option (List ℕ) → ℕ → Type 0
Delivers (Ok s) o old before new now = (s ≡ o.status) × GrewBy old new o.bytes × (now ≡ before)
Delivers (Err why) o old before new now = GrewByPrefix old new o.bytes × Cause why before now

-- the status of a call that may have given up
abbrev pub status_after : Result Status Stop → Status
status_after (Ok s) = s
status_after (Err stop.Write) = status.WriteFault
status_after (Err stop.OutOfMemory) = status.OutOfMemory

-- The bytes were put, or the call gave up.
abbrev pub PutsOrStops : {T : Type 0} → Result T Stop → Port → Port → List ℕ → Type 0
PutsOrStops (Ok x) old new bytes = Put old new bytes
PutsOrStops (Err why) old new bytes = Stopped why old new bytes

-- The bytes of a session and the line after it were put, and this is its ending; or the call gave up.
abbrev pub TellsSession : Result Ending Stop → Port → Port → Bool → Spellings → Effect Ending Meant → Type 0
TellsSession (Ok f) old new summed names e = (f ≡ ending_of e.outcome) × Put old new (told summed names e).bytes
TellsSession (Err why) old new summed names e = Stopped why old new (told summed names e).bytes

-- It took bytes of the input, and whatever may come after them, it tells the session over those and that.
pub record TellsOn (r : Result Ending Stop) (before now : Inlet) (old new : Port) (summed : Bool) (names : Spellings) (e : Coming → Effect Ending Meant) : Type 0 where
  pub taken : List ℕ
  pub took : Took before now taken
  pub tells : (c : Coming) → ComesAfter before now c → TellsSession r old new summed names (e (preceded_by taken c))
