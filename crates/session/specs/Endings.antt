-- How a session ends or gives up.
use Rattle.std.specs.Prelude.{◌≡◌, ℕ, ◌+◌, List, Result, Ok, Err}
use Rattle.ops_base.specs.Names.{Spellings}
use Rattle.ops_base.specs.declared.endings.Ending.{Ending}
use Rattle.ops_base.specs.declared.endings.Ending.TheVariants as ending
use Rattle.ops_io.specs.Coming.{Coming, Inlet, preceded_by, Took, ComesAfter}
use Rattle.ops_io.specs.Ports.{Port, Put, Stopped}
use Rattle.ops_io.specs.declared.stop.Stop.{Stop}
use Rattle.ops_meaning.specs.Effects.{Effect}
use Rattle.ops_meaning.specs.Running.{Session, ending_of}

-- a read of the input failed exactly if that is the ending
abbrev pub CountsReadFault : Result Ending Stop → ℕ → ℕ → Type 0
CountsReadFault (Ok ending.ReadFault) before now = now ≡ before + 1
CountsReadFault r before now = now ≡ before

-- what a session leaves if it reaches the end of its commands: these names, and this input, which is still to come
abbrev pub Leaves : Result Session Ending → Spellings → Coming → Type 0
Leaves (Ok s) names coming = (s.course.names ≡ names) × (s.course.coming ≡ coming)
Leaves (Err f) names coming = Unit {0}

-- The bytes of a session were put, this is its ending, and it leaves these names and this input; or the call gave up.
abbrev pub EndsSession : Result Ending Stop → Port → Port → Spellings → Coming → Effect Ending Session → Type 0
EndsSession (Ok f) old new names coming e = (f ≡ ending_of e.outcome) × Put old new e.bytes × Leaves e.outcome names coming
EndsSession (Err why) old new names coming e = Stopped why old new e.bytes

-- The session took bytes of the input. Whatever may come after them, it ends in this way over those bytes and that.
pub record EndsOn (r : Result Ending Stop) (before now : Inlet) (old new : Port) (names : Spellings) (e : Coming → Effect Ending Session) : Type 0 where
  pub taken : List ℕ
  pub took : Took before now taken
  pub ends : (c : Coming) → ComesAfter before now c → EndsSession r old new names c (e (preceded_by taken c))
