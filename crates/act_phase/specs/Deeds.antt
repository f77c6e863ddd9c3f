-- The effects of the calls of a right side. Each call may read the input and put bytes.
use Rattle.std.specs.Prelude.{◌≡◌, ℕ, List, Bool, Option, Some, None, Result, Ok, Err, OnOk, IsTrue}
use Rattle.ops_base.specs.Names.{Spellings}
use Rattle.ops_base.specs.declared.endings.ActKind.TheVariants as act_fault
use Rattle.ops_base.specs.declared.values.Value.{Value}
use Rattle.ops_io.specs.Coming.{Coming, Inlet, inlet}
use Rattle.ops_io.specs.Input.{InputState}
use Rattle.ops_io.specs.Output.{OutState}
use Rattle.ops_io.specs.Ports.{Port, port}
use Rattle.ops_meaning.specs.Acting.{ActionError as Missed, Fault, Unread}
use Rattle.ops_meaning.specs.Computing.{Computed}
use Rattle.ops_meaning.specs.Kept.{KeepsNames}
use Rattle.ops_meaning.specs.Effects.{Effect, Failure, PerformsOn, PendingOn, CountsReads}
use Rattle.ops_tokens.specs.Accepting.{Accepted}
use Rattle.ops_tokens.specs.declared.accept.AcceptFault.{AcceptFault}
use Rattle.ops_tokens.specs.declared.accept.AcceptFault.TheVariants as accept_fault
use Rattle.act_phase.specs.Outcomes.{mishap_of, is_read_mishap, fails_by}
use Rattle.act_phase.specs.declared.outcome.ActionError.{ActionError}
use Rattle.act_phase.specs.declared.outcome.ActionError.TheVariants as mishap

-- the surroundings of a right side: the spellings in use, the input, and the output
pub record Scene : Type 0 where
  pub names : Spellings
  pub inlet : Inlet
  pub port : Port

-- The scene with an input buffer before a source, and an output buffer before a sink.
abbrev pub scene : Spellings → InputState → Option (List ℕ) → ℕ → Option (List ℕ) → ℕ → OutState → Scene
scene names input left reads taken writes out = record { names = names; inlet = inlet input left reads; port = port taken writes out }

-- no write was refused, so more can be put
pub record GoesOn (old new : Port) : Type 0 where
  pub whole : IsTrue new.out.whole
  pub faults : new.faults ≡ old.faults

-- The call has this effect on the input that is still to come. Names keep their places, and failed reads are counted.
pub record Does {X F E S : Type 0} (view : X → Coming → S) (failure : F → Failure E) (unread : F → Bool) (r : Result X F) (old new : Scene) (e : Coming → Effect E S) : Type 0 where
  pub performs : PerformsOn view failure r old.inlet new.inlet old.port new.port e
  pub reads : CountsReads (fails_by unread r) old.inlet.faults new.inlet.faults
  pub names : KeepsNames old.names new.names
  pub goes_on : OnOk r (GoesOn old.port new.port)

-- the same for a part of one action
abbrev pub Acts : {X S : Type 0} → (X → Coming → S) → Result X ActionError → Scene → Scene → (Coming → Effect Missed S) → Type 0
Acts view r old new e = Does view mishap_of is_read_mishap r old new e

-- Of the whole, this rest is still to be done.
pub record StillDoes {E S : Type 0} (start now : Scene) (whole rest : Coming → Effect E S) : Type 0 where
  pub pending : PendingOn start.inlet now.inlet start.port now.port whole rest
  pub names : KeepsNames start.names now.names
  pub goes_on : GoesOn start.port now.port

-- ---- without input and output

-- The call returns this, or it may report out of memory, at any time.
abbrev pub Gives : {X S : Type 0} → (X → S) → Result X ActionError → Result S Missed → Type 0
Gives view (Ok x) what = what ≡ Ok (view x)
Gives view (Err (mishap.Fault kind)) what = what ≡ Err (Fault kind)
Gives view (Err mishap.Read) what = ⊥
Gives view (Err mishap.Write) what = ⊥
Gives view (Err mishap.OutOfMemory) what = Unit {0}

-- the faults of values, of fields and of accepted atoms, as faults of an action
abbrev pub value_found : Computed → Result Value Missed
value_found (Ok v) = Ok v
value_found (Err kind) = Err (Fault kind)

abbrev pub fields_found : Option (List Value) → Result (List Value) Missed
fields_found (Some fields) = Ok fields
fields_found None = Err (Fault act_fault.TooManyFields)

abbrev pub atom_found : Result Accepted AcceptFault → Result Accepted Missed
atom_found (Ok a) = Ok a
atom_found (Err accept_fault.TooLong) = Err (Fault act_fault.InputTooLong)
atom_found (Err accept_fault.Read) = Err Unread
atom_found (Err accept_fault.OutOfMemory) = Err Unread
