-- What the parts of a session write, one after another.
use Rattle.std.specs.Prelude.{◌≡◌, ℕ, ◌+◌, List, [], ◌++◌, Bool, true, false, Result, Ok, Err}
use Rattle.ops_base.specs.declared.endings.Ending.{Ending}
use Rattle.ops_base.specs.declared.endings.Ending.TheVariants as ending
use Rattle.ops_io.specs.Output.{column_after}
use Rattle.ops_io.specs.Ports.{Port, Put, Stopped}
use Rattle.ops_io.specs.Coming.{Coming, Inlet, preceded_by, Took, MayCome, ComesAfter}
use Rattle.ops_io.specs.declared.stop.Stop.{Stop}
use Rattle.ops_io.specs.declared.stop.Stop.TheVariants as stop

-- the bytes that a part writes, and what it leaves, or the end that it comes to before that
pub record Effect (E S : Type 0) : Type 0 where
  pub bytes : List ℕ
  pub outcome : Result S E

abbrev pub writes : {E S : Type 0} → List ℕ → S → Effect E S
writes bytes s = record { bytes = bytes; outcome = Ok s }

abbrev pub ends_with : {E S : Type 0} → E → Effect E S
ends_with e = record { bytes = []; outcome = Err e }

abbrev pub led_by : {E S : Type 0} → List ℕ → Effect E S → Effect E S
led_by bytes e = record { bytes = bytes ++ e.bytes; outcome = e.outcome }

abbrev pub going_on : {E S T : Type 0} → List ℕ → Result S E → (S → Effect E T) → Effect E T
going_on bytes (Ok s) next = led_by bytes (next s)
going_on bytes (Err e) next = record { bytes = bytes; outcome = Err e }

-- One part begins at this column, and where it comes to no end the next follows at the column that it leaves.
abbrev pub and_then : {E S T : Type 0} → ℕ → Effect E S → (ℕ → S → Effect E T) → Effect E T
and_then column e next = going_on e.bytes e.outcome (next (column_after column e.bytes))

abbrev pub outcome_as : {E F S T : Type 0} → (S → T) → (E → F) → Result S E → Result T F
outcome_as left end (Ok s) = Ok (left s)
outcome_as left end (Err e) = Err (end e)

-- the same bytes, where what is left and the end are put another way
abbrev pub told_as : {E F S T : Type 0} → (S → T) → (E → F) → Effect E S → Effect F T
told_as left end e = record { bytes = e.bytes; outcome = outcome_as left end e.outcome }

-- the next follows what went well
abbrev pub followed_by : {E S T : Type 0} → Result S E → (S → Result T E) → Result T E
followed_by (Ok s) next = next s
followed_by (Err e) next = Err e

-- nothing is written
abbrev pub silent : {E S : Type 0} → Result S E → Effect E S
silent outcome = record { bytes = []; outcome = outcome }

-- Why a call fails that performs an effect: the sink or memory refuses, or the effect comes to an end of its own.
pub data Failure (E : Type 0) : Type 0 where
  OfPort : (why : Stop) → Failure E
  OfEffect : (end : E) → Failure E

-- the same failure, where the end is put another way
abbrev pub failure_as : {E F : Type 0} → (E → F) → Failure E → Failure F
failure_as end (OfPort why) = OfPort why
failure_as end (OfEffect f) = OfEffect (end f)

-- the failure that an ending tells
abbrev pub of_ending : Ending → Failure Ending
of_ending ending.WriteFault = OfPort stop.Write
of_ending ending.OutOfMemory = OfPort stop.OutOfMemory
of_ending f = OfEffect f

-- What a call leaves that failed so: before an end of the effect's own all was put, and otherwise the sink has a prefix.
abbrev pub Fails : {E S : Type 0} → Failure E → Port → Port → Effect E S → Type 0
Fails (OfPort why) old new e = Stopped why old new e.bytes
Fails (OfEffect f) old new e = (e.outcome ≡ Err f) × Put old new e.bytes

-- What a call that does this leaves, where its answers stand for what the effect leaves and for failures.
abbrev pub Performs : {X F E S : Type 0} → (X → S) → (F → Failure E) → Result X F → Port → Port → Effect E S → Type 0
Performs view failure (Ok x) old new e = (e.outcome ≡ Ok (view x)) × Put old new e.bytes
Performs view failure (Err f) old new e = Fails (failure f) old new e

-- Of the whole this rest is still to come, and what comes before it was put.
pub record Pending {E S : Type 0} (start now : Port) (whole rest : Effect E S) : Type 0 where
  pub sofar : List ℕ
  pub put : Put start now sofar
  pub bytes : whole.bytes ≡ sofar ++ rest.bytes
  pub outcome : whole.outcome ≡ rest.outcome

-- ---- with an input

-- What a call leaves that does this with what is still to come: it took bytes, and whatever may come after them, it
-- performs the effect on those and on that.
pub record PerformsOn {X F E S : Type 0} (view : X → Coming → S) (failure : F → Failure E) (r : Result X F) (before now : Inlet) (old new : Port) (e : Coming → Effect E S) : Type 0 where
  pub taken : List ℕ
  pub took : Took before now taken
  pub performs : (c : Coming) → ComesAfter before now c → Performs (λ x. view x c) failure r old new (e (preceded_by taken c))

-- Of the whole this rest is still to come, whatever may come after the bytes that were taken; no read has failed.
pub record PendingOn {E S : Type 0} (before now : Inlet) (start at : Port) (whole rest : Coming → Effect E S) : Type 0 where
  pub taken : List ℕ
  pub took : Took before now taken
  pub steady : now.faults ≡ before.faults
  pub pending : (c : Coming) → MayCome now c → Pending start at (whole (preceded_by taken c)) (rest c)

-- a read of the input has failed exactly where the call answers so
abbrev pub CountsReads : Bool → ℕ → ℕ → Type 0
CountsReads true before now = now ≡ before + 1
CountsReads false before now = now ≡ before
