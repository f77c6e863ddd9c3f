-- What functions that put bytes leave, one after another.
use Rattle.std.specs.Prelude.{◌≡◌, ℕ, ◌+◌, List, [], ◌++◌, Option, Result, Ok, Err, IsTrue}
use Rattle.ops_io.specs.Outside.{GrewBy, GrewByPrefix}
use Rattle.ops_io.specs.Output.{OutState, PutsOut, column_after}
use Rattle.ops_io.specs.declared.stop.Stop.{Stop}
use Rattle.ops_io.specs.declared.stop.Stop.TheVariants as stop

-- the output buffer and the sink behind it: what the sink has taken, how many of its writes have failed, and the buffer
pub record Port : Type 0 where
  pub taken : Option (List ℕ)
  pub faults : ℕ
  pub out : OutState

-- The port of a sink that has taken these bytes, with these failures, behind this buffer.
abbrev pub port : Option (List ℕ) → ℕ → OutState → Port
port taken faults out = record { taken = taken; faults = faults; out = out }

-- These bytes were put, and nothing else.
pub record Put (old new : Port) (bytes : List ℕ) : Type 0 where
  pub out : PutsOut old.taken new.taken old.out.held new.out.held bytes
  pub column : new.out.column ≡ column_after old.out.column bytes
  pub whole : IsTrue new.out.whole
  pub faults : new.faults ≡ old.faults

-- The count of failures tells a refused write from memory that ran out.
abbrev pub Cause : Stop → ℕ → ℕ → Type 0
Cause stop.Write before now = now ≡ before + 1
Cause stop.OutOfMemory before now = now ≡ before

-- The call gave up for this reason, and the sink has got a prefix of what was held and these bytes.
pub record Stopped (why : Stop) (old new : Port) (bytes : List ℕ) : Type 0 where
  pub prefix : GrewByPrefix old.taken new.taken (old.out.held ++ bytes)
  pub cause : Cause why old.faults new.faults

-- What a call that puts these bytes leaves: all of them are put, or the sink refused a write and has got a prefix.
abbrev pub PutsBytes : {T E : Type 0} → Result T E → Port → Port → List ℕ → Type 0
PutsBytes (Ok x) old new bytes = Put old new bytes
PutsBytes (Err e) old new bytes = Stopped stop.Write old new bytes

-- Of all these bytes the rest is still to come, and what comes before it was put.
pub record Underway (old now : Port) (all rest : List ℕ) : Type 0 where
  pub sofar : List ℕ
  pub split : all ≡ sofar ++ rest
  pub put : Put old now sofar

-- All that was held is written, and nothing else.
pub record Flushed (old new : Port) : Type 0 where
  pub taken : GrewBy old.taken new.taken old.out.held
  pub out : new.out ≡ record old.out { held = [] }
  pub faults : new.faults ≡ old.faults

-- What a call that writes all that is held leaves: all of it is written, or the sink refused a write and has got a prefix.
abbrev pub FlushesAll : {T E : Type 0} → Result T E → Port → Port → Type 0
FlushesAll (Ok x) old new = Flushed old new
FlushesAll (Err e) old new = Stopped stop.Write old new []
