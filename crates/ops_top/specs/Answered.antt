-- What a call that answers a program leaves: its bytes, its status and its input.
use Rattle.std.specs.Prelude.{◌≡◌, ℕ, List, Bool, true, false, nat_lt, Option, Result}
use Rattle.std.specs.Io.KnownBytes.{prepend_known}
use Rattle.ops_io.specs.Coming.{Coming}
use Rattle.ops_io.specs.declared.stop.Stop.{Stop}
use Rattle.ops_meaning.specs.declared.statuses.Status.{Status}
use Rattle.ops_top.specs.Whole.{Reply}
use Rattle.ops_top.specs.Calls.{OfInput, TellsFailedInput, is_refused}
use Rattle.ops_top.specs.Told.{Delivers, status_after}

-- What a source has left and how many of its reads failed, and what a sink took and how many of its writes failed.
pub record Devices : Type 0 where
  pub left : Option (List ℕ)
  pub reads : ℕ
  pub taken : Option (List ℕ)
  pub writes : ℕ

abbrev pub devices : (left : Option (List ℕ)) (reads : ℕ) (taken : Option (List ℕ)) (writes : ℕ) → Devices
devices left reads taken writes = record { left = left; reads = reads; taken = taken; writes = writes }

-- Over the input that the source had this reply was delivered, or the call gave up. The source lost bytes from its front
-- alone, and it is untouched where the program asks for no atom and where the answer is a refusal.
pub record IsAnswered (r : Result Status Stop) (reply : Coming → Reply) (asks : Bool) (Untouched : Type 0) (before now : Devices) : Type 0 where
  pub delivers : OfInput before.left now.left (nat_lt before.reads now.reads) (λ coming. Delivers r (reply coming) before.taken before.writes now.taken now.writes)
  pub reads : TellsFailedInput (status_after r) before.reads now.reads
  pub input : (got : List ℕ) × (before.left ≡ prepend_known got now.left)
  pub quiet : asks ≡ false → Untouched
  pub refused : is_refused (status_after r) ≡ true → Untouched
