-- What is still to come from an input, and what a call takes of it.
use Rattle.std.specs.Prelude.{◌≡◌, ℕ, List, [], ◌++◌, Bool, true, false, nat_lt, Option, IfSome, IsTrue, ◌⊎◌}
use Rattle.std.specs.Io.KnownBytes.{prepend_known, IsAtEnd}
use Rattle.ops_io.specs.Input.{InputState}

-- the bytes that are still to come, and whether the input fails after them or ends there
pub record Coming : Type 0 where
  pub bytes : List ℕ
  pub fails : Bool

-- the input buffer and the source behind it: what the source has left, and how many of its reads have failed
pub record Inlet : Type 0 where
  pub buffer : InputState
  pub left : Option (List ℕ)
  pub faults : ℕ

abbrev pub inlet : InputState → Option (List ℕ) → ℕ → Inlet
inlet buffer left faults = record { buffer = buffer; left = left; faults = faults }

-- the same, after these bytes
abbrev pub preceded_by : List ℕ → Coming → Coming
preceded_by bytes c = record c { bytes = bytes ++ c.bytes }

-- These bytes were taken: what was held and what the source gave are, in order, those and what is held now. The end is
-- seen only where nothing is left, and once it was seen nothing more is read.
pub record Took (old new : Inlet) (taken : List ℕ) : Type 0 where
  pub got : List ℕ
  pub bytes : old.buffer.held ++ got ≡ taken ++ new.buffer.held
  pub left : old.left ≡ prepend_known got new.left
  pub ended : IsTrue new.buffer.ended → IsTrue old.buffer.ended ⊎ IsAtEnd new.left
  pub closed : IsTrue old.buffer.ended → (got ≡ []) × IsTrue new.buffer.ended × (new.faults ≡ old.faults)

-- What stands after the bytes that are held: nothing where the end was seen, and otherwise all that the source has
-- left, or a part of that, after which it fails.
abbrev pub IsBehind : Bool → Bool → Option (List ℕ) → List ℕ → Type 0
IsBehind true fails left more = (more ≡ []) × (fails ≡ false)
IsBehind false false left more = IfSome left (λ bytes. bytes ≡ more)
IsBehind false true left more = (later : Option (List ℕ)) × (left ≡ prepend_known more later)

-- This may come from an inlet.
pub record MayCome (i : Inlet) (c : Coming) : Type 0 where
  pub more : List ℕ
  pub bytes : c.bytes ≡ i.buffer.held ++ more
  pub behind : IsBehind i.buffer.ended c.fails i.left more

-- what may come after a call: where a read failed in it, nothing but that failure after the bytes that are held
abbrev pub ComesBehind : Bool → Inlet → Coming → Type 0
ComesBehind true new c = c ≡ record { bytes = new.buffer.held; fails = true }
ComesBehind false new c = MayCome new c

abbrev pub ComesAfter : Inlet → Inlet → Coming → Type 0
ComesAfter old new c = ComesBehind (nat_lt old.faults new.faults) new c
