-- The input buffer: what it holds, and what is still ahead.
use Rattle.std.specs.Prelude.{◌≡◌, ℕ, List, [], ◌∷◌, ◌++◌, drop, Bool, Option, Some, None, IsTrue, ◌⊎◌}
use Rattle.std.specs.Io.KnownBytes.{prepend_known, IsAtEnd}

-- the bytes that were read and not yet taken, and whether the end was seen
pub record InputState : Type 0 where
  pub held : List ℕ
  pub ended : Bool

-- It is the first of these bytes, and none exactly where there are none.
abbrev pub IsFirst : Option ℕ → List ℕ → Type 0
IsFirst (Some byte) bytes = bytes ≡ byte ∷ drop 1 bytes
IsFirst None bytes = bytes ≡ []

-- What is ahead stays so: the bytes that the source gave stand after those that were held. The end is seen only where it
-- gave none and has none left.
pub record StaysAhead (old new : InputState) (before now : Option (List ℕ)) : Type 0 where
  pub got : List ℕ
  pub held : new.held ≡ old.held ++ got
  pub left : before ≡ prepend_known got now
  pub ended : IsTrue new.ended → IsTrue old.ended ⊎ ((got ≡ []) × IsAtEnd now)
