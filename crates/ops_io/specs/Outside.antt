-- What the calls of the outside leave, and how they count their failures.
use Rattle.std.specs.Prelude.{◌≡◌, ℕ, ◌+◌, ◌<◌, ◌≤◌, List, [], ◌∷◌, ◌++◌, length, take, Option, Vec, Some, None, Result, Ok, Err, Bool, true, false, IfSome, ◌⊎◌, ◌↔◌}
use Rattle.std.specs.Io.KnownBytes.{append_known, prepend_known}
use Rattle.std.specs.declared.alloc.Global.{Global}
use Rattle.ops_io.specs.declared.outside.LoadError.{LoadError}
use Rattle.ops_io.specs.declared.outside.LoadError.TheVariants as load

-- The count of failures is one more after a call that failed, and as before after any other.
abbrev pub CountsFailure : {T E : Type 0} → ℕ → ℕ → Result T E → Type 0
CountsFailure before now (Ok x) = now ≡ before
CountsFailure before now (Err e) = now ≡ before + 1

-- A load counts as failed exactly where it answers so, and not where memory ran out.
abbrev pub LoadCounts : ℕ → ℕ → Result Bool LoadError → Type 0
LoadCounts before now (Ok b) = now ≡ before
LoadCounts before now (Err load.Failed) = now ≡ before + 1
LoadCounts before now (Err load.OutOfMemory) = now ≡ before

-- The name stands at the end of the list; where memory ran out it may.
abbrev pub LoadNames : List (List ℕ) → List (List ℕ) → List ℕ → Result Bool LoadError → Type 0
LoadNames old new name (Ok b) = new ≡ old ++ name ∷ []
LoadNames old new name (Err load.Failed) = new ≡ old ++ name ∷ []
LoadNames old new name (Err load.OutOfMemory) = (new ≡ old) ⊎ (new ≡ old ++ name ∷ [])

-- These bytes of a file are appended where they fit the room, and nothing is where they do not.
abbrev pub Loads : List ℕ → ℕ → Bool → List ℕ → List ℕ → Type 0
Loads bytes room true old new = (length bytes ≤ room) × (new ≡ old ++ bytes)
Loads bytes room false old new = (room < length bytes) × (new ≡ old)

-- Some bytes that fit the room are appended, or nothing is.
abbrev pub LoadsUntold : ℕ → Bool → List ℕ → List ℕ → Type 0
LoadsUntold room true old new = (bytes : List ℕ) × Loads bytes room true old new
LoadsUntold room false old new = new ≡ old

-- What a load leaves in the buffer, by what is known of the file: a file that is not there is never loaded.
abbrev pub LoadGives : Option (Option (List ℕ)) → ℕ → Result Bool LoadError → List ℕ → List ℕ → Type 0
LoadGives told room (Err e) old new = new ≡ old
LoadGives None room (Ok b) old new = LoadsUntold room b old new
LoadGives (Some None) room (Ok b) old new = ⊥
LoadGives (Some (Some bytes)) room (Ok b) old new = Loads bytes room b old new

-- A read takes what it gives off the front of what is left, and gives nothing exactly at the end.
abbrev pub ReadGives : {E : Type 0} → Option (List ℕ) → Option (List ℕ) → Result ℕ E → List ℕ → Type 0
ReadGives old new (Ok n) buf = (old ≡ prepend_known (take n buf) new) × IfSome old (λ bytes. (n ≡ 0) ↔ (bytes ≡ []))
ReadGives old new (Err e) buf = new ≡ old

-- A write appends the bytes that it takes to those that were taken.
abbrev pub WriteGives : {E : Type 0} → Option (List ℕ) → Option (List ℕ) → Result ℕ E → List ℕ → Type 0
WriteGives old new (Ok n) piece = new ≡ append_known old (take n piece)
WriteGives old new (Err e) piece = new ≡ old

-- All of these bytes were taken.
abbrev pub GrewBy : Option (List ℕ) → Option (List ℕ) → List ℕ → Type 0
GrewBy old new bytes = new ≡ append_known old bytes

-- A prefix of these bytes was taken.
abbrev pub GrewByPrefix : Option (List ℕ) → Option (List ℕ) → List ℕ → Type 0
GrewByPrefix old new bytes = (front back : List ℕ) × (bytes ≡ front ++ back) × GrewBy old new front

-- These bytes are all of a file and fit the room, or the file has more of them than that.
abbrev pub IsWhole : List ℕ → ℕ → Option (Vec ℕ Global) → Type 0
IsWhole bytes room (Some text) = (text.items ≡ bytes) × (length bytes ≤ room)
IsWhole bytes room None = room < length bytes

-- what is seen of a real input or output: the bytes that its reader has left or its writer holds, where the standard
-- library knows them, and how many of its calls have failed
pub record DeviceState : Type 0 where
  pub known : Option (List ℕ)
  pub faults : ℕ

-- what is seen of real files: the names that loads were given, and how many loads have failed
pub record FilesState : Type 0 where
  pub names : List (List ℕ)
  pub faults : ℕ
