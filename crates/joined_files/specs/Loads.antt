-- The results of loading files.
use Rattle.std.specs.Prelude.{◌≡◌, ℕ, ◌+◌, ◌<◌, ◌≤◌, List, [], ◌∷◌, ◌++◌, ◌-◌, length, take, slice_index_or, Bool, true, false, Option, Some, None, Result, Ok, Err, ◌⊎◌}
use Rattle.ops_base.specs.Valid.{longest_list}
use Rattle.joined_files.specs.Files.{Gathered, Unread, Overlong, text_of}
use Rattle.joined_files.specs.declared.files.FilesFault.{FilesFault}
use Rattle.joined_files.specs.declared.files.FilesFault.TheVariants as fault

-- this may be the content of a file, given what is known of it
abbrev pub IsTold : Option (Option (List ℕ)) → Option (List ℕ) → Type 0
IsTold None content = Unit {0}
IsTold (Some known) content = known ≡ content

-- this is the whole text, if it fits
abbrev pub Fits : Bool → List ℕ → List ℕ → Type 0
Fits true all new = (new ≡ all) × (length all ≤ longest_list)
Fits false all new = longest_list < length all

-- A file is added to a text, with the LF that it lacks, or it is too long for that.
abbrev pub Adds : {T : Type 0} → Result T FilesFault → Option (Option (List ℕ)) → List ℕ → List ℕ → List ℕ → Type 0
Adds (Ok x) told name old new = (bytes : List ℕ) × IsTold told (Some bytes) × (new ≡ old ++ text_of bytes) × (length new ≤ longest_list)
Adds (Err (fault.Unread of)) told name old new = of.now ≡ name
Adds (Err (fault.TooLong of)) told name old new = (bytes : List ℕ) × IsTold told (Some bytes) × (longest_list < length (old ++ text_of bytes)) × (of.now ≡ name)
Adds (Err fault.OutOfMemory) told name old new = Unit {0}

-- The count of failures rises exactly if a file can't be read.
abbrev pub CountsUnread : {T : Type 0} → Result T FilesFault → ℕ → ℕ → Type 0
CountsUnread (Err (fault.Unread of)) before now = now ≡ before + 1
CountsUnread r before now = now ≡ before

-- The name was asked for, or may have been if memory ran out.
abbrev pub AsksFor : {T : Type 0} → Result T FilesFault → List ℕ → List (List ℕ) → List (List ℕ) → Type 0
AsksFor (Err fault.OutOfMemory) name old new = (new ≡ old) ⊎ (new ≡ old ++ name ∷ [])
AsksFor r name old new = new ≡ old ++ name ∷ []

-- The files do not make up a text, for this reason.
abbrev pub ComesTo : FilesFault → Gathered → Type 0
ComesTo (fault.Unread of) g = g ≡ Unread of.now
ComesTo (fault.TooLong of) g = g ≡ Overlong of.now
ComesTo fault.OutOfMemory g = Unit {0}

-- the name that the last load was given
abbrev pub last_of : List (List ℕ) → List ℕ
last_of names = slice_index_or names (length names - 1) []

-- the file that can't be read is that of the last load
abbrev pub IsOfLast : FilesFault → List (List ℕ) → Type 0
IsOfLast (fault.Unread of) names = of.now ≡ last_of names
IsOfLast f names = Unit {0}

-- The first of these files were asked for, in order, each once; if `all` is true, all of them.
pub record AskedFor (all : Bool) (files old new : List (List ℕ)) : Type 0 where
  pub loads : ℕ
  pub within : loads ≤ length files
  pub names : new ≡ old ++ take loads files
  pub all_of_them : all ≡ true → loads ≡ length files
