-- The atom that `accept` reads from an input.
use Rattle.std.specs.Prelude.{◌≡◌, ℕ, ◌+◌, ◌≤◌, ◌==◌, ◌&&◌, Bool, false, not, List, [], ◌∷◌, ◌++◌, length, drop, map, take_while, nat_lt, if◌then◌else◌, codes, ℤ, Result, Ok, Err}
use Rattle.std.specs.List.{list_any}
use Rattle.std.specs.Io.BufRead.{take_through}
use Rattle.ops_base.specs.declared.values.Value.{Value}
use Rattle.ops_base.specs.declared.values.Value.TheVariants as value
use Rattle.ops_base.specs.Names.{Spellings, place_of, with_spelling}
use Rattle.ops_io.specs.Coming.{Coming, Inlet, preceded_by, Took, ComesAfter}
use Rattle.ops_tokens.specs.Bytes.{is_white, is_bad, is_bar}
use Rattle.ops_tokens.specs.Spellings.{is_whole}
use Rattle.ops_tokens.specs.Numbers.{whole_value, is_in_range}
use Rattle.ops_tokens.specs.declared.accept.AcceptFault.{AcceptFault}
use Rattle.ops_tokens.specs.declared.accept.AcceptFault.TheVariants as fault

-- how many bytes one `accept` takes at most: white space, the atom and its bars
abbrev pub most_accepted : ℕ
most_accepted = 1048576

-- ---- bytes

-- the white space before an atom
abbrev pub space_before : List ℕ → List ℕ
space_before bytes = take_while is_white bytes

abbrev pub behind_space : List ℕ → List ℕ
behind_space bytes = drop (length (space_before bytes)) bytes

-- a byte of an atom without bars
abbrev pub is_of_run : ℕ → Bool
is_of_run b = not (is_white b) && not (is_bar b)

-- the bytes of the atom at the front: from a bar through the next one, or to the end; otherwise the longest run
abbrev pub atom_bytes : List ℕ → List ℕ
atom_bytes [] = []
atom_bytes (b ∷ bytes) = if is_bar b then b ∷ take_through 124 bytes else take_while is_of_run (b ∷ bytes)

-- the bytes that are taken: white space and an atom
abbrev pub bytes_taken : List ℕ → List ℕ
bytes_taken bytes = space_before bytes ++ atom_bytes (behind_space bytes)

-- it is an atom between two bars
abbrev pub is_closed : List ℕ → Bool
is_closed [] = false
is_closed (b ∷ bytes) = is_bar b && list_any is_bar bytes

-- A byte after these is asked for: all of them are taken, and no second bar has closed the atom.
abbrev pub asks_further : List ℕ → Bool
asks_further bytes = (length (bytes_taken bytes) == length bytes) && not (is_closed (behind_space bytes))

-- ---- atoms

-- a number, or a symbol of this spelling
pub data Atom : Type 0 where
  Number : (n : ℤ) → Atom
  Spelled : (spelling : List ℕ) → Atom

-- how a byte stands in a symbol
abbrev pub shown : ℕ → ℕ
shown b = if is_bad b then 63 else b

abbrev pub atom_of_run : List ℕ → Atom
atom_of_run s = if is_whole s && is_in_range (whole_value s) then Number (whole_value s) else Spelled (map shown s)

-- the atom at the front, and at the end of the input the symbol of that
abbrev pub atom_at_front : List ℕ → Atom
atom_at_front [] = Spelled (codes "end-of-file")
atom_at_front (b ∷ bytes) =
    if is_bar b then Spelled (map shown (take_while (λ c. not (is_bar c)) bytes)) else atom_of_run (take_while is_of_run (b ∷ bytes))

-- ---- what is accepted

-- the value, the names with its spelling, and what is still to come
pub record Accepted : Type 0 where
  pub value : Value
  pub names : Spellings
  pub coming : Coming

abbrev pub accepted_as : Spellings → Coming → Atom → Accepted
accepted_as names rest (Number n) = record { value = value.Whole n; names = names; coming = rest }
accepted_as names rest (Spelled s) =
    record {
      value = value.Symbol (record { 0 = place_of names.held s });
      names = record names { held = with_spelling names.held s };
      coming = rest;
    }

abbrev pub behind_atom : Coming → Coming
behind_atom c = record c { bytes = drop (length (bytes_taken c.bytes)) c.bytes }

-- What `accept` gives: too many bytes would be taken, or a byte is asked for where the input fails, or it is the atom
-- at the front.
abbrev pub accepted : Spellings → Coming → Result Accepted AcceptFault
accepted names c =
    if nat_lt most_accepted (length (bytes_taken c.bytes)) then Err fault.TooLong
    else if c.fails && asks_further c.bytes then Err fault.Read
    else Ok (accepted_as names (behind_atom c) (atom_at_front (behind_space c.bytes)))

-- ---- what a call leaves

-- The answer is what is accepted of this, where that is still to come; out of memory may be answered at any time.
abbrev pub Answers : Result Value AcceptFault → Spellings → Coming → Result Accepted AcceptFault → Type 0
Answers (Ok v) names rest what = what ≡ Ok (record { value = v; names = names; coming = rest })
Answers (Err fault.TooLong) names rest what = what ≡ Err fault.TooLong
Answers (Err fault.Read) names rest what = what ≡ Err fault.Read
Answers (Err fault.OutOfMemory) names rest what = Unit {0}

-- the count of failures is one more exactly where a read failed
abbrev pub Counts : Result Value AcceptFault → ℕ → ℕ → Type 0
Counts (Ok v) before now = now ≡ before
Counts (Err fault.TooLong) before now = now ≡ before
Counts (Err fault.Read) before now = now ≡ before + 1
Counts (Err fault.OutOfMemory) before now = now ≡ before

-- It took this many bytes at most, and exactly this many where one more would have been taken.
abbrev pub TakesAtMost : Result Value AcceptFault → ℕ → Type 0
TakesAtMost (Ok v) n = n ≤ most_accepted
TakesAtMost (Err fault.TooLong) n = n ≡ most_accepted
TakesAtMost (Err fault.Read) n = n ≤ most_accepted
TakesAtMost (Err fault.OutOfMemory) n = n ≤ most_accepted

-- The call took bytes, and however the source cut them it answers what is accepted of those and of what may come after them.
pub record Accepts (r : Result Value AcceptFault) (before now : Spellings) (old new : Inlet) : Type 0 where
  pub taken : List ℕ
  pub took : Took old new taken
  pub within : TakesAtMost r (length taken)
  pub counts : Counts r old.faults new.faults
  pub answers : (c : Coming) → ComesAfter old new c → Answers r now c (accepted before (preceded_by taken c))
