-- What `accept` takes of an input, a part after the other.
use Rattle.std.specs.Prelude.{◌≡◌, ℕ, ◌+◌, ◌<◌, ◌≤◌, ◌⊎◌, Bool, true, false, not, List, [], ◌∷◌, length, Vec, Option, Some, None, Result, Ok, Err, IsTrue, nat_lt, ◌&&◌, if◌then◌else◌}
use Rattle.std.specs.List.{list_all}
use Rattle.std.specs.declared.alloc.Global.{Global}
use Rattle.ops_base.specs.declared.values.Value.{Value}
use Rattle.ops_base.specs.Names.{Spellings}
use Rattle.ops_io.specs.Input.{InputState, IsFirst}
use Rattle.ops_io.specs.Coming.{Coming, Inlet, preceded_by, Took, ComesAfter}
use Rattle.ops_tokens.specs.Bytes.{is_white, is_bar}
use Rattle.ops_tokens.specs.Accepting.{most_accepted, is_of_run, bytes_taken, behind_space, asks_further, Atom, atom_at_front, behind_atom, Accepted, accepted_as, Answers, Counts, TakesAtMost}
use Rattle.ops_tokens.specs.declared.accept.AcceptFault.{AcceptFault}
use Rattle.ops_tokens.specs.declared.accept.AcceptFault.TheVariants as fault
use Rattle.ops_tokens.specs.declared.parts.Part.{Part}
use Rattle.ops_tokens.specs.declared.parts.Part.TheVariants as part

-- a byte that belongs to the part
abbrev pub is_of : Part → ℕ → Bool
is_of part.Space b = is_white b
is_of part.Run b = is_of_run b
is_of part.Quoted b = not (is_bar b)
is_of part.Bar b = is_bar b

-- the part goes on: a byte of it stands next
abbrev pub GoesOn : Part → InputState → Type 0
GoesOn p s = (b : ℕ) × IsFirst (Some b) s.held × (is_of p b ≡ true)

-- the part ends: another byte stands next, or the end was seen
abbrev pub Ends : Part → InputState → Type 0
Ends p s = ((s.held ≡ []) × IsTrue s.ended) ⊎ ((b : ℕ) × IsFirst (Some b) s.held × (is_of p b ≡ false))

-- Why nothing more is taken of the part after this many bytes: one more stands next and may not be taken, a read failed where
-- nothing is held, or memory ran out.
abbrev pub Refuses : AcceptFault → Part → ℕ → Inlet → Inlet → Type 0
Refuses fault.TooLong p taken old new = (taken ≡ most_accepted) × GoesOn p new.buffer × (new.faults ≡ old.faults)
Refuses fault.Read p taken old new = (new.buffer.held ≡ []) × (new.faults ≡ old.faults + 1)
Refuses fault.OutOfMemory p taken old new = new.faults ≡ old.faults

-- One byte is taken where it is of the part and may be taken after this many.
abbrev pub TakesOne : Part → ℕ → Result (Option ℕ) AcceptFault → Inlet → Inlet → Type 0
TakesOne p taken (Ok (Some b)) old new = Took old new (b ∷ []) × (is_of p b ≡ true) × (taken < most_accepted) × (new.faults ≡ old.faults)
TakesOne p taken (Ok None) old new = Took old new [] × Ends p new.buffer × (new.faults ≡ old.faults)
TakesOne p taken (Err why) old new = Took old new [] × Refuses why p taken old new

-- These bytes of the part were taken, after this many, and no read failed.
pub record Taken (p : Part) (before : ℕ) (old new : Inlet) (bytes : List ℕ) : Type 0 where
  pub took : Took old new bytes
  pub of_part : list_all (is_of p) bytes ≡ true
  pub within : before + length bytes ≤ most_accepted
  pub faults : new.faults ≡ old.faults

-- Bytes of the part were taken, after this many, and then no more for this reason.
pub record Stopped (why : AcceptFault) (p : Part) (before : ℕ) (old new : Inlet) : Type 0 where
  pub bytes : List ℕ
  pub took : Took old new bytes
  pub of_part : list_all (is_of p) bytes ≡ true
  pub within : before + length bytes ≤ most_accepted
  pub refuses : Refuses why p (before + length bytes) old new

-- All the white space is taken, of this many bytes.
abbrev pub SkipsSpace : Result ℕ AcceptFault → Inlet → Inlet → Type 0
SkipsSpace (Ok count) old new = (bytes : List ℕ) × Taken part.Space 0 old new bytes × (count ≡ length bytes) × Ends part.Space new.buffer
SkipsSpace (Err why) old new = Stopped why part.Space 0 old new

-- All of the part is taken, which are these bytes.
abbrev pub ReadsPart : Part → ℕ → Result (Vec ℕ Global) AcceptFault → Inlet → Inlet → Type 0
ReadsPart p before (Ok v) old new = Taken p before old new v.items × Ends p new.buffer
ReadsPart p before (Err why) old new = Stopped why p before old new

-- The answer is the value of this atom, whose spelling is held from then on.
abbrev pub GivesAtom : Result Value AcceptFault → Spellings → Spellings → Atom → Type 0
GivesAtom (Ok v) before now atom = (rest : Coming) → accepted_as before rest atom ≡ record { value = v; names = now; coming = rest }
GivesAtom (Err fault.OutOfMemory) before now atom = now ≡ before
GivesAtom (Err _) before now atom = ⊥

-- What `accept` gives after this many bytes of white space.
abbrev pub accepted_behind : ℕ → Spellings → Coming → Result Accepted AcceptFault
accepted_behind before names c =
    if nat_lt most_accepted (before + length (bytes_taken c.bytes)) then Err fault.TooLong
    else if c.fails && asks_further c.bytes then Err fault.Read
    else Ok (accepted_as names (behind_atom c) (atom_at_front (behind_space c.bytes)))

-- A call that accepts the atom after this many bytes of white space.
pub record AcceptsBehind (space : ℕ) (r : Result Value AcceptFault) (before now : Spellings) (old new : Inlet) : Type 0 where
  pub taken : List ℕ
  pub took : Took old new taken
  pub within : TakesAtMost r (space + length taken)
  pub counts : Counts r old.faults new.faults
  pub answers : (c : Coming) → ComesAfter old new c → Answers r now c (accepted_behind space before (preceded_by taken c))
