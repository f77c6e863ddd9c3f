-- A table of states, and the prefixes of bytes that it accepts.
use Rattle.std.specs.Prelude.{◌≡◌, ◌≢◌, ℕ, ◌<◌, ◌≤◌, List, [], length, fold, slice_index, slice_index_or, slice_range, Option, Some, None}

-- a class for each byte, a row of next states for each state, and the kind that each state accepts
pub record Table : Type 0 where
  pub classes : List ℕ
  pub next : List (List ℕ)
  pub kinds : List ℕ

-- the state that a byte leads to
abbrev pub step_of : Table → ℕ → ℕ → ℕ
step_of t state byte = slice_index (slice_index_or t.next state []) (slice_index t.classes byte)

-- the state that these bytes lead to from the start, which is state 0
abbrev pub state_after : Table → List ℕ → ℕ
state_after t bytes = fold (step_of t) 0 bytes

-- the kind that the bytes are accepted as, 0 where they are not accepted
abbrev pub accepted : Table → List ℕ → ℕ
accepted t bytes = slice_index t.kinds (state_after t bytes)

-- each item is below the limit
abbrev pub AreBelow : ℕ → List ℕ → Type 0
AreBelow limit items = (k : ℕ) → k < length items → slice_index items k < limit

-- each item of each row is below the limit
abbrev pub AreRowsBelow : ℕ → List (List ℕ) → Type 0
AreRowsBelow limit rows = (k : ℕ) → k < length rows → AreBelow limit (slice_index_or rows k [])

-- there is a state, each class is one of the classes and each next state one of the states
abbrev pub IsTable : ℕ → ℕ → Table → Type 0
IsTable states classes t = (0 < states) × AreBelow classes t.classes × AreRowsBelow states t.next

-- no prefix of `bytes[from..]` that ends past `after`, and at `limit` at the latest, is accepted
abbrev pub NoneAccepted : Table → List ℕ → ℕ → ℕ → ℕ → Type 0
NoneAccepted t bytes from after limit = (end : ℕ) → after < end → end ≤ limit → accepted t (slice_range bytes from end) ≡ 0

-- where the longest accepted prefix of `bytes[from..limit]` of one byte or more ends, and its kind
abbrev pub IsLongestWithin : Table → List ℕ → ℕ → ℕ → Option (ℕ × ℕ) → Type 0
IsLongestWithin t bytes from limit None = NoneAccepted t bytes from from limit
IsLongestWithin t bytes from limit (Some (end, kind)) = (from < end) × (end ≤ limit) × (kind ≢ 0) × (accepted t (slice_range bytes from end) ≡ kind) × NoneAccepted t bytes from end limit

-- where the longest accepted prefix of `bytes[from..]` of one byte or more ends, and its kind
abbrev pub IsLongest : Table → List ℕ → ℕ → Option (ℕ × ℕ) → Type 0
IsLongest t bytes from = IsLongestWithin t bytes from (length bytes)
