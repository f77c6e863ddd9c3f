-- The spellings that are held; a symbol is the place of its spelling.
use Rattle.std.specs.Prelude.{◌≡◌, ℕ, zero, suc, ◌-◌, ◌^◌, ◌<◌, List, [], ◌∷◌, ◌++◌, length, bytes_eq, nat_lt, Bool, if◌then◌else◌, slice_get, unwrap_or, codes, decimal, map, Some, Vec, Contains}
use Rattle.std.specs.List.{position_or_len, list_any}
use Rattle.std.specs.declared.alloc.Global.{Global}
use Rattle.ops_base.specs.declared.values.Sym.{Sym}

-- the spellings in the order in which they came, and the number of the last fresh atom, 0 where none was made
pub record Spellings : Type 0 where
  pub held : List (List ℕ)
  pub made : ℕ

-- what these byte lists spell
abbrev pub spellings : List (Vec ℕ Global) → List (List ℕ)
spellings vs = map (λ v. v.items) vs

-- the place of a spelling, and the length where it is not held
abbrev pub place_of : List (List ℕ) → List ℕ → ℕ
place_of held s = position_or_len (λ t. bytes_eq s t) held

-- the spellings with this one among them
abbrev pub with_spelling : List (List ℕ) → List ℕ → List (List ℕ)
with_spelling held s = if nat_lt (place_of held s) (length held) then held else held ++ s ∷ []

-- the spelling of a symbol, empty where it is not held
abbrev pub spelling_of : Spellings → Sym → List ℕ
spelling_of names sym = unwrap_or (slice_get names.held sym.0) []

-- different symbols have different spellings
abbrev pub AreDistinct : List (List ℕ) → Type 0
AreDistinct held = (i j : ℕ) (s : List ℕ) → slice_get held i ≡ Some s → slice_get held j ≡ Some s → i ≡ j

-- nil alone
abbrev pub only_nil : Spellings
only_nil = record { held = codes "nil" ∷ []; made = 0 }

-- ---- fresh atoms

-- g and a number
abbrev pub fresh_spelling : ℕ → List ℕ
fresh_spelling n = codes "g" ++ decimal n

abbrev pub is_held : List (List ℕ) → List ℕ → Bool
is_held held s = list_any (λ t. bytes_eq s t) held

-- the first number from n on, of this many, whose spelling is not held, and otherwise the one after them
abbrev pub first_free : ℕ → List (List ℕ) → ℕ → ℕ
first_free zero held n = n
first_free (suc more) held n = if is_held held (fresh_spelling n) then first_free more held (suc n) else n

-- the number of the next fresh atom, of 64 bits
abbrev pub next_fresh : Spellings → ℕ
next_fresh names = first_free (2 ^ 64 - 1 - names.made) names.held (suc names.made)

-- The next fresh atom is held too.
abbrev pub with_fresh : Spellings → Spellings
with_fresh names = record { held = names.held ++ fresh_spelling (next_fresh names) ∷ []; made = next_fresh names }

-- Of the numbers above that of the last fresh atom this is the first whose spelling is not held.
pub record IsNextFresh (names : Spellings) (n : ℕ) : Type 0 where
  pub above : names.made < n
  pub free : ¬ Contains names.held (fresh_spelling n)
  pub others : (m : ℕ) → names.made < m → m < n → Contains names.held (fresh_spelling m)
