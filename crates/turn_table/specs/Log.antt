-- The log: one row for each entry that was given, in one order, which agrees with the order of each cell and of each
-- pass.
use Rattle.std.specs.Prelude.{◌≡◌, ℕ, zero, suc, ◌+◌, ◌<◌, ◌⊎◌, Bool, false, List, [], ◌∷◌, ◌++◌, Option, Some, None, map, filter, ◌==◌}
use mathlib.Core.Option.{some}
use lib.ListN.{get_elem?}
use Rattle.turn_table.specs.declared.views.Row.{Row}

-- the list has this item at this place
abbrev pub IsAt : {A : Type 0} → List A → ℕ → A → Type 0
IsAt list place item = get_elem? list place ≡ some item

-- the first list is a prefix of the second
abbrev pub Begins : {A : Type 0} → List A → List A → Type 0
Begins {A} short long = (rest : List A) × (short ++ rest ≡ long)

module _ {E : Type 0} where
  -- the entries that were given to a cell, in their order
  abbrev pub given_to : ℕ → List (Row E) → List E
  given_to cell log = map (λ (r : Row E). r.entry) (filter (λ (r : Row E). r.cell == cell) log)

  -- what a pass gave to cells, in its order
  abbrev pub rows_of : ℕ → List (Row E) → List (Row E)
  rows_of pass log = filter (λ (r : Row E). r.pass == pass) log

  -- the rows of a pass that gives these entries to a cell
  abbrev pub as_rows : ℕ → ℕ → List E → List (Row E)
  as_rows pass cell entries = map (λ (e : E). record { pass = pass; cell = cell; entry = e }) entries

  -- an entry that this pass makes is unsigned, or is signed with the number of the pass
  abbrev pub MaySign : (E → Option ℕ) → ℕ → E → Type 0
  MaySign signature pass entry = (signature entry ≡ None) ⊎ (signature entry ≡ Some pass)

  abbrev pub is_signed_by : (E → Option ℕ) → ℕ → E → Bool
  is_signed_by signature pass entry = elim (signature entry) [ Some number ↦ number == pass | None ↦ false ]

  -- the entries that are signed with the number of this pass
  abbrev pub signed_by : (E → Option ℕ) → ℕ → List E → List E
  signed_by signature pass entries = filter (is_signed_by signature pass) entries

  -- the row is of one of this many cells, and its entry is not signed with the number of another pass
  pub record IsRow (signature : E → Option ℕ) (cells : ℕ) (r : Row E) : Type 0 where
    pub inside : r.cell < cells
    pub may_sign : MaySign signature r.pass r.entry

-- the sum of the weights of the items
abbrev pub weigh : {A : Type 0} → (A → ℕ) → List A → ℕ
weigh weight [] = 0
weigh weight (x ∷ xs) = weight x + weigh weight xs

-- the sum of f of each number below the bound
abbrev pub sum_below : ℕ → (ℕ → ℕ) → ℕ
sum_below zero f = 0
sum_below (suc bound) f = sum_below bound f + f bound
