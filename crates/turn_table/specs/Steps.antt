-- What the pass that makes a step learns from it.
use Rattle.std.specs.Prelude.{◌≡◌, ◌≢◌, ℕ, ◌*◌, List, [], ◌∷◌, Option, Some, length}
use Rattle.std.specs.List.{All}
use Rattle.atomic_table.specs.Table.{Me, Step}
use Rattle.turn_table.specs.declared.views.Sight.{Sight}
use Rattle.turn_table.specs.declared.views.View.{View}
use Rattle.turn_table.specs.Log.{IsAt, Begins, given_to, signed_by}
use Rattle.turn_table.specs.Views.{after_claim, after_turn, after_read}

module _ {X E N : Type 0} (entries : X → List E) (name : X → N) (signature : E → Option ℕ) where
  -- What a pass finds in a cell: a value with the name of the first one.
  -- Its entries extend those of the first one, and each list that the pass saw there. The entries in it that are
  -- signed with the number of the pass are exactly the signed ones that the pass itself gave there.
  pub record Comes (v : View X E) (cell : ℕ) (value : X) : Type 0 where
    pub first : X
    pub begins : IsAt v.values cell first
    pub same_name : name value ≡ name first
    pub grown : Begins (entries first) (entries value)
    pub later : All (λ (sight : Sight E). sight.cell ≡ cell → Begins sight.list (entries value)) v.seen
    pub mine : signed_by signature v.number (entries value) ≡ signed_by signature v.number (given_to cell v.own)

  -- the pass takes the cell, whose word was this
  pub record Takes (cell word : ℕ) (before after : Me (Option X) (View X E)) : Type 0 where
    pub value : X
    pub knows : after.0 ≡ after_claim entries before.0 cell value
    pub slot : after.1 ≡ (cell, Some value) ∷ before.1
    pub counts : word ≡ 2 * length (entries value)
    pub comes : Comes before.0 cell value

  -- the pass takes the cell if its word is the expected one; otherwise nothing changes
  abbrev pub Tries : Step (Option X) → Me (Option X) (View X E) → ℕ → Me (Option X) (View X E) → Type 0
  Tries try before found after =
      (found ≡ try.first → Takes try.word found before after)
      × (found ≢ try.first → after ≡ before)

module _ {X E : Type 0} where
  -- the pass releases the cell that it holds, with the value that it put into the slot
  abbrev pub LetsGo : (X → List E) → Me (Option X) (View X E) → Me (Option X) (View X E) → Type 0
  LetsGo entries before after = (cell : ℕ) (was value : X)
      → before.0.held ≡ Some record { cell = cell; value = was } → before.1 ≡ (cell, Some value) ∷ []
      → after ≡ (after_turn entries before.0 cell was value, [])

  -- the pass reads the log
  abbrev pub Reads : Me (Option X) (View X E) → Me (Option X) (View X E) → Type 0
  Reads before after = after ≡ (after_read before.0 after.0.log, before.1)
