-- The rule that the cells keep between any two steps. It is stated for one cell at a time and for one pass at a time.
use Rattle.std.specs.Prelude.{◌≡◌, ℕ, ◌+◌, ◌*◌, ◌≤◌, ◌⊎◌, true, false, List, [], ◌∷◌, ◌++◌, Option, Some, None, length, slice_index, if◌then◌else◌}
use Rattle.std.specs.List.{All}
use mathlib.Core.Option.{some}
use mathlib.Core.Option as maybe
use Rattle.atomic_table.specs.Table.{State}
use Rattle.turn_table.specs.declared.views.Row.{Row}
use Rattle.turn_table.specs.declared.views.Sight.{Sight}
use Rattle.turn_table.specs.declared.views.Share.{Share}
use Rattle.turn_table.specs.declared.views.View.{View}
use Rattle.turn_table.specs.Log.{IsAt, Begins, IsRow, given_to, rows_of}
use Rattle.turn_table.specs.Views.{spent}

module _ {X E : Type 0} (entries : X → List E) where
  -- the list of a cell that began with this value
  abbrev pub list_of : List (Row E) → ℕ → X → List E
  list_of log cell first = entries first ++ given_to cell log

  -- the list that was seen in a cell is a prefix of the cell's list now
  abbrev pub IsSeen : List X → List (Row E) → Sight E → Type 0
  IsSeen values log sight = (first : X) × IsAt values sight.cell first × Begins sight.list (list_of log sight.cell first)

  -- a pass holds the cell
  pub record IsOut (log : List (Row E)) (words : List ℕ) (views : List (View X E)) (cell : ℕ) (first : X) : Type 0 where
    pub word : slice_index words cell ≡ 2 * length (list_of log cell first) + 1
    pub pass : ℕ
    pub view : View X E
    pub was : X
    pub sits : IsAt views pass view
    pub holds : view.held ≡ Some record { cell = cell; value = was }

module _ {X E : Type 0} where
  -- the pass was joined with all its rows
  abbrev pub IsJoined : List (Row E) → List (View X E) → Share E → Type 0
  IsJoined log views share = (share.rows ≡ rows_of share.pass log) × IsAt views share.pass spent

  -- how many passes are in use
  abbrev pub count_in_use : List (View X E) → ℕ
  count_in_use [] = 0
  count_in_use (v ∷ vs) = (if v.in_use then 1 else 0) + count_in_use vs

  -- the first pass is in use, and counts the others
  pub record HasFirst (views : List (View X E)) : Type 0 where
    pub view : View X E
    pub sits : IsAt views 0 view
    pub in_use : view.in_use ≡ true
    pub splits : length views ≡ view.splits + 1
    pub apart : count_in_use views ≡ view.apart + 1

  -- any two passes that hold the same cell are the same pass
  abbrev pub OneHolds : List (View X E) → Type 0
  OneHolds views = (cell p q : ℕ) (v w : View X E) (a b : X) → IsAt views p v → IsAt views q w
      → v.held ≡ Some record { cell = cell; value = a } → w.held ≡ Some record { cell = cell; value = b } → p ≡ q

  -- a pass that has read the log knows all of it, and is the first and the only one
  abbrev pub Ended : List (Row E) → List (View X E) → Type 0
  Ended log views = (p : ℕ) (v : View X E) → IsAt views p v → v.ended ≡ true
      → (v.log ≡ log) × (p ≡ 0) × (count_in_use views ≡ 1)

module _ {X E N : Type 0} (entries : X → List E) (name : X → N) where
  -- the value of the cell is home
  pub record IsHome (log : List (Row E)) (words : List ℕ) (homes : List (maybe.Option (Option X))) (cell : ℕ) (first : X) : Type 0 where
    pub word : slice_index words cell ≡ 2 * length (list_of entries log cell first)
    pub value : X
    pub home : IsAt homes cell (some (Some value))
    pub list : entries value ≡ list_of entries log cell first
    pub same_name : name value ≡ name first

  -- a pass that holds the cell found this value there
  pub record Found (values : List X) (log : List (Row E)) (words : List ℕ) (cell : ℕ) (was : X) : Type 0 where
    pub first : X
    pub begins : IsAt values cell first
    pub word : slice_index words cell ≡ 2 * length (list_of entries log cell first) + 1
    pub list : entries was ≡ list_of entries log cell first
    pub same_name : name was ≡ name first

  -- what a pass in use knows is true
  pub record KnowsTruly (values : List X) (log : List (Row E)) (words : List ℕ) (views : List (View X E)) (pass : ℕ) (v : View X E) : Type 0 where
    pub same_values : v.values ≡ values
    pub same_number : v.number ≡ pass
    pub own : v.own ≡ rows_of pass log
    pub found : (cell : ℕ) (was : X) → v.held ≡ Some record { cell = cell; value = was } → Found values log words cell was
    pub joined : All (IsJoined log views) v.joined
    pub seen : All (IsSeen entries values log) v.seen

  -- The cells began with these values, and one log accounts for everything that was given since
  pub record Keeps (signature : E → Option ℕ) (values : List X) (s : State (Option X) (View X E)) : Type 0 where
    pub log : List (Row E)
    pub words : length s.words ≡ length values
    pub slots : length s.homes ≡ length values
    pub cells : (cell : ℕ) (first : X) → IsAt values cell first
        → IsHome log s.words s.homes cell first ⊎ IsOut entries log s.words s.views cell first
    pub one_holds : OneHolds s.views
    pub in_use : (p : ℕ) (v : View X E) → IsAt s.views p v → v.in_use ≡ true → KnowsTruly values log s.words s.views p v
    pub not_in_use : (p : ℕ) (v : View X E) → IsAt s.views p v → v.in_use ≡ false → v ≡ spent
    pub ended : Ended log s.views
    pub first : HasFirst s.views
    pub unborn : (p : ℕ) → length s.views ≤ p → rows_of p log ≡ []
    pub rows : All (IsRow signature (length values)) log
    pub unsigned : All (λ value. All (λ entry. signature entry ≡ None) (entries value)) values
