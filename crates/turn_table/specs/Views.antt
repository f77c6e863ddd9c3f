-- What a pass knows, and how each step changes it.
use Rattle.std.specs.Prelude.{ℕ, ◌+◌, ◌-◌, true, false, List, [], ◌∷◌, ◌++◌, Some, None, length, drop}
use Rattle.turn_table.specs.declared.views.Row.{Row}
use Rattle.turn_table.specs.declared.views.View.{View}
use Rattle.turn_table.specs.Log.{as_rows}

module _ {X E : Type 0} where
  -- the first pass of cells that begin with these values
  abbrev pub opened : List X → View X E
  opened values = record {
    in_use = true;
    values = values;
    number = 0;
    splits = 0;
    apart = 0;
    held = None;
    own = [];
    joined = [];
    seen = [];
    ended = false;
    log = [];
  }

  -- a pass that was joined to the first one
  abbrev pub spent : View X E
  spent = record (opened []) { in_use = false }

  -- it has seen the list of this value in the cell
  abbrev pub after_look : (X → List E) → View X E → ℕ → X → View X E
  after_look entries v cell value = record v { seen = v.seen ++ record { cell = cell; list = entries value } ∷ [] }

  -- it holds the cell, in which it found this value
  abbrev pub after_claim : (X → List E) → View X E → ℕ → X → View X E
  after_claim entries v cell value = record (after_look entries v cell value) { held = Some record { cell = cell; value = value } }

  -- it has released the cell, with the second value in place of the first: the entries added to those of the first
  -- are its own
  abbrev pub after_turn : (X → List E) → View X E → ℕ → X → X → View X E
  after_turn entries v cell was value = record (after_look entries v cell value) {
    held = None;
    own = v.own ++ as_rows v.number cell (drop (length (entries was)) (entries value));
  }

  -- a further pass was split from it
  abbrev pub after_split : View X E → View X E
  after_split v = record v { splits = v.splits + 1; apart = v.apart + 1 }

  -- the pass that was split from it
  abbrev pub newborn : View X E → View X E
  newborn v = record (opened v.values) { number = v.splits + 1 }

  -- it took over what the other pass gave and saw
  abbrev pub after_join : View X E → View X E → View X E
  after_join v other = record v {
    apart = v.apart - 1;
    joined = v.joined ++ record { pass = other.number; rows = other.own } ∷ [];
    seen = v.seen ++ other.seen;
  }

  -- it has read the log at the end
  abbrev pub after_read : View X E → List (Row E) → View X E
  after_read v log = record v { ended = true; log = log }
