-- Partial matches, and the lines that `matches` writes of them.
use Rattle.std.specs.Prelude.{ℕ, zero, suc, List, [], ◌++◌, length, map, take, slice_get}
use Rattle.std.specs.Option.{option_map_or}
use Rattle.ops_base.specs.declared.conditions.Part.{Part}
use Rattle.ops_base.specs.declared.elements.Element.{Element}
use Rattle.ops_base.specs.declared.rules.Rule.{Rule}
use Rattle.ops_base.specs.declared.values.Sym.{Sym}
use Rattle.ops_base.specs.ConflictSet.{matches_of}
use Rattle.ops_base.specs.Names.{Spellings}
use Rattle.ops_meaning.specs.Layout.{partial_text}

-- the parts of the left side of the production with this number
abbrev pub left_side : List Rule → ℕ → List Part
left_side rules n = option_map_or (λ r. r.conditions) (slice_get rules n) []

-- the tags of each partial match of the first k parts, in lexicographic order
abbrev pub partial_tags : List Element → List Part → ℕ → List (List ℕ)
partial_tags wm parts k = map (λ p. p.tags) (matches_of wm (take k parts))

-- the lines of the partial matches of the first k parts, where the production has this name
abbrev pub partial_lines : Spellings → Sym → List Element → List Part → ℕ → List (List ℕ)
partial_lines names name wm parts k = map (partial_text names name k) (partial_tags wm parts k)

-- the same for this many numbers of parts, from k on
abbrev pub partial_lines_from : Spellings → Sym → List Element → List Part → ℕ → ℕ → List (List ℕ)
partial_lines_from names name wm parts k zero = []
partial_lines_from names name wm parts k (suc more) =
    partial_lines names name wm parts k ++ partial_lines_from names name wm parts (suc k) more

-- the same for each number of parts, from the first part alone to the whole left side
abbrev pub all_partial_lines : Spellings → Sym → List Element → List Part → List (List ℕ)
all_partial_lines names name wm parts = partial_lines_from names name wm parts 1 (length parts)
