-- What conditions make visible.
use Rattle.std.specs.Prelude.{ℕ, ◌+◌, List, [], ◌∷◌, Option, Some, None, if◌then◌else◌}
use Rattle.ops_base.specs.declared.conditions.Part.{Part}
use Rattle.ops_base.specs.declared.conditions.Part.TheVariants.{One, Group}

-- the cell of each part, if this many cells come before: none for a negated condition or a group
abbrev pub cells_from : ℕ → List Part → List (Option ℕ)
cells_from n [] = []
cells_from n (One c ∷ ps) = if c.negated then None ∷ cells_from n ps else Some n ∷ cells_from (n + 1) ps
cells_from n (Group cs ∷ ps) = None ∷ cells_from n ps
