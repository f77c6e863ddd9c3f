-- Texts that were met before.
use Rattle.std.specs.Prelude.{ℕ, List, [], ◌∷◌, ◌++◌, bytes_eq, position, Option, if◌then◌else◌}
use Rattle.ops_base.specs.Names.{is_held}

-- the place at which the text was met first
abbrev pub met_at : List (List ℕ) → List ℕ → Option ℕ
met_at texts s = position (λ t. bytes_eq s t) texts

-- the texts with this one among them
abbrev pub with_text : List (List ℕ) → List ℕ → List (List ℕ)
with_text texts s = if is_held texts s then texts else texts ++ s ∷ []
