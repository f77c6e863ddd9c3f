-- How many variables a production with groups has, and how specific it is.
use Rattle.std.specs.Prelude.{◌≡◌, ℕ, [], ◌∷◌, map, codes}
use Rattle.ops_base.specs.declared.rules.Rule.{Rule}
use Rattle.ops_grammar.specs.Reads.{reads}
use Rattle.read_laws.specs.Texts.{Text, rules_in}

-- how many variables it has, and its specificity
abbrev pub counts_of : Rule → ℕ × ℕ
counts_of r = (r.variables, r.specificity)

-- the one production of the text has this many variables and this specificity
abbrev pub Counts : Text → ℕ → ℕ → Type 0
Counts text variables specificity = map counts_of (rules_in (reads text)) ≡ (variables, specificity) ∷ []

abbrev pub GroupsCount : Type 0
GroupsCount =
    Counts (codes "(literalize a n) (p r (a) -{(a)(a)}-->)") 0 3
    × Counts (codes "(literalize a n) (p r (a ^n <x>) - { (a ^n <y>) (a ^n { <> <y> > <x> }) } --> )") 2 5
    × Counts (codes "(literalize a n) (p r (a) - { (a ^n <x>) (a ^n << 1 2 >>) (a) } (a ^n <x>) --> (write <x>))") 2 6
    × Counts (codes "(literalize a n) (p r (a) - { (a) (a) } - (a) --> (remove 1))") 0 4
    × Counts (codes "(literalize a v) (vector-attribute v) (p r (a ^v // - { > 3 }) --> )") 0 3
