-- The changes that make a working memory anew, with the last tag that was given.
use Rattle.std.specs.Prelude.{ℕ, ◌<◌, List, [], ◌∷◌, ◌++◌, map, ◌==◌, if◌then◌else◌}
use Rattle.ops_base.specs.declared.elements.Element.{Element}
use Rattle.ops_base.specs.declared.elements.Change.{Change}
use Rattle.ops_base.specs.declared.elements.Change.TheVariants.{Add, Remove}
use Rattle.ops_base.specs.WorkingMemory.{last_after}

-- each tag is above the one before it, and the first is above this
abbrev pub Rises : ℕ → List Element → Type 0
Rises l [] = Unit {0}
Rises l (e ∷ es) = (l < e.tag) × Rises e.tag es

-- an element of no class that is declared, where classes have numbers below this one
abbrev pub of_no_class : ℕ → ℕ → Element
of_no_class classes tag = record { tag = tag; class = classes; fields = [] }

-- The last tag is given, where it is not: to an element that goes at once.
abbrev pub tag_given : ℕ → ℕ → ℕ → List Change
tag_given classes given last = if given == last then [] else Add (of_no_class classes last) ∷ Remove last ∷ []

abbrev pub fed_again : ℕ → List Element → ℕ → List Change
fed_again classes wm last = map Add wm ++ tag_given classes (last_after 0 (map Add wm)) last
