use Rattle.std.proofs.Common.{◌≡◌, List, length, ◌∷◌, ◌++◌, ◌≤◌}
use Rattle.ops_grammar.specs.declared.words.Word.{Word}
use Rattle.ops_grammar.specs.Grammar.{Wanted, Attributes, goes}
use Rattle.ops_check.specs.Walks.{view}
use Rattle.ops_check.proofs.draft.Draft.attributes.Given as goal

abbrev pub invariant-attributes : goal.invariant-attributes
invariant-attributes l =
    ((more : List Word) (ws : List Wanted) → goes (l.fn.words ++ more) (Attributes ∷ ws) (view l.fn.self) ≡ goes (l.rest ++ more) (Attributes ∷ ws) (view l.self)) × (length l.rest ≤ length l.fn.words)

abbrev pub decreases-attributes : goal.decreases-attributes
decreases-attributes l = length l.rest
