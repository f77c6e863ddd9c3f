use Rattle.std.proofs.Common.{◌≡◌, List, length, ◌∷◌, ◌++◌, ◌≤◌}
use Rattle.ops_grammar.specs.declared.words.Word.{Word}
use Rattle.ops_grammar.specs.Grammar.{Wanted, VectorNames, goes}
use Rattle.ops_check.specs.Walks.{view}
use Rattle.ops_check.proofs.draft.Draft.vector_names.Given as goal

abbrev pub invariant-vectors : goal.invariant-vectors
invariant-vectors l =
    ((more : List Word) (ws : List Wanted) → goes (l.fn.words ++ more) (VectorNames ∷ ws) (view l.fn.self) ≡ goes (l.rest ++ more) (VectorNames ∷ ws) (view l.self)) × (length l.rest ≤ length l.fn.words)

abbrev pub decreases-vectors : goal.decreases-vectors
decreases-vectors l = length l.rest
