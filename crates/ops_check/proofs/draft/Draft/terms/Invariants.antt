use Rattle.std.proofs.Common.{◌≡◌, List, length, ◌∷◌, ◌++◌, ◌≤◌}
use Rattle.ops_grammar.specs.declared.words.Word.{Word}
use Rattle.ops_grammar.specs.Grammar.{Wanted, InFixed, Terms, goes}
use Rattle.ops_check.specs.Walks.{view}
use Rattle.ops_check.proofs.draft.Draft.terms.Given as goal

abbrev pub invariant-terms : goal.invariant-terms
invariant-terms l =
    ((more : List Word) (ws : List Wanted) → goes (l.fn.words ++ more) (Terms InFixed ∷ ws) (view l.fn.self) ≡ goes (l.rest ++ more) (Terms InFixed ∷ ws) (view l.self)) × (length l.rest ≤ length l.fn.words)

abbrev pub decreases-terms : goal.decreases-terms
decreases-terms l = length l.rest
