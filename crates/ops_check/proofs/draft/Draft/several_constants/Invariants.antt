use Rattle.std.proofs.Common.{◌≡◌, List, length, ◌∷◌, ◌++◌, ◌≤◌}
use Rattle.ops_grammar.specs.declared.words.Word.{Word}
use Rattle.ops_grammar.specs.Grammar.{Wanted, InFixed, Several, goes}
use Rattle.ops_check.specs.Walks.{view}
use Rattle.ops_check.proofs.draft.Draft.several_constants.Given as goal

abbrev pub invariant-constants : goal.invariant-constants
invariant-constants l =
    ((more : List Word) (ws : List Wanted) → goes (l.fn.words ++ more) (Several InFixed l.fn.field ∷ ws) (view l.fn.self) ≡ goes (l.rest ++ more) (Several InFixed l.fn.field ∷ ws) (view l.self)) × (length l.rest ≤ length l.fn.words)

abbrev pub decreases-constants : goal.decreases-constants
decreases-constants l = length l.rest
