use Rattle.std.proofs.Common.{◌≡◌, List, length, ◌∷◌, ◌++◌, ◌≤◌}
use Rattle.ops_grammar.specs.declared.words.Word.{Word}
use Rattle.ops_grammar.specs.Grammar.{Wanted, NamedRules, goes}
use Rattle.ops_check.specs.Walks.{view, name_use_of}
use Rattle.ops_check.proofs.draft.Draft.names.Given as goal

abbrev pub invariant-names : goal.invariant-names
invariant-names l =
    ((more : List Word) (ws : List Wanted) → goes (l.fn.words ++ more) (NamedRules (name_use_of l.fn.name_use) ∷ ws) (view l.fn.self) ≡ goes (l.rest ++ more) (NamedRules (name_use_of l.fn.name_use) ∷ ws) (view l.self)) × (length l.rest ≤ length l.fn.words)

abbrev pub decreases-names : goal.decreases-names
decreases-names l = length l.rest
