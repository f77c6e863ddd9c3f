use Rattle.std.proofs.Common.{◌≡◌, List, length, [], ◌∷◌, ◌++◌}
use Rattle.ops_grammar.specs.declared.words.Word.{Word}
use Rattle.ops_grammar.specs.Grammar.{Forms, goes}
use Rattle.ops_check.specs.Walks.{view}
use Rattle.ops_check.proofs.draft.Draft.forms.Given as goal

abbrev pub invariant-forms : goal.invariant-forms
invariant-forms l = (more : List Word) → goes (l.fn.words ++ more) (Forms ∷ []) (view l.fn.self) ≡ goes (l.rest ++ more) (Forms ∷ []) (view l.self)

abbrev pub decreases-forms : goal.decreases-forms
decreases-forms l = length l.rest
