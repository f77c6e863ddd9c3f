use Rattle.std.proofs.Common.{◌≡◌, List, length, ◌∷◌, ◌++◌, ◌≤◌}
use Rattle.ops_grammar.specs.declared.words.Word.{Word}
use Rattle.ops_grammar.specs.Grammar.{Wanted, Tags, goes}
use Rattle.ops_check.specs.Walks.{view, tag_use_of}
use Rattle.ops_check.proofs.draft.Draft.read_tags.Given as goal

abbrev pub invariant-tags : goal.invariant-tags
invariant-tags l =
    ((more : List Word) (ws : List Wanted) → goes (l.fn.words ++ more) (Tags (tag_use_of l.fn.tag_use) ∷ ws) (view l.fn.self) ≡ goes (l.rest ++ more) (Tags (tag_use_of l.fn.tag_use) ∷ ws) (view l.self)) × (length l.rest ≤ length l.fn.words)

abbrev pub decreases-tags : goal.decreases-tags
decreases-tags l = length l.rest
