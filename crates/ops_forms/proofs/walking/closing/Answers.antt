use Rattle.std.proofs.Common.{◌≡◌, ℕ, zero, suc, List, [], ◌∷◌, drop, slice_get, Some, ◌∙◌, sym}
use Rattle.ops_grammar.specs.declared.words.Word.{Word}
use Rattle.ops_forms.proofs.walking.closing.Goals as goal

-- what stands first from a place on stands at that place
stands_at : (words rest : List Word) (at : ℕ) (w : Word) → drop at words ≡ w ∷ rest → slice_get words at ≡ Some w
stands_at [] rest zero w e = absurd (cc)
stands_at [] rest (suc at) w e = absurd (cc)
stands_at (x ∷ words) rest zero w e = cc
stands_at (x ∷ words) rest (suc at) w e = stands_at words rest at w e

pub returns-clause-rest : goal.returns-clause-rest
returns-clause-rest c =
    (c.in_ok-word.ensures.1, c.in_ok-word.word, stands_at c.args.words.now _ c.args.at c.in_ok-word.word c.in_ok-word.ensures.0, sym c.is_right.ensures ∙ c.if-not-is_right.false)
