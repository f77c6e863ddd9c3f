-- One more word.
use Rattle.std.proofs.Common.{◌≡◌, ℕ, ◌+◌, ◌<◌, List, [], ◌∷◌, length, drop, get_or, Bool, true, false, refl, sym, ap, ◌∙◌}
use Rattle.std.specs.Prelude.{◌&&◌}
use Rattle.std.specs.List.{list_all}
use Rattle.std.proofs.lemmas.List.{drop_more}
use Rattle.lint_top.specs.Whole.{is_file}

-- the words from one on name files if it does and those after it do
word_first : (words : List (List ℕ)) (i : ℕ) (word : List ℕ) → i < length words → word ≡ get_or words i [] → list_all is_file (drop i words) ≡ (is_file word && list_all is_file (drop (i + 1) words))
word_first words i word within is =
    ap (list_all is_file) (drop_more words i [] within ∙ ap (λ w. w ∷ drop (i + 1) words) (sym is))

and_true : (b c : Bool) → b ≡ true → (b && c) ≡ c
and_true true c e = refl
and_true false c e = cc

and_false : (b c : Bool) → b ≡ false → (b && c) ≡ false
and_false true c e = cc
and_false false c e = refl

module _ (words : List (List ℕ)) (all : Bool) (i : ℕ) (word : List ℕ) (within : i < length words) (is : word ≡ get_or words i []) (sofar : all ≡ list_all is_file (drop i words)) where
  pub word_more : is_file word ≡ true → all ≡ list_all is_file (drop (i + 1) words)
  word_more e = sofar ∙ word_first words i word within is ∙ and_true (is_file word) (list_all is_file (drop (i + 1) words)) e

  pub word_less : is_file word ≡ false → false ≡ all
  word_less e = sym (sofar ∙ word_first words i word within is ∙ and_false (is_file word) (list_all is_file (drop (i + 1) words)) e)
