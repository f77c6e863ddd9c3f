-- The text of lines, and what is put of it.
use Rattle.std.proofs.Common.{◌≡◌, ℕ, ◌∷◌, ◌++◌, [], List, length, Bool, true, false, cond, ◌==◌, refl, ap, sym, ◌∙◌, append_assoc, arith}
use Rattle.std.proofs.lemmas.Bool.{eqb-true}
use Rattle.ops_meaning.specs.Layout.{fresh_line, line_at, lines_at}
use Rattle.why_lines.specs.WhyLines.{text_of}

-- lines that begin at column 0
lines_text : (ls : List (List ℕ)) → lines_at 0 ls ≡ text_of ls
lines_text [] = refl
lines_text (l ∷ ls) = ap (λ w. (l ++ 10 ∷ []) ++ w) (lines_text ls)

-- no lines
pub no_lines : (column : ℕ) (ls : List (List ℕ)) (text : List ℕ) → text ≡ text_of ls → (length text == 0) ≡ true → lines_at column ls ≡ []
no_lines column [] text is none = refl
no_lines column (l ∷ ls) text is none =
    let some : text ≡ (l ++ 10 ∷ []) ++ text_of ls = is in
    absurd (by l text some none)
  where
    by : (l text : List ℕ) → text ≡ (l ++ 10 ∷ []) ++ text_of ls → (length text == 0) ≡ true → ⊥
    by [] [] e none = cc
    by (b ∷ l) [] e none = cc
    by l (b ∷ text) e none =
        let zero : length (b ∷ text) ≡ 0 = eqb-true (length (b ∷ text)) 0 none in
        omega arith

-- some lines are their text, on a line of its own
pub some_lines : (column : ℕ) (ls : List (List ℕ)) (text : List ℕ) → text ≡ text_of ls → (length text == 0) ≡ false → lines_at column ls ≡ fresh_line column ++ text
some_lines column [] text is some =
    let none : (length text == 0) ≡ true = ap (λ (w : List ℕ). length w == 0) is in
    let bad : true ≡ false = sym none ∙ some in absurd (cc)
some_lines column (l ∷ ls) text is some =
    append_assoc (fresh_line column) (l ++ 10 ∷ []) (lines_at 0 ls)
    ∙ ap (λ w. fresh_line column ++ ((l ++ 10 ∷ []) ++ w)) (lines_text ls)
    ∙ ap (λ w. fresh_line column ++ w) (sym is)
