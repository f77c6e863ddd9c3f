-- Lines and columns of a text that follows another one.
use Rattle.std.proofs.Common.{◌≡◌, ℕ, ◌+◌, ◌-◌, ◌≤◌, List, [], ◌∷◌, ◌++◌, length, take, drop, Bool, true, false, refl, sym, ap, cond, ◌∙◌, ◌⊎◌, inl, inr, arith}
use Rattle.std.specs.Prelude.{◌==◌, not, reverse, take_while, count_by}
use Rattle.std.proofs.Math.Seq.{take-add}
use Rattle.std.proofs.lemmas.List.{reverse-append}
use Rattle.std.proofs.lemmas.List.Sums.{take_while-cons}
use Rattle.std.proofs.lemmas.Bool.{eqb-true}
use Rattle.std.proofs.lemmas.Grind.{common_steps}
use Rattle.joined_files.specs.Files.{ends_in_line}
use Rattle.lint_top.specs.Translated.{LinesAreLess, ColumnsAreSame}

count_append : (xs ys : List ℕ) → count_by (λ b. b == 10) (xs ++ ys) ≡ count_by (λ b. b == 10) xs + count_by (λ b. b == 10) ys
count_append xs ys = grind (arith, common_steps)

split : (text : List ℕ) (first at : ℕ) → first ≤ at → take at text ≡ take first text ++ take (at - first) (drop first text)
split text first at h =
    let e : at ≡ first + (at - first) = omega arith in
    ap (λ n. take n text) e ∙ take-add first (at - first) text

pub lines : LinesAreLess
lines text part at h =
    let first = part.first in
    let e = ap (λ xs. count_by (λ b. b == 10) xs) (split text first at h) ∙ count_append (take first text) (take (at - first) (drop first text)) in
    omega (arith, e)

-- a text that ends in LF is empty, or has that LF last
last_line : (xs : List ℕ) → ends_in_line xs ≡ true → (xs ≡ []) ⊎ ((ys : List ℕ) × (xs ≡ ys ++ 10 ∷ []))
last_line [] e = inl refl
last_line (b ∷ []) e = let is : b ≡ 10 = eqb-true b 10 e in inr ([], ap (λ n. n ∷ []) is)
last_line (b ∷ c ∷ bs) e = elim (last_line (c ∷ bs) e) [
  | inl none ↦ absurd (cc)
  | inr some ↦ inr (b ∷ some.0, ap (λ xs. b ∷ xs) some.1)
]

-- the bytes that are taken end with an LF
stops : (xs ys : List ℕ) → take_while (λ b. not (b == 10)) (xs ++ 10 ∷ ys) ≡ take_while (λ b. not (b == 10)) xs
stops [] ys = refl
stops (x ∷ xs) ys =
    take_while-cons (λ b. not (b == 10)) x (xs ++ 10 ∷ ys) ∙ by (stops xs ys) (x == 10)
    ∙ sym (take_while-cons (λ b. not (b == 10)) x xs)
  where
    by : take_while (λ b. not (b == 10)) (xs ++ 10 ∷ ys) ≡ take_while (λ b. not (b == 10)) xs → (b : Bool) → cond (not b) (x ∷ take_while (λ b. not (b == 10)) (xs ++ 10 ∷ ys)) [] ≡ cond (not b) (x ∷ take_while (λ b. not (b == 10)) xs) []
    by e true = refl
    by e false = ap (λ zs. x ∷ zs) e

after : (xs ys : List ℕ) → (xs ≡ []) ⊎ ((zs : List ℕ) × (xs ≡ zs ++ 10 ∷ [])) → take_while (λ b. not (b == 10)) (reverse (xs ++ ys)) ≡ take_while (λ b. not (b == 10)) (reverse ys)
after xs ys (inl none) = ap (λ zs. take_while (λ b. not (b == 10)) (reverse (zs ++ ys))) none
after xs ys (inr some) =
    let turned : reverse xs ≡ 10 ∷ reverse some.0 = ap reverse some.1 ∙ reverse-append some.0 (10 ∷ []) in
    ap (λ zs. take_while (λ b. not (b == 10)) zs) (reverse-append xs ys ∙ ap (λ zs. reverse ys ++ zs) turned) ∙ stops (reverse ys) (reverse some.0)

pub columns : ColumnsAreSame
columns text part at h e =
    let first = part.first in
    ap (λ xs. 1 + length (take_while (λ b. not (b == 10)) (reverse xs))) (split text first at h)
    ∙ ap (λ xs. 1 + length xs) (after (take first text) (take (at - first) (drop first text)) (last_line (take first text) e))
