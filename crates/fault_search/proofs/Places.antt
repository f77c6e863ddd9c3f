-- No two places of a text have the same line and the same column.
use Rattle.std.proofs.Common.{◌≡◌, ℕ, zero, suc, ◌+◌, ◌-◌, ◌<◌, ◌≤◌, List, [], ◌∷◌, ◌++◌, length, take, get_or, Bool, true, false, refl, sym, ap, ◌∙◌, ◌⊎◌, inl, inr, arith}
use Rattle.std.specs.Prelude.{◌==◌, if◌then◌else◌, not, reverse, take_while, count_by}
use Rattle.std.proofs.lemmas.List.{take_more}
use Rattle.std.proofs.lemmas.Grind.{common_steps}
use Rattle.ops_grammar.specs.Places.{line_of, column_of}

line_after : (before : List ℕ) (b : ℕ) → 1 + count_by (λ x. x == 10) (before ++ b ∷ []) ≡ (if b == 10 then 1 + count_by (λ x. x == 10) before + 1 else 1 + count_by (λ x. x == 10) before)
line_after before b = grind (arith, common_steps)

column_after : (before : List ℕ) (b : ℕ) → 1 + length (take_while (λ x. not (x == 10)) (reverse (before ++ b ∷ []))) ≡ (if b == 10 then 1 else 1 + length (take_while (λ x. not (x == 10)) (reverse before)) + 1)
column_after before b = grind (arith, common_steps)

-- what a byte adds to a line and to a column
pub low_by : (b : Bool) (m d i n e : ℕ) → n ≡ (if b then m + 1 else m) → e ≡ (if b then 1 else d + 1) → m ≤ 1 + i → d ≤ 1 + i → (n ≤ 1 + (i + 1)) × (e ≤ 1 + (i + 1))
low_by true m d i n e h k p q = (omega (arith, h, p), omega (arith, k, q))
low_by false m d i n e h k p q = (omega (arith, h, p), omega (arith, k, q))

module _ (text : List ℕ) where
  -- the line and the column a byte later
  pub line_step : (i : ℕ) → i < length text → line_of text (i + 1) ≡ (if get_or text i 0 == 10 then line_of text i + 1 else line_of text i)
  line_step i h = ap (λ xs. 1 + count_by (λ x. x == 10) xs) (take_more text i 0 h) ∙ line_after (take i text) (get_or text i 0)

  pub column_step : (i : ℕ) → i < length text → column_of text (i + 1) ≡ (if get_or text i 0 == 10 then 1 else column_of text i + 1)
  column_step i h = ap (λ xs. 1 + length (take_while (λ x. not (x == 10)) (reverse xs))) (take_more text i 0 h) ∙ column_after (take i text) (get_or text i 0)

  abbrev IsLater : ℕ → ℕ → Type 0
  IsLater i j = (line_of text i < line_of text j) ⊎ ((line_of text i ≡ line_of text j) × (column_of text i < column_of text j))

  -- the line and the column of one place, compared with those of a place before it
  step_by : (b : Bool) (l c m d n e : ℕ) → n ≡ (if b then m + 1 else m) → e ≡ (if b then 1 else d + 1) → (l < m) ⊎ ((l ≡ m) × (c < d)) → (l < n) ⊎ ((l ≡ n) × (c < e))
  step_by true l c m d n e h k (inl p) = inl (omega (arith, h, p))
  step_by true l c m d n e h k (inr p) = inl (omega (arith, h, p.0))
  step_by false l c m d n e h k (inl p) = inl (omega (arith, h, p))
  step_by false l c m d n e h k (inr p) = inr (omega (arith, h, p.0), omega (arith, k, p.1))

  first_by : (b : Bool) (m d n e : ℕ) → n ≡ (if b then m + 1 else m) → e ≡ (if b then 1 else d + 1) → (m < n) ⊎ ((m ≡ n) × (d < e))
  first_by true m d n e h k = inl (omega (arith, h))
  first_by false m d n e h k = inr (omega (arith, h), omega (arith, k))

  later : (d i j : ℕ) → j ≡ i + d + 1 → j ≤ length text → IsLater i j
  later zero i j e h =
      let lt : i < length text = omega (arith, e, h) in
      let here = first_by (get_or text i 0 == 10) (line_of text i) (column_of text i) _ _ (line_step i lt) (column_step i lt) in
      let is : i + 1 ≡ j = omega (arith, e) in
      rw (sym is) here
  later (suc d) i j e h =
      let lt : i + d + 1 < length text = omega (arith, e, h) in
      let before = later d i (i + d + 1) refl (omega (arith, lt)) in
      let here = step_by (get_or text (i + d + 1) 0 == 10) (line_of text i) (column_of text i) _ _ _ _ (line_step (i + d + 1) lt) (column_step (i + d + 1) lt) before in
      let is : i + d + 1 + 1 ≡ j = omega (arith, e) in
      rw (sym is) here

  not_later : (i j : ℕ) → IsLater i j → line_of text i ≡ line_of text j → column_of text i ≡ column_of text j → ⊥
  not_later i j (inl p) l c = omega (arith, p, l)
  not_later i j (inr p) l c = omega (arith, p.1, c)

  pub one_place : (i j : ℕ) → i ≤ length text → j ≤ length text → line_of text i ≡ line_of text j → column_of text i ≡ column_of text j → i ≡ j
  one_place i j h k l c =
      let below : i < j → ⊥ = λ lt. not_later i j (later (j - i - 1) i j (omega arith) k) l c in
      let above : j < i → ⊥ = λ lt. not_later j i (later (i - j - 1) j i (omega arith) h) (sym l) (sym c) in
      omega (arith, below, above)
