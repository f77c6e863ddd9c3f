-- How often right tokens stand that pass a test, where one of them stands once more or once less.
use Rattle.std.proofs.Common.{◌≡◌, ◌≢◌, ℕ, zero, suc, ◌+◌, ◌-◌, ◌<◌, Bool, true, false, cond, ◌==◌, List, [], ◌∷◌, ◌++◌, pos, ◌+ℤ◌, length, refl, sym, ap, ap₂, subst, ◌∙◌, arith, append_assoc, append-nil}
use Rattle.std.proofs.lemmas.Bool.Decides.{Decides-eqb}
use Rattle.std.proofs.lemmas.Int.{ints}
use Rattle.net_base.specs.Tokens.{Tokens, sum_to, count_from}
use Rattle.token_line.specs.Sums.{counted}
use Rattle.activation.specs.Acting.{signed}

-- ---- sums

sum_same : (n : ℕ) (f g : ℕ → ℕ) → ((k : ℕ) → f k ≡ g k) → sum_to n f ≡ sum_to n g
unfolding sum_to
sum_same zero f g same = refl
sum_same (suc n) f g same = ap₂ ◌+◌ (same n) (sum_same n f g same)

sum_low : (n : ℕ) (f g : ℕ → ℕ) → ((k : ℕ) → k < n → f k ≡ g k) → sum_to n f ≡ sum_to n g
unfolding sum_to
sum_low zero f g same = refl
sum_low (suc n) f g same = ap₂ ◌+◌ (same n (omega arith)) (sum_low n f g (λ k lt. same k (omega arith)))

-- one number alone is another
sum_one : (n k : ℕ) (f g : ℕ → ℕ) → k < n → ((j : ℕ) → j ≢ k → f j ≡ g j) → sum_to n g + f k ≡ sum_to n f + g k
unfolding sum_to
sum_one zero k f g lt same = absurd (omega arith)
sum_one (suc n) k f g lt same = by (λ low. sum_one n k f g low same) (n == k) refl
  where
    by : (k < n → sum_to n g + f k ≡ sum_to n f + g k) → (b : Bool) → (n == k) ≡ b → (g n + sum_to n g) + f k ≡ (f n + sum_to n f) + g k
    by ih true e =
        let here : n ≡ k = (Decides-eqb n k).0 e in
        let rest = sum_low n g f (λ j lt. sym (same j (λ e. absurd (omega arith)))) in
        let a = ap f here in
        let b = ap g here in
        omega (arith, rest, a, b)
    by ih false e =
        let apart : n ≢ k = λ z. let bad : true ≡ false = sym ((Decides-eqb n k).1 z) ∙ e in cc in
        let here = same n apart in
        omega (arith, ih (omega arith), here)

sum_each : (n : ℕ) (f : ℕ → ℕ) → sum_to n f ≡ 0 → (k : ℕ) → k < n → f k ≡ 0
unfolding sum_to
sum_each zero f none k lt = absurd (omega arith)
sum_each (suc n) f none k lt = by (λ low. sum_each n f (omega arith) k low) (k == n) refl
  where
    by : (k < n → f k ≡ 0) → (b : Bool) → (k == n) ≡ b → f k ≡ 0
    by ih true e = ap f ((Decides-eqb k n).0 e) ∙ (let z : f n ≡ 0 = omega arith in z)
    by ih false e =
        let apart : k ≢ n = λ z. let bad : true ≡ false = sym ((Decides-eqb k n).1 z) ∙ e in cc in
        ih (omega arith)

-- ---- counts

-- what passes stands as often, token by token
pub count_same : (tags more : ℕ) (test other : List ℕ → Bool) (r q : Tokens) (from : List ℕ) → ((v : List ℕ) → cond (test (from ++ v)) (r (from ++ v)) 0 ≡ cond (other (from ++ v)) (q (from ++ v)) 0)
    → count_from tags more test r from ≡ count_from tags more other q from
count_same tags zero test other r q from same = subst (λ v. cond (test v) (r v) 0 ≡ cond (other v) (q v) 0) (append-nil from) (same [])
count_same tags (suc more) test other r q from same =
    sum_same tags (λ k. count_from tags more test r (from ++ k ∷ [])) (λ k. count_from tags more other q (from ++ k ∷ []))
    (λ k. count_same tags more test other r q (from ++ k ∷ []) (λ v. subst (λ w. cond (test w) (r w) 0 ≡ cond (other w) (q w) 0) (sym (append_assoc from (k ∷ []) v)) (same (k ∷ v))))

same_next : (from : List ℕ) (j k : ℕ) (v w : List ℕ) → from ++ j ∷ v ≡ from ++ k ∷ w → j ≡ k
same_next [] j k v w e = cc
same_next (x ∷ from) j k v w e = let rest : from ++ j ∷ v ≡ from ++ k ∷ w = cc in same_next from j k v w rest

-- all tags are below the bound
abbrev pub AreLow : ℕ → List ℕ → Type 0
AreLow tags [] = Unit {0}
AreLow tags (k ∷ ks) = (k < tags) × AreLow tags ks

-- one token alone stands otherwise
pub count_one : (tags more : ℕ) (test : List ℕ → Bool) (r q : Tokens) (from x : List ℕ) → length x ≡ more → AreLow tags x → ((v : List ℕ) → v ≢ from ++ x → r v ≡ q v)
    → count_from tags more test q from + cond (test (from ++ x)) (r (from ++ x)) 0 ≡ count_from tags more test r from + cond (test (from ++ x)) (q (from ++ x)) 0
count_one tags zero test r q from [] long low same = subst (λ v. cond (test from) (q from) 0 + cond (test v) (r v) 0 ≡ cond (test from) (r from) 0 + cond (test v) (q v) 0) (sym (append-nil from)) (omega arith)
count_one tags zero test r q from (k ∷ x) long low same = absurd (omega arith)
count_one tags (suc more) test r q from [] long low same = absurd (omega arith)
count_one tags (suc more) test r q from (k ∷ x) long low same =
    let all = sum_one tags k at_r at_q low.0 others in
    let inside = count_one tags more test r q (from ++ k ∷ []) x (omega arith) low.1 (λ v ne. same v (λ e. ne (e ∙ sym (append_assoc from (k ∷ []) x)))) in
    let here = subst (λ w. at_q k + cond (test w) (r w) 0 ≡ at_r k + cond (test w) (q w) 0) (append_assoc from (k ∷ []) x) inside in
    omega (arith, all, here)
  where
    at_r : ℕ → ℕ
    at_r j = count_from tags more test r (from ++ j ∷ [])

    at_q : ℕ → ℕ
    at_q j = count_from tags more test q (from ++ j ∷ [])

    others : (j : ℕ) → j ≢ k → at_r j ≡ at_q j
    others j ne = count_same tags more test test r q (from ++ j ∷ [])
        (λ v. ap (λ n. cond (test ((from ++ j ∷ []) ++ v)) n 0) (same ((from ++ j ∷ []) ++ v) (λ e. ne (same_next from j k v x (sym (append_assoc from (j ∷ []) v) ∙ e)))))

pub count_each : (tags more : ℕ) (test : List ℕ → Bool) (r : Tokens) (from x : List ℕ) → count_from tags more test r from ≡ 0 → length x ≡ more → AreLow tags x → test (from ++ x) ≡ true → r (from ++ x) ≡ 0
count_each tags zero test r from [] none long low passes = ap (λ b. cond b (r (from ++ [])) 0) (sym passes) ∙ subst (λ v. cond (test v) (r v) 0 ≡ 0) (sym (append-nil from)) none
count_each tags zero test r from (k ∷ x) none long low passes = absurd (omega arith)
count_each tags (suc more) test r from [] none long low passes = absurd (omega arith)
count_each tags (suc more) test r from (k ∷ x) none long low passes =
    subst (λ w. test w ≡ true → r w ≡ 0) (append_assoc from (k ∷ []) x)
    (λ p. count_each tags more test r (from ++ k ∷ []) x (sum_each tags (λ j. count_from tags more test r (from ++ j ∷ [])) none k low.0) (omega arith) low.1 p) passes

module _ (tags more : ℕ) (test : List ℕ → Bool) (r q : Tokens) (x : List ℕ) (long : length x ≡ more) (low : AreLow tags x) (same : (v : List ℕ) → v ≢ x → r v ≡ q v) where
  abbrev of_r : ℕ
  of_r = count_from tags more test r []

  abbrev of_q : ℕ
  of_q = count_from tags more test q []

  one : of_q + cond (test x) (r x) 0 ≡ of_r + cond (test x) (q x) 0
  one = count_one tags more test r q [] x long low same

  -- the number is counted, where the token passes
  pub count_moves : (plus : Bool) → signed plus 1 +ℤ pos (r x) ≡ pos (q x) → of_q ≡ cond (test x) (counted plus of_r) of_r
  count_moves true e = by (test x) refl
    where
      by : (b : Bool) → test x ≡ b → of_q ≡ cond b (of_r + 1) of_r
      by true t = let h = ap (λ b. cond b (r x) 0) t in let g = ap (λ b. cond b (q x) 0) t in let o = one in omega (arith, ints, o, h, g, e)
      by false t = let h = ap (λ b. cond b (r x) 0) t in let g = ap (λ b. cond b (q x) 0) t in let o = one in omega (arith, o, h, g)
  count_moves false e = by (test x) refl
    where
      by : (b : Bool) → test x ≡ b → of_q ≡ cond b (of_r - 1) of_r
      by true t = let h = ap (λ b. cond b (r x) 0) t in let g = ap (λ b. cond b (q x) 0) t in let o = one in omega (arith, ints, o, h, g, e)
      by false t = let h = ap (λ b. cond b (r x) 0) t in let g = ap (λ b. cond b (q x) 0) t in let o = one in omega (arith, o, h, g)

  -- before a right token leaves, one that passes is counted
  pub one_stood : (plus : Bool) → signed plus 1 +ℤ pos (r x) ≡ pos (q x) → plus ≡ false → test x ≡ true → 0 < of_r
  one_stood true e minus t = cc
  one_stood false e minus t = let h = ap (λ b. cond b (r x) 0) t in let g = ap (λ b. cond b (q x) 0) t in let o = one in omega (arith, ints, o, h, g, e)

-- ---- entries

nothing_else : (b : Bool) → ◌≡◌ {A = ℕ} (cond b 0 0) 0
nothing_else true = refl
nothing_else false = refl

sum_none : (n : ℕ) (f : ℕ → ℕ) → ((k : ℕ) → f k ≡ 0) → sum_to n f ≡ 0
unfolding sum_to
sum_none zero f none = refl
sum_none (suc n) f none = ap₂ ◌+◌ (none n) (sum_none n f none)

pub count_none : (tags more : ℕ) (test : List ℕ → Bool) (from : List ℕ) → count_from tags more test (λ v. 0) from ≡ 0
count_none tags zero test from = nothing_else (test from)
count_none tags (suc more) test from = sum_none tags (λ k. count_from tags more test (λ v. 0) (from ++ k ∷ [])) (λ k. count_none tags more test (from ++ k ∷ []))
