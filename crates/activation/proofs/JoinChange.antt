-- What a join puts out for a task is the change of what it puts out.
use Rattle.std.proofs.Common.{◌≡◌, ◌≢◌, ℕ, zero, suc, ◌*◌, Bool, true, false, cond, ◌==◌, List, [], ◌∷◌, ◌++◌, ℤ, pos, negsuc, ◌+ℤ◌, refl, sym, ap, ap₂, subst, ◌∙◌, arith, bytes_eq, true≢false}
use Rattle.std.proofs.lemmas.Bool.{eqb-true}
use Rattle.std.proofs.lemmas.Bool.Decides.{nat_tests}
use Rattle.std.proofs.lemmas.Int.{ints}
use Rattle.std.proofs.lemmas.List.{same_from_push}
use Rattle.std.proofs.lemmas.Slice.Eq.{bytes_eq-Decides}
use Rattle.net_base.specs.declared.nodes.JoinTest.{JoinTest}
use Rattle.net_base.specs.Tokens.{Elements, Tokens, front, last, joins_hold, out_of_join}
use Rattle.token_line.specs.Bags.{sign, standing}
use Rattle.activation.specs.inner.Putting.{Put, changes}
use Rattle.activation.specs.Acting.{signed, number_put}

-- ---- how often a token stands

pub moves : (had : ℤ) (plus : Bool) → changes had plus ≡ true → signed plus 1 +ℤ pos (standing had) ≡ pos (standing (had +ℤ sign plus))
moves (pos n) true e = omega (arith, ints)
moves (negsuc n) true e = cc
moves (pos zero) false e = cc
moves (pos (suc n)) false e =
    let less : pos (suc n) +ℤ negsuc 0 ≡ pos n = omega (arith, ints) in less ∙ sym (ap (λ z. pos (standing z)) less)
moves (negsuc n) false e = cc

pub stays : (had : ℤ) (plus : Bool) → changes had plus ≡ false → standing (had +ℤ sign plus) ≡ standing had
stays (pos n) true e = cc
stays (negsuc zero) true e = refl
stays (negsuc (suc n)) true e = let more : negsuc (suc n) +ℤ pos 1 ≡ negsuc n = omega (arith, ints) in ap standing more
stays (pos zero) false e = refl
stays (pos (suc n)) false e = cc
stays (negsuc n) false e = let less : negsuc n +ℤ negsuc 0 ≡ negsuc (suc n) = omega (arith, ints) in ap standing less

-- ---- at one token

pub agreed : (j h : Bool) (m : ℕ) → (m ≢ 0 → j ≡ h) → cond h m 0 ≡ cond j m 0
agreed true true m same = refl
agreed false false m same = refl
agreed true false zero same = refl
agreed false true zero same = refl
agreed true false (suc m) same = let bad = same (λ e. absurd (omega arith)) in cc
agreed false true (suc m) same = let bad = same (λ e. absurd (omega arith)) in cc

left_moves : (plus : Bool) (a b m n : ℕ) (j : Bool) → n ≡ cond j m 0 → signed plus 1 +ℤ pos a ≡ pos b → signed plus n +ℤ pos (cond j (a * m) 0) ≡ pos (cond j (b * m) 0)
left_moves true a b m n true e h = let q : b ≡ suc a = omega (arith, ints, h) in omega (arith, ints, e, ap (λ z. z * m) q)
left_moves false a b m n true e h = let q : a ≡ suc b = omega (arith, ints, h) in omega (arith, ints, e, ap (λ z. z * m) q)
left_moves true a b m n false e h = omega (arith, ints, e)
left_moves false a b m n false e h = omega (arith, ints, e)

right_moves : (plus : Bool) (a b m n : ℕ) (j : Bool) → n ≡ cond j m 0 → signed plus 1 +ℤ pos a ≡ pos b → signed plus n +ℤ pos (cond j (m * a) 0) ≡ pos (cond j (m * b) 0)
right_moves plus a b m n j e h =
    let p : a * m ≡ m * a = omega arith in
    let q : b * m ≡ m * b = omega arith in
    ap (λ z. signed plus n +ℤ pos (cond j z 0)) (sym p) ∙ (left_moves plus a b m n j e h ∙ ap (λ z. pos (cond j z 0)) q)

pub nothing_moves : (plus : Bool) (n a b : ℕ) → n ≡ 0 → a ≡ b → signed plus n +ℤ pos a ≡ pos b
nothing_moves true n a b e q = omega (arith, ints, e, q)
nothing_moves false n a b e q = omega (arith, ints, e, q)

-- ---- at each token

front_last : (x : ℕ) (xs : List ℕ) → front x xs ++ last x xs ∷ [] ≡ x ∷ xs
front_last x [] = refl
front_last x (y ∷ ys) = ap (λ r. x ∷ r) (front_last y ys)

module _ (js : List JoinTest) (elements : Elements) (l r l' r' : Tokens) where
  -- the same tokens on both sides put out the same
  pub out_same : ((v : List ℕ) → l v ≡ l' v) → ((v : List ℕ) → r v ≡ r' v) → (t : List ℕ) → out_of_join js elements l r t ≡ out_of_join js elements l' r' t
  out_same left right [] = refl
  out_same left right (x ∷ xs) = ap₂ (λ a b. cond (joins_hold js elements (front x xs) (last x xs)) (a * b) 0) (left (front x xs)) (right (last x xs ∷ []))

  all_tokens : (plus : Bool) (ps : List Put) → number_put [] ps ≡ 0
      → ((f : List ℕ) (k : ℕ) → signed plus (number_put (f ++ k ∷ []) ps) +ℤ pos (cond (joins_hold js elements f k) (l f * r (k ∷ [])) 0) ≡ pos (cond (joins_hold js elements f k) (l' f * r' (k ∷ [])) 0))
      → (t : List ℕ) → signed plus (number_put t ps) +ℤ pos (out_of_join js elements l r t) ≡ pos (out_of_join js elements l' r' t)
  all_tokens plus ps none each [] = nothing_moves plus (number_put [] ps) 0 0 none refl
  all_tokens plus ps none each (x ∷ xs) =
      ap (λ t. signed plus (number_put t ps) +ℤ pos (out_of_join js elements l r (x ∷ xs))) (sym (front_last x xs)) ∙ each (front x xs) (last x xs)

  -- for one left token more or less: t with the tag of each right token that joins it
  pub left_change : (held : Elements) (plus : Bool) (t : List ℕ) (ps : List Put)
      → ((k : ℕ) → number_put (t ++ k ∷ []) ps ≡ cond (joins_hold js held t k) (r (k ∷ [])) 0)
      → ((u : List ℕ) → ((x : ℕ) → u ≢ t ++ x ∷ []) → number_put u ps ≡ 0)
      → ((k : ℕ) → r (k ∷ []) ≢ 0 → joins_hold js elements t k ≡ joins_hold js held t k)
      → signed plus 1 +ℤ pos (l t) ≡ pos (l' t) → ((v : List ℕ) → v ≢ t → l v ≡ l' v) → ((v : List ℕ) → r v ≡ r' v)
      → (u : List ℕ) → signed plus (number_put u ps) +ℤ pos (out_of_join js elements l r u) ≡ pos (out_of_join js elements l' r' u)
  left_change held plus t ps own none same at other right = all_tokens plus ps (none [] (λ x. no_end t x)) (λ f k. by f k (bytes_eq f t) refl)
    where
      no_end : (g : List ℕ) (x : ℕ) → [] ≢ g ++ x ∷ []
      no_end [] x e = cc
      no_end (y ∷ g) x e = cc

      by : (f : List ℕ) (k : ℕ) (b : Bool) → bytes_eq f t ≡ b
          → signed plus (number_put (f ++ k ∷ []) ps) +ℤ pos (cond (joins_hold js elements f k) (l f * r (k ∷ [])) 0) ≡ pos (cond (joins_hold js elements f k) (l' f * r' (k ∷ [])) 0)
      by f k true q =
          let here : t ≡ f = sym ((bytes_eq-Decides f t).0 q) in
          let number = own k ∙ agreed (joins_hold js elements t k) (joins_hold js held t k) (r (k ∷ [])) (same k) in
          let moved = left_moves plus (l t) (l' t) (r (k ∷ [])) (number_put (t ++ k ∷ []) ps) (joins_hold js elements t k) number at in
          subst (λ g. signed plus (number_put (g ++ k ∷ []) ps) +ℤ pos (cond (joins_hold js elements g k) (l g * r (k ∷ [])) 0) ≡ pos (cond (joins_hold js elements g k) (l' g * r' (k ∷ [])) 0)) here
          (moved ∙ ap (λ z. pos (cond (joins_hold js elements t k) (l' t * z) 0)) (right (k ∷ [])))
      by f k false q =
          let ne : f ≢ t = λ e. true≢false (sym ((bytes_eq-Decides f t).1 e) ∙ q) in
          nothing_moves plus (number_put (f ++ k ∷ []) ps) (cond (joins_hold js elements f k) (l f * r (k ∷ [])) 0) (cond (joins_hold js elements f k) (l' f * r' (k ∷ [])) 0)
          (none (f ++ k ∷ []) (λ x e. ne (same_from_push f t k x e).0)) (ap₂ (λ a b. cond (joins_hold js elements f k) (a * b) 0) (other f ne) (right (k ∷ [])))

  -- for one right token more or less: each left token that joins it, with its tag
  pub right_change : (held : Elements) (plus : Bool) (tag : ℕ) (ps : List Put)
      → ((f : List ℕ) → number_put (f ++ tag ∷ []) ps ≡ cond (joins_hold js held f tag) (l f) 0)
      → ((u : List ℕ) → ((g : List ℕ) → u ≢ g ++ tag ∷ []) → number_put u ps ≡ 0)
      → ((f : List ℕ) → l f ≢ 0 → joins_hold js elements f tag ≡ joins_hold js held f tag)
      → signed plus 1 +ℤ pos (r (tag ∷ [])) ≡ pos (r' (tag ∷ [])) → ((k : ℕ) → k ≢ tag → r (k ∷ []) ≡ r' (k ∷ [])) → ((v : List ℕ) → l v ≡ l' v)
      → (u : List ℕ) → signed plus (number_put u ps) +ℤ pos (out_of_join js elements l r u) ≡ pos (out_of_join js elements l' r' u)
  right_change held plus tag ps own none same at other left = all_tokens plus ps (none [] (λ g. no_end g)) (λ f k. by f k (k == tag) refl)
    where
      no_end : (g : List ℕ) → [] ≢ g ++ tag ∷ []
      no_end [] e = cc
      no_end (y ∷ g) e = cc

      eqb-same : (n : ℕ) → (n == n) ≡ true
      eqb-same n = grind (arith, nat_tests)

      by : (f : List ℕ) (k : ℕ) (b : Bool) → (k == tag) ≡ b
          → signed plus (number_put (f ++ k ∷ []) ps) +ℤ pos (cond (joins_hold js elements f k) (l f * r (k ∷ [])) 0) ≡ pos (cond (joins_hold js elements f k) (l' f * r' (k ∷ [])) 0)
      by f k true q =
          let here : tag ≡ k = sym (eqb-true k tag q) in
          let number = own f ∙ agreed (joins_hold js elements f tag) (joins_hold js held f tag) (l f) (same f) in
          let moved = right_moves plus (r (tag ∷ [])) (r' (tag ∷ [])) (l f) (number_put (f ++ tag ∷ []) ps) (joins_hold js elements f tag) number at in
          subst (λ z. signed plus (number_put (f ++ z ∷ []) ps) +ℤ pos (cond (joins_hold js elements f z) (l f * r (z ∷ [])) 0) ≡ pos (cond (joins_hold js elements f z) (l' f * r' (z ∷ [])) 0)) here
          (moved ∙ ap (λ z. pos (cond (joins_hold js elements f tag) (z * r' (tag ∷ [])) 0)) (left f))
      by f k false q =
          let ne : k ≢ tag = λ e. true≢false (sym (ap (λ z. z == tag) e ∙ eqb-same tag) ∙ q) in
          nothing_moves plus (number_put (f ++ k ∷ []) ps) (cond (joins_hold js elements f k) (l f * r (k ∷ [])) 0) (cond (joins_hold js elements f k) (l' f * r' (k ∷ [])) 0)
          (none (f ++ k ∷ []) (λ g e. ne (same_from_push f g k tag e).1)) (ap₂ (λ a b. cond (joins_hold js elements f k) (a * b) 0) (left f) (other k ne))
