-- The signs of the tasks that go to the children of a node.
use Rattle.std.proofs.Common.{◌≡◌, ℕ, zero, suc, ◌+◌, ◌*◌, Bool, true, false, cond, ◌&&◌, ◌==◌, List, [], ◌∷◌, ◌++◌, pos, negsuc, ◌+ℤ◌, refl, sym, ap, ap₂, ◌∙◌, arith, replicate, bytes_eq}
use Rattle.std.specs.List.{AllByRecursion}
use Rattle.std.proofs.lemmas.Int.{ints}
use Rattle.net_base.specs.declared.tasks.Side.{Side}
use Rattle.net_base.specs.declared.tasks.Task.{Task}
use Rattle.token_line.specs.Bags.{are_same_sides, is_at, sign_at, signs}
use Rattle.activation.specs.inner.Children.{Target, child, to_each, children_of}
use Rattle.activation.specs.inner.Putting.{Put}
use Rattle.activation.specs.Acting.{signed, number_put}

pub signed-zero : (plus : Bool) (k : ℕ) → k ≡ 0 → pos 0 ≡ signed plus k
signed-zero true k e = omega (arith, ints, e)
signed-zero false k e = omega (arith, ints, e)

signed-add : (plus : Bool) (a b : ℕ) → signed plus (a + b) ≡ signed plus a +ℤ signed plus b
signed-add true a b = omega (arith, ints)
signed-add false a b = omega (arith, ints)

signs-append : (n : ℕ) (s : Side) (t : List ℕ) (xs ys : List Task) → signs n s t (xs ++ ys) ≡ signs n s t xs +ℤ signs n s t ys
signs-append n s t [] ys = omega (arith, ints)
signs-append n s t (x ∷ xs) ys = omega (arith, ints, signs-append n s t xs ys)

signs-replicate : (n : ℕ) (s : Side) (t : List ℕ) (x : Task) (k : ℕ) → signs n s t (replicate k x) ≡ signed x.plus (cond (is_at n s t x) k 0)
unfolding sign_at
signs-replicate n s t x zero = by (is_at n s t x) x.plus
  where
    by : (b p : Bool) → pos 0 ≡ signed p (cond b 0 0)
    by true true = refl
    by true false = refl
    by false true = refl
    by false false = refl
signs-replicate n s t x (suc k) = ap (λ z. sign_at n s t x +ℤ z) (signs-replicate n s t x k) ∙ by (is_at n s t x) x.plus
  where
    by : (b p : Bool) → cond b (cond p (pos 1) (negsuc 0)) (pos 0) +ℤ signed p (cond b k 0) ≡ signed p (cond b (suc k) 0)
    by true true = omega (arith, ints)
    by true false = omega (arith, ints)
    by false true = refl
    by false false = refl

-- how often a side of a node is among these
abbrev pub times_in : Side → ℕ → List Target → ℕ
times_in s n [] = 0
times_in s n (c ∷ cs) = cond ((n == c.1) && are_same_sides s c.0) 1 0 + times_in s n cs

-- a token counts at each place of its node among the children
each_signs : (s : Side) (n : ℕ) (t : List ℕ) (cs : List Target) (plus : Bool) (p : Put) → signs n s t (to_each cs plus p) ≡ signed plus (times_in s n cs * cond (bytes_eq t p.token) p.times 0)
each_signs s n t [] plus p = signed-zero plus (0 * cond (bytes_eq t p.token) p.times 0) (omega arith)
each_signs s n t (c ∷ cs) plus p =
    signs-append n s t (replicate p.times (child plus p.token c)) (to_each cs plus p)
    ∙ (ap₂ (λ a b. a +ℤ b) (signs-replicate n s t (child plus p.token c) p.times) (each_signs s n t cs plus p)
    ∙ (sym (signed-add plus (cond ((n == c.1) && (are_same_sides s c.0 && bytes_eq t p.token)) p.times 0) (times_in s n cs * cond (bytes_eq t p.token) p.times 0)) ∙ ap (signed plus) (by (n == c.1) (are_same_sides s c.0))))
  where
    by : (b d : Bool) → cond (b && (d && bytes_eq t p.token)) p.times 0 + times_in s n cs * cond (bytes_eq t p.token) p.times 0 ≡ (cond (b && d) 1 0 + times_in s n cs) * cond (bytes_eq t p.token) p.times 0
    by true true = omega arith
    by true false = omega arith
    by false d = omega arith

all_signs : (s : Side) (n : ℕ) (t : List ℕ) (cs : List Target) (plus : Bool) (ps : List Put) → signs n s t (children_of cs plus ps) ≡ signed plus (times_in s n cs * number_put t ps)
all_signs s n t cs plus [] = signed-zero plus (times_in s n cs * 0) (omega arith)
all_signs s n t cs plus (p ∷ ps) =
    signs-append n s t (to_each cs plus p) (children_of cs plus ps)
    ∙ (ap₂ (λ a b. a +ℤ b) (each_signs s n t cs plus p) (all_signs s n t cs plus ps)
    ∙ (sym (signed-add plus (times_in s n cs * cond (bytes_eq t p.token) p.times 0) (times_in s n cs * number_put t ps)) ∙ ap (signed plus) (omega arith)))

-- at a child that is there once, the signs are those of what is put out
pub child_signs : (s : Side) (n : ℕ) (t : List ℕ) (cs : List Target) (plus : Bool) (ps : List Put) → times_in s n cs ≡ 1 → signs n s t (children_of cs plus ps) ≡ signed plus (number_put t ps)
child_signs s n t cs plus ps once = all_signs s n t cs plus ps ∙ ap (signed plus) (ap (λ k. k * number_put t ps) once ∙ one (number_put t ps))
  where
    one : (k : ℕ) → 1 * k ≡ k
    one k = omega arith

-- ---- what holds of each child

pub all_append : {X : Type 0} (P : X → Type 0) (xs ys : List X) → AllByRecursion P xs → AllByRecursion P ys → AllByRecursion P (xs ++ ys)
all_append P [] ys h g = g
all_append P (x ∷ xs) ys h g = (h.0, all_append P xs ys h.1 g)

all_replicate : {X : Type 0} (P : X → Type 0) (x : X) (k : ℕ) → P x → AllByRecursion P (replicate k x)
all_replicate P x zero h = tt
all_replicate P x (suc k) h = (h, all_replicate P x k h)

module _ (P : Task → Type 0) (Q : Target → Type 0) (R : Put → Type 0) (plus : Bool) (each : (c : Target) (p : Put) → Q c → R p → P (child plus p.token c)) where
  all_to_each : (cs : List Target) (p : Put) → AllByRecursion Q cs → R p → AllByRecursion P (to_each cs plus p)
  all_to_each [] p all r = tt
  all_to_each (c ∷ cs) p all r =
      all_append P (replicate p.times (child plus p.token c)) (to_each cs plus p) (all_replicate P (child plus p.token c) p.times (each c p all.0 r)) (all_to_each cs p all.1 r)

  pub all_children : (cs : List Target) (ps : List Put) → AllByRecursion Q cs → AllByRecursion R ps → AllByRecursion P (children_of cs plus ps)
  all_children cs [] all given = tt
  all_children cs (p ∷ ps) all given = all_append P (to_each cs plus p) (children_of cs plus ps) (all_to_each cs p all given.0) (all_children cs ps all given.1)
