-- Sums of signs over lists of tasks.
use Rattle.std.proofs.Common.{◌≡◌, ℕ, Bool, true, false, cond, ◌&&◌, ◌==◌, List, [], ◌∷◌, ◌++◌, pos, negsuc, ◌+ℤ◌, refl, ap, ap₂, arith, sum_by, bytes_eq}
use Rattle.std.specs.List.{AllByRecursion}
use Rattle.std.proofs.lemmas.Int.{ints}
use Rattle.std.proofs.lemmas.List.Sums.{sum_by-cons}
use Rattle.std.proofs.lemmas.Slice.Eq.{bytes_eq-Decides}
use Rattle.std.proofs.lemmas.Bool.{eqb-true}
use Rattle.std.proofs.lemmas.Bool.Decides.{nat_tests}
use Rattle.net_base.specs.declared.tasks.Side.{Side}
use Rattle.net_base.specs.declared.tasks.Side.TheVariants.{Left, Right}
use Rattle.net_base.specs.declared.tasks.Task.{Task}
use Rattle.token_line.specs.Bags.{are_same_sides, is_at, sign, sign_at, signs}
use Rattle.step_core.specs.Phases.{AreSame}

pub signs-append : (n : ℕ) (s : Side) (t : List ℕ) (xs ys : List Task) → signs n s t (xs ++ ys) ≡ signs n s t xs +ℤ signs n s t ys
signs-append n s t [] ys = omega (arith, ints)
signs-append n s t (x ∷ xs) ys = omega (arith, ints, signs-append n s t xs ys)

-- ---- a task counts at its own node, side and token alone

both : (a b : Bool) → (a && b) ≡ true → (a ≡ true) × (b ≡ true)
both true b e = (refl, e)
both false b e = absurd (cc)

are_same_sides-true : (a b : Side) → are_same_sides a b ≡ true → a ≡ b
are_same_sides-true Left Left e = refl
are_same_sides-true Right Right e = refl
are_same_sides-true Left Right e = absurd (cc)
are_same_sides-true Right Left e = absurd (cc)

pub sign_at-none : (n : ℕ) (s : Side) (t : List ℕ) (x : Task) → (n ≡ x.node → s ≡ x.side → t ≡ x.token → ⊥) → sign_at n s t x ≡ pos 0
unfolding sign_at
sign_at-none n s t x off = by (is_at n s t x) refl
  where
    by : (b : Bool) → is_at n s t x ≡ b → cond b (sign x.plus) (pos 0) ≡ pos 0
    by false e = refl
    by true e =
        let h = both (n == x.node) (are_same_sides s x.side && bytes_eq t x.token) e in
        let k = both (are_same_sides s x.side) (bytes_eq t x.token) h.1 in
        absurd (off (eqb-true n x.node h.0) (are_same_sides-true s x.side k.0) ((bytes_eq-Decides t x.token).0 k.1))

pub signs-none : (n : ℕ) (s : Side) (t : List ℕ) (P : Task → Type 0) → ((x : Task) → P x → n ≡ x.node → s ≡ x.side → t ≡ x.token → ⊥) → (xs : List Task) → AllByRecursion P xs → signs n s t xs ≡ pos 0
signs-none n s t P off [] all = refl
signs-none n s t P off (x ∷ xs) all = omega (arith, ints, sign_at-none n s t x (off x all.0), signs-none n s t P off xs all.1)

-- a task has its sign at its own place
pub sign_at-own : (x : Task) → sign_at x.node x.side x.token x ≡ sign x.plus
unfolding sign_at
sign_at-own x = ap (λ b. cond b (sign x.plus) (pos 0)) (own x.side)
  where
    same : (s : Side) → are_same_sides s s ≡ true
    same Left = refl
    same Right = refl

    own : (s : Side) → ((x.node == x.node) && (are_same_sides s s && bytes_eq x.token x.token)) ≡ true
    own s =
        let node : (x.node == x.node) ≡ true = grind (arith, nat_tests) in
        ap₂ ◌&&◌ node (ap₂ ◌&&◌ (same s) ((bytes_eq-Decides x.token x.token).1 refl))

-- ---- the same tasks have the same sums

plus_at : ℕ → Side → List ℕ → Task → ℕ
plus_at n s t x = cond (is_at n s t x) (cond x.plus 1 0) 0

minus_at : ℕ → Side → List ℕ → Task → ℕ
minus_at n s t x = cond (is_at n s t x) (cond x.plus 0 1) 0

sign_at-is : (n : ℕ) (s : Side) (t : List ℕ) (x : Task) → sign_at n s t x +ℤ pos (minus_at n s t x) ≡ pos (plus_at n s t x)
unfolding sign_at plus_at minus_at
sign_at-is n s t x = by (is_at n s t x) x.plus
  where
    by : (b c : Bool) → cond b (cond c (pos 1) (negsuc 0)) (pos 0) +ℤ pos (cond b (cond c 0 1) 0) ≡ pos (cond b (cond c 1 0) 0)
    by true true = refl
    by true false = refl
    by false true = refl
    by false false = refl

signs-are : (n : ℕ) (s : Side) (t : List ℕ) (xs : List Task) → signs n s t xs +ℤ pos (sum_by (minus_at n s t) xs) ≡ pos (sum_by (plus_at n s t) xs)
signs-are n s t [] = refl
signs-are n s t (x ∷ xs) =
    let a = sign_at-is n s t x in
    let b = signs-are n s t xs in
    let c = sum_by-cons (minus_at n s t) x xs in
    let d = sum_by-cons (plus_at n s t) x xs in omega (arith, ints, a, b, c, d)

pub signs-same : (xs ys : List Task) → AreSame xs ys → (n : ℕ) (s : Side) (t : List ℕ) → signs n s t xs ≡ signs n s t ys
signs-same xs ys h n s t =
    let a = signs-are n s t xs in
    let b = signs-are n s t ys in
    let c = h (minus_at n s t) in
    let d = h (plus_at n s t) in omega (arith, ints, a, b, c, d)
