-- The sums once a task has arrived: that of its token changes, and no other.
use Rattle.std.proofs.Common.{◌≡◌, ℕ, Bool, true, false, cond, ◌&&◌, ◌==◌, List, pos, ◌+ℤ◌, refl, sym, ap, ap₂, subst, ◌∙◌, arith, bytes_eq}
use Rattle.std.proofs.lemmas.Bool.{eqb-true}
use Rattle.std.proofs.lemmas.Bool.Decides.{nat_tests}
use Rattle.std.proofs.lemmas.Int.{ints}
use Rattle.std.proofs.lemmas.Slice.Eq.{bytes_eq-Decides}
use Rattle.net_base.specs.declared.tasks.Side.{Side}
use Rattle.net_base.specs.declared.tasks.Side.TheVariants.{Left, Right}
use Rattle.net_base.specs.declared.tasks.Task.{Task}
use Rattle.token_line.specs.Bags.{Bag, are_same_sides, is_at, sign, sign_at, after, standing, standing_at}
use Rattle.activation.specs.inner.Putting.{changes}
use Rattle.activation.proofs.JoinChange.{stays}

both : (a b : Bool) → (a && b) ≡ true → (a ≡ true) × (b ≡ true)
both true b e = (refl, e)
both false b e = absurd (cc)

pub and_false : (b : Bool) → (b && false) ≡ false
and_false true = refl
and_false false = refl

are_same_sides-true : (a b : Side) → are_same_sides a b ≡ true → a ≡ b
are_same_sides-true Left Left e = refl
are_same_sides-true Right Right e = refl
are_same_sides-true Left Right e = absurd (cc)
are_same_sides-true Right Left e = absurd (cc)

-- the task is at its own place, and at no other
at_own : (x : Task) → is_at x.node x.side x.token x ≡ true
at_own x = ap₂ ◌&&◌ (node x.node) (ap₂ ◌&&◌ (side x.side) ((bytes_eq-Decides x.token x.token).1 refl))
  where
    node : (n : ℕ) → (n == n) ≡ true
    node n = grind (arith, nat_tests)

    side : (s : Side) → are_same_sides s s ≡ true
    side Left = refl
    side Right = refl

pub record IsAt (n : ℕ) (s : Side) (t : List ℕ) (x : Task) : Type 0 where
  pub node : n ≡ x.node
  pub side : s ≡ x.side
  pub token : t ≡ x.token

pub is_at-true : (n : ℕ) (s : Side) (t : List ℕ) (x : Task) → is_at n s t x ≡ true → IsAt n s t x
is_at-true n s t x e =
    let h = both (n == x.node) (are_same_sides s x.side && bytes_eq t x.token) e in
    let k = both (are_same_sides s x.side) (bytes_eq t x.token) h.1 in
    record { node = eqb-true n x.node h.0; side = are_same_sides-true s x.side k.0; token = (bytes_eq-Decides t x.token).0 k.1 }

pub at_place : (n : ℕ) (s : Side) (t : List ℕ) (x : Task) → IsAt n s t x → is_at n s t x ≡ true
at_place n s t x i = ap₂ (λ z w. is_at z s w x) i.node i.token ∙ (ap (λ z. is_at x.node z x.token x) i.side ∙ at_own x)

module _ (b : Bag) (x : Task) where
  -- the sum of its token
  pub own_sum : (s : Side) → x.side ≡ s → after b x x.node s x.token ≡ b x.node s x.token +ℤ sign x.plus
  unfolding sign_at
  own_sum s e =
      subst (λ z. after b x x.node z x.token ≡ b x.node z x.token +ℤ sign x.plus) e
      (ap (λ a. b x.node x.side x.token +ℤ cond a (sign x.plus) (pos 0)) (at_own x))

  -- that of another token
  pub other_sum : (n : ℕ) (s : Side) (t : List ℕ) → (IsAt n s t x → ⊥) → after b x n s t ≡ b n s t
  unfolding sign_at
  other_sum n s t off = by (is_at n s t x) refl
    where
      by : (a : Bool) → is_at n s t x ≡ a → b n s t +ℤ cond a (sign x.plus) (pos 0) ≡ b n s t
      by true e = absurd (off (is_at-true n s t x e))
      by false e = omega (arith, ints)

  -- a task that changes how often no token stands
  pub still : changes (b x.node x.side x.token) x.plus ≡ false → (n : ℕ) (s : Side) (t : List ℕ) → standing_at b n s t ≡ standing_at (after b x) n s t
  still same n s t = by (is_at n s t x) refl
    where
      by : (a : Bool) → is_at n s t x ≡ a → standing_at b n s t ≡ standing_at (after b x) n s t
      by true e =
          let here = is_at-true n s t x e in
          let own : standing_at b x.node x.side x.token ≡ standing_at (after b x) x.node x.side x.token =
          sym (ap standing (own_sum x.side refl) ∙ stays (b x.node x.side x.token) x.plus same) in
          ap₂ (λ z w. standing_at b z s w) here.node here.token
          ∙ (ap (λ z. standing_at b x.node z x.token) here.side ∙ (own ∙ (ap (λ z. standing_at (after b x) x.node z x.token) (sym here.side) ∙ ap₂ (λ z w. standing_at (after b x) z s w) (sym here.node) (sym here.token))))
      by false e = ap standing (sym (other_sum n s t (λ i. off i)))
        where
          off : IsAt n s t x → ⊥
          off i = let bad : true ≡ false = sym (at_place n s t x i) ∙ e in cc
