-- Lists of tasks that grow, and what is given of the tokens of one side, one after the other.
use Rattle.std.proofs.Common.{◌≡◌, ℕ, zero, suc, ◌+◌, ◌≤◌, Bool, List, [], ◌∷◌, ◌++◌, append_assoc, add-one, length, drop, take, slice_get, Some, refl, sym, ap, ap₂, ◌∙◌, arith}
use Rattle.std.specs.List.{flat_map}
use Rattle.net_base.specs.declared.tasks.Task.{Task}
use Rattle.token_line.specs.declared.tokens.TokenCount.{TokenCount}
use Rattle.token_line.specs.inner.Pairs.{Pairs}
use Rattle.activation.specs.inner.Children.{Grows, Target, children_of, to_each}
use Rattle.activation.specs.inner.Putting.{Put}

pub append-nil : {X : Type 0} (xs : List X) → xs ++ [] ≡ xs
append-nil [] = refl
append-nil (x ∷ xs) = ap (λ ys. x ∷ ys) (append-nil xs)

-- ---- lists that grow

pub grows_same : (xs : List Task) → Grows xs xs
grows_same [] = refl
grows_same (x ∷ xs) = ap (λ ys. x ∷ ys) (grows_same xs)

pub grows_more : (a b c : List Task) → Grows a b → Grows b c → Grows a c
grows_more [] b c first next = refl
grows_more (x ∷ a) [] c first next = absurd (cc)
grows_more (x ∷ a) (y ∷ b) [] first next = absurd (cc)
grows_more (x ∷ a) (y ∷ b) (z ∷ c) first next =
    let same : z ≡ x = cc in
    let before : take (length a) b ≡ a = cc in
    let after : take (length b) c ≡ b = cc in
    ap₂ (λ w ws. w ∷ ws) same (grows_more a b c before after)

-- what came after those that were there
pub drop_grown : (a c b : List Task) (n : ℕ) → n ≡ length a → c ≡ a ++ b → drop n c ≡ b
drop_grown a c b n len is = ap₂ (λ k ts. drop k ts) len is ∙ by a
  where
    by : (xs : List Task) → drop (length xs) (xs ++ b) ≡ b
    by [] = refl
    by (x ∷ xs) = by xs

-- ---- tokens, one after the other

abbrev pub Pair : Type 0
Pair = List ℕ × TokenCount

pub drop_at : {X : Type 0} (xs : List X) (i : ℕ) (x : X) → slice_get xs i ≡ Some x → drop i xs ≡ x ∷ drop (suc i) xs
drop_at [] i x at = absurd (cc)
drop_at (y ∷ ys) zero x at = let same : y ≡ x = cc in ap (λ z. z ∷ ys) same
drop_at (y ∷ ys) (suc i) x at = drop_at ys i x at

drop_all : {X : Type 0} (xs : List X) (i : ℕ) → length xs ≤ i → drop i xs ≡ []
drop_all [] zero low = refl
drop_all [] (suc i) low = refl
drop_all (x ∷ xs) zero low = absurd (omega arith)
drop_all (x ∷ xs) (suc i) low = drop_all xs i (omega arith)

module _ (nodes : List Target) (plus : Bool) where
  children-append : (ps qs : List Put) → children_of nodes plus (ps ++ qs) ≡ children_of nodes plus ps ++ children_of nodes plus qs
  children-append [] qs = refl
  children-append (p ∷ ps) qs =
      ap (λ ts. to_each nodes plus p ++ ts) (children-append ps qs) ∙ sym (append_assoc (to_each nodes plus p) (children_of nodes plus ps) (children_of nodes plus qs))

  module _ (puts_of : Pair → List Put) (pairs : Pairs) where
    -- what is still given from that place on
    abbrev pub given_from : ℕ → List Task
    given_from i = children_of nodes plus (flat_map puts_of (drop i pairs))

    pub next_given : (i : ℕ) (e : Pair) (made new total : List Task) → slice_get pairs i ≡ Some e → made ++ given_from i ≡ total → new ≡ made ++ children_of nodes plus (puts_of e)
        → new ++ given_from (i + 1) ≡ total
    next_given i e made new total at before more =
        ap₂ (λ a k. a ++ given_from k) more (add-one i)
        ∙ (append_assoc made (children_of nodes plus (puts_of e)) (given_from (suc i))
        ∙ (ap (λ ts. made ++ ts) (sym (children-append (puts_of e) (flat_map puts_of (drop (suc i) pairs))) ∙ ap (λ ps. children_of nodes plus (flat_map puts_of ps)) (sym (drop_at pairs i e at)))
        ∙ before))

    pub all_given : (i : ℕ) (made total : List Task) → length pairs ≤ i → made ++ given_from i ≡ total → made ≡ total
    all_given i made total end before =
        sym (append-nil made) ∙ (ap (λ ps. made ++ children_of nodes plus (flat_map puts_of ps)) (sym (drop_all pairs i end)) ∙ before)
