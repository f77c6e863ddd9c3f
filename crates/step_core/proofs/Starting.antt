-- The lines at the start: with no tokens, and then with what the root gives to one node after another.
use Rattle.std.proofs.Common.{◌≡◌, ◌≢◌, ℕ, zero, suc, ◌+◌, ◌%◌, Bool, true, false, cond, ◌&&◌, ◌==◌, nat_lt, List, [], ◌∷◌, ◌++◌, length, set, pos, ◌+ℤ◌, slice_get, Option, Some, None, refl, sym, ap, ap₂, subst, ◌∙◌, arith, bytes_eq, length-append, length-set, ℤ, ◌⊎◌, inl, inr}
use Rattle.std.specs.Option.{is_some}
use Rattle.std.proofs.lemmas.Int.{ints}
use Rattle.std.proofs.lemmas.Bool.{cases_eq}
use Rattle.std.proofs.lemmas.Bool.Decides.{nat_tests}
use Rattle.std.proofs.lemmas.Option.{same_Some}
use Rattle.net_base.specs.declared.nodes.Kind.{Kind}
use Rattle.net_base.specs.declared.nodes.Kind.TheVariants.{Join, Negated, Group, Terminal}
use Rattle.net_base.specs.declared.nodes.Node.{Node}
use Rattle.net_base.specs.declared.tasks.Side.{Side}
use Rattle.net_base.specs.declared.tasks.Side.TheVariants.{Left, Right}
use Rattle.net_base.specs.Tokens.{root_gives, giver_of_parent, giver_of_kind}
use Rattle.token_line.specs.declared.line.Line.{Line}
use Rattle.token_line.specs.Bags.{after, are_same_sides, is_at, sign_at}
use Rattle.token_line.specs.Lawful.{giver_in, giver_of}
use Rattle.token_line.specs.Lines.{IsFiled, KeepsCodesBut, filed_in, sum_in}
use Rattle.token_line.proofs.Filed.{nothing}
use Rattle.token_line.proofs.LineLemmas.{at_task}
use Rattle.step_core.specs.Machine.{root_part}
use Rattle.step_core.specs.inner.Starts.{AreUnused, AreBegun, IsBare, IsBegun, given_below, root_task}
use Rattle.step_core.proofs.Signs.{sign_at-none}

-- ---- each in a list, with its number

each_push : {X : Type 0} (P : ℕ → X → Type 0) (xs : List X) (y : X) → ((i : ℕ) (x : X) → slice_get xs i ≡ Some x → P i x) → P (length xs) y → (i : ℕ) (x : X) → slice_get (xs ++ y ∷ []) i ≡ Some x → P i x
each_push P [] y all here zero x at = subst (P 0) (same_Some y x at) here
each_push P [] y all here (suc i) x at = absurd (cc)
each_push P (z ∷ zs) y all here zero x at = all zero x at
each_push P (z ∷ zs) y all here (suc i) x at = each_push (λ j. P (suc j)) zs y (λ j w e. all (suc j) w e) here i x at

each_set : {X : Type 0} (P : ℕ → X → Type 0) (xs : List X) (k : ℕ) (y : X) → ((i : ℕ) (x : X) → i ≢ k → slice_get xs i ≡ Some x → P i x) → P k y → (i : ℕ) (x : X) → slice_get (set xs k y) i ≡ Some x → P i x
each_set P [] k y others here i x at = absurd (cc)
each_set P (z ∷ zs) zero y others here zero x at = subst (P 0) (same_Some y x at) here
each_set P (z ∷ zs) zero y others here (suc i) x at = others (suc i) x (λ e. absurd (omega arith)) at
each_set P (z ∷ zs) (suc k) y others here zero x at = others zero x (λ e. absurd (omega arith)) at
each_set P (z ∷ zs) (suc k) y others here (suc i) x at = each_set (λ j. P (suc j)) zs k y (λ j w ne e. others (suc j) w (λ q. ne (omega arith)) e) here i x at

-- ---- lines with no tokens

pub unused_none : AreUnused 0 []
unused_none = record {
  count = refl;
  number = λ i l at. absurd (cc);
  bare = λ i l at. absurd (cc);
  sums = λ i l at n s t. absurd (cc);
  filed = λ i l at n c s t. absurd (cc);
}

pub unused_more : (count : ℕ) (ls : List Line) (l : Line) → AreUnused count ls → l.number ≡ count → IsBare l → ((n : ℕ) (s : Side) (t : List ℕ) → sum_in l n s t ≡ pos 0)
    → ((n c : ℕ) (s : Side) (t : List ℕ) → filed_in l n c s t ≡ None) → AreUnused (count + 1) (ls ++ l ∷ [])
unused_more count ls l are number bare sums filed = record {
  count = omega (arith, length-append ls (l ∷ []), are.count);
  number = each_push (λ i x. x.number ≡ i) ls l are.number (number ∙ sym are.count);
  bare = each_push (λ i x. IsBare x) ls l are.bare bare;
  sums = each_push (λ i x. (n : ℕ) (s : Side) (t : List ℕ) → sum_in x n s t ≡ pos 0) ls l are.sums sums;
  filed = each_push (λ i x. (n c : ℕ) (s : Side) (t : List ℕ) → filed_in x n c s t ≡ None) ls l are.filed filed;
}

pub unused_is_begun : (nodes : List Node) (lines : ℕ) (ls : List Line) → AreUnused lines ls → AreBegun nodes lines 0 ls
unused_is_begun nodes lines ls are = record {
  count = are.count;
  each = λ i l at. record {
    number = are.number i l at;
    bare = are.bare i l at;
    sums = λ n s t. are.sums i l at n s t ∙ none i n s t;
    filed = λ n c s t some. absurd (nothing (filed_in l n c s t) (are.filed i l at n c s t) some);
  };
}
  where
    none : (i n : ℕ) (s : Side) (t : List ℕ) → pos 0 ≡ given_below nodes lines 0 i n s t
    none i n s t = let no : nat_lt n 0 ≡ false = grind (arith, nat_tests) in ap (λ b. cond (b && (n % lines == i)) (pos (root_part (giver_of nodes n s) t)) (pos 0)) (sym no)

-- ---- what the root gives to one node

root_of_kind : (k : Kind) (t : List ℕ) → root_part (giver_of_kind k) t ≡ 0
root_of_kind Join t = refl
root_of_kind Negated t = refl
root_of_kind (Group giver width members) t = refl
root_of_kind (Terminal rule) t = refl

module _ (nodes : List Node) (k : ℕ) (x : Node) (at : slice_get nodes k ≡ Some x) where
  -- a child of another node
  given_nothing : (p : ℕ) → x.parent ≡ Some p → (s : Side) (t : List ℕ) → root_part (giver_of nodes k s) t ≡ 0
  given_nothing p is Left t = ap (λ o. root_part (giver_in o Left) t) at ∙ ap (λ o. root_part (giver_of_parent o) t) is
  given_nothing p is Right t = ap (λ o. root_part (giver_in o Right) t) at ∙ root_of_kind x.kind t

  -- a child of the root
  given_root : x.parent ≡ None → (s : Side) (t : List ℕ) → sign_at k s t (root_task k) ≡ pos (root_part (giver_of nodes k s) t)
  unfolding sign_at
  given_root is s t = ap (λ b. cond (b && (are_same_sides s Left && bytes_eq t [])) (pos 1) (pos 0)) (own k) ∙ (by s t ∙ ap pos (sym (root s)))
    where
      own : (j : ℕ) → (j == j) ≡ true
      own j = grind (arith, nat_tests)

      gives : Side → List ℕ → ℕ
      gives Left t = root_gives t
      gives Right t = 0

      root : (s : Side) → root_part (giver_of nodes k s) t ≡ gives s t
      root Left = ap (λ o. root_part (giver_in o Left) t) at ∙ ap (λ o. root_part (giver_of_parent o) t) is
      root Right = ap (λ o. root_part (giver_in o Right) t) at ∙ root_of_kind x.kind t

      by : (s : Side) (t : List ℕ) → cond (are_same_sides s Left && bytes_eq t []) (pos 1) (pos 0) ≡ pos (gives s t)
      by Left [] = refl
      by Left (y ∷ ys) = refl
      by Right t = refl

  -- ---- one node more

  module _ (lines i : ℕ) (s : Side) (t : List ℕ) where
    other_node : (n : ℕ) → n ≢ k → given_below nodes lines k i n s t ≡ given_below nodes lines (k + 1) i n s t
    other_node n ne = let same : nat_lt n k ≡ nat_lt n (k + 1) = grind (arith, nat_tests) in ap (λ b. cond (b && (n % lines == i)) (pos (root_part (giver_of nodes n s) t)) (pos 0)) same

    not_yet : given_below nodes lines k i k s t ≡ pos 0
    not_yet = let no : nat_lt k k ≡ false = grind (arith, nat_tests) in ap (λ b. cond (b && (k % lines == i)) (pos (root_part (giver_of nodes k s) t)) (pos 0)) no

    now_given : given_below nodes lines (k + 1) i k s t ≡ cond (k % lines == i) (pos (root_part (giver_of nodes k s) t)) (pos 0)
    now_given = let yes : nat_lt k (k + 1) ≡ true = grind (arith, nat_tests) in ap (λ b. cond (b && (k % lines == i)) (pos (root_part (giver_of nodes k s) t)) (pos 0)) yes

    -- it does not concern the line
    same_given : cond (k % lines == i) (pos (root_part (giver_of nodes k s) t)) (pos 0) ≡ pos 0 → (n : ℕ) → given_below nodes lines k i n s t ≡ given_below nodes lines (k + 1) i n s t
    same_given nothing n = by (cases_eq n k)
      where
        by : (n ≡ k) ⊎ (n ≢ k) → given_below nodes lines k i n s t ≡ given_below nodes lines (k + 1) i n s t
        by (inl e) = let at_k : given_below nodes lines k i k s t ≡ given_below nodes lines (k + 1) i k s t = not_yet ∙ sym (now_given ∙ nothing) in
            subst (λ m. given_below nodes lines k i m s t ≡ given_below nodes lines (k + 1) i m s t) (sym e) at_k
        by (inr ne) = other_node n ne

    -- it is on the line
    more_given : x.parent ≡ None → k % lines ≡ i → (n : ℕ) → given_below nodes lines k i n s t +ℤ sign_at n s t (root_task k) ≡ given_below nodes lines (k + 1) i n s t
    more_given is line n = by (cases_eq n k)
      where
        own : k % lines ≡ i → (k % lines == i) ≡ true
        own e = grind (arith, nat_tests)

        at_k : given_below nodes lines k i k s t +ℤ sign_at k s t (root_task k) ≡ given_below nodes lines (k + 1) i k s t
        at_k =
            ap₂ (λ a b. a +ℤ b) not_yet (given_root is s t) ∙ (from_zero (pos (root_part (giver_of nodes k s) t))
            ∙ sym (now_given ∙ ap (λ b. cond b (pos (root_part (giver_of nodes k s) t)) (pos 0)) (own line)))
          where
            from_zero : (z : ℤ) → pos 0 +ℤ z ≡ z
            from_zero z = omega (arith, ints)

        by : (n ≡ k) ⊎ (n ≢ k) → given_below nodes lines k i n s t +ℤ sign_at n s t (root_task k) ≡ given_below nodes lines (k + 1) i n s t
        by (inl e) = subst (λ m. given_below nodes lines k i m s t +ℤ sign_at m s t (root_task k) ≡ given_below nodes lines (k + 1) i m s t) (sym e) at_k
        by (inr ne) =
            let none = sign_at-none n s t (root_task k) (λ p q r. ne p) in
            let other = other_node n ne in omega (arith, ints, none, other)

  below_node : (p : ℕ) → x.parent ≡ Some p → (lines : ℕ) (ls : List Line) → AreBegun nodes lines k ls → AreBegun nodes lines (k + 1) ls
  below_node p is lines ls are = record {
    count = are.count;
    each = λ i l e.
        let old = are.each i l e in
        record { number = old.number; bare = old.bare; sums = λ n s t. old.sums n s t ∙ same_given lines i s t (none_given (k % lines == i) s t) n; filed = old.filed };
  }
    where
      none_given : (b : Bool) (s : Side) (t : List ℕ) → cond b (pos (root_part (giver_of nodes k s) t)) (pos 0) ≡ pos 0
      none_given true s t = ap pos (given_nothing p is s t)
      none_given false s t = refl

  pub not_at_root : is_some x.parent ≡ true → (lines : ℕ) (ls : List Line) → AreBegun nodes lines k ls → AreBegun nodes lines (k + 1) ls
  not_at_root some lines ls are = by x.parent refl some
    where
      by : (o : Option ℕ) → x.parent ≡ o → is_some o ≡ true → AreBegun nodes lines (k + 1) ls
      by None is some = absurd (cc)
      by (Some p) is some = below_node p is lines ls are

  pub root_given : is_some x.parent ≡ false → (lines : ℕ) (ls : List Line) (old new : Line) → AreBegun nodes lines k ls → slice_get ls (k % lines) ≡ Some old
      → new.number ≡ old.number → IsBare new → ((n : ℕ) (s : Side) (t : List ℕ) → sum_in new n s t ≡ after (sum_in old) (root_task k) n s t)
      → KeepsCodesBut old new k (root_task k) → AreBegun nodes lines (k + 1) (set ls (k % lines) new)
  root_given none lines ls old new are here number bare sums codes = record {
    count = length-set ls (k % lines) new ∙ are.count;
    each = each_set (IsBegun nodes lines (k + 1)) ls (k % lines) new
        (λ i l ne e.
        let was = are.each i l e in
        record { number = was.number; bare = was.bare; sums = λ n s t. was.sums n s t ∙ same_given lines i s t (elsewhere i ne s t) n; filed = was.filed })
        (let was = are.each (k % lines) old here in
        record {
          number = number ∙ was.number;
          bare = bare;
          sums = λ n s t. sums n s t ∙ (ap (λ z. z +ℤ sign_at n s t (root_task k)) (was.sums n s t) ∙ more_given lines (k % lines) s t (at_root x.parent none) refl n);
          filed = λ n c s t some. coded (was.filed) n c s t (codes n c s t some);
        });
  }
    where
      coded : ((n c : ℕ) (s : Side) (t : List ℕ) → IsFiled old n c s t → c ≡ n) → (n c : ℕ) (s : Side) (t : List ℕ) → IsFiled old n c s t ⊎ ((c ≡ k) × (is_at n s t (root_task k) ≡ true)) → c ≡ n
      coded was n c s t (inl before) = was n c s t before
      coded was n c s t (inr own) = at_task (λ m d u. c ≡ m) (root_task k) n s t own.1 own.0

      at_root : (o : Option ℕ) → is_some o ≡ false → o ≡ None
      at_root None e = refl
      at_root (Some p) e = absurd (cc)

      elsewhere : (i : ℕ) → i ≢ k % lines → (s : Side) (t : List ℕ) → cond (k % lines == i) (pos (root_part (giver_of nodes k s) t)) (pos 0) ≡ pos 0
      elsewhere i ne s t = ap (λ b. cond b (pos (root_part (giver_of nodes k s) t)) (pos 0)) (off (k % lines) ne)
        where
          off : (j : ℕ) → i ≢ j → (j == i) ≡ false
          off j ne = grind (arith, nat_tests)
