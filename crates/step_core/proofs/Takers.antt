-- The nodes that take an element, found by the alphas that it can pass, and put in order.
use Rattle.std.proofs.Common.{◌≡◌, ◌≢◌, ℕ, zero, suc, ◌<◌, Bool, true, false, cond, ◌==◌, eqb, List, [], ◌∷◌, ◌++◌, length, map, slice_get, Option, Some, None, refl, sym, ap, ap₂, subst, ◌∙◌, arith, append-nil, inl, inr, ◌≤◌, take, drop}
use Rattle.std.specs.List.{flat_map, All, AllPairs, Contains, refill}
use Rattle.std.specs.List.Sorted.{IsPermutation, IsSorted, IsStrictlyIncreasing}
use Rattle.std.specs.Prelude.{IsTrue}
use Rattle.std.specs.Ordering.{nat_cmp}
use Rattle.std.proofs.lemmas.Bool.{eqb-true, and_parts, and_from}
use Rattle.std.proofs.lemmas.Bool.Decides.{Decides-eqb}
use Rattle.std.proofs.lemmas.List.{map-append, take_all, drop_all}
use Rattle.std.proofs.lemmas.List.Elements.{recursion_from_All}
use Rattle.std.proofs.lemmas.List.Kept.{AllPairs-from_increasing}
use Rattle.std.proofs.lemmas.List.Sorted.{Contains-permutation, IsPermutation-sym, IsNonDecreasingBy-from_sort}
use Rattle.std.proofs.lemmas.Map.Keys.{IsDistinct-IsPermutation, IsStrictlyIncreasing-from_distinct}
use Rattle.std.proofs.lemmas.Map.Made.{IsDistinct-from_AllPairs}
use Rattle.std.specs.Cmp.{nat_eq_equiv}
use Rattle.ops_base.specs.declared.elements.Element.{Element}
use Rattle.ops_base.proofs.Members.{IsMember, members_from_each, member_from_contains, contains_from_member, member_cases, member-flat_map, flat_map_member}
use Rattle.net_base.specs.declared.nodes.Node.{Node}
use Rattle.net_base.specs.declared.nodes.Alpha.{Alpha}
use Rattle.net_base.specs.Sound.{takes_elements}
use Rattle.net_base.specs.Tokens.{passes_alpha}
use Rattle.net_base.specs.Feeds.{number_if, numbers_below, takes_from, takers_of}
use Rattle.net_base.proofs.Apart.{NoTwice, no_twice-flat_map, pairs_from_no_twice, no_twice_from_pairs}
use Rattle.net_base.proofs.FeedLemmas.{number_in, number_of, numbers_apart, get_low}
use Rattle.step_core.specs.Machine.{passes_in, is_fed, task_at, tasks_below}
use Rattle.step_core.specs.Feeding.{IsTaker, AreTakers, taken_by, right_task}

-- ---- what the alphas add up to

module _ (alphas : List Alpha) (nodes : List Node) (e : Element) where
  taken_member : (n a : ℕ) (x : Node) → slice_get nodes n ≡ Some x → takes_elements x.kind ≡ true → x.alpha ≡ a → passes_in (slice_get alphas a) (Some e) ≡ true → IsMember n (taken_by alphas nodes e a)
  taken_member n a x at open' is passes =
      subst (λ b. IsMember n (cond b (takers_of nodes a) [])) (sym passes)
      (number_in (takes_from a) nodes n x at (and_from (takes_elements x.kind) (x.alpha == a) open' ((Decides-eqb x.alpha a).1 is)) (length nodes) (get_low nodes n x at))

  taker_of : (n a : ℕ) (b : Bool) → passes_in (slice_get alphas a) (Some e) ≡ b → IsMember n (cond b (takers_of nodes a) []) → IsTaker alphas nodes e n
  taker_of n a true q m =
      let r = number_of (takes_from a) nodes n (length nodes) m in
      let parts = and_parts (takes_elements r.item.kind) (r.item.alpha == a) r.passes in
      record {
        node = r.item;
        at = r.at;
        fed = and_from (takes_elements r.item.kind) (passes_in (slice_get alphas r.item.alpha) (Some e)) parts.0
            (ap (λ k. passes_in (slice_get alphas k) (Some e)) (eqb-true r.item.alpha a parts.1) ∙ q);
      }
  taker_of n a false q m = absurd m

  -- the alpha of a node that takes the element is among those that the element passes
  alpha_among : (candidates : List ℕ) → ((n : ℕ) (a : Alpha) → slice_get alphas n ≡ Some a → IsTrue (passes_alpha a e) → Contains candidates n) → (n : ℕ) (o : Option Alpha) → slice_get alphas n ≡ o → passes_in o (Some e) ≡ true → Contains candidates n
  alpha_among candidates has n None at passes = cc
  alpha_among candidates has n (Some a) at passes = has n a at passes

  taken_once : (a : ℕ) (b : Bool) → NoTwice (cond b (takers_of nodes a) [])
  taken_once a true = numbers_apart (takes_from a) nodes (length nodes)
  taken_once a false = tt

  alpha_of : (n a : ℕ) (b : Bool) → IsMember n (cond b (takers_of nodes a) []) → (x : Node) × (slice_get nodes n ≡ Some x) × (x.alpha ≡ a)
  alpha_of n a true m =
      let r = number_of (takes_from a) nodes n (length nodes) m in
      (r.item, r.at, eqb-true r.item.alpha a (and_parts (takes_elements r.item.kind) (r.item.alpha == a) r.passes).1)
  alpha_of n a false m = absurd m

  -- a node takes the elements of one alpha
  one_alpha : (a b n : ℕ) → IsMember n (taken_by alphas nodes e a) → IsMember n (taken_by alphas nodes e b) → a ≡ b
  one_alpha a b n m l =
      let r = alpha_of n a (passes_in (slice_get alphas a) (Some e)) m in
      let s = alpha_of n b (passes_in (slice_get alphas b) (Some e)) l in
      let q : Some r.0 ≡ Some s.0 = sym r.1 ∙ s.1 in
      let p : r.0 ≡ s.0 = cc in
      sym r.2 ∙ (ap (λ (x : Node). x.alpha) p ∙ s.2)

  pub are_takers : (candidates ns : List ℕ) → AllPairs (λ n m. n ≢ m) candidates → ((n : ℕ) (a : Alpha) → slice_get alphas n ≡ Some a → IsTrue (passes_alpha a e) → Contains candidates n) → ns ≡ flat_map (taken_by alphas nodes e) candidates → AreTakers alphas nodes e ns
  are_takers candidates ns apart has is = record {
    each = λ n t.
        let parts = and_parts (takes_elements t.node.kind) (passes_in (slice_get alphas t.node.alpha) (Some e)) t.fed in
        let among = member_from_contains t.node.alpha candidates (alpha_among candidates has t.node.alpha (slice_get alphas t.node.alpha) refl parts.1) in
        subst (λ ms. Contains ms n) (sym is) (contains_from_member n (flat_map (taken_by alphas nodes e) candidates)
        (member-flat_map (taken_by alphas nodes e) n t.node.alpha candidates among (taken_member n t.node.alpha t.node t.at parts.0 refl parts.1)));
    only = λ n c.
        let r = flat_map_member (taken_by alphas nodes e) n candidates (member_from_contains n (flat_map (taken_by alphas nodes e) candidates) (subst (λ ms. Contains ms n) is c)) in
        taker_of n r.0 (passes_in (slice_get alphas r.0) (Some e)) refl r.2;
    once = subst (AllPairs (λ n m. n ≢ m)) (sym is) (pairs_from_no_twice (flat_map (taken_by alphas nodes e) candidates)
        (no_twice-flat_map (taken_by alphas nodes e) candidates (no_twice_from_pairs candidates apart) (λ a. taken_once a (passes_in (slice_get alphas a) (Some e))) one_alpha));
  }

-- after the last of them nothing is left
pub all_added : {X : Type 0} (f : X → List ℕ) (ns : List ℕ) (xs : List X) (i : ℕ) → length xs ≤ i → ns ++ flat_map f (drop i xs) ≡ flat_map f xs → ns ≡ flat_map f xs
all_added f ns xs i end h = sym (append-nil ns) ∙ (ap (λ ys. ns ++ flat_map f ys) (sym (drop_all i xs end)) ∙ h)

-- ---- in order

-- a list that was written in whole
pub refill_whole : (xs ys now : List ℕ) → now ≡ xs → length ys ≡ length now → refill (length xs) xs ys ≡ ys
refill_whole xs ys now same long =
    let equal : length ys ≡ length xs = long ∙ ap length same in
    ap (λ zs. take (length xs) (ys ++ zs)) (drop_all (length ys) xs (omega arith)) ∙ (ap (take (length xs)) (append-nil ys) ∙ take_all (length xs) ys (omega arith))

-- what is sorted and has no number twice rises
rising_in_order : (xs ys : List ℕ) → AllPairs (λ n m. n ≢ m) xs → IsPermutation xs ys → IsSorted nat_cmp ys → IsStrictlyIncreasing ys
rising_in_order xs ys apart moved sorted =
    IsStrictlyIncreasing-from_distinct ys (IsNonDecreasingBy-from_sort (λ n. n) ys sorted)
    (IsDistinct-IsPermutation eqb nat_eq_equiv.symm xs ys moved (IsDistinct-from_AllPairs Decides-eqb xs apart))

-- each number is below all later ones
abbrev Rises : List ℕ → Type 0
Rises [] = Unit {0}
Rises (x ∷ xs) = ((y : ℕ) → IsMember y xs → x < y) × Rises xs

rises_from_pairs : (xs : List ℕ) → AllPairs (λ x y. x < y) xs → Rises xs
rises_from_pairs [] h = tt
rises_from_pairs (x ∷ xs) h =
    let later : All (λ y. x < y) xs = λ k d low. h 0 (suc k) d (omega arith) (omega arith) in (
      λ y m. members_from_each (λ z. x < z) xs (recursion_from_All (λ z. x < z) xs later) y m,
      rises_from_pairs xs (λ i j d lt low. h (suc i) (suc j) d (omega arith) (omega arith)),
    )

rises_push : (xs : List ℕ) (n : ℕ) → Rises xs → ((y : ℕ) → IsMember y xs → y < n) → Rises (xs ++ n ∷ [])
rises_push [] n h low = (λ y m. absurd m, tt)
rises_push (x ∷ xs) n h low = (
  λ y m. elim (member_cases y xs (n ∷ []) m) [
    | inl a ↦ h.0 y a
    | inr b ↦ elim b [ inl e ↦ (let l = low x (inl refl) in omega arith) | inr no' ↦ absurd no' ]
  ],
  rises_push xs n h.1 (λ y m. low y (inr m)),
)

numbers_rise : {X : Type 0} (test : X → Bool) (xs : List X) (i : ℕ) → Rises (numbers_below test xs i)
numbers_rise test xs zero = tt
numbers_rise {X} test xs (suc i) = by_item (numbers_rise test xs i) (slice_get xs i)
  where
    low : (y : ℕ) → IsMember y (numbers_below test xs i) → y < i
    low y m = (number_of test xs y i m).below

    by_test : Rises (numbers_below test xs i) → (b : Bool) → Rises (numbers_below test xs i ++ cond b (i ∷ []) [])
    by_test before true = rises_push (numbers_below test xs i) i before low
    by_test before false = subst Rises (sym (append-nil (numbers_below test xs i))) before

    by_item : Rises (numbers_below test xs i) → (o : Option X) → Rises (numbers_below test xs i ++ number_if test o i)
    by_item before None = by_test before false
    by_item before (Some x) = by_test before (test x)

-- two rising lists with the same members are one
same_rising : (xs ys : List ℕ) → Rises xs → Rises ys → ((n : ℕ) → IsMember n xs → IsMember n ys) → ((n : ℕ) → IsMember n ys → IsMember n xs) → xs ≡ ys
same_rising [] [] h g to from = refl
same_rising [] (y ∷ ys) h g to from = absurd (from y (inl refl))
same_rising (x ∷ xs) [] h g to from = absurd (to x (inl refl))
same_rising (x ∷ xs) (y ∷ ys) h g to from = ap₂ (λ a as'. a ∷ as') first (same_rising xs ys h.1 g.1 rest back)
  where
    first : x ≡ y
    first = elim (to x (inl refl)) [
      | inl e ↦ e
      | inr m ↦ elim (from y (inl refl)) [ inl e ↦ sym e | inr k ↦ (let a = g.0 x m in let b = h.0 y k in absurd (omega arith)) ]
    ]

    rest : (n : ℕ) → IsMember n xs → IsMember n ys
    rest n m = elim (to n (inr m)) [ inl e ↦ (let low = h.0 n m in let s = first in absurd (omega arith)) | inr k ↦ k ]

    back : (n : ℕ) → IsMember n ys → IsMember n xs
    back n m = elim (from n (inr m)) [ inl e ↦ (let low = g.0 n m in let s = first in absurd (omega arith)) | inr k ↦ k ]

-- ---- their tasks

numbers_of_tasks : (alphas : List Alpha) (nodes : List Node) (plus : Bool) (tag : ℕ) (e : Option Element) (i : ℕ) → tasks_below alphas nodes plus tag e i ≡ map (right_task plus tag) (numbers_below (is_fed alphas e) nodes i)
numbers_of_tasks alphas nodes plus tag e zero = refl
numbers_of_tasks alphas nodes plus tag e (suc i) =
    ap₂ (λ a b. a ++ b) (numbers_of_tasks alphas nodes plus tag e i) (by_node (slice_get nodes i))
    ∙ sym (map-append (right_task plus tag) (numbers_below (is_fed alphas e) nodes i) (number_if (is_fed alphas e) (slice_get nodes i) i))
  where
    by_test : (b : Bool) → cond b (right_task plus tag i ∷ []) [] ≡ map (right_task plus tag) (cond b (i ∷ []) [])
    by_test true = refl
    by_test false = refl

    by_node : (o : Option Node) → task_at alphas plus tag e i o ≡ map (right_task plus tag) (number_if (is_fed alphas e) o i)
    by_node None = refl
    by_node (Some x) = by_test (is_fed alphas e x)

-- the tasks of the takers in order are those of the nodes in order
pub tasks_of_takers : (alphas : List Alpha) (nodes : List Node) (plus : Bool) (tag : ℕ) (e : Element) (found ns : List ℕ) → AreTakers alphas nodes e found → IsPermutation found ns → IsSorted nat_cmp ns
    → map (right_task plus tag) ns ≡ tasks_below alphas nodes plus tag (Some e) (length nodes)
tasks_of_takers alphas nodes plus tag e found ns takers moved sorted =
    ap (map (right_task plus tag))
    (same_rising ns (numbers_below (is_fed alphas (Some e)) nodes (length nodes)) (rises_from_pairs ns (AllPairs-from_increasing ns (rising_in_order found ns takers.once moved sorted)))
    (numbers_rise (is_fed alphas (Some e)) nodes (length nodes)) to from)
    ∙ sym (numbers_of_tasks alphas nodes plus tag (Some e) (length nodes))
  where
    to : (n : ℕ) → IsMember n ns → IsMember n (numbers_below (is_fed alphas (Some e)) nodes (length nodes))
    to n m =
        let t = takers.only n (Contains-permutation ns found n (IsPermutation-sym found ns moved) (contains_from_member n ns m)) in
        number_in (is_fed alphas (Some e)) nodes n t.node t.at t.fed (length nodes) (get_low nodes n t.node t.at)

    from : (n : ℕ) → IsMember n (numbers_below (is_fed alphas (Some e)) nodes (length nodes)) → IsMember n ns
    from n m =
        let r = number_of (is_fed alphas (Some e)) nodes n (length nodes) m in
        member_from_contains n ns (Contains-permutation found ns n moved (takers.each n (record { node = r.item; at = r.at; fed = r.passes })))
