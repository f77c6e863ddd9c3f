-- How many things are so: the number is one, and a list that has just these gives it by its distinct items.
use Rattle.std.proofs.Common.{◌≡◌, ℕ, ◌<◌, Bool, true, false, cond, List, [], ◌∷◌, length, refl, sym, subst, ◌∙◌, inl, inr, arith}
use Rattle.std.specs.Prelude.{Decides, ◌≢◌, ◌↔◌}
use Rattle.std.specs.List.{range_with_len}
use Rattle.std.specs.Set.{is_member, unique_keys, distinct_count}
use Rattle.std.specs.Cmp.{decided}
use Rattle.std.proofs.lemmas.Bool.Decides.{Decides-like, same_from_decides}
use Rattle.std.proofs.lemmas.List.FromFn.{length-range_with_len, get_or-range_with_len}
use Rattle.std.proofs.lemmas.Map.Made.{length-from_same_keys, is_member-Decides, IsDistinct-from_AllPairs}
use Rattle.ops_base.proofs.Members.{IsMember, member_from_contains, contains_from_member}
use Rattle.ops_base.proofs.InOrder.{AllBefore, all_pairs_from_before}
use Rattle.net_base.specs.Shape.{HasCount}

module _ (X : Type 0) (E : X → X → Bool) (same : (a b : X) → Decides (E a b) (a ≡ b)) where
  -- ---- the items of a list, each once

  member_of_unique : (xs : List X) (x : X) → IsMember x (unique_keys E xs) → IsMember x xs
  member_of_unique [] x m = absurd m
  member_of_unique (y ∷ ys) x m = by (member_of_unique ys x) (is_member E ys y) m
    where
      by : (IsMember x (unique_keys E ys) → IsMember x ys) → (b : Bool) → IsMember x (cond b (unique_keys E ys) (y ∷ unique_keys E ys)) → IsMember x (y ∷ ys)
      by ih true m = inr (ih m)
      by ih false (inl e) = inl e
      by ih false (inr m) = inr (ih m)

  unique_of_member : (xs : List X) (x : X) → IsMember x xs → IsMember x (unique_keys E xs)
  unique_of_member [] x m = absurd m
  unique_of_member (y ∷ ys) x m = by (unique_of_member ys x) (is_member E ys y) refl m
    where
      by : (IsMember x ys → IsMember x (unique_keys E ys)) → (b : Bool) → is_member E ys y ≡ b → IsMember x (y ∷ ys) → IsMember x (cond b (unique_keys E ys) (y ∷ unique_keys E ys))
      by ih true t (inl e) = ih (subst (λ z. IsMember z ys) (sym e) (member_from_contains y ys ((is_member-Decides same ys y).0 t)))
      by ih true t (inr m) = ih m
      by ih false t (inl e) = inl e
      by ih false t (inr m) = inr (ih m)

  unique_apart : (xs : List X) → AllBefore (λ x y. x ≢ y) (unique_keys E xs)
  unique_apart [] = tt
  unique_apart (y ∷ ys) = by (unique_apart ys) (is_member E ys y) refl
    where
      by : AllBefore (λ x y. x ≢ y) (unique_keys E ys) → (b : Bool) → is_member E ys y ≡ b → AllBefore (λ x y. x ≢ y) (cond b (unique_keys E ys) (y ∷ unique_keys E ys))
      by ih true t = ih
      by ih false t = (
        λ z m e.
            (let has : IsMember y ys = subst (λ w. IsMember w ys) (sym e) (member_of_unique ys z m) in
            let yes = (is_member-Decides same ys y).1 (contains_from_member y ys has) in
            absurd (cc)),
        ih,
      )

  -- a list that has just the things that are so has them counted
  pub counted : (Is : X → Type 0) (xs : List X) → ((x : X) → IsMember x xs ↔ Is x) → HasCount X Is (distinct_count E xs)
  counted Is xs has = record {
    all = unique_keys E xs;
    count = refl;
    apart = all_pairs_from_before (λ x y. x ≢ y) (unique_keys E xs) (unique_apart xs);
    sound = λ x c. (has x).0 (member_of_unique xs x (member_from_contains x (unique_keys E xs) c));
    complete = λ x i. contains_from_member x (unique_keys E xs) (unique_of_member xs x ((has x).1 i));
  }

  -- there is one number of them
  pub one_count : (Is : X → Type 0) (n m : ℕ) → HasCount X Is n → HasCount X Is m → n ≡ m
  one_count Is n m h k = sym h.count ∙ (long ∙ k.count)
    where
      long : length h.all ≡ length k.all
      long =
          length-from_same_keys (decided E same) h.all k.all (IsDistinct-from_AllPairs same h.all h.apart) (IsDistinct-from_AllPairs same k.all k.apart)
          (λ q. same_from_decides (is_member E h.all q) (is_member E k.all q) (is_member-Decides same h.all q)
          (Decides-like (is_member E k.all q) (λ c. h.complete q (k.sound q c)) (λ c. k.complete q (h.sound q c)) (is_member-Decides same k.all q)))

-- just this many numbers are below a number
pub below_counted : (n : ℕ) → HasCount ℕ (λ k. k < n) n
below_counted n = record {
  all = range_with_len 0 n;
  count = length-range_with_len 0 n;
  apart = λ i j d lt in_range e.
      (let len = length-range_with_len 0 n in
      let a = get_or-range_with_len 0 n i d (omega arith) in
      let b = get_or-range_with_len 0 n j d (omega arith) in
      absurd (omega arith));
  sound = λ x c.
      (let len = length-range_with_len 0 n in
      let lt = c.1 in
      let is = c.2 in
      let a = get_or-range_with_len 0 n c.0 x (omega arith) in
      omega arith);
  complete = λ x lt.
      (let len = length-range_with_len 0 n in
      let a = get_or-range_with_len 0 n x x lt in
      (x, omega arith, omega arith));
}
