-- The tags sorted downwards are the same tags, from the greatest down, and no other list is.
use Rattle.std.proofs.Common.{◌≡◌, ℕ, ◌<◌, ◌≤◌, List, [], ◌∷◌, Bool, true, false, cond, ◌==◌, refl, ap, sym, ◌∙◌, subst, inl, inr, ◌⊎◌, arith, reverse}
use Rattle.std.specs.Prelude.{nat_le, sum_by, IsPermutation, IsSorted, AllPairs}
use Rattle.std.specs.Ordering.{nat_cmp}
use Rattle.std.proofs.lemmas.List.{reverse-append}
use Rattle.std.proofs.lemmas.Bool.{cases_order}
use Rattle.std.proofs.lemmas.Bool.Decides.{nat_tests, leb_tells}
use Rattle.std.proofs.lemmas.List.Sorted.{IsPermutation-refl, IsPermutation-sym, IsPermutation-cons, IsPermutation-middle, IsPermutation-trans, IsPermutation-reverse, IsNonDecreasingBy-from_sort, sum_by-IsPermutation}
use Rattle.std.proofs.lemmas.List.Sums.{sum_by-cons}
use Rattle.ops_base.specs.Dominance.{insert_down, downwards}
use Rattle.ops_base.proofs.InOrder.{AllBefore, all_before-append, all_pairs_from_before, before_from_all_pairs}
use Rattle.ops_base.proofs.Members.{IsMember, member_cases}

-- the first is not below the second
abbrev pub AtLeast : ℕ → ℕ → Type 0
AtLeast x y = y ≤ x

-- each number is at least as great as all that follow it
abbrev pub IsDownwards : List ℕ → Type 0
IsDownwards xs = AllBefore AtLeast xs

-- inserting adds the number, and moves nothing else
pub insert_down-permutation : (x : ℕ) (ys : List ℕ) → IsPermutation (x ∷ ys) (insert_down x ys)
insert_down-permutation x [] = IsPermutation-refl (x ∷ [])
insert_down-permutation x (y ∷ ys) = by_test (nat_le y x) (insert_down-permutation x ys)
  where
    by_test : (b : Bool) → IsPermutation (x ∷ ys) (insert_down x ys) → IsPermutation (x ∷ y ∷ ys) (cond b (x ∷ y ∷ ys) (y ∷ insert_down x ys))
    by_test true later = IsPermutation-refl (x ∷ y ∷ ys)
    by_test false later =
        IsPermutation-trans (x ∷ y ∷ ys) (y ∷ x ∷ ys) (y ∷ insert_down x ys)
        (IsPermutation-sym (y ∷ x ∷ ys) (x ∷ y ∷ ys) (IsPermutation-middle (y ∷ []) x ys))
        (IsPermutation-cons y (x ∷ ys) (insert_down x ys) later)

-- the tags sorted downwards are the same tags, each as often
pub downwards-permutation : (xs : List ℕ) → IsPermutation xs (downwards xs)
downwards-permutation [] = IsPermutation-refl []
downwards-permutation (x ∷ xs) =
    IsPermutation-trans (x ∷ xs) (x ∷ downwards xs) (insert_down x (downwards xs))
    (IsPermutation-cons x xs (downwards xs) (downwards-permutation xs))
    (insert_down-permutation x (downwards xs))

-- what is in the list after inserting is the number or was there
pub insert_down_member : (z x : ℕ) (ys : List ℕ) → IsMember z (insert_down x ys) → (z ≡ x) ⊎ IsMember z ys
insert_down_member z x [] (inl e) = inl e
insert_down_member z x [] (inr m) = absurd m
insert_down_member z x (y ∷ ys) m = by_test (λ n. insert_down_member z x ys n) (nat_le y x) m
  where
    by_test : (IsMember z (insert_down x ys) → (z ≡ x) ⊎ IsMember z ys) → (b : Bool) → IsMember z (cond b (x ∷ y ∷ ys) (y ∷ insert_down x ys)) → (z ≡ x) ⊎ IsMember z (y ∷ ys)
    by_test later true (inl e) = inl e
    by_test later true (inr m) = inr m
    by_test later false (inl e) = inr (inl e)
    by_test later false (inr m) = elim (later m) [ inl e ↦ inl e | inr n ↦ inr (inr n) ]

-- a number is inserted at its place
pub insert_down-is_downwards : (x : ℕ) (ys : List ℕ) → IsDownwards ys → IsDownwards (insert_down x ys)
insert_down-is_downwards x [] a = (λ z m. absurd m, tt)
insert_down-is_downwards x (y ∷ ys) a =
    by_test (insert_down-is_downwards x ys a.1) (nat_le y x) (leb_tells y x)
  where
    below_y : x < y → (z : ℕ) → IsMember z (insert_down x ys) → AtLeast y z
    below_y below z m = elim (insert_down_member z x ys m) [ inl e ↦ omega (arith, e) | inr n ↦ a.0 z n ]

    below_x : y ≤ x → (z : ℕ) → IsMember z (y ∷ ys) → AtLeast x z
    below_x le z (inl e) = omega (arith, e)
    below_x le z (inr n) = omega (arith, a.0 z n)

    by_test : IsDownwards (insert_down x ys) → (b : Bool) → ((b ≡ true) × (y ≤ x)) ⊎ ((b ≡ false) × (x < y)) → IsDownwards (cond b (x ∷ y ∷ ys) (y ∷ insert_down x ys))
    by_test later true (inl h) = (below_x h.1, a)
    by_test later true (inr h) = cc (h.0)
    by_test later false (inl h) = cc (h.0)
    by_test later false (inr h) = (below_y h.1, later)

-- the tags sorted downwards go from the greatest down
pub downwards-is_downwards : (xs : List ℕ) → IsDownwards (downwards xs)
downwards-is_downwards [] = tt
downwards-is_downwards (x ∷ xs) = insert_down-is_downwards x (downwards xs) (downwards-is_downwards xs)

-- one where the two are equal
abbrev one_at : ℕ → ℕ → ℕ
one_at y z = cond (z == y) 1 0

-- a number above all of a list is nowhere in it
none_at : (y : ℕ) (xs : List ℕ) → ((z : ℕ) → IsMember z xs → z < y) → sum_by (one_at y) xs ≡ 0
none_at y [] h = refl
none_at y (x ∷ xs) h =
    let below : x < y = h x (inl refl) in
    let e : one_at y x ≡ 0 = grind (arith, nat_tests) in
    sum_by-cons (one_at y) x xs ∙ (omega (arith, e, none_at y xs (λ z m. h z (inr m))))

-- a number is in a list that begins with it
some_at : (y : ℕ) (ys : List ℕ) → 1 ≤ sum_by (one_at y) (y ∷ ys)
some_at y ys =
    let e : one_at y y ≡ 1 = grind (arith, nat_tests) in omega (arith, e, sum_by-cons (one_at y) y ys)

-- all sums over the two lists are equal
abbrev SameSums : List ℕ → List ℕ → Type 0
SameSums xs ys = (f : ℕ → ℕ) → sum_by f xs ≡ sum_by f ys

-- where the first of a list is below the first of another, both from the greatest down, the other has what this has not
not_below : (x y : ℕ) (xs ys : List ℕ) → IsDownwards (x ∷ xs) → SameSums (x ∷ xs) (y ∷ ys) → x < y → ⊥
not_below x y xs ys a same below =
    let n = none_at y (x ∷ xs) each in omega (arith, n, some_at y ys, same (one_at y))
  where
    each : (z : ℕ) → IsMember z (x ∷ xs) → z < y
    each z (inl e) = omega (arith, e)
    each z (inr m) = omega (arith, a.0 z m)

-- two lists from the greatest down with the same numbers, each as often, are equal
pub same_downwards : (xs ys : List ℕ) → IsDownwards xs → IsDownwards ys → SameSums xs ys → xs ≡ ys
same_downwards [] [] a b same = refl
same_downwards [] (y ∷ ys) a b same = absurd (omega (arith, same (one_at y), some_at y ys))
same_downwards (x ∷ xs) [] a b same = absurd (omega (arith, same (one_at x), some_at x xs))
same_downwards (x ∷ xs) (y ∷ ys) a b same =
    elim (cases_order x y) [
      | inl e ↦ (let t = same_downwards xs ys a.1 b.1 (tails e) in cc)
      | inr h ↦ elim h [
        | inl below ↦ absurd (not_below x y xs ys a same below)
        | inr above ↦ absurd (not_below y x ys xs b (λ f. sym (same f)) above)
      ]
    ]
  where
    tails : x ≡ y → SameSums xs ys
    tails e f =
        omega (arith, same f, ap f e, sum_by-cons f x xs, sum_by-cons f y ys)

-- A list from the greatest down with the same tags, each as often, is the list of the tags sorted downwards.
pub downwards_is : (xs ys : List ℕ) → IsPermutation xs ys → IsDownwards ys → ys ≡ downwards xs
downwards_is xs ys p a =
    same_downwards ys (downwards xs) a (downwards-is_downwards xs)
    (λ f. sum_by-IsPermutation f xs ys p ∙ sym (sum_by-IsPermutation f xs (downwards xs) (downwards-permutation xs)))

-- the tags sorted downwards, at each two places
pub downwards-greatest_first : (xs : List ℕ) → AllPairs AtLeast (downwards xs)
downwards-greatest_first xs = all_pairs_from_before AtLeast (downwards xs) (downwards-is_downwards xs)

-- a list with the same tags, each as often, from the greatest down at each two places, is the list sorted downwards
pub downwards_only : (xs ys : List ℕ) → IsPermutation xs ys → AllPairs AtLeast ys → ys ≡ downwards xs
downwards_only xs ys p a = downwards_is xs ys p (before_from_all_pairs AtLeast ys a)

-- a list that does not fall goes from the greatest down when it is turned round
pub reversed_downwards : (xs : List ℕ) → AllBefore (λ x y. x ≤ y) xs → IsDownwards (reverse xs)
reversed_downwards [] a = tt
reversed_downwards (x ∷ xs) a =
    let P : List ℕ → Type 0 = IsDownwards in
    subst P (sym (reverse-append (x ∷ []) xs))
    (all_before-append AtLeast (reverse xs) (x ∷ []) (reversed_downwards xs a.1) (λ z m. absurd m, tt) below)
  where
    from_reverse : (z : ℕ) (zs : List ℕ) → IsMember z (reverse zs) → IsMember z zs
    from_reverse z [] m = absurd m
    from_reverse z (y ∷ ys) m =
        let Q : List ℕ → Type 0 = IsMember z in
        elim (member_cases z (reverse ys) (y ∷ []) (subst Q (reverse-append (y ∷ []) ys) m)) [
          | inl n ↦ inr (from_reverse z ys n)
          | inr n ↦ elim n [ inl e ↦ inl e | inr o ↦ absurd o ]
        ]

    below : (y z : ℕ) → IsMember y (reverse xs) → IsMember z (x ∷ []) → AtLeast y z
    below y z m (inl e) = omega (arith, e, a.0 y (from_reverse y xs m))
    below y z m (inr n) = absurd n

-- What std's sort gives, turned round, is the list of the tags sorted downwards.
pub reverse_sorted : (xs ys : List ℕ) → IsPermutation xs ys → IsSorted nat_cmp ys → reverse ys ≡ downwards xs
reverse_sorted xs ys p sorted =
    let rising = IsNonDecreasingBy-from_sort (λ x. x) ys sorted in
    let pairs : AllPairs (λ x y. x ≤ y) ys = λ i j d l h. rising i j d (omega arith) h in
    downwards_is xs (reverse ys)
    (IsPermutation-trans xs ys (reverse ys) p (IsPermutation-reverse ys))
    (reversed_downwards ys (before_from_all_pairs (λ x y. x ≤ y) ys pairs))
