-- The tags downwards, and after them the tags as they stand: what the two halves are, and which keys they make.
use Rattle.std.proofs.Common.{◌≡◌, ℕ, ◌+◌, ◌/◌, List, ◌++◌, length, take, drop, true, nat_eq, refl, ap, sym, ◌∙◌, arith}
use Rattle.std.specs.Cmp.Lexicographic.{pointwise}
use Rattle.std.specs.Option.{unwrap_or}
use Rattle.std.specs.Prelude.{slice_get}
use Rattle.std.proofs.lemmas.Bool.Decides.{Decides-eqb, same_from_decides}
use Rattle.std.proofs.lemmas.List.{take_all, drop_all, take-append-le, drop-append-le, take-append-drop, length-append}
use Rattle.std.proofs.lemmas.List.Sorted.{length_permutation}
use Rattle.std.proofs.lemmas.Slice.Eq.{bytes_eq-Decides}
use Rattle.ops_base.specs.declared.rules.Inst.{Inst}
use Rattle.ops_base.specs.declared.rules.Rule.{Rule}
use Rattle.ops_base.specs.Dominance.{downwards, specificity_of}
use Rattle.ops_base.proofs.DownwardsLaws.{downwards-permutation}
use Rattle.resolution.specs.Keys.{Key, IsKey, same_keys, front_half, back_half, key_from}
use Rattle.resolution.proofs.SameKeys.{same_keys-Decides}

-- ---- the halves

twice : (n m : ℕ) → m ≡ n + n → m / 2 ≡ n
twice n m e = omega (arith, e)

middle : (xs ys : List ℕ) → length xs ≡ length ys → length (xs ++ ys) / 2 ≡ length xs
middle xs ys e =
    twice (length xs) (length (xs ++ ys)) (omega (arith, length-append xs ys, e))

front_half-append : (xs ys : List ℕ) → length xs ≡ length ys → front_half (xs ++ ys) ≡ xs
front_half-append xs ys e =
    ap (λ n. take n (xs ++ ys)) (middle xs ys e) ∙ take-append-le (length xs) xs ys (omega arith)
    ∙ take_all (length xs) xs (omega arith)

back_half-append : (xs ys : List ℕ) → length xs ≡ length ys → back_half (xs ++ ys) ≡ ys
back_half-append xs ys e =
    ap (λ n. drop n (xs ++ ys)) (middle xs ys e) ∙ drop-append-le (length xs) xs ys (omega arith)
    ∙ ap (λ zs. zs ++ ys) (drop_all (length xs) xs (omega arith))

length-downwards : (tags : List ℕ) → length (downwards tags) ≡ length tags
length-downwards tags = length_permutation tags (downwards tags) (downwards-permutation tags)

-- the list of an instantiation of a production makes its key
pub is_key_from : (rules : List Rule) (i : Inst) (numbers : List ℕ) (specificity : ℕ) → numbers ≡ downwards i.tags ++ i.tags
    → specificity ≡ specificity_of rules i.rule → IsKey rules i (key_from numbers i.rule specificity)
is_key_from rules i numbers specificity e s = record {
  first_is = ap (λ tags. unwrap_or (slice_get tags 0) 0) back;
  sorted_is = ap front_half e ∙ front_half-append (downwards i.tags) i.tags (length-downwards i.tags);
  specificity_is = s;
  rule_is = refl;
  tags_is = back;
}
  where
    back : back_half numbers ≡ i.tags
    back = ap back_half e ∙ back_half-append (downwards i.tags) i.tags (length-downwards i.tags)

-- ---- keys are the same where the lists that they are from are

halves_same : (xs ys : List ℕ) → front_half xs ≡ front_half ys → back_half xs ≡ back_half ys → xs ≡ ys
halves_same xs ys f b =
    sym (take-append-drop (length xs / 2) xs) ∙ (λ k. f k ++ b k) ∙ take-append-drop (length ys / 2) ys

pub same_if_equal : (m n : ℕ) → nat_eq m n ≡ true → m ≡ n
same_if_equal m n e = (Decides-eqb m n).0 e

pub same_numbers : (xs ys : List ℕ) (r s m n : ℕ) → r ≡ s → m ≡ n → pointwise nat_eq xs ys ≡ same_keys (key_from xs r m) (key_from ys s n)
same_numbers xs ys r s m n p q =
    same_from_decides {P = xs ≡ ys} (pointwise nat_eq xs ys) (same_keys (key_from xs r m) (key_from ys s n)) (bytes_eq-Decides xs ys) (
      λ t. (let e = (same_keys-Decides (key_from xs r m) (key_from ys s n)).0 t in halves_same xs ys (ap (λ (k : Key). k.sorted) e) (ap (λ (k : Key). k.tags) e)),
      λ e. (same_keys-Decides (key_from xs r m) (key_from ys s n)).1 (λ k. key_from (e k) (p k) (q k)),
    )
