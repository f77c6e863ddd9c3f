-- Lists in which no number stands twice.
use Rattle.std.proofs.Common.{◌≡◌, ◌≢◌, ℕ, suc, List, [], ◌∷◌, ◌++◌, inl, inr, refl, sym, subst, arith}
use Rattle.std.specs.List.{flat_map, All, AllPairs}
use Rattle.std.proofs.lemmas.List.Kept.{AllPairs-cons}
use Rattle.ops_base.proofs.Members.{IsMember, all_from_members, contains_from_member, member_cases, flat_map_member}

abbrev pub NoTwice : List ℕ → Type 0
NoTwice [] = Unit {0}
NoTwice (x ∷ xs) = (IsMember x xs → ⊥) × NoTwice xs

pub no_twice_append : (xs ys : List ℕ) → NoTwice xs → NoTwice ys → ((n : ℕ) → IsMember n xs → IsMember n ys → ⊥) → NoTwice (xs ++ ys)
no_twice_append [] ys h g apart = g
no_twice_append (x ∷ xs) ys h g apart = (
  λ m. elim (member_cases x xs ys m) [ inl a ↦ h.0 a | inr b ↦ apart x (inl refl) b ],
  no_twice_append xs ys h.1 g (λ n a b. apart n (inr a) b),
)

-- joined lists, of which no two have a number in common
pub no_twice-flat_map : (f : ℕ → List ℕ) (xs : List ℕ) → NoTwice xs → ((x : ℕ) → NoTwice (f x)) → ((x y n : ℕ) → IsMember n (f x) → IsMember n (f y) → x ≡ y) → NoTwice (flat_map f xs)
no_twice-flat_map f [] h each apart = tt
no_twice-flat_map f (x ∷ xs) h each apart =
    no_twice_append (f x) (flat_map f xs) (each x) (no_twice-flat_map f xs h.1 each apart)
    (λ n a b. (let r = flat_map_member f n xs b in h.0 (subst (λ y. IsMember y xs) (sym (apart x r.0 n a r.2)) r.1)))

pub pairs_from_no_twice : (xs : List ℕ) → NoTwice xs → AllPairs (λ n m. n ≢ m) xs
pairs_from_no_twice [] h = λ i j d lt low. absurd (omega arith)
pairs_from_no_twice (x ∷ xs) h =
    let rest : All (λ y. x ≢ y) xs = all_from_members (λ y. x ≢ y) xs (λ y m e. h.0 (subst (λ z. IsMember z xs) (sym e) m)) in
    AllPairs-cons (λ n m. n ≢ m) x xs rest (pairs_from_no_twice xs h.1)

pub no_twice_from_pairs : (xs : List ℕ) → AllPairs (λ n m. n ≢ m) xs → NoTwice xs
no_twice_from_pairs [] h = tt
no_twice_from_pairs (x ∷ xs) h = (
  λ m. (let c = contains_from_member x xs m in let low = c.1 in h 0 (suc c.0) x (omega arith) (omega arith) (sym c.2)),
  no_twice_from_pairs xs (λ i j d lt low. h (suc i) (suc j) d (omega arith) (omega arith)),
)
