-- Spellings that are held: where one stands, and what one more leaves.
use Rattle.std.proofs.Common.{◌≡◌, ℕ, zero, suc, ◌+◌, ◌<◌, ◌≤◌, Bool, true, false, cond, not, List, [], ◌∷◌, ◌++◌, map, length, Option, Some, None, refl, sym, ap, ◌∙◌, arith, slice_get, inl, inr, ◌⊎◌}
use Rattle.std.proofs.lemmas.Bool.{false≢true}
use Rattle.std.proofs.lemmas.Bool.Decides.{nat_tests}
use Rattle.std.proofs.lemmas.Slice.Eq.{bytes_eq-Decides}
use Rattle.std.specs.Prelude.{bytes_eq, nat_lt}
use Rattle.std.specs.List.{position, position_or_len, prefix_len, list_any}
use Rattle.ops_base.specs.Names.{place_of, with_spelling, AreDistinct}

-- the place of a spelling among what the keys spell
pub place-map : {V : Type 0} (f : V → List ℕ) (s : List ℕ) (keys : List V) → place_of (map f keys) s ≡ position_or_len (λ v. bytes_eq s (f v)) keys
place-map f s [] = refl
place-map f s (k ∷ keys) = ap (λ n. cond (not (bytes_eq s (f k))) (1 + n) 0) (place-map f s keys)

pub length-map : {V W : Type 0} (f : V → W) (xs : List V) → length (map f xs) ≡ length xs
length-map f [] = refl
length-map f (x ∷ xs) = ap suc (length-map f xs)

pub map-append : {V W : Type 0} (f : V → W) (xs ys : List V) → map f (xs ++ ys) ≡ map f xs ++ map f ys
map-append f [] ys = refl
map-append f (x ∷ xs) ys = ap (λ zs. f x ∷ zs) (map-append f xs ys)

some_is : (i j : ℕ) → (let a : Option ℕ = Some i in let b : Option ℕ = Some j in a ≡ b) → i ≡ j
some_is i j e = cc

by_test : (b : Bool) (n i : ℕ) → cond b (Some n) None ≡ Some i → (b ≡ true) × (n ≡ i)
by_test true n i e = (refl, some_is n i e)
by_test false n i e = absurd cc

no_test : (b : Bool) (n : ℕ) → (let o : Option ℕ = None in cond b (Some n) None ≡ o) → b ≡ false
no_test true n e = absurd cc
no_test false n e = refl

prefix_len-le : {X : Type 0} (p : X → Bool) (xs : List X) → prefix_len p xs ≤ length xs
prefix_len-le p [] = omega arith
prefix_len-le p (x ∷ xs) = one_more (p x) (prefix_len p xs) (length xs) (prefix_len-le p xs)
  where
    one_more : (b : Bool) (m n : ℕ) → m ≤ n → cond b (1 + m) 0 ≤ suc n
    one_more true m n le = omega arith
    one_more false m n le = omega arith

-- a key that is found is the symbol of its spelling
pub found_is : {V : Type 0} (f : V → List ℕ) (s : List ℕ) (keys : List V) (i : ℕ) → position (λ v. bytes_eq s (f v)) keys ≡ Some i → (place_of (map f keys) s ≡ i) × (i < length (map f keys))
found_is f s keys i e =
    let t = by_test (nat_lt (position_or_len (λ v. bytes_eq s (f v)) keys) (length keys)) _ i e in
    let test = t.0 in
    let below : position_or_len (λ v. bytes_eq s (f v)) keys < length keys = grind (arith, nat_tests) in
    (place-map f s keys ∙ t.1, omega (arith, t.1, length-map f keys))

-- a spelling of no key would be the next symbol
pub absent_is : {V : Type 0} (f : V → List ℕ) (s : List ℕ) (keys : List V) → (let o : Option ℕ = None in position (λ v. bytes_eq s (f v)) keys ≡ o) → place_of (map f keys) s ≡ length keys
absent_is f s keys e =
    let t = no_test (nat_lt (position_or_len (λ v. bytes_eq s (f v)) keys) (length keys)) _ e in
    let above : length keys ≤ position_or_len (λ v. bytes_eq s (f v)) keys = grind (arith, nat_tests) in
    place-map f s keys ∙ (let n : position_or_len (λ v. bytes_eq s (f v)) keys ≡ length keys = omega (arith, prefix_len-le (λ v. not (bytes_eq s (f v))) keys) in n)

-- a spelling that is held stays the only one, and one that is not held is added
pub with-held : (held : List (List ℕ)) (s : List ℕ) → place_of held s < length held → with_spelling held s ≡ held
with-held held s lt =
    let t : nat_lt (place_of held s) (length held) ≡ true = grind (arith, nat_tests) in rw t refl

pub with-new : (held : List (List ℕ)) (s : List ℕ) → place_of held s ≡ length held → with_spelling held s ≡ held ++ s ∷ []
with-new held s e =
    let t : nat_lt (place_of held s) (length held) ≡ false = grind (arith, nat_tests) in rw t refl

-- ---- different symbols have different spellings

abbrev pub IsAbsent : List (List ℕ) → List ℕ → Type 0
IsAbsent held s = (i : ℕ) → slice_get held i ≡ Some s → ⊥

none_some : (s t : List ℕ) → (let a : Option (List ℕ) = None in let b : Option (List ℕ) = Some s in a ≡ b) → ⊥
none_some s t e = cc

spelled : (s t : List ℕ) → (let a : Option (List ℕ) = Some s in let b : Option (List ℕ) = Some t in a ≡ b) → s ≡ t
spelled s t e = cc

-- a spelling whose place is the end is not held
pub absent_from_place : (held : List (List ℕ)) (s : List ℕ) → place_of held s ≡ length held → IsAbsent held s
absent_from_place [] s e i h = none_some s s h
absent_from_place (x ∷ xs) s e i h =
    at i h (split (bytes_eq s x) (place_of xs s) (length xs) refl e) (λ f k. absent_from_place xs s f k)
  where
    split : (b : Bool) (m n : ℕ) → bytes_eq s x ≡ b → cond (not b) (1 + m) 0 ≡ suc n → (bytes_eq s x ≡ false) × (m ≡ n)
    split true m n is f = absurd (omega (arith, f))
    split false m n is f = (is, let q : m ≡ n = omega (arith, f) in q)

    differs : bytes_eq s x ≡ false → x ≡ s → ⊥
    differs f g = false≢true (sym f ∙ (bytes_eq-Decides s x).1 (sym g))

    at : (i : ℕ) → slice_get (x ∷ xs) i ≡ Some s → (bytes_eq s x ≡ false) × (place_of xs s ≡ length xs) → (place_of xs s ≡ length xs → IsAbsent xs s) → ⊥
    at zero h t rest = differs t.0 (spelled x s h)
    at (suc i) h t rest = rest t.1 i h

-- what stands at a place of a list with one item more
pushed : (xs : List (List ℕ)) (y t : List ℕ) (i : ℕ) → slice_get (xs ++ y ∷ []) i ≡ Some t → (slice_get xs i ≡ Some t) ⊎ ((i ≡ length xs) × (t ≡ y))
pushed [] y t zero h = inr (refl, sym (spelled y t h))
pushed [] y t (suc i) h = absurd (none_some t t h)
pushed (x ∷ xs) y t zero h = inl h
pushed (x ∷ xs) y t (suc i) h = elim (pushed xs y t i h) [ inl a ↦ inl a | inr b ↦ inr (ap suc b.0, b.1) ]

-- a spelling that is not held keeps them distinct
pub distinct-push : (held : List (List ℕ)) (s : List ℕ) → AreDistinct held → IsAbsent held s → AreDistinct (held ++ s ∷ [])
distinct-push held s apart absent i j t p q = both (pushed held s t i p) (pushed held s t j q)
  where
    here : (k : ℕ) → slice_get held k ≡ Some t → t ≡ s → ⊥
    here k h e = absent k (h ∙ ap Some e)

    both : (slice_get held i ≡ Some t) ⊎ ((i ≡ length held) × (t ≡ s)) → (slice_get held j ≡ Some t) ⊎ ((j ≡ length held) × (t ≡ s)) → i ≡ j
    both (inl a) (inl b) = apart i j t a b
    both (inl a) (inr b) = absurd (here i a b.1)
    both (inr a) (inl b) = absurd (here j b a.1)
    both (inr a) (inr b) = a.0 ∙ sym b.0

-- one spelling alone is distinct
pub distinct-one : (s : List ℕ) → AreDistinct (s ∷ [])
distinct-one s i j t p q = distinct-push [] s (λ i j t p q. absurd (none_some t t p)) (λ k h. none_some s s h) i j t p q

-- a new key goes last
pub keys-new : {V : Type 0} (f : V → List ℕ) (test : V → Bool) (keys new : List V) (copy : V) (s : List ℕ) → new ≡ cond (list_any test keys) keys (keys ++ copy ∷ []) → list_any test keys ≡ false → f copy ≡ s → map f new ≡ map f keys ++ s ∷ []
keys-new f test keys new copy s e none is =
    ap (map f) (e ∙ ap (λ b. cond b keys (keys ++ copy ∷ [])) none) ∙ map-append f keys (copy ∷ []) ∙ ap (λ t. map f keys ++ t ∷ []) is

-- a spelling that is held keeps its place where one more comes
pub kept-push : (held : List (List ℕ)) (s t : List ℕ) (i : ℕ) → slice_get held i ≡ Some t → slice_get (held ++ s ∷ []) i ≡ Some t
kept-push [] s t i h = absurd (none_some t t h)
kept-push (x ∷ held) s t zero h = h
kept-push (x ∷ held) s t (suc i) h = kept-push held s t i h
