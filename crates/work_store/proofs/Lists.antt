-- Lists and what holds of each of their items; tests of tags.
use Rattle.std.proofs.Common.{◌≡◌, ℕ, ◌<◌, ◌≤◌, ◌==◌, ◌||◌, Bool, true, false, cond, not, List, [], ◌∷◌, ◌++◌, filter, length, refl, ap, ◌∙◌, arith}
use Rattle.std.proofs.lemmas.Bool.Decides.{nat_tests}
use Rattle.std.specs.declared.cmp.Ordering.TheVariants.{Greater}
use Rattle.std.specs.BTreeMap.{is_at}
use Rattle.std.specs.List.{AllByRecursion, list_any}
use Rattle.std.specs.Ordering.{nat_cmp}

-- ---- tests of tags

pub tag_is : (k t : ℕ) → (k == t) ≡ true → k ≡ t
tag_is k t h = grind (arith, nat_tests)

pub same_tag : (k t : ℕ) → k ≡ t → (k == t) ≡ true
same_tag k t h = grind (arith, nat_tests)

pub below_differs : (k t : ℕ) → k < t → (k == t) ≡ false
below_differs k t h = grind (arith, nat_tests)

pub above_differs : (k t : ℕ) → t < k → (k == t) ≡ false
above_differs k t h = grind (arith, nat_tests)

pub differs_back : (k t : ℕ) → (k == t) ≡ false → (t == k) ≡ false
differs_back k t h = grind (arith, nat_tests)

-- the test of a tree's look-up is the comparison of tags
pub at_is : (t k : ℕ) → is_at (nat_cmp t) k ≡ (k == t)
at_is t k = grind (arith, nat_tests)

pub compares_greater : (t k : ℕ) → k < t → nat_cmp t k ≡ Greater
compares_greater t k h = grind (arith, nat_tests)

-- ---- truth values

pub not_not : (b : Bool) → not (not b) ≡ b
not_not true = refl
not_not false = refl

pub or_true : (b : Bool) → (b || true) ≡ true
or_true true = refl
or_true false = refl

pub or_false : (b : Bool) → (b || false) ≡ b
or_false true = refl
or_false false = refl

-- ---- what holds of each

pub all_each : {X : Type 0} (P : X → Type 0) → ((x : X) → P x) → (xs : List X) → AllByRecursion P xs
all_each P h [] = tt
all_each P h (x ∷ xs) = (h x, all_each P h xs)

pub all_weaker : {X : Type 0} (P Q : X → Type 0) → ((x : X) → P x → Q x) → (xs : List X) → AllByRecursion P xs → AllByRecursion Q xs
all_weaker P Q h [] a = tt
all_weaker P Q h (x ∷ xs) a = (h x a.0, all_weaker P Q h xs a.1)

pub all_push : {X : Type 0} (P : X → Type 0) (xs : List X) (x : X) → AllByRecursion P xs → P x → AllByRecursion P (xs ++ x ∷ [])
all_push P [] x a h = (h, tt)
all_push P (y ∷ xs) x a h = (a.0, all_push P xs x a.1 h)

pub all_filter : {X : Type 0} (P : X → Type 0) (p : X → Bool) (xs : List X) → AllByRecursion P xs → AllByRecursion P (filter p xs)
all_filter P p [] a = tt
all_filter P p (x ∷ xs) a = by (p x) (all_filter P p xs a.1)
  where
    by : (b : Bool) → AllByRecursion P (filter p xs) → AllByRecursion P (cond b (x ∷ filter p xs) (filter p xs))
    by true ih = (a.0, ih)
    by false ih = ih

pub passes : {X : Type 0} (p : X → Bool) (xs : List X) → AllByRecursion (λ x. p x ≡ true) (filter p xs)
passes p [] = tt
passes p (x ∷ xs) = by (p x) refl (passes p xs)
  where
    by : (b : Bool) → p x ≡ b → AllByRecursion (λ y. p y ≡ true) (filter p xs) → AllByRecursion (λ y. p y ≡ true) (cond b (x ∷ filter p xs) (filter p xs))
    by true h ih = (h, ih)
    by false h ih = ih

-- ---- filters

pub filter_all : {X : Type 0} (p : X → Bool) (xs : List X) → AllByRecursion (λ x. p x ≡ true) xs → filter p xs ≡ xs
filter_all p [] a = refl
filter_all p (x ∷ xs) a =
    ap (λ b. cond b (x ∷ filter p xs) (filter p xs)) a.0 ∙ ap (λ ys. x ∷ ys) (filter_all p xs a.1)

pub filter_none : {X : Type 0} (p : X → Bool) (xs : List X) → AllByRecursion (λ x. p x ≡ false) xs → filter p xs ≡ []
filter_none p [] a = refl
filter_none p (x ∷ xs) a = ap (λ b. cond b (x ∷ filter p xs) (filter p xs)) a.0 ∙ filter_none p xs a.1

pub filter_same : {X : Type 0} (p q : X → Bool) (xs : List X) → AllByRecursion (λ x. p x ≡ q x) xs → filter p xs ≡ filter q xs
filter_same p q [] a = refl
filter_same p q (x ∷ xs) a =
    ap (λ b. cond b (x ∷ filter p xs) (filter p xs)) a.0 ∙ ap (λ ys. cond (q x) (x ∷ ys) ys) (filter_same p q xs a.1)

-- what passes one test and then the other is what passes both
pub filter_twice : {X : Type 0} (p q r : X → Bool) → ((x : X) → cond (p x) (q x) false ≡ r x) → (xs : List X) → filter q (filter p xs) ≡ filter r xs
filter_twice p q r h [] = refl
filter_twice p q r h (x ∷ xs) = by (p x) (h x) (filter_twice p q r h xs)
  where
    by : (b : Bool) → cond b (q x) false ≡ r x → filter q (filter p xs) ≡ filter r xs → filter q (cond b (x ∷ filter p xs) (filter p xs)) ≡ cond (r x) (x ∷ filter r xs) (filter r xs)
    by true e ih = ap (λ ys. cond (q x) (x ∷ ys) ys) ih ∙ ap (λ c. cond c (x ∷ filter r xs) (filter r xs)) e
    by false e ih = ih ∙ ap (λ c. cond c (x ∷ filter r xs) (filter r xs)) e

pub filter_shorter : {X : Type 0} (p : X → Bool) (xs : List X) → length (filter p xs) ≤ length xs
filter_shorter p [] = omega arith
filter_shorter p (x ∷ xs) = by (p x) (filter_shorter p xs)
  where
    by : (b : Bool) → length (filter p xs) ≤ length xs → length (cond b (x ∷ filter p xs) (filter p xs)) ≤ length (x ∷ xs)
    by true ih = omega arith
    by false ih = omega arith

-- ---- a tag among others

pub any_push : {X : Type 0} (p : X → Bool) (xs : List X) (x : X) → list_any p (xs ++ x ∷ []) ≡ (list_any p xs || p x)
any_push p [] x = or_false (p x)
any_push p (y ∷ xs) x = by (p y) (any_push p xs x)
  where
    by : (b : Bool) → list_any p (xs ++ x ∷ []) ≡ (list_any p xs || p x) → (b || list_any p (xs ++ x ∷ [])) ≡ ((b || list_any p xs) || p x)
    by true ih = refl
    by false ih = ih

-- a tag above all of these is not among them
pub none_above : (gone : List ℕ) (tag : ℕ) → AllByRecursion (λ t. t < tag) gone → list_any (λ t. t == tag) gone ≡ false
none_above [] tag a = refl
none_above (t ∷ gone) tag a = ap (λ b. b || list_any (λ t. t == tag) gone) (below_differs t tag a.0) ∙ none_above gone tag a.1
