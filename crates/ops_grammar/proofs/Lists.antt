-- Tests of whole lists where one more element stands at the end.
use Rattle.std.proofs.Common.{◌≡◌, ℕ, ◌<◌, Bool, true, false, not, ◌&&◌, ◌||◌, ◌==◌, List, [], ◌∷◌, ◌++◌, length, map, refl, sym, ap, ◌∙◌, arith, unwrap_or, nat_lt, length-append}
use Rattle.std.specs.Prelude.{zero, suc, slice_get, filter, if◌then◌else◌}
use Rattle.std.specs.List.{list_all, list_any}
use Rattle.std.proofs.lemmas.Bool.{and_parts, and_from, or_parts, or_from, cond_both, not-true, not_from_false, eqb-true, eqb-false, ne_eqb, ltb-true}
use Rattle.std.proofs.lemmas.List.Folds.{list_all-append, list_any-append}
use Rattle.std.proofs.lemmas.List.Filters.{length-filter_both}
use Rattle.std.proofs.lemmas.List.{map-append}
use Rattle.ops_base.specs.Valid.{is_in, are_distinct}

pub all_push : {X : Type 0} (p : X → Bool) (xs : List X) (x : X) → list_all p xs ≡ true → p x ≡ true → list_all p (xs ++ x ∷ []) ≡ true
all_push p xs x h e = list_all-append p xs (x ∷ []) ∙ and_from _ _ h (and_from _ _ e refl)

pub all_none : {X : Type 0} (p : X → Bool) (xs : List X) → length xs ≡ 0 → list_all p xs ≡ true
all_none p [] e = refl
all_none p (x ∷ xs) e = absurd (omega arith)

pub all_weaker : {X : Type 0} (p q : X → Bool) (xs : List X) → ((x : X) → p x ≡ true → q x ≡ true) → list_all p xs ≡ true → list_all q xs ≡ true
all_weaker p q [] weaker h = refl
all_weaker p q (x ∷ xs) weaker h =
    let parts = and_parts (p x) (list_all p xs) h in and_from _ _ (weaker x parts.0) (all_weaker p q xs weaker parts.1)

-- what holds of all by two tests holds by each
pub all_parts : {X : Type 0} (p q : X → Bool) (xs : List X) → list_all (λ x. p x && q x) xs ≡ true → (list_all p xs ≡ true) × (list_all q xs ≡ true)
all_parts p q xs h =
    (all_weaker _ p xs (λ x e. (and_parts (p x) (q x) e).0) h, all_weaker _ q xs (λ x e. (and_parts (p x) (q x) e).1) h)

pub all_at : {X : Type 0} (p : X → Bool) (xs : List X) (i : ℕ) (d : X) → list_all p xs ≡ true → i < length xs → p (unwrap_or (slice_get xs i) d) ≡ true
all_at p [] i d h lt = absurd (omega arith)
all_at p (x ∷ xs) zero d h lt = (and_parts (p x) (list_all p xs) h).0
all_at p (x ∷ xs) (suc i) d h lt = all_at p xs i d (and_parts (p x) (list_all p xs) h).1 (omega arith)

pub turned : (x y : ℕ) → (x == y) ≡ false → (y == x) ≡ false
turned x y e = ne_eqb y x (λ same. eqb-false x y e (sym same))

pub distinct_push : (xs : List ℕ) (x : ℕ) → are_distinct xs ≡ true → is_in x xs ≡ false → are_distinct (xs ++ x ∷ []) ≡ true
distinct_push [] x h e = refl
distinct_push (y ∷ ys) x h e =
    let parts = and_parts (not (is_in y ys)) (are_distinct ys) h in
    let apart = or_parts (y == x) (is_in x ys) e in
    let absent : is_in y (ys ++ x ∷ []) ≡ false =
    list_any-append (λ z. z == y) ys (x ∷ []) ∙ or_from _ _ (not-true _ parts.0) (or_from _ _ (turned y x apart.0) refl) in
    and_from _ _ (not_from_false _ absent) (distinct_push ys x parts.1 apart.1)

pub in_map : {X : Type 0} (f : X → ℕ) (xs : List X) (x : ℕ) → is_in x (map f xs) ≡ list_any (λ y. f y == x) xs
in_map f [] x = refl
in_map f (y ∷ ys) x = ap (λ (b : Bool). (f y == x) || b) (in_map f ys x)

pub named_apart : {X : Type 0} (f : X → ℕ) (xs : List X) (x : X) → are_distinct (map f xs) ≡ true → list_any (λ y. f y == f x) xs ≡ false → are_distinct (map f (xs ++ x ∷ [])) ≡ true
named_apart f xs x h e = ap are_distinct (map-append f xs (x ∷ [])) ∙ distinct_push (map f xs) (f x) h (in_map f xs (f x) ∙ e)

-- a number that each of the list is below is not in it
pub not_below : (xs : List ℕ) (k : ℕ) → list_all (λ v. nat_lt v k) xs ≡ true → is_in k xs ≡ false
not_below [] k h = refl
not_below (x ∷ xs) k h =
    let parts = and_parts (nat_lt x k) (list_all (λ v. nat_lt v k) xs) h in
    or_from _ _ (ne_eqb x k (λ same. let below : x < k = ltb-true x k parts.0 in absurd (omega arith))) (not_below xs k parts.1)

pub cond_alike : (b : Bool) {x y : Bool} → x ≡ true → y ≡ true → (if b then x else y) ≡ true
cond_alike true e h = e
cond_alike false e h = h

in_by : (p : ℕ → Bool) (x k : ℕ) (rest : Bool) → p x ≡ true → (b : Bool) → (x == k) ≡ b → (b || rest) ≡ true → (rest ≡ true → p k ≡ true) → p k ≡ true
in_by p x k rest h true same e ih = sym (ap p (eqb-true x k same)) ∙ h
in_by p x k rest h false same e ih = ih e

-- a number of the list passes what each passes
pub all_in : (p : ℕ → Bool) (xs : List ℕ) (k : ℕ) → list_all p xs ≡ true → is_in k xs ≡ true → p k ≡ true
all_in p [] k h e = absurd (cc)
all_in p (x ∷ xs) k h e =
    let parts = and_parts (p x) (list_all p xs) h in in_by p x k (is_in k xs) parts.0 (x == k) refl e (all_in p xs k parts.1)

pub any_some : {X : Type 0} (p : X → Bool) (xs : List X) → list_any p xs ≡ true → 0 < length xs
any_some p [] e = absurd (cc)
any_some p (x ∷ xs) e = omega arith

-- ---- lists where what passes a test stands after the others

filter_absent : {X : Type 0} (f : X → ℕ) (p : X → Bool) (xs : List X) (k : ℕ) → is_in k (map f xs) ≡ false → is_in k (map f (filter p xs)) ≡ false
filter_absent f p [] k e = refl
filter_absent f p (x ∷ xs) k e =
    let apart = or_parts (f x == k) (is_in k (map f xs)) e in
    let rest = filter_absent f p xs k apart.1 in
    cond_both (p x) (x ∷ filter p xs) (filter p xs) (λ ys. is_in k (map f ys) ≡ false) (λ _. or_from _ _ apart.0 rest) (λ _. rest)

distinct_between : (xs ys : List ℕ) (k : ℕ) → are_distinct (xs ++ ys) ≡ true → is_in k (xs ++ ys) ≡ false → are_distinct (xs ++ k ∷ ys) ≡ true
distinct_between [] ys k h e = and_from _ _ (not_from_false _ e) h
distinct_between (x ∷ xs) ys k h e =
    let parts = and_parts (not (is_in x (xs ++ ys))) (are_distinct (xs ++ ys)) h in
    let apart = or_parts (x == k) (is_in k (xs ++ ys)) e in
    let others = or_parts (is_in x xs) (is_in x ys) (sym (list_any-append (λ z. z == x) xs ys) ∙ not-true _ parts.0) in
    let absent : is_in x (xs ++ k ∷ ys) ≡ false =
    list_any-append (λ z. z == x) xs (k ∷ ys) ∙ or_from _ _ others.0 (or_from _ _ (turned x k apart.0) others.1) in
    and_from _ _ (not_from_false _ absent) (distinct_between xs ys k parts.1 apart.1)

abbrev pub parted : {X : Type 0} → (X → Bool) → List X → List X
parted p xs = filter (λ x. not (p x)) xs ++ filter p xs

pub length-parted : {X : Type 0} (p : X → Bool) (xs : List X) → length (parted p xs) ≡ length xs
length-parted p xs =
    omega (arith, length-append (filter (λ x. not (p x)) xs) (filter p xs), length-filter_both p (λ x. not (p x)) (λ x. refl) xs)

parted_absent : {X : Type 0} (f : X → ℕ) (p : X → Bool) (xs : List X) (k : ℕ) → is_in k (map f xs) ≡ false → is_in k (map f (parted p xs)) ≡ false
parted_absent f p xs k e =
    ap (is_in k) (map-append f (filter (λ x. not (p x)) xs) (filter p xs))
    ∙ list_any-append (λ z. z == k) (map f (filter (λ x. not (p x)) xs)) (map f (filter p xs))
    ∙ or_from _ _ (filter_absent f (λ x. not (p x)) xs k e) (filter_absent f p xs k e)

parted_by : {X : Type 0} (f : X → ℕ) (b : Bool) (x : X) (xs ys : List X) → are_distinct (map f (xs ++ ys)) ≡ true → is_in (f x) (map f (xs ++ ys)) ≡ false
    → are_distinct (map f ((if not b then x ∷ xs else xs) ++ (if b then x ∷ ys else ys))) ≡ true
parted_by f true x xs ys h e =
    let both = map-append f xs ys in
    ap are_distinct (map-append f xs (x ∷ ys)) ∙ distinct_between (map f xs) (map f ys) (f x) (sym (ap are_distinct both) ∙ h) (sym (ap (is_in (f x)) both) ∙ e)
parted_by f false x xs ys h e = and_from _ _ (not_from_false _ e) h

pub parted_distinct : {X : Type 0} (f : X → ℕ) (p : X → Bool) (xs : List X) → are_distinct (map f xs) ≡ true → are_distinct (map f (parted p xs)) ≡ true
parted_distinct f p [] h = refl
parted_distinct f p (x ∷ xs) h =
    let parts = and_parts (not (is_in (f x) (map f xs))) (are_distinct (map f xs)) h in
    parted_by f (p x) x (filter (λ x. not (p x)) xs) (filter p xs) (parted_distinct f p xs parts.1) (parted_absent f p xs (f x) (not-true _ parts.0))
