-- Where the classes stand that have an attribute: what is noted as classes come, and what is found there.
use Rattle.std.proofs.Common.{◌≡◌, ◌==◌, ℕ, suc, zero, ◌+◌, ◌-◌, ◌<◌, ◌≤◌, ◌&&◌, ◌||◌, Bool, true, false, cond, not, true≢false, List, [], ◌∷◌, ◌++◌, length, map, filter, take, drop, take-append-drop, set, get_or, slice_get, Option, Some, None, refl, ap, sym, ◌∙◌, arith}
use Rattle.std.proofs.Math.Seq.{set-append_seam, take-append_seam}
use Rattle.std.proofs.lemmas.Bool.{eq-eqb, ne_eqb, or_parts}
use Rattle.std.proofs.lemmas.List.{append-nil, append_assoc, at_drop_more, length_push}
use Rattle.std.proofs.lemmas.List.Elements.{filter-append}
use Rattle.std.proofs.lemmas.List.Folds.{list_any-append, list_any_more}
use Rattle.std.proofs.lemmas.Map.Keys.{any_passes_from_place}
use Rattle.std.proofs.lemmas.Option.{get_or_from_slice_get}
use Rattle.std.specs.List.{list_any}
use Rattle.ops_base.specs.declared.values.Sym.{Sym}
use Rattle.ops_base.specs.declared.elements.Class.{Class}
use Rattle.ops_grammar.specs.Grammar.{arranged, is_one_of, makes_second, with_vector_last}
use Rattle.ops_forms.specs.Noted.{has_number, places_from, places_with, is_this, is_last, with_place, without_place, attrs_at, is_vector_at, with_last, with_last_at, arranged_at, arranged_at_all}

-- ---- lists

slice_get_end : {X : Type 0} (xs : List X) (x : X) (ys : List X) → slice_get (xs ++ x ∷ ys) (length xs) ≡ Some x
slice_get_end [] x ys = refl
slice_get_end (y ∷ xs) x ys = slice_get_end xs x ys

pub filter_twice : {X : Type 0} (p : X → Bool) (xs : List X) → filter p (filter p xs) ≡ filter p xs
filter_twice p [] = refl
filter_twice p (x ∷ xs) = by (filter_twice p xs) (p x) refl
  where
    by : filter p (filter p xs) ≡ filter p xs → (b : Bool) → p x ≡ b → filter p (cond b (x ∷ filter p xs) (filter p xs)) ≡ cond b (x ∷ filter p xs) (filter p xs)
    by rest true e = rw e (ap (λ ys. x ∷ ys) rest)
    by rest false e = rest

-- what passes a test passes it wherever it stands
pub any_parted : {X : Type 0} (p q : X → Bool) (xs : List X) → list_any p (filter (λ x. not (q x)) xs ++ filter q xs) ≡ list_any p xs
any_parted p q [] = refl
any_parted p q (x ∷ xs) = by (any_parted p q xs) (q x)
  where
    over : (b c d : Bool) → (b || (c || d)) ≡ (c || (b || d))
    over true true d = refl
    over true false d = refl
    over false c d = refl

    by : list_any p (filter (λ x. not (q x)) xs ++ filter q xs) ≡ list_any p xs → (b : Bool) → list_any p (cond (not b) (x ∷ filter (λ x. not (q x)) xs) (filter (λ x. not (q x)) xs) ++ cond b (x ∷ filter q xs) (filter q xs)) ≡ (p x || list_any p xs)
    by rest false = ap (λ b. p x || b) rest
    by rest true =
        list_any-append p (filter (λ x. not (q x)) xs) (x ∷ filter q xs) ∙ over (list_any p (filter (λ x. not (q x)) xs)) (p x) (list_any p (filter q xs))
        ∙ ap (λ b. p x || b) (sym (list_any-append p (filter (λ x. not (q x)) xs) (filter q xs)) ∙ rest)

pub any_of_front : {X : Type 0} (p : X → Bool) (xs : List X) (i : ℕ) → (list_any p (take i xs) || list_any p xs) ≡ list_any p xs
any_of_front p xs i =
    let whole : list_any p xs ≡ (list_any p (take i xs) || list_any p (drop i xs)) = ap (list_any p) (sym (take-append-drop i xs)) ∙ list_any-append p (take i xs) (drop i xs) in
    ap (λ b. list_any p (take i xs) || b) whole ∙ by (list_any p (take i xs)) (list_any p (drop i xs)) ∙ sym whole
  where
    by : (b c : Bool) → (b || (b || c)) ≡ (b || c)
    by true c = refl
    by false c = refl

-- ---- a place comes, and goes

last_end : (p : ℕ) (xs : List ℕ) → is_last p (xs ++ p ∷ []) ≡ true
last_end p xs =
    let at : length (xs ++ p ∷ []) - 1 ≡ length xs = omega (arith, length_push xs p) in
    ap (λ k. is_this p (slice_get (xs ++ p ∷ []) k)) at ∙ ap (is_this p) (slice_get_end xs p []) ∙ eq-eqb p p refl

pub with_place_twice : (xs : List ℕ) (b c : Bool) (p : ℕ) → with_place (with_place xs b p) c p ≡ with_place xs (b || c) p
with_place_twice xs false c p = refl
with_place_twice xs true c p = by (is_last p xs) c refl
  where
    by : (l c : Bool) → is_last p xs ≡ l → with_place (cond (not l) (xs ++ p ∷ []) xs) c p ≡ cond (not l) (xs ++ p ∷ []) xs
    by true true e = rw e refl
    by true false e = refl
    by false true e = rw (last_end p xs) refl
    by false false e = refl

-- a place that was added goes again
pub with_place_undone : (xs : List ℕ) (b c : Bool) (p : ℕ) → (b || c) ≡ c → without_place (with_place xs b p) c p ≡ without_place xs c p
with_place_undone xs false c p h = refl
with_place_undone xs true false p h = absurd (true≢false h)
with_place_undone xs true true p h = by (is_last p xs)
  where
    none : filter (λ k. not (k == p)) (p ∷ []) ≡ []
    none = let same : (p == p) ≡ true = eq-eqb p p refl in rw same refl

    by : (l : Bool) → filter (λ k. not (k == p)) (cond (not l) (xs ++ p ∷ []) xs) ≡ filter (λ k. not (k == p)) xs
    by true = refl
    by false = filter-append (λ k. not (k == p)) xs (p ∷ []) ∙ ap (λ ys. filter (λ k. not (k == p)) xs ++ ys) none ∙ append-nil (filter (λ k. not (k == p)) xs)

pub without_place_twice : (xs : List ℕ) (b c : Bool) (p : ℕ) → without_place (without_place xs b p) c p ≡ without_place xs (b || c) p
without_place_twice xs false c p = refl
without_place_twice xs true true p = filter_twice (λ k. not (k == p)) xs
without_place_twice xs true false p = refl

-- a place that isn't there
absent_stays : (p : ℕ) (xs : List ℕ) → list_any (λ k. k == p) xs ≡ false → filter (λ k. not (k == p)) xs ≡ xs
absent_stays p [] h = refl
absent_stays p (x ∷ xs) h =
    let parts = or_parts (x == p) (list_any (λ k. k == p) xs) h in
    rw parts.0 (ap (λ ys. x ∷ ys) (absent_stays p xs parts.1))

absent_last : (p : ℕ) (xs : List ℕ) → list_any (λ k. k == p) xs ≡ false → is_last p xs ≡ false
absent_last p xs h = by (slice_get xs (length xs - 1)) refl
  where
    by_test : (k : ℕ) → slice_get xs (length xs - 1) ≡ Some k → (b : Bool) → (k == p) ≡ b → b ≡ false
    by_test k at true e = absurd (true≢false (sym (any_passes_from_place (λ k. k == p) xs (length xs - 1) k at e) ∙ h))
    by_test k at false e = refl

    by : (o : Option ℕ) → slice_get xs (length xs - 1) ≡ o → is_this p o ≡ false
    by None at = refl
    by (Some k) at = by_test k at (k == p) refl

-- ---- one attribute more

pub noted_more : (n : ℕ) (attrs : List Sym) (i : ℕ) (d : Sym) (p : ℕ) (xs ys zs : List ℕ) → i < length attrs → ys ≡ with_place xs (has_number n (take i attrs)) p → zs ≡ with_place ys ((get_or attrs i d).0 == n) p → zs ≡ with_place xs (has_number n (take (i + 1) attrs)) p
noted_more n attrs i d p xs ys zs lt before now =
    now ∙ ap (λ vs. with_place vs ((get_or attrs i d).0 == n) p) before ∙ with_place_twice xs (has_number n (take i attrs)) ((get_or attrs i d).0 == n) p
    ∙ ap (λ b. with_place xs b p) (sym (list_any_more (λ a. a.0 == n) attrs i d lt))

pub forgotten_more : (n : ℕ) (attrs : List Sym) (i : ℕ) (d : Sym) (p : ℕ) (xs ys zs : List ℕ) → i < length attrs → ys ≡ without_place xs (has_number n (take i attrs)) p → zs ≡ without_place ys ((get_or attrs i d).0 == n) p → zs ≡ without_place xs (has_number n (take (i + 1) attrs)) p
forgotten_more n attrs i d p xs ys zs lt before now =
    now ∙ ap (λ vs. without_place vs ((get_or attrs i d).0 == n) p) before ∙ without_place_twice xs (has_number n (take i attrs)) ((get_or attrs i d).0 == n) p
    ∙ ap (λ b. without_place xs b p) (sym (list_any_more (λ a. a.0 == n) attrs i d lt))

-- some of the attributes were noted, and all are forgotten
pub noted_in_part : (n : ℕ) (attrs : List Sym) (i : ℕ) (p : ℕ) (xs ys zs : List ℕ) → ys ≡ with_place xs (has_number n (take i attrs)) p → zs ≡ ys → without_place zs (has_number n attrs) p ≡ without_place xs (has_number n attrs) p
noted_in_part n attrs i p xs ys zs before now =
    ap (λ vs. without_place vs (has_number n attrs) p) (now ∙ before)
    ∙ with_place_undone xs (has_number n (take i attrs)) (has_number n attrs) p (any_of_front (λ a. a.0 == n) attrs i)

-- ---- a class comes

places_snoc : (k n : ℕ) (cs : List Class) (c : Class) → places_from k n (cs ++ c ∷ []) ≡ places_from k n cs ++ cond (has_number n c.attrs) ((k + length cs) ∷ []) []
places_snoc k n [] c = let at : k + 0 ≡ k = omega arith in rw at refl
places_snoc k n (x ∷ xs) c = by (has_number n x.attrs) (places_snoc (k + 1) n xs c)
  where
    end : List ℕ
    end = cond (has_number n c.attrs) ((k + length (x ∷ xs)) ∷ []) []

    same : cond (has_number n c.attrs) ((k + 1 + length xs) ∷ []) [] ≡ cond (has_number n c.attrs) ((k + length (x ∷ xs)) ∷ []) []
    same = let at : k + 1 + length xs ≡ k + length (x ∷ xs) = omega arith in ap (λ m. cond (has_number n c.attrs) (m ∷ []) []) at

    by : (b : Bool) → places_from (k + 1) n (xs ++ c ∷ []) ≡ places_from (k + 1) n xs ++ cond (has_number n c.attrs) ((k + 1 + length xs) ∷ []) []
        → cond b (k ∷ places_from (k + 1) n (xs ++ c ∷ [])) (places_from (k + 1) n (xs ++ c ∷ [])) ≡ cond b (k ∷ places_from (k + 1) n xs) (places_from (k + 1) n xs) ++ cond (has_number n c.attrs) ((k + length (x ∷ xs)) ∷ []) []
    by true e = ap (λ ys. k ∷ ys) (e ∙ ap (λ ys. places_from (k + 1) n xs ++ ys) same)
    by false e = e ∙ ap (λ ys. places_from (k + 1) n xs ++ ys) same

places_below : (k n p : ℕ) (cs : List Class) → k + length cs ≤ p → list_any (λ j. j == p) (places_from k n cs) ≡ false
places_below k n p [] h = refl
places_below k n p (c ∷ cs) h = by (places_below (k + 1) n p cs (omega arith)) (has_number n c.attrs)
  where
    by : list_any (λ j. j == p) (places_from (k + 1) n cs) ≡ false → (b : Bool) → list_any (λ j. j == p) (cond b (k ∷ places_from (k + 1) n cs) (places_from (k + 1) n cs)) ≡ false
    by rest true = let apart : (k == p) ≡ false = ne_eqb k p (λ e. omega arith) in rw (apart, rest) refl
    by rest false = rest

fresh : (n : ℕ) (cs : List Class) → list_any (λ j. j == length cs) (places_with n cs) ≡ false
fresh n cs = places_below 0 n (length cs) cs (omega arith)

pub places_push : (n : ℕ) (cs : List Class) (c : Class) → with_place (places_with n cs) (has_number n c.attrs) (length cs) ≡ places_with n (cs ++ c ∷ [])
places_push n cs c =
    let last = absent_last (length cs) (places_with n cs) (fresh n cs) in
    rw (last, places_snoc 0 n cs c) (by (has_number n c.attrs))
  where
    by : (b : Bool) → cond (b && true) (places_with n cs ++ length cs ∷ []) (places_with n cs) ≡ places_with n cs ++ cond b ((0 + length cs) ∷ []) []
    by true = let at : 0 + length cs ≡ length cs = omega arith in rw at refl
    by false = sym (append-nil (places_with n cs))

pub places_fresh : (n : ℕ) (cs : List Class) (b : Bool) → without_place (places_with n cs) b (length cs) ≡ places_with n cs
places_fresh n cs true = absent_stays (length cs) (places_with n cs) (fresh n cs)
places_fresh n cs false = refl

attrs_end : (cs : List Class) (c : Class) → attrs_at (length cs) (cs ++ c ∷ []) ≡ c.attrs
attrs_end cs c = rw (slice_get_end cs c []) refl

pub class_noted : (n : ℕ) (cs ds : List Class) (c : Class) (k : ℕ) (xs ys : List ℕ) → ds ≡ cs ++ c ∷ [] → k ≡ length cs → xs ≡ places_with n cs → ys ≡ with_place xs (has_number n (attrs_at k ds)) k → ys ≡ places_with n ds
class_noted n cs ds c k xs ys more at before now = now ∙ rw (before, more, at, attrs_end cs c) (places_push n cs c)

pub class_forgotten : (n : ℕ) (cs ds es : List Class) (c : Class) (k : ℕ) (xs ys : List ℕ) (b : Bool) → ds ≡ cs ++ c ∷ [] → es ≡ take k ds → k ≡ length cs → xs ≡ places_with n cs → ys ≡ without_place xs b k → ys ≡ places_with n es
class_forgotten n cs ds es c k xs ys b more less at before now =
    let front : es ≡ cs = less ∙ rw (more, at) (take-append_seam cs (c ∷ [])) in
    now ∙ rw (before, at, front) (places_fresh n cs b)

-- ---- a vector attribute is declared

pub has_arranged : (n : ℕ) (vectors attrs : List Sym) → has_number n (arranged vectors attrs) ≡ has_number n attrs
has_arranged n vectors attrs = any_parted (λ a. a.0 == n) (λ a. is_one_of a vectors) attrs

places_set : (k n place : ℕ) (cs : List Class) (c : Class) → has_number n (get_or cs place c).attrs ≡ has_number n c.attrs → places_from k n (set cs place c) ≡ places_from k n cs
places_set k n place [] c h = refl
places_set k n zero (x ∷ xs) c h = ap (λ b. cond b (k ∷ places_from (k + 1) n xs) (places_from (k + 1) n xs)) (sym h)
places_set k n (suc place) (x ∷ xs) c h = ap (λ ys. cond (has_number n x.attrs) (k ∷ ys) ys) (places_set (k + 1) n place xs c h)

pub places_arranged : (n : ℕ) (name : Sym) (place : ℕ) (cs : List Class) → places_with n (arranged_at name place cs) ≡ places_with n cs
places_arranged n name place cs = by (slice_get cs place) refl
  where
    by : (o : Option Class) → slice_get cs place ≡ o → places_with n (with_last_at name place o cs) ≡ places_with n cs
    by None at = refl
    by (Some c) at =
        places_set 0 n place cs (with_last name c)
        (ap (λ (d : Class). has_number n d.attrs) (get_or_from_slice_get cs place c (with_last name c) at) ∙ sym (has_arranged n (name ∷ []) c.attrs))

pub arranged_more : (name : Sym) (ks : List ℕ) (i d : ℕ) (start classes next : List Class) → i < length ks → arranged_at_all name (drop i ks) classes ≡ start → next ≡ arranged_at name (get_or ks i d) classes → arranged_at_all name (drop (i + 1) ks) next ≡ start
arranged_more name ks i d start classes next lt before now =
    ap (arranged_at_all name (drop (i + 1) ks)) now ∙ sym (at_drop_more (λ ms. arranged_at_all name ms classes) ks i d lt) ∙ before

all_arranged_from : (name : Sym) (front cs : List Class) → arranged_at_all name (places_from (length front) name.0 cs) (front ++ cs) ≡ front ++ map (with_vector_last name) cs
all_arranged_from name front [] = refl
all_arranged_from name front (c ∷ cs) = by (λ d. all_arranged_from name (front ++ d ∷ []) cs) (is_one_of name c.attrs)
  where
    Rest : Class → Type 0
    Rest d = arranged_at_all name (places_from (length (front ++ d ∷ [])) name.0 cs) ((front ++ d ∷ []) ++ cs) ≡ (front ++ d ∷ []) ++ map (with_vector_last name) cs

    step : (d : Class) → Rest d → arranged_at_all name (places_from (length front + 1) name.0 cs) (front ++ d ∷ cs) ≡ front ++ d ∷ map (with_vector_last name) cs
    step d rest =
        ap (λ k. arranged_at_all name (places_from k name.0 cs) (front ++ d ∷ cs)) (sym (length_push front d))
        ∙ ap (arranged_at_all name (places_from (length (front ++ d ∷ [])) name.0 cs)) (sym (append_assoc front (d ∷ []) cs))
        ∙ rest ∙ append_assoc front (d ∷ []) (map (with_vector_last name) cs)

    here : arranged_at name (length front) (front ++ c ∷ cs) ≡ front ++ with_last name c ∷ cs
    here = ap (λ o. with_last_at name (length front) o (front ++ c ∷ cs)) (slice_get_end front c cs) ∙ set-append_seam front c cs (with_last name c)

    by : ((d : Class) → Rest d) → (b : Bool) → arranged_at_all name (cond b (length front ∷ places_from (length front + 1) name.0 cs) (places_from (length front + 1) name.0 cs)) (front ++ c ∷ cs) ≡ front ++ cond b (with_last name c) c ∷ map (with_vector_last name) cs
    by rest true = ap (arranged_at_all name (places_from (length front + 1) name.0 cs)) here ∙ step (with_last name c) (rest (with_last name c))
    by rest false = step c (rest c)

pub all_arranged : (name : Sym) (cs : List Class) → arranged_at_all name (places_with name.0 cs) cs ≡ map (with_vector_last name) cs
all_arranged name cs = all_arranged_from name [] cs

-- ---- a second one

second_from : (name : Sym) (front cs : List Class) → list_any (is_vector_at (front ++ cs)) (places_from (length front) name.0 cs) ≡ makes_second name cs
second_from name front [] = refl
second_from name front (c ∷ cs) = by (step (second_from name (front ++ c ∷ []) cs)) (is_one_of name c.attrs) c.vector refl
  where
    Rest : Type 0
    Rest = list_any (is_vector_at (front ++ c ∷ cs)) (places_from (length front + 1) name.0 cs) ≡ makes_second name cs

    step : list_any (is_vector_at ((front ++ c ∷ []) ++ cs)) (places_from (length (front ++ c ∷ [])) name.0 cs) ≡ makes_second name cs → Rest
    step rest =
        ap (λ k. list_any (is_vector_at (front ++ c ∷ cs)) (places_from k name.0 cs)) (sym (length_push front c))
        ∙ ap (λ ds. list_any (is_vector_at ds) (places_from (length (front ++ c ∷ [])) name.0 cs)) (sym (append_assoc front (c ∷ []) cs))
        ∙ rest

    here : is_vector_at (front ++ c ∷ cs) (length front) ≡ c.vector
    here = rw (slice_get_end front c cs) refl

    by : Rest → (b v : Bool) → c.vector ≡ v → list_any (is_vector_at (front ++ c ∷ cs)) (cond b (length front ∷ places_from (length front + 1) name.0 cs) (places_from (length front + 1) name.0 cs)) ≡ (v && b || makes_second name cs)
    by rest true true e = rw (here, e) refl
    by rest true false e = rw (here, e) rest
    by rest false true e = rest
    by rest false false e = rest

pub second_noted : (name : Sym) (cs : List Class) → list_any (is_vector_at cs) (places_with name.0 cs) ≡ makes_second name cs
second_noted name cs = second_from name [] cs
