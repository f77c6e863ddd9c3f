-- The classes that were read have a spelling: none has two vector attributes, and the vector attribute of each stands last.
use Rattle.std.proofs.Common.{◌≡◌, ℕ, zero, suc, ◌+◌, ◌-◌, ◌<◌, ◌≤◌, Bool, true, false, not, ◌&&◌, ◌||◌, ◌==◌, cond, List, [], ◌∷◌, ◌++◌, length, take, map, refl, sym, ap, ◌∙◌, arith, unwrap_or, slice_get, length-append, true≢false}
use Rattle.std.specs.Prelude.{filter}
use Rattle.std.specs.List.{list_all, list_any, All}
use Rattle.std.proofs.Math.Seq.{take-append_seam, get_or-append_seam}
use Rattle.std.proofs.lemmas.Bool.{and_from, and_parts, or_parts, or_from, or_right, or_left, not_from_false, eqb-true, ne_eqb, eq-eqb, eqb-false, false_from_ne_true, cond_both, cond-false}
use Rattle.std.proofs.lemmas.List.Elements.{All-nil, All-cons, All-head, All-tail, filter-append}
use Rattle.std.proofs.lemmas.List.Filters.{length-filter_both}
use Rattle.std.proofs.lemmas.List.Folds.{list_any-append}
use Rattle.std.proofs.lemmas.Option.{unwrap_or-slice_get}
use Rattle.ops_base.specs.declared.values.Sym.{Sym}
use Rattle.ops_base.specs.declared.elements.Class.{Class}
use Rattle.ops_base.specs.Valid.{most_fields}
use Rattle.ops_grammar.specs.Grammar.{is_one_of, arranged, has_vector, with_vector_last, makes_second}
use Rattle.ops_grammar.specs.Spelling.{unnamed, attribute_name, last_field, vectors_of, scalars_of}

-- ---- what a filter keeps

counted : {X : Type 0} (b : Bool) (x : X) (xs : List X) → length (cond b (x ∷ xs) xs) ≡ length xs + cond b 1 0
counted true x xs = omega arith
counted false x xs = omega arith

parted_by : {X : Type 0} (q : X → Bool) (b : Bool) (x : X) (ys zs ws : List X) → length (filter q ys) + length (filter q zs) ≡ length (filter q ws)
    → length (filter q (cond (not b) (x ∷ ys) ys)) + length (filter q (cond b (x ∷ zs) zs)) ≡ length (filter q (x ∷ ws))
parted_by q true x ys zs ws h = let more = counted (q x) x (filter q zs) in let all = counted (q x) x (filter q ws) in omega (arith, more, all, h)
parted_by q false x ys zs ws h = let more = counted (q x) x (filter q ys) in let all = counted (q x) x (filter q ws) in omega (arith, more, all, h)

-- the test passes as often in the two parts
parted : {X : Type 0} (p q : X → Bool) (xs : List X) → length (filter q (filter (λ x. not (p x)) xs)) + length (filter q (filter p xs)) ≡ length (filter q xs)
parted p q [] = refl
parted p q (x ∷ xs) = parted_by q (p x) x (filter (λ x. not (p x)) xs) (filter p xs) xs (parted p q xs)

none_by : {X : Type 0} (p : X → Bool) (b : Bool) (x : X) (ys : List X) → p x ≡ b → list_any p ys ≡ false → list_any p (cond (not b) (x ∷ ys) ys) ≡ false
none_by p true x ys e h = h
none_by p false x ys e h = or_from _ _ e h

none_left : {X : Type 0} (p : X → Bool) (xs : List X) → list_any p (filter (λ x. not (p x)) xs) ≡ false
none_left p [] = refl
none_left p (x ∷ xs) = none_by p (p x) x (filter (λ x. not (p x)) xs) refl (none_left p xs)

fewer_by : {X : Type 0} (q : X → Bool) (b : Bool) (x : X) (ys : List X) → q x ≡ false → list_any q ys ≡ false → list_any q (cond b (x ∷ ys) ys) ≡ false
fewer_by q true x ys e h = or_from _ _ e h
fewer_by q false x ys e h = h

-- a test that nothing passes is passed by nothing that a filter keeps
none_kept : {X : Type 0} (p q : X → Bool) (xs : List X) → list_any q xs ≡ false → list_any q (filter p xs) ≡ false
none_kept p q [] h = refl
none_kept p q (x ∷ xs) h = let parts = or_parts (q x) (list_any q xs) h in fewer_by q (p x) x (filter p xs) parts.0 (none_kept p q xs parts.1)

none_taken : {X : Type 0} (q : X → Bool) (n : ℕ) (xs : List X) → list_any q xs ≡ false → list_any q (take n xs) ≡ false
none_taken q zero xs h = refl
none_taken q (suc n) [] h = refl
none_taken q (suc n) (x ∷ xs) h = let parts = or_parts (q x) (list_any q xs) h in or_from _ _ parts.0 (none_taken q n xs parts.1)

-- the list has a first element, and that passes the test
record HasFirst {X : Type 0} (p : X → Bool) (xs : List X) : Type 0 where
  first : X
  rest : List X
  is : xs ≡ first ∷ rest
  passes : p first ≡ true

some_by : {X : Type 0} (p : X → Bool) (b : Bool) (x : X) (xs : List X) → p x ≡ b → (b || list_any p xs) ≡ true → (list_any p xs ≡ true → HasFirst p (filter p xs)) → HasFirst p (cond b (x ∷ filter p xs) (filter p xs))
some_by p true x xs e h ih = record { first = x; rest = filter p xs; is = refl; passes = e }
some_by p false x xs e h ih = ih h

some_kept : {X : Type 0} (p : X → Bool) (xs : List X) → list_any p xs ≡ true → HasFirst p (filter p xs)
some_kept p [] h = absurd (true≢false (sym h))
some_kept p (x ∷ xs) h = some_by p (p x) x xs refl h (some_kept p xs)

only : {X : Type 0} (xs : List X) (x : X) (rest : List X) → xs ≡ x ∷ rest → length xs ≤ 1 → xs ≡ x ∷ []
only xs x [] e few = e
only xs x (y ∷ ys) e few = let long = ap length e in absurd (omega (arith, long, few))

-- what nothing passes keeps nothing
nothing_kept : {X : Type 0} (p : X → Bool) (xs : List X) → list_any p xs ≡ false → length (filter p xs) ≡ 0
nothing_kept p [] h = refl
nothing_kept p (x ∷ xs) h =
    let parts = or_parts (p x) (list_any p xs) h in ap length (cond-false (p x) (x ∷ filter p xs) (filter p xs) parts.0) ∙ nothing_kept p xs parts.1

-- ---- names

same_by : (b : Bool) (m n : ℕ) → (n == m) ≡ b → ((m == n) || false) ≡ b
same_by true m n e = or_left _ _ (eq-eqb m n (sym (eqb-true n m e)))
same_by false m n e = or_from _ _ (ne_eqb m n (λ same. eqb-false n m e (sym same))) refl

-- to be one of one name
same_name : (name : Sym) → (let p : Sym → Bool = λ a. is_one_of a (name ∷ []) in let q : Sym → Bool = λ a. a.0 == name.0 in p ≡ q)
same_name name = λ i a. same_by (a.0 == name.0) name.0 a.0 refl i

-- an attribute that has none of these names and none of those has none of both
apart_both : (vs ws attrs : List Sym) → has_vector vs attrs ≡ false → has_vector ws attrs ≡ false → has_vector (vs ++ ws) attrs ≡ false
apart_both vs ws [] h e = refl
apart_both vs ws (a ∷ attrs) h e =
    let left = or_parts (is_one_of a vs) (has_vector vs attrs) h in
    let right = or_parts (is_one_of a ws) (has_vector ws attrs) e in
    or_from _ _ (list_any-append (λ n. n.0 == a.0) vs ws ∙ or_from _ _ left.0 right.0) (apart_both vs ws attrs left.1 right.1)

-- what is none of some names is none of those among them
none_among : (vectors names : List Sym) (a : Sym) → is_one_of a vectors ≡ false → list_all (λ v. is_one_of v vectors) names ≡ true → is_one_of a names ≡ false
none_among vectors [] a h e = refl
none_among vectors (n ∷ names) a h e =
    let parts = and_parts (is_one_of n vectors) (list_all (λ v. is_one_of v vectors) names) e in
    or_from _ _
    (false_from_ne_true (n.0 == a.0) (λ same. true≢false (sym parts.0 ∙ ap (λ (k : ℕ). list_any (λ (m : Sym). m.0 == k) vectors) (eqb-true n.0 a.0 same) ∙ h)))
    (none_among vectors names a h parts.1)

-- ---- a class

-- how often the attribute of this name stands there
abbrev times : ℕ → List Sym → ℕ
times n attrs = length (filter (λ a. a.0 == n) attrs)

-- where these are the names of vector attributes, the class has one of them at most, and that stands last
pub record IsArranged (vectors : List Sym) (c : Class) : Type 0 where
  pub scalars : has_vector vectors (scalars_of c) ≡ false
  pub last : c.vector ≡ true → is_one_of (attribute_name c (last_field c)) vectors ≡ true
  pub once : (n : ℕ) → times n c.attrs ≤ 1
  pub few : length c.attrs ≤ most_fields

-- The attributes of the class that is read: each stands once, and one of them is a vector attribute at most.
pub record IsAttributes (vectors attrs : List Sym) : Type 0 where
  pub one : length (filter (λ a. is_one_of a vectors) attrs) ≤ 1
  pub once : (n : ℕ) → times n attrs ≤ 1
  pub few : length attrs ≤ most_fields

length_arranged : (vectors attrs : List Sym) → length (arranged vectors attrs) ≡ length attrs
length_arranged vectors attrs =
    let p : Sym → Bool = λ a. is_one_of a vectors in
    let q : Sym → Bool = λ a. not (is_one_of a vectors) in
    let both = length-filter_both p q (λ a. refl) attrs in
    let more = length-append (filter q attrs) (filter p attrs) in
    omega (arith, both, more)

times_arranged : (vectors attrs : List Sym) (n : ℕ) → times n (arranged vectors attrs) ≡ times n attrs
times_arranged vectors attrs n =
    let p : Sym → Bool = λ a. is_one_of a vectors in
    let q : Sym → Bool = λ a. not (is_one_of a vectors) in
    let r : Sym → Bool = λ a. a.0 == n in
    ap length (filter-append r (filter q attrs) (filter p attrs)) ∙ length-append (filter r (filter q attrs)) (filter r (filter p attrs)) ∙ parted p r attrs

scalars_apart : (c : Class) (vectors : List Sym) → has_vector vectors c.attrs ≡ false → has_vector vectors (scalars_of c) ≡ false
scalars_apart c vectors h = cond_both c.vector _ _ (λ attrs. has_vector vectors attrs ≡ false) (λ _. none_taken (λ a. is_one_of a vectors) (last_field c) c.attrs h) (λ _. h)

-- the last attribute stands alone
last_apart : (vectors : List Sym) (name : Sym) (front : List Sym) (x : Sym) (attrs : List Sym) → attrs ≡ front ++ x ∷ [] → has_vector vectors front ≡ false → is_one_of x vectors ≡ true
    → (let c : Class = record { name = name; attrs = attrs; vector = true } in (has_vector vectors (scalars_of c) ≡ false) × (is_one_of (attribute_name c (last_field c)) vectors ≡ true))
last_apart vectors name front x attrs is apart among =
    let more = length-append front (x ∷ []) in
    let at : length attrs - 1 ≡ length front = rw is (omega (arith, more)) in (
      ap (λ (n : ℕ). has_vector vectors (take n attrs)) at ∙ ap (λ (xs : List Sym). has_vector vectors (take (length front) xs)) is ∙ ap (has_vector vectors) (take-append_seam front (x ∷ [])) ∙ apart,
      ap (λ (n : ℕ). is_one_of (unwrap_or (slice_get attrs n) unnamed) vectors) at
          ∙ ap (λ (xs : List Sym). is_one_of (unwrap_or (slice_get xs (length front)) unnamed) vectors) is
          ∙ ap (λ (a : Sym). is_one_of a vectors) (unwrap_or-slice_get (front ++ x ∷ []) (length front) unnamed ∙ get_or-append_seam front x [] unnamed)
          ∙ among,
    )

class_by : (vectors : List Sym) (name : Sym) (attrs : List Sym) (b : Bool) → has_vector vectors attrs ≡ b → IsAttributes vectors attrs → IsArranged vectors (record { name = name; attrs = arranged vectors attrs; vector = b })
class_by vectors name attrs true e h =
    let p : Sym → Bool = λ a. is_one_of a vectors in
    let q : Sym → Bool = λ a. not (is_one_of a vectors) in
    let kept = some_kept p attrs e in
    let alone = only (filter p attrs) kept.first kept.rest kept.is h.one in
    let parts = last_apart vectors name (filter q attrs) kept.first (arranged vectors attrs) (ap (λ (xs : List Sym). filter q attrs ++ xs) alone) (none_left p attrs) kept.passes in
    let same = length_arranged vectors attrs in
    let few = h.few in
    record {
      scalars = parts.0;
      last = λ _. parts.1;
      once = λ n. let same = times_arranged vectors attrs n in let one = h.once n in omega (arith, same, one);
      few = omega (arith, same, few);
    }
class_by vectors name attrs false e h =
    let p : Sym → Bool = λ a. is_one_of a vectors in
    let q : Sym → Bool = λ a. not (is_one_of a vectors) in
    let same = length_arranged vectors attrs in
    let few = h.few in
    record {
      scalars = list_any-append p (filter q attrs) (filter p attrs) ∙ or_from _ _ (none_left p attrs) (none_kept p p attrs e);
      last = λ is. absurd (true≢false (sym is));
      once = λ n. let same = times_arranged vectors attrs n in let one = h.once n in omega (arith, same, one);
      few = omega (arith, same, few);
    }

-- a class that ends
pub class_arranged : (vectors : List Sym) (name : Sym) (attrs : List Sym) → IsAttributes vectors attrs → IsArranged vectors (record { name = name; attrs = arranged vectors attrs; vector = has_vector vectors attrs })
class_arranged vectors name attrs h = class_by vectors name attrs (has_vector vectors attrs) refl h

-- ---- a name becomes one of a vector attribute

named_by : (vectors : List Sym) (name : Sym) (c : Class) (b : Bool) → is_one_of name c.attrs ≡ b → IsArranged vectors c → (c.vector && b) ≡ false
    → IsArranged (vectors ++ name ∷ []) (cond b (record c { attrs = arranged (name ∷ []) c.attrs; vector = true }) c)
named_by vectors name c true e h second =
    let p : Sym → Bool = λ a. is_one_of a (name ∷ []) in
    let q : Sym → Bool = λ a. not (is_one_of a (name ∷ [])) in
    let kept = some_kept p c.attrs (ap (λ (r : Sym → Bool). list_any r c.attrs) (same_name name) ∙ e) in
    let times : length (filter p c.attrs) ≡ length (filter (λ a. a.0 == name.0) c.attrs) = ap (λ (r : Sym → Bool). length (filter r c.attrs)) (same_name name) in
    let once = h.once name.0 in
    let alone = only (filter p c.attrs) kept.first kept.rest kept.is (omega (arith, times, once)) in
    let scalar : c.vector ≡ false = false_from_ne_true c.vector (λ is. true≢false (sym (and_from _ _ is refl) ∙ second)) in
    let old : has_vector vectors c.attrs ≡ false = sym (ap (has_vector vectors) (cond-false c.vector (take (last_field c) c.attrs) c.attrs scalar)) ∙ h.scalars in
    let apart = apart_both vectors (name ∷ []) (filter q c.attrs) (none_kept q (λ a. is_one_of a vectors) c.attrs old) (none_left p c.attrs) in
    let among = list_any-append (λ (n : Sym). n.0 == kept.first.0) vectors (name ∷ []) ∙ or_right _ _ kept.passes in
    let parts = last_apart (vectors ++ name ∷ []) c.name (filter q c.attrs) kept.first (arranged (name ∷ []) c.attrs) (ap (λ (xs : List Sym). filter q c.attrs ++ xs) alone) apart among in
    let same = length_arranged (name ∷ []) c.attrs in
    let few = h.few in
    record {
      scalars = parts.0;
      last = λ _. parts.1;
      once = λ n. let same = times_arranged (name ∷ []) c.attrs n in let one = h.once n in omega (arith, same, one);
      few = omega (arith, same, few);
    }
named_by vectors name c false e h second =
    record {
      scalars = apart_both vectors (name ∷ []) (scalars_of c) h.scalars (scalars_apart c (name ∷ []) (ap (λ (r : Sym → Bool). list_any r c.attrs) (same_name name) ∙ e));
      last = λ is. list_any-append (λ (n : Sym). n.0 == (attribute_name c (last_field c)).0) vectors (name ∷ []) ∙ or_left _ _ (h.last is);
      once = h.once;
      few = h.few;
    }

pub classes_arranged : (vectors : List Sym) (name : Sym) (cs : List Class) → All (IsArranged vectors) cs → makes_second name cs ≡ false → All (IsArranged (vectors ++ name ∷ [])) (map (with_vector_last name) cs)
classes_arranged vectors name [] h second = All-nil _
classes_arranged vectors name (c ∷ cs) h second =
    let parts = or_parts (c.vector && is_one_of name c.attrs) (makes_second name cs) second in
    All-cons (IsArranged (vectors ++ name ∷ [])) (with_vector_last name c) (map (with_vector_last name) cs)
    (named_by vectors name c (is_one_of name c.attrs) refl (All-head (IsArranged vectors) c cs h) parts.0)
    (classes_arranged vectors name cs (All-tail (IsArranged vectors) c cs h) parts.1)

-- ---- the attributes of the class that is read

pub attributes_begun : (vectors : List Sym) → IsAttributes vectors []
attributes_begun vectors = record { one = omega arith; once = λ n. omega arith; few = omega arith }

-- a filter keeps one more at most
kept_push : {X : Type 0} (p : X → Bool) (xs : List X) (x : X) → length (filter p (xs ++ x ∷ [])) ≡ length (filter p xs) + cond (p x) 1 0
kept_push p xs x =
    let more = length-append (filter p xs) (filter p (x ∷ [])) in
    let one = counted (p x) x [] in
    ap length (filter-append p xs (x ∷ [])) ∙ omega (arith, more, one)

kept_one : {X : Type 0} (p : X → Bool) (xs : List X) (x : X) (b : Bool) → p x ≡ b → (b && list_any p xs) ≡ false → length (filter p xs) ≤ 1 → length (filter p (xs ++ x ∷ [])) ≤ 1
kept_one p xs x true e none one =
    let more : length (filter p (xs ++ x ∷ [])) ≡ length (filter p xs) + 1 = kept_push p xs x ∙ ap (λ (b : Bool). length (filter p xs) + cond b 1 0) e in
    let empty : length (filter p xs) ≡ 0 = nothing_kept p xs none in omega (arith, more, empty)
kept_one p xs x false e none one =
    let more : length (filter p (xs ++ x ∷ [])) ≡ length (filter p xs) + 0 = kept_push p xs x ∙ ap (λ (b : Bool). length (filter p xs) + cond b 1 0) e in omega (arith, more, one)

once_by : (attrs : List Sym) (a : Sym) (n : ℕ) (b : Bool) → (a.0 == n) ≡ b → is_one_of a attrs ≡ false → (b && list_any (λ c. c.0 == n) attrs) ≡ false
once_by attrs a n true e h = ap (λ (m : ℕ). list_any (λ (c : Sym). c.0 == m) attrs) (sym (eqb-true a.0 n e)) ∙ h
once_by attrs a n false e h = refl

pub attribute_pushed : (vectors attrs : List Sym) (a : Sym) → IsAttributes vectors attrs → is_one_of a attrs ≡ false → (is_one_of a vectors && has_vector vectors attrs) ≡ false → length attrs < most_fields → IsAttributes vectors (attrs ++ a ∷ [])
attribute_pushed vectors attrs a h new second room =
    let more = length-append attrs (a ∷ []) in
    record {
      one = kept_one (λ a. is_one_of a vectors) attrs a (is_one_of a vectors) refl second h.one;
      once = λ n. kept_one (λ b. b.0 == n) attrs a (a.0 == n) refl (once_by attrs a n (a.0 == n) refl new) (h.once n);
      few = omega (arith, more, room);
    }

-- ---- the names of the classes' vector attributes

pub vectors_among : (vectors : List Sym) (cs : List Class) → All (IsArranged vectors) cs → list_all (λ v. is_one_of v vectors) (vectors_of cs) ≡ true
vectors_among vectors [] h = refl
vectors_among vectors (c ∷ cs) h =
    let rest = vectors_among vectors cs (All-tail (IsArranged vectors) c cs h) in
    cond_both c.vector _ _ (λ names. list_all (λ v. is_one_of v vectors) names ≡ true) (λ is. and_from _ _ ((All-head (IsArranged vectors) c cs h).last is) rest) (λ _. rest)

-- where those are names of vector attributes too, no scalar attribute has one of them
pub scalars_among : (vectors names attrs : List Sym) → list_all (λ v. is_one_of v vectors) names ≡ true → has_vector vectors attrs ≡ false → list_all (λ a. not (is_one_of a names)) attrs ≡ true
scalars_among vectors names [] among h = refl
scalars_among vectors names (a ∷ attrs) among h =
    let parts = or_parts (is_one_of a vectors) (has_vector vectors attrs) h in
    and_from _ _ (not_from_false _ (none_among vectors names a parts.0 among)) (scalars_among vectors names attrs among parts.1)
