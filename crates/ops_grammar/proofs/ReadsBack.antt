-- What is spelled is read back.
use Rattle.std.proofs.Common.{◌≡◌, ℕ, zero, suc, ◌-◌, ◌<◌, ◌≤◌, Bool, true, false, not, ◌&&◌, ◌||◌, ◌==◌, List, [], ◌∷◌, ◌++◌, length, take, map, refl, sym, ap, subst, ◌∙◌, arith, nat_lt, nat_le, unwrap_or, slice_get, length-append, append-nil, append_assoc}
use Rattle.std.specs.Prelude.{filter, if◌then◌else◌}
use Rattle.std.specs.List.{list_all, list_any}
use Rattle.std.proofs.lemmas.Bool.{and_parts, and_from, and_right, or_parts, or_from, or_left, lt-ltb, ltb-true, leb-true, not-true}
use Rattle.std.proofs.lemmas.List.Folds.{list_any-append}
use Rattle.ops_base.specs.declared.values.Sym.{Sym}
use Rattle.ops_base.specs.declared.elements.Class.{Class}
use Rattle.ops_base.specs.Valid.{most_fields, is_in, are_distinct, class_is_valid}
use Rattle.ops_grammar.specs.declared.words.Word.{Word}
use Rattle.ops_grammar.specs.declared.words.Keyword.TheVariants as keyword
use Rattle.ops_grammar.specs.Grammar.{Wanted, Forms, Attributes, State, Next, is_one_of, may_declare, is_class, arranged, has_vector, with_class, is_second, step, after, goes}
use Rattle.ops_grammar.specs.Spelling.{unnamed, opening, closing, spelled_keyword, spelled_name, spelled_class, attribute_name, last_field, scalars_of}
use Rattle.ops_grammar.proofs.Lists.{turned}

-- a word that is taken leads on
pub by_word : (w : Word) (words : List Word) (ws ws' : List Wanted) (s s' : State) → step w ws s ≡ Next ws' s' → goes (w ∷ words) ws s ≡ goes words ws' s'
unfolding goes
by_word w words ws ws' s s' e = ap (after (goes words) w) e

-- ---- names that are distinct

apart_at : {X : Type 0} (f : X → ℕ) (xs : List X) (x : X) (ys : List X) (n : ℕ) → is_in n (map f (xs ++ x ∷ ys)) ≡ false → (f x == n) ≡ false
apart_at f [] x ys n h = (or_parts (f x == n) (is_in n (map f ys)) h).0
apart_at f (y ∷ xs) x ys n h = apart_at f xs x ys n (or_parts (f y == n) (is_in n (map f (xs ++ x ∷ ys))) h).1

-- a name that stands after others is none of them
pub apart_before : {X : Type 0} (f : X → ℕ) (xs : List X) (x : X) (ys : List X) → are_distinct (map f (xs ++ x ∷ ys)) ≡ true → list_any (λ y. f y == f x) xs ≡ false
apart_before f [] x ys h = refl
apart_before f (y ∷ xs) x ys h =
    let each = and_parts (not (is_in (f y) (map f (xs ++ x ∷ ys)))) (are_distinct (map f (xs ++ x ∷ ys))) h in
    or_from _ _ (turned (f x) (f y) (apart_at f xs x ys (f y) (not-true _ each.0))) (apart_before f xs x ys each.1)

-- ---- vector attributes

-- a `vector-attribute` before the classes, of a name that stood already or of a new one
pub vector-read : (b : Bool) (name : Sym) (more : List Word) (ws : List Wanted) (s : State) → may_declare s ≡ true → is_one_of name s.vectors ≡ b
    → goes (opening ∷ spelled_keyword keyword.VectorAttribute ∷ spelled_name name ∷ closing ∷ more) (Forms ∷ ws) (record s { classes = [] })
    ≡ goes more (Forms ∷ ws) (record s { classes = []; first = 0; vectors = if b then s.vectors else s.vectors ++ name ∷ [] })
unfolding goes step
vector-read true name more ws s may there = rw may (rw there refl)
vector-read false name more ws s may new = rw may (rw new refl)

-- none of these is the name of a vector attribute
abbrev pub are_scalars : List Sym → List Sym → Bool
are_scalars vectors attrs = list_all (λ a. not (is_one_of a vectors)) attrs

abbrev are_vectors : List Sym → List Sym → Bool
are_vectors vectors attrs = list_all (λ a. is_one_of a vectors) attrs

-- each of the attributes stands after scalar ones
abbrev Single : List Sym → List Sym → List Sym → Type 0
Single vectors before [] = Unit {0}
Single vectors before (a ∷ attrs) = (has_vector vectors before ≡ false) × Single vectors (before ++ a ∷ []) attrs

module _ (vectors : List Sym) where
  scalars_first : (attrs last : List Sym) → are_scalars vectors attrs ≡ true → are_vectors vectors last ≡ true → filter (λ a. not (is_one_of a vectors)) (attrs ++ last) ≡ attrs
  scalars_first [] [] h there = refl
  scalars_first [] (a ∷ last) h there =
      let each = and_parts (is_one_of a vectors) (are_vectors vectors last) there in rw each.0 (scalars_first [] last h each.1)
  scalars_first (a ∷ attrs) last h there =
      let each = and_parts (not (is_one_of a vectors)) (are_scalars vectors attrs) h in
      rw (not-true _ each.0) (ap (λ (xs : List Sym). a ∷ xs) (scalars_first attrs last each.1 there))

  vectors_behind : (attrs last : List Sym) → are_scalars vectors attrs ≡ true → are_vectors vectors last ≡ true → filter (λ a. is_one_of a vectors) (attrs ++ last) ≡ last
  vectors_behind [] [] h there = refl
  vectors_behind [] (a ∷ last) h there =
      let each = and_parts (is_one_of a vectors) (are_vectors vectors last) there in
      rw each.0 (ap (λ (xs : List Sym). a ∷ xs) (vectors_behind [] last h each.1))
  vectors_behind (a ∷ attrs) last h there =
      let each = and_parts (not (is_one_of a vectors)) (are_scalars vectors attrs) h in rw (not-true _ each.0) (vectors_behind attrs last each.1 there)

  arranged_already : (attrs last : List Sym) → are_scalars vectors attrs ≡ true → are_vectors vectors last ≡ true → arranged vectors (attrs ++ last) ≡ attrs ++ last
  arranged_already attrs last h there =
      ap (λ (xs : List Sym). xs ++ filter (λ a. is_one_of a vectors) (attrs ++ last)) (scalars_first attrs last h there)
      ∙ ap (λ (xs : List Sym). attrs ++ xs) (vectors_behind attrs last h there)

  has_by_last : (attrs last : List Sym) → are_scalars vectors attrs ≡ true → has_vector vectors (attrs ++ last) ≡ has_vector vectors last
  has_by_last [] last h = refl
  has_by_last (a ∷ attrs) last h =
      let each = and_parts (not (is_one_of a vectors)) (are_scalars vectors attrs) h in rw (not-true _ each.0) (has_by_last attrs last each.1)

  single_by_last : (attrs last before : List Sym) → are_scalars vectors attrs ≡ true → has_vector vectors before ≡ false → ((front : List Sym) → has_vector vectors front ≡ false → Single vectors front last) → Single vectors before (attrs ++ last)
  single_by_last [] last before h none single = single before none
  single_by_last (a ∷ attrs) last before h none single =
      let each = and_parts (not (is_one_of a vectors)) (are_scalars vectors attrs) h in
      let next : has_vector vectors (before ++ a ∷ []) ≡ false = list_any-append (λ a. is_one_of a vectors) before (a ∷ []) ∙ or_from _ _ none (or_from _ _ (not-true _ each.0) refl) in
      (none, single_by_last attrs last (before ++ a ∷ []) each.1 next single)

-- the last of some names stands after the others
last_split : (attrs : List Sym) (n : ℕ) → length attrs ≡ suc n → take n attrs ++ unwrap_or (slice_get attrs n) unnamed ∷ [] ≡ attrs
last_split [] n e = absurd (omega arith)
last_split (a ∷ []) zero e = refl
last_split (a ∷ b ∷ attrs) zero e = absurd (omega arith)
last_split (a ∷ attrs) (suc n) e = ap (λ (xs : List Sym). a ∷ xs) (last_split attrs n (omega arith))

-- attributes that stand as a class has them, the vector attribute last
record Stand (vectors attrs : List Sym) (vector : Bool) : Type 0 where
  pub arranged_so : arranged vectors attrs ≡ attrs
  pub has : has_vector vectors attrs ≡ vector
  pub single : Single vectors [] attrs

-- ---- classes

-- what is valid of a class
pub class_parts : (c : Class) → class_is_valid c ≡ true → (length c.attrs ≤ most_fields) × (are_distinct (map (λ a. a.0) c.attrs) ≡ true) × (c.vector ≡ true → 0 < length c.attrs)
class_parts c valid =
    let p1 = and_parts (nat_le (length c.attrs) most_fields && are_distinct (map (λ a. a.0) c.attrs)) (not c.vector || nat_lt 0 (length c.attrs)) valid in
    let p2 = and_parts (nat_le (length c.attrs) most_fields) (are_distinct (map (λ a. a.0) c.attrs)) p1.0 in
    (leb-true _ _ p2.0, p2.1, λ is. ltb-true _ _ (sym (ap (λ (b : Bool). not b || nat_lt 0 (length c.attrs)) is) ∙ p1.1))

-- Where these are vector attributes, the class has none of them but as its last attribute, and has that where it has one.
pub record IsUnder (vectors : List Sym) (c : Class) : Type 0 where
  pub scalars : are_scalars vectors (scalars_of c) ≡ true
  pub last : c.vector ≡ true → is_one_of (attribute_name c (last_field c)) vectors ≡ true

stand : (vectors : List Sym) (v : Bool) (name : Sym) (attrs : List Sym) → IsUnder vectors (record { name = name; attrs = attrs; vector = v }) → (v ≡ true → 0 < length attrs) → Stand vectors attrs v
stand vectors true name attrs under some =
    let n = length attrs - 1 in
    let lt : 0 < length attrs = some refl in
    let last : List Sym = unwrap_or (slice_get attrs n) unnamed ∷ [] in
    let whole : take n attrs ++ last ≡ attrs = last_split attrs n (omega (arith, lt)) in
    let there : is_one_of (unwrap_or (slice_get attrs n) unnamed) vectors ≡ true = under.last refl in
    let is : are_vectors vectors last ≡ true = and_from _ _ there refl in
    subst (λ (xs : List Sym). Stand vectors xs true) whole (
    record {
      arranged_so = arranged_already vectors (take n attrs) last under.scalars is;
      has = has_by_last vectors (take n attrs) last under.scalars ∙ or_left _ _ there;
      single = single_by_last vectors (take n attrs) last [] under.scalars refl (λ _ none. (none, tt));
    }
    )
stand vectors false name attrs under some =
    subst (λ (xs : List Sym). Stand vectors xs false) (append-nil attrs) (
    record {
      arranged_so = arranged_already vectors attrs [] under.scalars refl;
      has = has_by_last vectors attrs [] under.scalars;
      single = single_by_last vectors attrs [] [] under.scalars refl (λ _ _. tt);
    }
    )

attribute_taken : (a : Sym) (ws : List Wanted) (s : State) → is_one_of a s.attrs ≡ false → length s.attrs < most_fields → has_vector s.vectors s.attrs ≡ false
    → step (spelled_name a) (Attributes ∷ ws) s ≡ Next (Attributes ∷ ws) (record s { attrs = s.attrs ++ a ∷ [] })
unfolding step
attribute_taken a ws s new few none =
    let first : is_second a s ≡ false = and_right (is_one_of a s.vectors) (has_vector s.vectors s.attrs) none in rw new (rw first (rw (lt-ltb _ _ few) refl))

attributes_read : (attrs : List Sym) (more : List Word) (ws : List Wanted) (s : State) → are_distinct (map (λ a. a.0) (s.attrs ++ attrs)) ≡ true → length (s.attrs ++ attrs) ≤ most_fields → Single s.vectors s.attrs attrs
    → goes (map spelled_name attrs ++ more) (Attributes ∷ ws) s ≡ goes more (Attributes ∷ ws) (record s { attrs = s.attrs ++ attrs })
attributes_read [] more ws s distinct few single = ap (λ (xs : List Sym). goes more (Attributes ∷ ws) (record s { attrs = xs })) (sym (append-nil s.attrs))
attributes_read (a ∷ attrs) more ws s distinct few single =
    let next : State = record s { attrs = s.attrs ++ a ∷ [] } in
    let all : s.attrs ++ a ∷ [] ++ attrs ≡ s.attrs ++ a ∷ attrs = append_assoc s.attrs (a ∷ []) attrs in
    by_word (spelled_name a) (map spelled_name attrs ++ more) (Attributes ∷ ws) (Attributes ∷ ws) s next
    (attribute_taken a ws s (apart_before (λ a. a.0) s.attrs a attrs distinct) (omega (arith, length-append s.attrs (a ∷ attrs))) single.0)
    ∙ attributes_read attrs more ws next (subst (λ (xs : List Sym). are_distinct (map (λ a. a.0) xs) ≡ true) (sym all) distinct) (subst (λ (xs : List Sym). length xs ≤ most_fields) (sym all) few) single.1
    ∙ ap (λ (xs : List Sym). goes more (Attributes ∷ ws) (record s { attrs = xs })) all

-- the state with a class more
abbrev pub with_declared : State → Class → State
with_declared s c = record s { first = 0; name = c.name; attrs = []; classes = s.classes ++ c ∷ [] }

begun : (c : Class) (words : List Word) (ws : List Wanted) (s : State) → may_declare s ≡ true → is_class s c.name ≡ false
    → goes (opening ∷ spelled_keyword keyword.Literalize ∷ spelled_name c.name ∷ words) (Forms ∷ ws) s ≡ goes words (Attributes ∷ Forms ∷ ws) (record s { first = 0; name = c.name; attrs = [] })
unfolding goes step
begun c words ws s may new = rw may (rw new refl)

closed : (words : List Word) (ws : List Wanted) (s : State) → goes (closing ∷ words) (Attributes ∷ ws) s ≡ goes words ws (with_class s)
unfolding goes step
closed words ws s = refl

-- A class that may be declared here is read back.
pub class-read : (c : Class) (more : List Word) (ws : List Wanted) (s : State) → may_declare s ≡ true → is_class s c.name ≡ false → class_is_valid c ≡ true → IsUnder s.vectors c
    → goes (spelled_class c ++ more) (Forms ∷ ws) s ≡ goes more (Forms ∷ ws) (with_declared s c)
class-read c more ws s may new valid under =
    let parts = class_parts c valid in
    let so : Stand s.vectors c.attrs c.vector = stand s.vectors c.vector c.name c.attrs under parts.2 in
    let open_state : State = record s { first = 0; name = c.name; attrs = [] } in
    begun c (map spelled_name c.attrs ++ closing ∷ [] ++ more) ws s may new
    ∙ ap (λ (x : List Word). goes x (Attributes ∷ Forms ∷ ws) open_state) (append_assoc (map spelled_name c.attrs) (closing ∷ []) more)
    ∙ attributes_read c.attrs (closing ∷ more) (Forms ∷ ws) open_state parts.1 parts.0 so.single
    ∙ closed more (Forms ∷ ws) (record open_state { attrs = c.attrs })
    ∙ ap (λ (xs : List Sym). goes more (Forms ∷ ws) (record s { first = 0; name = c.name; attrs = []; classes = s.classes ++ record { name = c.name; attrs = xs; vector = has_vector s.vectors c.attrs } ∷ [] })) so.arranged_so
    ∙ ap (λ (v : Bool). goes more (Forms ∷ ws) (record s { first = 0; name = c.name; attrs = []; classes = s.classes ++ record { name = c.name; attrs = c.attrs; vector = v } ∷ [] })) so.has
