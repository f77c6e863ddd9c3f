-- The holes of a production that is built, by how many of its constants were read.
use Rattle.std.proofs.Common.{◌≡◌, ℕ, suc, ◌<◌, ◌≤◌, Bool, true, false, ◌==◌, cond, List, [], ◌∷◌, ◌++◌, refl, sym, ap, ◌∙◌, arith, Option, Some, None, nat_lt, nat_le, inl, inr, ◌⊎◌, append-nil}
use Rattle.std.specs.Prelude.{find, if◌then◌else◌}
use Rattle.std.proofs.lemmas.Bool.{and_parts, lt-ltb, ltb-true, leb-true, le-ltb, ne_eqb, eq-eqb, eqb-true, cond-true, cond-false, cases_order}
use Rattle.ops_base.specs.declared.values.Value.{Value}
use Rattle.ops_base.specs.declared.values.Value.TheVariants as value
use Rattle.ops_base.specs.declared.actions.Hole.{Hole}
use Rattle.ops_base.specs.Valid.{is_in}
use Rattle.ops_grammar.specs.declared.words.Keyword.{Keyword}
use Rattle.ops_grammar.specs.declared.words.Keyword.TheVariants as keyword
use Rattle.ops_grammar.specs.Grammar.{Outer, State, Step, number_of, values_around, filled, constant_by}
use Rattle.ops_grammar.specs.Spelling.{spelled_value, marked, spelled_constant, holes_are_plain}

-- ---- holes in order

-- those with numbers below this one, where they stand in order
abbrev pub upto : List Hole → ℕ → List Hole
upto [] n = []
upto (h ∷ hs) n = if nat_lt h.number n then h ∷ upto hs n else []

abbrev pub listed : Option Hole → List Hole
listed None = []
listed (Some h) = h ∷ []

pub upto_none : (hs : List Hole) → upto hs 0 ≡ []
upto_none [] = refl
upto_none (h ∷ hs) = cond-false (nat_lt h.number 0) (h ∷ upto hs 0) [] (le-ltb h.number 0 (omega arith))

-- what is plain of the first of them, and of the others
pub record IsFirst (sight : List ℕ) (lo m : ℕ) (h : Hole) (hs : List Hole) : Type 0 where
  pub from : lo ≤ h.number
  pub under : h.number < m
  pub seen : is_in h.variable sight ≡ true
  pub others : holes_are_plain sight (suc h.number) m hs ≡ true

pub first_of : (sight : List ℕ) (lo m : ℕ) (h : Hole) (hs : List Hole) → holes_are_plain sight lo m (h ∷ hs) ≡ true → IsFirst sight lo m h hs
first_of sight lo m h hs plain =
    let p1 = and_parts _ (holes_are_plain sight (suc h.number) m hs) plain in
    let p2 = and_parts _ (is_in h.variable sight) p1.0 in
    let p3 = and_parts (nat_le lo h.number) (nat_lt h.number m) p2.0 in
    record { from = leb-true _ _ p3.0; under = ltb-true _ _ p3.1; seen = p2.1; others = p1.1 }

module _ (sight : List ℕ) (m : ℕ) where
  pub upto_all : (hs : List Hole) (lo : ℕ) → holes_are_plain sight lo m hs ≡ true → upto hs m ≡ hs
  upto_all [] lo plain = refl
  upto_all (h ∷ hs) lo plain =
      let is = first_of sight lo m h hs plain in
      cond-true (nat_lt h.number m) (h ∷ upto hs m) [] (lt-ltb _ _ is.under) ∙ ap (λ (xs : List Hole). h ∷ xs) (upto_all hs (suc h.number) is.others)

  upto_below : (hs : List Hole) (lo n : ℕ) → n ≤ lo → holes_are_plain sight lo m hs ≡ true → upto hs n ≡ []
  upto_below [] lo n le plain = refl
  upto_below (h ∷ hs) lo n le plain =
      let is = first_of sight lo m h hs plain in
      cond-false (nat_lt h.number n) (h ∷ upto hs n) [] (le-ltb h.number n (omega (arith, le, is.from)))

  found_below : (hs : List Hole) (lo n : ℕ) → n < lo → holes_are_plain sight lo m hs ≡ true → find (λ (h : Hole). h.number == n) hs ≡ None
  found_below [] lo n lt plain = refl
  found_below (h ∷ hs) lo n lt plain =
      let is = first_of sight lo m h hs plain in
      cond-false (h.number == n) (Some h) (find (λ (h : Hole). h.number == n) hs) (ne_eqb h.number n (λ same. absurd (omega (arith, same, lt, is.from))))
      ∙ found_below hs (suc h.number) n (omega (arith, lt, is.from)) is.others

  -- one number more has the hole of that number, if there is one
  upto_next : (hs : List Hole) (lo n : ℕ) → holes_are_plain sight lo m hs ≡ true → upto hs (suc n) ≡ upto hs n ++ listed (find (λ (h : Hole). h.number == n) hs)
  upto_next [] lo n plain = refl
  upto_next (h ∷ hs) lo n plain = let is = first_of sight lo m h hs plain in by is (upto_next hs (suc h.number) n is.others) (cases_order h.number n)
    where
      by : IsFirst sight lo m h hs → upto hs (suc n) ≡ upto hs n ++ listed (find (λ (h : Hole). h.number == n) hs)
          → (h.number ≡ n) ⊎ ((h.number < n) ⊎ (n < h.number)) → upto (h ∷ hs) (suc n) ≡ upto (h ∷ hs) n ++ listed (find (λ (h : Hole). h.number == n) (h ∷ hs))
      by is rest (inl same) =
          rw (lt-ltb h.number (suc n) (omega (arith, same))) (rw (le-ltb h.number n (omega (arith, same))) (rw (eq-eqb h.number n same)
          (ap (λ (xs : List Hole). h ∷ xs) (upto_below hs (suc h.number) (suc n) (omega (arith, same)) is.others))))
      by is rest (inr (inl less)) =
          rw (lt-ltb h.number (suc n) (omega (arith, less))) (rw (lt-ltb h.number n less) (rw (ne_eqb h.number n (λ same. absurd (omega (arith, same, less))))
          (ap (λ (xs : List Hole). h ∷ xs) rest)))
      by is rest (inr (inr more)) =
          rw (le-ltb h.number (suc n) (omega (arith, more))) (rw (le-ltb h.number n (omega (arith, more))) (rw (ne_eqb h.number n (λ same. absurd (omega (arith, same, more))))
          (ap listed (sym (found_below hs (suc h.number) n (omega (arith, more)) is.others)))))

  -- a hole that is found has that number, and its variable is in sight
  found_is : (hs : List Hole) (lo n : ℕ) (h : Hole) → holes_are_plain sight lo m hs ≡ true → find (λ (h : Hole). h.number == n) hs ≡ Some h → (is_in h.variable sight ≡ true) × (h.number ≡ n)
  found_is [] lo n h plain e = absurd (cc)
  found_is (g ∷ hs) lo n h plain e = let is = first_of sight lo m g hs plain in by is (λ found. found_is hs (suc g.number) n h is.others found) (g.number == n) refl e
    where
      by : IsFirst sight lo m g hs → (find (λ (h : Hole). h.number == n) hs ≡ Some h → (is_in h.variable sight ≡ true) × (h.number ≡ n)) → (b : Bool) → (g.number == n) ≡ b → cond b (Some g) (find (λ (h : Hole). h.number == n) hs) ≡ Some h → (is_in h.variable sight ≡ true) × (h.number ≡ n)
      by is rest true same found =
          let one : g ≡ h = cc in (ap (λ (x : Hole). is_in x.variable sight) (sym one) ∙ is.seen, ap (λ (x : Hole). x.number) (sym one) ∙ eqb-true g.number n same)
      by is rest false same found = rest found

-- ---- holes of a production around which so much is in sight

-- each number more has its hole, whose variable is in sight there
pub record AreHeld (hs : List Hole) (outer : Option Outer) : Type 0 where
  pub next : (n : ℕ) → upto hs (suc n) ≡ upto hs n ++ listed (find (λ (h : Hole). h.number == n) hs)
  pub there : (n : ℕ) (h : Hole) → find (λ (h : Hole). h.number == n) hs ≡ Some h → (number_of (record { 0 = h.variable }) (values_around outer) ≡ Some h.variable) × (h.number ≡ n)

-- a production of the text has none
pub none_held : (outer : Option Outer) → AreHeld [] outer
none_held outer = record { next = λ n. refl; there = λ n h e. absurd (cc) }

pub plain_held : (sight : List ℕ) (m : ℕ) (hs : List Hole) (outer : Option Outer) → holes_are_plain sight 0 m hs ≡ true
    → ((n : ℕ) → is_in n sight ≡ true → number_of (record { 0 = n }) (values_around outer) ≡ Some n) → AreHeld hs outer
plain_held sight m hs outer plain bound =
    record {
      next = λ n. upto_next sight m hs 0 n plain;
      there = λ n h e. let is = found_is sight m hs 0 n h plain e in (bound h.variable is.0, is.1);
    }

-- ---- constants

-- so many constants were read
abbrev pub counted_at : List Hole → ℕ → State → State
counted_at hs n s = record s { counted = n; holes = upto hs n }

no_hole : (v : Value) → (spelled_value v).keyword ≡ keyword.Other
no_hole (value.Whole n) = refl
no_hole (value.Symbol name) = refl

-- A constant is read, and its hole where it has one.
pub held : (hs : List Hole) (n : ℕ) (v : Value) (next : State → Step) (s : State) → AreHeld hs s.outer
    → constant_by (spelled_constant hs n v).keyword next (counted_at hs n s) ≡ next (record s { counted = n; holes = upto hs (suc n) })
held hs n v next s h = by (find (λ (h : Hole). h.number == n) hs) refl
  where
    by : (o : Option Hole) → find (λ (h : Hole). h.number == n) hs ≡ o → constant_by (marked o (spelled_value v)).keyword next (counted_at hs n s) ≡ next (record s { counted = n; holes = upto hs (suc n) })
    by None e =
        let same : upto hs n ≡ upto hs (suc n) = sym (append-nil (upto hs n)) ∙ ap (λ (o : Option Hole). upto hs n ++ listed o) (sym e) ∙ sym (h.next n) in
        ap (λ (k : Keyword). constant_by k next (counted_at hs n s)) (no_hole v) ∙ ap (λ (xs : List Hole). next (record s { counted = n; holes = xs })) same
    by (Some g) e =
        let is = h.there n g e in
        let one : record { number = n; variable = g.variable } ≡ g = ap (λ (k : ℕ). let x : Hole = record { number = k; variable = g.variable } in x) (sym is.1) in
        let same : upto hs n ++ g ∷ [] ≡ upto hs (suc n) = ap (λ (o : Option Hole). upto hs n ++ listed o) (sym e) ∙ sym (h.next n) in
        ap (λ (o : Option ℕ). filled o next (counted_at hs n s)) is.0
        ∙ ap (λ (x : Hole). next (record s { counted = n; holes = upto hs n ++ x ∷ [] })) one
        ∙ ap (λ (xs : List Hole). next (record s { counted = n; holes = xs })) same
