-- The number of fields of an element that gets valid attributes.
use Rattle.std.proofs.Common.{◌≡◌, ℕ, zero, suc, ◌+◌, ◌-◌, ◌<◌, ◌≤◌, List, [], ◌∷◌, ◌++◌, length, take, fold, Bool, true, false, cond, ◌==◌, ◌&&◌, Option, Some, None, Result, Ok, Err, IfOk, refl, ap, sym, ◌∙◌, subst, nat_lt, nat_le, true≢false, arith}
use Rattle.std.specs.Prelude.{slice_set, option_and_then}
use Rattle.std.specs.List.{list_all}
use Rattle.std.proofs.lemmas.Bool.{and_parts, ltb-true, ltb-false, leb-true, eqb-true}
use Rattle.std.proofs.lemmas.Bool.Decides.{nat_tests}
use Rattle.std.proofs.lemmas.List.{length-append, length_push, length-take-le, length-replicate}
use Rattle.ops_base.specs.declared.actions.Put.{Put}
use Rattle.ops_base.specs.declared.actions.Term.{Term}
use Rattle.ops_base.specs.declared.actions.Term.TheVariants as term
use Rattle.ops_base.specs.declared.commands.Fixed.{Fixed}
use Rattle.ops_base.specs.declared.elements.Class.{Class}
use Rattle.ops_base.specs.declared.values.Value.{Value}
use Rattle.ops_base.specs.Valid.{class_is_valid, is_attribute, is_vector, most_fields, fits, Known, term_is_valid, put_is_valid, fixed_is_valid}
use Rattle.ops_base.specs.Values.{nil}
use Rattle.ops_base.specs.WorkingMemory.{scalar_count, no_fields}
use Rattle.ops_tokens.specs.Accepting.{Accepted, accepted}
use Rattle.ops_tokens.specs.declared.accept.AcceptFault.{AcceptFault}
use Rattle.ops_tokens.specs.declared.accept.AcceptFault.TheVariants as accept_fault
use Rattle.ops_meaning.specs.Acting.{ActState, ActionError, Valued, Filled, evaluated, value_in, computed_as, accepted_as, value_placed, values_placed, placed, terms_placed, puts_made, puts_over, emptied, first_of}
use Rattle.ops_meaning.specs.Computing.{Computed, computed}
use Rattle.ops_meaning.specs.Running.{with_values, fixed_fields}
use Rattle.run_laws.specs.Elements.{AreFieldsOf}
use Rattle.run_laws.specs.Finding.{is_single}
use Rattle.run_laws.proofs.Parts.{ok_behind, ok_more, all_such}

-- ---- one value and several

pub length-slice_set : {X : Type 0} (xs : List X) (n : ℕ) (x : X) → length (slice_set xs n x) ≡ length xs
length-slice_set [] n x = refl
length-slice_set (y ∷ xs) zero x = refl
length-slice_set (y ∷ xs) (suc n) x = ap suc (length-slice_set xs n x)

-- This many values were placed from `at` on, with this number of fields before and that number now.
record Grown (at values before after : ℕ) : Type 0 where
  reach : at + values ≤ after
  more : before ≤ after
  room : after ≤ most_fields
  same : at + values ≤ before → after ≡ before

one_placed : (at : ℕ) (v : Value) (fields next : List Value) → at ≤ length fields → length fields ≤ most_fields → value_placed at v fields ≡ Some next → Grown at 1 (length fields) (length next)
one_placed at v fields next within room is = by (nat_lt at most_fields) (nat_lt at (length fields)) refl refl is
  where
    by : (b c : Bool) → nat_lt at most_fields ≡ b → nat_lt at (length fields) ≡ c → cond b (Some (cond c (slice_set fields at v) (fields ++ v ∷ []))) None ≡ Some next → Grown at 1 (length fields) (length next)
    by true true below inside is =
        let same : slice_set fields at v ≡ next = cc in
        let long : length next ≡ length fields = sym (ap length same) ∙ length-slice_set fields at v in
        let lt = ltb-true at (length fields) inside in
        record { reach = omega arith; more = omega arith; room = omega arith; same = λ _. long }
    by true false below past is =
        let same : fields ++ v ∷ [] ≡ next = cc in
        let long : length next ≡ length fields + 1 = sym (ap length same) ∙ length_push fields v in
        let lt = ltb-true at most_fields below in
        let le = ltb-false at (length fields) past in
        record { reach = omega arith; more = omega arith; room = omega arith; same = λ h. omega arith }
    by false c past inside is = absurd (cc)

several_placed : (vs : List Value) (at : ℕ) (fields next : List Value) → at ≤ length fields → length fields ≤ most_fields → values_placed at vs fields ≡ Some next → Grown at (length vs) (length fields) (length next)
several_placed [] at fields next within room is =
    let long : length next ≡ length fields = (let same : fields ≡ next = cc in sym (ap length same)) in
    record { reach = omega arith; more = omega arith; room = omega arith; same = λ _. long }
several_placed (v ∷ vs) at fields next within room is =
    by (value_placed at v fields) refl (λ mid w r k. several_placed vs (suc at) mid next w r k) is
  where
    by : (o : Option (List Value)) → value_placed at v fields ≡ o
        → ((mid : List Value) → suc at ≤ length mid → length mid ≤ most_fields → values_placed (suc at) vs mid ≡ Some next → Grown (suc at) (length vs) (length mid) (length next))
        → option_and_then (λ next. values_placed (suc at) vs next) o ≡ Some next → Grown at (suc (length vs)) (length fields) (length next)
    by None one later is = absurd (cc)
    by (Some mid) one later is =
        let f = one_placed at v fields mid within room one in
        let g = later mid (omega (arith, f.reach)) f.room is in record {
          reach = omega (arith, g.reach);
          more = omega (arith, f.more, g.more);
          room = g.room;
          same = λ h. (let e = f.same (omega arith) in g.same (omega arith) ∙ e);
        }

-- ---- terms

abbrev IsOne : Valued → Type 0
IsOne v = length v.values ≡ 1

one_computed : (d : ActState) (c : Computed) → IfOk (computed_as d c) IsOne
one_computed d (Ok v) = refl
one_computed d (Err k) = tt

one_accepted : (d : ActState) (r : Result Accepted AcceptFault) → IfOk (accepted_as d r) IsOne
one_accepted d (Ok a) = refl
one_accepted d (Err accept_fault.TooLong) = tt
one_accepted d (Err accept_fault.Read) = tt
one_accepted d (Err accept_fault.OutOfMemory) = tt

-- a single term gives one value
pub one_evaluated : (classes : List Class) (t : Term) (d : ActState) → is_single t ≡ true → IfOk (evaluated classes t d) IsOne
one_evaluated classes (term.Constant v) d h = refl
one_evaluated classes (term.Variable v) d h = refl
one_evaluated classes (term.One cell field) d h = refl
one_evaluated classes (term.Rest cell) d h = absurd (cc)
one_evaluated classes (term.Compute f) d h = one_computed d (computed (value_in d) f)
one_evaluated classes term.Fresh d h = refl
one_evaluated classes term.Accept d h = one_accepted d (accepted d.names d.coming)

-- a term that is allowed in the place of one value is single
pub single : (classes : List Class) (k : Known) (t : Term) → term_is_valid classes k false t ≡ true → is_single t ≡ true
single classes k (term.Constant v) h = refl
single classes k (term.Variable v) h = refl
single classes k (term.Compute f) h = refl
single classes k (term.One cell field) h = refl
single classes k (term.Rest cell) h = absurd (cc)
single classes k term.Fresh h = refl
single classes k term.Accept h = refl

any_evaluated : (classes : List Class) (t : Term) (d : ActState) → IfOk (evaluated classes t d) (λ v. Unit {0})
any_evaluated classes t d = by (evaluated classes t d)
  where
    by : (r : Result Valued ActionError) → IfOk r (λ v. Unit {0})
    by (Ok v) = tt
    by (Err m) = tt

placed_grown : (d : ActState) (at : ℕ) (vs fields : List Value) → at ≤ length fields → length fields ≤ most_fields → IfOk (placed d (values_placed at vs fields)) (λ (g : Filled). Grown at (length vs) (length fields) (length g.fields))
placed_grown d at vs fields within room = by (values_placed at vs fields) refl
  where
    by : (o : Option (List Value)) → values_placed at vs fields ≡ o → IfOk (placed d o) (λ (g : Filled). Grown at (length vs) (length fields) (length g.fields))
    by None is = tt
    by (Some next) is = several_placed vs at fields next within room is

-- as many fields or more, within the limit
abbrev IsLarger : ℕ → Filled → Type 0
IsLarger n g = (n ≤ length g.fields) × (length g.fields ≤ most_fields)

terms_grown : (classes : List Class) (at : ℕ) (ts : List Term) (f : Filled) → at ≤ length f.fields → length f.fields ≤ most_fields → IfOk (terms_placed classes at ts f) (IsLarger (length f.fields))
terms_grown classes at [] f within room = (omega arith, room)
terms_grown classes at (t ∷ ts) f within room =
    ok_behind (λ v. Unit {0}) (IsLarger (length f.fields)) (evaluated classes t f.doing) _ (any_evaluated classes t f.doing)
    (λ v _. ok_behind (λ (g : Filled). Grown at (length v.values) (length f.fields) (length g.fields)) (IsLarger (length f.fields)) (placed v.doing (values_placed at v.values f.fields)) (λ g. terms_placed classes (at + length v.values) ts g)
    (placed_grown v.doing at v.values f.fields within room)
    (λ g p. larger (length f.fields) (length g.fields) p.more (terms_placed classes (at + length v.values) ts g) (terms_grown classes (at + length v.values) ts g p.reach p.room)))
  where
    larger : (n m : ℕ) → n ≤ m → (r : Result Filled ActionError) → IfOk r (IsLarger m) → IfOk r (IsLarger n)
    larger n m le (Ok g) p = (let first = p.0 in omega (arith, le), p.1)
    larger n m le (Err e) p = tt

-- one value in place of a field that exists
one_term : (classes : List Class) (at : ℕ) (ts : List Term) (f : Filled) → length ts ≡ 1 → list_all is_single ts ≡ true → at < length f.fields → length f.fields ≤ most_fields
    → IfOk (terms_placed classes at ts f) (λ g. length g.fields ≡ length f.fields)
one_term classes at [] f one single within room = absurd (omega arith)
one_term classes at (t ∷ (u ∷ ts)) f one single within room = absurd (omega arith)
one_term classes at (t ∷ []) f one single within room =
    ok_behind IsOne (λ g. length g.fields ≡ length f.fields) (evaluated classes t f.doing) _ (one_evaluated classes t f.doing (and_parts (is_single t) true single).0)
    (λ v e. ok_behind (λ (g : Filled). Grown at (length v.values) (length f.fields) (length g.fields)) (λ g. length g.fields ≡ length f.fields) (placed v.doing (values_placed at v.values f.fields)) (λ g. Ok g)
    (placed_grown v.doing at v.values f.fields (omega arith) room) (λ g p. p.same (omega (arith, e))))

-- ---- fields of a class

scalars_are : (c : Class) (b : Bool) → c.vector ≡ b → scalar_count c ≡ cond b (length c.attrs - 1) (length c.attrs)
scalars_are c b is = ap (λ b. cond b (length c.attrs - 1) (length c.attrs)) is

-- the vector attribute comes after the scalar ones
pub vector_at : (c : Class) (f : ℕ) → is_vector c f ≡ true → (c.vector ≡ true) × (f ≡ scalar_count c)
vector_at c f h =
    let parts = and_parts c.vector (f + 1 == length c.attrs) h in
    let last = eqb-true (f + 1) (length c.attrs) parts.1 in
    let count = scalars_are c true parts.0 in
    (parts.0, omega arith)

-- any other attribute is among these
pub scalar_at : (c : Class) (f : ℕ) → is_attribute c f ≡ true → is_vector c f ≡ false → f < scalar_count c
scalar_at c f within h = by c.vector refl h
  where
    by : (b : Bool) → c.vector ≡ b → (b && (f + 1 == length c.attrs)) ≡ false → f < scalar_count c
    by true is other =
        let lt = ltb-true f (length c.attrs) within in
        let count = scalars_are c true is in
        let apart : (f + 1 ≡ length c.attrs) → ⊥ = (λ same. not_same same other) in
        omega arith
      where
        not_same : f + 1 ≡ length c.attrs → (f + 1 == length c.attrs) ≡ false → ⊥
        not_same same differ = let alike : (f + 1 == length c.attrs) ≡ true = grind (arith, nat_tests) in true≢false (sym alike ∙ differ)
    by false is other =
        let lt = ltb-true f (length c.attrs) within in let count = scalars_are c false is in omega arith

-- a class whose fields fit
pub record Fits (c : Class) : Type 0 where
  few : length c.attrs ≤ most_fields

pub fits_class : (c : Class) → class_is_valid c ≡ true → Fits c
fits_class c h = record { few = leb-true (length c.attrs) most_fields (and_parts _ _ (and_parts _ _ h).0).0 }

pub no_fields_room : (c : Class) → Fits c → AreFieldsOf c (length (no_fields c))
no_fields_room c fit =
    let long : length (no_fields c) ≡ scalar_count c = length-replicate (scalar_count c) nil in
    let few = fit.few in
    record { scalars = omega arith; room = by c.vector refl long; plain = λ _. long }
  where
    by : (b : Bool) → c.vector ≡ b → length (no_fields c) ≡ scalar_count c → length (no_fields c) ≤ most_fields
    by true is long = let count = scalars_are c true is in omega (arith, fit.few)
    by false is long = let count = scalars_are c false is in omega (arith, fit.few)

abbrev pub HasRoom : Class → Filled → Type 0
HasRoom c f = AreFieldsOf c (length f.fields)

-- from the vector attribute on, there may be any number of values
vector_room : (c : Class) (f n : ℕ) → is_vector c f ≡ true → f ≤ n → n ≤ most_fields → AreFieldsOf c n
vector_room c f n h le room =
    let at = vector_at c f h in record { scalars = omega (arith, at.1, le); room = room; plain = λ plain. absurd (true≢false (sym at.0 ∙ plain)) }

as_many : (c : Class) (n m : ℕ) → m ≡ n → AreFieldsOf c n → AreFieldsOf c m
as_many c n m same p = let P : ℕ → Type 0 = AreFieldsOf c in subst P (sym same) p

-- ---- valid attributes of right sides

module _ (classes : List Class) (k : Known) (c : Class) where
  parts_of_put : (p : Put) → put_is_valid classes k c p ≡ true → (is_attribute c p.field ≡ true) × (cond (is_vector c p.field) (fits p.terms) (length p.terms == 1) ≡ true) × (list_all (term_is_valid classes k (is_vector c p.field)) p.terms ≡ true)
  parts_of_put p h =
      let whole = and_parts (is_attribute c p.field && cond (is_vector c p.field) (fits p.terms) (length p.terms == 1)) (list_all (term_is_valid classes k (is_vector c p.field)) p.terms) h in
      let front = and_parts (is_attribute c p.field) (cond (is_vector c p.field) (fits p.terms) (length p.terms == 1)) whole.0 in
      (front.0, front.1, whole.1)

  -- one value for a scalar attribute
  scalar_put : (p : Put) (f : Filled) → is_vector c p.field ≡ false → is_attribute c p.field ≡ true → (length p.terms == 1) ≡ true → list_all (term_is_valid classes k false) p.terms ≡ true → HasRoom c f
      → IfOk (terms_placed classes p.field p.terms f) (HasRoom c)
  scalar_put p f plain within one valid room =
      let lt = scalar_at c p.field within plain in
      let scalars = room.scalars in
      ok_more (λ g. length g.fields ≡ length f.fields) (HasRoom c) (terms_placed classes p.field p.terms f)
      (one_term classes p.field p.terms f (eqb-true (length p.terms) 1 one) (all_such (term_is_valid classes k false) is_single (single classes k) p.terms valid) (omega arith) room.room)
      (λ g e. as_many c (length f.fields) (length g.fields) e room)

  vector_put : (p : Put) (f : Filled) → is_vector c p.field ≡ true → p.field ≤ length f.fields → length f.fields ≤ most_fields → IfOk (terms_placed classes p.field p.terms f) (HasRoom c)
  vector_put p f vector within room =
      ok_more (IsLarger (length f.fields)) (HasRoom c) (terms_placed classes p.field p.terms f) (terms_grown classes p.field p.terms f within room)
      (λ g q. vector_room c p.field (length g.fields) vector (let le = q.0 in omega arith) q.1)

  put_made : (p : Put) (f : Filled) → put_is_valid classes k c p ≡ true → HasRoom c f → IfOk (terms_placed classes p.field p.terms (record f { fields = emptied c p.field f.fields })) (HasRoom c)
  put_made p f h room = let parts = parts_of_put p h in by (is_vector c p.field) refl parts.1 parts.2
    where
      by : (b : Bool) → is_vector c p.field ≡ b → cond b (fits p.terms) (length p.terms == 1) ≡ true → list_all (term_is_valid classes k b) p.terms ≡ true
          → IfOk (terms_placed classes p.field p.terms (record f { fields = cond b (take p.field f.fields) f.fields })) (HasRoom c)
      by true is one valid =
          let at = (vector_at c p.field is).1 in
          let scalars = room.scalars in
          let high = room.room in
          let long : length (take p.field f.fields) ≡ p.field = length-take-le p.field f.fields (omega arith) in
          vector_put p (record f { fields = take p.field f.fields }) is (omega arith) (omega arith)
      by false is one valid = scalar_put p f is (parts_of_put p h).0 one valid room

  put_over : (p : Put) (f : Filled) → put_is_valid classes k c p ≡ true → HasRoom c f → IfOk (terms_placed classes p.field p.terms f) (HasRoom c)
  put_over p f h room = let parts = parts_of_put p h in by (is_vector c p.field) refl parts.1 parts.2
    where
      by : (b : Bool) → is_vector c p.field ≡ b → cond b (fits p.terms) (length p.terms == 1) ≡ true → list_all (term_is_valid classes k b) p.terms ≡ true → IfOk (terms_placed classes p.field p.terms f) (HasRoom c)
      by true is one valid =
          let at = (vector_at c p.field is).1 in let scalars = room.scalars in vector_put p f is (omega arith) room.room
      by false is one valid = scalar_put p f is (parts_of_put p h).0 one valid room

  pub puts_made_room : (puts : List Put) (f : Filled) → list_all (put_is_valid classes k c) puts ≡ true → HasRoom c f → IfOk (puts_made classes c puts f) (HasRoom c)
  puts_made_room [] f h room = room
  puts_made_room (p ∷ puts) f h room =
      let parts = and_parts (put_is_valid classes k c p) (list_all (put_is_valid classes k c) puts) h in
      ok_behind (HasRoom c) (HasRoom c) (terms_placed classes p.field p.terms (record f { fields = emptied c p.field f.fields })) (λ g. puts_made classes c puts g) (put_made p f parts.0 room)
      (λ g r. puts_made_room puts g parts.1 r)

  pub puts_over_room : (puts : List Put) (f : Filled) → list_all (put_is_valid classes k c) puts ≡ true → HasRoom c f → IfOk (puts_over classes puts f) (HasRoom c)
  puts_over_room [] f h room = room
  puts_over_room (p ∷ puts) f h room =
      let parts = and_parts (put_is_valid classes k c p) (list_all (put_is_valid classes k c) puts) h in
      ok_behind (HasRoom c) (HasRoom c) (terms_placed classes p.field p.terms f) (λ g. puts_over classes puts g) (put_over p f parts.0 room)
      (λ g r. puts_over_room puts g parts.1 r)

-- ---- valid attributes of commands

module _ (c : Class) where
  one_fixed : (p : Fixed) (fields : List Value) → fixed_is_valid c p ≡ true → AreFieldsOf c (length fields) → AreFieldsOf c (length (with_values c fields p.field p.values))
  one_fixed p fields h room =
      by (is_vector c p.field) refl (and_parts (is_attribute c p.field) (cond (is_vector c p.field) (nat_le (p.field + length p.values) most_fields) (length p.values == 1)) h).1
    where
      by : (b : Bool) → is_vector c p.field ≡ b → cond b (nat_le (p.field + length p.values) most_fields) (length p.values == 1) ≡ true
          → AreFieldsOf c (length (cond b (cond b (take p.field fields) fields ++ p.values) (slice_set fields p.field (first_of p.values))))
      by true is few =
          let at = (vector_at c p.field is).1 in
          let scalars = room.scalars in
          let le = leb-true (p.field + length p.values) most_fields few in
          let front : length (take p.field fields) ≡ p.field = length-take-le p.field fields (omega arith) in
          let long = length-append (take p.field fields) p.values in
          vector_room c p.field (length (take p.field fields ++ p.values)) is (omega arith) (omega arith)
      by false is one = as_many c (length fields) (length (slice_set fields p.field (first_of p.values))) (length-slice_set fields p.field (first_of p.values)) room

  fixed_room : (puts : List Fixed) (fields : List Value) → list_all (fixed_is_valid c) puts ≡ true → AreFieldsOf c (length fields) → AreFieldsOf c (length (fold (λ fields p. with_values c fields p.field p.values) fields puts))
  fixed_room [] fields h room = room
  fixed_room (p ∷ puts) fields h room =
      let parts = and_parts (fixed_is_valid c p) (list_all (fixed_is_valid c) puts) h in
      fixed_room puts (with_values c fields p.field p.values) parts.1 (one_fixed p fields parts.0 room)

  pub fixed_fields_room : (puts : List Fixed) → Fits c → list_all (fixed_is_valid c) puts ≡ true → AreFieldsOf c (length (fixed_fields c puts))
  fixed_fields_room puts fit h = fixed_room puts (no_fields c) h (no_fields_room c fit)
