-- If values are placed from a field on that is not past the end, they are in those fields, and the others stay.
use Rattle.std.proofs.Common.{◌≡◌, ℕ, zero, suc, ◌+◌, ◌<◌, ◌≤◌, List, [], ◌∷◌, ◌++◌, length, Bool, true, false, cond, Option, Some, None, refl, ap, sym, ◌∙◌, subst, inl, inr, ◌⊎◌, nat_lt, slice_get, arith}
use Rattle.std.specs.Prelude.{slice_set, option_and_then}
use Rattle.std.proofs.lemmas.Bool.{ltb-true, ltb-false}
use Rattle.std.proofs.lemmas.List.{length_push}
use Rattle.ops_base.specs.declared.elements.Class.{Class}
use Rattle.ops_base.specs.declared.values.Value.{Value}
use Rattle.ops_base.specs.Valid.{most_fields, is_attribute, is_vector}
use Rattle.ops_meaning.specs.Acting.{value_placed, values_placed}
use Rattle.run_laws.specs.Elements.{AreFieldsOf}
use Rattle.run_laws.specs.Placing.{StandAt}
use Rattle.run_laws.proofs.Rooms.{length-slice_set, scalar_at, vector_at}

set_here : (xs : List Value) (n : ℕ) (x : Value) → n < length xs → slice_get (slice_set xs n x) n ≡ Some x
set_here [] n x h = absurd (omega arith)
set_here (y ∷ xs) zero x h = refl
set_here (y ∷ xs) (suc n) x h = set_here xs n x (omega arith)

set_elsewhere : (xs : List Value) (n k : ℕ) (x : Value) → (k < n) ⊎ (n < k) → slice_get (slice_set xs n x) k ≡ slice_get xs k
set_elsewhere [] n k x h = refl
set_elsewhere (y ∷ xs) zero zero x (inl h) = absurd (omega arith)
set_elsewhere (y ∷ xs) zero zero x (inr h) = absurd (omega arith)
set_elsewhere (y ∷ xs) zero (suc k) x h = refl
set_elsewhere (y ∷ xs) (suc n) zero x h = refl
set_elsewhere (y ∷ xs) (suc n) (suc k) x (inl h) = set_elsewhere xs n k x (inl (omega arith))
set_elsewhere (y ∷ xs) (suc n) (suc k) x (inr h) = set_elsewhere xs n k x (inr (omega arith))

push_here : (xs : List Value) (n : ℕ) (x : Value) → n ≡ length xs → slice_get (xs ++ x ∷ []) n ≡ Some x
push_here [] zero x h = refl
push_here [] (suc n) x h = absurd (omega arith)
push_here (y ∷ xs) zero x h = absurd (omega arith)
push_here (y ∷ xs) (suc n) x h = push_here xs n x (omega arith)

push_elsewhere : (xs : List Value) (k : ℕ) (x : Value) → (k < length xs) ⊎ (length xs < k) → slice_get (xs ++ x ∷ []) k ≡ slice_get xs k
push_elsewhere [] zero x (inl h) = absurd (omega arith)
push_elsewhere [] zero x (inr h) = absurd (omega arith)
push_elsewhere [] (suc k) x h = refl
push_elsewhere (y ∷ xs) zero x h = refl
push_elsewhere (y ∷ xs) (suc k) x (inl h) = push_elsewhere xs k x (inl (omega arith))
push_elsewhere (y ∷ xs) (suc k) x (inr h) = push_elsewhere xs k x (inr (omega arith))

-- one value is in its field
record Stands (at : ℕ) (v : Value) (fields next : List Value) : Type 0 where
  here : slice_get next at ≡ Some v
  elsewhere : (k : ℕ) → (k < at) ⊎ (at < k) → slice_get next k ≡ slice_get fields k
  reach : at < length next

one_stands : (at : ℕ) (v : Value) (fields next : List Value) → at ≤ length fields → value_placed at v fields ≡ Some next → Stands at v fields next
one_stands at v fields next within is = by (nat_lt at most_fields) (nat_lt at (length fields)) refl is
  where
    by : (b c : Bool) → nat_lt at (length fields) ≡ c → cond b (Some (cond c (slice_set fields at v) (fields ++ v ∷ []))) None ≡ Some next → Stands at v fields next
    by true true inside is =
        let lt = ltb-true at (length fields) inside in
        let P : List Value → Type 0 = Stands at v fields in
        let same : slice_set fields at v ≡ next = cc in
        subst P same (record {
          here = set_here fields at v lt;
          elsewhere = λ k h. set_elsewhere fields at k v h;
          reach = omega (arith, lt, length-slice_set fields at v);
        })
    by true false past is =
        let le = ltb-false at (length fields) past in
        let end : at ≡ length fields = omega arith in
        let P : List Value → Type 0 = Stands at v fields in
        let Q : ℕ → Type 0 = λ n. (k : ℕ) → (k < n) ⊎ (n < k) → slice_get (fields ++ v ∷ []) k ≡ slice_get fields k in
        let same : fields ++ v ∷ [] ≡ next = cc in
        subst P same (record {
          here = push_here fields at v end;
          elsewhere = subst Q (sym end) (λ k h. push_elsewhere fields k v h);
          reach = omega (arith, length_push fields v);
        })
    by false c inside is = absurd (cc)

pub values_stand : (at : ℕ) (vs fields next : List Value) → at ≤ length fields → values_placed at vs fields ≡ Some next → StandAt at vs fields next
values_stand at [] fields next within is =
    let same : fields ≡ next = cc in
    let P : List Value → Type 0 = StandAt at [] fields in
    subst P same (record { placed = λ k h. absurd (omega arith); before = λ k h. refl; after = λ k h. refl })
values_stand at (v ∷ vs) fields next within is =
    by (value_placed at v fields) refl (λ mid w k. values_stand (suc at) vs mid next w k) is
  where
    by : (o : Option (List Value)) → value_placed at v fields ≡ o → ((mid : List Value) → suc at ≤ length mid → values_placed (suc at) vs mid ≡ Some next → StandAt (suc at) vs mid next)
        → option_and_then (λ next. values_placed (suc at) vs next) o ≡ Some next → StandAt at (v ∷ vs) fields next
    by None one later is = absurd (cc)
    by (Some mid) one later is =
        let f = one_stands at v fields mid within one in
        let g = later mid (omega (arith, f.reach)) is in record {
          placed = λ k h. at_each f g k h;
          before = λ k h. g.before k (omega arith) ∙ f.elsewhere k (inl h);
          after = λ k h. g.after k (omega arith) ∙ f.elsewhere k (inr (omega arith));
        }
      where
        at_each : Stands at v fields mid → StandAt (suc at) vs mid next → (k : ℕ) → k < length (v ∷ vs) → slice_get next (at + k) ≡ slice_get (v ∷ vs) k
        at_each f g zero h =
            let e : at + 0 ≡ at = omega arith in ap (slice_get next) e ∙ g.before at (omega arith) ∙ f.here
        at_each f g (suc k) h =
            let e : at + suc k ≡ suc at + k = omega arith in ap (slice_get next) e ∙ g.placed k (omega arith)

-- the field of an attribute is not past the end of the fields of its class
pub attribute_within : (c : Class) (field values : ℕ) → is_attribute c field ≡ true → AreFieldsOf c values → field ≤ values
attribute_within c field values h room = by (is_vector c field) refl
  where
    by : (b : Bool) → is_vector c field ≡ b → field ≤ values
    by true is = let at = (vector_at c field is).1 in omega (arith, at, room.scalars)
    by false is = let lt = scalar_at c field h is in omega (arith, lt, room.scalars)
