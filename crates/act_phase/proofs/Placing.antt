-- Values placed one after another.
use Rattle.std.proofs.Common.{◌≡◌, ℕ, zero, suc, ◌+◌, ◌<◌, ◌≤◌, List, [], ◌∷◌, ◌++◌, length, drop, Bool, true, false, cond, nat_lt, slice_set, max, get_or, Option, Some, None, option_and_then, Result, Ok, Err, refl, ap, sym, ◌∙◌, arith}
use Rattle.std.specs.Prelude.{IsErrAnd}
use Rattle.std.proofs.lemmas.Bool.Decides.{nat_tests}
use Rattle.std.proofs.lemmas.List.{drop_more}
use Rattle.ops_base.specs.declared.actions.Put.{Put}
use Rattle.ops_base.specs.declared.actions.Term.{Term}
use Rattle.ops_base.specs.declared.elements.Class.{Class}
use Rattle.ops_base.specs.declared.values.Value.{Value}
use Rattle.ops_base.specs.Names.{Spellings}
use Rattle.ops_base.specs.Valid.{most_fields}
use Rattle.ops_io.specs.Coming.{Coming}
use Rattle.ops_meaning.specs.Acting.{ActionError as Missed, ActState as Meant, Valued, Filled, evaluated, values_placed, placed, terms_placed}
use Rattle.ops_meaning.specs.Effects.{Effect, silent, followed_by, outcome_as}
use Rattle.act_phase.specs.Deeds.{Scene, Acts, StillDoes, Gives, fields_found}
use Rattle.act_phase.specs.State.{State, doing_of, values_in, valued_of, filled_of}
use Rattle.act_phase.specs.declared.outcome.ActionError.{ActionError}
use Rattle.act_phase.specs.declared.values.Values.{Values}
use Rattle.act_phase.proofs.Deeds.{does_given, still_same, silent_step, silent_fails}

-- past the last field no value is placed
placed_past : (at : ℕ) (v : Value) (vs fields : List Value) → most_fields ≤ at → values_placed at (v ∷ vs) fields ≡ None
placed_past at v vs fields past =
    let e : nat_lt at most_fields ≡ false = grind (arith, nat_tests) in
    let placed : Bool → Option (List Value) = λ b. cond b (Some (cond (nat_lt at (length fields)) (slice_set fields at v) (fields ++ v ∷ []))) None in
    ap (λ b. option_and_then (λ next. values_placed (suc at) vs next) (placed b)) e

-- nor any of those from a place on, where there is one
pub none_placed : (at i : ℕ) (vs fields : List Value) → most_fields ≤ at → i < length vs → values_placed at (drop i vs) fields ≡ None
none_placed at i [] fields past within = absurd (omega arith)
none_placed at zero (v ∷ vs) fields past within = placed_past at v vs fields past
none_placed at (suc i) (v ∷ vs) fields past within = none_placed at i vs fields past (omega arith)

-- values that were placed end before the last field, but for none at all
pub placed_within : (at : ℕ) (xs fields next : List Value) → values_placed at xs fields ≡ Some next → at + length xs ≤ max at most_fields
placed_within at [] fields next e = omega arith
placed_within at (x ∷ xs) fields next e = by (nat_lt at most_fields) refl (λ fields. placed_within (suc at) xs fields next) e
  where
    step : List Value
    step = cond (nat_lt at (length fields)) (slice_set fields at x) (fields ++ x ∷ [])

    by : (b : Bool) → nat_lt at most_fields ≡ b → ((fields : List Value) → values_placed (suc at) xs fields ≡ Some next → suc at + length xs ≤ max (suc at) most_fields)
        → option_and_then (λ fields. values_placed (suc at) xs fields) (cond b (Some step) None) ≡ Some next → at + suc (length xs) ≤ max at most_fields
    by true h ih e = let le = ih step e in let lt : at < most_fields = grind (arith, nat_tests) in omega arith
    by false h ih e = absurd (cc)

-- a value is placed at each of the first fields
pub placed_fits : (vs fields new : List Value) (at : ℕ) → fields_found (values_placed at vs fields) ≡ Ok new → at + length vs ≤ max at most_fields
placed_fits vs fields new at e = by (values_placed at vs fields) refl e
  where
    by : (o : Option (List Value)) → values_placed at vs fields ≡ o → fields_found o ≡ Ok new → at + length vs ≤ max at most_fields
    by None is e = absurd (cc)
    by (Some next) is e = placed_within at vs fields next is

-- ---- one term after another

placed_then : (d : Meant) (o : Option (List Value)) → placed d o ≡ outcome_as (λ fields. filled_of fields d) (λ m. m) (fields_found o)
placed_then d (Some fields) = refl
placed_then d None = refl

module _ (classes : List Class) (at : ℕ) (fields : List Value) (behind : List Term) where
  abbrev pub behind_placed : ℕ → Filled → Result Filled Missed
  behind_placed n f = terms_placed classes (at + n) behind f

  -- what follows the values of a term
  abbrev pub behind_value : Valued → Result Filled Missed
  behind_value v = followed_by (placed v.doing (values_placed at v.values fields)) (behind_placed (length v.values))

terms_here : (classes : List Class) (at i : ℕ) (terms : List Term) (t : Term) (fields : List Value) (d : Meant) → i < length terms → t ≡ get_or terms i t
    → terms_placed classes at (drop i terms) (filled_of fields d) ≡ followed_by (evaluated classes t d) (behind_value classes at fields (drop (i + 1) terms))
terms_here classes at i terms t fields d within is =
    ap (λ ts. terms_placed classes at ts (filled_of fields d)) (drop_more terms i t within ∙ ap (λ u. u ∷ drop (i + 1) terms) (sym is))

module _ (classes : List Class) (doing : State) (terms : List Term) (at i : ℕ) (t : Term) (fields : List Value) (within : i < length terms) (is : t ≡ get_or terms i t) {a b c : Scene} {whole : Coming → Effect Missed Filled}
    (p : StillDoes a b whole (λ d. silent (terms_placed classes at (drop i terms) (filled_of fields (doing_of doing b.names d))))) where
  pub term_ok : (v : Values) → Acts (λ v d. valued_of v (doing_of doing c.names d)) (Ok v) b c (λ d. silent (evaluated classes t (doing_of doing b.names d)))
      → StillDoes a c whole (λ d. silent (behind_value classes at fields (drop (i + 1) terms) (valued_of v (doing_of doing c.names d))))
  term_ok v q = silent_step (behind_value classes at fields (drop (i + 1) terms)) p q (λ d. terms_here classes at i terms t fields (doing_of doing b.names d) within is)

  pub term_err : {X Y : Type 0} {view : X → Coming → Valued} (seen : Y → Coming → Filled) (r : Result Y ActionError) (f : ActionError) → IsErrAnd r (λ g. g ≡ f) → Acts view (Err f) b c (λ d. silent (evaluated classes t (doing_of doing b.names d))) → Acts seen r a c whole
  term_err seen r f h q =
      silent_fails seen r (behind_value classes at fields (drop (i + 1) terms)) h p q (λ d. terms_here classes at i terms t fields (doing_of doing b.names d) within is)

module _ (classes : List Class) (doing : State) (behind : List Term) (at : ℕ) (fields : List Value) (v : Values) (vs : List Value) (same : vs ≡ values_in v) {a b : Scene} {whole : Coming → Effect Missed Filled}
    (p : StillDoes a b whole (λ d. silent (behind_value classes at fields behind (valued_of v (doing_of doing b.names d))))) where
  finds : (d : Coming) → placed (doing_of doing b.names d) (values_placed at (values_in v) fields) ≡ outcome_as (λ fields. filled_of fields (doing_of doing b.names d)) (λ m. m) (fields_found (values_placed at vs fields))
  finds d =
      placed_then (doing_of doing b.names d) (values_placed at (values_in v) fields)
      ∙ ap (λ vs. outcome_as (λ fields. filled_of fields (doing_of doing b.names d)) (λ m. m) (fields_found (values_placed at vs fields))) (sym same)

  pub placed_ok : (new count : List Value) → fields_found (values_placed at vs fields) ≡ Ok new → count ≡ values_in v → StillDoes a b whole (λ d. silent (terms_placed classes (at + length count) behind (filled_of new (doing_of doing b.names d))))
  placed_ok new count e counted =
      still_same (λ d. silent (terms_placed classes (at + length count) behind (filled_of new (doing_of doing b.names d)))) p
      (λ d. ap (λ r. silent (followed_by r (behind_placed classes at fields behind (length (values_in v))))) (finds d ∙ ap (outcome_as (λ fields. filled_of fields (doing_of doing b.names d)) (λ m. m)) e)
      ∙ ap (λ vs. silent (terms_placed classes (at + length vs) behind (filled_of new (doing_of doing b.names d)))) (sym counted))

  pub placed_err : {X Y : Type 0} (view : X → List Value) (seen : Y → Coming → Filled) (r : Result Y ActionError) (f : ActionError) → IsErrAnd r (λ g. g ≡ f) → Gives view (Err f) (fields_found (values_placed at vs fields)) → Acts seen r a b whole
  placed_err view seen r f h g =
      silent_fails seen r (behind_placed classes at fields behind (length (values_in v))) h p
      (does_given {view = view} (λ d fields. filled_of fields (doing_of doing b.names d)) (Err f) (fields_found (values_placed at vs fields)) b p.goes_on.whole g)
      (λ d. ap (λ r. followed_by r (behind_placed classes at fields behind (length (values_in v)))) (finds d))

-- ---- one attribute after another

module _ (all : List Put → Filled → Result Filled Missed) (step : Put → Filled → Result Filled Missed) (cons : (p : Put) (ps : List Put) (f : Filled) → all (p ∷ ps) f ≡ followed_by (step p f) (all ps))
    (doing : State) (puts : List Put) (i : ℕ) (put : Put) (fields : List Value) (within : i < length puts) (is : put ≡ get_or puts i put) where
  puts_here : (names : Spellings) (part : Coming → Result Filled Missed) → ((d : Coming) → step put (filled_of fields (doing_of doing names d)) ≡ part d) → (d : Coming) → all (drop i puts) (filled_of fields (doing_of doing names d)) ≡ followed_by (part d) (all (drop (i + 1) puts))
  puts_here names part does d =
      ap (λ ps. all ps (filled_of fields (doing_of doing names d))) (drop_more puts i put within ∙ ap (λ q. q ∷ drop (i + 1) puts) (sym is))
      ∙ cons put (drop (i + 1) puts) (filled_of fields (doing_of doing names d)) ∙ ap (λ r. followed_by r (all (drop (i + 1) puts))) (does d)

  module _ {a b c : Scene} {whole : Coming → Effect Missed Filled} {part : Coming → Result Filled Missed} (p : StillDoes a b whole (λ d. silent (all (drop i puts) (filled_of fields (doing_of doing b.names d)))))
      (does : (d : Coming) → step put (filled_of fields (doing_of doing b.names d)) ≡ part d) where
    pub put_ok : {X : Type 0} {x : X} (new : List Value) → Acts (λ _ d. filled_of new (doing_of doing c.names d)) (Ok x) b c (λ d. silent (part d)) → StillDoes a c whole (λ d. silent (all (drop (i + 1) puts) (filled_of new (doing_of doing c.names d))))
    put_ok new q = silent_step (all (drop (i + 1) puts)) p q (puts_here b.names part does)

    pub put_err : {X Y : Type 0} {view : X → Coming → Filled} (seen : Y → Coming → Filled) (r : Result Y ActionError) (f : ActionError) → IsErrAnd r (λ g. g ≡ f) → Acts view (Err f) b c (λ d. silent (part d)) → Acts seen r a c whole
    put_err seen r f h q = silent_fails seen r (all (drop (i + 1) puts)) h p q (puts_here b.names part does)
