-- What the values of a term are, by its kind.
use Rattle.std.proofs.Common.{◌≡◌, ℕ, List, [], ◌∷◌, length, drop, Result, Ok, Err, refl, sym, ap, ◌∙◌, subst, IsTrue}
use Rattle.std.specs.Prelude.{unwrap_or, IsErrAnd}
use Rattle.ops_base.specs.declared.actions.Term.{Term}
use Rattle.ops_base.specs.declared.actions.Term.TheVariants as term
use Rattle.ops_base.specs.declared.elements.Class.{Class}
use Rattle.ops_base.specs.declared.elements.Element.{Element}
use Rattle.ops_base.specs.declared.values.Sym.{Sym}
use Rattle.ops_base.specs.declared.values.Value.{Value}
use Rattle.ops_base.specs.declared.values.Value.TheVariants as value
use Rattle.ops_base.specs.Expression.{Formula}
use Rattle.ops_base.specs.Matching.{value_of}
use Rattle.ops_base.specs.Names.{Spellings, with_fresh}
use Rattle.ops_base.specs.Valid.{class_of}
use Rattle.ops_base.specs.Values.{nil}
use Rattle.ops_base.specs.WorkingMemory.{field_of, scalar_count}
use Rattle.ops_io.specs.Coming.{Coming}
use Rattle.ops_meaning.specs.Acting.{ActionError as Missed, ActState as Meant, Valued, evaluated, computed_as}
use Rattle.ops_meaning.specs.Acting.{accepted_as as accepted_in}
use Rattle.ops_meaning.specs.Computing.{Computed, computed}
use Rattle.ops_meaning.specs.Effects.{Effect, writes, silent, followed_by, outcome_as}
use Rattle.ops_meaning.specs.Kept.{KeepsNames}
use Rattle.ops_meaning.proofs.NamesKept.{fresh_keeps}
use Rattle.ops_tokens.specs.Accepting.{Accepted, accepted}
use Rattle.ops_tokens.specs.declared.accept.AcceptFault.{AcceptFault}
use Rattle.ops_tokens.specs.declared.accept.AcceptFault.TheVariants as accept_fault
use Rattle.act_phase.specs.Deeds.{Scene, Acts, Gives, value_found, atom_found}
use Rattle.act_phase.specs.State.{State, doing_of, held_in, valued_of}
use Rattle.act_phase.specs.declared.outcome.ActionError.{ActionError}
use Rattle.act_phase.specs.declared.outcome.ActionError.TheVariants as mishap
use Rattle.act_phase.specs.declared.values.Values.{Values}
use Rattle.act_phase.specs.declared.values.Values.TheVariants as values
use Rattle.act_phase.proofs.Deeds.{does_nothing, does_given, still_all, still_done, still_short, silent_step, silent_fails}

module _ (classes : List Class) (doing : State) (t : Term) where
  abbrev pub evaluates : Spellings → Coming → Effect Missed Valued
  evaluates names d = silent (evaluated classes t (doing_of doing names d))

  abbrev leaves : List Value → Spellings → Coming → Effect Missed Valued
  leaves vs names d = writes [] (record { values = vs; doing = doing_of doing names d })

  pub constant_is : (v : Value) (names : Spellings) → t ≡ term.Constant v → (d : Coming) → evaluates names d ≡ leaves (v ∷ []) names d
  constant_is v names is d = ap (λ t. silent (evaluated classes t (doing_of doing names d))) is

  pub variable_is : (n : ℕ) (v : Value) (names : Spellings) → t ≡ term.Variable n → v ≡ unwrap_or (value_of doing.bindings n) nil → (d : Coming) → evaluates names d ≡ leaves (v ∷ []) names d
  variable_is n v names is same d =
      ap (λ t. silent (evaluated classes t (doing_of doing names d))) is ∙ ap (λ v. leaves (v ∷ []) names d) (sym same)

  pub one_is : (cell at : ℕ) (e : Element) (v : Value) (names : Spellings) → t ≡ term.One cell at → e ≡ held_in doing cell → v ≡ field_of e at → (d : Coming) → evaluates names d ≡ leaves (v ∷ []) names d
  one_is cell at e v names is here same d =
      ap (λ t. silent (evaluated classes t (doing_of doing names d))) is ∙ ap (λ v. leaves (v ∷ []) names d) (sym (same ∙ ap (λ e. field_of e at) here))

  pub rest_is : (cell : ℕ) (vs : List Value) (names : Spellings) → t ≡ term.Rest cell → (let e = held_in doing cell in vs ≡ drop (scalar_count (class_of classes e.class)) e.fields) → (d : Coming) → evaluates names d ≡ leaves vs names d
  rest_is cell vs names is same d =
      ap (λ t. silent (evaluated classes t (doing_of doing names d))) is ∙ ap (λ vs. leaves vs names d) (sym same)

  pub fresh_is : (sym : Sym) (names next : Spellings) → t ≡ term.Fresh → sym.0 ≡ length names.held → next ≡ with_fresh names → (d : Coming) → evaluates names d ≡ leaves (value.Symbol sym ∷ []) next d
  fresh_is s names next is place fresh d =
      ap (λ t. silent (evaluated classes t (doing_of doing names d))) is
      ∙ ap (λ n. leaves (value.Symbol (record { 0 = n }) ∷ []) (with_fresh names) d) (sym place) ∙ ap (λ n. leaves (value.Symbol s ∷ []) n d) (sym fresh)

-- ---- fresh atoms

pub fresh_ok : {S : Type 0} {view : Values → Coming → S} (x : Values) (a : Scene) (next : Spellings) (e : Coming → Effect Missed S) → next ≡ with_fresh a.names → IsTrue a.port.out.whole → ((d : Coming) → e d ≡ writes [] (view x d)) → Acts view (Ok x) a (record a { names = next }) e
fresh_ok {view = view} x a next e fresh w is =
    let p : Acts view (Ok x) a a e = does_nothing x a e w is in
    record { performs = p.performs; reads = p.reads; names = subst (KeepsNames a.names) (sym fresh) (fresh_keeps a.names); goes_on = p.goes_on }

-- memory ran out, and nothing has changed
pub fresh_err : {X S : Type 0} {view : X → Coming → S} (r : Result X ActionError) (a : Scene) (next : Spellings) (e : Coming → Effect Missed S) → IsErrAnd r (λ f. f ≡ mishap.OutOfMemory) → next ≡ a.names → IsTrue a.port.out.whole → Acts view r a (record a { names = next }) e
fresh_err {view = view} r a next e h same w =
    let P : Spellings → Type 0 = λ n. Acts view r a (record a { names = n }) e in
    subst P (sym same) (still_short r mishap.OutOfMemory h refl refl (still_all a e w))

-- ---- expressions

abbrev valued_by : Meant → Value → Valued
valued_by d v = record { values = v ∷ []; doing = d }

computed_then : (d : Meant) (o : Computed) → computed_as d o ≡ followed_by (outcome_as (valued_by d) (λ m. m) (value_found o)) (λ v. Ok v)
computed_then d (Ok v) = refl
computed_then d (Err kind) = refl

module _ (classes : List Class) (doing : State) (t : Term) (f : Formula) (is : t ≡ term.Compute f) (a : Scene) (w : IsTrue a.port.out.whole) where
  abbrev what : Result Value Missed
  what = value_found (computed (λ v. unwrap_or (value_of doing.bindings v) nil) f)

  computes : (d : Coming) → evaluated classes t (doing_of doing a.names d) ≡ followed_by (outcome_as (valued_by (doing_of doing a.names d)) (λ m. m) what) (λ v. Ok v)
  computes d =
      ap (λ t. evaluated classes t (doing_of doing a.names d)) is
      ∙ computed_then (doing_of doing a.names d) (computed (λ v. unwrap_or (value_of doing.bindings v) nil) f)

  pub compute_ok : (v : Value) → Gives (λ v. v) (Ok v) what → Acts (λ v d. valued_of v (doing_of doing a.names d)) (Ok (values.One v)) a a (evaluates classes doing t a.names)
  compute_ok v g =
      still_done (values.One v) (silent_step (λ v. Ok v) (still_all a (evaluates classes doing t a.names) w) (does_given {view = λ (v : Value). v} (λ d. valued_by (doing_of doing a.names d)) (Ok v) what a w g) computes) (λ d. refl)

  pub compute_err : {Y : Type 0} (seen : Y → Coming → Valued) (r : Result Y ActionError) (f : ActionError) → IsErrAnd r (λ g. g ≡ f) → Gives (λ v. v) (Err f) what → Acts seen r a a (evaluates classes doing t a.names)
  compute_err seen r f h g =
      silent_fails seen r (λ v. Ok v) h (still_all a (evaluates classes doing t a.names) w) (does_given {view = λ (v : Value). v} (λ d. valued_by (doing_of doing a.names d)) (Err f) what a w g) computes

-- ---- accepted atoms

abbrev valued_with : State → Accepted → Result Valued Missed
valued_with doing x = Ok (record { values = x.value ∷ []; doing = doing_of doing x.names x.coming })

accepted_then : (doing : State) (names : Spellings) (d : Coming) (o : Result Accepted AcceptFault) → accepted_in (doing_of doing names d) o ≡ followed_by (atom_found o) (valued_with doing)
accepted_then doing names d (Ok x) = refl
accepted_then doing names d (Err accept_fault.TooLong) = refl
accepted_then doing names d (Err accept_fault.Read) = refl
accepted_then doing names d (Err accept_fault.OutOfMemory) = refl

accepts : (classes : List Class) (doing : State) (t : Term) (names : Spellings) → t ≡ term.Accept → (d : Coming) → evaluated classes t (doing_of doing names d) ≡ followed_by (atom_found (accepted names d)) (valued_with doing)
accepts classes doing t names is d = ap (λ t. evaluated classes t (doing_of doing names d)) is ∙ accepted_then doing names d (accepted names d)

module _ (classes : List Class) (doing : State) (t : Term) (is : t ≡ term.Accept) {a b : Scene} (w : IsTrue a.port.out.whole) where
  pub accept_ok : (v : Value) (next : Spellings) → Acts (λ v d. record { value = v; names = next; coming = d }) (Ok v) a b (λ d. silent (atom_found (accepted a.names d)))
      → Acts (λ v d. valued_of v (doing_of doing next d)) (Ok (values.One v)) a b (evaluates classes doing t a.names)
  accept_ok v next p = still_done (values.One v) (silent_step (valued_with doing) (still_all a (evaluates classes doing t a.names) w) p (accepts classes doing t a.names is)) (λ d. refl)

  pub accept_err : {Y : Type 0} (seen : Y → Coming → Valued) (r : Result Y ActionError) (f : ActionError) (next : Spellings) → IsErrAnd r (λ g. g ≡ f) → Acts (λ v d. record { value = v; names = next; coming = d }) (Err f) a b (λ d. silent (atom_found (accepted a.names d)))
      → Acts seen r a b (evaluates classes doing t a.names)
  accept_err seen r f next h p = silent_fails seen r (valued_with doing) h (still_all a (evaluates classes doing t a.names) w) p (accepts classes doing t a.names is)
