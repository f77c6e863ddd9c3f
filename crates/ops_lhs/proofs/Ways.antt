-- Steps of the walk over a left side, in every state around it.
use Rattle.std.proofs.Common.{◌≡◌, ℕ, false, ◌||◌, List, ◌∷◌, ◌++◌, Option, Some, None, Result, Ok, Err, refl, sym, ap, ◌∙◌, subst}
use Rattle.ops_base.specs.declared.values.Value.{Value}
use Rattle.ops_base.specs.declared.values.Pred.{Pred}
use Rattle.ops_grammar.specs.declared.words.Word.{Word}
use Rattle.ops_grammar.specs.Grammar.{Use, Wanted, ToTest, Several, Atom, Choice, State, Step, Next, after, step, goes, is_right, is_caret, is_literal, closes_choice, constant_of, atom_of, constant_by, with_constant, with_choice_of, tested, one_of_several}
use Rattle.ops_forms.specs.declared.refusals.Refusal.{Refusal}
use Rattle.ops_forms.specs.declared.refusals.Refusal.TheVariants as refusal
use Rattle.ops_forms.specs.PlaceWalks.{FailsAmong, Onward, goes_onward}
use Rattle.ops_lhs.specs.declared.around.Around.{Around}
use Rattle.ops_lhs.specs.declared.left.Left.{Left}
use Rattle.ops_lhs.specs.Taking.{seen, view, IsAround, BeginsConstant}

-- ---- constants, which may be holes

-- the constant is refused
pub constant_fails : (X : Type 0) (a : Around) (w : Word) (old new : Left) (e : Refusal) (r : Result X Refusal) → r ≡ Err e → BeginsConstant a w old new r
    → (rest : List Word) (next : List Wanted → State → Step) → FailsAmong (IsAround a) (λ more ws s. after (goes (rest ++ more)) w (constant_by w.keyword (next ws) (seen s old))) e
constant_fails X a w old new refusal.OutOfMemory r is h rest next = tt
constant_fails X a w old new (refusal.At f None) r is h rest next = absurd (subst (λ (r : Result X Refusal). BeginsConstant a w old new r) is h)
constant_fails X a w old new (refusal.At f (Some v)) r is h rest next =
    let said = subst (λ (r : Result X Refusal). BeginsConstant a w old new r) is h in
    λ more ws s i. ap (after (goes (rest ++ more)) w) (said.1 (next ws) s i) ∙ ap (λ (x : Word). Err (f, Some x)) (sym said.0)

-- what is read of a left side, in that state, as it is in this one
abbrev as_in : State → State → State
as_in s x =
    record s {
      class = x.class;
      tests = x.tests;
      choice = x.choice;
      terms = x.terms;
      constants = x.constants;
      values = x.values;
      elements = x.elements;
      element = x.element;
      variables = x.variables;
      negated = x.negated;
      around = x.around;
      grouped = x.grouped;
      members = x.members;
      conditions = x.conditions;
      counted = x.counted;
      holes = x.holes;
    }

-- a constant is put there in every state
pub constant_added : (f : ℕ) (p : Pred) (old new : Left) (v : Value) → view new ≡ with_constant (ToTest f p) (view old) v → (s : State) → seen s new ≡ with_constant (ToTest f p) (seen s old) v
constant_added f p old new v e s = ap (as_in s) e

pub choice_added : (old new : Left) (v : Value) → view new ≡ with_choice_of (view old) v → (s : State) → seen s new ≡ with_choice_of (seen s old) v
choice_added old new v e s = ap (as_in s) e

pub tested_constant : (f : ℕ) (p : Pred) (w : Word) (v : Value) (ws : List Wanted) (s : State) → is_literal w.keyword ≡ false → constant_of w.kind w.name ≡ Some v → tested f p w ws s ≡ constant_by w.keyword (λ t. Next ws (with_constant (ToTest f p) t v)) s
tested_constant f p w v ws s plain is = rw (plain, is) refl

pub atom_first : (f : ℕ) (p : Pred) (words rest more : List Word) (w : Word) (v : Value) (ws : List Wanted) (s : State) → words ≡ w ∷ rest → atom_of w.kind w.name ≡ Some v → goes (words ++ more) (Atom (ToTest f p) ∷ ws) s ≡ after (goes (rest ++ more)) w (constant_by w.keyword (λ t. Next ws (with_constant (ToTest f p) t v)) s)
unfolding goes step
atom_first f p words rest more w v ws s e is = rw (e, is) refl

pub atom_onward : (f : ℕ) (p : Pred) (on : Onward) (words rest : List Word) (w : Word) (v : Value) (ws : List Wanted) (s : State) → words ≡ w ∷ rest → atom_of w.kind w.name ≡ Some v → goes_onward on words (Atom (ToTest f p) ∷ ws) s ≡ after (goes_onward on rest) w (constant_by w.keyword (λ t. Next ws (with_constant (ToTest f p) t v)) s)
unfolding goes_onward step
atom_onward f p on words rest w v ws s e is = rw (e, is) refl

pub choice_first : (f : ℕ) (words rest more : List Word) (w : Word) (v : Value) (ws : List Wanted) (s : State) → words ≡ w ∷ rest → closes_choice w.keyword ≡ false → atom_of w.kind w.name ≡ Some v → goes (words ++ more) (Choice f ∷ ws) s ≡ after (goes (rest ++ more)) w (constant_by w.keyword (λ t. Next (Choice f ∷ ws) (with_choice_of t v)) s)
unfolding goes step
choice_first f words rest more w v ws s e goes_on is = rw (e, goes_on, is) refl

pub choice_onward : (f : ℕ) (on : Onward) (words rest : List Word) (w : Word) (v : Value) (ws : List Wanted) (s : State) → words ≡ w ∷ rest → closes_choice w.keyword ≡ false → atom_of w.kind w.name ≡ Some v → goes_onward on words (Choice f ∷ ws) s ≡ after (goes_onward on rest) w (constant_by w.keyword (λ t. Next (Choice f ∷ ws) (with_choice_of t v)) s)
unfolding goes_onward step
choice_onward f on words rest w v ws s e goes_on is = rw (e, goes_on, is) refl

-- ---- the vector attribute

-- one place more of the vector attribute
pub several_onward : (u : Use) (f : ℕ) (on : Onward) (words rest : List Word) (w : Word) (ws : List Wanted) (s : State) → words ≡ w ∷ rest → (is_right w.kind || is_caret w.kind) ≡ false → goes_onward on words (Several u f ∷ ws) s ≡ after (goes_onward on rest) w (one_of_several u f w ws s)
unfolding goes_onward step
several_onward u f on words rest w ws s e other = rw (e, other) refl
