-- The values of a command: which words begin one.
use Rattle.std.proofs.Common.{◌≡◌, ℕ, Bool, true, false, ◌&&◌, not, if◌then◌else◌, List, [], ◌∷◌, ◌++◌, Option, Some, None, is_some, refl, sym, ap, ◌∙◌, subst, true≢false}
use Rattle.std.proofs.lemmas.Bool.{or_parts, cond_both}
use Rattle.ops_base.specs.declared.values.Value.{Value}
use Rattle.ops_base.specs.declared.endings.Fault.TheVariants as fault
use Rattle.ops_grammar.specs.declared.words.Keyword.{Keyword}
use Rattle.ops_grammar.specs.declared.words.Keyword.TheVariants as keyword
use Rattle.ops_grammar.specs.declared.words.Named.{Named}
use Rattle.ops_grammar.specs.declared.words.Word.{Word}
use Rattle.ops_grammar.specs.Grammar.{Target, ToConstants, Atom, Wanted, State, Step, Next, Refuses, is_left, is_literal, is_of_action, is_variable, value_of, number_of, values_around, filled, hole_of, constant_by, with_constant, bound_at, constant_at, value_for, atom_of, atom_at, goes, after, step, within}
use Rattle.ops_check.specs.declared.draft.Target.{Target as CommandTarget}
use Rattle.ops_check.specs.declared.draft.Target.TheVariants as target
use Rattle.ops_check.specs.Walks.{target_of, begins_value}

-- a word is taken, or refused as no part of the grammar
abbrev IsTaken : Step → Type 0
IsTaken (Next ws s) = Unit {0}
IsTaken (Refuses f) = ⊥

refused : (r : Step) → (IsTaken r → ⊥) → (b : Bool) → within b r ≡ r
refused (Next ws s) h b = absurd (h tt)
refused (Refuses f) h true = refl
refused (Refuses f) h false = refl

not_false : (b : Bool) → not b ≡ false → b ≡ true
not_false true e = refl
not_false false e = absurd (true≢false e)

and_second : (x y : Bool) → y ≡ false → (x && y) ≡ false
and_second true y e = e
and_second false y e = refl

pub hole_refused : (k : Keyword) (next : State → Step) (s : State) → values_around s.outer ≡ [] → is_some (hole_of k) ≡ true → constant_by k next s ≡ Refuses fault.UnboundVariable
hole_refused (keyword.Hole variable at) next s none h = ap (λ (xs : List Named). filled (number_of variable xs) next s) none
hole_refused _ next s none h = absurd (true≢false (sym h))

pub not_named : (k : Keyword) (next : State → Step) (s : State) → is_some (hole_of k) ≡ false → constant_by k next s ≡ next s
not_named (keyword.Hole variable at) next s h = absurd (true≢false h)
not_named _ next s h = refl

module _ (w : Word) (ws : List Wanted) (s : State) (none : values_around s.outer ≡ []) where
  -- no function stands in a command
  plain_value : (t : Target) → is_of_action t ≡ false → value_for t w ws s ≡ (if is_literal w.keyword then Next (Atom t ∷ ws) s else constant_at t w (value_of w.kind w.name) ws s)
  plain_value t e = rw (and_second (is_left w.kind) (is_of_action t) e) refl

  bound_refused : (o : Option ℕ) → IsTaken (bound_at ToConstants o ws s) → ⊥
  bound_refused (Some n) t = t
  bound_refused None t = t

  constant_at_refused : (o : Option Value) → (is_some o && not (is_some (hole_of w.keyword))) ≡ false → IsTaken (constant_at ToConstants w o ws s) → ⊥
  constant_at_refused (Some v) h =
      subst (λ r. IsTaken r → ⊥) (sym (hole_refused w.keyword (λ r. Next ws (with_constant ToConstants r v)) s none (not_false _ h))) (λ t. t)
  constant_at_refused None h = cond_both (is_variable w.kind) _ _ (λ r. IsTaken r → ⊥) (λ _. bound_refused (number_of w.name s.values)) (λ _ t. t)

  value_refused : begins_value w ≡ false → IsTaken (value_for ToConstants w ws s) → ⊥
  value_refused h =
      let parts = or_parts (is_literal w.keyword) _ h in
      subst (λ r. IsTaken r → ⊥) (sym (plain_value ToConstants refl))
      (cond_both (is_literal w.keyword) _ _ (λ r. IsTaken r → ⊥) (λ is. absurd (true≢false (sym is ∙ parts.0))) (λ _. constant_at_refused (value_of w.kind w.name) parts.1))

  -- another word is refused whether there is room or not
  pub no_value : begins_value w ≡ false → (room : Bool) → within room (value_for ToConstants w ws s) ≡ value_for ToConstants w ws s
  no_value h room = refused (value_for ToConstants w ws s) (value_refused h) room

  -- ---- what a constant of a command does

  value_is : (t : Target) (v : Value) → is_of_action t ≡ false → is_literal w.keyword ≡ false → value_of w.kind w.name ≡ Some v → value_for t w ws s ≡ constant_by w.keyword (λ r. Next ws (with_constant t r v)) s
  value_is t v e plain is = plain_value t e ∙ rw (plain, is) refl

  pub value_hole : (t : Target) (v : Value) → is_of_action t ≡ false → is_literal w.keyword ≡ false → value_of w.kind w.name ≡ Some v → is_some (hole_of w.keyword) ≡ true → value_for t w ws s ≡ Refuses fault.UnboundVariable
  value_hole t v e plain is hole = value_is t v e plain is ∙ hole_refused w.keyword (λ r. Next ws (with_constant t r v)) s none hole

  pub value_plain : (t : Target) (v : Value) → is_of_action t ≡ false → is_literal w.keyword ≡ false → value_of w.kind w.name ≡ Some v → is_some (hole_of w.keyword) ≡ false → value_for t w ws s ≡ Next ws (with_constant t s v)
  value_plain t v e plain is hole = value_is t v e plain is ∙ not_named w.keyword (λ r. Next ws (with_constant t r v)) s hole

  pub atom_hole : (t : Target) (v : Value) → atom_of w.kind w.name ≡ Some v → is_some (hole_of w.keyword) ≡ true → atom_at t w.keyword (atom_of w.kind w.name) ws s ≡ Refuses fault.UnboundVariable
  atom_hole t v is hole = rw is (hole_refused w.keyword (λ r. Next ws (with_constant t r v)) s none hole)

  pub atom_plain : (t : Target) (v : Value) → atom_of w.kind w.name ≡ Some v → is_some (hole_of w.keyword) ≡ false → atom_at t w.keyword (atom_of w.kind w.name) ws s ≡ Next ws (with_constant t s v)
  atom_plain t v is hole = rw is (not_named w.keyword (λ r. Next ws (with_constant t r v)) s hole)

pub atom_first : (t : Target) (words rest more : List Word) (w : Word) (ws : List Wanted) (s : State) → words ≡ w ∷ rest → goes (words ++ more) (Atom t ∷ ws) s ≡ after (goes (rest ++ more)) w (atom_at t w.keyword (atom_of w.kind w.name) ws s)
unfolding goes step
atom_first t words rest more w ws s e = rw e refl

-- a constant of a command goes to no action
pub of_command : (t : CommandTarget) → is_of_action (target_of t) ≡ false
of_command (target.Fixed f) = refl
of_command target.Constants = refl
