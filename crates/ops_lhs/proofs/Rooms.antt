-- Which words begin a place, and where an element has room for it.
use Rattle.std.proofs.Common.{◌≡◌, ℕ, Bool, true, false, ◌||◌, ◌&&◌, List, Option, Some, None, is_some, refl, sym, ap, ◌∙◌, true≢false}
use Rattle.std.proofs.lemmas.Bool.{or_parts, cond_both}
use Rattle.ops_base.specs.declared.values.Value.{Value}
use Rattle.ops_base.specs.declared.values.Pred.{Pred}
use Rattle.ops_base.specs.declared.values.Pred.TheVariants as pred
use Rattle.ops_base.specs.declared.endings.Fault.TheVariants as fault
use Rattle.ops_base.specs.declared.endings.Limit.TheVariants as limit
use Rattle.ops_base.specs.declared.values.Sym.{Sym}
use Rattle.ops_tokens.specs.declared.token.TokenKind.{TokenKind}
use Rattle.ops_tokens.specs.declared.token.TokenKind.TheVariants as kind
use Rattle.ops_grammar.specs.declared.words.Keyword.{Keyword}
use Rattle.ops_grammar.specs.declared.words.Keyword.TheVariants as keyword
use Rattle.ops_grammar.specs.declared.words.Named.{Named}
use Rattle.ops_grammar.specs.declared.words.Word.{Word}
use Rattle.ops_grammar.specs.Grammar.{ToTest, Wanted, State, Step, Next, Refuses, is_left_brace, is_literal, is_variable, opens_choice, pred_of, constant_of, number_of, values_around, filled, constant_by, with_constant, variable_tested, constant_tested, tested, predicated, place, within}
use Rattle.ops_lhs.specs.Taking.{may_fill, begins_place}

-- a word is taken, or refused as no part of the grammar
abbrev IsTaken : Step → Type 0
IsTaken (Next ws s) = Unit {0}
IsTaken (Refuses f) = ⊥

or_second : (x y : Bool) → x ≡ false → (x || y) ≡ true → y ≡ true
or_second true y is_not h = absurd (true≢false is_not)
or_second false y is_not h = h

or_first : (x y : Bool) → y ≡ false → (x || y) ≡ true → x ≡ true
or_first true y is_not h = refl
or_first false y is_not h = absurd (true≢false (sym h ∙ is_not))

passed : (r : Step) → IsTaken r → within false r ≡ Refuses (fault.LimitPassed limit.Fields)
passed (Next ws s) h = refl
passed (Refuses f) h = absurd h

refused : (r : Step) → (IsTaken r → ⊥) → (b : Bool) → within b r ≡ r
refused (Next ws s) h b = absurd (h tt)
refused (Refuses f) h true = refl
refused (Refuses f) h false = refl

-- ---- constants

-- a constant is no variable
not_variable : (k : TokenKind) (name : Sym) (v : Value) → constant_of k name ≡ Some v → is_variable k ≡ false
not_variable kind.Variable name v e = absurd cc
not_variable _ name v e = refl

module _ (ws : List Wanted) (f : State → State) (s : State) (a : List Named) (around : values_around s.outer ≡ a) where
  filled_taken : (variable : Sym) → is_some (number_of variable a) ≡ true → (o : Option ℕ) → number_of variable (values_around s.outer) ≡ o → IsTaken (filled o (λ t. Next ws (f t)) s)
  filled_taken variable h (Some n) e = tt
  filled_taken variable h None e = absurd (true≢false (sym h ∙ ap (λ (xs : List Named). is_some (number_of variable xs)) (sym around) ∙ ap is_some e))

  constant_begun : (k : Keyword) → may_fill a k ≡ true → IsTaken (constant_by k (λ t. Next ws (f t)) s)
  constant_begun (keyword.Hole variable at) h = filled_taken variable h (number_of variable (values_around s.outer)) refl
  constant_begun _ h = tt

  unfilled_refused : (variable : Sym) → is_some (number_of variable a) ≡ false → (o : Option ℕ) → number_of variable (values_around s.outer) ≡ o → IsTaken (filled o (λ t. Next ws (f t)) s) → ⊥
  unfilled_refused variable h (Some n) e t = true≢false (ap is_some (sym e) ∙ ap (λ (xs : List Named). is_some (number_of variable xs)) around ∙ h)
  unfilled_refused variable h None e t = t

  hole_refused : (k : Keyword) → may_fill a k ≡ false → IsTaken (constant_by k (λ t. Next ws (f t)) s) → ⊥
  hole_refused (keyword.Hole variable at) h = unfilled_refused variable h (number_of variable (values_around s.outer)) refl
  hole_refused _ h = absurd (true≢false h)

module _ (f : ℕ) (w : Word) (ws : List Wanted) (s : State) (a : List Named) (around : values_around s.outer ≡ a) where
  variable_taken : (o : Option ℕ) → IsTaken (variable_tested f pred.Eq o w.name ws s)
  variable_taken (Some n) = tt
  variable_taken None = tt

  constant_taken : (o : Option Value) → constant_of w.kind w.name ≡ o → ((is_some o && may_fill a w.keyword) || is_variable w.kind) ≡ true → IsTaken (constant_tested f pred.Eq w o ws s)
  constant_taken (Some v) e h = constant_begun ws (λ t. with_constant (ToTest f pred.Eq) t v) s a around w.keyword (or_first _ _ (not_variable w.kind w.name v e) h)
  constant_taken None e h =
      cond_both (is_variable w.kind) _ _ IsTaken (λ _. variable_taken (number_of w.name s.values)) (λ is_not. absurd (true≢false (sym h ∙ is_not)))

  tested_taken : (is_literal w.keyword || ((is_some (constant_of w.kind w.name) && may_fill a w.keyword) || is_variable w.kind)) ≡ true → IsTaken (tested f pred.Eq w ws s)
  tested_taken h =
      cond_both (is_literal w.keyword) _ _ IsTaken (λ _. tt)
      (λ is_not. constant_taken (constant_of w.kind w.name) refl (or_second _ _ is_not h))

  predicated_taken : (o : Option Pred) → (is_some o || (is_literal w.keyword || ((is_some (constant_of w.kind w.name) && may_fill a w.keyword) || is_variable w.kind))) ≡ true → IsTaken (predicated f w o ws s)
  predicated_taken (Some p) h = tt
  predicated_taken None h = tested_taken h

  place_taken : begins_place a w ≡ true → IsTaken (place f w ws s)
  place_taken h =
      cond_both (is_left_brace w.kind) _ _ IsTaken (λ _. tt)
      (λ is_not. cond_both (opens_choice w.keyword) _ _ IsTaken (λ _. tt)
      (λ none. predicated_taken (pred_of w.keyword) (or_second _ _ none (or_second _ _ is_not h))))

  -- a word that begins a place has no room
  pub place_passed : begins_place a w ≡ true → within false (place f w ws s) ≡ Refuses (fault.LimitPassed limit.Fields)
  place_passed h = passed (place f w ws s) (place_taken h)

  constant_refused : (o : Option Value) → ((is_some o && may_fill a w.keyword) || is_variable w.kind) ≡ false → IsTaken (constant_tested f pred.Eq w o ws s) → ⊥
  constant_refused (Some v) h = hole_refused ws (λ t. with_constant (ToTest f pred.Eq) t v) s a around w.keyword (or_parts (may_fill a w.keyword) _ h).0
  constant_refused None h = cond_both (is_variable w.kind) _ _ (λ r. IsTaken r → ⊥) (λ is. absurd (true≢false (sym is ∙ h))) (λ _ t. t)

  predicated_refused : (o : Option Pred) → (is_some o || (is_literal w.keyword || ((is_some (constant_of w.kind w.name) && may_fill a w.keyword) || is_variable w.kind))) ≡ false → IsTaken (predicated f w o ws s) → ⊥
  predicated_refused (Some p) h = absurd (true≢false h)
  predicated_refused None h =
      let parts = or_parts (is_literal w.keyword) _ h in
      cond_both (is_literal w.keyword) _ _ (λ r. IsTaken r → ⊥) (λ is. absurd (true≢false (sym is ∙ parts.0))) (λ _. constant_refused (constant_of w.kind w.name) parts.1)

  place_refused : begins_place a w ≡ false → IsTaken (place f w ws s) → ⊥
  place_refused h =
      let parts = or_parts (is_left_brace w.kind) _ h in
      let rest = or_parts (opens_choice w.keyword) _ parts.1 in
      cond_both (is_left_brace w.kind) _ _ (λ r. IsTaken r → ⊥) (λ is. absurd (true≢false (sym is ∙ parts.0)))
      (λ _. cond_both (opens_choice w.keyword) _ _ (λ r. IsTaken r → ⊥) (λ is. absurd (true≢false (sym is ∙ rest.0)))
      (λ _. predicated_refused (pred_of w.keyword) rest.1))

  -- another word is refused whether there is room or not
  pub no_place : begins_place a w ≡ false → (room : Bool) → within room (place f w ws s) ≡ place f w ws s
  no_place h room = refused (place f w ws s) (place_refused h) room
