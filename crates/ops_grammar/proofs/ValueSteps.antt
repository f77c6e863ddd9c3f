-- Each word of a value of an action leads from what is sound to what is sound.
use Rattle.ops_grammar.specs.declared.words.Named.{Named}
use Rattle.std.proofs.Common.{◌≡◌, ℕ, suc, ◌<◌, ◌≤◌, Bool, true, false, ◌&&◌, ◌==◌, List, [], ◌∷◌, ◌++◌, refl, sym, ap, subst, ◌∙◌, arith, Option, Some, None, length-append, unwrap_or, slice_get, position, nat_lt, ◌+◌}
use Rattle.std.specs.List.{list_all}
use Rattle.std.proofs.lemmas.Bool.{and_parts, and_from, cond_both, lt-ltb}
use Rattle.std.proofs.lemmas.List.Quantifiers.{position-Some}
use Rattle.ops_base.specs.declared.values.Sym.{Sym}
use Rattle.ops_base.specs.declared.values.Value.{Value}
use Rattle.ops_base.specs.declared.elements.Class.{Class}
use Rattle.ops_base.specs.declared.actions.Term.{Term}
use Rattle.ops_base.specs.declared.actions.Term.TheVariants as term
use Rattle.ops_base.specs.declared.actions.Put.{Put}
use Rattle.ops_base.specs.declared.actions.Item.{Item}
use Rattle.ops_base.specs.declared.actions.Item.TheVariants as item
use Rattle.ops_base.specs.declared.actions.Action.{Action}
use Rattle.ops_base.specs.declared.actions.Action.TheVariants as action
use Rattle.ops_base.specs.declared.expression.Op.{Op}
use Rattle.ops_base.specs.Expression.{Formula}
use Rattle.ops_base.specs.Expression as formula
use Rattle.ops_base.specs.Valid.{longest_list, class_of, is_attribute, class_of_cell, Known, known_after, term_is_valid, put_is_valid, item_is_valid, action_is_valid, builds_from}
use Rattle.ops_tokens.specs.declared.token.TokenKind.{TokenKind}
use Rattle.ops_tokens.specs.declared.token.TokenKind.TheVariants as kind
use Rattle.ops_grammar.specs.declared.words.Word.{Word}
use Rattle.ops_grammar.specs.declared.words.Keyword.{Keyword}
use Rattle.ops_grammar.specs.declared.words.Keyword.TheVariants as keyword
use Rattle.ops_grammar.specs.Grammar.{InPut, EndsWhole, Waiting, Wanted, SourceAttribute, Closes, State, Next, is_left, is_right, is_name, is_variable, is_literal, is_inf, is_compute, operation_of, value_of, number_of, with_constant, with_bind, term_at, atom_at, bound_at, constant_at, is_of_action, value_for, most_brackets, function_depth, no_formula, with_formula, completed, unit_bound, unit_at, expression_unit, bracketed, operation_at, expression_ended, expression_rest, function, bound_value, source_named, source_cell, source_class, source_at, source_attribute, takes_several, ends_at_inf, source_end, closes, Outer, is_built, counting, with_hole, values_around, constant_by}
use Rattle.ops_grammar.proofs.Lists.{all_push}
use Rattle.ops_grammar.proofs.Sound.{IsShort, IsBody, known_in, Side, Knows, IsElement, Body, Bare, Slot, InScalar, InVector, InWrite, InBind, target_of, behind_value, AtValue, formula_is_known, Opened, opened_is_known, into_opened, behind_operand, AtOperand, HasOperand, HasSource, HasSourceField, variables_of, side_of, IsRead, at_terms, at_several, at_items, at_actions, at_action_end, at_atom, at_function, at_expression_unit, at_bracketed, at_expression_rest, at_source_cell, at_source_attribute, at_source_end, at_value_end, Leads, sides}
use Rattle.ops_grammar.proofs.Grown.{number_in, action_added, value_known, element_known, bound_again, bound_first, put_valid, vector_parts, body_holed}
use Rattle.ops_grammar.proofs.Constants.{constant_cases}

-- the word stands in a text of this length, from the place on
pub record IsPlaced (text n : ℕ) (w : Word) : Type 0 where
  pub begins : n ≤ w.first
  pub some : w.first < w.past
  pub within : w.past ≤ text

module _ (text : ℕ) where
  -- an action more
  pub added : (s : State) (a : Action) (values elements : List Named) (given : ℕ) (r : Side) → Body text s → action_is_valid s.classes (known_in s) a ≡ true → builds_from 0 a ≡ true
      → Knows (known_after (known_in s) a) (record (variables_of s) { values = values; elements = elements; given = given }) s.conditions r
      → IsBody text s.classes s.rules s.templates s.commands s.name (record (variables_of s) { values = values; elements = elements; given = given }) s.conditions r (s.actions ++ a ∷ [])
  added s a values elements given r g valid builds knows =
      action_added text s.classes s.rules s.templates s.commands s.name (variables_of s) values elements given s.conditions (side_of s) r s.actions a g valid builds knows

  put_added : (s : State) (f : ℕ) (t : Term) → IsElement InPut text s → is_attribute (class_of s.classes s.class) f ≡ true → term_is_valid s.classes (known_in s) false t ≡ true
      → IsElement InPut text (record s { puts = s.puts ++ record { field = f; terms = t ∷ [] } ∷ [] })
  put_added s f t h a valid =
      record {
        around = h.around;
        class = h.class;
        fields = all_push (put_is_valid s.classes (known_in s) (class_of s.classes s.class)) s.puts (record { field = f; terms = t ∷ [] }) h.fields
            (put_valid s.classes (known_in s) (class_of s.classes s.class) f t a valid);
      }

  bind_added : (s : State) (t : Term) → Body text s → term_is_valid s.classes (known_in s) false t ≡ true → (o : Option ℕ) → number_of s.variable s.values ≡ o → Body text (with_bind o s t)
  bind_added s t g valid (Some m) e =
      added s (action.Bind m t) s.values s.elements s.variables (side_of s) g valid refl
      (bound_again (known_in s) (variables_of s) s.conditions (side_of s) g.knows m t (number_in s.variable s.values m e))
  bind_added s t g valid None e =
      added s (action.Bind s.variables t) (s.values ++ record { name = s.variable; number = s.variables } ∷ []) s.elements (s.variables + 1) (side_of s) g valid refl
      (bound_first (known_in s) (variables_of s) s.conditions (side_of s) g.knows s.variable t)

  holed : (s : State) (variable : Sym) (m : ℕ) → number_of variable (values_around s.outer) ≡ Some m → Body text s → Body text (with_hole s m)
  holed s variable m e g = body_holed text s.classes s.rules s.templates s.commands s.name (variables_of s) s.conditions (side_of s) s.actions variable s.counted m g e

  -- ---- where a value stands

  body_at : (slot : Slot) (s : State) → AtValue slot text s → Body text s
  body_at (InScalar f) s g = g.0.around
  body_at (InVector f) s g = g.0.around
  body_at InWrite s g = g.0
  body_at InBind s g = g

  value_left : (slot : Slot) (s : State) → AtValue slot text s → IsRead text s (behind_value s.outer slot)
  value_left (InScalar f) s g = at_terms Bare InPut g.0
  value_left (InVector f) s g = at_several Bare InPut f g
  value_left InWrite s g = at_items g
  value_left InBind s g = at_action_end g

  -- what a `substr` names leaves all else as it is
  with_source : (slot : Slot) (s : State) (c f : ℕ) → AtValue slot text s → AtValue slot text (record s { source = c; source_field = f })
  with_source (InScalar k) s c f g = (record { around = g.0.around; class = g.0.class; fields = g.0.fields }, g.1)
  with_source (InVector k) s c f g = (record { around = g.0.around; class = g.0.class; fields = g.0.fields }, g.1, g.2)
  with_source InWrite s c f g = g
  with_source InBind s c f g = g

  -- so does the operand that was read last
  formula_left : (slot : Slot) (s : State) (f : Formula) → AtValue slot text s → AtValue slot text (with_formula s f)
  formula_left (InScalar k) s f g = (record { around = g.0.around; class = g.0.class; fields = g.0.fields }, g.1)
  formula_left (InVector k) s f g = (record { around = g.0.around; class = g.0.class; fields = g.0.fields }, g.1, g.2)
  formula_left InWrite s f g = g
  formula_left InBind s f g = g

-- Where an operand and all that waits for it are known, so is what they make.
completed_known : (k : Known) (f : Formula) (waiting : List Waiting) → formula_is_known k f ≡ true → list_all (λ w. formula_is_known k w.left) waiting ≡ true → formula_is_known k (completed f waiting) ≡ true
completed_known k f [] h e = h
completed_known k f (w ∷ waiting) h e =
    let parts = and_parts (formula_is_known k w.left) (list_all (λ w. formula_is_known k w.left) waiting) e in
    completed_known k (formula.apply w.op w.left f) waiting (and_from _ _ h parts.0) parts.1

module _ (text n : ℕ) (w : Word) (fit : text ≤ longest_list) (placed : IsPlaced text n w) where
  -- ---- a term

  -- a value that was read changes nothing else
  counted_left : (slot : Slot) (s : State) → AtValue slot text s → AtValue slot text (counting s)
  counted_left (InScalar k) s g = (record { around = g.0.around; class = g.0.class; fields = g.0.fields }, g.1)
  counted_left (InVector k) s g = (record { around = g.0.around; class = g.0.class; fields = g.0.fields }, g.1, g.2)
  counted_left InWrite s g = g
  counted_left InBind s g = g

  -- a hole more leaves all else as it is
  hole_left : (slot : Slot) (s : State) (variable : Sym) (m : ℕ) → number_of variable (values_around s.outer) ≡ Some m → AtValue slot text s → AtValue slot text (with_hole s m)
  hole_left (InScalar k) s variable m e g =
      (record { around = holed text s variable m e g.0.around; class = g.0.class; fields = g.0.fields }, g.1)
  hole_left (InVector k) s variable m e g =
      (record { around = holed text s variable m e g.0.around; class = g.0.class; fields = g.0.fields }, g.1, g.2)
  hole_left InWrite s variable m e g = (holed text s variable m e g.0, g.1)
  hole_left InBind s variable m e g = holed text s variable m e g

  bind_leads : (t : Term) (s : State) (ws : List Wanted) → IsShort n s → (o : Option ℕ) → IsRead text (with_bind o s t) ws → Leads text w.past (Next ws (with_bind o s t))
  bind_leads t s ws short (Some m) next = (omega (arith, length-append {A = Action}), next)
  bind_leads t s ws short None next = (omega (arith, length-append {A = Action}), next)

  -- a term more, and after it what may be wanted there
  term_leads : (slot : Slot) (t : Term) (s : State) (ws : List Wanted) → IsShort n s → AtValue slot text s → term_is_valid s.classes (known_in s) (takes_several (target_of slot)) t ≡ true
      → ((s' : State) → s'.outer ≡ s.outer → AtValue slot text s' → IsRead text s' ws) → Leads text w.past (term_at (target_of slot) t ws s)
  term_leads (InScalar f) t s ws short g valid next = (omega (arith, length-append {A = Put}), next _ refl (put_added text s f t g.0 g.1 valid, g.1))
  term_leads (InVector f) t s ws short g valid next =
      let same : IsElement InPut text (record s { terms = s.terms ++ t ∷ [] }) = record { around = g.0.around; class = g.0.class; fields = g.0.fields } in
      (omega (arith, length-append {A = Term}), next _ refl (same, g.1, all_push (term_is_valid s.classes (known_in s) true) s.terms t g.2 valid))
  term_leads InWrite t s ws short g valid next =
      (omega (arith, length-append {A = Item}), next _ refl (g.0, all_push (item_is_valid s.classes (known_in s)) s.items (item.Print t) g.1 valid))
  term_leads InBind t s ws short g valid next =
      let o = number_of s.variable s.values in bind_leads t s ws short o (next _ (bind_outer o s t) (bind_added text s t g valid o refl))
    where
      bind_outer : (o : Option ℕ) (s : State) (t : Term) → (with_bind o s t).outer ≡ s.outer
      bind_outer (Some m) s t = refl
      bind_outer None s t = refl

  -- what is wanted after the value
  left_by : (slot : Slot) (o : Option Outer) (s' : State) → s'.outer ≡ o → AtValue slot text s' → IsRead text s' (behind_value o slot)
  left_by slot o s' e g = subst (λ (x : Option Outer). IsRead text s' (behind_value x slot)) e (value_left text slot s' g)

  one_term_leads : (slot : Slot) (t : Term) (s : State) → IsShort n s → AtValue slot text s → term_is_valid s.classes (known_in s) (takes_several (target_of slot)) t ≡ true → Leads text w.past (term_at (target_of slot) t (behind_value s.outer slot) s)
  one_term_leads slot t s short g valid = term_leads slot t s (behind_value s.outer slot) short g valid (λ s' e h. left_by slot s.outer s' e h)

  -- ---- constants and variables

  -- a constant, as what it counts
  constant_put : (slot : Slot) (v : Value) (s : State) → IsShort n s → AtValue slot text s → Leads text w.past (Next (behind_value s.outer slot) (with_constant (target_of slot) s v))
  constant_put (InScalar f) v s short g =
      (omega (arith, length-append {A = Put}), value_left text (InScalar f) _ (counted_left (InScalar f) _ (put_added text s f (term.Constant v) g.0 g.1 refl, g.1)))
  constant_put (InVector f) v s short g =
      let same : IsElement InPut text (counting (record s { terms = s.terms ++ term.Constant v ∷ [] })) = record { around = g.0.around; class = g.0.class; fields = g.0.fields } in
      (omega (arith, length-append {A = Term}), value_left text (InVector f) _ (same, g.1, all_push (term_is_valid s.classes (known_in s) true) s.terms (term.Constant v) g.2 refl))
  constant_put InWrite v s short g =
      (omega (arith, length-append {A = Item}), value_left text InWrite _ (g.0, all_push (item_is_valid s.classes (known_in s)) s.items (item.Print (term.Constant v)) g.1 refl))
  constant_put InBind v s short g = by (number_of s.variable s.values) refl
    where
      by : (o : Option ℕ) → number_of s.variable s.values ≡ o → Leads text w.past (Next (behind_value s.outer InBind) (counting (with_bind o s (term.Constant v))))
      by (Some m) e = (omega (arith, length-append {A = Action}), value_left text InBind _ (bind_added text s (term.Constant v) g refl (Some m) e))
      by None e = (omega (arith, length-append {A = Action}), value_left text InBind _ (bind_added text s (term.Constant v) g refl None e))

  constant_leads : (slot : Slot) (v : Value) (s : State) → IsShort n s → AtValue slot text s → Leads text w.past (constant_by w.keyword (λ r. Next (behind_value s.outer slot) (with_constant (target_of slot) r v)) s)
  constant_leads slot v s short g =
      constant_cases w.keyword (λ r. Next (behind_value s.outer slot) (with_constant (target_of slot) r v)) s (Leads text w.past) (λ _. tt) (constant_put slot v s short g)
      (λ variable m e. constant_put slot v (with_hole s m) short (hole_left slot s variable m e g))

  pub atom_leads : (slot : Slot) (s : State) → IsShort n s → AtValue slot text s → (o : Option Value) → Leads text w.past (atom_at (target_of slot) w.keyword o (behind_value s.outer slot) s)
  atom_leads slot s short g (Some v) = constant_leads slot v s short g
  atom_leads slot s short g None = tt

  bound_leads : (slot : Slot) (s : State) → IsShort n s → AtValue slot text s → (o : Option ℕ) → number_of w.name s.values ≡ o → Leads text w.past (bound_at (target_of slot) o (behind_value s.outer slot) s)
  bound_leads slot s short g (Some m) e = one_term_leads slot (term.Variable m) s short g (value_known w.name m (body_at text slot s g).knows e)
  bound_leads slot s short g None e = tt

  word_leads : (slot : Slot) (s : State) → IsShort n s → AtValue slot text s → (o : Option Value) → Leads text w.past (constant_at (target_of slot) w o (behind_value s.outer slot) s)
  word_leads slot s short g (Some v) = constant_leads slot v s short g
  word_leads slot s short g None = cond_both (is_variable w.kind) _ _ (Leads text w.past) (λ _. bound_leads slot s short g (number_of w.name s.values) refl) (λ _. tt)

  pub value_leads : (slot : Slot) (s : State) → IsShort n s → AtValue slot text s → Leads text w.past (value_for (target_of slot) w (behind_value s.outer slot) s)
  value_leads slot s short g =
      cond_both (is_literal w.keyword) _ _ (Leads text w.past) (λ _. (omega arith, at_atom slot g))
      (λ _. cond_both (is_left w.kind && is_of_action (target_of slot)) _ _ (Leads text w.past) (λ _. (omega arith, at_function slot g))
      (λ _. word_leads slot s short g (value_of w.kind w.name)))

  fresh_leads : (s : State) → Body text s → (o : Option ℕ) → number_of s.variable s.values ≡ o → IsRead text (with_bind o s term.Fresh) (sides s.outer)
  fresh_leads s g (Some m) e = at_actions (bind_added text s term.Fresh g refl (Some m) e)
  fresh_leads s g None e = at_actions (bind_added text s term.Fresh g refl None e)

  -- after a `bind` without a value its variable is bound to a fresh atom
  pub bound_value_leads : (s : State) → IsShort n s → Body text s → Leads text w.past (bound_value w (sides s.outer) s)
  bound_value_leads s short g =
      let o = number_of s.variable s.values in
      cond_both (is_right w.kind) _ _ (Leads text w.past)
      (λ _. bind_leads term.Fresh s (sides s.outer) short o (fresh_leads s g o refl))
      (λ _. value_leads InBind s short g)

  -- ---- functions

  -- a function that is done at its word, up to its bracket
  function_term_leads : (slot : Slot) (t : Term) (s : State) → IsShort n s → AtValue slot text s → term_is_valid s.classes (known_in s) (takes_several (target_of slot)) t ≡ true
      → Leads text w.past (term_at (target_of slot) t (Closes EndsWhole ∷ behind_value s.outer slot) s)
  function_term_leads slot t s short g valid = term_leads slot t s (Closes EndsWhole ∷ behind_value s.outer slot) short g valid (λ s' e h. subst (λ (x : Option Outer). IsRead text s' (Closes EndsWhole ∷ behind_value x slot)) e (at_value_end slot h))

  pub function_leads : (slot : Slot) (s : State) → IsShort n s → AtValue slot text s → (k : Keyword) → Leads text w.past (function (target_of slot) k (behind_value s.outer slot) s)
  function_leads slot s short g keyword.Substr = (omega arith, at_source_cell slot g)
  function_leads slot s short g keyword.Compute = (omega arith, at_expression_unit slot (function_depth (is_built s)) (record { depth = function_depth (is_built s); waiting = [] }) [] (g, refl))
  function_leads slot s short g keyword.Genatom = function_term_leads slot term.Fresh s short g refl
  function_leads slot s short g keyword.Accept = function_term_leads slot term.Accept s short g refl
  function_leads slot s short g _ = tt

  -- ---- compute

  operand_leads : (slot : Slot) (o : Opened) (os : List Opened) (f : Formula) (s : State) → IsShort n s → AtOperand slot (o ∷ os) text s → formula_is_known (known_in s) f ≡ true
      → Leads text w.past (Next (behind_operand s.outer slot (o ∷ os)) (with_formula s f))
  operand_leads slot o os f s short g known = (omega arith, at_expression_rest slot o os ((formula_left text slot s f g.0, g.1), known))

  unit_bound_leads : (slot : Slot) (o : Opened) (os : List Opened) (s : State) → IsShort n s → AtOperand slot (o ∷ os) text s → (number : Option ℕ) → number_of w.name s.values ≡ number
      → Leads text w.past (unit_bound number (behind_operand s.outer slot (o ∷ os)) s)
  unit_bound_leads slot o os s short g (Some m) e = operand_leads slot o os (formula.variable m) s short g (value_known w.name m (body_at text slot s g.0).knows e)
  unit_bound_leads slot o os s short g None e = tt

  unit_at_leads : (slot : Slot) (o : Opened) (os : List Opened) (s : State) → IsShort n s → AtOperand slot (o ∷ os) text s → (k : TokenKind) → Leads text w.past (unit_at k w.name (behind_operand s.outer slot (o ∷ os)) s)
  unit_at_leads slot o os s short g (kind.Whole z) = operand_leads slot o os (formula.number z) s short g refl
  unit_at_leads slot o os s short g kind.Variable = unit_bound_leads slot o os s short g (number_of w.name s.values) refl
  unit_at_leads slot o os s short g _ = tt

  pub expression_unit_leads : (slot : Slot) (depth : ℕ) (o : Opened) (os : List Opened) (s : State) → IsShort n s → AtOperand slot (o ∷ os) text s → Leads text w.past (expression_unit depth w (behind_operand s.outer slot (o ∷ os)) s)
  expression_unit_leads slot depth o os s short g =
      cond_both (is_left w.kind) _ _ (Leads text w.past)
      (λ _. cond_both (nat_lt depth most_brackets) _ _ (Leads text w.past) (λ _. (omega arith, at_bracketed slot (suc depth) o os g)) (λ _. tt))
      (λ _. unit_at_leads slot o os s short g w.kind)

  -- an expression in brackets begins, inside of those that are open
  pub bracketed_leads : (slot : Slot) (depth : ℕ) (o : Opened) (os : List Opened) (s : State) → IsShort n s → AtOperand slot (o ∷ os) text s → Leads text w.past (bracketed depth w (behind_operand s.outer slot (o ∷ os)) s)
  bracketed_leads slot depth o os s short g =
      let one : Opened = record { depth = depth; waiting = [] } in
      cond_both (is_compute w.keyword) _ _ (Leads text w.past) (λ _. (omega arith, at_expression_unit slot depth one (o ∷ os) g))
      (λ _. expression_unit_leads slot depth one (o ∷ os) s short g)

  -- an expression ends
  ended_leads : (slot : Slot) (os : List Opened) (f : Formula) (s : State) → IsShort n s → AtOperand slot os text s → formula_is_known (known_in s) f ≡ true
      → Leads text w.past (expression_ended (into_opened slot os) f (behind_operand s.outer slot os) s)
  ended_leads slot [] f s short g known = one_term_leads slot (term.Compute f) (with_formula s no_formula) short (formula_left text slot s no_formula g.0) known
  ended_leads slot (o ∷ os) f s short g known = operand_leads slot o os f s short g known

  -- the operand that was read last waits
  operation_leads : (slot : Slot) (o : Opened) (os : List Opened) (s : State) → IsShort n s → HasOperand slot (o ∷ os) text s → (op : Option Op)
      → Leads text w.past (operation_at o.depth o.waiting (into_opened slot os) op (behind_operand s.outer slot os) s)
  operation_leads slot o os s short g None = tt
  operation_leads slot o os s short g (Some op) =
      let parts = and_parts (opened_is_known (known_in s) o) (list_all (opened_is_known (known_in s)) os) g.0.1 in
      let more : Opened = record { depth = o.depth; waiting = record { left = s.formula; op = op } ∷ o.waiting } in
      (omega arith, at_expression_unit slot o.depth more os (g.0.0, and_from _ _ (and_from _ _ g.1 parts.0) parts.1))

  pub expression_rest_leads : (slot : Slot) (o : Opened) (os : List Opened) (s : State) → IsShort n s → HasOperand slot (o ∷ os) text s
      → Leads text w.past (expression_rest o.depth o.waiting (into_opened slot os) w (behind_operand s.outer slot os) s)
  expression_rest_leads slot o os s short g =
      let parts = and_parts (opened_is_known (known_in s) o) (list_all (opened_is_known (known_in s)) os) g.0.1 in
      cond_both (is_right w.kind) _ _ (Leads text w.past)
      (λ _. ended_leads slot os (completed s.formula o.waiting) s short (g.0.0, parts.1) (completed_known (known_in s) s.formula o.waiting g.1 parts.0))
      (λ _. operation_leads slot o os s short g (operation_of w.keyword))

  -- ---- substr

  source_named_leads : (slot : Slot) (s : State) → IsShort n s → AtValue slot text s → (o : Option ℕ) → number_of w.name s.elements ≡ o → Leads text w.past (source_named o (SourceAttribute (target_of slot) ∷ behind_value s.outer slot) s)
  source_named_leads slot s short g (Some c) e =
      (omega arith, at_source_attribute slot (with_source text slot s c s.source_field g, element_known w.name c (body_at text slot s g).knows e))
  source_named_leads slot s short g None e = tt

  pub source_cell_leads : (slot : Slot) (s : State) → IsShort n s → AtValue slot text s → Leads text w.past (source_cell w (SourceAttribute (target_of slot) ∷ behind_value s.outer slot) s)
  source_cell_leads slot s short g =
      cond_both (is_variable w.kind) _ _ (Leads text w.past) (λ _. source_named_leads slot s short g (number_of w.name s.elements) refl) (λ _. tt)

  -- the class of the cell, by what is known
  class_of_source : (slot : Slot) (s : State) → AtValue slot text s → source_class s ≡ class_of_cell s.classes (known_in s) s.source
  class_of_source slot s g = ap (λ (cs : List ℕ). class_of s.classes (unwrap_or (slice_get cs s.source) 0)) (sym (body_at text slot s g).knows.cells)

  source_at_leads : (slot : Slot) (s : State) → IsShort n s → HasSource slot text s → (o : Option ℕ) → position (λ a. a.0 == w.name.0) (source_class s).attrs ≡ o → Leads text w.past (source_at (target_of slot) w.name o (behind_value s.outer slot) s)
  source_at_leads slot s short g (Some f) e =
      let lt = (position-Some (λ a. a.0 == w.name.0) (source_class s).attrs f (record { 0 = 0 }) e).0 in
      let here = subst (λ (c : Class). is_attribute c f ≡ true) (class_of_source slot s g.0) (lt-ltb _ _ lt) in
      (omega arith, at_source_end slot w.name ((with_source text slot s s.source f g.0, g.1), here))
  source_at_leads slot s short g None e = tt

  pub source_attribute_leads : (slot : Slot) (s : State) → IsShort n s → HasSource slot text s → Leads text w.past (source_attribute (target_of slot) w (behind_value s.outer slot) s)
  source_attribute_leads slot s short g =
      cond_both (is_name w.kind) _ _ (Leads text w.past) (λ _. source_at_leads slot s short g (position (λ a. a.0 == w.name.0) (source_class s).attrs) refl) (λ _. tt)

  -- `inf` stands after the vector attribute alone
  rest_valid : (slot : Slot) (s : State) → HasSource slot text s → (several : Bool) → several ≡ true → ends_at_inf w s ≡ true → term_is_valid s.classes (known_in s) several (term.Rest s.source) ≡ true
  rest_valid slot s g several may inf =
      let vector = (vector_parts (source_class s) s.source_field (and_parts (is_inf w.keyword) _ inf).1).0 in
      and_from _ _ (and_from _ _ may g.1) (ap (λ (c : Class). c.vector) (sym (class_of_source slot s g.0)) ∙ vector)

  pub source_end_leads : (slot : Slot) (name : Sym) (s : State) → IsShort n s → HasSourceField slot text s → Leads text w.past (source_end (target_of slot) name w (Closes EndsWhole ∷ behind_value s.outer slot) s)
  source_end_leads slot name s short g =
      let ws = Closes EndsWhole ∷ behind_value s.outer slot in
      let next : (s' : State) → s'.outer ≡ s.outer → AtValue slot text s' → IsRead text s' ws = λ s' e h. subst (λ (x : Option Outer). IsRead text s' (Closes EndsWhole ∷ behind_value x slot)) e (at_value_end slot h) in
      cond_both (ends_at_inf w s) _ _ (Leads text w.past)
      (λ inf. cond_both (takes_several (target_of slot)) _ _ (Leads text w.past)
      (λ may. term_leads slot (term.Rest s.source) s ws short g.0.0 (rest_valid slot s g.0 (takes_several (target_of slot)) may inf) next) (λ _. tt))
      (λ _. cond_both (is_name w.kind && (w.name.0 == name.0)) _ _ (Leads text w.past)
      (λ _. term_leads slot (term.One s.source s.source_field) s ws short g.0.0 (and_from _ _ g.0.1 g.1) next) (λ _. tt))

  pub value_end_leads : (slot : Slot) (s : State) → IsShort n s → AtValue slot text s → Leads text w.past (closes EndsWhole w (behind_value s.outer slot) s)
  value_end_leads slot s short g = cond_both (is_right w.kind) _ _ (Leads text w.past) (λ _. (omega arith, value_left text slot s g)) (λ _. tt)
