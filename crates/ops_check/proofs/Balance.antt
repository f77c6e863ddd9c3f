-- Brackets: the words of a form that is closed do not end too early, and those of a form that is open do not end.
use Rattle.std.proofs.Common.{◌≡◌, ℕ, ◌+◌, ◌-◌, ◌≤◌, Bool, true, false, cond, if◌then◌else◌, not, ◌&&◌, ◌||◌, ◌==◌, List, [], ◌∷◌, length, Option, Some, None, Result, Ok, Err, refl, sym, ap, subst, ◌∙◌, arith, true≢false, position, slice_get, nat_lt, nat_le}
use Rattle.std.proofs.lemmas.Bool.{and_parts, cond_both, eqb-true, eqb-false, not-true}
use Rattle.ops_base.specs.Names.{Spellings}
use Rattle.ops_base.specs.declared.values.Sym.{Sym}
use Rattle.ops_base.specs.declared.values.Value.{Value}
use Rattle.ops_base.specs.declared.values.Pred.{Pred}
use Rattle.ops_base.specs.declared.values.Pred.TheVariants as pred
use Rattle.ops_base.specs.declared.commands.Strategy.{Strategy}
use Rattle.ops_base.specs.declared.expression.Op.{Op}
use Rattle.ops_base.specs.declared.actions.Term.{Term}
use Rattle.ops_base.specs.declared.actions.Term.TheVariants as term
use Rattle.ops_base.specs.declared.endings.Fault.{Fault}
use Rattle.ops_base.specs.Expression.{Formula}
use Rattle.ops_base.specs.Valid.{most_fields, most_conditions, elements_of, class_of, is_vector}
use Rattle.ops_tokens.specs.declared.token.Token.{Token}
use Rattle.ops_tokens.specs.declared.token.TokenKind.{TokenKind}
use Rattle.ops_tokens.specs.declared.token.TokenKind.TheVariants as kind
use Rattle.ops_tokens.specs.Tokens.{is_quoted, spelling}
use Rattle.ops_grammar.specs.declared.words.Word.{Word}
use Rattle.ops_grammar.specs.declared.words.Keyword.{Keyword}
use Rattle.ops_grammar.specs.declared.words.Keyword.TheVariants as keyword
use Rattle.ops_grammar.specs.Words.{keyword_of, keyword_in, is_joined, hole_in, names_with, word_of, keyword_before, word_before, words_from}
use Rattle.ops_grammar.specs.Grammar.{Use, InPattern, InPut, InFixed, Target, ToTest, ToPut, ToTerms, ToConstants, ToItem, ToBind, TagUse, ToRemove, NameUse, Column, Wanted, Forms, Form, ClassDeclared, Attributes, VectorName, VectorNames, RuleName, FirstPattern, Patterns, Pattern, GroupBrace, Members, Braced, ElementName, ClosesBrace, ClassName, Terms, Attribute, Several, Place, Tests, Tested, Choice, Atom, ValueFor, Function, ExpressionUnit, ExpressionRest, Bracketed, SourceCell, SourceAttribute, SourceEnd, Actions, ActionWord, BuiltName, Modified, BoundName, BoundValue, CellName, Cell, Cells, Items, ItemWord, Columns, Count, StrategyName, TagOrAll, Tags, Shown, NamedRule, NamedRules, Level, Undone, Closes, State, Step, Next, Refuses, Outcome, is_left, is_right, is_left_brace, is_right_brace, is_caret, is_name, is_variable, is_arrow, is_literal, is_minus, begins_group, has_room, opens_choice, closes_choice, pred_of, constant_of, value_of, atom_of, is_one_of, number_of, bound_value, EndsWhole, may_declare, is_class, is_rule, is_second, makes_second, vector_declared, vector_name, form, class_at, attributes_of, behind_attribute, field_at, terms, within, one_of_several, with_several, place, element_at, element_name, cell_bound, variable_tested, constant_tested, tested, predicated, test, constant_by, with_constant, with_choice_of, chosen, atom_at, term_at, bound_at, constant_at, is_of_action, value_for, Waiting, most_brackets, is_compute, operation_of, unit_bound, unit_at, bracket_at, expression_unit, bracketed, operation_at, expression_ended, with_formula, no_formula, expression_rest, completed, function, source_named, source_cell, source_class, source_at, source_attribute, takes_several, is_inf, ends_at_inf, source_end, action_word, cell_of, with_designated, with_modified, small_of, item_word, columns_at, count_of, counted, count, strategy_of, strategy_set, strategy_name, is_all, tag_at, tag_or_all, tags, class_name, shown, named_rule, named_rules, level_of, undone_of, level_set, undone_set, level, undone, step, ends, after, goes}
use Rattle.ops_grammar.proofs.Constants.{constant_cases}
use Rattle.ops_forms.specs.Forms.{open_behind, is_last, closes_last, stays_open, opens}

-- ---- what is owed

-- a closing bracket ends what is wanted
abbrev owes : Wanted → Bool
owes Form = true
owes Attributes = true
owes VectorNames = true
owes (Terms u) = true
owes (Attribute u) = true
owes (Several u f) = true
owes (Actions built) = true
owes (Function t) = true
owes (ExpressionRest d waiting into) = true
owes (Bracketed d) = true
owes (SourceAttribute t) = true
owes (ActionWord built) = true
owes BoundValue = true
owes Cells = true
owes Items = true
owes ItemWord = true
owes Count = true
owes StrategyName = true
owes TagOrAll = true
owes (Tags u) = true
owes Shown = true
owes (NamedRules u) = true
owes Level = true
owes Undone = true
owes (Closes e) = true
owes _ = false

-- how many closing brackets end what is wanted
abbrev pub owed : List Wanted → ℕ
owed [] = 0
owed (w ∷ ws) = cond (owes w) (1 + owed ws) (owed ws)

-- a part of a form is wanted next
abbrev in_form : List Wanted → Bool
in_form [] = false
in_form (Forms ∷ ws) = false
in_form (w ∷ ws) = true

abbrev is_empty : List Wanted → Bool
is_empty [] = true
is_empty (w ∷ ws) = false

-- forms are wanted at the bottom alone, and what takes no closing bracket stands above another part of a form
abbrev pub stands : List Wanted → Bool
stands [] = false
stands (Forms ∷ ws) = is_empty ws
stands (w ∷ ws) = (owes w || in_form ws) && stands ws

in_form_owes : (ws : List Wanted) → in_form ws ≡ true → stands ws ≡ true → 1 ≤ owed ws
in_form_owes [] i h = absurd (true≢false (sym i))
in_form_owes (Forms ∷ ws) i h = absurd (true≢false (sym i))
in_form_owes (Form ∷ ws) i h = omega arith
in_form_owes (Attributes ∷ ws) i h = omega arith
in_form_owes (VectorNames ∷ ws) i h = omega arith
in_form_owes (Terms u ∷ ws) i h = omega arith
in_form_owes (Attribute u ∷ ws) i h = omega arith
in_form_owes (Several u f ∷ ws) i h = omega arith
in_form_owes (Actions built ∷ ws) i h = omega arith
in_form_owes (ActionWord built ∷ ws) i h = omega arith
in_form_owes (BoundValue ∷ ws) i h = omega arith
in_form_owes (Function t ∷ ws) i h = omega arith
in_form_owes (ExpressionRest d waiting into ∷ ws) i h = omega arith
in_form_owes (Bracketed d ∷ ws) i h = omega arith
in_form_owes (SourceAttribute t ∷ ws) i h = omega arith
in_form_owes (Cells ∷ ws) i h = omega arith
in_form_owes (Items ∷ ws) i h = omega arith
in_form_owes (ItemWord ∷ ws) i h = omega arith
in_form_owes (Count ∷ ws) i h = omega arith
in_form_owes (StrategyName ∷ ws) i h = omega arith
in_form_owes (TagOrAll ∷ ws) i h = omega arith
in_form_owes (Tags u ∷ ws) i h = omega arith
in_form_owes (Shown ∷ ws) i h = omega arith
in_form_owes (NamedRules u ∷ ws) i h = omega arith
in_form_owes (Level ∷ ws) i h = omega arith
in_form_owes (Undone ∷ ws) i h = omega arith
in_form_owes (Closes e ∷ ws) i h = omega arith
in_form_owes (ClassDeclared ∷ ws) i h = let p = and_parts (in_form ws) (stands ws) h in in_form_owes ws p.0 p.1
in_form_owes (VectorName ∷ ws) i h = let p = and_parts (in_form ws) (stands ws) h in in_form_owes ws p.0 p.1
in_form_owes (BuiltName ∷ ws) i h = let p = and_parts (in_form ws) (stands ws) h in in_form_owes ws p.0 p.1
in_form_owes (RuleName ∷ ws) i h = let p = and_parts (in_form ws) (stands ws) h in in_form_owes ws p.0 p.1
in_form_owes (FirstPattern ∷ ws) i h = let p = and_parts (in_form ws) (stands ws) h in in_form_owes ws p.0 p.1
in_form_owes (Patterns ∷ ws) i h = let p = and_parts (in_form ws) (stands ws) h in in_form_owes ws p.0 p.1
in_form_owes (Pattern ∷ ws) i h = let p = and_parts (in_form ws) (stands ws) h in in_form_owes ws p.0 p.1
in_form_owes (GroupBrace ∷ ws) i h = let p = and_parts (in_form ws) (stands ws) h in in_form_owes ws p.0 p.1
in_form_owes (Members n ∷ ws) i h = let p = and_parts (in_form ws) (stands ws) h in in_form_owes ws p.0 p.1
in_form_owes (Braced ∷ ws) i h = let p = and_parts (in_form ws) (stands ws) h in in_form_owes ws p.0 p.1
in_form_owes (ElementName ∷ ws) i h = let p = and_parts (in_form ws) (stands ws) h in in_form_owes ws p.0 p.1
in_form_owes (ClosesBrace ∷ ws) i h = let p = and_parts (in_form ws) (stands ws) h in in_form_owes ws p.0 p.1
in_form_owes (ClassName ∷ ws) i h = let p = and_parts (in_form ws) (stands ws) h in in_form_owes ws p.0 p.1
in_form_owes (Place f ∷ ws) i h = let p = and_parts (in_form ws) (stands ws) h in in_form_owes ws p.0 p.1
in_form_owes (Tests f ∷ ws) i h = let p = and_parts (in_form ws) (stands ws) h in in_form_owes ws p.0 p.1
in_form_owes (Tested f x ∷ ws) i h = let p = and_parts (in_form ws) (stands ws) h in in_form_owes ws p.0 p.1
in_form_owes (Choice f ∷ ws) i h = let p = and_parts (in_form ws) (stands ws) h in in_form_owes ws p.0 p.1
in_form_owes (Atom t ∷ ws) i h = let p = and_parts (in_form ws) (stands ws) h in in_form_owes ws p.0 p.1
in_form_owes (ValueFor t ∷ ws) i h = let p = and_parts (in_form ws) (stands ws) h in in_form_owes ws p.0 p.1
in_form_owes (ExpressionUnit d ∷ ws) i h = let p = and_parts (in_form ws) (stands ws) h in in_form_owes ws p.0 p.1
in_form_owes (Modified ∷ ws) i h = let p = and_parts (in_form ws) (stands ws) h in in_form_owes ws p.0 p.1
in_form_owes (BoundName ∷ ws) i h = let p = and_parts (in_form ws) (stands ws) h in in_form_owes ws p.0 p.1
in_form_owes (CellName ∷ ws) i h = let p = and_parts (in_form ws) (stands ws) h in in_form_owes ws p.0 p.1
in_form_owes (Columns c ∷ ws) i h = let p = and_parts (in_form ws) (stands ws) h in in_form_owes ws p.0 p.1
in_form_owes (SourceCell ∷ ws) i h = let p = and_parts (in_form ws) (stands ws) h in in_form_owes ws p.0 p.1
in_form_owes (SourceEnd t name ∷ ws) i h = let p = and_parts (in_form ws) (stands ws) h in in_form_owes ws p.0 p.1
in_form_owes (NamedRule ∷ ws) i h = let p = and_parts (in_form ws) (stands ws) h in in_form_owes ws p.0 p.1
in_form_owes (Cell ∷ ws) i h = let p = and_parts (in_form ws) (stands ws) h in in_form_owes ws p.0 p.1

-- ---- brackets by kinds

left_opens : (k : TokenKind) (n : ℕ) → is_left k ≡ true → open_behind n k ≡ n + 1
left_opens kind.Left n e = refl
left_opens _ n e = absurd (true≢false (sym e))

right_closes : (k : TokenKind) (n : ℕ) → is_right k ≡ true → open_behind n k ≡ n - 1
right_closes kind.Right n e = refl
right_closes _ n e = absurd (true≢false (sym e))

caret_keeps : (k : TokenKind) (n : ℕ) → is_caret k ≡ true → open_behind n k ≡ n
caret_keeps kind.Caret n e = refl
caret_keeps _ n e = absurd (true≢false (sym e))

left_brace_keeps : (k : TokenKind) (n : ℕ) → is_left_brace k ≡ true → open_behind n k ≡ n
left_brace_keeps kind.LeftBrace n e = refl
left_brace_keeps _ n e = absurd (true≢false (sym e))

right_brace_keeps : (k : TokenKind) (n : ℕ) → is_right_brace k ≡ true → open_behind n k ≡ n
right_brace_keeps kind.RightBrace n e = refl
right_brace_keeps _ n e = absurd (true≢false (sym e))

name_keeps : (k : TokenKind) (n : ℕ) → is_name k ≡ true → open_behind n k ≡ n
name_keeps kind.Symbol n e = refl
name_keeps kind.Quoted n e = refl
name_keeps _ n e = absurd (true≢false (sym e))

variable_keeps : (k : TokenKind) (n : ℕ) → is_variable k ≡ true → open_behind n k ≡ n
variable_keeps kind.Variable n e = refl
variable_keeps _ n e = absurd (true≢false (sym e))

constant_keeps : (k : TokenKind) (name : Sym) (v : Value) (n : ℕ) → constant_of k name ≡ Some v → open_behind n k ≡ n
constant_keeps (kind.Whole z) name v n e = refl
constant_keeps kind.Symbol name v n e = refl
constant_keeps kind.Quoted name v n e = refl
constant_keeps _ name v n e = absurd (cc)

atom_keeps : (k : TokenKind) (name : Sym) (v : Value) (n : ℕ) → atom_of k name ≡ Some v → open_behind n k ≡ n
atom_keeps (kind.Whole z) name v n e = refl
atom_keeps kind.Symbol name v n e = refl
atom_keeps kind.Quoted name v n e = refl
atom_keeps kind.Operator name v n e = refl
atom_keeps kind.Variable name v n e = refl
atom_keeps _ name v n e = absurd (cc)

value_keeps : (k : TokenKind) (name : Sym) (v : Value) (n : ℕ) → value_of k name ≡ Some v → open_behind n k ≡ n
value_keeps (kind.Whole z) name v n e = refl
value_keeps kind.Symbol name v n e = refl
value_keeps kind.Quoted name v n e = refl
value_keeps kind.Operator name v n e = refl
value_keeps _ name v n e = absurd (cc)

designator_keeps : (k : TokenKind) (name : Sym) (s : State) (c n : ℕ) → cell_of k name s ≡ Ok c → open_behind n k ≡ n
designator_keeps (kind.Whole z) name s c n e = refl
designator_keeps kind.Variable name s c n e = refl
designator_keeps _ name s c n e = absurd (cc)

small_keeps : (k : TokenKind) (m n : ℕ) → small_of k ≡ Some m → open_behind n k ≡ n
small_keeps (kind.Whole z) m n e = refl
small_keeps _ m n e = absurd (cc)

count_keeps : (k : TokenKind) (m n : ℕ) → count_of k ≡ Some m → open_behind n k ≡ n
count_keeps (kind.Whole z) m n e = refl
count_keeps _ m n e = absurd (cc)

level_keeps : (k : TokenKind) (m n : ℕ) → level_of k ≡ Some m → open_behind n k ≡ n
level_keeps (kind.Whole z) m n e = refl
level_keeps _ m n e = absurd (cc)

undone_keeps : (k : TokenKind) (m n : ℕ) → undone_of k ≡ Some m → open_behind n k ≡ n
undone_keeps (kind.Whole z) m n e = refl
undone_keeps _ m n e = absurd (cc)

-- ---- keywords that are there

literal_known : (k : Keyword) → is_literal k ≡ true → k ≡ keyword.Other → ⊥
literal_known keyword.Literal e o = absurd (cc)
literal_known _ e o = absurd (true≢false (sym e))

opening_known : (k : Keyword) → opens_choice k ≡ true → k ≡ keyword.Other → ⊥
opening_known keyword.OpenChoice e o = absurd (cc)
opening_known _ e o = absurd (true≢false (sym e))

closing_known : (k : Keyword) → closes_choice k ≡ true → k ≡ keyword.Other → ⊥
closing_known keyword.CloseChoice e o = absurd (cc)
closing_known _ e o = absurd (true≢false (sym e))

minus_known : (k : Keyword) → is_minus k ≡ true → k ≡ keyword.Other → ⊥
minus_known keyword.Minus e o = absurd (cc)
minus_known _ e o = absurd (true≢false (sym e))

group_known : (k : Keyword) → begins_group k ≡ true → k ≡ keyword.Other → ⊥
group_known keyword.GroupMinus e o = absurd (cc)
group_known _ e o = absurd (true≢false (sym e))

inf_known : (k : Keyword) → is_inf k ≡ true → k ≡ keyword.Other → ⊥
inf_known keyword.Inf e o = absurd (cc)
inf_known _ e o = absurd (true≢false (sym e))

compute_known : (k : Keyword) → is_compute k ≡ true → k ≡ keyword.Other → ⊥
compute_known keyword.Compute e o = absurd (cc)
compute_known _ e o = absurd (true≢false (sym e))

operation_known : (k : Keyword) (o : Op) → operation_of k ≡ Some o → k ≡ keyword.Other → ⊥
operation_known keyword.Other p e o = absurd (cc)
operation_known _ p e o = absurd (cc)

pred_known : (k : Keyword) (p : Pred) → pred_of k ≡ Some p → k ≡ keyword.Other → ⊥
pred_known keyword.Other p e o = absurd (cc)
pred_known _ p e o = absurd (cc)

strategy_known : (k : Keyword) (g : Strategy) → strategy_of k ≡ Some g → k ≡ keyword.Other → ⊥
strategy_known keyword.Other g e o = absurd (cc)
strategy_known _ g e o = absurd (cc)

all_known : (k : Keyword) → is_all k ≡ true → k ≡ keyword.Other → ⊥
all_known keyword.Times e o = absurd (cc)
all_known _ e o = absurd (true≢false (sym e))

quoted_keeps : (k : TokenKind) (n : ℕ) → is_quoted k ≡ true → open_behind n k ≡ n
quoted_keeps kind.Quoted n e = refl
quoted_keeps _ n e = absurd (true≢false (sym e))

keyword_keeps : (k : TokenKind) (s : List ℕ) (n : ℕ) → (keyword_of k s ≡ keyword.Other → ⊥) → open_behind n k ≡ n
keyword_keeps kind.Symbol s n e = refl
keyword_keeps kind.Operator s n e = refl
keyword_keeps _ s n e = absurd (e refl)

-- ---- a step keeps the balance

abbrev Balanced : ℕ → Step → Type 0
Balanced n (Next ws s) = (stands ws ≡ true) × (owed ws ≡ n)
Balanced n (Refuses f) = Unit {0}

module _ (w : Word) (quiet : (n : ℕ) → (w.keyword ≡ keyword.Other → ⊥) → open_behind n w.kind ≡ n) where
  abbrev B : List Wanted → Step → Type 0
  B ws r = Balanced (open_behind (owed ws) w.kind) r

  abbrev closed : (ws : List Wanted) → is_right w.kind ≡ true → owed ws ≡ open_behind (1 + owed ws) w.kind
  closed ws e = let k = right_closes w.kind (1 + owed ws) e in omega (arith, k)

  abbrev opened : (ws : List Wanted) → is_left w.kind ≡ true → 1 + owed ws ≡ open_behind (owed ws) w.kind
  opened ws e = let k = left_opens w.kind (owed ws) e in omega (arith, k)

  form_balanced : (k : Keyword) (ws : List Wanted) (s : State) → w.keyword ≡ k → stands ws ≡ true → B (Form ∷ ws) (form w k ws s)
  form_balanced keyword.Literalize ws s e h = cond_both (may_declare s) _ _ (B (Form ∷ ws)) (λ _. (h, sym (quiet (1 + owed ws) (λ o. absurd (cc))))) (λ _. tt)
  form_balanced keyword.VectorAttribute ws s e h = cond_both (may_declare s) _ _ (B (Form ∷ ws)) (λ _. (h, sym (quiet (1 + owed ws) (λ o. absurd (cc))))) (λ _. tt)
  form_balanced keyword.Production ws s e h = (h, sym (quiet (1 + owed ws) (λ o. absurd (cc))))
  form_balanced keyword.Make ws s e h = (h, sym (quiet (1 + owed ws) (λ o. absurd (cc))))
  form_balanced keyword.Remove ws s e h = (h, sym (quiet (1 + owed ws) (λ o. absurd (cc))))
  form_balanced keyword.Run ws s e h = (h, sym (quiet (1 + owed ws) (λ o. absurd (cc))))
  form_balanced keyword.Wm ws s e h = (h, sym (quiet (1 + owed ws) (λ o. absurd (cc))))
  form_balanced keyword.Ppwm ws s e h = (h, sym (quiet (1 + owed ws) (λ o. absurd (cc))))
  form_balanced keyword.Cs ws s e h = (h, sym (quiet (1 + owed ws) (λ o. absurd (cc))))
  form_balanced keyword.Pm ws s e h = (h, sym (quiet (1 + owed ws) (λ o. absurd (cc))))
  form_balanced keyword.Strategy ws s e h = (h, sym (quiet (1 + owed ws) (λ o. absurd (cc))))
  form_balanced keyword.Watch ws s e h = (h, sym (quiet (1 + owed ws) (λ o. absurd (cc))))
  form_balanced keyword.Back ws s e h = (h, sym (quiet (1 + owed ws) (λ o. absurd (cc))))
  form_balanced keyword.Pbreak ws s e h = (h, sym (quiet (1 + owed ws) (λ o. absurd (cc))))
  form_balanced keyword.Excise ws s e h = (h, sym (quiet (1 + owed ws) (λ o. absurd (cc))))
  form_balanced keyword.Matches ws s e h = (h, sym (quiet (1 + owed ws) (λ o. absurd (cc))))
  form_balanced keyword.Exit ws s e h = (h, sym (quiet (1 + owed ws) (λ o. absurd (cc))))
  form_balanced _ ws s e h = tt

  action_word_balanced : (b : Bool) (k : Keyword) (ws : List Wanted) (s : State) → w.keyword ≡ k → stands ws ≡ true → B (ActionWord b ∷ ws) (action_word b k ws s)
  action_word_balanced b keyword.Make ws s e h = (h, sym (quiet (1 + owed ws) (λ o. absurd (cc))))
  action_word_balanced b keyword.Remove ws s e h = (h, sym (quiet (1 + owed ws) (λ o. absurd (cc))))
  action_word_balanced b keyword.Modify ws s e h = (h, sym (quiet (1 + owed ws) (λ o. absurd (cc))))
  action_word_balanced b keyword.Write ws s e h = (h, sym (quiet (1 + owed ws) (λ o. absurd (cc))))
  action_word_balanced b keyword.Bind ws s e h = (h, sym (quiet (1 + owed ws) (λ o. absurd (cc))))
  action_word_balanced b keyword.Cbind ws s e h = (h, sym (quiet (1 + owed ws) (λ o. absurd (cc))))
  action_word_balanced b keyword.Halt ws s e h = (h, sym (quiet (1 + owed ws) (λ o. absurd (cc))))
  action_word_balanced true keyword.Build ws s e h = tt
  action_word_balanced false keyword.Build ws s e h = (h, sym (quiet (1 + owed ws) (λ o. absurd (cc))))
  action_word_balanced b _ ws s e h = tt

  named : (ws : List Wanted) → is_name w.kind ≡ true → owed ws ≡ open_behind (owed ws) w.kind
  named ws e = sym (name_keeps w.kind (owed ws) e)

  -- ---- what a step does after its tests

  class_at_balanced : (o : Option ℕ) (ws : List Wanted) (s : State) → is_name w.kind ≡ true → stands ws ≡ true → B ws (class_at o ws s)
  class_at_balanced (Some c) ws s e h = (h, named ws e)
  class_at_balanced None ws s e h = tt

  scalar_balanced : (u : Use) (f : ℕ) (ws : List Wanted) (s : State) → is_name w.kind ≡ true → stands ws ≡ true → B (Attribute u ∷ ws) (Next (behind_attribute u f ∷ Terms u ∷ ws) s)
  scalar_balanced InPattern f ws s e h = (h, named (Terms InPattern ∷ ws) e)
  scalar_balanced InPut f ws s e h = (h, named (Terms InPut ∷ ws) e)
  scalar_balanced InFixed f ws s e h = (h, named (Terms InFixed ∷ ws) e)

  field_at_balanced : (u : Use) (o : Option ℕ) (ws : List Wanted) (s : State) → is_name w.kind ≡ true → stands ws ≡ true → B (Attribute u ∷ ws) (field_at u o ws s)
  field_at_balanced u (Some f) ws s e h =
      cond_both (is_vector (class_of s.classes s.class) f) _ _ (B (Attribute u ∷ ws)) (λ _. (h, named (Terms u ∷ ws) e)) (λ _. scalar_balanced u f ws s e h)
  field_at_balanced u None ws s e h = tt

  -- ---- vector attributes, and element variables

  vector_declared_balanced : (ws : List Wanted) (s : State) → is_name w.kind ≡ true → stands ws ≡ true → B ws (vector_declared w ws s)
  vector_declared_balanced ws s e h =
      cond_both (is_one_of w.name s.vectors) _ _ (B ws) (λ _. (h, named ws e))
      (λ _. cond_both (makes_second w.name s.classes) _ _ (B ws) (λ _. tt) (λ _. (h, named ws e)))

  vector_name_balanced : (ws : List Wanted) (s : State) → stands ws ≡ true → B ws (vector_name w ws s)
  vector_name_balanced ws s h = cond_both (is_name w.kind) _ _ (B ws) (λ e. vector_declared_balanced ws s e h) (λ _. tt)

  element_at_balanced : (o : Option ℕ) (ws : List Wanted) (s : State) → is_variable w.kind ≡ true → stands ws ≡ true → B ws (element_at o w.name ws s)
  element_at_balanced (Some c) ws s e h = tt
  element_at_balanced None ws s e h = (h, sym (variable_keeps w.kind (owed ws) e))

  element_name_balanced : (ws : List Wanted) (s : State) → stands ws ≡ true → B ws (element_name w ws s)
  element_name_balanced ws s h =
      cond_both (is_variable w.kind) _ _ (B ws) (λ e. element_at_balanced (number_of w.name s.elements) ws s e h) (λ _. tt)

  -- ---- tests and values

  -- a constant is what it is without its hole
  held : (k : Keyword) (ws : List Wanted) (f : State → State) (s : State) (n : ℕ) → (stands ws ≡ true) × (owed ws ≡ n) → Balanced n (constant_by k (λ t. Next ws (f t)) s)
  held k ws f s n h = constant_cases k (λ t. Next ws (f t)) s (Balanced n) (λ _. tt) h (λ _ _ _. h)

  variable_tested_balanced : (f : ℕ) (p : Pred) (o : Option ℕ) (ws : List Wanted) (s : State) → is_variable w.kind ≡ true → stands ws ≡ true → B ws (variable_tested f p o w.name ws s)
  variable_tested_balanced f p (Some n) ws s e h = (h, sym (variable_keeps w.kind (owed ws) e))
  variable_tested_balanced f pred.Eq None ws s e h = (h, sym (variable_keeps w.kind (owed ws) e))
  variable_tested_balanced f _ None ws s e h = tt

  constant_tested_balanced : (f : ℕ) (p : Pred) (o : Option Value) (ws : List Wanted) (s : State) → constant_of w.kind w.name ≡ o → stands ws ≡ true → B ws (constant_tested f p w o ws s)
  constant_tested_balanced f p (Some v) ws s e h = held w.keyword ws (λ t. with_constant (ToTest f p) t v) s _ (h, sym (constant_keeps w.kind w.name v (owed ws) e))
  constant_tested_balanced f p None ws s e h =
      cond_both (is_variable w.kind) _ _ (B ws) (λ is. variable_tested_balanced f p (number_of w.name s.values) ws s is h) (λ _. tt)

  tested_balanced : (f : ℕ) (p : Pred) (ws : List Wanted) (s : State) → (in_form ws && stands ws) ≡ true → B ws (tested f p w ws s)
  tested_balanced f p ws s h =
      cond_both (is_literal w.keyword) _ _ (B ws) (λ e. (h, sym (quiet (owed ws) (literal_known w.keyword e))))
      (λ _. constant_tested_balanced f p (constant_of w.kind w.name) ws s refl (and_parts (in_form ws) (stands ws) h).1)

  predicated_balanced : (f : ℕ) (o : Option Pred) (ws : List Wanted) (s : State) → pred_of w.keyword ≡ o → (in_form ws && stands ws) ≡ true → B ws (predicated f w o ws s)
  predicated_balanced f (Some p) ws s e h = (h, sym (quiet (owed ws) (pred_known w.keyword p e)))
  predicated_balanced f None ws s e h = tested_balanced f pred.Eq ws s h

  test_balanced : (f : ℕ) (ws : List Wanted) (s : State) → (in_form ws && stands ws) ≡ true → B ws (test f w ws s)
  test_balanced f ws s h =
      cond_both (opens_choice w.keyword) _ _ (B ws) (λ e. (h, sym (quiet (owed ws) (opening_known w.keyword e))))
      (λ _. predicated_balanced f (pred_of w.keyword) ws s refl h)

  chosen_balanced : (f : ℕ) (o : Option Value) (ws : List Wanted) (s : State) → atom_of w.kind w.name ≡ o → stands ws ≡ true → B ws (chosen w.keyword o ws s)
  chosen_balanced f (Some v) ws s e h = held w.keyword ws (λ t. with_choice_of t v) s _ (h, sym (atom_keeps w.kind w.name v (owed ws) e))
  chosen_balanced f None ws s e h = tt

  atom_balanced : (t : Target) (o : Option Value) (ws : List Wanted) (s : State) → atom_of w.kind w.name ≡ o → stands ws ≡ true → B ws (atom_at t w.keyword o ws s)
  atom_balanced t (Some v) ws s e h = held w.keyword ws (λ r. with_constant t r v) s _ (h, sym (atom_keeps w.kind w.name v (owed ws) e))
  atom_balanced t None ws s e h = tt

  term_balanced : (t : Target) (x : Term) (n : ℕ) (ws : List Wanted) (s : State) → stands ws ≡ true → owed ws ≡ n → Balanced n (term_at t x ws s)
  term_balanced (ToPut f) x n ws s h e = (h, e)
  term_balanced ToTerms x n ws s h e = (h, e)
  term_balanced ToItem x n ws s h e = (h, e)
  term_balanced ToBind x n ws s h e = (h, e)
  term_balanced _ x n ws s h e = tt

  bound_balanced : (t : Target) (o : Option ℕ) (ws : List Wanted) (s : State) → is_variable w.kind ≡ true → stands ws ≡ true → B ws (bound_at t o ws s)
  bound_balanced t (Some n) ws s e h = term_balanced t (term.Variable n) _ ws s h (sym (variable_keeps w.kind (owed ws) e))
  bound_balanced t None ws s e h = tt

  constant_balanced : (t : Target) (o : Option Value) (ws : List Wanted) (s : State) → value_of w.kind w.name ≡ o → stands ws ≡ true → B ws (constant_at t w o ws s)
  constant_balanced t (Some v) ws s e h = held w.keyword ws (λ r. with_constant t r v) s _ (h, sym (value_keeps w.kind w.name v (owed ws) e))
  constant_balanced t None ws s e h = cond_both (is_variable w.kind) _ _ (B ws) (λ is. bound_balanced t (number_of w.name s.values) ws s is h) (λ _. tt)

  value_balanced : (t : Target) (ws : List Wanted) (s : State) → (in_form ws && stands ws) ≡ true → B ws (value_for t w ws s)
  value_balanced t ws s h =
      cond_both (is_literal w.keyword) _ _ (B ws) (λ e. (h, sym (quiet (owed ws) (literal_known w.keyword e))))
      (λ _. cond_both (is_left w.kind && is_of_action t) _ _ (B ws) (λ e. ((and_parts (in_form ws) (stands ws) h).1, opened ws (and_parts (is_left w.kind) (is_of_action t) e).0))
      (λ _. constant_balanced t (value_of w.kind w.name) ws s refl (and_parts (in_form ws) (stands ws) h).1))

  -- ---- functions

  unit_bound_balanced : (o : Option ℕ) (ws : List Wanted) (s : State) → is_variable w.kind ≡ true → stands ws ≡ true → B ws (unit_bound o ws s)
  unit_bound_balanced (Some n) ws s e h = (h, sym (variable_keeps w.kind (owed ws) e))
  unit_bound_balanced None ws s e h = tt

  unit_at_balanced : (k : TokenKind) (ws : List Wanted) (s : State) → w.kind ≡ k → stands ws ≡ true → B ws (unit_at k w.name ws s)
  unit_at_balanced (kind.Whole n) ws s e h = (h, sym (ap (open_behind (owed ws)) e))
  unit_at_balanced kind.Variable ws s e h = unit_bound_balanced (number_of w.name s.values) ws s (ap is_variable e) h
  unit_at_balanced _ ws s e h = tt

  bracket_balanced : (d : ℕ) (ws : List Wanted) (s : State) → is_left w.kind ≡ true → stands ws ≡ true → B ws (bracket_at d ws s)
  bracket_balanced d ws s e h = cond_both (nat_lt d most_brackets) _ _ (B ws) (λ _. (h, opened ws e)) (λ _. tt)

  unit_balanced : (d : ℕ) (ws : List Wanted) (s : State) → stands ws ≡ true → B ws (expression_unit d w ws s)
  unit_balanced d ws s h =
      cond_both (is_left w.kind) _ _ (B ws) (λ e. bracket_balanced d ws s e h) (λ _. unit_at_balanced w.kind ws s refl h)

  bracketed_balanced : (d : ℕ) (ws : List Wanted) (s : State) → stands ws ≡ true → B (Bracketed d ∷ ws) (bracketed d w ws s)
  bracketed_balanced d ws s h =
      cond_both (is_compute w.keyword) _ _ (B (Bracketed d ∷ ws)) (λ e. (h, sym (quiet (1 + owed ws) (compute_known w.keyword e))))
      (λ _. unit_balanced d (ExpressionRest d [] None ∷ ws) s h)

  ended_balanced : (into : Option Target) (x : Formula) (ws : List Wanted) (s : State) → is_right w.kind ≡ true → stands ws ≡ true → Balanced (open_behind (1 + owed ws) w.kind) (expression_ended into x ws s)
  ended_balanced (Some t) x ws s e h = term_balanced t (term.Compute x) _ ws (with_formula s no_formula) h (closed ws e)
  ended_balanced None x ws s e h = (h, closed ws e)

  operation_balanced : (d : ℕ) (waiting : List Waiting) (into : Option Target) (o : Option Op) (ws : List Wanted) (s : State) → operation_of w.keyword ≡ o → stands ws ≡ true → B (ExpressionRest d waiting into ∷ ws) (operation_at d waiting into o ws s)
  operation_balanced d waiting into (Some x) ws s e h = (h, sym (quiet (1 + owed ws) (operation_known w.keyword x e)))
  operation_balanced d waiting into None ws s e h = tt

  rest_balanced : (d : ℕ) (waiting : List Waiting) (into : Option Target) (ws : List Wanted) (s : State) → stands ws ≡ true → B (ExpressionRest d waiting into ∷ ws) (expression_rest d waiting into w ws s)
  rest_balanced d waiting into ws s h =
      cond_both (is_right w.kind) _ _ (B (ExpressionRest d waiting into ∷ ws)) (λ e. ended_balanced into (completed s.formula waiting) ws s e h)
      (λ _. operation_balanced d waiting into (operation_of w.keyword) ws s refl h)

  function_balanced : (t : Target) (k : Keyword) (ws : List Wanted) (s : State) → w.keyword ≡ k → stands ws ≡ true → B (Function t ∷ ws) (function t k ws s)
  function_balanced t keyword.Substr ws s e h = (h, sym (quiet (1 + owed ws) (λ o. absurd (cc))))
  function_balanced t keyword.Compute ws s e h = (h, sym (quiet (1 + owed ws) (λ o. absurd (cc))))
  function_balanced t keyword.Genatom ws s e h = term_balanced t term.Fresh _ (Closes EndsWhole ∷ ws) s h (sym (quiet (1 + owed ws) (λ o. absurd (cc))))
  function_balanced t keyword.Accept ws s e h = term_balanced t term.Accept _ (Closes EndsWhole ∷ ws) s h (sym (quiet (1 + owed ws) (λ o. absurd (cc))))
  function_balanced t _ ws s e h = tt

  item_word_balanced : (k : Keyword) (ws : List Wanted) (s : State) → w.keyword ≡ k → stands ws ≡ true → B (ItemWord ∷ ws) (item_word k ws s)
  item_word_balanced keyword.Crlf ws s e h = (h, sym (quiet (1 + owed ws) (λ o. absurd (cc))))
  item_word_balanced keyword.Tabto ws s e h = (h, sym (quiet (1 + owed ws) (λ o. absurd (cc))))
  item_word_balanced keyword.Rjust ws s e h = (h, sym (quiet (1 + owed ws) (λ o. absurd (cc))))
  item_word_balanced keyword.Substr ws s e h = function_balanced ToItem keyword.Substr ws s e h
  item_word_balanced keyword.Compute ws s e h = function_balanced ToItem keyword.Compute ws s e h
  item_word_balanced keyword.Genatom ws s e h = function_balanced ToItem keyword.Genatom ws s e h
  item_word_balanced keyword.Accept ws s e h = function_balanced ToItem keyword.Accept ws s e h
  item_word_balanced _ ws s e h = tt

  bound_value_balanced : (ws : List Wanted) (s : State) → stands ws ≡ true → B (BoundValue ∷ ws) (bound_value w ws s)
  bound_value_balanced ws s h =
      cond_both (is_right w.kind) _ _ (B (BoundValue ∷ ws)) (λ e. (h, closed ws e)) (λ _. value_balanced ToBind (Closes EndsWhole ∷ ws) s h)

  -- ---- substr

  source_named_balanced : (o : Option ℕ) (ws : List Wanted) (s : State) → is_variable w.kind ≡ true → stands ws ≡ true → B ws (source_named o ws s)
  source_named_balanced (Some c) ws s e h = (h, sym (variable_keeps w.kind (owed ws) e))
  source_named_balanced None ws s e h = tt

  source_cell_balanced : (ws : List Wanted) (s : State) → stands ws ≡ true → B ws (source_cell w ws s)
  source_cell_balanced ws s h =
      cond_both (is_variable w.kind) _ _ (B ws) (λ e. source_named_balanced (number_of w.name s.elements) ws s e h) (λ _. tt)

  source_at_balanced : (t : Target) (o : Option ℕ) (ws : List Wanted) (s : State) → is_name w.kind ≡ true → stands ws ≡ true → B (SourceAttribute t ∷ ws) (source_at t w.name o ws s)
  source_at_balanced t (Some f) ws s e h = (h, named (SourceAttribute t ∷ ws) e)
  source_at_balanced t None ws s e h = tt

  source_attribute_balanced : (t : Target) (ws : List Wanted) (s : State) → stands ws ≡ true → B (SourceAttribute t ∷ ws) (source_attribute t w ws s)
  source_attribute_balanced t ws s h =
      cond_both (is_name w.kind) _ _ (B (SourceAttribute t ∷ ws))
      (λ e. source_at_balanced t (position (λ a. a.0 == w.name.0) (source_class s).attrs) ws s e h) (λ _. tt)

  source_end_balanced : (t : Target) (name : Sym) (ws : List Wanted) (s : State) → stands ws ≡ true → B ws (source_end t name w ws s)
  source_end_balanced t name ws s h =
      cond_both (ends_at_inf w s) _ _ (B ws)
      (λ e. let inf = (and_parts (is_inf w.keyword) (is_vector (source_class s) s.source_field) e).0 in
      cond_both (takes_several t) _ _ (B ws) (λ _. term_balanced t (term.Rest s.source) _ ws s h (sym (quiet (owed ws) (inf_known w.keyword inf)))) (λ _. tt))
      (λ _. cond_both (is_name w.kind && (w.name.0 == name.0)) _ _ (B ws)
      (λ e. term_balanced t (term.One s.source s.source_field) _ ws s h (named ws (and_parts (is_name w.kind) (w.name.0 == name.0) e).0)) (λ _. tt))

  designated_balanced : (r : Result ℕ Fault) (ws : List Wanted) (s : State) → cell_of w.kind w.name s ≡ r → stands ws ≡ true → B ws (with_designated r ws s)
  designated_balanced (Ok c) ws s e h = (h, sym (designator_keeps w.kind w.name s c (owed ws) e))
  designated_balanced (Err f) ws s e h = tt

  modified_balanced : (r : Result ℕ Fault) (ws : List Wanted) (s : State) → cell_of w.kind w.name s ≡ r → stands ws ≡ true → B ws (with_modified r ws s)
  modified_balanced (Ok c) ws s e h = (h, sym (designator_keeps w.kind w.name s c (owed ws) e))
  modified_balanced (Err f) ws s e h = tt

  cell_bound_balanced : (o : Option ℕ) (ws : List Wanted) (s : State) → is_variable w.kind ≡ true → stands ws ≡ true → B ws (cell_bound o w.name ws s)
  cell_bound_balanced (Some class) ws s e h = (h, sym (variable_keeps w.kind (owed ws) e))
  cell_bound_balanced None ws s e h = tt

  columns_balanced : (c : Column) (o : Option ℕ) (ws : List Wanted) (s : State) → small_of w.kind ≡ o → stands ws ≡ true → B ws (columns_at c o ws s)
  columns_balanced c (Some n) ws s e h = (h, sym (small_keeps w.kind n (owed ws) e))
  columns_balanced c None ws s e h = tt

  -- ---- commands

  counted_balanced : (o : Option ℕ) (ws : List Wanted) (s : State) → count_of w.kind ≡ o → stands ws ≡ true → B (Count ∷ ws) (counted o ws s)
  counted_balanced (Some n) ws s e h = (h, sym (count_keeps w.kind n (1 + owed ws) e))
  counted_balanced None ws s e h = tt

  count_balanced : (ws : List Wanted) (s : State) → stands ws ≡ true → B (Count ∷ ws) (count w ws s)
  count_balanced ws s h =
      cond_both (is_right w.kind) _ _ (B (Count ∷ ws)) (λ e. (h, closed ws e)) (λ _. counted_balanced (count_of w.kind) ws s refl h)

  strategy_set_balanced : (o : Option Strategy) (ws : List Wanted) (s : State) → strategy_of w.keyword ≡ o → stands ws ≡ true → B (StrategyName ∷ ws) (strategy_set o ws s)
  strategy_set_balanced (Some g) ws s e h = (h, sym (quiet (1 + owed ws) (strategy_known w.keyword g e)))
  strategy_set_balanced None ws s e h = tt

  strategy_name_balanced : (ws : List Wanted) (s : State) → stands ws ≡ true → B (StrategyName ∷ ws) (strategy_name w ws s)
  strategy_name_balanced ws s h =
      cond_both (is_right w.kind) _ _ (B (StrategyName ∷ ws)) (λ e. (h, closed ws e)) (λ _. strategy_set_balanced (strategy_of w.keyword) ws s refl h)

  tag_balanced : (u : TagUse) (o : Option ℕ) (ws : List Wanted) (s : State) → count_of w.kind ≡ o → stands ws ≡ true → B (Tags u ∷ ws) (tag_at o (Tags u ∷ ws) s)
  tag_balanced u (Some n) ws s e h = (h, sym (count_keeps w.kind n (1 + owed ws) e))
  tag_balanced u None ws s e h = tt

  tag_or_all_balanced : (ws : List Wanted) (s : State) → stands ws ≡ true → B (TagOrAll ∷ ws) (tag_or_all w ws s)
  tag_or_all_balanced ws s h =
      cond_both (is_all w.keyword) _ _ (B (TagOrAll ∷ ws)) (λ e. (h, sym (quiet (1 + owed ws) (all_known w.keyword e))))
      (λ _. tag_balanced ToRemove (count_of w.kind) ws s refl h)

  tags_balanced : (u : TagUse) (ws : List Wanted) (s : State) → stands ws ≡ true → B (Tags u ∷ ws) (tags u w ws s)
  tags_balanced u ws s h =
      cond_both (is_right w.kind) _ _ (B (Tags u ∷ ws)) (λ e. (h, closed ws e)) (λ _. tag_balanced u (count_of w.kind) ws s refl h)

  class_name_balanced : (ws : List Wanted) (s : State) → stands ws ≡ true → B ws (class_name w ws s)
  class_name_balanced ws s h =
      cond_both (is_name w.kind) _ _ (B ws) (λ e. class_at_balanced (position (λ c. c.name.0 == w.name.0) s.classes) ws s e h) (λ _. tt)

  shown_balanced : (ws : List Wanted) (s : State) → stands ws ≡ true → B (Shown ∷ ws) (shown w ws s)
  shown_balanced ws s h =
      cond_both (is_right w.kind) _ _ (B (Shown ∷ ws)) (λ e. (h, closed ws e))
      (λ _. class_name_balanced (Terms InFixed ∷ ws) (record s { fixed = []; shows = true }) h)

  named_rule_balanced : (ws : List Wanted) (s : State) → stands ws ≡ true → B ws (named_rule w ws s)
  named_rule_balanced ws s h = cond_both (is_name w.kind) _ _ (B ws) (λ e. (h, named ws e)) (λ _. tt)

  named_rules_balanced : (u : NameUse) (ws : List Wanted) (s : State) → stands ws ≡ true → B (NamedRules u ∷ ws) (named_rules u w ws s)
  named_rules_balanced u ws s h =
      cond_both (is_right w.kind) _ _ (B (NamedRules u ∷ ws)) (λ e. (h, closed ws e)) (λ _. named_rule_balanced (NamedRules u ∷ ws) s h)

  level_set_balanced : (o : Option ℕ) (ws : List Wanted) (s : State) → level_of w.kind ≡ o → stands ws ≡ true → B (Level ∷ ws) (level_set o ws s)
  level_set_balanced (Some n) ws s e h = (h, sym (level_keeps w.kind n (1 + owed ws) e))
  level_set_balanced None ws s e h = tt

  undone_set_balanced : (o : Option ℕ) (ws : List Wanted) (s : State) → undone_of w.kind ≡ o → stands ws ≡ true → B (Undone ∷ ws) (undone_set o ws s)
  undone_set_balanced (Some n) ws s e h = (h, sym (undone_keeps w.kind n (1 + owed ws) e))
  undone_set_balanced None ws s e h = tt

  level_balanced : (ws : List Wanted) (s : State) → stands ws ≡ true → B (Level ∷ ws) (level w ws s)
  level_balanced ws s h =
      cond_both (is_right w.kind) _ _ (B (Level ∷ ws)) (λ e. (h, closed ws e)) (λ _. level_set_balanced (level_of w.kind) ws s refl h)

  undone_balanced : (ws : List Wanted) (s : State) → stands ws ≡ true → B (Undone ∷ ws) (undone w ws s)
  undone_balanced ws s h =
      cond_both (is_right w.kind) _ _ (B (Undone ∷ ws)) (λ e. (h, closed ws e)) (λ _. undone_set_balanced (undone_of w.kind) ws s refl h)

  -- ---- the places and values of a vector attribute

  place_balanced : (f : ℕ) (ws : List Wanted) (s : State) → (in_form ws && stands ws) ≡ true → B ws (place f w ws s)
  place_balanced f ws s h =
      cond_both (is_left_brace w.kind) _ _ (B ws) (λ e. (h, sym (left_brace_keeps w.kind (owed ws) e))) (λ _. test_balanced f ws s h)

  within_balanced : (b : Bool) (n : ℕ) (r : Step) → Balanced n r → Balanced n (within b r)
  within_balanced true n r h = h
  within_balanced false n (Next ws s) h = tt
  within_balanced false n (Refuses f) h = tt

  one_of_several_balanced : (u : Use) (f : ℕ) (ws : List Wanted) (s : State) → stands ws ≡ true → B (Several u f ∷ ws) (one_of_several u f w ws s)
  one_of_several_balanced InPattern f ws s h = within_balanced (nat_lt f most_fields) _ _ (place_balanced f (Several InPattern (f + 1) ∷ ws) s h)
  one_of_several_balanced InPut f ws s h = value_balanced ToTerms (Several InPut f ∷ ws) s h
  one_of_several_balanced InFixed f ws s h =
      within_balanced (nat_lt (f + length s.constants) most_fields) _ _ (value_balanced ToConstants (Several InFixed f ∷ ws) s h)

  -- ---- a step

  terms_balanced : (u : Use) (ws : List Wanted) (s : State) → stands ws ≡ true → B (Terms u ∷ ws) (terms u w ws s)
  terms_balanced u ws s h =
      cond_both (is_right w.kind) _ _ (B (Terms u ∷ ws)) (λ e. (h, closed ws e))
      (λ _. cond_both (is_caret w.kind) _ _ (B (Terms u ∷ ws)) (λ e. (h, sym (caret_keeps w.kind (1 + owed ws) e))) (λ _. tt))

  arrow_known : (k : Keyword) → is_arrow k ≡ true → k ≡ keyword.Other → ⊥
  arrow_known keyword.Arrow e o = absurd (cc)
  arrow_known _ e o = absurd (true≢false (sym e))

  step_balanced : (ws : List Wanted) (s : State) → stands ws ≡ true → B ws (step w ws s)
  unfolding step
  step_balanced [] s h = tt
  step_balanced (Forms ∷ ws) s h = cond_both (is_left w.kind) _ _ (B (Forms ∷ ws)) (λ e. (h, opened ws e)) (λ _. tt)
  step_balanced (Form ∷ ws) s h = form_balanced w.keyword ws s refl h
  step_balanced (ClassDeclared ∷ ws) s h =
      cond_both (is_name w.kind) _ _ (B (ClassDeclared ∷ ws))
      (λ e. cond_both (is_class s w.name) _ _ (B (ClassDeclared ∷ ws)) (λ _. tt) (λ _. ((and_parts (in_form ws) (stands ws) h).1, named ws e))) (λ _. tt)
  step_balanced (Attributes ∷ ws) s h =
      cond_both (is_right w.kind) _ _ (B (Attributes ∷ ws)) (λ e. (h, closed ws e))
      (λ _. cond_both (is_name w.kind) _ _ (B (Attributes ∷ ws))
      (λ e. cond_both (is_one_of w.name s.attrs) _ _ (B (Attributes ∷ ws)) (λ _. tt)
      (λ _. cond_both (is_second w.name s) _ _ (B (Attributes ∷ ws)) (λ _. tt)
      (λ _. cond_both (nat_lt (length s.attrs) most_fields) _ _ (B (Attributes ∷ ws)) (λ _. (h, named (Attributes ∷ ws) e)) (λ _. tt))))
      (λ _. tt))
  step_balanced (VectorName ∷ ws) s h = vector_name_balanced ws s (and_parts (in_form ws) (stands ws) h).1
  step_balanced (VectorNames ∷ ws) s h =
      cond_both (is_right w.kind) _ _ (B (VectorNames ∷ ws)) (λ e. (h, closed ws e)) (λ _. vector_name_balanced (VectorNames ∷ ws) s h)
  step_balanced (RuleName ∷ ws) s h =
      cond_both (is_name w.kind) _ _ (B (RuleName ∷ ws))
      (λ e. cond_both (is_rule s w.name) _ _ (B (RuleName ∷ ws)) (λ _. tt) (λ _. ((and_parts (in_form ws) (stands ws) h).1, named ws e))) (λ _. tt)
  step_balanced (FirstPattern ∷ ws) s h =
      cond_both (is_left w.kind) _ _ (B (FirstPattern ∷ ws)) (λ e. ((and_parts (in_form ws) (stands ws) h).1, opened ws e))
      (λ _. cond_both (is_left_brace w.kind) _ _ (B (FirstPattern ∷ ws)) (λ e. (h, sym (left_brace_keeps w.kind (owed ws) e)))
      (λ _. cond_both (is_minus w.keyword || begins_group w.keyword) _ _ (B (FirstPattern ∷ ws)) (λ _. tt) (λ _. tt)))
  step_balanced (Patterns ∷ ws) s h =
      cond_both (is_arrow w.keyword) _ _ (B (Patterns ∷ ws)) (λ e. ((and_parts (in_form ws) (stands ws) h).1, sym (quiet (owed ws) (arrow_known w.keyword e))))
      (λ _. cond_both (is_left w.kind) _ _ (B (Patterns ∷ ws))
      (λ e. cond_both (nat_lt (length (elements_of s.conditions)) most_conditions) _ _ (B (Patterns ∷ ws)) (λ _. (h, opened (Patterns ∷ ws) e)) (λ _. tt))
      (λ _. cond_both (is_left_brace w.kind) _ _ (B (Patterns ∷ ws))
      (λ e. cond_both (nat_lt (length (elements_of s.conditions)) most_conditions) _ _ (B (Patterns ∷ ws)) (λ _. (h, sym (left_brace_keeps w.kind (owed ws) e))) (λ _. tt))
      (λ _. cond_both (is_minus w.keyword) _ _ (B (Patterns ∷ ws))
      (λ e. cond_both (nat_lt (length (elements_of s.conditions)) most_conditions) _ _ (B (Patterns ∷ ws)) (λ _. (h, sym (quiet (owed ws) (minus_known w.keyword e)))) (λ _. tt))
      (λ _. cond_both (begins_group w.keyword) _ _ (B (Patterns ∷ ws)) (λ e. (h, sym (quiet (owed ws) (group_known w.keyword e)))) (λ _. tt)))))
  step_balanced (Pattern ∷ ws) s h =
      cond_both (is_left w.kind) _ _ (B (Pattern ∷ ws)) (λ e. ((and_parts (in_form ws) (stands ws) h).1, opened ws e)) (λ _. tt)
  step_balanced (GroupBrace ∷ ws) s h =
      cond_both (is_left_brace w.kind) _ _ (B (GroupBrace ∷ ws)) (λ e. (h, sym (left_brace_keeps w.kind (owed ws) e))) (λ _. tt)
  step_balanced (Members n ∷ ws) s h =
      cond_both (is_right_brace w.kind && nat_le 2 n) _ _ (B (Members n ∷ ws))
      (λ e. ((and_parts (in_form ws) (stands ws) h).1, sym (right_brace_keeps w.kind (owed ws) (and_parts (is_right_brace w.kind) (nat_le 2 n) e).0)))
      (λ _. cond_both (is_left w.kind) _ _ (B (Members n ∷ ws))
      (λ e. cond_both (has_room s) _ _ (B (Members n ∷ ws)) (λ _. (h, opened ws e)) (λ _. tt)) (λ _. tt))
  step_balanced (Braced ∷ ws) s h =
      cond_both (is_left w.kind) _ _ (B (Braced ∷ ws)) (λ e. (h, opened ws e)) (λ _. element_name_balanced (Pattern ∷ ClosesBrace ∷ ws) s h)
  step_balanced (ElementName ∷ ws) s h = element_name_balanced ws s (and_parts (in_form ws) (stands ws) h).1
  step_balanced (ClosesBrace ∷ ws) s h =
      cond_both (is_right_brace w.kind) _ _ (B (ClosesBrace ∷ ws)) (λ e. ((and_parts (in_form ws) (stands ws) h).1, sym (right_brace_keeps w.kind (owed ws) e))) (λ _. tt)
  step_balanced (ClassName ∷ ws) s h = class_name_balanced ws s (and_parts (in_form ws) (stands ws) h).1
  step_balanced (Terms u ∷ ws) s h = terms_balanced u ws s h
  step_balanced (Attribute u ∷ ws) s h =
      cond_both (is_name w.kind) _ _ (B (Attribute u ∷ ws))
      (λ e. field_at_balanced u (position (λ a. a.0 == w.name.0) (attributes_of (slice_get s.classes s.class))) ws s e h) (λ _. tt)
  step_balanced (Several u f ∷ ws) s h =
      cond_both (is_right w.kind || is_caret w.kind) _ _ (B (Several u f ∷ ws)) (λ _. terms_balanced u ws (with_several u f s) h)
      (λ _. one_of_several_balanced u f ws s h)
  step_balanced (Place f ∷ ws) s h = place_balanced f ws s h
  step_balanced (Tests f ∷ ws) s h =
      cond_both (is_right_brace w.kind) _ _ (B (Tests f ∷ ws)) (λ e. ((and_parts (in_form ws) (stands ws) h).1, sym (right_brace_keeps w.kind (owed ws) e)))
      (λ _. test_balanced f (Tests f ∷ ws) s h)
  step_balanced (Tested f p ∷ ws) s h = tested_balanced f p ws s h
  step_balanced (Choice f ∷ ws) s h =
      cond_both (closes_choice w.keyword) _ _ (B (Choice f ∷ ws)) (λ e. ((and_parts (in_form ws) (stands ws) h).1, sym (quiet (owed ws) (closing_known w.keyword e))))
      (λ _. chosen_balanced f (atom_of w.kind w.name) (Choice f ∷ ws) s refl h)
  step_balanced (Atom t ∷ ws) s h = atom_balanced t (atom_of w.kind w.name) ws s refl (and_parts (in_form ws) (stands ws) h).1
  step_balanced (ValueFor t ∷ ws) s h = value_balanced t ws s h
  step_balanced (Function t ∷ ws) s h = function_balanced t w.keyword ws s refl h
  step_balanced (ExpressionUnit d ∷ ws) s h = unit_balanced d ws s (and_parts (in_form ws) (stands ws) h).1
  step_balanced (ExpressionRest d waiting into ∷ ws) s h = rest_balanced d waiting into ws s h
  step_balanced (Bracketed d ∷ ws) s h = bracketed_balanced d ws s h
  step_balanced (SourceCell ∷ ws) s h = source_cell_balanced ws s (and_parts (in_form ws) (stands ws) h).1
  step_balanced (SourceAttribute t ∷ ws) s h = source_attribute_balanced t ws s h
  step_balanced (SourceEnd t name ∷ ws) s h = source_end_balanced t name ws s (and_parts (in_form ws) (stands ws) h).1
  step_balanced (Actions b ∷ ws) s h =
      cond_both (is_right w.kind) _ _ (B (Actions b ∷ ws)) (λ e. (h, closed ws e))
      (λ _. cond_both (is_left w.kind) _ _ (B (Actions b ∷ ws)) (λ e. (h, opened (Actions b ∷ ws) e)) (λ _. tt))
  step_balanced (ActionWord b ∷ ws) s h = action_word_balanced b w.keyword ws s refl h
  step_balanced (BuiltName ∷ ws) s h =
      cond_both (is_name w.kind) _ _ (B (BuiltName ∷ ws)) (λ e. ((and_parts (in_form ws) (stands ws) h).1, named ws e)) (λ _. tt)
  step_balanced (Modified ∷ ws) s h = modified_balanced (cell_of w.kind w.name s) ws s refl (and_parts (in_form ws) (stands ws) h).1
  step_balanced (BoundName ∷ ws) s h =
      cond_both (is_variable w.kind) _ _ (B (BoundName ∷ ws)) (λ e. ((and_parts (in_form ws) (stands ws) h).1, sym (variable_keeps w.kind (owed ws) e))) (λ _. tt)
  step_balanced (BoundValue ∷ ws) s h = bound_value_balanced ws s h
  step_balanced (CellName ∷ ws) s h =
      cond_both (is_variable w.kind) _ _ (B (CellName ∷ ws)) (λ e. cell_bound_balanced s.made ws s e (and_parts (in_form ws) (stands ws) h).1) (λ _. tt)
  step_balanced (Cell ∷ ws) s h = designated_balanced (cell_of w.kind w.name s) ws s refl (and_parts (in_form ws) (stands ws) h).1
  step_balanced (Cells ∷ ws) s h =
      cond_both (is_right w.kind) _ _ (B (Cells ∷ ws)) (λ e. (h, closed ws e)) (λ _. designated_balanced (cell_of w.kind w.name s) (Cells ∷ ws) s refl h)
  step_balanced (Items ∷ ws) s h =
      cond_both (is_right w.kind) _ _ (B (Items ∷ ws)) (λ e. (h, closed ws e))
      (λ _. cond_both (is_left w.kind) _ _ (B (Items ∷ ws)) (λ e. (h, opened (Items ∷ ws) e)) (λ _. value_balanced ToItem (Items ∷ ws) s h))
  step_balanced (ItemWord ∷ ws) s h = item_word_balanced w.keyword ws s refl h
  step_balanced (Columns c ∷ ws) s h = columns_balanced c (small_of w.kind) ws s refl (and_parts (in_form ws) (stands ws) h).1
  step_balanced (Count ∷ ws) s h = count_balanced ws s h
  step_balanced (StrategyName ∷ ws) s h = strategy_name_balanced ws s h
  step_balanced (TagOrAll ∷ ws) s h = tag_or_all_balanced ws s h
  step_balanced (Tags u ∷ ws) s h = tags_balanced u ws s h
  step_balanced (Shown ∷ ws) s h = shown_balanced ws s h
  step_balanced (NamedRule ∷ ws) s h = named_rule_balanced ws s (and_parts (in_form ws) (stands ws) h).1
  step_balanced (NamedRules u ∷ ws) s h = named_rules_balanced u ws s h
  step_balanced (Level ∷ ws) s h = level_balanced ws s h
  step_balanced (Undone ∷ ws) s h = undone_balanced ws s h
  step_balanced (Closes x ∷ ws) s h = cond_both (is_right w.kind) _ _ (B (Closes x ∷ ws)) (λ e. (h, closed ws e)) (λ _. tt)

-- ---- where the words end

-- the words do not end too early
abbrev pub NotCut : Outcome → Type 0
NotCut (Ok s) = Unit {0}
NotCut (Err (f, Some w)) = Unit {0}
NotCut (Err (f, None)) = ⊥

-- the words are not read to their end
abbrev pub NotDone : Outcome → Type 0
NotDone (Ok s) = ⊥
NotDone (Err e) = Unit {0}

ends_read : (ws : List Wanted) (s : State) → stands ws ≡ true → owed ws ≡ 0 → NotCut (ends ws s)
unfolding ends
ends_read [] s h e = tt
ends_read (Forms ∷ []) s h e = tt
ends_read (Forms ∷ (v ∷ ws)) s h e = absurd (true≢false (sym h))
ends_read (w ∷ ws) s h e = absurd (let k = in_form_owes (w ∷ ws) refl h in omega (arith, k))

ends_cut : (ws : List Wanted) (s : State) → stands ws ≡ true → 1 ≤ owed ws → NotDone (ends ws s)
unfolding ends
ends_cut [] s h e = absurd (true≢false (sym h))
ends_cut (Forms ∷ []) s h e = absurd (omega arith)
ends_cut (Forms ∷ (v ∷ ws)) s h e = absurd (true≢false (sym h))
ends_cut (w ∷ ws) s h e = tt

other_before : (k : Keyword) (ts : List Token) → k ≡ keyword.Other → keyword_before k ts ≡ keyword.Other
other_before k ts e = ap (λ (k : Keyword). keyword_before k ts) e

-- a hole is quoted
word_keeps : (text : List ℕ) (names : Spellings) (t : Token) (n : ℕ) → (keyword_in text names t ≡ keyword.Other → ⊥) → open_behind n t.kind ≡ n
word_keeps text names t n = by (is_joined text t) refl
  where
    by : (b : Bool) → is_joined text t ≡ b → ((if b then hole_in text names t else keyword_of t.kind (spelling text t)) ≡ keyword.Other → ⊥) → open_behind n t.kind ≡ n
    by true is known = quoted_keeps t.kind n (and_parts (is_quoted t.kind) _ is).0
    by false is known = keyword_keeps t.kind (spelling text t) n known

quiet_word : (text : List ℕ) (names : Spellings) (t : Token) (ts : List Token) (n : ℕ) → ((word_before (word_of text names t) ts).keyword ≡ keyword.Other → ⊥) → open_behind n t.kind ≡ n
quiet_word text names t ts n known = word_keeps text names t n (λ other. known (other_before (keyword_in text names t) ts other))

read_on : (rest : List Wanted → State → Outcome) (w : Word) (n : ℕ) (r : Step) → Balanced n r → ((ws : List Wanted) (s : State) → stands ws ≡ true → owed ws ≡ n → NotCut (rest ws s)) → NotCut (after rest w r)
read_on rest w n (Next ws s) h f = f ws s h.0 h.1
read_on rest w n (Refuses x) h f = tt

cut_on : (rest : List Wanted → State → Outcome) (w : Word) (n : ℕ) (r : Step) → Balanced n r → ((ws : List Wanted) (s : State) → stands ws ≡ true → owed ws ≡ n → NotDone (rest ws s)) → NotDone (after rest w r)
cut_on rest w n (Next ws s) h f = f ws s h.0 h.1
cut_on rest w n (Refuses x) h f = tt

none_left : (ts : List Token) → is_last ts ≡ true → ts ≡ []
none_left [] e = refl
none_left (t ∷ ts) e = absurd (true≢false (sym e))

either_end : (X : Type 0) (b : Bool) (m : ℕ) (ts : List Token) → (m == 0) ≡ b → cond b (is_last ts) (closes_last m ts) ≡ true → (m ≡ 0 → ts ≡ [] → X) → (closes_last m ts ≡ true → X) → X
either_end X true m ts is c done more = done (eqb-true m 0 is) (none_left ts c)
either_end X false m ts is c done more = more c

-- the words of a form whose brackets are closed are not cut off
pub closed_reads : (text : List ℕ) (ts : List Token) (names : Spellings) (n : ℕ) (ws : List Wanted) (s : State) → stands ws ≡ true → owed ws ≡ n → closes_last n ts ≡ true → NotCut (goes (words_from text names ts) ws s)
unfolding goes
closed_reads text [] names n ws s h e c = absurd (true≢false (sym c))
closed_reads text (t ∷ ts) names n ws s h e c =
    let w = word_before (word_of text names t) ts in
    let names' = names_with names t.kind (spelling text t) in
    let m = open_behind n t.kind in
    read_on (goes (words_from text names' ts)) w m (step w ws s) (rw e at (step_balanced w (quiet_word text names t ts) ws s h))
    (λ ws' s' h' e'. either_end (NotCut (goes (words_from text names' ts) ws' s')) (m == 0) m ts refl c
    (λ none last. subst (λ (us : List Token). NotCut (goes (words_from text names' us) ws' s')) (sym last) (ends_read ws' s' h' (e' ∙ none)))
    (λ more. closed_reads text ts names' m ws' s' h' e' more))

-- the words of a form whose brackets stay open do not end
pub open_goes_on : (text : List ℕ) (ts : List Token) (names : Spellings) (n : ℕ) (ws : List Wanted) (s : State) → stands ws ≡ true → owed ws ≡ n → 1 ≤ n → stays_open n ts ≡ true → NotDone (goes (words_from text names ts) ws s)
unfolding goes
open_goes_on text [] names n ws s h e some c = ends_cut ws s h (omega arith)
open_goes_on text (t ∷ ts) names n ws s h e some c =
    let w = word_before (word_of text names t) ts in
    let names' = names_with names t.kind (spelling text t) in
    let m = open_behind n t.kind in
    let parts = and_parts (not (m == 0)) (stays_open m ts) c in
    let apart : (m ≡ 0) → ⊥ = eqb-false m 0 (not-true _ parts.0) in
    cut_on (goes (words_from text names' ts)) w m (step w ws s) (rw e at (step_balanced w (quiet_word text names t ts) ws s h))
    (λ ws' s' h' e'. open_goes_on text ts names' m ws' s' h' e' (omega arith) parts.1)

-- so from its first bracket on
pub open_form_goes_on : (text : List ℕ) (ts : List Token) (names : Spellings) (s : State) → opens ts ≡ true → stays_open 0 ts ≡ true → NotDone (goes (words_from text names ts) (Forms ∷ []) s)
unfolding goes
open_form_goes_on text [] names s o c = absurd (true≢false (sym o))
open_form_goes_on text (t ∷ ts) names s o c =
    let w = word_before (word_of text names t) ts in
    let names' = names_with names t.kind (spelling text t) in
    let m = open_behind 0 t.kind in
    let parts = and_parts (not (m == 0)) (stays_open m ts) c in
    let apart : (m ≡ 0) → ⊥ = eqb-false m 0 (not-true _ parts.0) in
    cut_on (goes (words_from text names' ts)) w m (step w (Forms ∷ []) s) (step_balanced w (quiet_word text names t ts) (Forms ∷ []) s refl)
    (λ ws' s' h' e'. open_goes_on text ts names' m ws' s' h' e' (omega arith) parts.1)
