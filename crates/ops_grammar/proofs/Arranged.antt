-- While a text is read, an attribute of a class is its vector attribute exactly where its name is one of a vector attribute.
use Rattle.ops_base.specs.declared.rules.Rule.{Rule}
use Rattle.std.proofs.Common.{◌≡◌, ℕ, zero, suc, ◌+◌, ◌-◌, ◌<◌, Bool, true, false, ◌&&◌, ◌||◌, ◌==◌, cond, List, [], ◌∷◌, ◌++◌, length, take, length-take, refl, sym, ap, subst, ◌∙◌, arith, Option, Some, None, Result, Ok, Err, nat_lt, unwrap_or, slice_get, position, get_or, true≢false, nat_le}
use Rattle.std.specs.List.{list_any, All}
use Rattle.std.proofs.lemmas.Bool.{and_from, and_parts, or_parts, cond_both, eqb-true, eq-eqb, ltb-true}
use Rattle.std.proofs.lemmas.List.{get_or-take}
use Rattle.std.proofs.lemmas.List.Elements.{All-nil, All-head, All-tail, All-push}
use Rattle.std.proofs.lemmas.List.Quantifiers.{position-Some}
use Rattle.std.proofs.lemmas.Option.{unwrap_or-slice_get}
use Rattle.ops_base.specs.declared.values.Sym.{Sym}
use Rattle.ops_base.specs.declared.values.Value.{Value}
use Rattle.ops_base.specs.declared.values.Pred.{Pred}
use Rattle.ops_base.specs.declared.values.Pred.TheVariants as pred
use Rattle.ops_base.specs.declared.elements.Class.{Class}
use Rattle.ops_base.specs.declared.conditions.Operand.TheVariants as operand
use Rattle.ops_base.specs.declared.expression.Op.{Op}
use Rattle.ops_base.specs.Expression.{Formula}
use Rattle.ops_base.specs.Expression as formula
use Rattle.ops_base.specs.declared.actions.Term.{Term}
use Rattle.ops_base.specs.declared.actions.Term.TheVariants as term
use Rattle.ops_base.specs.declared.actions.Item.TheVariants as item
use Rattle.ops_base.specs.declared.commands.Command.TheVariants as command
use Rattle.ops_base.specs.declared.commands.Strategy.{Strategy}
use Rattle.ops_base.specs.declared.endings.Fault.{Fault}
use Rattle.ops_base.specs.Valid.{most_fields, most_conditions, no_class, class_of, is_vector, elements_of}
use Rattle.ops_tokens.specs.declared.token.TokenKind.{TokenKind}
use Rattle.ops_tokens.specs.declared.token.TokenKind.TheVariants as kind
use Rattle.ops_grammar.specs.declared.words.Word.{Word}
use Rattle.ops_grammar.specs.declared.words.Keyword.{Keyword}
use Rattle.ops_grammar.specs.declared.words.Keyword.TheVariants as keyword
use Rattle.ops_grammar.proofs.Constants.{constant_cases}
use Rattle.ops_grammar.specs.Grammar.{Use, InPattern, InPut, InFixed, Target, ToTest, ToPut, ToFixed, ToTerms, ToConstants, ToItem, ToBind, Ends, EndsHalt, EndsCrlf, EndsCs, EndsExit, EndsWhole, Column, TagUse, ToRemove, NameUse, Wanted, Forms, Form, ClassDeclared, Attributes, VectorName, VectorNames, RuleName, FirstPattern, Patterns, Pattern, Braced, ElementName, ClosesBrace, ClassName, Terms, Attribute, Several, Place, Tests, Tested, Choice, Atom, ValueFor, Function, ExpressionUnit, ExpressionRest, Bracketed, SourceCell, SourceAttribute, SourceEnd, Actions, ActionWord, Modified, BoundName, BoundValue, CellName, Cell, Cells, Items, ItemWord, Columns, Count, StrategyName, TagOrAll, Tags, Shown, NamedRule, NamedRules, Level, Undone, Closes, State, Step, Next, Refuses, is_left, is_right, is_left_brace, is_right_brace, is_caret, is_name, is_variable, is_arrow, is_literal, is_minus, opens_choice, closes_choice, pred_of, constant_of, atom_of, value_of, small_of, is_one_of, number_of, may_declare, is_class, is_rule, form, class_declared, arranged, has_vector, with_class, is_second, attribute_declared, attributes, with_vector, makes_second, vector_declared, vector_name, class_at, class_name, attributes_of, behind_attribute, field_at, with_test, with_put, with_item, with_bind, with_constant, with_bound, variable_tested, constant_tested, tested, predicated, test, place, tests, with_choice, chosen, choice, atom_at, term_at, bound_at, constant_at, is_of_action, value_for, function, no_formula, with_formula, most_brackets, completed, is_compute, operation_of, unit_bound, unit_at, expression_unit, bracketed, operation_at, expression_ended, expression_rest, Waiting, source_named, source_cell, source_class, source_at, source_attribute, takes_several, ends_at_inf, source_end, with_element, terms, within, one_of_several, with_several, several, left_begun, left_ended, right_begun, rule_name, first_pattern, one_more, more_patterns, patterns, element_at, element_name, braced, with_bound_element, with_rule, actions, action_word, with_designated, cell_of, classes_of_cells, with_modified, bound_name, bound_value, with_cell, cell_bound, cell_name, with_remove, cells, with_write, items, item_word, column_item, columns_at, ended, with_command, count_of, counted, count, strategy_of, strategy_set, strategy_name, tag_at, is_all, tag_or_all, with_tags, tags, shown, named_rule, with_named, named_rules, level_of, undone_of, level_set, undone_set, level, undone, step, nothing_read, begins_group, GroupBrace, Members, members, with_group, with_member, with_one, has_room, with_hole, with_choice_of, constant_by, side_ended, build_ended, with_template, rule_of, Outer, build_word, BuiltName, counting}
use Rattle.ops_grammar.specs.Spelling.{unnamed, attribute_name, last_field}
use Rattle.ops_grammar.proofs.PlainClasses.{IsArranged, IsAttributes, class_arranged, classes_arranged, attributes_begun, attribute_pushed}

-- what functions give goes to values of actions, and the second attribute of a `substr` is wanted before all else
abbrev pub functions_fit : List Wanted → Bool
functions_fit [] = true
functions_fit (Function t ∷ ws) = is_of_action t && functions_fit ws
functions_fit (ExpressionRest d waiting (Some t) ∷ ws) = is_of_action t && functions_fit ws
functions_fit (SourceAttribute t ∷ ws) = is_of_action t && functions_fit ws
functions_fit (SourceEnd t name ∷ ws) = false
functions_fit (w ∷ ws) = functions_fit ws

-- the classes are arranged by the names of vector attributes, and no attribute of a class is read
abbrev pub Rests : List Wanted → State → Type 0
Rests ws s = All (IsArranged s.vectors) s.classes × (s.attrs ≡ []) × (functions_fit ws ≡ true)

-- So it is whatever is wanted, but for two things: where attributes of a class are wanted, those that were read are
-- arranged too; and where the second attribute of a `substr` is wanted, the field of the first is the vector attribute
-- exactly where its name is one of a vector attribute.
abbrev pub AreArranged : List Wanted → State → Type 0
AreArranged (Attributes ∷ ws) s = All (IsArranged s.vectors) s.classes × IsAttributes s.vectors s.attrs × (functions_fit ws ≡ true)
AreArranged (SourceEnd t name ∷ ws) s =
    Rests ws s × (is_of_action t ≡ true) × (is_vector (source_class s) s.source_field ≡ is_one_of name s.vectors)
AreArranged ws s = Rests ws s

abbrev pub StayArranged : Step → Type 0
StayArranged (Next ws s) = AreArranged ws s
StayArranged (Refuses f) = Unit {0}

-- ---- the kind of an attribute

-- a test that nothing passes is not passed by what stands there
none_at : {X : Type 0} (q : X → Bool) (xs : List X) (k : ℕ) (d : X) → list_any q xs ≡ false → k < length xs → q (get_or xs k d) ≡ false
none_at q [] k d h lt = absurd (omega arith)
none_at q (x ∷ xs) zero d h lt = (or_parts (q x) (list_any q xs) h).0
none_at q (x ∷ xs) (suc k) d h lt = none_at q xs k d (or_parts (q x) (list_any q xs) h).1 (omega arith)

-- to be one of some names depends on the number alone
same_one : (vectors : List Sym) (a b : Sym) → a.0 ≡ b.0 → is_one_of a vectors ≡ is_one_of b vectors
same_one vectors a b e = ap (λ (m : ℕ). list_any (λ (n : Sym). n.0 == m) vectors) e

-- an attribute in front of the vector attribute, where there is one
scalar_by : (vectors attrs : List Sym) (n f : ℕ) (b : Bool) → has_vector vectors (cond b (take n attrs) attrs) ≡ false → (b ≡ true → f < n) → f < length attrs → is_one_of (get_or attrs f unnamed) vectors ≡ false
scalar_by vectors attrs n f true h before lt =
    let within = before refl in
    let short = length-take n attrs in
    ap (λ (a : Sym). is_one_of a vectors) (sym (get_or-take n attrs f unnamed within)) ∙ none_at (λ a. is_one_of a vectors) (take n attrs) f unnamed h (omega (arith, within, lt, short))
scalar_by vectors attrs n f false h before lt = none_at (λ a. is_one_of a vectors) attrs f unnamed h lt

kind_by : (vectors : List Sym) (c : Class) (f : ℕ) → IsArranged vectors c → f < length c.attrs → (b : Bool) → is_vector c f ≡ b → is_one_of (get_or c.attrs f unnamed) vectors ≡ b
kind_by vectors c f h lt true is =
    let parts = and_parts c.vector (f + 1 == length c.attrs) is in
    let whole = eqb-true (f + 1) (length c.attrs) parts.1 in
    let at : length c.attrs - 1 ≡ f = omega (arith, whole) in
    sym (ap (λ (k : ℕ). is_one_of (attribute_name c k) vectors) at ∙ ap (λ (a : Sym). is_one_of a vectors) (unwrap_or-slice_get c.attrs f unnamed)) ∙ h.last parts.0
kind_by vectors c f h lt false is =
    scalar_by vectors c.attrs (last_field c) f c.vector h.scalars
    (λ vector. let apart : (f + 1 ≡ length c.attrs) → ⊥ = λ same. true≢false (sym (and_from _ _ vector (eq-eqb (f + 1) (length c.attrs) same)) ∙ is) in omega (arith, lt, apart)) lt

class_kind : (vectors : List Sym) (c : Class) (name : Sym) (f : ℕ) → IsArranged vectors c → position (λ a. a.0 == name.0) c.attrs ≡ Some f → is_vector c f ≡ is_one_of name vectors
class_kind vectors c name f h e =
    let found = position-Some (λ a. a.0 == name.0) c.attrs f unnamed e in
    sym (kind_by vectors c f h found.0 (is_vector c f) refl) ∙ same_one vectors (get_or c.attrs f unnamed) name (eqb-true _ _ found.1)

-- what holds of the class that stands there
standing : (P : Class → Type 0) (cs : List Class) (k : ℕ) (c : Class) → All P cs → slice_get cs k ≡ Some c → P c
standing P [] k c h at = absurd (cc)
standing P (x ∷ xs) zero c h at = let same : x ≡ c = cc in subst P same (All-head P x xs h)
standing P (x ∷ xs) (suc k) c h at = standing P xs k c (All-tail P x xs h) at

kind_of : (vectors : List Sym) (cs : List Class) (k : ℕ) (name : Sym) (f : ℕ) → All (IsArranged vectors) cs → (o : Option Class) → slice_get cs k ≡ o → position (λ a. a.0 == name.0) (attributes_of o) ≡ Some f → is_vector (unwrap_or o no_class) f ≡ is_one_of name vectors
kind_of vectors cs k name f h (Some c) at e = class_kind vectors c name f (standing (IsArranged vectors) cs k c h at) e
kind_of vectors cs k name f h None at e = absurd (cc)

source_kind : (vectors : List Sym) (cs : List Class) (k : ℕ) (name : Sym) (f : ℕ) → All (IsArranged vectors) cs → (o : Option Class) → slice_get cs k ≡ o → position (λ a. a.0 == name.0) (unwrap_or o no_class).attrs ≡ Some f → is_vector (unwrap_or o no_class) f ≡ is_one_of name vectors
source_kind vectors cs k name f h (Some c) at e = class_kind vectors c name f (standing (IsArranged vectors) cs k c h at) e
source_kind vectors cs k name f h None at e = absurd (cc)

classes_stay : (ws : List Wanted) (s : State) → AreArranged ws s → All (IsArranged s.vectors) s.classes
classes_stay (Attributes ∷ ws) s h = h.0
classes_stay (SourceEnd t name ∷ ws) s h = h.0.0
classes_stay _ s h = h.0

pub kind_agrees : (ws : List Wanted) (s : State) (name : Sym) (f : ℕ) → AreArranged ws s → position (λ a. a.0 == name.0) (attributes_of (slice_get s.classes s.class)) ≡ Some f → is_vector (class_of s.classes s.class) f ≡ is_one_of name s.vectors
kind_agrees ws s name f h e = kind_of s.vectors s.classes s.class name f (classes_stay ws s h) (slice_get s.classes s.class) refl e

-- ---- a word

pub arranged_begun : AreArranged (Forms ∷ []) nothing_read
arranged_begun = (All-nil _, refl, refl)

-- whatever is wanted then
rests : (ws : List Wanted) (s : State) → Rests ws s → AreArranged ws s
rests (Attributes ∷ ws) s h = (h.0, subst (IsAttributes s.vectors) (sym h.1) (attributes_begun s.vectors), h.2)
rests (SourceEnd t name ∷ ws) s h = absurd (true≢false (sym h.2))
rests _ s h = h

module _ (w : Word) where
  -- ---- declarations

  form_stays : (k : Keyword) (ws : List Wanted) (s : State) → Rests ws s → StayArranged (form w k ws s)
  form_stays keyword.Literalize ws s h = cond_both (may_declare s) _ _ StayArranged (λ _. h) (λ _. tt)
  form_stays keyword.VectorAttribute ws s h = cond_both (may_declare s) _ _ StayArranged (λ _. h) (λ _. tt)
  form_stays keyword.Production ws s h = h
  form_stays keyword.Make ws s h = h
  form_stays keyword.Remove ws s h = h
  form_stays keyword.Run ws s h = h
  form_stays keyword.Wm ws s h = h
  form_stays keyword.Ppwm ws s h = h
  form_stays keyword.Cs ws s h = h
  form_stays keyword.Pm ws s h = h
  form_stays keyword.Strategy ws s h = h
  form_stays keyword.Watch ws s h = h
  form_stays keyword.Back ws s h = h
  form_stays keyword.Pbreak ws s h = h
  form_stays keyword.Excise ws s h = h
  form_stays keyword.Matches ws s h = h
  form_stays keyword.Exit ws s h = h
  form_stays _ ws s h = tt

  class_declared_stays : (ws : List Wanted) (s : State) → Rests ws s → StayArranged (class_declared w ws s)
  class_declared_stays ws s h =
      cond_both (is_name w.kind) _ _ StayArranged
      (λ _. cond_both (is_class s w.name) _ _ StayArranged (λ _. tt) (λ _. rests ws (record s { name = w.name; attrs = [] }) (h.0, refl, h.2))) (λ _. tt)

  attribute_declared_stays : (ws : List Wanted) (s : State) → AreArranged (Attributes ∷ ws) s → StayArranged (attribute_declared w ws s)
  attribute_declared_stays ws s h =
      cond_both (is_one_of w.name s.attrs) _ _ StayArranged (λ _. tt)
      (λ apart. cond_both (is_second w.name s) _ _ StayArranged (λ _. tt)
      (λ second. cond_both (nat_lt (length s.attrs) most_fields) _ _ StayArranged
      (λ room. (h.0, attribute_pushed s.vectors s.attrs w.name h.1 apart second (ltb-true _ _ room), h.2)) (λ _. tt)))

  attributes_stay : (ws : List Wanted) (s : State) → AreArranged (Attributes ∷ ws) s → StayArranged (attributes w ws s)
  attributes_stay ws s h =
      let c : Class = record { name = s.name; attrs = arranged s.vectors s.attrs; vector = has_vector s.vectors s.attrs } in
      cond_both (is_right w.kind) _ _ StayArranged
      (λ _. rests ws (with_class s) (All-push (IsArranged s.vectors) s.classes c h.0 (class_arranged s.vectors s.name s.attrs h.1), refl, h.2))
      (λ _. cond_both (is_name w.kind) _ _ StayArranged (λ _. attribute_declared_stays ws s h) (λ _. tt))

  vector_declared_stays : (ws : List Wanted) (s : State) → Rests ws s → StayArranged (vector_declared w ws s)
  vector_declared_stays ws s h =
      cond_both (is_one_of w.name s.vectors) _ _ StayArranged (λ _. rests ws s h)
      (λ _. cond_both (makes_second w.name s.classes) _ _ StayArranged (λ _. tt)
      (λ second. rests ws (with_vector s w.name) (classes_arranged s.vectors w.name s.classes h.0 second, h.1, h.2)))

  vector_name_stays : (ws : List Wanted) (s : State) → Rests ws s → StayArranged (vector_name w ws s)
  vector_name_stays ws s h = cond_both (is_name w.kind) _ _ StayArranged (λ _. vector_declared_stays ws s h) (λ _. tt)

  -- ---- elements

  class_at_stays : (o : Option ℕ) (ws : List Wanted) (s : State) → Rests ws s → StayArranged (class_at o ws s)
  class_at_stays (Some c) ws s h = rests ws (record s { class = c }) h
  class_at_stays None ws s h = tt

  class_name_stays : (ws : List Wanted) (s : State) → Rests ws s → StayArranged (class_name w ws s)
  class_name_stays ws s h =
      cond_both (is_name w.kind) _ _ StayArranged (λ _. class_at_stays (position (λ c. c.name.0 == w.name.0) s.classes) ws s h) (λ _. tt)

  behind_stays : (u : Use) (f : ℕ) (ws : List Wanted) (s : State) → Rests ws s → AreArranged (behind_attribute u f ∷ Terms u ∷ ws) s
  behind_stays InPattern f ws s h = h
  behind_stays InPut f ws s h = h
  behind_stays InFixed f ws s h = h

  field_at_stays : (u : Use) (o : Option ℕ) (ws : List Wanted) (s : State) → Rests ws s → StayArranged (field_at u o ws s)
  field_at_stays u (Some f) ws s h = cond_both (is_vector (class_of s.classes s.class) f) _ _ StayArranged (λ _. h) (λ _. behind_stays u f ws s h)
  field_at_stays u None ws s h = tt

  -- ---- tests

  bind_stays : (o : Option ℕ) (t : Term) (ws : List Wanted) (s : State) → Rests ws s → AreArranged ws (with_bind o s t)
  bind_stays (Some n) t ws s h = rests ws (with_bind (Some n) s t) h
  bind_stays None t ws s h = rests ws (with_bind None s t) h

  bind_counted : (o : Option ℕ) (t : Term) (ws : List Wanted) (s : State) → Rests ws s → AreArranged ws (counting (with_bind o s t))
  bind_counted (Some n) t ws s h = rests ws (counting (with_bind (Some n) s t)) h
  bind_counted None t ws s h = rests ws (counting (with_bind None s t)) h

  constant_stays : (t : Target) (v : Value) (ws : List Wanted) (s : State) → Rests ws s → AreArranged ws (with_constant t s v)
  constant_stays (ToTest f p) v ws s h = rests ws (with_constant (ToTest f p) s v) h
  constant_stays (ToPut f) v ws s h = rests ws (with_constant (ToPut f) s v) h
  constant_stays (ToFixed f) v ws s h = rests ws (with_constant (ToFixed f) s v) h
  constant_stays ToTerms v ws s h = rests ws (with_constant ToTerms s v) h
  constant_stays ToConstants v ws s h = rests ws (with_constant ToConstants s v) h
  constant_stays ToItem v ws s h = rests ws (with_constant ToItem s v) h
  constant_stays ToBind v ws s h = bind_counted (number_of s.variable s.values) (term.Constant v) ws s h

  constant_word_stays : (t : Target) (v : Value) (ws : List Wanted) (s : State) → Rests ws s → StayArranged (constant_by w.keyword (λ r. Next ws (with_constant t r v)) s)
  constant_word_stays t v ws s h =
      constant_cases w.keyword (λ r. Next ws (with_constant t r v)) s StayArranged (λ _. tt) (constant_stays t v ws s h) (λ variable m found. constant_stays t v ws (with_hole s m) h)

  variable_tested_stays : (f : ℕ) (p : Pred) (o : Option ℕ) (ws : List Wanted) (s : State) → Rests ws s → StayArranged (variable_tested f p o w.name ws s)
  variable_tested_stays f p (Some n) ws s h = rests ws (with_test s f p (operand.Variable n) false) h
  variable_tested_stays f pred.Eq None ws s h = rests ws (with_bound s f w.name) h
  variable_tested_stays f _ None ws s h = tt

  constant_tested_stays : (f : ℕ) (p : Pred) (o : Option Value) (ws : List Wanted) (s : State) → Rests ws s → StayArranged (constant_tested f p w o ws s)
  constant_tested_stays f p (Some v) ws s h = constant_word_stays (ToTest f p) v ws s h
  constant_tested_stays f p None ws s h = cond_both (is_variable w.kind) _ _ StayArranged (λ _. variable_tested_stays f p (number_of w.name s.values) ws s h) (λ _. tt)

  tested_stays : (f : ℕ) (p : Pred) (ws : List Wanted) (s : State) → Rests ws s → StayArranged (tested f p w ws s)
  tested_stays f p ws s h = cond_both (is_literal w.keyword) _ _ StayArranged (λ _. h) (λ _. constant_tested_stays f p (constant_of w.kind w.name) ws s h)

  predicated_stays : (f : ℕ) (o : Option Pred) (ws : List Wanted) (s : State) → Rests ws s → StayArranged (predicated f w o ws s)
  predicated_stays f (Some p) ws s h = h
  predicated_stays f None ws s h = tested_stays f pred.Eq ws s h

  test_stays : (f : ℕ) (ws : List Wanted) (s : State) → Rests ws s → StayArranged (test f w ws s)
  test_stays f ws s h = cond_both (opens_choice w.keyword) _ _ StayArranged (λ _. h) (λ _. predicated_stays f (pred_of w.keyword) ws s h)

  place_stays : (f : ℕ) (ws : List Wanted) (s : State) → Rests ws s → StayArranged (place f w ws s)
  place_stays f ws s h = cond_both (is_left_brace w.kind) _ _ StayArranged (λ _. h) (λ _. test_stays f ws s h)

  tests_stay : (f : ℕ) (ws : List Wanted) (s : State) → Rests ws s → StayArranged (tests f w ws s)
  tests_stay f ws s h = cond_both (is_right_brace w.kind) _ _ StayArranged (λ _. rests ws s h) (λ _. test_stays f (Tests f ∷ ws) s h)

  chosen_stays : (f : ℕ) (o : Option Value) (ws : List Wanted) (s : State) → Rests ws s → StayArranged (chosen w.keyword o (Choice f ∷ ws) s)
  chosen_stays f (Some v) ws s h = constant_cases w.keyword (λ r. Next (Choice f ∷ ws) (with_choice_of r v)) s StayArranged (λ _. tt) h (λ variable m found. h)
  chosen_stays f None ws s h = tt

  choice_stays : (f : ℕ) (ws : List Wanted) (s : State) → Rests ws s → StayArranged (choice f w ws s)
  choice_stays f ws s h = cond_both (closes_choice w.keyword) _ _ StayArranged (λ _. rests ws (with_choice s f) h) (λ _. chosen_stays f (atom_of w.kind w.name) ws s h)

  -- ---- values

  atom_stays : (t : Target) (o : Option Value) (ws : List Wanted) (s : State) → Rests ws s → StayArranged (atom_at t w.keyword o ws s)
  atom_stays t (Some v) ws s h = constant_word_stays t v ws s h
  atom_stays t None ws s h = tt

  term_stays : (t : Target) (x : Term) (ws : List Wanted) (s : State) → Rests ws s → StayArranged (term_at t x ws s)
  term_stays (ToPut f) x ws s h = rests ws (with_put s f x) h
  term_stays ToTerms x ws s h = rests ws (record s { terms = s.terms ++ x ∷ [] }) h
  term_stays ToItem x ws s h = rests ws (with_item s (item.Print x)) h
  term_stays ToBind x ws s h = bind_stays (number_of s.variable s.values) x ws s h
  term_stays _ x ws s h = tt

  bound_stays : (t : Target) (o : Option ℕ) (ws : List Wanted) (s : State) → Rests ws s → StayArranged (bound_at t o ws s)
  bound_stays t (Some n) ws s h = term_stays t (term.Variable n) ws s h
  bound_stays t None ws s h = tt

  constant_at_stays : (t : Target) (o : Option Value) (ws : List Wanted) (s : State) → Rests ws s → StayArranged (constant_at t w o ws s)
  constant_at_stays t (Some v) ws s h = constant_word_stays t v ws s h
  constant_at_stays t None ws s h = cond_both (is_variable w.kind) _ _ StayArranged (λ _. bound_stays t (number_of w.name s.values) ws s h) (λ _. tt)

  value_stays : (t : Target) (ws : List Wanted) (s : State) → Rests ws s → StayArranged (value_for t w ws s)
  value_stays t ws s h =
      cond_both (is_literal w.keyword) _ _ StayArranged (λ _. h)
      (λ _. cond_both (is_left w.kind && is_of_action t) _ _ StayArranged (λ e. (h.0, h.1, and_from _ _ (and_parts _ _ e).1 h.2))
      (λ _. constant_at_stays t (value_of w.kind w.name) ws s h))

  -- ---- functions

  -- what a function gives, before its closing bracket
  called_stays : (t : Target) (x : Term) (ws : List Wanted) (s : State) → Rests (Function t ∷ ws) s → StayArranged (term_at t x (Closes EndsWhole ∷ ws) s)
  called_stays t x ws s h = term_stays t x (Closes EndsWhole ∷ ws) s (h.0, h.1, (and_parts (is_of_action t) (functions_fit ws) h.2).1)

  function_stays : (t : Target) (k : Keyword) (ws : List Wanted) (s : State) → Rests (Function t ∷ ws) s → StayArranged (function t k ws s)
  function_stays t keyword.Substr ws s h = h
  function_stays t keyword.Compute ws s h = h
  function_stays t keyword.Genatom ws s h = called_stays t term.Fresh ws s h
  function_stays t keyword.Accept ws s h = called_stays t term.Accept ws s h
  function_stays t _ ws s h = tt

  -- ---- compute

  unit_bound_stays : (o : Option ℕ) (ws : List Wanted) (s : State) → Rests ws s → StayArranged (unit_bound o ws s)
  unit_bound_stays (Some n) ws s h = rests ws (with_formula s (formula.variable n)) h
  unit_bound_stays None ws s h = tt

  unit_stays : (k : TokenKind) (name : Sym) (ws : List Wanted) (s : State) → Rests ws s → StayArranged (unit_at k name ws s)
  unit_stays (kind.Whole n) name ws s h = rests ws (with_formula s (formula.number n)) h
  unit_stays kind.Variable name ws s h = unit_bound_stays (number_of name s.values) ws s h
  unit_stays _ name ws s h = tt

  expression_unit_stays : (d : ℕ) (ws : List Wanted) (s : State) → Rests ws s → StayArranged (expression_unit d w ws s)
  expression_unit_stays d ws s h =
      cond_both (is_left w.kind) _ _ StayArranged (λ _. cond_both (nat_lt d most_brackets) _ _ StayArranged (λ _. h) (λ _. tt)) (λ _. unit_stays w.kind w.name ws s h)

  bracketed_stays : (d : ℕ) (ws : List Wanted) (s : State) → Rests ws s → StayArranged (bracketed d w ws s)
  bracketed_stays d ws s h = cond_both (is_compute w.keyword) _ _ StayArranged (λ _. h) (λ _. expression_unit_stays d (ExpressionRest d [] None ∷ ws) s h)

  operation_stays : (d : ℕ) (waiting : List Waiting) (into : Option Target) (o : Option Op) (ws : List Wanted) (s : State) → Rests (ExpressionRest d waiting into ∷ ws) s → StayArranged (operation_at d waiting into o ws s)
  operation_stays d waiting (Some t) (Some o) ws s h = h
  operation_stays d waiting None (Some o) ws s h = h
  operation_stays d waiting into None ws s h = tt

  expression_ended_stays : (d : ℕ) (waiting : List Waiting) (into : Option Target) (f : Formula) (ws : List Wanted) (s : State) → Rests (ExpressionRest d waiting into ∷ ws) s → StayArranged (expression_ended into f ws s)
  expression_ended_stays d waiting (Some t) f ws s h = term_stays t (term.Compute f) ws (with_formula s no_formula) (h.0, h.1, (and_parts (is_of_action t) (functions_fit ws) h.2).1)
  expression_ended_stays d waiting None f ws s h = rests ws (with_formula s f) h

  expression_rest_stays : (d : ℕ) (waiting : List Waiting) (into : Option Target) (ws : List Wanted) (s : State) → Rests (ExpressionRest d waiting into ∷ ws) s → StayArranged (expression_rest d waiting into w ws s)
  expression_rest_stays d waiting into ws s h =
      cond_both (is_right w.kind) _ _ StayArranged (λ _. expression_ended_stays d waiting into (completed s.formula waiting) ws s h)
      (λ _. operation_stays d waiting into (operation_of w.keyword) ws s h)

  -- ---- substr

  source_named_stays : (o : Option ℕ) (ws : List Wanted) (s : State) → Rests ws s → StayArranged (source_named o ws s)
  source_named_stays (Some c) ws s h = rests ws (record s { source = c }) h
  source_named_stays None ws s h = tt

  source_cell_stays : (ws : List Wanted) (s : State) → Rests ws s → StayArranged (source_cell w ws s)
  source_cell_stays ws s h = cond_both (is_variable w.kind) _ _ StayArranged (λ _. source_named_stays (number_of w.name s.elements) ws s h) (λ _. tt)

  source_at_stays : (t : Target) (o : Option ℕ) (ws : List Wanted) (s : State) → position (λ a. a.0 == w.name.0) (source_class s).attrs ≡ o → Rests (SourceAttribute t ∷ ws) s → StayArranged (source_at t w.name o ws s)
  source_at_stays t (Some f) ws s e h =
      let fits = and_parts (is_of_action t) (functions_fit ws) h.2 in
      let k : ℕ = unwrap_or (slice_get (classes_of_cells s) s.source) 0 in
      ((h.0, h.1, fits.1), fits.0, source_kind s.vectors s.classes k w.name f h.0 (slice_get s.classes k) refl e)
  source_at_stays t None ws s e h = tt

  source_attribute_stays : (t : Target) (ws : List Wanted) (s : State) → Rests (SourceAttribute t ∷ ws) s → StayArranged (source_attribute t w ws s)
  source_attribute_stays t ws s h =
      cond_both (is_name w.kind) _ _ StayArranged
      (λ _. source_at_stays t (position (λ a. a.0 == w.name.0) (source_class s).attrs) ws s refl h) (λ _. tt)

  source_end_stays : (t : Target) (name : Sym) (ws : List Wanted) (s : State) → Rests ws s → StayArranged (source_end t name w ws s)
  source_end_stays t name ws s h =
      cond_both (ends_at_inf w s) _ _ StayArranged
      (λ _. cond_both (takes_several t) _ _ StayArranged (λ _. term_stays t (term.Rest s.source) ws s h) (λ _. tt))
      (λ _. cond_both (is_name w.kind && (w.name.0 == name.0)) _ _ StayArranged
      (λ _. term_stays t (term.One s.source s.source_field) ws s h) (λ _. tt))

  -- ---- the end of an element

  element_stays : (u : Use) (ws : List Wanted) (s : State) → Rests ws s → AreArranged ws (with_element u s)
  element_stays InPattern ws s h = cond_both s.grouped _ _ (λ t. StayArranged (Next ws t)) (λ _. rests ws (with_member s) h) (λ _. rests ws (with_one s) h)
  element_stays InPut ws s h = rests ws (with_element InPut s) h
  element_stays InFixed ws s h = rests ws (with_element InFixed s) h

  terms_stay : (u : Use) (ws : List Wanted) (s : State) → Rests ws s → StayArranged (terms u w ws s)
  terms_stay u ws s h =
      cond_both (is_right w.kind) _ _ StayArranged (λ _. element_stays u ws s h) (λ _. cond_both (is_caret w.kind) _ _ StayArranged (λ _. h) (λ _. tt))

  -- ---- the vector attribute

  within_stays : (b : Bool) (r : Step) → StayArranged r → StayArranged (within b r)
  within_stays true r h = h
  within_stays false (Next ws s) h = tt
  within_stays false (Refuses f) h = tt

  one_of_several_stays : (u : Use) (f : ℕ) (ws : List Wanted) (s : State) → Rests ws s → StayArranged (one_of_several u f w ws s)
  one_of_several_stays InPattern f ws s h =
      within_stays (nat_lt f most_fields) (place f w (Several InPattern (f + 1) ∷ ws) s) (place_stays f (Several InPattern (f + 1) ∷ ws) s h)
  one_of_several_stays InPut f ws s h = value_stays ToTerms (Several InPut f ∷ ws) s h
  one_of_several_stays InFixed f ws s h =
      within_stays (nat_lt (f + length s.constants) most_fields) (value_for ToConstants w (Several InFixed f ∷ ws) s) (value_stays ToConstants (Several InFixed f ∷ ws) s h)

  several_end : (u : Use) (f : ℕ) (ws : List Wanted) (s : State) → Rests ws s → Rests ws (with_several u f s)
  several_end InPattern f ws s h = h
  several_end InPut f ws s h = h
  several_end InFixed f ws s h = h

  several_stay : (u : Use) (f : ℕ) (ws : List Wanted) (s : State) → Rests ws s → StayArranged (several u f w ws s)
  several_stay u f ws s h =
      cond_both (is_right w.kind || is_caret w.kind) _ _ StayArranged (λ _. terms_stay u ws (with_several u f s) (several_end u f ws s h)) (λ _. one_of_several_stays u f ws s h)

  -- ---- productions

  rule_name_stays : (ws : List Wanted) (s : State) → Rests ws s → StayArranged (rule_name w ws s)
  rule_name_stays ws s h =
      cond_both (is_name w.kind) _ _ StayArranged
      (λ _. cond_both (is_rule s w.name) _ _ StayArranged (λ _. tt)
      (λ _. rests ws (record (left_begun s) { name = w.name }) h)) (λ _. tt)

  first_pattern_stays : (ws : List Wanted) (s : State) → Rests ws s → StayArranged (first_pattern w ws s)
  first_pattern_stays ws s h =
      cond_both (is_left w.kind) _ _ StayArranged (λ _. h)
      (λ _. cond_both (is_left_brace w.kind) _ _ StayArranged (λ _. h)
      (λ _. cond_both (is_minus w.keyword || begins_group w.keyword) _ _ StayArranged (λ _. tt) (λ _. tt)))

  one_more_stays : (ws : List Wanted) (s : State) → AreArranged ws s → StayArranged (one_more ws s)
  one_more_stays ws s h = cond_both (nat_lt (length (elements_of s.conditions)) most_conditions) _ _ StayArranged (λ _. h) (λ _. tt)

  more_patterns_stay : (ws : List Wanted) (s : State) → Rests ws s → StayArranged (more_patterns w ws s)
  more_patterns_stay ws s h =
      cond_both (is_left w.kind) _ _ StayArranged (λ _. one_more_stays (ClassName ∷ Terms InPattern ∷ ws) s h)
      (λ _. cond_both (is_left_brace w.kind) _ _ StayArranged (λ _. one_more_stays (Braced ∷ ws) s h)
      (λ _. cond_both (is_minus w.keyword) _ _ StayArranged
      (λ _. one_more_stays (Pattern ∷ ws) (record s { negated = true; around = length s.values }) h)
      (λ _. cond_both (begins_group w.keyword) _ _ StayArranged (λ _. h) (λ _. tt))))

  members_stay : (n : ℕ) (ws : List Wanted) (s : State) → Rests ws s → StayArranged (members n w ws s)
  members_stay n ws s h =
      cond_both (is_right_brace w.kind && nat_le 2 n) _ _ StayArranged (λ _. rests ws (with_group s) h)
      (λ _. cond_both (is_left w.kind) _ _ StayArranged (λ _. cond_both (has_room s) _ _ StayArranged (λ _. h) (λ _. tt)) (λ _. tt))

  patterns_stay : (ws : List Wanted) (s : State) → Rests ws s → StayArranged (patterns w ws s)
  patterns_stay ws s h = cond_both (is_arrow w.keyword) _ _ StayArranged (λ _. rests ws (right_begun (left_ended s)) h) (λ _. more_patterns_stay (Patterns ∷ ws) s h)

  element_at_stays : (o : Option ℕ) (ws : List Wanted) (s : State) → Rests ws s → StayArranged (element_at o w.name ws s)
  element_at_stays (Some c) ws s h = tt
  element_at_stays None ws s h = rests ws (record s { element = w.name }) h

  element_name_stays : (ws : List Wanted) (s : State) → Rests ws s → StayArranged (element_name w ws s)
  element_name_stays ws s h = cond_both (is_variable w.kind) _ _ StayArranged (λ _. element_at_stays (number_of w.name s.elements) ws s h) (λ _. tt)

  braced_stays : (ws : List Wanted) (s : State) → Rests ws s → StayArranged (braced w ws s)
  braced_stays ws s h = cond_both (is_left w.kind) _ _ StayArranged (λ _. h) (λ _. element_name_stays (Pattern ∷ ClosesBrace ∷ ws) s h)

  -- ---- actions

  side_stays : (b : Bool) (ws : List Wanted) (s : State) → Rests ws s → AreArranged ws (side_ended b s w.past)
  side_stays false ws s h = rests ws (with_rule s w.past) h
  side_stays true ws s h = by s.outer (rule_of s w.past)
    where
      by : (o : Option Outer) (r : Rule) → AreArranged ws (build_ended o s r)
      by (Some o) r = rests ws (with_template o s r) h
      by None r = rests ws s h

  actions_stay : (b : Bool) (ws : List Wanted) (s : State) → Rests ws s → StayArranged (actions b w ws s)
  actions_stay b ws s h =
      cond_both (is_right w.kind) _ _ StayArranged (λ _. side_stays b ws s h) (λ _. cond_both (is_left w.kind) _ _ StayArranged (λ _. h) (λ _. tt))

  build_stays : (b : Bool) (ws : List Wanted) (s : State) → Rests ws s → StayArranged (build_word b ws s)
  build_stays true ws s h = tt
  build_stays false ws s h = h

  action_word_stays : (b : Bool) (k : Keyword) (ws : List Wanted) (s : State) → Rests ws s → StayArranged (action_word b k ws s)
  action_word_stays b keyword.Make ws s h = h
  action_word_stays b keyword.Modify ws s h = h
  action_word_stays b keyword.Remove ws s h = h
  action_word_stays b keyword.Write ws s h = h
  action_word_stays b keyword.Bind ws s h = h
  action_word_stays b keyword.Cbind ws s h = h
  action_word_stays b keyword.Halt ws s h = h
  action_word_stays b keyword.Build ws s h = build_stays b ws s h
  action_word_stays b _ ws s h = tt

  designated_stays : (r : Result ℕ Fault) (ws : List Wanted) (s : State) → Rests ws s → StayArranged (with_designated r ws s)
  designated_stays (Ok c) ws s h = rests ws (record s { cells = s.cells ++ c ∷ [] }) h
  designated_stays (Err f) ws s h = tt

  modified_stays : (r : Result ℕ Fault) (ws : List Wanted) (s : State) → Rests ws s → StayArranged (with_modified r ws s)
  modified_stays (Ok c) ws s h = rests ws (record s { modified = Some c; class = unwrap_or (slice_get (classes_of_cells s) c) 0 }) h
  modified_stays (Err f) ws s h = tt

  bound_name_stays : (ws : List Wanted) (s : State) → Rests ws s → StayArranged (bound_name w ws s)
  bound_name_stays ws s h = cond_both (is_variable w.kind) _ _ StayArranged (λ _. rests ws (record s { variable = w.name }) h) (λ _. tt)

  bound_value_stays : (ws : List Wanted) (s : State) → Rests ws s → StayArranged (bound_value w ws s)
  bound_value_stays ws s h =
      cond_both (is_right w.kind) _ _ StayArranged (λ _. bind_stays (number_of s.variable s.values) term.Fresh ws s h) (λ _. value_stays ToBind (Closes EndsWhole ∷ ws) s h)

  cell_bound_stays : (o : Option ℕ) (ws : List Wanted) (s : State) → Rests ws s → StayArranged (cell_bound o w.name ws s)
  cell_bound_stays (Some class) ws s h = rests ws (with_cell s class w.name) h
  cell_bound_stays None ws s h = tt

  cell_name_stays : (ws : List Wanted) (s : State) → Rests ws s → StayArranged (cell_name w ws s)
  cell_name_stays ws s h = cond_both (is_variable w.kind) _ _ StayArranged (λ _. cell_bound_stays s.made ws s h) (λ _. tt)

  cells_stay : (ws : List Wanted) (s : State) → Rests ws s → StayArranged (cells w ws s)
  cells_stay ws s h = cond_both (is_right w.kind) _ _ StayArranged (λ _. rests ws (with_remove s) h) (λ _. designated_stays (cell_of w.kind w.name s) (Cells ∷ ws) s h)

  items_stay : (ws : List Wanted) (s : State) → Rests ws s → StayArranged (items w ws s)
  items_stay ws s h =
      cond_both (is_right w.kind) _ _ StayArranged (λ _. rests ws (with_write s) h)
      (λ _. cond_both (is_left w.kind) _ _ StayArranged (λ _. h) (λ _. value_stays ToItem (Items ∷ ws) s h))

  item_word_stays : (k : Keyword) (ws : List Wanted) (s : State) → Rests ws s → StayArranged (item_word k ws s)
  item_word_stays keyword.Crlf ws s h = h
  item_word_stays keyword.Tabto ws s h = h
  item_word_stays keyword.Rjust ws s h = h
  item_word_stays keyword.Substr ws s h = h
  item_word_stays keyword.Compute ws s h = h
  item_word_stays keyword.Genatom ws s h = term_stays ToItem term.Fresh (Closes EndsWhole ∷ ws) s h
  item_word_stays keyword.Accept ws s h = term_stays ToItem term.Accept (Closes EndsWhole ∷ ws) s h
  item_word_stays _ ws s h = tt

  columns_stay : (c : Column) (o : Option ℕ) (ws : List Wanted) (s : State) → Rests ws s → StayArranged (columns_at c o ws s)
  columns_stay c (Some n) ws s h = rests ws (with_item s (column_item c n)) h
  columns_stay c None ws s h = tt

  ended_stays : (e : Ends) (ws : List Wanted) (s : State) → Rests ws s → AreArranged ws (ended e s)
  ended_stays EndsHalt ws s h = rests ws (ended EndsHalt s) h
  ended_stays EndsCrlf ws s h = rests ws (ended EndsCrlf s) h
  ended_stays EndsCs ws s h = rests ws (ended EndsCs s) h
  ended_stays EndsExit ws s h = rests ws (ended EndsExit s) h
  ended_stays EndsWhole ws s h = rests ws s h

  -- ---- commands

  counted_stays : (o : Option ℕ) (ws : List Wanted) (s : State) → Rests ws s → StayArranged (counted o ws s)
  counted_stays (Some n) ws s h = h
  counted_stays None ws s h = tt

  count_stays : (ws : List Wanted) (s : State) → Rests ws s → StayArranged (count w ws s)
  count_stays ws s h =
      cond_both (is_right w.kind) _ _ StayArranged (λ _. rests ws (with_command s (command.Run None)) h) (λ _. counted_stays (count_of w.kind) ws s h)

  strategy_set_stays : (o : Option Strategy) (ws : List Wanted) (s : State) → Rests ws s → StayArranged (strategy_set o ws s)
  strategy_set_stays (Some g) ws s h = h
  strategy_set_stays None ws s h = tt

  strategy_name_stays : (ws : List Wanted) (s : State) → Rests ws s → StayArranged (strategy_name w ws s)
  strategy_name_stays ws s h =
      cond_both (is_right w.kind) _ _ StayArranged (λ _. rests ws (with_command s (command.Strategy None)) h)
      (λ _. strategy_set_stays (strategy_of w.keyword) ws s h)

  tag_stays : (o : Option ℕ) (ws : List Wanted) (s : State) → Rests ws s → StayArranged (tag_at o ws s)
  tag_stays (Some n) ws s h = rests ws (record s { tags = s.tags ++ n ∷ [] }) h
  tag_stays None ws s h = tt

  tag_or_all_stays : (ws : List Wanted) (s : State) → Rests ws s → StayArranged (tag_or_all w ws s)
  tag_or_all_stays ws s h = cond_both (is_all w.keyword) _ _ StayArranged (λ _. h) (λ _. tag_stays (count_of w.kind) (Tags ToRemove ∷ ws) s h)

  tags_stay : (u : TagUse) (ws : List Wanted) (s : State) → Rests ws s → StayArranged (tags u w ws s)
  tags_stay u ws s h = cond_both (is_right w.kind) _ _ StayArranged (λ _. rests ws (with_tags u s) h) (λ _. tag_stays (count_of w.kind) (Tags u ∷ ws) s h)

  shown_stays : (ws : List Wanted) (s : State) → Rests ws s → StayArranged (shown w ws s)
  shown_stays ws s h =
      cond_both (is_right w.kind) _ _ StayArranged (λ _. rests ws (with_command s (command.Ppwm None)) h)
      (λ _. class_name_stays (Terms InFixed ∷ ws) (record s { fixed = []; shows = true }) h)

  named_rule_stays : (ws : List Wanted) (s : State) → Rests ws s → StayArranged (named_rule w ws s)
  named_rule_stays ws s h = cond_both (is_name w.kind) _ _ StayArranged (λ _. rests ws (record s { named = s.named ++ w.name ∷ [] }) h) (λ _. tt)

  named_rules_stay : (u : NameUse) (ws : List Wanted) (s : State) → Rests ws s → StayArranged (named_rules u w ws s)
  named_rules_stay u ws s h =
      cond_both (is_right w.kind) _ _ StayArranged (λ _. rests ws (with_named u s) h) (λ _. named_rule_stays (NamedRules u ∷ ws) s h)

  level_set_stays : (o : Option ℕ) (ws : List Wanted) (s : State) → Rests ws s → StayArranged (level_set o ws s)
  level_set_stays (Some n) ws s h = h
  level_set_stays None ws s h = tt

  undone_set_stays : (o : Option ℕ) (ws : List Wanted) (s : State) → Rests ws s → StayArranged (undone_set o ws s)
  undone_set_stays (Some n) ws s h = h
  undone_set_stays None ws s h = tt

  level_stays : (ws : List Wanted) (s : State) → Rests ws s → StayArranged (level w ws s)
  level_stays ws s h =
      cond_both (is_right w.kind) _ _ StayArranged (λ _. rests ws (with_command s (command.Watch None)) h) (λ _. level_set_stays (level_of w.kind) ws s h)

  undone_stays : (ws : List Wanted) (s : State) → Rests ws s → StayArranged (undone w ws s)
  undone_stays ws s h =
      cond_both (is_right w.kind) _ _ StayArranged (λ _. rests ws (with_command s (command.Back 1)) h) (λ _. undone_set_stays (undone_of w.kind) ws s h)

pub stays_arranged : (w : Word) (ws : List Wanted) (s : State) → AreArranged ws s → StayArranged (step w ws s)
unfolding step
stays_arranged w [] s h = tt
stays_arranged w (Forms ∷ ws) s h = cond_both (is_left w.kind) _ _ StayArranged (λ _. h) (λ _. tt)
stays_arranged w (Form ∷ ws) s h = form_stays w w.keyword ws s h
stays_arranged w (ClassDeclared ∷ ws) s h = class_declared_stays w ws s h
stays_arranged w (Attributes ∷ ws) s h = attributes_stay w ws s h
stays_arranged w (VectorName ∷ ws) s h = vector_name_stays w ws s h
stays_arranged w (VectorNames ∷ ws) s h = cond_both (is_right w.kind) _ _ StayArranged (λ _. rests ws s h) (λ _. vector_name_stays w (VectorNames ∷ ws) s h)
stays_arranged w (RuleName ∷ ws) s h = rule_name_stays w ws s h
stays_arranged w (FirstPattern ∷ ws) s h = first_pattern_stays w ws s h
stays_arranged w (Patterns ∷ ws) s h = patterns_stay w ws s h
stays_arranged w (GroupBrace ∷ ws) s h = cond_both (is_left_brace w.kind) _ _ StayArranged (λ _. h) (λ _. tt)
stays_arranged w (Members n ∷ ws) s h = members_stay w n ws s h
stays_arranged w (Pattern ∷ ws) s h = cond_both (is_left w.kind) _ _ StayArranged (λ _. h) (λ _. tt)
stays_arranged w (Braced ∷ ws) s h = braced_stays w ws s h
stays_arranged w (ElementName ∷ ws) s h = element_name_stays w ws s h
stays_arranged w (ClosesBrace ∷ ws) s h = cond_both (is_right_brace w.kind) _ _ StayArranged (λ _. rests ws (with_bound_element s) h) (λ _. tt)
stays_arranged w (ClassName ∷ ws) s h = class_name_stays w ws s h
stays_arranged w (Terms u ∷ ws) s h = terms_stay w u ws s h
stays_arranged w (Attribute u ∷ ws) s h =
    cond_both (is_name w.kind) _ _ StayArranged (λ _. field_at_stays w u (position (λ a. a.0 == w.name.0) (attributes_of (slice_get s.classes s.class))) ws s h) (λ _. tt)
stays_arranged w (Several u f ∷ ws) s h = several_stay w u f ws s h
stays_arranged w (Place f ∷ ws) s h = place_stays w f ws s h
stays_arranged w (Tests f ∷ ws) s h = tests_stay w f ws s h
stays_arranged w (Tested f p ∷ ws) s h = tested_stays w f p ws s h
stays_arranged w (Choice f ∷ ws) s h = choice_stays w f ws s h
stays_arranged w (Atom t ∷ ws) s h = atom_stays w t (atom_of w.kind w.name) ws s h
stays_arranged w (ValueFor t ∷ ws) s h = value_stays w t ws s h
stays_arranged w (Function t ∷ ws) s h = function_stays w t w.keyword ws s h
stays_arranged w (ExpressionUnit d ∷ ws) s h = expression_unit_stays w d ws s h
stays_arranged w (ExpressionRest d waiting into ∷ ws) s h = expression_rest_stays w d waiting into ws s h
stays_arranged w (Bracketed d ∷ ws) s h = bracketed_stays w d ws s h
stays_arranged w (SourceCell ∷ ws) s h = source_cell_stays w ws s h
stays_arranged w (SourceAttribute t ∷ ws) s h = source_attribute_stays w t ws s h
stays_arranged w (SourceEnd t name ∷ ws) s h = source_end_stays w t name ws s h.0
stays_arranged w (Actions b ∷ ws) s h = actions_stay w b ws s h
stays_arranged w (ActionWord b ∷ ws) s h = action_word_stays w b w.keyword ws s h
stays_arranged w (BuiltName ∷ ws) s h = cond_both (is_name w.kind) _ _ StayArranged (λ _. rests ws (record s { name = w.name }) h) (λ _. tt)
stays_arranged w (Modified ∷ ws) s h = modified_stays w (cell_of w.kind w.name s) ws s h
stays_arranged w (BoundName ∷ ws) s h = bound_name_stays w ws s h
stays_arranged w (BoundValue ∷ ws) s h = bound_value_stays w ws s h
stays_arranged w (CellName ∷ ws) s h = cell_name_stays w ws s h
stays_arranged w (Cell ∷ ws) s h = designated_stays w (cell_of w.kind w.name s) ws s h
stays_arranged w (Cells ∷ ws) s h = cells_stay w ws s h
stays_arranged w (Items ∷ ws) s h = items_stay w ws s h
stays_arranged w (ItemWord ∷ ws) s h = item_word_stays w w.keyword ws s h
stays_arranged w (Columns c ∷ ws) s h = columns_stay w c (small_of w.kind) ws s h
stays_arranged w (Count ∷ ws) s h = count_stays w ws s h
stays_arranged w (StrategyName ∷ ws) s h = strategy_name_stays w ws s h
stays_arranged w (TagOrAll ∷ ws) s h = tag_or_all_stays w ws s h
stays_arranged w (Tags u ∷ ws) s h = tags_stay w u ws s h
stays_arranged w (Shown ∷ ws) s h = shown_stays w ws s h
stays_arranged w (NamedRule ∷ ws) s h = named_rule_stays w ws s h
stays_arranged w (NamedRules u ∷ ws) s h = named_rules_stay w u ws s h
stays_arranged w (Level ∷ ws) s h = level_stays w ws s h
stays_arranged w (Undone ∷ ws) s h = undone_stays w ws s h
stays_arranged w (Closes e ∷ ws) s h = cond_both (is_right w.kind) _ _ StayArranged (λ _. ended_stays w e ws s h) (λ _. tt)
