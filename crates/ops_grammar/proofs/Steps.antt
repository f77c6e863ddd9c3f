-- Each word leads from what is sound to what is sound.
use Rattle.std.proofs.Common.{◌≡◌, ℕ, ◌+◌, ◌<◌, ◌≤◌, Bool, true, false, true≢false, ◌&&◌, ◌||◌, ◌==◌, cond, List, [], ◌∷◌, ◌++◌, length, refl, sym, ap, subst, ◌∙◌, arith, Option, Some, None, nat_lt, length-append, unwrap_or, slice_get, position, pos, nat_le, suc}
use Rattle.std.specs.List.{list_all}
use Rattle.std.proofs.lemmas.Bool.{and_parts, and_from, or_left, or_right, cond_both, eqb-true, lt-ltb, le-leb, ltb-true, not_from_false, leb-true}
use Rattle.std.proofs.lemmas.List.Quantifiers.{position-Some}
use Rattle.std.proofs.lemmas.List.{length-map}
use Rattle.ops_base.specs.declared.values.Sym.{Sym}
use Rattle.ops_base.specs.declared.values.Value.{Value}
use Rattle.ops_base.specs.declared.values.Pred.{Pred}
use Rattle.ops_base.specs.declared.values.Pred.TheVariants as pred
use Rattle.ops_base.specs.declared.conditions.Operand.{Operand}
use Rattle.ops_base.specs.declared.elements.Class.{Class}
use Rattle.ops_base.specs.declared.conditions.Operand.TheVariants as operand
use Rattle.ops_base.specs.declared.conditions.Test.{Test}
use Rattle.ops_base.specs.declared.conditions.Condition.{Condition}
use Rattle.ops_base.specs.declared.conditions.Part.{Part}
use Rattle.ops_base.specs.declared.actions.Put.{Put}
use Rattle.ops_base.specs.declared.actions.Action.{Action}
use Rattle.ops_base.specs.declared.commands.Fixed.{Fixed}
use Rattle.ops_base.specs.declared.commands.Command.{Command}
use Rattle.ops_base.specs.declared.commands.Command.TheVariants as command
use Rattle.ops_base.specs.declared.commands.Strategy.{Strategy}
use Rattle.ops_base.specs.Valid.{longest_list, most_fields, most_conditions, is_in, is_natural, no_class, class_of, is_attribute, is_vector, operand_is_valid, tests_are_valid, sight_after_tests, put_is_valid, fits, fixed_is_valid, elements_of}
use Rattle.ops_tokens.specs.declared.token.TokenKind.{TokenKind}
use Rattle.ops_tokens.specs.declared.token.TokenKind.TheVariants as kind
use Rattle.ops_grammar.specs.declared.words.Word.{Word}
use Rattle.ops_grammar.specs.declared.words.Keyword.{Keyword}
use Rattle.ops_grammar.specs.declared.words.Keyword.TheVariants as keyword
use Rattle.ops_grammar.specs.Grammar.{Use, InPattern, InPut, InFixed, ToTest, ToFixed, ToConstants, EndsCs, EndsExit, EndsWhole, TagUse, ToRemove, ToShow, NameUse, ToPrint, ToBreak, Wanted, Forms, Attributes, VectorNames, FirstPattern, Patterns, Pattern, ClosesBrace, Terms, Several, Choice, Actions, Tags, NamedRules, Closes, State, Step, Next, Refuses, is_left, is_right, is_left_brace, is_right_brace, is_caret, is_name, is_variable, is_arrow, is_literal, is_minus, opens_choice, closes_choice, pred_of, constant_of, value_of, atom_of, small_of, count_of, precedes_classes, is_one_of, number_of, may_declare, is_class, is_rule, form, class_declared, with_vector_last, makes_second, vector_declared, vector_name, vector_names, is_second, attribute_declared, attributes, class_at, class_name, attributes_of, behind_attribute, field_at, attribute, with_test, with_bound, variable_tested, constant_tested, tested, predicated, test, place, tests, with_choice, chosen, choice, atom_at, bound_at, constant_at, value_for, fixed_command, with_element, terms, within, one_of_several, with_several, several, left_ended, right_begun, rule_name, first_pattern, one_more, patterns, pattern, element_at, element_name, braced, closes_brace, put_action, closes, forms, step, counted, count, strategy_of, strategy_set, strategy_name, with_command, tag_at, is_all, tag_or_all, tag_command, tags, shown, named_rule, name_command, named_rules, level_of, undone_of, level_set, undone_set, level, undone, begins_group, members, group, with_group, with_member, with_one, has_room, ClassName, ToExcise, ToMatch, counting, with_hole, values_around, constant_by, with_choice_of, with_constant, Outer}
use Rattle.ops_grammar.proofs.Lists.{all_push, not_below}
use Rattle.ops_grammar.proofs.Sound.{other_is_sound, IsShortBy, IsShort, IsHead, known_in, IsNamed, IsOfClass, Program, Declaring, IsClass, Head, Body, Around, IsEmpty, IsElement, Braces, Bare, NamedBefore, NamedBehind, AtField, HasMore, AtPlace, AtSeveral, BeforePattern, AfterPattern, behind, behind_place, behind_test, variables_of, side_of, IsRead, at_forms, at_form, at_class_declared, at_attributes, at_vector_name, at_vector_names, at_rule_name, at_first_pattern, at_patterns, at_pattern, at_braced, at_element_name, at_closes_brace, at_class_name, at_terms, at_attribute, at_several, at_place, at_tests, at_tested, at_choice, at_test_atom, at_fixed_value, at_fixed_atom, at_constants_atom, InScalar, InVector, at_value, at_atom, at_function, at_expression_unit, at_bracketed, at_expression_rest, at_source_cell, at_source_attribute, at_source_end, at_value_end, at_actions, at_action_word, at_modified, at_bound_name, at_bound_value, at_cell_name, at_action_end, at_cell, at_cells, at_items, at_item_word, at_columns, at_crlf, at_halt, at_count, at_strategy_name, HasTags, HasNames, AtTags, AtNames, at_tag_or_all, at_tags, at_shown, at_named_rule, at_named_rules, at_level, at_undone, at_cs, at_exit, at_command_end, Leads, at, AsMember, AmongMembers, at_group, at_members, inside, outer, several_at, sides, at_built_name, several_outer}
use Rattle.ops_grammar.proofs.Parts.{no_elements}
use Rattle.ops_grammar.proofs.Grown.{fits_below, class_begun, attribute_added, class_added, vector_added, number_in, head_begun, negated_begun, element_bound, test_kept, test_bound, test_valid, condition_added, body_begun, put_known, vector_parts, several_valid, command_added, fixed_valid, vector_within, constants_valid, group_opened, member_added, group_added, head_holed}
use Rattle.ops_grammar.proofs.ValueSteps.{IsPlaced, added, atom_leads, value_leads, bound_value_leads, function_leads, expression_unit_leads, bracketed_leads, expression_rest_leads, source_cell_leads, source_attribute_leads, source_end_leads, value_end_leads}
use Rattle.ops_grammar.proofs.Constants.{constant_cases}
use Rattle.ops_grammar.proofs.RightSteps.{put_action_valid, put_action_builds, actions_leads, action_word_leads, cell_leads, modified_leads, bound_name_leads, cell_name_leads, action_end_leads, cells_leads, items_leads, item_word_leads, columns_leads, crlf_leads, halt_leads, built_name_leads}

-- ---- counts, tags, trace levels and constants of commands

tested_by : (p : ℕ → Bool) (b : Bool) (m k : ℕ) → p m ≡ b → cond b (Some m) None ≡ Some k → p k ≡ true
tested_by p true m k is e = let same : m ≡ k = cc in ap p (sym same) ∙ is
tested_by p false m k is e = absurd (cc)

count_natural : (t : TokenKind) (k : ℕ) → count_of t ≡ Some k → is_natural k ≡ true
count_natural (kind.Whole (pos m)) k e = tested_by is_natural (is_natural m) m k refl e
count_natural _ k e = absurd (cc)

level_small : (t : TokenKind) (k : ℕ) → level_of t ≡ Some k → nat_le k 2 ≡ true
level_small (kind.Whole (pos m)) k e = tested_by (λ j. nat_le j 2) (nat_le m 2) m k refl e
level_small _ k e = absurd (cc)

undone_small : (t : TokenKind) (k : ℕ) → undone_of t ≡ Some k → (nat_le 1 k && nat_le k 32) ≡ true
undone_small (kind.Whole (pos m)) k e = tested_by (λ j. nat_le 1 j && nat_le j 32) (nat_le 1 m && nat_le m 32) m k refl e
undone_small _ k e = absurd (cc)

-- with one more there are enough
tag_enough : (u : TagUse) (tags : List ℕ) (tag : ℕ) → HasTags u (tags ++ tag ∷ [])
tag_enough ToRemove tags tag = omega (arith, length-append tags (tag ∷ []))
tag_enough ToShow tags tag = tt

name_enough : (u : NameUse) (names : List Sym) (name : Sym) → HasNames u (names ++ name ∷ [])
name_enough ToPrint names name = omega (arith, length-append names (name ∷ []))
name_enough ToBreak names name = tt
name_enough ToExcise names name = omega (arith, length-append names (name ∷ []))
name_enough ToMatch names name = omega (arith, length-append names (name ∷ []))

tags_valid : (text : ℕ) (classes : List Class) (u : TagUse) (tags : List ℕ) → fits tags ≡ true → list_all is_natural tags ≡ true → HasTags u tags → other_is_sound classes text (tag_command u tags) ≡ true
tags_valid text classes ToRemove tags short natural enough = and_from _ _ (and_from _ _ (and_from _ _ (lt-ltb _ _ enough) short) natural) refl
tags_valid text classes ToShow tags short natural enough = and_from _ _ (and_from _ _ short natural) refl

names_valid : (text : ℕ) (classes : List Class) (u : NameUse) (names : List Sym) → fits names ≡ true → HasNames u names → other_is_sound classes text (name_command u names) ≡ true
names_valid text classes ToPrint names short enough = and_from _ _ (and_from _ _ (lt-ltb _ _ enough) short) refl
names_valid text classes ToBreak names short enough = and_from _ _ short refl
names_valid text classes ToExcise names short enough = and_from _ _ (and_from _ _ (lt-ltb _ _ enough) short) refl
names_valid text classes ToMatch names short enough = and_from _ _ (and_from _ _ (lt-ltb _ _ enough) short) refl

constants_fit : (text : ℕ) (classes : List Class) (shows : Bool) (class : ℕ) (puts : List Fixed) → class < length classes → fits puts ≡ true → list_all (fixed_is_valid (class_of classes class)) puts ≡ true → other_is_sound classes text (fixed_command shows class puts) ≡ true
constants_fit text classes false class puts within short fields = and_from _ _ (and_from _ _ (and_from _ _ (lt-ltb _ _ within) short) fields) refl
constants_fit text classes true class puts within short fields = and_from _ _ (and_from _ _ (and_from _ _ (lt-ltb _ _ within) short) fields) refl

module _ (text n : ℕ) (w : Word) (fit : text ≤ longest_list) (placed : IsPlaced text n w) where
  -- ---- declarations

  forms_leads : (s : State) → IsShort n s → (Program text s) → Leads text w.past (forms w [] s)
  forms_leads s short g = cond_both (is_left w.kind) _ _ (Leads text w.past) (λ _. (omega arith, at_form g)) (λ _. tt)

  declaring : (s : State) → Program text s → may_declare s ≡ true → Declaring text s
  declaring s p e =
      let parts = and_parts (length s.rules == 0) (list_all precedes_classes s.commands) e in
      record { program = p; no_rules = eqb-true _ _ parts.0; commands_precede = parts.1 }

  form_leads : (s : State) → IsShort n s → (Program text s) → (k : Keyword) → Leads text w.past (form w k (Forms ∷ []) s)
  form_leads s short g keyword.Literalize = cond_both (may_declare s) _ _ (Leads text w.past) (λ e. (omega arith, at_class_declared (declaring s g e))) (λ _. tt)
  form_leads s short g keyword.VectorAttribute = cond_both (may_declare s) _ _ (Leads text w.past) (λ e. (omega arith, at_vector_name (declaring s g e))) (λ _. tt)
  form_leads s short g keyword.Production = (omega arith, at_rule_name g)
  form_leads s short g keyword.Make = (omega arith, at_class_name Bare InFixed (g, refl, tt))
  form_leads s short g keyword.Remove = (omega arith, at_tag_or_all (g, refl))
  form_leads s short g keyword.Run = (omega arith, at_count g)
  form_leads s short g keyword.Wm = (omega arith, at_tags ToShow (g, refl, tt))
  form_leads s short g keyword.Ppwm = (omega arith, at_shown g)
  form_leads s short g keyword.Cs = (omega arith, at_cs g)
  form_leads s short g keyword.Pm = (omega arith, at_named_rule ToPrint g)
  form_leads s short g keyword.Strategy = (omega arith, at_strategy_name g)
  form_leads s short g keyword.Watch = (omega arith, at_level g)
  form_leads s short g keyword.Back = (omega arith, at_undone g)
  form_leads s short g keyword.Pbreak = (omega arith, at_named_rules ToBreak (g, tt))
  form_leads s short g keyword.Excise = (omega arith, at_named_rule ToExcise g)
  form_leads s short g keyword.Matches = (omega arith, at_named_rule ToMatch g)
  form_leads s short g keyword.Exit = (omega arith, at_exit g)
  form_leads s short g _ = tt

  class_declared_leads : (s : State) → IsShort n s → (Declaring text s) → Leads text w.past (class_declared w (Attributes ∷ Forms ∷ []) s)
  class_declared_leads s short g =
      cond_both (is_name w.kind) _ _ (Leads text w.past)
      (λ _. cond_both (is_class s w.name) _ _ (Leads text w.past) (λ _. tt) (λ e. (omega arith, at_attributes ((g, class_begun s.classes w.name e)))))
      (λ _. tt)

  attribute_declared_leads : (s : State) → IsShort n s → (Declaring text s × IsClass s.classes s.name s.attrs) → Leads text w.past (attribute_declared w (Forms ∷ []) s)
  attribute_declared_leads s short g =
      cond_both (is_one_of w.name s.attrs) _ _ (Leads text w.past) (λ _. tt)
      (λ e. cond_both (is_second w.name s) _ _ (Leads text w.past) (λ _. tt)
      (λ _. cond_both (nat_lt (length s.attrs) most_fields) _ _ (Leads text w.past)
      (λ lt. (omega arith, at_attributes ((g.0, attribute_added s.classes s.name s.attrs w.name g.1 e (ltb-true _ _ lt)))))
      (λ _. tt)))

  attributes_leads : (s : State) → IsShort n s → (Declaring text s × IsClass s.classes s.name s.attrs) → Leads text w.past (attributes w (Forms ∷ []) s)
  attributes_leads s short g =
      cond_both (is_right w.kind) _ _ (Leads text w.past)
      (λ _. (omega (arith, length-append {A = Class}), at_forms (class_added text s.classes s.rules s.templates s.commands s.vectors s.name s.attrs g.0 g.1)))
      (λ _. cond_both (is_name w.kind) _ _ (Leads text w.past) (λ _. attribute_declared_leads s short g) (λ _. tt))

  vector_declared_leads : (s : State) → IsShort n s → (Declaring text s) → Leads text w.past (vector_declared w (VectorNames ∷ Forms ∷ []) s)
  vector_declared_leads s short g =
      cond_both (is_one_of w.name s.vectors) _ _ (Leads text w.past) (λ _. (omega arith, at_vector_names g))
      (λ _. cond_both (makes_second w.name s.classes) _ _ (Leads text w.past) (λ _. tt)
      (λ _. (omega (arith, length-map s.classes (with_vector_last w.name)), at_vector_names (vector_added text s.classes s.rules s.templates s.commands w.name g))))

  vector_name_leads : (s : State) → IsShort n s → (Declaring text s) → Leads text w.past (vector_name w (VectorNames ∷ Forms ∷ []) s)
  vector_name_leads s short g = cond_both (is_name w.kind) _ _ (Leads text w.past) (λ _. vector_declared_leads s short g) (λ _. tt)

  vector_names_leads : (s : State) → IsShort n s → (Declaring text s) → Leads text w.past (vector_names w (Forms ∷ []) s)
  vector_names_leads s short g = cond_both (is_right w.kind) _ _ (Leads text w.past) (λ _. (omega arith, at_forms g.program)) (λ _. vector_name_leads s short g)

  -- ---- elements

  element_named : (u : Use) (s : State) (c : ℕ) → Around u text s × IsEmpty u s × IsOfClass u s → c < length s.classes → IsElement u text (record s { class = c })
  element_named InPattern s c h lt = record { around = h.0; class = lt; fields = ap (tests_are_valid (class_of s.classes c) (inside (variables_of s) s.conditions)) h.1 }
  element_named InPut s c h lt =
      record {
        around = h.0;
        class = subst (IsNamed s.classes (known_in s) c) (sym h.2) lt;
        fields = ap (list_all (put_is_valid s.classes (known_in s) (class_of s.classes c))) h.1;
      }
  element_named InFixed s c h lt = record { around = h.0; class = lt; fields = ap (list_all (fixed_is_valid (class_of s.classes c))) h.1 }

  class_at_leads : (b : Braces) (u : Use) (s : State) → IsShort n s → (Around u text s × IsEmpty u s × IsOfClass u s) → (o : Option ℕ) → position (λ c. c.name.0 == w.name.0) s.classes ≡ o → Leads text w.past (class_at o (Terms u ∷ behind s.outer (at s b) u) s)
  class_at_leads b u s short g (Some c) e =
      (omega arith, at_terms b u (element_named u s c g (position-Some (λ c. c.name.0 == w.name.0) s.classes c no_class e).0))
  class_at_leads b u s short g None e = tt

  class_name_leads : (b : Braces) (u : Use) (s : State) → IsShort n s → (Around u text s × IsEmpty u s × IsOfClass u s) → Leads text w.past (class_name w (Terms u ∷ behind s.outer (at s b) u) s)
  class_name_leads b u s short g =
      cond_both (is_name w.kind) _ _ (Leads text w.past) (λ _. class_at_leads b u s short g (position (λ c. c.name.0 == w.name.0) s.classes) refl) (λ _. tt)

  at_field : {s : State} (b : Braces) (u : Use) (f : ℕ) → AtField u text s f → IsRead text s (behind_attribute u f ∷ Terms u ∷ behind s.outer (at s b) u)
  at_field b InPattern f g = at_place b None f (g.0, or_left _ _ g.1, tt)
  at_field b InPut f g = at_value (InScalar f) g
  at_field b InFixed f g = at_fixed_value f g

  -- the vector attribute begins
  several_begun : (u : Use) (s : State) (f : ℕ) → IsElement u text s → is_vector (class_of s.classes s.class) f ≡ true → AtSeveral u text (record s { terms = []; constants = [] }) f
  several_begun InPattern s f g e = (record { around = g.around; class = g.class; fields = g.fields }, (vector_parts (class_of s.classes s.class) f e).0)
  several_begun InPut s f g e = (record { around = g.around; class = g.class; fields = g.fields }, e, refl)
  several_begun InFixed s f g e = (record { around = g.around; class = g.class; fields = g.fields }, e, vector_within s.classes s.class f g.around.classes_valid g.class e)

  attribute_here : (o : Option Class) (f : ℕ) → position (λ a. a.0 == w.name.0) (attributes_of o) ≡ Some f → is_attribute (unwrap_or o no_class) f ≡ true
  attribute_here None f e = absurd (cc)
  attribute_here (Some c) f e = lt-ltb _ _ (position-Some (λ a. a.0 == w.name.0) c.attrs f (record { 0 = 0 }) e).0

  field_at_leads : (b : Braces) (u : Use) (s : State) → IsShort n s → IsElement u text s → (o : Option ℕ) → position (λ a. a.0 == w.name.0) (attributes_of (slice_get s.classes s.class)) ≡ o → Leads text w.past (field_at u o (behind s.outer (at s b) u) s)
  field_at_leads b u s short g None e = tt
  field_at_leads b u s short g (Some f) e =
      cond_both (is_vector (class_of s.classes s.class) f) _ _ (Leads text w.past) (λ vector. (omega arith, at_several b u f (several_begun u s f g vector)))
      (λ _. (omega arith, at_field b u f (g, attribute_here (slice_get s.classes s.class) f e)))

  attribute_leads : (b : Braces) (u : Use) (s : State) → IsShort n s → IsElement u text s → Leads text w.past (attribute u w (behind s.outer (at s b) u) s)
  attribute_leads b u s short g =
      cond_both (is_name w.kind) _ _ (Leads text w.past)
      (λ _. field_at_leads b u s short g (position (λ a. a.0 == w.name.0) (attributes_of (slice_get s.classes s.class))) refl) (λ _. tt)

  fixed_added : (s : State) (f : ℕ) (v : Value) → AtField InFixed text s f → IsElement InFixed text (record s { fixed = s.fixed ++ record { field = f; values = v ∷ [] } ∷ [] })
  fixed_added s f v g =
      record {
        around = g.0.around;
        class = g.0.class;
        fields = all_push (fixed_is_valid (class_of s.classes s.class)) s.fixed (record { field = f; values = v ∷ [] }) g.0.fields (fixed_valid s.classes s.class f v g.0.around.classes_valid g.0.class g.1);
      }

  -- ---- tests

  module _ (b : Braces) (more : Option ℕ) where
    place_ends : (more : Option ℕ) (s : State) → IsElement InPattern text s → HasMore more (class_of s.classes s.class) → IsRead text s (behind_place s.outer (at s b) more)
    place_ends None s g h = at_terms b InPattern g
    place_ends (Some f) s g h = at_several b InPattern f (g, h)

    behind_leads : (f : ℕ) (among : Bool) (s : State) → AtPlace more text s f → IsRead text s (behind_test s.outer (at s b) more f among)
    behind_leads f true s g = at_tests b more f g
    behind_leads f false s g = place_ends more s g.0 g.2

    -- a test that binds nothing
    test_added : (f : ℕ) (p : Pred) (o : Operand) (s : State) → AtPlace more text s f → operand_is_valid (sight_after_tests (inside (variables_of s) s.conditions) s.tests) p false o ≡ true → AtPlace more text (with_test s f p o false) f
    test_added f p o s g valid = (
      record {
        around = (test_kept text s.classes s.rules s.templates s.commands s.name (variables_of s) s.conditions s.tests f p o g.0.around.0, g.0.around.1, g.0.around.2, g.0.around.3);
        class = g.0.class;
        fields = test_valid text s.classes s.rules s.templates s.commands s.name (class_of s.classes s.class) (variables_of s) s.conditions s.tests f p o false g.0.fields g.1 valid;
      },
      g.1,
      g.2,
    )

    test_leads : (f : ℕ) (p : Pred) (o : Operand) (among : Bool) (s : State) → IsShort n s → AtPlace more text s f → operand_is_valid (sight_after_tests (inside (variables_of s) s.conditions) s.tests) p false o ≡ true → Leads text w.past (Next (behind_test s.outer (at s b) more f among) (with_test s f p o false))
    test_leads f p o among s short g valid = (omega (arith, length-append {A = Test}), behind_leads f among (with_test s f p o false) (test_added f p o s g valid))

    bound_leads : (f : ℕ) (among : Bool) (s : State) → IsShort n s → AtPlace more text s f → Leads text w.past (Next (behind_test s.outer (at s b) more f among) (with_bound s f w.name))
    bound_leads f among s short g =
        let head = g.0.around.0 in (
          omega (arith, length-append {A = Test}),
          behind_leads f among (with_bound s f w.name) (
            record {
              around = (test_bound text s.classes s.rules s.templates s.commands s.name (variables_of s) s.conditions s.tests f w.name head, g.0.around.1, g.0.around.2, g.0.around.3);
              class = g.0.class;
              fields = test_valid text s.classes s.rules s.templates s.commands s.name (class_of s.classes s.class) (variables_of s) s.conditions s.tests f pred.Eq (operand.Variable s.variables) true g.0.fields g.1
                  (not_from_false _ (not_below (sight_after_tests (inside (variables_of s) s.conditions) s.tests).given s.variables head.below));
            },
            g.1,
            g.2,
          ),
        )

    variable_tested_leads : (f : ℕ) (p : Pred) (among : Bool) (s : State) → IsShort n s → AtPlace more text s f → (o : Option ℕ) → number_of w.name s.values ≡ o → Leads text w.past (variable_tested f p o w.name (behind_test s.outer (at s b) more f among) s)
    variable_tested_leads f p among s short g (Some m) e = test_leads f p (operand.Variable m) among s short g (ap (is_in m) g.0.around.0.bound ∙ number_in w.name s.values m e)
    variable_tested_leads f pred.Eq among s short g None e = bound_leads f among s short g
    variable_tested_leads f _ among s short g None e = tt

    -- what was counted or noted leaves all else as it is
    counted_place : (f : ℕ) (s : State) → AtPlace more text s f → AtPlace more text (counting s) f
    counted_place f s g = (record { around = g.0.around; class = g.0.class; fields = g.0.fields }, g.1, g.2)

    hole_place : (f : ℕ) (s : State) (variable : Sym) (m : ℕ) → number_of variable (values_around s.outer) ≡ Some m → AtPlace more text s f → AtPlace more text (with_hole s m) f
    hole_place f s variable m e g = (
      record {
        around = (head_holed text s.classes s.rules s.templates s.commands s.name (variables_of s) s.conditions s.tests variable s.counted m g.0.around.0 e, g.0.around.1, g.0.around.2, g.0.around.3);
        class = g.0.class;
        fields = g.0.fields;
      },
      g.1,
      g.2,
    )

    constant_put : (f : ℕ) (p : Pred) (v : Value) (among : Bool) (s : State) → IsShort n s → AtPlace more text s f → Leads text w.past (Next (behind_test s.outer (at s b) more f among) (with_constant (ToTest f p) s v))
    constant_put f p v among s short g =
        let added = test_added f p (operand.Constant v) s g refl in
        (omega (arith, length-append {A = Test}), behind_leads f among (counting (with_test s f p (operand.Constant v) false)) (counted_place f (with_test s f p (operand.Constant v) false) added))

    constant_leads : (f : ℕ) (p : Pred) (v : Value) (among : Bool) (s : State) → IsShort n s → AtPlace more text s f → Leads text w.past (constant_by w.keyword (λ r. Next (behind_test s.outer (at s b) more f among) (with_constant (ToTest f p) r v)) s)
    constant_leads f p v among s short g =
        constant_cases w.keyword (λ r. Next (behind_test s.outer (at s b) more f among) (with_constant (ToTest f p) r v)) s (Leads text w.past) (λ _. tt) (constant_put f p v among s short g)
        (λ variable m e. constant_put f p v among (with_hole s m) short (hole_place f s variable m e g))

    constant_tested_leads : (f : ℕ) (p : Pred) (among : Bool) (s : State) → IsShort n s → AtPlace more text s f → (o : Option Value) → Leads text w.past (constant_tested f p w o (behind_test s.outer (at s b) more f among) s)
    constant_tested_leads f p among s short g (Some v) = constant_leads f p v among s short g
    constant_tested_leads f p among s short g None =
        cond_both (is_variable w.kind) _ _ (Leads text w.past) (λ _. variable_tested_leads f p among s short g (number_of w.name s.values) refl) (λ _. tt)

    tested_leads : (f : ℕ) (p : Pred) (among : Bool) (s : State) → IsShort n s → AtPlace more text s f → Leads text w.past (tested f p w (behind_test s.outer (at s b) more f among) s)
    tested_leads f p among s short g =
        cond_both (is_literal w.keyword) _ _ (Leads text w.past) (λ _. (omega arith, at_test_atom b more f p among g)) (λ _. constant_tested_leads f p among s short g (constant_of w.kind w.name))

    predicated_leads : (f : ℕ) (among : Bool) (s : State) → IsShort n s → AtPlace more text s f → (o : Option Pred) → Leads text w.past (predicated f w o (behind_test s.outer (at s b) more f among) s)
    predicated_leads f among s short g (Some p) = (omega arith, at_tested b more f p among g)
    predicated_leads f among s short g None = tested_leads f pred.Eq among s short g

    one_test_leads : (f : ℕ) (among : Bool) (s : State) → IsShort n s → AtPlace more text s f → Leads text w.past (test f w (behind_test s.outer (at s b) more f among) s)
    one_test_leads f among s short g =
        cond_both (opens_choice w.keyword) _ _ (Leads text w.past) (λ _. (omega arith, at_choice b more f among (record { around = g.0.around; class = g.0.class; fields = g.0.fields }, g.1, g.2)))
        (λ _. predicated_leads f among s short g (pred_of w.keyword))

    place_leads : (f : ℕ) (s : State) → IsShort n s → AtPlace more text s f → Leads text w.past (place f w (behind_place s.outer (at s b) more) s)
    place_leads f s short g = cond_both (is_left_brace w.kind) _ _ (Leads text w.past) (λ _. (omega arith, at_tests b more f g)) (λ _. one_test_leads f false s short g)

    tests_leads : (f : ℕ) (s : State) → IsShort n s → AtPlace more text s f → Leads text w.past (tests f w (behind_place s.outer (at s b) more) s)
    tests_leads f s short g = cond_both (is_right_brace w.kind) _ _ (Leads text w.past) (λ _. (omega arith, place_ends more s g.0 g.2)) (λ _. one_test_leads f true s short g)

    choice_more : (f : ℕ) (v : Value) (among : Bool) (s : State) → IsShort n s → AtPlace more text s f → Leads text w.past (Next (Choice f ∷ behind_test s.outer (at s b) more f among) (with_choice_of s v))
    choice_more f v among s short g =
        (omega (arith, length-append {A = Value}), at_choice b more f among (record { around = g.0.around; class = g.0.class; fields = g.0.fields }, g.1, g.2))

    chosen_leads : (f : ℕ) (among : Bool) (s : State) → IsShort n s → AtPlace more text s f → (o : Option Value) → Leads text w.past (chosen w.keyword o (Choice f ∷ behind_test s.outer (at s b) more f among) s)
    chosen_leads f among s short g (Some v) =
        let wanted = Choice f ∷ behind_test s.outer (at s b) more f among in
        constant_cases w.keyword (λ r. Next wanted (with_choice_of r v)) s (Leads text w.past) (λ _. tt) (choice_more f v among s short g)
        (λ variable m e. choice_more f v among (with_hole s m) short (hole_place f s variable m e g))
    chosen_leads f among s short g None = tt

    choice_ended : (f : ℕ) (among : Bool) (s : State) → IsShort n s → AtPlace more text s f → Leads text w.past (Next (behind_test s.outer (at s b) more f among) (with_choice s f))
    choice_ended f among s short g =
        let fit : nat_le (length s.choice) longest_list ≡ true = le-leb (length s.choice) longest_list (omega arith) in
        let added = test_added f pred.Eq (operand.OneOf s.choice) s g fit in
        let u : AtPlace more text (with_choice s f) f = (record { around = added.0.around; class = added.0.class; fields = added.0.fields }, added.1, added.2) in
        (omega (arith, length-append {A = Test}), behind_leads f among (with_choice s f) u)

    choice_leads : (f : ℕ) (among : Bool) (s : State) → IsShort n s → AtPlace more text s f → Leads text w.past (choice f w (behind_test s.outer (at s b) more f among) s)
    choice_leads f among s short g =
        cond_both (closes_choice w.keyword) _ _ (Leads text w.past) (λ _. choice_ended f among s short g) (λ _. chosen_leads f among s short g (atom_of w.kind w.name))

    test_atom_leads : (f : ℕ) (p : Pred) (among : Bool) (s : State) → IsShort n s → AtPlace more text s f → (o : Option Value) → Leads text w.past (atom_at (ToTest f p) w.keyword o (behind_test s.outer (at s b) more f among) s)
    test_atom_leads f p among s short g (Some v) = constant_leads f p v among s short g
    test_atom_leads f p among s short g None = tt

  -- ---- values of commands

  -- no function stands there
  no_function : {A : Type 0} (b : Bool) → (b && false) ≡ true → A
  no_function b e = absurd (true≢false (sym (and_parts b false e).1))

  fixed_put : (f : ℕ) (v : Value) (s : State) → IsShort n s → AtField InFixed text s f → Leads text w.past (Next (Terms InFixed ∷ behind None Bare InFixed) (with_constant (ToFixed f) s v))
  fixed_put f v s short g = (omega (arith, length-append {A = Fixed}), at_terms Bare InFixed (fixed_added s f v g))

  fixed_constant_leads : (f : ℕ) (v : Value) (s : State) → IsShort n s → AtField InFixed text s f → Leads text w.past (constant_by w.keyword (λ r. Next (Terms InFixed ∷ behind None Bare InFixed) (with_constant (ToFixed f) r v)) s)
  fixed_constant_leads f v s short g =
      constant_cases w.keyword (λ r. Next (Terms InFixed ∷ behind None Bare InFixed) (with_constant (ToFixed f) r v)) s (Leads text w.past) (λ _. tt) (fixed_put f v s short g)
      (λ variable m e. fixed_put f v (with_hole s m) short (record { around = g.0.around; class = g.0.class; fields = g.0.fields }, g.1))

  fixed_atom_leads : (f : ℕ) (s : State) → IsShort n s → AtField InFixed text s f → (o : Option Value) → Leads text w.past (atom_at (ToFixed f) w.keyword o (Terms InFixed ∷ behind None Bare InFixed) s)
  fixed_atom_leads f s short g (Some v) = fixed_constant_leads f v s short g
  fixed_atom_leads f s short g None = tt

  -- A variable in a command is bound nowhere.
  fixed_bound_leads : (f : ℕ) (s : State) (o : Option ℕ) → Leads text w.past (bound_at (ToFixed f) o (Terms InFixed ∷ behind None Bare InFixed) s)
  fixed_bound_leads f s (Some m) = tt
  fixed_bound_leads f s None = tt

  fixed_word_leads : (f : ℕ) (s : State) → IsShort n s → AtField InFixed text s f → (o : Option Value) → Leads text w.past (constant_at (ToFixed f) w o (Terms InFixed ∷ behind None Bare InFixed) s)
  fixed_word_leads f s short g (Some v) = fixed_constant_leads f v s short g
  fixed_word_leads f s short g None = cond_both (is_variable w.kind) _ _ (Leads text w.past) (λ _. fixed_bound_leads f s (number_of w.name s.values)) (λ _. tt)

  fixed_value_leads : (f : ℕ) (s : State) → IsShort n s → AtField InFixed text s f → Leads text w.past (value_for (ToFixed f) w (Terms InFixed ∷ behind None Bare InFixed) s)
  fixed_value_leads f s short g =
      cond_both (is_literal w.keyword) _ _ (Leads text w.past) (λ _. (omega arith, at_fixed_atom f g))
      (λ _. cond_both (is_left w.kind && false) _ _ (Leads text w.past) (λ e. no_function (is_left w.kind) e) (λ _. fixed_word_leads f s short g (value_of w.kind w.name)))

  -- a value more of the vector attribute of a command
  constant_more : (f : ℕ) (v : Value) (s : State) → IsShort n s → AtSeveral InFixed text s f → f + length s.constants < most_fields → Leads text w.past (Next (Several InFixed f ∷ behind None Bare InFixed) (record s { constants = s.constants ++ v ∷ [] }))
  constant_more f v s short g lt = (
    omega arith,
    at_several Bare InFixed f (record { around = g.0.around; class = g.0.class; fields = g.0.fields }, g.1, omega (arith, lt, length-append s.constants (v ∷ []))),
  )

  constant_more_leads : (f : ℕ) (v : Value) (s : State) → IsShort n s → AtSeveral InFixed text s f → f + length s.constants < most_fields → Leads text w.past (constant_by w.keyword (λ r. Next (Several InFixed f ∷ behind None Bare InFixed) (with_constant ToConstants r v)) s)
  constant_more_leads f v s short g lt =
      constant_cases w.keyword (λ r. Next (Several InFixed f ∷ behind None Bare InFixed) (with_constant ToConstants r v)) s (Leads text w.past) (λ _. tt) (constant_more f v s short g lt)
      (λ variable m e. constant_more f v (with_hole s m) short (record { around = g.0.around; class = g.0.class; fields = g.0.fields }, g.1, g.2) lt)

  constants_atom_leads : (f : ℕ) (s : State) → IsShort n s → AtSeveral InFixed text s f → f + length s.constants < most_fields → (o : Option Value) → Leads text w.past (atom_at ToConstants w.keyword o (Several InFixed f ∷ behind None Bare InFixed) s)
  constants_atom_leads f s short g lt (Some v) = constant_more_leads f v s short g lt
  constants_atom_leads f s short g lt None = tt

  constants_bound_leads : (f : ℕ) (s : State) (o : Option ℕ) → Leads text w.past (bound_at ToConstants o (Several InFixed f ∷ behind None Bare InFixed) s)
  constants_bound_leads f s (Some m) = tt
  constants_bound_leads f s None = tt

  constants_word_leads : (f : ℕ) (s : State) → IsShort n s → AtSeveral InFixed text s f → f + length s.constants < most_fields → (o : Option Value) → Leads text w.past (constant_at ToConstants w o (Several InFixed f ∷ behind None Bare InFixed) s)
  constants_word_leads f s short g lt (Some v) = constant_more_leads f v s short g lt
  constants_word_leads f s short g lt None = cond_both (is_variable w.kind) _ _ (Leads text w.past) (λ _. constants_bound_leads f s (number_of w.name s.values)) (λ _. tt)

  constants_value_leads : (f : ℕ) (s : State) → IsShort n s → AtSeveral InFixed text s f → f + length s.constants < most_fields → Leads text w.past (value_for ToConstants w (Several InFixed f ∷ behind None Bare InFixed) s)
  constants_value_leads f s short g lt =
      cond_both (is_literal w.keyword) _ _ (Leads text w.past) (λ _. (omega arith, at_constants_atom f g lt))
      (λ _. cond_both (is_left w.kind && false) _ _ (Leads text w.past) (λ e. no_function (is_left w.kind) e) (λ _. constants_word_leads f s short g lt (value_of w.kind w.name)))

  place_fits : n ≤ longest_list
  place_fits = omega arith

  behind_fits : n + 1 ≤ longest_list
  behind_fits = omega arith

  pattern_ends : (b : Braces) (s : State) → AfterPattern text s → IsRead text s (behind s.outer (outer b) InPattern)
  pattern_ends Bare s g = at_patterns g
  pattern_ends NamedBefore s g = at_closes_brace g
  pattern_ends NamedBehind s g = at_element_name g
  pattern_ends (AsMember m) s g = at_patterns g

  -- where no group is read
  stands : (b : Braces) (front : List Wanted) (s : State) → s.grouped ≡ false → IsRead text s (front ++ behind s.outer (at s b) InPattern) → IsRead text s (front ++ behind s.outer (outer b) InPattern)
  stands b front s e = subst (λ (c : Bool). IsRead text s (front ++ behind s.outer (cond c (AsMember (length s.members)) (outer b)) InPattern)) e

  no_members : (s : State) → Head text s → s.grouped ≡ false → length s.members ≡ 0
  no_members s h e = ap (λ (ms : List Condition). length ms) (h.alone e)

  element_leads : (b : Braces) (u : Use) (s : State) → IsShortBy n (n + 1) s → (IsElement u text s) → Leads text w.past (Next (behind s.outer (at s b) u) (with_element u s))
  element_leads b InPattern s short g = by s.grouped refl
    where
      by : (c : Bool) → s.grouped ≡ c → Leads text w.past (Next (behind s.outer (cond c (AsMember (length s.members)) (outer b)) InPattern) (cond c (with_member s) (with_one s)))
      by true e = (
        omega arith,
        at_members (suc (length s.members)) (
          member_added text s.classes s.rules s.templates s.commands s.name s.class (variables_of s) s.conditions s.tests g.around.0 g.around.1 g.class (fits_below s.tests n short.4 place_fits) g.fields e,
          refl,
          g.around.3 e,
          e,
          omega (arith, length-append {A = Condition}),
        ),
      )
      by false e = (
        omega arith,
        pattern_ends b (with_one s) (
          condition_added text s.classes s.rules s.templates s.commands s.name s.class (variables_of s) s.conditions s.tests g.around.0 (omega (arith, g.around.1)) g.class (fits_below s.tests n short.4 place_fits) g.fields g.around.2 e,
          refl,
          omega (arith, length-append {A = Part}),
          e,
        ),
      )
  element_leads b InPut s short g = (
    omega (arith, length-append {A = Action}),
    at_actions (added text s (put_action s.modified s.class s.puts) s.values s.elements s.variables (record { made = Some s.class; further = s.further }) g.around
        (put_action_valid text s s.modified g.class (fits_below s.puts (n + 1) short.5 behind_fits) g.fields) (put_action_builds text s.modified s.class s.puts)
        (put_known (known_in s) (variables_of s) s.conditions (side_of s) g.around.knows s.classes s.class s.puts s.modified g.class)),
  )
  element_leads b InFixed s short g = (
    omega (arith, length-append {A = Command}),
    at_forms (command_added text s.classes s.rules s.templates s.commands (fixed_command s.shows s.class s.fixed) g.around
        (constants_fit text s.classes s.shows s.class s.fixed g.class (fits_below s.fixed (n + 1) short.6 behind_fits) g.fields)),
  )

  terms_leads : (b : Braces) (u : Use) (s : State) → IsShortBy n (n + 1) s → (IsElement u text s) → Leads text w.past (terms u w (behind s.outer (at s b) u) s)
  terms_leads b u s short g =
      cond_both (is_right w.kind) _ _ (Leads text w.past) (λ _. element_leads b u s short g)
      (λ _. cond_both (is_caret w.kind) _ _ (Leads text w.past) (λ _. (omega arith, at_attribute b u g)) (λ _. tt))

  -- ---- the vector attribute

  within_leads : (fits : Bool) (step : Step) → (fits ≡ true → Leads text w.past step) → Leads text w.past (within fits step)
  within_leads true step h = h refl
  within_leads false (Next ws s) h = tt
  within_leads false (Refuses f) h = tt

  one_of_several_leads : (b : Braces) (u : Use) (f : ℕ) (s : State) → IsShort n s → AtSeveral u text s f → Leads text w.past (one_of_several u f w (behind s.outer (at s b) u) s)
  one_of_several_leads b InPattern f s short g =
      within_leads (nat_lt f most_fields) _ (λ lt. place_leads b (Some (f + 1)) f s short (g.0, or_right _ _ (and_from _ _ g.1 lt), g.1))
  one_of_several_leads b InPut f s short g = value_leads text n w fit placed (InVector f) s short g
  one_of_several_leads b InFixed f s short g =
      within_leads (nat_lt (f + length s.constants) most_fields) _ (λ lt. constants_value_leads f s short g (ltb-true _ _ lt))

  several_ended : (u : Use) (f : ℕ) (s : State) → IsShort n s → AtSeveral u text s f → IsElement u text (with_several u f s)
  several_ended InPattern f s short g = g.0
  several_ended InPut f s short g =
      record {
        around = g.0.around;
        class = g.0.class;
        fields = all_push (put_is_valid s.classes (known_in s) (class_of s.classes s.class)) s.puts (record { field = f; terms = s.terms }) g.0.fields
            (several_valid s.classes (known_in s) (class_of s.classes s.class) f s.terms g.1 (fits_below s.terms n short.11 place_fits) g.2);
      }
  several_ended InFixed f s short g =
      record {
        around = g.0.around;
        class = g.0.class;
        fields = all_push (fixed_is_valid (class_of s.classes s.class)) s.fixed (record { field = f; values = s.constants }) g.0.fields (constants_valid (class_of s.classes s.class) f s.constants g.1 g.2);
      }

  several_short : (u : Use) (f : ℕ) (s : State) → IsShort n s → IsShortBy n (n + 1) (with_several u f s)
  several_short InPattern f s short = omega arith
  several_short InPut f s short = omega (arith, length-append {A = Put})
  several_short InFixed f s short = omega (arith, length-append {A = Fixed})

  several_leads : (b : Braces) (u : Use) (f : ℕ) (s : State) → IsShort n s → AtSeveral u text s f → Leads text w.past (several u f w (behind s.outer (at s b) u) s)
  several_leads b u f s short g =
      cond_both (is_right w.kind || is_caret w.kind) _ _ (Leads text w.past) (λ _. subst (λ (c : Braces). Leads text w.past (terms u w (behind s.outer c u) (with_several u f s))) (several_at u f s b)
      (subst (λ (o : Option Outer). Leads text w.past (terms u w (behind o (at (with_several u f s) b) u) (with_several u f s))) (several_outer u f s) (terms_leads b u (with_several u f s) (several_short u f s short) (several_ended u f s short g))))
      (λ _. one_of_several_leads b u f s short g)

  -- ---- productions

  rule_name_leads : (s : State) → IsShort n s → Program text s → Leads text w.past (rule_name w (FirstPattern ∷ Patterns ∷ Actions false ∷ Forms ∷ []) s)
  rule_name_leads s short g =
      cond_both (is_name w.kind) _ _ (Leads text w.past)
      (λ _. cond_both (is_rule s w.name) _ _ (Leads text w.past) (λ _. tt)
      (λ e. (omega arith, at_first_pattern (head_begun text s.classes s.rules s.templates s.commands w.name g e, refl, refl, refl, refl))))
      (λ _. tt)

  first_pattern_leads : (s : State) → IsShort n s → Head text s × (s.tests ≡ []) × (length s.conditions ≡ 0) × (s.negated ≡ false) × (s.grouped ≡ false) → Leads text w.past (first_pattern w (Patterns ∷ sides s.outer) s)
  first_pattern_leads s short g =
      let before : BeforePattern text s = ((g.0, omega (arith, no_elements s.conditions g.2, no_members s g.0 g.4), λ none. g.3, λ group. absurd (true≢false (sym group ∙ g.4))), g.1) in
      cond_both (is_left w.kind) _ _ (Leads text w.past) (λ _. (omega arith, stands Bare (ClassName ∷ Terms InPattern ∷ []) s g.4 (at_class_name Bare InPattern (before.0, before.1, tt))))
      (λ _. cond_both (is_left_brace w.kind) _ _ (Leads text w.past) (λ _. (omega arith, at_braced (before, g.4)))
      (λ _. cond_both (is_minus w.keyword || begins_group w.keyword) _ _ (Leads text w.past) (λ _. tt) (λ _. tt)))

  body_at_arrow : (s : State) → AfterPattern text s → Body text (right_begun (left_ended s))
  body_at_arrow s h =
      let head = subst (λ (ts : List Test). IsHead text s.classes s.rules s.templates s.commands s.name (variables_of s) s.conditions ts) h.1 h.0 in
      body_begun text s.classes s.rules s.templates s.commands s.name (variables_of s) s.conditions head h.2 h.3

  -- another pattern comes
  more_before : (s : State) → AfterPattern text s → length (elements_of s.conditions) < most_conditions → BeforePattern text s
  more_before s g lt = ((g.0, omega (arith, lt, no_members s g.0 g.3), λ none. absurd (omega (arith, none, g.2)), λ _. g.2), g.1)

  negated_leads : (s : State) → IsShort n s → AfterPattern text s → Leads text w.past (one_more (Pattern ∷ Patterns ∷ sides s.outer) (record s { negated = true; around = length s.values }))
  negated_leads s short g =
      let begun : State = record s { negated = true; around = length s.values } in
      let head = subst (λ (ts : List Test). IsHead text s.classes s.rules s.templates s.commands s.name (variables_of s) s.conditions ts) g.1 g.0 in
      let negated = negated_begun text s.classes s.rules s.templates s.commands s.name (variables_of s) s.conditions head g.3 in
      let back = subst (λ (ts : List Test). IsHead text s.classes s.rules s.templates s.commands s.name (variables_of begun) s.conditions ts) (sym g.1) negated in
      cond_both (nat_lt (length (elements_of s.conditions)) most_conditions) _ _ (Leads text w.past) (λ lt. (omega arith, stands Bare (Pattern ∷ []) begun g.3 (at_pattern Bare (more_before begun (back, g.1, g.2, g.3) (ltb-true _ _ lt))))) (λ _. tt)

  patterns_leads : (s : State) → IsShort n s → AfterPattern text s → Leads text w.past (patterns w (sides s.outer) s)
  patterns_leads s short g =
      cond_both (is_arrow w.keyword) _ _ (Leads text w.past) (λ _. (omega arith, at_actions (body_at_arrow s g)))
      (λ _. cond_both (is_left w.kind) _ _ (Leads text w.past)
      (λ _. cond_both (nat_lt (length (elements_of s.conditions)) most_conditions) _ _ (Leads text w.past)
      (λ lt. let before = more_before s g (ltb-true _ _ lt) in (omega arith, stands Bare (ClassName ∷ Terms InPattern ∷ []) s g.3 (at_class_name Bare InPattern (before.0, before.1, tt)))) (λ _. tt))
      (λ _. cond_both (is_left_brace w.kind) _ _ (Leads text w.past)
      (λ _. cond_both (nat_lt (length (elements_of s.conditions)) most_conditions) _ _ (Leads text w.past)
      (λ lt. (omega arith, at_braced (more_before s g (ltb-true _ _ lt), g.3))) (λ _. tt))
      (λ _. cond_both (is_minus w.keyword) _ _ (Leads text w.past) (λ _. negated_leads s short g)
      (λ _. cond_both (begins_group w.keyword) _ _ (Leads text w.past) (λ _. (omega arith, at_group g)) (λ _. tt)))))

  group_leads : (s : State) → IsShort n s → AfterPattern text s → Leads text w.past (group w (Patterns ∷ sides s.outer) s)
  group_leads s short g =
      let head = subst (λ (ts : List Test). IsHead text s.classes s.rules s.templates s.commands s.name (variables_of s) s.conditions ts) g.1 g.0 in
      cond_both (is_left_brace w.kind) _ _ (Leads text w.past)
      (λ _. (omega arith, at_members 0 (group_opened text s.classes s.rules s.templates s.commands s.name (variables_of s) s.conditions head g.3, refl, g.2, refl, refl))) (λ _. tt)

  -- among the members
  stands_among : (m : ℕ) (front : List Wanted) (s : State) → s.grouped ≡ true → length s.members ≡ m → IsRead text s (front ++ behind s.outer (at s Bare) InPattern) → IsRead text s (front ++ behind s.outer (AsMember m) InPattern)
  stands_among m front s e count r =
      subst (λ (k : ℕ). IsRead text s (front ++ behind s.outer (AsMember k) InPattern)) count
      (subst (λ (c : Bool). IsRead text s (front ++ behind s.outer (cond c (AsMember (length s.members)) Bare) InPattern)) e r)

  members_leads : (m : ℕ) (s : State) → IsShort n s → AmongMembers m text s → Leads text w.past (members m w (Patterns ∷ sides s.outer) s)
  members_leads m s short g =
      let head = subst (λ (ts : List Test). IsHead text s.classes s.rules s.templates s.commands s.name (variables_of s) s.conditions ts) g.1 g.0 in
      cond_both (is_right_brace w.kind && nat_le 2 m) _ _ (Leads text w.past)
      (λ e.
      let two : 2 ≤ m = leb-true 2 m (and_parts (is_right_brace w.kind) (nat_le 2 m) e).1 in
      let added = group_added text s.classes s.rules s.templates s.commands s.name (variables_of s) s.conditions head g.2 (omega (arith, two, g.4)) g.3 in
      let ended : State = with_group s in
      let back = subst (λ (ts : List Test). IsHead text s.classes s.rules s.templates s.commands s.name (variables_of ended) ended.conditions ts) (sym g.1) added in
      (omega arith, at_patterns (back, g.1, omega (arith, length-append {A = Part}), refl)))
      (λ _. cond_both (is_left w.kind) _ _ (Leads text w.past)
      (λ _. cond_both (has_room s) _ _ (Leads text w.past)
      (λ room. (
        omega arith,
        stands_among m (ClassName ∷ Terms InPattern ∷ []) s g.3 g.4
            (at_class_name Bare InPattern ((g.0, ltb-true _ _ room, λ none. absurd (omega (arith, none, g.2)), λ _. g.2), g.1, tt)),
      )) (λ _. tt)) (λ _. tt))

  pattern_leads : (b : Braces) (s : State) → IsShort n s → BeforePattern text s → Leads text w.past (pattern w (behind s.outer (at s b) InPattern) s)
  pattern_leads b s short g = cond_both (is_left w.kind) _ _ (Leads text w.past) (λ _. (omega arith, at_class_name b InPattern (g.0, g.1, tt))) (λ _. tt)

  -- ---- element variables

  -- an element variable before its pattern
  named_before_leads : (s : State) → IsShort n s → BeforePattern text s × (s.grouped ≡ false) → (o : Option ℕ) → Leads text w.past (element_at o w.name (Pattern ∷ ClosesBrace ∷ Patterns ∷ sides s.outer) s)
  named_before_leads s short g (Some c) = tt
  named_before_leads s short g None = (omega arith, stands NamedBefore (Pattern ∷ []) (record s { element = w.name }) g.1 (at_pattern NamedBefore g.0))

  braced_leads : (s : State) → IsShort n s → BeforePattern text s × (s.grouped ≡ false) → Leads text w.past (braced w (Patterns ∷ sides s.outer) s)
  braced_leads s short g =
      cond_both (is_left w.kind) _ _ (Leads text w.past) (λ _. (omega arith, stands NamedBehind (ClassName ∷ Terms InPattern ∷ []) s g.1 (at_class_name NamedBehind InPattern (g.0.0, g.0.1, tt))))
      (λ _. cond_both (is_variable w.kind) _ _ (Leads text w.past) (λ _. named_before_leads s short g (number_of w.name s.elements)) (λ _. tt))

  -- one after its pattern
  named_behind_leads : (s : State) → IsShort n s → AfterPattern text s → (o : Option ℕ) → Leads text w.past (element_at o w.name (ClosesBrace ∷ Patterns ∷ sides s.outer) s)
  named_behind_leads s short g (Some c) = tt
  named_behind_leads s short g None = (omega arith, at_closes_brace g)

  element_name_leads : (s : State) → IsShort n s → AfterPattern text s → Leads text w.past (element_name w (ClosesBrace ∷ Patterns ∷ sides s.outer) s)
  element_name_leads s short g = cond_both (is_variable w.kind) _ _ (Leads text w.past) (λ _. named_behind_leads s short g (number_of w.name s.elements)) (λ _. tt)

  closes_brace_leads : (s : State) → IsShort n s → AfterPattern text s → Leads text w.past (closes_brace w (Patterns ∷ sides s.outer) s)
  closes_brace_leads s short g =
      cond_both (is_right_brace w.kind) _ _ (Leads text w.past)
      (λ _. (omega arith, at_patterns (element_bound text s.classes s.rules s.templates s.commands s.name (variables_of s) s.conditions s.tests s.element g.0 g.2, g.1, g.2, g.3))) (λ _. tt)

  -- ---- commands

  -- a command more, and after it the next form
  command_leads : (c : Command) (s : State) → IsShort n s → Program text s → other_is_sound s.classes text c ≡ true → Leads text w.past (Next (Forms ∷ []) (with_command s c))
  command_leads c s short g valid = (omega (arith, length-append {A = Command}), at_forms (command_added text s.classes s.rules s.templates s.commands c g valid))

  -- or its bracket
  whole_command_leads : (c : Command) (s : State) → IsShort n s → Program text s → other_is_sound s.classes text c ≡ true → Leads text w.past (Next (Closes EndsWhole ∷ Forms ∷ []) (with_command s c))
  whole_command_leads c s short g valid = (omega (arith, length-append {A = Command}), at_command_end (command_added text s.classes s.rules s.templates s.commands c g valid))

  counted_leads : (s : State) → IsShort n s → Program text s → (o : Option ℕ) → count_of w.kind ≡ o → Leads text w.past (counted o (Forms ∷ []) s)
  counted_leads s short g (Some k) e = whole_command_leads (command.Run (Some k)) s short g (and_from _ _ (count_natural w.kind k e) refl)
  counted_leads s short g None e = tt

  count_leads : (s : State) → IsShort n s → Program text s → Leads text w.past (count w (Forms ∷ []) s)
  count_leads s short g =
      cond_both (is_right w.kind) _ _ (Leads text w.past) (λ _. command_leads (command.Run None) s short g refl)
      (λ _. counted_leads s short g (count_of w.kind) refl)

  strategy_set_leads : (s : State) → IsShort n s → Program text s → (o : Option Strategy) → Leads text w.past (strategy_set o (Forms ∷ []) s)
  strategy_set_leads s short g (Some set) = whole_command_leads (command.Strategy (Some set)) s short g refl
  strategy_set_leads s short g None = tt

  strategy_name_leads : (s : State) → IsShort n s → Program text s → Leads text w.past (strategy_name w (Forms ∷ []) s)
  strategy_name_leads s short g =
      cond_both (is_right w.kind) _ _ (Leads text w.past) (λ _. command_leads (command.Strategy None) s short g refl)
      (λ _. strategy_set_leads s short g (strategy_of w.keyword))

  level_set_leads : (s : State) → IsShort n s → Program text s → (o : Option ℕ) → level_of w.kind ≡ o → Leads text w.past (level_set o (Forms ∷ []) s)
  level_set_leads s short g (Some k) e = whole_command_leads (command.Watch (Some k)) s short g (and_from _ _ (level_small w.kind k e) refl)
  level_set_leads s short g None e = tt

  undone_set_leads : (s : State) → IsShort n s → Program text s → (o : Option ℕ) → undone_of w.kind ≡ o → Leads text w.past (undone_set o (Forms ∷ []) s)
  undone_set_leads s short g (Some k) e = whole_command_leads (command.Back k) s short g (and_from _ _ (undone_small w.kind k e) refl)
  undone_set_leads s short g None e = tt

  level_leads : (s : State) → IsShort n s → Program text s → Leads text w.past (level w (Forms ∷ []) s)
  level_leads s short g =
      cond_both (is_right w.kind) _ _ (Leads text w.past) (λ _. command_leads (command.Watch None) s short g refl)
      (λ _. level_set_leads s short g (level_of w.kind) refl)

  undone_leads : (s : State) → IsShort n s → Program text s → Leads text w.past (undone w (Forms ∷ []) s)
  undone_leads s short g =
      cond_both (is_right w.kind) _ _ (Leads text w.past) (λ _. command_leads (command.Back 1) s short g refl)
      (λ _. undone_set_leads s short g (undone_of w.kind) refl)

  tag_leads : (u : TagUse) (s : State) → IsShort n s → Program text s → list_all is_natural s.tags ≡ true → (o : Option ℕ) → count_of w.kind ≡ o → Leads text w.past (tag_at o (Tags u ∷ Forms ∷ []) s)
  tag_leads u s short g natural (Some k) e =
      (omega (arith, length-append {A = ℕ}), at_tags u (g, all_push is_natural s.tags k natural (count_natural w.kind k e), tag_enough u s.tags k))
  tag_leads u s short g natural None e = tt

  tag_or_all_leads : (s : State) → IsShort n s → Program text s × (s.tags ≡ []) → Leads text w.past (tag_or_all w (Forms ∷ []) s)
  tag_or_all_leads s short g =
      cond_both (is_all w.keyword) _ _ (Leads text w.past) (λ _. whole_command_leads command.RemoveAll s short g.0 refl)
      (λ _. tag_leads ToRemove s short g.0 (ap (list_all is_natural) g.1) (count_of w.kind) refl)

  tags_leads : (u : TagUse) (s : State) → IsShort n s → AtTags u text s → Leads text w.past (tags u w (Forms ∷ []) s)
  tags_leads u s short g =
      cond_both (is_right w.kind) _ _ (Leads text w.past)
      (λ _. (
        omega (arith, length-append {A = Command}),
        at_forms (command_added text s.classes s.rules s.templates s.commands (tag_command u s.tags) g.0 (tags_valid text s.classes u s.tags (fits_below s.tags n short.12 place_fits) g.1 g.2)),
      ))
      (λ _. tag_leads u s short g.0 g.1 (count_of w.kind) refl)

  shown_leads : (s : State) → IsShort n s → Program text s → Leads text w.past (shown w (Forms ∷ []) s)
  shown_leads s short g =
      cond_both (is_right w.kind) _ _ (Leads text w.past) (λ _. command_leads (command.Ppwm None) s short g refl)
      (λ _. class_name_leads Bare InFixed (record s { fixed = []; shows = true }) (omega arith) (g, refl, tt))

  named_rule_leads : (u : NameUse) (s : State) → IsShort n s → Program text s → Leads text w.past (named_rule w (NamedRules u ∷ Forms ∷ []) s)
  named_rule_leads u s short g =
      cond_both (is_name w.kind) _ _ (Leads text w.past) (λ _. (omega (arith, length-append {A = Sym}), at_named_rules u (g, name_enough u s.named w.name))) (λ _. tt)

  named_rules_leads : (u : NameUse) (s : State) → IsShort n s → AtNames u text s → Leads text w.past (named_rules u w (Forms ∷ []) s)
  named_rules_leads u s short g =
      cond_both (is_right w.kind) _ _ (Leads text w.past)
      (λ _. (
        omega (arith, length-append {A = Command}),
        at_forms (command_added text s.classes s.rules s.templates s.commands (name_command u s.named) g.0 (names_valid text s.classes u s.named (fits_below s.named n short.13 place_fits) g.1)),
      ))
      (λ _. named_rule_leads u s short g.0)

  cs_leads : (s : State) → IsShort n s → Program text s → Leads text w.past (closes EndsCs w (Forms ∷ []) s)
  cs_leads s short g = cond_both (is_right w.kind) _ _ (Leads text w.past) (λ _. command_leads command.Cs s short g refl) (λ _. tt)

  exit_leads : (s : State) → IsShort n s → Program text s → Leads text w.past (closes EndsExit w (Forms ∷ []) s)
  exit_leads s short g = cond_both (is_right w.kind) _ _ (Leads text w.past) (λ _. command_leads command.Exit s short g refl) (λ _. tt)

  command_end_leads : (s : State) → IsShort n s → Program text s → Leads text w.past (closes EndsWhole w (Forms ∷ []) s)
  command_end_leads s short g = cond_both (is_right w.kind) _ _ (Leads text w.past) (λ _. (omega arith, at_forms g)) (λ _. tt)

  -- ---- a word

  pub step_leads : (s : State) (ws : List Wanted) → IsShort n s → IsRead text s ws → Leads text w.past (step w ws s)
  unfolding step
  step_leads s ws short (at_forms g) = forms_leads s short g
  step_leads s ws short (at_form g) = form_leads s short g w.keyword
  step_leads s ws short (at_class_declared g) = class_declared_leads s short g
  step_leads s ws short (at_attributes g) = attributes_leads s short g
  step_leads s ws short (at_vector_name g) = vector_name_leads s short g
  step_leads s ws short (at_vector_names g) = vector_names_leads s short g
  step_leads s ws short (at_rule_name g) = rule_name_leads s short g
  step_leads s ws short (at_built_name g) = built_name_leads text n w fit placed s short g
  step_leads s ws short (at_first_pattern g) = first_pattern_leads s short g
  step_leads s ws short (at_patterns g) = patterns_leads s short g
  step_leads s ws short (at_group g) = group_leads s short g
  step_leads s ws short (at_members m g) = members_leads m s short g
  step_leads s ws short (at_pattern b g) = pattern_leads b s short g
  step_leads s ws short (at_braced g) = braced_leads s short g
  step_leads s ws short (at_element_name g) = element_name_leads s short g
  step_leads s ws short (at_closes_brace g) = closes_brace_leads s short g
  step_leads s ws short (at_class_name b u g) = class_name_leads b u s short g
  step_leads s ws short (at_terms b u g) = terms_leads b u s (omega arith) g
  step_leads s ws short (at_attribute b u g) = attribute_leads b u s short g
  step_leads s ws short (at_several b u f g) = several_leads b u f s short g
  step_leads s ws short (at_place b more f g) = place_leads b more f s short g
  step_leads s ws short (at_tests b more f g) = tests_leads b more f s short g
  step_leads s ws short (at_tested b more f p among g) = tested_leads b more f p among s short g
  step_leads s ws short (at_choice b more f among g) = choice_leads b more f among s short g
  step_leads s ws short (at_test_atom b more f p among g) = test_atom_leads b more f p among s short g (atom_of w.kind w.name)
  step_leads s ws short (at_fixed_value f g) = fixed_value_leads f s short g
  step_leads s ws short (at_fixed_atom f g) = fixed_atom_leads f s short g (atom_of w.kind w.name)
  step_leads s ws short (at_constants_atom f g lt) = constants_atom_leads f s short g lt (atom_of w.kind w.name)
  step_leads s ws short (at_value slot g) = value_leads text n w fit placed slot s short g
  step_leads s ws short (at_atom slot g) = atom_leads text n w fit placed slot s short g (atom_of w.kind w.name)
  step_leads s ws short (at_function slot g) = function_leads text n w fit placed slot s short g w.keyword
  step_leads s ws short (at_expression_unit slot depth o os g) = expression_unit_leads text n w fit placed slot depth o os s short g
  step_leads s ws short (at_bracketed slot depth o os g) = bracketed_leads text n w fit placed slot depth o os s short g
  step_leads s ws short (at_expression_rest slot o os g) = expression_rest_leads text n w fit placed slot o os s short g
  step_leads s ws short (at_source_cell slot g) = source_cell_leads text n w fit placed slot s short g
  step_leads s ws short (at_source_attribute slot g) = source_attribute_leads text n w fit placed slot s short g
  step_leads s ws short (at_source_end slot name g) = source_end_leads text n w fit placed slot name s short g
  step_leads s ws short (at_value_end slot g) = value_end_leads text n w fit placed slot s short g
  step_leads s ws short (at_actions g) = actions_leads text n w fit placed s short g
  step_leads s ws short (at_action_word g) = action_word_leads text n w fit placed s short g w.keyword
  step_leads s ws short (at_modified g) = modified_leads text n w fit placed s short g
  step_leads s ws short (at_bound_name g) = bound_name_leads text n w fit placed s short g
  step_leads s ws short (at_bound_value g) = bound_value_leads text n w fit placed s short g
  step_leads s ws short (at_cell_name g) = cell_name_leads text n w fit placed s short g
  step_leads s ws short (at_action_end g) = action_end_leads text n w fit placed s short g
  step_leads s ws short (at_cell g) = cell_leads text n w fit placed s short g
  step_leads s ws short (at_cells g) = cells_leads text n w fit placed s short g
  step_leads s ws short (at_items g) = items_leads text n w fit placed s short g
  step_leads s ws short (at_item_word g) = item_word_leads text n w fit placed s short g w.keyword
  step_leads s ws short (at_columns c g) = columns_leads text n w fit placed s short g c (small_of w.kind) refl
  step_leads s ws short (at_crlf g) = crlf_leads text n w fit placed s short g
  step_leads s ws short (at_halt g) = halt_leads text n w fit placed s short g
  step_leads s ws short (at_count g) = count_leads s short g
  step_leads s ws short (at_strategy_name g) = strategy_name_leads s short g
  step_leads s ws short (at_tag_or_all g) = tag_or_all_leads s short g
  step_leads s ws short (at_tags u g) = tags_leads u s short g
  step_leads s ws short (at_shown g) = shown_leads s short g
  step_leads s ws short (at_named_rule u g) = named_rule_leads u s short g
  step_leads s ws short (at_named_rules u g) = named_rules_leads u s short g
  step_leads s ws short (at_level g) = level_leads s short g
  step_leads s ws short (at_undone g) = undone_leads s short g
  step_leads s ws short (at_cs g) = cs_leads s short g
  step_leads s ws short (at_exit g) = exit_leads s short g
  step_leads s ws short (at_command_end g) = command_end_leads s short g
