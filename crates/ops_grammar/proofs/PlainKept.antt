-- What is read keeps its spelling where one more part of it stands at the end.
use Rattle.std.proofs.Common.{◌≡◌, ℕ, suc, ◌+◌, ◌-◌, ◌<◌, ◌≤◌, nat_lt, Bool, true, false, true≢false, ◌&&◌, not, List, [], ◌∷◌, ◌++◌, length, refl, sym, ap, subst, ◌∙◌, arith, Option, Some, None, unwrap_or, append-nil, append_assoc, length-append}
use Rattle.std.specs.Prelude.{is_some}
use Rattle.std.specs.List.{list_all}
use Rattle.std.proofs.lemmas.Bool.{and_from, and_parts, or_left, or_right, cond-true, cond-false, eq-eqb, le-leb, lt-ltb, ltb-true}
use Rattle.std.proofs.lemmas.List.Elements.{All-get_or}
use Rattle.std.proofs.lemmas.Option.{unwrap_or-slice_get}
use Rattle.std.proofs.lemmas.List.{map-append, take-append-le, take_all}
use Rattle.ops_base.specs.declared.values.Sym.{Sym}
use Rattle.ops_base.specs.declared.values.Value.{Value}
use Rattle.ops_base.specs.declared.values.Pred.{Pred}
use Rattle.ops_base.specs.declared.values.Pred.TheVariants as pred
use Rattle.ops_base.specs.declared.elements.Class.{Class}
use Rattle.ops_base.specs.declared.conditions.Operand.{Operand}
use Rattle.ops_base.specs.declared.conditions.Operand.TheVariants as operand
use Rattle.ops_base.specs.declared.conditions.Test.{Test}
use Rattle.ops_base.specs.declared.actions.Term.{Term}
use Rattle.ops_base.specs.declared.actions.Term.TheVariants as term
use Rattle.ops_base.specs.declared.conditions.Condition.{Condition}
use Rattle.ops_base.specs.declared.conditions.Part.{Part}
use Rattle.ops_base.specs.declared.actions.Put.{Put}
use Rattle.ops_base.specs.declared.actions.Hole.{Hole}
use Rattle.ops_base.specs.declared.actions.Action.{Action}
use Rattle.ops_base.specs.declared.actions.Action.TheVariants as action
use Rattle.ops_base.specs.declared.commands.Command.{Command}
use Rattle.ops_base.specs.declared.commands.Command.TheVariants as command
use Rattle.ops_base.specs.Filling.{one, in_operand, in_test, in_condition, in_part, in_term, in_put, in_action, total}
use Rattle.ops_base.specs.Valid.{most_fields, most_conditions, no_class, class_of, is_vector, is_in, first_is_positive, cells_of, specificity, fixed_is_valid, elements_of}
use Rattle.ops_grammar.specs.declared.words.Named.{Named}
use Rattle.ops_grammar.specs.Grammar.{InPattern, InPut, InFixed, Use, Outer, State, number_of, precedes_classes, with_test, with_put, with_fixed, with_bound, with_bind, with_several, with_bound_element, classes_of_cells, put_action, with_element, with_cell, with_rule, left_ended, right_begun, is_beginning, precedes_rules, added_by, rules_with, commands_with, rule_of, build_begun, with_template}
use Rattle.ops_grammar.specs.Spelling.{Numbered, nothing_numbered, operand_is_plain, after_test, after_tests, after_conditions, InSight, at_arrow, after_action, term_is_plain, put_is_plain, action_is_plain, rule_is_plain_by, rule_is_plain, command_is_plain, after_members, is_add, builds_none, build_is_plain, template_is_plain, holes_are_plain, constants_of, template_of, templates_in, templates_by, are_next}
use Rattle.ops_grammar.proofs.Lists.{all_push}
use Rattle.ops_grammar.proofs.Added.{added_other}
use Rattle.ops_grammar.proofs.Numbering.{are_given, next_apart, after_conditions-given, after_actions-given}
use Rattle.ops_grammar.proofs.PlainClasses.{IsArranged}
use Rattle.ops_grammar.proofs.Plain.{numbers_in, numbered_in, made_is_class, in_sight, IsBase, IsRight, builds_of, sight_of, Counted, IsSet, built_around, built_so_far, left_count, LeftSet, right_count, RightSet, Base, Left, Right, Conditions, IsOfCell, IsElement, HasAttribute, IsVector, HasField, HasSeveral, after_tests-push, tests_push, after_actions-push, actions_push, number_sighted, some_cell, below_more, renumbered_below, cells_are, numbered_inside}
use Rattle.ops_grammar.proofs.PlainBuilt.{total-push, recounted, base_as, so_far_begun, right_pushed, right_done, get_last, build_more, actions_weaker, template_made, made_all}
use Rattle.ops_base.specs.declared.rules.Rule.{Rule}

pub command_kept : (s : State) (c : Command) → Base s → command_is_plain s.classes s.templates c ≡ true → not (is_add c) ≡ true → IsBase s.vectors s.classes s.rules s.templates (s.commands ++ c ∷ []) []
command_kept s c g plain other =
    let same = added_other s.commands c other in
    record {
      arranged = g.arranged;
      rules_plain = g.rules_plain;
      commands_plain = all_push (command_is_plain s.classes s.templates) s.commands c g.commands_plain plain;
      order = ap (λ (rs : List Rule). are_next 0 (templates_by (s.rules ++ rs) ++ [])) same ∙ g.order;
      size = ap (λ (rs : List Rule). length (templates_by (s.rules ++ rs) ++ [])) same ∙ g.size;
    }

-- A command before declarations looks at no class.
command_still : (classes more : List Class) (templates : List Rule) (c : Command) → precedes_classes c ≡ true → command_is_plain classes templates c ≡ true → command_is_plain more templates c ≡ true
command_still classes more templates (command.Make class puts) before plain = absurd (true≢false (sym before))
command_still classes more templates (command.Run count) before plain = absurd (true≢false (sym before))
command_still classes more templates (command.Ppwm pattern) before plain = absurd (true≢false (sym before))
command_still classes more templates (command.Remove tags) before plain = plain
command_still classes more templates (command.Wm tags) before plain = plain
command_still classes more templates (command.Pm names) before plain = plain
command_still classes more templates (command.Watch None) before plain = refl
command_still classes more templates (command.Watch (Some n)) before plain = plain
command_still classes more templates command.RemoveAll before plain = refl
command_still classes more templates command.Cs before plain = refl
command_still classes more templates (command.Strategy set) before plain = refl
command_still classes more templates (command.Pbreak names) before plain = refl
command_still classes more templates command.Exit before plain = refl
command_still classes more templates (command.Add r) before plain = absurd (true≢false (sym before))
command_still classes more templates (command.Excise names) before plain = plain
command_still classes more templates (command.Back count) before plain = plain
command_still classes more templates (command.Matches names) before plain = plain

pub commands_still : (classes more : List Class) (templates : List Rule) (cs : List Command) → list_all precedes_classes cs ≡ true → list_all (command_is_plain classes templates) cs ≡ true → list_all (command_is_plain more templates) cs ≡ true
commands_still classes more templates [] before plain = refl
commands_still classes more templates (c ∷ cs) before plain =
    let b = and_parts (precedes_classes c) (list_all precedes_classes cs) before in
    let p = and_parts (command_is_plain classes templates c) (list_all (command_is_plain classes templates) cs) plain in
    and_from _ _ (command_still classes more templates c b.0 p.0) (commands_still classes more templates cs b.1 p.1)

-- ---- left sides

-- one more test, after which so many constants were read
tests_set : (s : State) (t : Test) (c : ℕ) (hs : List Hole) (n : ℕ) → LeftSet n s → Counted s.outer hs c (left_count s + in_test t)
    → IsSet s.vectors s.classes s.rules s.templates s.commands (built_around s.outer) s.outer hs c (total in_part s.conditions + total in_condition s.members + total in_test (s.tests ++ t ∷ []) + 0)
tests_set s t c hs n g h =
    let more = total-push in_test s.tests t in
    record { base = g.base; outside = g.outside; counts = recounted s.outer hs c _ _ (omega (arith, more)) h }

pub test_kept : (s : State) (c : ℕ) (hs : List Hole) (n : ℕ) (f : ℕ) (p : Pred) (o : Operand) → IsElement InPattern n s → HasField s f → operand_is_plain (numbered_in s.values s.variables) p false o ≡ true → Counted s.outer hs c (left_count s + in_operand o)
    → IsElement InPattern 0 (record (with_test s f p o false) { counted = c; holes = hs })
test_kept s c hs n f p o g a plain h =
    let left = g.around.1 in
    let t : Test = record { field = f; pred = p; operand = o; binds = false } in
    record {
      around = (
        tests_set s t c hs n g.around.0 h,
        record { plain = left.plain; inside = left.inside; alone = left.alone; count = after_tests-push s.tests (numbered_inside s) t ∙ left.count; within = left.within; sight = left.sight; cells = left.cells },
        g.around.2,
        g.around.3,
        g.around.4,
      );
      class = g.class;
      fields = tests_push (class_of s.classes s.class) s.tests (numbered_inside s) t g.fields
          (and_from _ _ a (subst (λ (k : Numbered). operand_is_plain k p false o ≡ true) (sym left.count) plain));
    }

bound_counted : (s : State) (f : ℕ) (name : Sym) → Left s → after_tests (numbered_inside s) (s.tests ++ record { field = f; pred = pred.Eq; operand = operand.Variable s.variables; binds = true } ∷ []) ≡ numbered_in (s.values ++ record { name = name; number = s.variables } ∷ []) (s.variables + 1)
bound_counted s f name left =
    let t : Test = record { field = f; pred = pred.Eq; operand = operand.Variable s.variables; binds = true } in
    let v : Named = record { name = name; number = s.variables } in
    let next : suc s.variables ≡ s.variables + 1 = omega arith in
    after_tests-push s.tests (numbered_inside s) t
    ∙ ap (λ (k : Numbered). after_test k t) left.count
    ∙ ap (λ (ns : List ℕ). let k : Numbered = record { sight = ns; given = suc s.variables } in k) (sym (map-append (λ (v : Named). v.number) s.values (v ∷ [])))
    ∙ ap (numbered_in (s.values ++ v ∷ [])) next

pub test_bound : (s : State) (f : ℕ) (name : Sym) → IsElement InPattern 0 s → HasField s f → IsElement InPattern 0 (with_bound s f name)
test_bound s f name g a =
    let left = g.around.1 in
    let t : Test = record { field = f; pred = pred.Eq; operand = operand.Variable s.variables; binds = true } in
    let v : Named = record { name = name; number = s.variables } in
    let more = length-append s.values (v ∷ []) in
    record {
      around = (
        tests_set s t s.counted s.holes 0 g.around.0 (recounted s.outer s.holes s.counted (left_count s + 0) (left_count s + in_test t) refl g.around.0.counts),
        record {
          plain = left.plain;
          inside = left.inside;
          alone = left.alone;
          count = bound_counted s f name left;
          within = λ is. let le = left.within is in omega (arith, more, le);
          sight = λ is. ap numbers_in (take-append-le s.around s.values (v ∷ []) (left.within is)) ∙ left.sight is;
          cells = left.cells;
        },
        g.around.2,
        g.around.3,
        g.around.4,
      );
      class = g.class;
      fields = tests_push (class_of s.classes s.class) s.tests (numbered_inside s) t g.fields
          (and_from _ _ a (eq-eqb s.variables _ (sym (ap (λ (k : Numbered). k.given) left.count))));
    }

-- The constants of a disjunction that is being read do not matter.
pub choosing : (s : State) (n : ℕ) (vs : List Value) → IsElement InPattern n s → IsElement InPattern n (record s { choice = vs })
choosing s n vs g = record { around = g.around; class = g.class; fields = g.fields }

-- one more of them
pub choice_pushed : (s : State) (c : ℕ) (hs : List Hole) (v : Value) → IsElement InPattern (total one s.choice) s → Counted s.outer hs c (left_count s + total one s.choice + 1)
    → IsElement InPattern (total one (s.choice ++ v ∷ [])) (record s { choice = s.choice ++ v ∷ []; counted = c; holes = hs })
choice_pushed s c hs v g h =
    let more = total-push one s.choice v in
    let set = g.around.0 in
    record {
      around = (record { base = set.base; outside = set.outside; counts = recounted s.outer hs c _ _ (omega (arith, more)) h }, g.around.1, g.around.2, g.around.3, g.around.4);
      class = g.class;
      fields = g.fields;
    }

-- ---- values

-- a value that may stand alone may stand among others
alone : (classes : List Class) (k : InSight) (several : Bool) (x : Term) → term_is_plain classes k false x ≡ true → term_is_plain classes k several x ≡ true
alone classes k several (term.Constant v) plain = refl
alone classes k several (term.Variable n) plain = plain
alone classes k several (term.One cell field) plain = plain
alone classes k several (term.Rest cell) plain = absurd (true≢false (sym plain))
alone classes k several (term.Compute f) plain = plain
alone classes k several term.Fresh plain = refl
alone classes k several term.Accept plain = refl

-- one more attribute with values
puts_set : (s : State) (p : Put) (c : ℕ) (hs : List Hole) (n : ℕ) → RightSet n s → Counted s.outer hs c (right_count s + (total in_put s.puts + in_put p))
    → IsSet s.vectors s.classes s.rules s.templates s.commands (built_so_far s.outer s.actions) s.outer hs c (right_count s + (total in_put (s.puts ++ p ∷ []) + 0))
puts_set s p c hs n g h =
    let more = total-push in_put s.puts p in
    record { base = g.base; outside = g.outside; counts = recounted s.outer hs c _ _ (omega (arith, more)) h }

pub put_kept : (s : State) (c : ℕ) (hs : List Hole) (f : ℕ) (t : Term) → IsElement InPut 0 s → HasAttribute s f → term_is_plain s.classes (in_sight s) false t ≡ true → Counted s.outer hs c (right_count s + (total in_put s.puts + 0) + in_term t)
    → IsElement InPut 0 (record (with_put s f t) { counted = c; holes = hs })
put_kept s c hs f t g a plain h =
    let d = class_of s.classes s.class in
    let p : Put = record { field = f; terms = t ∷ [] } in
    let same : right_count s + (total in_put s.puts + 0) + in_term t ≡ right_count s + (total in_put s.puts + (in_term t + 0)) = omega arith in
    record {
      around = (puts_set s p c hs (total in_put s.puts + 0) g.around.0 (recounted s.outer hs c _ _ same h), g.around.1);
      class = g.class;
      fields = (
        all_push (put_is_plain s.classes (in_sight s) d) s.puts p g.fields.0
            (and_from _ _ (and_from _ _ a (or_right _ _ refl)) (and_from _ _ (alone s.classes (in_sight s) (is_vector d f) t plain) refl)),
        g.fields.1,
      );
    }

pub fixed_kept : (s : State) (f : ℕ) (v : Value) → IsElement InFixed 0 s → HasAttribute s f → IsVector s f false → IsElement InFixed 0 (with_fixed s f v)
fixed_kept s f v g a scalar =
    record {
      around = g.around;
      class = g.class;
      fields = all_push (fixed_is_valid (class_of s.classes s.class)) s.fixed (record { field = f; values = v ∷ [] }) g.fields (and_from _ _ a (cond-false (is_vector (class_of s.classes s.class) f) _ _ scalar));
    }

-- The values of a vector attribute that are being read do not matter.
pub valuing : (u : Use) (n : ℕ) (s : State) (ts : List Term) (vs : List Value) → IsElement u n s → IsElement u n (record s { terms = ts; constants = vs })
valuing InPattern n s ts vs g = record { around = g.around; class = g.class; fields = g.fields }
valuing InPut n s ts vs g = record { around = g.around; class = g.class; fields = g.fields }
valuing InFixed n s ts vs g = record { around = g.around; class = g.class; fields = g.fields }

-- the class of an element has no more attributes than an element has fields
few_attributes : (s : State) → Base s → s.class < length s.classes → length (class_of s.classes s.class).attrs ≤ most_fields
few_attributes s g lt =
    subst (λ (c : Class). length c.attrs ≤ most_fields) (sym (unwrap_or-slice_get s.classes s.class no_class)) (All-get_or (IsArranged s.vectors) s.classes s.class no_class lt g.arranged).few

-- the vector attribute, before its values
pub several_begun : (u : Use) (s : State) (f : ℕ) → IsElement u 0 s → HasAttribute s f → IsVector s f true → HasSeveral u f (record s { terms = []; constants = [] })
several_begun InPattern s f g a v = (valuing InPattern 0 s [] [] g, (and_parts (class_of s.classes s.class).vector _ v).0)
several_begun InPut s f g a v = (valuing InPut 0 s [] [] g, a, v, refl)
several_begun InFixed s f g a v =
    let few = few_attributes s g.around g.class in
    let lt : f < length (class_of s.classes s.class).attrs = ltb-true _ _ a in (valuing InFixed 0 s [] [] g, a, v, omega (arith, few, lt))

-- its values end
pub several_kept : (u : Use) (s : State) (f : ℕ) → HasSeveral u f s → IsElement u 0 (with_several u f s)
several_kept InPattern s f g = g.0
several_kept InPut s f g =
    record {
      around = (puts_set s (record { field = f; terms = s.terms }) s.counted s.holes (total in_put s.puts + total in_term s.terms) g.0.around.0 g.0.around.0.counts, g.0.around.1);
      class = g.0.class;
      fields = (
        all_push (put_is_plain s.classes (in_sight s) (class_of s.classes s.class)) s.puts (record { field = f; terms = s.terms }) g.0.fields.0
            (and_from _ _ (and_from _ _ g.1 (or_left _ _ g.2)) (ap (λ (b : Bool). list_all (term_is_plain s.classes (in_sight s) b) s.terms) g.2 ∙ g.3)),
        g.0.fields.1,
      );
    }
several_kept InFixed s f g =
    record {
      around = g.0.around;
      class = g.0.class;
      fields = all_push (fixed_is_valid (class_of s.classes s.class)) s.fixed (record { field = f; values = s.constants }) g.0.fields
          (and_from _ _ g.1 (cond-true (is_vector (class_of s.classes s.class) f) _ _ g.2 ∙ le-leb _ _ g.3));
    }

-- a value more
pub term_pushed : (s : State) (c : ℕ) (hs : List Hole) (f : ℕ) (t : Term) → HasSeveral InPut f s → term_is_plain s.classes (in_sight s) true t ≡ true → Counted s.outer hs c (right_count s + (total in_put s.puts + total in_term s.terms) + in_term t)
    → HasSeveral InPut f (record s { terms = s.terms ++ t ∷ []; counted = c; holes = hs })
term_pushed s c hs f t g plain h =
    let more = total-push in_term s.terms t in
    let set = g.0.around.0 in (
      record {
        around = (record { base = set.base; outside = set.outside; counts = recounted s.outer hs c _ _ (omega (arith, more)) h }, g.0.around.1);
        class = g.0.class;
        fields = g.0.fields;
      },
      g.1,
      g.2,
      all_push (term_is_plain s.classes (in_sight s) true) s.terms t g.3 plain,
    )

pub constant_pushed : (s : State) (f : ℕ) (v : Value) → HasSeveral InFixed f s → f + length s.constants < most_fields → HasSeveral InFixed f (record s { constants = s.constants ++ v ∷ [] })
constant_pushed s f v g room =
    let more = length-append s.constants (v ∷ []) in (valuing InFixed 0 s s.terms (s.constants ++ v ∷ []) g.0, g.1, g.2, omega (arith, more, room))

-- ---- productions

-- what is in sight where no test of a condition was read
pub counted_before : (s : State) → Left s → s.tests ≡ [] → s.grouped ≡ false → after_conditions nothing_numbered s.conditions ≡ numbered_in s.values s.variables
counted_before s left none e =
    ap (λ (ms : List Condition). after_members (after_conditions nothing_numbered s.conditions) ms) (sym (left.alone e))
    ∙ subst (λ (ts : List Test). after_tests (numbered_inside s) ts ≡ numbered_in s.values s.variables) none left.count

-- Nothing but what the conditions leave is in sight at the arrow.
pub right_kept : (s : State) → Left s → s.tests ≡ [] → first_is_positive s.conditions ≡ true → length (elements_of s.conditions) ≤ most_conditions → s.grouped ≡ false → Right (right_begun (left_ended s))
right_kept s left none positive few e =
    let cells = cells_of s.conditions in
    let whole : cells ≡ cells ++ [] = sym (append-nil cells) in
    let from : Numbered → List ℕ → InSight = λ k xs. record { built = is_some s.outer; variables = k; cells = xs; made = None } in
    record {
      positive = positive;
      few = few;
      left = left.plain;
      plain = refl;
      sight = ap (λ (k : Numbered). from k cells) (counted_before s left none e) ∙ ap (from (numbered_in s.values s.variables)) whole;
      named = subst (λ (xs : List ℕ). list_all (λ e. nat_lt e.number (length xs)) s.elements ≡ true) whole left.cells;
      cells = subst (λ (xs : List ℕ). list_all (λ c. nat_lt c (length s.classes)) xs ≡ true) whole (cells_are s.classes s.conditions nothing_numbered left.plain);
      made = refl;
    }

-- the variables in sight before a negated condition are those around it
pub negated_begun : (s : State) → Left s → s.tests ≡ [] → s.grouped ≡ false → Left (record s { negated = true; around = length s.values })
negated_begun s left none e =
    record {
      plain = left.plain;
      inside = left.inside;
      alone = left.alone;
      count = left.count;
      within = λ _. omega arith;
      sight = λ _. ap numbers_in (take_all (length s.values) s.values (omega arith)) ∙ sym (ap (λ (k : Numbered). k.sight) (counted_before s left none e));
      cells = left.cells;
    }

-- so many constants were read of the left side, and of the production
pub right_set : (s : State) → LeftSet 0 s → Left s → s.tests ≡ [] → s.grouped ≡ false → RightSet 0 (right_begun (left_ended s))
right_set s g left none e =
    let members = ap (λ (ms : List Condition). total in_condition ms) (left.alone e) in
    let tests = ap (λ (ts : List Test). total in_test ts) none in
    record {
      base = base_as s.vectors s.classes s.rules s.templates s.commands (built_around s.outer) (built_so_far s.outer []) (so_far_begun s.outer) g.base;
      outside = g.outside;
      counts = recounted s.outer s.holes s.counted _ _ (omega (arith, members, tests)) g.counts;
    }

-- what is in sight in a production that stands there
abbrev sight_in : State → Option Outer → InSight
sight_in s o = record { built = is_some o; variables = numbered_in s.values s.variables; cells = classes_of_cells s; made = s.made }

rule_plain : (builds : InSight → ℕ → List Hole → Bool) (s : State) (past : ℕ) (o : Option Outer) → IsRight builds (is_some o) s.classes s.conditions (sight_in s o) s.elements s.actions → rule_is_plain_by builds (is_some o) s.classes (rule_of s past) ≡ true
rule_plain builds s past o g =
    and_from _ _ (and_from _ _ (and_from _ _ (and_from _ _ (and_from _ _ (and_from _ _ g.positive (le-leb _ _ g.few)) g.left) g.plain)
    (eq-eqb s.variables _ (sym (ap (λ (k : InSight). k.variables.given) g.sight)))) (eq-eqb (specificity s.conditions) (specificity s.conditions) refl))
    (eq-eqb (length (classes_of_cells s)) _ (sym (ap (λ (k : InSight). length k.cells) g.sight)))

-- by where it stands
right_at : (s : State) (o : Option Outer) → s.outer ≡ o → Right s → IsRight (builds_of s.classes s.templates o) (is_some o) s.classes s.conditions (sight_in s o) s.elements s.actions
right_at s o e g = subst (λ (x : Option Outer). IsRight (builds_of s.classes s.templates x) (is_some x) s.classes s.conditions (sight_in s x) s.elements s.actions) e g

set_at : (s : State) (o : Option Outer) (n : ℕ) → s.outer ≡ o → RightSet n s → IsSet s.vectors s.classes s.rules s.templates s.commands (built_so_far o s.actions) o s.holes s.counted (right_count s + n)
set_at s o n e g = subst (λ (x : Option Outer). IsSet s.vectors s.classes s.rules s.templates s.commands (built_so_far x s.actions) x s.holes s.counted (right_count s + n)) e g

-- a production more, of the beginning or added
production_kept : (vectors : List Sym) (classes : List Class) (rules templates : List Rule) (commands : List Command) (r : Rule) → IsBase vectors classes rules templates commands (templates_in r.actions) → rule_is_plain classes templates r ≡ true → (b : Bool)
    → list_all precedes_rules commands ≡ b → IsBase vectors classes (rules_with b rules r) templates (commands_with b commands r) []
production_kept vectors classes rules templates commands r h plain b e =
    let all = append-nil (templates_by (rules_with b rules r ++ added_by (commands_with b commands r))) ∙ made_all rules commands r b e in
    record {
      arranged = h.arranged;
      rules_plain = by_rules b;
      commands_plain = by_commands b;
      order = ap (are_next 0) all ∙ h.order;
      size = ap (λ (ns : List ℕ). length ns) all ∙ h.size;
    }
  where
    by_rules : (b : Bool) → list_all (rule_is_plain classes templates) (rules_with b rules r) ≡ true
    by_rules true = all_push (rule_is_plain classes templates) rules r h.rules_plain plain
    by_rules false = h.rules_plain

    by_commands : (b : Bool) → list_all (command_is_plain classes templates) (commands_with b commands r) ≡ true
    by_commands true = h.commands_plain
    by_commands false = all_push (command_is_plain classes templates) commands (command.Add r) h.commands_plain plain

pub rule_kept : (s : State) (past : ℕ) → s.outer ≡ None → RightSet 0 s → Right s → Base (with_rule s past)
rule_kept s past alone set g =
    production_kept s.vectors s.classes s.rules s.templates s.commands (rule_of s past) (set_at s None 0 alone set).base (rule_plain (build_is_plain s.classes s.templates) s past None (right_at s None alone g)) (is_beginning s) refl

-- ---- element variables

-- the last condition has the last cell
pub element_bound : (s : State) → Conditions s → Conditions (with_bound_element s)
element_bound s g =
    let some = some_cell s.conditions g.3 in
    let left = g.1 in (
      g.0,
      record {
        plain = left.plain;
        inside = left.inside;
        alone = left.alone;
        count = left.count;
        within = left.within;
        sight = left.sight;
        cells = all_push (λ e. nat_lt e.number (length (cells_of s.conditions))) s.elements (record { name = s.element; number = length (cells_of s.conditions) - 1 }) left.cells (lt-ltb _ _ (omega (arith, some)));
      },
      g.2,
      g.3,
      g.4,
      g.5,
      g.6,
    )

-- ---- right sides

-- an action more, after which so much is in sight
module _ (builds : InSight → ℕ → List Hole → Bool) (built : Bool) (classes : List Class) (conditions : List Part) (k to : InSight) (elements named : List Named) (actions : List Action) (a : Action) where
  action_more : IsRight builds built classes conditions k elements actions → action_is_plain builds classes k a ≡ true → after_action k a ≡ to → list_all (λ e. nat_lt e.number (length to.cells)) named ≡ true → list_all (λ c. nat_lt c (length classes)) to.cells ≡ true
      → made_is_class classes to.made ≡ true → IsRight builds built classes conditions to named (actions ++ a ∷ [])
  action_more g plain leads below cells made =
      record {
        positive = g.positive;
        few = g.few;
        left = g.left;
        plain = actions_push builds classes actions (at_arrow built conditions) a g.plain (subst (λ (m : InSight). action_is_plain builds classes m a ≡ true) (sym g.sight) plain);
        sight = after_actions-push actions (at_arrow built conditions) a ∙ ap (λ (m : InSight). after_action m a) g.sight ∙ leads;
        named = below;
        cells = cells;
        made = made;
      }

-- how a `build` is plain in the production that is read
abbrev builds_in : State → (InSight → ℕ → List Hole → Bool)
builds_in s = builds_of s.classes s.templates s.outer

-- what holds of its right side, where so much is in sight
abbrev RightBy : State → InSight → List Named → List Action → Type 0
RightBy s k elements actions = IsRight (builds_in s) (is_some s.outer) s.classes s.conditions k elements actions

-- one that leaves what is in sight
pub action_kept : (s : State) (a : Action) → Right s → action_is_plain (builds_in s) s.classes (in_sight s) a ≡ true → after_action (in_sight s) a ≡ in_sight s → RightBy s (in_sight s) s.elements (s.actions ++ a ∷ [])
action_kept s a g plain stays = action_more (builds_in s) (is_some s.outer) s.classes s.conditions (in_sight s) (in_sight s) s.elements s.elements s.actions a g plain stays g.named g.cells g.made

-- a `make`, or a `modify` of a cell
element_made : (m : Option ℕ) (s : State) → Right s → s.class < length s.classes → list_all (put_is_plain s.classes (in_sight s) (class_of s.classes s.class)) s.puts ≡ true → IsOfCell m (in_sight s) s.class
    → RightBy s (record (in_sight s) { made = Some s.class }) s.elements (s.actions ++ put_action m s.class s.puts ∷ [])
element_made None s g lt plain of_cell =
    action_more (builds_in s) (is_some s.outer) s.classes s.conditions (in_sight s) (record (in_sight s) { made = Some s.class }) s.elements s.elements s.actions (action.Make s.class s.puts) g (and_from _ _ (lt-ltb _ _ lt) plain) refl g.named g.cells (lt-ltb _ _ lt)
element_made (Some cell) s g lt plain of_cell =
    let k = in_sight s in
    let puts_plain : action_is_plain (builds_in s) s.classes k (action.Modify cell s.puts) ≡ true =
    subst (λ (c : ℕ). (nat_lt cell (length k.cells) && nat_lt c (length s.classes) && list_all (put_is_plain s.classes k (class_of s.classes c)) s.puts) ≡ true) of_cell.1
    (and_from _ _ (and_from _ _ (lt-ltb _ _ of_cell.0) (lt-ltb _ _ lt)) plain) in
    action_more (builds_in s) (is_some s.outer) s.classes s.conditions k (record k { made = Some s.class }) s.elements s.elements s.actions (action.Modify cell s.puts) g puts_plain
    (ap (λ (c : ℕ). let m : InSight = record k { made = Some c } in m) (sym of_cell.1)) g.named g.cells (lt-ltb _ _ lt)

put_builds : (m : Option ℕ) (class : ℕ) (puts : List Put) → (template_of (put_action m class puts) ≡ []) × (in_action (put_action m class puts) ≡ total in_put puts)
put_builds None class puts = (refl, refl)
put_builds (Some cell) class puts = (refl, refl)

pub element_kept : (s : State) → IsElement InPut 0 s → RightSet 0 (with_element InPut s) × Right (with_element InPut s)
element_kept s g =
    let is = put_builds s.modified s.class s.puts in
    let more : in_action (put_action s.modified s.class s.puts) ≡ total in_put s.puts + 0 = omega (arith, is.1) in
    (right_done s (put_action s.modified s.class s.puts) (total in_put s.puts + 0) is.0 more g.around.0, element_made s.modified s g.around.1 g.class g.fields.0 g.fields.1)

-- a variable that is bound here has a number that was not given
next_new : (s : State) → Right s → is_in s.variables (numbers_in s.values) ≡ false
next_new s g =
    next_apart (numbered_in s.values s.variables)
    (subst (λ (k : InSight). are_given k.variables ≡ true) g.sight (after_actions-given s.actions (at_arrow (is_some s.outer) s.conditions) (after_conditions-given s.conditions nothing_numbered refl)))

-- where so many constants were read and these are the holes
abbrev pub read_at : ℕ → List Hole → State → State
read_at c hs s = record s { counted = c; holes = hs }

pub bind_kept : (s : State) (c : ℕ) (hs : List Hole) (t : Term) (o : Option ℕ) → number_of s.variable s.values ≡ o → RightSet 0 s × Right s → term_is_plain s.classes (in_sight s) false t ≡ true → Counted s.outer hs c (right_count s + 0 + in_term t)
    → RightSet 0 (with_bind o (read_at c hs s) t) × Right (with_bind o (read_at c hs s) t)
bind_kept s c hs t (Some n) e g plain h =
    let there = number_sighted s.variable s.values n e in
    let same : right_count s + 0 + in_term t ≡ right_count s + in_term t + 0 = omega arith in (
      right_pushed s (action.Bind n t) c hs 0 0 refl g.0 (recounted s.outer hs c _ _ same h),
      action_kept s (action.Bind n t) g.1 (and_from _ _ (or_left _ _ there) plain) (cond-true (is_in n (numbers_in s.values)) _ _ there),
    )
bind_kept s c hs t None e g plain h =
    let k = in_sight s in
    let n = s.variables in
    let v : Named = record { name = s.variable; number = n } in
    let next : suc n ≡ n + 1 = omega arith in
    let same : right_count s + 0 + in_term t ≡ right_count s + in_term t + 0 = omega arith in
    let to : List ℕ → ℕ → InSight = λ ns m. record k { variables = record { sight = ns; given = m } } in (
      right_pushed s (action.Bind n t) c hs 0 0 refl g.0 (recounted s.outer hs c _ _ same h),
      action_more (builds_in s) (is_some s.outer) s.classes s.conditions k (in_sight (with_bind None s t)) s.elements s.elements s.actions (action.Bind n t) g.1 (and_from _ _ (or_right _ _ (eq-eqb n n refl)) plain)
          (cond-false (is_in n (numbers_in s.values)) _ _ (next_new s g.1)
          ∙ ap (λ (ns : List ℕ). to ns (suc n)) (sym (map-append (λ (v : Named). v.number) s.values (v ∷ [])))
          ∙ ap (λ (m : ℕ). to (numbers_in (s.values ++ v ∷ [])) m) next) g.1.named g.1.cells g.1.made,
    )

pub cell_kept : (s : State) (class : ℕ) (name : Sym) → s.made ≡ Some class → RightSet 0 s → Right s → RightSet 0 (with_cell s class name) × Right (with_cell s class name)
cell_kept s class name e set g =
    let k = in_sight s in
    let n = length k.cells in
    let all : k.cells ++ class ∷ [] ≡ cells_of s.conditions ++ (s.further ++ class ∷ []) = append_assoc (cells_of s.conditions) s.further (class ∷ []) in
    let more : length (k.cells ++ class ∷ []) ≡ suc n = omega (arith, length-append k.cells (class ∷ [])) in
    let count : length (cells_of s.conditions ++ (s.further ++ class ∷ [])) ≡ suc n = ap (λ (xs : List ℕ). length xs) (sym all) ∙ more in
    let to : List ℕ → InSight = λ xs. record k { cells = xs } in (
      right_done s (action.Cbind n) 0 refl refl set,
      action_more (builds_in s) (is_some s.outer) s.classes s.conditions k (in_sight (with_cell s class name)) s.elements (with_cell s class name).elements s.actions (action.Cbind n) g (and_from _ _ (ap is_some e) (eq-eqb n n refl))
          (ap (λ (made : Option ℕ). to (k.cells ++ unwrap_or made 0 ∷ [])) e ∙ ap to all)
          (renumbered_below name n _ s.elements (lt-ltb _ _ (omega (arith, count))) (below_more s.elements n _ (omega (arith, count)) g.named))
          (subst (λ (xs : List ℕ). list_all (λ c. nat_lt c (length s.classes)) xs ≡ true) all (all_push (λ c. nat_lt c (length s.classes)) k.cells class g.cells (ap (made_is_class s.classes) (sym e) ∙ g.made)))
          g.made,
    )

-- ---- build

-- a production that is built begins
pub build_begins : (s : State) → s.outer ≡ None → RightSet 0 s → Right s → LeftSet 0 (build_begun s) × Left (build_begun s)
build_begins s alone set g = (
  record { base = (set_at s None 0 alone set).base; outside = right_at s None alone g; counts = (refl, refl) },
  record { plain = refl; inside = refl; alone = λ _. refl; count = refl; within = λ is. absurd (true≢false (sym is)); sight = λ is. absurd (true≢false (sym is)); cells = refl },
)

-- and ends: it is a template more, from which the production around builds
pub build_ends : (s : State) (past : ℕ) (o : Outer) → s.outer ≡ Some o → RightSet 0 s → Right s → RightSet 0 (with_template o s (rule_of s past)) × Right (with_template o s (rule_of s past))
build_ends s past o inside set g =
    let r = rule_of s past in
    let now = set_at s (Some o) 0 inside set in
    let plain = rule_plain builds_none s past (Some o) (right_at s (Some o) inside g) in
    let more = s.templates ++ r ∷ [] in
    let k = sight_of o in
    let n = length s.templates in
    let right = now.outside in
    let few : s.counted ≡ right_count s = let e = now.counts.0 in omega (arith, e) in
    let held : holes_are_plain (numbers_in o.values) 0 (constants_of r) s.holes ≡ true = subst (λ (c : ℕ). holes_are_plain (numbers_in o.values) 0 c s.holes ≡ true) few now.counts.1 in
    let builds : build_is_plain s.classes more k n s.holes ≡ true = ap (template_is_plain s.classes (numbers_in o.values) s.holes) (get_last s.templates r) ∙ and_from _ _ plain held in
    let wider : IsRight (build_is_plain s.classes more) false s.classes o.conditions k o.elements o.actions = record {
      positive = right.positive;
      few = right.few;
      left = right.left;
      plain = actions_weaker s.classes (build_is_plain s.classes s.templates) (build_is_plain s.classes more) (build_more s.classes s.templates r) o.actions (at_arrow false o.conditions) right.plain;
      sight = right.sight;
      named = right.named;
      cells = right.cells;
      made = right.made;
    } in (
      record { base = template_made s.vectors s.classes s.rules s.templates s.commands o.actions r s.holes now.base; outside = tt; counts = tt },
      action_more (build_is_plain s.classes more) false s.classes o.conditions k k o.elements o.elements o.actions (action.Build n s.holes) wider builds refl right.named right.cells right.made,
    )
