-- What was read stays valid where one more part of it stands at the end.
use Rattle.std.proofs.Common.{◌≡◌, ℕ, ◌+◌, ◌-◌, ◌<◌, ◌≤◌, zero, suc, Bool, true, false, not, ◌&&◌, ◌||◌, ◌==◌, cond, List, [], ◌∷◌, ◌++◌, length, map, refl, sym, ap, subst, ◌∙◌, arith, Option, Some, None, nat_lt, nat_le, take, unwrap_or, true≢false, length-append, append-nil, append_assoc, is_some}
use Rattle.std.specs.List.{list_all, list_any}
use Rattle.std.proofs.lemmas.Bool.{and_parts, and_from, or_left, or_right, cond_both, cond-true, eq-eqb, eqb-true, ltb-true, lt-ltb, leb-true, le-leb}
use Rattle.std.proofs.lemmas.List.{map-append, take-append-le, take_all}
use Rattle.std.proofs.lemmas.List.Folds.{list_any-append, list_all-append}
use Rattle.std.proofs.lemmas.Option.{slice_get-get_or}
use Rattle.ops_base.specs.declared.values.Sym.{Sym}
use Rattle.ops_base.specs.declared.values.Value.{Value}
use Rattle.ops_base.specs.declared.values.Pred.{Pred}
use Rattle.ops_base.specs.declared.values.Pred.TheVariants as pred
use Rattle.ops_base.specs.declared.elements.Class.{Class}
use Rattle.ops_base.specs.declared.conditions.Operand.{Operand}
use Rattle.ops_base.specs.declared.conditions.Operand.TheVariants as operand
use Rattle.ops_base.specs.declared.conditions.Test.{Test}
use Rattle.ops_base.specs.declared.conditions.Condition.{Condition}
use Rattle.ops_base.specs.declared.conditions.Part.{Part}
use Rattle.ops_base.specs.declared.conditions.Part.TheVariants.{One, Group}
use Rattle.ops_base.specs.declared.actions.Term.{Term}
use Rattle.ops_base.specs.declared.actions.Term.TheVariants as term
use Rattle.ops_base.specs.declared.actions.Put.{Put}
use Rattle.ops_base.specs.declared.actions.Action.{Action}
use Rattle.ops_base.specs.declared.actions.Hole.{Hole}
use Rattle.ops_base.specs.declared.actions.Action.TheVariants as action
use Rattle.ops_base.specs.declared.rules.Rule.{Rule}
use Rattle.ops_base.specs.declared.commands.Command.{Command}
use Rattle.ops_base.specs.declared.commands.Command.TheVariants as command
use Rattle.ops_base.specs.Valid.{longest_list, most_fields, most_conditions, fits, is_in, are_distinct, no_class, class_of, class_is_valid, is_attribute, is_vector, is_field, Sight, operand_is_valid, tests_are_valid, sight_after_tests, nothing_in_sight, cells_of, is_cell, specificity, known_of, Known, known_after, term_is_valid, put_is_valid, action_is_valid, fixed_is_valid, elements_of, builds_from, command_is_valid, template_is_valid, rule_is_valid, rule_builds_from, command_builds_from, is_build}
use Rattle.ops_grammar.specs.declared.words.Named.{Named}
use Rattle.ops_grammar.specs.Grammar.{is_one_of, number_of, renumbered, precedes_classes, arranged, has_vector, with_vector_last, put_action, precedes_rules, rules_with, commands_with, Outer, values_around}
use Rattle.ops_grammar.proofs.Lists.{all_push, all_none, all_weaker, all_at, all_in, any_some, named_apart, cond_alike, length-parted, parted_distinct}
use Rattle.ops_grammar.proofs.Parts.{tests_push, sight_push, conditions_push, sight_conditions_push, actions_push, known_push, first_push, some_cell, cells_push, elements_push, members_push, sight_members_push, first_push_group, elements_push_group}
use Rattle.ops_grammar.proofs.Sound.{IsProgram, IsDeclaring, IsClass, numbers, Variables, seen, all_below, IsHead, known, Side, Knows, IsBody, IsNamed, IsOuter, Stands, allowed, side_in, inside, command_is_sound, rule_is_sound, other_is_sound, IsNew}
use Rattle.ops_grammar.specs.Spelling.{is_add}
use Rattle.ops_grammar.proofs.Added.{other_builds, late_other, late_rule, titles_front, titles_behind, titles_other}

pub fits_below : {X : Type 0} (xs : List X) (n : ℕ) → length xs ≤ n → n ≤ longest_list → fits xs ≡ true
fits_below xs n short le = le-leb (length xs) longest_list (omega arith)

-- ---- classes

pub class_begun : (classes : List Class) (name : Sym) → list_any (λ c. c.name.0 == name.0) classes ≡ false → IsClass classes name []
class_begun classes name e = record { is_new = e; few = omega arith; distinct = refl }

pub attribute_added : (classes : List Class) (name : Sym) (attrs : List Sym) (a : Sym) → IsClass classes name attrs → list_any (λ b. b.0 == a.0) attrs ≡ false → length attrs < most_fields → IsClass classes name (attrs ++ a ∷ [])
attribute_added classes name attrs a h e lt =
    record { is_new = h.is_new; few = omega (arith, length-append attrs (a ∷ [])); distinct = named_apart (λ b. b.0) attrs a h.distinct e }

some_attribute : (b : Bool) (count : ℕ) → (b ≡ true → 0 < count) → (not b || nat_lt 0 count) ≡ true
some_attribute true count h = lt-ltb 0 count (h refl)
some_attribute false count h = refl

-- a class whose attributes of some names are put after the others
class_arranged : (vectors attrs : List Sym) (name : Sym) (vector : Bool) → length attrs ≤ most_fields → are_distinct (map (λ a. a.0) attrs) ≡ true → (vector ≡ true → 0 < length attrs)
    → class_is_valid (record { name = name; attrs = arranged vectors attrs; vector = vector }) ≡ true
class_arranged vectors attrs name vector few distinct some =
    let same : length (arranged vectors attrs) ≡ length attrs = length-parted (λ a. is_one_of a vectors) attrs in
    and_from _ _
    (and_from _ _ (le-leb _ _ (omega (arith, same, few))) (parted_distinct (λ a. a.0) (λ a. is_one_of a vectors) attrs distinct))
    (some_attribute vector (length (arranged vectors attrs)) (λ v. let lt = some v in omega (arith, same, lt)))

-- a command after which a class may be declared is valid whatever classes there are
valid_anywhere : (text m : ℕ) (classes others : List Class) (c : Command) → precedes_classes c ≡ true → command_is_sound classes text m c ≡ true
    → command_is_sound others text m c ≡ true
valid_anywhere text m classes others (command.Make class puts) before h = absurd (true≢false (sym before))
valid_anywhere text m classes others (command.Run count) before h = absurd (true≢false (sym before))
valid_anywhere text m classes others (command.Ppwm pattern) before h = absurd (true≢false (sym before))
valid_anywhere text m classes others (command.Add r) before h = absurd (true≢false (sym before))
valid_anywhere text m classes others (command.Remove tags) before h = h
valid_anywhere text m classes others (command.Wm tags) before h = h
valid_anywhere text m classes others (command.Pm names) before h = h
valid_anywhere text m classes others (command.Watch None) before h = h
valid_anywhere text m classes others (command.Watch (Some n)) before h = h
valid_anywhere text m classes others (command.Pbreak names) before h = h
valid_anywhere text m classes others (command.Excise names) before h = h
valid_anywhere text m classes others (command.Back count) before h = h
valid_anywhere text m classes others (command.Matches names) before h = h
valid_anywhere text m classes others command.RemoveAll before h = refl
valid_anywhere text m classes others command.Cs before h = refl
valid_anywhere text m classes others (command.Strategy set) before h = refl
valid_anywhere text m classes others command.Exit before h = refl

commands_valid_anywhere : (text m : ℕ) (classes others : List Class) (commands : List Command) → list_all precedes_classes commands ≡ true
    → list_all (command_is_sound classes text m) commands ≡ true → list_all (command_is_sound others text m) commands ≡ true
commands_valid_anywhere text m classes others [] before h = refl
commands_valid_anywhere text m classes others (c ∷ cs) before h =
    let first = and_parts (precedes_classes c) (list_all precedes_classes cs) before in
    let valid = and_parts (command_is_sound classes text m c) (list_all (command_is_sound classes text m) cs) h in
    and_from _ _ (valid_anywhere text m classes others c first.0 valid.0) (commands_valid_anywhere text m classes others cs first.1 valid.1)

pub class_added : (text : ℕ) (classes : List Class) (rules templates : List Rule) (commands : List Command) (vectors : List Sym) (name : Sym) (attrs : List Sym) → IsDeclaring text classes rules templates commands → IsClass classes name attrs
    → IsProgram text (classes ++ record { name = name; attrs = arranged vectors attrs; vector = has_vector vectors attrs } ∷ []) rules templates commands false
class_added text classes rules templates commands vectors name attrs d c =
    let added : Class = record { name = name; attrs = arranged vectors attrs; vector = has_vector vectors attrs } in
    record {
      classes_valid = all_push class_is_valid classes added d.program.classes_valid
          (class_arranged vectors attrs name (has_vector vectors attrs) c.few c.distinct (any_some (λ a. is_one_of a vectors) attrs));
      rules_valid = all_none _ rules d.no_rules;
      templates_valid = all_none _ templates (d.program.unused refl d.no_rules d.commands_precede);
      commands_valid = commands_valid_anywhere text (length templates) classes (classes ++ added ∷ []) commands d.commands_precede d.program.commands_valid;
      unused = d.program.unused;
      class_names = named_apart (λ c. c.name.0) classes added d.program.class_names c.is_new;
      rule_names = d.program.rule_names;
      late = d.program.late;
    }

-- the attributes of a valid class
attributes_few : (c : Class) → class_is_valid c ≡ true → (length c.attrs ≤ most_fields) × (are_distinct (map (λ a. a.0) c.attrs) ≡ true)
attributes_few c h =
    let parts = and_parts (nat_le (length c.attrs) most_fields) (are_distinct (map (λ a. a.0) c.attrs)) (and_parts (nat_le (length c.attrs) most_fields && are_distinct (map (λ a. a.0) c.attrs)) _ h).0 in
    (leb-true _ _ parts.0, parts.1)

vector_valid : (name : Sym) (c : Class) → class_is_valid c ≡ true → class_is_valid (with_vector_last name c) ≡ true
vector_valid name c h =
    let parts = attributes_few c h in
    cond_both (is_one_of name c.attrs) _ _ (λ (d : Class). class_is_valid d ≡ true)
    (λ has. class_arranged (name ∷ []) c.attrs c.name true parts.0 parts.1 (λ _. any_some (λ a. a.0 == name.0) c.attrs has)) (λ _. h)

vectors_valid : (name : Sym) (classes : List Class) → list_all class_is_valid classes ≡ true → list_all class_is_valid (map (with_vector_last name) classes) ≡ true
vectors_valid name [] h = refl
vectors_valid name (c ∷ cs) h =
    let parts = and_parts (class_is_valid c) (list_all class_is_valid cs) h in and_from _ _ (vector_valid name c parts.0) (vectors_valid name cs parts.1)

vectors_names : (name : Sym) (classes : List Class) → map (λ c. c.name.0) (map (with_vector_last name) classes) ≡ map (λ c. c.name.0) classes
vectors_names name [] = refl
vectors_names name (c ∷ cs) =
    let here = cond_both (is_one_of name c.attrs) _ _ (λ (d : Class). d.name.0 ≡ c.name.0) (λ _. refl) (λ _. refl) in
    ap (λ (k : ℕ). k ∷ map (λ c. c.name.0) (map (with_vector_last name) cs)) here ∙ ap (λ (ks : List ℕ). c.name.0 ∷ ks) (vectors_names name cs)

pub vector_added : (text : ℕ) (classes : List Class) (rules templates : List Rule) (commands : List Command) (name : Sym) → IsDeclaring text classes rules templates commands → IsDeclaring text (map (with_vector_last name) classes) rules templates commands
vector_added text classes rules templates commands name d =
    record {
      program = record {
        classes_valid = vectors_valid name classes d.program.classes_valid;
        rules_valid = all_none _ rules d.no_rules;
        templates_valid = all_none _ templates (d.program.unused refl d.no_rules d.commands_precede);
        commands_valid = commands_valid_anywhere text (length templates) classes (map (with_vector_last name) classes) commands d.commands_precede d.program.commands_valid;
        unused = d.program.unused;
        class_names = ap are_distinct (vectors_names name classes) ∙ d.program.class_names;
        rule_names = d.program.rule_names;
        late = d.program.late;
      };
      no_rules = d.no_rules;
      commands_precede = d.commands_precede;
    }

-- ---- variables

number_by : (b : Bool) (m n : ℕ) (rest : Option ℕ) (ns : List ℕ) → cond b (Some m) rest ≡ Some n → (rest ≡ Some n → is_in n ns ≡ true) → ((m == n) || is_in n ns) ≡ true
number_by true m n rest ns e ih = or_left _ _ (eq-eqb m n (cc))
number_by false m n rest ns e ih = or_right _ _ (ih e)

pub number_in : (name : Sym) (values : List Named) (n : ℕ) → number_of name values ≡ Some n → is_in n (numbers values) ≡ true
number_in name [] n e = absurd (cc)
number_in name (v ∷ vs) n e = number_by (v.name.0 == name.0) v.number n (number_of name vs) (numbers vs) e (number_in name vs n)

below_grown : (k m : ℕ) (ns : List ℕ) → k ≤ m → all_below k ns ≡ true → all_below m ns ≡ true
below_grown k m ns le h = all_weaker (λ n. nat_lt n k) (λ n. nat_lt n m) ns (λ n lt. let below : n < k = ltb-true n k lt in lt-ltb n m (omega (arith, le))) h

pub below_next : (k : ℕ) (ns : List ℕ) → all_below k ns ≡ true → all_below (k + 1) (ns ++ k ∷ []) ≡ true
below_next k ns h =
    all_push (λ n. nat_lt n (k + 1)) ns k
    (all_weaker (λ n. nat_lt n k) (λ n. nat_lt n (k + 1)) ns (λ n lt. let below : n < k = ltb-true n k lt in lt-ltb n (k + 1) (omega arith)) h)
    (lt-ltb k (k + 1) (omega arith))

-- some of them are below what all are
first_below : (k n : ℕ) (values : List Named) → all_below k (numbers values) ≡ true → all_below k (numbers (take n values)) ≡ true
first_below k zero values h = refl
first_below k (suc n) [] h = refl
first_below k (suc n) (v ∷ vs) h =
    let parts = and_parts (nat_lt v.number k) (all_below k (numbers vs)) h in and_from _ _ parts.0 (first_below k n vs parts.1)

renumbered_below : (k m : ℕ) (name : Sym) (ns : List Named) → m < k → all_below k (numbers ns) ≡ true → all_below k (numbers (renumbered name m ns)) ≡ true
renumbered_below k m name [] lt h = and_from _ _ (lt-ltb m k lt) refl
renumbered_below k m name (n ∷ ns) lt h =
    let parts = and_parts (nat_lt n.number k) (all_below k (numbers ns)) h in
    cond_both (n.name.0 == name.0) _ _ (λ (xs : List Named). all_below k (numbers xs) ≡ true)
    (λ _. and_from _ _ (lt-ltb m k lt) parts.1) (λ _. and_from _ _ parts.0 (renumbered_below k m name ns lt parts.1))

in_last : (x : ℕ) (xs : List ℕ) → is_in x (xs ++ x ∷ []) ≡ true
in_last x xs = list_any-append (λ y. y == x) xs (x ∷ []) ∙ or_right _ _ (or_left _ _ (eq-eqb x x refl))

-- what is in a list is in it with one more
all_within_more : (ns xs : List ℕ) (x : ℕ) → list_all (λ n. is_in n xs) ns ≡ true → list_all (λ n. is_in n (xs ++ x ∷ [])) ns ≡ true
all_within_more ns xs x h =
    all_weaker (λ n. is_in n xs) (λ n. is_in n (xs ++ x ∷ [])) ns (λ n e. list_any-append (λ y. y == n) xs (x ∷ []) ∙ or_left _ _ e) h

all_within_itself : (xs : List ℕ) → list_all (λ n. is_in n xs) xs ≡ true
all_within_itself [] = refl
all_within_itself (x ∷ xs) =
    and_from _ _ (or_left _ _ (eq-eqb x x refl))
    (all_weaker (λ n. is_in n xs) (λ n. is_in n (x ∷ xs)) xs (λ n e. or_right _ _ e) (all_within_itself xs))

-- ---- templates

-- what builds from some templates builds from more
pub builds_more : (m n : ℕ) → m ≤ n → (a : Action) → builds_from m a ≡ true → builds_from n a ≡ true
builds_more m n le (action.Build template holes) h = let lt : template < m = ltb-true template m h in lt-ltb template n (omega (arith, lt, le))
builds_more m n le _ h = refl

rule_more : (classes : List Class) (text m n : ℕ) → m ≤ n → (r : Rule) → rule_is_sound classes text m r ≡ true → rule_is_sound classes text n r ≡ true
rule_more classes text m n le r h =
    let parts = and_parts (rule_is_valid classes text r) (rule_builds_from m r) h in
    and_from _ _ parts.0 (all_weaker (builds_from m) (builds_from n) r.actions (builds_more m n le) parts.1)

command_builds_more : (m n : ℕ) → m ≤ n → (c : Command) → command_builds_from m c ≡ true → command_builds_from n c ≡ true
command_builds_more m n le (command.Add r) h = all_weaker (builds_from m) (builds_from n) r.actions (builds_more m n le) h
command_builds_more m n le _ h = refl

command_more : (classes : List Class) (text m n : ℕ) → m ≤ n → (c : Command) → command_is_sound classes text m c ≡ true → command_is_sound classes text n c ≡ true
command_more classes text m n le c h =
    let parts = and_parts (command_is_valid classes text c) (command_builds_from m c) h in and_from _ _ parts.0 (command_builds_more m n le c parts.1)

build_from_none : (a : Action) → builds_from 0 a ≡ true → is_build a ≡ false
build_from_none (action.Build template holes) h = absurd (omega (arith, ltb-true template 0 h))
build_from_none _ h = refl

-- what builds from none builds nothing
builds_none : (xs : List Action) → list_all (builds_from 0) xs ≡ true → not (list_any is_build xs) ≡ true
builds_none [] h = refl
builds_none (a ∷ xs) h =
    let parts = and_parts (builds_from 0 a) (list_all (builds_from 0) xs) h in
    ap (λ (b : Bool). not (b || list_any is_build xs)) (build_from_none a parts.0) ∙ builds_none xs parts.1

all_last : {X : Type 0} (p : X → Bool) (xs : List X) (x : X) → list_all p (xs ++ x ∷ []) ≡ true → (list_all p xs ≡ true) × (p x ≡ true)
all_last p xs x h =
    let parts = and_parts (list_all p xs) (list_all p (x ∷ [])) (sym (list_all-append p xs (x ∷ [])) ∙ h) in
    (parts.0, (and_parts (p x) true parts.1).0)

-- ---- left sides

-- the variables with one more, which is bound here
abbrev pub with_one : Variables → Sym → Variables
with_one v name = record v { values = v.values ++ record { name = name; number = v.given } ∷ []; given = v.given + 1 }

-- the variables after a condition
abbrev pub behind_condition : Variables → Variables
behind_condition v = record v { values = cond v.negated (take v.around v.values) v.values; negated = false }

module _ (text : ℕ) (classes : List Class) (rules templates : List Rule) (commands : List Command) (name : Sym) where
  -- while a production is read, there may be templates that no production has yet
  producing : IsProgram text classes rules templates commands false → IsProgram text classes rules templates commands true
  producing p =
      record {
        classes_valid = p.classes_valid;
        rules_valid = p.rules_valid;
        templates_valid = p.templates_valid;
        commands_valid = p.commands_valid;
        unused = λ e. absurd (true≢false e);
        class_names = p.class_names;
        rule_names = p.rule_names;
        late = p.late;
      }

  head_of : (o : Option Outer) → IsProgram text classes rules templates commands true → Stands classes rules templates commands name o []
      → IsHead text classes rules templates commands name (record { values = []; given = 0; negated = false; around = 0; elements = []; grouped = false; members = []; outer = o; holes = [] }) [] []
  head_of o p e =
      record { program = p; is_new = e; few = omega arith; valid = refl; within = refl; alone = λ _. refl; first = λ some. absurd (omega arith); bound = refl; below = refl; room = λ n. omega arith; outside = λ n. refl; counted = refl; elements = refl }

  pub head_begun : IsProgram text classes rules templates commands false → IsNew name rules commands
      → IsHead text classes rules templates commands name (record { values = []; given = 0; negated = false; around = 0; elements = []; grouped = false; members = []; outer = None; holes = [] }) [] []
  head_begun p e = head_of None (producing p) e

  -- a production that another one builds begins
  pub built_begun : (o : Outer) → IsProgram text classes rules templates commands true → IsOuter classes rules templates commands o []
      → IsHead text classes rules templates commands name (record { values = []; given = 0; negated = false; around = 0; elements = []; grouped = false; members = []; outer = Some o; holes = [] }) [] []
  built_begun o p e = head_of (Some o) p e

  renamed : (other : Sym) (o : Option Outer) (hs : List Hole) → is_some o ≡ true → Stands classes rules templates commands name o hs → Stands classes rules templates commands other o hs
  renamed other None hs e h = absurd (true≢false (sym e))
  renamed other (Some o) hs e h = h

  -- one that is built may have any name
  pub head_renamed : (other : Sym) (v : Variables) (conditions : List Part) (tests : List Test) → is_some v.outer ≡ true → IsHead text classes rules templates commands name v conditions tests → IsHead text classes rules templates commands other v conditions tests
  head_renamed other v conditions tests inside h =
      record {
        program = h.program;
        is_new = renamed other v.outer v.holes inside h.is_new;
        few = h.few;
        valid = h.valid;
        within = h.within;
        alone = h.alone;
        first = h.first;
        bound = h.bound;
        below = h.below;
        room = h.room;
        outside = h.outside;
        counted = h.counted;
        elements = h.elements;
      }

  -- a hole more, for a variable of the production around
  hole_stands : (o : Option Outer) (hs : List Hole) (variable : Sym) (m n : ℕ) → Stands classes rules templates commands name o hs → number_of variable (values_around o) ≡ Some n
      → Stands classes rules templates commands name o (hs ++ record { number = m; variable = n } ∷ [])
  hole_stands None hs variable m n h e = absurd (cc)
  hole_stands (Some o) hs variable m n h e =
      record {
        is_new = h.is_new;
        few = h.few;
        left = h.left;
        some = h.some;
        valid = h.valid;
        builds = h.builds;
        knows = h.knows;
        bound = all_push (λ x. is_in x.variable (known o.conditions o.actions).bound) hs (record { number = m; variable = n }) h.bound
            (all_in (λ x. is_in x (known o.conditions o.actions).bound) (numbers o.values) n h.knows.bound (number_in variable o.values n e));
      }

  pub head_holed : (v : Variables) (conditions : List Part) (tests : List Test) (variable : Sym) (m n : ℕ) → IsHead text classes rules templates commands name v conditions tests → number_of variable (values_around v.outer) ≡ Some n
      → IsHead text classes rules templates commands name (record v { holes = v.holes ++ record { number = m; variable = n } ∷ [] }) conditions tests
  head_holed v conditions tests variable m n h e =
      record {
        program = h.program;
        is_new = hole_stands v.outer v.holes variable m n h.is_new e;
        few = h.few;
        valid = h.valid;
        within = h.within;
        alone = h.alone;
        first = h.first;
        bound = h.bound;
        below = h.below;
        room = h.room;
        outside = h.outside;
        counted = h.counted;
        elements = h.elements;
      }

  pub body_holed : (v : Variables) (conditions : List Part) (r : Side) (xs : List Action) (variable : Sym) (m n : ℕ) → IsBody text classes rules templates commands name v conditions r xs → number_of variable (values_around v.outer) ≡ Some n
      → IsBody text classes rules templates commands name (record v { holes = v.holes ++ record { number = m; variable = n } ∷ [] }) conditions r xs
  body_holed v conditions r xs variable m n h e =
      record {
        program = h.program;
        is_new = hole_stands v.outer v.holes variable m n h.is_new e;
        few = h.few;
        left = h.left;
        some = h.some;
        valid = h.valid;
        builds = h.builds;
        knows = record { bound = h.knows.bound; given = h.knows.given; counted = h.knows.counted; cells = h.knows.cells; elements = h.knows.elements; made = h.knows.made };
      }

  pub test_kept : (v : Variables) (conditions : List Part) (tests : List Test) (f : ℕ) (p : Pred) (o : Operand) → IsHead text classes rules templates commands name v conditions tests
      → IsHead text classes rules templates commands name v conditions (tests ++ record { field = f; pred = p; operand = o; binds = false } ∷ [])
  test_kept v conditions tests f p o h =
      let t : Test = record { field = f; pred = p; operand = o; binds = false } in
      let same = sight_push (inside v conditions) tests t in
      record {
        program = h.program;
        is_new = h.is_new;
        few = h.few;
        valid = h.valid;
        within = h.within;
        alone = h.alone;
        first = h.first;
        bound = ap (λ (s : Sight). s.bound) same ∙ h.bound;
        below = ap (λ (s : Sight). all_below v.given s.given) same ∙ h.below;
        room = h.room;
        outside = h.outside;
        counted = h.counted;
        elements = h.elements;
      }

  pub test_bound : (v : Variables) (conditions : List Part) (tests : List Test) (f : ℕ) (variable : Sym) → IsHead text classes rules templates commands name v conditions tests
      → IsHead text classes rules templates commands name (with_one v variable) conditions (tests ++ record { field = f; pred = pred.Eq; operand = operand.Variable v.given; binds = true } ∷ [])
  test_bound v conditions tests f variable h =
      let t : Test = record { field = f; pred = pred.Eq; operand = operand.Variable v.given; binds = true } in
      let same = sight_push (inside v conditions) tests t in
      let one : Named = record { name = variable; number = v.given } in
      record {
        program = h.program;
        is_new = h.is_new;
        few = h.few;
        valid = h.valid;
        within = h.within;
        alone = h.alone;
        first = h.first;
        bound = ap (λ (s : Sight). s.bound) same ∙ ap (λ (ns : List ℕ). ns ++ v.given ∷ []) h.bound ∙ sym (map-append (λ n. n.number) v.values (one ∷ []));
        below = ap (λ (s : Sight). all_below (v.given + 1) s.given) same ∙ below_next v.given (sight_after_tests (inside v conditions) tests).given h.below;
        room = λ n. let le = h.room n in omega (arith, le, length-append v.values (one ∷ []));
        outside = λ n. h.outside n ∙ ap numbers (sym (take-append-le v.around v.values (one ∷ []) (h.room n)));
        counted = ap (all_below (v.given + 1)) (map-append (λ n. n.number) v.values (one ∷ [])) ∙ below_next v.given (numbers v.values) h.counted;
        elements = h.elements;
      }

  pub test_valid : (c : Class) (v : Variables) (conditions : List Part) (tests : List Test) (f : ℕ) (p : Pred) (o : Operand) (binds : Bool) → tests_are_valid c (inside v conditions) tests ≡ true → is_field c f ≡ true
      → operand_is_valid (sight_after_tests (inside v conditions) tests) p binds o ≡ true
      → tests_are_valid c (inside v conditions) (tests ++ record { field = f; pred = p; operand = o; binds = binds } ∷ []) ≡ true
  test_valid c v conditions tests f p o binds fields field valid =
      tests_push c (inside v conditions) tests (record { field = f; pred = p; operand = o; binds = binds }) fields (and_from _ _ field valid)

  abbrev HeadOf : Variables → List Part → List Test → Type 0
  HeadOf v conditions tests = IsHead text classes rules templates commands name v conditions tests

  -- where no group is read
  abbrev plainly : Variables → Variables
  plainly v = record v { grouped = false; members = [] }

  plainly_is : (v : Variables) → v.grouped ≡ false → v.members ≡ [] → v ≡ plainly v
  plainly_is v e none =
      ap (λ (ms : List Condition). let u : Variables = record v { members = ms } in u) none ∙ ap (λ (b : Bool). let u : Variables = record v { grouped = b; members = [] } in u) e

  -- what is in sight after the condition
  behind_bound : (b : Bool) (v : Variables) (conditions : List Part) (tests : List Test) → v.negated ≡ b → HeadOf (plainly v) conditions tests
      → (cond b (record { bound = (seen conditions).bound; given = (sight_after_tests (seen conditions) tests).given }) (sight_after_tests (seen conditions) tests)).bound ≡ numbers (cond b (take v.around v.values) v.values)
  behind_bound true v conditions tests is h = h.outside (or_left _ _ is)
  behind_bound false v conditions tests is h = h.bound

  behind_below : (b : Bool) (k : ℕ) (s t : Sight) → all_below k t.given ≡ true → all_below k (cond b (record { bound = s.bound; given = t.given }) t).given ≡ true
  behind_below true k s t h = h
  behind_below false k s t h = h

  behind_counted : (b : Bool) (k n : ℕ) (values : List Named) → all_below k (numbers values) ≡ true → all_below k (numbers (cond b (take n values) values)) ≡ true
  behind_counted true k n values h = first_below k n values h
  behind_counted false k n values h = h

  plain_added : (class : ℕ) (v : Variables) (conditions : List Part) (tests : List Test) → HeadOf (plainly v) conditions tests → length (elements_of conditions) < most_conditions → class < length classes → fits tests ≡ true
      → tests_are_valid (class_of classes class) (seen conditions) tests ≡ true → (length conditions ≡ 0 → v.negated ≡ false)
      → HeadOf (behind_condition (plainly v)) (conditions ++ One (record { class = class; negated = v.negated; tests = tests }) ∷ []) []
  plain_added class v conditions tests h room within short fields positive =
      let c : Condition = record { class = class; negated = v.negated; tests = tests } in
      let same = sight_conditions_push nothing_in_sight conditions (One c) in
      record {
        program = h.program;
        is_new = h.is_new;
        few = omega (arith, elements_push conditions c, room);
        valid = conditions_push classes nothing_in_sight conditions (One c) h.valid (and_from _ _ (and_from _ _ (lt-ltb _ _ within) short) fields);
        within = refl;
        alone = λ _. refl;
        first = λ some. first_push conditions c h.first positive;
        bound = ap (λ (s : Sight). s.bound) same ∙ behind_bound v.negated v conditions tests refl h;
        below = ap (λ (s : Sight). all_below v.given s.given) same ∙ behind_below v.negated v.given (seen conditions) (sight_after_tests (seen conditions) tests) h.below;
        room = λ n. absurd (true≢false (sym n));
        outside = λ n. absurd (true≢false (sym n));
        counted = behind_counted v.negated v.given v.around v.values h.counted;
        elements = below_grown (length (cells_of conditions)) (length (cells_of (conditions ++ One c ∷ []))) (numbers v.elements) (cells_push conditions (One c)) h.elements;
      }

  pub condition_added : (class : ℕ) (v : Variables) (conditions : List Part) (tests : List Test) → HeadOf v conditions tests → length (elements_of conditions) < most_conditions → class < length classes → fits tests ≡ true
      → tests_are_valid (class_of classes class) (inside v conditions) tests ≡ true → (length conditions ≡ 0 → v.negated ≡ false) → v.grouped ≡ false
      → HeadOf (behind_condition v) (conditions ++ One (record { class = class; negated = v.negated; tests = tests }) ∷ []) []
  condition_added class v conditions tests h room within short fields positive e =
      let same = plainly_is v e (h.alone e) in
      let all : List Part = conditions ++ One (record { class = class; negated = v.negated; tests = tests }) ∷ [] in
      subst (λ (u : Variables). HeadOf (behind_condition u) all []) (sym same)
      (plain_added class v conditions tests (subst (λ (u : Variables). HeadOf u conditions tests) same h) room within short
      (subst (λ (u : Variables). tests_are_valid (class_of classes class) (inside u conditions) tests ≡ true) same fields) positive)

  -- a member of a group more
  pub member_added : (class : ℕ) (v : Variables) (conditions : List Part) (tests : List Test) → HeadOf v conditions tests → length (elements_of conditions) + length v.members < most_conditions → class < length classes → fits tests ≡ true
      → tests_are_valid (class_of classes class) (inside v conditions) tests ≡ true → v.grouped ≡ true
      → HeadOf (record v { members = v.members ++ record { class = class; negated = false; tests = tests } ∷ [] }) conditions []
  member_added class v conditions tests h room within short fields e =
      let c : Condition = record { class = class; negated = false; tests = tests } in
      let same = sight_members_push (seen conditions) v.members c in
      record {
        program = h.program;
        is_new = h.is_new;
        few = omega (arith, length-append v.members (c ∷ []), room);
        valid = h.valid;
        within = members_push classes (seen conditions) v.members c h.within (and_from _ _ (and_from _ _ (lt-ltb _ _ within) short) fields);
        alone = λ n. absurd (true≢false (sym e ∙ n));
        first = h.first;
        bound = ap (λ (s : Sight). s.bound) same ∙ h.bound;
        below = ap (λ (s : Sight). all_below v.given s.given) same ∙ h.below;
        room = h.room;
        outside = h.outside;
        counted = h.counted;
        elements = h.elements;
      }

  -- a group begins
  plain_group : (v : Variables) (conditions : List Part) → HeadOf (plainly v) conditions [] → HeadOf (record v { grouped = true; around = length v.values; members = [] }) conditions []
  plain_group v conditions h =
      record {
        program = h.program;
        is_new = h.is_new;
        few = h.few;
        valid = h.valid;
        within = refl;
        alone = λ _. refl;
        first = h.first;
        bound = h.bound;
        below = h.below;
        room = λ n. omega arith;
        outside = λ n. h.bound ∙ ap numbers (sym (take_all (length v.values) v.values (omega arith)));
        counted = h.counted;
        elements = h.elements;
      }

  pub group_opened : (v : Variables) (conditions : List Part) → HeadOf v conditions [] → v.grouped ≡ false → HeadOf (record v { grouped = true; around = length v.values; members = [] }) conditions []
  group_opened v conditions h e = plain_group v conditions (subst (λ (u : Variables). HeadOf u conditions []) (plainly_is v e (h.alone e)) h)

  -- a group ends
  pub group_added : (v : Variables) (conditions : List Part) → HeadOf v conditions [] → 0 < length conditions → 2 ≤ length v.members → v.grouped ≡ true
      → HeadOf (record v { values = take v.around v.values; negated = false; grouped = false; members = [] }) (conditions ++ Group v.members ∷ []) []
  group_added v conditions h some two e =
      let same = sight_conditions_push nothing_in_sight conditions (Group v.members) in
      record {
        program = h.program;
        is_new = h.is_new;
        few = omega (arith, elements_push_group conditions v.members, h.few);
        valid = conditions_push classes nothing_in_sight conditions (Group v.members) h.valid (and_from _ _ (le-leb _ _ two) h.within);
        within = refl;
        alone = λ _. refl;
        first = λ _. first_push_group conditions v.members some (h.first some);
        bound = ap (λ (s : Sight). s.bound) same ∙ h.outside (or_right _ _ e);
        below = ap (λ (s : Sight). all_below v.given s.given) same ∙ h.below;
        room = λ n. absurd (true≢false (sym n));
        outside = λ n. absurd (true≢false (sym n));
        counted = first_below v.given v.around v.values h.counted;
        elements = below_grown (length (cells_of conditions)) (length (cells_of (conditions ++ Group v.members ∷ []))) (numbers v.elements) (cells_push conditions (Group v.members)) h.elements;
      }

  -- a negated condition begins
  plain_negated : (v : Variables) (conditions : List Part) → HeadOf (plainly v) conditions [] → HeadOf (record (plainly v) { negated = true; around = length v.values }) conditions []
  plain_negated v conditions h =
      record {
        program = h.program;
        is_new = h.is_new;
        few = h.few;
        valid = h.valid;
        within = refl;
        alone = λ _. refl;
        first = h.first;
        bound = h.bound;
        below = h.below;
        room = λ n. omega arith;
        outside = λ n. h.bound ∙ ap numbers (sym (take_all (length v.values) v.values (omega arith)));
        counted = h.counted;
        elements = h.elements;
      }

  pub negated_begun : (v : Variables) (conditions : List Part) → HeadOf v conditions [] → v.grouped ≡ false → HeadOf (record v { negated = true; around = length v.values }) conditions []
  negated_begun v conditions h e =
      let same = plainly_is v e (h.alone e) in
      subst (λ (u : Variables). HeadOf (record u { negated = true; around = length u.values }) conditions []) (sym same)
      (plain_negated v conditions (subst (λ (u : Variables). HeadOf u conditions []) same h))

  -- an element variable more, which names the cell of the last condition
  pub element_bound : (v : Variables) (conditions : List Part) (tests : List Test) (variable : Sym) → IsHead text classes rules templates commands name v conditions tests → 0 < length conditions
      → IsHead text classes rules templates commands name (record v { elements = v.elements ++ record { name = variable; number = length (cells_of conditions) - 1 } ∷ [] }) conditions tests
  element_bound v conditions tests variable h some =
      let one : Named = record { name = variable; number = length (cells_of conditions) - 1 } in
      let cells = some_cell conditions (h.first some) in
      record {
        program = h.program;
        is_new = h.is_new;
        few = h.few;
        valid = h.valid;
        within = h.within;
        alone = h.alone;
        first = h.first;
        bound = h.bound;
        below = h.below;
        room = h.room;
        outside = h.outside;
        counted = h.counted;
        elements = ap (all_below (length (cells_of conditions))) (map-append (λ n. n.number) v.elements (one ∷ []))
            ∙ all_push (λ n. nat_lt n (length (cells_of conditions))) (numbers v.elements) (length (cells_of conditions) - 1) h.elements (lt-ltb _ _ (omega (arith, cells)));
      }

  -- ---- right sides

  -- a left side ends, where no condition is negated any more
  pub body_begun : (v : Variables) (conditions : List Part) → IsHead text classes rules templates commands name v conditions [] → 0 < length conditions → v.grouped ≡ false
      → IsBody text classes rules templates commands name (record v { negated = false; around = 0; grouped = false; members = [] }) conditions (record { made = None; further = [] }) []
  body_begun v conditions first some e =
      let h = subst (λ (u : Variables). HeadOf u conditions []) (plainly_is v e (first.alone e)) first in
      record {
        program = h.program;
        is_new = h.is_new;
        few = omega (arith, h.few);
        left = h.valid;
        some = h.first some;
        valid = refl;
        builds = refl;
        knows = record {
          bound = ap (λ (ns : List ℕ). list_all (λ n. is_in n ns) (numbers v.values)) h.bound ∙ all_within_itself (numbers v.values);
          given = h.below;
          counted = h.counted;
          cells = sym (append-nil (cells_of conditions));
          elements = h.elements;
          made = refl;
        };
      }

  pub action_added : (v : Variables) (values elements : List Named) (given : ℕ) (conditions : List Part) (r r' : Side) (xs : List Action) (a : Action) → IsBody text classes rules templates commands name v conditions r xs
      → action_is_valid classes (known conditions xs) a ≡ true → builds_from 0 a ≡ true → Knows (known_after (known conditions xs) a) (record v { values = values; elements = elements; given = given }) conditions r'
      → IsBody text classes rules templates commands name (record v { values = values; elements = elements; given = given }) conditions r' (xs ++ a ∷ [])
  action_added v values elements given conditions r r' xs a h valid builds knows =
      record {
        program = h.program;
        is_new = h.is_new;
        few = h.few;
        left = h.left;
        some = h.some;
        valid = actions_push classes (known_of conditions) xs a h.valid valid;
        builds = all_push (builds_from (allowed v.outer (length templates))) xs a h.builds (builds_more 0 _ (omega arith) a builds);
        knows = subst (λ (k : Known). Knows k (record v { values = values; elements = elements; given = given }) conditions r') (sym (known_push (known_of conditions) xs a)) knows;
      }

  abbrev whole : Variables → List Part → Side → List Action → ℕ → ℕ → Rule
  whole v conditions r xs first past =
      record { name = name; conditions = conditions; actions = xs; specificity = specificity conditions; variables = v.given; cells = length (cells_of conditions ++ r.further); first = first; past = past }

  rule_valid : (v : Variables) (conditions : List Part) (r : Side) (xs : List Action) (first past : ℕ) → IsBody text classes rules templates commands name v conditions r xs → fits xs ≡ true → first ≤ past → past ≤ text
      → rule_is_valid classes text (whole v conditions r xs first past) ≡ true
  rule_valid v conditions r xs first past h short ordered within =
      and_from _ _ (and_from _ _ (and_from _ _ (and_from _ _ (and_from _ _ (and_from _ _ (and_from _ _ (and_from _ _ (and_from _ _ h.some (le-leb _ _ h.few)) h.left) short) h.valid) (eq-eqb (specificity conditions) (specificity conditions) refl)) h.knows.given) (eq-eqb _ _ (ap length (sym h.knows.cells)))) (le-leb _ _ ordered)) (le-leb _ _ within)

  title_new : (o : Option Outer) (hs : List Hole) → o ≡ None → Stands classes rules templates commands name o hs → IsNew name rules commands
  title_new None hs e h = h
  title_new (Some o) hs e h = absurd (cc)

  builds_alone : (o : Option Outer) (n : ℕ) (xs : List Action) → o ≡ None → list_all (builds_from (allowed o n)) xs ≡ true → list_all (builds_from n) xs ≡ true
  builds_alone None n xs e h = h
  builds_alone (Some o) n xs e h = absurd (cc)

  -- A production ends: one of the beginning, or one that is added.
  pub rule_added : (v : Variables) (conditions : List Part) (r : Side) (xs : List Action) (first past : ℕ) → v.outer ≡ None → IsBody text classes rules templates commands name v conditions r xs → fits xs ≡ true → first ≤ past → past ≤ text
      → (b : Bool) → list_all precedes_rules commands ≡ b
      → IsProgram text classes (rules_with b rules (whole v conditions r xs first past)) templates (commands_with b commands (whole v conditions r xs first past)) false
  rule_added v conditions r xs first past alone h short ordered within true e =
      let one = whole v conditions r xs first past in
      let sound = and_from _ _ (rule_valid v conditions r xs first past h short ordered within) (builds_alone v.outer (length templates) xs alone h.builds) in
      record {
        classes_valid = h.program.classes_valid;
        rules_valid = all_push (rule_is_sound classes text (length templates)) rules one h.program.rules_valid sound;
        templates_valid = h.program.templates_valid;
        commands_valid = h.program.commands_valid;
        unused = λ _ none _. absurd (omega (arith, none, length-append rules (one ∷ [])));
        class_names = h.program.class_names;
        rule_names = titles_front rules commands one e h.program.rule_names (title_new v.outer v.holes alone h.is_new);
        late = h.program.late;
      }
  rule_added v conditions r xs first past alone h short ordered within false e =
      let one = whole v conditions r xs first past in
      let sound = and_from _ _ (rule_valid v conditions r xs first past h short ordered within) (builds_alone v.outer (length templates) xs alone h.builds) in
      record {
        classes_valid = h.program.classes_valid;
        rules_valid = h.program.rules_valid;
        templates_valid = h.program.templates_valid;
        commands_valid = all_push (command_is_sound classes text (length templates)) commands (command.Add one) h.program.commands_valid sound;
        unused = λ _ _ before. absurd (true≢false (sym (all_last precedes_classes commands (command.Add one) before).1));
        class_names = h.program.class_names;
        rule_names = titles_behind rules commands one h.program.rule_names (title_new v.outer v.holes alone h.is_new);
        late = late_rule commands one h.program.late e;
      }

  -- one template more
  templates_more : (r : Rule) → IsProgram text classes rules templates commands true → template_is_valid classes text r ≡ true → IsProgram text classes rules (templates ++ r ∷ []) commands true
  templates_more r h valid =
      let n = length templates in
      let m = length (templates ++ r ∷ []) in
      let le : n ≤ m = omega (arith, length-append templates (r ∷ [])) in
      record {
        classes_valid = h.classes_valid;
        rules_valid = all_weaker (rule_is_sound classes text n) (rule_is_sound classes text m) rules (rule_more classes text n m le) h.rules_valid;
        templates_valid = all_push (template_is_valid classes text) templates r h.templates_valid valid;
        commands_valid = all_weaker (command_is_sound classes text n) (command_is_sound classes text m) commands (command_more classes text n m le) h.commands_valid;
        unused = λ e. absurd (true≢false e);
        class_names = h.class_names;
        rule_names = h.rule_names;
        late = h.late;
      }

  no_builds : (o : Option Outer) (p : Outer) (n : ℕ) (xs : List Action) → o ≡ Some p → list_all (builds_from (allowed o n)) xs ≡ true → not (list_any is_build xs) ≡ true
  no_builds None p n xs e h = absurd (cc)
  no_builds (Some o) p n xs e h = builds_none xs h

  outer_stands : (o : Option Outer) (p : Outer) (hs : List Hole) → o ≡ Some p → Stands classes rules templates commands name o hs → IsOuter classes rules templates commands p hs
  outer_stands None p hs e h = absurd (cc)
  outer_stands (Some o) p hs e h = let same : o ≡ p = cc in subst (λ (x : Outer). IsOuter classes rules templates commands x hs) same h

  -- A production ends that another one builds.
  pub template_added : (v : Variables) (o : Outer) (conditions : List Part) (r : Side) (xs : List Action) (first past : ℕ) → v.outer ≡ Some o → IsBody text classes rules templates commands name v conditions r xs → fits xs ≡ true → first ≤ past → past ≤ text
      → IsBody text classes rules (templates ++ whole v conditions r xs first past ∷ []) commands o.name (record v { values = o.values; given = o.variables; elements = o.elements; outer = None; holes = [] }) o.conditions (side_in o)
      (o.actions ++ action.Build (length templates) v.holes ∷ [])
  template_added v o conditions r xs first past inside h short ordered within =
      let one = whole v conditions r xs first past in
      let build : Action = action.Build (length templates) v.holes in
      let around = outer_stands v.outer o v.holes inside h.is_new in
      let longer = length-append templates (one ∷ []) in
      let k = known o.conditions o.actions in
      let v' : Variables = record v { values = o.values; given = o.variables; elements = o.elements; outer = None; holes = [] } in
      record {
        program = templates_more one h.program (and_from _ _ (rule_valid v conditions r xs first past h short ordered within) (no_builds v.outer o (length templates) xs inside h.builds));
        is_new = around.is_new;
        few = around.few;
        left = around.left;
        some = around.some;
        valid = actions_push classes (known_of o.conditions) o.actions build around.valid around.bound;
        builds = all_push (builds_from (length (templates ++ one ∷ []))) o.actions build
            (all_weaker (builds_from (length templates)) (builds_from (length (templates ++ one ∷ []))) o.actions (builds_more (length templates) (length (templates ++ one ∷ [])) (omega (arith, longer))) around.builds)
            (lt-ltb _ _ (omega (arith, longer)));
        knows = subst (λ (x : Known). Knows x v' o.conditions (side_in o)) (sym (known_push (known_of o.conditions) o.actions build))
            (record { bound = around.knows.bound; given = around.knows.given; counted = around.knows.counted; cells = around.knows.cells; elements = around.knows.elements; made = around.knows.made });
      }

-- ---- right sides

-- a variable that is in sight is known
pub value_known : {k : Known} {v : Variables} {conditions : List Part} {r : Side} (name : Sym) (n : ℕ) → Knows k v conditions r → number_of name v.values ≡ Some n → is_in n k.bound ≡ true
value_known {k = k} {v = v} name n h e = all_in (λ m. is_in m k.bound) (numbers v.values) n h.bound (number_in name v.values n e)

-- an element variable names a cell
pub element_known : {k : Known} {v : Variables} {conditions : List Part} {r : Side} (name : Sym) (n : ℕ) → Knows k v conditions r → number_of name v.elements ≡ Some n → is_cell k n ≡ true
element_known {k = k} {v = v} name n h e = all_in (λ m. nat_lt m (length k.cells)) (numbers v.elements) n h.elements (number_in name v.elements n e)

-- what is known after an action
module _ (k : Known) (v : Variables) (conditions : List Part) (r : Side) (h : Knows k v conditions r) where
  made_known : (o : Option ℕ) (class : ℕ) → o ≡ Some class → Knows (record k { made = o }) v conditions (record r { made = Some class })
  made_known o class e = record { bound = h.bound; given = h.given; counted = h.counted; cells = h.cells; elements = h.elements; made = e }

  -- a new element, or a changed one
  pub put_known : (classes : List Class) (class : ℕ) (puts : List Put) (o : Option ℕ) → IsNamed classes k class o → Knows (known_after k (put_action o class puts)) v conditions (record r { made = Some class })
  put_known classes class puts None named = made_known (Some class) class refl
  put_known classes class puts (Some cell) named =
      let here = slice_get-get_or k.cells cell 0 (ltb-true _ _ named.0) in
      made_known _ class (here ∙ ap (λ (c : ℕ). Some c) (sym (named.1 ∙ ap (λ (o : Option ℕ). unwrap_or o 0) here)))

  -- a variable in sight is bound again
  pub bound_again : (n : ℕ) (t : Term) → is_in n (numbers v.values) ≡ true → Knows (known_after k (action.Bind n t)) v conditions r
  bound_again n t e =
      record {
        bound = all_within_more (numbers v.values) k.bound n h.bound;
        given = all_push (λ m. nat_lt m v.given) k.given n h.given (all_in (λ m. nat_lt m v.given) (numbers v.values) n h.counted e);
        counted = h.counted;
        cells = h.cells;
        elements = h.elements;
        made = h.made;
      }

  -- another variable is bound
  pub bound_first : (name : Sym) (t : Term) → Knows (known_after k (action.Bind v.given t)) (with_one v name) conditions r
  bound_first name t =
      let numbered = map-append (λ n. n.number) v.values (record { name = name; number = v.given } ∷ []) in
      let p : ℕ → Bool = λ n. is_in n (k.bound ++ v.given ∷ []) in
      record {
        bound = ap (list_all p) numbered ∙ all_push p (numbers v.values) v.given (all_within_more (numbers v.values) k.bound v.given h.bound) (in_last v.given k.bound);
        given = below_next v.given k.given h.given;
        counted = ap (all_below (v.given + 1)) numbered ∙ below_next v.given (numbers v.values) h.counted;
        cells = h.cells;
        elements = h.elements;
        made = h.made;
      }

  -- an element variable names a further cell
  pub cell_known : (name : Sym) (class : ℕ) → r.made ≡ Some class
      → (let cell = length (cells_of conditions ++ r.further) in
      Knows (known_after k (action.Cbind cell)) (record v { elements = renumbered name cell v.elements }) conditions (record r { further = r.further ++ class ∷ [] }))
  cell_known name class e =
      let cell = length (cells_of conditions ++ r.further) in
      let more = k.cells ++ unwrap_or k.made 0 ∷ [] in
      let longer = length-append k.cells (unwrap_or k.made 0 ∷ []) in
      let same = ap length h.cells in
      record {
        bound = h.bound;
        given = h.given;
        counted = h.counted;
        cells = ap (λ (o : Option ℕ). k.cells ++ unwrap_or o 0 ∷ []) (h.made ∙ e) ∙ ap (λ (cs : List ℕ). cs ++ class ∷ []) h.cells ∙ append_assoc (cells_of conditions) r.further (class ∷ []);
        elements = renumbered_below (length more) cell name v.elements (omega (arith, longer, same)) (below_grown (length k.cells) (length more) (numbers v.elements) (omega (arith, longer)) h.elements);
        made = h.made;
      }

-- a value that may stand alone may stand among several
among_several : (classes : List Class) (k : Known) (several : Bool) (t : Term) → term_is_valid classes k false t ≡ true → term_is_valid classes k several t ≡ true
among_several classes k false t h = h
among_several classes k true (term.Rest cell) h = absurd (true≢false (sym h))
among_several classes k true _ h = h

pub put_valid : (classes : List Class) (k : Known) (c : Class) (f : ℕ) (t : Term) → is_attribute c f ≡ true → term_is_valid classes k false t ≡ true → put_is_valid classes k c (record { field = f; terms = t ∷ [] }) ≡ true
put_valid classes k c f t attribute valid =
    and_from _ _ (and_from _ _ attribute (cond_alike (is_vector c f) refl refl)) (and_from _ _ (among_several classes k (is_vector c f) t valid) refl)

-- the first place of the vector attribute is an attribute
pub vector_parts : (c : Class) (f : ℕ) → is_vector c f ≡ true → (c.vector ≡ true) × (f + 1 ≡ length c.attrs)
vector_parts c f h = let parts = and_parts c.vector (f + 1 == length c.attrs) h in (parts.0, eqb-true (f + 1) (length c.attrs) parts.1)

vector_attribute : (c : Class) (f : ℕ) → is_vector c f ≡ true → is_attribute c f ≡ true
vector_attribute c f h = let last = (vector_parts c f h).1 in lt-ltb f (length c.attrs) (omega (arith, last))

pub several_valid : (classes : List Class) (k : Known) (c : Class) (f : ℕ) (terms : List Term) → is_vector c f ≡ true → fits terms ≡ true → list_all (term_is_valid classes k true) terms ≡ true
    → put_is_valid classes k c (record { field = f; terms = terms }) ≡ true
several_valid classes k c f terms vector short valid =
    and_from _ _ (and_from _ _ (vector_attribute c f vector) (cond-true (is_vector c f) (fits terms) (length terms == 1) vector ∙ short))
    (ap (λ (b : Bool). list_all (term_is_valid classes k b) terms) vector ∙ valid)

-- ---- commands

pub command_added : (text : ℕ) (classes : List Class) (rules templates : List Rule) (commands : List Command) (c : Command) → IsProgram text classes rules templates commands false → other_is_sound classes text c ≡ true → IsProgram text classes rules templates (commands ++ c ∷ []) false
command_added text classes rules templates commands c h valid =
    let parts = and_parts (command_is_valid classes text c) (not (is_add c)) valid in
    record {
      classes_valid = h.classes_valid;
      rules_valid = h.rules_valid;
      templates_valid = h.templates_valid;
      commands_valid = all_push (command_is_sound classes text (length templates)) commands c h.commands_valid (and_from _ _ parts.0 (other_builds (length templates) c parts.1));
      unused = λ e none before. h.unused e none (all_last precedes_classes commands c before).0;
      class_names = h.class_names;
      rule_names = titles_other rules commands c h.rule_names parts.1;
      late = late_other commands c h.late parts.1;
    }

-- the attributes of a declared class
class_few : (classes : List Class) (class : ℕ) → list_all class_is_valid classes ≡ true → class < length classes → length (class_of classes class).attrs ≤ most_fields
class_few classes class h within = (attributes_few (class_of classes class) (all_at class_is_valid classes class no_class h within)).0

pub fixed_valid : (classes : List Class) (class f : ℕ) (v : Value) → list_all class_is_valid classes ≡ true → class < length classes → is_attribute (class_of classes class) f ≡ true → fixed_is_valid (class_of classes class) (record { field = f; values = v ∷ [] }) ≡ true
fixed_valid classes class f v h within attribute =
    let few = class_few classes class h within in
    let lt : f < length (class_of classes class).attrs = ltb-true _ _ attribute in
    and_from _ _ attribute (cond_alike (is_vector (class_of classes class) f) (le-leb (f + 1) most_fields (omega (arith, few, lt))) refl)

pub vector_within : (classes : List Class) (class f : ℕ) → list_all class_is_valid classes ≡ true → class < length classes → is_vector (class_of classes class) f ≡ true → f + 0 ≤ most_fields
vector_within classes class f h within vector =
    let few = class_few classes class h within in
    let last = (vector_parts (class_of classes class) f vector).1 in
    omega (arith, few, last)

pub constants_valid : (c : Class) (f : ℕ) (vs : List Value) → is_vector c f ≡ true → f + length vs ≤ most_fields → fixed_is_valid c (record { field = f; values = vs }) ≡ true
constants_valid c f vs vector le =
    and_from _ _ (vector_attribute c f vector) (cond-true (is_vector c f) (nat_le (f + length vs) most_fields) (length vs == 1) vector ∙ le-leb (f + length vs) most_fields le)
