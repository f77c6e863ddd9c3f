-- A program that is spelled is read back.
use Rattle.std.proofs.Common.{◌≡◌, ℕ, zero, suc, ◌+◌, Bool, true, false, not, ◌||◌, ◌==◌, List, [], ◌∷◌, ◌++◌, length, take, map, refl, sym, ap, subst, ◌∙◌, Some, None, Ok, nat_lt, append-nil, append_assoc, length-append, arith, true≢false}
use Rattle.std.specs.Prelude.{if◌then◌else◌}
use Rattle.std.specs.List.{list_all, list_any}
use Rattle.std.proofs.lemmas.Bool.{and_parts, and_from, or_left, or_right, ltb-true, eqb-true, eq-eqb}
use Rattle.std.proofs.lemmas.List.{take_all}
use Rattle.std.proofs.lemmas.List.Folds.{list_any-append}
use Rattle.ops_base.specs.declared.values.Sym.{Sym}
use Rattle.ops_base.specs.declared.elements.Class.{Class}
use Rattle.ops_base.specs.declared.actions.Action.{Action}
use Rattle.ops_base.specs.declared.actions.Action.TheVariants as action
use Rattle.ops_base.specs.declared.rules.Rule.{Rule}
use Rattle.ops_base.specs.Filling.{in_part, total}
use Rattle.ops_base.specs.declared.commands.Command.{Command}
use Rattle.ops_base.specs.declared.commands.Command.TheVariants as command
use Rattle.ops_base.specs.Valid.{are_distinct, class_of, class_is_valid, is_natural, fixed_is_valid}
use Rattle.ops_grammar.specs.declared.words.Word.{Word}
use Rattle.ops_grammar.specs.declared.words.Named.{Named}
use Rattle.ops_grammar.specs.declared.words.Keyword.TheVariants as keyword
use Rattle.ops_grammar.specs.Grammar.{Wanted, Forms, FirstPattern, Patterns, Actions, State, Outcome, is_one_of, no_formula, left_begun, step, is_rule, ends, goes, precedes_rules, added, added_by, has_title, rules_with, commands_with}
use Rattle.ops_grammar.specs.Standing.{outcome_of, AreRead}
use Rattle.ops_grammar.specs.Spelling.{opening, closing, arrow, spelled_keyword, spelled_name, spelled_each, spelled_class, attribute_name, last_field, spelled_vector, spelled_actions, spelled_conditions, spelled_build, spelled_rule, spelled_command, spelled_program, at_arrow, after_actions, nothing_numbered, after_conditions, rule_is_plain, vectors_of, scalars_of, class_is_plain, command_is_plain, is_plain, titles_are_distinct, adds_late, build_is_plain, template_of, templates_in, templates_by, are_next, builds_in_order}
use Rattle.ops_grammar.proofs.Lists.{all_weaker}
use Rattle.ops_grammar.proofs.Places.{numbered}
use Rattle.ops_grammar.proofs.Numbering.{below}
use Rattle.ops_grammar.proofs.ReadsBack.{apart_before, vector-read, IsUnder, class-read}
use Rattle.ops_grammar.proofs.ReadsFacts.{AreNamed, fact-read, shown-read, all_shown-read, remove-read, remove_all-read, wm-read, pm-read, pbreak-read, run-read, run_so_often-read, strategy-read, watch-read, watch_at-read, back-read, cs-read, exit-read, excise-read, matches-read}
use Rattle.ops_grammar.proofs.Holed.{none_held}
use Rattle.ops_grammar.proofs.ReadsRight.{made_after, made_behind}
use Rattle.ops_grammar.proofs.ReadsRules.{left_behind, matched}
use Rattle.ops_grammar.proofs.ReadsSides.{at_rule, rule_parts, sides-read, rule_numbers, build-read}
use Rattle.ops_grammar.proofs.Added.{title, distinct_front, late_at}
use Rattle.std.proofs.lemmas.Grind.{flat_map-append}

-- what a form leaves after that no later one looks at
pub record Rest : Type 0 where
  pub name : Sym
  pub first : ℕ
  pub vectors : List Sym
  pub class : ℕ
  pub values : List Named
  pub elements : List Named
  pub variables : ℕ
  pub shows : Bool

-- where no form is open
abbrev pub idle : Rest → List Class → List Rule → List Rule → List Command → State
idle rest classes rules templates commands =
    record {
      classes = classes;
      rules = rules;
      templates = templates;
      commands = commands;
      vectors = rest.vectors;
      name = rest.name;
      first = rest.first;
      attrs = [];
      class = rest.class;
      tests = [];
      choice = [];
      terms = [];
      constants = [];
      puts = [];
      fixed = [];
      cells = [];
      items = [];
      values = rest.values;
      elements = rest.elements;
      element = record { 0 = 0 };
      variables = rest.variables;
      negated = false;
      around = 0;
      grouped = false;
      members = [];
      conditions = [];
      actions = [];
      begun = 0;
      modified = None;
      made = None;
      further = [];
      variable = record { 0 = 0 };
      source = 0;
      source_field = 0;
      formula = no_formula;
      counted = 0;
      holes = [];
      outer = None;
      shows = rest.shows;
      tags = [];
      named = [];
    }

-- ---- a production

abbrev after_rule : Rest → Rule → Rest
after_rule rest r =
    let to = after_actions (at_arrow false r.conditions) r.actions in
    record {
      name = r.name;
      first = r.first;
      vectors = rest.vectors;
      class = 0;
      values = numbered to.variables.sight;
      elements = numbered (below (length to.cells));
      variables = to.variables.given;
      shows = rest.shows;
    }

rule_begun : (r : Rule) (words : List Word) (ws : List Wanted) (s : State) → is_rule s r.name ≡ false
    → goes (record opening { first = r.first } ∷ spelled_keyword keyword.Production ∷ spelled_name r.name ∷ words) (Forms ∷ ws) s
    ≡ goes words (FirstPattern ∷ Patterns ∷ Actions false ∷ Forms ∷ ws) (record (left_begun s) { first = r.first; name = r.name })
unfolding goes step
rule_begun r words ws s new = rw new refl

module _ (classes : List Class) (rules all : List Rule) (m : ℕ) (commands : List Command) (more : List Word) (ws : List Wanted) (names : AreNamed classes) where
  -- where the rule's parts are wanted
  abbrev begun : Rest → Rule → State
  begun rest r = record (left_begun (idle rest classes rules (take m all) commands)) { first = r.first; name = r.name }

  -- The production stands with the others, or it is added.
  abbrev behind : Rule → Rest → Rule → Outcome
  behind r rest one =
      let begins = list_all precedes_rules commands in
      goes more (Forms ∷ ws) (idle (after_rule rest r) classes (rules_with begins rules one) (take (made_behind m r.actions) all) (commands_with begins commands one))

  -- A production is read back.
  pub rule-read : (r : Rule) (rest : Rest) → is_rule (idle rest classes rules (take m all) commands) r.name ≡ false → rule_is_plain classes all r ≡ true → are_next m (templates_in r.actions) ≡ true
      → goes (spelled_rule classes all r ++ more) (Forms ∷ ws) (idle rest classes rules (take m all) commands) ≡ behind r rest r
  rule-read r rest new plain next =
      let builds = build_is_plain classes all in
      let build = spelled_build classes all in
      let is = rule_parts builds false classes r plain in
      let from : State = begun rest r in
      let n = total in_part r.conditions in
      let body : State = matched from [] n (left_behind at_rule nothing_numbered r.conditions) (after_conditions nothing_numbered r.conditions) r.conditions in
      let both = sides-read build builds [] false all m from (none_held None) names refl refl (λ k i gs e. refl) r more (Forms ∷ ws) (build-read all body names) is next in
      let left = spelled_conditions [] 0 classes 0 r.conditions in
      let right = spelled_actions build [] classes (at_arrow false r.conditions) n r.actions in
      let end : Word = record closing { past = r.past } in
      let head : List Word = record opening { first = r.first } ∷ spelled_keyword keyword.Production ∷ spelled_name r.name ∷ left in
      let words = left ++ (arrow ∷ right ++ (end ∷ more)) in
      ap (λ (x : List Word). goes x (Forms ∷ ws) (idle rest classes rules (take m all) commands)) (append_assoc (head ++ arrow ∷ right) (end ∷ []) more ∙ append_assoc head (arrow ∷ right) (end ∷ more))
      ∙ rule_begun r words ws (idle rest classes rules (take m all) commands) new
      ∙ both.2
      ∙ ap (λ (q : Rule). behind r rest q) (rule_numbers builds false classes r both.0.further is both.1)

-- ---- lists of forms

named_classes : (vectors : List Sym) (classes : List Class) → list_all (class_is_plain vectors) classes ≡ true → (i : ℕ) → class_is_valid (class_of classes i) ≡ true
named_classes vectors [] plain i = refl
named_classes vectors (c ∷ cs) plain zero =
    let here = and_parts (class_is_plain vectors c) (list_all (class_is_plain vectors) cs) plain in
    (and_parts (class_is_valid c) (list_all (λ a. not (is_one_of a vectors)) (scalars_of c)) here.0).0
named_classes vectors (c ∷ cs) plain (suc i) = named_classes vectors cs (and_parts (class_is_plain vectors c) (list_all (class_is_plain vectors) cs) plain).1 i

abbrev Reads : List Word → Rest → List Class → List Rule → List Rule → List Command → List Class → List Rule → List Rule → List Command → Type 0
Reads words rest classes rules templates commands classes' rules' templates' commands' =
    (rest' : Rest) × ((more : List Word) → goes (words ++ more) (Forms ∷ []) (idle rest classes rules templates commands) ≡ goes more (Forms ∷ []) (idle rest' classes' rules' templates' commands'))

or_none : (x : Bool) → (x || false) ≡ x
or_none true = refl
or_none false = refl

or_behind : (x y z : Bool) → ((x || (y || false)) || z) ≡ (x || (y || z))
or_behind true y z = refl
or_behind false true z = refl
or_behind false false z = refl

module _ (name n : Sym) (vectors names : List Sym) where
  named_before : (b : Bool) → (name.0 == n.0) ≡ b → is_one_of name vectors ≡ true → (is_one_of n vectors || is_one_of n names) ≡ (is_one_of n vectors || (b || is_one_of n names))
  named_before true same there =
      let here : is_one_of n vectors ≡ true = subst (λ (m : ℕ). list_any (λ (v : Sym). v.0 == m) vectors ≡ true) (eqb-true name.0 n.0 same) there in or_left _ _ here ∙ sym (or_left _ _ here)
  named_before false same there = refl

  -- a name that stood already says nothing new
  told_more : (b : Bool) → is_one_of name vectors ≡ b → (is_one_of n (if b then vectors else vectors ++ name ∷ []) || is_one_of n names) ≡ (is_one_of n vectors || is_one_of n (name ∷ names))
  told_more true there = named_before (name.0 == n.0) refl there
  told_more false new =
      ap (λ (b : Bool). b || is_one_of n names) (list_any-append (λ (v : Sym). v.0 == n.0) vectors (name ∷ [])) ∙ or_behind (is_one_of n vectors) (name.0 == n.0) (is_one_of n names)

-- A name of a vector attribute is read back, where the class has one.
one_vector_read : (v : Bool) (name : Sym) (rest : Rest)
    → (rest' : Rest) × ((more : List Word) → goes ((if v then opening ∷ spelled_keyword keyword.VectorAttribute ∷ spelled_name name ∷ closing ∷ [] else []) ++ more) (Forms ∷ []) (idle rest [] [] [] []) ≡ goes more (Forms ∷ []) (idle rest' [] [] [] []))
    × ((n : Sym) (names : List Sym) → (is_one_of n rest'.vectors || is_one_of n names) ≡ (is_one_of n rest.vectors || is_one_of n (if v then name ∷ names else names)))
one_vector_read false name rest = (rest, λ more. refl, λ n names. refl)
one_vector_read true name rest =
    let b = is_one_of name rest.vectors in (
      record rest { first = 0; vectors = if b then rest.vectors else rest.vectors ++ name ∷ [] },
      λ more. vector-read b name more [] (idle rest [] [] [] []) refl refl,
      λ n names. told_more name n rest.vectors names b refl,
    )

-- The names of the vector attributes are read back.
vectors_read : (cs : List Class) (rest : Rest)
    → (rest' : Rest) × ((more : List Word) → goes (spelled_each spelled_vector cs ++ more) (Forms ∷ []) (idle rest [] [] [] []) ≡ goes more (Forms ∷ []) (idle rest' [] [] [] []))
    × ((n : Sym) → is_one_of n rest'.vectors ≡ (is_one_of n rest.vectors || is_one_of n (vectors_of cs)))
vectors_read [] rest = (rest, λ more. refl, λ n. sym (or_none (is_one_of n rest.vectors)))
vectors_read (c ∷ cs) rest =
    let first = one_vector_read c.vector (attribute_name c (last_field c)) rest in
    let behind = vectors_read cs first.0 in
    let others = spelled_each spelled_vector cs in (
      behind.0,
      λ more. ap (λ (x : List Word). goes x (Forms ∷ []) (idle rest [] [] [] [])) (append_assoc (spelled_vector c) others more) ∙ first.1 (others ++ more) ∙ behind.1 more,
      λ n. behind.2 n ∙ first.2 n (vectors_of cs),
    )

vector_there : (v : Bool) (name : Sym) (names : List Sym) → v ≡ true → is_one_of name (if v then name ∷ names else names) ≡ true
vector_there true name names is = or_left _ _ (eq-eqb name.0 name.0 refl)
vector_there false name names is = absurd (true≢false (sym is))

vector_behind : (v : Bool) (name n : Sym) (names : List Sym) → is_one_of n names ≡ true → is_one_of n (if v then name ∷ names else names) ≡ true
vector_behind true name n names there = or_right _ _ there
vector_behind false name n names there = there

classes_read : (cs done : List Class) (rest : Rest) (vectors : List Sym) → ((n : Sym) → is_one_of n rest.vectors ≡ is_one_of n vectors) → ((n : Sym) → is_one_of n (vectors_of cs) ≡ true → is_one_of n vectors ≡ true)
    → list_all (class_is_plain vectors) cs ≡ true → are_distinct (map (λ c. c.name.0) (done ++ cs)) ≡ true
    → Reads (spelled_each spelled_class cs) rest done [] [] [] (done ++ cs) [] [] []
classes_read [] done rest vectors told there plain distinct = (rest, λ more. ap (λ (xs : List Class). goes more (Forms ∷ []) (idle rest xs [] [] [])) (sym (append-nil done)))
classes_read (c ∷ cs) done rest vectors told there plain distinct =
    let each = and_parts (class_is_plain vectors c) (list_all (class_is_plain vectors) cs) plain in
    let parts = and_parts (class_is_valid c) (list_all (λ a. not (is_one_of a vectors)) (scalars_of c)) each.0 in
    let name : Sym = attribute_name c (last_field c) in
    let under : IsUnder rest.vectors c = record {
      scalars = all_weaker (λ a. not (is_one_of a vectors)) (λ a. not (is_one_of a rest.vectors)) (scalars_of c) (λ a h. ap not (told a) ∙ h) parts.1;
      last = λ is. told name ∙ there name (vector_there c.vector name (vectors_of cs) is);
    } in
    let all : done ++ c ∷ [] ++ cs ≡ done ++ c ∷ cs = append_assoc done (c ∷ []) cs in
    let others = spelled_each spelled_class cs in
    let next : Rest = record rest { first = 0; name = c.name } in
    let behind = classes_read cs (done ++ c ∷ []) next vectors told (λ n h. there n (vector_behind c.vector name n (vectors_of cs) h)) each.1
    (subst (λ (xs : List Class). are_distinct (map (λ c. c.name.0) xs) ≡ true) (sym all) distinct) in (
      behind.0,
      λ more.
          ap (λ (x : List Word). goes x (Forms ∷ []) (idle rest done [] [] [])) (append_assoc (spelled_class c) others more)
          ∙ class-read c (others ++ more) [] (idle rest done [] [] []) refl (apart_before (λ (c : Class). c.name.0) done c cs distinct) parts.0 under
          ∙ behind.1 more
          ∙ ap (λ (xs : List Class). goes more (Forms ∷ []) (idle behind.0 xs [] [] [])) all,
    )

-- ---- how many templates are read

abbrev made_rules : ℕ → List Rule → ℕ
made_rules m [] = m
made_rules m (r ∷ rs) = made_rules (made_behind m r.actions) rs

abbrev made_command : ℕ → Command → ℕ
made_command m (command.Add r) = made_behind m r.actions
made_command m _ = m

abbrev made_commands : ℕ → List Command → ℕ
made_commands m [] = m
made_commands m (c ∷ cs) = made_commands (made_command m c) cs

one_count : (m : ℕ) (a : Action) → made_after m a ≡ m + length (template_of a)
one_count m (action.Make class puts) = omega arith
one_count m (action.Modify cell puts) = omega arith
one_count m (action.Remove cells) = omega arith
one_count m (action.Write items) = omega arith
one_count m (action.Bind variable x) = omega arith
one_count m (action.Cbind cell) = omega arith
one_count m action.Halt = omega arith
one_count m (action.Build template holes) = omega arith

actions_count : (m : ℕ) (xs : List Action) → made_behind m xs ≡ m + length (templates_in xs)
actions_count m [] = omega arith
actions_count m (a ∷ xs) = omega (arith, one_count m a, actions_count (made_after m a) xs, length-append (template_of a) (templates_in xs))

rules_count : (m : ℕ) (rs : List Rule) → made_rules m rs ≡ m + length (templates_by rs)
rules_count m [] = omega arith
rules_count m (r ∷ rs) = omega (arith, actions_count m r.actions, rules_count (made_behind m r.actions) rs, length-append (templates_in r.actions) (templates_by rs))

commands_count : (m : ℕ) (cs : List Command) → made_commands m cs ≡ made_rules m (added_by cs)
commands_count m [] = refl
commands_count m (command.Add r ∷ cs) = commands_count (made_behind m r.actions) cs
commands_count m (command.Make class puts ∷ cs) = commands_count m cs
commands_count m (command.Remove tags ∷ cs) = commands_count m cs
commands_count m (command.RemoveAll ∷ cs) = commands_count m cs
commands_count m (command.Run n ∷ cs) = commands_count m cs
commands_count m (command.Wm tags ∷ cs) = commands_count m cs
commands_count m (command.Ppwm p ∷ cs) = commands_count m cs
commands_count m (command.Cs ∷ cs) = commands_count m cs
commands_count m (command.Pm ns ∷ cs) = commands_count m cs
commands_count m (command.Strategy g ∷ cs) = commands_count m cs
commands_count m (command.Watch n ∷ cs) = commands_count m cs
commands_count m (command.Pbreak ns ∷ cs) = commands_count m cs
commands_count m (command.Exit ∷ cs) = commands_count m cs
commands_count m (command.Excise ns ∷ cs) = commands_count m cs
commands_count m (command.Matches ns ∷ cs) = commands_count m cs
commands_count m (command.Back n ∷ cs) = commands_count m cs

next_front : (m : ℕ) (xs ys : List ℕ) → are_next m (xs ++ ys) ≡ true → are_next m xs ≡ true
next_front m [] ys e = refl
next_front m (x ∷ xs) ys e = let parts = and_parts (x == m) (are_next (suc m) (xs ++ ys)) e in and_from _ _ parts.0 (next_front (suc m) xs ys parts.1)

next_back : (m : ℕ) (xs ys : List ℕ) → are_next m (xs ++ ys) ≡ true → are_next (m + length xs) ys ≡ true
next_back m [] ys e = let none : m ≡ m + 0 = omega arith in ap (λ (i : ℕ). are_next i ys) (sym none) ∙ e
next_back m (x ∷ xs) ys e =
    let parts = and_parts (x == m) (are_next (suc m) (xs ++ ys)) e in
    let same : suc m + length xs ≡ m + suc (length xs) = omega arith in
    ap (λ (i : ℕ). are_next i ys) (sym same) ∙ next_back (suc m) xs ys parts.1

-- behind the actions of a production stand the templates of the others
next_behind : (m : ℕ) (xs : List Action) (ns : List ℕ) → are_next m (templates_in xs ++ ns) ≡ true → (are_next m (templates_in xs) ≡ true) × (are_next (made_behind m xs) ns ≡ true)
next_behind m xs ns e = (next_front m (templates_in xs) ns e, ap (λ (i : ℕ). are_next i ns) (actions_count m xs) ∙ next_back m (templates_in xs) ns e)

-- ---- productions and commands

rules_read : (classes : List Class) (all : List Rule) (m : ℕ) (rs done : List Rule) (rest : Rest) → AreNamed classes → list_all (rule_is_plain classes all) rs ≡ true → are_distinct (map (λ r. r.name.0) (done ++ rs)) ≡ true → are_next m (templates_by rs) ≡ true
    → Reads (spelled_each (spelled_rule classes all) rs) rest classes done (take m all) [] classes (done ++ rs) (take (made_rules m rs) all) []
rules_read classes all m [] done rest names plain distinct next = (rest, λ more. ap (λ (xs : List Rule). goes more (Forms ∷ []) (idle rest classes xs (take m all) [])) (sym (append-nil done)))
rules_read classes all m (r ∷ rs) done rest names plain distinct next =
    let each = and_parts (rule_is_plain classes all r) (list_all (rule_is_plain classes all) rs) plain in
    let parts = next_behind m r.actions (templates_by rs) next in
    let n = made_behind m r.actions in
    let whole : done ++ r ∷ [] ++ rs ≡ done ++ r ∷ rs = append_assoc done (r ∷ []) rs in
    let others = spelled_each (spelled_rule classes all) rs in
    let behind = rules_read classes all n rs (done ++ r ∷ []) (after_rule rest r) names each.1 (subst (λ (xs : List Rule). are_distinct (map (λ r. r.name.0) xs) ≡ true) (sym whole) distinct) parts.1 in (
      behind.0,
      λ more.
          ap (λ (x : List Word). goes x (Forms ∷ []) (idle rest classes done (take m all) [])) (append_assoc (spelled_rule classes all r) others more)
          ∙ rule-read classes done all m [] (others ++ more) [] names r rest (or_none (has_title r.name done) ∙ apart_before (λ (r : Rule). r.name.0) done r rs distinct) each.0 parts.0
          ∙ behind.1 more
          ∙ ap (λ (xs : List Rule). goes more (Forms ∷ []) (idle behind.0 classes xs (take (made_rules n rs) all) [])) whole,
    )

-- A production that is added has a name of its own, and stands after a `make` or a `run`.
abbrev MayCome : List Rule → List Command → Rule → Type 0
MayCome rules done r =
    ((has_title r.name rules || has_title r.name (added_by done)) ≡ false) × (list_all precedes_rules done ≡ false)

may_come : (rules : List Rule) (done : List Command) (r : Rule) (cs : List Command) → titles_are_distinct rules (done ++ command.Add r ∷ cs) ≡ true → adds_late (done ++ command.Add r ∷ cs) ≡ true → MayCome rules done r
may_come rules done r cs distinct late =
    let all : rules ++ added_by (done ++ command.Add r ∷ cs) ≡ (rules ++ added_by done) ++ r ∷ added_by cs =
    ap (λ (rs : List Rule). rules ++ rs) (flat_map-append added done (command.Add r ∷ cs)) ∙ sym (append_assoc rules (added_by done) (r ∷ added_by cs)) in (
      sym (list_any-append (λ (s : Rule). s.name.0 == r.name.0) rules (added_by done))
          ∙ apart_before title (rules ++ added_by done) r (added_by cs) (subst (λ (rs : List Rule). are_distinct (map title rs) ≡ true) all distinct),
      late_at done r cs late,
    )

command_read : (classes : List Class) (rules all : List Rule) (m : ℕ) (c : Command) (done : List Command) (rest : Rest) → AreNamed classes → command_is_plain classes all c ≡ true → ((r : Rule) → c ≡ command.Add r → MayCome rules done r)
    → are_next m (templates_by (added c)) ≡ true → Reads (spelled_command classes all c) rest classes rules (take m all) done classes rules (take (made_command m c) all) (done ++ c ∷ [])
command_read classes rules all m (command.Make class puts) done rest names plain may next =
    let parts = and_parts (nat_lt class (length classes)) (list_all (fixed_is_valid (class_of classes class)) puts) plain in
    (record rest { first = 0; class = class; shows = false }, λ more. fact-read class puts more [] (idle rest classes rules (take m all) done) names (ltb-true _ _ parts.0) parts.1)
command_read classes rules all m (command.Remove tags) done rest names plain may next =
    let parts = and_parts (nat_lt 0 (length tags)) (list_all is_natural tags) plain in
    (record rest { first = 0 }, λ more. remove-read tags more [] (idle rest classes rules (take m all) done) parts.0 parts.1)
command_read classes rules all m command.RemoveAll done rest names plain may next = (record rest { first = 0 }, λ more. remove_all-read more [] (idle rest classes rules (take m all) done))
command_read classes rules all m (command.Run None) done rest names plain may next = (record rest { first = 0 }, λ more. run-read more [] (idle rest classes rules (take m all) done))
command_read classes rules all m (command.Run (Some n)) done rest names plain may next = (record rest { first = 0 }, λ more. run_so_often-read n more [] (idle rest classes rules (take m all) done) plain)
command_read classes rules all m (command.Wm tags) done rest names plain may next = (record rest { first = 0 }, λ more. wm-read tags more [] (idle rest classes rules (take m all) done) plain)
command_read classes rules all m (command.Ppwm None) done rest names plain may next = (record rest { first = 0 }, λ more. all_shown-read classes more [] (idle rest classes rules (take m all) done))
command_read classes rules all m (command.Ppwm (Some p)) done rest names plain may next =
    let parts = and_parts (nat_lt p.0 (length classes)) (list_all (fixed_is_valid (class_of classes p.0)) p.1) plain in
    (record rest { first = 0; class = p.0; shows = true }, λ more. shown-read p.0 p.1 more [] (idle rest classes rules (take m all) done) names (ltb-true _ _ parts.0) parts.1)
command_read classes rules all m command.Cs done rest names plain may next = (record rest { first = 0 }, λ more. cs-read more [] (idle rest classes rules (take m all) done))
command_read classes rules all m (command.Pm ns) done rest names plain may next = (record rest { first = 0 }, λ more. pm-read ns more [] (idle rest classes rules (take m all) done) plain)
command_read classes rules all m (command.Strategy set) done rest names plain may next = (record rest { first = 0 }, λ more. strategy-read set more [] (idle rest classes rules (take m all) done))
command_read classes rules all m (command.Watch None) done rest names plain may next = (record rest { first = 0 }, λ more. watch-read more [] (idle rest classes rules (take m all) done))
command_read classes rules all m (command.Watch (Some n)) done rest names plain may next = (record rest { first = 0 }, λ more. watch_at-read n more [] (idle rest classes rules (take m all) done) plain)
command_read classes rules all m (command.Pbreak ns) done rest names plain may next = (record rest { first = 0 }, λ more. pbreak-read ns more [] (idle rest classes rules (take m all) done))
command_read classes rules all m command.Exit done rest names plain may next = (record rest { first = 0 }, λ more. exit-read more [] (idle rest classes rules (take m all) done))
command_read classes rules all m (command.Add r) done rest names plain may next =
    let come = may r refl in (
      after_rule rest r,
      λ more.
          rule-read classes rules all m done more [] names r rest come.0 plain (next_front m (templates_in r.actions) [] next)
          ∙ ap (λ (b : Bool). goes more (Forms ∷ []) (idle (after_rule rest r) classes (rules_with b rules r) (take (made_behind m r.actions) all) (commands_with b done r))) come.1,
    )
command_read classes rules all m (command.Excise ns) done rest names plain may next = (record rest { first = 0 }, λ more. excise-read ns more [] (idle rest classes rules (take m all) done) plain)
command_read classes rules all m (command.Matches ns) done rest names plain may next = (record rest { first = 0 }, λ more. matches-read ns more [] (idle rest classes rules (take m all) done) plain)
command_read classes rules all m (command.Back n) done rest names plain may next = (record rest { first = 0 }, λ more. back-read n more [] (idle rest classes rules (take m all) done) plain)

next_command : (m : ℕ) (c : Command) (rs : List Rule) → are_next m (templates_by (added c ++ rs)) ≡ true → (are_next m (templates_by (added c)) ≡ true) × (are_next (made_command m c) (templates_by rs) ≡ true)
next_command m (command.Add r) rs e =
    let parts = next_behind m r.actions (templates_by rs) e in
    (ap (are_next m) (append-nil (templates_in r.actions)) ∙ parts.0, parts.1)
next_command m _ rs e = (refl, e)

commands_read : (classes : List Class) (rules all : List Rule) (m : ℕ) (cs done : List Command) (rest : Rest) → AreNamed classes → list_all (command_is_plain classes all) cs ≡ true
    → titles_are_distinct rules (done ++ cs) ≡ true → adds_late (done ++ cs) ≡ true → are_next m (templates_by (added_by cs)) ≡ true
    → Reads (spelled_each (spelled_command classes all) cs) rest classes rules (take m all) done classes rules (take (made_commands m cs) all) (done ++ cs)
commands_read classes rules all m [] done rest names plain distinct late next = (rest, λ more. ap (λ (xs : List Command). goes more (Forms ∷ []) (idle rest classes rules (take m all) xs)) (sym (append-nil done)))
commands_read classes rules all m (c ∷ cs) done rest names plain distinct late next =
    let each = and_parts (command_is_plain classes all c) (list_all (command_is_plain classes all) cs) plain in
    let parts = next_command m c (added_by cs) next in
    let n = made_command m c in
    let whole : done ++ c ∷ [] ++ cs ≡ done ++ c ∷ cs = append_assoc done (c ∷ []) cs in
    let others = spelled_each (spelled_command classes all) cs in
    let may : (r : Rule) → c ≡ command.Add r → MayCome rules done r =
    λ r e. may_come rules done r cs (subst (λ (d : Command). titles_are_distinct rules (done ++ d ∷ cs) ≡ true) e distinct) (subst (λ (d : Command). adds_late (done ++ d ∷ cs) ≡ true) e late) in
    let first = command_read classes rules all m c done rest names each.0 may parts.0 in
    let behind =
    commands_read classes rules all n cs (done ++ c ∷ []) first.0 names each.1
    (subst (λ (xs : List Command). titles_are_distinct rules xs ≡ true) (sym whole) distinct) (subst (λ (xs : List Command). adds_late xs ≡ true) (sym whole) late) parts.1 in (
      behind.0,
      λ more.
          ap (λ (x : List Word). goes x (Forms ∷ []) (idle rest classes rules (take m all) done)) (append_assoc (spelled_command classes all c) others more)
          ∙ first.1 (others ++ more)
          ∙ behind.1 more
          ∙ ap (λ (xs : List Command). goes more (Forms ∷ []) (idle behind.0 classes rules (take (made_commands n cs) all) xs)) whole,
    )

-- ---- the law

at_end : (s : State) → goes [] (Forms ∷ []) s ≡ Ok s
unfolding goes ends
at_end s = refl

-- before the first form
abbrev nothing_left : Rest
nothing_left = record { name = record { 0 = 0 }; first = 0; vectors = []; class = 0; values = []; elements = []; variables = 0; shows = false }

-- Each program that has a spelling is what its spelling is read as.
pub program-read : (classes : List Class) (rules templates : List Rule) (commands : List Command) → is_plain classes rules templates commands ≡ true
    → AreRead (spelled_program classes rules templates commands) classes rules templates commands
program-read classes rules templates commands plain =
    let p9 = and_parts _ (builds_in_order (rules ++ added_by commands) templates) plain in
    let p0 = and_parts _ (adds_late commands) p9.0 in
    let p1 = and_parts _ (titles_are_distinct rules commands) p0.0 in
    let p2 = and_parts _ (are_distinct (map (λ c. c.name.0) classes)) p1.0 in
    let p3 = and_parts _ (list_all (command_is_plain classes templates) commands) p2.0 in
    let p4 = and_parts (list_all (class_is_plain (vectors_of classes)) classes) (list_all (rule_is_plain classes templates) rules) p3.0 in
    let built = templates_by (rules ++ added_by commands) in
    let p8 = and_parts (are_next 0 built) (length built == length templates) p9.1 in
    let apart : built ≡ templates_by rules ++ templates_by (added_by commands) = flat_map-append (λ (r : Rule). templates_in r.actions) rules (added_by commands) in
    let order : are_next 0 (templates_by rules ++ templates_by (added_by commands)) ≡ true = ap (are_next 0) (sym apart) ∙ p8.0 in
    let m = made_rules 0 rules in
    let later : are_next m (templates_by (added_by commands)) ≡ true =
    ap (λ (i : ℕ). are_next i (templates_by (added_by commands))) (rules_count 0 rules) ∙ next_back 0 (templates_by rules) (templates_by (added_by commands)) order in
    let end = made_commands m commands in
    let size = eqb-true _ _ p8.1 in
    let ends : end ≡ length templates =
    omega (arith, commands_count m commands, rules_count m (added_by commands), rules_count 0 rules, size, ap (λ (xs : List ℕ). length xs) apart, length-append (templates_by rules) (templates_by (added_by commands))) in
    let names : AreNamed classes = record { classes_apart = p2.1; classes_valid = named_classes (vectors_of classes) classes p4.0 } in
    let vector_words = spelled_each spelled_vector classes in
    let first_words = spelled_each spelled_class classes in
    let next_words = spelled_each (spelled_rule classes templates) rules in
    let last_words = spelled_each (spelled_command classes templates) commands in
    let vectors = vectors_read classes nothing_left in
    let first = classes_read classes [] vectors.0 (vectors_of classes) vectors.2 (λ n h. h) p4.0 p2.1 in
    let next = rules_read classes templates 0 rules [] first.0 names p4.1 (distinct_front title rules (added_by commands) p1.1) (next_front 0 (templates_by rules) (templates_by (added_by commands)) order) in
    let last = commands_read classes rules templates m commands [] next.0 names p3.1 p1.1 p0.1 later in
    record {
      state = idle last.0 classes rules templates commands;
      outcome = ap (λ (x : List Word). outcome_of x) (
          sym (append-nil (vector_words ++ first_words ++ next_words ++ last_words))
          ∙ append_assoc (vector_words ++ first_words ++ next_words) last_words []
          ∙ append_assoc (vector_words ++ first_words) next_words (last_words ++ [])
          ∙ append_assoc vector_words first_words (next_words ++ (last_words ++ []))
          )
          ∙ vectors.1 (first_words ++ (next_words ++ (last_words ++ [])))
          ∙ first.1 (next_words ++ (last_words ++ []))
          ∙ next.1 (last_words ++ [])
          ∙ last.1 []
          ∙ at_end (idle last.0 classes rules (take end templates) commands)
          ∙ ap (λ (ts : List Rule). Ok (idle last.0 classes rules ts commands)) (take_all end templates (omega (arith, ends)));
      classes_are = refl;
      rules_are = refl;
      templates_are = refl;
      commands_are = refl;
    }
