-- A program is valid without one of its productions, and with one more whose name none has.
use Rattle.std.proofs.Common.{◌≡◌, ℕ, zero, suc, List, [], ◌∷◌, ◌++◌, length, map, Bool, true, false, not, ◌&&◌, ◌||◌, ◌==◌, cond, Option, Some, None, refl, ap, sym, ◌∙◌, subst, IsTrue, true≢false, unwrap_or, option_map}
use Rattle.std.specs.List.{list_all}
use Rattle.std.proofs.lemmas.Bool.{and_parts, and_from, eqb-true, eq-eqb}
use Rattle.std.proofs.lemmas.List.{map-append}
use Rattle.std.proofs.lemmas.List.Folds.{list_any-append}
use Rattle.ops_base.specs.declared.commands.Command.{Command}
use Rattle.ops_base.specs.declared.elements.Class.{Class}
use Rattle.ops_base.specs.declared.rules.Rule.{Rule}
use Rattle.ops_base.specs.declared.values.Sym.{Sym}
use Rattle.ops_base.specs.Live.{without}
use Rattle.ops_base.specs.Valid.{fits, longest_list, is_in, are_distinct, class_is_valid, rule_is_valid, template_is_valid, command_is_valid, rule_builds_from, command_builds_from, is_valid}
use Rattle.ops_meaning.specs.Running.{rule_named, without_named}
use Rattle.ops_base.specs.declared.programs.Program.{Program}
use Rattle.std.proofs.lemmas.List.Quantifiers.{position-Some}
use Rattle.live_rules.specs.Moves.{IsWith, without_any}
use Rattle.live_rules.proofs.Numbers.{position_step, without-append}

-- what is valid of a program, part by part
pub record Parts (classes : List Class) (rules templates : List Rule) (cs : List Command) (text : ℕ) : Type 0 where
  pub front : (fits classes && fits cs && Rattle.std.proofs.Common.nat_le text longest_list && list_all class_is_valid classes) ≡ true
  pub rules_valid : list_all (rule_is_valid classes text) rules ≡ true
  pub templates_valid : list_all (template_is_valid classes text) templates ≡ true
  pub commands_valid : list_all (command_is_valid classes text) cs ≡ true
  pub rules_build : list_all (rule_builds_from (length templates)) rules ≡ true
  pub commands_build : list_all (command_builds_from (length templates)) cs ≡ true
  pub class_names : are_distinct (map (λ c. c.name.0) classes) ≡ true
  pub rule_names : are_distinct (map (λ r. r.name.0) rules) ≡ true

pub parts_of : (classes : List Class) (rules templates : List Rule) (cs : List Command) (text : ℕ) → is_valid classes rules templates cs text ≡ true → Parts classes rules templates cs text
parts_of classes rules templates cs text h =
    let tenth = and_parts _ _ h in
    let ninth = and_parts _ _ tenth.0 in
    let eighth = and_parts _ _ ninth.0 in
    let seventh = and_parts _ _ eighth.0 in
    let sixth = and_parts _ _ seventh.0 in
    let fifth = and_parts _ _ sixth.0 in
    let fourth = and_parts _ _ fifth.0 in
    record {
      front = fourth.0;
      rules_valid = fourth.1;
      templates_valid = fifth.1;
      commands_valid = sixth.1;
      rules_build = seventh.1;
      commands_build = eighth.1;
      class_names = ninth.1;
      rule_names = tenth.1;
    }

pub whole_of : (classes : List Class) (rules templates : List Rule) (cs : List Command) (text : ℕ) → Parts classes rules templates cs text → is_valid classes rules templates cs text ≡ true
whole_of classes rules templates cs text p =
    and_from _ _ (and_from _ _ (and_from _ _ (and_from _ _ (and_from _ _ (and_from _ _ (and_from _ _ p.front p.rules_valid) p.templates_valid) p.commands_valid) p.rules_build) p.commands_build) p.class_names) p.rule_names

-- ---- without one

pub all_without : {X : Type 0} (p : X → Bool) (k : ℕ) (xs : List X) → list_all p xs ≡ true → list_all p (without k xs) ≡ true
all_without p k [] h = refl
all_without p zero (x ∷ xs) h = (and_parts (p x) (list_all p xs) h).1
all_without p (suc k) (x ∷ xs) h = let parts = and_parts (p x) (list_all p xs) h in and_from _ _ parts.0 (all_without p k xs parts.1)

-- what is not among them is not among fewer
absent_without : (x k : ℕ) (rules : List Rule) → is_in x (map (λ r. r.name.0) rules) ≡ false → is_in x (map (λ r. r.name.0) (without k rules)) ≡ false
absent_without x k [] h = h
absent_without x zero (r ∷ rules) h = (neither (r.name.0 == x) (is_in x (map (λ r. r.name.0) rules)) h).1
  where
    neither : (a b : Bool) → (a || b) ≡ false → (a ≡ false) × (b ≡ false)
    neither true b h = absurd (true≢false h)
    neither false b h = (refl, h)
absent_without x (suc k) (r ∷ rules) h = still (r.name.0 == x) (is_in x (map (λ r. r.name.0) rules)) h (absent_without x k rules)
  where
    still : (a b : Bool) → (a || b) ≡ false → (b ≡ false → is_in x (map (λ r. r.name.0) (without k rules)) ≡ false) → (a || is_in x (map (λ r. r.name.0) (without k rules))) ≡ false
    still true b h f = absurd (true≢false h)
    still false b h f = f h

not_true : (b : Bool) → not b ≡ true → b ≡ false
not_true true h = absurd (true≢false (sym h))
not_true false h = refl

not_false : (b : Bool) → b ≡ false → not b ≡ true
not_false true h = absurd (true≢false h)
not_false false h = refl

distinct_without : (k : ℕ) (rules : List Rule) → are_distinct (map (λ r. r.name.0) rules) ≡ true → are_distinct (map (λ r. r.name.0) (without k rules)) ≡ true
distinct_without k [] h = refl
distinct_without zero (r ∷ rules) h = (and_parts (not (is_in r.name.0 (map (λ r. r.name.0) rules))) _ h).1
distinct_without (suc k) (r ∷ rules) h =
    let parts = and_parts (not (is_in r.name.0 (map (λ r. r.name.0) rules))) (are_distinct (map (λ r. r.name.0) rules)) h in
    and_from _ _ (not_false _ (absent_without r.name.0 k rules (not_true _ parts.0))) (distinct_without k rules parts.1)

pub valid_without : (classes : List Class) (rules templates : List Rule) (cs : List Command) (text k : ℕ) → is_valid classes rules templates cs text ≡ true → is_valid classes (without k rules) templates cs text ≡ true
valid_without classes rules templates cs text k h =
    let p = parts_of classes rules templates cs text h in
    whole_of classes (without k rules) templates cs text (record {
      front = p.front;
      rules_valid = all_without (rule_is_valid classes text) k rules p.rules_valid;
      templates_valid = p.templates_valid;
      commands_valid = p.commands_valid;
      rules_build = all_without (rule_builds_from (length templates)) k rules p.rules_build;
      commands_build = p.commands_build;
      class_names = p.class_names;
      rule_names = distinct_without k rules p.rule_names;
    })

-- ---- with one more

all_with : {X : Type 0} (p : X → Bool) (xs : List X) (x : X) → list_all p xs ≡ true → p x ≡ true → list_all p (xs ++ x ∷ []) ≡ true
all_with p [] x h k = and_from _ _ k refl
all_with p (y ∷ xs) x h k = let parts = and_parts (p y) (list_all p xs) h in and_from _ _ parts.0 (all_with p xs x parts.1 k)

-- ---- names

-- where the one of this name is taken out, none has it
absent_named : (name : Sym) (rules : List Rule) → are_distinct (map (λ r. r.name.0) rules) ≡ true → is_in name.0 (map (λ r. r.name.0) (without_named rules name)) ≡ false
absent_named name [] h = refl
absent_named name (r ∷ rules) h =
    let parts = and_parts (not (is_in r.name.0 (map (λ r. r.name.0) rules))) (are_distinct (map (λ r. r.name.0) rules)) h in
    ap (λ o. is_in name.0 (map (λ r. r.name.0) (unwrap_or (option_map (λ n. without n (r ∷ rules)) o) (r ∷ rules)))) (position_step (λ r. r.name.0 == name.0) r rules)
    ∙ by (r.name.0 == name.0) refl (rule_named rules name) (not_true _ parts.0) (absent_named name rules parts.1)
  where
    names : List Rule → List ℕ
    names rs = map (λ r. r.name.0) rs

    by : (b : Bool) → (r.name.0 == name.0) ≡ b → (o : Option ℕ) → is_in r.name.0 (names rules) ≡ false → is_in name.0 (names (unwrap_or (option_map (λ n. without n rules) o) rules)) ≡ false
        → is_in name.0 (names (unwrap_or (option_map (λ n. without n (r ∷ rules)) (cond b (Some 0) (option_map suc o))) (r ∷ rules))) ≡ false
    by true e o here rest = let same : r.name.0 ≡ name.0 = eqb-true r.name.0 name.0 e in ap (λ x. is_in x (names rules)) (sym same) ∙ here
    by false e None here rest = ap (λ b. b || is_in name.0 (names rules)) e ∙ rest
    by false e (Some n) here rest = ap (λ b. b || is_in name.0 (names (without n rules))) e ∙ rest

distinct_with : (x : ℕ) (xs : List ℕ) → are_distinct xs ≡ true → is_in x xs ≡ false → are_distinct (xs ++ x ∷ []) ≡ true
distinct_with x [] h e = refl
distinct_with x (y ∷ xs) h e =
    let parts = and_parts (not (is_in y xs)) (are_distinct xs) h in
    by (y == x) refl (is_in x xs) refl e parts.0 parts.1 (λ absent. distinct_with x xs parts.1 absent)
  where
    by : (b : Bool) → (y == x) ≡ b → (c : Bool) → is_in x xs ≡ c → (b || c) ≡ false → not (is_in y xs) ≡ true → are_distinct xs ≡ true → (is_in x xs ≡ false → are_distinct (xs ++ x ∷ []) ≡ true) → are_distinct (y ∷ (xs ++ x ∷ [])) ≡ true
    by true is c in_rest e fresh rest more = absurd (true≢false e)
    by false is true in_rest e fresh rest more = absurd (true≢false e)
    by false is false in_rest e fresh rest more =
        and_from _ _ (not_false _ (list_any-append (λ z. z == y) xs (x ∷ []) ∙ none (not_true _ fresh) other)) (more in_rest)
      where
        other : (x == y) ≡ false
        other = turned (x == y) refl
          where
            turned : (b : Bool) → (x == y) ≡ b → b ≡ false
            turned true same = absurd (true≢false (sym (eq-eqb y x (sym (eqb-true x y same))) ∙ is))
            turned false same = refl

        none : is_in y xs ≡ false → (x == y) ≡ false → (is_in y xs || ((x == y) || false)) ≡ false
        none a b = ap (λ c. c || ((x == y) || false)) a ∙ ap (λ c. c || false) b

pub valid_with : (classes : List Class) (rules templates : List Rule) (cs : List Command) (text : ℕ) (r : Rule) → is_valid classes rules templates cs text ≡ true → rule_is_valid classes text r ≡ true → rule_builds_from (length templates) r ≡ true
    → is_valid classes (without_named rules r.name ++ r ∷ []) templates cs text ≡ true
valid_with classes rules templates cs text r h valid builds = by (rule_named rules r.name) refl
  where
    names : List Rule → List ℕ
    names rs = map (λ r. r.name.0) rs

    more : (left : List Rule) → is_valid classes left templates cs text ≡ true → is_in r.name.0 (names left) ≡ false → is_valid classes (left ++ r ∷ []) templates cs text ≡ true
    more left h absent =
        let p = parts_of classes left templates cs text h in
        whole_of classes (left ++ r ∷ []) templates cs text (record {
          front = p.front;
          rules_valid = all_with (rule_is_valid classes text) left r p.rules_valid valid;
          templates_valid = p.templates_valid;
          commands_valid = p.commands_valid;
          rules_build = all_with (rule_builds_from (length templates)) left r p.rules_build builds;
          commands_build = p.commands_build;
          class_names = p.class_names;
          rule_names = ap are_distinct (map-append (λ r. r.name.0) left (r ∷ [])) ∙ distinct_with r.name.0 (names left) p.rule_names absent;
        })

    left_at : Option ℕ → List Rule
    left_at o = unwrap_or (option_map (λ n. without n rules) o) rules

    left_valid : (o : Option ℕ) → is_valid classes (left_at o) templates cs text ≡ true
    left_valid None = h
    left_valid (Some n) = valid_without classes rules templates cs text n h

    by : (o : Option ℕ) → rule_named rules r.name ≡ o → is_valid classes (without_named rules r.name ++ r ∷ []) templates cs text ≡ true
    by o is =
        more (without_named rules r.name) (left_valid (rule_named rules r.name))
        (absent_named r.name rules (let p = parts_of classes rules templates cs text h in p.rule_names))

-- where one is taken out by its number
pub valid_without_named : (classes : List Class) (rules templates : List Rule) (cs : List Command) (text : ℕ) (name : Sym) → is_valid classes rules templates cs text ≡ true → is_valid classes (without_named rules name) templates cs text ≡ true
valid_without_named classes rules templates cs text name h = by (rule_named rules name)
  where
    by : (o : Option ℕ) → is_valid classes (unwrap_or (option_map (λ n. without n rules) o) rules) templates cs text ≡ true
    by None = h
    by (Some n) = valid_without classes rules templates cs text n h

-- ---- one more, and one of its name less

pub added_is : (rules : List Rule) (r : Rule) → without_any (rule_named rules r.name) (rules ++ r ∷ []) ≡ without_named rules r.name ++ r ∷ []
added_is rules r = by (rule_named rules r.name) refl
  where
    by : (o : Option ℕ) → rule_named rules r.name ≡ o → without_any o (rules ++ r ∷ []) ≡ unwrap_or (option_map (λ n. without n rules) o) rules ++ r ∷ []
    by None is = refl
    by (Some n) is = without-append n rules (r ∷ []) (position-Some (λ q. q.name.0 == r.name.0) rules n r is).0

pub taken_is : (rules : List Rule) (name : Sym) → without_any (rule_named rules name) rules ≡ without_named rules name
taken_is rules name = by (rule_named rules name)
  where
    by : (o : Option ℕ) → without_any o rules ≡ unwrap_or (option_map (λ n. without n rules) o) rules
    by None = refl
    by (Some n) = refl

-- what is left of a program that was taken apart
pub left_rules : (p q : Program) (number : Option ℕ) (left : List Rule) (name : Sym) → q ≡ p → number ≡ rule_named p.rules name → left ≡ without_any number q.rules → left ≡ without_named q.rules name
left_rules p q number left name same is all =
    all ∙ ap (λ o. without_any o q.rules) (is ∙ ap (λ (p : Program). rule_named p.rules name) (sym same)) ∙ taken_is q.rules name

pub left_valid : (p q : Program) (number : Option ℕ) (left : List Rule) (name : Sym) → q ≡ p → number ≡ rule_named p.rules name → left ≡ without_any number q.rules → IsTrue (is_valid q.classes q.rules q.templates q.commands (length q.text))
    → IsTrue (is_valid q.classes left q.templates q.commands (length q.text))
left_valid p q number left name same is all valid =
    let rules = left_rules p q number left name same is all in
    let P : List Rule → Type 0 = λ rs. IsTrue (is_valid q.classes rs q.templates q.commands (length q.text)) in
    subst P (sym rules) (valid_without_named q.classes q.rules q.templates q.commands (length q.text) name valid)

module _ (p q : Program) (r : Rule) (number : Option ℕ) (more left : List Rule) (same : q ≡ p) (is : number ≡ rule_named p.rules r.name) (all : more ≡ q.rules ++ r ∷ []) (less : left ≡ without_any number more) where
  pub added_rules : left ≡ without_named q.rules r.name ++ r ∷ []
  added_rules =
      less ∙ ap (without_any number) all ∙ ap (λ o. without_any o (q.rules ++ r ∷ [])) (is ∙ ap (λ (p : Program). rule_named p.rules r.name) (sym same)) ∙ added_is q.rules r

  pub added_valid : IsTrue (is_valid q.classes q.rules q.templates q.commands (length q.text)) → IsTrue (rule_is_valid p.classes (length p.text) r) → IsTrue (rule_builds_from (length p.templates) r)
      → IsTrue (is_valid q.classes left q.templates q.commands (length q.text))
  added_valid valid rule builds =
      let P : List Rule → Type 0 = λ rs. IsTrue (is_valid q.classes rs q.templates q.commands (length q.text)) in
      let Q : Program → Type 0 = λ p. IsTrue (rule_is_valid p.classes (length p.text) r) in
      let R : Program → Type 0 = λ p. IsTrue (rule_builds_from (length p.templates) r) in
      subst P (sym added_rules) (valid_with q.classes q.rules q.templates q.commands (length q.text) r valid (subst Q (sym same) rule) (subst R (sym same) builds))

-- the program with these lists is the one before with these productions
pub with_rules : (p q new : Program) (rules : List Rule) → q ≡ p → new.classes ≡ q.classes → new.rules ≡ rules → new.templates ≡ q.templates → new.commands ≡ q.commands → new.text ≡ q.text → IsWith rules p.commands p new
with_rules p q new rules same classes is templates commands text = record {
  rules_are = is;
  commands_are = commands ∙ ap (λ (p : Program). p.commands) same;
  classes = classes ∙ ap (λ (p : Program). p.classes) same;
  templates = templates ∙ ap (λ (p : Program). p.templates) same;
  text = text ∙ ap (λ (p : Program). p.text) same;
}
