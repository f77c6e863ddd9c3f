-- A production with other constants is as valid as it was.
use Rattle.std.proofs.Common.{◌≡◌, ℕ, suc, ◌+◌, List, [], ◌∷◌, length, map, Bool, true, false, cond, not, ◌&&◌, ◌==◌, refl, ap, ap₂, sym, ◌∙◌, arith, nat_le, count_by}
use Rattle.std.specs.List.{list_all}
use Rattle.std.proofs.lemmas.List.{length-append}
use Rattle.ops_base.specs.declared.filling.Filling.{Filling}
use Rattle.ops_base.specs.declared.values.Pred.{Pred}
use Rattle.ops_base.specs.declared.elements.Class.{Class}
use Rattle.ops_base.specs.declared.conditions.Operand.{Operand}
use Rattle.ops_base.specs.declared.conditions.Operand.TheVariants as operand
use Rattle.ops_base.specs.declared.conditions.Test.{Test}
use Rattle.ops_base.specs.declared.conditions.Condition.{Condition}
use Rattle.ops_base.specs.declared.conditions.Part.{Part}
use Rattle.ops_base.specs.declared.conditions.Part.TheVariants as part
use Rattle.ops_base.specs.declared.actions.Term.{Term}
use Rattle.ops_base.specs.declared.actions.Term.TheVariants as term
use Rattle.ops_base.specs.declared.actions.Put.{Put}
use Rattle.ops_base.specs.declared.actions.Item.{Item}
use Rattle.ops_base.specs.declared.actions.Item.TheVariants as item
use Rattle.ops_base.specs.declared.actions.Action.{Action}
use Rattle.ops_base.specs.declared.actions.Action.TheVariants as action
use Rattle.ops_base.specs.declared.rules.Rule.{Rule}
use Rattle.ops_base.specs.Valid.{longest_list, most_conditions, fits, class_of, is_vector, is_attribute, is_field, Sight, Known, operand_is_valid, test_is_valid, sight_with, sight_after, tests_are_valid, sight_after_tests, sight_after_condition, condition_is_valid, members_are_valid, sight_after_members, part_is_valid, sight_after_part, parts_are_valid, sight_after_parts, nothing_in_sight, cells_of, elements_in, elements_of, specificity_of, specificity, first_is_positive, class_of_cell, term_is_valid, put_is_valid, puts_are_valid, item_is_valid, action_is_valid, known_after, actions_are_valid, known_after_actions, known_of, known_at_end, rule_is_valid}
use Rattle.ops_base.specs.Filling.{each, total, one, value_filled, in_operand, operand_filled, in_test, test_filled, in_condition, condition_filled, in_part, part_filled, in_term, term_filled, in_put, put_filled, in_item, item_filled, in_action, action_filled, rule_filled}

pub length_each : {X : Type 0} (count : X → ℕ) (fill : ℕ → X → X) (n : ℕ) (xs : List X) → length (each count fill n xs) ≡ length xs
length_each count fill n [] = refl
length_each count fill n (x ∷ xs) = ap suc (length_each count fill (n + count x) xs)

pub all_each : {X : Type 0} (p : X → Bool) (count : X → ℕ) (fill : ℕ → X → X) → ((n : ℕ) (x : X) → p (fill n x) ≡ p x) → (n : ℕ) (xs : List X) → list_all p (each count fill n xs) ≡ list_all p xs
all_each p count fill h n [] = refl
all_each p count fill h n (x ∷ xs) = ap₂ (λ a b. a && b) (h n x) (all_each p count fill h (n + count x) xs)

module _ (fs : List Filling) where
  -- ---- left sides

  operand_valid : (s : Sight) (p : Pred) (binds : Bool) (n : ℕ) (o : Operand) → operand_is_valid s p binds (operand_filled fs n o) ≡ operand_is_valid s p binds o
  operand_valid s p binds n (operand.Constant v) = refl
  operand_valid s p binds n (operand.OneOf vs) =
      ap (λ k. not binds && nat_le k longest_list) (length_each one (value_filled fs) n vs)
  operand_valid s p binds n (operand.Variable v) = refl

  operand_sight : (s : Sight) (n : ℕ) (o : Operand) → sight_with s (operand_filled fs n o) ≡ sight_with s o
  operand_sight s n (operand.Constant v) = refl
  operand_sight s n (operand.OneOf vs) = refl
  operand_sight s n (operand.Variable v) = refl

  test_sight : (s : Sight) (n : ℕ) (t : Test) → sight_after s (test_filled fs n t) ≡ sight_after s t
  test_sight s n t = ap (λ x. cond t.binds x s) (operand_sight s n t.operand)

  tests_valid : (c : Class) (s : Sight) (n : ℕ) (ts : List Test) → tests_are_valid c s (each in_test (test_filled fs) n ts) ≡ tests_are_valid c s ts
  tests_valid c s n [] = refl
  tests_valid c s n (t ∷ ts) =
      ap₂ (λ a b. (is_field c t.field && a) && b) (operand_valid s t.pred t.binds n t.operand)
      (ap (λ x. tests_are_valid c x (each in_test (test_filled fs) (n + in_test t) ts)) (test_sight s n t) ∙ tests_valid c (sight_after s t) (n + in_test t) ts)

  tests_sight : (s : Sight) (n : ℕ) (ts : List Test) → sight_after_tests s (each in_test (test_filled fs) n ts) ≡ sight_after_tests s ts
  tests_sight s n [] = refl
  tests_sight s n (t ∷ ts) =
      ap (λ x. sight_after_tests x (each in_test (test_filled fs) (n + in_test t) ts)) (test_sight s n t) ∙ tests_sight (sight_after s t) (n + in_test t) ts

  condition_sight : (s : Sight) (n : ℕ) (c : Condition) → sight_after_condition s (condition_filled fs n c) ≡ sight_after_condition s c
  condition_sight s n c =
      ap (λ (x : Sight). cond c.negated (record { bound = s.bound; given = x.given }) x) (tests_sight s n c.tests)

  condition_valid : (classes : List Class) (s : Sight) (n : ℕ) (c : Condition) → condition_is_valid classes s (condition_filled fs n c) ≡ condition_is_valid classes s c
  condition_valid classes s n c =
      ap₂ (λ k b. Rattle.std.proofs.Common.nat_lt c.class (length classes) && nat_le k longest_list && b) (length_each in_test (test_filled fs) n c.tests) (tests_valid (class_of classes c.class) s n c.tests)

  members_valid : (classes : List Class) (s : Sight) (n : ℕ) (cs : List Condition) → members_are_valid classes s (each in_condition (condition_filled fs) n cs) ≡ members_are_valid classes s cs
  members_valid classes s n [] = refl
  members_valid classes s n (c ∷ cs) =
      ap₂ (λ a b. not c.negated && a && b) (condition_valid classes s n c)
      (ap (λ x. members_are_valid classes x (each in_condition (condition_filled fs) (n + in_condition c) cs)) (tests_sight s n c.tests) ∙ members_valid classes (sight_after_tests s c.tests) (n + in_condition c) cs)

  members_sight : (s : Sight) (n : ℕ) (cs : List Condition) → sight_after_members s (each in_condition (condition_filled fs) n cs) ≡ sight_after_members s cs
  members_sight s n [] = refl
  members_sight s n (c ∷ cs) =
      ap (λ x. sight_after_members x (each in_condition (condition_filled fs) (n + in_condition c) cs)) (tests_sight s n c.tests) ∙ members_sight (sight_after_tests s c.tests) (n + in_condition c) cs

  part_valid : (classes : List Class) (s : Sight) (n : ℕ) (p : Part) → part_is_valid classes s (part_filled fs n p) ≡ part_is_valid classes s p
  part_valid classes s n (part.One c) = condition_valid classes s n c
  part_valid classes s n (part.Group cs) =
      ap₂ (λ l a. nat_le 2 l && a) (length_each in_condition (condition_filled fs) n cs) (members_valid classes s n cs)

  part_sight : (s : Sight) (n : ℕ) (p : Part) → sight_after_part s (part_filled fs n p) ≡ sight_after_part s p
  part_sight s n (part.One c) = condition_sight s n c
  part_sight s n (part.Group cs) = ap (λ (x : Sight). record { bound = s.bound; given = x.given }) (members_sight s n cs)

  parts_valid : (classes : List Class) (s : Sight) (n : ℕ) (ps : List Part) → parts_are_valid classes s (each in_part (part_filled fs) n ps) ≡ parts_are_valid classes s ps
  parts_valid classes s n [] = refl
  parts_valid classes s n (p ∷ ps) =
      ap₂ (λ a b. a && b) (part_valid classes s n p)
      (ap (λ x. parts_are_valid classes x (each in_part (part_filled fs) (n + in_part p) ps)) (part_sight s n p) ∙ parts_valid classes (sight_after_part s p) (n + in_part p) ps)

  parts_sight : (s : Sight) (n : ℕ) (ps : List Part) → sight_after_parts s (each in_part (part_filled fs) n ps) ≡ sight_after_parts s ps
  parts_sight s n [] = refl
  parts_sight s n (p ∷ ps) =
      ap (λ x. sight_after_parts x (each in_part (part_filled fs) (n + in_part p) ps)) (part_sight s n p) ∙ parts_sight (sight_after_part s p) (n + in_part p) ps

  parts_cells : (n : ℕ) (ps : List Part) → cells_of (each in_part (part_filled fs) n ps) ≡ cells_of ps
  parts_cells n [] = refl
  parts_cells n (part.One c ∷ ps) = ap (λ x. cond c.negated x (c.class ∷ x)) (parts_cells (n + in_condition c) ps)
  parts_cells n (part.Group cs ∷ ps) = parts_cells (n + total in_condition cs) ps

  part_elements : (n : ℕ) (p : Part) → length (elements_in (part_filled fs n p)) ≡ length (elements_in p)
  part_elements n (part.One c) = refl
  part_elements n (part.Group cs) = length_each in_condition (condition_filled fs) n cs

  parts_elements : (n : ℕ) (ps : List Part) → length (elements_of (each in_part (part_filled fs) n ps)) ≡ length (elements_of ps)
  parts_elements n [] = refl
  parts_elements n (p ∷ ps) =
      length-append (elements_in (part_filled fs n p)) (elements_of (each in_part (part_filled fs) (n + in_part p) ps))
      ∙ ap₂ (λ a b. a + b) (part_elements n p) (parts_elements (n + in_part p) ps)
      ∙ sym (length-append (elements_in p) (elements_of ps))

  counted_from : (k n : ℕ) (ts : List Test) → Rattle.std.specs.List.fold (λ a t. a + cond (not t.binds) 1 0) k (each in_test (test_filled fs) n ts) ≡ Rattle.std.specs.List.fold (λ a t. a + cond (not t.binds) 1 0) k ts
  counted_from k n [] = refl
  counted_from k n (t ∷ ts) = counted_from (k + cond (not t.binds) 1 0) (n + in_test t) ts

  tests_counted : (n : ℕ) (ts : List Test) → count_by (λ t. not t.binds) (each in_test (test_filled fs) n ts) ≡ count_by (λ t. not t.binds) ts
  tests_counted n ts = counted_from 0 n ts

  conditions_specificity : (n : ℕ) (cs : List Condition) → specificity_of (each in_condition (condition_filled fs) n cs) ≡ specificity_of cs
  conditions_specificity n [] = refl
  conditions_specificity n (c ∷ cs) =
      ap₂ (λ a b. 1 + a + b) (tests_counted n c.tests) (conditions_specificity (n + in_condition c) cs)

  part_specificity : (n : ℕ) (p : Part) → specificity_of (elements_in (part_filled fs n p)) ≡ specificity_of (elements_in p)
  part_specificity n (part.One c) = conditions_specificity n (c ∷ [])
  part_specificity n (part.Group cs) = conditions_specificity n cs

  parts_specificity : (n : ℕ) (ps : List Part) → specificity (each in_part (part_filled fs) n ps) ≡ specificity ps
  parts_specificity n [] = refl
  parts_specificity n (p ∷ ps) =
      ap₂ (λ a b. a + b) (part_specificity n p) (parts_specificity (n + in_part p) ps)

  parts_first : (n : ℕ) (ps : List Part) → first_is_positive (each in_part (part_filled fs) n ps) ≡ first_is_positive ps
  parts_first n [] = refl
  parts_first n (part.One c ∷ ps) = refl
  parts_first n (part.Group cs ∷ ps) = refl

  -- ---- right sides

  term_valid : (classes : List Class) (k : Known) (several : Bool) (n : ℕ) (t : Term) → term_is_valid classes k several (term_filled fs n t) ≡ term_is_valid classes k several t
  term_valid classes k several n (term.Constant v) = refl
  term_valid classes k several n (term.Variable v) = refl
  term_valid classes k several n (term.Compute e) = refl
  term_valid classes k several n (term.One cell field) = refl
  term_valid classes k several n (term.Rest cell) = refl
  term_valid classes k several n term.Fresh = refl
  term_valid classes k several n term.Accept = refl

  put_valid : (classes : List Class) (k : Known) (c : Class) (n : ℕ) (p : Put) → put_is_valid classes k c (put_filled fs n p) ≡ put_is_valid classes k c p
  put_valid classes k c n p =
      ap₂ (λ l a. is_attribute c p.field && cond (is_vector c p.field) (nat_le l longest_list) (l == 1) && a) (length_each in_term (term_filled fs) n p.terms)
      (all_each (term_is_valid classes k (is_vector c p.field)) in_term (term_filled fs) (term_valid classes k (is_vector c p.field)) n p.terms)

  puts_valid : (classes : List Class) (k : Known) (c : Class) (n : ℕ) (ps : List Put) → puts_are_valid classes k c (each in_put (put_filled fs) n ps) ≡ puts_are_valid classes k c ps
  puts_valid classes k c n ps =
      ap₂ (λ l a. nat_le l longest_list && a) (length_each in_put (put_filled fs) n ps) (all_each (put_is_valid classes k c) in_put (put_filled fs) (put_valid classes k c) n ps)

  item_valid : (classes : List Class) (k : Known) (n : ℕ) (i : Item) → item_is_valid classes k (item_filled fs n i) ≡ item_is_valid classes k i
  item_valid classes k n (item.Print t) = term_valid classes k true n t
  item_valid classes k n item.Crlf = refl
  item_valid classes k n (item.TabTo c) = refl
  item_valid classes k n (item.RightIn c) = refl

  action_valid : (classes : List Class) (k : Known) (n : ℕ) (a : Action) → action_is_valid classes k (action_filled fs n a) ≡ action_is_valid classes k a
  action_valid classes k n (action.Make class puts) =
      ap (λ b. Rattle.std.proofs.Common.nat_lt class (length classes) && b) (puts_valid classes k (class_of classes class) n puts)
  action_valid classes k n (action.Modify cell puts) =
      ap (λ b. Rattle.std.proofs.Common.nat_lt cell (length k.cells) && b) (puts_valid classes k (class_of_cell classes k cell) n puts)
  action_valid classes k n (action.Remove cells) = refl
  action_valid classes k n (action.Write items) =
      ap₂ (λ l a. nat_le l longest_list && a) (length_each in_item (item_filled fs) n items) (all_each (item_is_valid classes k) in_item (item_filled fs) (item_valid classes k) n items)
  action_valid classes k n (action.Bind variable t) = term_valid classes k false n t
  action_valid classes k n (action.Cbind cell) = refl
  action_valid classes k n action.Halt = refl
  action_valid classes k n (action.Build template holes) = refl

  action_known : (k : Known) (n : ℕ) (a : Action) → known_after k (action_filled fs n a) ≡ known_after k a
  action_known k n (action.Make class puts) = refl
  action_known k n (action.Modify cell puts) = refl
  action_known k n (action.Remove cells) = refl
  action_known k n (action.Write items) = refl
  action_known k n (action.Bind variable t) = refl
  action_known k n (action.Cbind cell) = refl
  action_known k n action.Halt = refl
  action_known k n (action.Build template holes) = refl

  actions_valid : (classes : List Class) (k : Known) (n : ℕ) (acts : List Action) → actions_are_valid classes k (each in_action (action_filled fs) n acts) ≡ actions_are_valid classes k acts
  actions_valid classes k n [] = refl
  actions_valid classes k n (a ∷ acts) =
      ap₂ (λ x y. x && y) (action_valid classes k n a)
      (ap (λ x. actions_are_valid classes x (each in_action (action_filled fs) (n + in_action a) acts)) (action_known k n a) ∙ actions_valid classes (known_after k a) (n + in_action a) acts)

  actions_known : (k : Known) (n : ℕ) (acts : List Action) → known_after_actions k (each in_action (action_filled fs) n acts) ≡ known_after_actions k acts
  actions_known k n [] = refl
  actions_known k n (a ∷ acts) =
      ap (λ x. known_after_actions x (each in_action (action_filled fs) (n + in_action a) acts)) (action_known k n a) ∙ actions_known (known_after k a) (n + in_action a) acts

  -- ---- the whole

  known_same : (n : ℕ) (ps : List Part) → known_of (each in_part (part_filled fs) n ps) ≡ known_of ps
  known_same n ps =
      ap₂ (λ (s : Sight) (cells : List ℕ). record { bound = s.bound; given = s.given; cells = cells; made = Rattle.std.proofs.Common.None }) (parts_sight nothing_in_sight n ps) (parts_cells n ps)

  end_same : (r : Rule) → known_at_end (rule_filled fs r) ≡ known_at_end r
  end_same r =
      ap (λ k. known_after_actions k (each in_action (action_filled fs) (total in_part r.conditions) r.actions)) (known_same 0 r.conditions)
      ∙ actions_known (known_of r.conditions) (total in_part r.conditions) r.actions

  pub rule_valid : (classes : List Class) (text : ℕ) (r : Rule) → rule_is_valid classes text (rule_filled fs r) ≡ rule_is_valid classes text r
  rule_valid classes text r =
      let ps = each in_part (part_filled fs) 0 r.conditions in
      let acts = each in_action (action_filled fs) (total in_part r.conditions) r.actions in
      let whole : Bool → ℕ → Bool → ℕ → Bool → ℕ → Known → Bool = λ f l c al a sp k.
      f && nat_le l most_conditions && c && nat_le al longest_list && a && (r.specificity == sp)
      && list_all (λ v. Rattle.std.proofs.Common.nat_lt v r.variables) k.given && (r.cells == length k.cells) && nat_le r.first r.past && nat_le r.past text in
      ap (λ x. whole x (length (elements_of ps)) (parts_are_valid classes nothing_in_sight ps) (length acts) (actions_are_valid classes (known_of ps) acts) (specificity ps) (known_at_end (rule_filled fs r))) (parts_first 0 r.conditions)
      ∙ ap (λ x. whole (first_is_positive r.conditions) x (parts_are_valid classes nothing_in_sight ps) (length acts) (actions_are_valid classes (known_of ps) acts) (specificity ps) (known_at_end (rule_filled fs r))) (parts_elements 0 r.conditions)
      ∙ ap (λ x. whole (first_is_positive r.conditions) (length (elements_of r.conditions)) x (length acts) (actions_are_valid classes (known_of ps) acts) (specificity ps) (known_at_end (rule_filled fs r))) (parts_valid classes nothing_in_sight 0 r.conditions)
      ∙ ap (λ x. whole (first_is_positive r.conditions) (length (elements_of r.conditions)) (parts_are_valid classes nothing_in_sight r.conditions) x (actions_are_valid classes (known_of ps) acts) (specificity ps) (known_at_end (rule_filled fs r))) (length_each in_action (action_filled fs) (total in_part r.conditions) r.actions)
      ∙ ap (λ x. whole (first_is_positive r.conditions) (length (elements_of r.conditions)) (parts_are_valid classes nothing_in_sight r.conditions) (length r.actions) x (specificity ps) (known_at_end (rule_filled fs r)))
      (ap (λ k. actions_are_valid classes k acts) (known_same 0 r.conditions) ∙ actions_valid classes (known_of r.conditions) (total in_part r.conditions) r.actions)
      ∙ ap (λ x. whole (first_is_positive r.conditions) (length (elements_of r.conditions)) (parts_are_valid classes nothing_in_sight r.conditions) (length r.actions) (actions_are_valid classes (known_of r.conditions) r.actions) x (known_at_end (rule_filled fs r))) (parts_specificity 0 r.conditions)
      ∙ ap (whole (first_is_positive r.conditions) (length (elements_of r.conditions)) (parts_are_valid classes nothing_in_sight r.conditions) (length r.actions) (actions_are_valid classes (known_of r.conditions) r.actions) (specificity r.conditions)) (end_same r)
