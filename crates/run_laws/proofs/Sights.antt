-- What the validity of conditions assumes to be in sight is bound, at each condition and when the right side begins.
use Rattle.std.proofs.Common.{◌≡◌, ℕ, zero, suc, List, [], ◌∷◌, length, Bool, true, false, cond, not, ◌==◌, ◌&&◌, ◌||◌, Some, None, option_map, refl, ap, sym, ◌∙◌, subst, nat_lt, slice_get, unwrap_or}
use Rattle.std.specs.Prelude.{Contains, nat_le, option_and_then}
use Rattle.std.specs.List.{flat_map, list_all}
use Rattle.std.proofs.lemmas.Bool.{and_parts, and_from}
use Rattle.ops_base.specs.declared.actions.Action.{Action}
use Rattle.ops_base.specs.declared.commands.Command.{Command}
use Rattle.ops_base.specs.declared.conditions.Condition.{Condition}
use Rattle.ops_base.specs.declared.conditions.Part.{Part}
use Rattle.ops_base.specs.declared.conditions.Part.TheVariants.{One, Group}
use Rattle.ops_base.specs.declared.conditions.Operand.{Operand}
use Rattle.ops_base.specs.declared.conditions.Operand.TheVariants as operand
use Rattle.ops_base.specs.declared.conditions.Test.{Test}
use Rattle.ops_base.specs.declared.direct.Partial.{Partial}
use Rattle.ops_base.specs.declared.elements.Class.{Class}
use Rattle.ops_base.specs.declared.elements.Element.{Element}
use Rattle.ops_base.specs.declared.matching.Binding.{Binding}
use Rattle.ops_base.specs.declared.rules.Inst.{Inst}
use Rattle.ops_base.specs.declared.rules.Rule.{Rule}
use Rattle.ops_base.specs.declared.values.Pred.{Pred}
use Rattle.ops_base.specs.declared.values.Value.{Value}
use Rattle.ops_base.specs.ConflictSet.{extended, some_meets, some_extend, at_condition, at_part, walk, empty_partial, matches_of, conflict_set}
use Rattle.ops_base.specs.Matching.{operand_holds, bound_to, after_tests, match_of}
use Rattle.ops_base.specs.Valid.{Sight, fits, class_of, is_field, operand_is_valid, test_is_valid, tests_are_valid, condition_is_valid, members_are_valid, part_is_valid, parts_are_valid, sight_with, sight_after, sight_after_tests, sight_after_condition, sight_after_part, sight_after_parts, nothing_in_sight, cells_of, known_of, actions_are_valid, rule_is_valid, rule_builds_from, is_valid}
use Rattle.ops_base.specs.WorkingMemory.{field_of, HasRisingTags}
use Rattle.ops_base.proofs.ConflictSetLaws.{conflict_set-is}
use Rattle.ops_base.proofs.Members.{IsMember, flat_map_member, member_from_contains}
use Rattle.ops_base.proofs.WalkFinds.{lengthened_is, negated_is, meets-matches_of}
use Rattle.ops_meaning.specs.Acting.{Setting, Given, elements_of, conditions_of, actions_of, begun}
use Rattle.run_laws.specs.Programs.{AreValid}
use Rattle.run_laws.specs.Finding.{is_class, operand_finds, tests_find, condition_finds, MembersFind, PartFinds, WalkFinds, AllFind}
use Rattle.run_laws.proofs.Beginnings.{classes_in, whole_match, bindings_begun}
use Rattle.run_laws.proofs.Knowing.{AreBound, bound_more, Holds, there, actions_find}

-- ---- what one condition binds

operand_seen : (s : Sight) (o : Operand) (a : Value) (bindings : List Binding) → AreBound s.bound bindings → AreBound (sight_with s o).bound (bound_to bindings o a)
operand_seen s (operand.Constant c) a bindings h = h
operand_seen s (operand.OneOf cs) a bindings h = h
operand_seen s (operand.Variable v) a bindings h = bound_more s.bound bindings (record { variable = v; value = a }) h

tests_seen : (e : Element) (ts : List Test) (s : Sight) (bindings next : List Binding) → AreBound s.bound bindings → after_tests ts e bindings ≡ Some next → AreBound (sight_after_tests s ts).bound next
tests_seen e [] s bindings next h is =
    let same : bindings ≡ next = cc in let P : List Binding → Type 0 = AreBound s.bound in subst P same h
tests_seen e (t ∷ ts) s bindings next h is =
    by t.binds (operand_holds t.pred (field_of e t.field) t.operand bindings) (λ r b k w. tests_seen e ts r b next k w) is
  where
    by : (binds holds : Bool) → ((r : Sight) (b : List Binding) → AreBound r.bound b → after_tests ts e b ≡ Some next → AreBound (sight_after_tests r ts).bound next)
        → option_and_then (λ b. after_tests ts e b) (cond binds (Some (bound_to bindings t.operand (field_of e t.field))) (cond holds (Some bindings) None)) ≡ Some next
        → AreBound (sight_after_tests (cond binds (sight_with s t.operand) s) ts).bound next
    by true holds ih is = ih (sight_with s t.operand) (bound_to bindings t.operand (field_of e t.field)) (operand_seen s t.operand (field_of e t.field) bindings h) is
    by false true ih is = ih s bindings h is
    by false false ih is = absurd (cc)

matched_seen : (c : Condition) (e : Element) (s : Sight) (bindings next : List Binding) → AreBound s.bound bindings → match_of c e bindings ≡ Some next → AreBound (sight_after_tests s c.tests).bound next
matched_seen c e s bindings next h is = by (e.class == c.class) is
  where
    by : (b : Bool) → cond b (after_tests c.tests e bindings) None ≡ Some next → AreBound (sight_after_tests s c.tests).bound next
    by true is = tests_seen e c.tests s bindings next h is
    by false is = absurd (cc)

-- ---- the walk

module _ (wm : List Element) where
  condition_seen : (c : Condition) (s : Sight) (p q : Partial) → AreBound s.bound p.bindings → IsMember q (at_condition wm c p) → AreBound (sight_after_condition s c).bound q.bindings
  condition_seen c s p q h m = by c.negated m
    where
      by : (b : Bool) → IsMember q (cond b (cond (not (some_meets wm c p.bindings)) (p ∷ []) []) (flat_map (extended c p) wm))
          → (let r : Sight = cond b (record { bound = s.bound; given = (sight_after_tests s c.tests).given }) (sight_after_tests s c.tests) in AreBound r.bound q.bindings)
      by true m =
          let n = negated_is p q (some_meets wm c p.bindings) m in
          let P : Partial → Type 0 = λ w. AreBound s.bound w.bindings in subst P (sym n.1) h
      by false m =
          let f = flat_map_member (extended c p) q wm m in
          let l = lengthened_is p q f.0.tag (match_of c f.0 p.bindings) f.2 in
          matched_seen c f.0 s p.bindings q.bindings h l.0

  -- a group leaves the bindings as they are
  part_seen : (part : Part) (s : Sight) (p q : Partial) → AreBound s.bound p.bindings → IsMember q (at_part wm part p) → AreBound (sight_after_part s part).bound q.bindings
  part_seen (One c) s p q h m = condition_seen c s p q h m
  part_seen (Group cs) s p q h m =
      let n = negated_is p q (some_extend wm cs p.bindings) m in
      let P : Partial → Type 0 = λ w. AreBound s.bound w.bindings in
      subst P (sym n.1) h

  abbrev AllSeen : Sight → List Partial → Type 0
  AllSeen s ps = (p : Partial) → IsMember p ps → AreBound s.bound p.bindings

  step_seen : (part : Part) (s : Sight) (ps : List Partial) → AllSeen s ps → AllSeen (sight_after_part s part) (flat_map (at_part wm part) ps)
  step_seen part s ps h q m =
      let b = flat_map_member (at_part wm part) q ps m in part_seen part s b.0 q (h b.0 b.1) b.2

  walk_seen : (parts : List Part) (s : Sight) (ps : List Partial) → AllSeen s ps → AllSeen (sight_after_parts s parts) (walk wm parts ps)
  walk_seen [] s ps h = h
  walk_seen (part ∷ parts) s ps h =
      walk_seen parts (sight_after_part s part) (flat_map (at_part wm part) ps) (step_seen part s ps h)

nothing_seen : (p : Partial) → IsMember p (empty_partial ∷ []) → AreBound nothing_in_sight.bound p.bindings
nothing_seen p m v within = absurd (cc)

-- ---- left sides

operand_found : (s : Sight) (pred : Pred) (o : Operand) (bindings : List Binding) → AreBound s.bound bindings → operand_is_valid s pred false o ≡ true → operand_finds bindings o ≡ true
operand_found s pred (operand.Constant c) bindings h v = refl
operand_found s pred (operand.OneOf cs) bindings h v = refl
operand_found s pred (operand.Variable x) bindings h v = h x v

tests_found : (c : Class) (e : Element) (ts : List Test) (s : Sight) (bindings : List Binding) → AreBound s.bound bindings → tests_are_valid c s ts ≡ true → tests_find c e ts bindings ≡ true
tests_found c e [] s bindings h v = refl
tests_found c e (t ∷ ts) s bindings h v =
    let whole = and_parts (test_is_valid c s t) (tests_are_valid c (sight_after s t) ts) v in
    let one = and_parts (is_field c t.field) (operand_is_valid s t.pred t.binds t.operand) whole.0 in
    by t.binds (operand_holds t.pred (field_of e t.field) t.operand bindings) (λ r b k w. tests_found c e ts r b k w) one.0 one.1 whole.1
  where
    by : (binds holds : Bool) → ((r : Sight) (b : List Binding) → AreBound r.bound b → tests_are_valid c r ts ≡ true → tests_find c e ts b ≡ true)
        → is_field c t.field ≡ true → operand_is_valid s t.pred binds t.operand ≡ true → tests_are_valid c (cond binds (sight_with s t.operand) s) ts ≡ true
        → ((is_field c t.field && (binds || operand_finds bindings t.operand)) && unwrap_or (option_map (tests_find c e ts) (cond binds (Some (bound_to bindings t.operand (field_of e t.field))) (cond holds (Some bindings) None))) true) ≡ true
    by true holds ih f o w =
        and_from _ _ (and_from _ _ f refl) (ih (sight_with s t.operand) (bound_to bindings t.operand (field_of e t.field)) (operand_seen s t.operand (field_of e t.field) bindings h) w)
    by false true ih f o w = and_from _ _ (and_from _ _ f (operand_found s t.pred t.operand bindings h o)) (ih s bindings h w)
    by false false ih f o w = and_from _ _ (and_from _ _ f (operand_found s t.pred t.operand bindings h o)) refl

condition_found : (classes : List Class) (c : Condition) (s : Sight) (e : Element) (bindings : List Binding) → AreBound s.bound bindings → condition_is_valid classes s c ≡ true → condition_finds classes c bindings e ≡ true
condition_found classes c s e bindings h v =
    let one = and_parts (nat_lt c.class (length classes) && fits c.tests) (tests_are_valid (class_of classes c.class) s c.tests) v in
    let front = and_parts (nat_lt c.class (length classes)) (fits c.tests) one.0 in
    and_from (is_class classes c.class) (tests_find (class_of classes c.class) e c.tests bindings) (there classes c.class front.0)
    (tests_found (class_of classes c.class) e c.tests s bindings h one.1)

members_found : (classes : List Class) (wm : List Element) (cs : List Condition) (s : Sight) (bindings : List Binding) → AreBound s.bound bindings → members_are_valid classes s cs ≡ true → MembersFind classes wm cs bindings
members_found classes wm [] s bindings h v = tt
members_found classes wm (c ∷ cs) s bindings h v =
    let whole = and_parts (not c.negated && condition_is_valid classes s c) (members_are_valid classes (sight_after_tests s c.tests) cs) v in
    let one = and_parts (not c.negated) (condition_is_valid classes s c) whole.0 in
    λ e m. (
      condition_found classes c s e bindings h one.1,
      λ next is. members_found classes wm cs (sight_after_tests s c.tests) next (matched_seen c e s bindings next h is) whole.1,
    )

part_found : (classes : List Class) (wm : List Element) (part : Part) (s : Sight) (bindings : List Binding) → AreBound s.bound bindings → part_is_valid classes s part ≡ true → PartFinds classes wm part bindings
part_found classes wm (One c) s bindings h v = λ e m. condition_found classes c s e bindings h v
part_found classes wm (Group cs) s bindings h v =
    members_found classes wm cs s bindings h (and_parts (nat_le 2 (length cs)) (members_are_valid classes s cs) v).1

pub walk_found : (classes : List Class) (wm : List Element) (parts : List Part) (s : Sight) (ps : List Partial) → AllSeen wm s ps → parts_are_valid classes s parts ≡ true → WalkFinds classes wm parts ps
walk_found classes wm [] s ps h v = tt
walk_found classes wm (part ∷ parts) s ps h v =
    let whole = and_parts (part_is_valid classes s part) (parts_are_valid classes (sight_after_part s part) parts) v in (
      λ p m. part_found classes wm part s p.bindings (h p (member_from_contains p ps m)) whole.0,
      walk_found classes wm parts (sight_after_part s part) (flat_map (at_part wm part) ps) (step_seen wm part s ps h) whole.1,
    )

-- ---- valid productions

pub each_at : {X : Type 0} (p : X → Bool) (xs : List X) (k : ℕ) (x : X) → list_all p xs ≡ true → slice_get xs k ≡ Some x → p x ≡ true
each_at p [] k x h at = absurd (cc)
each_at p (y ∷ xs) zero x h at = let same : y ≡ x = cc in ap p (sym same) ∙ (and_parts (p y) (list_all p xs) h).0
each_at p (y ∷ xs) (suc k) x h at = each_at p xs k x (and_parts (p y) (list_all p xs) h).1 at

pub rule_valid : (classes : List Class) (rules templates : List Rule) (commands : List Command) (text k : ℕ) (r : Rule) → is_valid classes rules templates commands text ≡ true → slice_get rules k ≡ Some r → rule_is_valid classes text r ≡ true
rule_valid classes rules templates commands text k r h at =
    let seventh = (and_parts _ _ (and_parts _ _ (and_parts _ _ (and_parts _ _ h).0).0).0).0 in
    each_at (rule_is_valid classes text) rules k r (and_parts _ _ (and_parts _ _ (and_parts _ _ seventh).0).0).1 at

-- it builds from the templates of the program
rule_builds : (classes : List Class) (rules templates : List Rule) (commands : List Command) (text k : ℕ) (r : Rule) → is_valid classes rules templates commands text ≡ true → slice_get rules k ≡ Some r → rule_builds_from (length templates) r ≡ true
rule_builds classes rules templates commands text k r h at =
    let ninth = (and_parts _ _ (and_parts _ _ h).0).0 in
    each_at (rule_builds_from (length templates)) rules k r (and_parts _ _ (and_parts _ _ ninth).0).1 at

pub sides_valid : (classes : List Class) (text : ℕ) (r : Rule) → rule_is_valid classes text r ≡ true → (parts_are_valid classes nothing_in_sight r.conditions ≡ true) × (actions_are_valid classes (known_of r.conditions) r.actions ≡ true)
sides_valid classes text r h =
    let fifth = (and_parts _ _ (and_parts _ _ (and_parts _ _ (and_parts _ _ (and_parts _ _ h).0).0).0).0).0 in
    let third = (and_parts _ _ (and_parts _ _ fifth).0).0 in
    ((and_parts _ _ third).1, (and_parts _ _ fifth).1)

pub left_side_finds : (s : Setting) (commands : List Command) (wm : List Element) (k : ℕ) (r : Rule) → AreValid s commands → slice_get s.rules k ≡ Some r → WalkFinds s.classes wm r.conditions (empty_partial ∷ [])
left_side_finds s commands wm k r h at =
    let sides = sides_valid s.classes (length s.text) r (rule_valid s.classes s.rules s.templates commands (length s.text) k r h at) in
    walk_found s.classes wm r.conditions nothing_in_sight (empty_partial ∷ []) nothing_seen sides.0

-- the classes of the positive conditions exist
cells_there : (classes : List Class) (s : Sight) (parts : List Part) → parts_are_valid classes s parts ≡ true → list_all (λ c. nat_lt c (length classes)) (cells_of parts) ≡ true
cells_there classes s [] h = refl
cells_there classes s (Group cs ∷ parts) h =
    cells_there classes (sight_after_part s (Group cs)) parts (and_parts (part_is_valid classes s (Group cs)) (parts_are_valid classes (sight_after_part s (Group cs)) parts) h).1
cells_there classes s (One c ∷ parts) h =
    let whole = and_parts (condition_is_valid classes s c) (parts_are_valid classes (sight_after_condition s c) parts) h in
    let one = and_parts (nat_lt c.class (length classes) && fits c.tests) (tests_are_valid (class_of classes c.class) s c.tests) whole.0 in
    by c.negated (and_parts (nat_lt c.class (length classes)) (fits c.tests) one.0).0 (cells_there classes (sight_after_condition s c) parts whole.1)
  where
    by : (b : Bool) → nat_lt c.class (length classes) ≡ true → list_all (λ c. nat_lt c (length classes)) (cells_of parts) ≡ true
        → list_all (λ c. nat_lt c (length classes)) (cond b (cells_of parts) (c.class ∷ cells_of parts)) ≡ true
    by true here rest = rest
    by false here rest = and_from _ _ here rest

-- what is known when the right side of an instantiation begins is true
pub begun_knows : (s : Setting) (g : Given) (i : Inst) (r : Rule) → HasRisingTags g.wm → conditions_of s.rules i.rule ≡ r.conditions → parts_are_valid s.classes nothing_in_sight r.conditions ≡ true
    → (q : Partial) → IsMember q (matches_of g.wm r.conditions) → q.tags ≡ i.tags → Holds s.classes (known_of r.conditions) (begun s i g).bindings (begun s i g).cells []
begun_knows s g i r rising same valid q m t =
    let w = whole_match g.wm rising r.conditions q m in
    let P : List Binding → Type 0 = AreBound (sight_after_parts nothing_in_sight r.conditions).bound in
    record {
      variables = subst P (bindings_begun s g i r rising same q m t) (walk_seen g.wm r.conditions nothing_in_sight (empty_partial ∷ []) nothing_seen q m);
      cells = ap (λ ts. classes_in (elements_of g.wm ts)) (sym t) ∙ w.classes;
      exist = cells_there s.classes nothing_in_sight r.conditions valid;
      made = λ c is. absurd (cc);
    }

pub right_side_finds : (s : Setting) (commands : List Command) (column : ℕ) (g : Given) (i : Inst) → AreValid s commands → HasRisingTags g.wm → Contains (conflict_set s.rules g.wm) i
    → AllFind s column (actions_of s.rules i.rule) (begun s i g)
right_side_finds s commands column g i h rising in_set =
    let is = (conflict_set-is s.rules g.wm rising).sound i in_set in
    let r = is.0 in
    let sides = sides_valid s.classes (length s.text) r (rule_valid s.classes s.rules s.templates commands (length s.text) i.rule r h is.1) in
    let conditions : conditions_of s.rules i.rule ≡ r.conditions = ap (λ o. unwrap_or (option_map (λ (r : Rule). r.conditions) o) []) is.1 in
    let actions : actions_of s.rules i.rule ≡ r.actions = ap (λ o. unwrap_or (option_map (λ (r : Rule). r.actions) o) []) is.1 in
    let f = meets-matches_of g.wm r.conditions i.tags is.2 in
    let P : List Action → Type 0 = λ as_. AllFind s column as_ (begun s i g) in
    subst P (sym actions)
    (actions_find s column (known_of r.conditions) r.actions (begun s i g) (begun_knows s g i r rising conditions sides.0 f.0 f.1 f.2) sides.1
    (rule_builds s.classes s.rules s.templates commands (length s.text) i.rule r h is.1))
