-- In a valid program each variable that is compared with is bound before, and each rule begins with a positive condition.
use Rattle.std.proofs.Common.{◌≡◌, ℕ, zero, suc, Bool, true, false, cond, ◌==◌, ◌&&◌, ◌||◌, List, [], ◌∷◌, ◌++◌, length, not, map, fold, slice_get, Option, Some, None, refl, sym, ap, ◌∙◌}
use Rattle.std.specs.Bool.{MatchBool}
use Rattle.std.proofs.lemmas.Bool.{leb-true}
use Rattle.std.specs.List.{list_all}
use Rattle.ops_base.specs.declared.values.Pred.{Pred}
use Rattle.ops_base.specs.declared.elements.Class.{Class}
use Rattle.ops_base.specs.declared.conditions.Operand.{Operand}
use Rattle.ops_base.specs.declared.conditions.Operand.TheVariants.{Constant, OneOf, Variable}
use Rattle.ops_base.specs.declared.conditions.Test.{Test}
use Rattle.ops_base.specs.declared.conditions.Condition.{Condition}
use Rattle.ops_base.specs.declared.conditions.Part.{Part}
use Rattle.ops_base.specs.declared.conditions.Part.TheVariants.{One, Group}
use Rattle.ops_base.specs.declared.commands.Command.{Command}
use Rattle.ops_base.specs.declared.rules.Rule.{Rule}
use Rattle.ops_base.specs.Valid.{Sight, is_in, sight_with, sight_after_tests, nothing_in_sight, class_of, operand_is_valid, test_is_valid, tests_are_valid, condition_is_valid, members_are_valid, sight_after_members, part_is_valid, parts_are_valid, first_is_positive, rule_is_valid, is_valid}
use Rattle.net_base.specs.declared.normal.Origin.{Origin}
use Rattle.net_base.specs.declared.normal.Binder.{Binder}
use Rattle.net_base.specs.Normal.{binders_with, binders_after}
use Rattle.net_base.proofs.Variables.{IsBound, AreBound, MembersBound, HaveBound, at_place}
use Rattle.net_base.proofs.Places.{AreGroupsOfTwo}

left_of : (a b : Bool) → (a && b) ≡ true → a ≡ true
left_of true b e = refl
left_of false b e = e

right_of : (a b : Bool) → (a && b) ≡ true → b ≡ true
right_of true b e = e
right_of false b e = cc

abbrev variables_of : List Binder → List ℕ
variables_of bs = map (λ b. b.variable) bs

abbrev found_origin : ℕ → Option Origin → Binder → Option Origin
found_origin v found b = cond (b.variable == v) (Some b.origin) found

abbrev IsFound : ℕ → List Binder → Option Origin → Type 0
IsFound v bs start = (o : Origin) × (fold (found_origin v) start bs ≡ Some o)

still_found : (v : ℕ) (bs : List Binder) (o : Origin) → IsFound v bs (Some o)
still_found v [] o = (o, refl)
still_found v (b ∷ bs) o = by_test (λ p. still_found v bs p) (b.variable == v)
  where
    by_test : ((p : Origin) → IsFound v bs (Some p)) → (c : Bool) → IsFound v bs (cond c (Some b.origin) (Some o))
    by_test ih true = ih b.origin
    by_test ih false = ih o

found : (v : ℕ) (bs : List Binder) (start : Option Origin) → is_in v (variables_of bs) ≡ true → IsFound v bs start
found v [] start e = cc
found v (b ∷ bs) start e = by_test (λ s q. found v bs s q) (b.variable == v) e
  where
    by_test : ((s : Option Origin) → is_in v (variables_of bs) ≡ true → IsFound v bs s) → (c : Bool) → (c || is_in v (variables_of bs)) ≡ true → IsFound v bs (cond c (Some b.origin) start)
    by_test ih true q = still_found v bs b.origin
    by_test ih false q = ih start q

map_push : {A B : Type 0} (f : A → B) (xs : List A) (x : A) → map f (xs ++ x ∷ []) ≡ map f xs ++ f x ∷ []
map_push f [] x = refl
map_push f (y ∷ xs) x = ap (λ r. f y ∷ r) (map_push f xs x)

with_bound : (s : Sight) (bs : List Binder) (o : Operand) (p : Origin) → s.bound ≡ variables_of bs → (sight_with s o).bound ≡ variables_of (binders_with bs o p)
with_bound s bs (Constant c) p e = e
with_bound s bs (OneOf cs) p e = e
with_bound s bs (Variable v) p e = ap (λ vs. vs ++ v ∷ []) e ∙ sym (map_push (λ (b : Binder). b.variable) bs (record { variable = v; origin = p }))

operand_bound : (s : Sight) (pred : Pred) (bs : List Binder) (o : Operand) → s.bound ≡ variables_of bs → operand_is_valid s pred false o ≡ true → IsBound bs o
operand_bound s pred bs (Constant c) e v = tt
operand_bound s pred bs (OneOf cs) e v = tt
operand_bound s pred bs (Variable x) e v = found x bs None (ap (is_in x) (sym e) ∙ v)

abbrev TestsBound : ℕ → Sight → List Test → List Binder → Type 0
TestsBound place s ts bs = AreBound place ts bs × ((sight_after_tests s ts).bound ≡ variables_of (binders_after place ts bs))

tests_bound : (k : Class) (place : ℕ) (s : Sight) (ts : List Test) (bs : List Binder) → s.bound ≡ variables_of bs → tests_are_valid k s ts ≡ true → TestsBound place s ts bs
tests_bound k place s [] bs e v = (tt, e)
tests_bound k place s (t ∷ ts) bs e v =
    by_binds (λ r cs q w. tests_bound k place r ts cs q w) t.binds (right_of _ _ (left_of _ _ v)) (right_of (test_is_valid k s t) _ v)
  where
    by_binds : ((r : Sight) (cs : List Binder) → r.bound ≡ variables_of cs → tests_are_valid k r ts ≡ true → TestsBound place r ts cs) → (b : Bool)
        → operand_is_valid s t.pred b t.operand ≡ true → tests_are_valid k (cond b (sight_with s t.operand) s) ts ≡ true
        → MatchBool b (AreBound place ts (binders_with bs t.operand (at_place place t))) (IsBound bs t.operand × AreBound place ts bs)
        × ((sight_after_tests (cond b (sight_with s t.operand) s) ts).bound ≡ variables_of (cond b (binders_after place ts (binders_with bs t.operand (at_place place t))) (binders_after place ts bs)))
    by_binds ih true o w = ih (sight_with s t.operand) (binders_with bs t.operand (at_place place t)) (with_bound s bs t.operand (at_place place t) e) w
    by_binds ih false o w = let g = ih s bs e w in ((operand_bound s t.pred bs t.operand e o, g.0), g.1)

members_bound : (classes : List Class) (place : ℕ) (s : Sight) (cs : List Condition) (bs : List Binder) → s.bound ≡ variables_of bs → members_are_valid classes s cs ≡ true → MembersBound place cs bs
members_bound classes place s [] bs e v = tt
members_bound classes place s (c ∷ cs) bs e v =
    let g = tests_bound (class_of classes c.class) place s c.tests bs e (right_of _ _ (right_of _ _ (left_of _ _ v))) in
    (g.0, members_bound classes (suc place) (sight_after_tests s c.tests) cs (binders_after place c.tests bs) g.1 (right_of (not c.negated && condition_is_valid classes s c) _ v))

have_bound : (classes : List Class) (place : ℕ) (s : Sight) (ps : List Part) (bs : List Binder) → s.bound ≡ variables_of bs → parts_are_valid classes s ps ≡ true → HaveBound place ps bs
have_bound classes place s [] bs e v = tt
have_bound classes place s (Group cs ∷ ps) bs e v = (
  members_bound classes place s cs bs e (right_of _ _ (left_of _ _ v)),
  have_bound classes place (record { bound = s.bound; given = (sight_after_members s cs).given }) ps bs e (right_of (part_is_valid classes s (Group cs)) _ v),
)
have_bound classes place s (One c ∷ ps) bs e v =
    let g = tests_bound (class_of classes c.class) place s c.tests bs e (right_of _ _ (left_of _ _ v)) in
    (g.0, by_sign (λ p r ds q w. have_bound classes p r ps ds q w) c.negated g.1 (right_of (condition_is_valid classes s c) _ v))
  where
    by_sign : ((p : ℕ) (r : Sight) (ds : List Binder) → r.bound ≡ variables_of ds → parts_are_valid classes r ps ≡ true → HaveBound p ps ds) → (b : Bool)
        → (sight_after_tests s c.tests).bound ≡ variables_of (binders_after place c.tests bs)
        → parts_are_valid classes (cond b (record { bound = s.bound; given = (sight_after_tests s c.tests).given }) (sight_after_tests s c.tests)) ps ≡ true
        → MatchBool b (HaveBound place ps bs) (HaveBound (suc place) ps (binders_after place c.tests bs))
    by_sign ih true q w = ih place (record { bound = s.bound; given = (sight_after_tests s c.tests).given }) bs e w
    by_sign ih false q w = ih (suc place) (sight_after_tests s c.tests) (binders_after place c.tests bs) q w

groups_of_two : (classes : List Class) (s : Sight) (ps : List Part) → parts_are_valid classes s ps ≡ true → AreGroupsOfTwo ps
groups_of_two classes s [] v = tt
groups_of_two classes s (One c ∷ ps) v = (tt, groups_of_two classes _ ps (right_of (condition_is_valid classes s c) _ v))
groups_of_two classes s (Group cs ∷ ps) v = (leb-true 2 (length cs) (left_of _ _ (left_of _ _ v)), groups_of_two classes _ ps (right_of (part_is_valid classes s (Group cs)) _ v))

each_holds : {X : Type 0} (p : X → Bool) (xs : List X) (k : ℕ) (x : X) → list_all p xs ≡ true → slice_get xs k ≡ Some x → p x ≡ true
each_holds p [] k x e at = cc
each_holds p (y ∷ xs) zero x e at = let q : y ≡ x = cc in ap p (sym q) ∙ left_of _ _ e
each_holds p (y ∷ xs) (suc k) x e at = each_holds p xs k x (right_of (p y) _ e) at

pub record IsValidRule (r : Rule) : Type 0 where
  pub bound : HaveBound 0 r.conditions []
  pub groups : AreGroupsOfTwo r.conditions
  pub positive : first_is_positive r.conditions ≡ true

valid_rule : (classes : List Class) (text : ℕ) (r : Rule) → rule_is_valid classes text r ≡ true → IsValidRule r
valid_rule classes text r v =
    let third = left_of _ _ (left_of _ _ (left_of _ _ (left_of _ _ (left_of _ _ (left_of _ _ (left_of _ _ v)))))) in
    record {
      bound = have_bound classes 0 nothing_in_sight r.conditions [] refl (right_of _ _ third);
      groups = groups_of_two classes nothing_in_sight r.conditions (right_of _ _ third);
      positive = left_of _ _ (left_of _ _ third);
    }

pub valid_rules : (classes : List Class) (rules templates : List Rule) (commands : List Command) (text k : ℕ) (r : Rule) → is_valid classes rules templates commands text ≡ true → slice_get rules k ≡ Some r → IsValidRule r
valid_rules classes rules templates commands text k r v at =
    let seventh = left_of _ _ (left_of _ _ (left_of _ _ (left_of _ _ v))) in
    valid_rule classes text r (each_holds (rule_is_valid classes text) rules k r (right_of _ _ (left_of _ _ (left_of _ _ seventh))) at)
