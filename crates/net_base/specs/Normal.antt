-- Conditions in normal form, and their tests of one element and of several.
use Rattle.std.specs.Prelude.{ℕ, suc, ◌<◌, List, [], ◌∷◌, ◌++◌, fold, false, ◌==◌, if◌then◌else◌, Option, Some, None, option_map}
use Rattle.std.specs.List.{filter_map, cons_option}
use Rattle.ops_base.specs.declared.conditions.Operand.{Operand}
use Rattle.ops_base.specs.declared.conditions.Operand.TheVariants as operand
use Rattle.ops_base.specs.declared.conditions.Test.{Test}
use Rattle.ops_base.specs.declared.conditions.Condition.{Condition}
use Rattle.ops_base.specs.declared.conditions.Part.{Part}
use Rattle.ops_base.specs.declared.conditions.Part.TheVariants.{One, Group}
use Rattle.net_base.specs.declared.nodes.JoinTest.{JoinTest}
use Rattle.net_base.specs.declared.nodes.Alpha.{Alpha}
use Rattle.net_base.specs.declared.normal.Origin.{Origin}
use Rattle.net_base.specs.declared.normal.Binder.{Binder}
use Rattle.net_base.specs.declared.normal.NormalOperand.{NormalOperand}
use Rattle.net_base.specs.declared.normal.NormalOperand.TheVariants as normal
use Rattle.net_base.specs.declared.normal.NormalTest.{NormalTest}
use Rattle.net_base.specs.declared.normal.NormalCondition.{NormalCondition}
use Rattle.net_base.specs.declared.normal.NormalPart.{NormalPart}
use Rattle.net_base.specs.declared.normal.NormalPart.TheVariants as part

-- ---- variables

-- what binds a variable: the last of several binders
abbrev pub origin_of : List Binder → ℕ → Option Origin
origin_of binders v = fold (λ found b. if b.variable == v then Some b.origin else found) None binders

-- the binders are at places before this one
abbrev pub AreBelow : ℕ → List Binder → Type 0
AreBelow place [] = Unit {0}
AreBelow place (b ∷ bs) = (b.origin.place < place) × AreBelow place bs

-- the binders with the operand's variable bound
abbrev pub binders_with : List Binder → Operand → Origin → List Binder
binders_with binders (operand.Constant c) o = binders
binders_with binders (operand.OneOf cs) o = binders
binders_with binders (operand.Variable v) o = binders ++ record { variable = v; origin = o } ∷ []

-- the binders after these tests of an element at this place
abbrev pub binders_after : ℕ → List Test → List Binder → List Binder
binders_after place [] binders = binders
binders_after place (t ∷ ts) binders =
    if t.binds then binders_after place ts (binders_with binders t.operand (record { place = place; field = t.field }))
    else binders_after place ts binders

-- ---- normal form

-- none if nothing binds the variable, which does not occur in a valid program
abbrev pub normal_operand : List Binder → Operand → Option NormalOperand
normal_operand binders (operand.Constant c) = Some (normal.Constant c)
normal_operand binders (operand.OneOf cs) = Some (normal.OneOf cs)
normal_operand binders (operand.Variable v) = option_map (λ o. normal.Bound o) (origin_of binders v)

abbrev pub normal_test : Test → Option NormalOperand → Option NormalTest
normal_test t o = option_map (λ p. record { field = t.field; pred = t.pred; operand = p }) o

-- the tests that do not bind, in text order, of an element at this place
abbrev pub normal_tests : ℕ → List Test → List Binder → List NormalTest
normal_tests place [] binders = []
normal_tests place (t ∷ ts) binders =
    if t.binds then normal_tests place ts (binders_with binders t.operand (record { place = place; field = t.field }))
    else cons_option (normal_test t (normal_operand binders t.operand)) (normal_tests place ts binders)

-- a condition after this many positive ones
abbrev pub normal_of : ℕ → Condition → List Binder → NormalCondition
normal_of place c binders = record { negated = c.negated; class = c.class; tests = normal_tests place c.tests binders }

-- a member of a group, which is positive
abbrev pub normal_member : ℕ → Condition → List Binder → NormalCondition
normal_member place c binders = record { negated = false; class = c.class; tests = normal_tests place c.tests binders }

-- the members of a group, each after those before it
abbrev pub normal_members : ℕ → List Condition → List Binder → List NormalCondition
normal_members place [] binders = []
normal_members place (c ∷ cs) binders = normal_member place c binders ∷ normal_members (suc place) cs (binders_after place c.tests binders)

-- The parts after this many positive conditions. What a negated condition or a group binds is not visible after it.
abbrev pub normal_parts : ℕ → List Part → List Binder → List NormalPart
normal_parts place [] binders = []
normal_parts place (One c ∷ ps) binders =
    part.One (normal_of place c binders)
    ∷ (if c.negated then normal_parts place ps binders else normal_parts (suc place) ps (binders_after place c.tests binders))
normal_parts place (Group cs ∷ ps) binders = part.Group (normal_members place cs binders) ∷ normal_parts place ps binders

-- ---- tests of one element

-- the operand of a test that looks only at the element at this place
abbrev pub own_operand : ℕ → NormalOperand → Option Operand
own_operand place (normal.Constant c) = Some (operand.Constant c)
own_operand place (normal.OneOf cs) = Some (operand.OneOf cs)
own_operand place (normal.Bound o) = if o.place == place then Some (operand.Variable o.field) else None

abbrev pub alpha_test : ℕ → NormalTest → Option Test
alpha_test place t = option_map (λ o. record { field = t.field; pred = t.pred; operand = o; binds = false }) (own_operand place t.operand)

-- the tests of a condition at this place that look only at its element, in order
abbrev pub alpha_tests : ℕ → List NormalTest → List Test
alpha_tests place ts = filter_map (alpha_test place) ts

-- the alpha of a condition by itself: variables bound outside the condition are not visible
abbrev pub alpha_of : Condition → Alpha
alpha_of c = record { class = c.class; tests = alpha_tests 0 (normal_tests 0 c.tests []) }

-- ---- tests of several elements

-- what a test of another element compares with
abbrev pub joined_origin : ℕ → NormalOperand → Option Origin
joined_origin place (normal.Constant c) = None
joined_origin place (normal.OneOf cs) = None
joined_origin place (normal.Bound o) = if o.place == place then None else Some o

abbrev pub join_test : ℕ → NormalTest → Option JoinTest
join_test place t = option_map (λ o. record { field = t.field; pred = t.pred; place = o.place; other = o.field }) (joined_origin place t.operand)

-- the other tests, in order
abbrev pub join_tests : ℕ → List NormalTest → List JoinTest
join_tests place ts = filter_map (join_test place) ts
