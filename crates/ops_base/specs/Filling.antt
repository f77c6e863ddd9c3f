-- A production with other constants in the place of some of its own. Constants are counted in the order of the text, the
-- numbers of expressions aside.
use Rattle.std.specs.Prelude.{ℕ, suc, ◌+◌, List, [], ◌∷◌, length, sum_by, find, ◌==◌, Option, option_map, unwrap_or}
use Rattle.ops_base.specs.declared.values.Value.{Value}
use Rattle.ops_base.specs.declared.filling.Filling.{Filling}
use Rattle.ops_base.specs.declared.conditions.Operand.{Operand}
use Rattle.ops_base.specs.declared.conditions.Operand.TheVariants as operand
use Rattle.ops_base.specs.declared.conditions.Test.{Test}
use Rattle.ops_base.specs.declared.conditions.Condition.{Condition}
use Rattle.ops_base.specs.declared.conditions.Part.{Part}
use Rattle.ops_base.specs.declared.conditions.Part.TheVariants as part
use Rattle.ops_base.specs.declared.actions.Term.{Term}
use Rattle.ops_base.specs.declared.actions.Term.TheVariants as term
use Rattle.ops_base.specs.declared.actions.Put.{Put}
use Rattle.ops_base.specs.declared.actions.Item.{Item}
use Rattle.ops_base.specs.declared.actions.Item.TheVariants as item
use Rattle.ops_base.specs.declared.actions.Action.{Action}
use Rattle.ops_base.specs.declared.actions.Action.TheVariants as action
use Rattle.ops_base.specs.declared.rules.Rule.{Rule}

-- items one after another, the first of whose constants has number n
abbrev pub each : {X : Type 0} → (X → ℕ) → (ℕ → X → X) → ℕ → List X → List X
each count fill n [] = []
each count fill n (x ∷ xs) = fill n x ∷ each count fill (n + count x) xs

abbrev pub total : {X : Type 0} → (X → ℕ) → List X → ℕ
total count [] = 0
total count (x ∷ xs) = count x + total count xs

-- what the constant with this number becomes
abbrev pub value_filled : List Filling → ℕ → Value → Value
value_filled fs n v = unwrap_or (option_map (λ f. f.value) (find (λ f. f.number == n) fs)) v

abbrev pub one : {X : Type 0} → X → ℕ
one x = 1

abbrev pub in_operand : Operand → ℕ
in_operand (operand.Constant v) = 1
in_operand (operand.OneOf vs) = total one vs
in_operand (operand.Variable v) = 0

abbrev pub operand_filled : List Filling → ℕ → Operand → Operand
operand_filled fs n (operand.Constant v) = operand.Constant (value_filled fs n v)
operand_filled fs n (operand.OneOf vs) = operand.OneOf (each one (value_filled fs) n vs)
operand_filled fs n (operand.Variable v) = operand.Variable v

abbrev pub in_test : Test → ℕ
in_test t = in_operand t.operand

abbrev pub test_filled : List Filling → ℕ → Test → Test
test_filled fs n t = record t { operand = operand_filled fs n t.operand }

abbrev pub in_condition : Condition → ℕ
in_condition c = total in_test c.tests

abbrev pub condition_filled : List Filling → ℕ → Condition → Condition
condition_filled fs n c = record c { tests = each in_test (test_filled fs) n c.tests }

abbrev pub in_part : Part → ℕ
in_part (part.One c) = in_condition c
in_part (part.Group cs) = total in_condition cs

abbrev pub part_filled : List Filling → ℕ → Part → Part
part_filled fs n (part.One c) = part.One (condition_filled fs n c)
part_filled fs n (part.Group cs) = part.Group (each in_condition (condition_filled fs) n cs)

abbrev pub in_term : Term → ℕ
in_term (term.Constant v) = 1
in_term _ = 0

abbrev pub term_filled : List Filling → ℕ → Term → Term
term_filled fs n (term.Constant v) = term.Constant (value_filled fs n v)
term_filled fs n t = t

abbrev pub in_put : Put → ℕ
in_put p = total in_term p.terms

abbrev pub put_filled : List Filling → ℕ → Put → Put
put_filled fs n p = record p { terms = each in_term (term_filled fs) n p.terms }

abbrev pub in_item : Item → ℕ
in_item (item.Print t) = in_term t
in_item _ = 0

abbrev pub item_filled : List Filling → ℕ → Item → Item
item_filled fs n (item.Print t) = item.Print (term_filled fs n t)
item_filled fs n i = i

abbrev pub in_action : Action → ℕ
in_action (action.Make class puts) = total in_put puts
in_action (action.Modify cell puts) = total in_put puts
in_action (action.Write items) = total in_item items
in_action (action.Bind variable t) = in_term t
in_action (action.Remove cells) = 0
in_action (action.Cbind cell) = 0
in_action action.Halt = 0
in_action (action.Build template holes) = 0

abbrev pub action_filled : List Filling → ℕ → Action → Action
action_filled fs n (action.Make class puts) = action.Make class (each in_put (put_filled fs) n puts)
action_filled fs n (action.Modify cell puts) = action.Modify cell (each in_put (put_filled fs) n puts)
action_filled fs n (action.Write items) = action.Write (each in_item (item_filled fs) n items)
action_filled fs n (action.Bind variable t) = action.Bind variable (term_filled fs n t)
action_filled fs n a = a

abbrev pub rule_filled : List Filling → Rule → Rule
rule_filled fs r =
    record r {
      conditions = each in_part (part_filled fs) 0 r.conditions;
      actions = each in_action (action_filled fs) (total in_part r.conditions) r.actions;
    }
