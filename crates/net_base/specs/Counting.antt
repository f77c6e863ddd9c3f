-- The size of the network of rules, as numbers that can be computed.
use mathlib.Core.Bool.{beq}
use Rattle.std.specs.Prelude.{ℕ, Bool, false, not, ◌==◌, ◌&&◌, List, [], ◌∷◌, ◌++◌, length, filter, flat_map}
use Rattle.std.specs.Cmp.Lexicographic.{pointwise}
use Rattle.std.specs.Set.{distinct_count}
use Rattle.ops_base.specs.Values.{are_same}
use Rattle.ops_base.specs.declared.values.Pred.{Pred}
use Rattle.ops_base.specs.declared.values.Pred.TheVariants.{Eq, Ne, Lt, Le, Gt, Ge, SameKind}
use Rattle.ops_base.specs.declared.conditions.Operand.{Operand}
use Rattle.ops_base.specs.declared.conditions.Operand.TheVariants as operand
use Rattle.ops_base.specs.declared.conditions.Test.{Test}
use Rattle.ops_base.specs.declared.rules.Rule.{Rule}
use Rattle.net_base.specs.declared.normal.NormalOperand.{NormalOperand}
use Rattle.net_base.specs.declared.normal.NormalOperand.TheVariants as normal
use Rattle.net_base.specs.declared.normal.NormalTest.{NormalTest}
use Rattle.net_base.specs.declared.normal.NormalCondition.{NormalCondition}
use Rattle.net_base.specs.declared.normal.NormalPart.{NormalPart}
use Rattle.net_base.specs.declared.normal.NormalPart.TheVariants.{One, Group}
use Rattle.net_base.specs.declared.counts.Counts.{Counts}
use Rattle.net_base.specs.Normal.{alpha_tests}
use Rattle.net_base.specs.Shape.{normal_form, is_negative, positives}

-- ---- equality

abbrev pub pred_number : Pred → ℕ
pred_number Eq = 0
pred_number Ne = 1
pred_number Lt = 2
pred_number Le = 3
pred_number Gt = 4
pred_number Ge = 5
pred_number SameKind = 6

abbrev pub are_same_preds : Pred → Pred → Bool
are_same_preds p q = pred_number p == pred_number q

abbrev pub are_same_operands : Operand → Operand → Bool
are_same_operands (operand.Constant a) (operand.Constant b) = are_same a b
are_same_operands (operand.OneOf xs) (operand.OneOf ys) = pointwise are_same xs ys
are_same_operands (operand.Variable v) (operand.Variable w) = v == w
are_same_operands _ _ = false

abbrev pub are_same_tests : Test → Test → Bool
are_same_tests t u = t.field == u.field && are_same_preds t.pred u.pred && are_same_operands t.operand u.operand && beq t.binds u.binds

abbrev pub are_same_normal_operands : NormalOperand → NormalOperand → Bool
are_same_normal_operands (normal.Constant a) (normal.Constant b) = are_same a b
are_same_normal_operands (normal.OneOf xs) (normal.OneOf ys) = pointwise are_same xs ys
are_same_normal_operands (normal.Bound o) (normal.Bound p) = o.place == p.place && o.field == p.field
are_same_normal_operands _ _ = false

abbrev pub are_same_normal_tests : NormalTest → NormalTest → Bool
are_same_normal_tests t u = t.field == u.field && are_same_preds t.pred u.pred && are_same_normal_operands t.operand u.operand

abbrev pub are_same_conditions : NormalCondition → NormalCondition → Bool
are_same_conditions c d = beq c.negated d.negated && c.class == d.class && pointwise are_same_normal_tests c.tests d.tests

abbrev pub are_same_parts : NormalPart → NormalPart → Bool
are_same_parts (One c) (One d) = are_same_conditions c d
are_same_parts (Group cs) (Group ds) = pointwise are_same_conditions cs ds
are_same_parts _ _ = false

-- ---- paths

-- a path, given by the parts before its last part and by the last part
abbrev pub Path : Type 0
Path = List NormalPart × NormalPart

abbrev pub are_same_paths : Path → Path → Bool
are_same_paths p q = pointwise are_same_parts p.0 q.0 && are_same_parts p.1 q.1

-- the paths of members of a group that comes after these parts
abbrev pub member_paths : List NormalPart → List NormalCondition → List Path
member_paths before [] = []
member_paths before (c ∷ cs) = (before, One c) ∷ member_paths (before ++ One c ∷ []) cs

-- the paths of parts that come after these
abbrev pub paths_behind : List NormalPart → List NormalPart → List Path
paths_behind before [] = []
paths_behind before (One c ∷ ps) = (before, One c) ∷ paths_behind (before ++ One c ∷ []) ps
paths_behind before (Group cs ∷ ps) = member_paths before cs ++ (before, Group cs) ∷ paths_behind (before ++ Group cs ∷ []) ps

-- those of all rules, rule by rule
abbrev pub paths_of : List Rule → List Path
paths_of rules = flat_map (λ r. paths_behind [] (normal_form r)) rules

abbrev pub alpha_list : List NormalPart → NormalPart → List (ℕ × List Test)
alpha_list before (One c) = (c.class, alpha_tests (positives before) c.tests) ∷ []
alpha_list before (Group cs) = []

-- the class and the alpha tests of a path's last part, if that is a condition
abbrev pub alpha_list_of : Path → List (ℕ × List Test)
alpha_list_of p = alpha_list p.0 p.1

abbrev pub are_same_alpha_lists : ℕ × List Test → ℕ × List Test → Bool
are_same_alpha_lists a b = a.0 == b.0 && pointwise are_same_tests a.1 b.1

-- ---- the numbers

-- the distinct pairs of a class and a list of alpha tests, the distinct paths that end in a positive condition and
-- those that end in a negated one or a group, and the rules
abbrev pub shape_of : List Rule → Counts
shape_of rules = record {
  alpha = distinct_count are_same_alpha_lists (flat_map alpha_list_of (paths_of rules));
  join = distinct_count are_same_paths (filter (λ p. not (is_negative p.1)) (paths_of rules));
  negated = distinct_count are_same_paths (filter (λ p. is_negative p.1) (paths_of rules));
  terminal = length rules;
}
