-- Productions that have the same conditions as an earlier one, up to the names of variables.
use Rattle.std.specs.Prelude.{ℕ, List, [], ◌∷◌, ◌++◌, codes, decimal, flat_map, if◌then◌else◌, Option, Some, None, unwrap_or, slice_get}
use Rattle.std.specs.Fmt.{signed_decimal}
use Rattle.ops_base.specs.declared.values.Sym.{Sym}
use Rattle.ops_base.specs.declared.values.Value.{Value}
use Rattle.ops_base.specs.declared.values.Value.TheVariants.{Symbol, Whole}
use Rattle.ops_base.specs.declared.values.Pred.{Pred}
use Rattle.ops_base.specs.declared.values.Pred.TheVariants.{Eq, Ne, Lt, Le, Gt, Ge, SameKind}
use Rattle.ops_base.specs.declared.conditions.Operand.{Operand}
use Rattle.ops_base.specs.declared.conditions.Operand.TheVariants.{Constant, OneOf, Variable}
use Rattle.ops_base.specs.declared.conditions.Test.{Test}
use Rattle.ops_base.specs.declared.conditions.Condition.{Condition}
use Rattle.ops_base.specs.declared.conditions.Part.{Part}
use Rattle.ops_base.specs.declared.conditions.Part.TheVariants.{One, Group}
use Rattle.ops_base.specs.declared.rules.Rule.{Rule}
use Rattle.program_slips.specs.declared.alike.Twin.{Twin}
use Rattle.program_slips.specs.Texts.{met_at, with_text}

-- ---- a left side as one text, in which classes, attributes, symbols and variables are represented by their numbers

abbrev pub value_text : Value → List ℕ
value_text (Symbol s) = codes "s" ++ decimal s.0
value_text (Whole n) = codes "n" ++ signed_decimal n

abbrev pub pred_text : Pred → List ℕ
pred_text Eq = codes "="
pred_text Ne = codes "<>"
pred_text Lt = codes "<"
pred_text Le = codes "<="
pred_text Gt = codes ">"
pred_text Ge = codes ">="
pred_text SameKind = codes "<=>"

abbrev pub operand_text : Operand → List ℕ
operand_text (Constant v) = value_text v
operand_text (OneOf vs) = codes "{" ++ flat_map value_text vs ++ codes "}"
operand_text (Variable n) = codes "v" ++ decimal n

abbrev pub test_text : Test → List ℕ
test_text t = codes "^" ++ decimal t.field ++ pred_text t.pred ++ operand_text t.operand

abbrev pub sign_text : Condition → List ℕ
sign_text c = if c.negated then codes "-(" else codes "("

abbrev pub condition_text : Condition → List ℕ
condition_text c = sign_text c ++ decimal c.class ++ flat_map test_text c.tests ++ codes ")"

abbrev pub part_text : Part → List ℕ
part_text (One c) = condition_text c
part_text (Group cs) = codes "[" ++ flat_map condition_text cs ++ codes "]"

abbrev pub left_text : Rule → List ℕ
left_text r = flat_map part_text r.conditions

-- ---- productions in text order

-- the earlier one with these conditions, if they were met before, at this place
abbrev pub twins_of : List Sym → Rule → Option ℕ → List Twin
twins_of names r None = []
twins_of names r (Some i) = record { at = r.first; name = r.name; earlier = unwrap_or (slice_get names i) r.name } ∷ []

abbrev pub names_after : List Sym → Rule → Option ℕ → List Sym
names_after names r None = names ++ r.name ∷ []
names_after names r (Some i) = names

-- the conditions that were met, and with each the name of its first production
abbrev pub twins_by : List (List ℕ) → List Sym → List Rule → List Twin
twins_by texts names [] = []
twins_by texts names (r ∷ rs) =
    twins_of names r (met_at texts (left_text r))
    ++ twins_by (with_text texts (left_text r)) (names_after names r (met_at texts (left_text r))) rs

-- Each production that has the same conditions as an earlier one. Productions that commands add later are left out:
-- they may replace one that was removed.
abbrev pub twins : List Rule → List Twin
twins rules = twins_by [] [] rules
