-- What is printed of a fault of a text.
use Rattle.std.specs.Prelude.{ℕ, List, codes}
use Rattle.ops_base.specs.declared.endings.Limit.{Limit}
use Rattle.ops_base.specs.declared.endings.Limit.TheVariants as limit
use Rattle.ops_base.specs.declared.endings.Fault.{Fault}
use Rattle.ops_base.specs.declared.endings.Fault.TheVariants as fault

abbrev pub limit_text : Limit → List ℕ
limit_text limit.Conditions = codes "limit passed: conditions"
limit_text limit.Fields = codes "limit passed: fields"
limit_text limit.Nesting = codes "limit passed: nesting"

abbrev pub fault_text : Fault → List ℕ
fault_text fault.BadByte = codes "bad byte"
fault_text fault.Unclosed = codes "unclosed"
fault_text fault.Stray = codes "stray"
fault_text fault.FractionNumber = codes "fraction"
fault_text fault.NumberRange = codes "number out of range"
fault_text fault.UnknownCommand = codes "unknown command"
fault_text fault.BadForm = codes "bad form"
fault_text fault.UnknownClass = codes "unknown class"
fault_text fault.UnknownAttribute = codes "unknown attribute"
fault_text fault.DeclaredTwice = codes "declared twice"
fault_text fault.TwoVectors = codes "two vector attributes"
fault_text fault.LateDeclaration = codes "late declaration"
fault_text fault.LateProduction = codes "late production"
fault_text fault.FirstNegated = codes "first condition negated"
fault_text fault.UnboundVariable = codes "unbound variable"
fault_text fault.BadDesignator = codes "bad designator"
fault_text fault.AmbiguousDesignator = codes "ambiguous designator"
fault_text (fault.LimitPassed l) = limit_text l
fault_text fault.TooLong = codes "text too long"
