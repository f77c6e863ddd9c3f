-- What is printed about a slip, after its word.
use Rattle.std.specs.Prelude.{ℕ, List, codes}
use Rattle.lint_rules.specs.declared.slips.Slip.{Slip}
use Rattle.lint_rules.specs.declared.slips.Slip.TheVariants as slip

abbrev pub slip_text : Slip → List ℕ
slip_text slip.ClipsVariable = codes " is a symbol: a variable is written <name>"
slip_text slip.ClipsTest = codes " is a symbol: the test is written as <> and a space before the value"
slip_text slip.JoinedPredicate = codes " is a symbol: a predicate stands apart from its value, and a variable is written <name>"
slip_text slip.JoinedVariable = codes " is one variable: a predicate stands apart from its value"
slip_text slip.ChosenVariable = codes " is a symbol between << and >>, not the value of a variable"
slip_text slip.QuotedString = codes " is a symbol with its quote: words that belong together are written |like this|"
slip_text slip.PlainCrlf = codes " is printed as a word: (crlf) ends the line"
