-- The code of a token, and the number of its line.
use Rattle.std.specs.Prelude.{ℕ, ◌+◌, ◌*◌, ◌%◌, ◌^◌, Bool, true, false, List, [], map, filter, fold, take, slice_get, slice_index, Option, Some, None}
use Rattle.std.specs.Int.{cast_unsigned, w128}
use Rattle.ops_base.specs.declared.values.Value.{Value}
use Rattle.ops_base.specs.declared.values.Value.TheVariants.{Symbol, Whole}
use Rattle.ops_base.specs.declared.values.Pred.{Pred}
use Rattle.ops_base.specs.declared.values.Pred.TheVariants.{Eq, Ne, Lt, Le, Gt, Ge, SameKind}
use Rattle.net_base.specs.declared.nodes.Kind.{Kind}
use Rattle.net_base.specs.declared.nodes.Kind.TheVariants.{Join, Negated, Group, Terminal}
use Rattle.net_base.specs.declared.nodes.JoinTest.{JoinTest}
use Rattle.net_base.specs.declared.nodes.Node.{Node}
use Rattle.net_base.specs.declared.tasks.Side.{Side}
use Rattle.net_base.specs.declared.tasks.Side.TheVariants.{Left, Right}
use Rattle.net_base.specs.Tokens.{Elements, field_in}

-- a symbol's number, or a whole number modulo 2 ^ 64, which is not negative
abbrev pub value_code : Value → ℕ
value_code (Symbol s) = s.0
value_code (Whole n) = cast_unsigned w128 n % 2 ^ 64

unfoldable pub mixed : ℕ → ℕ → ℕ
mixed h code = (31 * h + code) % 2 ^ 64

abbrev pub is_equal : Pred → Bool
is_equal Eq = true
is_equal Ne = false
is_equal Lt = false
is_equal Le = false
is_equal Gt = false
is_equal Ge = false
is_equal SameKind = false

-- the tests of a node that test for equality
abbrev pub equalities : List JoinTest → List JoinTest
equalities tests = filter (λ j. is_equal j.pred) tests

-- the value of a token of one side at a test: a field of the element at the test's place, or of its one element
abbrev pub own_value : Elements → Side → List ℕ → JoinTest → Value
own_value elements Left t j = field_in (elements (slice_index t j.place)) j.other
own_value elements Right t j = field_in (elements (slice_index t 0)) j.field

-- the codes of the values of a token of one side at the equality tests of its node
abbrev pub tested_codes : Elements → List JoinTest → Side → List ℕ → List ℕ
tested_codes elements tests s t = map (λ j. value_code (own_value elements s t j)) (equalities tests)

-- what determines a token's code: its values at the equality tests or, at a group, its first tags
abbrev pub kept_codes : Elements → Kind → List JoinTest → Side → List ℕ → List ℕ
kept_codes elements Join tests s t = tested_codes elements tests s t
kept_codes elements Negated tests s t = tested_codes elements tests s t
kept_codes elements (Group giver width members) tests s t = take width t
kept_codes elements (Terminal rule) tests s t = []

-- what determines its line: the same, except that at a terminal it is the tags
abbrev pub own_codes : Elements → Kind → List JoinTest → Side → List ℕ → List ℕ
own_codes elements Join tests s t = tested_codes elements tests s t
own_codes elements Negated tests s t = tested_codes elements tests s t
own_codes elements (Group giver width members) tests s t = take width t
own_codes elements (Terminal rule) tests s t = t

abbrev pub codes_at : Elements → Option Node → Side → List ℕ → List ℕ
codes_at elements None s t = []
codes_at elements (Some node) s t = own_codes elements node.kind node.joins s t

-- the line of a token at one side of a node, out of this many lines
abbrev pub line_number : Elements → List Node → ℕ → ℕ → Side → List ℕ → ℕ
line_number elements nodes lines n s t = fold mixed n (codes_at elements (slice_get nodes n) s t) % lines

abbrev pub kept_at : Elements → Option Node → Side → List ℕ → List ℕ
kept_at elements None s t = []
kept_at elements (Some node) s t = kept_codes elements node.kind node.joins s t

-- the code of a token at one side of a node: the node's number, with everything that determines the code mixed in
abbrev pub code_of : Elements → List Node → ℕ → Side → List ℕ → ℕ
code_of elements nodes n s t = fold mixed n (kept_at elements (slice_get nodes n) s t)
