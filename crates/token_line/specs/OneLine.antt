-- Tokens that go together at a node have the same code and are on the same line.
use Rattle.std.specs.Prelude.{◌≡◌, ℕ, true, List, [], ◌∷◌, slice_get, Some, All}
use Rattle.net_base.specs.declared.nodes.JoinTest.{JoinTest}
use Rattle.net_base.specs.declared.nodes.Node.{Node}
use Rattle.net_base.specs.declared.tasks.Side.TheVariants.{Left, Right}
use Rattle.net_base.specs.Tokens.{Elements, goes_with}
use Rattle.net_base.specs.Sound.{takes_elements}
use Rattle.token_line.specs.Numbers.{code_of, equalities, own_value, line_number}

-- at each equality test, the left token t and the element with the tag e have the same value
abbrev pub HaveOneValue : Elements → List JoinTest → List ℕ → ℕ → Type 0
HaveOneValue elements tests t e = All (λ j. own_value elements Left t j ≡ own_value elements Right (e ∷ []) j) (equalities tests)

-- A left token and a right element of one node whose values agree at each equality test have the same line.
abbrev pub OneLine : Type 0
OneLine = (elements : Elements) (nodes : List Node) (lines n : ℕ) (x : Node) (t : List ℕ) (e : ℕ)
    → slice_get nodes n ≡ Some x → takes_elements x.kind ≡ true → HaveOneValue elements x.joins t e
    → line_number elements nodes lines n Left t ≡ line_number elements nodes lines n Right (e ∷ [])

-- a left token and a right token that goes with it have the same line
abbrev pub JoinedOnOneLine : Type 0
JoinedOnOneLine = (elements : Elements) (nodes : List Node) (lines n : ℕ) (x : Node) (t r : List ℕ)
    → slice_get nodes n ≡ Some x → goes_with x.kind x.joins elements t r ≡ true
    → line_number elements nodes lines n Left t ≡ line_number elements nodes lines n Right r

-- a left token and a right token that goes with it have the same code
abbrev pub JoinedWithOneCode : Type 0
JoinedWithOneCode = (elements : Elements) (nodes : List Node) (n : ℕ) (x : Node) (t r : List ℕ)
    → slice_get nodes n ≡ Some x → goes_with x.kind x.joins elements t r ≡ true
    → code_of elements nodes n Left t ≡ code_of elements nodes n Right r
