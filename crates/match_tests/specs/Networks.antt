-- Small networks with their elements, for the tests.
use Rattle.std.specs.Prelude.{ℕ, List, [], ◌∷◌, pos, Option, Some, None}
use Rattle.ops_base.specs.declared.elements.Element.{Element}
use Rattle.ops_base.specs.declared.values.Pred.TheVariants.{Eq}
use Rattle.ops_base.specs.declared.values.Value.TheVariants.{Whole}
use Rattle.net_base.specs.declared.nodes.Alpha.{Alpha}
use Rattle.net_base.specs.declared.nodes.JoinTest.{JoinTest}
use Rattle.net_base.specs.declared.nodes.Kind.{Kind}
use Rattle.net_base.specs.declared.nodes.Kind.TheVariants.{Join, Negated, Terminal}
use Rattle.net_base.specs.declared.nodes.Node.{Node}

-- an element with one field, which is 7
abbrev pub element_of : ℕ → ℕ → Element
element_of tag class = record { tag = tag; class = class; fields = Whole (pos 7) ∷ [] }

-- all elements of one class
abbrev pub alpha_of : ℕ → Alpha
alpha_of class = record { class = class; tests = [] }

abbrev pub one_class : List Alpha
one_class = alpha_of 0 ∷ []

abbrev pub two_classes : List Alpha
two_classes = alpha_of 0 ∷ alpha_of 1 ∷ []

-- the element has the value of the first one
abbrev pub same : JoinTest
same = record { field = 0; pred = Eq; place = 0; other = 0 }

-- ---- nodes

-- a join of the elements of class 0, as a child of the root
abbrev pub root_with : List ℕ → Node
root_with children = record { kind = Join; parent = None; class = 0; alpha = 0; joins = []; children = children; rights = []; depth = 1 }

-- the node of a second condition, with node 2 below it
abbrev pub second_of : Kind → ℕ → List JoinTest → Node
second_of kind class joins = record { kind = kind; parent = Some 0; class = class; alpha = class; joins = joins; children = 2 ∷ []; rights = []; depth = 2 }

abbrev pub terminal_at : ℕ → ℕ → Node
terminal_at parent depth = record { kind = Terminal 0; parent = Some parent; class = 0; alpha = 0; joins = []; children = []; rights = []; depth = depth }

-- ---- networks

-- `(p free (a) - (b) -->)`
abbrev pub free : List Node
free = root_with (1 ∷ []) ∷ second_of Negated 1 [] ∷ terminal_at 1 3 ∷ []

-- `(p twin (a ^n <x>) (a ^n <x>) -->)`
abbrev pub twin : List Node
twin = root_with (1 ∷ []) ∷ second_of Join 0 (same ∷ []) ∷ terminal_at 1 3 ∷ []

-- `(p pair (a ^n <x>) (b ^n <x>) -->)`
abbrev pub pair : List Node
pair = root_with (1 ∷ []) ∷ second_of Join 1 (same ∷ []) ∷ terminal_at 1 3 ∷ []
