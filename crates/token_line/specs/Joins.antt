-- Whether the tests of a node join an element to a left token.
use Rattle.std.specs.Prelude.{ℕ, Bool, List, Option, slice_index}
use Rattle.std.specs.List.{list_all}
use Rattle.ops_base.specs.declared.elements.Element.{Element}
use Rattle.ops_base.specs.Values.{holds_of}
use Rattle.net_base.specs.declared.nodes.JoinTest.{JoinTest}
use Rattle.net_base.specs.Tokens.{Elements, field_in}

-- Each test holds of this element, if there is one, and of those that the left token t names. So this is `joins_hold`
-- for a tag that names this element.
abbrev pub joins_with : List JoinTest → Elements → List ℕ → Option Element → Bool
joins_with tests elements t e =
    list_all (λ j. holds_of j.pred (field_in e j.field) (field_in (elements (slice_index t j.place)) j.other)) tests
