-- The width of a node does not depend on how far the nodes are looked at.
use Rattle.std.proofs.Common.{◌≡◌, ℕ, zero, suc, ◌+◌, ◌<◌, List, refl, ap, ◌∙◌, arith, slice_get, Option, Some, None}
use Rattle.net_base.specs.declared.nodes.Node.{Node}
use Rattle.net_base.specs.Sound.{added_tags, width_above, width_of_node, width_below, width, left_width}

abbrev ParentsFirst : List Node → Type 0
ParentsFirst nodes = (n p : ℕ) (x : Node) → slice_get nodes n ≡ Some x → x.parent ≡ Some p → p < n

module _ (nodes : List Node) (first : ParentsFirst nodes) where
  width_settled : (k j n : ℕ) → n < k → n < j → width_below k nodes n ≡ width_below j nodes n
  width_settled zero j n lt lj = absurd (omega arith)
  width_settled (suc k) zero n lt lj = absurd (omega arith)
  width_settled (suc k) (suc j) n lt lj = by (λ p. width_settled k j p) (slice_get nodes n) refl
    where
      above : ((p : ℕ) → p < k → p < j → width_below k nodes p ≡ width_below j nodes p) → (x : Node) → slice_get nodes n ≡ Some x → (o : Option ℕ) → x.parent ≡ o → width_above (width_below k nodes) o ≡ width_above (width_below j nodes) o
      above ih x at None e = refl
      above ih x at (Some p) e = let low = first n p x at e in ih p (omega arith) (omega arith)

      by : ((p : ℕ) → p < k → p < j → width_below k nodes p ≡ width_below j nodes p) → (o : Option Node) → slice_get nodes n ≡ o → width_of_node (width_below k nodes) o ≡ width_of_node (width_below j nodes) o
      by ih None at = refl
      by ih (Some x) at = ap (λ w. w + added_tags x.kind) (above ih x at x.parent refl)

  -- the width of a node is that of its left tokens and what it adds
  pub width_is : (n : ℕ) (x : Node) → slice_get nodes n ≡ Some x → width nodes n ≡ left_width nodes x.parent + added_tags x.kind
  width_is n x at = ap (width_of_node (width_below n nodes)) at ∙ ap (λ w. w + added_tags x.kind) (above x.parent refl)
    where
      above : (o : Option ℕ) → x.parent ≡ o → width_above (width_below n nodes) o ≡ width_above (width nodes) o
      above None e = refl
      above (Some p) e = let low = first n p x at e in width_settled n (suc p) p low (omega arith)
