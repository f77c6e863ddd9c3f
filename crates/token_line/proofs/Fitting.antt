-- The node of a token that fits, and the token's length.
use Rattle.std.proofs.Common.{inl, inr, ◌≡◌, ◌+◌, ℕ, true, List, length, sym, subst, ◌∙◌, arith, slice_get, Some, IsSome}
use Rattle.std.specs.List.{All}
use Rattle.std.proofs.lemmas.Bool.Decides.{Decides-eqb}
use Rattle.std.proofs.lemmas.Option.{slice_get_within, slice_get_cases}
use Rattle.work_store.specs.Stored.{Stored, held_of}
use Rattle.net_base.specs.declared.nodes.Kind.{Kind}
use Rattle.net_base.specs.declared.nodes.Kind.TheVariants.{Join, Negated, Group, Terminal}
use Rattle.net_base.specs.declared.nodes.Node.{Node}
use Rattle.net_base.specs.declared.tasks.Side.{Side}
use Rattle.net_base.specs.declared.tasks.Side.TheVariants.{Left}
use Rattle.net_base.specs.Sound.{left_width, takes_elements}
use Rattle.net_base.specs.Tokens.{right_width}
use Rattle.token_line.specs.Held.{Fits, is_right_wide, is_wide}

-- a left token has as many tags as its node's left tokens
pub left_is_wide : (nodes : List Node) (node : Node) (t : List ℕ) → length t ≡ left_width nodes node.parent → is_wide nodes node Left t ≡ true
left_is_wide nodes node t e = (Decides-eqb (length t) (left_width nodes node.parent)).1 e

pub left_length : (nodes : List Node) (node : Node) (t : List ℕ) → is_wide nodes node Left t ≡ true → length t ≡ left_width nodes node.parent
left_length nodes node t w = (Decides-eqb (length t) (left_width nodes node.parent)).0 w

-- a right token has as many as its node's right tokens
pub right_length : (k : Kind) (t : List ℕ) → is_right_wide k t ≡ true → length t ≡ right_width k
right_length Join t w = (Decides-eqb (length t) 1).0 w
right_length Negated t w = (Decides-eqb (length t) 1).0 w
right_length (Group giver width members) t w = (Decides-eqb (length t) (width + members)).0 w
right_length (Terminal rule) t w = absurd (cc)

-- where the node takes elements it has one
pub one_length : (k : Kind) (t : List ℕ) → takes_elements k ≡ true → is_right_wide k t ≡ true → length t ≡ 1
one_length Join t e w = (Decides-eqb (length t) 1).0 w
one_length Negated t e w = (Decides-eqb (length t) 1).0 w
one_length (Group giver width members) t e w = absurd (cc)
one_length (Terminal rule) t e w = absurd (cc)

module _ (nodes : List Node) (s : Stored) (n : ℕ) where
  pub node_of : (side : Side) (t : List ℕ) → Fits nodes s n side t → (node : Node) × (slice_get nodes n ≡ Some node)
  node_of side t f = elim (slice_get_cases nodes n).1 [
    | inl h ↦ (h.0, h.2)
    | inr h ↦ absurd (let a = f.within in omega (arith, h.0, a))
  ]

  -- a token fits at a node that the network has
  pub fits_at : (node : Node) → slice_get nodes n ≡ Some node → (side : Side) (t : List ℕ) → is_wide nodes node side t ≡ true → All (λ tag. IsSome (held_of s tag)) t
      → Fits nodes s n side t
  fits_at node at side t wide held = record {
    within = slice_get_within nodes n node at;
    width = λ x is. (let same : node ≡ x = (let e = sym at ∙ is in cc) in subst (λ y. is_wide nodes y side t ≡ true) same wide);
    held = held;
  }
