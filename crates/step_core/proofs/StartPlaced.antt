-- The line that a token's code gives is a placing, and a child's node comes after its parent's.
use Rattle.std.proofs.Common.{inl, inr, ◌<◌, ℕ, List, length, sym, ap, ◌∙◌, arith}
use Rattle.std.proofs.lemmas.Option.{slice_get_cases}
use Rattle.net_base.specs.declared.nodes.Node.{Node}
use Rattle.net_base.specs.declared.tasks.Side.{Side}
use Rattle.net_base.specs.declared.tasks.Task.{Task}
use Rattle.token_line.specs.Lawful.{IsChildOf, giver_in}
use Rattle.token_line.proofs.Joined.{joined_on_one_line}
use Rattle.step_core.specs.Settling.{ChildLaw, PlacedLaw}
use Rattle.step_core.specs.Worlds.{placed}
use Rattle.step_core.proofs.Settled.{giver_below}

pub is_placed : PlacedLaw
is_placed elements alphas nodes lines sound some = record {
  sound = sound;
  one_line = λ n x t r at c. joined_on_one_line elements nodes lines n x t r at c;
  below = λ n s t. below n s t;
}
  where
    below : (n : ℕ) (s : Side) (t : List ℕ) → placed elements nodes lines n s t < lines
    below n s t = grind (arith, some)

child_within : (nodes : List Node) (x : Task) (p : ℕ) → IsChildOf nodes p x → x.node < length nodes
child_within nodes x p child = elim (slice_get_cases nodes x.node).1 [
  | inl h ↦ h.1
  | inr h ↦ absurd (let e = sym child ∙ ap (λ o. giver_in o x.side) h.1 in cc)
]

pub child_law : ChildLaw
child_law alphas nodes p x sound child = (giver_below alphas nodes sound x.node x.side p child, child_within nodes x p child)
