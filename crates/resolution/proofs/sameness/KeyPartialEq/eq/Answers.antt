use Rattle.std.proofs.Common.{nat_eq, sym, ◌∙◌}
use Rattle.std.specs.Cmp.Lexicographic.{pointwise}
use Rattle.resolution.specs.Keys.{same_keys}
use Rattle.resolution.proofs.Halves.{same_numbers, same_if_equal}
use Rattle.resolution.proofs.sameness.KeyPartialEq.eq.Goals as goal
use Rattle.resolution.proofs.sameness.KeyPartialEq.eq.Goals.{then-self-other, else-self-other}

pub returns-then-self-other-2 : goal.returns-then-self-other-2
returns-then-self-other-2 c = elim c.if-self-other.branch [
  | then-self-other w ↦
      c.eq.ensures
      ∙ (λ k. pointwise nat_eq (c.as_slice.ensures.value k) (c.as_slice-then-self-other-2.ensures.value k))
      ∙ same_numbers c.self.inside.numbers.items c.other.inside.numbers.items c.self.inside.rule c.other.inside.rule c.self.inside.specificity c.other.inside.specificity
      w.if-self-other.true (same_if_equal _ _ (sym w.value-is ∙ c.if-self-other-2.true))
      ∙ (λ k. same_keys (c.self.view_is k) (c.other.view_is k))
  | else-self-other w ↦ absurd (w.if-self-other.false (same_if_equal _ _ (sym w.value-is ∙ c.if-self-other-2.true)))
]
