-- A new key joins those that were there, or nothing has changed.
use Rattle.std.proofs.Common.{◌∙◌, ap, subst, sym}
use Rattle.std.specs.List.{IsDistinct}
use Rattle.std.specs.Map.{keys_of, lookup}
use Rattle.token_line.specs.inner.SmallMap.{pairs_in}
use Rattle.token_line.proofs.SmallMapLemmas.{pushed_or_not}
use Rattle.token_line.proofs.small_map.SmallMap.push_within.Goals as goal

pub invariant_of-self-2 : goal.invariant_of-self-2
invariant_of-self-2 g c =
    let eq = g.K.PartialEq.eq in
    let kept = pairs_in c.widen.new.self in
    pushed_or_not g.met.K.Eq.laws c.push.result kept (pairs_in c.push.new.self) c.args.key c.args.value
    (subst (λ l. IsDistinct eq (keys_of l)) (sym c.widen.ensures) c.self.invariant)
    (ap (lookup (eq c.args.key)) (c.widen.ensures ∙ c.self.view_is) ∙ c.requires) c.push.ensures.ok c.push.ensures.err
