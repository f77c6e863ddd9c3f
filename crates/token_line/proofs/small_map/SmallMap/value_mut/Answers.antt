-- The keys stay, whatever value is left at the place.
use Rattle.std.proofs.Common.{◌∙◌, ap, refl, slice_get, subst, sym}
use Rattle.std.specs.List.{IsDistinct}
use Rattle.std.specs.Map.{keys_of, values_of}
use Rattle.indexmap.specs.IndexMap.{set_value_at}
use Rattle.token_line.specs.inner.SmallMap.{pairs_in}
use Rattle.token_line.proofs.SmallMapLemmas.{keys_set, pairs_set}
use Rattle.token_line.proofs.small_map.SmallMap.value_mut.Goals as goal

pub invariant_of-self-lent : goal.invariant_of-self-lent
invariant_of-self-lent g c = λ w.
    subst (IsDistinct g.K.PartialEq.eq)
    (sym (ap keys_of (pairs_set c.self.inside.room c.args.place w) ∙ keys_set (pairs_in c.self.inside.room) c.args.place w)) c.self.invariant

pub returns : goal.returns
returns g c = (
  (refl, λ w. pairs_set c.self.inside.room c.args.place w ∙ ap (λ es. set_value_at es c.args.place w) c.self.view_is),
  record { writes_back = tt; value = ap (λ es. slice_get (values_of es) c.args.place) (sym c.self.view_is) ∙ c.value_mut.ensures.value },
)
