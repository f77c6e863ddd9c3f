-- The pair at the place keeps its key.
use Rattle.std.proofs.Common.{◌≡◌, ◌<◌, ◌∙◌, Some, ap, length, refl, slice_get, subst, sym}
use Rattle.std.proofs.lemmas.Option.{slice_get-get_or}
use Rattle.token_line.specs.inner.SmallMap.{pairs_in}
use Rattle.token_line.specs.inner.SmallMapLends.{list_with_value}
use Rattle.token_line.specs.declared.small_map.Room.TheVariants.{Few}
use Rattle.token_line.proofs.SmallMapLemmas.{value_of_pair}
use Rattle.token_line.proofs.small_map.Room.value_mut.Goals as goal

pub returns-in-Few : goal.returns-in-Few
returns-in-Few g c =
    let list = c.in-Few.list in
    let i = c.args.place in
    let e = c.index_mut-pair.result.now in
    let own = rw c.in-Few.is at c.index_mut-pair.ensures in
    let within : i < length list.items = subst (λ r. i < length (pairs_in r)) c.in-Few.is c.requires in
    let at : slice_get list.items i ≡ Some e = slice_get-get_or list.items i e within ∙ ap Some (sym own.value) in
    rw c.in-Few.is (
      (refl, λ w. ap (λ o. Few (list_with_value list i w o)) (sym at)),
      record { writes_back = tt; value = value_of_pair list.items i e at },
    )
