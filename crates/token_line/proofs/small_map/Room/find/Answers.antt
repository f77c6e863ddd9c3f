-- A place among the keys is one among the pairs.
use Rattle.std.proofs.Common.{ap, position, sym, ◌∙◌}
use Rattle.std.specs.Map.{keys_of}
use Rattle.token_line.specs.inner.SmallMap.{pairs_in}
use Rattle.token_line.proofs.SmallMapLemmas.{position-map}
use Rattle.token_line.proofs.small_map.Room.find.Goals as goal

pub returns-in-Few : goal.returns-in-Few
returns-in-Few g c =
    let test = g.K.PartialEq.eq c.args.key.now in
    c.place_in.ensures
    ∙ (ap (position (λ (e : g.row.K.Denot × g.row.V.Denot). test e.0)) c.as_slice.ensures.value
    ∙ (sym (position-map test (λ (e : g.row.K.Denot × g.row.V.Denot). e.0) c.in-Few.list.items) ∙ ap (λ r. position test (keys_of (pairs_in r))) (sym c.in-Few.is)))
