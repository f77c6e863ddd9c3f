use Rattle.std.proofs.Common.{rules, ◌≡◌, subst}
use Rattle.std.specs.Prelude.{Some}
use Rattle.turn_table.specs.Log.{given_to, signed_by}
use Rattle.turn_table.specs.Steps.{Comes}
use Rattle.turn_table.proofs.Lists.{same_rest}
use Rattle.turn_table.proofs.cells.Cells.claim.Goals as goal

pub exchange-requires : goal.exchange-requires
exchange-requires g c = let took = c.take_cell-word.ensures.took in (search rules, (Some took.value, same_rest _ _ _ took.slot))

pub returns-clause-mine : goal.returns-clause-mine
returns-clause-mine g c =
    let comes : Comes g.T.Kept.entries g.T.Kept.name g.T.Kept.signature c.args.pass.seat.me.0 c.args.cell c.in-Some.value = search rules in
    subst (λ n. signed_by g.T.Kept.signature n (g.T.Kept.entries c.in-Some.value) ≡ signed_by g.T.Kept.signature n (given_to c.args.cell c.args.pass.seat.me.0.own)) c.requires.pass.0.same_number comes.mine
