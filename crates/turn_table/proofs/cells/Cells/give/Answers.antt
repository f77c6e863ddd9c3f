use Rattle.std.proofs.Common.{◌∷◌, [], ap, ◌∙◌}
use Rattle.turn_table.proofs.Gives.{own_after}
use Rattle.turn_table.proofs.cells.Cells.give.Goals as goal

pub returns-clause-made : goal.returns-clause-made
returns-clause-made g c = λ new longer. ap (λ v. v.own) c.let_go.ensures.knows
    ∙ own_after g.T.Kept.entries c.args.turn.seat.me.0 c.args.turn.cell c.args.turn.counts.number c.args.turn.was.value c.args.turn.value (new ∷ []) c.requires.turn.sits.same_number longer
