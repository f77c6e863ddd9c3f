use Rattle.std.proofs.Common.{[], sym, ap, ◌∙◌}
use Rattle.std.proofs.lemmas.List.{append-nil}
use Rattle.turn_table.proofs.Gives.{own_after}
use Rattle.turn_table.proofs.cells.Cells.give_back.Goals as goal

pub returns-clause-none_made : goal.returns-clause-none_made
returns-clause-none_made g c = ap (λ v. v.own) c.let_go.ensures.knows
    ∙ (own_after g.T.Kept.entries c.args.turn.seat.me.0 c.args.turn.cell c.args.turn.counts.number c.args.turn.was.value c.args.turn.value [] c.requires.turn.sits.same_number (c.requires.list ∙ sym (append-nil _)) ∙ append-nil _)
