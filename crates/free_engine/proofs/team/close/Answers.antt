-- The closed cells account for all that the workers did.
use Rattle.std.proofs.Common.{◌≡◌, ◌∙◌, [], List, map, sym, subst}
use Rattle.std.specs.List.{All}
use Rattle.token_line.specs.declared.line.Line.{Line}
use Rattle.activation.specs.Acting.{IsCounted}
use Rattle.serial_engine.specs.Carrying.{CarriesOn}
use Rattle.turn_table.specs.Turns.{first_values, knows, rows}
use Rattle.free_engine.proofs.Results.{if_ok}
use Rattle.free_engine.proofs.SharedLines.{lines_carry, lines_counted, lines_numbers}
use Rattle.free_engine.proofs.team.close.Goals as goal

pub returns-in-Ok-clause-carries : goal.returns-in-Ok-clause-carries
returns-in-Ok-clause-carries c =
    let a = c.args in let o = a.opened.now.value in let lead = c.requires.leads in let closed = c.in-Ok.closed in
    if_ok _ _ c.lines_of.result
    (λ v is. subst (λ (ls : List Line). CarriesOn a.net.now.alphas a.net.now.nodes a.store.now o.lines.items o.flight.items ls []) (sym is)
    (lines_carry a.net.now a.store.now a.workers o.flight.items o.lines.items (first_values a.cells) c.requires.opened c.requires.numbered
    (knows a.pass) lead.first.0.0.same_values lead.own (lead.first.0.0.same_splits ∙ lead.split_is) c.requires.joined c.requires.saw closed.cells.items (rows closed.made) c.in-Ok.ensures.log)) c.lines_of.ensures

pub returns-in-Ok-clause-counted : goal.returns-in-Ok-clause-counted
returns-in-Ok-clause-counted c =
    let a = c.args in let o = a.opened.now.value in let lead = c.requires.leads in let closed = c.in-Ok.closed in
    if_ok _ _ c.lines_of.result
    (λ v is. subst (All (IsCounted a.net.now.nodes a.store.now)) (sym is)
    (lines_counted a.net.now a.store.now a.workers o.flight.items o.lines.items (first_values a.cells) c.requires.opened c.requires.numbered
    (knows a.pass) lead.first.0.0.same_values lead.own (lead.first.0.0.same_splits ∙ lead.split_is) c.requires.joined c.requires.saw closed.cells.items (rows closed.made) c.in-Ok.ensures.log)) c.lines_of.ensures

pub returns-in-Ok-clause-numbers : goal.returns-in-Ok-clause-numbers
returns-in-Ok-clause-numbers c =
    let a = c.args in let o = a.opened.now.value in let lead = c.requires.leads in let closed = c.in-Ok.closed in
    if_ok _ _ c.lines_of.result
    (λ v is. subst (λ (ls : List Line). map (λ (l : Line). l.number) ls ≡ map (λ (l : Line). l.number) o.lines.items) (sym is)
    (lines_numbers a.net.now a.store.now a.workers o.flight.items o.lines.items (first_values a.cells) c.requires.opened c.requires.numbered
    (knows a.pass) lead.first.0.0.same_values lead.own (lead.first.0.0.same_splits ∙ lead.split_is) c.requires.joined c.requires.saw closed.cells.items (rows closed.made) c.in-Ok.ensures.log)) c.lines_of.ensures
