-- The closed cells account for all that the workers did.
use Rattle.std.proofs.Common.{◌≡◌, ◌≤◌, List, length, map, sym, subst}
use Rattle.std.specs.List.{All}
use Rattle.token_line.specs.declared.line.Line.{Line}
use Rattle.activation.specs.Acting.{IsCounted}
use Rattle.serial_engine.specs.Carrying.{CarriesOn}
use Rattle.turn_table.specs.Turns.{first_values, knows, rows}
use Rattle.steal_engine.proofs.Opening.{lines_carry, lines_counted, lines_numbers, lines_some}
use Rattle.steal_engine.proofs.sharing.close.Goals as goal

pub returns-clause-carries : goal.returns-clause-carries
returns-clause-carries c =
    let a = c.args in let o = a.opened.now.value in let closed = c.in-Ok.closed in let r = c.requires in
    subst (λ (ls : List Line). CarriesOn a.net.now.alphas a.net.now.nodes a.store.now o.lines.items o.flight.items ls a.left.items) (sym c.in_ok-lines.ensures)
    (lines_carry a.net.now a.store.now o.flight.items a.left.items o.lines.items (first_values a.cells) r.opened r.numbered r.some
    (knows a.pass) r.first.0.0.same_values closed.cells.items (rows closed.made) c.in-Ok.ensures.log (r.balanced closed.cells.items (rows closed.made) c.in-Ok.ensures.log))

pub returns-clause-ready : goal.returns-clause-ready
returns-clause-ready c =
    let a = c.args in let o = a.opened.now.value in let closed = c.in-Ok.closed in let r = c.requires in record {
      flight = r.fit;
      lines = subst (All (IsCounted a.net.now.nodes a.store.now)) (sym c.in_ok-lines.ensures)
          (lines_counted a.net.now a.store.now o.flight.items a.left.items o.lines.items (first_values a.cells) r.opened r.numbered r.some
          (knows a.pass) r.first.0.0.same_values closed.cells.items (rows closed.made) c.in-Ok.ensures.log (r.balanced closed.cells.items (rows closed.made) c.in-Ok.ensures.log));
    }

pub returns-clause-numbers : goal.returns-clause-numbers
returns-clause-numbers c =
    let a = c.args in let o = a.opened.now.value in let closed = c.in-Ok.closed in let r = c.requires in
    subst (λ (ls : List Line). map (λ (l : Line). l.number) ls ≡ map (λ (l : Line). l.number) o.lines.items) (sym c.in_ok-lines.ensures)
    (lines_numbers a.net.now a.store.now o.flight.items a.left.items o.lines.items (first_values a.cells) r.opened r.numbered r.some
    (knows a.pass) r.first.0.0.same_values closed.cells.items (rows closed.made) c.in-Ok.ensures.log (r.balanced closed.cells.items (rows closed.made) c.in-Ok.ensures.log))

pub returns-clause-some : goal.returns-clause-some
returns-clause-some c =
    let a = c.args in let o = a.opened.now.value in let closed = c.in-Ok.closed in let r = c.requires in
    subst (λ (ls : List Line). 1 ≤ length ls) (sym c.in_ok-lines.ensures)
    (lines_some a.net.now a.store.now o.flight.items a.left.items o.lines.items (first_values a.cells) r.opened r.numbered r.some
    (knows a.pass) r.first.0.0.same_values closed.cells.items (rows closed.made) c.in-Ok.ensures.log (r.balanced closed.cells.items (rows closed.made) c.in-Ok.ensures.log))
