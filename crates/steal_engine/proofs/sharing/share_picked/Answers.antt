-- Each worker has a pass that has made nothing, and the deques have the tasks in flight.
use Rattle.std.proofs.Common.{◌≡◌, IfOk, length, map, sym, subst, ◌∙◌, arith}
use Rattle.step_core.specs.Worlds.{AreNumbered}
use Rattle.std.proofs.lemmas.List.Elements.{All-weaker}
use Rattle.token_line.specs.Held.{TaskFits}
use Rattle.serial_engine.specs.Carrying.{CarriesOn}
use Rattle.turn_table.specs.Turns.{first_values, knows}
use Rattle.steal_engine.specs.Logged.{BalancesAll}
use Rattle.steal_engine.specs.Opened.{AreRows}
use Rattle.steal_engine.specs.Rows.{IsSetUp}
use Rattle.steal_engine.proofs.Opening.{all_unsigned, opened_set_up, rows_length}
use Rattle.steal_engine.proofs.Rings.{balances_all, ready_from}
use Rattle.steal_engine.proofs.sharing.share_picked.Goals as goal

pub new-requires-clause-unsigned : goal.new-requires-clause-unsigned
new-requires-clause-unsigned g c = all_unsigned c.in_ok-rows.rows.items

pub new-requires-clause-some : goal.new-requires-clause-some
new-requires-clause-some g c =
    let a = c.args in
    let rows = c.in_ok-rows.rows in
    let count = rows_length a.net.now a.store.now (length a.parts.lines.items) a.parts.lines.items rows.items c.in_ok-rows.ensures.opened in
    let long = rows.ok.0 in
    let least = c.requires.lines in omega (arith, count, long, least)

pub deal-requires-clause-fit : goal.deal-requires-clause-fit
deal-requires-clause-fit g c = All-weaker (TaskFits c.args.net.now.nodes c.args.store.now) g.J.Fitting.fits c.requires.meant c.args.parts.flight.items c.requires.ready.flight

pub run_ring-requires-clause-ready : goal.run_ring-requires-clause-ready
run_ring-requires-clause-ready g c κs within =
    let a = c.args in
    let lines = a.parts.lines in
    let cells = c.in_ok-cells.cells in
    let are = subst (AreRows a.net.now a.store.now (length lines.items) lines.items) (sym c.in_ok-cells.ensures.cells) c.in_ok-rows.ensures.opened in
    ready_from g.J.Fitting.fits cells a.net.now a.store.now c.len-count.result 1 c.in_ok-passes.passes.items c.in_ok-passes.ensures.new
    (subst (λ n. IsSetUp a.net.now a.store.now n (first_values cells)) (sym (c.len-count.ensures ∙ lines.ok.0))
    (opened_set_up a.net.now a.store.now lines.items (first_values cells) are c.requires.numbered c.requires.lines))
    c.requires.means c.requires.meant

pub close-requires-clause-opened : goal.close-requires-clause-opened
close-requires-clause-opened g c =
    let a = c.args in
    subst (λ p. AreRows a.net.now a.store.now (length p.lines.items) p.lines.items (first_values c.in_ok-cells.cells)) (sym c.of-opened.ensures)
    (subst (AreRows a.net.now a.store.now (length a.parts.lines.items) a.parts.lines.items) (sym c.in_ok-cells.ensures.cells) c.in_ok-rows.ensures.opened)

pub close-requires-clause-numbered : goal.close-requires-clause-numbered
close-requires-clause-numbered g c = subst (λ p. AreNumbered p.lines.items) (sym c.of-opened.ensures) c.requires.numbered

pub close-requires-clause-balanced : goal.close-requires-clause-balanced
close-requires-clause-balanced g c =
    let a = c.args in
    let left = c.in_ok-left.left.items in
    let v = knows c.run_ring.new.first in
    subst (λ p. BalancesAll p.flight.items left v) (sym c.of-opened.ensures)
    (balances_all c.in_ok-owns.owns.items c.deal.new.owns.items a.parts.flight.items left v c.in_ok-owns.ensures.none c.in_ok-deal.ensures.dealt c.in_ok-left.ensures.balanced)

pub close-requires-clause-fit : goal.close-requires-clause-fit
close-requires-clause-fit g c = All-weaker g.J.Fitting.fits (TaskFits c.args.net.now.nodes c.args.store.now) c.requires.means c.in_ok-left.left.items c.in_ok-left.ensures.fit

pub returns-clause-carries : goal.returns-clause-carries
returns-clause-carries g c =
    let net = c.args.net.now in
    let s = c.args.store.now in
    subst (λ p. IfOk c.close.result (λ q. CarriesOn net.alphas net.nodes s p.lines.items p.flight.items q.lines.items q.flight.items)) c.of-opened.ensures c.close.ensures.carries

pub returns-clause-numbers : goal.returns-clause-numbers
returns-clause-numbers g c = subst (λ p. IfOk c.close.result (λ q. map (λ l. l.number) q.lines.items ≡ map (λ l. l.number) p.lines.items)) c.of-opened.ensures c.close.ensures.numbers
