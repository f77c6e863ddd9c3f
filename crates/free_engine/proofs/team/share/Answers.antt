-- As many workers are joined as there are passes.
use Rattle.std.proofs.Common.{IfOk, [], length, sym, subst, ◌∙◌}
use Rattle.serial_engine.specs.Carrying.{CarriesOn}
use Rattle.turn_table.specs.Turns.{first_values, knows}
use Rattle.free_engine.specs.Teams.{AllJoined}
use Rattle.free_engine.specs.Turns.{IsSetUp}
use Rattle.free_engine.proofs.LinesBack.{opened_set_up}
use Rattle.free_engine.proofs.team.share.Goals as goal

pub invariant_of-phase-clause-set_up : goal.invariant_of-phase-clause-set_up
invariant_of-phase-clause-set_up g c =
    let a = c.args in
    let lines = a.parts.lines in
    let values = first_values c.in_ok-cells.cells in
    subst (λ n. IsSetUp a.net.now a.store.now n a.workers c.of-tasks.result.value.items values) (sym (c.len-count.ensures ∙ lines.ok.0))
    (subst (λ ts. IsSetUp a.net.now a.store.now (length lines.items) a.workers ts.items values) (sym c.of-tasks.ensures)
    (opened_set_up a.net.now a.store.now a.workers a.parts.flight.items lines.items values c.in_ok-cells.ensures.opened c.requires.numbered))

pub close-requires-clause-joined : goal.close-requires-clause-joined
close-requires-clause-joined g c =
    let a = c.args in
    let joined = (knows c.join_all-whole.new.first).joined in
    subst (λ p. AllJoined (length p.lines.items) a.workers joined) (sym c.of-opened.ensures)
    (subst (λ n. AllJoined n a.workers joined) (c.len-count.ensures ∙ a.parts.lines.ok.0)
    (subst (λ n. AllJoined c.len-count.result n joined) (c.in_ok-ended.ensures.count ∙ c.in_ok-cells.ensures.count) (c.join_all-whole.ensures.joined c.if-whole.true)))

pub returns-then-whole-clause-carries : goal.returns-then-whole-clause-carries
returns-then-whole-clause-carries g c =
    let net = c.args.net.now in
    let s = c.args.store.now in
    subst (λ p. IfOk c.close.result (λ v. CarriesOn net.alphas net.nodes s p.lines.items p.flight.items v.items [])) c.of-opened.ensures c.close.ensures.carries
