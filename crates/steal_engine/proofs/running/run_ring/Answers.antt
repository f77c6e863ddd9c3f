use Rattle.std.proofs.Common.{rules, All, IsTrue, ap, sym, subst, ◌∙◌, sum_by, ◌+◌}
use Rattle.turn_table.specs.Turns.{knows, number}
use Rattle.steal_engine.specs.Seats.{HasEnded}
use Rattle.steal_engine.specs.Sums.{children_in}
use Rattle.steal_engine.specs.Team.{HasPoppedNone, HasStolenNone}
use Rattle.steal_engine.proofs.Totals.{zip_from}
use Rattle.steal_engine.proofs.Turning.{of_ring, team_law}
use Rattle.steal_engine.specs.Rows.{IsReady, rounds_in}
use Rattle.steal_engine.specs.Logged.{AreJoined, AreNext, AreReadyFrom}
use Rattle.steal_engine.proofs.Results.{if_ok}
use Rattle.steal_engine.proofs.Rings.{are_next, balanced, can_begin, seated_count, turned_all, turned_count}
use Rattle.steal_engine.proofs.running.run_ring.Goals as goal

pub seat_all-requires-clause-thieves : goal.seat_all-requires-clause-thieves
seat_all-requires-clause-thieves g c = turned_count c.in_ok-owns.owns.items c.in_ok-owns.thieves.items _ _ _ c.in_ok-owns.ensures.of c.in_ok-thieves.ensures c.in_ok-owns.ensures.count c.requires.count

pub work_all-requires-after_bounds : goal.work_all-requires-after_bounds
work_all-requires-after_bounds g c κs within =
    let a = c.args in
    let n = c.in_ok-seats.ensures in
    can_begin g.J.Fitting.fits a.phase.now.cells.now a.phase.now.net.now a.phase.now.store.now a.phase.now.lines 1 c.in_ok-seats.seats.items
    (subst (AreReadyFrom g.J.Fitting.fits a.phase.now.cells.now a.phase.now.net.now a.phase.now.store.now a.phase.now.lines 1) (sym n.passes) c.requires.ready)
    (subst (All HasPoppedNone) (sym n.owns) c.in_ok-owns.ensures.popped)
    (subst (All HasStolenNone) (sym (n.thieves ∙ c.in_ok-thieves.ensures)) (turned_all HasStolenNone c.in_ok-owns.thieves.items c.in_ok-owns.ensures.stolen))

pub join_all-requires-clause-next : goal.join_all-requires-clause-next
join_all-requires-clause-next g c =
    let a = c.args in
    let ss = c.in_ok-seats.seats.items in
    let es = c.in_ok-ended.ended.items in
    let ready = IsReady g.J.Fitting.fits a.phase.now.cells.now a.phase.now.net.now a.phase.now.store.now a.phase.now.lines in
    let zip = zip_from (HasEnded ready number rounds_in) ss es c.in_ok-ended.ensures.count c.in_ok-ended.ensures.each in
    subst (AreNext a.phase.now.cells.now 1) (sym c.in_ok-back.ensures.passes)
    (are_next g.J.Fitting.fits a.phase.now.cells.now a.phase.now.net.now a.phase.now.store.now a.phase.now.lines 1 ss es zip
    (subst (AreReadyFrom g.J.Fitting.fits a.phase.now.cells.now a.phase.now.net.now a.phase.now.store.now a.phase.now.lines 1) (sym c.in_ok-seats.ensures.passes) c.requires.ready))

pub collect-requires : goal.collect-requires
collect-requires g c =
    let a = c.args in
    let ss = c.in_ok-seats.seats.items in
    let es = c.in_ok-ended.ended.items in
    let ready = IsReady g.J.Fitting.fits a.phase.now.cells.now a.phase.now.net.now a.phase.now.store.now a.phase.now.lines in
    let zip = zip_from (HasEnded ready number rounds_in) ss es c.in_ok-ended.ensures.count c.in_ok-ended.ensures.each in record {
      of = of_ring ready number rounds_in ss es zip c.in_ok-owns.owns.items c.in_ok-owns.thieves.items c.in_ok-seats.ensures.owns (c.in_ok-seats.ensures.thieves ∙ c.in_ok-thieves.ensures)
          c.in_ok-back.back.owns.items c.in_ok-thieves-2.thieves.items c.in_ok-back.ensures.owns (c.in_ok-thieves-2.ensures ∙ c.in_ok-back.ensures.thieves) c.in_ok-owns.ensures.of;
    }

pub returns-clause-balanced : goal.returns-clause-balanced
returns-clause-balanced g c =
    let a = c.args in
    let ss = c.in_ok-seats.seats.items in
    let es = c.in_ok-ended.ended.items in
    let ready = IsReady g.J.Fitting.fits a.phase.now.cells.now a.phase.now.net.now a.phase.now.store.now a.phase.now.lines in
    let zip = zip_from (HasEnded ready number rounds_in) ss es c.in_ok-ended.ensures.count c.in_ok-ended.ensures.each in
    let j = c.join_all.ensures in
    let whole : IsTrue c.in_ok-back.back.whole = search rules in
    if_ok _ _ c.collect.result
    (λ v is. balanced a.owns.items v.items (knows c.join_all.new.first) es (j.own ∙ c.requires.own)
    (j.first.0.0.same_splits ∙ (j.splits ∙ (c.requires.splits ∙ seated_count ss es a.passes.items c.in_ok-seats.ensures.passes c.in_ok-ended.ensures.count)))
    (subst (λ ps. AreJoined 1 ps (knows c.join_all.new.first).joined) c.in_ok-back.ensures.passes j.joined)
    (λ h. team_law ready number rounds_in ss es zip c.in_ok-owns.owns.items c.in_ok-owns.thieves.items c.in_ok-seats.ensures.owns (c.in_ok-seats.ensures.thieves ∙ c.in_ok-thieves.ensures)
    c.in_ok-back.back.owns.items c.in_ok-thieves-2.thieves.items c.in_ok-back.ensures.owns (c.in_ok-thieves-2.ensures ∙ c.in_ok-back.ensures.thieves) h (sum_by h v.items) (c.in_ok-back.ensures.whole whole) (is h)
    ∙ ap (λ k. sum_by (λ e. sum_by h (children_in (rounds_in e.pass))) es + k) (c.in_ok-owns.ensures.pushed h)))
    c.collect.ensures.all
