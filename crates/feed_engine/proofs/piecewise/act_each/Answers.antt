use Rattle.std.proofs.Common.{◌+◌, ◌<◌, ◌^◌, ◌∙◌, ℕ, ap, refl, sym, subst}
use Rattle.std.proofs.lemmas.List.{drop_all}
use Rattle.ops_meaning.specs.Acting.{actions_done}
use Rattle.act_phase.specs.State.{doing_of}
use Rattle.act_phase.proofs.Deeds.{still_all, still_done}
use Rattle.act_phase.proofs.Steps.{action_ok, action_err}
use Rattle.feed_engine.proofs.Going.{goes_on, goes_lawful}
use Rattle.feed_engine.proofs.Pieces.{begun_up_to, rest_is_lawful, further_up, up_to_grown}
use Rattle.feed_engine.proofs.Places.{within_all, there_in, next_at, less_at, none_left}
use Rattle.feed_engine.proofs.piecewise.act_each.Goals as goal

pub loop-action-init : goal.loop-action-init
loop-action-init g c = record {
  does = still_all _ _ c.requires.whole;
  done = c.requires.none;
  actions = refl;
  setting = refl;
  over = c.requires.over;
  up_to = begun_up_to g.M.Matcher.stored g.M.Matcher.found g.M.Matcher.stands_for c.args.matcher c.new-feed.result c.new-feed.ensures.matcher c.new-feed.ensures.come c.new-feed.ensures.gone c.args.acting.now.state.working.changes;
}

pub do_next-requires-clause-within : goal.do_next-requires-clause-within
do_next-requires-clause-within g c κs w = c.loop-action.invariant.up_to.within

pub do_next-requires-clause-lawful : goal.do_next-requires-clause-lawful
do_next-requires-clause-lawful g c κs w =
    let l = c.loop-action in
    rest_is_lawful g.M.Matcher.stored g.M.Matcher.found g.M.Matcher.stands_for c.args.matcher l.acting.state.working.changes l.settled l.feed l.invariant.up_to
    (goes_lawful (g.M.Matcher.stored c.args.matcher).elements (g.M.Matcher.stored c.args.matcher).last l.acting.state l.invariant.over)

pub do_next-requires-clause-some : goal.do_next-requires-clause-some
do_next-requires-clause-some g c κs w =
    let l = c.loop-action in
    less_at l.acting.done l.action-index l.acting.actions c.args.acting.now.actions l.invariant.done l.invariant.actions
    (within_all c.args.acting.now c.left-actions.result.now c.requires.none c.left-actions.ensures l.action-index c.loop-action-test.true)

pub do_next-requires-clause-next : goal.do_next-requires-clause-next
do_next-requires-clause-next g c κs w =
    let l = c.loop-action in
    next_at l.acting.done l.action-index l.acting.actions c.args.acting.now.actions c.action-item.result l.invariant.done l.invariant.actions
    (within_all c.args.acting.now c.left-actions.result.now c.requires.none c.left-actions.ensures l.action-index c.loop-action-test.true)
    (there_in c.args.acting.now c.left-actions.result.now c.requires.none c.left-actions.ensures l.action-index c.action-item.result c.action-item.is)

pub do_next-requires-clause-whole : goal.do_next-requires-clause-whole
do_next-requires-clause-whole g c κs w = c.loop-action.invariant.does.goes_on.whole

pub do_next-requires-clause-writes : goal.do_next-requires-clause-writes
do_next-requires-clause-writes g c κs w = let P : ℕ → Type 0 = λ n. n < 2 ^ 63 in subst P (sym c.loop-action.invariant.does.goes_on.faults) c.requires.writes

pub do_next-requires-clause-reads : goal.do_next-requires-clause-reads
do_next-requires-clause-reads g c κs w = let P : ℕ → Type 0 = λ n. n < 2 ^ 63 in subst P (sym c.loop-action.invariant.does.pending.steady) c.requires.reads

pub returns-in_err-fed-clause-does : goal.returns-in_err-fed-clause-does
returns-in_err-fed-clause-does g c =
    let l = c.loop-action in
    let i = l.invariant in
    let within = within_all c.args.acting.now c.left-actions.result.now c.requires.none c.left-actions.ensures l.action-index c.loop-action-test.true in
    let there = there_in c.args.acting.now c.left-actions.result.now c.requires.none c.left-actions.ensures l.action-index c.action-item.result c.action-item.is in
    action_err c.args.acting.now.state.setting c.args.acting.now.actions l.action-index c.action-item.result within there l.acting.state c.do_next.new.acting.state i.does
    _ _ c.from_residual.ensures.1 (rw (i.done, i.setting) at c.in_err-fed.ensures.does.does)

pub loop-action-preserved : goal.loop-action-preserved
loop-action-preserved g c =
    let l = c.loop-action in
    let i = l.invariant in
    let within = within_all c.args.acting.now c.left-actions.result.now c.requires.none c.left-actions.ensures l.action-index c.loop-action-test.true in
    let there = there_in c.args.acting.now c.left-actions.result.now c.requires.none c.left-actions.ensures l.action-index c.action-item.result c.action-item.is in
    let next = c.do_next.new.acting.state in
    let deed = rw (i.done, i.setting) at c.in_ok-fed.ensures.does.does in
    let grown = goes_on (g.M.Matcher.stored c.args.matcher).elements (g.M.Matcher.stored c.args.matcher).last c.args.acting.now.state.setting (l.action-index + 1) c.action-item.result l.acting.state next _ _ deed i.over in
    let further = further_up g.M.Matcher.stored g.M.Matcher.found g.M.Matcher.stands_for c.args.matcher l.acting.state.working.changes l.settled c.in_ok-fed.now l.feed c.in_ok-fed.fed i.up_to c.in_ok-fed.ensures.further in
    record {
      does = action_ok c.args.acting.now.state.setting c.args.acting.now.actions l.action-index c.action-item.result within there l.acting.state next i.does deed;
      done = c.in_ok-fed.ensures.done ∙ ap (λ n. n + 1) i.done;
      actions = c.in_ok-fed.ensures.actions ∙ i.actions;
      setting = c.in_ok-fed.ensures.setting ∙ i.setting;
      over = grown.0;
      up_to = up_to_grown g.M.Matcher.stored g.M.Matcher.found g.M.Matcher.stands_for c.args.matcher l.acting.state.working.changes grown.1.0 next.working.changes c.in_ok-fed.now c.in_ok-fed.fed grown.1.1 further;
    }

pub returns-clause-does : goal.returns-clause-does
returns-clause-does g c =
    let l = c.loop-action in
    still_done _ l.invariant.does
    (λ d. ap (λ rest. actions_done c.args.acting.now.state.setting l.out.column (l.action-index + 1) rest (doing_of l.acting.state l.names d))
    (drop_all l.action-index c.args.acting.now.actions (none_left c.args.acting.now c.left-actions.result.now c.requires.none c.left-actions.ensures l.action-index c.loop-action-test.false)))

pub returns-clause-up_to : goal.returns-clause-up_to
returns-clause-up_to g c = c.loop-action.invariant.up_to

pub returns-clause-over : goal.returns-clause-over
returns-clause-over g c = c.loop-action.invariant.over
