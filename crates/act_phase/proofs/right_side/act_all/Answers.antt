use Rattle.std.proofs.Common.{◌+◌, ◌∙◌, ap, refl}
use Rattle.std.proofs.lemmas.List.{drop_all}
use Rattle.ops_meaning.specs.Acting.{actions_done}
use Rattle.act_phase.specs.State.{doing_of}
use Rattle.act_phase.proofs.Deeds.{still_all, still_done}
use Rattle.act_phase.proofs.Steps.{action_ok, action_err}
use Rattle.act_phase.specs.Asking.{action_asks}
use Rattle.act_phase.proofs.Asking.{none_at, both_then}
use Rattle.act_phase.proofs.right_side.act_all.Goals as goal

pub loop-before-init : goal.loop-before-init
loop-before-init g c = record { does = still_all _ _ c.requires.whole; setting = refl; untouched = λ _. (refl, refl) }

pub returns-in_err-act_at-clause-does : goal.returns-in_err-act_at-clause-does
returns-in_err-act_at-clause-does g c =
    let l = c.loop-before in
    action_err c.args.doing.now.setting c.args.actions.now l.before c.index-actions-before.result c.loop-before-test.true c.index-actions-before.is l.doing c.act_at.new.doing l.invariant.does
    _ _ c.from_residual.ensures.1 (rw l.invariant.setting at c.in_err-act_at.ensures.does)

pub loop-before-preserved : goal.loop-before-preserved
loop-before-preserved g c =
    let l = c.loop-before in
    record {
      does = action_ok c.args.doing.now.setting c.args.actions.now l.before c.index-actions-before.result c.loop-before-test.true c.index-actions-before.is l.doing c.act_at.new.doing l.invariant.does
          (rw l.invariant.setting at c.in_ok-act_at.ensures.does);
      setting = c.act_at.ensures.setting ∙ l.invariant.setting;
      untouched = λ none. both_then (l.invariant.untouched none) (c.in_ok-act_at.ensures.untouched (none_at action_asks c.args.actions.now l.before c.index-actions-before.result c.loop-before-test.true c.index-actions-before.is none));
    }

pub returns-in_err-act_at-clause-untouched : goal.returns-in_err-act_at-clause-untouched
returns-in_err-act_at-clause-untouched g c =
    let l = c.loop-before in
    λ none. both_then (l.invariant.untouched none) (c.in_err-act_at.ensures.untouched (none_at action_asks c.args.actions.now l.before c.index-actions-before.result c.loop-before-test.true c.index-actions-before.is none))

pub returns-clause-does : goal.returns-clause-does
returns-clause-does g c =
    let l = c.loop-before in
    still_done _ l.invariant.does
    (λ d. ap (λ rest. actions_done c.args.doing.now.setting l.out.column (l.before + 1) rest (doing_of l.doing l.names d))
    (drop_all l.before c.args.actions.now c.loop-before-test.false))
