use Rattle.std.proofs.Common.{◌≡◌, ◌+◌, ◌∙◌, ap, sym, Some}
use Rattle.ops_base.specs.declared.rules.Inst.{Inst}
use Rattle.ops_meaning.specs.Effects.{failure_as, of_ending}
use Rattle.ops_meaning.specs.Layout.{rule_name}
use Rattle.ops_meaning.specs.Running.{ended_in, firing}
use Rattle.ops_meaning.proofs.EffectLemmas.{fails_short}
use Rattle.ops_meaning.proofs.InletLemmas.{leaves_on, on_ok, fails_apart, fails_on, on_err}
use Rattle.act_phase.specs.Outcomes.{failure_of, setting_of}
use Rattle.act_phase.proofs.Asking.{quiet_side}
use Rattle.cycle.specs.States.{state_course}
use Rattle.session.proofs.runs.fire.Goals as goal

same_some : (i j : Inst) → Some i ≡ Some j → i ≡ j
same_some i j e = cc

pub returns-then-firings-ge-UNREACHED-clause-performs : goal.returns-then-firings-ge-UNREACHED-clause-performs
returns-then-firings-ge-UNREACHED-clause-performs g c i is =
    on_err _ _ _ _ _ _ _ _ (fails_apart _ _ _ _ _ (λ z.
    fails_short _ (firing (setting_of c.args.context.now.program.now c.args.session.watch) c.args.out.now.column i (state_course g.M.Matcher.stored c.args.session.state c.args.names.now z)) c.requires.whole))

pub returns-in-Ok-clause-performs : goal.returns-in-Ok-clause-performs
returns-in-Ok-clause-performs g c i is =
    on_ok _ _ _ _ _ _ _ _ (leaves_on _ _ _ _ _ _ _ _ c.in-Ok.ensures.reads (c.in-Ok.ensures.performs i is))

pub returns-in-Err-clause-performs : goal.returns-in-Err-clause-performs
returns-in-Err-clause-performs g c i is =
    let n = c.requires.next in
    let rule : c.args.rule ≡ i.rule = sym n.2 ∙ ap (λ (j : Inst). j.rule) (same_some n.0 i (sym n.1 ∙ is)) in
    let told : of_ending c.ending_of_fault.result ≡ failure_as (ended_in (c.args.session.state.firings + 1) i.rule (rule_name c.args.context.now.program.now.rules i.rule)) (failure_of c.in-Err.fault) =
    c.ending_of_fault.ensures
    ∙ ap (λ name. failure_as (ended_in (c.firings-firings.result + 1) c.args.rule name) (failure_of c.in-Err.fault)) (c.rule_name-name.ensures ∙ ap (λ rules. rule_name rules c.args.rule) c.as_slice.ensures)
    ∙ (λ k. failure_as (ended_in (c.firings-firings.ensures k + 1) (rule k) (rule_name c.args.context.now.program.now.rules (rule k))) (failure_of c.in-Err.fault)) in
    on_err _ _ _ _ _ _ _ _ (rw told (fails_on _ _ _ _ _ _ _ _ (c.in-Err.ensures.performs i is)))

pub returns-in-Ok-clause-untouched : goal.returns-in-Ok-clause-untouched
returns-in-Ok-clause-untouched g c = λ none.
    let n = c.requires.next in c.in-Ok.ensures.untouched n.0 n.1 (quiet_side c.args.context.now.program.now.rules n.0.rule none)

pub returns-in-Err-clause-untouched : goal.returns-in-Err-clause-untouched
returns-in-Err-clause-untouched g c = λ none.
    let n = c.requires.next in c.in-Err.ensures.untouched n.0 n.1 (quiet_side c.args.context.now.program.now.rules n.0.rule none)
