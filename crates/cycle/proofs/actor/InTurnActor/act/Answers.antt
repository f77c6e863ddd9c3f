use Rattle.std.proofs.Common.{◌+◌, ◌∙◌, ap}
use Rattle.std.proofs.lemmas.Result.{err_from_is_err_and}
use Rattle.act_phase.specs.Outcomes.{setting_of}
use Rattle.work_store.specs.Stored.{Stored}
use Rattle.cycle.proofs.Firings.{good_short, over_store, seen_good}
use Rattle.cycle.proofs.actor.InTurnActor.act.Goals as goal

pub returns-in_err-settled-clause-acts : goal.returns-in_err-settled-clause-acts
returns-in_err-settled-clause-acts g c =
    let p = err_from_is_err_and c.from_residual-in_err-settled.result c.from_residual-in_err-settled.ensures.1 in
    rw (p.1, p.2)
    (good_short (λ r. r.0) c.in_ok-acted.acted c.in_ok-acted.ensures.reads
    (over_store (setting_of c.args.program.now c.args.watch) c.args.out.now.column c.args.inst.now c.args.names.now c.store-2.result.now (g.M.Matcher.stored c.args.matcher) c.store-2.ensures.stored
    (c.last-tag.result + 1) (ap (λ n. n + 1) (c.last-tag.ensures.last ∙ ap (λ (x : Stored). x.last) c.store.ensures.stored)) c.in_ok-acted.ensures.acts))

pub returns-clause-acts : goal.returns-clause-acts
returns-clause-acts g c =
    seen_good (λ r. r.0)
    (over_store (setting_of c.args.program.now c.args.watch) c.args.out.now.column c.args.inst.now c.args.names.now c.store-2.result.now (g.M.Matcher.stored c.args.matcher) c.store-2.ensures.stored
    (c.last-tag.result + 1) (ap (λ n. n + 1) (c.last-tag.ensures.last ∙ ap (λ (x : Stored). x.last) c.store.ensures.stored)) c.in_ok-acted.ensures.acts)
