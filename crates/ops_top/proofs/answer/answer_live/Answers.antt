use Rattle.std.proofs.Common.{ap, inl, refl}
use Rattle.std.proofs.lemmas.Result.{err_from_is_err_and}
use Rattle.ops_io.specs.Output.{OutState}
use Rattle.ops_io.specs.declared.stop.Stop.TheVariants as stop
use Rattle.ops_top.proofs.Answered.{unanswered, counted, answered_cut, answered_unflushed, answered}
use Rattle.ops_top.proofs.Deliveries.{put_told}
use Rattle.ops_top.proofs.Sessions.{put_ended, names_tell, tells_stopped, tells_cut, tells_all}
use Rattle.ops_top.proofs.answer.answer_live.Goals as goal

pub returns-in_err-input : goal.returns-in_err-input
returns-in_err-input g c =
    let p = err_from_is_err_and c.from_residual.result c.from_residual.ensures.1 in
    rw (p.1, p.2) (unanswered _ _ _ _ refl)

pub returns-in_err-out : goal.returns-in_err-out
returns-in_err-out g c =
    let p = err_from_is_err_and c.from_residual-in_err-out.result c.from_residual-in_err-out.ensures.1 in
    rw (p.1, p.2) (unanswered _ _ _ _ refl)

pub returns-in_err-ending : goal.returns-in_err-ending
returns-in_err-ending g c =
    let p = err_from_is_err_and c.from_residual-in_err-ending.result c.from_residual-in_err-ending.ensures.1 in
    let told = tells_stopped c.args.plan.is_summed c.args.names.now c.run_session.new.names c.in_err-ending.field-0.0 c.in_err-ending.ensures.ends in
    rw (p.1, p.2)
    (answered_cut _ _ (λ none. (c.in_err-ending.ensures.untouched none).1) c.in_ok-input.ensures (ap (λ (o : OutState). o.held) c.in_ok-out.ensures) c.in_err-ending.field-0.0 told (inl c.in_err-ending.ensures.reads))

pub put_closing-requires-clause-whole : goal.put_closing-requires-clause-whole
put_closing-requires-clause-whole g c =
    (put_ended c.args.plan.is_summed c.args.names.now c.run_session.new.names c.in_ok-ending.ending c.in_ok-ending.ensures.ends).1.whole

pub put_closing-requires-clause-faults : goal.put_closing-requires-clause-faults
put_closing-requires-clause-faults g c =
    let put = put_ended c.args.plan.is_summed c.args.names.now c.run_session.new.names c.in_ok-ending.ending c.in_ok-ending.ensures.ends in
    rw put.1.faults c.requires.faults

pub returns-in_err-put_closing : goal.returns-in_err-put_closing
returns-in_err-put_closing g c =
    let p = err_from_is_err_and c.from_residual-in_err-put_closing.result c.from_residual-in_err-put_closing.ensures.1 in
    let told = tells_cut c.args.plan.is_summed c.args.names.now c.run_session.new.names c.in_ok-ending.ensures.names
    (names_tell c.args.plan.is_explained c.args.live.now.program c.args.plan.options.limit c.args.names.now
    (c.in_ok-ending.ensures.held (record { nil = c.requires.some; symbols = c.requires.held })).1) _
    (ap (λ (o : OutState). o.column) c.in_ok-out.ensures) c.in_ok-ending.ending c.in_ok-ending.ensures.ends c.in_err-put_closing.field-0.0 c.in_err-put_closing.ensures in
    rw (p.1, p.2)
    (answered_cut _ _ (λ none. (c.in_ok-ending.ensures.untouched none).1) c.in_ok-input.ensures (ap (λ (o : OutState). o.held) c.in_ok-out.ensures) c.in_err-put_closing.field-0.0 told
    (counted c.in_ok-ending.ending _ _ c.in_ok-ending.ensures.reads))

pub flush-requires-clause-whole : goal.flush-requires-clause-whole
flush-requires-clause-whole g c =
    let told = tells_all c.args.plan.is_summed c.args.names.now c.run_session.new.names c.in_ok-ending.ensures.names
    (names_tell c.args.plan.is_explained c.args.live.now.program c.args.plan.options.limit c.args.names.now
    (c.in_ok-ending.ensures.held (record { nil = c.requires.some; symbols = c.requires.held })).1) _
    (ap (λ (o : OutState). o.column) c.in_ok-out.ensures) c.in_ok-ending.ending c.in_ok-ending.ensures.ends c.in_ok-put_closing.ensures in
    (put_told c.in_ok-ending.ending told).1.whole

pub flush-requires-clause-faults : goal.flush-requires-clause-faults
flush-requires-clause-faults g c =
    let told = tells_all c.args.plan.is_summed c.args.names.now c.run_session.new.names c.in_ok-ending.ensures.names
    (names_tell c.args.plan.is_explained c.args.live.now.program c.args.plan.options.limit c.args.names.now
    (c.in_ok-ending.ensures.held (record { nil = c.requires.some; symbols = c.requires.held })).1) _
    (ap (λ (o : OutState). o.column) c.in_ok-out.ensures) c.in_ok-ending.ending c.in_ok-ending.ensures.ends c.in_ok-put_closing.ensures in
    rw (put_told c.in_ok-ending.ending told).1.faults c.requires.faults

pub returns-in_err-flush : goal.returns-in_err-flush
returns-in_err-flush g c =
    let p = err_from_is_err_and c.from_residual-in_err-flush.result c.from_residual-in_err-flush.ensures.1 in
    let told = tells_all c.args.plan.is_summed c.args.names.now c.run_session.new.names c.in_ok-ending.ensures.names
    (names_tell c.args.plan.is_explained c.args.live.now.program c.args.plan.options.limit c.args.names.now
    (c.in_ok-ending.ensures.held (record { nil = c.requires.some; symbols = c.requires.held })).1) _
    (ap (λ (o : OutState). o.column) c.in_ok-out.ensures) c.in_ok-ending.ending c.in_ok-ending.ensures.ends c.in_ok-put_closing.ensures in
    rw (p.1, p.2)
    (answered_unflushed _ _ (λ none. (c.in_ok-ending.ensures.untouched none).1) c.in_ok-input.ensures (ap (λ (o : OutState). o.held) c.in_ok-out.ensures) c.in_ok-ending.ending told c.in_ok-ending.ensures.reads stop.Write c.in_err-flush.ensures.flushes)

pub returns : goal.returns
returns g c =
    let told = tells_all c.args.plan.is_summed c.args.names.now c.run_session.new.names c.in_ok-ending.ensures.names
    (names_tell c.args.plan.is_explained c.args.live.now.program c.args.plan.options.limit c.args.names.now
    (c.in_ok-ending.ensures.held (record { nil = c.requires.some; symbols = c.requires.held })).1) _
    (ap (λ (o : OutState). o.column) c.in_ok-out.ensures) c.in_ok-ending.ending c.in_ok-ending.ensures.ends c.in_ok-put_closing.ensures in
    answered _ _ (λ none. (c.in_ok-ending.ensures.untouched none).1) c.in_ok-input.ensures (ap (λ (o : OutState). o.held) c.in_ok-out.ensures) c.in_ok-ending.ending told c.in_ok-ending.ensures.reads c.status_of.result c.status_of.ensures c.in_ok-flush.ensures.flushes
