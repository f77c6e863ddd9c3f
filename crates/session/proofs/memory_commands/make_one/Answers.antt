use Rattle.std.proofs.Common.{refl, ◌+◌}
use Rattle.std.proofs.lemmas.Result.{err_from_is_err_and}
use Rattle.ops_meaning.specs.Running.{element_made}
use Rattle.act_phase.specs.Outcomes.{setting_of}
use Rattle.session.proofs.Deeds.{does_short, does_behind, does_refused, does_all, does_as}
use Rattle.session.proofs.Phases.{made_bytes, made_waiting}
use Rattle.session.proofs.Told.{made_told}
use Rattle.session.proofs.UnderWay.{tagged, made_is, made_lawful, made_effect, waits_meant, waits_under_way}
use Rattle.session.proofs.memory_commands.make_one.Goals as goal

pub returns-in_err-tag : goal.returns-in_err-tag
returns-in_err-tag g c =
    let p = err_from_is_err_and c.from_residual.result c.from_residual.ensures.1 in
    rw p.1 (does_short g.M.Matcher.stored g.M.Matcher.stands_for c.args.context.now.program.now.rules c.args.names.now c.args.session _ p.0 _ p.2 c.requires.whole)

pub returns-in_err-made : goal.returns-in_err-made
returns-in_err-made g c =
    let p = err_from_is_err_and c.from_residual-in_err-made.result c.from_residual-in_err-made.ensures.1 in
    rw p.1 (does_short g.M.Matcher.stored g.M.Matcher.stands_for c.args.context.now.program.now.rules c.args.names.now c.args.session _ p.0 _ p.2 c.requires.whole)

pub returns-in_err-tell_made : goal.returns-in_err-tell_made
returns-in_err-tell_made g c =
    let p = err_from_is_err_and c.from_residual-in_err-tell_made.result c.from_residual-in_err-tell_made.ensures.1 in
    let is = rw c.as_slice.ensures at (tagged c.args.context.now.program.now.classes c.args.class c.as_slice.result.now c.in_ok-made.made c.in_ok-tag.tag c.args.session.last_tag c.in_ok-made.ensures c.in_ok-tag.ensures) in
    rw p.1
    (does_refused g.M.Matcher.stored g.M.Matcher.stands_for c.args.context.now.program.now.rules c.args.names.now c.args.session _ p.0 _ _ _ p.2
    (λ z. made_bytes g.M.Matcher.stored (setting_of c.args.context.now.program.now 0) c.args.out.now.column c.args.names.now c.args.session c.in_ok-made.made (λ k. element_made c.args.context.now.program.now.classes c.args.class c.args.puts.now k.course) (λ k. k.course.last + 1) z (made_is g.M.Matcher.stored g.M.Matcher.stands_for c.args.context.now.program.now.rules c.args.session c.requires.under_way c.args.context.now.program.now.classes c.args.class c.args.puts.now c.in_ok-made.made is c.args.names.now z))
    c.in_err-tell_made.ensures)

pub returns-in_err-add_pending : goal.returns-in_err-add_pending
returns-in_err-add_pending g c =
    let p = err_from_is_err_and c.from_residual-in_err-add_pending.result c.from_residual-in_err-add_pending.ensures.1 in
    let is = rw c.as_slice.ensures at (tagged c.args.context.now.program.now.classes c.args.class c.as_slice.result.now c.in_ok-made.made c.in_ok-tag.tag c.args.session.last_tag c.in_ok-made.ensures c.in_ok-tag.ensures) in
    rw p.1
    (does_behind g.M.Matcher.stored g.M.Matcher.stands_for c.args.context.now.program.now.rules c.args.names.now c.args.session _ p.0 _ _ _ p.2
    (λ z. made_bytes g.M.Matcher.stored (setting_of c.args.context.now.program.now 0) c.args.out.now.column c.args.names.now c.args.session c.in_ok-made.made (λ k. element_made c.args.context.now.program.now.classes c.args.class c.args.puts.now k.course) (λ k. k.course.last + 1) z (made_is g.M.Matcher.stored g.M.Matcher.stands_for c.args.context.now.program.now.rules c.args.session c.requires.under_way c.args.context.now.program.now.classes c.args.class c.args.puts.now c.in_ok-made.made is c.args.names.now z))
    c.in_ok-tell_made.ensures)

pub returns : goal.returns
returns g c =
    let is = rw c.as_slice.ensures at (tagged c.args.context.now.program.now.classes c.args.class c.as_slice.result.now c.in_ok-made.made c.in_ok-tag.tag c.args.session.last_tag c.in_ok-made.ensures c.in_ok-tag.ensures) in
    let t = c.in_ok-add_pending.field-0 in
    does_all g.M.Matcher.stored g.M.Matcher.stands_for c.args.context.now.program.now.rules c.args.names.now c.args.session _ t _ _ _
    (λ z. made_waiting g.M.Matcher.stored (setting_of c.args.context.now.program.now 0) c.args.out.now.column c.args.names.now c.args.session c.in_ok-made.made (λ k. element_made c.args.context.now.program.now.classes c.args.class c.args.puts.now k.course) (λ k. k.course.last + 1) t z (made_is g.M.Matcher.stored g.M.Matcher.stands_for c.args.context.now.program.now.rules c.args.session c.requires.under_way c.args.context.now.program.now.classes c.args.class c.args.puts.now c.in_ok-made.made is c.args.names.now z)
    (waits_meant g.M.Matcher.stored g.M.Matcher.stands_for c.args.context.now.program.now.rules c.args.session c.requires.under_way c.args.context.now.program.now.classes c.args.class c.args.puts.now c.in_ok-made.made is c.if-session.false t c.in_ok-add_pending.ensures c.args.names.now z))
    c.in_ok-tell_made.ensures
    (waits_under_way g.M.Matcher.stored g.M.Matcher.stands_for c.args.context.now.program.now.rules c.args.session c.requires.under_way c.args.context.now.program.now.classes c.args.class c.args.puts.now c.in_ok-made.made is c.if-session.false t c.in_ok-add_pending.ensures)

pub returns-then-session : goal.returns-then-session
returns-then-session g c =
    let is = rw c.as_slice.ensures at (tagged c.args.context.now.program.now.classes c.args.class c.as_slice.result.now c.in_ok-made.made c.in_ok-tag.tag c.args.session.last_tag c.in_ok-made.ensures c.in_ok-tag.ensures) in
    does_as g.M.Matcher.stored g.M.Matcher.stands_for c.args.context.now.program.now.rules c.args.names.now c.args.session c.args.session _ _ _ _ _ (λ z. refl)
    (λ z. made_effect g.M.Matcher.stored g.M.Matcher.stands_for c.args.context.now.program.now.rules c.args.session c.requires.under_way c.args.context.now.program.now.classes c.args.class c.args.puts.now c.in_ok-made.made is (setting_of c.args.context.now.program.now 0) c.args.out.now.column c.args.names.now z)
    c.phase.ensures

pub phase-requires-clause-lawful : goal.phase-requires-clause-lawful
phase-requires-clause-lawful g c =
    let is = rw c.as_slice.ensures at (tagged c.args.context.now.program.now.classes c.args.class c.as_slice.result.now c.in_ok-made.made c.in_ok-tag.tag c.args.session.last_tag c.in_ok-made.ensures c.in_ok-tag.ensures) in
    made_lawful g.M.Matcher.stored g.M.Matcher.stands_for c.args.context.now.program.now.rules c.args.session c.requires.under_way c.args.context.now.program.now.classes c.args.class c.args.puts.now c.in_ok-made.made is (c.requires.under_way.none_waits c.if-session.true)

pub phase-requires-clause-told : goal.phase-requires-clause-told
phase-requires-clause-told g c = made_told (g.M.Matcher.stored c.args.session.state.matcher).elements c.in_ok-made.made
