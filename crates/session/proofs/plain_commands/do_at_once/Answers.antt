use Rattle.std.proofs.Common.{refl}
use Rattle.std.proofs.lemmas.Result.{err_from_is_err_and}
use Rattle.ops_meaning.specs.Running.{command_done}
use Rattle.act_phase.specs.Outcomes.{setting_of}
use Rattle.session.proofs.Deeds.{does_as, does_short}
use Rattle.session.proofs.plain_commands.do_at_once.Goals as goal

pub returns-in_err-session : goal.returns-in_err-session
returns-in_err-session g c =
    let p = err_from_is_err_and c.from_residual.result c.from_residual.ensures.1 in
    rw p.1 (does_short g.B.M.Matcher.stored g.B.M.Matcher.stands_for c.args.context.now.program.now.rules c.args.names.now c.args.session _ p.0 _ p.2 c.requires.whole)

pub returns : goal.returns
returns g c =
    does_as g.B.M.Matcher.stored g.B.M.Matcher.stands_for c.args.context.now.program.now.rules c.args.names.now c.in_ok-session.session c.args.session c.do_in_force.result _ _
    (λ k. command_done (setting_of c.args.context.now.program.now 0) c.args.context.now.limit c.args.out.now.column c.args.command.now k) _
    (λ z. c.in_ok-session.ensures.meant c.args.names.now z) (λ z. refl) c.do_in_force.ensures
