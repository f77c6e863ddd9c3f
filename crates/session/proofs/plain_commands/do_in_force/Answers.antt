use Rattle.ops_io.proofs.PortLemmas.{put_nothing}
use Rattle.std.proofs.Common.{refl}
use Rattle.act_phase.specs.Outcomes.{setting_of}
use Rattle.session.proofs.Deeds.{does_command, does_phase}
use Rattle.session.proofs.plain_commands.do_in_force.Goals as goal

pub returns-in-Make : goal.returns-in-Make
returns-in-Make g c =
    does_phase g.M.Matcher.stored g.M.Matcher.stands_for c.args.context.now.program.now.rules c.args.names.now (setting_of c.args.context.now.program.now 0) c.args.context.now.limit c.args.command.now _ c.args.session _ _ _ _ c.in-Make.is c.make_at_top.ensures (λ z. refl)

pub returns-in-Remove : goal.returns-in-Remove
returns-in-Remove g c =
    does_phase g.M.Matcher.stored g.M.Matcher.stands_for c.args.context.now.program.now.rules c.args.names.now (setting_of c.args.context.now.program.now 0) c.args.context.now.limit c.args.command.now _ c.args.session _ _ _ _ c.in-Remove.is c.remove.ensures (λ z. refl)

pub returns-in-RemoveAll : goal.returns-in-RemoveAll
returns-in-RemoveAll g c =
    does_phase g.M.Matcher.stored g.M.Matcher.stands_for c.args.context.now.program.now.rules c.args.names.now (setting_of c.args.context.now.program.now 0) c.args.context.now.limit c.args.command.now _ c.args.session _ _ _ _ c.in-RemoveAll.is c.remove_all.ensures (λ z. refl)

pub returns-in-Wm : goal.returns-in-Wm
returns-in-Wm g c =
    does_command g.M.Matcher.stored g.M.Matcher.stands_for c.args.context.now.program.now.rules c.args.names.now (setting_of c.args.context.now.program.now 0) c.args.context.now.limit c.args.command.now _ c.args.session _ _ _ c.in-Wm.is c.list_elements.ensures

pub returns-in-Ppwm : goal.returns-in-Ppwm
returns-in-Ppwm g c =
    does_command g.M.Matcher.stored g.M.Matcher.stands_for c.args.context.now.program.now.rules c.args.names.now (setting_of c.args.context.now.program.now 0) c.args.context.now.limit c.args.command.now _ c.args.session _ _ _ c.in-Ppwm.is c.list_met.ensures

pub returns-in-Cs : goal.returns-in-Cs
returns-in-Cs g c =
    does_command g.M.Matcher.stored g.M.Matcher.stands_for c.args.context.now.program.now.rules c.args.names.now (setting_of c.args.context.now.program.now 0) c.args.context.now.limit c.args.command.now _ c.args.session _ _ _ c.in-Cs.is c.list_standing.ensures

pub returns-in-Pm : goal.returns-in-Pm
returns-in-Pm g c =
    does_command g.M.Matcher.stored g.M.Matcher.stands_for c.args.context.now.program.now.rules c.args.names.now (setting_of c.args.context.now.program.now 0) c.args.context.now.limit c.args.command.now _ c.args.session _ _ _ c.in-Pm.is c.list_productions.ensures

pub returns-in-Matches : goal.returns-in-Matches
returns-in-Matches g c =
    does_command g.M.Matcher.stored g.M.Matcher.stands_for c.args.context.now.program.now.rules c.args.names.now (setting_of c.args.context.now.program.now 0) c.args.context.now.limit c.args.command.now _ c.args.session _ _ _ c.in-Matches.is c.list_matches.ensures

pub returns-in-Pbreak : goal.returns-in-Pbreak
returns-in-Pbreak g c =
    does_command g.M.Matcher.stored g.M.Matcher.stands_for c.args.context.now.program.now.rules c.args.names.now (setting_of c.args.context.now.program.now 0) c.args.context.now.limit c.args.command.now _ c.args.session _ _ _ c.in-Pbreak.is c.give_breaks.ensures

pub returns-in-Strategy : goal.returns-in-Strategy
returns-in-Strategy g c =
    does_command g.M.Matcher.stored g.M.Matcher.stands_for c.args.context.now.program.now.rules c.args.names.now (setting_of c.args.context.now.program.now 0) c.args.context.now.limit c.args.command.now _ c.args.session _ _ _ c.in-Strategy.is (c.give_strategy.ensures c.args.context.now.program.now.rules c.args.names.now c.requires.under_way)

pub returns-in-Watch : goal.returns-in-Watch
returns-in-Watch g c =
    does_command g.M.Matcher.stored g.M.Matcher.stands_for c.args.context.now.program.now.rules c.args.names.now (setting_of c.args.context.now.program.now 0) c.args.context.now.limit c.args.command.now _ c.args.session _ _ _ c.in-Watch.is (c.give_level.ensures c.args.context.now.program.now.rules c.args.names.now c.requires.under_way)

pub returns-in-Exit : goal.returns-in-Exit
returns-in-Exit g c =
    does_command g.M.Matcher.stored g.M.Matcher.stands_for c.args.context.now.program.now.rules c.args.names.now (setting_of c.args.context.now.program.now 0) c.args.context.now.limit c.args.command.now _ c.args.session _ _ _ c.in-Exit.is (record { performs = λ z. (refl, put_nothing _ c.requires.whole); reads = refl; under_way = c.requires.under_way })
