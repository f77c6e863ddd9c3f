use Rattle.std.proofs.Common.{false, ◌∙◌, sym}
use Rattle.std.proofs.lemmas.Bool.{false≢true}
use Rattle.ops_meaning.specs.Acting.{actions_of}
use Rattle.act_phase.specs.Outcomes.{setting_of}
use Rattle.act_phase.proofs.Asking.{asks_late}
use Rattle.act_phase.proofs.Held.{holds_program, holds_elements, rules_of_program, templates_of_program}
use Rattle.feed_engine.proofs.Whole.{made_built, made_held, made_lawful}
use Rattle.feed_engine.proofs.overlapped.act_overlapped.Goals as goal

pub returns-clause-untouched : goal.returns-clause-untouched
returns-clause-untouched g c = λ none.
    absurd (false≢true (sym none ∙ asks_late false (actions_of c.args.program.now.rules c.args.inst.now.rule) (sym c.if-not-asks_after_change.ensures)))

pub returns-clause-held : goal.returns-clause-held
returns-clause-held g c = λ h e.
    let p = c.act_beside.ensures.does in (
      holds_program c.args.names.now c.act_beside.new.names c.args.program.now p.names h,
      holds_elements c.args.names.now c.act_beside.new.names (g.M.Matcher.stored c.args.matcher).elements p.names e,
      made_held (setting_of c.args.program.now c.args.watch) c.args.inst.now (g.M.Matcher.stored c.args.matcher).elements (g.M.Matcher.stored c.args.matcher).last c.act_beside.result p h.nil (rules_of_program _ c.args.program.now h.symbols) (templates_of_program _ c.args.program.now h.symbols) e,
    )

pub returns-clause-built : goal.returns-clause-built
returns-clause-built g c =
    made_built (setting_of c.args.program.now c.args.watch) c.args.inst.now (g.M.Matcher.stored c.args.matcher).elements (g.M.Matcher.stored c.args.matcher).last c.act_beside.result c.act_beside.ensures.does

pub returns-clause-lawful : goal.returns-clause-lawful
returns-clause-lawful g c =
    made_lawful (setting_of c.args.program.now c.args.watch) c.args.inst.now (g.M.Matcher.stored c.args.matcher).elements (g.M.Matcher.stored c.args.matcher).last c.act_beside.result c.act_beside.ensures.does c.requires.kept
