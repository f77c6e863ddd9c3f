use Rattle.std.proofs.Common.{◌-◌, refl, ap, ◌∙◌, arith, rules}
use Rattle.std.specs.List.{list_any}
use Rattle.ops_io.specs.Coming.{Coming}
use Rattle.act_phase.specs.Asking.{action_asks}
use Rattle.act_phase.specs.Deeds.{scene}
use Rattle.act_phase.specs.Outcomes.{setting_of, acted_of, is_read}
use Rattle.act_phase.specs.declared.outcome.Acted.{Acted}
use Rattle.act_phase.proofs.Deeds.{handed_on}
use Rattle.act_phase.proofs.Held.{holds_program, holds_elements, rules_of_program, templates_of_program}
use Rattle.act_phase.proofs.Steps.{whole_built, whole_held, well_kept, whole_short, whole_ok, whole_err, whole_lawful}
use Rattle.act_phase.proofs.right_side.act.Goals as goal

pub returns-in_err-doing : goal.returns-in_err-doing
returns-in_err-doing g c =
    let old = scene c.args.names.now c.args.input.now (g.I.Source.left c.args.source.now) (g.I.Source.faults c.args.source.now) (g.K.Sink.taken c.args.sink.now) (g.K.Sink.faults c.args.sink.now) c.args.out.now in
    let p = whole_short (setting_of c.args.program.now c.args.watch) c.args.inst.now c.args.store.now.elements (c.args.next_tag - 1) old (λ (a : Acted) (d : Coming). acted_of a c.args.names.now d) c.from_residual.result c.from_residual.ensures.1 c.requires.whole in
    record {
      acts = p.performs;
      lawful = search rules;
      tag = search rules;
      reads = p.reads;
      written = handed_on is_read c.from_residual.result _ c.from_residual.ensures.1 (λ is. absurd (cc));
      untouched = λ _. (refl, refl);
      names = p.names;
      built = search rules;
      held = λ h e. (h, e, search rules);
    }

pub returns-in_err-act_all : goal.returns-in_err-act_all
returns-in_err-act_all g c =
    let old = scene c.args.names.now c.args.input.now (g.I.Source.left c.args.source.now) (g.I.Source.faults c.args.source.now) (g.K.Sink.taken c.args.sink.now) (g.K.Sink.faults c.args.sink.now) c.args.out.now in
    let begin = c.in_ok-doing.ensures.begins in
    let p = whole_err (setting_of c.args.program.now c.args.watch) c.args.inst.now c.args.store.now.elements (c.args.next_tag - 1) old c.actions_of-actions.result.now c.actions_of-actions.ensures c.in_ok-doing.doing begin
    (λ (a : Acted) (d : Coming). acted_of a c.act_all.new.names d) c.from_residual-in_err-act_all.result c.from_residual-in_err-act_all.ensures.1 (rw c.in_ok-doing.ensures.setting at c.in_err-act_all.ensures.does) c.requires.whole in
    record {
      acts = p.performs;
      lawful = search rules;
      tag = search rules;
      reads = p.reads;
      written = handed_on is_read c.from_residual-in_err-act_all.result _ c.from_residual-in_err-act_all.ensures.1 c.in_err-act_all.ensures.written;
      untouched = λ none. c.in_err-act_all.ensures.untouched (ap (list_any action_asks) c.actions_of-actions.ensures ∙ none);
      names = p.names;
      built = search rules;
      held = λ h e. (holds_program c.args.names.now c.act_all.new.names c.args.program.now p.names h, holds_elements c.args.names.now c.act_all.new.names c.args.store.now.elements p.names e, search rules);
    }

pub returns : goal.returns
returns g c =
    let old = scene c.args.names.now c.args.input.now (g.I.Source.left c.args.source.now) (g.I.Source.faults c.args.source.now) (g.K.Sink.taken c.args.sink.now) (g.K.Sink.faults c.args.sink.now) c.args.out.now in
    let begin = c.in_ok-doing.ensures.begins in
    let p = whole_ok (setting_of c.args.program.now c.args.watch) c.args.inst.now c.args.store.now.elements (c.args.next_tag - 1) old c.actions_of-actions.result.now c.actions_of-actions.ensures c.in_ok-doing.doing begin
    c.act_all.new.doing c.finish.result (rw c.in_ok-doing.ensures.setting at c.in_ok-act_all.ensures.does) c.finish.ensures.left c.requires.whole in
    let kept =
    whole_lawful (setting_of c.args.program.now c.args.watch) c.args.inst.now c.args.store.now.elements (c.args.next_tag - 1) old c.finish.result p (well_kept c.args.store.now c.args.next_tag c.last-last.ensures.stored c.requires.tags) in
    record {
      acts = p.performs;
      lawful = kept.0;
      tag = omega (arith, kept.1, c.finish.ensures.positive);
      reads = p.reads;
      written = search rules;
      untouched = λ none. c.in_ok-act_all.ensures.untouched (ap (list_any action_asks) c.actions_of-actions.ensures ∙ none);
      names = p.names;
      built = whole_built (setting_of c.args.program.now c.args.watch) c.args.inst.now c.args.store.now.elements (c.args.next_tag - 1) old c.finish.result p;
      held = λ h e. (holds_program c.args.names.now c.act_all.new.names c.args.program.now p.names h, holds_elements c.args.names.now c.act_all.new.names c.args.store.now.elements p.names e, whole_held (setting_of c.args.program.now c.args.watch) c.args.inst.now c.args.store.now.elements (c.args.next_tag - 1) old c.finish.result p h.nil (rules_of_program _ c.args.program.now h.symbols) (templates_of_program _ c.args.program.now h.symbols) e);
    }
