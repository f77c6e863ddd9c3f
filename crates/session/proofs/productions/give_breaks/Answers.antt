use Rattle.std.proofs.Common.{◌∙◌, ap, sym, map}
use Rattle.ops_meaning.specs.Effects.{writes}
use Rattle.ops_meaning.specs.Layout.{lines_at, unknown_line}
use Rattle.ops_meaning.specs.Running.{Session as Meant, all_toggled, breaks_given, unknown_of}
use Rattle.act_phase.specs.Outcomes.{setting_of}
use Rattle.session.specs.Courses.{meant_by}
use Rattle.session.proofs.Deeds.{does_all}
use Rattle.session.proofs.ProductionLemmas.{breaks_some}
use Rattle.session.proofs.productions.give_breaks.Goals as goal

pub returns : goal.returns
returns g c =
    let given = c.as_slice-given.result.now in
    let told = lines_at c.args.out.now.column (map (unknown_line c.args.names.now) (unknown_of c.args.program.now.rules given)) in
    let toggled = c.toggle_all.ensures ∙ ap (λ rules. all_toggled rules given c.args.session.breaks) c.as_slice-2.ensures in
    let p = c.requires.under_way in
    does_all g.M.Matcher.stored g.M.Matcher.stands_for c.args.program.now.rules c.args.names.now c.args.session _ _ _ _ told
    (λ z. let k = meant_by g.M.Matcher.stored c.args.program.now.rules c.args.session c.args.names.now z in
    ap (λ ns. breaks_given (setting_of c.args.program.now 0) c.args.out.now.column ns k) (sym c.as_slice-given.ensures)
    ∙ breaks_some (setting_of c.args.program.now 0) c.args.out.now.column given k (sym c.is_empty.ensures ∙ c.if-is_empty.false)
    ∙ ap (λ breaks. let t : Meant = record k { breaks = breaks } in writes told t) (sym toggled))
    c.in_ok-put_unknown.ensures
    (record { state = p.state; unmarked = p.unmarked; none_waits = p.none_waits; lawful = p.lawful; last = p.last })
