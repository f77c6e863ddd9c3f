use Rattle.std.proofs.Common.{◌∙◌, ap, sym, subst, option_map, []}
use Rattle.cycle.specs.States.{no_names, no_input}
use Rattle.session.specs.Courses.{course_of, meant_by}
use Rattle.session.specs.Trailing.{IsNamedFrom, IsTrailOf, trail_by}
use Rattle.session.proofs.Trailed.{added_trailed, emptied_means, emptied_named, emptied_of, trailed}
use Rattle.session.proofs.undoable.add_late.Goals as goal

pub returns-clause-meant : goal.returns-clause-meant
returns-clause-meant g c = λ n z.
    let k = meant_by g.M.Matcher.stored c.add_production.new.live.program.rules c.in_ok-session.session n z in
    let before = meant_by g.M.Matcher.stored c.args.live.now.program.rules c.args.undoable.session n z in
    ap (λ t. trailed (trail_by n t) k) c.emptied-trail.ensures
    ∙ ap (λ t. trailed t k) (emptied_means n c.args.undoable.trail)
    ∙ ap (trailed (option_map (λ es. []) (trail_by n c.args.undoable.trail))) (c.in_ok-session.ensures.meant n z)
    ∙ sym (added_trailed c.args.rule (trail_by n c.args.undoable.trail) before)

pub returns-clause-undoable : goal.returns-clause-undoable
returns-clause-undoable g c =
    let rules = c.add_production.new.live.program.rules in
    let m = course_of g.M.Matcher.stored c.in_ok-session.session no_names no_input in
    record {
      under_way = c.in_ok-session.ensures.under_way;
      trail = subst (IsTrailOf rules m) (sym c.emptied-trail.ensures) (emptied_of rules m c.args.undoable.trail);
    }

pub returns-clause-named : goal.returns-clause-named
returns-clause-named g c = λ least n h.
    subst (IsNamedFrom least n) (sym c.emptied-trail.ensures) (emptied_named least n c.args.undoable.trail h)
