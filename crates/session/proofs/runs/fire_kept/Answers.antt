use Rattle.std.proofs.Common.{[], ap, refl}
use Rattle.std.proofs.lemmas.Result.{err_from_is_err_and}
use Rattle.ops_meaning.specs.Effects.{of_ending}
use Rattle.cycle.specs.Standing.{standing}
use Rattle.cycle.specs.States.{no_names, no_input, state_course}
use Rattle.session.proofs.Firings.{fires_alone, fires_kept, named_kept, performed_short, push_lawful, trail_known, trailed_kept}
use Rattle.session.proofs.Seen.{runs_short, seen_err, seen_ok}
use Rattle.session.proofs.runs.fire_kept.Goals as goal

-- ---- no firing is kept

pub returns-in_err-alone-clause-performs : goal.returns-in_err-alone-clause-performs
returns-in_err-alone-clause-performs g c i is =
    let p = err_from_is_err_and c.from_residual.result c.from_residual.ensures.1 in
    rw (p.1, p.2) (seen_err _ _ of_ending _ _ _ _ _ _ (λ z. refl) c.in_err-alone.field-0.0 (c.in_err-alone.ensures.performs i is))

pub returns-in_default-clause-performs : goal.returns-in_default-clause-performs
returns-in_default-clause-performs g c i is =
    seen_ok _ _ of_ending _ _ _ _ _ _ (λ z. refl) (record { 0 = c.in_ok-alone.alone; 1 = c.in_ok-alone.fired }) _ (λ z. refl) c.in_ok-alone.ensures.reads (c.in_ok-alone.ensures.performs i is)

pub returns-in_default-clause-fired : goal.returns-in_default-clause-fired
returns-in_default-clause-fired g c = λ z y.
    fires_alone g.M.Matcher.stored c.args.context.now.program.now.rules c.args.undoable.session c.in_ok-alone.alone c.args.names.now c.fire.new.names c.args.undoable.trail c.in_default.is c.in_ok-alone.ensures.kept z y

pub returns-in_default-clause-trail : goal.returns-in_default-clause-trail
returns-in_default-clause-trail g c = tt

pub returns-in_default-clause-named : goal.returns-in_default-clause-named
returns-in_default-clause-named g c = λ least h. tt

-- ---- what was before the firing joins the trail

pub begin-requires : goal.begin-requires
begin-requires g c =
    trail_known c.args.context.now.program.now.rules (state_course g.M.Matcher.stored c.args.undoable.session.state no_names no_input) c.args.undoable.trail c.in-Some.trail c.in-Some.is c.requires.trail

pub returns-in_err-begin-clause-performs : goal.returns-in_err-begin-clause-performs
returns-in_err-begin-clause-performs g c i is =
    let p = err_from_is_err_and c.from_residual-in_err-begin.result c.from_residual-in_err-begin.ensures.1 in
    rw p.1 (runs_short _ of_ending p.0 _ _ _ (ap of_ending p.2) c.requires.whole)

pub returns-in_err-after-clause-performs : goal.returns-in_err-after-clause-performs
returns-in_err-after-clause-performs g c i is =
    let p = err_from_is_err_and c.from_residual-in_err-after.result c.from_residual-in_err-after.ensures.1 in
    rw (p.1, p.2) (seen_err _ _ of_ending _ _ _ _ _ _ (λ z. refl) c.in_err-after.field-0.0 (c.in_err-after.ensures.performs i is))

pub push-requires-clause-known : goal.push-requires-clause-known
push-requires-clause-known g c = rw c.in_ok-begin.ensures.ok refl

pub push-requires-clause-lawful : goal.push-requires-clause-lawful
push-requires-clause-lawful g c =
    push_lawful g.M.Matcher.stored c.args.context.now.program.now.rules c.args.undoable.session c.args.undoable.trail c.in-Some.trail c.begin.new.self c.in-Some.is (standing g.M.Matcher.stored c.args.undoable.session.state) refl c.in_ok-begin.ensures.ok
    c.in_ok-after.fired.changes c.in_ok-after.ensures.lawful

pub returns-in_err-push-clause-performs : goal.returns-in_err-push-clause-performs
returns-in_err-push-clause-performs g c i is =
    let p = err_from_is_err_and c.from_residual-in_err-push.result c.from_residual-in_err-push.ensures.1 in
    rw p.1 (performed_short _ _ of_ending p.0 (ap of_ending p.2) (record { 0 = c.in_ok-after.after; 1 = c.in_ok-after.fired }) _ _ _ _ _ c.in_ok-after.ensures.reads (c.in_ok-after.ensures.performs i is))

pub returns-clause-performs : goal.returns-clause-performs
returns-clause-performs g c i is =
    seen_ok _ _ of_ending _ _ _ _ _ _ (λ z. refl) (record { 0 = c.in_ok-after.after; 1 = c.in_ok-after.fired }) _ (λ z. refl) c.in_ok-after.ensures.reads (c.in_ok-after.ensures.performs i is)

pub returns-clause-fired : goal.returns-clause-fired
returns-clause-fired g c = λ z y.
    fires_kept g.M.Matcher.stored c.args.context.now.program.now.rules c.args.undoable.session c.args.undoable.trail c.in-Some.trail c.begin.new.self c.in-Some.is (standing g.M.Matcher.stored c.args.undoable.session.state) refl c.in_ok-begin.ensures.ok
    c.in_ok-after.after c.args.names.now c.fire-2.new.names c.push.new.self c.point-point.result (record c.in_ok-after.fired { built = [] }) c.in_ok-push.ensures.ok c.in_ok-after.ensures.names c.point-point.ensures.held
    c.requires.named c.point-point.ensures.fresh c.in_ok-after.ensures.kept z y

pub returns-clause-named : goal.returns-clause-named
returns-clause-named g c =
    named_kept g.M.Matcher.stored c.args.context.now.program.now.rules c.args.undoable.session c.args.undoable.trail c.in-Some.trail c.begin.new.self c.in-Some.is (standing g.M.Matcher.stored c.args.undoable.session.state) refl c.in_ok-begin.ensures.ok
    c.in_ok-after.after c.args.names.now c.fire-2.new.names c.push.new.self c.point-point.result (record c.in_ok-after.fired { built = [] }) c.in_ok-push.ensures.ok c.in_ok-after.ensures.names c.point-point.ensures.held

pub returns-clause-trail : goal.returns-clause-trail
returns-clause-trail g c =
    trailed_kept g.M.Matcher.stored c.args.context.now.program.now.rules c.args.undoable.session c.args.undoable.trail c.in-Some.trail c.begin.new.self c.in-Some.is (standing g.M.Matcher.stored c.args.undoable.session.state) refl c.in_ok-begin.ensures.ok
    c.in_ok-after.after c.args.names.now c.fire-2.new.names c.push.new.self c.point-point.result (record c.in_ok-after.fired { built = [] }) c.in_ok-push.ensures.ok c.in_ok-after.ensures.names c.point-point.ensures.held
    c.in_ok-after.ensures.leaves (c.index-index.ensures.set c.args.context.now.program.now.rules c.requires.of.stands) c.requires.trail
