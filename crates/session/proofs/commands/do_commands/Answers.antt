use Rattle.std.proofs.Common.{◌∙◌, ap, sym, length, arith}
use Rattle.std.specs.List.{list_any}
use Rattle.std.proofs.lemmas.Result.{err_from_is_err_and}
use Rattle.ops_meaning.specs.Effects.{of_ending}
use Rattle.ops_meaning.specs.Running.{is_back}
use Rattle.cycle.specs.States.{no_names, no_input}
use Rattle.session.specs.Courses.{course_of, meant_by}
use Rattle.session.specs.Trailing.{meant_with, trail_by}
use Rattle.session.proofs.Beginnings.{begun_named, begun_trail}
use Rattle.session.proofs.Trailed.{begun_with, trailed}
use Rattle.session.proofs.Seen.{seen_ok, seen_err}
use Rattle.session.proofs.Sequence.{session_taken, short_at_end}
use Rattle.session.proofs.commands.do_commands.Goals as goal

pub returns-in_err-undoable-clause-performs : goal.returns-in_err-undoable-clause-performs
returns-in_err-undoable-clause-performs g c =
    let kept = rw c.as_slice.ensures.value at c.trail_for-trail.ensures in
    let p = err_from_is_err_and c.from_residual-in_err-undoable.result c.from_residual-in_err-undoable.ensures.1 in
    rw (p.1, p.2)
    (seen_err _ _ of_ending _ _ _ _ _ _
    (session_taken c.args.live.now.program c.take_commands.new.self.program c.args.context.now.limit c.args.out.now.column c.into_vec-commands.result.items c.args.names.now (λ z. meant_with g.B.M.Matcher.stored c.take_commands.new.self.program.rules (record { session = c.in_ok-session.session; trail = c.trail_for-trail.result }) c.args.names.now z)
    c.take_commands.ensures.left (c.into_vec-commands.ensures ∙ c.take_commands.ensures.commands) c.requires.column (λ z. begun_with c.args.names.now z c.into_vec-commands.result.items c.take_commands.new.self.program.rules (meant_by g.B.M.Matcher.stored c.take_commands.new.self.program.rules c.in_ok-session.session c.args.names.now z) c.trail_for-trail.result (c.in_ok-session.ensures.begun c.args.names.now z) kept))
    c.in_err-undoable.field-0.0 c.in_err-undoable.ensures.performs)

pub returns-in_err-session-2-clause-performs : goal.returns-in_err-session-2-clause-performs
returns-in_err-session-2-clause-performs g c =
    let kept = rw c.as_slice.ensures.value at c.trail_for-trail.ensures in
    let p = err_from_is_err_and c.from_residual-in_err-session-2.result c.from_residual-in_err-session-2.ensures.1 in
    rw p.1
    (short_at_end _ _ p.0 p.2 c.in_ok-undoable.undoable _ _ _ _ _ _
    (session_taken c.args.live.now.program c.take_commands.new.self.program c.args.context.now.limit c.args.out.now.column c.into_vec-commands.result.items c.args.names.now (λ z. meant_with g.B.M.Matcher.stored c.take_commands.new.self.program.rules (record { session = c.in_ok-session.session; trail = c.trail_for-trail.result }) c.args.names.now z)
    c.take_commands.ensures.left (c.into_vec-commands.ensures ∙ c.take_commands.ensures.commands) c.requires.column (λ z. begun_with c.args.names.now z c.into_vec-commands.result.items c.take_commands.new.self.program.rules (meant_by g.B.M.Matcher.stored c.take_commands.new.self.program.rules c.in_ok-session.session c.args.names.now z) c.trail_for-trail.result (c.in_ok-session.ensures.begun c.args.names.now z) kept))
    c.in_ok-undoable.ensures.reads c.in_ok-undoable.ensures.performs)

pub returns-clause-performs : goal.returns-clause-performs
returns-clause-performs g c =
    let kept = rw c.as_slice.ensures.value at c.trail_for-trail.ensures in
    seen_ok _ _ of_ending _ _ _ _ _ _
    (session_taken c.args.live.now.program c.take_commands.new.self.program c.args.context.now.limit c.args.out.now.column c.into_vec-commands.result.items c.args.names.now (λ z. meant_with g.B.M.Matcher.stored c.take_commands.new.self.program.rules (record { session = c.in_ok-session.session; trail = c.trail_for-trail.result }) c.args.names.now z)
    c.take_commands.ensures.left (c.into_vec-commands.ensures ∙ c.take_commands.ensures.commands) c.requires.column (λ z. begun_with c.args.names.now z c.into_vec-commands.result.items c.take_commands.new.self.program.rules (meant_by g.B.M.Matcher.stored c.take_commands.new.self.program.rules c.in_ok-session.session c.args.names.now z) c.trail_for-trail.result (c.in_ok-session.ensures.begun c.args.names.now z) kept))
    c.in_ok-undoable.undoable (record { session = c.in_ok-session-2.session; trail = c.in_ok-undoable.undoable.trail }) (λ z. ap (trailed (trail_by c.do_each.new.names c.in_ok-undoable.undoable.trail)) (sym (c.in_ok-session-2.ensures.meant c.do_each.new.names z))) c.in_ok-undoable.ensures.reads c.in_ok-undoable.ensures.performs

pub do_each-requires-clause-undoable : goal.do_each-requires-clause-undoable
do_each-requires-clause-undoable g c =
    let kept = rw c.as_slice.ensures.value at c.trail_for-trail.ensures in
    record {
      under_way = c.in_ok-session.ensures.under_way;
      trail = begun_trail c.take_commands.new.self.program.rules (course_of g.B.M.Matcher.stored c.in_ok-session.session no_names no_input) (list_any is_back c.into_vec-commands.result.items) c.trail_for-trail.result kept;
    }

pub do_each-requires-clause-named : goal.do_each-requires-clause-named
do_each-requires-clause-named g c =
    let kept = rw c.as_slice.ensures.value at c.trail_for-trail.ensures in
    begun_named 1 c.args.names.now (list_any is_back c.into_vec-commands.result.items) c.trail_for-trail.result kept (omega (arith, c.point-point.ensures.some, c.point-point.ensures.held))

pub returns-in_err-undoable-clause-names : goal.returns-in_err-undoable-clause-names
returns-in_err-undoable-clause-names g c =
    let kept = rw c.as_slice.ensures.value at c.trail_for-trail.ensures in
    c.in_err-undoable.ensures.names c.args.names.now (omega (arith, c.point-point.ensures.some, c.point-point.ensures.held)) (λ i s h. h)
    (begun_named (length c.args.names.now.held) c.args.names.now (list_any is_back c.into_vec-commands.result.items) c.trail_for-trail.result kept (omega arith))

pub returns-in_err-session-2-clause-names : goal.returns-in_err-session-2-clause-names
returns-in_err-session-2-clause-names g c =
    let kept = rw c.as_slice.ensures.value at c.trail_for-trail.ensures in
    c.in_ok-undoable.ensures.names c.args.names.now (omega (arith, c.point-point.ensures.some, c.point-point.ensures.held)) (λ i s h. h)
    (begun_named (length c.args.names.now.held) c.args.names.now (list_any is_back c.into_vec-commands.result.items) c.trail_for-trail.result kept (omega arith))

pub returns-clause-names : goal.returns-clause-names
returns-clause-names g c =
    let kept = rw c.as_slice.ensures.value at c.trail_for-trail.ensures in
    c.in_ok-undoable.ensures.names c.args.names.now (omega (arith, c.point-point.ensures.some, c.point-point.ensures.held)) (λ i s h. h)
    (begun_named (length c.args.names.now.held) c.args.names.now (list_any is_back c.into_vec-commands.result.items) c.trail_for-trail.result kept (omega arith))
