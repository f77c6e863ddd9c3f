use Rattle.std.proofs.Common.{◌≡◌, ◌∙◌, ap, sym, subst, refl, length, ◌<◌, ◌≤◌, arith, [], Some, None}
use Rattle.std.proofs.lemmas.Result.{err_from_is_err_and}
use Rattle.ops_io.specs.Coming.{Coming}
use Rattle.ops_io.proofs.PortLemmas.{put_nothing}
use Rattle.ops_meaning.specs.Kept.{KeepsNames}
use Rattle.ops_meaning.specs.Layout.{kept_line, line_at}
use Rattle.ops_meaning.specs.Running.{back_given}
use Rattle.cycle.specs.States.{no_names, no_input}
use Rattle.session.specs.Courses.{course_of}
use Rattle.session.specs.Trailing.{IsNamedFrom, meant_with, states_of}
use Rattle.session.proofs.Backs.{back_effect, back_named, back_names, back_undoable, earliest}
use Rattle.session.proofs.Firings.{trail_marked}
use Rattle.session.proofs.Undone.{back_puts, back_refused, back_short, few_effect, none_effect, now_undoable}
use Rattle.session.proofs.undoing.go_back.Goals as goal

-- ---- memory runs out, or the sink refuses

pub returns-in_err-session-clause-performs : goal.returns-in_err-session-clause-performs
returns-in_err-session-clause-performs g c =
    let p = err_from_is_err_and c.from_residual.result c.from_residual.ensures.1 in
    rw p.1 (λ z. back_short p.0 _ _ p.2 c.requires.whole)

pub returns-in_err-put_kept_line-clause-performs : goal.returns-in_err-put_kept_line-clause-performs
returns-in_err-put_kept_line-clause-performs g c =
    let p = err_from_is_err_and c.from_residual-in_err-put_kept_line.result c.from_residual-in_err-put_kept_line.ensures.1 in
    let few : c.kept_firings-kept.result < c.args.count = omega (arith, c.if-kept-count.true, c.from-count.ensures) in
    rw p.1 (λ z.
    back_refused p.0 _ _ _ (line_at c.args.out.now.column (kept_line c.kept_firings-kept.result)) _ p.2
    (few_effect g.B.M.Matcher.stored c.args.context.now.program.now.rules c.args.undoable.session c.in_ok-session.session c.args.undoable.trail c.args.names.now c.args.out.now.column c.args.count (λ y. c.in_ok-session.ensures.meant c.args.names.now y)
    c.kept_firings-kept.result c.kept_firings-kept.ensures few z)
    c.in_err-put_kept_line.ensures.puts)

pub returns-in_err-state-clause-performs : goal.returns-in_err-state-clause-performs
returns-in_err-state-clause-performs g c =
    let p = err_from_is_err_and c.from_residual-in_err-state.result c.from_residual-in_err-state.ensures.1 in
    rw p.1 (λ z. back_short p.0 _ _ p.2 c.requires.whole)

pub returns-in_err-state-clause-names : goal.returns-in_err-state-clause-names
returns-in_err-state-clause-names g c = λ first keeps h. subst (KeepsNames first) (sym c.in_err-state.ensures.kept.1) keeps

-- ---- nothing is undone

pub returns-then-kept-count-clause-performs : goal.returns-then-kept-count-clause-performs
returns-then-kept-count-clause-performs g c =
    let few : c.kept_firings-kept.result < c.args.count = omega (arith, c.if-kept-count.true, c.from-count.ensures) in
    λ z.
    back_puts _ _ _ _ (line_at c.args.out.now.column (kept_line c.kept_firings-kept.result))
    (few_effect g.B.M.Matcher.stored c.args.context.now.program.now.rules c.args.undoable.session c.in_ok-session.session c.args.undoable.trail c.args.names.now c.args.out.now.column c.args.count (λ y. c.in_ok-session.ensures.meant c.args.names.now y)
    c.kept_firings-kept.result c.kept_firings-kept.ensures few z)
    c.in_ok-put_kept_line.ensures.puts

pub returns-then-kept-count-clause-undoable : goal.returns-then-kept-count-clause-undoable
returns-then-kept-count-clause-undoable g c =
    now_undoable g.B.M.Matcher.stored g.B.M.Matcher.stands_for c.args.context.now.program.now.rules c.args.undoable c.in_ok-session.session c.args.undoable.trail refl c.requires.undoable c.in_ok-session.ensures.under_way (c.in_ok-session.ensures.meant no_names no_input)

pub returns-in_default-clause-performs : goal.returns-in_default-clause-performs
returns-in_default-clause-performs g c =
    let none : c.kept_firings-kept.result ≡ 0 = c.kept_firings-kept.ensures ∙ ap (λ t. length (states_of t)) c.in_default.is in
    let no : c.args.count ≡ 0 = omega (arith, none, c.if-kept-count.false, c.from-count.ensures) in
    λ z.
    back_puts _ _ _ _ []
    (none_effect g.B.M.Matcher.stored c.args.context.now.program.now.rules c.args.undoable.session c.in_ok-session.session c.args.undoable.trail c.args.names.now c.args.out.now.column c.args.count (λ y. c.in_ok-session.ensures.meant c.args.names.now y)
    None c.in_default.is no z)
    (put_nothing _ c.requires.whole)

pub returns-in_default-clause-undoable : goal.returns-in_default-clause-undoable
returns-in_default-clause-undoable g c =
    now_undoable g.B.M.Matcher.stored g.B.M.Matcher.stands_for c.args.context.now.program.now.rules c.args.undoable c.in_ok-session.session None c.in_default.is c.requires.undoable c.in_ok-session.ensures.under_way (c.in_ok-session.ensures.meant no_names no_input)

pub returns-then-count-eq0-clause-performs : goal.returns-then-count-eq0-clause-performs
returns-then-count-eq0-clause-performs g c =
    let no : c.args.count ≡ 0 = omega (arith, c.if-count-eq0.true, c.from-count.ensures) in
    λ z.
    back_puts _ _ _ _ []
    (none_effect g.B.M.Matcher.stored c.args.context.now.program.now.rules c.args.undoable.session c.in_ok-session.session c.args.undoable.trail c.args.names.now c.args.out.now.column c.args.count (λ y. c.in_ok-session.ensures.meant c.args.names.now y)
    (Some c.in-Some.trail) c.in-Some.is no z)
    (put_nothing _ c.requires.whole)

pub returns-then-count-eq0-clause-undoable : goal.returns-then-count-eq0-clause-undoable
returns-then-count-eq0-clause-undoable g c =
    now_undoable g.B.M.Matcher.stored g.B.M.Matcher.stands_for c.args.context.now.program.now.rules c.args.undoable c.in_ok-session.session (Some c.in-Some.trail) c.in-Some.is c.requires.undoable c.in_ok-session.ensures.under_way (c.in_ok-session.ensures.meant no_names no_input)

pub returns-then-count-eq0-clause-named : goal.returns-then-count-eq0-clause-named
returns-then-count-eq0-clause-named g c = λ least some h. subst (IsNamedFrom least c.args.names.now) c.in-Some.is h

-- ---- the last firings are undone

pub back-requires-clause-within : goal.back-requires-clause-within
back-requires-clause-within g c =
    let long : c.kept_firings-kept.result ≡ length c.in-Some.trail.states = c.kept_firings-kept.ensures ∙ ap (λ t. length (states_of t)) c.in-Some.is in
    omega (arith, long, c.if-kept-count.false)

pub back-requires-clause-named : goal.back-requires-clause-named
back-requires-clause-named g c = subst (IsNamedFrom 1 c.args.names.now) c.in-Some.is c.requires.named

pub back-requires-clause-marked : goal.back-requires-clause-marked
back-requires-clause-marked g c =
    trail_marked c.args.context.now.program.now.rules (course_of g.B.M.Matcher.stored c.args.undoable.session no_names no_input) c.args.undoable.trail c.in-Some.trail c.in-Some.is (let u = c.requires.undoable in u.trail)

pub returns : goal.returns
returns g c =
    let rules = c.args.context.now.program.now.rules in
    let before = c.args.undoable.session in
    let now = c.in_ok-session.session in
    let trail = c.in-Some.trail in
    let names = c.args.names.now in
    let n = c.from-count.result in
    let long : c.kept_firings-kept.result ≡ length trail.states = c.kept_firings-kept.ensures ∙ ap (λ t. length (states_of t)) c.in-Some.is in
    let some : 0 < n = omega (arith, c.if-count-eq0.false) in
    let enough : n ≤ length trail.states = omega (arith, long, c.if-kept-count.false) in
    let x = earliest trail.states n some enough in
    let are = subst (IsNamedFrom 1 names) c.in-Some.is c.requires.named in
    let same = λ (z : Coming). c.in_ok-session.ensures.meant names z in
    let none = c.in_ok-session.ensures.none_waits in
    let current = c.in_ok-session.ensures.current in
    let h = c.in_ok-state.state in
    let course = c.in_ok-state.ensures.course x.0 x.1 in
    let named = c.in_ok-state.ensures.names x.0 x.1 in
    let left = c.in_ok-state.ensures.trail x.0 x.1 in
    let marked = trail_marked rules (course_of g.B.M.Matcher.stored before no_names no_input) c.args.undoable.trail trail c.in-Some.is (let u = c.requires.undoable in u.trail) in
    record {
      performs = λ z.
          back_puts _ _ _ _ []
          (ap (λ m. back_given c.args.out.now.column m (meant_with g.B.M.Matcher.stored rules c.args.undoable names z)) (sym c.from-count.ensures)
          ∙ ap (λ t. back_given c.args.out.now.column n (meant_with g.B.M.Matcher.stored rules (record { session = before; trail = t }) names z)) c.in-Some.is
          ∙ back_effect g.B.M.Matcher.stored g.B.M.Matcher.stands_for rules before now trail c.back.new.self names c.back.new.names n x.0 some enough x.1 are same none current h course named left c.last_tag-last_tag.result c.args.out.now.column z)
          (put_nothing _ c.requires.whole);
      reads = refl;
      undoable = back_undoable g.B.M.Matcher.stored g.B.M.Matcher.stands_for rules before now trail c.back.new.self names c.back.new.names n x.0 some enough x.1 are same none current h course named left c.last_tag-last_tag.result
          (record { stands = c.in_ok-state.ensures.stands; specificities = c.in_ok-state.ensures.specificities }) c.last_tag-last_tag.ensures.last marked;
      named = λ least one h.
          back_named g.B.M.Matcher.stored g.B.M.Matcher.stands_for rules before now trail c.back.new.self names c.back.new.names n x.0 some enough x.1 are same none current c.in_ok-state.state course named left c.last_tag-last_tag.result
          least (subst (IsNamedFrom least names) c.in-Some.is h);
      names = λ first keeps h.
          back_names g.B.M.Matcher.stored g.B.M.Matcher.stands_for rules before now trail c.back.new.self names c.back.new.names n x.0 some enough x.1 are same none current c.in_ok-state.state course named left c.last_tag-last_tag.result
          first keeps (subst (IsNamedFrom (length first.held) names) c.in-Some.is h);
    }
