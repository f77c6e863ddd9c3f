use Rattle.std.proofs.Common.{◌≡◌, ◌∙◌, ap, sym, refl, Some}
use Rattle.std.proofs.lemmas.Result.{err_from_is_err_and}
use Rattle.ops_base.specs.declared.endings.Ending.{Ending}
use Rattle.ops_base.specs.declared.rules.Inst.{Inst}
use Rattle.ops_io.specs.Coming.{Coming}
use Rattle.ops_meaning.specs.Effects.{of_ending}
use Rattle.ops_meaning.specs.Running.{Session as Meant, Turned}
use Rattle.act_phase.specs.Outcomes.{setting_of}
use Rattle.cycle.specs.States.{no_input, state_course}
use Rattle.session.specs.Trailing.{ready_with}
use Rattle.session.specs.declared.session.Session.{Session}
use Rattle.session.proofs.BuiltLemmas.{left_alone, left_built}
use Rattle.session.proofs.Firings.{performed_short}
use Rattle.session.proofs.Turns.{turn_err, turn_ok}
use Rattle.session.proofs.runs.fire_turn.Goals as goal

same_some : (i j : Inst) → Some i ≡ Some j → i ≡ j
same_some i j e = cc

pub returns-in_err-after-clause-performs : goal.returns-in_err-after-clause-performs
returns-in_err-after-clause-performs g c i is =
    let p = err_from_is_err_and c.from_residual.result c.from_residual.ensures.1 in
    rw (p.1, p.2)
    (turn_err (setting_of c.args.live.now.program c.args.undoable.session.watch) c.args.out.now.column i (λ z. ready_with g.B.M.Matcher.stored c.args.live.now.program.rules c.args.undoable c.args.names.now z) _ _ c.in_err-after.field-0.0 (c.in_err-after.ensures.performs i is))

pub returns-then-is_empty-clause-performs : goal.returns-then-is_empty-clause-performs
returns-then-is_empty-clause-performs g c i is =
    let n = c.requires.next in
    let rule : i.rule ≡ c.args.rule = ap (λ (j : Inst). j.rule) (same_some i n.0 (sym is ∙ n.1)) ∙ n.2 in
    let stored = g.B.M.Matcher.stored in
    let before : Coming → Meant = λ z. ready_with stored c.args.live.now.program.rules c.args.undoable c.args.names.now z in
    turn_ok (setting_of c.args.live.now.program c.args.undoable.session.watch) c.args.out.now.column i before _ _
    (record { 0 = c.in_ok-after.after; 1 = c.in_ok-after.halted; 2 = c.in_ok-after.built }) _ c.in_ok-after.ensures.reads
    (λ z w. left_alone i (state_course stored c.in_ok-after.after.session.state c.fire_kept.new.names z) c.in_ok-after.halted (before w) c.in_ok-after.built (c.is_empty.ensures.0 c.if-is_empty.true) c.args.rule rule
    (ready_with stored c.args.live.now.program.rules c.in_ok-after.after c.fire_kept.new.names z) (c.in_ok-after.ensures.fired z w))
    (c.in_ok-after.ensures.performs i is)

pub returns-in_err-after-2-clause-performs : goal.returns-in_err-after-2-clause-performs
returns-in_err-after-2-clause-performs g c i is =
    let p = err_from_is_err_and c.from_residual-in_err-after-2.result c.from_residual-in_err-after-2.ensures.1 in
    rw p.1
    (turn_err {X = Turned} (setting_of c.args.live.now.program c.args.undoable.session.watch) c.args.out.now.column i (λ z. ready_with g.B.M.Matcher.stored c.args.live.now.program.rules c.args.undoable c.args.names.now z) (λ t z. t) _ p.0
    (performed_short _ _ of_ending p.0 (ap of_ending p.2) (record { 0 = c.in_ok-after.after; 1 = c.in_ok-after.halted; 2 = c.in_ok-after.built }) _ _ _ _ _ c.in_ok-after.ensures.reads (c.in_ok-after.ensures.performs i is)))

pub returns-clause-performs : goal.returns-clause-performs
returns-clause-performs g c i is =
    let n = c.requires.next in
    let rule : i.rule ≡ c.args.rule = ap (λ (j : Inst). j.rule) (same_some i n.0 (sym is ∙ n.1)) ∙ n.2 in
    let stored = g.B.M.Matcher.stored in
    let old = c.args.live.now.program.rules in
    let before : Coming → Meant = λ z. ready_with stored old c.args.undoable c.args.names.now z in
    let added = c.in_ok-after-2.ensures in
    turn_ok (setting_of c.args.live.now.program c.args.undoable.session.watch) c.args.out.now.column i before _ _
    (record { 0 = c.in_ok-after.after; 1 = c.in_ok-after.halted; 2 = c.in_ok-after.built }) _ c.in_ok-after.ensures.reads
    (λ z w. left_built i (state_course stored c.in_ok-after.after.session.state c.fire_kept.new.names z) c.in_ok-after.halted (before w) c.in_ok-after.built old refl c.args.rule rule
    (ready_with stored old c.in_ok-after.after c.fire_kept.new.names z) (ready_with stored c.follow_built.new.live.program.rules c.in_ok-after-2.after c.fire_kept.new.names z)
    (c.in_ok-after.ensures.fired z w) (added.meant c.fire_kept.new.names z) c.in_ok-after-2.rule added.place)
    (c.in_ok-after.ensures.performs i is)

kept_parts : {M H : Type 0} (before after : Session M H) → after ≡ record before { state = after.state } → (after.pending ≡ before.pending) × (after.moved ≡ before.moved) × (after.watch ≡ before.watch)
kept_parts {M} {H} before after kept = (ap (λ (s : Session M H). s.pending) kept, ap (λ (s : Session M H). s.moved) kept, ap (λ (s : Session M H). s.watch) kept)

pub follow_built-requires-clause-none : goal.follow_built-requires-clause-none
follow_built-requires-clause-none g c = (kept_parts c.args.undoable.session c.in_ok-after.after.session c.in_ok-after.ensures.kept).0 ∙ c.requires.none

pub follow_built-requires-clause-current : goal.follow_built-requires-clause-current
follow_built-requires-clause-current g c = (kept_parts c.args.undoable.session c.in_ok-after.after.session c.in_ok-after.ensures.kept).1 ∙ c.requires.current

pub returns-then-is_empty-clause-none : goal.returns-then-is_empty-clause-none
returns-then-is_empty-clause-none g c = (kept_parts c.args.undoable.session c.in_ok-after.after.session c.in_ok-after.ensures.kept).0 ∙ c.requires.none

pub returns-then-is_empty-clause-current : goal.returns-then-is_empty-clause-current
returns-then-is_empty-clause-current g c = (kept_parts c.args.undoable.session c.in_ok-after.after.session c.in_ok-after.ensures.kept).1 ∙ c.requires.current

pub returns-then-is_empty-clause-watch : goal.returns-then-is_empty-clause-watch
returns-then-is_empty-clause-watch g c = (kept_parts c.args.undoable.session c.in_ok-after.after.session c.in_ok-after.ensures.kept).2

pub returns-then-is_empty-clause-program : goal.returns-then-is_empty-clause-program
returns-then-is_empty-clause-program g c = record { rules_are = refl; commands_are = refl; classes = refl; templates = refl; text = refl }

pub returns-clause-watch : goal.returns-clause-watch
returns-clause-watch g c = c.in_ok-after-2.ensures.watch ∙ (kept_parts c.args.undoable.session c.in_ok-after.after.session c.in_ok-after.ensures.kept).2

pub returns-clause-named : goal.returns-clause-named
returns-clause-named g c = λ least h. c.in_ok-after-2.ensures.named least c.fire_kept.new.names (c.in_ok-after.ensures.named least h)
