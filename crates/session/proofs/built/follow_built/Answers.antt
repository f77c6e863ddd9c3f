use Rattle.std.proofs.Common.{◌≡◌, ◌∙◌, ap, sym, subst, refl}
use Rattle.ops_base.specs.Names.{Spellings}
use Rattle.ops_io.specs.Coming.{Coming}
use Rattle.ops_meaning.specs.Running.{Session as Meant, all_added}
use Rattle.cycle.specs.States.{no_names, no_input}
use Rattle.session.specs.Trailing.{IsNamedFrom, meant_with, ready_with, trail_by}
use Rattle.session.proofs.BuiltLemmas.{all_watch}
use Rattle.session.proofs.RunLemmas.{ready_is, trail_ready}
use Rattle.session.proofs.Trailed.{trailed}
use Rattle.session.proofs.UnderWay.{state_is}
use Rattle.session.proofs.built.follow_built.Goals as goal

pub add_all-requires-clause-undoable : goal.add_all-requires-clause-undoable
add_all-requires-clause-undoable g c = c.after_run-undoable.ensures.undoable c.args.live.now.program.rules c.requires.of c.requires.trail

pub returns : goal.returns
returns g c =
    let stored = g.B.M.Matcher.stored in
    let old = c.args.live.now.program.rules in
    let new = c.add_all.new.live.program.rules in
    let before = c.in_ok-undoable.undoable in
    let session = c.in_ok-session.session in
    let now = record before { session = session } in
    let settled = c.in_ok-session.ensures in
    let added = c.in_ok-undoable.ensures in
    let same : (n : Spellings) (z : Coming) → meant_with stored new now n z ≡ meant_with stored new before n z = λ n z. ap (trailed (trail_by n before.trail)) (settled.meant n z) in
    let meant : (n : Spellings) (z : Coming) → ready_with stored new now n z ≡ all_added c.args.built (ready_with stored old c.args.undoable n z) = λ n z.
    ready_is stored new now n z settled.none_waits settled.current ∙ same n z ∙ added.meant n z
    ∙ ap (all_added c.args.built) (sym (c.after_run-undoable.ensures.meant old n z)) in
    record {
      meant = meant;
      place = added.place;
      none = settled.none_waits;
      current = settled.current;
      watch = ap (λ (m : Meant). m.watch) (meant no_names no_input) ∙ all_watch c.args.built (ready_with stored old c.args.undoable no_names no_input);
      of = state_is stored g.B.M.Matcher.stands_for new session settled.under_way settled.current;
      trail = trail_ready stored new g.B.M.Matcher.stands_for before now added.undoable refl settled.none_waits settled.current same;
      named = λ least n h. added.named least n (subst (IsNamedFrom least n) (sym c.after_run-undoable.ensures.trail) h);
      program = added.program;
      quiet = added.quiet;
    }
