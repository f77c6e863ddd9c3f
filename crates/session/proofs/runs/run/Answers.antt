use Rattle.std.proofs.Common.{◌≡◌, ◌-◌, ℕ, ◌<◌, ◌∙◌, sym, ap, option_map, Some, Result, Err, refl, arith}
use Rattle.std.specs.Option.{option_copied}
use Rattle.std.proofs.lemmas.Result.{err_from_is_err_and}
use Rattle.ops_base.specs.declared.endings.Ending.{Ending}
use Rattle.ops_base.specs.declared.endings.Ending.TheVariants as ending
use Rattle.ops_io.specs.Coming.{Coming}
use Rattle.ops_io.proofs.PortLemmas.{put_nothing}
use Rattle.ops_meaning.specs.Effects.{of_ending}
use Rattle.ops_meaning.specs.Running.{Session as Meant}
use Rattle.act_phase.specs.Asking.{program_asks}
use Rattle.act_phase.specs.Outcomes.{setting_of}
use Rattle.ops_meaning.proofs.InletLemmas.{pending_on_start}
use Rattle.ops_meaning.proofs.NamesKept.{names_then}
use Rattle.cycle.specs.States.{no_names, no_input}
use Rattle.session.specs.Pauses.{meant_last, pause_line}
use Rattle.session.specs.Trailing.{ready_with}
use Rattle.session.proofs.Comings.{pending_put, performed_put}
use Rattle.session.proofs.Flushes.{shown_put, shown_refused, performs_still, performs_refused}
use Rattle.session.proofs.Asks.{turn_here, with_then}
use Rattle.session.proofs.Seen.{performs_same}
use Rattle.session.proofs.Turns.{ends_paused, ends_over, ends_limited, ends_firing, one_firing}
use Rattle.act_phase.proofs.Asking.{both_then}
use Rattle.session.proofs.runs.run.Goals as goal

pub returns-in_err-put_pause-clause-performs : goal.returns-in_err-put_pause-clause-performs
returns-in_err-put_pause-clause-performs g c =
    let p = err_from_is_err_and c.from_residual.result c.from_residual.ensures.1 in
    rw (p.1, p.2)
    (ends_paused c.turns.left (setting_of c.args.live.now.program c.args.undoable.session.watch) (meant_last c.turns.last) c.turns.count (λ z. ready_with g.B.M.Matcher.stored c.turns.live.program.rules c.turns.undoable c.turns.names z)
    c.turns.invariant.out
    (pause_line c.turns.names c.in-Some.pause) (λ z. sym (rw c.as_slice.ensures at (c.pause_of.ensures c.turns.names)) ∙ ap (option_map (pause_line c.turns.names)) c.in-Some.is)
    (λ z. c.in_err-put_pause.ensures.puts))

pub returns-in-Some-clause-performs : goal.returns-in-Some-clause-performs
returns-in-Some-clause-performs g c =
    ends_paused c.turns.left (setting_of c.args.live.now.program c.args.undoable.session.watch) (meant_last c.turns.last) c.turns.count (λ z. ready_with g.B.M.Matcher.stored c.turns.live.program.rules c.turns.undoable c.turns.names z)
    c.turns.invariant.out
    (pause_line c.turns.names c.in-Some.pause) (λ z. sym (rw c.as_slice.ensures at (c.pause_of.ensures c.turns.names)) ∙ ap (option_map (pause_line c.turns.names)) c.in-Some.is)
    (λ z. (refl, c.in_ok-put_pause.ensures.puts))

pub returns-in_err-put_line-clause-performs : goal.returns-in_err-put_line-clause-performs
returns-in_err-put_line-clause-performs g c =
    let goes = λ (z : Coming). sym (rw c.as_slice.ensures at (c.pause_of.ensures c.turns.names)) ∙ ap (option_map (pause_line c.turns.names)) c.in_default.is in
    let p = err_from_is_err_and c.from_residual-in_err-put_line.result c.from_residual-in_err-put_line.ensures.1 in
    rw (p.1, p.2)
    (ends_over c.turns.left (setting_of c.args.live.now.program c.args.undoable.session.watch) (meant_last c.turns.last) c.turns.count (λ z. ready_with g.B.M.Matcher.stored c.turns.live.program.rules c.turns.undoable c.turns.names z)
    c.turns.invariant.out
    (option_copied c.next.result) goes
    (λ z. c.next.ensures.dominant c.turns.live.program.rules c.turns.names z c.turns.invariant.of.stands c.turns.invariant.of.specificities)
    (ap option_copied c.in_default-next.is) (λ z. c.in_err-put_line.ensures.puts))

pub returns-in_default-next-clause-performs : goal.returns-in_default-next-clause-performs
returns-in_default-next-clause-performs g c =
    let goes = λ (z : Coming). sym (rw c.as_slice.ensures at (c.pause_of.ensures c.turns.names)) ∙ ap (option_map (pause_line c.turns.names)) c.in_default.is in
    ends_over c.turns.left (setting_of c.args.live.now.program c.args.undoable.session.watch) (meant_last c.turns.last) c.turns.count (λ z. ready_with g.B.M.Matcher.stored c.turns.live.program.rules c.turns.undoable c.turns.names z)
    c.turns.invariant.out
    (option_copied c.next.result) goes
    (λ z. c.next.ensures.dominant c.turns.live.program.rules c.turns.names z c.turns.invariant.of.stands c.turns.invariant.of.specificities)
    (ap option_copied c.in_default-next.is) (λ z. (refl, c.in_ok-put_line.ensures.puts))

pub returns-then-left-eq0-clause-performs : goal.returns-then-left-eq0-clause-performs
returns-then-left-eq0-clause-performs g c =
    let goes = λ (z : Coming). sym (rw c.as_slice.ensures at (c.pause_of.ensures c.turns.names)) ∙ ap (option_map (pause_line c.turns.names)) c.in_default.is in
    let limited : ℕ → Result Meant Ending = λ n. Err (ending.Limit n) in
    ends_limited c.turns.left (setting_of c.args.live.now.program c.args.undoable.session.watch) (meant_last c.turns.last) c.turns.count (λ z. ready_with g.B.M.Matcher.stored c.turns.live.program.rules c.turns.undoable c.turns.names z)
    c.turns.invariant.out
    (option_copied c.next.result) goes
    (λ z. c.next.ensures.dominant c.turns.live.program.rules c.turns.names z c.turns.invariant.of.stands c.turns.invariant.of.specificities)
    c.in-Some-next.next.now (ap option_copied c.in-Some-next.is) c.if-left-eq0.true
    (λ z. (ap limited (sym c.firings-then-left-eq0.ensures), put_nothing _ c.turns.invariant.whole))

pub fire_turn-requires-clause-next : goal.fire_turn-requires-clause-next
fire_turn-requires-clause-next g c =
    (c.in-Some-next.next.now, sym (c.next.ensures.dominant c.turns.live.program.rules no_names no_input c.turns.invariant.of.stands c.turns.invariant.of.specificities) ∙ ap option_copied c.in-Some-next.is, refl)

pub returns-in_err-after-clause-performs : goal.returns-in_err-after-clause-performs
returns-in_err-after-clause-performs g c =
    let goes = λ (z : Coming). sym (rw c.as_slice.ensures at (c.pause_of.ensures c.turns.names)) ∙ ap (option_map (pause_line c.turns.names)) c.in_default.is in
    let p = err_from_is_err_and c.from_residual-in_err-after.result c.from_residual-in_err-after.ensures.1 in
    let some : 0 < c.turns.left = omega (arith, c.if-left-eq0.false) in
    let found = c.next.ensures.dominant c.turns.live.program.rules no_names no_input c.turns.invariant.of.stands c.turns.invariant.of.specificities in
    let here = turn_here c.args.live.now.program c.turns.live.program c.args.live.now.program.commands c.turns.invariant.program c.args.undoable.session.watch c.turns.undoable.session.watch c.turns.invariant.watch c.turns.out.column c.in-Some-next.next.now
    (λ z. ready_with g.B.M.Matcher.stored c.turns.live.program.rules c.turns.undoable c.turns.names z) (λ z. refl) in
    rw (p.1, p.2)
    (ends_firing c.turns.left (setting_of c.args.live.now.program c.args.undoable.session.watch) (meant_last c.turns.last) c.turns.count (λ z. ready_with g.B.M.Matcher.stored c.turns.live.program.rules c.turns.undoable c.turns.names z)
    c.turns.invariant.out
    (option_copied c.next.result) goes
    (λ z. c.next.ensures.dominant c.turns.live.program.rules c.turns.names z c.turns.invariant.of.stands c.turns.invariant.of.specificities)
    c.in-Some-next.next.now some (ap option_copied c.in-Some-next.is) c.in_err-after.field-0.0
    (performs_same _ of_ending _ _ _ _ _ _ _ here (c.in_err-after.ensures.performs c.in-Some-next.next.now (sym found ∙ ap option_copied c.in-Some-next.is))))

pub show-requires-clause-whole : goal.show-requires-clause-whole
show-requires-clause-whole g c =
    let found = c.next.ensures.dominant c.turns.live.program.rules no_names no_input c.turns.invariant.of.stands c.turns.invariant.of.specificities in
    let performs = c.in_ok-after.ensures.performs c.in-Some-next.next.now (sym found ∙ ap option_copied c.in-Some-next.is) in
    (performed_put performs).1.whole

pub show-requires-clause-faults : goal.show-requires-clause-faults
show-requires-clause-faults g c =
    let found = c.next.ensures.dominant c.turns.live.program.rules no_names no_input c.turns.invariant.of.stands c.turns.invariant.of.specificities in
    let performs = c.in_ok-after.ensures.performs c.in-Some-next.next.now (sym found ∙ ap option_copied c.in-Some-next.is) in
    let same = (performed_put performs).1.faults in
    rw (same, c.turns.invariant.faults) c.requires.faults

pub returns-in_err-show-clause-performs : goal.returns-in_err-show-clause-performs
returns-in_err-show-clause-performs g c =
    let goes = λ (z : Coming). sym (rw c.as_slice.ensures at (c.pause_of.ensures c.turns.names)) ∙ ap (option_map (pause_line c.turns.names)) c.in_default.is in
    let some : 0 < c.turns.left = omega (arith, c.if-left-eq0.false) in
    let found = c.next.ensures.dominant c.turns.live.program.rules no_names no_input c.turns.invariant.of.stands c.turns.invariant.of.specificities in
    let performs = c.in_ok-after.ensures.performs c.in-Some-next.next.now (sym found ∙ ap option_copied c.in-Some-next.is) in
    let shown = shown_refused _ _ c.in_err-show.ensures.shows in
    let p = err_from_is_err_and c.from_residual-in_err-show.result c.from_residual-in_err-show.ensures.1 in
    let here = turn_here c.args.live.now.program c.turns.live.program c.args.live.now.program.commands c.turns.invariant.program c.args.undoable.session.watch c.turns.undoable.session.watch c.turns.invariant.watch c.turns.out.column c.in-Some-next.next.now
    (λ z. ready_with g.B.M.Matcher.stored c.turns.live.program.rules c.turns.undoable c.turns.names z) (λ z. refl) in
    rw (p.1, p.2)
    (ends_firing c.turns.left (setting_of c.args.live.now.program c.args.undoable.session.watch) (meant_last c.turns.last) c.turns.count (λ z. ready_with g.B.M.Matcher.stored c.turns.live.program.rules c.turns.undoable c.turns.names z)
    c.turns.invariant.out
    (option_copied c.next.result) goes
    (λ z. c.next.ensures.dominant c.turns.live.program.rules c.turns.names z c.turns.invariant.of.stands c.turns.invariant.of.specificities)
    c.in-Some-next.next.now some (ap option_copied c.in-Some-next.is) ending.WriteFault
    (performs_same _ of_ending _ _ _ _ _ _ _ here (performs_refused performs of_ending ending.WriteFault refl shown)))

pub returns-in_err-show-clause-reads : goal.returns-in_err-show-clause-reads
returns-in_err-show-clause-reads g c =
    let p = err_from_is_err_and c.from_residual-in_err-show.result c.from_residual-in_err-show.ensures.1 in
    rw (p.1, p.2) (c.in_ok-after.ensures.reads ∙ c.turns.invariant.out.steady)

pub returns-in_err-show-clause-names : goal.returns-in_err-show-clause-names
returns-in_err-show-clause-names g c =
    names_then c.args.names.now c.turns.names c.fire_turn.new.names c.turns.invariant.names c.in_ok-after.ensures.names

pub turns-preserved : goal.turns-preserved
turns-preserved g c =
    let goes = λ (z : Coming). sym (rw c.as_slice.ensures at (c.pause_of.ensures c.turns.names)) ∙ ap (option_map (pause_line c.turns.names)) c.in_default.is in
    let some : 0 < c.turns.left = omega (arith, c.if-left-eq0.false) in
    let found = c.next.ensures.dominant c.turns.live.program.rules no_names no_input c.turns.invariant.of.stands c.turns.invariant.of.specificities in
    let performs = c.in_ok-after.ensures.performs c.in-Some-next.next.now (sym found ∙ ap option_copied c.in-Some-next.is) in
    let whole = (performed_put performs).1.whole in
    let shown = shown_put g.K.Sink.taken g.K.Sink.faults _ _ _ _ whole c.in_ok-show.ensures.shows in
    let here = turn_here c.args.live.now.program c.turns.live.program c.args.live.now.program.commands c.turns.invariant.program c.args.undoable.session.watch c.turns.undoable.session.watch c.turns.invariant.watch c.turns.out.column c.in-Some-next.next.now
    (λ z. ready_with g.B.M.Matcher.stored c.turns.live.program.rules c.turns.undoable c.turns.names z) (λ z. refl) in
    let out = one_firing c.turns.left (setting_of c.args.live.now.program c.args.undoable.session.watch) (meant_last c.turns.last) c.turns.count (λ z. ready_with g.B.M.Matcher.stored c.turns.live.program.rules c.turns.undoable c.turns.names z)
    c.turns.invariant.out
    (option_copied c.next.result) goes
    (λ z. c.next.ensures.dominant c.turns.live.program.rules c.turns.names z c.turns.invariant.of.stands c.turns.invariant.of.specificities)
    c.in-Some-next.next.now some (ap option_copied c.in-Some-next.is)
    (record { 0 = c.in_ok-after.after; 1 = c.in_ok-after.fired }) c.one_less-count.result c.one_less-count.ensures c.in_ok-after.ensures.reads
    (performs_same _ of_ending _ _ _ _ _ _ _ here (performs_still performs shown)) in
    let put = pending_put _ _ _ _ _ _ out in
    let done = c.in_ok-after.ensures in
    let program = c.turns.invariant.program in
    record {
      out = out;
      whole = put.1.whole;
      faults = put.1.faults;
      untouched = λ none built. both_then (c.turns.invariant.untouched none built) (done.untouched (c.turns.invariant.quiet none built));
      names = names_then c.args.names.now c.turns.names c.fire_turn.new.names c.turns.invariant.names done.names;
      of = done.of;
      none = done.none;
      current = done.current;
      watch = done.watch ∙ c.turns.invariant.watch;
      trail = done.trail;
      named = λ least h. done.named least (c.turns.invariant.named least h);
      program = with_then c.args.live.now.program c.turns.live.program c.args.live.now.program.commands program c.fire_turn.new.live.program done.program;
      quiet = λ none built. done.quiet (c.turns.invariant.quiet none built) (ap program_asks program.templates ∙ built);
    }

pub turns-init : goal.turns-init
turns-init g c = record {
  out = (
      let left : c.saturating_sub-left.result ≡ c.args.context.now.limit - c.args.undoable.session.state.firings = omega arith in
      rw left (pending_on_start _ _ _ c.requires.whole)
      );
  whole = c.requires.whole;
  faults = refl;
  untouched = λ _ _. (refl, refl);
  names = λ i s h. h;
  of = c.requires.of;
  none = c.requires.none;
  current = c.requires.current;
  watch = refl;
  trail = c.requires.trail;
  named = λ least h. h;
  program = record { rules_are = refl; commands_are = refl; classes = refl; templates = refl; text = refl };
  quiet = λ none built. none;
}

pub returns-in_err-after-clause-names : goal.returns-in_err-after-clause-names
returns-in_err-after-clause-names g c =
    names_then c.args.names.now c.turns.names c.fire_turn.new.names c.turns.invariant.names c.in_err-after.ensures.names

pub returns-in_err-after-clause-untouched : goal.returns-in_err-after-clause-untouched
returns-in_err-after-clause-untouched g c = λ none built. both_then (c.turns.invariant.untouched none built) (c.in_err-after.ensures.untouched (c.turns.invariant.quiet none built))

pub returns-in_err-show-clause-untouched : goal.returns-in_err-show-clause-untouched
returns-in_err-show-clause-untouched g c = λ none built. both_then (c.turns.invariant.untouched none built) (c.in_ok-after.ensures.untouched (c.turns.invariant.quiet none built))

pub fire_turn-requires-clause-named : goal.fire_turn-requires-clause-named
fire_turn-requires-clause-named g c = c.turns.invariant.named 1 c.requires.named
