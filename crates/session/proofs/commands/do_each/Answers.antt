use Rattle.std.proofs.Common.{◌≡◌, ◌∙◌, ap, sym, subst, refl, [], ◌∷◌, length, false, List, IsTrue, arith}
use Rattle.std.specs.List.{list_all}
use Rattle.std.specs.Vec.Iter.{into_iter_items}
use Rattle.std.proofs.lemmas.List.{nil_from_length}
use Rattle.std.proofs.lemmas.Result.{err_from_is_err_and}
use Rattle.ops_base.specs.declared.commands.Command.{Command}
use Rattle.ops_base.specs.declared.endings.Ending.TheVariants as ending
use Rattle.ops_base.specs.Valid.{command_builds_from, command_is_valid}
use Rattle.ops_io.specs.Coming.{Coming}
use Rattle.ops_io.specs.Output.{OutState}
use Rattle.ops_io.proofs.PortLemmas.{flushed_put}
use Rattle.ops_meaning.specs.Effects.{of_ending}
use Rattle.ops_meaning.specs.Running.{Session as Meant}
use Rattle.act_phase.specs.Asking.{program_asks, session_asks}
use Rattle.act_phase.specs.Outcomes.{setting_of}
use Rattle.act_phase.proofs.Asking.{both_then}
use Rattle.session.specs.Trailing.{meant_with}
use Rattle.session.proofs.Asks.{quiet_on, quiet_with, rest_builds, rest_valid, setting_is, with_then}
use Rattle.session.proofs.Comings.{pending_put, performed_put}
use Rattle.session.proofs.Flushes.{performs_still, performs_refused}
use Rattle.session.proofs.Sequence.{exits, none_left, commands_begin, commands_end, one_command, last_command}
use Rattle.session.proofs.commands.do_each.Goals as goal

pub loop-command-init : goal.loop-command-init
loop-command-init g c =
    let gives = c.into_iter-command-iterator.ensures.into_iter_gives in
    let p = c.args.live.now.program in
    let V : List Command → Type 0 = λ cs. IsTrue (list_all (command_is_valid p.classes (length p.text)) cs) in
    let B : List Command → Type 0 = λ cs. IsTrue (list_all (command_builds_from (length p.templates)) cs) in
    record {
      out = commands_begin (setting_of p 0) c.args.context.now.limit c.args.commands.items (into_iter_items c.into_iter-command-iterator.result) (λ z. meant_with g.B.M.Matcher.stored p.rules c.args.undoable c.args.names.now z) _ _ c.requires.whole gives.0;
      whole = c.requires.whole;
      faults = refl;
      untouched = λ _. (refl, refl);
      quiet = λ h. ap (session_asks p.rules p.templates) gives.0 ∙ h;
      undoable = c.requires.undoable;
      named = λ least some h. h;
      names = λ first some keeps h. keeps;
      program = record { rules_are = refl; commands_are = refl; classes = refl; templates = refl; text = refl };
      valid = subst V (sym gives.0) c.requires.valid;
      builds = subst B (sym gives.0) c.requires.builds;
      number = gives.1 ∙ c.args.commands.ok.0 ∙ sym (ap length gives.0);
      flushed = λ e. e;
    }

pub returns-then-is_exit-clause-performs : goal.returns-then-is_exit-clause-performs
returns-then-is_exit-clause-performs g c =
    let at = c.loop-command in
    let s = setting_of c.args.live.now.program 0 in
    let steps : into_iter_items at.command-iterator ≡ c.in-Some.command ∷ into_iter_items c.next.new.self = c.in-Some.ensures.steps.0 in
    commands_end s c.args.context.now.limit (into_iter_items at.command-iterator) (into_iter_items c.next.new.self) (λ z. meant_with g.B.M.Matcher.stored at.live.program.rules at.undoable at.names z) at.invariant.out at.undoable
    (λ z. exits s c.args.context.now.limit at.out.column (into_iter_items at.command-iterator) (into_iter_items c.next.new.self) c.in-Some.command (meant_with g.B.M.Matcher.stored at.live.program.rules at.undoable at.names z) steps
    (sym c.is_exit.ensures ∙ c.if-is_exit.true)) at.invariant.whole

pub returns-in_err-undoable-clause-performs : goal.returns-in_err-undoable-clause-performs
returns-in_err-undoable-clause-performs g c =
    let at = c.loop-command in
    let steps : into_iter_items at.command-iterator ≡ c.in-Some.command ∷ into_iter_items c.next.new.self = c.in-Some.ensures.steps.0 in
    let come : Coming → Meant = λ z. meant_with g.B.M.Matcher.stored at.live.program.rules at.undoable at.names z in
    let p = err_from_is_err_and c.from_residual.result c.from_residual.ensures.1 in
    rw (p.1, p.2)
    (last_command (setting_of c.args.live.now.program 0) c.args.context.now.limit (into_iter_items at.command-iterator) (into_iter_items c.next.new.self) come at.invariant.out c.in-Some.command steps
    (sym c.is_exit.ensures ∙ c.if-is_exit.false) (setting_of at.live.program 0) (λ z. setting_is c.args.live.now.program at.live.program c.args.live.now.program.commands at.invariant.program (come z) refl) c.in_err-undoable.field-0.0 c.in_err-undoable.ensures.performs)

pub flush-requires-clause-whole : goal.flush-requires-clause-whole
flush-requires-clause-whole g c = (performed_put c.in_ok-undoable.ensures.performs).1.whole

pub flush-requires-clause-faults : goal.flush-requires-clause-faults
flush-requires-clause-faults g c =
    let same = (performed_put c.in_ok-undoable.ensures.performs).1.faults in
    rw (same, c.loop-command.invariant.faults) c.requires.faults

pub loop-command-preserved : goal.loop-command-preserved
loop-command-preserved g c =
    let at = c.loop-command in
    let steps : into_iter_items at.command-iterator ≡ c.in-Some.command ∷ into_iter_items c.next.new.self = c.in-Some.ensures.steps.0 in
    let come : Coming → Meant = λ z. meant_with g.B.M.Matcher.stored at.live.program.rules at.undoable at.names z in
    let whole = (performed_put c.in_ok-undoable.ensures.performs).1.whole in
    let written = c.in_ok-flush.ensures.flushes in
    let out = one_command (setting_of c.args.live.now.program 0) c.args.context.now.limit (into_iter_items at.command-iterator) (into_iter_items c.next.new.self) come at.invariant.out c.in-Some.command steps
    (sym c.is_exit.ensures ∙ c.if-is_exit.false) (setting_of at.live.program 0) (λ z. setting_is c.args.live.now.program at.live.program c.args.live.now.program.commands at.invariant.program (come z) refl)
    c.in_ok-undoable.undoable c.in_ok-undoable.ensures.reads (performs_still c.in_ok-undoable.ensures.performs (flushed_put _ _ whole written)) in
    let put = pending_put _ _ _ _ _ _ out in
    let quiet = λ (h : session_asks c.args.live.now.program.rules c.args.live.now.program.templates c.args.commands.items ≡ false). quiet_on at.live.program.rules at.live.program.templates c.in-Some.command (into_iter_items c.next.new.self) (sym (ap (session_asks at.live.program.rules at.live.program.templates) steps) ∙ at.invariant.quiet h) in
    let done = c.in_ok-undoable.ensures.program in
    let V : List Command → Type 0 = λ cs. IsTrue (list_all (command_is_valid at.live.program.classes (length at.live.program.text)) cs) in
    let B : List Command → Type 0 = λ cs. IsTrue (list_all (command_builds_from (length at.live.program.templates)) cs) in
    record {
      out = out;
      whole = put.1.whole;
      faults = put.1.faults;
      untouched = λ h. both_then (at.invariant.untouched h) (c.in_ok-undoable.ensures.untouched (quiet h).0 (quiet h).1);
      quiet = λ h. quiet_with c.do_command.new.live.program.rules c.do_command.new.live.program.templates (into_iter_items c.next.new.self) (c.in_ok-undoable.ensures.quiet (quiet h).0 (quiet h).1 (quiet h).2)
          (ap program_asks done.templates ∙ (quiet h).1) (quiet h).3;
      undoable = c.in_ok-undoable.ensures.undoable;
      named = λ least some h. c.in_ok-undoable.ensures.named least some (at.invariant.named least some h);
      names = λ first some keeps h. c.in_ok-undoable.ensures.names first (at.invariant.names first some keeps h) (at.invariant.named (length first.held) some h);
      program = with_then c.args.live.now.program at.live.program c.args.live.now.program.commands at.invariant.program c.do_command.new.live.program c.in_ok-undoable.ensures.program;
      valid = rest_valid at.live.program c.do_command.new.live.program at.live.program.commands c.in_ok-undoable.ensures.program c.in-Some.command (into_iter_items c.next.new.self) (subst V steps at.invariant.valid);
      builds = rest_builds at.live.program c.do_command.new.live.program at.live.program.commands c.in_ok-undoable.ensures.program c.in-Some.command (into_iter_items c.next.new.self) (subst B steps at.invariant.builds);
      number = (let was = at.invariant.number in let gone = c.in-Some.ensures.steps.1 in let short = ap length steps in omega arith);
      flushed = λ _. ap (λ (o : OutState). o.held) written.out;
    }

pub returns-in_err-flush-clause-performs : goal.returns-in_err-flush-clause-performs
returns-in_err-flush-clause-performs g c =
    let at = c.loop-command in
    let steps : into_iter_items at.command-iterator ≡ c.in-Some.command ∷ into_iter_items c.next.new.self = c.in-Some.ensures.steps.0 in
    let come : Coming → Meant = λ z. meant_with g.B.M.Matcher.stored at.live.program.rules at.undoable at.names z in
    let p = err_from_is_err_and c.from_residual-in_err-flush.result c.from_residual-in_err-flush.ensures.1 in
    rw (p.1, p.2)
    (last_command (setting_of c.args.live.now.program 0) c.args.context.now.limit (into_iter_items at.command-iterator) (into_iter_items c.next.new.self) come at.invariant.out c.in-Some.command steps
    (sym c.is_exit.ensures ∙ c.if-is_exit.false) (setting_of at.live.program 0) (λ z. setting_is c.args.live.now.program at.live.program c.args.live.now.program.commands at.invariant.program (come z) refl) ending.WriteFault
    (performs_refused c.in_ok-undoable.ensures.performs of_ending ending.WriteFault refl c.in_err-flush.ensures.flushes))

pub returns-clause-performs : goal.returns-clause-performs
returns-clause-performs g c =
    let at = c.loop-command in
    let s = setting_of c.args.live.now.program 0 in
    let none : into_iter_items at.command-iterator ≡ [] = nil_from_length (into_iter_items at.command-iterator) (sym at.invariant.number ∙ c.in-None.ensures.steps.0) in
    commands_end s c.args.context.now.limit (into_iter_items at.command-iterator) [] (λ z. meant_with g.B.M.Matcher.stored at.live.program.rules at.undoable at.names z) at.invariant.out at.undoable
    (λ z. none_left s c.args.context.now.limit at.out.column (into_iter_items at.command-iterator) (meant_with g.B.M.Matcher.stored at.live.program.rules at.undoable at.names z) none) at.invariant.whole

pub do_command-requires-clause-named : goal.do_command-requires-clause-named
do_command-requires-clause-named g c = c.loop-command.invariant.named 1 (omega arith) c.requires.named

pub returns-in_err-undoable-clause-names : goal.returns-in_err-undoable-clause-names
returns-in_err-undoable-clause-names g c = λ first some keeps h.
    let at = c.loop-command in
    c.in_err-undoable.ensures.names first (at.invariant.names first some keeps h) (at.invariant.named (length first.held) some h)

pub returns-in_err-flush-clause-names : goal.returns-in_err-flush-clause-names
returns-in_err-flush-clause-names g c = λ first some keeps h.
    let at = c.loop-command in
    c.in_ok-undoable.ensures.names first (at.invariant.names first some keeps h) (at.invariant.named (length first.held) some h)

pub returns-in_err-flush-clause-untouched : goal.returns-in_err-flush-clause-untouched
returns-in_err-flush-clause-untouched g c = λ h.
    let at = c.loop-command in
    let steps : into_iter_items at.command-iterator ≡ c.in-Some.command ∷ into_iter_items c.next.new.self = c.in-Some.ensures.steps.0 in
    let quiet = quiet_on at.live.program.rules at.live.program.templates c.in-Some.command (into_iter_items c.next.new.self) (sym (ap (session_asks at.live.program.rules at.live.program.templates) steps) ∙ at.invariant.quiet h) in
    both_then (at.invariant.untouched h) (c.in_ok-undoable.ensures.untouched quiet.0 quiet.1)
