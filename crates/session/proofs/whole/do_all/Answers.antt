use Rattle.std.proofs.Common.{sym}
use Rattle.std.proofs.lemmas.Result.{err_from_is_err_and}
use Rattle.session.specs.Trailing.{meant_with}
use Rattle.session.proofs.Comings.{performed_put}
use Rattle.session.proofs.Explained.{explained_fails, left_alone, explained_after}
use Rattle.session.proofs.whole.do_all.Goals as goal

pub returns-in_err-undoable-clause-performs : goal.returns-in_err-undoable-clause-performs
returns-in_err-undoable-clause-performs g c =
    let p = err_from_is_err_and c.from_residual.result c.from_residual.ensures.1 in
    rw (p.1, p.2)
    (explained_fails (λ u z. meant_with g.B.M.Matcher.stored c.do_commands.new.live.program.rules u c.do_commands.new.names z) c.args.live.now.program.classes _
    (λ u z. meant_with g.B.M.Matcher.stored c.do_commands.new.live.program.rules u c.do_commands.new.names z) c.args.context.now.is_explained c.in_err-undoable.field-0.0 c.in_err-undoable.ensures.performs)

pub returns-then-not-is_explained-clause-performs : goal.returns-then-not-is_explained-clause-performs
returns-then-not-is_explained-clause-performs g c =
    left_alone (λ u z. meant_with g.B.M.Matcher.stored c.do_commands.new.live.program.rules u c.do_commands.new.names z) c.args.live.now.program.classes _
    c.args.context.now.is_explained _ c.if-not-is_explained.true c.in_ok-undoable.ensures.performs

pub returns-clause-performs : goal.returns-clause-performs
returns-clause-performs g c =
    explained_after (λ u z. meant_with g.B.M.Matcher.stored c.do_commands.new.live.program.rules u c.do_commands.new.names z) c.args.live.now.program.classes _
    c.args.context.now.is_explained c.in_ok-undoable.undoable c.put_explanations.result _ c.if-not-is_explained.false c.requires.column c.in_ok-undoable.ensures.reads c.in_ok-undoable.ensures.performs
    (rw (sym c.in_ok-undoable.ensures.classes) c.put_explanations.ensures.performs)

pub put_explanations-requires-clause-whole : goal.put_explanations-requires-clause-whole
put_explanations-requires-clause-whole g c = (performed_put c.in_ok-undoable.ensures.performs).1.whole

pub put_explanations-requires-clause-faults : goal.put_explanations-requires-clause-faults
put_explanations-requires-clause-faults g c = rw (performed_put c.in_ok-undoable.ensures.performs).1.faults c.requires.faults
