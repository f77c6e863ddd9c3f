use Rattle.std.proofs.Common.{ap, inr, arith}
use Rattle.std.proofs.lemmas.Result.{err_from_is_err_and}
use Rattle.ops_io.specs.Coming.{inlet}
use Rattle.ops_io.proofs.ComingLemmas.{took_by_next}
use Rattle.ops_tokens.specs.Taking.{Taken}
use Rattle.ops_tokens.specs.declared.parts.Part.TheVariants as part
use Rattle.ops_tokens.proofs.Accepts.{accepts, space_stopped, space_still, end_accepts}
use Rattle.ops_tokens.proofs.accept.accept_atom.Given.{Over}
use Rattle.ops_tokens.proofs.accept.accept_atom.Goals.{In_ok-next}
use Rattle.ops_tokens.proofs.accept.accept_atom.Goals as goal

-- the white space was taken, and the byte after it was looked at
still : (g : Over) (c : In_ok-next g) → Taken part.Space 0 (inlet c.args.input.now (g.I.Source.left c.args.source.now) (g.I.Source.faults c.args.source.now)) (inlet c.next.new.self (g.I.Source.left c.next.new.source) (g.I.Source.faults c.next.new.source)) c.in_ok-space.ensures.0
still g c =
    space_still _ _ _ _ c.in_ok-space.ensures.1
    (took_by_next _ _ c.in_ok-next.ensures.ahead (λ e. let u = c.in_ok-next.ensures.unread (inr e) in (u.0, ap g.I.Source.faults u.1)))
    c.in_ok-next.ensures.cause

pub returns-in_err-space-clause-accepts : goal.returns-in_err-space-clause-accepts
returns-in_err-space-clause-accepts g c =
    let p = err_from_is_err_and c.from_residual.result c.from_residual.ensures.1 in
    rw (p.1, p.2) (space_stopped _ _ _ _ c.in_err-space.ensures)

pub returns-in-None-clause-accepts : goal.returns-in-None-clause-accepts
returns-in-None-clause-accepts g c =
    let w = c.in_ok-space.ensures in
    let none = rw c.in-None.is at c.in_ok-next.ensures.shown in
    let ended = rw c.in-None.is at c.in_ok-next.ensures.end in
    accepts c.in_ok-space.space _ _ _ _ _ _ w.0 (still g (goal.at.returns-in-None-clause-accepts g c).In_ok-next) w.2
    (end_accepts c.in_ok-space.space _ _ _ _ (omega (arith, w.1.within, w.2)) none ended c.symbol.ensures)

pub returns-in-Some-eq124-clause-accepts : goal.returns-in-Some-eq124-clause-accepts
returns-in-Some-eq124-clause-accepts g c =
    let w = c.in_ok-space.ensures in
    accepts c.in_ok-space.space _ _ _ _ _ _ w.0 (still g (goal.at.returns-in-Some-eq124-clause-accepts g c).In_ok-next) w.2 c.quoted.ensures.accepts

pub returns-in-Some-clause-accepts : goal.returns-in-Some-clause-accepts
returns-in-Some-clause-accepts g c =
    let w = c.in_ok-space.ensures in
    accepts c.in_ok-space.space _ _ _ _ _ _ w.0 (still g (goal.at.returns-in-Some-clause-accepts g c).In_ok-next) w.2 c.run.ensures.accepts
