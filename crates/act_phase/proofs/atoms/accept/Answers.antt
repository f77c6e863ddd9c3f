use Rattle.std.proofs.Common.{refl}
use Rattle.ops_io.specs.declared.stop.Stop.TheVariants as stop
use Rattle.act_phase.specs.declared.outcome.ActionError.TheVariants as mishap
use Rattle.act_phase.proofs.Deeds.{still_all, still_flushed, still_last, still_refused}
use Rattle.act_phase.proofs.AtomLemmas.{accept_ok}
use Rattle.act_phase.proofs.atoms.accept.Goals as goal

pub returns-in_err-flush-clause-does : goal.returns-in_err-flush-clause-does
returns-in_err-flush-clause-does g c = still_refused stop.Write _ mishap.Write _ c.from_residual.ensures.1 refl refl (still_all _ _ c.requires.whole) (λ d. c.in_err-flush.ensures.flushes)

pub returns-in-Ok-clause-does : goal.returns-in-Ok-clause-does
returns-in-Ok-clause-does g c =
    let flushed = still_flushed _ _ _ c.requires.whole c.in_ok-flush.ensures.flushes in
    still_last flushed (accept_ok c.in-Ok.value _ _ _ _ _ c.in-Ok.ensures.accepts flushed.goes_on.whole)
