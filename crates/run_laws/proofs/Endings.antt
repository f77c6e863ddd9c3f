-- No session ends with a refused write or out of memory. It ends with a read fault only if its input fails.
use Rattle.std.proofs.Common.{ℕ, Bool, List, Result, Ok, Err, MatchResult}
use Rattle.ops_base.specs.declared.commands.Command.{Command}
use Rattle.ops_base.specs.declared.endings.Ending.{Ending}
use Rattle.ops_base.specs.declared.endings.Ending.TheVariants as ending
use Rattle.ops_base.specs.Names.{Spellings}
use Rattle.ops_io.specs.Coming.{Coming}
use Rattle.ops_meaning.specs.Acting.{Setting}
use Rattle.ops_meaning.specs.Running.{Session, session_of, ending_of}
use Rattle.ops_meaning.proofs.RisingTags.{KeptSession, EndsSession, session_goes_on}
use Rattle.run_laws.specs.Ending.{IsOfSession}

ends_so : (fails : Bool) (e : Ending) → EndsSession fails e → IsOfSession fails e
ends_so fails (ending.Done f n t) p = record { writes = λ e. cc; memory = λ e. cc; reads = λ e. absurd (cc) }
ends_so fails (ending.Act f r name n k) p = record { writes = λ e. cc; memory = λ e. cc; reads = λ e. absurd (cc) }
ends_so fails (ending.Limit f) p = record { writes = λ e. cc; memory = λ e. cc; reads = λ e. absurd (cc) }
ends_so fails ending.ReadFault p = record { writes = λ e. cc; memory = λ e. cc; reads = λ _. p }
ends_so fails ending.WriteFault p = absurd p
ends_so fails ending.OutOfMemory p = absurd p

ended_so : (kept : Session → Type 0) (fails : Bool) (o : Result Session Ending) → MatchResult o kept (EndsSession fails) → IsOfSession fails (ending_of o)
ended_so kept fails (Ok k) p = ends_so fails (ending.Done _ _ _) tt
ended_so kept fails (Err e) p = ends_so fails e p

pub only_input_fails : (s : Setting) (limit : ℕ) (commands : List Command) (names : Spellings) (coming : Coming) → IsOfSession coming.fails (ending_of (session_of s limit commands names coming).outcome)
only_input_fails s limit commands names coming =
    ended_so (KeptSession names coming.fails) coming.fails (session_of s limit commands names coming).outcome (session_goes_on s limit commands names coming)
