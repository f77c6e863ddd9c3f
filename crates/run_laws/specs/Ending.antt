-- How a session may end.
use Rattle.std.specs.Prelude.{◌≡◌, ◌≢◌, Bool, true}
use Rattle.ops_base.specs.declared.endings.Ending.{Ending}
use Rattle.ops_base.specs.declared.endings.Ending.TheVariants as ending

-- The ending is neither a refused write nor out of memory. It is a read fault only if the input fails.
pub record IsOfSession (fails : Bool) (e : Ending) : Type 0 where
  pub writes : e ≢ ending.WriteFault
  pub memory : e ≢ ending.OutOfMemory
  pub reads : e ≡ ending.ReadFault → fails ≡ true
