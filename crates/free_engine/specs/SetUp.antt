-- The cells of a phase, as a fact that has at most one proof.
use Rattle.std.specs.Prelude.{ℕ, List}
use Rattle.std.specs.Coded.{codes}
use Rattle.std.proofs.Props.{props}
use Rattle.work_store.specs.Stored.{Stored}
use Rattle.net_base.specs.declared.net.Net.{Net}
use Rattle.net_base.specs.declared.tasks.Task.{Task}
use Rattle.net_base.specs.contracts.net.Net as nets
use Rattle.work_store.specs.contracts.store.Store as stores
use Rattle.free_engine.specs.declared.slots.Slot.{Slot}
use Rattle.free_engine.specs.declared.slots.Slot.TheVariants.{Pool as InPool, Line as InLine}
use Rattle.free_engine.specs.Turns.{HasPool, HasRow, IsSetUp}

pool_prop : (net : Net) (s : Stored) (workers : ℕ) (first : List Task) (x : Slot) → IsProp (HasPool net s workers first x)
pool_prop net s workers first (InPool q) = hlevel (props, codes, nets.the_row.coded, stores.the_row.coded)
pool_prop net s workers first (InLine l) = hlevel props

row_prop : (net : Net) (s : Stored) (lines i : ℕ) (x : Slot) → IsProp (HasRow net s lines i x)
row_prop net s lines i (InPool q) = hlevel (props, codes, nets.the_row.coded, stores.the_row.coded)
row_prop net s lines i (InLine l) = hlevel (props, codes, nets.the_row.coded, stores.the_row.coded)

pub set_up_prop : (net : Net) (s : Stored) (lines workers : ℕ) (first : List Task) (values : List Slot) → IsProp (IsSetUp net s lines workers first values)
set_up_prop net s lines workers first values = let p = pool_prop net s workers first in let r = row_prop net s lines in hlevel (props, p, r)
