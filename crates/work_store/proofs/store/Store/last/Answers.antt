use Rattle.std.proofs.Common.{subst}
use Rattle.std.specs.Vec.{vec_capacity}
use Rattle.work_store.specs.Stored.{IsStored}
use Rattle.work_store.proofs.Slots.{stored_well}
use Rattle.work_store.proofs.store.Store.last.Goals as goal

pub returns-clause-stored : goal.returns-clause-stored
returns-clause-stored c =
    let fields = c.self.inside in
    subst IsStored c.self.view_is (stored_well fields.slots fields.gone.items (vec_capacity fields.gone) fields.last c.self.invariant)
