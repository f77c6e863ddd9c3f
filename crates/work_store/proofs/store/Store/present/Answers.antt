use Rattle.std.proofs.Common.{subst}
use Rattle.ops_base.specs.WorkingMemory.{HasRisingTags}
use Rattle.work_store.specs.Stored.{Stored}
use Rattle.work_store.proofs.Slots.{stored_well}
use Rattle.work_store.proofs.store.Store.present.Goals as goal

pub returns-in_err-collect-clause-rising : goal.returns-in_err-collect-clause-rising
returns-in_err-collect-clause-rising c =
    let P : Stored → Type 0 = λ s. HasRisingTags s.elements in
    subst P c.self.view_is (stored_well _ _ _ _ c.self.invariant).rising

pub returns-clause-rising : goal.returns-clause-rising
returns-clause-rising c =
    let P : Stored → Type 0 = λ s. HasRisingTags s.elements in
    subst P c.self.view_is (stored_well _ _ _ _ c.self.invariant).rising
