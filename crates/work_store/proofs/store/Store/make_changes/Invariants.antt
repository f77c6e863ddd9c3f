use Rattle.std.proofs.Common.{take, drop}
use Rattle.ops_base.specs.WorkingMemory.{Lawful}
use Rattle.work_store.specs.Stored.{AreDone}
use Rattle.work_store.proofs.store.Store.make_changes.Given as goal

abbrev pub invariant-loop-change : goal.invariant-loop-change
invariant-loop-change l = record {
  before : AreDone (take l.change-index l.changes) l.fn.self l.self;
  rest : Lawful l.self.elements l.self.last (drop l.change-index l.changes);
}
