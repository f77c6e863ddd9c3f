use Rattle.std.proofs.Common.{[], ◌∷◌, sym, subst}
use Rattle.ops_base.specs.declared.elements.Change.{Change}
use Rattle.work_store.specs.Stored.{AreDone}
use Rattle.work_store.proofs.Doing.{found_to_remove}
use Rattle.work_store.proofs.Holding.{removed_held}
use Rattle.work_store.proofs.changing.make_change.Goals as goal

pub returns-in-Remove-clause-ok : goal.returns-in-Remove-clause-ok
returns-in-Remove-clause-ok c =
    let P : Change → Type 0 = λ change. AreDone (change ∷ []) c.args.store.now c.remove.new.self in
    subst P (sym c.in-Remove.is) (record {
      elements = c.remove.ensures.elements;
      last = c.remove.ensures.last;
      kept = removed_held c.args.store.now c.remove.new.self c.in-Remove.tag (found_to_remove _ _ _ _ c.in-Remove.is c.requires) c.remove.ensures.elements c.remove.ensures.kept;
    })
