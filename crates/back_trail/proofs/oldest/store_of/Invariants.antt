use Rattle.std.proofs.Common.{◌≡◌, ◌++◌, map}
use Rattle.ops_base.specs.Feeding.{Rises}
use Rattle.ops_base.specs.WorkingMemory.{last_after}
use Rattle.ops_base.specs.declared.elements.Change.TheVariants.{Add}
use Rattle.back_trail.proofs.oldest.store_of.Given as goal

abbrev pub invariant-loop-element : goal.invariant-loop-element
invariant-loop-element l = record {
  items : l.store.elements ++ l.element-iterator ≡ l.from.elements;
  rises : Rises l.store.last l.element-iterator;
  last : last_after l.store.last (map Add l.element-iterator) ≡ last_after 0 (map Add l.from.elements);
}
