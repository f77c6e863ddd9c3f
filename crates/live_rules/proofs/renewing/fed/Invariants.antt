use Rattle.std.proofs.Common.{◌≡◌, ◌++◌, map}
use Rattle.ops_base.specs.WorkingMemory.{last_after}
use Rattle.ops_base.specs.declared.elements.Change.TheVariants.{Add}
use Rattle.live_rules.proofs.renewing.fed.Given as goal

abbrev pub invariant-loop-element : goal.invariant-loop-element
invariant-loop-element l = record {
  items : l.changes.items ++ map Add l.element-iterator ≡ map Add l.store.elements;
  given : last_after l.given (map Add l.element-iterator) ≡ last_after 0 (map Add l.store.elements);
}
