use Rattle.std.proofs.Common.{◌≡◌, ◌++◌, map}
use Rattle.ops_base.specs.declared.elements.Change.TheVariants.{Remove}
use Rattle.ops_base.specs.WorkingMemory.{tags_of}
use Rattle.session.proofs.memory_commands.all_removals.Given as goal

abbrev pub invariant-loop-element : goal.invariant-loop-element
invariant-loop-element l = l.changes ++ map Remove (tags_of l.element-iterator) ≡ map Remove (tags_of l.store.elements)
