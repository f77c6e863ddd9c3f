use Rattle.std.proofs.Common.{◌≡◌, drop, []}
use Rattle.ops_meaning.specs.Acting.{bindings_of}
use Rattle.act_phase.proofs.bindings.bindings_of.Given as goal

abbrev pub invariant-loop-part : goal.invariant-loop-part
invariant-loop-part l =
    bindings_of l.store.elements (drop l.part-index l.parts) l.rest l.bindings.items ≡ bindings_of l.store.elements l.parts l.tags []
