use Rattle.std.proofs.Common.{◌≡◌, ◌++◌, drop, All}
use Rattle.std.specs.Prelude.{map}
use Rattle.program_slips.specs.Lone.{moved}
use Rattle.program_slips.specs.Walks.{LiesWithin}
use Rattle.program_slips.proofs.lone_words.add_moved.Given as goal

abbrev pub invariant-loop-each : goal.invariant-loop-each
invariant-loop-each l = record {
  found : l.initial.found.items ++ map (moved l.by) l.named ≡ l.found.items ++ map (moved l.by) (drop l.each-index l.named);
  within : All (LiesWithin l.text) l.initial.found.items → All (LiesWithin l.text) l.found.items;
}
