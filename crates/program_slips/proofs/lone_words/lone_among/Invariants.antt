use Rattle.std.proofs.Common.{◌≡◌, ◌++◌, drop, All}
use Rattle.std.specs.Prelude.{flat_map}
use Rattle.ops_base.specs.Names.{spellings}
use Rattle.program_slips.specs.Lone.{lone_of}
use Rattle.program_slips.specs.Walks.{LiesWithin}
use Rattle.program_slips.proofs.lone_words.lone_among.Given as goal

abbrev pub invariant-loop-each : goal.invariant-loop-each
invariant-loop-each l = record {
  lone : flat_map (lone_of l.text (spellings l.again.keys)) l.named ≡ l.lone.items ++ flat_map (lone_of l.text (spellings l.again.keys)) (drop l.each-index l.named);
  within : All (LiesWithin l.text) l.lone.items;
}
