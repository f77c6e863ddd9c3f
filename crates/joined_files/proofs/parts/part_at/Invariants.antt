use Rattle.std.proofs.Common.{◌≡◌, ◌≤◌, drop}
use Rattle.joined_files.specs.Parts.{part_at, part_by}
use Rattle.joined_files.proofs.parts.part_at.Given as goal

abbrev pub invariant-loop-part : goal.invariant-loop-part
invariant-loop-part l = record {
  goes : part_at l.parts l.at ≡ part_by l.found (drop l.part-index l.parts) l.at;
  before : l.found.first ≤ l.at;
}
