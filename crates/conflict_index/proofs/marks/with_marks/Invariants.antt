use Rattle.std.proofs.Common.{◌≡◌, ◌+◌, ◌-◌, ◌≤◌, drop, length, take}
use Rattle.std.specs.Prelude.{Contains}
use Rattle.std.specs.HashMap.{spare}
use Rattle.ops_base.specs.declared.rules.Inst.{Inst}
use Rattle.ops_base.specs.Refraction.{is_among}
use Rattle.conflict_index.specs.Keeping.{all_members, HasSame, IsKept}
use Rattle.conflict_index.specs.Marks.{members_with}
use Rattle.conflict_index.proofs.marks.with_marks.Given as goal

abbrev pub invariant-loop-inst : goal.invariant-loop-inst
invariant-loop-inst l = record {
  kept : IsKept l.strategy l.waiting.entries l.fired.entries (length l.waiting.entries);
  members : HasSame (members_with l.program.rules l.marks (take l.inst-index l.come)) (all_members l.waiting.entries l.fired.entries);
  room : length l.waiting.entries + (length l.come - l.inst-index) ≤ spare l.fired;
  marks : (i : Inst) → Contains (drop l.inst-index l.come) i → is_among (drop l.at l.marks) i ≡ is_among l.marks i;
}
