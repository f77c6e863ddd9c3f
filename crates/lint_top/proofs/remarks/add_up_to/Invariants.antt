use Rattle.std.proofs.Common.{◌≡◌, ◌++◌, ◌-◌, ◌≤◌, drop, length}
use Rattle.lint_top.specs.Remarks.{up_to, beyond}
use Rattle.lint_top.proofs.remarks.add_up_to.Given as goal

abbrev pub invariant-next : goal.invariant-next
invariant-next l = record {
  added : l.initial.remarks.items ++ up_to l.at (drop l.fn.from l.list) ≡ l.remarks.items ++ up_to l.at (drop l.next l.list);
  rest : beyond l.at (drop l.fn.from l.list) ≡ beyond l.at (drop l.next l.list);
  within : l.next ≤ length l.list;
}

abbrev pub decreases-next : goal.decreases-next
decreases-next l = length l.list - l.next
