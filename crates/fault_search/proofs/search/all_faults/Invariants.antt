use Rattle.std.proofs.Common.{◌≡◌, ◌++◌, ◌-◌, ◌≤◌, length}
use Rattle.std.specs.Prelude.{All}
use Rattle.fault_search.specs.Search.{faults_of}
use Rattle.fault_search.proofs.search.all_faults.Given as goal

abbrev pub invariant-faults : goal.invariant-faults
invariant-faults l = record {
  faults : faults_of l.most l.text ≡ l.found.items ++ faults_of (l.most - length l.found.items) l.left.items;
  within : All (λ f. f.at ≤ length l.text) l.found.items;
  size : length l.left.items ≡ length l.text;
  few : length l.found.items ≤ l.most;
}

abbrev pub decreases-faults : goal.decreases-faults
decreases-faults l = l.most - length l.found.items
