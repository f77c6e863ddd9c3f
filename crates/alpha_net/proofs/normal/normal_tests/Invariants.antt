use Rattle.std.proofs.Common.{◌≡◌, ◌++◌, length, take, drop}
use Rattle.net_base.specs.Normal.{normal_tests, binders_after}
use Rattle.alpha_net.proofs.normal.normal_tests.Given as goal

abbrev pub invariant-loop-test : goal.invariant-loop-test
invariant-loop-test l = record {
  tests : l.found.items ++ normal_tests l.place (drop l.test-index l.tests) l.binders.items ≡ normal_tests l.place l.tests l.initial.binders.items;
  binders : binders_after l.place (drop l.test-index l.tests) l.binders.items ≡ binders_after l.place l.tests l.initial.binders.items;
  first : take (length l.initial.binders.items) l.binders.items ≡ l.initial.binders.items;
}
