use Rattle.std.specs.Prelude.{IsTrue}
use Rattle.run_laws.proofs.Seen.{test_seen, condition_seen, member_seen, action_seen, firing_seen}
use Rattle.run_laws.proofs.laws.nothing_is_passed_over.Goals as goal

pub returns-clause-tests : goal.returns-clause-tests
returns-clause-tests c = test_seen

pub returns-clause-conditions : goal.returns-clause-conditions
returns-clause-conditions c = condition_seen

pub returns-clause-members : goal.returns-clause-members
returns-clause-members c = member_seen

pub returns-clause-actions : goal.returns-clause-actions
returns-clause-actions c = λ test. action_seen (λ a d. IsTrue (test a d))

pub returns-clause-firings : goal.returns-clause-firings
returns-clause-firings c = λ test. firing_seen (λ s column i m. IsTrue (test s column i m))
