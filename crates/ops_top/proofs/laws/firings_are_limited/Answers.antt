use Rattle.ops_meaning.proofs.Limits.{session_limited, run_is_counted}
use Rattle.ops_top.proofs.laws.firings_are_limited.Goals as goal

pub returns-clause-session : goal.returns-clause-session
returns-clause-session c = session_limited

pub returns-clause-run : goal.returns-clause-run
returns-clause-run c = run_is_counted
