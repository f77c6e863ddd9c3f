use Rattle.ops_base.specs.Matching.{match_of}
use Rattle.std.specs.Prelude.{[], is_some}
use Rattle.run_laws.specs.Patterns.{condition_with}
use Rattle.run_laws.proofs.Shown.{pattern_met, pattern_listed, rising_kept}
use Rattle.run_laws.proofs.laws.patterns_match_as_conditions.Goals as goal

pub returns-clause-meets : goal.returns-clause-meets
returns-clause-meets c = pattern_met

pub returns-clause-listed : goal.returns-clause-listed
returns-clause-listed c = pattern_listed

pub returns-clause-order : goal.returns-clause-order
returns-clause-order c = λ class puts wm h. rising_kept (λ e. is_some (match_of (condition_with class puts) e [])) wm h
