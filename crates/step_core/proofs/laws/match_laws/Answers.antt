-- Each law is proved in `LawProofs`, in `Adding` or in `Terminals`.
use Rattle.step_core.proofs.Adding.{entry_law}
use Rattle.step_core.proofs.LawProofs.{start_law, counter_law, balance_law, zero_law, inst_law, task_law, phase_law, settle_law, bundle_law}
use Rattle.step_core.proofs.Terminals.{once_law, terminal_law}
use Rattle.step_core.proofs.laws.match_laws.Goals as goal

pub returns-clause-start : goal.returns-clause-start
returns-clause-start c = start_law

pub returns-clause-counter : goal.returns-clause-counter
returns-clause-counter c = counter_law

pub returns-clause-balance : goal.returns-clause-balance
returns-clause-balance c = balance_law

pub returns-clause-zero : goal.returns-clause-zero
returns-clause-zero c = zero_law

pub returns-clause-once : goal.returns-clause-once
returns-clause-once c = once_law

pub returns-clause-terminals : goal.returns-clause-terminals
returns-clause-terminals c = terminal_law

pub returns-clause-insts : goal.returns-clause-insts
returns-clause-insts c = inst_law

pub returns-clause-tasks : goal.returns-clause-tasks
returns-clause-tasks c = task_law

pub returns-clause-entry : goal.returns-clause-entry
returns-clause-entry c = entry_law

pub returns-clause-phase : goal.returns-clause-phase
returns-clause-phase c = phase_law

pub returns-clause-settle : goal.returns-clause-settle
returns-clause-settle c = settle_law

pub returns-clause-bundle : goal.returns-clause-bundle
returns-clause-bundle c = bundle_law
