use Rattle.std.proofs.Common.{◌-◌, None, sym}
use Rattle.run_laws.proofs.Undoings.{built_empties, few_kept, firings_undone, kept_alone, plain_alone, run_fires, session_keeps}
use Rattle.run_laws.proofs.Backing.{back_twice, trail_ended}
use Rattle.run_laws.proofs.Untrailed.{commands_untrailed}
use Rattle.run_laws.proofs.laws.back_undoes_firings.Goals as goal

pub returns-clause-undone : goal.returns-clause-undone
returns-clause-undone c = firings_undone

pub returns-clause-runs : goal.returns-clause-runs
returns-clause-runs c = λ s limit column count k. run_fires (limit - k.course.firings) (record s { watch = k.watch }) column None count k

pub returns-clause-built : goal.returns-clause-built
returns-clause-built c = built_empties

pub returns-clause-alone : goal.returns-clause-alone
returns-clause-alone c = kept_alone

pub returns-clause-plain : goal.returns-clause-plain
returns-clause-plain c = plain_alone

pub returns-clause-few : goal.returns-clause-few
returns-clause-few c = few_kept

pub returns-clause-twice : goal.returns-clause-twice
returns-clause-twice c = back_twice

pub returns-clause-emptied : goal.returns-clause-emptied
returns-clause-emptied c = trail_ended

pub returns-clause-kept : goal.returns-clause-kept
returns-clause-kept c = session_keeps

pub returns-clause-unseen : goal.returns-clause-unseen
returns-clause-unseen c = λ s limit column commands k none. sym (commands_untrailed s limit column commands k none)
