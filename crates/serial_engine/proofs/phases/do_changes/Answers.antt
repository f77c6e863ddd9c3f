-- The store holds what the phase looks up.
use Rattle.std.proofs.Common.{subst}
use Rattle.work_store.specs.Stored.{HoldsAlso, Stored, added_by}
use Rattle.serial_engine.proofs.phases.do_changes.Goals as goal

pub returns-clause-kept : goal.returns-clause-kept
returns-clause-kept c = subst (λ (f : Stored). HoldsAlso f c.make_changes.new.self (added_by c.args.changes.now)) c.forget.ensures c.in_ok-make_changes.ensures.kept

pub returns-clause-phase : goal.returns-clause-phase
returns-clause-phase c =
    c.settle_laws.ensures.store c.args.store.now c.make_changes.new.self c.args.changes.now c.last-before.ensures.stored c.requires
    (subst (λ (f : Stored). HoldsAlso f c.make_changes.new.self (added_by c.args.changes.now)) c.forget.ensures c.in_ok-make_changes.ensures.kept)

pub returns-clause-rising : goal.returns-clause-rising
returns-clause-rising c = (c.last-before.ensures.stored.rising, c.last-after.ensures.stored.rising)
