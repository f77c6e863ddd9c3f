-- More changes of a right side come of those that it has made.
use Rattle.std.proofs.Common.{[], ◌++◌, refl, sym, ap, ◌∙◌, append_assoc}
use Rattle.std.proofs.lemmas.List.{append-nil}
use Rattle.act_phase.specs.Changed.{Changed, GoesOnTo}

-- nothing is changed
pub stays_as : (w : Changed) → GoesOnTo w w
stays_as w = record { start = refl; more = []; changes = sym (append-nil w.changes) }

pub goes_on_then : (u v w : Changed) → GoesOnTo u v → GoesOnTo v w → GoesOnTo u w
goes_on_then u v w p q = record {
  start = q.start ∙ p.start;
  more = p.more ++ q.more;
  changes = q.changes ∙ ap (λ cs. cs ++ q.more) p.changes ∙ append_assoc u.changes p.more q.more;
}
