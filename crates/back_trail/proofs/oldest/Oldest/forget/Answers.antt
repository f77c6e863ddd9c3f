use Rattle.back_trail.proofs.SoundLaws.{held_forgotten, held_without}
use Rattle.back_trail.proofs.oldest.Oldest.forget.Goals as goal

pub invariant_of-self : goal.invariant_of-self
invariant_of-self c =
    held_forgotten c.self.inside.store c.forget.new.self c.drop_marks.new.marks.keys c.self.inside.last c.forget.ensures
    (held_without c.self.inside.store c.self.inside.marks.keys c.drop_marks.new.marks.keys c.self.inside.last c.args.gone.items c.drop_marks.ensures c.self.invariant)
