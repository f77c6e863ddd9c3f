use Rattle.std.proofs.Common.{◌∙◌, ap, sym}
use Rattle.cycle.specs.Standing.{Standing}
use Rattle.back_trail.proofs.MarkLaws.{marked_in_vain}
use Rattle.back_trail.proofs.SoundLaws.{held_marked}
use Rattle.back_trail.proofs.oldest.Oldest.mark.Goals as goal

pub invariant_of-self-2 : goal.invariant_of-self-2
invariant_of-self-2 c =
    held_marked c.put_mark.result c.self.inside.store c.self.inside.marks.keys c.put_mark.new.marks.keys c.self.inside.last c.in_ok-copy.field-0 c.put_mark.ensures.ok c.put_mark.ensures.err c.self.invariant

pub returns-then-is_among-clause-ok : goal.returns-then-is_among-clause-ok
returns-then-is_among-clause-ok c =
    let s = c.args.self.now in
    ap (λ fired. let t : Standing = record { wm = s.wm; fired = fired; last = s.last } in t) (marked_in_vain c.args.gone.now c.args.inst.now s.fired (sym c.is_among.ensures ∙ c.if-is_among.true))
