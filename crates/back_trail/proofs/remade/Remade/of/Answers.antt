use Rattle.back_trail.proofs.SoundLaws.{remade_of}
use Rattle.back_trail.proofs.remade.Remade.of.Goals as goal

pub invariant_of-result : goal.invariant_of-result
invariant_of-result c =
    (remade_of c.args.oldest.now c.args.classes c.in_ok-changes.changes.items c.in_ok-marks.marks.keys c.in_ok-changes.ensures.changes c.in_ok-marks.ensures c.in_ok-changes.ensures.sound).1

pub returns : goal.returns
returns c =
    (remade_of c.args.oldest.now c.args.classes c.in_ok-changes.changes.items c.in_ok-marks.marks.keys c.in_ok-changes.ensures.changes c.in_ok-marks.ensures c.in_ok-changes.ensures.sound).0
