use Rattle.std.proofs.Common.{refl, arith}
use Rattle.ops_base.specs.declared.elements.Change.TheVariants.{Remove}
use Rattle.work_store.proofs.Doing.{found_to_remove}
use Rattle.cycle.specs.Standing.{Standing}
use Rattle.back_trail.proofs.SoundLaws.{held_done, lawful_so}
use Rattle.back_trail.proofs.oldest.Oldest.make.Goals as goal

pub remove-requires : goal.remove-requires
remove-requires c =
    let s : Standing = record { wm = c.self.inside.store.elements; fired = c.self.inside.marks.keys; last = c.self.inside.last } in
    found_to_remove c.self.inside.store.elements c.self.inside.last c.in-Remove.tag (Remove c.in-Remove.tag) refl (lawful_so s c.args.self.now c.self.view_is c.args.change.now (Remove c.in-Remove.tag) c.in-Remove.is c.requires)

pub invariant_of-self-in-Remove : goal.invariant_of-self-in-Remove
invariant_of-self-in-Remove c =
    let s : Standing = record { wm = c.self.inside.store.elements; fired = c.self.inside.marks.keys; last = c.self.inside.last } in
    held_done c.self.inside.store c.remove.new.self c.self.inside.marks.keys c.self.inside.last c.self.inside.last (Remove c.in-Remove.tag) c.remove.ensures.elements refl
    (omega (arith, c.remove.ensures.last, c.self.invariant.below))
    (lawful_so s c.args.self.now c.self.view_is c.args.change.now (Remove c.in-Remove.tag) c.in-Remove.is c.requires) c.self.invariant
