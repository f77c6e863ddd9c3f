use Rattle.std.proofs.Common.{◌≡◌, ◌-◌, length, arith}
use Rattle.back_trail.specs.Kept.{late_of}
use Rattle.back_trail.proofs.TrailLaws.{count, cut_back, cut_kept}
use Rattle.back_trail.proofs.kept.Kept.cut.Goals as goal

pub overflow_sub-left : goal.overflow_sub-left
overflow_sub-left c =
    let number = count c.self.inside.oldest (late_of c.self.inside.late) c.self.inside.steps.items c.args.self.now c.self.view_is in
    let long : c.len.result ≡ length c.self.inside.steps.items = omega (arith, c.len.ensures, c.self.inside.steps.ok) in omega (arith, c.requires.within, number, long)

pub invariant_of-self : goal.invariant_of-self
invariant_of-self c =
    cut_kept c.self.inside.oldest (late_of c.self.inside.late) c.self.inside.steps.items c.self.invariant (c.len.result - c.args.n) c.truncate.new.self.items c.truncate.ensures.items

pub returns : goal.returns
returns c = λ e there.
    cut_back c.self.inside.oldest (late_of c.self.inside.late) c.self.inside.steps.items c.args.self.now c.self.view_is c.args.n c.len.result (omega (arith, c.len.ensures, c.self.inside.steps.ok))
    c.truncate.new.self.items c.truncate.ensures.items e there
