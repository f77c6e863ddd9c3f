use Rattle.std.proofs.Common.{◌≡◌, length, arith}
use Rattle.back_trail.specs.Kept.{late_of}
use Rattle.back_trail.proofs.TrailLaws.{count, point_back}
use Rattle.back_trail.proofs.kept.Kept.point.Goals as goal

pub overflow_sub-len : goal.overflow_sub-len
overflow_sub-len c =
    let number = count c.self.inside.oldest (late_of c.self.inside.late) c.self.inside.steps.items c.args.self.now c.self.view_is in
    let long : c.len.result ≡ length c.self.inside.steps.items = omega (arith, c.len.ensures, c.self.inside.steps.ok) in omega (arith, c.requires.some, c.requires.within, number, long)

pub returns : goal.returns
returns c = λ e there.
    point_back c.self.inside.oldest (late_of c.self.inside.late) c.self.inside.steps.items c.args.self.now c.self.view_is c.args.n c.len.result (omega (arith, c.len.ensures, c.self.inside.steps.ok)) c.requires.some c.requires.within
    c.index.result.now c.index.ensures e there
