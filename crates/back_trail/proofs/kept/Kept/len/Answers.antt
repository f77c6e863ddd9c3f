use Rattle.std.proofs.Common.{◌≡◌, ◌∙◌, length, arith}
use Rattle.back_trail.specs.Kept.{late_of}
use Rattle.back_trail.proofs.TrailLaws.{count}
use Rattle.back_trail.proofs.kept.Kept.len.Goals as goal

pub returns : goal.returns
returns c =
    let long : c.len.result ≡ length c.self.inside.steps.items = omega (arith, c.len.ensures, c.self.inside.steps.ok) in
    long ∙ count c.self.inside.oldest (late_of c.self.inside.late) c.self.inside.steps.items c.args.self.now c.self.view_is
