use Rattle.std.proofs.Common.{◌≡◌, Bool, true, false, cond, refl, ◌∙◌}
use Rattle.std.specs.Prelude.{◌||◌}
use Rattle.std.specs.HashSet.{contains}
use Rattle.program_slips.specs.Given.{same_given}
use Rattle.program_slips.proofs.findings.learn.Goals as goal

or_cond : (a b : Bool) → cond a true b ≡ (a || b)
or_cond true b = refl
or_cond false b = refl

pub returns : goal.returns
returns c = λ g. c.in_ok-insert.ensures.updates.0 g ∙ or_cond (same_given c.args.fact g) (contains same_given c.args.known.now g)
