use Rattle.std.proofs.Common.{◌≡◌, ◌+◌, ◌-◌, take, ap, ◌∙◌, arith}
use Rattle.ops_meaning.specs.Acting.{made_last}
use Rattle.act_phase.proofs.Cells.{made_found}
use Rattle.act_phase.proofs.state.last_made.Goals as goal

pub returns-in-Add-clause-held : goal.returns-in-Add-clause-held
returns-in-Add-clause-held c =
    let l = c.loop-place in
    let same : l.place - 1 + 1 ≡ l.place = omega arith in
    made_found c.args.changes.now (l.place - 1) c.index-changes-place.result c.in-Add.field-0 (omega arith) c.index-changes-place.is c.in-Add.is (ap (λ n. made_last (take n c.args.changes.now)) same ∙ l.invariant.last)
