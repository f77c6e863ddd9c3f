-- The sum of the task's token has changed by its sign, and no other.
use Rattle.std.proofs.Common.{◌≡◌, ◌∙◌, ◌+ℤ◌, ap, rules, sym}
use Rattle.std.proofs.lemmas.Int.{to_z-of_z}
use mir.Syntax.{w64}
use mir.Val.{SFits}
use Rattle.net_base.specs.declared.tasks.Side.TheVariants.{Left}
use Rattle.token_line.specs.Bags.{sign}
use Rattle.token_line.specs.inner.Codes.{cell_among}
use Rattle.token_line.specs.Sums.{blockers_kept, sum_kept}
use Rattle.token_line.proofs.Filed.{alone_cell, put_apart, put_cells, put_codes, put_sums, same_cells}
use Rattle.token_line.proofs.LineLemmas.{add_blockers, add_sums, always_err}
use Rattle.token_line.proofs.line.Line.add_at.Goals as goal

pub returns-clause-sums : goal.returns-clause-sums
returns-clause-sums c =
    let x = c.args.task.now in
    let self = c.args.self.now in
    let had = c.sum-had.result in
    let sum = c.in_ok-sum.sum in
    let code = c.args.spot.now.code in
    let fits_had : SFits w64 had = search rules in
    let fits_sum : SFits w64 sum = search rules in
    let kept : sum_kept c.cell_with-cell.result ≡ sum = c.cell_with-cell.ensures.sum ∙ to_z-of_z w64 sum fits_sum in
    let more : sum ≡ had +ℤ sign x.plus = c.in_ok-sum.ensures ∙ ap (λ z. z +ℤ sign x.plus) (to_z-of_z w64 had fits_had) in
    add_sums (cell_among self.memories) (cell_among c.put_and_tell.new.memories) x c.cell_with-cell.result
    (put_cells self.memories c.put_and_tell.new.memories self.apart x code c.cell_with-cell.result c.requires.alone c.in_ok-put_and_tell.ensures.ok)
    (kept ∙ (more ∙ ap (λ z. z +ℤ sign x.plus)
    (c.sum-had.ensures ∙ ap sum_kept (c.requires.spot.kept ∙ sym (alone_cell self.memories x.node code x.side x.token c.requires.alone)))))

pub returns-clause-blockers : goal.returns-clause-blockers
returns-clause-blockers c =
    let x = c.args.task.now in
    let self = c.args.self.now in
    add_blockers (cell_among self.memories) (cell_among c.put_and_tell.new.memories) x c.cell_with-cell.result
    (put_cells self.memories c.put_and_tell.new.memories self.apart x c.args.spot.now.code c.cell_with-cell.result c.requires.alone c.in_ok-put_and_tell.ensures.ok)
    c.args.blockers c.cell_with-cell.ensures.blockers

pub returns-clause-filed : goal.returns-clause-filed
returns-clause-filed c =
    let self = c.args.self.now in
    put_codes self.memories c.put_and_tell.new.memories self.apart c.args.task.now c.args.spot.now.code c.cell_with-cell.result c.requires.alone c.in_ok-put_and_tell.ensures.ok

pub invariant_of-self-2 : goal.invariant_of-self-2
invariant_of-self-2 c =
    let self = c.args.self.now in
    record {
      apart = put_apart self.memories c.put_and_tell.new.memories self.apart c.args.task.now c.args.spot.now.code c.cell_with-cell.result c.requires.alone c.in_ok-put_and_tell.ensures.ok;
      some = put_sums self.memories c.put_and_tell.new.memories c.args.task.now c.args.spot.now.code c.cell_with-cell.result c.cell_with-cell.ensures.some self.some c.in_ok-put_and_tell.ensures.ok;
    }

pub returns-in_err-put_and_tell-clause-same_sums : goal.returns-in_err-put_and_tell-clause-same_sums
returns-in_err-put_and_tell-clause-same_sums c =
    let self = c.args.self.now in
    always_err c.from_residual-in_err-put_and_tell.result
    (λ n s t. ap sum_kept (same_cells self.memories self.apart c.put_and_tell.new.memories c.in_err-put_and_tell.ensures.err n s t))

pub returns-in_err-put_and_tell-clause-same_blockers : goal.returns-in_err-put_and_tell-clause-same_blockers
returns-in_err-put_and_tell-clause-same_blockers c =
    let self = c.args.self.now in
    always_err c.from_residual-in_err-put_and_tell.result
    (λ n t. ap blockers_kept (same_cells self.memories self.apart c.put_and_tell.new.memories c.in_err-put_and_tell.ensures.err n Left t))
