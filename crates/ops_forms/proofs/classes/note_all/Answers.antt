use Rattle.std.proofs.Common.{arith}
use Rattle.std.proofs.lemmas.Result.{err_from_is_err_and}
use Rattle.ops_forms.specs.Noted.{noted}
use Rattle.ops_forms.proofs.Noted.{noted_more, noted_in_part}
use Rattle.ops_forms.proofs.classes.note_all.Goals as goal

pub returns-in_err-note-clause-err : goal.returns-in_err-note-clause-err
returns-in_err-note-clause-err c =
    let p = err_from_is_err_and c.from_residual.result c.from_residual.ensures.1 in
    rw p.1 (λ n. noted_in_part n c.args.attrs.now c.loop-attr.attr-index c.args.place (noted c.args.having.now n) _ _ (c.loop-attr.invariant n) (c.in_err-note.ensures.err n))

pub loop-attr-preserved : goal.loop-attr-preserved
loop-attr-preserved c = λ n. noted_more n c.args.attrs.now c.loop-attr.attr-index _ c.args.place (noted c.args.having.now n) _ _ (omega arith) (c.loop-attr.invariant n) (c.in_ok-note.ensures.ok n)
