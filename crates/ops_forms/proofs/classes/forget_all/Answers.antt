use Rattle.std.proofs.Common.{arith}
use Rattle.ops_forms.proofs.Noted.{forgotten_more}
use Rattle.ops_forms.proofs.classes.forget_all.Goals as goal

pub loop-attr-preserved : goal.loop-attr-preserved
loop-attr-preserved c = λ n. forgotten_more n c.args.attrs.now c.loop-attr.attr-index _ c.args.place _ _ _ (omega arith) (c.loop-attr.invariant n) (c.forget.ensures n)
