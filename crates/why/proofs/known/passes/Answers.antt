use Rattle.std.proofs.Common.{◌++◌, Some, None, Bool, cond, ap, sym, ◌∙◌}
use Rattle.ops_base.specs.declared.values.Value.{Value}
use Rattle.ops_base.specs.Matching.{operand_holds}
use Rattle.why.specs.Checking.{bindings_in, put_by}
use Rattle.why.proofs.KnownLaws.{bound_passes, tested_passes}
use Rattle.why.proofs.known.passes.Goals as goal

pub returns-then-test : goal.returns-then-test
returns-then-test c = bound_passes c.args.test.now c.args.e.now (bindings_in c.args.known.now) c.if-test.true

pub returns : goal.returns
returns c =
    let t = c.args.test.now in
    let bs = bindings_in c.args.known.now in
    tested_passes t c.args.e.now bs c.if-test.false
    ∙ ap (λ (b : Bool). cond b (Some (bs ++ put_by c.args.e.now t)) None)
    (sym (c.operand_meets.ensures ∙ ap (λ (a : Value). operand_holds t.pred a t.operand bs) c.field.ensures))
