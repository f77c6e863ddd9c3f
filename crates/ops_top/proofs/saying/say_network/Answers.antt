use Rattle.std.proofs.Common.{◌≡◌, ℕ, List, ap, ◌∙◌, subst}
use Rattle.std.proofs.lemmas.Result.{err_from_is_err_and}
use Rattle.net_base.specs.Shape.{counts_of}
use Rattle.net_base.specs.Counting.{shape_of}
use Rattle.net_base.proofs.ShapeOf.{shape_is_counted-one}
use Rattle.ops_meaning.specs.declared.statuses.Status.TheVariants as status
use Rattle.ops_top.specs.NetLines.{net_lines}
use Rattle.ops_top.specs.Told.{Delivers}
use Rattle.ops_top.specs.Whole.{net_told}
use Rattle.ops_top.proofs.Deliveries.{untold}
use Rattle.ops_top.proofs.saying.say_network.Goals as goal

pub returns-clause-delivers : goal.returns-clause-delivers
returns-clause-delivers g c =
    let rules = c.args.program.now.rules in
    let shape = shape_is_counted-one rules (counts_of c.in_ok-net.net.alphas c.in_ok-net.net.nodes) c.in_ok-net.ensures.shape in
    let lines : c.in_ok-lines.lines.items ≡ net_lines (shape_of rules) = c.in_ok-lines.ensures ∙ ap net_lines (c.counts.ensures ∙ shape) in
    let D : List ℕ → Type 0 = λ bytes. Delivers c.say.result (record { bytes = bytes; status = status.Done }) (g.K.Sink.taken c.args.sink.now) (g.K.Sink.faults c.args.sink.now) (g.K.Sink.taken c.say.new.sink) (g.K.Sink.faults c.say.new.sink) in
    subst D (c.deref.ensures.value ∙ lines) c.say.ensures.delivers

pub returns-in_err-lines-clause-delivers : goal.returns-in_err-lines-clause-delivers
returns-in_err-lines-clause-delivers g c =
    let p = err_from_is_err_and c.from_residual-in_err-lines.result c.from_residual-in_err-lines.ensures.1 in
    rw (p.1, p.2) (untold (net_told c.args.program.now.rules) _ _)
