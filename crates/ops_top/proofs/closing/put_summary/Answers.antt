use Rattle.std.proofs.Common.{List, ℕ, ◌∙◌, subst}
use Rattle.std.proofs.lemmas.Result.{err_from_is_err_and}
use Rattle.ops_io.specs.Ports.{Stopped, port}
use Rattle.ops_io.specs.declared.stop.Stop.TheVariants as stop
use Rattle.ops_meaning.specs.Layout.{line_at}
use Rattle.ops_top.proofs.closing.put_summary.Goals as goal

pub returns-in_err-put_line : goal.returns-in_err-put_line
returns-in_err-put_line g c =
    let p = err_from_is_err_and c.from_residual-in_err-put_line.result c.from_residual-in_err-put_line.ensures.1 in
    let S : List ℕ → Type 0 = λ xs. Stopped stop.Write (port (g.K.Sink.taken c.args.sink.now) (g.K.Sink.faults c.args.sink.now) c.args.out.now)
    (port (g.K.Sink.taken c.put_line.new.sink) (g.K.Sink.faults c.put_line.new.sink) c.put_line.new.out) (line_at c.args.out.now.column xs) in
    rw (p.1, p.2) (subst S (c.deref.ensures.value ∙ c.in_ok-line.ensures) c.in_err-put_line.ensures.puts)
