use Rattle.std.proofs.Common.{◌∙◌, ap, sym, subst, ℕ, List}
use Rattle.std.proofs.lemmas.Result.{err_from_is_err_and}
use Rattle.ops_base.specs.declared.rules.Rule.{Rule}
use Rattle.ops_base.specs.WorkingMemory.{shown}
use Rattle.ops_io.specs.Ports.{port, Put, Stopped}
use Rattle.ops_io.specs.declared.stop.Stop.TheVariants as stop
use Rattle.ops_meaning.specs.Layout.{lines_at, unknown_line}
use Rattle.ops_meaning.specs.Running.{rule_named}
use Rattle.session.proofs.Lines.{one_line}
use Rattle.session.proofs.PartialLines.{told_unknown}
use Rattle.session.proofs.partials.put_of_name.Goals as goal

pub returns-in_err-put_name_line-in-None : goal.returns-in_err-put_name_line-in-None
returns-in_err-put_name_line-in-None g c =
    let p = err_from_is_err_and c.from_residual.result c.from_residual.ensures.1 in
    let none = sym (c.rule_named.ensures ∙ ap (λ (rs : List Rule). rule_named rs c.args.name.now) c.as_slice.ensures) ∙ c.in-None.is in
    let a = port (g.K.Sink.taken c.args.sink.now) (g.K.Sink.faults c.args.sink.now) c.args.out.now in
    let b = port (g.K.Sink.taken c.put_name_line.new.sink) (g.K.Sink.faults c.put_name_line.new.sink) c.put_name_line.new.out in
    let P : List ℕ → Type 0 = Stopped stop.Write a b in
    let Q : List (List ℕ) → Type 0 = λ ls. Stopped stop.Write a b (lines_at a.out.column ls) in
    rw (p.1, p.2)
    (subst Q (sym (told_unknown c.args.names.now c.args.program.now.rules (shown c.args.wm.now) c.args.name.now none))
    (subst P (sym (one_line a.out.column (unknown_line c.args.names.now c.args.name.now))) c.in_err-put_name_line-in-None.ensures.puts))

pub returns-in_ok-put_name_line-in-None : goal.returns-in_ok-put_name_line-in-None
returns-in_ok-put_name_line-in-None g c =
    let none = sym (c.rule_named.ensures ∙ ap (λ (rs : List Rule). rule_named rs c.args.name.now) c.as_slice.ensures) ∙ c.in-None.is in
    let a = port (g.K.Sink.taken c.args.sink.now) (g.K.Sink.faults c.args.sink.now) c.args.out.now in
    let b = port (g.K.Sink.taken c.put_name_line.new.sink) (g.K.Sink.faults c.put_name_line.new.sink) c.put_name_line.new.out in
    let P : List ℕ → Type 0 = Put a b in
    let Q : List (List ℕ) → Type 0 = λ ls. Put a b (lines_at a.out.column ls) in
    subst Q (sym (told_unknown c.args.names.now c.args.program.now.rules (shown c.args.wm.now) c.args.name.now none))
    (subst P (sym (one_line a.out.column (unknown_line c.args.names.now c.args.name.now))) c.in_ok-put_name_line-in-None.ensures.puts)
