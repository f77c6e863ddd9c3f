use Rattle.std.proofs.Common.{◌∙◌, ap, arith, map, SFits, rules}
use Rattle.std.specs.Int.{w128}
use Rattle.std.proofs.lemmas.Result.{err_from_is_err_and}
use Rattle.std.proofs.lemmas.Int.{to_z-of_z}
use Rattle.ops_tokens.specs.Accepting.{shown}
use Rattle.ops_tokens.proofs.Accepts.{run_stopped, run_accepts, gives_number, gives_symbol, shown_over}
use Rattle.ops_tokens.proofs.accept.run.Goals as goal

pub returns-in_err-bytes-clause-accepts : goal.returns-in_err-bytes-clause-accepts
returns-in_err-bytes-clause-accepts g c =
    let p = err_from_is_err_and c.from_residual.result c.from_residual.ensures.1 in
    rw (p.1, p.2) (run_stopped _ _ _ _ _ c.in_err-bytes.ensures)

pub returns-in-Some-clause-accepts : goal.returns-in-Some-clause-accepts
returns-in-Some-clause-accepts g c =
    let number = rw c.deref.ensures.value at c.in-Some.ensures in
    let fits : SFits w128 c.in-Some.number = search rules in
    simp to_z-of_z (run_accepts _ _ _ _ _ _ c.in_ok-bytes.bytes.items c.requires.first c.in_ok-bytes.ensures.0 c.in_ok-bytes.ensures.1 (gives_number _ _ _ number))

pub returns-clause-accepts : goal.returns-clause-accepts
returns-clause-accepts g c =
    let none = rw c.deref.ensures.value at c.in_default.ensures in
    let spelled = c.deref-2.ensures.value ∙ shown_over c.in_ok-bytes.bytes.items c.show.new.bytes c.in_ok-bytes.bytes.len (c.show.ensures ∙ ap (map shown) c.deref_mut.ensures.value) (omega (arith, c.in_ok-bytes.bytes.ok.0)) in
    run_accepts _ _ _ _ _ _ c.in_ok-bytes.bytes.items c.requires.first c.in_ok-bytes.ensures.0 c.in_ok-bytes.ensures.1
    (gives_symbol c.symbol.result _ _ c.in_ok-bytes.bytes.items c.deref-2.result.now none spelled c.symbol.ensures)
