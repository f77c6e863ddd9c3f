use Rattle.std.proofs.Common.{◌≡◌, ◌∙◌, ap, arith, map}
use Rattle.std.proofs.lemmas.Result.{err_from_is_err_and}
use Rattle.ops_tokens.specs.Accepting.{shown}
use Rattle.ops_tokens.proofs.Accepts.{opened, quoted_stopped, close_stopped, quoted_accepts, shown_over}
use Rattle.ops_tokens.proofs.accept.quoted.Goals as goal

pub returns-in_err-bytes-clause-accepts : goal.returns-in_err-bytes-clause-accepts
returns-in_err-bytes-clause-accepts g c =
    let p = err_from_is_err_and c.from_residual-in_err-bytes.result c.from_residual-in_err-bytes.ensures.1 in
    rw (p.1, p.2) (quoted_stopped _ _ _ _ _ _ (opened _ _ _ c.in_ok-take_of.field-0 c.requires.first c.in_ok-take_of.ensures) c.in_err-bytes.ensures)

pub returns-in_err-take_of-2-clause-accepts : goal.returns-in_err-take_of-2-clause-accepts
returns-in_err-take_of-2-clause-accepts g c =
    let p = err_from_is_err_and c.from_residual-in_err-take_of-2.result c.from_residual-in_err-take_of-2.ensures.1 in
    rw (p.1, p.2) (close_stopped _ _ _ _ _ _ _ _ c.in_ok-bytes.bytes.items (opened _ _ _ c.in_ok-take_of.field-0 c.requires.first c.in_ok-take_of.ensures) c.in_ok-bytes.ensures.0 (omega (arith, c.len.ensures, c.in_ok-bytes.bytes.ok.0)) c.in_err-take_of-2.ensures)

pub returns-clause-accepts : goal.returns-clause-accepts
returns-clause-accepts g c =
    let items = c.in_ok-bytes.bytes.items in
    let spelled : c.deref.result.now ≡ map shown c.in_ok-bytes.bytes.items = c.deref.ensures.value ∙ shown_over c.in_ok-bytes.bytes.items c.show.new.bytes c.in_ok-bytes.bytes.len (c.show.ensures ∙ ap (map shown) c.deref_mut.ensures.value) (omega (arith, c.in_ok-bytes.bytes.ok.0)) in
    quoted_accepts _ _ _ _ _ _ _ _ _ items c.in_ok-take_of-2.field-0 (opened _ _ _ c.in_ok-take_of.field-0 c.requires.first c.in_ok-take_of.ensures) c.in_ok-bytes.ensures.0 c.in_ok-bytes.ensures.1 (omega (arith, c.len.ensures, c.in_ok-bytes.bytes.ok.0)) c.in_ok-take_of-2.ensures
    (rw spelled at c.symbol.ensures)
