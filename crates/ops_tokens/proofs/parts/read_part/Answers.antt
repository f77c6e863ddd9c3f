use Rattle.std.proofs.Common.{◌≡◌, ◌+◌, length, arith}
use Rattle.std.proofs.lemmas.Result.{err_from_is_err_and}
use Rattle.ops_tokens.proofs.Taking.{read_more, read_end, read_stopped, taken_short}
use Rattle.ops_tokens.proofs.parts.read_part.Goals as goal

pub returns-in_err-byte : goal.returns-in_err-byte
returns-in_err-byte g c =
    let p = err_from_is_err_and c.from_residual.result c.from_residual.ensures.1 in
    let size : c.args.before + c.len.result ≡ c.args.before + length c.loop-bytes.bytes.items = omega (arith, c.loop-bytes.bytes.ok.0, c.len.ensures) in
    rw (p.1, p.2) (read_stopped _ _ _ _ _ _ _ c.loop-bytes.bytes.items size c.loop-bytes.invariant c.in_err-byte.ensures)

pub loop-bytes-preserved : goal.loop-bytes-preserved
loop-bytes-preserved g c =
    let size : c.args.before + c.len.result ≡ c.args.before + length c.loop-bytes.bytes.items = omega (arith, c.loop-bytes.bytes.ok.0, c.len.ensures) in
    let more = read_more _ _ _ c.in_ok-byte.field-0 c.in-Some.byte _ _ _ c.loop-bytes.bytes.items size c.in-Some.is c.loop-bytes.invariant c.in_ok-byte.ensures in
    rw c.in_ok-push.ensures.items more

pub returns-in_err-push : goal.returns-in_err-push
returns-in_err-push g c =
    let p = err_from_is_err_and c.from_residual-in_err-push.result c.from_residual-in_err-push.ensures.1 in
    let size : c.args.before + c.len.result ≡ c.args.before + length c.loop-bytes.bytes.items = omega (arith, c.loop-bytes.bytes.ok.0, c.len.ensures) in
    rw (p.1, p.2) (taken_short _ _ _ _ _ (read_more _ _ _ c.in_ok-byte.field-0 c.in-Some.byte _ _ _ c.loop-bytes.bytes.items size c.in-Some.is c.loop-bytes.invariant c.in_ok-byte.ensures))

pub returns : goal.returns
returns g c = read_end _ _ _ c.in_ok-byte.field-0 _ _ _ c.loop-bytes.bytes.items c.in_default.not-Some c.loop-bytes.invariant c.in_ok-byte.ensures
