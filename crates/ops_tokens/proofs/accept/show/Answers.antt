use Rattle.std.proofs.Common.{◌<◌, length, get_or, set, ap, ◌∙◌, arith}
use Rattle.std.proofs.lemmas.List.{get_or_default}
use Rattle.std.proofs.lemmas.List.Edits.{map_over_more}
use Rattle.ops_tokens.specs.Accepting.{shown}
use Rattle.ops_tokens.proofs.accept.show.Goals as goal

pub loop-byte-preserved : goal.loop-byte-preserved
loop-byte-preserved c =
    let i = c.loop-byte.byte-index in
    let within : c.loop-byte.byte-index < length c.loop-byte.bytes = omega (arith, c.loop-byte-test.true, c.loop-byte.auto.bytes) in
    ap (set c.loop-byte.bytes i) c.shown.ensures
    ∙ map_over_more shown c.args.bytes.now c.loop-byte.bytes i (get_or c.loop-byte.bytes i 0) (omega (arith, c.loop-byte-test.true, c.loop-byte.auto.bytes)) c.loop-byte.invariant (get_or_default c.loop-byte.bytes i 0 _ within)
