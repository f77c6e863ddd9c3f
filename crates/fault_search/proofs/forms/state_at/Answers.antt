use Rattle.std.proofs.Common.{◌∙◌, take, get_or, sym, ap, arith}
use Rattle.fault_search.specs.declared.forms.State.{State}
use Rattle.fault_search.specs.Forms.{after_byte, at_start}
use Rattle.fault_search.proofs.Bytes.{byte_next, after_more}
use Rattle.fault_search.proofs.forms.state_at.Goals as goal

pub loop-byte-preserved : goal.loop-byte-preserved
loop-byte-preserved c =
    let bytes = take c.args.at c.args.text.now in
    let i = c.loop-byte.byte-index in
    let byte = get_or bytes i 0 in
    let e = c.after_byte-state.ensures in
    let next = byte_next c.loop-byte.state byte in
    let place = ap (λ (s : State). s.at) e in
    let depth = ap (λ (s : State). s.depth) e in
    record {
      state = e ∙ ap (λ s. after_byte s byte) c.loop-byte.invariant.state ∙ sym (after_more at_start bytes i c.loop-byte-test.true);
      place = omega (arith, place, next.place, c.loop-byte.invariant.place);
      depth = omega (arith, depth, next.depth, c.loop-byte.invariant.depth);
      first = rw e (next.first c.loop-byte.invariant.first);
    }
