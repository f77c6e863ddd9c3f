-- A number whose spelling is held is passed over, and the first other one is found.
use Rattle.std.proofs.Common.{sym, ap, ◌∙◌}
use Rattle.ops_base.specs.Names.{spellings, is_held}
use Rattle.ops_base.proofs.Fresh.{goes_on_below, stops_below}
use Rattle.ops_base.proofs.symbols.find_free.Goals as goal

pub returns-then-not-is_held-clause-number : goal.returns-then-not-is_held-clause-number
returns-then-not-is_held-clause-number c =
    let held = spellings c.args.held.now.keys in
    let spelled = c.as_slice.ensures.value ∙ c.in_ok-write_fresh.ensures in
    let free = ap (is_held held) (sym spelled) ∙ sym c.is_held.ensures ∙ c.if-not-is_held.true in
    sym (stops_below 18446744073709551615 held c.loop-number.number c.loop-number-test.true free) ∙ c.loop-number.invariant

pub loop-number-preserved : goal.loop-number-preserved
loop-number-preserved c =
    let held = spellings c.args.held.now.keys in
    let spelled = c.as_slice.ensures.value ∙ c.in_ok-write_fresh.ensures in
    let taken = ap (is_held held) (sym spelled) ∙ sym c.is_held.ensures ∙ c.if-not-is_held.false in
    sym (goes_on_below 18446744073709551615 held c.loop-number.number c.loop-number-test.true taken) ∙ c.loop-number.invariant
