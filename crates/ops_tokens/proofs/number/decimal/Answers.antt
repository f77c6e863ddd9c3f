use Rattle.std.proofs.Common.{◌≡◌, ℕ, ◌+◌, ◌-◌, ◌*◌, ◌<◌, ◌^◌, get_or, refl, sym, subst, ◌∙◌, ap, arith, below_more}
use Rattle.std.specs.Prelude.{take_while}
use Rattle.ops_tokens.specs.Bytes.{is_digit}
use Rattle.ops_tokens.specs.Numbers.{decimal}
use Rattle.ops_tokens.proofs.Decimals.{decimal-more, digits_end, too_large}
use Rattle.ops_tokens.proofs.number.decimal.Goals as goal

pub loop-byte-init : goal.loop-byte-init
unfolding decimal
loop-byte-init c = record { value = refl; fits = omega arith; digits = λ k h. absurd (omega arith) }

pub returns-then-not-is_digit : goal.returns-then-not-is_digit
returns-then-not-is_digit c =
    let spelled : c.loop-byte.value ≡ decimal (take_while is_digit c.args.bytes.now) =
    c.loop-byte.invariant.value ∙ sym (digits_end c.args.bytes.now c.loop-byte.byte-index (omega arith) c.loop-byte.invariant.digits (λ _. sym c.is_digit.ensures ∙ c.if-not-is_digit.true)) in
    (subst (λ (n : ℕ). n < 2 ^ 128) spelled c.loop-byte.invariant.fits, spelled)

pub returns-in_err-value : goal.returns-in_err-value
returns-in_err-value c =
    rw c.from_residual.ensures
    (too_large c.args.bytes.now c.loop-byte.byte-index (2 ^ 128) c.loop-byte-test.true c.loop-byte.invariant.digits (sym c.is_digit.ensures ∙ c.if-not-is_digit.false)
    (λ below. c.in_err-value.ensures (rw c.loop-byte.invariant.value below)))

pub loop-byte-preserved : goal.loop-byte-preserved
loop-byte-preserved c = record {
  value = c.in_ok-value.ensures.1 ∙ ap (λ (n : ℕ). 10 * n + (get_or c.args.bytes.now c.loop-byte.byte-index 0 - 48)) c.loop-byte.invariant.value ∙ sym (decimal-more c.args.bytes.now c.loop-byte.byte-index c.loop-byte-test.true);
  fits = omega (arith, c.in_ok-value.ensures.0, c.in_ok-value.ensures.1);
  digits = below_more _ _ c.loop-byte.invariant.digits (sym c.is_digit.ensures ∙ c.if-not-is_digit.false);
}

pub returns : goal.returns
returns c =
    let spelled : c.loop-byte.value ≡ decimal (take_while is_digit c.args.bytes.now) =
    c.loop-byte.invariant.value ∙ sym (digits_end c.args.bytes.now c.loop-byte.byte-index (omega arith) c.loop-byte.invariant.digits (λ lt. absurd (omega arith))) in
    (subst (λ (n : ℕ). n < 2 ^ 128) spelled c.loop-byte.invariant.fits, spelled)
