use Rattle.std.proofs.Common.{◌≡◌, ◌<◌, ℕ, Option, Some, None, length, slice_get, get_or, refl, ap, sym, ◌∙◌, arith, below_more}
use Rattle.std.proofs.lemmas.Bool.{false≢true}
use Rattle.std.proofs.lemmas.Option.{slice_get-get_or, get_or_from_slice_get}
use Rattle.live_rules.specs.Moves.{Places, unmoved}
use Rattle.live_rules.proofs.Unmoved.{unmoved_each, unmoved_get}
use Rattle.live_rules.proofs.moved.are_unmoved.Goals as goal

-- where no place has moved, each is its own number
own_number : (places : Places) (n : ℕ) → n < length places → places ≡ unmoved (length places) → get_or places n None ≡ Some n
own_number places n lt is =
    get_or_from_slice_get places n (Some n) None (ap (λ (ps : Places). slice_get ps n) is ∙ unmoved_get (length places) n lt)

pub returns-then-not-is_at : goal.returns-then-not-is_at
returns-then-not-is_at c = (
  λ h. absurd (false≢true h),
  λ is. sym c.if-not-is_at.true ∙ c.is_at.ensures.1 (own_number c.args.places.now c.loop-number.number c.loop-number-test.true is),
)

pub loop-number-preserved : goal.loop-number-preserved
loop-number-preserved c =
    let places = c.args.places.now in
    let n = c.loop-number.number in
    let here : slice_get places n ≡ Some (Some n) =
    slice_get-get_or places n None c.loop-number-test.true ∙ ap (λ (o : Option ℕ). Some o) (c.is_at.ensures.0 c.if-not-is_at.false) in
    below_more (λ k. slice_get places k ≡ Some (Some k)) n c.loop-number.invariant here

pub returns : goal.returns
returns c = (
  λ h. unmoved_each c.args.places.now (λ n lt. c.loop-number.invariant n (omega (arith, lt, c.loop-number-test.false))),
  λ is. refl,
)
