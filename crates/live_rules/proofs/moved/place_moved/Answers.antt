use Rattle.std.proofs.Common.{◌≡◌, ℕ, ◌-◌, ◌<◌, ◌≤◌, suc, ap, sym, subst, ◌∙◌, Option, Some, arith}
use Rattle.std.specs.Prelude.{option_and_then}
use Rattle.ops_base.specs.Live.{moved}
use Rattle.live_rules.proofs.Numbers.{moved_same, moved_above, moved_below}
use Rattle.live_rules.proofs.moved.place_moved.Goals as goal

-- where the place is this number
at : (gone number : ℕ) (place : Option ℕ) → place ≡ Some number → moved gone number ≡ option_and_then (moved gone) place
at gone number place is = ap (option_and_then (moved gone)) (sym is)

pub returns-then-number-gone : goal.returns-then-number-gone
returns-then-number-gone c =
    sym (moved_below c.args.gone c.in_ok-number.number c.if-number-gone.true) ∙ at c.args.gone c.in_ok-number.number c.args.place c.in_ok-number.was

pub returns-then-number-gone-2 : goal.returns-then-number-gone-2
returns-then-number-gone-2 c =
    sym (ap (moved c.args.gone) c.if-number-gone-2.true ∙ moved_same c.args.gone) ∙ at c.args.gone c.in_ok-number.number c.args.place c.in_ok-number.was

pub returns-else-number-gone-2 : goal.returns-else-number-gone-2
returns-else-number-gone-2 c =
    sym (one_less c.in_ok-number.number (above c.if-number-gone.false c.if-number-gone-2.false)) ∙ at c.args.gone c.in_ok-number.number c.args.place c.in_ok-number.was
  where
    above : c.args.gone ≤ c.in_ok-number.number → (c.in_ok-number.number ≡ c.args.gone → ⊥) → c.args.gone < c.in_ok-number.number
    above le ne = omega arith

    one_less : (n : ℕ) → c.args.gone < n → moved c.args.gone n ≡ Some (n - 1)
    one_less n lt =
        let same : suc (n - 1) ≡ n = omega (arith, lt) in
        let P : ℕ → Type 0 = λ m. moved c.args.gone m ≡ Some (n - 1) in
        subst P same (moved_above c.args.gone (n - 1) (omega (arith, lt)))
