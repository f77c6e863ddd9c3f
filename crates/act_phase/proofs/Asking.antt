-- Where `accept` does not stand, and what is the same then.
use Rattle.std.proofs.Common.{◌≡◌, ℕ, zero, suc, ◌<◌, List, [], ◌∷◌, length, get_or, Bool, true, false, ◌&&◌, ◌||◌, refl, ap, sym, ◌∙◌}
use Rattle.std.specs.List.{list_any}
use Rattle.std.proofs.lemmas.List.Folds.{list_any_at}
use Rattle.ops_base.specs.declared.rules.Rule.{Rule}
use Rattle.ops_base.specs.declared.actions.Action.{Action}
use Rattle.act_phase.specs.Asking.{action_asks, action_changes, asks_after, right_side_asks, program_asks}

-- what holds of none of these holds not of the one at this place
pub none_at : {X : Type 0} (p : X → Bool) (xs : List X) (i : ℕ) (x : X) → i < length xs → x ≡ get_or xs i x → list_any p xs ≡ false → p x ≡ false
none_at p xs i x within is none = by (p x) refl
  where
    by : (b : Bool) → p x ≡ b → p x ≡ false
    by false e = e
    by true e = absurd (let any = list_any_at p xs i x within (sym (ap p is) ∙ e) in cc)

-- two things stay the same, and stay the same once more
pub both_then : {A B : Type 0} {a b c : A} {x y z : B} → (b ≡ a) × (y ≡ x) → (c ≡ b) × (z ≡ y) → (c ≡ a) × (z ≡ x)
both_then first second = (second.0 ∙ first.0, second.1 ∙ first.1)

neither : (a b : Bool) → (a || b) ≡ false → (a ≡ false) × (b ≡ false)
neither false b h = (refl, h)
neither true b h = absurd (cc)

-- where no right side of the program asks, that of this production does not
pub quiet_side : (rules : List Rule) (n : ℕ) → program_asks rules ≡ false → right_side_asks rules n ≡ false
quiet_side [] n none = refl
quiet_side (r ∷ rules) zero none = (neither (list_any action_asks r.actions) (program_asks rules) none).0
quiet_side (r ∷ rules) (suc n) none = quiet_side rules n (neither (list_any action_asks r.actions) (program_asks rules) none).1

-- where it stands after a change, it stands there
pub asks_late : (changed : Bool) (actions : List Action) → asks_after changed actions ≡ true → list_any action_asks actions ≡ true
asks_late changed [] h = cc
asks_late changed (a ∷ rest) h =
    by changed (action_asks a) (asks_after (changed || action_changes a) rest) (asks_late (changed || action_changes a) rest) h
  where
    by : (c b r : Bool) → (r ≡ true → list_any action_asks rest ≡ true) → ((c && b) || r) ≡ true → (b || list_any action_asks rest) ≡ true
    by c true r f h = refl
    by true false r f h = f h
    by false false r f h = f h

-- the first of them is another
pub asks_later : (changed : Bool) (a : Action) (rest : List Action) → (changed && action_asks a) ≡ false → asks_after changed (a ∷ rest) ≡ asks_after (changed || action_changes a) rest
asks_later changed a rest none = ap (λ b. b || asks_after (changed || action_changes a) rest) none
