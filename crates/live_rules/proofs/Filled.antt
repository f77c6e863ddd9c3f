-- A production that is built can be added to the program: it is valid, and builds nothing.
use Rattle.std.proofs.Common.{◌≡◌, ℕ, zero, suc, Bool, true, false, not, ◌&&◌, ◌||◌, List, [], ◌∷◌, length, refl, sym, ap, ◌∙◌, slice_get, Some, IsTrue}
use Rattle.std.specs.List.{list_all, list_any}
use Rattle.std.proofs.lemmas.Bool.{and_parts, and_from}
use Rattle.ops_base.specs.declared.actions.Action.{Action}
use Rattle.ops_base.specs.declared.actions.Action.TheVariants as action
use Rattle.ops_base.specs.declared.filling.Filling.{Filling}
use Rattle.ops_base.specs.declared.programs.Program.{Program}
use Rattle.ops_base.specs.declared.rules.Rule.{Rule}
use Rattle.ops_base.specs.Filling.{total, in_action, action_filled, in_part, rule_filled}
use Rattle.ops_base.specs.Valid.{builds_from, is_build, rule_builds_from, rule_is_valid, template_is_valid}
use Rattle.ops_base.proofs.FilledValid.{all_each, rule_valid}
use Rattle.ops_meaning.specs.Kept.{IsFilledFrom}
use Rattle.live_rules.proofs.Valid.{parts_of}

all_at : {X : Type 0} (p : X → Bool) (xs : List X) (n : ℕ) (x : X) → list_all p xs ≡ true → slice_get xs n ≡ Some x → p x ≡ true
all_at p [] n x h is = absurd (cc)
all_at p (y ∷ xs) zero x h is = let same : y ≡ x = cc in ap p (sym same) ∙ (and_parts (p y) (list_all p xs) h).0
all_at p (y ∷ xs) (suc n) x h is = all_at p xs n x (and_parts (p y) (list_all p xs) h).1 is

action_builds : (n : ℕ) (fs : List Filling) (k : ℕ) (a : Action) → builds_from n (action_filled fs k a) ≡ builds_from n a
action_builds n fs k (action.Make class puts) = refl
action_builds n fs k (action.Modify cell puts) = refl
action_builds n fs k (action.Remove cells) = refl
action_builds n fs k (action.Write items) = refl
action_builds n fs k (action.Bind variable t) = refl
action_builds n fs k (action.Cbind cell) = refl
action_builds n fs k action.Halt = refl
action_builds n fs k (action.Build template holes) = refl

one_builds : (n : ℕ) (a : Action) → is_build a ≡ false → builds_from n a ≡ true
one_builds n (action.Make class puts) h = refl
one_builds n (action.Modify cell puts) h = refl
one_builds n (action.Remove cells) h = refl
one_builds n (action.Write items) h = refl
one_builds n (action.Bind variable t) h = refl
one_builds n (action.Cbind cell) h = refl
one_builds n action.Halt h = refl
one_builds n (action.Build template holes) h = absurd (cc)

-- where no action builds, each builds from the templates that there are
none_builds : (n : ℕ) (acts : List Action) → not (list_any is_build acts) ≡ true → list_all (builds_from n) acts ≡ true
none_builds n [] h = refl
none_builds n (a ∷ acts) h = by (is_build a) refl h (none_builds n acts)
  where
    by : (b : Bool) → is_build a ≡ b → not (b || list_any is_build acts) ≡ true → (not (list_any is_build acts) ≡ true → list_all (builds_from n) acts ≡ true) → (builds_from n a && list_all (builds_from n) acts) ≡ true
    by false e h rest = and_from _ _ (one_builds n a e) (rest h)
    by true e h rest = absurd (cc)

module _ (p : Program) (r : Rule) (f : IsFilledFrom p.templates r) where
  template_valid : template_is_valid p.classes (length p.text) f.template ≡ true
  template_valid =
      let parts = parts_of p.classes p.rules p.templates p.commands (length p.text) p.valid in
      all_at (template_is_valid p.classes (length p.text)) p.templates f.number f.template parts.templates_valid f.there

  pub filled_valid : IsTrue (rule_is_valid p.classes (length p.text) r)
  filled_valid =
      ap (rule_is_valid p.classes (length p.text)) f.filled ∙ rule_valid f.values p.classes (length p.text) f.template
      ∙ (and_parts (rule_is_valid p.classes (length p.text) f.template) (not (list_any is_build f.template.actions)) template_valid).0

  pub filled_builds : IsTrue (rule_builds_from (length p.templates) r)
  filled_builds =
      let n = length p.templates in
      ap (rule_builds_from n) f.filled ∙ all_each (builds_from n) in_action (action_filled f.values) (action_builds n f.values) (total in_part f.template.conditions) f.template.actions
      ∙ none_builds n f.template.actions (and_parts (rule_is_valid p.classes (length p.text) f.template) (not (list_any is_build f.template.actions)) template_valid).1
