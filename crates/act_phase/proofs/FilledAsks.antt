-- A production contains `accept` exactly where the template that gives it does.
use Rattle.std.proofs.Common.{◌≡◌, ℕ, ◌+◌, Bool, false, true, ◌||◌, List, [], ◌∷◌, refl, sym, ap, ◌∙◌, slice_get, Some}
use Rattle.std.specs.Prelude.{suc, zero}
use Rattle.std.specs.List.{list_any}
use Rattle.ops_base.specs.declared.filling.Filling.{Filling}
use Rattle.ops_base.specs.declared.actions.Term.{Term}
use Rattle.ops_base.specs.declared.actions.Term.TheVariants as term
use Rattle.ops_base.specs.declared.actions.Put.{Put}
use Rattle.ops_base.specs.declared.actions.Item.{Item}
use Rattle.ops_base.specs.declared.actions.Item.TheVariants as item
use Rattle.ops_base.specs.declared.actions.Action.{Action}
use Rattle.ops_base.specs.declared.actions.Action.TheVariants as action
use Rattle.ops_base.specs.declared.rules.Rule.{Rule}
use Rattle.ops_base.specs.Filling.{each, total, in_term, term_filled, in_put, put_filled, in_item, item_filled, in_action, action_filled, in_part, rule_filled}
use Rattle.ops_meaning.specs.Kept.{IsFilledFrom}
use Rattle.act_phase.specs.Asking.{term_asks, put_asks, item_asks, action_asks, rule_asks, program_asks}

any_each : {X : Type 0} (p : X → Bool) (count : X → ℕ) (fill : ℕ → X → X) → ((k : ℕ) (x : X) → p (fill k x) ≡ p x) → (k : ℕ) (xs : List X) → list_any p (each count fill k xs) ≡ list_any p xs
any_each p count fill h k [] = refl
any_each p count fill h k (x ∷ xs) = ap (λ a. a || list_any p (each count fill (k + count x) xs)) (h k x) ∙ ap (λ b. p x || b) (any_each p count fill h (k + count x) xs)

module _ (fs : List Filling) where
  term_same : (k : ℕ) (t : Term) → term_asks (term_filled fs k t) ≡ term_asks t
  term_same k (term.Constant v) = refl
  term_same k (term.Variable v) = refl
  term_same k (term.Compute f) = refl
  term_same k (term.One cell field) = refl
  term_same k (term.Rest cell) = refl
  term_same k term.Fresh = refl
  term_same k term.Accept = refl

  put_same : (k : ℕ) (p : Put) → put_asks (put_filled fs k p) ≡ put_asks p
  put_same k p = any_each term_asks in_term (term_filled fs) term_same k p.terms

  item_same : (k : ℕ) (i : Item) → item_asks (item_filled fs k i) ≡ item_asks i
  item_same k (item.Print t) = term_same k t
  item_same k item.Crlf = refl
  item_same k (item.TabTo c) = refl
  item_same k (item.RightIn c) = refl

  action_same : (k : ℕ) (a : Action) → action_asks (action_filled fs k a) ≡ action_asks a
  action_same k (action.Make class puts) = any_each put_asks in_put (put_filled fs) put_same k puts
  action_same k (action.Modify cell puts) = any_each put_asks in_put (put_filled fs) put_same k puts
  action_same k (action.Remove cells) = refl
  action_same k (action.Write items) = any_each item_asks in_item (item_filled fs) item_same k items
  action_same k (action.Bind variable t) = term_same k t
  action_same k (action.Cbind cell) = refl
  action_same k action.Halt = refl
  action_same k (action.Build template holes) = refl

  pub filled_asks : (r : Rule) → rule_asks (rule_filled fs r) ≡ rule_asks r
  filled_asks r = any_each action_asks in_action (action_filled fs) action_same (total in_part r.conditions) r.actions

neither_at : (rules : List Rule) (n : ℕ) (r : Rule) → program_asks rules ≡ false → slice_get rules n ≡ Some r → rule_asks r ≡ false
neither_at [] n r none is = absurd (cc)
neither_at (q ∷ rules) zero r none is = by (rule_asks q) refl none
  where
    same : q ≡ r
    same = cc

    by : (b : Bool) → rule_asks q ≡ b → (b || program_asks rules) ≡ false → rule_asks r ≡ false
    by false e h = ap rule_asks (sym same) ∙ e
    by true e h = absurd (cc)
neither_at (q ∷ rules) (suc n) r none is = neither_at rules n r (rest (rule_asks q) none) is
  where
    rest : (b : Bool) → (b || program_asks rules) ≡ false → program_asks rules ≡ false
    rest false h = h
    rest true h = absurd (cc)

-- where no template contains it, what is built from one does not
pub built_quiet : (templates : List Rule) (r : Rule) → program_asks templates ≡ false → IsFilledFrom templates r → rule_asks r ≡ false
built_quiet templates r none p = ap rule_asks p.filled ∙ filled_asks p.values p.template ∙ neither_at templates p.number p.template none p.there
