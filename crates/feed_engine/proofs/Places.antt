-- The actions of a right side of which none is done, by their places.
use Rattle.std.proofs.Common.{◌≡◌, ◌∙◌, ◌<◌, ◌≤◌, ℕ, List, length, drop, get_or, Some, ap, sym, subst, arith}
use Rattle.std.specs.Prelude.{slice_get}
use Rattle.std.proofs.lemmas.Option.{slice_get-get_or}
use Rattle.ops_base.specs.declared.actions.Action.{Action}
use Rattle.act_phase.specs.State.{Between}

module _ (a : Between) (left : List Action) (none : a.done ≡ 0) (is : left ≡ drop a.done a.actions) where
  -- what is left is all of them
  pub same_actions : left ≡ a.actions
  same_actions = is ∙ ap (λ n. drop n a.actions) none

  pub within_all : (i : ℕ) → i < length left → i < length a.actions
  within_all i lt = let same = ap length same_actions in omega (arith, same, lt)

  pub none_left : (i : ℕ) → length left ≤ i → length a.actions ≤ i
  none_left i le = let same = ap length same_actions in omega (arith, same, le)

  pub there_in : (i : ℕ) (x : Action) → x ≡ get_or left i x → x ≡ get_or a.actions i x
  there_in i x at = at ∙ ap (λ xs. get_or xs i x) same_actions

-- the next of them
pub less_at : (d i : ℕ) (xs ys : List Action) → d ≡ i → xs ≡ ys → i < length ys → d < length xs
less_at d i xs ys e f lt = let same = ap length f in omega (arith, e, same, lt)

pub next_at : (d i : ℕ) (xs ys : List Action) (x : Action) → d ≡ i → xs ≡ ys → i < length ys → x ≡ get_or ys i x → slice_get xs d ≡ Some x
next_at d i xs ys x e f lt at =
    let P : ℕ → Type 0 = λ n. slice_get xs n ≡ Some x in
    let Q : List Action → Type 0 = λ zs. slice_get zs i ≡ Some x in
    subst P (sym e) (subst Q (sym f) (slice_get-get_or ys i x lt ∙ ap (λ y. Some y) (sym at)))
