-- The tasks of an element fit where the store holds the tag.
use Rattle.std.proofs.Common.{◌≡◌, ℕ, zero, suc, ◌<◌, Bool, true, false, cond, ◌&&◌, List, [], ◌∷◌, refl, sym, ap, subst, ◌∙◌, length, get_or, slice_get, Option, Some, None, IsSome, ◌++◌, Result, Ok, Err, OnOk, OnErr}
use Rattle.std.specs.List.{All, AllByRecursion}
use Rattle.std.proofs.lemmas.List.Elements.{All-append, All-cons, All-nil, All-from_recursion}
use Rattle.std.proofs.lemmas.Option.{slice_get_read}
use Rattle.ops_base.specs.declared.elements.Element.{Element}
use Rattle.work_store.specs.Stored.{Stored, held_of}
use Rattle.net_base.specs.declared.nodes.Kind.{Kind}
use Rattle.net_base.specs.declared.nodes.Kind.TheVariants.{Join, Negated, Group, Terminal}
use Rattle.net_base.specs.declared.nodes.Node.{Node}
use Rattle.net_base.specs.declared.nodes.Alpha.{Alpha}
use Rattle.net_base.specs.declared.tasks.Side.TheVariants.{Right}
use Rattle.net_base.specs.declared.tasks.Task.{Task}
use Rattle.net_base.specs.Sound.{takes_elements}
use Rattle.token_line.specs.Held.{TaskFits, is_wide}
use Rattle.token_line.proofs.Fitting.{fits_at}
use Rattle.step_core.specs.Machine.{passes_in, task_at, tasks_below}
use Rattle.step_core.proofs.Fed.{AllByRecursion-append}

-- the node that a loop looks at
pub node_at : (nodes seen : List Node) (i : ℕ) (x : Node) → seen ≡ nodes → i < length seen → x ≡ get_or seen i x → slice_get nodes i ≡ Some x
node_at nodes seen i x same low is = ap (λ xs. slice_get xs i) (sym same) ∙ slice_get_read seen (length seen) i x refl low is

-- ---- they fit

module _ (s : Stored) (alphas : List Alpha) (nodes : List Node) (plus : Bool) (tag : ℕ) (held : IsSome (held_of s tag)) (e : Option Element) where
  fit_at : (i : ℕ) (o : Option Node) → slice_get nodes i ≡ o → AllByRecursion (TaskFits nodes s) (task_at alphas plus tag e i o)
  fit_at i None at = tt
  fit_at i (Some x) at = by x.kind refl (passes_in (slice_get alphas x.alpha) e)
    where
      tasks : Bool → List Task
      tasks b = cond b (record { node = i; side = Right; plus = plus; token = tag ∷ [] } ∷ []) []

      if_passed : is_wide nodes x Right (tag ∷ []) ≡ true → (b : Bool) → AllByRecursion (TaskFits nodes s) (tasks b)
      if_passed width true = (fits_at nodes s i x at Right (tag ∷ []) width (All-cons (λ t. IsSome (held_of s t)) tag [] held (All-nil (λ t. IsSome (held_of s t)))), tt)
      if_passed width false = tt

      width_of : (k : Kind) → x.kind ≡ k → is_wide nodes (record x { kind = k }) Right (tag ∷ []) ≡ true → is_wide nodes x Right (tag ∷ []) ≡ true
      width_of k is = subst (λ z. is_wide nodes (record x { kind = z }) Right (tag ∷ []) ≡ true) (sym is)

      by : (k : Kind) → x.kind ≡ k → (b : Bool) → AllByRecursion (TaskFits nodes s) (tasks (takes_elements k && b))
      by Join is b = if_passed (width_of Join is refl) b
      by Negated is b = if_passed (width_of Negated is refl) b
      by (Group giver width members) is b = tt
      by (Terminal rule) is b = tt

  fit_below : (i : ℕ) → AllByRecursion (TaskFits nodes s) (tasks_below alphas nodes plus tag e i)
  fit_below zero = tt
  fit_below (suc i) =
      AllByRecursion-append (TaskFits nodes s) (tasks_below alphas nodes plus tag e i) (task_at alphas plus tag e i (slice_get nodes i)) (fit_below i) (fit_at i (slice_get nodes i) refl)

  pub tasks_fit : (i : ℕ) → All (TaskFits nodes s) (tasks_below alphas nodes plus tag e i)
  tasks_fit i = All-from_recursion (TaskFits nodes s) (tasks_below alphas nodes plus tag e i) (fit_below i)

-- and so does the flight with them, or without where a call failed
pub fit_after : {T E : Type 0} (nodes : List Node) (s : Stored) (old new : List Task) (r : Result T E) (fed : List Task) → OnOk r (new ≡ old ++ fed) → OnErr r (new ≡ old)
    → All (TaskFits nodes s) old → All (TaskFits nodes s) fed → All (TaskFits nodes s) new
fit_after nodes s old new (Ok v) fed is same all fit = subst (All (TaskFits nodes s)) (sym is) (All-append (TaskFits nodes s) old fed all fit)
fit_after nodes s old new (Err e) fed is same all fit = subst (All (TaskFits nodes s)) (sym same) all
