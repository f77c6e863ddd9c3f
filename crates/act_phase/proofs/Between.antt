-- A right side between two of its actions: the one that is next.
use Rattle.std.proofs.Common.{◌≡◌, ◌+◌, ◌<◌, length, get_or, Option, Some, Result, ap, sym, ◌∙◌, subst}
use Rattle.std.specs.Prelude.{slice_get, IfSome}
use Rattle.std.specs.Borrow.{Bor}
use Rattle.std.proofs.lemmas.Option.{slice_get-get_or}
use Rattle.ops_base.specs.declared.actions.Action.{Action}
use Rattle.ops_io.specs.Coming.{Coming}
use Rattle.ops_meaning.specs.Acting.{ActState as Meant, Misdeed, action_done, in_action}
use Rattle.ops_meaning.specs.Effects.{Effect, told_as}
use Rattle.act_phase.specs.Deeds.{Scene, Does}
use Rattle.act_phase.specs.Outcomes.{failure_of, is_read}
use Rattle.act_phase.specs.State.{Between, doing_of}
use Rattle.act_phase.specs.declared.outcome.ActFault.{ActFault}

-- what the next action does, where it is this one
abbrev pub next_deed : Scene → Between → Action → Coming → Effect Misdeed Meant
next_deed a d x c = told_as (λ d. d) (in_action (d.done + 1)) (action_done d.state.setting a.port.out.column x (doing_of d.state a.names c))

one_there : (x a : Action) (o : Option Action) → o ≡ Some x → o ≡ Some a → x ≡ a
one_there x a o e f = cc

-- what stands at the place is the action that is asked for
pub is_next : (d e : Between) → d ≡ e → (x : Bor Action) (a : Action) (r : Option (Bor Action)) → IfSome r (λ x. x.now ≡ get_or d.actions d.done x.now) → r ≡ Some x → e.done < length e.actions → slice_get e.actions e.done ≡ Some a → x.now ≡ a
is_next d e same x a r got at within is =
    let P : Option (Bor Action) → Type 0 = λ r. IfSome r (λ x. x.now ≡ get_or d.actions d.done x.now) in
    let Q : Between → Type 0 = λ d. x.now ≡ get_or d.actions d.done x.now in
    let there : x.now ≡ get_or e.actions e.done x.now = subst Q same (subst P at got) in
    one_there x.now a (slice_get e.actions e.done) (slice_get-get_or e.actions e.done x.now within ∙ ap (λ x. Some x) (sym there)) is

pub does_next : {X : Type 0} {view : X → Coming → Meant} {r : Result X ActFault} {a b : Scene} (d e : Between) → d ≡ e → (x y : Action) → x ≡ y → Does view failure_of is_read r a b (next_deed a d x) → Does view failure_of is_read r a b (next_deed a e y)
does_next {view = view} {r = r} {a = a} {b = b} d e same x y is p =
    let P : Between → Type 0 = λ d. Does view failure_of is_read r a b (next_deed a d x) in
    let Q : Action → Type 0 = λ x. Does view failure_of is_read r a b (next_deed a e x) in subst Q is (subst P same p)
