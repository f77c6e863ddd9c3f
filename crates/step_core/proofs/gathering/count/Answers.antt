-- The total at hand counts one more, or it is reported and another one is at hand.
use Rattle.std.proofs.Common.{◌≡◌, ◌++◌, Bool, List, true, false, Some, Option, sym, ap, ap₂, subst, ◌∙◌, rules, ℤ, ◌+ℤ◌, to_z, of_z, w64, FitsSigned}
use Rattle.std.specs.Option.{option_to_list}
use Rattle.std.proofs.lemmas.Int.{to_z-of_z}
use Rattle.ops_base.specs.declared.rules.Inst.{Inst}
use Rattle.token_line.specs.Bags.{sign}
use Rattle.step_core.specs.declared.gathering.Total.{Total}
use Rattle.step_core.specs.inner.Gathering.{AreToldBut, HaveAtHand, added, has_come, has_gone, is_same}
use Rattle.step_core.proofs.Results.{on_ok_both}
use Rattle.step_core.proofs.Telling.{chosen, counted_at_hand, some_is, turned}
use Rattle.step_core.proofs.gathering.count.Goals as goal
use Rattle.step_core.proofs.gathering.count.Goals.{in-Some+else-is_same, in_default}

pub returns-then-is_same : goal.returns-then-is_same
returns-then-is_same c ts told =
    let m = c.args.next in
    let x = c.in-Some.total in
    let come = c.args.told.now.come.items in
    let gone = c.args.told.now.gone.items in
    let same : is_same x.inst m.inst ≡ true = sym c.is_same.ensures ∙ c.if-is_same.true in
    let fits : FitsSigned w64 (x.change +ℤ sign m.plus) = c.requires x c.in-Some.is in
    let a : to_z w64 (of_z w64 x.change) ≡ x.change = search rules in
    let b : to_z w64 (of_z w64 c.change_of.result) ≡ c.change_of.result = search rules in
    let sum : to_z w64 (of_z w64 x.change) +ℤ to_z w64 (of_z w64 c.change_of.result) ≡ x.change +ℤ sign m.plus = ap₂ (λ p q. p +ℤ q) a (b ∙ c.change_of.ensures) in
    let z : to_z w64 (of_z w64 (to_z w64 (of_z w64 x.change) +ℤ to_z w64 (of_z w64 c.change_of.result))) ≡ x.change +ℤ sign m.plus =
    ap (λ p. to_z w64 (of_z w64 p)) sum ∙ to_z-of_z w64 (x.change +ℤ sign m.plus) fits in
    subst (λ (p : ℤ). HaveAtHand (added ts m) (record x { change = p }) come gone) (sym z)
    (counted_at_hand ts x m come gone same (subst (λ (o : Option Total). AreToldBut ts o come gone) c.in-Some.is told))

pub returns : goal.returns
returns c =
    let m = c.args.next in
    let come = c.args.told.now.come.items in
    let gone = c.args.told.now.gone.items in
    let came = c.turn_to.new.told.come.items in
    let went = c.turn_to.new.told.gone.items in
    let o = c.args.hand.now in
    let parts : (c.match-hand.hand ≡ o) × ((x : Total) → o ≡ Some x → is_same x.inst m.inst ≡ false) = elim c.match-hand.branch [
      | in-Some+else-is_same w ↦ (
        w.hand-is ∙ sym w.in-Some.is,
        λ x is. ap (λ (y : Total). is_same y.inst m.inst) (some_is x w.in-Some.total (sym is ∙ w.in-Some.is)) ∙ (sym w.is_same.ensures ∙ w.if-is_same.false),
      )
      | in_default w ↦ (w.hand-is, λ x is. absurd (w.in_default.not-Some x is))
    ] in
    let told : List Inst → (Total → Bool) → Option Total → List Inst = λ old test p. old ++ chosen test (option_to_list p) in
    on_ok_both _ _ _ c.turn_to.result
    (λ more less ts h. turned ts o c.turn_to.new.hand m come gone came went parts.1 (c.turn_to.ensures.hand ∙ ap Some c.begin.ensures) h
    (more ∙ ap (told come has_come) parts.0) (less ∙ ap (told gone has_gone) parts.0))
    c.turn_to.ensures.come c.turn_to.ensures.gone
