-- One pass over what moved reports the same as all totals: those before the one at hand are reported.
use Rattle.std.proofs.Common.{◌≡◌, ◌+◌, ◌<◌, ◌^◌, ◌+ℤ◌, Bool, true, false, cond, List, [], ◌∷◌, ◌++◌, refl, sym, ap, subst, ◌∙◌, append-nil, filter, fold, length, map, slice_get, Option, Some, None, w64, FitsSigned}
use Rattle.token_line.specs.Bags.{sign}
use Rattle.std.proofs.lemmas.List.{map-append}
use Rattle.std.proofs.lemmas.List.Elements.{filter-append}
use Rattle.std.specs.Option.{option_to_list}
use Rattle.ops_base.specs.declared.rules.Inst.{Inst}
use Rattle.step_core.specs.declared.gathering.Moved.{Moved}
use Rattle.step_core.specs.declared.gathering.Total.{Total}
use Rattle.step_core.specs.inner.Gathering.{AreToldBut, HaveAtHand, added, begun, counted_in, has_come, has_gone, is_same}
use Rattle.step_core.proofs.AddingUp.{added-end, at_end, change_fits}

-- ---- what an option holds

pub some_is : {X : Type 0} (x y : X) → Some x ≡ Some y → x ≡ y
some_is x y e = cc

pub not_none : {X : Type 0} (x : X) → Some x ≡ None → ⊥
not_none x e = cc

-- ---- one pass

-- the instantiations of those that the test chooses
abbrev pub chosen : (Total → Bool) → List Total → List Inst
chosen test ts = map (λ (t : Total). t.inst) (filter test ts)

pub chosen-append : (test : Total → Bool) (xs ys : List Total) → chosen test (xs ++ ys) ≡ chosen test xs ++ chosen test ys
chosen-append test xs ys = ap (map (λ (t : Total). t.inst)) (filter-append test xs ys) ∙ map-append (λ (t : Total). t.inst) (filter test xs) (filter test ys)

-- what is at hand is reported, too
pub told_more : (test : Total → Bool) (ts front : List Total) (x : Total) (old new : List Inst) → ts ≡ front ++ x ∷ [] → old ≡ chosen test front → new ≡ old ++ chosen test (x ∷ []) → new ≡ chosen test ts
told_more test ts front x old new all is more = more ∙ (ap (λ is'. is' ++ chosen test (x ∷ [])) is ∙ (sym (chosen-append test front (x ∷ [])) ∙ ap (chosen test) (sym all)))

-- one more counts in the total at hand
pub counted_at_hand : (ts : List Total) (x : Total) (m : Moved) (come gone : List Inst) → is_same x.inst m.inst ≡ true → HaveAtHand ts x come gone → HaveAtHand (added ts m) (counted_in x m) come gone
counted_at_hand ts x m come gone same h = record {
  front = h.front;
  all = ap (λ us. added us m) h.all ∙ (added-end h.front x m ∙ ap (λ b. cond b (h.front ++ counted_in x m ∷ []) ((h.front ++ x ∷ []) ++ begun m ∷ [])) same);
  come_is = h.come_is;
  gone_is = h.gone_is;
}

-- one of another instantiation is at hand next
pub turned : (ts : List Total) (o next : Option Total) (m : Moved) (come gone come' gone' : List Inst) → ((x : Total) → o ≡ Some x → is_same x.inst m.inst ≡ false) → next ≡ Some (begun m) → AreToldBut ts o come gone
    → come' ≡ come ++ chosen has_come (option_to_list o) → gone' ≡ gone ++ chosen has_gone (option_to_list o) → AreToldBut (added ts m) next come' gone'
turned ts None next m come gone come' gone' other is h came went =
    subst (λ o. AreToldBut (added ts m) o come' gone') (sym is)
    (record { front = []; all = ap (λ us. added us m) h.0; come_is = came ∙ (append-nil come ∙ h.1); gone_is = went ∙ (append-nil gone ∙ h.2) })
turned ts (Some x) next m come gone come' gone' other is h came went =
    let step = ap (λ b. cond b (h.front ++ counted_in x m ∷ []) ((h.front ++ x ∷ []) ++ begun m ∷ [])) (other x refl) ∙ ap (λ us. us ++ begun m ∷ []) (sym h.all) in
    subst (λ o. AreToldBut (added ts m) o come' gone') (sym is)
    (record {
      front = ts;
      all = ap (λ us. added us m) h.all ∙ (added-end h.front x m ∙ step);
      come_is = told_more has_come ts h.front x come come' h.all h.come_is came;
      gone_is = told_more has_gone ts h.front x gone gone' h.all h.gone_is went;
    })

-- ---- at the end

-- the totals of what moved are reported, where the last of them is, too
pub all_told : (ts : List Total) (o : Option Total) (x : Total) (come gone come' gone' : List Inst) → o ≡ Some x → AreToldBut ts o come gone
    → come' ≡ come ++ chosen has_come (x ∷ []) → gone' ≡ gone ++ chosen has_gone (x ∷ []) → (come' ≡ chosen has_come ts) × (gone' ≡ chosen has_gone ts)
all_told ts None x come gone come' gone' is h came went = absurd (not_none x (sym is))
all_told ts (Some y) x come gone come' gone' is h came went =
    let same = some_is x y (sym is) in (
      told_more has_come ts h.front y come come' h.all h.come_is (came ∙ ap (λ t. come ++ chosen has_come (t ∷ [])) same),
      told_more has_gone ts h.front y gone gone' h.all h.gone_is (went ∙ ap (λ t. gone ++ chosen has_gone (t ∷ [])) same),
    )

-- where none is at hand there is none
pub none_told : (ts : List Total) (o : Option Total) (come gone : List Inst) → o ≡ None → AreToldBut ts o come gone → (come ≡ chosen has_come ts) × (gone ≡ chosen has_gone ts)
none_told ts None come gone is h = (h.1 ∙ ap (chosen has_come) (sym h.0), h.2 ∙ ap (chosen has_gone) (sym h.0))
none_told ts (Some x) come gone is h = absurd (not_none x is)

-- ---- on the way

-- the total at hand has room for one more
pub hand_fits : (ms : List Moved) (m : Moved) → length ms + 1 < 2 ^ 63 → (x : Total) (o : Option Total) (come gone : List Inst) → o ≡ Some x → AreToldBut (fold added [] ms) o come gone → FitsSigned w64 (x.change +ℤ sign m.plus)
hand_fits ms m few x None come gone is h = absurd (not_none x (sym is))
hand_fits ms m few x (Some y) come gone is h =
    let same = some_is y x is in
    let at = ap (λ ts. slice_get ts (length h.front)) h.all ∙ (at_end h.front y ∙ ap Some same) in
    change_fits ms m few (length h.front) x at
