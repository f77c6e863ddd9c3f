-- A give and a give back keep the rule.
use Rattle.std.proofs.Common.{◌≡◌, ℕ, ◌*◌, ◌<◌, true, false, List, [], ◌∷◌, ◌++◌, length, set, drop, refl, sym, ap, ◌∙◌, subst, inl, arith, length-set}
use Rattle.std.proofs.Math.Seq.{drop-append_seam}
use Rattle.std.specs.Prelude.{Option, Some}
use Rattle.std.specs.List.{All}
use mathlib.Core.Option.{some, some-injective}
use lib.ListN.{get_elem?}
use Rattle.atomic_table.specs.Table.{State, Me, gives, Allows}
use Rattle.atomic_table.proofs.Lists.{set_here, set_else}
use Rattle.turn_table.specs.declared.views.Held.{Held}
use Rattle.turn_table.specs.declared.views.View.{View}
use Rattle.turn_table.specs.Log.{MaySign, as_rows}
use Rattle.turn_table.specs.Views.{after_turn}
use Rattle.turn_table.specs.Rule.{Keeps}
use Rattle.turn_table.specs.Steps.{LetsGo}
use Rattle.turn_table.proofs.Lists.{none_ne_some, same_some, is_inside}
use Rattle.turn_table.proofs.Rows.{longer_list}
use Rattle.turn_table.proofs.Moves.{moved}

module _ {X E N : Type 0} (entries : X → List E) (name : X → N) (signature : E → Option ℕ) (values : List X) where
  abbrev V : Type 0
  V = View X E

  abbrev Rule : State (Option X) V → Type 0
  Rule = Keeps entries name signature values

  -- what lets a pass go of its cell
  pub record CanLetGo (v : V) (cell word : ℕ) (was value : X) (es : List E) : Type 0 where
    pub in_use : v.in_use ≡ true
    pub not_ended : v.ended ≡ false
    pub held : v.held ≡ Some record { cell = cell; value = was }
    pub longer : entries value ≡ entries was ++ es
    pub same_name : name value ≡ name was
    pub may_sign : All (MaySign signature v.number) es
    pub counts : word ≡ 2 * length (entries value)

  goes : (slots pass : ℕ) (v : V) (cell word : ℕ) (was value : X) (es : List E) → CanLetGo v cell word was value es
      → Allows Rule slots pass (v, (cell, Some value) ∷ []) cell (λ _. word) (λ _. LetsGo entries (v, (cell, Some value) ∷ []))
  goes slots pass v cell word was value es can s r _ sits _ =
      let kn = r.in_use pass v sits can.in_use in
      let f = kn.found cell was can.held in
      let w = after_turn entries v cell was value in
      let added : drop (length (entries was)) (entries value) ≡ es = ap (drop (length (entries was))) can.longer
      ∙ drop-append_seam (entries was) es in
      let inside : cell < length s.homes = (let low = is_inside values cell f.first f.begins in let long = r.slots in omega arith) in (
        w,
        gives,
        tt,
        moved entries name signature values s r cell word pass f.first value v w es (set s.homes cell (some (Some value))) record {
          begins = f.begins;
          sits = sits;
          in_use = can.in_use;
          not_ended = can.not_ended;
          same = refl;
          own = λ i. v.own ++ as_rows (kn.same_number i) cell (added i);
          seen = refl;
          list = can.longer ∙ (ap (λ l. l ++ es) f.list ∙ longer_list entries r.log pass cell es f.first);
          same_name = can.same_name ∙ f.same_name;
          slots = length-set s.homes cell (some (Some value));
          others = λ d ne. set_else s.homes cell d (some (Some value)) ne;
          may_sign = subst (λ p. All (MaySign signature p) es) kn.same_number can.may_sign;
          held = λ d a e. ap (λ (z : Held X). z.cell) (same_some record { cell = d; value = a } record { cell = cell; value = was } (sym e ∙ can.held));
          free = λ q u a ne e hu. ne (r.one_holds cell q pass u v a was e sits hu can.held);
          held' = λ d a e. absurd (none_ne_some record { cell = d; value = a } e);
          now = inl (set_here s.homes cell (some (Some value)) inside, can.counts);
        },
        (λ cell' was' value' held' slot'.
            let h = same_some record { cell = cell; value = was } record { cell = cell'; value = was' } (sym can.held ∙ held') in
            let p : (cell, Some value) ≡ (cell', Some value') = some-injective _ _ (ap (λ l. get_elem? l 0) slot') in
            let same = same_some value value' (ap (λ (z : ℕ × Option X). z.1) p) in
            λ i. (after_turn entries v (h i).cell (h i).value (same i), [])),
      )

  pub lets_go : (slots pass : ℕ) (me : Me (Option X) V) (cell word : ℕ) (was value : X) (es : List E)
      → CanLetGo me.0 cell word was value es → me.1 ≡ (cell, Some value) ∷ []
      → Allows Rule slots pass me cell (λ _. word) (λ _. LetsGo entries me)
  lets_go slots pass me cell word was value es can slot =
      subst (λ (l : List (ℕ × Option X)). Allows Rule slots pass (me.0, l) cell (λ _. word) (λ _. LetsGo entries (me.0, l))) (sym slot) (goes slots pass me.0 cell word was value es can)

-- what a pass made itself once it has let go, where the value got these entries
pub own_after : {X E : Type 0} (entries : X → List E) (v : View X E) (cell number : ℕ) (was value : X) (es : List E)
    → v.number ≡ number → entries value ≡ entries was ++ es
    → (after_turn entries v cell was value).own ≡ v.own ++ as_rows number cell es
own_after entries v cell number was value es same longer = let added : drop (length (entries was)) (entries value) ≡ es = ap (drop (length (entries was))) longer ∙ drop-append_seam (entries was) es in
    λ i. v.own ++ as_rows (same i) cell (added i)
