-- A step that changes views alone keeps the rule, where the views that it changes hold nothing.
use Rattle.std.proofs.Common.{◌≡◌, ℕ, ◌≤◌, ◌≢◌, ◌⊎◌, true, false, List, length, sym, ap, ◌∙◌, ⊎_elim, inl, inr, arith}
use Rattle.std.specs.Prelude.{Option, Some, None}
use Rattle.std.specs.List.{All}
use lib.ListN.{get_elem?}
use Rattle.atomic_table.specs.Table.{State}
use Rattle.turn_table.specs.declared.views.Share.{Share}
use Rattle.turn_table.specs.declared.views.View.{View}
use Rattle.turn_table.specs.Log.{IsAt}
use Rattle.turn_table.specs.Views.{spent}
use Rattle.turn_table.specs.Rule.{IsJoined, IsHome, IsOut, KnowsTruly, HasFirst, count_in_use, Keeps}
use Rattle.turn_table.proofs.Lists.{true_ne_false, none_ne_some, same_item}

module _ {X E : Type 0} where
  -- the first pass, where it has this number and has not ended, holds nothing
  pub record IsFirst (v : View X E) : Type 0 where
    pub in_use : v.in_use ≡ true
    pub not_ended : v.ended ≡ false
    pub holds_nothing : v.held ≡ None
    pub is_0 : v.number ≡ 0

  -- a view in use is not spent, and one that holds nothing is no holder's
  pub is_not_spent : (vs : List (View X E)) (pass q : ℕ) (v : View X E) → IsAt vs pass v → v.in_use ≡ true → IsAt vs q spent
      → q ≢ pass
  is_not_spent vs pass q v sits on e h = true_ne_false (sym on ∙ ap (λ (u : View X E). u.in_use) (same_item vs pass v spent sits (ap (get_elem? vs) (sym h) ∙ e)))

  pub is_no_holder : (vs : List (View X E)) (pass q : ℕ) (v u : View X E) (cell : ℕ) (was : X) → IsAt vs pass v → v.held ≡ None
      → IsAt vs q u → u.held ≡ Some record { cell = cell; value = was } → q ≢ pass
  is_no_holder vs pass q v u cell was sits idle e holds h = none_ne_some record { cell = cell; value = was } (sym idle ∙ (ap (λ (t : View X E). t.held) (same_item vs pass v u sits (ap (get_elem? vs) (sym h) ∙ e)) ∙ holds))

module _ {X E N : Type 0} {entries : X → List E} {name : X → N} {signature : E → Option ℕ} {values : List X} where
  module _ (s : State (Option X) (View X E)) (r : Keeps entries name signature values s) (views' : List (View X E)) where
    -- a view that the step makes
    pub record IsNew (pass : ℕ) (v : View X E) : Type 0 where
      pub holds_nothing : v.held ≡ None
      pub known : v.in_use ≡ true → KnowsTruly entries name values r.log s.words views' pass v
      pub not_in_use : v.in_use ≡ false → v ≡ spent

    pub record Rest : Type 0 where
      pub each : (pass : ℕ) (v : View X E) → IsAt views' pass v → IsAt s.views pass v ⊎ IsNew pass v
      pub holders : (pass : ℕ) (v : View X E) (cell : ℕ) (was : X) → IsAt s.views pass v
          → v.held ≡ Some record { cell = cell; value = was } → IsAt views' pass v
      pub spent_stay : (pass : ℕ) → IsAt s.views pass spent → IsAt views' pass spent
      pub no_fewer : length s.views ≤ length views'
      pub ended : (pass : ℕ) (v : View X E) → IsAt views' pass v → v.ended ≡ true
          → (v.log ≡ r.log) × (pass ≡ 0) × (count_in_use views' ≡ 1)
      pub first : HasFirst views'

  pub still_joined : (s : State (Option X) (View X E)) (r : Keeps entries name signature values s) (views' : List (View X E))
      → ((pass : ℕ) → IsAt s.views pass spent → IsAt views' pass spent)
      → (l : List (Share E)) → All (IsJoined r.log s.views) l → All (IsJoined r.log views') l
  still_joined s r views' stay l all k d low = let old = all k d low in (old.0, stay _ old.1)

  still_known : (s : State (Option X) (View X E)) (r : Keeps entries name signature values s) (views' : List (View X E))
      → ((pass : ℕ) → IsAt s.views pass spent → IsAt views' pass spent)
      → (pass : ℕ) (v : View X E) → KnowsTruly entries name values r.log s.words s.views pass v → KnowsTruly entries name values r.log s.words views' pass v
  still_known s r views' stay pass v kn = record { same_values = kn.same_values; same_number = kn.same_number; own = kn.own; found = kn.found; joined = still_joined s r views' stay v.joined kn.joined; seen = kn.seen }

  one_holds : (s : State (Option X) (View X E)) (r : Keeps entries name signature values s) (views' : List (View X E))
      → Rest s r views'
      → (cell p q : ℕ) (v w : View X E) (a b : X) → IsAt views' p v → IsAt views' q w → v.held ≡ Some record { cell = cell; value = a } → w.held ≡ Some record { cell = cell; value = b } → p ≡ q
  one_holds s r views' rest cell p q v w a b ep eq hv hw = ⊎_elim
      (λ (old : IsAt s.views p v). ⊎_elim
      (λ (old' : IsAt s.views q w). r.one_holds cell p q v w a b old old' hv hw)
      (λ (new : IsNew s r views' q w). absurd (none_ne_some record { cell = cell; value = b } (sym new.holds_nothing ∙ hw)))
      (rest.each q w eq))
      (λ (new : IsNew s r views' p v). absurd (none_ne_some record { cell = cell; value = a } (sym new.holds_nothing ∙ hv)))
      (rest.each p v ep)

  pub rested : (s : State (Option X) (View X E)) (r : Keeps entries name signature values s) (views' : List (View X E))
      → Rest s r views' → Keeps entries name signature values record { words = s.words; homes = s.homes; views = views' }
  rested s r views' rest = record {
    log = r.log;
    words = r.words;
    slots = r.slots;
    cells = λ cell x e. ⊎_elim (λ (h : IsHome entries name r.log s.words s.homes cell x). inl h)
        (λ (o : IsOut entries r.log s.words s.views cell x). inr record { word = o.word; pass = o.pass; view = o.view; was = o.was; sits = rest.holders o.pass o.view cell o.was o.sits o.holds; holds = o.holds })
        (r.cells cell x e);
    one_holds = one_holds s r views' rest;
    in_use = λ p v e on. ⊎_elim (λ (old : IsAt s.views p v). still_known s r views' rest.spent_stay p v (r.in_use p v old on)) (λ (new : IsNew s r views' p v). new.known on) (rest.each p v e);
    not_in_use = λ p v e off. ⊎_elim (λ (old : IsAt s.views p v). r.not_in_use p v old off) (λ (new : IsNew s r views' p v). new.not_in_use off) (rest.each p v e);
    ended = rest.ended;
    first = rest.first;
    unborn = λ p le. let more = rest.no_fewer in r.unborn p (omega arith);
    rows = r.rows;
    unsigned = r.unsigned;
  }

  module _ (s : State (Option X) (View X E)) (r : Keeps entries name signature values s) (pass : ℕ) (v : View X E) (sits : IsAt s.views pass v) (is : IsFirst v) where
    pub at_0 : 0 ≡ pass
    at_0 = sym is.is_0 ∙ (r.in_use pass v sits is.in_use).same_number

    pub first_view : r.first.view ≡ v
    first_view = same_item s.views pass r.first.view v (ap (get_elem? s.views) (sym at_0) ∙ r.first.sits) sits

    pub none_ended : (q : ℕ) (u : View X E) → IsAt s.views q u → u.ended ≡ true → ⊥
    none_ended q u e end = let z : q ≡ pass = (r.ended q u e end).1 ∙ at_0 in
        true_ne_false (sym end ∙ (ap (λ (t : View X E). t.ended) (same_item s.views pass u v (ap (get_elem? s.views) (sym z) ∙ e) sits) ∙ is.not_ended))
