-- What right sides and commands make are whole elements.
use Rattle.std.proofs.Common.{◌≡◌, ℕ, zero, suc, List, [], ◌∷◌, ◌++◌, length, fold, Bool, true, false, cond, Option, Some, None, is_some, Ok, IfOk, refl, sym, subst, inl, inr, ◌⊎◌, nat_lt, slice_get, unwrap_or, ◌==◌}
use Rattle.std.specs.Prelude.{slice_set}
use Rattle.std.specs.List.{list_all, list_any}
use Rattle.std.proofs.lemmas.Bool.{and_parts}
use Rattle.ops_base.specs.declared.actions.Action.{Action}
use Rattle.ops_base.specs.declared.actions.Action.TheVariants as action
use Rattle.ops_base.specs.declared.elements.Change.{Change}
use Rattle.ops_base.specs.declared.elements.Change.TheVariants as change
use Rattle.ops_base.specs.declared.elements.Class.{Class}
use Rattle.ops_base.specs.declared.elements.Element.{Element}
use Rattle.ops_base.specs.declared.matching.Binding.{Binding}
use Rattle.ops_base.specs.declared.values.Value.{Value}
use Rattle.ops_base.specs.Valid.{Known, is_cell, class_of, class_of_cell, no_class, fits, class_is_valid, put_is_valid, puts_are_valid, action_is_valid, actions_are_valid, known_after}
use Rattle.ops_base.specs.WorkingMemory.{done, without_tag}
use Rattle.ops_base.proofs.Filtered.{filter_member}
use Rattle.ops_base.proofs.Members.{IsMember, all_from_members, member_cases}
use Rattle.ops_io.specs.Output.{column_after}
use Rattle.ops_meaning.specs.Acting.{Setting, ActState, no_element, evaluated, has_tag, cell_of, changed, next_element, added, removed, modified, made_fields, modified_fields, made_by, made_last, bound, first_of, changes_told, action_done, actions_done, in_action}
use Rattle.ops_meaning.specs.Effects.{followed_by, outcome_as}
use Rattle.ops_meaning.specs.Layout.{Apart}
use Rattle.run_laws.specs.Elements.{AreFieldsOf, IsWhole}
use Rattle.run_laws.specs.Finding.{is_add, is_class}
use Rattle.run_laws.specs.Firings.{HoldWhole}
use Rattle.run_laws.proofs.Evaluating.{KeepsValued, KeepsFilled, evaluated_keeps, made_keeps, over_keeps, items_keep}
use Rattle.run_laws.proofs.Knowing.{Holds, Knows, there, all_at, holds_there, same_class, action_knows}
use Rattle.run_laws.proofs.Parts.{ok_behind, ok_on, ok_as, ok_more, ok_both}
use Rattle.run_laws.proofs.Rooms.{HasRoom, fits_class, no_fields_room, puts_made_room, puts_over_room}

-- ---- lists of elements

abbrev pub EachWhole : List Class → List Element → Type 0
EachWhole classes es = (e : Element) → IsMember e es → IsWhole classes e

-- the elements that these changes make are whole
abbrev pub MakesWhole : List Class → List Change → Type 0
MakesWhole classes changes = (e : Element) → IsMember (change.Add e) changes → IsWhole classes e

module _ (classes : List Class) where
  pub one_more : (es : List Element) (x : Element) → EachWhole classes es → IsWhole classes x → EachWhole classes (es ++ x ∷ [])
  one_more es x h w e m = by (member_cases e es (x ∷ []) m)
    where
      by : IsMember e es ⊎ IsMember e (x ∷ []) → IsWhole classes e
      by (inl m) = h e m
      by (inr (inl same)) = let P : Element → Type 0 = IsWhole classes in subst P (sym same) w
      by (inr (inr m)) = absurd m

  one_set : (es : List Element) (n : ℕ) (x : Element) → EachWhole classes es → IsWhole classes x → EachWhole classes (slice_set es n x)
  one_set [] n x h w e m = absurd m
  one_set (y ∷ es) zero x h w e (inl same) = let P : Element → Type 0 = IsWhole classes in subst P (sym same) w
  one_set (y ∷ es) zero x h w e (inr m) = h e (inr m)
  one_set (y ∷ es) (suc n) x h w e (inl same) = h e (inl same)
  one_set (y ∷ es) (suc n) x h w e (inr m) = one_set es n x (λ f k. h f (inr k)) w e m

  pub got_whole : (es : List Element) (n : ℕ) → is_some (slice_get es n) ≡ true → EachWhole classes es → IsWhole classes (unwrap_or (slice_get es n) no_element)
  got_whole [] n some h = absurd (cc)
  got_whole (x ∷ es) zero some h = h x (inl refl)
  got_whole (x ∷ es) (suc n) some h = got_whole es n some (λ e m. h e (inr m))

  added_more : (cs : List Change) (x : Element) → MakesWhole classes cs → IsWhole classes x → MakesWhole classes (cs ++ change.Add x ∷ [])
  added_more cs x h w e m = by (member_cases (change.Add e) cs (change.Add x ∷ []) m)
    where
      by : IsMember (change.Add e) cs ⊎ IsMember (change.Add e) (change.Add x ∷ []) → IsWhole classes e
      by (inl m) = h e m
      by (inr (inl same)) = let is : e ≡ x = cc in let P : Element → Type 0 = IsWhole classes in subst P (sym is) w
      by (inr (inr m)) = absurd m

  removed_more : (cs : List Change) (tag : ℕ) → MakesWhole classes cs → MakesWhole classes (cs ++ change.Remove tag ∷ [])
  removed_more cs tag h e m = by (member_cases (change.Add e) cs (change.Remove tag ∷ []) m)
    where
      by : IsMember (change.Add e) cs ⊎ IsMember (change.Add e) (change.Remove tag ∷ []) → IsWhole classes e
      by (inl m) = h e m
      by (inr (inl same)) = absurd (cc)
      by (inr (inr m)) = absurd m

  last_from : (cs : List Change) (x : Element) → MakesWhole classes cs → IsWhole classes x ⊎ (list_any is_add cs ≡ true) → IsWhole classes (fold made_by x cs)
  last_from [] x h (inl w) = w
  last_from [] x h (inr one) = absurd (cc)
  last_from (change.Add e ∷ cs) x h one = last_from cs e (λ f m. h f (inr m)) (inl (h e (inl refl)))
  last_from (change.Remove tag ∷ cs) x h one = last_from cs x (λ f m. h f (inr m)) one

  -- the element that was made last is whole, if one was made
  last_whole : (cs : List Change) → MakesWhole classes cs → list_any is_add cs ≡ true → IsWhole classes (made_last cs)
  last_whole cs h one = last_from cs no_element h (inr one)

  pub done_whole : (wm : List Element) (cs : List Change) → EachWhole classes wm → MakesWhole classes cs → EachWhole classes (done wm cs)
  done_whole wm [] h k = h
  done_whole wm (change.Add x ∷ cs) h k = done_whole (wm ++ x ∷ []) cs (one_more wm x h (k x (inl refl))) (λ e m. k e (inr m))
  done_whole wm (change.Remove tag ∷ cs) h k =
      done_whole (without_tag tag wm) cs (λ e m. h e (filter_member _ e wm m).0) (λ e m. k e (inr m))

-- ---- right sides

-- the cells hold whole elements, and whole elements were made
pub record Wholes (classes : List Class) (elements : List Element) (changes : List Change) : Type 0 where
  pub cells : EachWhole classes elements
  pub made : MakesWhole classes changes

module _ (classes : List Class) (valid : list_all class_is_valid classes ≡ true) where
  abbrev Kept : Known → List Binding → List Element → List Change → List Element → Type 0
  Kept k bindings elements changes wm = Holds classes k bindings elements changes × Wholes classes elements changes

  abbrev pub AreWholes : ActState → Type 0
  AreWholes d = Wholes classes d.cells d.changes

  added_whole : (d : ActState) (class : ℕ) (fields : List Value) → is_class classes class ≡ true → AreFieldsOf (class_of classes class) (length fields) → AreWholes d → AreWholes (added d class fields)
  added_whole d class fields exists room p = record {
    cells = p.cells;
    made = added_more classes d.changes (next_element d class fields) p.made (record { class = exists; fields = room });
  }

  removed_whole : (tag : ℕ) (d : ActState) → AreWholes d → AreWholes (removed d tag)
  removed_whole tag d p = by (has_tag d.wm tag)
    where
      by : (b : Bool) → AreWholes (cond b (changed d (change.Remove tag)) d)
      by true = record { cells = p.cells; made = removed_more classes d.changes tag p.made }
      by false = p

  all_removed_whole : (cells : List ℕ) (d : ActState) → AreWholes d → AreWholes (fold (λ d c. removed d (cell_of d c).tag) d cells)
  all_removed_whole [] d p = p
  all_removed_whole (c ∷ cells) d p =
      all_removed_whole cells (removed d (cell_of d c).tag) (removed_whole (cell_of d c).tag d p)

  modified_whole : (d : ActState) (cell : ℕ) (fields : List Value) → is_class classes (cell_of d cell).class ≡ true → AreFieldsOf (class_of classes (cell_of d cell).class) (length fields) → AreWholes d → AreWholes (modified d cell fields)
  modified_whole d cell fields exists room p =
      let e = cell_of d cell in
      let r = removed_whole e.tag d p in
      let w : IsWhole classes (next_element d e.class fields) = record { class = exists; fields = room } in record {
        cells = one_set classes d.cells cell (next_element d e.class fields) p.cells w;
        made = added_more classes (removed d e.tag).changes (next_element (removed d e.tag) e.class fields) r.made (record { class = exists; fields = room });
      }

pub action_whole : (s : Setting) (valid : list_all class_is_valid s.classes ≡ true) (column : ℕ) (k : Known) (a : Action) (d : ActState) → Knows s.classes k d → AreWholes s.classes valid d → action_is_valid s.classes k a ≡ true
    → IfOk (action_done s column a d).outcome (AreWholes s.classes valid)
action_whole s valid column k (action.Make class puts) d p q h =
    let c = class_of s.classes class in
    let parts = and_parts (nat_lt class (length s.classes)) (puts_are_valid s.classes k c puts) h in
    let each = (and_parts (fits puts) (list_all (put_is_valid s.classes k c) puts) parts.1).1 in
    let fit = fits_class c (all_at class_is_valid s.classes class no_class valid parts.0) in
    let P = Kept s.classes valid k in
    let start = made_fields s.classes c puts d in
    ok_on (AreWholes s.classes valid) (AreWholes s.classes valid) [] (followed_by start (λ f. Ok (added f.doing class f.fields))) (changes_told s d (column_after column []))
    (ok_behind (λ f. KeepsFilled P s.classes f × HasRoom c f) (AreWholes s.classes valid) start (λ f. Ok (added f.doing class f.fields))
    (ok_both (KeepsFilled P s.classes) (HasRoom c) start (made_keeps P s.classes c puts _ (p, q)) (puts_made_room s.classes k c puts _ each (no_fields_room c fit)))
    (λ f r. let both = r.0 in added_whole s.classes valid f.doing class f.fields (there s.classes class parts.0) r.1 both.1))
    (λ d q. q)
action_whole s valid column k (action.Modify cell puts) d p q h =
    let c = class_of_cell s.classes k cell in
    let parts = and_parts (is_cell k cell) (puts_are_valid s.classes k c puts) h in
    let each = (and_parts (fits puts) (list_all (put_is_valid s.classes k c) puts) parts.1).1 in
    let P = Kept s.classes valid k in
    let start = modified_fields s.classes puts cell d in
    let held = and_parts (is_some (slice_get d.cells cell)) (is_class s.classes (cell_of d cell).class) (holds_there s.classes k d p cell parts.0) in
    let whole = got_whole s.classes d.cells cell held.0 q.cells in
    let R : Class → Type 0 = λ c. AreFieldsOf c (length (cell_of d cell).fields) in
    let room : AreFieldsOf c (length (cell_of d cell).fields) = subst R (sym (same_class s.classes k d p cell)) whole.fields in
    ok_on (AreWholes s.classes valid) (AreWholes s.classes valid) [] (followed_by start (λ f. Ok (modified f.doing cell f.fields))) (changes_told s d (column_after column []))
    (ok_behind (λ f. KeepsFilled P s.classes f × HasRoom c f) (AreWholes s.classes valid) start (λ f. Ok (modified f.doing cell f.fields))
    (ok_both (KeepsFilled P s.classes) (HasRoom c) start (over_keeps P s.classes puts _ (p, q)) (puts_over_room s.classes k c puts _ each room))
    (λ f r. let both = r.0 in
    let there = and_parts (is_some (slice_get f.doing.cells cell)) (is_class s.classes (cell_of f.doing cell).class) (holds_there s.classes k f.doing both.0 cell parts.0) in
    let S : Class → Type 0 = λ c. AreFieldsOf c (length f.fields) in
    modified_whole s.classes valid f.doing cell f.fields there.1 (subst S (same_class s.classes k f.doing both.0 cell) r.1) both.1))
    (λ d q. q)
action_whole s valid column k (action.Remove cells) d p q h = all_removed_whole s.classes valid cells d q
action_whole s valid column k (action.Write items) d p q h =
    items_keep (λ bindings elements changes wm. Wholes s.classes elements changes) s.classes Apart column items d q
action_whole s valid column k (action.Bind v t) d p q h =
    let P : List Binding → List Element → List Change → List Element → Type 0 = λ bindings elements changes wm. Wholes s.classes elements changes in
    ok_behind (KeepsValued P s.classes) (AreWholes s.classes valid) (evaluated s.classes t d) (λ w. Ok (bound w.doing v (first_of w.values)))
    (evaluated_keeps P s.classes t d q) (λ w r. record { cells = r.cells; made = r.made })
action_whole s valid column k (action.Cbind cell) d p q h =
    let some = (and_parts (is_some k.made) (cell == length k.cells) h).0 in
    record { cells = one_more s.classes d.cells (made_last d.changes) q.cells (last_whole s.classes d.changes q.made (by k.made refl some)); made = q.made }
  where
    by : (o : Option ℕ) → k.made ≡ o → is_some o ≡ true → list_any is_add d.changes ≡ true
    by None is some = absurd (cc)
    by (Some c) is some = (p.made c is).one
action_whole s valid column k action.Halt d p q h = record { cells = q.cells; made = q.made }
action_whole s valid column k (action.Build template holes) d p q h = record { cells = q.cells; made = q.made }

-- valid actions make whole elements
pub actions_whole : (s : Setting) (valid : list_all class_is_valid s.classes ≡ true) (column n : ℕ) (k : Known) (actions : List Action) (d : ActState) → Knows s.classes k d → AreWholes s.classes valid d → actions_are_valid s.classes k actions ≡ true
    → IfOk (actions_done s column n actions d).outcome (AreWholes s.classes valid)
actions_whole s valid column n k [] d p q h = q
actions_whole s valid column n k (a ∷ rest) d p q h =
    let parts = and_parts (action_is_valid s.classes k a) (actions_are_valid s.classes (known_after k a) rest) h in
    let e = action_done s column a d in
    let Both : ActState → Type 0 = λ d. Knows s.classes (known_after k a) d × AreWholes s.classes valid d in
    ok_on Both (AreWholes s.classes valid) e.bytes (outcome_as (λ d. d) (in_action n) e.outcome) (λ d. actions_done s (column_after column e.bytes) (suc n) rest d)
    (ok_as Both Both (λ d. d) (in_action n) e.outcome
    (ok_both (Knows s.classes (known_after k a)) (AreWholes s.classes valid) e.outcome (action_knows s column k a d p parts.0) (action_whole s valid column k a d p q parts.0)) (λ d r. r))
    (λ d r. actions_whole s valid (column_after column e.bytes) (suc n) (known_after k a) rest d r.0 r.1 parts.1)

-- before each of them the cells hold whole elements
pub actions_hold_whole : (s : Setting) (valid : list_all class_is_valid s.classes ≡ true) (column : ℕ) (k : Known) (actions : List Action) (d : ActState) → Knows s.classes k d → AreWholes s.classes valid d → actions_are_valid s.classes k actions ≡ true
    → HoldWhole s column actions d
actions_hold_whole s valid column k [] d p q h = tt
actions_hold_whole s valid column k (a ∷ rest) d p q h =
    let parts = and_parts (action_is_valid s.classes k a) (actions_are_valid s.classes (known_after k a) rest) h in
    let e = action_done s column a d in
    let Both : ActState → Type 0 = λ d. Knows s.classes (known_after k a) d × AreWholes s.classes valid d in (
      all_from_members (IsWhole s.classes) d.cells q.cells,
      ok_more Both (HoldWhole s (column_after column e.bytes) rest) e.outcome
          (ok_both (Knows s.classes (known_after k a)) (AreWholes s.classes valid) e.outcome (action_knows s column k a d p parts.0) (action_whole s valid column k a d p q parts.0))
          (λ next r. actions_hold_whole s valid (column_after column e.bytes) (known_after k a) rest next r.0 r.1 parts.1),
    )
