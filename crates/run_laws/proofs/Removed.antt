-- A removal names an element that is present, so that a trace can show it.
use Rattle.std.proofs.Common.{◌≡◌, ℕ, List, [], ◌∷◌, ◌++◌, map, length, drop, fold, Bool, true, false, cond, ◌==◌, ◌||◌, Some, is_some, Ok, IfOk, refl, ap, sym, ◌∙◌, subst, inl, inr, append_assoc, arith}
use Rattle.std.proofs.lemmas.Bool.Decides.{nat_tests}
use Rattle.std.proofs.lemmas.List.{append-nil}
use Rattle.ops_base.specs.declared.actions.Action.{Action}
use Rattle.ops_base.specs.declared.actions.Action.TheVariants as action
use Rattle.ops_base.specs.declared.elements.Change.{Change}
use Rattle.ops_base.specs.declared.elements.Change.TheVariants as change
use Rattle.ops_base.specs.declared.elements.Element.{Element}
use Rattle.ops_base.specs.declared.matching.Binding.{Binding}
use Rattle.ops_base.specs.declared.values.Value.{Value}
use Rattle.ops_base.specs.Valid.{class_of}
use Rattle.ops_base.specs.WorkingMemory.{change_done, done, tags_of, without_tag, Lawful, HasRisingTags}
use Rattle.ops_base.proofs.Changes.{done_push}
use Rattle.ops_base.proofs.Members.{IsMember, member_from_contains}
use Rattle.ops_io.specs.Output.{column_after}
use Rattle.ops_meaning.specs.Acting.{Setting, ActState, evaluated, has_tag, element_of, cell_of, changed, next_element, added, removed, modified, made_fields, modified_fields, bound, first_of, changes_told, action_done}
use Rattle.ops_meaning.specs.Effects.{followed_by}
use Rattle.ops_meaning.specs.Layout.{Apart}
use Rattle.ops_meaning.specs.Running.{removals}
use Rattle.ops_meaning.proofs.Lawful.{removals_lawful, clearing_lawful}
use Rattle.run_laws.specs.Finding.{RemovalsFind}
use Rattle.run_laws.proofs.Evaluating.{KeepsValued, KeepsFilled, evaluated_keeps, made_keeps, over_keeps, items_keep}
use Rattle.run_laws.proofs.Parts.{ok_behind, ok_on, ok_more}

-- an element that is present is found by its tag
found_by_tag : (wm : List Element) (tag : ℕ) → has_tag wm tag ≡ true → is_some (element_of wm tag) ≡ true
found_by_tag [] tag h = absurd (cc)
found_by_tag (e ∷ wm) tag h = by (e.tag == tag) h (found_by_tag wm tag)
  where
    by : (b : Bool) → (b || has_tag wm tag) ≡ true → (has_tag wm tag ≡ true → is_some (element_of wm tag) ≡ true) → is_some (cond b (Some e) (element_of wm tag)) ≡ true
    by true h later = refl
    by false h later = later h

one_more : (wm : List Element) (cs : List Change) (c : Change) → RemovalsFind wm cs → RemovalsFind (done wm cs) (c ∷ []) → RemovalsFind wm (cs ++ c ∷ [])
one_more wm [] c p q = q
one_more wm (change.Add e ∷ cs) c p q = one_more (wm ++ e ∷ []) cs c p q
one_more wm (change.Remove tag ∷ cs) c p q = (p.0, one_more (without_tag tag wm) cs c p.1 q)

-- ---- right sides

-- After these changes to this working memory, more changes led to the present one.
record Goes (wm : List Element) (before after : List Change) (now : List Element) : Type 0 where
  more : List Change
  changes : after ≡ before ++ more
  memory : done wm more ≡ now
  find : RemovalsFind wm more

drop_front : (xs ys : List Change) → drop (length xs) (xs ++ ys) ≡ ys
drop_front [] ys = refl
drop_front (x ∷ xs) ys = drop_front xs ys

module _ (wm : List Element) (before : List Change) where
  abbrev GoesTo : List Binding → List Element → List Change → List Element → Type 0
  GoesTo bindings elements changes now = Goes wm before changes now

  abbrev GoesOn : ActState → Type 0
  GoesOn d = Goes wm before d.changes d.wm

  -- one more change, which finds what it removes
  change_goes : (changes : List Change) (now : List Element) (c : Change) → Goes wm before changes now → RemovalsFind now (c ∷ []) → Goes wm before (changes ++ c ∷ []) (change_done now c)
  change_goes changes now c p q =
      let P : List Element → Type 0 = λ w. RemovalsFind w (c ∷ []) in record {
        more = p.more ++ c ∷ [];
        changes = ap (λ cs. cs ++ c ∷ []) p.changes ∙ append_assoc before p.more (c ∷ []);
        memory = done_push wm p.more c ∙ ap (λ w. change_done w c) p.memory;
        find = one_more wm p.more c p.find (subst P (sym p.memory) q);
      }

  added_goes : (d : ActState) (class : ℕ) (fields : List Value) → GoesOn d → GoesOn (added d class fields)
  added_goes d class fields p = change_goes d.changes d.wm (change.Add (next_element d class fields)) p tt

  removed_goes : (tag : ℕ) (d : ActState) → GoesOn d → GoesOn (removed d tag)
  removed_goes tag d p = by (has_tag d.wm tag) refl
    where
      by : (b : Bool) → has_tag d.wm tag ≡ b → GoesOn (cond b (changed d (change.Remove tag)) d)
      by true is = change_goes d.changes d.wm (change.Remove tag) p (found_by_tag d.wm tag is, tt)
      by false is = p

  all_removed_goes : (cells : List ℕ) (d : ActState) → GoesOn d → GoesOn (fold (λ d c. removed d (cell_of d c).tag) d cells)
  all_removed_goes [] d p = p
  all_removed_goes (c ∷ cells) d p =
      all_removed_goes cells (removed d (cell_of d c).tag) (removed_goes (cell_of d c).tag d p)

  modified_goes : (d : ActState) (cell : ℕ) (fields : List Value) → GoesOn d → GoesOn (modified d cell fields)
  modified_goes d cell fields p =
      let e = cell_of d cell in
      let r = added_goes (removed d e.tag) e.class fields (removed_goes e.tag d p) in
      record { more = r.more; changes = r.changes; memory = r.memory; find = r.find }

  action_goes : (s : Setting) (column : ℕ) (a : Action) (d : ActState) → GoesOn d → IfOk (action_done s column a d).outcome GoesOn
  action_goes s column (action.Make class puts) d p =
      let start = made_fields s.classes (class_of s.classes class) puts d in
      ok_on GoesOn GoesOn [] (followed_by start (λ f. Ok (added f.doing class f.fields))) (changes_told s d (column_after column []))
      (ok_behind (KeepsFilled GoesTo s.classes) GoesOn start (λ f. Ok (added f.doing class f.fields)) (made_keeps GoesTo s.classes (class_of s.classes class) puts _ p) (λ f q. added_goes f.doing class f.fields q))
      (λ d q. q)
  action_goes s column (action.Modify cell puts) d p =
      let start = modified_fields s.classes puts cell d in
      ok_on GoesOn GoesOn [] (followed_by start (λ f. Ok (modified f.doing cell f.fields))) (changes_told s d (column_after column []))
      (ok_behind (KeepsFilled GoesTo s.classes) GoesOn start (λ f. Ok (modified f.doing cell f.fields)) (over_keeps GoesTo s.classes puts _ p) (λ f q. modified_goes f.doing cell f.fields q))
      (λ d q. q)
  action_goes s column (action.Remove cells) d p = all_removed_goes cells d p
  action_goes s column (action.Write items) d p = items_keep GoesTo s.classes Apart column items d p
  action_goes s column (action.Bind v t) d p =
      ok_behind (KeepsValued GoesTo s.classes) GoesOn (evaluated s.classes t d) (λ w. Ok (bound w.doing v (first_of w.values))) (evaluated_keeps GoesTo s.classes t d p)
      (λ w q. record { more = q.more; changes = q.changes; memory = q.memory; find = q.find })
  action_goes s column (action.Cbind cell) d p = record { more = p.more; changes = p.changes; memory = p.memory; find = p.find }
  action_goes s column action.Halt d p = record { more = p.more; changes = p.changes; memory = p.memory; find = p.find }
  action_goes s column (action.Build template holes) d p = record { more = p.more; changes = p.changes; memory = p.memory; find = p.find }

-- the changes of an action
pub action_removes : (s : Setting) (column : ℕ) (a : Action) (d : ActState) → IfOk (action_done s column a d).outcome (λ next. RemovalsFind d.wm (drop (length d.changes) next.changes))
action_removes s column a d =
    ok_more (GoesOn d.wm d.changes) (λ next. RemovalsFind d.wm (drop (length d.changes) next.changes)) (action_done s column a d).outcome
    (action_goes d.wm d.changes s column a d (record { more = []; changes = sym (append-nil d.changes); memory = refl; find = tt }))
    (λ next p.
    let P : List Change → Type 0 = RemovalsFind d.wm in
    subst P (sym (ap (drop (length d.changes)) p.changes ∙ drop_front d.changes p.more)) p.find)

-- ---- commands

tag_there : (wm : List Element) (tag : ℕ) → IsMember tag (tags_of wm) → is_some (element_of wm tag) ≡ true
tag_there [] tag m = absurd m
tag_there (e ∷ wm) tag (inl same) =
    let is : (e.tag == tag) ≡ true = grind (arith, nat_tests) in ap (λ b. is_some (cond b (Some e) (element_of wm tag))) is
tag_there (e ∷ wm) tag (inr m) = by (e.tag == tag) (tag_there wm tag m)
  where
    by : (b : Bool) → is_some (element_of wm tag) ≡ true → is_some (cond b (Some e) (element_of wm tag)) ≡ true
    by true ih = refl
    by false ih = ih

-- lawful removals find what they name
lawful_find : (wm : List Element) (last : ℕ) (cs : List Change) → Lawful wm last cs → RemovalsFind wm cs
lawful_find wm last [] p = tt
lawful_find wm last (change.Add e ∷ cs) p = lawful_find (wm ++ e ∷ []) e.tag cs p.1
lawful_find wm last (change.Remove tag ∷ cs) p =
    (tag_there wm tag (member_from_contains tag (tags_of wm) p.0), lawful_find (without_tag tag wm) last cs p.1)

pub removals_find : (wm : List Element) (tags : List ℕ) → RemovalsFind wm (removals wm tags)
removals_find wm tags = lawful_find wm 0 (removals wm tags) (removals_lawful wm 0 tags)

pub clearing_finds : (wm : List Element) → HasRisingTags wm → RemovalsFind wm (map change.Remove (tags_of wm))
clearing_finds wm rising = lawful_find wm 0 (map change.Remove (tags_of wm)) (clearing_lawful wm 0 rising)
