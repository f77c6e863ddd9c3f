-- A right side looks elements up only by the tags of its cells: over two working memories that hold the same elements
-- of those it does the same.
use Rattle.std.proofs.Common.{◌≡◌, ℕ, zero, suc, ◌+◌, ◌<◌, Bool, true, false, cond, not, ◌==◌, ◌&&◌, List, [], ◌∷◌, ◌++◌, length, drop, fold, Option, Some, None, is_some, Result, Ok, Err, refl, ap, sym, ◌∙◌, subst, arith, slice_get, unwrap_or}
use Rattle.std.specs.Prelude.{slice_set, codes}
use Rattle.std.specs.Option.{option_or}
use Rattle.std.proofs.lemmas.List.{append-nil, append_assoc}
use Rattle.std.proofs.lemmas.List.Folds.{find-append}
use Rattle.ops_base.specs.declared.actions.Action.{Action}
use Rattle.ops_base.specs.declared.actions.Action.TheVariants as action
use Rattle.ops_base.specs.declared.actions.Item.{Item}
use Rattle.ops_base.specs.declared.actions.Item.TheVariants as item
use Rattle.ops_base.specs.declared.actions.Put.{Put}
use Rattle.ops_base.specs.declared.actions.Term.{Term}
use Rattle.ops_base.specs.declared.actions.Term.TheVariants as term
use Rattle.ops_base.specs.declared.conditions.Part.{Part}
use Rattle.ops_base.specs.declared.conditions.Part.TheVariants as part
use Rattle.ops_base.specs.declared.elements.Change.{Change}
use Rattle.ops_base.specs.declared.elements.Change.TheVariants as change
use Rattle.ops_base.specs.declared.elements.Class.{Class}
use Rattle.ops_base.specs.declared.elements.Element.{Element}
use Rattle.ops_base.specs.declared.matching.Binding.{Binding}
use Rattle.ops_base.specs.declared.rules.Inst.{Inst}
use Rattle.ops_base.specs.declared.values.Value.{Value}
use Rattle.ops_base.specs.Names.{Spellings, with_fresh}
use Rattle.ops_base.specs.Valid.{class_of}
use Rattle.ops_base.specs.WorkingMemory.{change_done, done, without_tag, no_fields, last_after, Lawful}
use Rattle.ops_base.proofs.Changes.{done_push, last_after_push}
use Rattle.ops_io.specs.Coming.{Coming}
use Rattle.ops_io.specs.Output.{column_after}
use Rattle.ops_tokens.specs.Accepting.{Accepted, accepted}
use Rattle.ops_tokens.specs.declared.accept.AcceptFault.{AcceptFault}
use Rattle.ops_tokens.specs.declared.accept.AcceptFault.TheVariants as accept_fault
use Rattle.ops_meaning.specs.Acting.{Setting, ActState, ActionError, Misdeed, in_action, Given, Acted, Valued, Filled, no_element, element_of, elements_of, matched_by, bindings_of, conditions_of, actions_of, cell_of, value_in, evaluated, computed_as, accepted_as, first_of, values_placed, placed, terms_placed, emptied, puts_made, puts_over, made_fields, modified_fields, has_tag, changed, next_element, added, removed, modified, made_last, bound, printed, lead_after, item_done, items_done, change_text, change_lines, changes_told, action_done, actions_done, begun, left_by, acted}
use Rattle.ops_meaning.specs.Computing.{Computed, computed}
use Rattle.ops_meaning.specs.Effects.{Effect, going_on, and_then, outcome_as, told_as, followed_by, silent}
use Rattle.ops_meaning.specs.Layout.{Lead, Apart, tagged_text, traced}
use Rattle.ops_meaning.proofs.Lawful.{has_tag-Contains, lawful_push}
use Rattle.work_store.proofs.Lists.{tag_is}
use Rattle.act_phase.proofs.Counts.{has_tag-without, found_there, made_last_push}
use Rattle.act_phase.proofs.Found.{none_there, found_still}

-- ---- outcomes that are one another's but for what they leave

-- both leave something, the one what the other does put so, or both end the same
abbrev Same : {E S : Type 0} → (S → S) → (S → Type 0) → Result S E → Result S E → Type 0
Same lift P (Ok x) (Ok y) = (x ≡ lift y) × P y
Same lift P (Err e) (Err f) = e ≡ f
Same lift P (Ok x) (Err f) = ⊥
Same lift P (Err e) (Ok y) = ⊥

-- and both write the same
record SameEffect {E S : Type 0} (lift : S → S) (P : S → Type 0) (x y : Effect E S) : Type 0 where
  pub bytes : x.bytes ≡ y.bytes
  pub outcome : Same lift P x.outcome y.outcome

module _ {E S T : Type 0} (lift : S → S) (P : S → Type 0) (put : T → T) (Q : T → Type 0) where
  same_then : (x y : Result S E) (next more : S → Result T E) → Same lift P x y → ((s : S) → P s → Same put Q (next (lift s)) (more s)) → Same put Q (followed_by x next) (followed_by y more)
  same_then (Ok x) (Ok y) next more p f =
      let G : S → Type 0 = λ x. Same put Q (next x) (more y) in subst G (sym p.0) (f y p.1)
  same_then (Err e) (Err f) next more p g = p
  same_then (Ok x) (Err f) next more p g = absurd p
  same_then (Err e) (Ok y) next more p g = absurd p

  same_going : (bytes : List ℕ) (x y : Result S E) (next more : S → Effect E T) → Same lift P x y → ((s : S) → P s → SameEffect put Q (next (lift s)) (more s)) → SameEffect put Q (going_on bytes x next) (going_on bytes y more)
  same_going bytes (Ok x) (Ok y) next more p f =
      let G : S → Type 0 = λ x. SameEffect put Q (going_on bytes (Ok x) next) (going_on bytes (Ok y) more) in
      let q = f y p.1 in
      subst G (sym p.0) (record { bytes = ap (λ b. bytes ++ b) q.bytes; outcome = q.outcome })
  same_going bytes (Err e) (Err f) next more p g = record { bytes = refl; outcome = p }
  same_going bytes (Ok x) (Err f) next more p g = absurd p
  same_going bytes (Err e) (Ok y) next more p g = absurd p

  same_and_then : (column : ℕ) (x y : Effect E S) (next more : ℕ → S → Effect E T) → SameEffect lift P x y → ((n : ℕ) (s : S) → P s → SameEffect put Q (next n (lift s)) (more n s)) → SameEffect put Q (and_then column x next) (and_then column y more)
  same_and_then column x y next more p f =
      let G : List ℕ → Type 0 = λ b. SameEffect put Q (going_on b x.outcome (next (column_after column b))) (and_then column y more) in
      subst G (sym p.bytes) (same_going y.bytes x.outcome y.outcome (next (column_after column y.bytes)) (more (column_after column y.bytes)) p.outcome (f (column_after column y.bytes)))

module _ {E F S : Type 0} (lift : S → S) (P : S → Type 0) (end : E → F) where
  same_told : (x y : Result S E) → Same lift P x y → Same lift P (outcome_as (λ d. d) end x) (outcome_as (λ d. d) end y)
  same_told (Ok x) (Ok y) p = p
  same_told (Err e) (Err f) p = ap end p
  same_told (Ok x) (Err f) p = absurd p
  same_told (Err e) (Ok y) p = absurd p

  same_effect_told : (x y : Effect E S) → SameEffect lift P x y → SameEffect lift P (told_as (λ d. d) end x) (told_as (λ d. d) end y)
  same_effect_told x y p = record { bytes = p.bytes; outcome = same_told x.outcome y.outcome p.outcome }

-- what is left is the same where it is looked at so
left_same : {E F S T : Type 0} (lift : S → S) (P : S → Type 0) (left : S → T) (end : E → F) → ((s : S) → left (lift s) ≡ left s) → (x y : Result S E) → Same lift P x y → outcome_as left end x ≡ outcome_as left end y
left_same {F = F} {T = T} lift P left end is (Ok x) (Ok y) p =
    let ok : T → Result T F = λ t. Ok t in ap ok (ap left p.0 ∙ is y)
left_same {F = F} {T = T} lift P left end is (Err e) (Err f) p = let err : F → Result T F = λ t. Err t in ap err (ap end p)
left_same lift P left end is (Ok x) (Err f) p = absurd p
left_same lift P left end is (Err e) (Ok y) p = absurd p

-- ---- the element of a tag

without_at : (wm : List Element) (g t : ℕ) → element_of (without_tag g wm) t ≡ cond (t == g) None (element_of wm t)
without_at wm g t = by (t == g) refl
  where
    by : (b : Bool) → (t == g) ≡ b → element_of (without_tag g wm) t ≡ cond b None (element_of wm t)
    by true is = none_there (without_tag g wm) t (has_tag-without wm g t ∙ ap (λ b. has_tag wm t && not b) is ∙ and_no (has_tag wm t))
      where
        and_no : (b : Bool) → (b && not true) ≡ false
        and_no true = refl
        and_no false = refl
    by false apart = found_still wm g t apart

step_same : (X x : List Element) (c : Change) (t : ℕ) → element_of X t ≡ element_of x t → element_of (change_done X c) t ≡ element_of (change_done x c) t
step_same X x (change.Add e) t is =
    find-append (λ (e : Element). e.tag == t) X (e ∷ []) ∙ ap (λ o. option_or o (element_of (e ∷ []) t)) is ∙ sym (find-append (λ (e : Element). e.tag == t) x (e ∷ []))
step_same X x (change.Remove g) t is = without_at X g t ∙ ap (λ o. cond (t == g) None o) is ∙ sym (without_at x g t)

done_same : (X x : List Element) (cs : List Change) (t : ℕ) → element_of X t ≡ element_of x t → element_of (done X cs) t ≡ element_of (done x cs) t
done_same X x [] t is = is
done_same X x (c ∷ cs) t is = done_same (change_done X c) (change_done x c) cs t (step_same X x c t is)

there_same : (X x : List Element) (t : ℕ) → element_of X t ≡ element_of x t → has_tag X t ≡ has_tag x t
there_same X x t is = sym (found_there X t) ∙ ap is_some is ∙ found_there x t

-- what is found has the tag
pub found_tag : (wm : List Element) (t : ℕ) (e : Element) → element_of wm t ≡ Some e → e.tag ≡ t
found_tag [] t e is = absurd (cc)
found_tag (x ∷ wm) t e is = by (x.tag == t) refl is (found_tag wm t e)
  where
    by : (b : Bool) → (x.tag == t) ≡ b → cond b (Some x) (element_of wm t) ≡ Some e → (element_of wm t ≡ Some e → e.tag ≡ t) → e.tag ≡ t
    by true same is rest = let one : x ≡ e = cc in ap (λ (e : Element). e.tag) (sym one) ∙ tag_is x.tag t same
    by false apart is rest = rest is

-- ---- two working memories

module _ (W w : List Element) (first : ℕ) (before : List Change) where
  abbrev pub SameAt : ℕ → Type 0
  SameAt t = element_of W t ≡ element_of w t

  abbrev CellsAlike : List Element → Type 0
  CellsAlike [] = Unit {0}
  CellsAlike (e ∷ es) = SameAt e.tag × CellsAlike es

  -- of what the changes remove
  abbrev GoneAlike : List Change → Type 0
  GoneAlike [] = Unit {0}
  GoneAlike (change.Add e ∷ cs) = GoneAlike cs
  GoneAlike (change.Remove t ∷ cs) = SameAt t × GoneAlike cs

  -- the same state over the other working memory
  abbrev over : ActState → ActState
  over d = record d { wm = done W d.changes }

  abbrev over_valued : Valued → Valued
  over_valued v = record v { doing = over v.doing }

  abbrev over_filled : Filled → Filled
  over_filled f = record f { doing = over f.doing }

  -- Both hold the same elements of each tag that may be looked up. The changes so far are lawful over the first, and go on
  -- from these.
  pub record Alike (d : ActState) : Type 0 where
    pub wm : d.wm ≡ done w d.changes
    pub lawful : Lawful W first d.changes
    pub last : last_after first d.changes ≡ d.last
    pub more : List Change
    pub grown : d.changes ≡ before ++ more
    pub none : SameAt 0
    pub fresh : (t : ℕ) → d.last < t → SameAt t
    pub cells : CellsAlike d.cells
    pub made : SameAt (made_last d.changes).tag
    pub gone : GoneAlike d.changes

  abbrev AlikeIn : Valued → Type 0
  AlikeIn v = Alike v.doing

  abbrev AlikeFilled : Filled → Type 0
  AlikeFilled f = Alike f.doing

  cells_got : (cells : List Element) (c : ℕ) → SameAt 0 → CellsAlike cells → SameAt (unwrap_or (slice_get cells c) no_element).tag
  cells_got [] c none p = none
  cells_got (e ∷ cells) zero none p = p.0
  cells_got (e ∷ cells) (suc c) none p = cells_got cells c none p.1

  cells_set : (cells : List Element) (c : ℕ) (e : Element) → SameAt e.tag → CellsAlike cells → CellsAlike (slice_set cells c e)
  cells_set [] c e is p = tt
  cells_set (x ∷ cells) zero e is p = (is, p.1)
  cells_set (x ∷ cells) (suc c) e is p = (p.0, cells_set cells c e is p.1)

  cells_push : (cells : List Element) (e : Element) → SameAt e.tag → CellsAlike cells → CellsAlike (cells ++ e ∷ [])
  cells_push [] e is p = (is, tt)
  cells_push (x ∷ cells) e is p = (p.0, cells_push cells e is p.1)

  gone_push_add : (cs : List Change) (e : Element) → GoneAlike cs → GoneAlike (cs ++ change.Add e ∷ [])
  gone_push_add [] e p = tt
  gone_push_add (change.Add x ∷ cs) e p = gone_push_add cs e p
  gone_push_add (change.Remove t ∷ cs) e p = (p.0, gone_push_add cs e p.1)

  gone_push : (cs : List Change) (t : ℕ) → SameAt t → GoneAlike cs → GoneAlike (cs ++ change.Remove t ∷ [])
  gone_push [] t is p = (is, tt)
  gone_push (change.Add x ∷ cs) t is p = gone_push cs t is p
  gone_push (change.Remove g ∷ cs) t is p = (p.0, gone_push cs t is p.1)

  gone_drop : (n : ℕ) (cs : List Change) → GoneAlike cs → GoneAlike (drop n cs)
  gone_drop zero cs p = p
  gone_drop (suc n) [] p = tt
  gone_drop (suc n) (change.Add e ∷ cs) p = gone_drop n cs p
  gone_drop (suc n) (change.Remove t ∷ cs) p = gone_drop n cs p.1

  -- ---- values

  alike_with : (d : ActState) (names : Spellings) (coming : Coming) → Alike d → Alike (record d { names = names; coming = coming })
  alike_with d names coming p = record { wm = p.wm; lawful = p.lawful; last = p.last; more = p.more; grown = p.grown; none = p.none; fresh = p.fresh; cells = p.cells; made = p.made; gone = p.gone }

  computed_alike : (d : ActState) (c : Computed) → Alike d → Same over_valued AlikeIn (computed_as (over d) c) (computed_as d c)
  computed_alike d (Ok v) p = (refl, p)
  computed_alike d (Err k) p = refl

  accepted_alike : (d : ActState) (r : Result Accepted AcceptFault) → Alike d → Same over_valued AlikeIn (accepted_as (over d) r) (accepted_as d r)
  accepted_alike d (Ok a) p = (refl, alike_with d a.names a.coming p)
  accepted_alike d (Err accept_fault.TooLong) p = refl
  accepted_alike d (Err accept_fault.Read) p = refl
  accepted_alike d (Err accept_fault.OutOfMemory) p = refl

  evaluated_alike : (classes : List Class) (t : Term) (d : ActState) → Alike d → Same over_valued AlikeIn (evaluated classes t (over d)) (evaluated classes t d)
  evaluated_alike classes (term.Constant v) d p = (refl, p)
  evaluated_alike classes (term.Variable v) d p = (refl, p)
  evaluated_alike classes (term.One cell field) d p = (refl, p)
  evaluated_alike classes (term.Rest cell) d p = (refl, p)
  evaluated_alike classes (term.Compute f) d p = computed_alike d (computed (value_in d) f) p
  evaluated_alike classes term.Fresh d p = (refl, alike_with d (with_fresh d.names) d.coming p)
  evaluated_alike classes term.Accept d p = accepted_alike d (accepted d.names d.coming) p

  -- ---- fields

  placed_alike : (d : ActState) (o : Option (List Value)) → Alike d → Same over_filled AlikeFilled (placed (over d) o) (placed d o)
  placed_alike d (Some fields) p = (refl, p)
  placed_alike d None p = refl

  terms_alike : (classes : List Class) (at : ℕ) (ts : List Term) (f : Filled) → Alike f.doing → Same over_filled AlikeFilled (terms_placed classes at ts (over_filled f)) (terms_placed classes at ts f)
  terms_alike classes at [] f p = (refl, p)
  terms_alike classes at (t ∷ ts) f p =
      same_then over_valued AlikeIn over_filled AlikeFilled (evaluated classes t (over f.doing)) (evaluated classes t f.doing) _ _ (evaluated_alike classes t f.doing p)
      (λ v q. same_then over_filled AlikeFilled over_filled AlikeFilled (placed (over v.doing) (values_placed at v.values f.fields)) (placed v.doing (values_placed at v.values f.fields)) _ _
      (placed_alike v.doing (values_placed at v.values f.fields) q) (λ g r. terms_alike classes (at + length v.values) ts g r))

  puts_made_alike : (classes : List Class) (c : Class) (puts : List Put) (f : Filled) → Alike f.doing → Same over_filled AlikeFilled (puts_made classes c puts (over_filled f)) (puts_made classes c puts f)
  puts_made_alike classes c [] f p = (refl, p)
  puts_made_alike classes c (x ∷ puts) f p =
      let g : Filled = record f { fields = emptied c x.field f.fields } in
      same_then over_filled AlikeFilled over_filled AlikeFilled (terms_placed classes x.field x.terms (over_filled g)) (terms_placed classes x.field x.terms g) (λ h. puts_made classes c puts h) (λ h. puts_made classes c puts h)
      (terms_alike classes x.field x.terms g p) (λ h q. puts_made_alike classes c puts h q)

  puts_over_alike : (classes : List Class) (puts : List Put) (f : Filled) → Alike f.doing → Same over_filled AlikeFilled (puts_over classes puts (over_filled f)) (puts_over classes puts f)
  puts_over_alike classes [] f p = (refl, p)
  puts_over_alike classes (x ∷ puts) f p =
      same_then over_filled AlikeFilled over_filled AlikeFilled (terms_placed classes x.field x.terms (over_filled f)) (terms_placed classes x.field x.terms f) (λ h. puts_over classes puts h) (λ h. puts_over classes puts h)
      (terms_alike classes x.field x.terms f p) (λ h q. puts_over_alike classes puts h q)

  -- ---- changes

  changed_over : (d : ActState) (c : Change) → changed (over d) c ≡ over (changed d c)
  changed_over d c =
      let with : List Element → ActState = λ wm. record (changed d c) { wm = wm } in ap with (sym (done_push W d.changes c))

  changed_memory : (d : ActState) (c : Change) → d.wm ≡ done w d.changes → change_done d.wm c ≡ done w (d.changes ++ c ∷ [])
  changed_memory d c is = ap (λ wm. change_done wm c) is ∙ sym (done_push w d.changes c)

  further : (d : ActState) (c : Change) (more : List Change) → d.changes ≡ before ++ more → d.changes ++ c ∷ [] ≡ before ++ (more ++ c ∷ [])
  further d c more is = ap (λ cs. cs ++ c ∷ []) is ∙ append_assoc before more (c ∷ [])

  -- an element with the next tag
  next_same : (d : ActState) → Alike d → SameAt (d.last + 1)
  next_same d p = p.fresh (d.last + 1) (omega arith)

  added_over : (d : ActState) (class : ℕ) (fields : List Value) → added (over d) class fields ≡ over (added d class fields)
  added_over d class fields = changed_over (record d { last = d.last + 1 }) (change.Add (next_element d class fields))

  added_alike : (d : ActState) (class : ℕ) (fields : List Value) → Alike d → Alike (added d class fields)
  added_alike d class fields p =
      let e = next_element d class fields in
      let above = p.last in
      record {
        wm = changed_memory d (change.Add e) p.wm;
        lawful = lawful_push W first d.changes (change.Add e) p.lawful (omega (arith, above), tt);
        last = last_after_push first d.changes (change.Add e);
        more = p.more ++ change.Add e ∷ [];
        grown = further d (change.Add e) p.more p.grown;
        none = p.none;
        fresh = λ t lt. p.fresh t (omega arith);
        cells = p.cells;
        made = let P : Element → Type 0 = λ e. SameAt e.tag in subst P (sym (made_last_push d.changes (change.Add e))) (next_same d p);
        gone = gone_push_add d.changes e p.gone;
      }

  -- the element of this tag is there
  stands : (d : ActState) (tag : ℕ) → SameAt tag → Alike d → has_tag (done W d.changes) tag ≡ has_tag d.wm tag
  stands d tag is p = there_same (done W d.changes) (done w d.changes) tag (done_same W w d.changes tag is) ∙ ap (λ wm. has_tag wm tag) (sym p.wm)

  taken_alike : (d : ActState) (tag : ℕ) → SameAt tag → has_tag d.wm tag ≡ true → Alike d → Alike (changed d (change.Remove tag))
  taken_alike d tag is there p = record {
    wm = changed_memory d (change.Remove tag) p.wm;
    lawful = lawful_push W first d.changes (change.Remove tag) p.lawful (has_tag-Contains (done W d.changes) tag (stands d tag is p ∙ there), tt);
    last = last_after_push first d.changes (change.Remove tag) ∙ p.last;
    more = p.more ++ change.Remove tag ∷ [];
    grown = further d (change.Remove tag) p.more p.grown;
    none = p.none;
    fresh = p.fresh;
    cells = p.cells;
    made = let P : Element → Type 0 = λ e. SameAt e.tag in subst P (sym (made_last_push d.changes (change.Remove tag))) p.made;
    gone = gone_push d.changes tag is p.gone;
  }

  removed_over : (d : ActState) (tag : ℕ) → SameAt tag → Alike d → removed (over d) tag ≡ over (removed d tag)
  removed_over d tag is p =
      ap (λ b. cond b (changed (over d) (change.Remove tag)) (over d)) (stands d tag is p) ∙ by (has_tag d.wm tag)
    where
      by : (b : Bool) → cond b (changed (over d) (change.Remove tag)) (over d) ≡ over (cond b (changed d (change.Remove tag)) d)
      by true = changed_over d (change.Remove tag)
      by false = refl

  removed_alike : (d : ActState) (tag : ℕ) → SameAt tag → Alike d → Alike (removed d tag)
  removed_alike d tag is p = by (has_tag d.wm tag) refl
    where
      by : (b : Bool) → has_tag d.wm tag ≡ b → Alike (cond b (changed d (change.Remove tag)) d)
      by true there = taken_alike d tag is there p
      by false absent = p

  cell_same : (d : ActState) (c : ℕ) → Alike d → SameAt (cell_of d c).tag
  cell_same d c p = cells_got d.cells c p.none p.cells

  all_over : (cells : List ℕ) (d : ActState) → Alike d → fold (λ d c. removed d (cell_of d c).tag) (over d) cells ≡ over (fold (λ d c. removed d (cell_of d c).tag) d cells)
  all_over [] d p = refl
  all_over (c ∷ cells) d p =
      ap (λ d. fold (λ d c. removed d (cell_of d c).tag) d cells) (removed_over d (cell_of d c).tag (cell_same d c p) p)
      ∙ all_over cells (removed d (cell_of d c).tag) (removed_alike d (cell_of d c).tag (cell_same d c p) p)

  all_alike : (cells : List ℕ) (d : ActState) → Alike d → Alike (fold (λ d c. removed d (cell_of d c).tag) d cells)
  all_alike [] d p = p
  all_alike (c ∷ cells) d p = all_alike cells (removed d (cell_of d c).tag) (removed_alike d (cell_of d c).tag (cell_same d c p) p)

  modified_over : (d : ActState) (cell : ℕ) (fields : List Value) → Alike d → modified (over d) cell fields ≡ over (modified d cell fields)
  modified_over d cell fields p =
      let e = cell_of d cell in
      let hold : ActState → ActState = λ x. record x { cells = slice_set d.cells cell (next_element d e.class fields) } in
      ap (λ x. hold (added x e.class fields)) (removed_over d e.tag (cell_same d cell p) p) ∙ ap hold (added_over (removed d e.tag) e.class fields)

  modified_alike : (d : ActState) (cell : ℕ) (fields : List Value) → Alike d → Alike (modified d cell fields)
  modified_alike d cell fields p =
      let e = cell_of d cell in
      let q = added_alike (removed d e.tag) e.class fields (removed_alike d e.tag (cell_same d cell p) p) in
      record { wm = q.wm; lawful = q.lawful; last = q.last; more = q.more; grown = q.grown; none = q.none; fresh = q.fresh; cells = cells_set d.cells cell (next_element d e.class fields) (next_same d p) p.cells; made = q.made; gone = q.gone }

  -- ---- the trace

  lines_same : (names : Spellings) (classes : List Class) (X x : List Element) (cs : List Change) → ((t : ℕ) → SameAt t → element_of X t ≡ element_of x t) → GoneAlike cs → change_lines names classes X cs ≡ change_lines names classes x cs
  lines_same names classes X x [] f p = refl
  lines_same names classes X x (change.Add e ∷ cs) f p =
      ap (λ ls. change_text names classes x (change.Add e) ∷ ls) (lines_same names classes (change_done X (change.Add e)) (change_done x (change.Add e)) cs (λ t is. step_same X x (change.Add e) t (f t is)) p)
  lines_same names classes X x (change.Remove g ∷ cs) f p =
      ap (λ o. line o ∷ change_lines names classes (change_done X (change.Remove g)) cs) (f g p.0)
      ∙ ap (λ ls. line (element_of x g) ∷ ls) (lines_same names classes (change_done X (change.Remove g)) (change_done x (change.Remove g)) cs (λ t is. step_same X x (change.Remove g) t (f t is)) p.1)
    where
      line : Option Element → List ℕ
      line o = codes "<=WM: " ++ tagged_text names classes (unwrap_or o no_element)

  abbrev SameDoing : {E : Type 0} → Effect E ActState → Effect E ActState → Type 0
  SameDoing x y = SameEffect over Alike x y

  told_alike : (s : Setting) (before : ActState) (column : ℕ) (d : ActState) → Alike before → Alike d → SameDoing (changes_told s (over before) column (over d)) (changes_told s before column d)
  told_alike s before column d p q =
      let rest = drop (length before.changes) d.changes in
      record {
        bytes = ap (traced s.watch column) (lines_same d.names s.classes (done W before.changes) (done w before.changes) rest (λ t is. done_same W w before.changes t is) (gone_drop (length before.changes) d.changes q.gone)
            ∙ ap (λ wm. change_lines d.names s.classes wm rest) (sym p.wm));
        outcome = (refl, q);
      }

  -- ---- actions

  printed_alike : (lead : Lead) (column : ℕ) (x y : Result Valued ActionError) → Same over_valued AlikeIn x y → SameDoing (printed lead column x) (printed lead column y)
  printed_alike lead column (Ok x) (Ok y) p =
      let G : Valued → Type 0 = λ x. SameDoing (printed lead column (Ok x)) (printed lead column (Ok y)) in
      subst G (sym p.0) (record { bytes = refl; outcome = (refl, p.1) })
  printed_alike lead column (Err e) (Err f) p = record { bytes = refl; outcome = p }
  printed_alike lead column (Ok x) (Err f) p = absurd p
  printed_alike lead column (Err e) (Ok y) p = absurd p

  item_alike : (classes : List Class) (lead : Lead) (column : ℕ) (x : Item) (d : ActState) → Alike d → SameDoing (item_done classes lead column x (over d)) (item_done classes lead column x d)
  item_alike classes lead column (item.Print t) d p = printed_alike lead column (evaluated classes t (over d)) (evaluated classes t d) (evaluated_alike classes t d p)
  item_alike classes lead column item.Crlf d p = record { bytes = refl; outcome = (refl, p) }
  item_alike classes lead column (item.TabTo c) d p = record { bytes = refl; outcome = (refl, p) }
  item_alike classes lead column (item.RightIn n) d p = record { bytes = refl; outcome = (refl, p) }

  items_alike : (classes : List Class) (lead : Lead) (column : ℕ) (items : List Item) (d : ActState) → Alike d → SameDoing (items_done classes lead column items (over d)) (items_done classes lead column items d)
  items_alike classes lead column [] d p = record { bytes = refl; outcome = (refl, p) }
  items_alike classes lead column (x ∷ items) d p =
      same_and_then over Alike over Alike column (item_done classes lead column x (over d)) (item_done classes lead column x d) (λ next d. items_done classes (lead_after x) next items d) (λ next d. items_done classes (lead_after x) next items d)
      (item_alike classes lead column x d p) (λ next d q. items_alike classes (lead_after x) next items d q)

  action_alike : (s : Setting) (column : ℕ) (a : Action) (d : ActState) → Alike d → SameDoing (action_done s column a (over d)) (action_done s column a d)
  action_alike s column (action.Make class puts) d p =
      let c = class_of s.classes class in
      same_and_then over Alike over Alike column (silent (followed_by (made_fields s.classes c puts (over d)) (λ f. Ok (added f.doing class f.fields)))) (silent (followed_by (made_fields s.classes c puts d) (λ f. Ok (added f.doing class f.fields))))
      (changes_told s (over d)) (changes_told s d)
      (record {
        bytes = refl;
        outcome = same_then over_filled AlikeFilled over Alike (made_fields s.classes c puts (over d)) (made_fields s.classes c puts d) (λ f. Ok (added f.doing class f.fields)) (λ f. Ok (added f.doing class f.fields))
            (puts_made_alike s.classes c puts (record { fields = no_fields c; doing = d }) p) (λ f q. (added_over f.doing class f.fields, added_alike f.doing class f.fields q));
      })
      (λ n f q. told_alike s d n f p q)
  action_alike s column (action.Modify cell puts) d p =
      same_and_then over Alike over Alike column (silent (followed_by (modified_fields s.classes puts cell (over d)) (λ f. Ok (modified f.doing cell f.fields)))) (silent (followed_by (modified_fields s.classes puts cell d) (λ f. Ok (modified f.doing cell f.fields))))
      (changes_told s (over d)) (changes_told s d)
      (record {
        bytes = refl;
        outcome = same_then over_filled AlikeFilled over Alike (modified_fields s.classes puts cell (over d)) (modified_fields s.classes puts cell d) (λ f. Ok (modified f.doing cell f.fields)) (λ f. Ok (modified f.doing cell f.fields))
            (puts_over_alike s.classes puts (record { fields = (cell_of d cell).fields; doing = d }) p) (λ f q. (modified_over f.doing cell f.fields q, modified_alike f.doing cell f.fields q));
      })
      (λ n f q. told_alike s d n f p q)
  action_alike s column (action.Remove cells) d p =
      let G : ActState → Type 0 = λ x. SameDoing (changes_told s (over d) column x) (changes_told s d column (fold (λ d c. removed d (cell_of d c).tag) d cells)) in
      subst G (sym (all_over cells d p)) (told_alike s d column (fold (λ d c. removed d (cell_of d c).tag) d cells) p (all_alike cells d p))
  action_alike s column (action.Write items) d p = items_alike s.classes Apart column items d p
  action_alike s column (action.Bind place t) d p = record {
    bytes = refl;
    outcome = same_then over_valued AlikeIn over Alike (evaluated s.classes t (over d)) (evaluated s.classes t d) (λ v. Ok (bound v.doing place (first_of v.values))) (λ v. Ok (bound v.doing place (first_of v.values)))
        (evaluated_alike s.classes t d p) (λ v q. (refl, record { wm = q.wm; lawful = q.lawful; last = q.last; more = q.more; grown = q.grown; none = q.none; fresh = q.fresh; cells = q.cells; made = q.made; gone = q.gone }));
  }
  action_alike s column (action.Cbind cell) d p = record {
    bytes = refl;
    outcome = (refl, record { wm = p.wm; lawful = p.lawful; last = p.last; more = p.more; grown = p.grown; none = p.none; fresh = p.fresh; cells = cells_push d.cells (made_last d.changes) p.made p.cells; made = p.made; gone = p.gone });
  }
  action_alike s column action.Halt d p = record {
    bytes = refl;
    outcome = (refl, record { wm = p.wm; lawful = p.lawful; last = p.last; more = p.more; grown = p.grown; none = p.none; fresh = p.fresh; cells = p.cells; made = p.made; gone = p.gone });
  }
  action_alike s column (action.Build template holes) d p = record {
    bytes = refl;
    outcome = (refl, record { wm = p.wm; lawful = p.lawful; last = p.last; more = p.more; grown = p.grown; none = p.none; fresh = p.fresh; cells = p.cells; made = p.made; gone = p.gone });
  }

  actions_alike : (s : Setting) (column n : ℕ) (actions : List Action) (d : ActState) → Alike d → SameDoing (actions_done s column n actions (over d)) (actions_done s column n actions d)
  actions_alike s column n [] d p = record { bytes = refl; outcome = (refl, p) }
  actions_alike s column n (a ∷ rest) d p =
      same_and_then over Alike over Alike column (told_as (λ d. d) (in_action n) (action_done s column a (over d))) (told_as (λ d. d) (in_action n) (action_done s column a d)) (λ next d. actions_done s next (suc n) rest d) (λ next d. actions_done s next (suc n) rest d)
      (same_effect_told over Alike (in_action n) (action_done s column a (over d)) (action_done s column a d) (action_alike s column a d p)) (λ next d q. actions_alike s next (suc n) rest d q)

  -- ---- the whole

  abbrev pub TagsAlike : List ℕ → Type 0
  TagsAlike [] = Unit {0}
  TagsAlike (t ∷ ts) = SameAt t × TagsAlike ts

  bindings_same : (parts : List Part) (tags : List ℕ) (bs : List Binding) → TagsAlike tags → bindings_of W parts tags bs ≡ bindings_of w parts tags bs
  bindings_same [] tags bs p = refl
  bindings_same (x ∷ parts) [] bs p = refl
  bindings_same (part.One c ∷ parts) (t ∷ ts) bs p =
      by c.negated (bindings_same parts (t ∷ ts) bs p) (ap (λ o. bindings_of W parts ts (matched_by c o bs)) p.0 ∙ bindings_same parts ts (matched_by c (element_of w t) bs) p.1)
    where
      by : (b : Bool) → bindings_of W parts (t ∷ ts) bs ≡ bindings_of w parts (t ∷ ts) bs → bindings_of W parts ts (matched_by c (element_of W t) bs) ≡ bindings_of w parts ts (matched_by c (element_of w t) bs)
          → cond b (bindings_of W parts (t ∷ ts) bs) (bindings_of W parts ts (matched_by c (element_of W t) bs)) ≡ cond b (bindings_of w parts (t ∷ ts) bs) (bindings_of w parts ts (matched_by c (element_of w t) bs))
      by true one other = one
      by false one other = other
  bindings_same (part.Group cs ∷ parts) (t ∷ ts) bs p = bindings_same parts (t ∷ ts) bs p

  elements_same : (tags : List ℕ) → TagsAlike tags → elements_of W tags ≡ elements_of w tags
  elements_same [] p = refl
  elements_same (t ∷ ts) p =
      ap (λ o. unwrap_or o no_element ∷ elements_of W ts) p.0 ∙ ap (λ es. unwrap_or (element_of w t) no_element ∷ es) (elements_same ts p.1)

  found_alike : (t : ℕ) → SameAt 0 → SameAt t → SameAt (unwrap_or (element_of w t) no_element).tag
  found_alike t none is = by (element_of w t) refl
    where
      by : (o : Option Element) → element_of w t ≡ o → SameAt (unwrap_or o no_element).tag
      by None e = none
      by (Some x) e = subst SameAt (sym (found_tag w t x e)) is

  elements_alike : (tags : List ℕ) → SameAt 0 → TagsAlike tags → CellsAlike (elements_of w tags)
  elements_alike [] none p = tt
  elements_alike (t ∷ ts) none p = (found_alike t none p.0, elements_alike ts none p.1)

  module _ (s : Setting) (i : Inst) (last : ℕ) (names : Spellings) (coming : Coming) (tags : TagsAlike i.tags) (none : SameAt 0) (fresh : (t : ℕ) → last < t → SameAt t) where
    abbrev given : List Element → Given
    given wm = record { wm = wm; last = last; names = names; coming = coming }

    begun_over : begun s i (given W) ≡ over (begun s i (given w))
    begun_over =
        let first : List Binding → List Element → ActState = λ bs es. record (begun s i (given W)) { bindings = bs; cells = es } in
        ap (λ bs. first bs (elements_of W i.tags)) (bindings_same (conditions_of s.rules i.rule) i.tags [] tags)
        ∙ ap (λ es. first (bindings_of w (conditions_of s.rules i.rule) i.tags []) es) (elements_same i.tags tags)

    pub begun_alike : [] ≡ before → last ≡ first → Alike (begun s i (given w))
    begun_alike first_of_all same = record { wm = refl; lawful = tt; last = sym same; more = []; grown = first_of_all ∙ sym (append-nil before); none = none; fresh = fresh; cells = elements_alike i.tags none tags; made = none; gone = tt }

    pub acted_alike : [] ≡ before → last ≡ first → (column : ℕ) → acted s column i (given W) ≡ acted s column i (given w)
    acted_alike first_of_all same column =
        let actions = actions_of s.rules i.rule in
        let p = actions_alike s column 1 actions (begun s i (given w)) (begun_alike first_of_all same) in
        let whole : List ℕ → Result Acted Misdeed → Effect Misdeed Acted = λ bytes o. record { bytes = bytes; outcome = o } in
        let e = actions_done s column 1 actions (begun s i (given w)) in
        ap (λ d. told_as left_by (λ f. f) (actions_done s column 1 actions d)) begun_over
        ∙ ap (λ b. whole b (outcome_as left_by (λ f. f) (actions_done s column 1 actions (over (begun s i (given w)))).outcome)) p.bytes
        ∙ ap (λ o. whole e.bytes o) (left_same over Alike left_by (λ f. f) (λ d. refl) (actions_done s column 1 actions (over (begun s i (given w)))).outcome e.outcome p.outcome)
