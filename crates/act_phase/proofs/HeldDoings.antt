-- A right side makes no symbol that the names do not hold: what it binds, copies, places, makes and builds comes from the
-- program, from working memory, from fresh atoms and from the input, all of which are held.
use Rattle.std.proofs.Common.{◌≡◌, ℕ, zero, suc, ◌+◌, ◌<◌, ◌≤◌, Bool, true, cond, ◌&&◌, ◌==◌, not, List, [], ◌∷◌, ◌++◌, length, take, fold, ℤ, Option, Some, None, Result, Ok, Err, MatchResult, refl, ap, ◌∙◌, arith, slice_get, unwrap_or, nat_lt}
use Rattle.std.specs.Prelude.{slice_set, int_div, int_rem, ◌+ℤ◌, ◌-ℤ◌, ◌*ℤ◌, bytes_eq, option_and_then}
use Rattle.std.specs.List.{list_all}
use Rattle.std.proofs.lemmas.Bool.{and_parts, and_from, cond_both, lt-ltb}
use Rattle.std.proofs.lemmas.List.{length_push}
use Rattle.std.proofs.lemmas.List.Sums.{prefix_len-le-length}
use Rattle.ops_base.specs.declared.actions.Action.{Action}
use Rattle.ops_base.specs.declared.actions.Action.TheVariants as action
use Rattle.ops_base.specs.declared.actions.Hole.{Hole}
use Rattle.ops_base.specs.declared.actions.Item.{Item}
use Rattle.ops_base.specs.declared.actions.Item.TheVariants as item
use Rattle.ops_base.specs.declared.actions.Put.{Put}
use Rattle.ops_base.specs.declared.actions.Term.{Term}
use Rattle.ops_base.specs.declared.actions.Term.TheVariants as term
use Rattle.ops_base.specs.declared.conditions.Condition.{Condition}
use Rattle.ops_base.specs.declared.conditions.Part.{Part}
use Rattle.ops_base.specs.declared.conditions.Part.TheVariants as part
use Rattle.ops_base.specs.declared.conditions.Operand.{Operand}
use Rattle.ops_base.specs.declared.conditions.Operand.TheVariants as operand
use Rattle.ops_base.specs.declared.conditions.Test.{Test}
use Rattle.ops_base.specs.declared.elements.Change.{Change}
use Rattle.ops_base.specs.declared.elements.Change.TheVariants as change
use Rattle.ops_base.specs.declared.elements.Class.{Class}
use Rattle.ops_base.specs.declared.elements.Element.{Element}
use Rattle.ops_base.specs.declared.endings.ActKind.TheVariants as act_fault
use Rattle.ops_base.specs.declared.expression.Op.{Op}
use Rattle.ops_base.specs.declared.expression.Op.TheVariants as op
use Rattle.ops_base.specs.declared.matching.Binding.{Binding}
use Rattle.ops_base.specs.declared.rules.Inst.{Inst}
use Rattle.ops_base.specs.declared.rules.Rule.{Rule}
use Rattle.ops_base.specs.declared.values.Value.{Value}
use Rattle.ops_base.specs.declared.values.Value.TheVariants as value
use Rattle.ops_base.specs.Expression.{Formula, number, variable, apply}
use Rattle.ops_base.specs.Matching.{bound_to, operand_holds, after_test, after_tests, match_of}
use Rattle.ops_base.specs.Names.{Spellings, with_fresh, fresh_spelling, next_fresh, place_of}
use Rattle.ops_base.specs.Symbols.{value_held, term_held, put_held, item_held, action_held, rule_held, symbol_held, part_held}
use Rattle.ops_base.specs.Valid.{class_of, is_vector, most_fields}
use Rattle.ops_base.specs.Values.{nil}
use Rattle.ops_base.specs.WorkingMemory.{field_of, no_fields, scalar_count}
use Rattle.ops_io.specs.Coming.{Coming}
use Rattle.ops_io.specs.Output.{column_after}
use Rattle.ops_tokens.specs.Accepting.{Accepted, Atom, Number, Spelled, accepted, most_accepted, bytes_taken, asks_further, behind_atom, behind_space, atom_at_front, accepted_as as atom_accepted}
use Rattle.ops_tokens.specs.Numbers.{is_in_range}
use Rattle.ops_tokens.specs.declared.accept.AcceptFault.{AcceptFault}
use Rattle.ops_tokens.specs.declared.accept.AcceptFault.TheVariants as accept_fault
use Rattle.ops_meaning.specs.Acting.{Setting, ActState, ActionError, in_action, Given, Acted, Valued, Filled, no_element, element_of, elements_of, matched_by, bindings_of, conditions_of, actions_of, cell_of, value_in, evaluated, computed_as, accepted_as, first_of, value_placed, values_placed, placed, terms_placed, emptied, puts_made, puts_over, made_fields, modified_fields, has_tag, changed, next_element, added, removed, modified, made_by, made_last, bound, fillings, filled_from, printed, lead_after, item_done, items_done, changes_told, action_done, actions_done, begun, left_by, acted}
use Rattle.ops_meaning.specs.Computing.{Computed, in_range, with_divisor, is_zero, operated, applied, computed}
use Rattle.ops_meaning.specs.Effects.{followed_by, outcome_as}
use Rattle.ops_meaning.specs.Layout.{Lead, Apart}
use Rattle.ops_meaning.proofs.Doings.{goes_on, goes_as}
use Rattle.act_phase.specs.Held.{element_held, change_held}
use Rattle.act_phase.proofs.FilledHeld.{filling_held, from_still}
use Rattle.act_phase.proofs.Held.{all_push, all_both, rules_more, all_set, all_take, all_drop, all_replicate, all_got, all_found, of_found, all_weaken, value_more, values_more, elements_more, changes_more, HoldsOf}

goes_behind : {E S T : Type 0} (P : S → Type 0) (Q : T → Type 0) (R : E → Type 0) (o : Result S E) (next : S → Result T E) → MatchResult o P R → ((s : S) → P s → MatchResult (next s) Q R) → MatchResult (followed_by o next) Q R
goes_behind P Q R (Ok s) next p q = q s p
goes_behind P Q R (Err e) next p q = p

-- an end says nothing of symbols
abbrev pub Any : {E : Type 0} → E → Type 0
Any e = Unit {0}

-- ---- bindings and values

abbrev binding_held : ℕ → Binding → Bool
binding_held n b = value_held n b.value

module _ (n : ℕ) (some : 0 < n) where
  nil_held : value_held n nil ≡ true
  nil_held = lt-ltb 0 n some

  bound_held : (v : ℕ) (bs : List Binding) (o : Option Value) → value_held n (unwrap_or o nil) ≡ true → list_all (binding_held n) bs ≡ true
      → value_held n (unwrap_or (fold (λ found (b : Binding). cond (b.variable == v) (Some b.value) found) o bs) nil) ≡ true
  bound_held v [] o e h = e
  bound_held v (b ∷ bs) o e h =
      let parts = and_parts (binding_held n b) (list_all (binding_held n) bs) h in
      bound_held v bs (cond (b.variable == v) (Some b.value) o)
      (cond_both (b.variable == v) (Some b.value) o (λ o. value_held n (unwrap_or o nil) ≡ true) (λ _. parts.0) (λ _. e)) parts.1

  field_held : (e : Element) (f : ℕ) → element_held n e ≡ true → value_held n (field_of e f) ≡ true
  field_held e f h = all_got (value_held n) e.fields f nil h nil_held

  pub first_held : (vs : List Value) → list_all (value_held n) vs ≡ true → value_held n (first_of vs) ≡ true
  first_held [] h = nil_held
  first_held (v ∷ vs) h = (and_parts (value_held n v) (list_all (value_held n) vs) h).0

  cell_held : (cells : List Element) (c : ℕ) → list_all (element_held n) cells ≡ true → element_held n (unwrap_or (slice_get cells c) no_element) ≡ true
  cell_held cells c h = all_got (element_held n) cells c no_element h refl

  -- ---- what an instantiation brings

  abbrev BindingsHeld : Option (List Binding) → Type 0
  BindingsHeld o = HoldsOf (list_all (binding_held n)) o

  bound_to_held : (bs : List Binding) (o : Operand) (a : Value) → list_all (binding_held n) bs ≡ true → value_held n a ≡ true → list_all (binding_held n) (bound_to bs o a) ≡ true
  bound_to_held bs (operand.Constant c) a h e = h
  bound_to_held bs (operand.OneOf cs) a h e = h
  bound_to_held bs (operand.Variable v) a h e = all_push (binding_held n) bs (record { variable = v; value = a }) h e

  test_held : (t : Test) (e : Element) (bs : List Binding) → element_held n e ≡ true → list_all (binding_held n) bs ≡ true → BindingsHeld (after_test t e bs)
  test_held t e bs h k =
      cond_both t.binds (Some (bound_to bs t.operand (field_of e t.field))) (cond (operand_holds t.pred (field_of e t.field) t.operand bs) (Some bs) None) BindingsHeld
      (λ _. bound_to_held bs t.operand (field_of e t.field) k (field_held e t.field h))
      (λ _. cond_both (operand_holds t.pred (field_of e t.field) t.operand bs) (Some bs) None BindingsHeld (λ _. k) (λ _. tt))

  then_tests : (ts : List Test) (e : Element) (o : Option (List Binding)) → BindingsHeld o → ((bs : List Binding) → list_all (binding_held n) bs ≡ true → BindingsHeld (after_tests ts e bs))
      → BindingsHeld (option_and_then (λ b. after_tests ts e b) o)
  then_tests ts e None h f = tt
  then_tests ts e (Some bs) h f = f bs h

  tests_held : (ts : List Test) (e : Element) (bs : List Binding) → element_held n e ≡ true → list_all (binding_held n) bs ≡ true → BindingsHeld (after_tests ts e bs)
  tests_held [] e bs h k = k
  tests_held (t ∷ ts) e bs h k = then_tests ts e (after_test t e bs) (test_held t e bs h k) (λ bs k. tests_held ts e bs h k)

  match_held : (c : Condition) (e : Element) (bs : List Binding) → element_held n e ≡ true → list_all (binding_held n) bs ≡ true → BindingsHeld (match_of c e bs)
  match_held c e bs h k = cond_both (e.class == c.class) (after_tests c.tests e bs) None BindingsHeld (λ _. tests_held c.tests e bs h k) (λ _. tt)

  matched_held : (c : Condition) (o : Option Element) (bs : List Binding) → HoldsOf (element_held n) o → list_all (binding_held n) bs ≡ true → list_all (binding_held n) (matched_by c o bs) ≡ true
  matched_held c None bs h k = k
  matched_held c (Some e) bs h k = of_found (list_all (binding_held n)) (match_of c e bs) bs (match_held c e bs h k) k

  brought_held : (wm : List Element) (parts : List Part) (tags : List ℕ) (bs : List Binding) → list_all (element_held n) wm ≡ true → list_all (binding_held n) bs ≡ true
      → list_all (binding_held n) (bindings_of wm parts tags bs) ≡ true
  brought_held wm [] tags bs h k = k
  brought_held wm (p ∷ parts) [] bs h k = k
  brought_held wm (part.One c ∷ parts) (t ∷ ts) bs h k =
      cond_both c.negated (bindings_of wm parts (t ∷ ts) bs) (bindings_of wm parts ts (matched_by c (element_of wm t) bs)) (λ bs. list_all (binding_held n) bs ≡ true)
      (λ _. brought_held wm parts (t ∷ ts) bs h k)
      (λ _. brought_held wm parts ts (matched_by c (element_of wm t) bs) h (matched_held c (element_of wm t) bs (all_found (element_held n) (λ (e : Element). e.tag == t) wm h) k))
  brought_held wm (part.Group cs ∷ parts) (t ∷ ts) bs h k = brought_held wm parts (t ∷ ts) bs h k

  elements_held : (wm : List Element) (tags : List ℕ) → list_all (element_held n) wm ≡ true → list_all (element_held n) (elements_of wm tags) ≡ true
  elements_held wm [] h = refl
  elements_held wm (t ∷ ts) h =
      and_from _ _ (of_found (element_held n) (element_of wm t) no_element (all_found (element_held n) (λ (e : Element). e.tag == t) wm h) refl) (elements_held wm ts h)

  -- ---- what `compute` gives

  abbrev ComputedHeld : Computed → Type 0
  ComputedHeld (Ok v) = value_held n v ≡ true
  ComputedHeld (Err k) = Unit {0}

  range_held : (z : ℤ) → ComputedHeld (in_range z)
  range_held z = cond_both (is_in_range z) (Ok (value.Whole z)) (Err act_fault.Overflow) ComputedHeld (λ _. refl) (λ _. tt)

  divided_held : (b : ℤ) (c : Computed) → ComputedHeld c → ComputedHeld (with_divisor b c)
  divided_held b c h = cond_both (is_zero b) (Err act_fault.ZeroDivisor) c ComputedHeld (λ _. tt) (λ _. h)

  operated_held : (o : Op) (a b : ℤ) → ComputedHeld (operated o a b)
  operated_held op.Add a b = range_held (a +ℤ b)
  operated_held op.Sub a b = range_held (a -ℤ b)
  operated_held op.Mul a b = range_held (a *ℤ b)
  operated_held op.Div a b = divided_held b (in_range (int_div a b)) (range_held (int_div a b))
  operated_held op.Rem a b = divided_held b (Ok (value.Whole (int_rem a b))) refl

  applied_held : (o : Op) (a b : Computed) → ComputedHeld (applied o a b)
  applied_held o a (Err k) = tt
  applied_held o (Err k) (Ok b) = tt
  applied_held o (Ok (value.Symbol s)) (Ok b) = tt
  applied_held o (Ok (value.Whole a)) (Ok (value.Symbol s)) = tt
  applied_held o (Ok (value.Whole a)) (Ok (value.Whole b)) = operated_held o a b

  computed_held : (valued : ℕ → Value) → ((v : ℕ) → value_held n (valued v) ≡ true) → (f : Formula) → ComputedHeld (computed valued f)
  computed_held valued h (number z) = refl
  computed_held valued h (variable v) = h v
  computed_held valued h (apply o left right) = applied_held o (computed valued left) (computed valued right)

  -- ---- fields

  abbrev FieldsHeld : Option (List Value) → Type 0
  FieldsHeld o = HoldsOf (list_all (value_held n)) o

  value_placed_held : (at : ℕ) (v : Value) (fields : List Value) → value_held n v ≡ true → list_all (value_held n) fields ≡ true → FieldsHeld (value_placed at v fields)
  value_placed_held at v fields e h =
      cond_both (nat_lt at most_fields) (Some (cond (nat_lt at (length fields)) (slice_set fields at v) (fields ++ v ∷ []))) None FieldsHeld
      (λ _. cond_both (nat_lt at (length fields)) (slice_set fields at v) (fields ++ v ∷ []) (λ fs. list_all (value_held n) fs ≡ true)
      (λ _. all_set (value_held n) fields at v h e) (λ _. all_push (value_held n) fields v h e)) (λ _. tt)

  then_placed : (at : ℕ) (vs : List Value) (o : Option (List Value)) → FieldsHeld o → ((fields : List Value) → list_all (value_held n) fields ≡ true → FieldsHeld (values_placed at vs fields))
      → FieldsHeld (option_and_then (λ next. values_placed at vs next) o)
  then_placed at vs None h f = tt
  then_placed at vs (Some fields) h f = f fields h

  values_placed_held : (at : ℕ) (vs fields : List Value) → list_all (value_held n) vs ≡ true → list_all (value_held n) fields ≡ true → FieldsHeld (values_placed at vs fields)
  values_placed_held at [] fields e h = h
  values_placed_held at (v ∷ vs) fields e h =
      let parts = and_parts (value_held n v) (list_all (value_held n) vs) e in
      then_placed (suc at) vs (value_placed at v fields) (value_placed_held at v fields parts.0 h) (λ fields h. values_placed_held (suc at) vs fields parts.1 h)

  pub emptied_held : (c : Class) (f : ℕ) (fields : List Value) → list_all (value_held n) fields ≡ true → list_all (value_held n) (emptied c f fields) ≡ true
  emptied_held c f fields h =
      cond_both (is_vector c f) (take f fields) fields (λ fs. list_all (value_held n) fs ≡ true) (λ _. all_take (value_held n) f fields h) (λ _. h)

  pub no_fields_held : (c : Class) → list_all (value_held n) (no_fields c) ≡ true
  no_fields_held c = all_replicate (value_held n) (scalar_count c) nil nil_held

  made_held : (cs : List Change) (e : Element) → element_held n e ≡ true → list_all (change_held n) cs ≡ true → element_held n (fold made_by e cs) ≡ true
  made_held [] e h k = h
  made_held (change.Add new ∷ cs) e h k =
      let parts = and_parts (element_held n new) (list_all (change_held n) cs) k in made_held cs new parts.0 parts.1
  made_held (change.Remove tag ∷ cs) e h k = made_held cs e h k

-- ---- accepted atoms

abbrev AcceptedHeld : Spellings → Result Accepted AcceptFault → Type 0
AcceptedHeld names (Ok a) = (length names.held ≤ length a.names.held) × (value_held (length a.names.held) a.value ≡ true)
AcceptedHeld names (Err f) = Unit {0}

atom_held : (names : Spellings) (rest : Coming) (a : Atom) → (let r : Result Accepted AcceptFault = Ok (atom_accepted names rest a) in AcceptedHeld names r)
atom_held names rest (Number z) = (omega arith, refl)
atom_held names rest (Spelled s) =
    cond_both (nat_lt (place_of names.held s) (length names.held)) names.held (names.held ++ s ∷ [])
    (λ held. (length names.held ≤ length held) × (nat_lt (place_of names.held s) (length held) ≡ true))
    (λ is. (omega arith, is))
    (λ _. let long = length_push names.held s in
    let le = prefix_len-le-length (λ t. not (bytes_eq s t)) names.held in
    (omega (arith, long), lt-ltb (place_of names.held s) (length (names.held ++ s ∷ [])) (omega (arith, long, le))))

accepts_held : (names : Spellings) (c : Coming) → AcceptedHeld names (accepted names c)
accepts_held names c =
    let atom : Result Accepted AcceptFault = Ok (atom_accepted names (behind_atom c) (atom_at_front (behind_space c.bytes))) in
    cond_both (nat_lt most_accepted (length (bytes_taken c.bytes))) (Err accept_fault.TooLong) _ (AcceptedHeld names) (λ _. tt)
    (λ _. cond_both (c.fails && asks_further c.bytes) (Err accept_fault.Read) atom (AcceptedHeld names) (λ _. tt)
    (λ _. atom_held names (behind_atom c) (atom_at_front (behind_space c.bytes))))

-- ---- a right side

-- At least this many symbols are held, and all that stand in the bindings, the cells, the changes so far and the
-- productions that were built.
pub record HeldDoing (n : ℕ) (d : ActState) : Type 0 where
  pub more : n ≤ length d.names.held
  pub bindings : list_all (binding_held (length d.names.held)) d.bindings ≡ true
  pub cells : list_all (element_held (length d.names.held)) d.cells ≡ true
  pub changes : list_all (change_held (length d.names.held)) d.changes ≡ true
  pub built : list_all (rule_held (length d.names.held)) d.built ≡ true

-- What evaluating leaves before which there were this many names: all its values are held.
pub record HeldValues (n before : ℕ) (vs : List Value) (d : ActState) : Type 0 where
  pub doing : HeldDoing n d
  pub values : list_all (value_held (length d.names.held)) vs ≡ true
  pub grown : before ≤ length d.names.held

-- what a right side leaves
pub record HeldActed (n : ℕ) (a : Acted) : Type 0 where
  pub more : n ≤ length a.names.held
  pub changes : list_all (change_held (length a.names.held)) a.changes ≡ true
  pub built : list_all (rule_held (length a.names.held)) a.built ≡ true

module _ (n : ℕ) (some : 0 < n) where
  abbrev Held : ActState → Type 0
  Held d = HeldDoing n d

  abbrev HeldValued : ℕ → Valued → Type 0
  HeldValued before v = HeldValues n before v.values v.doing

  abbrev HeldFilled : ℕ → Filled → Type 0
  HeldFilled before f = HeldValues n before f.fields f.doing

  abbrev count : ActState → ℕ
  count d = length d.names.held

  some_in : (d : ActState) → Held d → 0 < count d
  some_in d p = omega (arith, some, p.more)

  -- the same with more names and another input
  held_with : (d : ActState) (names : Spellings) (coming : Coming) → Held d → count d ≤ length names.held → Held (record d { names = names; coming = coming })
  held_with d names coming p le = record {
    more = omega (arith, p.more, le);
    bindings = all_weaken (binding_held (count d)) (binding_held (length names.held)) (λ b. value_more (count d) (length names.held) le b.value) d.bindings p.bindings;
    cells = elements_more (count d) (length names.held) le d.cells p.cells;
    changes = changes_more (count d) (length names.held) le d.changes p.changes;
    built = rules_more (count d) (length names.held) le d.built p.built;
  }

  variable_held : (d : ActState) (v : ℕ) → Held d → value_held (count d) (value_in d v) ≡ true
  variable_held d v p = bound_held (count d) (some_in d p) v d.bindings None (nil_held (count d) (some_in d p)) p.bindings

  one_value : (d : ActState) (v : Value) → Held d → value_held (count d) v ≡ true → HeldValues n (count d) (v ∷ []) d
  one_value d v p h = record { doing = p; values = and_from _ _ h refl; grown = omega arith }

  computed_as_held : (d : ActState) (c : Computed) (p : Held d) → ComputedHeld (count d) (some_in d p) c → MatchResult (computed_as d c) (HeldValued (count d)) Any
  computed_as_held d (Ok v) p h = one_value d v p h
  computed_as_held d (Err k) p h = tt

  accepted_as_held : (d : ActState) (r : Result Accepted AcceptFault) → Held d → AcceptedHeld d.names r → MatchResult (accepted_as d r) (HeldValued (count d)) Any
  accepted_as_held d (Ok a) p h = record { doing = held_with d a.names a.coming p h.0; values = and_from _ _ h.1 refl; grown = h.0 }
  accepted_as_held d (Err accept_fault.TooLong) p h = tt
  accepted_as_held d (Err accept_fault.Read) p h = tt
  accepted_as_held d (Err accept_fault.OutOfMemory) p h = tt

  evaluated_held : (classes : List Class) (t : Term) (d : ActState) → term_held n t ≡ true → Held d → MatchResult (evaluated classes t d) (HeldValued (count d)) Any
  evaluated_held classes (term.Constant v) d h p = one_value d v p (value_more n (count d) p.more v h)
  evaluated_held classes (term.Variable v) d h p = one_value d (value_in d v) p (variable_held d v p)
  evaluated_held classes (term.One cell field) d h p =
      one_value d (field_of (cell_of d cell) field) p (field_held (count d) (some_in d p) (cell_of d cell) field (cell_held (count d) (some_in d p) d.cells cell p.cells))
  evaluated_held classes (term.Rest cell) d h p =
      let e = cell_of d cell in
      record { doing = p; values = all_drop (value_held (count d)) (scalar_count (class_of classes e.class)) e.fields (cell_held (count d) (some_in d p) d.cells cell p.cells); grown = omega arith }
  evaluated_held classes (term.Compute f) d h p =
      computed_as_held d (computed (value_in d) f) p (computed_held (count d) (some_in d p) (value_in d) (λ v. variable_held d v p) f)
  evaluated_held classes term.Fresh d h p =
      let long = length_push d.names.held (fresh_spelling (next_fresh d.names)) in
      let le : count d ≤ length (with_fresh d.names).held = omega (arith, long) in
      record {
        doing = held_with d (with_fresh d.names) d.coming p le;
        values = and_from _ _ (lt-ltb (count d) (length (with_fresh d.names).held) (omega (arith, long))) refl;
        grown = le;
      }
  evaluated_held classes term.Accept d h p = accepted_as_held d (accepted d.names d.coming) p (accepts_held d.names d.coming)

  -- ---- fields

  placed_held : (before : ℕ) (d : ActState) (o : Option (List Value)) → Held d → before ≤ count d → HoldsOf (list_all (value_held (count d))) o → MatchResult (placed d o) (HeldFilled before) Any
  placed_held before d (Some fields) p le h = record { doing = p; values = h; grown = le }
  placed_held before d None p le h = tt

  terms_held : (classes : List Class) (at before : ℕ) (ts : List Term) (f : Filled) → list_all (term_held n) ts ≡ true → HeldFilled before f → MatchResult (terms_placed classes at ts f) (HeldFilled before) Any
  terms_held classes at before [] f h p = p
  terms_held classes at before (t ∷ ts) f h p =
      let parts = and_parts (term_held n t) (list_all (term_held n) ts) h in
      goes_behind (HeldValued (count f.doing)) (HeldFilled before) Any (evaluated classes t f.doing) _ (evaluated_held classes t f.doing parts.0 p.doing)
      (λ v q. goes_behind (HeldFilled before) (HeldFilled before) Any (placed v.doing (values_placed at v.values f.fields)) (λ g. terms_placed classes (at + length v.values) ts g)
      (placed_held before v.doing (values_placed at v.values f.fields) q.doing (omega (arith, p.grown, q.grown))
      (values_placed_held (count v.doing) (some_in v.doing q.doing) at v.values f.fields q.values (values_more (count f.doing) (count v.doing) q.grown f.fields p.values)))
      (λ g r. terms_held classes (at + length v.values) before ts g parts.1 r))

  puts_made_held : (classes : List Class) (c : Class) (before : ℕ) (puts : List Put) (f : Filled) → list_all (put_held n) puts ≡ true → HeldFilled before f → MatchResult (puts_made classes c puts f) (HeldFilled before) Any
  puts_made_held classes c before [] f h p = p
  puts_made_held classes c before (x ∷ puts) f h p =
      let parts = and_parts (put_held n x) (list_all (put_held n) puts) h in
      goes_behind (HeldFilled before) (HeldFilled before) Any (terms_placed classes x.field x.terms (record f { fields = emptied c x.field f.fields })) (λ g. puts_made classes c puts g)
      (terms_held classes x.field before x.terms (record f { fields = emptied c x.field f.fields }) parts.0
      (record { doing = p.doing; values = emptied_held (count f.doing) (some_in f.doing p.doing) c x.field f.fields p.values; grown = p.grown }))
      (λ g q. puts_made_held classes c before puts g parts.1 q)

  puts_over_held : (classes : List Class) (before : ℕ) (puts : List Put) (f : Filled) → list_all (put_held n) puts ≡ true → HeldFilled before f → MatchResult (puts_over classes puts f) (HeldFilled before) Any
  puts_over_held classes before [] f h p = p
  puts_over_held classes before (x ∷ puts) f h p =
      let parts = and_parts (put_held n x) (list_all (put_held n) puts) h in
      goes_behind (HeldFilled before) (HeldFilled before) Any (terms_placed classes x.field x.terms f) (λ g. puts_over classes puts g)
      (terms_held classes x.field before x.terms f parts.0 p) (λ g q. puts_over_held classes before puts g parts.1 q)

  -- ---- changes

  added_held : (d : ActState) (class : ℕ) (fields : List Value) → Held d → list_all (value_held (count d)) fields ≡ true → Held (added d class fields)
  added_held d class fields p h = record {
    more = p.more;
    bindings = p.bindings;
    cells = p.cells;
    changes = all_push (change_held (count d)) d.changes (change.Add (next_element d class fields)) p.changes h;
    built = p.built;
  }

  taken_held : (d : ActState) (tag : ℕ) → Held d → Held (changed d (change.Remove tag))
  taken_held d tag p = record { more = p.more; bindings = p.bindings; cells = p.cells; changes = all_push (change_held (count d)) d.changes (change.Remove tag) p.changes refl; built = p.built }

  removed_held : (d : ActState) (tag : ℕ) → Held d → Held (removed d tag)
  removed_held d tag p = cond_both (has_tag d.wm tag) (changed d (change.Remove tag)) d Held (λ _. taken_held d tag p) (λ _. p)

  all_removed : (cells : List ℕ) (d : ActState) → Held d → Held (fold (λ d c. removed d (cell_of d c).tag) d cells)
  all_removed [] d p = p
  all_removed (c ∷ cells) d p = all_removed cells (removed d (cell_of d c).tag) (removed_held d (cell_of d c).tag p)

  in_cell : (d : ActState) (cell class : ℕ) (cells : List Element) (e : Element) (fields : List Value) → Held d → list_all (element_held (count d)) cells ≡ true → e.fields ≡ fields → list_all (value_held (count d)) fields ≡ true
      → Held (record (added d class fields) { cells = slice_set cells cell e })
  in_cell d cell class cells e fields p h same k =
      let more = added_held d class fields p k in
      record {
        more = more.more;
        bindings = more.bindings;
        cells = all_set (element_held (count d)) cells cell e h (ap (list_all (value_held (count d))) same ∙ k);
        changes = more.changes;
        built = more.built;
      }

  modified_held : (d : ActState) (cell : ℕ) (fields : List Value) → Held d → list_all (value_held (count d)) fields ≡ true → Held (modified d cell fields)
  modified_held d cell fields p h =
      let e = cell_of d cell in
      let new = next_element d e.class fields in
      cond_both (has_tag d.wm e.tag) (changed d (change.Remove e.tag)) d (λ next. Held (record (added next e.class fields) { cells = slice_set d.cells cell new }))
      (λ _. in_cell (changed d (change.Remove e.tag)) cell e.class d.cells new fields (taken_held d e.tag p) p.cells refl h)
      (λ _. in_cell d cell e.class d.cells new fields p p.cells refl h)

  -- ---- actions

  printed_held : (before : ℕ) (lead : Lead) (column : ℕ) (r : Result Valued ActionError) → MatchResult r (HeldValued before) Any → MatchResult (printed lead column r).outcome Held Any
  printed_held before lead column (Ok v) p = p.doing
  printed_held before lead column (Err m) p = p

  item_done_held : (classes : List Class) (lead : Lead) (column : ℕ) (x : Item) (d : ActState) → item_held n x ≡ true → Held d → MatchResult (item_done classes lead column x d).outcome Held Any
  item_done_held classes lead column (item.Print t) d h p = printed_held (count d) lead column (evaluated classes t d) (evaluated_held classes t d h p)
  item_done_held classes lead column item.Crlf d h p = p
  item_done_held classes lead column (item.TabTo c) d h p = p
  item_done_held classes lead column (item.RightIn w) d h p = p

  items_done_held : (classes : List Class) (lead : Lead) (column : ℕ) (items : List Item) (d : ActState) → list_all (item_held n) items ≡ true → Held d → MatchResult (items_done classes lead column items d).outcome Held Any
  items_done_held classes lead column [] d h p = p
  items_done_held classes lead column (x ∷ items) d h p =
      let parts = and_parts (item_held n x) (list_all (item_held n) items) h in
      let e = item_done classes lead column x d in
      goes_on Held Held Any e.bytes e.outcome (λ d. items_done classes (lead_after x) (column_after column e.bytes) items d) (item_done_held classes lead column x d parts.0 p)
      (λ d q. items_done_held classes (lead_after x) (column_after column e.bytes) items d parts.1 q)

  fillings_held : (d : ActState) (holes : List Hole) → Held d → list_all (filling_held (count d)) (fillings d.bindings holes) ≡ true
  fillings_held d [] p = refl
  fillings_held d (h ∷ holes) p = and_from _ _ (variable_held d h.variable p) (fillings_held d holes p)

  action_done_held : (s : Setting) (column : ℕ) (a : Action) (d : ActState) → list_all (rule_held n) s.templates ≡ true → action_held n a ≡ true → Held d → MatchResult (action_done s column a d).outcome Held Any
  action_done_held s column (action.Make class puts) d t h p =
      let c = class_of s.classes class in
      goes_on Held Held Any [] (followed_by (made_fields s.classes c puts d) (λ f. Ok (added f.doing class f.fields))) (changes_told s d (column_after column []))
      (goes_behind (HeldFilled (count d)) Held Any (made_fields s.classes c puts d) (λ f. Ok (added f.doing class f.fields))
      (puts_made_held s.classes c (count d) puts (record { fields = no_fields c; doing = d }) h (record { doing = p; values = no_fields_held (count d) (some_in d p) c; grown = omega arith }))
      (λ f q. added_held f.doing class f.fields q.doing q.values))
      (λ d q. q)
  action_done_held s column (action.Modify cell puts) d t h p =
      goes_on Held Held Any [] (followed_by (modified_fields s.classes puts cell d) (λ f. Ok (modified f.doing cell f.fields))) (changes_told s d (column_after column []))
      (goes_behind (HeldFilled (count d)) Held Any (modified_fields s.classes puts cell d) (λ f. Ok (modified f.doing cell f.fields))
      (puts_over_held s.classes (count d) puts (record { fields = (cell_of d cell).fields; doing = d }) h (record { doing = p; values = cell_held (count d) (some_in d p) d.cells cell p.cells; grown = omega arith }))
      (λ f q. modified_held f.doing cell f.fields q.doing q.values))
      (λ d q. q)
  action_done_held s column (action.Remove cells) d t h p = all_removed cells d p
  action_done_held s column (action.Write items) d t h p = items_done_held s.classes Apart column items d h p
  action_done_held s column (action.Bind place x) d t h p =
      goes_behind (HeldValued (count d)) Held Any (evaluated s.classes x d) (λ v. Ok (bound v.doing place (first_of v.values))) (evaluated_held s.classes x d h p)
      (λ v q. record {
        more = q.doing.more;
        bindings = all_push (binding_held (count v.doing)) v.doing.bindings (record { variable = place; value = first_of v.values }) q.doing.bindings (first_held (count v.doing) (some_in v.doing q.doing) v.values q.values);
        cells = q.doing.cells;
        changes = q.doing.changes;
        built = q.doing.built;
      })
  action_done_held s column (action.Cbind cell) d t h p = record {
    more = p.more;
    bindings = p.bindings;
    cells = all_push (element_held (count d)) d.cells (made_last d.changes) p.cells (made_held (count d) (some_in d p) d.changes no_element refl p.changes);
    changes = p.changes;
    built = p.built;
  }
  action_done_held s column action.Halt d t h p = record { more = p.more; bindings = p.bindings; cells = p.cells; changes = p.changes; built = p.built }
  action_done_held s column (action.Build template holes) d t h p = record {
    more = p.more;
    bindings = p.bindings;
    cells = p.cells;
    changes = p.changes;
    built = all_both (rule_held (count d)) d.built (filled_from s.templates template (fillings d.bindings holes)) p.built
        (from_still (count d) (fillings d.bindings holes) (fillings_held d holes p) s.templates template (rules_more n (count d) p.more s.templates t));
  }

  actions_done_held : (s : Setting) (column k : ℕ) (actions : List Action) (d : ActState) → list_all (rule_held n) s.templates ≡ true → list_all (action_held n) actions ≡ true → Held d → MatchResult (actions_done s column k actions d).outcome Held Any
  actions_done_held s column k [] d t h p = p
  actions_done_held s column k (a ∷ rest) d t h p =
      let parts = and_parts (action_held n a) (list_all (action_held n) rest) h in
      let e = action_done s column a d in
      goes_on Held Held Any e.bytes (outcome_as (λ d. d) (in_action k) e.outcome) (λ d. actions_done s (column_after column e.bytes) (suc k) rest d)
      (goes_as Held Held Any Any (λ d. d) (in_action k) e.outcome (action_done_held s column a d t parts.0 p) (λ d q. q) (λ m q. tt))
      (λ d q. actions_done_held s (column_after column e.bytes) (suc k) rest d t parts.1 q)

  actions_of_held : (rules : List Rule) (i : ℕ) → list_all (rule_held n) rules ≡ true → list_all (action_held n) (actions_of rules i) ≡ true
  actions_of_held [] i h = refl
  actions_of_held (r ∷ rules) zero h =
      let whole = and_parts (rule_held n r) (list_all (rule_held n) rules) h in
      (and_parts (symbol_held n r.name && list_all (part_held n) r.conditions) (list_all (action_held n) r.actions) whole.0).1
  actions_of_held (r ∷ rules) (suc i) h = actions_of_held rules i (and_parts (rule_held n r) (list_all (rule_held n) rules) h).1

-- Where the names hold nil, the symbols of the rules and the templates and those of working memory, they hold after a
-- right side those that it makes, and those of the productions that it builds.
pub acted_held : (s : Setting) (column : ℕ) (i : Inst) (g : Given) → 0 < length g.names.held → list_all (rule_held (length g.names.held)) s.rules ≡ true
    → list_all (rule_held (length g.names.held)) s.templates ≡ true → list_all (element_held (length g.names.held)) g.wm ≡ true
    → MatchResult (acted s column i g).outcome (HeldActed (length g.names.held)) Any
acted_held s column i g some rules templates memory =
    let n = length g.names.held in
    let start = begun s i g in
    let e = actions_done s column 1 (actions_of s.rules i.rule) start in
    goes_as (HeldDoing n) (HeldActed n) Any Any left_by (λ f. f) e.outcome
    (actions_done_held n some s column 1 (actions_of s.rules i.rule) start templates (actions_of_held n some s.rules i.rule rules)
    (record {
      more = omega arith;
      bindings = brought_held n some g.wm (conditions_of s.rules i.rule) i.tags [] memory refl;
      cells = elements_held n some g.wm i.tags memory;
      changes = refl;
      built = refl;
    }))
    (λ d p. record { more = p.more; changes = p.changes; built = p.built }) (λ e p. tt)
