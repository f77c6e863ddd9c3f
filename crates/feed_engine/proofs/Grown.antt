-- A right side adds changes to those that it has made, and each of them is lawful.
use Rattle.std.proofs.Common.{◌≡◌, ℕ, ◌+◌, List, [], ◌∷◌, ◌++◌, fold, length, Bool, true, false, cond, Option, Some, None, Result, Ok, Err, IfOk, refl, ap, sym, ◌∙◌, subst, arith}
use Rattle.std.proofs.lemmas.List.{append-nil, append_assoc}
use Rattle.ops_base.specs.declared.actions.Action.{Action}
use Rattle.ops_base.specs.declared.actions.Action.TheVariants as action
use Rattle.ops_base.specs.declared.actions.Item.{Item}
use Rattle.ops_base.specs.declared.actions.Item.TheVariants as item
use Rattle.ops_base.specs.declared.actions.Put.{Put}
use Rattle.ops_base.specs.declared.actions.Term.{Term}
use Rattle.ops_base.specs.declared.actions.Term.TheVariants as term
use Rattle.ops_base.specs.declared.elements.Change.{Change}
use Rattle.ops_base.specs.declared.elements.Change.TheVariants as change
use Rattle.ops_base.specs.declared.elements.Class.{Class}
use Rattle.ops_base.specs.declared.elements.Element.{Element}
use Rattle.ops_base.specs.declared.matching.Binding.{Binding}
use Rattle.ops_base.specs.declared.rules.Inst.{Inst}
use Rattle.ops_base.specs.declared.values.Value.{Value}
use Rattle.ops_base.specs.Names.{Spellings}
use Rattle.ops_base.specs.Valid.{class_of}
use Rattle.ops_base.specs.WorkingMemory.{done, Lawful, last_after}
use Rattle.ops_base.proofs.Changes.{done_push, last_after_push}
use Rattle.ops_io.specs.Coming.{Coming}
use Rattle.ops_io.specs.Output.{column_after}
use Rattle.ops_tokens.specs.Accepting.{Accepted, accepted}
use Rattle.ops_tokens.specs.declared.accept.AcceptFault.{AcceptFault}
use Rattle.ops_tokens.specs.declared.accept.AcceptFault.TheVariants as accept_fault
use Rattle.ops_meaning.specs.Acting.{Setting, ActState, ActionError, Given, Valued, Filled, evaluated, value_in, computed_as, accepted_as, values_placed, placed, terms_placed, puts_made, puts_over, made_fields, modified_fields, emptied, has_tag, cell_of, changed, next_element, added, removed, modified, bound, first_of, printed, lead_after, item_done, items_done, changes_told, action_done, begun}
use Rattle.ops_meaning.specs.Computing.{Computed, computed}
use Rattle.ops_meaning.specs.Effects.{Effect, going_on, followed_by}
use Rattle.ops_meaning.specs.Layout.{Lead, Apart}
use Rattle.ops_meaning.proofs.Lawful.{has_tag-Contains, lawful_push}

then_on : {E S T : Type 0} (P : S → Type 0) (Q : T → Type 0) (bytes : List ℕ) (o : Result S E) (next : S → Effect E T) → IfOk o P → ((s : S) → P s → IfOk (next s).outcome Q) → IfOk (going_on bytes o next).outcome Q
then_on P Q bytes (Ok s) next p q = q s p
then_on P Q bytes (Err e) next p q = tt

behind : {E S T : Type 0} (P : S → Type 0) (Q : T → Type 0) (o : Result S E) (next : S → Result T E) → IfOk o P → ((s : S) → P s → IfOk (next s) Q) → IfOk (followed_by o next) Q
behind P Q (Ok s) next p q = q s p
behind P Q (Err e) next p q = tt

-- The changes so far are lawful over this working memory and this last tag, they lead to the present ones, and they
-- begin with the earlier changes.
pub record IsGrown (before : List Change) (old : List Element) (given : ℕ) (d : ActState) : Type 0 where
  pub lawful : Lawful old given d.changes
  pub memory : done old d.changes ≡ d.wm
  pub last_tag : last_after given d.changes ≡ d.last
  pub more : List Change
  pub grown : d.changes ≡ before ++ more

module _ (before : List Change) (old : List Element) (given : ℕ) where
  abbrev Grown : ActState → Type 0
  Grown d = IsGrown before old given d

  -- only parts that are not working memory differ
  grown_beside : (d : ActState) (bindings : List Binding) (cells : List Element) (halted : Bool) (names : Spellings) (coming : Coming) → Grown d
      → Grown (record d { bindings = bindings; cells = cells; halted = halted; names = names; coming = coming })
  grown_beside d bindings cells halted names coming p =
      record { lawful = p.lawful; memory = p.memory; last_tag = p.last_tag; more = p.more; grown = p.grown }

  abbrev GrownValued : Valued → Type 0
  GrownValued v = Grown v.doing

  abbrev GrownFilled : Filled → Type 0
  GrownFilled f = Grown f.doing

  -- ---- values

  computed_grown : (d : ActState) (c : Computed) → Grown d → IfOk (computed_as d c) GrownValued
  computed_grown d (Ok v) p = p
  computed_grown d (Err k) p = tt

  accepted_grown : (d : ActState) (r : Result Accepted AcceptFault) → Grown d → IfOk (accepted_as d r) GrownValued
  accepted_grown d (Ok a) p = grown_beside d d.bindings d.cells d.halted a.names a.coming p
  accepted_grown d (Err accept_fault.TooLong) p = tt
  accepted_grown d (Err accept_fault.Read) p = tt
  accepted_grown d (Err accept_fault.OutOfMemory) p = tt

  evaluated_grown : (classes : List Class) (t : Term) (d : ActState) → Grown d → IfOk (evaluated classes t d) GrownValued
  evaluated_grown classes (term.Constant v) d p = p
  evaluated_grown classes (term.Variable v) d p = p
  evaluated_grown classes (term.One cell field) d p = p
  evaluated_grown classes (term.Rest cell) d p = p
  evaluated_grown classes (term.Compute formula) d p = computed_grown d (computed (value_in d) formula) p
  evaluated_grown classes term.Fresh d p = grown_beside d d.bindings d.cells d.halted _ d.coming p
  evaluated_grown classes term.Accept d p = accepted_grown d (accepted d.names d.coming) p

  -- ---- fields

  placed_grown : (d : ActState) (o : Option (List Value)) → Grown d → IfOk (placed d o) GrownFilled
  placed_grown d (Some fields) p = p
  placed_grown d None p = tt

  terms_grown : (classes : List Class) (at : ℕ) (ts : List Term) (f : Filled) → GrownFilled f → IfOk (terms_placed classes at ts f) GrownFilled
  terms_grown classes at [] f p = p
  terms_grown classes at (t ∷ ts) f p =
      behind GrownValued GrownFilled (evaluated classes t f.doing) _ (evaluated_grown classes t f.doing p)
      (λ v q. behind GrownFilled GrownFilled (placed v.doing (values_placed at v.values f.fields)) (λ g. terms_placed classes (at + length v.values) ts g) (placed_grown v.doing (values_placed at v.values f.fields) q)
      (λ g r. terms_grown classes (at + length v.values) ts g r))

  made_grown : (classes : List Class) (c : Class) (puts : List Put) (f : Filled) → GrownFilled f → IfOk (puts_made classes c puts f) GrownFilled
  made_grown classes c [] f p = p
  made_grown classes c (x ∷ puts) f p =
      behind GrownFilled GrownFilled (terms_placed classes x.field x.terms (record f { fields = emptied c x.field f.fields })) (λ g. puts_made classes c puts g) (terms_grown classes x.field x.terms _ p)
      (λ g q. made_grown classes c puts g q)

  over_grown : (classes : List Class) (puts : List Put) (f : Filled) → GrownFilled f → IfOk (puts_over classes puts f) GrownFilled
  over_grown classes [] f p = p
  over_grown classes (x ∷ puts) f p =
      behind GrownFilled GrownFilled (terms_placed classes x.field x.terms f) (λ g. puts_over classes puts g) (terms_grown classes x.field x.terms f p)
      (λ g q. over_grown classes puts g q)

  -- ---- changes

  change_grown : (d : ActState) (last : ℕ) (c : Change) → Grown d → Lawful d.wm d.last (c ∷ []) → last_after d.last (c ∷ []) ≡ last → Grown (changed (record d { last = last }) c)
  change_grown d last c p lawful is =
      let P : List Element → Type 0 = λ wm. Lawful wm (last_after given d.changes) (c ∷ []) in
      let Q : ℕ → Type 0 = λ n. Lawful d.wm n (c ∷ []) in
      record {
        lawful = lawful_push old given d.changes c p.lawful (subst P (sym p.memory) (subst Q (sym p.last_tag) lawful));
        memory = done_push old d.changes c ∙ ap (λ wm. done wm (c ∷ [])) p.memory;
        last_tag = last_after_push given d.changes c ∙ ap (λ n. last_after n (c ∷ [])) p.last_tag ∙ is;
        more = p.more ++ c ∷ [];
        grown = ap (λ cs. cs ++ c ∷ []) p.grown ∙ append_assoc before p.more (c ∷ []);
      }

  one_added : (d : ActState) (class : ℕ) (fields : List Value) → Grown d → Grown (added d class fields)
  one_added d class fields p = change_grown d (d.last + 1) (change.Add (next_element d class fields)) p (omega arith, tt) refl

  one_removed : (d : ActState) (tag : ℕ) → Grown d → Grown (removed d tag)
  one_removed d tag p = by (has_tag d.wm tag) refl
    where
      by : (b : Bool) → has_tag d.wm tag ≡ b → Grown (cond b (changed d (change.Remove tag)) d)
      by true is = change_grown d d.last (change.Remove tag) p (has_tag-Contains d.wm tag is, tt) refl
      by false is = p

  all_removed : (cells : List ℕ) (d : ActState) → Grown d → Grown (fold (λ d c. removed d (cell_of d c).tag) d cells)
  all_removed [] d p = p
  all_removed (c ∷ cells) d p = all_removed cells (removed d (cell_of d c).tag) (one_removed d (cell_of d c).tag p)

  one_modified : (d : ActState) (cell : ℕ) (fields : List Value) → Grown d → Grown (modified d cell fields)
  one_modified d cell fields p =
      let e = cell_of d cell in
      let next = added (removed d e.tag) e.class fields in
      grown_beside next next.bindings _ next.halted next.names next.coming (one_added (removed d e.tag) e.class fields (one_removed d e.tag p))

  -- ---- actions

  printed_grown : (lead : Lead) (column : ℕ) (r : Result Valued ActionError) → IfOk r GrownValued → IfOk (printed lead column r).outcome Grown
  printed_grown lead column (Ok v) p = p
  printed_grown lead column (Err m) p = tt

  item_grown : (classes : List Class) (lead : Lead) (column : ℕ) (x : Item) (d : ActState) → Grown d → IfOk (item_done classes lead column x d).outcome Grown
  item_grown classes lead column (item.Print t) d p = printed_grown lead column (evaluated classes t d) (evaluated_grown classes t d p)
  item_grown classes lead column item.Crlf d p = p
  item_grown classes lead column (item.TabTo n) d p = p
  item_grown classes lead column (item.RightIn n) d p = p

  items_grown : (classes : List Class) (lead : Lead) (column : ℕ) (items : List Item) (d : ActState) → Grown d → IfOk (items_done classes lead column items d).outcome Grown
  items_grown classes lead column [] d p = p
  items_grown classes lead column (x ∷ items) d p =
      let e = item_done classes lead column x d in
      then_on Grown Grown e.bytes e.outcome (λ d. items_done classes (lead_after x) (column_after column e.bytes) items d) (item_grown classes lead column x d p)
      (λ d q. items_grown classes (lead_after x) (column_after column e.bytes) items d q)

  pub action_grown : (s : Setting) (column : ℕ) (a : Action) (d : ActState) → IsGrown before old given d → IfOk (action_done s column a d).outcome (IsGrown before old given)
  action_grown s column (action.Make class puts) d p =
      then_on Grown Grown [] (followed_by (made_fields s.classes (class_of s.classes class) puts d) (λ f. Ok (added f.doing class f.fields))) (changes_told s d (column_after column []))
      (behind GrownFilled Grown (made_fields s.classes (class_of s.classes class) puts d) (λ f. Ok (added f.doing class f.fields))
      (made_grown s.classes (class_of s.classes class) puts _ p) (λ f q. one_added f.doing class f.fields q))
      (λ d q. q)
  action_grown s column (action.Modify cell puts) d p =
      then_on Grown Grown [] (followed_by (modified_fields s.classes puts cell d) (λ f. Ok (modified f.doing cell f.fields))) (changes_told s d (column_after column []))
      (behind GrownFilled Grown (modified_fields s.classes puts cell d) (λ f. Ok (modified f.doing cell f.fields))
      (over_grown s.classes puts _ p) (λ f q. one_modified f.doing cell f.fields q))
      (λ d q. q)
  action_grown s column (action.Remove cells) d p = all_removed cells d p
  action_grown s column (action.Write items) d p = items_grown s.classes Apart column items d p
  action_grown s column (action.Bind variable t) d p =
      behind GrownValued Grown (evaluated s.classes t d) (λ v. Ok (bound v.doing variable (first_of v.values)))
      (evaluated_grown s.classes t d p) (λ v q. grown_beside v.doing _ v.doing.cells v.doing.halted v.doing.names v.doing.coming q)
  action_grown s column (action.Cbind cell) d p = grown_beside d d.bindings _ d.halted d.names d.coming p
  action_grown s column action.Halt d p = grown_beside d d.bindings d.cells true d.names d.coming p
  action_grown s column (action.Build template holes) d p =
      record { lawful = p.lawful; memory = p.memory; last_tag = p.last_tag; more = p.more; grown = p.grown }

-- nothing is done yet
pub begun_grown : (s : Setting) (i : Inst) (g : Given) → IsGrown [] g.wm g.last (begun s i g)
begun_grown s i g = record { lawful = tt; memory = refl; last_tag = refl; more = []; grown = refl }

-- the same, from all that was changed so far on
pub grown_from_now : (before : List Change) (old : List Element) (given : ℕ) (d : ActState) → IsGrown before old given d → IsGrown d.changes old given d
grown_from_now before old given d p = record { lawful = p.lawful; memory = p.memory; last_tag = p.last_tag; more = []; grown = sym (append-nil d.changes) }

-- it does not depend on the names and on the input
pub grown_with : (before : List Change) (old : List Element) (given : ℕ) (d : ActState) (names : Spellings) (coming : Coming) → IsGrown before old given d → IsGrown before old given (record d { names = names; coming = coming })
grown_with before old given d names coming p = grown_beside before old given d d.bindings d.cells d.halted names coming p
