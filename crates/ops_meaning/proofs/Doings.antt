-- What the parts of a right side keep, and why they end.
use Rattle.std.proofs.Common.{◌≡◌, ℕ, suc, ◌+◌, List, [], ◌∷◌, fold, length, Bool, true, false, cond, Option, Some, None, slice_get, unwrap_or, Result, Ok, Err, IfOk, MatchResult, refl, ap, sym, ◌∙◌, subst, arith}
use Rattle.std.specs.Prelude.{◌++◌, option_map}
use Rattle.ops_base.specs.declared.actions.Action.{Action}
use Rattle.ops_base.specs.declared.actions.Action.TheVariants as action
use Rattle.ops_base.specs.declared.actions.Item.{Item}
use Rattle.ops_base.specs.declared.actions.Item.TheVariants as item
use Rattle.ops_base.specs.declared.actions.Put.{Put}
use Rattle.ops_base.specs.declared.actions.Term.{Term}
use Rattle.ops_base.specs.declared.actions.Term.TheVariants as term
use Rattle.ops_base.specs.declared.elements.Change.{Change}
use Rattle.ops_base.specs.declared.elements.Change.TheVariants as change
use Rattle.ops_base.specs.declared.elements.Class.{Class}
use Rattle.ops_base.specs.declared.elements.Element.{Element}
use Rattle.ops_base.specs.declared.matching.Binding.{Binding}
use Rattle.ops_base.specs.declared.rules.Inst.{Inst}
use Rattle.ops_base.specs.declared.values.Value.{Value}
use Rattle.ops_base.specs.Names.{Spellings}
use Rattle.ops_base.specs.Valid.{class_of}
use Rattle.ops_base.specs.WorkingMemory.{done, Lawful, last_after}
use Rattle.ops_io.specs.Coming.{Coming}
use Rattle.ops_io.specs.Output.{column_after}
use Rattle.ops_tokens.specs.Accepting.{Accepted, accepted}
use Rattle.ops_tokens.specs.declared.accept.AcceptFault.{AcceptFault}
use Rattle.ops_tokens.specs.declared.accept.AcceptFault.TheVariants as accept_fault
use Rattle.ops_base.specs.declared.actions.Hole.{Hole}
use Rattle.ops_base.specs.declared.filling.Filling.{Filling}
use Rattle.ops_base.specs.declared.rules.Rule.{Rule}
use Rattle.ops_base.specs.Filling.{rule_filled}
use Rattle.ops_meaning.specs.Acting.{Setting, ActState, ActionError, Fault, Unread, Misdeed, Bad, NoInput, in_action, Given, Acted, Valued, Filled, evaluated, value_in, computed_as, accepted_as, values_placed, placed, terms_placed, puts_made, puts_over, made_fields, modified_fields, emptied, has_tag, cell_of, changed, next_element, added, removed, modified, bound, first_of, fillings, filled_from, rule_built, printed, lead_after, item_done, items_done, changes_told, action_done, actions_done, actions_of, begun, left_by, acted}
use Rattle.ops_meaning.specs.Computing.{Computed, computed}
use Rattle.ops_meaning.specs.Effects.{Effect, going_on, followed_by, outcome_as}
use Rattle.ops_meaning.specs.Kept.{WellKept, KeepsNames, IsLawfulOver, AreFilledFrom}
use Rattle.ops_meaning.specs.Layout.{Lead, Apart}
use Rattle.ops_base.proofs.Changes.{done_push, last_after_push}
use Rattle.ops_meaning.proofs.Lawful.{has_tag-Contains, lawful_kept, lawful_risen, lawful_push}
use Rattle.ops_meaning.proofs.NamesKept.{names_stay, names_then, fresh_keeps, AcceptsWell, accepts_well}

-- ---- parts that leave this, or end so

pub goes_on : {E S T : Type 0} (P : S → Type 0) (Q : T → Type 0) (R : E → Type 0) (bytes : List ℕ) (o : Result S E) (next : S → Effect E T) → MatchResult o P R → ((s : S) → P s → MatchResult (next s).outcome Q R) → MatchResult (going_on bytes o next).outcome Q R
goes_on P Q R bytes (Ok s) next p q = q s p
goes_on P Q R bytes (Err e) next p q = p

goes_behind : {E S T : Type 0} (P : S → Type 0) (Q : T → Type 0) (R : E → Type 0) (o : Result S E) (next : S → Result T E) → MatchResult o P R → ((s : S) → P s → MatchResult (next s) Q R) → MatchResult (followed_by o next) Q R
goes_behind P Q R (Ok s) next p q = q s p
goes_behind P Q R (Err e) next p q = p

pub goes_as : {E F S T : Type 0} (P : S → Type 0) (Q : T → Type 0) (R : E → Type 0) (N : F → Type 0) (left : S → T) (end : E → F) (o : Result S E) → MatchResult o P R → ((s : S) → P s → Q (left s)) → ((e : E) → R e → N (end e)) → MatchResult (outcome_as left end o) Q N
goes_as P Q R N left end (Ok s) p q n = q s p
goes_as P Q R N left end (Err e) p q n = n e p

pub ok_goes : {E S : Type 0} (P Q : S → Type 0) (R : E → Type 0) (o : Result S E) → MatchResult o P R → ((s : S) → P s → Q s) → IfOk o Q
ok_goes P Q R (Ok s) p q = q s p
ok_goes P Q R (Err e) p q = tt

-- an action ends for want of input only where the input fails
abbrev pub EndsAction : Bool → ActionError → Type 0
EndsAction fails (Fault k) = Unit {0}
EndsAction fails Unread = fails ≡ true

abbrev pub EndsActions : Bool → Misdeed → Type 0
EndsActions fails (Bad n k) = Unit {0}
EndsActions fails NoInput = fails ≡ true

-- ---- a right side

-- From this working memory and this last tag the changes so far are lawful and lead to what is there now; the symbols
-- keep their spellings, the input fails as it did, and what was built are templates with other constants.
pub record KeptDoing (templates : List Rule) (old : List Element) (given : ℕ) (names : Spellings) (fails : Bool) (d : ActState) : Type 0 where
  pub lawful : Lawful old given d.changes
  pub memory : done old d.changes ≡ d.wm
  pub last_tag : last_after given d.changes ≡ d.last
  pub keeps : KeepsNames names d.names
  pub coming : d.coming.fails ≡ fails
  pub built : AreFilledFrom templates d.built

-- the changes of a right side are lawful, the symbols keep their spellings, the input fails as it did, and what was built
-- are templates with other constants
pub record KeptActed (templates : List Rule) (old : List Element) (given : ℕ) (names : Spellings) (fails : Bool) (a : Acted) : Type 0 where
  pub lawful : WellKept old given → IsLawfulOver old given a
  pub keeps : KeepsNames names a.names
  pub coming : a.coming.fails ≡ fails
  pub built : AreFilledFrom templates a.built

-- one more behind them
pub filled_push : (templates rules more : List Rule) → AreFilledFrom templates rules → AreFilledFrom templates more → AreFilledFrom templates (rules ++ more)
filled_push templates [] more p q = q
filled_push templates (r ∷ rules) more p q = (p.0, filled_push templates rules more p.1 q)

-- what the template with a number gives is one of them with other constants
from_template : (templates : List Rule) (n : ℕ) (fs : List Filling) → AreFilledFrom templates (filled_from templates n fs)
from_template templates n fs = by (slice_get templates n) refl
  where
    by : (o : Option Rule) → slice_get templates n ≡ o → AreFilledFrom templates (unwrap_or (option_map (λ r. rule_filled fs r ∷ []) o) [])
    by None is = tt
    by (Some r) is = (record { number = n; template = r; values = fs; there = is; filled = refl }, tt)

module _ (templates : List Rule) (old : List Element) (given : ℕ) (names : Spellings) (fails : Bool) where
  abbrev Kept : ActState → Type 0
  Kept d = KeptDoing templates old given names fails d

  abbrev Ends : ActionError → Type 0
  Ends m = EndsAction fails m

  -- the same working memory and changes, with other names and another input
  kept_with : (d : ActState) (held : Spellings) (coming : Coming) → Kept d → KeepsNames d.names held → coming.fails ≡ d.coming.fails → Kept (record d { names = held; coming = coming })
  kept_with d held coming p keeps same = record {
    lawful = p.lawful;
    memory = p.memory;
    last_tag = p.last_tag;
    keeps = names_then names d.names held p.keeps keeps;
    coming = same ∙ p.coming;
    built = p.built;
  }

  -- the same, with other bindings and cells
  kept_beside : (d : ActState) (bindings : List Binding) (cells : List Element) (halted : Bool) → Kept d → Kept (record d { bindings = bindings; cells = cells; halted = halted })
  kept_beside d bindings cells halted p =
      record { lawful = p.lawful; memory = p.memory; last_tag = p.last_tag; keeps = p.keeps; coming = p.coming; built = p.built }

  -- ---- values

  abbrev KeptValued : Valued → Type 0
  KeptValued v = Kept v.doing

  abbrev KeptFilled : Filled → Type 0
  KeptFilled f = Kept f.doing

  computed_kept : (d : ActState) (c : Computed) → Kept d → MatchResult (computed_as d c) KeptValued Ends
  computed_kept d (Ok v) p = p
  computed_kept d (Err k) p = tt

  accepted_kept : (d : ActState) (r : Result Accepted AcceptFault) → Kept d → AcceptsWell d.names d.coming r → MatchResult (accepted_as d r) KeptValued Ends
  accepted_kept d (Ok a) p well = kept_with d a.names a.coming p well.0 well.1
  accepted_kept d (Err accept_fault.TooLong) p well = tt
  accepted_kept d (Err accept_fault.Read) p well = sym p.coming ∙ well
  accepted_kept d (Err accept_fault.OutOfMemory) p well = absurd well

  evaluated_kept : (classes : List Class) (t : Term) (d : ActState) → Kept d → MatchResult (evaluated classes t d) KeptValued Ends
  evaluated_kept classes (term.Constant v) d p = p
  evaluated_kept classes (term.Variable v) d p = p
  evaluated_kept classes (term.One cell field) d p = p
  evaluated_kept classes (term.Rest cell) d p = p
  evaluated_kept classes (term.Compute formula) d p = computed_kept d (computed (value_in d) formula) p
  evaluated_kept classes term.Fresh d p = kept_with d _ d.coming p (fresh_keeps d.names) refl
  evaluated_kept classes term.Accept d p = accepted_kept d (accepted d.names d.coming) p (accepts_well d.names d.coming)

  -- ---- fields

  placed_kept : (d : ActState) (o : Option (List Value)) → Kept d → MatchResult (placed d o) KeptFilled Ends
  placed_kept d (Some fields) p = p
  placed_kept d None p = tt

  terms_kept : (classes : List Class) (at : ℕ) (ts : List Term) (f : Filled) → KeptFilled f → MatchResult (terms_placed classes at ts f) KeptFilled Ends
  terms_kept classes at [] f p = p
  terms_kept classes at (t ∷ ts) f p =
      goes_behind KeptValued KeptFilled Ends (evaluated classes t f.doing) _ (evaluated_kept classes t f.doing p)
      (λ v q. goes_behind KeptFilled KeptFilled Ends (placed v.doing (values_placed at v.values f.fields)) (λ g. terms_placed classes (at + length v.values) ts g) (placed_kept v.doing (values_placed at v.values f.fields) q)
      (λ g r. terms_kept classes (at + length v.values) ts g r))

  made_kept : (classes : List Class) (c : Class) (puts : List Put) (f : Filled) → KeptFilled f → MatchResult (puts_made classes c puts f) KeptFilled Ends
  made_kept classes c [] f p = p
  made_kept classes c (x ∷ puts) f p =
      goes_behind KeptFilled KeptFilled Ends (terms_placed classes x.field x.terms (record f { fields = emptied c x.field f.fields })) (λ g. puts_made classes c puts g) (terms_kept classes x.field x.terms _ p)
      (λ g q. made_kept classes c puts g q)

  over_kept : (classes : List Class) (puts : List Put) (f : Filled) → KeptFilled f → MatchResult (puts_over classes puts f) KeptFilled Ends
  over_kept classes [] f p = p
  over_kept classes (x ∷ puts) f p =
      goes_behind KeptFilled KeptFilled Ends (terms_placed classes x.field x.terms f) (λ g. puts_over classes puts g) (terms_kept classes x.field x.terms f p)
      (λ g q. over_kept classes puts g q)

  -- ---- changes

  -- a lawful change more
  change_kept : (d : ActState) (last : ℕ) (c : Change) → Kept d → Lawful d.wm d.last (c ∷ []) → last_after d.last (c ∷ []) ≡ last → Kept (changed (record d { last = last }) c)
  change_kept d last c p lawful is =
      let P : List Element → Type 0 = λ wm. Lawful wm (last_after given d.changes) (c ∷ []) in
      let Q : ℕ → Type 0 = λ n. Lawful d.wm n (c ∷ []) in
      record {
        lawful = lawful_push old given d.changes c p.lawful (subst P (sym p.memory) (subst Q (sym p.last_tag) lawful));
        memory = done_push old d.changes c ∙ ap (λ wm. done wm (c ∷ [])) p.memory;
        last_tag = last_after_push given d.changes c ∙ ap (λ n. last_after n (c ∷ [])) p.last_tag ∙ is;
        keeps = p.keeps;
        coming = p.coming;
        built = p.built;
      }

  one_added : (d : ActState) (class : ℕ) (fields : List Value) → Kept d → Kept (added d class fields)
  one_added d class fields p = change_kept d (d.last + 1) (change.Add (next_element d class fields)) p (omega arith, tt) refl

  one_removed : (d : ActState) (tag : ℕ) → Kept d → Kept (removed d tag)
  one_removed d tag p = by (has_tag d.wm tag) refl
    where
      by : (b : Bool) → has_tag d.wm tag ≡ b → Kept (cond b (changed d (change.Remove tag)) d)
      by true is = change_kept d d.last (change.Remove tag) p (has_tag-Contains d.wm tag is, tt) refl
      by false is = p

  all_removed : (cells : List ℕ) (d : ActState) → Kept d → Kept (fold (λ d c. removed d (cell_of d c).tag) d cells)
  all_removed [] d p = p
  all_removed (c ∷ cells) d p = all_removed cells (removed d (cell_of d c).tag) (one_removed d (cell_of d c).tag p)

  one_modified : (d : ActState) (cell : ℕ) (fields : List Value) → Kept d → Kept (modified d cell fields)
  one_modified d cell fields p =
      let e = cell_of d cell in
      let next = added (removed d e.tag) e.class fields in
      kept_beside next next.bindings _ next.halted (one_added (removed d e.tag) e.class fields (one_removed d e.tag p))

  -- ---- actions

  printed_kept : (lead : Lead) (column : ℕ) (r : Result Valued ActionError) → MatchResult r KeptValued Ends → MatchResult (printed lead column r).outcome Kept Ends
  printed_kept lead column (Ok v) p = p
  printed_kept lead column (Err m) p = p

  item_kept : (classes : List Class) (lead : Lead) (column : ℕ) (x : Item) (d : ActState) → Kept d → MatchResult (item_done classes lead column x d).outcome Kept Ends
  item_kept classes lead column (item.Print t) d p = printed_kept lead column (evaluated classes t d) (evaluated_kept classes t d p)
  item_kept classes lead column item.Crlf d p = p
  item_kept classes lead column (item.TabTo n) d p = p
  item_kept classes lead column (item.RightIn n) d p = p

  items_kept : (classes : List Class) (lead : Lead) (column : ℕ) (items : List Item) (d : ActState) → Kept d → MatchResult (items_done classes lead column items d).outcome Kept Ends
  items_kept classes lead column [] d p = p
  items_kept classes lead column (x ∷ items) d p =
      let e = item_done classes lead column x d in
      goes_on Kept Kept Ends e.bytes e.outcome (λ d. items_done classes (lead_after x) (column_after column e.bytes) items d) (item_kept classes lead column x d p)
      (λ d q. items_kept classes (lead_after x) (column_after column e.bytes) items d q)

  built_kept : (n : ℕ) (holes : List Hole) (d : ActState) → Kept d → Kept (rule_built templates n holes d)
  built_kept n holes d p = record {
    lawful = p.lawful;
    memory = p.memory;
    last_tag = p.last_tag;
    keeps = p.keeps;
    coming = p.coming;
    built = filled_push templates d.built _ p.built (from_template templates n (fillings d.bindings holes));
  }

  action_kept : (s : Setting) (column : ℕ) (a : Action) (d : ActState) → s.templates ≡ templates → Kept d → MatchResult (action_done s column a d).outcome Kept Ends
  action_kept s column (action.Make class puts) d same p =
      goes_on Kept Kept Ends [] (followed_by (made_fields s.classes (class_of s.classes class) puts d) (λ f. Ok (added f.doing class f.fields))) (changes_told s d (column_after column []))
      (goes_behind KeptFilled Kept Ends (made_fields s.classes (class_of s.classes class) puts d) (λ f. Ok (added f.doing class f.fields))
      (made_kept s.classes (class_of s.classes class) puts _ p) (λ f q. one_added f.doing class f.fields q))
      (λ d q. q)
  action_kept s column (action.Modify cell puts) d same p =
      goes_on Kept Kept Ends [] (followed_by (modified_fields s.classes puts cell d) (λ f. Ok (modified f.doing cell f.fields))) (changes_told s d (column_after column []))
      (goes_behind KeptFilled Kept Ends (modified_fields s.classes puts cell d) (λ f. Ok (modified f.doing cell f.fields))
      (over_kept s.classes puts _ p) (λ f q. one_modified f.doing cell f.fields q))
      (λ d q. q)
  action_kept s column (action.Remove cells) d same p = all_removed cells d p
  action_kept s column (action.Write items) d same p = items_kept s.classes Apart column items d p
  action_kept s column (action.Bind variable t) d same p =
      goes_behind KeptValued Kept Ends (evaluated s.classes t d) (λ v. Ok (bound v.doing variable (first_of v.values)))
      (evaluated_kept s.classes t d p) (λ v q. kept_beside v.doing _ v.doing.cells v.doing.halted q)
  action_kept s column (action.Cbind cell) d same p = kept_beside d d.bindings _ d.halted p
  action_kept s column action.Halt d same p = kept_beside d d.bindings d.cells true p
  action_kept s column (action.Build template holes) d same p =
      let P : List Rule → Type 0 = λ ts. Kept (rule_built ts template holes d) in subst P (sym same) (built_kept template holes d p)

  ends_in : (n : ℕ) (m : ActionError) → Ends m → EndsActions fails (in_action n m)
  ends_in n (Fault kind) p = tt
  ends_in n Unread p = p

  actions_kept : (s : Setting) (column n : ℕ) (actions : List Action) (d : ActState) → s.templates ≡ templates → Kept d → MatchResult (actions_done s column n actions d).outcome Kept (EndsActions fails)
  actions_kept s column n [] d same p = p
  actions_kept s column n (a ∷ rest) d same p =
      let e = action_done s column a d in
      goes_on Kept Kept (EndsActions fails) e.bytes (outcome_as (λ d. d) (in_action n) e.outcome) (λ d. actions_done s (column_after column e.bytes) (suc n) rest d)
      (goes_as Kept Kept Ends (EndsActions fails) (λ d. d) (in_action n) e.outcome (action_kept s column a d same p) (λ d q. q) (ends_in n))
      (λ d q. actions_kept s (column_after column e.bytes) (suc n) rest d same q)

  left_lawful : (d : ActState) → WellKept old given → Kept d → IsLawfulOver old given (left_by d)
  left_lawful d well p =
      let P : ℕ → Type 0 = λ n. WellKept (done old d.changes) n in
      let risen = lawful_risen old given d.changes p.lawful in
      record {
        changes = p.lawful;
        last_tag = p.last_tag;
        kept = subst P p.last_tag (lawful_kept old given d.changes well p.lawful);
        risen = omega (arith, p.last_tag);
      }

  left_kept : (d : ActState) → Kept d → KeptActed templates old given names fails (left_by d)
  left_kept d p = record { lawful = λ well. left_lawful d well p; keeps = p.keeps; coming = p.coming; built = p.built }

-- what a right side keeps, and why it ends
pub acted_kept : (s : Setting) (column : ℕ) (i : Inst) (g : Given) → MatchResult (acted s column i g).outcome (KeptActed s.templates g.wm g.last g.names g.coming.fails) (EndsActions g.coming.fails)
acted_kept s column i g =
    let start = begun s i g in
    let e = actions_done s column 1 (actions_of s.rules i.rule) start in
    goes_as (KeptDoing s.templates g.wm g.last g.names g.coming.fails) (KeptActed s.templates g.wm g.last g.names g.coming.fails) (EndsActions g.coming.fails) (EndsActions g.coming.fails) left_by (λ f. f) e.outcome
    (actions_kept s.templates g.wm g.last g.names g.coming.fails s column 1 (actions_of s.rules i.rule) start refl (record { lawful = tt; memory = refl; last_tag = refl; keeps = names_stay g.names; coming = refl; built = tt }))
    (left_kept s.templates g.wm g.last g.names g.coming.fails) (λ e p. p)

-- the symbols keep their spellings in a right side
pub acts_keep_names : (s : Setting) (column : ℕ) (i : Inst) (g : Given) → IfOk (acted s column i g).outcome (λ a. KeepsNames g.names a.names)
acts_keep_names s column i g =
    ok_goes (KeptActed s.templates g.wm g.last g.names g.coming.fails) (λ a. KeepsNames g.names a.names) (EndsActions g.coming.fails) (acted s column i g).outcome (acted_kept s column i g) (λ a p. p.keeps)
