-- What a right side does.
use Rattle.std.specs.Prelude.{ℕ, suc, ◌+◌, List, [], ◌∷◌, ◌++◌, length, map, fold, take, drop, Bool, true, false, ◌==◌, nat_lt, if◌then◌else◌, slice_get, slice_set, unwrap_or, option_map, find, Option, Some, None, option_and_then, Result, Ok, Err, codes}
use Rattle.std.specs.List.{list_any}
use Rattle.ops_base.specs.declared.values.Value.{Value}
use Rattle.ops_base.specs.declared.values.Value.TheVariants as value
use Rattle.ops_base.specs.declared.elements.Class.{Class}
use Rattle.ops_base.specs.declared.elements.Element.{Element}
use Rattle.ops_base.specs.declared.elements.Change.{Change}
use Rattle.ops_base.specs.declared.elements.Change.TheVariants as change
use Rattle.ops_base.specs.declared.conditions.Condition.{Condition}
use Rattle.ops_base.specs.declared.conditions.Part.{Part}
use Rattle.ops_base.specs.declared.conditions.Part.TheVariants.{One, Group}
use Rattle.ops_base.specs.declared.matching.Binding.{Binding}
use Rattle.ops_base.specs.declared.actions.Term.{Term}
use Rattle.ops_base.specs.declared.actions.Term.TheVariants as term
use Rattle.ops_base.specs.declared.actions.Put.{Put}
use Rattle.ops_base.specs.declared.actions.Item.{Item}
use Rattle.ops_base.specs.declared.actions.Item.TheVariants as item
use Rattle.ops_base.specs.declared.actions.Action.{Action}
use Rattle.ops_base.specs.declared.actions.Action.TheVariants as action
use Rattle.ops_base.specs.declared.actions.Hole.{Hole}
use Rattle.ops_base.specs.declared.filling.Filling.{Filling}
use Rattle.ops_base.specs.declared.rules.Rule.{Rule}
use Rattle.ops_base.specs.declared.rules.Inst.{Inst}
use Rattle.ops_base.specs.declared.endings.ActKind.{ActKind}
use Rattle.ops_base.specs.declared.endings.ActKind.TheVariants as act_fault
use Rattle.ops_base.specs.Values.{nil}
use Rattle.ops_base.specs.Filling.{rule_filled}
use Rattle.ops_base.specs.Valid.{class_of, is_vector, most_fields}
use Rattle.ops_base.specs.Names.{Spellings, with_fresh}
use Rattle.ops_base.specs.WorkingMemory.{change_done, field_of, no_fields, scalar_count}
use Rattle.ops_base.specs.Matching.{match_of, value_of}
use Rattle.ops_io.specs.Coming.{Coming}
use Rattle.ops_tokens.specs.Accepting.{Accepted, accepted}
use Rattle.ops_tokens.specs.declared.accept.AcceptFault.{AcceptFault}
use Rattle.ops_tokens.specs.declared.accept.AcceptFault.TheVariants as accept_fault
use Rattle.ops_meaning.specs.Effects.{Effect, writes, ends_with, and_then, told_as, followed_by, silent}
use Rattle.ops_meaning.specs.Computing.{Computed, computed}
use Rattle.ops_meaning.specs.Layout.{Lead, Apart, Close, RightIn, values_bytes, tab_bytes, tagged_text, traced}

-- what stands still during a firing: the classes, the productions in force, the productions that actions build with a
-- constant in the place of each hole, the bytes of the program, and the trace level
pub record Setting : Type 0 where
  pub classes : List Class
  pub rules : List Rule
  pub templates : List Rule
  pub text : List ℕ
  pub watch : ℕ

-- ---- what an instantiation brings

-- the element of a tag
abbrev pub element_of : List Element → ℕ → Option Element
element_of wm tag = find (λ e. e.tag == tag) wm

-- the bindings after an element met a condition
abbrev pub matched_by : Condition → Option Element → List Binding → List Binding
matched_by c None bindings = bindings
matched_by c (Some e) bindings = unwrap_or (match_of c e bindings) bindings

-- the bindings that the elements of these tags give, one for each positive condition: a group takes no tag and binds
-- nothing
abbrev pub bindings_of : List Element → List Part → List ℕ → List Binding → List Binding
bindings_of wm [] tags bindings = bindings
bindings_of wm (part ∷ parts) [] bindings = bindings
bindings_of wm (One c ∷ parts) (t ∷ ts) bindings =
    if c.negated then bindings_of wm parts (t ∷ ts) bindings else bindings_of wm parts ts (matched_by c (element_of wm t) bindings)
bindings_of wm (Group cs ∷ parts) (t ∷ ts) bindings = bindings_of wm parts (t ∷ ts) bindings

-- an element of no working memory, whose tags begin at 1
abbrev pub no_element : Element
no_element = record { tag = 0; class = 0; fields = [] }

-- the elements of these tags
abbrev pub elements_of : List Element → List ℕ → List Element
elements_of wm tags = map (λ t. unwrap_or (element_of wm t) no_element) tags

abbrev pub conditions_of : List Rule → ℕ → List Part
conditions_of rules n = unwrap_or (option_map (λ r. r.conditions) (slice_get rules n)) []

abbrev pub actions_of : List Rule → ℕ → List Action
actions_of rules n = unwrap_or (option_map (λ r. r.actions) (slice_get rules n)) []

-- ---- what a right side has done so far

-- working memory now and the changes that led to it, the last tag that was given, what the variables are bound to, the
-- elements that the cells hold, whether `halt` was done, the productions that were built, the spellings in use with the
-- number of the last fresh atom, and the input that is still to come
pub record ActState : Type 0 where
  pub wm : List Element
  pub changes : List Change
  pub last : ℕ
  pub bindings : List Binding
  pub cells : List Element
  pub halted : Bool
  pub built : List Rule
  pub names : Spellings
  pub coming : Coming

-- why an action ends before its end: it has a fault, or the input fails
pub data ActionError : Type 0 where
  Fault : (kind : ActKind) → ActionError
  Unread : ActionError

-- why a right side ends before its end: the action with this number, counted from 1, has a fault, or the input fails
pub data Misdeed : Type 0 where
  Bad : (action : ℕ) → (kind : ActKind) → Misdeed
  NoInput : Misdeed

abbrev pub in_action : ℕ → ActionError → Misdeed
in_action n (Fault kind) = Bad n kind
in_action n Unread = NoInput

-- One change is done.
abbrev pub changed : ActState → Change → ActState
changed d c = record d { wm = change_done d.wm c; changes = d.changes ++ c ∷ [] }

abbrev pub cell_of : ActState → ℕ → Element
cell_of d cell = unwrap_or (slice_get d.cells cell) no_element

-- ---- values

-- the values of a term, and what evaluating it leaves
pub record Valued : Type 0 where
  pub values : List Value
  pub doing : ActState

abbrev pub valued : ActState → List Value → Result Valued ActionError
valued d values = Ok (record { values = values; doing = d })

abbrev pub value_in : ActState → ℕ → Value
value_in d variable = unwrap_or (value_of d.bindings variable) nil

abbrev pub computed_as : ActState → Computed → Result Valued ActionError
computed_as d (Ok v) = valued d (v ∷ [])
computed_as d (Err kind) = Err (Fault kind)

abbrev pub accepted_as : ActState → Result Accepted AcceptFault → Result Valued ActionError
accepted_as d (Ok a) = valued (record d { names = a.names; coming = a.coming }) (a.value ∷ [])
accepted_as d (Err accept_fault.TooLong) = Err (Fault act_fault.InputTooLong)
accepted_as d (Err accept_fault.Read) = Err Unread
accepted_as d (Err accept_fault.OutOfMemory) = Err Unread

-- the next fresh atom
abbrev pub fresh_value : Spellings → Value
fresh_value names = value.Symbol (record { 0 = length names.held })

-- The values of a term. `substr` reads the element that the cell holds, also where that was removed.
abbrev pub evaluated : List Class → Term → ActState → Result Valued ActionError
evaluated classes (term.Constant v) d = valued d (v ∷ [])
evaluated classes (term.Variable v) d = valued d (value_in d v ∷ [])
evaluated classes (term.One cell field) d = valued d (field_of (cell_of d cell) field ∷ [])
evaluated classes (term.Rest cell) d = let e = cell_of d cell in valued d (drop (scalar_count (class_of classes e.class)) e.fields)
evaluated classes (term.Compute formula) d = computed_as d (computed (value_in d) formula)
evaluated classes term.Fresh d = valued (record d { names = with_fresh d.names }) (fresh_value d.names ∷ [])
evaluated classes term.Accept d = accepted_as d (accepted d.names d.coming)

abbrev pub first_of : List Value → Value
first_of [] = nil
first_of (v ∷ vs) = v

-- ---- fields

-- One value is placed at a field, or none where that is past the last one.
abbrev pub value_placed : ℕ → Value → List Value → Option (List Value)
value_placed at v fields =
    if nat_lt at most_fields then Some (if nat_lt at (length fields) then slice_set fields at v else fields ++ v ∷ []) else None

-- Values are placed from a field on.
abbrev pub values_placed : ℕ → List Value → List Value → Option (List Value)
values_placed at [] fields = Some fields
values_placed at (v ∷ vs) fields = option_and_then (λ next. values_placed (suc at) vs next) (value_placed at v fields)

-- the fields so far, and what evaluating their values has left
pub record Filled : Type 0 where
  pub fields : List Value
  pub doing : ActState

-- the values are placed, or there are too many of them
abbrev pub placed : ActState → Option (List Value) → Result Filled ActionError
placed d (Some fields) = Ok (record { fields = fields; doing = d })
placed d None = Err (Fault act_fault.TooManyFields)

-- The values of each term are placed before the next one is evaluated.
abbrev pub terms_placed : List Class → ℕ → List Term → Filled → Result Filled ActionError
terms_placed classes at [] f = Ok f
terms_placed classes at (t ∷ ts) f =
    followed_by (evaluated classes t f.doing)
    (λ v. followed_by (placed v.doing (values_placed at v.values f.fields)) (terms_placed classes (at + length v.values) ts))

-- the fields without the values of the vector attribute, where that is the attribute of this field
abbrev pub emptied : Class → ℕ → List Value → List Value
emptied c field fields = if is_vector c field then take field fields else fields

-- `make` gives one attribute after another. Of two values for a scalar one the later counts, and the values of the
-- vector attribute take the place of those that it had.
abbrev pub puts_made : List Class → Class → List Put → Filled → Result Filled ActionError
puts_made classes c [] f = Ok f
puts_made classes c (p ∷ ps) f =
    followed_by (terms_placed classes p.field p.terms (record f { fields = emptied c p.field f.fields })) (puts_made classes c ps)

abbrev pub made_fields : List Class → Class → List Put → ActState → Result Filled ActionError
made_fields classes c puts d = puts_made classes c puts (record { fields = no_fields c; doing = d })

-- `modify` gives them to the fields that the element has. Values of the vector attribute go over those that it had,
-- from the first on.
abbrev pub puts_over : List Class → List Put → Filled → Result Filled ActionError
puts_over classes [] f = Ok f
puts_over classes (p ∷ ps) f = followed_by (terms_placed classes p.field p.terms f) (puts_over classes ps)

abbrev pub modified_fields : List Class → List Put → ℕ → ActState → Result Filled ActionError
modified_fields classes puts cell d = puts_over classes puts (record { fields = (cell_of d cell).fields; doing = d })

-- ---- make, modify, remove, cbind, bind

-- the element with the next tag
abbrev pub next_element : ActState → ℕ → List Value → Element
next_element d class fields = record { tag = d.last + 1; class = class; fields = fields }

abbrev pub added : ActState → ℕ → List Value → ActState
added d class fields = changed (record d { last = d.last + 1 }) (change.Add (next_element d class fields))

abbrev pub has_tag : List Element → ℕ → Bool
has_tag wm tag = list_any (λ e. e.tag == tag) wm

-- Removing an absent element does nothing.
abbrev pub removed : ActState → ℕ → ActState
removed d tag = if has_tag d.wm tag then changed d (change.Remove tag) else d

-- The copy takes the place of the cell's element.
abbrev pub modified : ActState → ℕ → List Value → ActState
modified d cell fields =
    let e = cell_of d cell in record (added (removed d e.tag) e.class fields) { cells = slice_set d.cells cell (next_element d e.class fields) }

abbrev pub made_by : Element → Change → Element
made_by e (change.Add new) = new
made_by e (change.Remove tag) = e

-- the element that was made last
abbrev pub made_last : List Change → Element
made_last changes = fold made_by no_element changes

-- `cbind` names a new cell, with the element that was made last.
abbrev pub cell_bound : ActState → ActState
cell_bound d = record d { cells = d.cells ++ made_last d.changes ∷ [] }

abbrev pub bound : ActState → ℕ → Value → ActState
bound d variable value = record d { bindings = d.bindings ++ record { variable = variable; value = value } ∷ [] }

-- ---- build

-- What the holes are filled with: what their variables are bound to.
abbrev pub fillings : List Binding → List Hole → List Filling
fillings bindings holes = map (λ h. record { number = h.number; value = unwrap_or (value_of bindings h.variable) nil }) holes

-- the production that the template with this number gives, none where there is no such template
abbrev pub filled_from : List Rule → ℕ → List Filling → List Rule
filled_from templates template fs = unwrap_or (option_map (λ r. rule_filled fs r ∷ []) (slice_get templates template)) []

-- It joins those that were built before. The holes are filled with what their variables are bound to now.
abbrev pub rule_built : List Rule → ℕ → List Hole → ActState → ActState
rule_built templates template holes d = record d { built = d.built ++ filled_from templates template (fillings d.bindings holes) }

-- ---- write

-- what the item before leaves to a value
abbrev pub lead_after : Item → Lead
lead_after (item.Print t) = Apart
lead_after item.Crlf = Apart
lead_after (item.TabTo n) = Close
lead_after (item.RightIn n) = RightIn n

-- a value is printed once it is evaluated
abbrev pub printed : Lead → ℕ → Result Valued ActionError → Effect ActionError ActState
printed lead column (Ok v) = writes (values_bytes v.doing.names lead column v.values) v.doing
printed lead column (Err m) = ends_with m

-- one item from a column on
abbrev pub item_done : List Class → Lead → ℕ → Item → ActState → Effect ActionError ActState
item_done classes lead column (item.Print t) d = printed lead column (evaluated classes t d)
item_done classes lead column item.Crlf d = writes (10 ∷ []) d
item_done classes lead column (item.TabTo n) d = writes (tab_bytes n column) d
item_done classes lead column (item.RightIn n) d = writes [] d

abbrev pub items_done : List Class → Lead → ℕ → List Item → ActState → Effect ActionError ActState
items_done classes lead column [] d = writes [] d
items_done classes lead column (i ∷ is) d =
    and_then column (item_done classes lead column i d) (λ next d. items_done classes (lead_after i) next is d)

-- ---- the trace

-- what tells a change to this working memory: an element that is made, or one that is removed
abbrev pub change_text : Spellings → List Class → List Element → Change → List ℕ
change_text names classes wm (change.Add e) = codes "=>WM: " ++ tagged_text names classes e
change_text names classes wm (change.Remove tag) = codes "<=WM: " ++ tagged_text names classes (unwrap_or (element_of wm tag) no_element)

-- the lines of changes in their order
abbrev pub change_lines : Spellings → List Class → List Element → List Change → List (List ℕ)
change_lines names classes wm [] = []
change_lines names classes wm (c ∷ cs) = change_text names classes wm c ∷ change_lines names classes (change_done wm c) cs

-- The changes since this one are printed, where elements are traced.
abbrev pub changes_told : Setting → ActState → ℕ → ActState → Effect ActionError ActState
changes_told s before column d =
    writes (traced s.watch column (change_lines d.names s.classes before.wm (drop (length before.changes) d.changes))) d

-- ---- actions

-- What an action does from a column on. All values of an element are placed before it is removed or made, and what is
-- removed and made is printed in that order.
abbrev pub action_done : Setting → ℕ → Action → ActState → Effect ActionError ActState
action_done s column (action.Make class puts) d =
    and_then column (silent (followed_by (made_fields s.classes (class_of s.classes class) puts d) (λ f. Ok (added f.doing class f.fields)))) (changes_told s d)
action_done s column (action.Modify cell puts) d =
    and_then column (silent (followed_by (modified_fields s.classes puts cell d) (λ f. Ok (modified f.doing cell f.fields)))) (changes_told s d)
action_done s column (action.Remove cells) d = changes_told s d column (fold (λ d c. removed d (cell_of d c).tag) d cells)
action_done s column (action.Write items) d = items_done s.classes Apart column items d
action_done s column (action.Bind variable t) d =
    silent (followed_by (evaluated s.classes t d) (λ v. Ok (bound v.doing variable (first_of v.values))))
action_done s column (action.Cbind cell) d = writes [] (cell_bound d)
action_done s column action.Halt d = writes [] (record d { halted = true })
action_done s column (action.Build template holes) d = writes [] (rule_built s.templates template holes d)

-- the actions in order, the first of which has this number
abbrev pub actions_done : Setting → ℕ → ℕ → List Action → ActState → Effect Misdeed ActState
actions_done s column n [] d = writes [] d
actions_done s column n (a ∷ rest) d =
    and_then column (told_as (λ d. d) (in_action n) (action_done s column a d)) (λ next d. actions_done s next (suc n) rest d)

-- ---- a whole right side

-- what it begins with: working memory, the last tag that was given, the spellings in use, and the input that is still to come
pub record Given : Type 0 where
  pub wm : List Element
  pub last : ℕ
  pub names : Spellings
  pub coming : Coming

-- the changes to working memory, in order, the last tag that was given, whether `halt` was done, the productions that
-- were built, in the order of their `build` actions, the spellings in use, and the input that is still to come
pub record Acted : Type 0 where
  pub changes : List Change
  pub last : ℕ
  pub halted : Bool
  pub built : List Rule
  pub names : Spellings
  pub coming : Coming

-- before the first action
abbrev pub begun : Setting → Inst → Given → ActState
begun s i g =
    record {
      wm = g.wm;
      changes = [];
      last = g.last;
      bindings = bindings_of g.wm (conditions_of s.rules i.rule) i.tags [];
      cells = elements_of g.wm i.tags;
      halted = false;
      built = [];
      names = g.names;
      coming = g.coming;
    }

abbrev pub left_by : ActState → Acted
left_by d = record { changes = d.changes; last = d.last; halted = d.halted; built = d.built; names = d.names; coming = d.coming }

-- what the right side of an instantiation does from a column on
abbrev pub acted : Setting → ℕ → Inst → Given → Effect Misdeed Acted
acted s column i g = told_as left_by (λ f. f) (actions_done s column 1 (actions_of s.rules i.rule) (begun s i g))
