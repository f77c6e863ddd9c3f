-- Evaluating, placing and writing leave the bindings, the cells, the changes and working memory as they are.
use Rattle.std.proofs.Common.{◌≡◌, refl, ℕ, ◌+◌, List, [], ◌∷◌, length, Option, Some, None, Result, Ok, Err, IfOk}
use Rattle.ops_base.specs.declared.actions.Item.{Item}
use Rattle.ops_base.specs.declared.actions.Item.TheVariants as item
use Rattle.ops_base.specs.declared.actions.Put.{Put}
use Rattle.ops_base.specs.declared.actions.Term.{Term}
use Rattle.ops_base.specs.declared.actions.Term.TheVariants as term
use Rattle.ops_base.specs.declared.elements.Change.{Change}
use Rattle.ops_base.specs.declared.elements.Class.{Class}
use Rattle.ops_base.specs.declared.elements.Element.{Element}
use Rattle.ops_base.specs.declared.matching.Binding.{Binding}
use Rattle.ops_base.specs.declared.values.Value.{Value}
use Rattle.ops_io.specs.Output.{column_after}
use Rattle.ops_tokens.specs.Accepting.{Accepted, accepted}
use Rattle.ops_tokens.specs.declared.accept.AcceptFault.{AcceptFault}
use Rattle.ops_tokens.specs.declared.accept.AcceptFault.TheVariants as accept_fault
use Rattle.ops_meaning.specs.Acting.{ActState, ActionError, Valued, Filled, evaluated, value_in, computed_as, accepted_as, values_placed, placed, terms_placed, puts_made, puts_over, emptied, printed, lead_after, item_done, items_done}
use Rattle.ops_meaning.specs.Computing.{Computed, computed}
use Rattle.ops_meaning.specs.Layout.{Lead}
use Rattle.run_laws.specs.Finding.{SeesTheSame}
use Rattle.run_laws.proofs.Parts.{ok_behind, ok_on}

module _ (P : List Binding → List Element → List Change → List Element → Type 0) (classes : List Class) where
  abbrev pub Keeps : ActState → Type 0
  Keeps d = P d.bindings d.cells d.changes d.wm

  abbrev pub KeepsValued : Valued → Type 0
  KeepsValued v = Keeps v.doing

  abbrev pub KeepsFilled : Filled → Type 0
  KeepsFilled f = Keeps f.doing

  computed_keeps : (d : ActState) (c : Computed) → Keeps d → IfOk (computed_as d c) KeepsValued
  computed_keeps d (Ok v) p = p
  computed_keeps d (Err kind) p = tt

  accepted_keeps : (d : ActState) (r : Result Accepted AcceptFault) → Keeps d → IfOk (accepted_as d r) KeepsValued
  accepted_keeps d (Ok a) p = p
  accepted_keeps d (Err accept_fault.TooLong) p = tt
  accepted_keeps d (Err accept_fault.Read) p = tt
  accepted_keeps d (Err accept_fault.OutOfMemory) p = tt

  pub evaluated_keeps : (t : Term) (d : ActState) → Keeps d → IfOk (evaluated classes t d) KeepsValued
  evaluated_keeps (term.Constant v) d p = p
  evaluated_keeps (term.Variable v) d p = p
  evaluated_keeps (term.One cell field) d p = p
  evaluated_keeps (term.Rest cell) d p = p
  evaluated_keeps (term.Compute formula) d p = computed_keeps d (computed (value_in d) formula) p
  evaluated_keeps term.Fresh d p = p
  evaluated_keeps term.Accept d p = accepted_keeps d (accepted d.names d.coming) p

  placed_keeps : (d : ActState) (o : Option (List Value)) → Keeps d → IfOk (placed d o) KeepsFilled
  placed_keeps d (Some fields) p = p
  placed_keeps d None p = tt

  terms_keeps : (at : ℕ) (ts : List Term) (f : Filled) → KeepsFilled f → IfOk (terms_placed classes at ts f) KeepsFilled
  terms_keeps at [] f p = p
  terms_keeps at (t ∷ ts) f p =
      ok_behind KeepsValued KeepsFilled (evaluated classes t f.doing) _ (evaluated_keeps t f.doing p)
      (λ v q. ok_behind KeepsFilled KeepsFilled (placed v.doing (values_placed at v.values f.fields)) (λ g. terms_placed classes (at + length v.values) ts g) (placed_keeps v.doing (values_placed at v.values f.fields) q)
      (λ g r. terms_keeps (at + length v.values) ts g r))

  pub made_keeps : (c : Class) (puts : List Put) (f : Filled) → KeepsFilled f → IfOk (puts_made classes c puts f) KeepsFilled
  made_keeps c [] f p = p
  made_keeps c (x ∷ puts) f p =
      ok_behind KeepsFilled KeepsFilled (terms_placed classes x.field x.terms (record f { fields = emptied c x.field f.fields })) (λ g. puts_made classes c puts g) (terms_keeps x.field x.terms _ p)
      (λ g q. made_keeps c puts g q)

  pub over_keeps : (puts : List Put) (f : Filled) → KeepsFilled f → IfOk (puts_over classes puts f) KeepsFilled
  over_keeps [] f p = p
  over_keeps (x ∷ puts) f p =
      ok_behind KeepsFilled KeepsFilled (terms_placed classes x.field x.terms f) (λ g. puts_over classes puts g) (terms_keeps x.field x.terms f p)
      (λ g q. over_keeps puts g q)

  item_keeps : (lead : Lead) (column : ℕ) (x : Item) (d : ActState) → Keeps d → IfOk (item_done classes lead column x d).outcome Keeps
  item_keeps lead column (item.Print t) d p = by (evaluated classes t d) (evaluated_keeps t d p)
    where
      by : (r : Result Valued ActionError) → IfOk r KeepsValued → IfOk (printed lead column r).outcome Keeps
      by (Ok v) q = q
      by (Err m) q = tt
  item_keeps lead column item.Crlf d p = p
  item_keeps lead column (item.TabTo n) d p = p
  item_keeps lead column (item.RightIn n) d p = p

  pub items_keep : (lead : Lead) (column : ℕ) (items : List Item) (d : ActState) → Keeps d → IfOk (items_done classes lead column items d).outcome Keeps
  items_keep lead column [] d p = p
  items_keep lead column (x ∷ items) d p =
      let e = item_done classes lead column x d in
      ok_on Keeps Keeps e.bytes e.outcome (λ d. items_done classes (lead_after x) (column_after column e.bytes) items d) (item_keeps lead column x d p)
      (λ d q. items_keep (lead_after x) (column_after column e.bytes) items d q)

-- a term leaves unchanged what the terms after it examine
pub sees_the_same : (classes : List Class) (t : Term) (d : ActState) → IfOk (evaluated classes t d) (λ v. SeesTheSame d v.doing)
sees_the_same classes t d =
    evaluated_keeps (λ bindings elements changes wm. (bindings ≡ d.bindings) × (elements ≡ d.cells) × (changes ≡ d.changes) × (wm ≡ d.wm)) classes t d (refl, refl, refl, refl)
