-- What is spelled within an action is read back: values, attributes with values, cells, items, and the value of a `bind`.
use Rattle.std.proofs.Common.{◌≡◌, ℕ, suc, ◌+◌, ◌<◌, Bool, true, false, ◌&&◌, ◌||◌, ◌==◌, List, [], ◌∷◌, ◌++◌, length, map, position, refl, sym, ap, ◌∙◌, arith, Option, Some, None, nat_lt, unwrap_or, slice_get, append-nil, append_assoc, true≢false}
use Rattle.std.specs.Prelude.{is_some, find}
use Rattle.std.specs.List.{list_all}
use Rattle.std.proofs.lemmas.Bool.{and_parts, and_from, ltb-true, lt-ltb, eqb-true, eq-eqb}
use Rattle.ops_base.specs.declared.values.Sym.{Sym}
use Rattle.ops_base.specs.declared.values.Value.{Value}
use Rattle.ops_base.specs.declared.values.Value.TheVariants as value
use Rattle.ops_base.specs.declared.elements.Class.{Class}
use Rattle.ops_base.specs.declared.actions.Term.{Term}
use Rattle.ops_base.specs.declared.actions.Term.TheVariants as term
use Rattle.ops_base.specs.declared.actions.Put.{Put}
use Rattle.ops_base.specs.declared.actions.Item.{Item}
use Rattle.ops_base.specs.declared.actions.Item.TheVariants as item
use Rattle.ops_base.specs.Expression.{Formula}
use Rattle.ops_base.specs.declared.actions.Hole.{Hole}
use Rattle.ops_base.specs.Filling.{in_term, in_put, in_item, total}
use Rattle.ops_base.specs.Valid.{class_is_valid, class_of, is_attribute, is_vector, is_in, is_column}
use Rattle.ops_grammar.specs.declared.words.Word.{Word}
use Rattle.ops_grammar.specs.declared.words.Named.{Named}
use Rattle.ops_grammar.specs.declared.words.Keyword.{Keyword}
use Rattle.ops_grammar.specs.declared.words.Keyword.TheVariants as keyword
use Rattle.ops_grammar.specs.Grammar.{InPut, Target, ToPut, ToTerms, ToItem, ToBind, EndsWhole, Wanted, Terms, Several, ValueFor, ExpressionUnit, ExpressionRest, SourceCell, SourceAttribute, SourceEnd, BoundValue, Cell, Cells, Items, Closes, Outer, State, Next, number_of, counting, constant_by, bound_at, term_at, function, function_depth, no_formula, with_formula, takes_several, classes_of_cells, source_named, source_class, source_at, named_cell, with_designated, with_put, with_item, with_bind, step, after, goes}
use Rattle.ops_grammar.specs.Spelling.{unnamed, opening, closing, spelled_keyword, spelled_name, spelled_value, spelled_variable, marked, spelled_constant, spelled_counted, attribute_name, last_field, InSight, class_of_cell, spelled_formula, spelled_term, spelled_terms, spelled_put, spelled_puts, spelled_item, cell_is_plain, nests_within, term_is_plain, put_is_plain, item_is_plain}
use Rattle.ops_grammar.proofs.Holed.{upto, AreHeld, counted_at, held}
use Rattle.ops_grammar.proofs.Places.{place_found, numbered, number_there}
use Rattle.ops_grammar.proofs.Numbering.{below, below_there}
use Rattle.ops_grammar.proofs.ReadsBack.{by_word, class_parts}
use Rattle.ops_grammar.proofs.ReadsFormulas.{are_seen, formula-read}
use Rattle.ops_grammar.proofs.ReadsFacts.{AreNamed, settled, scalar_read, vector_read, EndValues, several_ended}

bound : (k : List ℕ) (n : ℕ) (vs : List Named) → vs ≡ numbered k → is_in n k ≡ true → number_of (record { 0 = n }) vs ≡ Some n
bound k n vs e there = ap (number_of (record { 0 = n })) e ∙ number_there k n there

-- an element variable is named by its cell
pub cell_found : (n c : ℕ) (s : State) → s.elements ≡ numbered (below n) → nat_lt c n ≡ true → number_of (record { 0 = c }) s.elements ≡ Some c
cell_found n c s e lt = bound (below n) c s.elements e (below_there n c (ltb-true _ _ lt))

-- So much is in sight by these variables and element variables, and of these cells, no operand is read, and a production
-- that is built has these holes.
pub record IsSighted (hs : List Hole) (k : InSight) (classes : List Class) (values elements : List Named) (cells : List ℕ) (operand : Formula) (around : Option Outer) : Type 0 where
  pub names : AreNamed classes
  pub values_are : values ≡ numbered k.variables.sight
  pub elements_are : elements ≡ numbered (below (length k.cells))
  pub cells_are : k.cells ≡ cells
  pub none_read : operand ≡ no_formula
  pub built_is : k.built ≡ is_some around
  pub holes_held : AreHeld hs around

abbrev pub Sighted : List Hole → InSight → State → Type 0
Sighted hs k s = IsSighted hs k s.classes s.values s.elements (classes_of_cells s) s.formula s.outer

-- where the last `substr` had this cell and this field
abbrev pub sourced : State → ℕ × ℕ → State
sourced s x = record s { source = x.0; source_field = x.1 }

-- The words lead there, whatever a `substr` among them has.
abbrev pub Leads : List Word → List Word → List Wanted → State → List Wanted → State → Type 0
Leads words more ws s ws' s' = (x : ℕ × ℕ) × (goes (words ++ more) ws s ≡ goes more ws' (sourced s' x))

-- ---- substr

source_step : (cell : ℕ) (ws : List Wanted) (s : State) → step (spelled_variable cell) (SourceCell ∷ ws) s ≡ source_named (number_of (record { 0 = cell }) s.elements) ws s
unfolding step
source_step cell ws s = refl

module _ (t : Target) (ws : List Wanted) (s : State) where
  attribute_step : (name : Sym) → step (spelled_name name) (SourceAttribute t ∷ ws) s ≡ source_at t name (position (λ a. a.0 == name.0) (source_class s).attrs) ws s
  unfolding step
  attribute_step name = refl

  one_step : (name : Sym) → step (spelled_name name) (SourceEnd t name ∷ ws) s ≡ term_at t (term.One s.source s.source_field) ws s
  unfolding step
  one_step name = rw (eq-eqb name.0 name.0 refl) refl

  rest_step : (name : Sym) → is_vector (source_class s) s.source_field ≡ true → takes_several t ≡ true → step (spelled_keyword keyword.Inf) (SourceEnd t name ∷ ws) s ≡ term_at t (term.Rest s.source) ws s
  unfolding step
  rest_step name vector several = rw vector (rw several refl)

pub whole_closed : (words : List Word) (ws : List Wanted) (s : State) → goes (closing ∷ words) (Closes EndsWhole ∷ ws) s ≡ goes words ws s
unfolding goes step
whole_closed words ws s = refl

-- the vector attribute is the last one
last_is : (c : Class) → class_is_valid c ≡ true → c.vector ≡ true → (is_attribute c (last_field c) ≡ true) × (is_vector c (last_field c) ≡ true)
last_is c valid vector =
    let some = (class_parts c valid).2 vector in (lt-ltb _ _ (omega (arith, some)), and_from _ _ vector (eq-eqb _ _ (omega (arith, some))))

-- the class of a cell, by the cells that were read
class_is : (hs : List Hole) (k : InSight) (s : State) (cell : ℕ) → Sighted hs k s → class_of s.classes (class_of_cell k cell) ≡ source_class (record s { source = cell })
class_is hs k s cell seen = ap (λ (xs : List ℕ). class_of s.classes (unwrap_or (slice_get xs cell) 0)) seen.cells_are

module _ (t : Target) (hs : List Hole) (k : InSight) (ws : List Wanted) (s : State) (seen : Sighted hs k s) where
  -- up to the second attribute
  source_read : (cell field : ℕ) (words : List Word) → cell_is_plain s.classes k cell ≡ true → is_attribute (class_of s.classes (class_of_cell k cell)) field ≡ true
      → (let name : Sym = attribute_name (class_of s.classes (class_of_cell k cell)) field in goes (spelled_variable cell ∷ spelled_name name ∷ words) (SourceCell ∷ SourceAttribute t ∷ ws) s ≡ goes words (SourceEnd t name ∷ Closes EndsWhole ∷ ws) (sourced s (cell, field)))
  source_read cell field words plain is =
      let c = class_of s.classes (class_of_cell k cell) in
      let name : Sym = attribute_name c field in
      let there = and_parts (nat_lt cell (length k.cells)) (nat_lt (class_of_cell k cell) (length s.classes)) plain in
      let apart = (class_parts c (seen.names.classes_valid (class_of_cell k cell))).1 in
      let found : position (λ a. a.0 == name.0) c.attrs ≡ Some field = place_found (λ (a : Sym). a.0) unnamed c.attrs field name.0 refl apart (ltb-true _ _ is) in
      let celled : State = record s { source = cell } in
      let wanted : List Wanted = SourceAttribute t ∷ ws in
      by_word (spelled_variable cell) (spelled_name name ∷ words) (SourceCell ∷ wanted) wanted s celled
      (source_step cell wanted s ∙ ap (λ (o : Option ℕ). source_named o wanted s) (cell_found (length k.cells) cell s seen.elements_are there.0))
      ∙ by_word (spelled_name name) words wanted (SourceEnd t name ∷ Closes EndsWhole ∷ ws) celled (sourced s (cell, field))
      (attribute_step t ws celled name ∙ ap (λ (d : Class). source_at t name (position (λ a. a.0 == name.0) d.attrs) ws celled) (sym (class_is hs k s cell seen))
      ∙ ap (λ (o : Option ℕ). source_at t name o ws celled) found)

-- ---- values

-- what gives a value after a bracket
abbrev gives : Keyword → Bool
gives keyword.Substr = true
gives keyword.Compute = true
gives keyword.Genatom = true
gives keyword.Accept = true
gives _ = false

-- where a value may stand, and what it leaves
record Takes (t : Target) (front ws : List Wanted) (put : State → Term → State) : Type 0 where
  pub constant : (v : Value) (o : Option Hole) (s : State) → step (marked o (spelled_value v)) front s ≡ constant_by (marked o (spelled_value v)).keyword (λ r. Next ws (counting (put r (term.Constant v)))) s
  pub variable : (n : ℕ) (s : State) → step (spelled_variable n) front s ≡ bound_at t (number_of (record { 0 = n }) s.values) ws s
  pub calls : (k : Keyword) (words : List Word) (s : State) → gives k ≡ true → goes (opening ∷ spelled_keyword k ∷ words) front s ≡ after (goes words) (spelled_keyword k) (function t k ws s)
  pub ends : (x : Term) (behind : List Wanted) (s : State) → term_at t x behind s ≡ Next behind (put s x)
  pub counts : (x : Term) (s : State) → counting (put s x) ≡ put (counting s) x

-- the cell and the field that the value has where it is a `substr`, and those that were there otherwise
abbrev source_in : List Class → InSight → ℕ × ℕ → Term → ℕ × ℕ
source_in classes k x (term.One cell field) = (cell, field)
source_in classes k x (term.Rest cell) = (cell, last_field (class_of classes (class_of_cell k cell)))
source_in classes k x _ = x

module _ (t : Target) (front ws : List Wanted) (put : State → Term → State) (takes : Takes t front ws put) (hs : List Hole) (k : InSight) (more : List Word) (s : State) (seen : Sighted hs k s) where
  -- a value that is an expression
  computed_read : (n : ℕ) (f : Formula) → term_is_plain s.classes k (takes_several t) (term.Compute f) ≡ true → goes (spelled_term hs s.classes k n (term.Compute f) ++ more) front s ≡ goes more ws (put s (term.Compute f))
  computed_read n f plain =
      let d = function_depth k.built in
      let parts = and_parts (nests_within d false f) (are_seen k.variables.sight f) plain in
      let words = spelled_formula false f in
      let x : Term = term.Compute f in
      let wanted : Bool → List Wanted = λ b. ExpressionUnit (function_depth b) ∷ ExpressionRest (function_depth b) [] (Some t) ∷ ws in
      takes.calls keyword.Compute ((words ++ closing ∷ []) ++ more) s refl
      ∙ ap (λ (y : List Word). goes y (wanted (is_some s.outer)) s) (append_assoc words (closing ∷ []) more)
      ∙ ap (λ (b : Bool). goes (words ++ closing ∷ more) (wanted b) s) (sym seen.built_is)
      ∙ formula-read k.variables.sight f d [] (Some t) more ws s seen.values_are parts.0 parts.1
      ∙ ap (after (goes more) closing) (takes.ends x ws (with_formula s no_formula))
      ∙ ap (λ (g : Formula). goes more ws (put (with_formula s g) x)) (sym seen.none_read)

  -- ( genatom ) or ( accept )
  called_read : (word : Keyword) (x : Term) → gives word ≡ true → ((behind : List Wanted) → function t word behind s ≡ term_at t x (Closes EndsWhole ∷ behind) s)
      → goes (opening ∷ spelled_keyword word ∷ closing ∷ more) front s ≡ goes more ws (put s x)
  called_read word x is same =
      let behind : List Wanted = Closes EndsWhole ∷ ws in
      takes.calls word (closing ∷ more) s is
      ∙ ap (after (goes (closing ∷ more)) (spelled_keyword word)) (same ws ∙ takes.ends x behind s)
      ∙ whole_closed more ws (put s x)

  one_read : (n : ℕ) (cell field : ℕ) → term_is_plain s.classes k (takes_several t) (term.One cell field) ≡ true → goes (spelled_term hs s.classes k n (term.One cell field) ++ more) front s ≡ goes more ws (put (sourced s (cell, field)) (term.One cell field))
  one_read n cell field plain =
      let parts = and_parts (cell_is_plain s.classes k cell) (is_attribute (class_of s.classes (class_of_cell k cell)) field) plain in
      let name : Sym = attribute_name (class_of s.classes (class_of_cell k cell)) field in
      let from : State = sourced s (cell, field) in
      let behind : List Wanted = Closes EndsWhole ∷ ws in
      takes.calls keyword.Substr (spelled_variable cell ∷ spelled_name name ∷ spelled_name name ∷ closing ∷ more) s refl
      ∙ source_read t hs k ws s seen cell field (spelled_name name ∷ closing ∷ more) parts.0 parts.1
      ∙ by_word (spelled_name name) (closing ∷ more) (SourceEnd t name ∷ behind) behind from (put from (term.One cell field)) (one_step t behind from name ∙ takes.ends (term.One cell field) behind from)
      ∙ whole_closed more ws (put from (term.One cell field))

  rest_read : (n : ℕ) (cell : ℕ) → term_is_plain s.classes k (takes_several t) (term.Rest cell) ≡ true
      → goes (spelled_term hs s.classes k n (term.Rest cell) ++ more) front s ≡ goes more ws (put (sourced s (source_in s.classes k (s.source, s.source_field) (term.Rest cell))) (term.Rest cell))
  rest_read n cell plain =
      let c = class_of s.classes (class_of_cell k cell) in
      let field = last_field c in
      let parts = and_parts (takes_several t && cell_is_plain s.classes k cell) c.vector plain in
      let first = and_parts (takes_several t) (cell_is_plain s.classes k cell) parts.0 in
      let last = last_is c (seen.names.classes_valid (class_of_cell k cell)) parts.1 in
      let name : Sym = attribute_name c field in
      let from : State = sourced s (cell, field) in
      let behind : List Wanted = Closes EndsWhole ∷ ws in
      let vector : is_vector (source_class from) field ≡ true = ap (λ (d : Class). is_vector d field) (sym (class_is hs k s cell seen)) ∙ last.1 in
      takes.calls keyword.Substr (spelled_variable cell ∷ spelled_name name ∷ spelled_keyword keyword.Inf ∷ closing ∷ more) s refl
      ∙ source_read t hs k ws s seen cell field (spelled_keyword keyword.Inf ∷ closing ∷ more) first.1 last.0
      ∙ by_word (spelled_keyword keyword.Inf) (closing ∷ more) (SourceEnd t name ∷ behind) behind from (put from (term.Rest cell)) (rest_step t behind from name vector first.0 ∙ takes.ends (term.Rest cell) behind from)
      ∙ whole_closed more ws (put from (term.Rest cell))

module _ (t : Target) (front ws : List Wanted) (put : State → Term → State) (takes : Takes t front ws put) (hs : List Hole) (n : ℕ) (k : InSight) (more : List Word) (s : State) (seen : Sighted hs k s) where
  constant_read : (v : Value) → goes (spelled_constant hs n v ∷ more) front (counted_at hs n s) ≡ goes more ws (put (counted_at hs (n + 1) s) (term.Constant v))
  constant_read v =
      let up : suc n ≡ n + 1 = omega arith in
      let x : Term = term.Constant v in
      let filled_state : State = record s { counted = n; holes = upto hs (suc n) } in
      by_word (spelled_constant hs n v) more front ws (counted_at hs n s) (counting (put filled_state x))
      (takes.constant v (find (λ (h : Hole). h.number == n) hs) (counted_at hs n s) ∙ held hs n v (λ r. Next ws (counting (put r x))) s seen.holes_held)
      ∙ ap (λ (r : State). goes more ws r) (takes.counts x filled_state)
      ∙ ap (λ (m : ℕ). goes more ws (put (counted_at hs m s) x)) up

  -- a value that is no constant counts for nothing
  uncounted : (x : Term) (y : ℕ × ℕ) → goes more ws (put (sourced (counted_at hs n s) y) x) ≡ goes more ws (put (sourced (counted_at hs (n + 0) s) y) x)
  uncounted x y = let none : n ≡ n + 0 = omega arith in ap (λ (m : ℕ). goes more ws (put (sourced (counted_at hs m s) y) x)) none

  -- A value is read back.
  term_read : (x : Term) → term_is_plain s.classes k (takes_several t) x ≡ true
      → goes (spelled_term hs s.classes k n x ++ more) front (counted_at hs n s) ≡ goes more ws (put (sourced (counted_at hs (n + in_term x) s) (source_in s.classes k (s.source, s.source_field) x)) x)
  term_read (term.Constant v) plain = constant_read v
  term_read (term.Variable v) plain =
      by_word (spelled_variable v) more front ws (counted_at hs n s) (put (counted_at hs n s) (term.Variable v))
      (takes.variable v (counted_at hs n s) ∙ ap (λ (o : Option ℕ). bound_at t o ws (counted_at hs n s)) (bound k.variables.sight v s.values seen.values_are plain) ∙ takes.ends (term.Variable v) ws (counted_at hs n s))
      ∙ uncounted (term.Variable v) (s.source, s.source_field)
  term_read (term.One cell field) plain = one_read t front ws put takes hs k more (counted_at hs n s) seen n cell field plain ∙ uncounted (term.One cell field) (cell, field)
  term_read (term.Rest cell) plain = rest_read t front ws put takes hs k more (counted_at hs n s) seen n cell plain ∙ uncounted (term.Rest cell) (cell, last_field (class_of s.classes (class_of_cell k cell)))
  term_read (term.Compute f) plain = computed_read t front ws put takes hs k more (counted_at hs n s) seen n f plain ∙ uncounted (term.Compute f) (s.source, s.source_field)
  term_read term.Fresh plain = called_read t front ws put takes hs k more (counted_at hs n s) seen keyword.Genatom term.Fresh refl (λ behind. refl) ∙ uncounted term.Fresh (s.source, s.source_field)
  term_read term.Accept plain = called_read t front ws put takes hs k more (counted_at hs n s) seen keyword.Accept term.Accept refl (λ behind. refl) ∙ uncounted term.Accept (s.source, s.source_field)

-- ---- make, modify

module _ (f : ℕ) (ws : List Wanted) where
  put_constant : (v : Value) (o : Option Hole) (s : State) → step (marked o (spelled_value v)) (ValueFor (ToPut f) ∷ ws) s ≡ constant_by (marked o (spelled_value v)).keyword (λ r. Next ws (counting (with_put r f (term.Constant v)))) s
  unfolding step
  put_constant (value.Whole n) None s = refl
  put_constant (value.Symbol name) None s = refl
  put_constant (value.Whole n) (Some h) s = refl
  put_constant (value.Symbol name) (Some h) s = refl

  put_variable : (n : ℕ) (s : State) → step (spelled_variable n) (ValueFor (ToPut f) ∷ ws) s ≡ bound_at (ToPut f) (number_of (record { 0 = n }) s.values) ws s
  unfolding step
  put_variable n s = refl

  put_calls : (k : Keyword) (words : List Word) (s : State) → gives k ≡ true → goes (opening ∷ spelled_keyword k ∷ words) (ValueFor (ToPut f) ∷ ws) s ≡ after (goes words) (spelled_keyword k) (function (ToPut f) k ws s)
  unfolding goes step
  put_calls k words s is = refl

  put_takes : Takes (ToPut f) (ValueFor (ToPut f) ∷ ws) ws (λ s x. with_put s f x)
  put_takes = record { constant = put_constant; variable = put_variable; calls = put_calls; ends = λ x behind s. refl; counts = λ x s. refl }

  several_constant : (v : Value) (o : Option Hole) (s : State)
      → step (marked o (spelled_value v)) (Several InPut f ∷ ws) s ≡ constant_by (marked o (spelled_value v)).keyword (λ r. Next (Several InPut f ∷ ws) (counting (record r { terms = r.terms ++ term.Constant v ∷ [] }))) s
  unfolding step
  several_constant (value.Whole n) None s = refl
  several_constant (value.Symbol name) None s = refl
  several_constant (value.Whole n) (Some h) s = refl
  several_constant (value.Symbol name) (Some h) s = refl

  several_variable : (n : ℕ) (s : State) → step (spelled_variable n) (Several InPut f ∷ ws) s ≡ bound_at ToTerms (number_of (record { 0 = n }) s.values) (Several InPut f ∷ ws) s
  unfolding step
  several_variable n s = refl

  several_calls : (k : Keyword) (words : List Word) (s : State) → gives k ≡ true → goes (opening ∷ spelled_keyword k ∷ words) (Several InPut f ∷ ws) s ≡ after (goes words) (spelled_keyword k) (function ToTerms k (Several InPut f ∷ ws) s)
  unfolding goes step
  several_calls k words s is = refl

  several_takes : Takes ToTerms (Several InPut f ∷ ws) (Several InPut f ∷ ws) (λ s x. record s { terms = s.terms ++ x ∷ [] })
  several_takes = record { constant = several_constant; variable = several_variable; calls = several_calls; ends = λ x behind s. refl; counts = λ x s. refl }

-- the value of a scalar attribute
scalar_value : (hs : List Hole) (n : ℕ) (f : ℕ) (k : InSight) (terms : List Term) (more : List Word) (ws : List Wanted) (s : State) → Sighted hs k s → length terms ≡ 1 → list_all (term_is_plain s.classes k false) terms ≡ true
    → Leads (spelled_terms hs s.classes k n terms) more (ValueFor (ToPut f) ∷ ws) (counted_at hs n s) ws (counted_at hs (n + total in_term terms) (record s { puts = s.puts ++ record { field = f; terms = terms } ∷ [] }))
scalar_value hs n f k [] more ws s seen one plain = absurd (omega arith)
scalar_value hs n f k (x ∷ []) more ws s seen one plain =
    let words = spelled_term hs s.classes k n x in
    let y = source_in s.classes k (s.source, s.source_field) x in
    let all : n + in_term x ≡ n + (in_term x + 0) = omega arith in (
      y,
      ap (λ (v : List Word). goes (v ++ more) (ValueFor (ToPut f) ∷ ws) (counted_at hs n s)) (append-nil words)
          ∙ term_read (ToPut f) (ValueFor (ToPut f) ∷ ws) ws (λ s x. with_put s f x) (put_takes f ws) hs n k more s seen x (and_parts (term_is_plain s.classes k false x) true plain).0
          ∙ ap (λ (m : ℕ). goes more ws (sourced (counted_at hs m (record s { puts = s.puts ++ record { field = f; terms = x ∷ [] } ∷ [] })) y)) all,
    )
scalar_value hs n f k (x ∷ y ∷ xs) more ws s seen one plain = absurd (omega arith)

-- the values of the vector attribute
vector_values : (hs : List Hole) (n : ℕ) (f : ℕ) (k : InSight) (xs : List Term) (more : List Word) (ws : List Wanted) (s : State) → Sighted hs k s → list_all (term_is_plain s.classes k true) xs ≡ true
    → Leads (spelled_terms hs s.classes k n xs) more (Several InPut f ∷ ws) (counted_at hs n s) (Several InPut f ∷ ws) (counted_at hs (n + total in_term xs) (record s { terms = s.terms ++ xs }))
vector_values hs n f k [] more ws s seen plain =
    let none : n ≡ n + 0 = omega arith in (
      (s.source, s.source_field),
      ap (λ (ys : List Term). goes more (Several InPut f ∷ ws) (counted_at hs n (record s { terms = ys }))) (sym (append-nil s.terms))
          ∙ ap (λ (m : ℕ). goes more (Several InPut f ∷ ws) (counted_at hs m (record s { terms = s.terms ++ [] }))) none,
    )
vector_values hs n f k (x ∷ xs) more ws s seen plain =
    let each = and_parts (term_is_plain s.classes k true x) (list_all (term_is_plain s.classes k true) xs) plain in
    let wanted : List Wanted = Several InPut f ∷ ws in
    let m = n + in_term x in
    let others = spelled_terms hs s.classes k m xs in
    let next : State = sourced (record s { terms = s.terms ++ x ∷ [] }) (source_in s.classes k (s.source, s.source_field) x) in
    let rest = vector_values hs m f k xs more ws next seen each.1 in
    let all : m + total in_term xs ≡ n + (in_term x + total in_term xs) = omega arith in (
      rest.0,
      ap (λ (v : List Word). goes v wanted (counted_at hs n s)) (append_assoc (spelled_term hs s.classes k n x) others more)
          ∙ term_read ToTerms wanted wanted (λ s x. record s { terms = s.terms ++ x ∷ [] }) (several_takes f ws) hs n k (others ++ more) s seen x each.0
          ∙ rest.1
          ∙ ap (λ (ys : List Term). goes more wanted (sourced (counted_at hs (m + total in_term xs) (record s { terms = ys })) rest.0)) (append_assoc s.terms (x ∷ []) xs)
          ∙ ap (λ (i : ℕ). goes more wanted (sourced (counted_at hs i (record s { terms = s.terms ++ x ∷ xs })) rest.0)) all,
    )

puts_end : (hs : List Hole) (n : ℕ) (classes : List Class) (k : InSight) (c : Class) (puts : List Put) (more : List Word) → EndValues more → EndValues (spelled_puts hs classes k c n puts ++ more)
puts_end hs n classes k c [] more h = h
puts_end hs n classes k c (p ∷ ps) more h = refl

module _ (hs : List Hole) (n : ℕ) (k : InSight) (more : List Word) (ws : List Wanted) (s : State) (seen : Sighted hs k s) (lt : s.class < length s.classes) (ends : EndValues more) where
  one_put_read : (v : Bool) (p : Put) → is_vector (class_of s.classes s.class) p.field ≡ v → put_is_plain s.classes k (class_of s.classes s.class) p ≡ true
      → Leads (spelled_put hs s.classes k (class_of s.classes s.class) n p) more (Terms InPut ∷ ws) (settled (counted_at hs n s)) (Terms InPut ∷ ws) (settled (counted_at hs (n + in_put p) (record s { puts = s.puts ++ p ∷ [] })))
  one_put_read true p is plain =
      let c = class_of s.classes s.class in
      let parts = and_parts (is_attribute c p.field && (is_vector c p.field || (length p.terms == 1))) (list_all (term_is_plain s.classes k (is_vector c p.field)) p.terms) plain in
      let first = and_parts (is_attribute c p.field) (is_vector c p.field || (length p.terms == 1)) parts.0 in
      let values = vector_values hs n p.field k p.terms more ws (settled s) seen (ap (λ (b : Bool). list_all (term_is_plain s.classes k b) p.terms) (sym is) ∙ parts.1) in (
        values.0,
        vector_read InPut p.field (spelled_terms hs s.classes k n p.terms) more ws (settled (counted_at hs n s)) seen.names lt first.0 is
            ∙ values.1
            ∙ several_ended InPut p.field more ws (sourced (counted_at hs (n + in_put p) (record s { terms = p.terms; constants = [] })) values.0) ends,
      )
  one_put_read false p is plain =
      let c = class_of s.classes s.class in
      let parts = and_parts (is_attribute c p.field && (is_vector c p.field || (length p.terms == 1))) (list_all (term_is_plain s.classes k (is_vector c p.field)) p.terms) plain in
      let first = and_parts (is_attribute c p.field) (is_vector c p.field || (length p.terms == 1)) parts.0 in
      let one : length p.terms ≡ 1 = eqb-true _ _ (ap (λ (b : Bool). b || (length p.terms == 1)) (sym is) ∙ first.1) in
      let value = scalar_value hs n p.field k p.terms more (Terms InPut ∷ ws) (settled s) seen one (ap (λ (b : Bool). list_all (term_is_plain s.classes k b) p.terms) (sym is) ∙ parts.1) in
      (value.0, scalar_read InPut p.field (spelled_terms hs s.classes k n p.terms) more ws (settled (counted_at hs n s)) seen.names lt first.0 is ∙ value.1)

pub puts_read : (hs : List Hole) (n : ℕ) (puts : List Put) (k : InSight) (more : List Word) (ws : List Wanted) (s : State) → Sighted hs k s → s.class < length s.classes → EndValues more → list_all (put_is_plain s.classes k (class_of s.classes s.class)) puts ≡ true
    → Leads (spelled_puts hs s.classes k (class_of s.classes s.class) n puts) more (Terms InPut ∷ ws) (settled (counted_at hs n s)) (Terms InPut ∷ ws) (settled (counted_at hs (n + total in_put puts) (record s { puts = s.puts ++ puts })))
puts_read hs n [] k more ws s seen lt ends plain =
    let none : n ≡ n + 0 = omega arith in (
      (s.source, s.source_field),
      ap (λ (xs : List Put). goes more (Terms InPut ∷ ws) (settled (counted_at hs n (record s { puts = xs })))) (sym (append-nil s.puts))
          ∙ ap (λ (m : ℕ). goes more (Terms InPut ∷ ws) (settled (counted_at hs m (record s { puts = s.puts ++ [] })))) none,
    )
puts_read hs n (p ∷ ps) k more ws s seen lt ends plain =
    let c = class_of s.classes s.class in
    let each = and_parts (put_is_plain s.classes k c p) (list_all (put_is_plain s.classes k c) ps) plain in
    let m = n + in_put p in
    let others = spelled_puts hs s.classes k c m ps in
    let first = one_put_read hs n k (others ++ more) ws s seen lt (puts_end hs m s.classes k c ps more ends) (is_vector c p.field) p refl each.0 in
    let next : State = sourced (record s { puts = s.puts ++ p ∷ [] }) first.0 in
    let rest = puts_read hs m ps k more ws next seen lt ends each.1 in
    let all : m + total in_put ps ≡ n + (in_put p + total in_put ps) = omega arith in (
      rest.0,
      ap (λ (x : List Word). goes x (Terms InPut ∷ ws) (settled (counted_at hs n s))) (append_assoc (spelled_put hs s.classes k c n p) others more)
          ∙ first.1
          ∙ rest.1
          ∙ ap (λ (xs : List Put). goes more (Terms InPut ∷ ws) (sourced (settled (counted_at hs (m + total in_put ps) (record s { puts = xs }))) rest.0)) (append_assoc s.puts (p ∷ []) ps)
          ∙ ap (λ (i : ℕ). goes more (Terms InPut ∷ ws) (sourced (settled (counted_at hs i (record s { puts = s.puts ++ p ∷ ps }))) rest.0)) all,
    )

-- ---- remove

cell_taken : (n c : ℕ) (ws : List Wanted) (s : State) → s.elements ≡ numbered (below n) → nat_lt c n ≡ true → with_designated (named_cell (number_of (record { 0 = c }) s.elements)) ws s ≡ Next ws (record s { cells = s.cells ++ c ∷ [] })
cell_taken n c ws s e lt = ap (λ (o : Option ℕ). with_designated (named_cell o) ws s) (cell_found n c s e lt)

first_cell : (c : ℕ) (ws : List Wanted) (s : State) → step (spelled_variable c) (Cell ∷ ws) s ≡ with_designated (named_cell (number_of (record { 0 = c }) s.elements)) ws s
unfolding step
first_cell c ws s = refl

next_cell : (c : ℕ) (ws : List Wanted) (s : State) → step (spelled_variable c) (Cells ∷ ws) s ≡ with_designated (named_cell (number_of (record { 0 = c }) s.elements)) (Cells ∷ ws) s
unfolding step
next_cell c ws s = refl

cells_read : (n : ℕ) (cells : List ℕ) (more : List Word) (ws : List Wanted) (s : State) → s.elements ≡ numbered (below n) → list_all (λ c. nat_lt c n) cells ≡ true
    → goes (map spelled_variable cells ++ more) (Cells ∷ ws) s ≡ goes more (Cells ∷ ws) (record s { cells = s.cells ++ cells })
cells_read n [] more ws s e plain = ap (λ (xs : List ℕ). goes more (Cells ∷ ws) (record s { cells = xs })) (sym (append-nil s.cells))
cells_read n (c ∷ cs) more ws s e plain =
    let each = and_parts (nat_lt c n) (list_all (λ c. nat_lt c n) cs) plain in
    let next : State = record s { cells = s.cells ++ c ∷ [] } in
    by_word (spelled_variable c) (map spelled_variable cs ++ more) (Cells ∷ ws) (Cells ∷ ws) s next (next_cell c ws s ∙ cell_taken n c (Cells ∷ ws) s e each.0)
    ∙ cells_read n cs more ws next e each.1
    ∙ ap (λ (xs : List ℕ). goes more (Cells ∷ ws) (record s { cells = xs })) (append_assoc s.cells (c ∷ []) cs)

pub remove_read : (n : ℕ) (cells : List ℕ) (more : List Word) (ws : List Wanted) (s : State) → s.elements ≡ numbered (below n) → 0 < length cells → list_all (λ c. nat_lt c n) cells ≡ true
    → goes (map spelled_variable cells ++ more) (Cell ∷ Cells ∷ ws) s ≡ goes more (Cells ∷ ws) (record s { cells = s.cells ++ cells })
remove_read n [] more ws s e some plain = absurd (omega arith)
remove_read n (c ∷ cs) more ws s e some plain =
    let each = and_parts (nat_lt c n) (list_all (λ c. nat_lt c n) cs) plain in
    let next : State = record s { cells = s.cells ++ c ∷ [] } in
    by_word (spelled_variable c) (map spelled_variable cs ++ more) (Cell ∷ Cells ∷ ws) (Cells ∷ ws) s next (first_cell c (Cells ∷ ws) s ∙ cell_taken n c (Cells ∷ ws) s e each.0)
    ∙ cells_read n cs more ws next e each.1
    ∙ ap (λ (xs : List ℕ). goes more (Cells ∷ ws) (record s { cells = xs })) (append_assoc s.cells (c ∷ []) cs)

-- ---- write

module _ (ws : List Wanted) where
  item_constant : (v : Value) (o : Option Hole) (s : State) → step (marked o (spelled_value v)) (Items ∷ ws) s ≡ constant_by (marked o (spelled_value v)).keyword (λ r. Next (Items ∷ ws) (counting (with_item r (item.Print (term.Constant v))))) s
  unfolding step
  item_constant (value.Whole n) None s = refl
  item_constant (value.Symbol name) None s = refl
  item_constant (value.Whole n) (Some h) s = refl
  item_constant (value.Symbol name) (Some h) s = refl

  item_variable : (n : ℕ) (s : State) → step (spelled_variable n) (Items ∷ ws) s ≡ bound_at ToItem (number_of (record { 0 = n }) s.values) (Items ∷ ws) s
  unfolding step
  item_variable n s = refl

  item_calls : (k : Keyword) (words : List Word) (s : State) → gives k ≡ true → goes (opening ∷ spelled_keyword k ∷ words) (Items ∷ ws) s ≡ after (goes words) (spelled_keyword k) (function ToItem k (Items ∷ ws) s)
  unfolding goes step
  item_calls keyword.Substr words s is = refl
  item_calls keyword.Compute words s is = refl
  item_calls keyword.Genatom words s is = refl
  item_calls keyword.Accept words s is = refl
  item_calls _ words s is = absurd (true≢false (sym is))

  item_takes : Takes ToItem (Items ∷ ws) (Items ∷ ws) (λ s x. with_item s (item.Print x))
  item_takes = record { constant = item_constant; variable = item_variable; calls = item_calls; ends = λ x behind s. refl; counts = λ x s. refl }

module _ (hs : List Hole) (n : ℕ) (k : InSight) (more : List Word) (ws : List Wanted) (s : State) where
  crlf_read : goes (spelled_item hs s.classes k n item.Crlf ++ more) (Items ∷ ws) s ≡ goes more (Items ∷ ws) (with_item s item.Crlf)
  unfolding goes step
  crlf_read = refl

  tab_read : (m : ℕ) → is_column m ≡ true → goes (spelled_item hs s.classes k n (item.TabTo m) ++ more) (Items ∷ ws) s ≡ goes more (Items ∷ ws) (with_item s (item.TabTo m))
  unfolding goes step
  tab_read m is = rw is refl

  right_read : (m : ℕ) → is_column m ≡ true → goes (spelled_item hs s.classes k n (item.RightIn m) ++ more) (Items ∷ ws) s ≡ goes more (Items ∷ ws) (with_item s (item.RightIn m))
  unfolding goes step
  right_read m is = rw is refl

item_read : (hs : List Hole) (n : ℕ) (i : Item) (k : InSight) (more : List Word) (ws : List Wanted) (s : State) → Sighted hs k s → item_is_plain s.classes k i ≡ true
    → Leads (spelled_item hs s.classes k n i) more (Items ∷ ws) (counted_at hs n s) (Items ∷ ws) (counted_at hs (n + in_item i) (with_item s i))
item_read hs n (item.Print x) k more ws s seen plain =
    (source_in s.classes k (s.source, s.source_field) x, term_read ToItem (Items ∷ ws) (Items ∷ ws) (λ s x. with_item s (item.Print x)) (item_takes ws) hs n k more s seen x plain)
item_read hs n item.Crlf k more ws s seen plain =
    let none : n ≡ n + 0 = omega arith in
    ((s.source, s.source_field), crlf_read hs n k more ws (counted_at hs n s) ∙ ap (λ (m : ℕ). goes more (Items ∷ ws) (counted_at hs m (with_item s item.Crlf))) none)
item_read hs n (item.TabTo c) k more ws s seen plain =
    let none : n ≡ n + 0 = omega arith in
    ((s.source, s.source_field), tab_read hs n k more ws (counted_at hs n s) c plain ∙ ap (λ (m : ℕ). goes more (Items ∷ ws) (counted_at hs m (with_item s (item.TabTo c)))) none)
item_read hs n (item.RightIn c) k more ws s seen plain =
    let none : n ≡ n + 0 = omega arith in
    ((s.source, s.source_field), right_read hs n k more ws (counted_at hs n s) c plain ∙ ap (λ (m : ℕ). goes more (Items ∷ ws) (counted_at hs m (with_item s (item.RightIn c)))) none)

pub items_read : (hs : List Hole) (n : ℕ) (items : List Item) (k : InSight) (more : List Word) (ws : List Wanted) (s : State) → Sighted hs k s → list_all (item_is_plain s.classes k) items ≡ true
    → Leads (spelled_counted in_item (spelled_item hs s.classes k) n items) more (Items ∷ ws) (counted_at hs n s) (Items ∷ ws) (counted_at hs (n + total in_item items) (record s { items = s.items ++ items }))
items_read hs n [] k more ws s seen plain =
    let none : n ≡ n + 0 = omega arith in (
      (s.source, s.source_field),
      ap (λ (xs : List Item). goes more (Items ∷ ws) (counted_at hs n (record s { items = xs }))) (sym (append-nil s.items))
          ∙ ap (λ (m : ℕ). goes more (Items ∷ ws) (counted_at hs m (record s { items = s.items ++ [] }))) none,
    )
items_read hs n (i ∷ is) k more ws s seen plain =
    let each = and_parts (item_is_plain s.classes k i) (list_all (item_is_plain s.classes k) is) plain in
    let m = n + in_item i in
    let others = spelled_counted in_item (spelled_item hs s.classes k) m is in
    let first = item_read hs n i k (others ++ more) ws s seen each.0 in
    let rest = items_read hs m is k more ws (sourced (with_item s i) first.0) seen each.1 in
    let all : m + total in_item is ≡ n + (in_item i + total in_item is) = omega arith in (
      rest.0,
      ap (λ (x : List Word). goes x (Items ∷ ws) (counted_at hs n s)) (append_assoc (spelled_item hs s.classes k n i) others more)
          ∙ first.1
          ∙ rest.1
          ∙ ap (λ (xs : List Item). goes more (Items ∷ ws) (sourced (counted_at hs (m + total in_item is) (record s { items = xs })) rest.0)) (append_assoc s.items (i ∷ []) is)
          ∙ ap (λ (j : ℕ). goes more (Items ∷ ws) (sourced (counted_at hs j (record s { items = s.items ++ i ∷ is })) rest.0)) all,
    )

-- ---- bind

bind_counts : (o : Option ℕ) (x : Term) (s : State) → counting (with_bind o s x) ≡ with_bind o (counting s) x
bind_counts (Some n) x s = refl
bind_counts None x s = refl

module _ (ws : List Wanted) where
  bind_constant : (v : Value) (o : Option Hole) (s : State)
      → step (marked o (spelled_value v)) (BoundValue ∷ ws) s ≡ constant_by (marked o (spelled_value v)).keyword (λ r. Next (Closes EndsWhole ∷ ws) (counting (with_bind (number_of r.variable r.values) r (term.Constant v)))) s
  unfolding step
  bind_constant (value.Whole n) None s = refl
  bind_constant (value.Symbol name) None s = refl
  bind_constant (value.Whole n) (Some h) s = refl
  bind_constant (value.Symbol name) (Some h) s = refl

  bind_variable : (n : ℕ) (s : State) → step (spelled_variable n) (BoundValue ∷ ws) s ≡ bound_at ToBind (number_of (record { 0 = n }) s.values) (Closes EndsWhole ∷ ws) s
  unfolding step
  bind_variable n s = refl

  bind_calls : (k : Keyword) (words : List Word) (s : State) → gives k ≡ true → goes (opening ∷ spelled_keyword k ∷ words) (BoundValue ∷ ws) s ≡ after (goes words) (spelled_keyword k) (function ToBind k (Closes EndsWhole ∷ ws) s)
  unfolding goes step
  bind_calls k words s is = refl

  bind_takes : Takes ToBind (BoundValue ∷ ws) (Closes EndsWhole ∷ ws) (λ s x. with_bind (number_of s.variable s.values) s x)
  bind_takes = record { constant = bind_constant; variable = bind_variable; calls = bind_calls; ends = λ x behind s. refl; counts = λ x s. bind_counts (number_of s.variable s.values) x s }

-- the value of a `bind`
pub bind_read : (hs : List Hole) (n : ℕ) (x : Term) (k : InSight) (more : List Word) (ws : List Wanted) (s : State) → Sighted hs k s → term_is_plain s.classes k false x ≡ true
    → (y : ℕ × ℕ) × (goes (spelled_term hs s.classes k n x ++ more) (BoundValue ∷ ws) (counted_at hs n s) ≡ goes more (Closes EndsWhole ∷ ws) (with_bind (number_of s.variable s.values) (sourced (counted_at hs (n + in_term x) s) y) x))
bind_read hs n x k more ws s seen plain =
    (source_in s.classes k (s.source, s.source_field) x, term_read ToBind (BoundValue ∷ ws) (Closes EndsWhole ∷ ws) (λ s x. with_bind (number_of s.variable s.values) s x) (bind_takes ws) hs n k more s seen x plain)
