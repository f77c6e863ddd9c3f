-- How the walk over the words of a right side follows the definition's walk, by places in the words.
use Rattle.std.specs.Prelude.{◌≡◌, ℕ, ◌+◌, ◌-◌, ◌<◌, ◌≤◌, ◌==◌, Bool, true, false, if◌then◌else◌, Option, Some, None, List, [], ◌∷◌, ◌++◌, take, drop, length, slice_get, unwrap_or, Result, Ok, Err}
use Rattle.ops_base.specs.declared.elements.Class.{Class}
use Rattle.ops_base.specs.declared.actions.Term.{Term}
use Rattle.ops_base.specs.declared.actions.Term.TheVariants as term
use Rattle.ops_base.specs.declared.actions.Item.TheVariants as item
use Rattle.ops_base.specs.declared.endings.Fault.{Fault}
use Rattle.ops_base.specs.declared.endings.Fault.TheVariants as fault
use Rattle.ops_base.specs.Expression.{Formula}
use Rattle.ops_base.specs.declared.conditions.Part.{Part}
use Rattle.ops_base.specs.declared.rules.Rule.{Rule}
use Rattle.ops_base.specs.declared.values.Sym.{Sym}
use Rattle.ops_base.specs.Valid.{class_of, cells_of, specificity}
use Rattle.ops_grammar.specs.declared.words.Keyword.{Keyword}
use Rattle.ops_grammar.specs.declared.words.Keyword.TheVariants as keyword
use Rattle.ops_grammar.specs.declared.words.Word.{Word}
use Rattle.ops_grammar.specs.Grammar.{Target as Goal, ToPut, ToTerms, ToItem, ToBind, Column as Purpose, ToTab, ToRight, Wanted, State, Step, Waiting as Waits, Bracketed, ExpressionUnit, ExpressionRest, Next, Refuses, after, goes, nothing_read, no_formula, is_right, is_built, number_of, values_around, constant_by, with_put, with_item, with_bind, with_formula}
use Rattle.ops_forms.specs.Sights.{cells_from}
use Rattle.ops_forms.specs.PlaceWalks.{Way, Fails, IsPlaced, GoesOn, GoesAmong, GoesToAmong, CutGoesOn, CutGoesAmong, CutGoesToAmong, PeekGoesToAmong, Onward, CutWay, goes_onward}
use Rattle.ops_forms.specs.declared.refusals.Refusal.{Refusal}
use Rattle.ops_forms.specs.declared.refusals.Refusal.TheVariants as refusal
use Rattle.ops_rhs.specs.declared.expressions.Waiting.{Waiting}
use Rattle.ops_rhs.specs.declared.right.Around.{Around}
use Rattle.ops_rhs.specs.declared.right.Right.{Right}
use Rattle.ops_rhs.specs.declared.right.Target.{Target}
use Rattle.ops_rhs.specs.declared.right.Target.TheVariants as target
use Rattle.ops_rhs.specs.declared.right.Column.{Column}
use Rattle.ops_rhs.specs.declared.right.Column.TheVariants as column

-- what was read so far, if everything else that was read is that of a state
abbrev pub seen : State → Right → State
seen s r =
    record s {
      class = r.class;
      terms = r.terms.items;
      constants = [];
      puts = r.puts.items;
      cells = r.cells.items;
      items = r.items.items;
      values = r.values;
      elements = r.elements;
      variables = r.variables;
      actions = r.actions.items;
      modified = r.modified;
      made = r.made;
      further = r.further.items;
      variable = r.variable;
      source = r.source;
      source_field = r.source_field;
      formula = no_formula;
      begun = r.begun;
      counted = r.counted;
      holes = r.holes.items;
      templates = r.templates.items;
    }

-- what was read so far, if nothing else was read
abbrev pub view : Right → State
view r = seen nothing_read r

-- nothing of a left side is being read
abbrev pub left_over : State → State
left_over s =
    record s { tests = []; choice = []; element = record { 0 = 0 }; negated = false; around = 0; grouped = false; members = [] }

-- the classes and the conditions of a state, and the production around what it reads, are those around a right side
pub record IsAround (a : Around) (s : State) : Type 0 where
  pub classes : s.classes ≡ a.classes.now
  pub values : values_around s.outer ≡ a.values.now
  pub built : is_built s ≡ a.built
  pub over : s ≡ left_over s
  pub cells : cells_of s.conditions ≡ a.cells.now
  pub conditions : cells_from 0 s.conditions ≡ a.conditions.now

-- `new` is the expected state, whatever is around the right side, unless memory ran out
abbrev pub BecomesAmong : {X : Type 0} → Around → (State → State) → (State → State) → Result X Refusal → Type 0
BecomesAmong a new expected (Ok x) = (s : State) → IsAround a s → new s ≡ expected s
BecomesAmong a new expected (Err refusal.OutOfMemory) = Unit {0}
BecomesAmong a new expected (Err (refusal.At f word)) = ⊥

-- the call read what was expected, in the words from a place on
abbrev pub Reads : Around → Wanted → Right → Right → List Word → ℕ → Result ℕ Refusal → Type 0
Reads a w old new words at result = GoesAmong (IsAround a) (λ more ws s. goes (drop at words ++ more) (w ∷ ws) (seen s old)) words (λ s. seen s new) result

-- the call did this with a word that was already taken, and read on in the words from a place on
abbrev pub Acts : Around → (List Wanted → State → Step) → Word → Right → Right → List Word → ℕ → Result ℕ Refusal → Type 0
Acts a does w old new words at result = GoesAmong (IsAround a) (λ more ws s. after (goes (drop at words ++ more)) w (does ws (seen s old))) words (λ s. seen s new) result

-- the same, whatever is around the right side
abbrev pub ReadsAnywhere : Wanted → Right → Right → List Word → ℕ → Result ℕ Refusal → Type 0
ReadsAnywhere w old new words at result = GoesOn (λ more ws s. goes (drop at words ++ more) (w ∷ ws) (seen s old)) words (λ s. seen s new) result

abbrev pub ActsAnywhere : (List Wanted → State → Step) → Word → Right → Right → List Word → ℕ → Result ℕ Refusal → Type 0
ActsAnywhere does w old new words at result = GoesOn (λ more ws s. after (goes (drop at words ++ more)) w (does ws (seen s old))) words (λ s. seen s new) result

-- the call read what was expected, up to where that other thing is expected
abbrev pub GoesTo : Around → Wanted → Way → List Word → Right → Result ℕ Refusal → Type 0
GoesTo a w from words new result = GoesToAmong (IsAround a) w from words (λ s. seen s new) result

-- ---- if the words are cut off

abbrev pub CutReads : Around → Wanted → Right → Right → List Word → ℕ → Result ℕ Refusal → Type 0
CutReads a w old new words at result = CutGoesAmong (IsAround a) (λ cut on ws s. goes_onward on (drop at cut) (w ∷ ws) (seen s old)) words (λ s. seen s new) result

abbrev pub CutActs : Around → (List Wanted → State → Step) → Word → Right → Right → List Word → ℕ → Result ℕ Refusal → Type 0
CutActs a does w old new words at result = CutGoesAmong (IsAround a) (λ cut on ws s. after (goes_onward on (drop at cut)) w (does ws (seen s old))) words (λ s. seen s new) result

abbrev pub CutReadsAnywhere : Wanted → Right → Right → List Word → ℕ → Result ℕ Refusal → Type 0
CutReadsAnywhere w old new words at result = CutGoesOn (λ cut on ws s. goes_onward on (drop at cut) (w ∷ ws) (seen s old)) words (λ s. seen s new) result

abbrev pub CutActsAnywhere : (List Wanted → State → Step) → Word → Right → Right → List Word → ℕ → Result ℕ Refusal → Type 0
CutActsAnywhere does w old new words at result = CutGoesOn (λ cut on ws s. after (goes_onward on (drop at cut)) w (does ws (seen s old))) words (λ s. seen s new) result

abbrev pub PeekGoesTo : Around → Wanted → CutWay → List Word → Right → Result ℕ Refusal → Type 0
PeekGoesTo a w from words new result = PeekGoesToAmong (IsAround a) w from words (λ s. seen s new) result

abbrev pub CutGoesTo : Around → Wanted → CutWay → List Word → Right → Result ℕ Refusal → Type 0
CutGoesTo a w from words new result = CutGoesToAmong (IsAround a) w from words (λ s. seen s new) result

-- ---- where values go

-- where a value goes
abbrev pub target_of : Target → Goal
target_of (target.Put f) = ToPut f
target_of target.Terms = ToTerms
target_of target.Item = ToItem
target_of target.Bind = ToBind

-- a value is put there
abbrev pub with_term : Target → State → Term → State
with_term (target.Put f) s t = with_put s f t
with_term target.Terms s t = record s { terms = s.terms ++ t ∷ [] }
with_term target.Item s t = with_item s (item.Print t)
with_term target.Bind s t = with_bind (number_of s.variable s.values) s t

-- ---- expressions

-- Whichever operand was read before: either the walk continues in the words from the next place on with this operand,
-- or it ends in the refusal. Memory may run out.
abbrev pub GoesToOperand : (Formula → Way) → Right → List Word → Result (Formula × ℕ) Refusal → Type 0
GoesToOperand from r words (Ok x) = (f : Formula) (more : List Word) (ws : List Wanted) (s : State) → from f more ws s ≡ goes (drop x.1 words ++ more) ws (with_formula (seen s r) x.0)
GoesToOperand from r words (Err e) = (f : Formula) → Fails (from f) e

-- the call read an operand where that was expected
abbrev pub ReadsOperand : Wanted → Right → List Word → ℕ → Result (Formula × ℕ) Refusal → Type 0
ReadsOperand w r words at result = GoesToOperand (λ f more ws s. goes (drop at words ++ more) (w ∷ ws) (with_formula (seen s r) f)) r words result

-- the call did this with a word that was already taken, and read on to the end of an operand
abbrev pub ActsOperand : (List Wanted → State → Step) → Word → Right → List Word → ℕ → Result (Formula × ℕ) Refusal → Type 0
ActsOperand does w r words at result = GoesToOperand (λ f more ws s. after (goes (drop at words ++ more)) w (does ws (with_formula (seen s r) f))) r words result

-- handling the word makes it an operand, or refuses it
abbrev pub IsOperand : (List Wanted → State → Step) → Word → Right → Result Formula Refusal → Type 0
IsOperand does w r (Ok x) = (f : Formula) (ws : List Wanted) (s : State) → does ws (with_formula (seen s r) f) ≡ Next ws (with_formula (seen s r) x)
IsOperand does w r (Err refusal.OutOfMemory) = Unit {0}
IsOperand does w r (Err (refusal.At fault word)) = (word ≡ Some w) × ((f : Formula) (ws : List Wanted) (s : State) → does ws (with_formula (seen s r) f) ≡ Refuses fault)

-- where the value of an expression goes, unless it is an operand of another
abbrev pub into : Option Target → Option Goal
into (Some t) = Some (target_of t)
into None = None

-- an expression is complete
abbrev pub ended_as : Option Target → State → Formula → State
ended_as (Some t) s f = with_term t s (term.Compute f)
ended_as None s f = with_formula s f

-- the call read an expression and the closing bracket after it, wherever the value of the expression goes
abbrev pub ReadsExpression : ℕ → Right → List Word → ℕ → Result (Formula × ℕ) Refusal → Type 0
ReadsExpression depth r words at (Ok x) = (t : Option Target) (f : Formula) (more : List Word) (ws : List Wanted) (s : State) → goes (drop at words ++ more) (ExpressionUnit depth ∷ ExpressionRest depth [] (into t) ∷ ws) (with_formula (seen s r) f) ≡ goes (drop x.1 words ++ more) ws (ended_as t (seen s r) x.0)
ReadsExpression depth r words at (Err e) = (t : Option Target) (f : Formula) → Fails (λ more ws s. goes (drop at words ++ more) (ExpressionUnit depth ∷ ExpressionRest depth [] (into t) ∷ ws) (with_formula (seen s r) f)) e

-- an expression in brackets begins at the next place
abbrev pub OpensExpression : List Word → ℕ → Result ℕ Refusal → Type 0
OpensExpression words at (Ok next) = (depth : ℕ) (more : List Word) (ws : List Wanted) (s : State) → goes (drop at words ++ more) (Bracketed depth ∷ ws) s ≡ goes (drop next words ++ more) (ExpressionUnit depth ∷ ExpressionRest depth [] None ∷ ws) s
OpensExpression words at (Err e) = (depth : ℕ) → Fails (λ more ws s. goes (drop at words ++ more) (Bracketed depth ∷ ws) s) e

-- ---- expressions, if the words are cut off

abbrev pub CutGoesToOperand : (Formula → CutWay) → Right → List Word → Result (Formula × ℕ) Refusal → Type 0
CutGoesToOperand from r words (Ok x) = (n : ℕ) → x.1 ≤ n → (f : Formula) (on : Onward) (ws : List Wanted) (s : State) → from f (take n words) on ws s ≡ goes_onward on (drop x.1 (take n words)) ws (with_formula (seen s r) x.0)
CutGoesToOperand from r words (Err e) = Unit {0}

abbrev pub CutReadsOperand : Wanted → Right → List Word → ℕ → Result (Formula × ℕ) Refusal → Type 0
CutReadsOperand w r words at result = CutGoesToOperand (λ f cut on ws s. goes_onward on (drop at cut) (w ∷ ws) (with_formula (seen s r) f)) r words result

abbrev pub CutActsOperand : (List Wanted → State → Step) → Word → Right → List Word → ℕ → Result (Formula × ℕ) Refusal → Type 0
CutActsOperand does w r words at result = CutGoesToOperand (λ f cut on ws s. after (goes_onward on (drop at cut)) w (does ws (with_formula (seen s r) f))) r words result

abbrev pub CutReadsExpression : ℕ → Right → List Word → ℕ → Result (Formula × ℕ) Refusal → Type 0
CutReadsExpression depth r words at (Ok x) = (n : ℕ) → x.1 ≤ n → (t : Option Target) (f : Formula) (on : Onward) (ws : List Wanted) (s : State) → goes_onward on (drop at (take n words)) (ExpressionUnit depth ∷ ExpressionRest depth [] (into t) ∷ ws) (with_formula (seen s r) f) ≡ goes_onward on (drop x.1 (take n words)) ws (ended_as t (seen s r) x.0)
CutReadsExpression depth r words at (Err e) = Unit {0}

-- the same, if the call also examined the word at the next place but did not take it
abbrev pub PeekOpensExpression : List Word → ℕ → Result ℕ Refusal → Type 0
PeekOpensExpression words at (Ok next) = (n : ℕ) → next < n → (depth : ℕ) (on : Onward) (ws : List Wanted) (s : State) → goes_onward on (drop at (take n words)) (Bracketed depth ∷ ws) s ≡ goes_onward on (drop next (take n words)) (ExpressionUnit depth ∷ ExpressionRest depth [] None ∷ ws) s
PeekOpensExpression words at (Err e) = Unit {0}

-- ---- places after operands

-- the place after an operand is after that one; or the result is such a refusal
abbrev pub IsFromOperand : ℕ → Result (Formula × ℕ) Refusal → Type 0
IsFromOperand at (Ok x) = at < x.1
IsFromOperand at (Err e) = IsPlaced e

-- the waiting operands, starting with the one that was read last
abbrev pub newest_first : List Waiting → List Waits
newest_first [] = []
newest_first (w ∷ waiting) = newest_first waiting ++ record { left = w.left; op = w.op } ∷ []

-- ---- what is read

-- the class of the cell that `substr` reads
abbrev pub source_class : Around → Right → Class
source_class a r = class_of a.classes.now (unwrap_or (slice_get (a.cells.now ++ r.further.items) r.source) 0)

abbrev pub column_of : Column → Purpose
column_of column.Tab = ToTab
column_of column.Right = ToRight

-- the cell of the condition after this many others, given what is kept of it: it must equal its number, which is so if
-- no negated condition and no group comes before it
abbrev pub cell_by : ℕ → Option (Option ℕ) → Result ℕ Fault
cell_by before (Some (Some cell)) = if cell == before then Ok before else Err fault.AmbiguousDesignator
cell_by before (Some None) = Err fault.BadDesignator
cell_by before None = Err fault.BadDesignator

-- the cell of the condition with a number counted from 1, if these are the cells of the conditions
abbrev pub numbered_by : Option ℕ → List (Option ℕ) → Result ℕ Fault
numbered_by (Some n) conditions = cell_by (n - 1) (slice_get conditions (n - 1))
numbered_by None conditions = Err fault.BadDesignator

-- ---- productions that are built

-- these classes are declared, and a right side is being read of a production that none builds
pub record MayBuild (classes : List Class) (s : State) : Type 0 where
  pub classes_are : s.classes ≡ classes
  pub outer_is : s.outer ≡ None
  pub over : s ≡ left_over s

-- the production of this name, these conditions, this right side and this many cells that stands between these bytes
abbrev pub built_rule : Sym → List Part → Right → ℕ → ℕ → ℕ → Rule
built_rule name conditions r cells first past =
    record {
      name = name;
      conditions = conditions;
      actions = r.actions.items;
      specificity = specificity conditions;
      variables = r.variables;
      cells = cells;
      first = first;
      past = past;
    }

-- nothing of an action is kept, nor of what it builds
abbrev pub forgotten : State → State
forgotten s =
    record s {
      class = 0;
      terms = [];
      puts = [];
      cells = [];
      items = [];
      begun = 0;
      modified = None;
      variable = record { 0 = 0 };
      source = 0;
      source_field = 0;
      counted = 0;
      holes = [];
    }

-- the word `build`
abbrev pub is_build : Keyword → Bool
is_build keyword.Build = true
is_build _ = false

-- The call did with the constant that the word is what the definition does, up to what is done with any constant; or
-- its variable is not in sight around.
abbrev pub BeginsConstant : {X : Type 0} → Around → Word → Right → Right → Result X Refusal → Type 0
BeginsConstant a w old new (Ok x) = (next : State → Step) (s : State) → IsAround a s → constant_by w.keyword next (seen s old) ≡ next (seen s new)
BeginsConstant a w old new (Err refusal.OutOfMemory) = Unit {0}
BeginsConstant a w old new (Err (refusal.At f None)) = ⊥
BeginsConstant a w old new (Err (refusal.At f (Some v))) = (v ≡ w) × ((next : State → Step) (s : State) → IsAround a s → constant_by w.keyword next (seen s old) ≡ Refuses f)

-- there is a closing bracket at a place in the words
pub record IsClosing (words : List Word) (place : ℕ) : Type 0 where
  pub bracket : Word
  pub there : drop place words ≡ bracket ∷ drop (place + 1) words
  pub is : is_right bracket.kind ≡ true
  pub within : place + 1 ≤ length words
