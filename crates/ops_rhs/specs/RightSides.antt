-- What a right side is read as.
use Rattle.std.specs.Prelude.{◌≡◌, ℕ, ◌+◌, ◌-◌, ◌≤◌, List, [], ◌∷◌, ◌++◌, drop, slice_get, true, false, Some, None, Ok, Err}
use Rattle.ops_base.specs.declared.elements.Class.{Class}
use Rattle.ops_base.specs.declared.actions.Action.{Action}
use Rattle.ops_base.specs.declared.endings.Fault.{Fault}
use Rattle.ops_base.specs.declared.endings.Fault.TheVariants as fault
use Rattle.ops_base.specs.Valid.{cells_of}
use Rattle.ops_tokens.specs.declared.token.Token.{Token}
use Rattle.ops_grammar.specs.declared.words.Word.{Word}
use Rattle.ops_grammar.specs.Words.{names_from}
use Rattle.ops_grammar.specs.Grammar.{State, Wanted, Actions, Outcome, goes, is_right, right_begun, with_rule}
use Rattle.ops_grammar.specs.Reads.{stands_at}
use Rattle.ops_forms.specs.Forms.{past_last}
use Rattle.ops_forms.specs.WordWalks.{Way, Fails}
use Rattle.ops_forms.specs.Sights.{cells_from}
use Rattle.ops_forms.specs.PlaceWalks.{AreBehind, goes_onward, words_of_scope}
use Rattle.ops_forms.specs.declared.refusals.Refusal.{Refusal}
use Rattle.ops_forms.specs.declared.refusals.Refusal.TheVariants as refusal
use Rattle.ops_forms.specs.declared.refusals.ReadFault.{ReadFault}
use Rattle.ops_forms.specs.declared.refusals.ReadFault.TheVariants as answer
use Rattle.ops_forms.specs.declared.scope.Scope.{Scope}
use Rattle.ops_rhs.specs.declared.sides.Sight.{Sight}
use Rattle.ops_rhs.specs.Taking.{left_over}

-- ---- of words

-- how the walk proceeds if a right side begins with these words
abbrev pub right_way : List Word → State → Way
right_way words s = λ more ws. goes (words ++ more) (Actions false ∷ ws) (right_begun s)

-- A state in which these classes are declared and this is in sight, as it is after an arrow: no constants of a command
-- are being read, and no production builds the one that is read.
pub record Sees (classes : List Class) (sight : Sight) (s : State) : Type 0 where
  pub classes_are : s.classes ≡ classes
  pub constants_are : s.constants ≡ []
  pub values_are : s.values ≡ sight.values
  pub elements_are : s.elements ≡ sight.elements
  pub variables_are : s.variables ≡ sight.variables
  pub cells_are : cells_of s.conditions ≡ sight.cells
  pub conditions_are : cells_from 0 s.conditions ≡ sight.conditions
  pub counted_are : s.counted ≡ sight.counted
  pub holes_are : s.holes ≡ sight.holes.items
  pub templates_are : s.templates ≡ sight.templates.items
  pub outer_is : s.outer ≡ None
  pub over : s ≡ left_over s

-- the state at the end of a right side: its actions, what is in sight there, the classes of the cells that `cbind`
-- named, and the productions that its actions build
abbrev pub right_read : State → List Action → Sight → List ℕ → State
right_read s actions sight further =
    record (right_begun s) { actions = actions; values = sight.values; elements = sight.elements; variables = sight.variables; further = further; counted = sight.counted; holes = sight.holes.items; templates = sight.templates.items }

abbrev pub IsBracket : Word → Type 0
IsBracket w = is_right w.kind ≡ true

-- the state where the words end, whatever is still expected there
abbrev pub reached : List Word → List Wanted → State → Outcome
reached words ws s = goes_onward (λ ws t. Ok t) words ws s

-- a state in which `cbind` has named cells of these classes
abbrev pub HasNamed : List ℕ → Outcome → Type 0
HasNamed further (Ok s) = s.further ≡ further
HasNamed further (Err e) = ⊥

-- If these classes are declared and `old` is in sight, the words up to a closing bracket are read as these actions.
-- Whatever words follow the bracket, whatever else was read before and whatever is expected afterwards, the walk
-- continues there from the state that the right side leaves. The bracket ends the production.
pub record ReadsRight (classes : List Class) (old : Sight) (words rest : List Word) (actions : List Action) (new : Sight) : Type 0 where
  pub behind : AreBehind IsBracket words rest
  -- the classes of the cells that the right side named, as they are known at the bracket
  pub further : List ℕ
  pub named : (s : State) → Sees classes old s → HasNamed further (reached behind.before (Actions false ∷ []) (right_begun s))
  pub cells : new.cells ≡ old.cells ++ further
  pub conditions : new.conditions ≡ old.conditions
  pub reads : (s : State) → Sees classes old s → (more : List Word) (ws : List Wanted) → right_way (behind.before ++ behind.last ∷ []) s more ws ≡ goes more ws (with_rule (right_read s actions new further) behind.last.past)

-- if these classes are declared and this is in sight, the words are refused in this way
abbrev pub RefusesRight : List Class → Sight → List Word → Refusal → Type 0
RefusesRight classes sight words e = (s : State) → Sees classes sight s → Fails (right_way words s) e

-- ---- of tokens

-- what is in sight in a scope
abbrev pub sight_of : Scope → Sight
sight_of scope =
    record { values = scope.values; elements = scope.elements; cells = scope.cells; conditions = scope.conditions; variables = scope.variables; counted = scope.counted; holes = scope.holes; templates = scope.templates }

-- there is a closing bracket at the place
pub record IsBracketAt (tokens : List Token) (place : ℕ) : Type 0 where
  pub token : Token
  pub there : slice_get tokens place ≡ Some token
  pub is : is_right token.kind ≡ true

-- The tokens from a place on, up to the closing bracket at the other place, are read as these actions, and the new
-- scope is what they leave in sight.
pub record IsRightSide (old new : Scope) (tokens : List Token) (from : ℕ) (actions : List Action) (place : ℕ) : Type 0 where
  pub begins : from ≤ place
  pub bracket : IsBracketAt tokens place
  pub reads : ReadsRight old.classes (sight_of old) (words_of_scope old tokens from) (drop (place + 1 - from) (words_of_scope old tokens from)) actions (sight_of new)
  pub names : new.names ≡ names_from old.text.items old.names (drop from tokens)

-- The tokens are refused where a word stands; or, if they end before the closing bracket, at the byte past the
-- last.
pub data IsRefusedAt (scope : Scope) (tokens : List Token) (from : ℕ) : Fault → ℕ → Type 0 where
  at_word : (f : Fault) (w : Word) → RefusesRight scope.classes (sight_of scope) (words_of_scope scope tokens from) (refusal.At f (Some w)) → IsRefusedAt scope tokens from f (stands_at f w)
  at_end : RefusesRight scope.classes (sight_of scope) (words_of_scope scope tokens from) (refusal.At fault.Unclosed None) → IsRefusedAt scope tokens from fault.Unclosed (past_last 0 tokens)

abbrev pub IsRefused : Scope → List Token → ℕ → ReadFault → Type 0
IsRefused scope tokens from answer.OutOfMemory = Unit {0}
IsRefused scope tokens from (answer.At f at) = IsRefusedAt scope tokens from f at
