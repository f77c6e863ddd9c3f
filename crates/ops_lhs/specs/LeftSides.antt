-- What a left side is read as.
use Rattle.std.specs.Prelude.{◌≡◌, ℕ, ◌+◌, ◌-◌, ◌≤◌, List, [], ◌∷◌, ◌++◌, drop, slice_get, true, Option, Some, None, Result, Ok, Err}
use Rattle.ops_base.specs.declared.elements.Class.{Class}
use Rattle.ops_base.specs.declared.actions.Hole.{Hole}
use Rattle.ops_base.specs.declared.conditions.Part.{Part}
use Rattle.ops_base.specs.declared.endings.Fault.{Fault}
use Rattle.ops_base.specs.declared.endings.Fault.TheVariants as fault
use Rattle.ops_base.specs.Valid.{cells_of}
use Rattle.ops_tokens.specs.declared.token.Token.{Token}
use Rattle.ops_tokens.specs.Tokens.{spelling}
use Rattle.ops_grammar.specs.declared.words.Word.{Word}
use Rattle.ops_grammar.specs.declared.words.Named.{Named}
use Rattle.ops_grammar.specs.Words.{keyword_of, names_from}
use Rattle.ops_grammar.specs.Grammar.{Outer, State, Wanted, FirstPattern, Patterns, goes, is_arrow, values_around, left_begun, right_begun}
use Rattle.ops_grammar.specs.Reads.{stands_at}
use Rattle.ops_forms.specs.Forms.{past_last}
use Rattle.ops_forms.specs.WordWalks.{Way, Fails}
use Rattle.ops_forms.specs.Sights.{cells_from}
use Rattle.ops_forms.specs.PlaceWalks.{AreBehind, IsPlaced, GoesAmong, FailsAmong, CutGoesAmong, goes_onward, words_of_scope}
use Rattle.ops_forms.specs.declared.refusals.Refusal.{Refusal}
use Rattle.ops_forms.specs.declared.refusals.Refusal.TheVariants as refusal
use Rattle.ops_forms.specs.declared.refusals.ReadFault.{ReadFault}
use Rattle.ops_forms.specs.declared.refusals.ReadFault.TheVariants as answer
use Rattle.ops_forms.specs.declared.scope.Scope.{Scope}
use Rattle.ops_lhs.specs.declared.around.Around.{Around}
use Rattle.ops_lhs.specs.declared.sides.LeftSide.{LeftSide}
use Rattle.ops_lhs.specs.Taking.{IsAround}

-- ---- of words

-- how the walk proceeds if a left side begins with these words, in a production with that one around it
abbrev pub left_way : List Word → Option Outer → State → Way
left_way words o s = λ more ws. goes (words ++ more) (FirstPattern ∷ Patterns ∷ ws) (record (left_begun s) { outer = o })

-- the state after a left side: its conditions, the variables and element variables that they bind, how many variables
-- they gave a number, how many constants they have and which of these are holes, and nothing else of it, nor of a right
-- side
abbrev pub left_read : Option Outer → State → List Part → List Named → List Named → ℕ → ℕ → List Hole → State
left_read o s conditions values elements variables counted holes =
    record (right_begun (left_begun s)) { values = values; elements = elements; variables = variables; conditions = conditions; counted = counted; holes = holes; outer = o }

-- If these classes are declared and these variables are in sight around, the words that are read are this left side up
-- to its arrow. Whatever words follow, whatever else was read before and whatever is expected afterwards, the walk
-- continues there from the state that the left side leaves.
pub record ReadsLeft (classes : List Class) (around : List Named) (words rest : List Word) (conditions : List Part) (values elements : List Named) (variables counted : ℕ) (holes : List Hole) : Type 0 where
  pub read : List Word
  pub split : words ≡ read ++ rest
  pub reads : (o : Option Outer) (s : State) → values_around o ≡ around → s.classes ≡ classes → (more : List Word) (ws : List Wanted) → left_way read o s more ws ≡ goes more ws (left_read o s conditions values elements variables counted holes)

-- if these classes are declared and these variables are in sight around, the words are refused in this way
abbrev pub RefusesLeft : List Class → List Named → List Word → Refusal → Type 0
RefusesLeft classes around words e = (o : Option Outer) (s : State) → values_around o ≡ around → s.classes ≡ classes → Fails (left_way words o s) e

-- ---- of words from a place on

-- a state whose left side begins, with what is around it
abbrev pub left_started : State → State
left_started s = record (left_begun s) { outer = s.outer }

-- the state after this left side
abbrev pub left_behind : LeftSide → State → State
left_behind side s = left_read s.outer s side.conditions.items side.values side.elements side.variables side.counted side.holes.items

-- The call read a left side in the words from a place on, up to the place after its arrow; or the walk ends in the
-- refusal.
abbrev pub ReadsLeftFrom : Around → List Word → ℕ → Result (LeftSide × ℕ) Refusal → Type 0
ReadsLeftFrom a words at (Ok x) = GoesAmong (IsAround a) (λ more ws s. goes (drop at words ++ more) (FirstPattern ∷ Patterns ∷ ws) (left_started s)) words (left_behind x.0) (Ok x.1)
ReadsLeftFrom a words at (Err e) = FailsAmong (IsAround a) (λ more ws s. goes (drop at words ++ more) (FirstPattern ∷ Patterns ∷ ws) (left_started s)) e

-- the same, if the words are cut off after the arrow
abbrev pub CutReadsLeftFrom : Around → List Word → ℕ → Result (LeftSide × ℕ) Refusal → Type 0
CutReadsLeftFrom a words at (Ok x) = CutGoesAmong (IsAround a) (λ cut on ws s. goes_onward on (drop at cut) (FirstPattern ∷ Patterns ∷ ws) (left_started s)) words (left_behind x.0) (Ok x.1)
CutReadsLeftFrom a words at (Err e) = Unit {0}

-- the next place is not before that one; or the result is such a refusal
abbrev pub IsLeftFrom : ℕ → Result (LeftSide × ℕ) Refusal → Type 0
IsLeftFrom at (Ok x) = at ≤ x.1
IsLeftFrom at (Err e) = IsPlaced e

abbrev pub IsArrow : Word → Type 0
IsArrow w = is_arrow w.keyword ≡ true

-- these words come right after an arrow in those
abbrev pub AreBehindArrow : List Word → List Word → Type 0
AreBehindArrow words rest = AreBehind IsArrow words rest

-- ---- of tokens

-- there is an arrow at the place
pub record IsArrowAt (text : List ℕ) (tokens : List Token) (place : ℕ) : Type 0 where
  pub token : Token
  pub there : slice_get tokens place ≡ Some token
  pub is : is_arrow (keyword_of token.kind (spelling text token)) ≡ true

-- The tokens from a place on, up to the arrow at the other place, are read as these conditions, and the new scope is
-- what the conditions leave in sight.
pub record IsLeftSide (old new : Scope) (tokens : List Token) (from : ℕ) (conditions : List Part) (place : ℕ) : Type 0 where
  pub begins : from ≤ place
  pub arrow : IsArrowAt old.text.items tokens place
  pub reads : ReadsLeft old.classes [] (words_of_scope old tokens from) (drop (place + 1 - from) (words_of_scope old tokens from)) conditions new.values new.elements new.variables new.counted new.holes.items
  pub names : new.names ≡ names_from old.text.items old.names (drop from tokens)
  pub cells : new.cells ≡ cells_of conditions
  pub conditions_are : new.conditions ≡ cells_from 0 conditions

-- The tokens are refused where a word stands; or, if they end before the arrow, at the byte past the last.
pub data IsRefusedAt (scope : Scope) (tokens : List Token) (from : ℕ) : Fault → ℕ → Type 0 where
  at_word : (f : Fault) (w : Word) → RefusesLeft scope.classes [] (words_of_scope scope tokens from) (refusal.At f (Some w)) → IsRefusedAt scope tokens from f (stands_at f w)
  at_end : RefusesLeft scope.classes [] (words_of_scope scope tokens from) (refusal.At fault.Unclosed None) → IsRefusedAt scope tokens from fault.Unclosed (past_last 0 tokens)

abbrev pub IsRefused : Scope → List Token → ℕ → ReadFault → Type 0
IsRefused scope tokens from answer.OutOfMemory = Unit {0}
IsRefused scope tokens from (answer.At f at) = IsRefusedAt scope tokens from f at
