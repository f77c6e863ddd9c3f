-- How the walk over the words of a left side follows the definition's walk, by places in the words.
use Rattle.std.specs.Prelude.{◌≡◌, ℕ, Bool, ◌||◌, ◌&&◌, true, is_some, Some, None, List, [], ◌∷◌, ◌++◌, drop, Result, Ok, Err}
use Rattle.ops_grammar.specs.declared.words.Keyword.{Keyword}
use Rattle.ops_grammar.specs.declared.words.Keyword.TheVariants as keyword
use Rattle.ops_grammar.specs.declared.words.Named.{Named}
use Rattle.ops_grammar.specs.declared.words.Word.{Word}
use Rattle.ops_grammar.specs.Grammar.{InPattern, Wanted, Terms, State, Step, Refuses, after, goes, nothing_read, values_around, constant_by, is_left_brace, is_variable, is_literal, opens_choice, pred_of, constant_of, number_of}
use Rattle.ops_forms.specs.declared.refusals.Refusal.{Refusal}
use Rattle.ops_forms.specs.declared.refusals.Refusal.TheVariants as refusal
use Rattle.ops_forms.specs.PlaceWalks.{Way, GoesOn, GoesAmong, GoesToAmong, CutGoesOn, CutGoesAmong, PeekGoesToAmong, CutWay, goes_onward}
use Rattle.ops_lhs.specs.declared.around.Around.{Around}
use Rattle.ops_lhs.specs.declared.left.Left.{Left}

-- what was read so far, if everything else that was read is that of a state
abbrev pub seen : State → Left → State
seen s l =
    record s {
      class = l.class;
      tests = l.tests.items;
      choice = l.choice.items;
      terms = [];
      constants = [];
      values = l.values;
      elements = l.elements;
      element = l.element;
      variables = l.variables;
      negated = l.negated;
      around = l.around;
      grouped = l.grouped;
      members = l.members.items;
      conditions = l.conditions.items;
      counted = l.counted;
      holes = l.holes.items;
    }

-- what was read so far, if nothing else was read
abbrev pub view : Left → State
view l = seen nothing_read l

-- the call read what was expected, in the words from a place on
abbrev pub Reads : Wanted → Left → Left → List Word → ℕ → Result ℕ Refusal → Type 0
Reads w old new words at result = GoesOn (λ more ws s. goes (drop at words ++ more) (w ∷ ws) (seen s old)) words (λ s. seen s new) result

-- the call did this with a word that was already taken, and read on in the words from a place on
abbrev pub Acts : (List Wanted → State → Step) → Word → Left → Left → List Word → ℕ → Result ℕ Refusal → Type 0
Acts does w old new words at result = GoesOn (λ more ws s. after (goes (drop at words ++ more)) w (does ws (seen s old))) words (λ s. seen s new) result

-- ---- if the words are cut off

abbrev pub CutReads : Wanted → Left → Left → List Word → ℕ → Result ℕ Refusal → Type 0
CutReads w old new words at result = CutGoesOn (λ cut on ws s. goes_onward on (drop at cut) (w ∷ ws) (seen s old)) words (λ s. seen s new) result

abbrev pub CutActs : (List Wanted → State → Step) → Word → Left → Left → List Word → ℕ → Result ℕ Refusal → Type 0
CutActs does w old new words at result = CutGoesOn (λ cut on ws s. after (goes_onward on (drop at cut)) w (does ws (seen s old))) words (λ s. seen s new) result

-- ---- if these classes are declared and these variables are in sight around

-- the classes of a state, and the variables in sight around what it reads, are those around a left side
pub record IsAround (a : Around) (s : State) : Type 0 where
  pub classes : s.classes ≡ a.classes.now
  pub values : values_around s.outer ≡ a.values.now

-- the same, if more of a pattern is expected afterwards
abbrev pub GoesToTermsAmong : Around → Way → List Word → Left → Result ℕ Refusal → Type 0
GoesToTermsAmong a from words new result = GoesToAmong (IsAround a) (Terms InPattern) from words (λ s. seen s new) result

abbrev pub ReadsAmong : Around → Wanted → Left → Left → List Word → ℕ → Result ℕ Refusal → Type 0
ReadsAmong a w old new words at result = GoesAmong (IsAround a) (λ more ws s. goes (drop at words ++ more) (w ∷ ws) (seen s old)) words (λ s. seen s new) result

abbrev pub ActsAmong : Around → (List Wanted → State → Step) → Word → Left → Left → List Word → ℕ → Result ℕ Refusal → Type 0
ActsAmong a does w old new words at result = GoesAmong (IsAround a) (λ more ws s. after (goes (drop at words ++ more)) w (does ws (seen s old))) words (λ s. seen s new) result

abbrev pub PeekGoesToTermsAmong : Around → CutWay → List Word → Left → Result ℕ Refusal → Type 0
PeekGoesToTermsAmong a from words new result = PeekGoesToAmong (IsAround a) (Terms InPattern) from words (λ s. seen s new) result

abbrev pub CutReadsAmong : Around → Wanted → Left → Left → List Word → ℕ → Result ℕ Refusal → Type 0
CutReadsAmong a w old new words at result = CutGoesAmong (IsAround a) (λ cut on ws s. goes_onward on (drop at cut) (w ∷ ws) (seen s old)) words (λ s. seen s new) result

abbrev pub CutActsAmong : Around → (List Wanted → State → Step) → Word → Left → Left → List Word → ℕ → Result ℕ Refusal → Type 0
CutActsAmong a does w old new words at result = CutGoesAmong (IsAround a) (λ cut on ws s. after (goes_onward on (drop at cut)) w (does ws (seen s old))) words (λ s. seen s new) result

-- The call did with the constant that the word is what the definition does, up to what is done with any constant; or
-- its variable is not in sight around.
abbrev pub BeginsConstant : {X : Type 0} → Around → Word → Left → Left → Result X Refusal → Type 0
BeginsConstant a w old new (Ok x) = (next : State → Step) (s : State) → IsAround a s → constant_by w.keyword next (seen s old) ≡ next (seen s new)
BeginsConstant a w old new (Err refusal.OutOfMemory) = Unit {0}
BeginsConstant a w old new (Err (refusal.At f None)) = ⊥
BeginsConstant a w old new (Err (refusal.At f (Some v))) = (v ≡ w) × ((next : State → Step) (s : State) → IsAround a s → constant_by w.keyword next (seen s old) ≡ Refuses f)

-- ---- words

-- a constant is no hole, or one for one of these variables
abbrev pub may_fill : List Named → Keyword → Bool
may_fill around (keyword.Hole variable at) = is_some (number_of variable around)
may_fill around _ = true

-- the word begins a place: a constant, a variable, a predicate, // or an opening brace
abbrev pub begins_place : List Named → Word → Bool
begins_place around w =
    is_left_brace w.kind
    || (opens_choice w.keyword
    || (is_some (pred_of w.keyword) || (is_literal w.keyword || ((is_some (constant_of w.kind w.name) && may_fill around w.keyword) || is_variable w.kind))))
