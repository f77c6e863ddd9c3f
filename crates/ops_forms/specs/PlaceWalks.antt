-- How a walk by places in words follows the definition's walk, in every state of a kind.
use Rattle.std.specs.Prelude.{◌≡◌, ℕ, ◌+◌, ◌<◌, ◌≤◌, List, [], ◌∷◌, ◌++◌, take, drop, length, Some, None, Result, Ok, Err}
use Rattle.ops_base.specs.declared.endings.Fault.TheVariants as fault
use Rattle.ops_tokens.specs.declared.token.Token.{Token}
use Rattle.ops_grammar.specs.declared.words.Word.{Word}
use Rattle.ops_grammar.specs.Words.{words_from}
use Rattle.ops_grammar.specs.Reads.{stands_at}
use Rattle.ops_grammar.specs.Grammar.{Ends, Wanted, Closes, State, Outcome, after, step, goes, ended}
use Rattle.ops_forms.specs.declared.refusals.Refusal.{Refusal}
use Rattle.ops_forms.specs.declared.refusals.Refusal.TheVariants as refusal
use Rattle.ops_forms.specs.declared.refusals.ReadFault.{ReadFault}
use Rattle.ops_forms.specs.declared.refusals.ReadFault.TheVariants as answer
use Rattle.ops_forms.specs.declared.scope.Scope.{Scope}

-- how it proceeds with more words after these, with more expected afterwards, and in that state
abbrev pub Way : Type 0
Way = List Word → List Wanted → State → Outcome

-- The refusal is the one that this ends in: if it is at a word, whatever follows the word; if it is at no word, when no
-- word follows.
abbrev pub Fails : Way → Refusal → Type 0
Fails from refusal.OutOfMemory = Unit {0}
Fails from (refusal.At f None) = (ws : List Wanted) (s : State) → from [] ws s ≡ Err (f, None)
Fails from (refusal.At f (Some w)) = (more : List Word) (ws : List Wanted) (s : State) → from more ws s ≡ Err (f, Some w)

-- Either the walk from here is the walk over the words from the next place on, from the new state; or it ends in the
-- refusal. Memory may run out.
abbrev pub GoesOn : Way → List Word → (State → State) → Result ℕ Refusal → Type 0
GoesOn from words new (Ok next) = (more : List Word) (ws : List Wanted) (s : State) → from more ws s ≡ goes (drop next words ++ more) ws (new s)
GoesOn from words new (Err e) = Fails from e

-- ---- in each state that has a property

abbrev pub FailsAmong : (State → Type 0) → Way → Refusal → Type 0
FailsAmong holds from refusal.OutOfMemory = Unit {0}
FailsAmong holds from (refusal.At f None) = (ws : List Wanted) (s : State) → holds s → from [] ws s ≡ Err (f, None)
FailsAmong holds from (refusal.At f (Some w)) = (more : List Word) (ws : List Wanted) (s : State) → holds s → from more ws s ≡ Err (f, Some w)

abbrev pub GoesAmong : (State → Type 0) → Way → List Word → (State → State) → Result ℕ Refusal → Type 0
GoesAmong holds from words new (Ok next) = (more : List Word) (ws : List Wanted) (s : State) → holds s → from more ws s ≡ goes (drop next words ++ more) ws (new s)
GoesAmong holds from words new (Err e) = FailsAmong holds from e

-- the same, if that is expected afterwards
abbrev pub GoesToAmong : (State → Type 0) → Wanted → Way → List Word → (State → State) → Result ℕ Refusal → Type 0
GoesToAmong holds w from words new (Ok next) = (more : List Word) (ws : List Wanted) (s : State) → holds s → from more ws s ≡ goes (drop next words ++ more) (w ∷ ws) (new s)
GoesToAmong holds w from words new (Err e) = FailsAmong holds from e

-- ---- if the words are cut off

-- what is done where the words end, given what is expected there and the state
abbrev pub Onward : Type 0
Onward = List Wanted → State → Outcome

-- The walk over the words, starting with what is expected, and then that.
unfoldable pub goes_onward : Onward → List Word → List Wanted → State → Outcome
goes_onward on [] ws s = on ws s
goes_onward on (w ∷ words) ws s = after (goes_onward on words) w (step w ws s)

-- how it proceeds in these words and then onward, if that is expected and in that state
abbrev pub CutWay : Type 0
CutWay = List Word → Onward → List Wanted → State → Outcome

-- A walk examines no word after those that it takes. Cut the words off anywhere after them: whatever is done where they
-- end, the walk continues from there to the same state.
abbrev pub CutGoesOn : CutWay → List Word → (State → State) → Result ℕ Refusal → Type 0
CutGoesOn from words new (Ok next) = (n : ℕ) → next ≤ n → (on : Onward) (ws : List Wanted) (s : State) → from (take n words) on ws s ≡ goes_onward on (drop next (take n words)) ws (new s)
CutGoesOn from words new (Err e) = Unit {0}

-- the same, in each state that has a property
abbrev pub CutGoesAmong : (State → Type 0) → CutWay → List Word → (State → State) → Result ℕ Refusal → Type 0
CutGoesAmong holds from words new (Ok next) = (n : ℕ) → next ≤ n → (on : Onward) (ws : List Wanted) (s : State) → holds s → from (take n words) on ws s ≡ goes_onward on (drop next (take n words)) ws (new s)
CutGoesAmong holds from words new (Err e) = Unit {0}

-- the same, if that is expected afterwards
abbrev pub CutGoesToAmong : (State → Type 0) → Wanted → CutWay → List Word → (State → State) → Result ℕ Refusal → Type 0
CutGoesToAmong holds w from words new (Ok next) = (n : ℕ) → next ≤ n → (on : Onward) (ws : List Wanted) (s : State) → holds s → from (take n words) on ws s ≡ goes_onward on (drop next (take n words)) (w ∷ ws) (new s)
CutGoesToAmong holds w from words new (Err e) = Unit {0}

-- The same, if the walk also examined the word at the next place but did not take it.
abbrev pub PeekGoesToAmong : (State → Type 0) → Wanted → CutWay → List Word → (State → State) → Result ℕ Refusal → Type 0
PeekGoesToAmong holds w from words new (Ok next) = (n : ℕ) → next < n → (on : Onward) (ws : List Wanted) (s : State) → holds s → from (take n words) on ws s ≡ goes_onward on (drop next (take n words)) (w ∷ ws) (new s)
PeekGoesToAmong holds w from words new (Err e) = Unit {0}

-- ---- words

-- The word at a place, and the place after it, even if the words are cut off after it; or the refusal of a text that
-- ends inside a form.
abbrev pub Takes : List Word → ℕ → Result (Word × ℕ) Refusal → Type 0
Takes words at (Ok x) = (drop at words ≡ x.0 ∷ drop x.1 words) × (x.1 ≡ at + 1) × (x.1 ≤ length words) × ((n : ℕ) → at < n → drop at (take n words) ≡ x.0 ∷ drop x.1 (take n words))
Takes words at (Err e) = (drop at words ≡ []) × (e ≡ refusal.At fault.Unclosed None)

-- the call read a closing bracket, whatever the bracket ends
abbrev pub ReadsClosing : List Word → ℕ → Result ℕ Refusal → Type 0
ReadsClosing words at (Ok next) = (e : Ends) (more : List Word) (ws : List Wanted) (s : State) → goes (drop at words ++ more) (Closes e ∷ ws) s ≡ goes (drop next words ++ more) ws (ended e s)
ReadsClosing words at (Err refusal.OutOfMemory) = ⊥
ReadsClosing words at (Err (refusal.At f None)) = (e : Ends) (ws : List Wanted) (s : State) → goes (drop at words ++ []) (Closes e ∷ ws) s ≡ Err (f, None)
ReadsClosing words at (Err (refusal.At f (Some w))) = (e : Ends) (more : List Word) (ws : List Wanted) (s : State) → goes (drop at words ++ more) (Closes e ∷ ws) s ≡ Err (f, Some w)

-- the same, if the words are cut off after the bracket
abbrev pub CutReadsClosing : List Word → ℕ → Result ℕ Refusal → Type 0
CutReadsClosing words at (Ok next) = (n : ℕ) → next ≤ n → (e : Ends) (on : Onward) (ws : List Wanted) (s : State) → goes_onward on (drop at (take n words)) (Closes e ∷ ws) s ≡ goes_onward on (drop next (take n words)) ws (ended e s)
CutReadsClosing words at (Err e) = Unit {0}

-- if a refusal has no word, its fault is an open form
abbrev pub IsPlaced : Refusal → Type 0
IsPlaced refusal.OutOfMemory = Unit {0}
IsPlaced (refusal.At f None) = f ≡ fault.Unclosed
IsPlaced (refusal.At f (Some w)) = Unit {0}

-- the next place is not before that one; or the result is such a refusal
abbrev pub IsFrom : ℕ → Result ℕ Refusal → Type 0
IsFrom at (Ok next) = at ≤ next
IsFrom at (Err e) = IsPlaced e

-- these words come right after a word of that kind in those
pub record AreBehind (is_it : Word → Type 0) (words rest : List Word) : Type 0 where
  pub before : List Word
  pub last : Word
  pub split : words ≡ before ++ last ∷ rest
  pub is : is_it last

-- a word of that kind is right before the next place
pub record IsBehind (is_it : Word → Type 0) (words : List Word) (next : ℕ) : Type 0 where
  pub before : ℕ
  pub last : Word
  pub there : drop before words ≡ last ∷ drop next words
  pub is : is_it last
  pub within : next ≤ length words

-- ---- of tokens

-- the words of the tokens from a place on, in the text and with the names of a scope
abbrev pub words_of_scope : Scope → List Token → ℕ → List Word
words_of_scope scope tokens from = words_from scope.text.items scope.names (drop from tokens)

-- the fault of a refusal, if the tokens end at that byte
abbrev pub fault_of : Refusal → ℕ → ReadFault
fault_of refusal.OutOfMemory past = answer.OutOfMemory
fault_of (refusal.At f (Some w)) past = answer.At f (stands_at f w)
fault_of (refusal.At f None) past = answer.At f past
