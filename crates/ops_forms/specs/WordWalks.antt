-- How the code's walk over words follows the definition's walk.
use Rattle.std.specs.Prelude.{◌≡◌, ◌≤◌, List, [], ◌∷◌, ◌++◌, length, Some, None, Result, Ok, Err}
use Rattle.std.specs.Borrow.{Bor}
use Rattle.ops_base.specs.declared.endings.Fault.TheVariants as fault
use Rattle.ops_grammar.specs.declared.words.Word.{Word}
use Rattle.ops_grammar.specs.Grammar.{Use, Ends, Wanted, Terms, Closes, State, Step, Outcome, after, goes, ended}
use Rattle.ops_forms.specs.declared.refusals.Refusal.{Refusal}
use Rattle.ops_forms.specs.declared.refusals.Refusal.TheVariants as refusal

-- how it proceeds with more words after these and with more expected afterwards
abbrev pub Way : Type 0
Way = List Word → List Wanted → Outcome

-- The refusal is the one that this ends in: if it is at a word, whatever follows the word; if it is at no word, when no
-- word follows.
abbrev pub Fails : Way → Refusal → Type 0
Fails from refusal.OutOfMemory = Unit {0}
Fails from (refusal.At f None) = (ws : List Wanted) → from [] ws ≡ Err (f, None)
Fails from (refusal.At f (Some w)) = (more : List Word) (ws : List Wanted) → from more ws ≡ Err (f, Some w)

-- Either the walk from here is the walk over the rest from the new state; or it ends in the refusal. Memory may run
-- out.
abbrev pub Goes : Way → State → Result (Bor (List Word)) Refusal → Type 0
Goes from new (Ok rest) = (more : List Word) (ws : List Wanted) → from more ws ≡ goes (rest.now ++ more) ws new
Goes from new (Err e) = Fails from e

-- The same, if more of an element is expected afterwards.
abbrev pub GoesToTerms : Use → Way → State → Result (Bor (List Word)) Refusal → Type 0
GoesToTerms u from new (Ok rest) = (more : List Word) (ws : List Wanted) → from more ws ≡ goes (rest.now ++ more) (Terms u ∷ ws) new
GoesToTerms u from new (Err e) = Fails from e

-- the call read what was expected
abbrev pub Reads : Wanted → State → State → List Word → Result (Bor (List Word)) Refusal → Type 0
Reads w old new words result = Goes (λ more ws. goes (words ++ more) (w ∷ ws) old) new result

-- the call did this with a word that was already taken, and read on in the words after it
abbrev pub Acts : (List Wanted → State → Step) → Word → State → State → List Word → Result (Bor (List Word)) Refusal → Type 0
Acts does w old new rest result = Goes (λ more ws. after (goes (rest ++ more)) w (does ws old)) new result

-- the call read a closing bracket, whatever the bracket ends
abbrev pub ReadsClosing : List Word → Result (Bor (List Word)) Refusal → Type 0
ReadsClosing words (Ok rest) = (e : Ends) (more : List Word) (ws : List Wanted) (s : State) → goes (words ++ more) (Closes e ∷ ws) s ≡ goes (rest.now ++ more) ws (ended e s)
ReadsClosing words (Err refusal.OutOfMemory) = ⊥
ReadsClosing words (Err (refusal.At f None)) = (e : Ends) (ws : List Wanted) (s : State) → goes (words ++ []) (Closes e ∷ ws) s ≡ Err (f, None)
ReadsClosing words (Err (refusal.At f (Some w))) = (e : Ends) (more : List Word) (ws : List Wanted) (s : State) → goes (words ++ more) (Closes e ∷ ws) s ≡ Err (f, Some w)

-- the new state, unless memory ran out
abbrev pub Becomes : {X : Type 0} → State → State → Result X Refusal → Type 0
Becomes new expected (Ok x) = new ≡ expected
Becomes new expected (Err refusal.OutOfMemory) = Unit {0}
Becomes new expected (Err (refusal.At f word)) = ⊥

-- the first word, with those after it, or the refusal of a text that ends inside a form
abbrev pub Takes : List Word → Result (Word × Bor (List Word)) Refusal → Type 0
Takes words (Ok x) = words ≡ x.0 ∷ x.1.now
Takes words (Err e) = (words ≡ []) × (e ≡ refusal.At fault.Unclosed None)

abbrev pub IsWithin : List Word → Result (Bor (List Word)) Refusal → Type 0
IsWithin words (Ok rest) = length (rest.now) ≤ length words
IsWithin words (Err e) = Unit {0}
