-- How a fault stands in a text.
use Rattle.std.specs.Prelude.{◌≡◌, ℕ, ◌<◌, ◌≤◌, ◌⊎◌, List, [], ◌∷◌, ◌++◌, length, true, false, Some, None, Ok, Err}
use Rattle.ops_base.specs.declared.endings.Fault.{Fault}
use Rattle.ops_base.specs.declared.endings.Fault.TheVariants as fault
use Rattle.ops_base.specs.declared.elements.Class.{Class}
use Rattle.ops_base.specs.declared.rules.Rule.{Rule}
use Rattle.ops_base.specs.declared.commands.Command.{Command}
use Rattle.ops_base.specs.Names.{only_nil}
use Rattle.ops_base.specs.Valid.{longest_list}
use Rattle.ops_tokens.specs.declared.token.LexFault.{LexFault}
use Rattle.ops_grammar.specs.declared.words.Word.{Word}
use Rattle.ops_grammar.specs.Words.{lexed, tokens_of, words_from}
use Rattle.ops_grammar.specs.Grammar.{Wanted, Forms, State, Outcome, goes, nothing_read}
use Rattle.ops_grammar.specs.Derivation.{IsText, is_no_form}
use Rattle.ops_grammar.specs.Reads.{Placed, stands_at, cut_off, between_forms}
use Rattle.ops_grammar.specs.Reasons.{fault_number, Because}

abbrev pub words_of : List ℕ → List Word
words_of text = words_from text only_nil (tokens_of text)

-- what words are read as
abbrev pub outcome_of : List Word → Outcome
outcome_of words = goes words (Forms ∷ []) nothing_read

-- none of the words is refused, though a form may be open after them
abbrev pub IsTaken : Outcome → Type 0
IsTaken (Ok s) = Unit {0}
IsTaken (Err (f, None)) = Unit {0}
IsTaken (Err (f, Some w)) = ⊥

-- these words lead to where this is wanted and this was read
abbrev pub LeadTo : List Word → List Wanted → State → Type 0
LeadTo words ws s = (more : List Word) → outcome_of (words ++ more) ≡ goes more ws s

-- no fault with a lower number has its reason here, but those of a word that continues no form
abbrev pub IsLowest : Fault → Word → List Wanted → State → Type 0
IsLowest f w ws s = (g : Fault) → is_no_form g ≡ false → Because g w ws s → fault_number f ≤ fault_number g

-- The fault stands at this word after those: they are taken, and the word is refused with it whatever stands after it,
-- for the reason that the fault names, and it is the lowest that has its reason there. Those before it go on to a text
-- of the grammar. With the word they do so too, but where the fault says that it continues no form; there they don't.
pub record StandsAt (f : Fault) (before : List Word) (w : Word) : Type 0 where
  pub taken : IsTaken (outcome_of before)
  pub refused : (more : List Word) → outcome_of (before ++ w ∷ more) ≡ Err (f, Some w)
  pub because : (ws : List Wanted) × (s : State) × LeadTo before ws s × Because f w ws s × IsLowest f w ws s
  pub goes_on : (more : List Word) × IsText (before ++ more)
  pub in_a_form : is_no_form f ≡ false → (more : List Word) × IsText (before ++ w ∷ more)
  pub in_no_form : is_no_form f ≡ true → (more : List Word) → ¬ IsText (before ++ w ∷ more)

-- the fault stands at a word of the text
pub record StandsAtWord (text : List ℕ) (p : Placed) : Type 0 where
  pub before : List Word
  pub word : Word
  pub behind : List Word
  pub words : words_of text ≡ before ++ word ∷ behind
  pub place : p.at ≡ stands_at p.fault word
  pub stands : StandsAt p.fault before word

-- The fault stands where the words end: all of them are taken. Where they are a text, what stops the tokens stands between
-- forms. Where they are none, a form is open, and the fault is what stops the tokens, or that the text ends.
pub record StandsAtEnd (text : List ℕ) (p : Placed) : Type 0 where
  pub all_taken : IsTaken (outcome_of (words_of text))
  pub goes_on : (more : List Word) × IsText (words_of text ++ more)
  pub in_a_form : ¬ IsText (words_of text) → p ≡ cut_off (length text) (lexed text).stop
  pub between : IsText (words_of text) → (f : LexFault) × ((lexed text).stop ≡ Some f) × (p ≡ between_forms f)

abbrev pub Stands : List ℕ → Placed → Type 0
Stands text p = StandsAtWord text p ⊎ StandsAtEnd text p ⊎ ((longest_list < length text) × (p ≡ record { fault = fault.TooLong; at = 0 }))

-- the words are read, or one of them is refused in a form
abbrev pub IsReadOrInForm : Outcome → Type 0
IsReadOrInForm (Ok s) = Unit {0}
IsReadOrInForm (Err (f, Some w)) = is_no_form f ≡ false
IsReadOrInForm (Err (f, None)) = ⊥

-- the words are read as this program
pub record AreRead (words : List Word) (classes : List Class) (rules templates : List Rule) (commands : List Command) : Type 0 where
  pub state : State
  pub outcome : outcome_of words ≡ Ok state
  pub classes_are : state.classes ≡ classes
  pub rules_are : state.rules ≡ rules
  pub templates_are : state.templates ≡ templates
  pub commands_are : state.commands ≡ commands
