-- What a program text is read as.
use Rattle.std.specs.Prelude.{ℕ, List, [], ◌∷◌, length, Bool, ◌==◌, ◌||◌, nat_lt, if◌then◌else◌, Option, Some, None, Result, Ok, Err}
use Rattle.ops_base.specs.declared.elements.Class.{Class}
use Rattle.ops_base.specs.declared.rules.Rule.{Rule}
use Rattle.ops_base.specs.declared.commands.Command.{Command}
use Rattle.ops_base.specs.declared.endings.Fault.{Fault}
use Rattle.ops_base.specs.declared.endings.Fault.TheVariants as fault
use Rattle.ops_base.specs.Names.{Spellings, only_nil}
use Rattle.ops_base.specs.Valid.{longest_list}
use Rattle.ops_tokens.specs.declared.token.Token.{Token}
use Rattle.ops_tokens.specs.declared.token.LexFault.{LexFault}
use Rattle.ops_tokens.specs.declared.token.TheConstants.{BAD_BYTE, UNCLOSED, FRACTION_NUMBER, NUMBER_RANGE}
use Rattle.ops_grammar.specs.declared.words.Word.{Word}
use Rattle.ops_grammar.specs.declared.words.Keyword.{Keyword}
use Rattle.ops_grammar.specs.declared.words.Keyword.TheVariants as keyword
use Rattle.ops_grammar.specs.Words.{lexed, tokens_of, words_from, names_from}
use Rattle.ops_grammar.specs.Grammar.{Outcome, Forms, goes, nothing_read}

-- the parts of a program, and the names of its symbols
pub record Read : Type 0 where
  pub classes : List Class
  pub rules : List Rule
  pub templates : List Rule
  pub commands : List Command
  pub names : Spellings

-- a fault of a text, and the byte at which it stands
pub record Placed : Type 0 where
  pub fault : Fault
  pub at : ℕ

-- ---- faults of the bytes

-- the atom is no number of the language
abbrev pub is_numeric : LexFault → Bool
is_numeric f = (f.number == FRACTION_NUMBER) || (f.number == NUMBER_RANGE)

abbrev pub fault_of : LexFault → Fault
fault_of f =
    if f.number == BAD_BYTE then fault.BadByte
    else if f.number == UNCLOSED then fault.Unclosed
    else if f.number == FRACTION_NUMBER then fault.FractionNumber
    else fault.NumberRange

-- in a form
abbrev pub within_form : LexFault → Placed
within_form f = record { fault = fault_of f; at = f.at }

-- Between forms an atom is stray, whatever it spells.
abbrev pub between_forms : LexFault → Placed
between_forms f = record { fault = if is_numeric f then fault.Stray else fault_of f; at = f.at }

-- ---- the answer

-- the fault of a form that is open where the tokens end: the one that stops them, or that the text ends there
abbrev pub cut_off : ℕ → Option LexFault → Placed
cut_off end (Some f) = within_form f
cut_off end None = record { fault = fault.Unclosed; at = end }

-- the first byte of a hole's variable, or this one
abbrev pub variable_place : Keyword → ℕ → ℕ
variable_place (keyword.Hole variable at) first = at
variable_place _ first = first

-- the byte at which a word is refused: its first, but where the variable of a hole is bound nowhere that of the variable
abbrev pub stands_at : Fault → Word → ℕ
stands_at fault.UnboundVariable w = variable_place w.keyword w.first
stands_at f w = w.first

-- The program, or the fault with the least place: tokens are read up to the first that goes on to nothing, and what
-- stops the tokens counts where none does.
abbrev pub verdict : ℕ → Spellings → Option LexFault → Outcome → Result Read Placed
verdict end names stop (Err (f, Some w)) = Err (record { fault = f; at = stands_at f w })
verdict end names stop (Err (f, None)) = Err (cut_off end stop)
verdict end names (Some f) (Ok s) = Err (between_forms f)
verdict end names None (Ok s) = Ok (record { classes = s.classes; rules = s.rules; templates = s.templates; commands = s.commands; names = names })

abbrev pub read_tokens : List ℕ → Option LexFault → List Token → Result Read Placed
read_tokens text stop tokens =
    verdict (length text) (names_from text only_nil tokens) stop (goes (words_from text only_nil tokens) (Forms ∷ []) nothing_read)

-- the program that the grammar derives from the text, or the fault of the text
unfoldable pub reads : List ℕ → Result Read Placed
reads text = if nat_lt longest_list (length text) then Err (record { fault = fault.TooLong; at = 0 }) else read_tokens text (lexed text).stop (tokens_of text)
