-- What is reported about a text.
use Rattle.std.specs.Prelude.{◌≡◌, ℕ, List, [], ◌∷◌, length, Option, Some, None, Result, Ok, Err}
use Rattle.ops_base.specs.Names.{Spellings}
use Rattle.ops_tokens.specs.declared.token.LexFault.{LexFault}
use Rattle.ops_grammar.specs.Words.{Lexed, lexed_at, outside, joined, words_from, names_from}
use Rattle.ops_grammar.specs.Grammar.{State, Forms, goes}
use Rattle.ops_grammar.specs.Places.{line_of, column_of}
use Rattle.ops_grammar.specs.Reads.{Read, Placed, reads, verdict, cut_off, stands_at}
use Rattle.ops_grammar.specs.Standing.{Stands}
use Rattle.ops_forms.specs.Forms.{IsForm, none_by}
use Rattle.ops_forms.specs.declared.form.Form.{Form}
use Rattle.ops_forms.specs.declared.form.FormEnd.{FormEnd}
use Rattle.ops_forms.specs.declared.form.FormEnd.TheVariants as end
use Rattle.ops_forms.specs.declared.refusals.Refusal.{Refusal}
use Rattle.ops_forms.specs.declared.refusals.Refusal.TheVariants as refused
use Rattle.ops_check.specs.declared.draft.Draft.{Draft}
use Rattle.ops_check.specs.declared.faults.ProgramFault.{ProgramFault}
use Rattle.ops_check.specs.declared.faults.ProgramFault.TheVariants as refusal
use Rattle.ops_check.specs.declared.faults.TextFault.{TextFault}
use Rattle.ops_check.specs.declared.faults.TextFault.TheVariants as answer

-- the text has this fault, at this line and column
abbrev pub IsRefusal : List ℕ → ProgramFault → Type 0
IsRefusal text refusal.OutOfMemory = Unit {0}
IsRefusal text (refusal.At f line column) =
    (at : ℕ) × (reads text ≡ Err (record { fault = f; at = at })) × (line ≡ line_of text at) × (column ≡ column_of text at)

-- the fault is at this place in the text, at this line and column
abbrev pub IsStanding : List ℕ → ProgramFault → Type 0
IsStanding text refusal.OutOfMemory = Unit {0}
IsStanding text (refusal.At f line column) =
    (at : ℕ) × Stands text (record { fault = f; at = at }) × (line ≡ line_of text at) × (column ≡ column_of text at)

-- the program that a draft holds, with these names
abbrev pub read_of : Draft → Spellings → Read
read_of d names = record { classes = d.classes; rules = d.rules; templates = d.templates.items; commands = d.commands; names = names }

-- if the text is read as `read`, this may be the result
abbrev pub IsAnswer : Result Read Placed → Result (Draft × Spellings) TextFault → Type 0
IsAnswer read (Ok x) = read ≡ Ok (read_of x.0 x.1)
IsAnswer read (Err (answer.At f at)) = read ≡ Err (record { fault = f; at = at })
IsAnswer read (Err answer.OutOfMemory) = Unit {0}

abbrev pub placed : Placed → TextFault
placed p = answer.At p.fault p.at

-- what stops the tokens after a form
abbrev pub stop_of : FormEnd → Option LexFault
stop_of end.Closed = None
stop_of (end.Fault f) = Some f
stop_of end.Text = None

-- the place of a refusal in a text of this length
abbrev pub fault_at : Refusal → FormEnd → ℕ → TextFault
fault_at refused.OutOfMemory e length = answer.OutOfMemory
fault_at (refused.At f None) e length = placed (cut_off length (stop_of e))
fault_at (refused.At f (Some w)) e length = answer.At f (stands_at f w)

abbrev pub rest_by : List ℕ → Spellings → State → Lexed → Result Read Placed
rest_by text names s l =
    let tokens = joined text outside l.tokens in
    verdict (length text) (names_from text names tokens) l.stop (goes (words_from text names tokens) (Forms ∷ []) s)

-- what the text is read as from this place on, after this was read before
abbrev pub rest_of : List ℕ → Spellings → ℕ → State → Result Read Placed
rest_of text names from s = rest_by text names s (lexed_at text from)

-- what comes next in the text: no form, a form, or the fault that the text has
abbrev pub Comes : List ℕ → ℕ → Result (Option Form) TextFault → Type 0
Comes text from (Ok None) = lexed_at text from ≡ none_by None
Comes text from (Ok (Some form)) = IsForm text from form
Comes text from (Err (answer.At f at)) = (names : Spellings) (s : State) → rest_of text names from s ≡ Err (record { fault = f; at = at })
Comes text from (Err answer.OutOfMemory) = Unit {0}

-- what was read as `old` is read as `new`, or as the fault
abbrev pub Continues : Result Read Placed → Result Read Placed → Result Unit TextFault → Type 0
Continues old new (Ok x) = old ≡ new
Continues old new (Err (answer.At f at)) = old ≡ Err (record { fault = f; at = at })
Continues old new (Err answer.OutOfMemory) = Unit {0}
