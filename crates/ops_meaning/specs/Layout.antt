-- What is printed.
use Rattle.std.specs.Prelude.{ℕ, suc, ◌-◌, List, [], ◌∷◌, ◌++◌, length, drop, replicate, Bool, true, false, ◌==◌, ◌&&◌, nat_le, if◌then◌else◌, Some, Ok, slice_get, unwrap_or, option_map, codes, decimal}
use Rattle.std.specs.Fmt.{signed_decimal}
use Rattle.ops_base.specs.declared.values.Value.{Value}
use Rattle.ops_base.specs.declared.values.Value.TheVariants.{Symbol, Whole}
use Rattle.ops_base.specs.declared.values.Sym.{Sym}
use Rattle.ops_base.specs.declared.elements.Class.{Class}
use Rattle.ops_base.specs.declared.elements.Element.{Element}
use Rattle.ops_base.specs.declared.commands.Strategy.{Strategy}
use Rattle.ops_base.specs.declared.commands.Strategy.TheVariants.{Lex, Mea}
use Rattle.ops_base.specs.declared.rules.Rule.{Rule}
use Rattle.ops_base.specs.declared.rules.Inst.{Inst}
use Rattle.ops_base.specs.declared.endings.ActKind.{ActKind}
use Rattle.ops_base.specs.declared.endings.ActKind.TheVariants as act_fault
use Rattle.ops_base.specs.declared.endings.Ending.{Ending}
use Rattle.ops_base.specs.declared.endings.Ending.TheVariants as ending
use Rattle.ops_base.specs.declared.endings.Fault.{Fault}
use Rattle.ops_base.specs.Valid.{class_of, is_vector}
use Rattle.ops_base.specs.Values.{nil, are_same}
use Rattle.ops_base.specs.WorkingMemory.{field_of}
use Rattle.ops_base.specs.Names.{Spellings, spelling_of}
use Rattle.ops_base.specs.FaultTexts.{fault_text}
use Rattle.ops_io.specs.Output.{column_after}
use Rattle.ops_tokens.specs.declared.token.TokenKind.{TokenKind}
use Rattle.ops_tokens.specs.declared.token.TokenKind.TheVariants as kind
use Rattle.ops_tokens.specs.Tokens.{Next, token_at}

-- a value as `write` prints it: a symbol by its spelling, a number in decimal
abbrev pub value_text : Spellings → Value → List ℕ
value_text names (Symbol s) = spelling_of names s
value_text names (Whole n) = signed_decimal n

-- ---- write

-- how a value stands after the item before it: one space apart, but at column 0; close to it, after a tab; or
-- right-justified, so that it ends this many bytes further
pub data Lead : Type 0 where
  Apart : Lead
  Close : Lead
  RightIn : (width : ℕ) → Lead

abbrev pub spaces : ℕ → List ℕ
spaces n = replicate n 32

-- the spaces before a value of this many bytes
abbrev pub lead_bytes : Lead → ℕ → ℕ → List ℕ
lead_bytes Apart column long = if column == 0 then [] else 32 ∷ []
lead_bytes Close column long = []
lead_bytes (RightIn width) column long = spaces (width - long)

abbrev pub value_bytes : Spellings → Lead → ℕ → Value → List ℕ
value_bytes names lead column v = lead_bytes lead column (length (value_text names v)) ++ value_text names v

-- values, of which those after the first stand apart
abbrev pub values_bytes : Spellings → Lead → ℕ → List Value → List ℕ
values_bytes names lead column [] = []
values_bytes names lead column (v ∷ vs) =
    value_bytes names lead column v ++ values_bytes names Apart (column_after column (value_bytes names lead column v)) vs

-- To the column before this one, on a line further where that is reached already.
abbrev pub tab_bytes : ℕ → ℕ → List ℕ
tab_bytes n column = if nat_le n column then 10 ∷ spaces (n - 1) else spaces (n - 1 - column)

-- ---- lines

-- an LF where the column is not 0
abbrev pub fresh_line : ℕ → List ℕ
fresh_line column = if column == 0 then [] else 10 ∷ []

-- a line of its own
abbrev pub line_at : ℕ → List ℕ → List ℕ
line_at column text = fresh_line column ++ (text ++ 10 ∷ [])

-- lines of their own, one after another
abbrev pub lines_at : ℕ → List (List ℕ) → List ℕ
lines_at column [] = []
lines_at column (l ∷ ls) = line_at column l ++ lines_at 0 ls

-- ---- symbols

abbrev pub is_symbol : TokenKind → Bool
is_symbol kind.Symbol = true
is_symbol _ = false

-- one token, a plain symbol, that ends there
abbrev pub is_plain_symbol_to : ℕ → Next → Bool
is_plain_symbol_to past (Ok (Some t)) = is_symbol t.kind && (t.first == 0) && (t.past == past)
is_plain_symbol_to past _ = false

-- the bytes are a plain symbol
abbrev pub is_plain_symbol : List ℕ → Bool
is_plain_symbol s = is_plain_symbol_to (length s) (token_at s 0)

abbrev pub barred : List ℕ → List ℕ
barred s = 124 ∷ s ++ 124 ∷ []

-- A symbol, everywhere but in `write`: plain where its spelling is a plain symbol, and otherwise between bars.
abbrev pub symbol_text : Spellings → Sym → List ℕ
symbol_text names sym = if is_plain_symbol (spelling_of names sym) then spelling_of names sym else barred (spelling_of names sym)

-- ---- elements

-- a value, everywhere but in `write`
abbrev pub shown_value : Spellings → Value → List ℕ
shown_value names (Symbol s) = symbol_text names s
shown_value names (Whole n) = signed_decimal n

-- values, each after one space
abbrev pub shown_values : Spellings → List Value → List ℕ
shown_values names [] = []
shown_values names (v ∷ vs) = 32 ∷ shown_value names v ++ shown_values names vs

-- an attribute with its values, where it has any
abbrev pub attribute_text : Spellings → Sym → List Value → List ℕ
attribute_text names a [] = []
attribute_text names a (v ∷ vs) = codes " ^" ++ symbol_text names a ++ shown_values names (v ∷ vs)

-- the value of a scalar attribute, but nil
abbrev pub value_shown : Value → List Value
value_shown v = if are_same v nil then [] else v ∷ []

-- the values that are shown of the attribute with this number: of the vector attribute all that it has
abbrev pub values_shown : Class → Element → ℕ → List Value
values_shown c e f = if is_vector c f then drop f e.fields else value_shown (field_of e f)

-- these attributes of the class, of which the first has this number
abbrev pub attributes_text : Spellings → Class → Element → ℕ → List Sym → List ℕ
attributes_text names c e f [] = []
attributes_text names c e f (a ∷ as_) = attribute_text names a (values_shown c e f) ++ attributes_text names c e (suc f) as_

-- (CLASS ^attr value ^attr value)
abbrev pub element_text : Spellings → List Class → Element → List ℕ
element_text names classes e =
    let c = class_of classes e.class in codes "(" ++ symbol_text names c.name ++ attributes_text names c e 0 c.attrs ++ codes ")"

-- TAG: ELEMENT
abbrev pub tagged_text : Spellings → List Class → Element → List ℕ
tagged_text names classes e = decimal e.tag ++ codes ": " ++ element_text names classes e

-- ---- instantiations

abbrev pub rule_name : List Rule → ℕ → Sym
rule_name rules n = unwrap_or (option_map (λ r. r.name) (slice_get rules n)) (record { 0 = 0 })

-- tags, each after one space
abbrev pub tags_text : List ℕ → List ℕ
tags_text [] = []
tags_text (t ∷ ts) = 32 ∷ decimal t ++ tags_text ts

-- NAME TAG TAG
abbrev pub inst_text : Spellings → List Rule → Inst → List ℕ
inst_text names rules i = symbol_text names (rule_name rules i.rule) ++ tags_text i.tags

-- NAME K: TAG TAG
abbrev pub partial_text : Spellings → Sym → ℕ → List ℕ → List ℕ
partial_text names name k tags = symbol_text names name ++ codes " " ++ decimal k ++ codes ":" ++ tags_text tags

-- ---- the trace

-- the line of a firing with this number, where firings are traced
abbrev pub firing_bytes : ℕ → ℕ → Spellings → List Rule → ℕ → Inst → List ℕ
firing_bytes watch column names rules firing i =
    if nat_le 1 watch then line_at column (decimal firing ++ codes ". " ++ inst_text names rules i) else []

-- the lines of changes, where elements are traced
abbrev pub traced : ℕ → ℕ → List (List ℕ) → List ℕ
traced watch column lines = if nat_le 2 watch then lines_at column lines else []

-- ---- what a command tells

abbrev pub strategy_line : Strategy → List ℕ
strategy_line Lex = codes "strategy lex"
strategy_line Mea = codes "strategy mea"

abbrev pub level_line : ℕ → List ℕ
level_line n = codes "watch " ++ decimal n

-- a production has a break
abbrev pub break_line : Spellings → Sym → List ℕ
break_line names name = codes "break " ++ symbol_text names name

-- there is no such production
abbrev pub unknown_line : Spellings → Sym → List ℕ
unknown_line names name = codes "no production " ++ symbol_text names name

-- ---- how a run ends

abbrev pub halted_line : List ℕ
halted_line = codes "end -- explicit halt"

abbrev pub no_more_line : List ℕ
no_more_line = codes "end -- no production true"

abbrev pub counted_line : List ℕ
counted_line = codes "break -- run count"

-- fewer firings are kept than are to be undone: this many
abbrev pub kept_line : ℕ → List ℕ
kept_line n = codes "back -- " ++ decimal n ++ codes " firings kept"

abbrev pub broken_line : Spellings → Sym → List ℕ
broken_line names name = codes "break -- production " ++ symbol_text names name

-- ---- endings

abbrev pub act_fault_text : ActKind → List ℕ
act_fault_text act_fault.NotNumber = codes "not a number"
act_fault_text act_fault.ZeroDivisor = codes "zero divisor"
act_fault_text act_fault.Overflow = codes "overflow"
act_fault_text act_fault.TooManyFields = codes "too many fields"
act_fault_text act_fault.InputTooLong = codes "input too long"

abbrev pub act_fault_line : Spellings → ℕ → Sym → ℕ → ActKind → List ℕ
act_fault_line names firing name action k =
    codes "ops: firing " ++ decimal firing ++ codes ": " ++ symbol_text names name ++ codes ": action " ++ decimal action
    ++ codes ": " ++ act_fault_text k

-- the line that tells an ending
abbrev pub last_line : Spellings → ℕ → Ending → List ℕ
last_line names column (ending.Act firing rule name action k) = line_at column (act_fault_line names firing name action k)
last_line names column (ending.Limit firings) =
    line_at column (codes "ops: limit of " ++ decimal firings ++ codes " firings reached")
last_line names column ending.ReadFault = line_at column (codes "ops: cannot read the input")
last_line names column (ending.Done firings elements last) = []
last_line names column ending.WriteFault = []
last_line names column ending.OutOfMemory = []

abbrev pub unread_line : List ℕ → List ℕ
unread_line name = codes "ops: cannot read " ++ name ++ 10 ∷ []

-- ---- faults of a text

-- the line of a fault that stands at this line and column
abbrev pub fault_line : Fault → ℕ → ℕ → List ℕ
fault_line f line column = codes "ops: " ++ decimal line ++ codes ":" ++ decimal column ++ codes ": " ++ fault_text f ++ 10 ∷ []
