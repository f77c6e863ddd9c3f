-- The words of a text.
use Rattle.std.specs.Prelude.{ℕ, zero, suc, ◌-◌, ◌==◌, ◌&&◌, not, nat_le, List, [], ◌∷◌, length, reverse, take_while, slice_range, slice_index, codes, bytes_eq, Bool, true, false, if◌then◌else◌, Option, Some, None, Ok, Err}
use Rattle.ops_base.specs.Names.{Spellings, place_of, with_spelling}
use Rattle.ops_tokens.specs.declared.token.Token.{Token}
use Rattle.ops_tokens.specs.declared.token.TokenKind.{TokenKind}
use Rattle.ops_tokens.specs.declared.token.TokenKind.TheVariants as kind
use Rattle.ops_tokens.specs.declared.token.LexFault.{LexFault}
use Rattle.ops_tokens.specs.Bytes.{is_white, is_bar}
use Rattle.ops_tokens.specs.Tokens.{Next, token_at, is_quoted, spelling}
use Rattle.ops_grammar.specs.declared.words.Word.{Word}
use Rattle.ops_grammar.specs.declared.words.Keyword.{Keyword}
use Rattle.ops_grammar.specs.declared.words.Region.{Region}
use Rattle.ops_grammar.specs.declared.words.Within.{Within}
use Rattle.ops_grammar.specs.declared.words.Within.TheVariants as within
use Rattle.ops_grammar.specs.declared.words.Keyword.TheVariants as keyword
use Rattle.ops_grammar.specs.Grammar.{is_variable}

-- the keyword of a plain symbol that stands in a command alone
abbrev pub keyword_of_command : List ℕ → Keyword
keyword_of_command s =
    if bytes_eq s (codes "run") then keyword.Run
    else if bytes_eq s (codes "strategy") then keyword.Strategy
    else if bytes_eq s (codes "lex") then keyword.Lex
    else if bytes_eq s (codes "mea") then keyword.Mea
    else if bytes_eq s (codes "wm") then keyword.Wm
    else if bytes_eq s (codes "ppwm") then keyword.Ppwm
    else if bytes_eq s (codes "cs") then keyword.Cs
    else if bytes_eq s (codes "pm") then keyword.Pm
    else if bytes_eq s (codes "watch") then keyword.Watch
    else if bytes_eq s (codes "pbreak") then keyword.Pbreak
    else if bytes_eq s (codes "excise") then keyword.Excise
    else if bytes_eq s (codes "matches") then keyword.Matches
    else if bytes_eq s (codes "back") then keyword.Back
    else if bytes_eq s (codes "exit") then keyword.Exit
    else keyword.Other

-- the keyword of a plain symbol that names a function or an operation
abbrev pub keyword_of_function : List ℕ → Keyword
keyword_of_function s =
    if bytes_eq s (codes "compute") then keyword.Compute
    else if bytes_eq s (codes "genatom") then keyword.Genatom
    else if bytes_eq s (codes "accept") then keyword.Accept
    else if bytes_eq s (codes "+") then keyword.Plus
    else if bytes_eq s (codes "*") then keyword.Times
    else if bytes_eq s (codes "\\\\") then keyword.Remainder
    else if bytes_eq s (codes "\\") then keyword.Remainder
    else keyword_of_command s

-- the keyword of a plain symbol
abbrev pub keyword_of_symbol : List ℕ → Keyword
keyword_of_symbol s =
    if bytes_eq s (codes "literalize") then keyword.Literalize
    else if bytes_eq s (codes "vector-attribute") then keyword.VectorAttribute
    else if bytes_eq s (codes "p") then keyword.Production
    else if bytes_eq s (codes "make") then keyword.Make
    else if bytes_eq s (codes "remove") then keyword.Remove
    else if bytes_eq s (codes "modify") then keyword.Modify
    else if bytes_eq s (codes "write") then keyword.Write
    else if bytes_eq s (codes "bind") then keyword.Bind
    else if bytes_eq s (codes "cbind") then keyword.Cbind
    else if bytes_eq s (codes "crlf") then keyword.Crlf
    else if bytes_eq s (codes "tabto") then keyword.Tabto
    else if bytes_eq s (codes "rjust") then keyword.Rjust
    else if bytes_eq s (codes "substr") then keyword.Substr
    else if bytes_eq s (codes "inf") then keyword.Inf
    else if bytes_eq s (codes "halt") then keyword.Halt
    else if bytes_eq s (codes "build") then keyword.Build
    else keyword_of_function s

-- the keyword of an operator
abbrev pub keyword_of_operator : List ℕ → Keyword
keyword_of_operator s =
    if bytes_eq s (codes "-->") then keyword.Arrow
    else if bytes_eq s (codes "=") then keyword.Equal
    else if bytes_eq s (codes "<>") then keyword.NotEqual
    else if bytes_eq s (codes "<") then keyword.Less
    else if bytes_eq s (codes "<=") then keyword.AtMost
    else if bytes_eq s (codes ">") then keyword.Greater
    else if bytes_eq s (codes ">=") then keyword.AtLeast
    else if bytes_eq s (codes "<=>") then keyword.SameKind
    else if bytes_eq s (codes "<<") then keyword.OpenChoice
    else if bytes_eq s (codes ">>") then keyword.CloseChoice
    else if bytes_eq s (codes "//") then keyword.Literal
    else if bytes_eq s (codes "-") then keyword.Minus
    else keyword.Other

abbrev pub keyword_of : TokenKind → List ℕ → Keyword
keyword_of kind.Symbol s = keyword_of_symbol s
keyword_of kind.Operator s = keyword_of_operator s
keyword_of _ s = keyword.Other

-- ---- tokens that are one inside a `build`

-- in no form
abbrev pub outside : Region
outside = record { depth = 0; opened = false; within = within.Front }

-- after a word that follows an opening bracket, where this many are open
abbrev pub begun : Keyword → ℕ → Within → Within
begun keyword.Build depth within.Actions = if depth == 2 then within.Build else within.Actions
begun keyword.Compute depth within.Built = within.Compute depth
begun k depth w = w

-- after an arrow, where this many brackets are open
abbrev pub passed : ℕ → Within → Within
passed depth within.Front = if depth == 1 then within.Actions else within.Front
passed depth within.Build = if depth == 2 then within.Built else within.Build
passed depth w = w

-- after a closing bracket, where this many are open before it
abbrev pub left : ℕ → Within → Within
left depth within.Build = if depth == 2 then within.Actions else within.Build
left depth within.Built = if depth == 2 then within.Actions else within.Built
left depth (within.Compute n) = if depth == n then within.Built else within.Compute n
left depth w = w

abbrev pub closed : Region → Region
closed r = if nat_le r.depth 1 then outside else record { depth = r.depth - 1; opened = false; within = left r.depth r.within }

-- after a word of this keyword that is no bracket
abbrev pub followed : Region → Keyword → Region
followed r keyword.Arrow = record r { opened = false; within = passed r.depth r.within }
followed r k = record r { opened = false; within = if r.opened then begun k r.depth r.within else r.within }

abbrev pub region_behind : Region → TokenKind → Keyword → Region
region_behind r kind.Left k = record r { depth = suc r.depth; opened = true }
region_behind r kind.Right k = closed r
region_behind r _ k = followed r k

-- after a token of a text
abbrev pub region_after : List ℕ → Region → Token → Region
region_after text r t = region_behind r t.kind (keyword_of t.kind (spelling text t))

-- in a `build`, and in no `compute`
abbrev pub takes_holes : Within → Bool
takes_holes within.Build = true
takes_holes within.Built = true
takes_holes _ = false

abbrev pub is_remainder : Keyword → Bool
is_remainder keyword.Remainder = true
is_remainder _ = false

-- a `\\` or `\` right before a variable is one token with it
abbrev pub is_pair : List ℕ → Region → Token → Token → Bool
is_pair text r t u = takes_holes r.within && is_remainder (keyword_of t.kind (spelling text t)) && is_variable u.kind

-- the quoted token that they are together
abbrev pub pair : Token → Token → Token
pair t u = record { kind = kind.Quoted; first = t.first; past = u.past }

-- the tokens, where those that are one are put together
abbrev pub joined : List ℕ → Region → List Token → List Token
joined text r [] = []
joined text r (t ∷ []) = t ∷ []
joined text r (t ∷ u ∷ ts) =
    if is_pair text r t u then pair t u ∷ joined text (region_after text (region_after text r t) u) ts else t ∷ joined text (region_after text r t) (u ∷ ts)

-- ---- words

-- a quoted token that begins with no bar is such a pair
abbrev pub is_joined : List ℕ → Token → Bool
is_joined text t = is_quoted t.kind && not (is_bar (slice_index text t.first))

-- where its variable begins, which stands behind its last white space
abbrev pub variable_at : List ℕ → Token → ℕ
variable_at text t = t.past - length (take_while (λ b. not (is_white b)) (reverse (slice_range text t.first t.past)))

abbrev pub hole_in : List ℕ → Spellings → Token → Keyword
hole_in text names t =
    keyword.Hole (record { 0 = place_of names.held (slice_range text (variable_at text t) t.past) }) (variable_at text t)

-- the keyword of a token of a text, where these names are held before it
abbrev pub keyword_in : List ℕ → Spellings → Token → Keyword
keyword_in text names t = if is_joined text t then hole_in text names t else keyword_of t.kind (spelling text t)

-- its spelling is a symbol of the text
abbrev pub has_name : TokenKind → Bool
has_name kind.Symbol = true
has_name kind.Quoted = true
has_name kind.Variable = true
has_name kind.Operator = true
has_name _ = false

-- the names with a token's spelling, if it has a name
abbrev pub names_with : Spellings → TokenKind → List ℕ → Spellings
names_with names k s = if has_name k then record names { held = with_spelling names.held s } else names

abbrev pub name_in : Spellings → TokenKind → List ℕ → ℕ
name_in names k s = if has_name k then place_of names.held s else 0

abbrev pub word_of : List ℕ → Spellings → Token → Word
word_of text names t =
    record { kind = t.kind; keyword = keyword_in text names t; name = record { 0 = name_in names t.kind (spelling text t) }; first = t.first; past = t.past }

-- a - right before an opening brace begins a group
abbrev pub minus_before : TokenKind → Keyword
minus_before kind.LeftBrace = keyword.GroupMinus
minus_before _ = keyword.Minus

abbrev pub keyword_before : Keyword → List Token → Keyword
keyword_before keyword.Minus (t ∷ ts) = minus_before t.kind
keyword_before k ts = k

-- the word before these tokens
abbrev pub word_before : Word → List Token → Word
word_before w ts = record w { keyword = keyword_before w.keyword ts }

-- the words of tokens of a text, where these names are held before them
abbrev pub words_from : List ℕ → Spellings → List Token → List Word
words_from text names [] = []
words_from text names (t ∷ ts) = word_before (word_of text names t) ts ∷ words_from text (names_with names t.kind (spelling text t)) ts

-- the names that are held after them
abbrev pub names_from : List ℕ → Spellings → List Token → Spellings
names_from text names [] = names
names_from text names (t ∷ ts) = names_from text (names_with names t.kind (spelling text t)) ts

-- the tokens of a text up to its end or its first lexical fault
pub record Lexed : Type 0 where
  pub tokens : List Token
  pub stop : Option LexFault

abbrev pub led_by : Token → Lexed → Lexed
led_by t l = record { tokens = t ∷ l.tokens; stop = l.stop }

abbrev pub lexed_after : (ℕ → Lexed) → Next → Lexed
lexed_after rest (Ok None) = record { tokens = []; stop = None }
lexed_after rest (Ok (Some t)) = led_by t (rest t.past)
lexed_after rest (Err f) = record { tokens = []; stop = Some f }

-- at most n tokens from a place on
abbrev pub lexed_from : ℕ → List ℕ → ℕ → Lexed
lexed_from zero text from = record { tokens = []; stop = None }
lexed_from (suc n) text from = lexed_after (lexed_from n text) (token_at text from)

-- all tokens from a place on: a text has no more of them than bytes
abbrev pub lexed_at : List ℕ → ℕ → Lexed
lexed_at text from = lexed_from (suc (length text)) text from

abbrev pub lexed : List ℕ → Lexed
lexed text = lexed_at text 0

-- the tokens of the text, where those that are one are put together
abbrev pub tokens_of : List ℕ → List Token
tokens_of text = joined text outside (lexed text).tokens
