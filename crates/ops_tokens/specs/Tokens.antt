-- The next token of a text.
use Rattle.std.specs.Prelude.{◌≡◌, ℕ, suc, ◌+◌, ◌-◌, ◌<◌, ◌≤◌, ◌==◌, not, Bool, true, false, List, [], ◌∷◌, length, take, drop, position, take_while, slice_range, slice_index, Option, Some, None, Result, Ok, Err, ℤ, if◌then◌else◌}
use Rattle.ops_tokens.specs.Bytes.{is_white, is_bad, is_plain, is_bar}
use Rattle.ops_tokens.specs.Spellings.{is_operator, is_whole, is_fraction, is_variable}
use Rattle.ops_tokens.specs.Numbers.{whole_value, is_in_range}
use Rattle.ops_tokens.specs.declared.token.Token.{Token}
use Rattle.ops_tokens.specs.declared.token.TokenKind.{TokenKind}
use Rattle.ops_tokens.specs.declared.token.TokenKind.TheVariants as kind
use Rattle.ops_tokens.specs.declared.token.LexFault.{LexFault}
use Rattle.ops_tokens.specs.declared.token.TheConstants.{BAD_BYTE, UNCLOSED, FRACTION_NUMBER, NUMBER_RANGE}

-- a token, the end of the text, or a fault
abbrev pub Next : Type 0
Next = Result (Option Token) LexFault

abbrev pub token : TokenKind → ℕ → ℕ → Next
token k first past = Ok (Some (record { kind = k; first = first; past = past }))

abbrev pub fault : ℕ → ℕ → Next
fault number at = Err (record { number = number; at = at })

-- how many bytes of white space and comments stand at the front, which is `inside` a comment or not
abbrev pub gap : Bool → List ℕ → ℕ
gap inside [] = 0
gap inside (b ∷ bs) =
    if inside then suc (gap (not (b == 10)) bs)
    else if is_white b then suc (gap false bs)
    else if b == 59 then suc (gap true bs)
    else 0

-- the place after the white space and the comments that stand at `from`
abbrev pub gap_end : List ℕ → ℕ → ℕ
gap_end text from = from + gap false (drop from text)

-- the tokens of one byte
abbrev pub bracket_of : ℕ → Option TokenKind
bracket_of b =
    if b == 40 then Some kind.Left else if b == 41 then Some kind.Right
    else if b == 123 then Some kind.LeftBrace else if b == 125 then Some kind.RightBrace
    else if b == 94 then Some kind.Caret else None

-- a quoted atom of `n` bytes between its bars, of which the first bad one is given
abbrev pub closed : ℕ → ℕ → Option ℕ → Next
closed first n None = token kind.Quoted first (first + n + 2)
closed first n (Some bad) = fault BAD_BYTE (first + 1 + bad)

-- what the bar at `first` begins, where the next bar among the bytes after it is given
abbrev pub quoted : ℕ → List ℕ → Option ℕ → Next
quoted first rest None = fault UNCLOSED first
quoted first rest (Some n) = closed first n (position is_bad (take n rest))

-- a whole number of this value
abbrev pub number : ℤ → ℕ → ℕ → Next
number value first past = if is_in_range value then token (kind.Whole value) first past else fault NUMBER_RANGE first

-- the plain atom at `first` of this spelling, which is of the first kind that fits
abbrev pub atom : ℕ → List ℕ → Next
atom first s =
    if is_operator s then token kind.Operator first (first + length s)
    else if is_whole s then number (whole_value s) first (first + length s)
    else if is_fraction s then fault FRACTION_NUMBER first
    else if is_variable s then token kind.Variable first (first + length s)
    else token kind.Symbol first (first + length s)

-- the longest run of plain bytes from `first` on
abbrev pub run_at : List ℕ → ℕ → List ℕ
run_at text first = take_while is_plain (drop first text)

-- what begins at `first`, at a byte that begins no gap and may be a token by itself
abbrev pub begun : List ℕ → ℕ → ℕ → Option TokenKind → Next
begun text first b (Some bracket) = token bracket first (first + 1)
begun text first b None =
    if is_bar b then quoted first (drop (first + 1) text) (position is_bar (drop (first + 1) text))
    else if is_plain b then atom first (run_at text first)
    else fault BAD_BYTE first

-- what stands at `first`, where no gap does
abbrev pub standing : List ℕ → ℕ → Next
standing text first = if first == length text then Ok None else begun text first (slice_index text first) (bracket_of (slice_index text first))

-- the next token from `from` on
unfoldable pub token_at : List ℕ → ℕ → Next
token_at text from = standing text (gap_end text from)

abbrev pub is_quoted : TokenKind → Bool
is_quoted kind.Quoted = true
is_quoted _ = false

-- the bytes that count as the token's spelling, which for a quoted atom are those between its bars
abbrev pub spelling : List ℕ → Token → List ℕ
spelling text t = if is_quoted t.kind then slice_range text (t.first + 1) (t.past - 1) else slice_range text t.first t.past

-- the token's bytes lie in the text, and a quoted atom has room for its two bars
pub record LiesIn (text : List ℕ) (t : Token) : Type 0 where
  pub ordered : t.first ≤ t.past
  pub within : t.past ≤ length text
  pub bars : is_quoted t.kind ≡ true → t.first + 2 ≤ t.past

-- the token stands in the text at `from` or after it, on one byte or more
pub record StandsFrom (text : List ℕ) (from : ℕ) (t : Token) : Type 0 where
  pub begins : from ≤ t.first
  pub some : t.first < t.past
  pub lies : LiesIn text t
