-- What stands next in a text, by what its bytes match: a token, or a fault.
use Rattle.std.specs.Prelude.{◌≡◌, ℕ, ◌+◌, ◌-◌, ◌<◌, ◌≤◌, ◌⊎◌, not, true, false, List, length, drop, slice_range, slice_index}
use Rattle.std.specs.List.{AllPass}
use Rattle.ops_tokens.specs.Bytes.{is_bad, is_bar, is_plain}
use Rattle.ops_tokens.specs.Gaps.{IsGap}
use Rattle.ops_tokens.specs.Meanings.{IsFraction, IsWhole, IsSpelled, is_quotable}
use Rattle.ops_tokens.specs.Numbers.{whole_value, is_in_range}
use Rattle.ops_tokens.specs.Tokens.{spelling}
use Rattle.ops_tokens.specs.declared.token.Token.{Token}
use Rattle.ops_tokens.specs.declared.token.TokenKind.{TokenKind}
use Rattle.ops_tokens.specs.declared.token.TokenKind.TheVariants as kind
use Rattle.ops_tokens.specs.declared.token.LexFault.{LexFault}
use Rattle.ops_tokens.specs.declared.token.TheConstants.{BAD_BYTE, UNCLOSED, FRACTION_NUMBER, NUMBER_RANGE}

-- From one place up to the other stand white space and comments, and no longer stretch of them stands there.
pub record IsGapTo (text : List ℕ) (from at : ℕ) : Type 0 where
  pub begins : from ≤ at
  pub within : at ≤ length text
  pub is : IsGap (slice_range text from at)
  pub longest : (n : ℕ) → at < n → n ≤ length text → ¬ IsGap (slice_range text from n)

-- From one place up to the other stand plain bytes, one or more, and no plain byte follows.
pub record IsRunTo (text : List ℕ) (first past : ℕ) : Type 0 where
  pub some : first < past
  pub within : past ≤ length text
  pub plain : AllPass is_plain (slice_range text first past)
  pub ends : (past ≡ length text) ⊎ (is_plain (slice_index text past) ≡ false)

-- a bar, bytes of which none is one, and a bar
pub record AreBars (text : List ℕ) (first last : ℕ) : Type 0 where
  pub apart : first < last
  pub within : last < length text
  pub opens : is_bar (slice_index text first) ≡ true
  pub between : AllPass (λ b. not (is_bar b)) (slice_range text (first + 1) last)
  pub closes : is_bar (slice_index text last) ≡ true

-- how far a token of the kind reaches: a bracket is one byte, a quoted atom has its two bars, and every other token is a run of
-- plain bytes
abbrev pub Reaches : TokenKind → List ℕ → ℕ → ℕ → Type 0
Reaches kind.Left text first past = past ≡ first + 1
Reaches kind.Right text first past = past ≡ first + 1
Reaches kind.LeftBrace text first past = past ≡ first + 1
Reaches kind.RightBrace text first past = past ≡ first + 1
Reaches kind.Caret text first past = past ≡ first + 1
Reaches kind.Quoted text first past = (first + 2 ≤ past) × AreBars text first (past - 1)
Reaches _ text first past = IsRunTo text first past

-- the value of a whole number is one of 128 bits
abbrev pub IsHeld : TokenKind → Type 0
IsHeld (kind.Whole value) = is_in_range value ≡ true
IsHeld _ = Unit {0}

-- the token stands next: after a gap, as far as its kind reaches, and spelled as its kind asks
pub record StandsNext (text : List ℕ) (from : ℕ) (t : Token) : Type 0 where
  pub gap : IsGapTo text from t.first
  pub reaches : Reaches t.kind text t.first t.past
  pub spelled : IsSpelled t.kind (spelling text t)
  pub held : IsHeld t.kind

-- what stands after a gap there is no token, by this fault
pub data IsFaultAt (text : List ℕ) (first : ℕ) : LexFault → Type 0 where
  -- a byte that may stand in a comment alone
  bad_byte : first < length text → is_bad (slice_index text first) ≡ true → IsFaultAt text first (record { number = BAD_BYTE; at = first })
  -- between two bars, the first such byte
  bad_between : (last at : ℕ) → AreBars text first last → first < at → at < last → AllPass is_quotable (slice_range text (first + 1) at) → is_bad (slice_index text at) ≡ true → IsFaultAt text first (record { number = BAD_BYTE; at = at })
  -- a bar, and none after it
  unclosed : first < length text → is_bar (slice_index text first) ≡ true → AllPass (λ b. not (is_bar b)) (drop (first + 1) text) → IsFaultAt text first (record { number = UNCLOSED; at = first })
  -- the spelling of a number that is not whole
  fraction : (past : ℕ) → IsRunTo text first past → IsFraction (slice_range text first past) → IsFaultAt text first (record { number = FRACTION_NUMBER; at = first })
  -- a whole number of more than 128 bits
  range : (past : ℕ) → IsRunTo text first past → IsWhole (slice_range text first past) → is_in_range (whole_value (slice_range text first past)) ≡ false → IsFaultAt text first (record { number = NUMBER_RANGE; at = first })

-- the fault stands next, after a gap
pub record FaultStandsNext (text : List ℕ) (from : ℕ) (f : LexFault) : Type 0 where
  pub first : ℕ
  pub gap : IsGapTo text from first
  pub fault : IsFaultAt text first f

-- of one place: at most one token stands next, or at most one fault, and not both; and where a gap alone is left, neither does
abbrev pub IsSettled : List ℕ → ℕ → Type 0
IsSettled text from =
    ((t u : Token) → StandsNext text from t → StandsNext text from u → t ≡ u)
    × ((t : Token) (f : LexFault) → StandsNext text from t → ¬ FaultStandsNext text from f)
    × ((f g : LexFault) → FaultStandsNext text from f → FaultStandsNext text from g → f ≡ g)
    × (IsGap (drop from text) → ((t : Token) → ¬ StandsNext text from t) × ((f : LexFault) → ¬ FaultStandsNext text from f))
