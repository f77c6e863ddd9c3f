-- How a text is cut into forms.
use Rattle.std.specs.Prelude.{◌≡◌, ℕ, ◌+◌, ◌-◌, ◌<◌, ◌≤◌, ◌==◌, ◌&&◌, not, Bool, true, false, List, [], ◌∷◌, ◌++◌, length, All, Option, Some, None, Result, Ok, Err, if◌then◌else◌}
use Rattle.ops_tokens.specs.declared.token.Token.{Token}
use Rattle.ops_tokens.specs.declared.token.TokenKind.{TokenKind}
use Rattle.ops_tokens.specs.declared.token.TokenKind.TheVariants as kind
use Rattle.ops_tokens.specs.declared.token.LexFault.{LexFault}
use Rattle.ops_tokens.specs.Tokens.{LiesIn}
use Rattle.ops_grammar.specs.Words.{Lexed, lexed_at, outside, joined}
use Rattle.ops_grammar.specs.Grammar.{is_left}
use Rattle.ops_grammar.specs.Reads.{is_numeric}
use Rattle.ops_forms.specs.declared.form.Form.{Form}
use Rattle.ops_forms.specs.declared.form.FormEnd.{FormEnd}
use Rattle.ops_forms.specs.declared.form.FormEnd.TheVariants as end
use Rattle.ops_forms.specs.declared.form.FormFault.{FormFault}
use Rattle.ops_forms.specs.declared.form.FormFault.TheVariants as fault

-- how many brackets are open after a token, if this many are open before it
abbrev pub open_behind : ℕ → TokenKind → ℕ
open_behind n kind.Left = n + 1
open_behind n kind.Right = n - 1
open_behind n _ = n

abbrev pub is_last : List Token → Bool
is_last [] = true
is_last (t ∷ ts) = false

-- the last of the tokens closes the last open bracket, and none before it does
abbrev pub closes_last : ℕ → List Token → Bool
closes_last n [] = false
closes_last n (t ∷ ts) = if open_behind n t.kind == 0 then is_last ts else closes_last (open_behind n t.kind) ts

-- a bracket is open after each of the tokens
abbrev pub stays_open : ℕ → List Token → Bool
stays_open n [] = true
stays_open n (t ∷ ts) = not (open_behind n t.kind == 0) && stays_open (open_behind n t.kind) ts

-- the first of the tokens opens a bracket
abbrev pub opens : List Token → Bool
opens [] = false
opens (t ∷ ts) = is_left t.kind

-- these tokens, followed by those
abbrev pub led : List Token → Lexed → Lexed
led tokens l = record { tokens = tokens ++ l.tokens; stop = l.stop }

-- no tokens, for this reason
abbrev pub none_by : Option LexFault → Lexed
none_by stop = record { tokens = []; stop = stop }

-- the byte past the last of the tokens
abbrev pub past_last : ℕ → List Token → ℕ
past_last from [] = from
past_last from (t ∷ ts) = past_last t.past ts

-- If the form is closed, the tokens of the text from a place on are these, followed by those from `past` on. If not,
-- these are all.
abbrev pub Ends : List ℕ → ℕ → List Token → ℕ → FormEnd → Type 0
Ends text from tokens past end.Closed = (closes_last 0 tokens ≡ true) × (lexed_at text from ≡ led tokens (lexed_at text past))
Ends text from tokens past (end.Fault f) = (stays_open 0 tokens ≡ true) × (lexed_at text from ≡ led tokens (none_by (Some f)))
Ends text from tokens past end.Text = (stays_open 0 tokens ≡ true) × (lexed_at text from ≡ led tokens (none_by None))

-- the next thing in the text is a form of these tokens, as the text has them
pub record IsRaw (text : List ℕ) (from : ℕ) (form : Form) : Type 0 where
  pub opens : opens form.tokens.items ≡ true
  pub ends : Ends text from form.tokens.items form.past form.end
  pub past : form.past ≡ past_last from form.tokens.items
  pub begins : from < form.past
  pub within : form.past ≤ length text
  pub lie : All (λ t. LiesIn text t) form.tokens.items

-- The next thing in the text is a form. A `\\` or `\` with the variable after it is one of its tokens inside a `build`.
pub record IsForm (text : List ℕ) (from : ℕ) (form : Form) : Type 0 where
  pub raw : List Token
  pub joined : form.tokens.items ≡ joined text outside raw
  pub opens : opens raw ≡ true
  pub ends : Ends text from raw form.past form.end
  pub past : form.past ≡ past_last from form.tokens.items
  pub begins : from < form.past
  pub within : form.past ≤ length text
  pub lie : All (λ t. LiesIn text t) form.tokens.items

-- the next thing is a token, or an atom that is not a number of the language, and it begins no form
pub data IsStray (text : List ℕ) (from at : ℕ) : Type 0 where
  token : (t : Token) (ts : List Token) (stop : Option LexFault) → lexed_at text from ≡ record { tokens = t ∷ ts; stop = stop } → is_left t.kind ≡ false → at ≡ t.first → IsStray text from at
  atom : (f : LexFault) → lexed_at text from ≡ none_by (Some f) → is_numeric f ≡ true → at ≡ f.at → IsStray text from at

-- what comes next: no form, a form, or a fault
abbrev pub IsNext : List ℕ → ℕ → Result (Option Form) FormFault → Type 0
IsNext text from (Ok None) = lexed_at text from ≡ none_by None
IsNext text from (Ok (Some form)) = IsForm text from form
IsNext text from (Err (fault.Lex f)) = (lexed_at text from ≡ none_by (Some f)) × (is_numeric f ≡ false)
IsNext text from (Err (fault.Stray at)) = IsStray text from at
IsNext text from (Err fault.OutOfMemory) = opens (lexed_at text from).tokens ≡ true
