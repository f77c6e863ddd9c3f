-- The words of a text that are probably slips, judged by what comes before them.
use Rattle.std.specs.Prelude.{ℕ, ◌+◌, ◌-◌, List, [], ◌∷◌, ◌++◌, codes, bytes_eq, Bool, true, false, not, ◌==◌, ◌&&◌, ◌||◌, nat_lt, if◌then◌else◌, Option, Some, None}
use Rattle.ops_tokens.specs.declared.token.Token.{Token}
use Rattle.ops_tokens.specs.declared.token.TokenKind.{TokenKind}
use Rattle.ops_tokens.specs.declared.token.TokenKind.TheVariants as kind
use Rattle.ops_tokens.specs.Tokens.{spelling}
use Rattle.ops_grammar.specs.Words.{lexed}
use Rattle.lint_rules.specs.declared.slips.Slip.{Slip}
use Rattle.lint_rules.specs.declared.slips.Slip.TheVariants as slip
use Rattle.lint_rules.specs.declared.slips.Warning.{Warning}
use Rattle.lint_rules.specs.declared.walk.Before.{Before}
use Rattle.lint_rules.specs.declared.walk.Before.TheVariants as before
use Rattle.lint_rules.specs.declared.walk.Context.{Context}
use Rattle.lint_rules.specs.Spelled.{is_clips_variable, is_clips_test, is_joined, is_joined_variable, is_string}

-- ---- the context of a word

abbrev pub at_start : Context
at_start = record { depth = 0; conditions = false; built = false; write = 0; choice = false; before = before.Other }

abbrev pub is_literal : Before → Bool
is_literal before.Literal = true
is_literal _ = false

abbrev pub is_hole : Before → Bool
is_hole before.Hole = true
is_hole _ = false

-- Neither a bracket nor `//` nor `p` nor `build` nor the mark of a hole comes right before it.
abbrev pub plain : Context → Context
plain c = record c { before = before.Other }

abbrev pub after_left : Context → Context
after_left c = record c { depth = c.depth + 1; choice = false; before = before.Bracket }

abbrev pub after_right : Context → Context
after_right c =
    record {
      depth = c.depth - 1;
      conditions = c.conditions && nat_lt 1 c.depth;
      built = c.built;
      write = if c.write == c.depth then 0 else c.write;
      choice = false;
      before = before.Other;
    }

-- `//` makes a literal of the word after it. An operator that is such a literal has no other meaning, except that >>
-- always ends a choice, in which `//` and `-->` are values. A choice can begin only among conditions: elsewhere `<<`
-- is a symbol.
abbrev pub after_operator : Context → List ℕ → Context
after_operator c s =
    if bytes_eq s (codes "//") then record c { before = before.Literal }
    else if bytes_eq s (codes ">>") then record c { choice = false; before = before.Other }
    else if is_literal c.before then plain c
    else if bytes_eq s (codes "<<") then record c { choice = c.conditions; before = before.Other }
    else if bytes_eq s (codes "-->") then record c { conditions = c.conditions && c.choice; before = before.Other }
    else plain c

-- an action that builds a production: among conditions, `build` is the name of a class
abbrev pub begins_build : Context → List ℕ → Bool
begins_build c s = bytes_eq s (codes "build") && not c.conditions && (c.depth == 2)

-- The first word of a form or of an action determines whether conditions follow its name, and the first word after a
-- bracket outside conditions determines whether values are written: among conditions, `write` is the name of a class.
abbrev pub after_head : Context → List ℕ → Context
after_head c s =
    if bytes_eq s (codes "p") && (c.depth == 1) then record c { conditions = true; built = false; before = before.Production }
    else if begins_build c s then record c { conditions = true; built = true; before = before.Production }
    else if bytes_eq s (codes "write") && not c.conditions then record c { write = c.depth; before = before.Other }
    else plain c

abbrev pub after_plain_symbol : Before → Context → List ℕ → Context
after_plain_symbol before.Bracket c s = after_head c s
after_plain_symbol _ c s = plain c

-- Among the conditions of a production that is built, `\\` or `\` with the variable after it stands for a value.
abbrev pub marks_hole : Context → List ℕ → Bool
marks_hole c s = c.conditions && c.built && (bytes_eq s (codes "\\\\") || bytes_eq s (codes "\\"))

abbrev pub after_symbol : Context → List ℕ → Context
after_symbol c s = if marks_hole c s then record c { before = before.Hole } else after_plain_symbol c.before c s

-- the context after a token of this kind and spelling
abbrev pub after : TokenKind → Context → List ℕ → Context
after kind.Left c s = after_left c
after kind.Right c s = after_right c
after kind.Operator c s = after_operator c s
after kind.Symbol c s = after_symbol c s
after _ c s = plain c

-- ---- which words are reported

-- a symbol: reported as a variable of CLIPS or a string anywhere, as a test only in conditions, and as `crlf` only
-- among the values of a `write`
abbrev pub slip_of_symbol : Context → List ℕ → Option Slip
slip_of_symbol c s =
    if is_clips_variable s then Some slip.ClipsVariable
    else if c.conditions && is_clips_test s then Some slip.ClipsTest
    else if c.conditions && is_joined s then Some slip.JoinedPredicate
    else if is_string s then Some slip.QuotedString
    else if bytes_eq s (codes "crlf") && nat_lt 0 c.write && (c.write == c.depth) then Some slip.PlainCrlf
    else None

-- the variable of a hole is none
abbrev pub slip_of_variable : Context → List ℕ → Option Slip
slip_of_variable c s =
    if is_hole c.before then None
    else if c.choice then Some slip.ChosenVariable
    else if c.conditions && is_joined_variable s then Some slip.JoinedVariable
    else None

abbrev pub slip_by : TokenKind → Context → List ℕ → Option Slip
slip_by kind.Symbol c s = slip_of_symbol c s
slip_by kind.Variable c s = slip_of_variable c s
slip_by _ c s = None

-- neither a literal nor the name of a production is reported
abbrev pub slip_after : Before → TokenKind → Context → List ℕ → Option Slip
slip_after before.Literal k c s = None
slip_after before.Production k c s = None
slip_after _ k c s = slip_by k c s

abbrev pub slip_of : TokenKind → Context → List ℕ → Option Slip
slip_of k c s = slip_after c.before k c s

-- ---- the words of a text

abbrev pub warnings_of : Token → Option Slip → List Warning
warnings_of t None = []
warnings_of t (Some s) = record { slip = s; first = t.first; past = t.past } ∷ []

-- the slips among tokens of a text, in order
abbrev pub slips_among : List ℕ → Context → List Token → List Warning
slips_among text c [] = []
slips_among text c (t ∷ ts) =
    warnings_of t (slip_of t.kind c (spelling text t)) ++ slips_among text (after t.kind c (spelling text t)) ts

-- all slips of a text, up to its first lexical fault
abbrev pub slips_of : List ℕ → List Warning
slips_of text = slips_among text at_start (lexed text).tokens
