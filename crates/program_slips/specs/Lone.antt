-- Variables whose name occurs once in their production, among its conditions: they are bound and never used.
use Rattle.std.specs.Prelude.{ℕ, ◌+◌, ◌-◌, List, [], ◌∷◌, ◌++◌, codes, bytes_eq, map, flat_map, slice_range, length, nat_le, nat_lt, Bool, true, false, not, ◌==◌, ◌&&◌, if◌then◌else◌}
use Rattle.ops_base.specs.Names.{is_held}
use Rattle.ops_base.specs.declared.rules.Rule.{Rule}
use Rattle.ops_base.specs.declared.commands.Command.{Command}
use Rattle.ops_base.specs.declared.commands.Command.TheVariants as command
use Rattle.ops_tokens.specs.declared.token.Token.{Token}
use Rattle.ops_tokens.specs.declared.token.TokenKind.{TokenKind}
use Rattle.ops_tokens.specs.declared.token.TokenKind.TheVariants as kind
use Rattle.ops_tokens.specs.Tokens.{spelling}
use Rattle.ops_grammar.specs.Words.{lexed}
use Rattle.program_slips.specs.declared.words.Standing.{Standing}
use Rattle.program_slips.specs.declared.words.Named.{Named}
use Rattle.program_slips.specs.Texts.{with_text}

-- ---- the context of a word in a production

abbrev pub at_start : Standing
at_start = record { left = true; choice = false; literal = false; head = false; formula = 0 }

-- neither `//` nor an opening bracket comes right before it
abbrev pub plain : Standing → Standing
plain c = record c { literal = false; head = false }

-- In a choice, each word is a constant up to the `>>`. Elsewhere, `//` makes a constant of the word after it, except
-- in a `compute`, where it divides. A choice can begin only before the arrow: after it, `<<` is a symbol.
abbrev pub after_operator : Standing → List ℕ → Standing
after_operator c s =
    if c.choice then record c { choice = not (bytes_eq s (codes ">>")); literal = false; head = false }
    else if c.literal then plain c
    else if bytes_eq s (codes "//") then record c { literal = c.formula == 0; head = false }
    else record c { left = c.left && not (bytes_eq s (codes "-->")); choice = c.left && bytes_eq s (codes "<<"); literal = false; head = false }

-- the brackets of a `compute` are counted
abbrev pub after_left : Standing → Standing
after_left c = record c { literal = false; head = true; formula = if nat_lt 0 c.formula then c.formula + 1 else 0 }

abbrev pub after_right : Standing → Standing
after_right c = record c { literal = false; head = false; formula = c.formula - 1 }

-- After the arrow, a bracket followed by `compute` begins a formula; before it, they begin a pattern of a class of
-- that name.
abbrev pub begins_formula : Standing → List ℕ → Bool
begins_formula c s = c.head && not c.left && (c.formula == 0) && bytes_eq s (codes "compute")

abbrev pub after_symbol : Standing → List ℕ → Standing
after_symbol c s = record c { literal = false; head = false; formula = if begins_formula c s then 1 else c.formula }

abbrev pub after_word : TokenKind → Standing → List ℕ → Standing
after_word kind.Left c s = after_left c
after_word kind.Right c s = after_right c
after_word kind.Operator c s = after_operator c s
after_word kind.Symbol c s = after_symbol c s
after_word _ c s = plain c

-- ---- the variables of a production

abbrev pub named_by : TokenKind → Standing → ℕ → ℕ → List Named
named_by kind.Variable c first past =
    if not c.choice && not c.literal then record { first = first; past = past; left = c.left } ∷ [] else []
named_by _ c first past = []

abbrev pub named_among : List ℕ → Standing → List Token → List Named
named_among text c [] = []
named_among text c (t ∷ ts) = named_by t.kind c t.first t.past ++ named_among text (after_word t.kind c (spelling text t)) ts

abbrev pub name_in : List ℕ → Named → List ℕ
name_in text n = slice_range text n.first n.past

-- the names that occur there more than once
abbrev pub again_by : List (List ℕ) → List (List ℕ) → List (List ℕ) → List (List ℕ)
again_by met again [] = again
again_by met again (s ∷ ss) = again_by (with_text met s) (if is_held met s then with_text again s else again) ss

abbrev pub lone_of : List ℕ → List (List ℕ) → Named → List Named
lone_of text again n = if n.left && not (is_held again (name_in text n)) then n ∷ [] else []

abbrev pub lone_among : List ℕ → List Named → List Named
lone_among text named = flat_map (lone_of text (again_by [] [] (map (name_in text) named))) named

-- those of a production with this text
abbrev pub lone_in : List ℕ → List Named
lone_in text = lone_among text (named_among text at_start (lexed text).tokens)

-- ---- those of a program, with their places in its text

abbrev pub moved : ℕ → Named → Named
moved by n = record { first = by + n.first; past = by + n.past; left = n.left }

-- it lies in the text
abbrev pub lies_in : List ℕ → Rule → Bool
lies_in text r = nat_le r.first r.past && nat_le r.past (length text)

abbrev pub lone_of_rule : List ℕ → Rule → List Named
lone_of_rule text r = if lies_in text r then map (moved r.first) (lone_in (slice_range text r.first r.past)) else []

abbrev pub lone_of_command : List ℕ → Command → List Named
lone_of_command text (command.Add r) = lone_of_rule text r
lone_of_command text _ = []

abbrev pub lone : List ℕ → List Rule → List Command → List Named
lone text rules commands = flat_map (lone_of_rule text) rules ++ flat_map (lone_of_command text) commands
