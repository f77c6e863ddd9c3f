-- The ranges of the forms of a text, determined by its brackets. Brackets in comments and between bars do not count.
use Rattle.std.specs.Prelude.{ℕ, ◌+◌, ◌-◌, ◌==◌, List, [], ◌∷◌, take, drop, if◌then◌else◌, Option, Some, None}
use Rattle.fault_search.specs.declared.forms.Within.{Within}
use Rattle.fault_search.specs.declared.forms.Within.TheVariants as within
use Rattle.fault_search.specs.declared.forms.State.{State}
use Rattle.fault_search.specs.declared.forms.Span.{Span}

abbrev pub at_start : State
at_start = record { at = 0; depth = 0; first = 0; within = within.Words }

-- after an opening bracket, which begins a form if none is open
abbrev pub after_opening : State → State
after_opening s = record { at = s.at + 1; depth = s.depth + 1; first = if s.depth == 0 then s.at else s.first; within = within.Words }

abbrev pub after_closing : State → State
after_closing s = record { at = s.at + 1; depth = s.depth - 1; first = s.first; within = within.Words }

-- after a byte among words: ( and ) are brackets, ; begins a comment, and | a quoted name
abbrev pub after_word : State → ℕ → State
after_word s b =
    if b == 40 then after_opening s
    else if b == 41 then after_closing s
    else if b == 59 then record s { at = s.at + 1; within = within.Comment }
    else if b == 124 then record s { at = s.at + 1; within = within.Quotes }
    else record s { at = s.at + 1 }

-- A comment ends with its line, and a quoted name with its second bar.
abbrev pub after_by : Within → State → ℕ → State
after_by within.Words s b = after_word s b
after_by within.Comment s b = record s { at = s.at + 1; within = if b == 10 then within.Words else within.Comment }
after_by within.Quotes s b = record s { at = s.at + 1; within = if b == 124 then within.Words else within.Quotes }

abbrev pub after_byte : State → ℕ → State
after_byte s b = after_by s.within s b

abbrev pub after_bytes : State → List ℕ → State
after_bytes s [] = s
after_bytes s (b ∷ bs) = after_bytes (after_byte s b) bs

-- what is known before the byte at a place
abbrev pub state_at : List ℕ → ℕ → State
state_at text at = after_bytes at_start (take at text)

-- the end of the form that is open before these bytes: after the bracket that closes it, or at the end of the text
abbrev pub end_of : State → List ℕ → ℕ
end_of s [] = s.at
end_of s (b ∷ bs) = let next = after_byte s b in if next.depth == 0 then next.at else end_of next bs

abbrev pub form_by : State → List ℕ → Option Span
form_by s rest = if s.depth == 0 then None else Some (record { first = s.first; past = end_of s rest })

-- the form that is open at a place, if one is
abbrev pub form_at : List ℕ → ℕ → Option Span
form_at text at = form_by (state_at text at) (drop at text)
