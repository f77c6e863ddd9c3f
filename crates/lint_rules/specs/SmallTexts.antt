-- Small texts with the slips in them.
use Rattle.std.specs.Prelude.{◌≡◌, ℕ, List, [], ◌∷◌, ◌++◌, codes, map}
use Rattle.ops_grammar.specs.Places.{line_of, column_of}
use Rattle.lint_rules.specs.declared.slips.Slip.{Slip}
use Rattle.lint_rules.specs.declared.slips.Slip.TheVariants as slip
use Rattle.lint_rules.specs.Slips.{slips_of}

-- the slips of a text, each with its line and its column
abbrev pub placed_slips : List ℕ → List (Slip × ℕ × ℕ)
placed_slips text = map (λ w. (w.slip, line_of text w.first, column_of text w.first)) (slips_of text)

-- the text has exactly this slip, at this line and column
abbrev pub HasSlip : List ℕ → Slip → ℕ → ℕ → Type 0
HasSlip text s line column = placed_slips text ≡ (s, line, column) ∷ []

abbrev pub HasNone : List ℕ → Type 0
HasNone text = placed_slips text ≡ []

abbrev pub SlipsAreFound : Type 0
SlipsAreFound =
    HasSlip (codes "(p r" ++ 10 ∷ codes "(a ^x ?x) -->)") slip.ClipsVariable 2 7
    × HasSlip (codes "(p r (a ^x ~red) -->)") slip.ClipsTest 1 12
    × HasSlip (codes "(p r (a ^x >0) -->)") slip.JoinedPredicate 1 12
    × HasSlip (codes "(p r (a ^x <=<x>) -->)") slip.JoinedVariable 1 12
    × HasSlip (codes "(p r (a ^x << <y> >>) -->)") slip.ChosenVariable 1 15
    × HasSlip (codes "(p r (a) --> (write \"hi there))") slip.QuotedString 1 21
    × HasSlip (codes "(p r (a) --> (write crlf))") slip.PlainCrlf 1 21
    × HasSlip (codes "(p r (a ^x << --> <y> >>) -->)") slip.ChosenVariable 1 19
    × HasSlip (codes "(p r (a) --> (build s (a ^x ~red) -->))") slip.ClipsTest 1 29
    × HasSlip (codes "(p r (a) --> (build s (a ^x << <y> >>) -->))") slip.ChosenVariable 1 32
    × HasSlip (codes "(p r (a) --> (build s (a) --> (write crlf)))") slip.PlainCrlf 1 38
    × HasSlip (codes "(p r (a ^x << \\ <y> >>) -->)") slip.ChosenVariable 1 17

-- a literal, the name of a production, a class with the name of an action (including after a `-->` in a choice), a
-- `<<` that is written, the name of a production that is built and a class among its conditions, its holes, and words
-- used as intended
abbrev pub NoSlipIsFound : Type 0
NoSlipIsFound =
    HasNone (codes "(p r (a ^x // ~red) -->)")
    × HasNone (codes "(p >0 (a) -->)")
    × HasNone (codes "(p r (write ^x crlf) -->)")
    × HasNone (codes "(p r (a ^x << --> >>) (write ^x crlf) -->)")
    × HasNone (codes "(p r (a ^x <v>) --> (write << <v> >>))")
    × HasNone (codes "(p r (a ^x <u>) --> (write <<) (write <u>))")
    × HasNone (codes "(p r (a) --> (build >0 (write ^x crlf) -->))")
    × HasNone (codes "(p r (a ^x <v>) --> (build s (a ^x << \\\\ <v> >> ^y // \\ <v>) --> (write \\\\ <v>)))")
    × HasNone (codes "(p r (a ^x <x> ^y > 0 ^z << 1 2 >>) --> (write <x> |hi there| (crlf)))")
