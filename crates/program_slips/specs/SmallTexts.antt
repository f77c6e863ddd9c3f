-- Small productions with their unused variables.
use Rattle.std.specs.Prelude.{◌≡◌, ℕ, List, [], ◌∷◌, codes, map}
use Rattle.program_slips.specs.Lone.{name_in, lone_in}

-- the unused variables of this production have these names
abbrev pub HasLone : List ℕ → List (List ℕ) → Type 0
HasLone text names = map (name_in text) (lone_in text) ≡ names

-- A divisor is used, and so is a value that is printed after `<<`. A constant that looks like a variable is not one:
-- after `//` before a value, including after a `compute` or the symbol `compute`, and in a choice. The variable of a hole
-- is used, also in a choice of a production that is built.
abbrev pub LoneAreFound : Type 0
LoneAreFound =
    HasLone (codes "(p r (a ^x <n> ^y <d>) --> (write (compute <n> // <d>)))") []
    × HasLone (codes "(p r (a ^x <n> ^y <d>) --> (write (compute (<n> + 1) // (2 // <d>))))") []
    × HasLone (codes "(p r (a ^x <v>) --> (write << <v> >>))") []
    × HasLone (codes "(p r (a ^x <v>) --> (write (compute 4 // 2) // <v>))") (codes "<v>" ∷ [])
    × HasLone (codes "(p r (a ^x <v>) --> (write compute // <v>))") (codes "<v>" ∷ [])
    × HasLone (codes "(p r (compute ^x <v> ^y // <v>) -->)") (codes "<v>" ∷ [])
    × HasLone (codes "(p r (a ^x <v> ^y << <v> --> >>) -->)") (codes "<v>" ∷ [])
    × HasLone (codes "(p r (a ^x <v>) --> (build s (a ^x \\\\ <v>) -->))") []
    × HasLone (codes "(p r (a ^x <v>) --> (build s (a ^x << \\ <v> >>) -->))") []
    × HasLone (codes "(p r (a ^x <v>) --> (build s (a ^x // <v>) -->))") (codes "<v>" ∷ [])
