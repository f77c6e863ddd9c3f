-- The meaning of right sides.
use Rattle.std.specs.Prelude.{◌≡◌, ℕ, pos, true, false, List, [], ◌∷◌, ◌++◌, codes, map}
use Rattle.ops_base.specs.Expression.{Formula, number, variable, apply}
use Rattle.ops_base.specs.declared.actions.Action.{Action}
use Rattle.ops_base.specs.declared.actions.Action.TheVariants as action
use Rattle.ops_base.specs.declared.actions.Item.{Item}
use Rattle.ops_base.specs.declared.actions.Item.TheVariants.{Print, Crlf, TabTo, RightIn}
use Rattle.ops_base.specs.declared.actions.Term.{Term}
use Rattle.ops_base.specs.declared.actions.Term.TheVariants as term
use Rattle.ops_base.specs.declared.conditions.Operand.TheVariants.{Variable}
use Rattle.ops_base.specs.declared.conditions.Part.TheVariants.{One}
use Rattle.ops_base.specs.declared.expression.Op.{Op}
use Rattle.ops_base.specs.declared.expression.Op.TheVariants.{Add, Sub, Mul, Div, Rem}
use Rattle.ops_base.specs.declared.values.Pred.TheVariants.{Eq}
use Rattle.ops_base.specs.declared.values.Value.TheVariants.{Symbol, Whole}
use Rattle.read_laws.specs.Texts.{Text, actions_of, parts_built, actions_built, texts_built}

abbrev pub Does : Text → Action → Type 0
Does text a = actions_of text ≡ a ∷ []

abbrev pub seven : Term
seven = term.Constant (Whole (pos 7))

abbrev pub ActionsMean : Type 0
ActionsMean =
    Does (codes "(make a)") (action.Make 0 [])
    × Does (codes "(make l ^u 7)") (action.Make 1 (record { field = 0; terms = seven ∷ [] } ∷ []))
    × Does (codes "(modify 1 ^y 7)") (action.Modify 0 (record { field = 1; terms = seven ∷ [] } ∷ []))
    × Does (codes "(modify <e>)") (action.Modify 0 [])
    × Does (codes "(modify 2)") (action.Modify 1 [])
    × Does (codes "(remove 2 1)") (action.Remove (1 ∷ 0 ∷ []))
    × Does (codes "(write 7)") (action.Write (Print seven ∷ []))
    × Does (codes "(bind <m> 7)") (action.Bind 1 seven)
    × Does (codes "(halt)") action.Halt
    × (actions_of (codes "(make a)(cbind <g>)") ≡ action.Make 0 [] ∷ action.Cbind 2 ∷ [])

-- the term that this text denotes
abbrev pub Is : Text → Term → Type 0
Is text t = Does (codes "(bind <m> " ++ text ++ codes ")") (action.Bind 1 t)

abbrev pub TermsMean : Type 0
TermsMean =
    Is (codes "7") seven
    × Is (codes "// nil") (term.Constant (Symbol (record { 0 = 0 })))
    × Is (codes "<n>") (term.Variable 0)
    × Is (codes "(genatom)") term.Fresh
    × Is (codes "(accept)") term.Accept
    × Is (codes "(substr <e> y y)") (term.One 0 1)
    × Does (codes "(make l ^v (substr <f> v inf))") (action.Make 1 (record { field = 1; terms = term.Rest 1 ∷ [] } ∷ []))

abbrev pub Computes : Text → Formula → Type 0
Computes text f = Is (codes "(compute " ++ text ++ codes ")") (term.Compute f)

abbrev pub applied : Op → Formula
applied op = apply op (number (pos 7)) (variable 0)

-- Operations are applied from the right, whatever they are.
abbrev pub OperationsMean : Type 0
OperationsMean =
    Computes (codes "7 + <n>") (applied Add)
    × Computes (codes "7 - <n>") (applied Sub)
    × Computes (codes "7 * <n>") (applied Mul)
    × Computes (codes "7 // <n>") (applied Div)
    × Computes (codes "7 \\ <n>") (applied Rem)
    × Computes (codes "7 \\\\ <n>") (applied Rem)
    × Computes (codes "7 * 7 - <n>") (apply Mul (number (pos 7)) (applied Sub))

abbrev pub Prints : Text → List Item → Type 0
Prints text items = Does (codes "(write " ++ text ++ codes ")") (action.Write items)

abbrev pub ItemsMean : Type 0
ItemsMean =
    Prints (codes "(crlf)") (Crlf ∷ [])
    × Prints (codes "(tabto 3)") (TabTo 3 ∷ [])
    × Prints (codes "(rjust 3)7") (RightIn 3 ∷ Print seven ∷ [])

-- the first production that is built, with these constants as holes for the x of the first element
abbrev pub Builds : Text → List ℕ → Type 0
Builds text numbers = Does text (action.Build 0 (map (λ n. record { number = n; variable = 0 }) numbers))

-- Constants are counted from 0 on, in the order of the text. In a `compute` none is a hole. The production that is built
-- has variables of its own, and its text is that of the `build`.
abbrev pub BuildsMean : Type 0
BuildsMean =
    Builds (codes "(build s (a ^x \\\\ <n>) -->)") (0 ∷ [])
    × Builds (codes "(build s (a ^x 7 ^y \\ <n>) --> (write 7 \\\\ <n>))") (1 ∷ 3 ∷ [])
    × Builds (codes "(build s (a ^x << 7 \\\\ <n> >>) --> (bind <m> // \\ <n>))") (1 ∷ 2 ∷ [])
    × Builds (codes "(build s (a ^x <m>) --> (write (compute 7 \\\\ <m>)))") []
    × (actions_of (codes "(build s (a) -->)(build s (a) -->)") ≡ action.Build 0 [] ∷ action.Build 1 [] ∷ [])
    × (parts_built (codes "(build s (a ^x <m>) -->)")
    ≡ One (record { class = 0; negated = false; tests = record { field = 0; pred = Eq; operand = Variable 0; binds = true } ∷ [] }) ∷ [])
    × (actions_built (codes "(build s (a ^x <m>) --> (bind <n> <m>) (write <n>))") ≡ action.Bind 1 (term.Variable 0) ∷ action.Write (Print (term.Variable 1) ∷ []) ∷ [])
    × (texts_built (codes "(make a)(build s (a) -->)(build t (a) --> (halt))") ≡ codes "(build s (a) -->)" ∷ codes "(build t (a) --> (halt))" ∷ [])
