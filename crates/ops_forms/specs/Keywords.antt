-- The keywords that symbols can be, as a list, and those of one length.
use Rattle.std.specs.Prelude.{ℕ, ◌==◌, nat_lt, Bool, List, [], ◌∷◌, length, filter, codes, bytes_eq, if◌then◌else◌}
use Rattle.ops_grammar.specs.declared.words.Keyword.{Keyword}
use Rattle.ops_grammar.specs.declared.words.Keyword.TheVariants as keyword

-- a spelling and its keyword
abbrev pub Entry : Type 0
Entry = List ℕ × Keyword

-- the keyword of the first of these that is spelled like this
abbrev pub first_like : List ℕ → List Entry → Keyword
first_like s [] = keyword.Other
first_like s (e ∷ es) = if bytes_eq s e.0 then e.1 else first_like s es

abbrev pub keywords : List Entry
keywords =
    (codes "literalize", keyword.Literalize) ∷
    (codes "vector-attribute", keyword.VectorAttribute) ∷
    (codes "p", keyword.Production) ∷
    (codes "make", keyword.Make) ∷
    (codes "remove", keyword.Remove) ∷
    (codes "modify", keyword.Modify) ∷
    (codes "write", keyword.Write) ∷
    (codes "bind", keyword.Bind) ∷
    (codes "cbind", keyword.Cbind) ∷
    (codes "crlf", keyword.Crlf) ∷
    (codes "tabto", keyword.Tabto) ∷
    (codes "rjust", keyword.Rjust) ∷
    (codes "substr", keyword.Substr) ∷
    (codes "inf", keyword.Inf) ∷
    (codes "halt", keyword.Halt) ∷
    (codes "build", keyword.Build) ∷
    (codes "compute", keyword.Compute) ∷
    (codes "genatom", keyword.Genatom) ∷
    (codes "accept", keyword.Accept) ∷
    (codes "+", keyword.Plus) ∷
    (codes "*", keyword.Times) ∷
    (codes "\\\\", keyword.Remainder) ∷
    (codes "\\", keyword.Remainder) ∷
    (codes "run", keyword.Run) ∷
    (codes "strategy", keyword.Strategy) ∷
    (codes "lex", keyword.Lex) ∷
    (codes "mea", keyword.Mea) ∷
    (codes "wm", keyword.Wm) ∷
    (codes "ppwm", keyword.Ppwm) ∷
    (codes "cs", keyword.Cs) ∷
    (codes "pm", keyword.Pm) ∷
    (codes "watch", keyword.Watch) ∷
    (codes "pbreak", keyword.Pbreak) ∷
    (codes "excise", keyword.Excise) ∷
    (codes "matches", keyword.Matches) ∷
    (codes "back", keyword.Back) ∷
    (codes "exit", keyword.Exit) ∷ []

-- those of which the length passes
abbrev pub among : (ℕ → Bool) → List Entry → List Entry
among keep es = filter (λ e. keep (length e.0)) es

-- those of this length
abbrev pub as_long_as : ℕ → List Entry
as_long_as n = among (λ m. m == n) keywords

-- those of more than seven bytes
abbrev pub longer : List Entry
longer = among (λ m. nat_lt 7 m) keywords
