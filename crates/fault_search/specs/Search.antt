-- All faults of a text.
use Rattle.std.specs.Prelude.{ℕ, zero, suc, ◌+◌, List, [], ◌∷◌, codes, bytes_eq, Bool, false, ◌||◌, if◌then◌else◌, Option, Some, None, Ok}
use Rattle.ops_tokens.specs.Tokens.{Next, token_at, spelling}
use Rattle.fault_search.specs.declared.first.PlacedFault.{PlacedFault}
use Rattle.fault_search.specs.First.{fault_of_text}
use Rattle.fault_search.specs.declared.forms.Span.{Span}
use Rattle.fault_search.specs.Forms.{form_at}
use Rattle.fault_search.specs.Blanks.{blanked}

abbrev pub is_declaring : List ℕ → Next → Bool
is_declaring text (Ok (Some t)) = bytes_eq (spelling text t) (codes "literalize") || bytes_eq (spelling text t) (codes "vector-attribute")
is_declaring text _ = false

-- the form that begins at this bracket declares a class or vector attributes
abbrev pub declares : List ℕ → ℕ → Bool
declares text first = is_declaring text (token_at text (first + 1))

abbrev pub text_by : List ℕ → Option Span → Option (List ℕ)
text_by text None = None
text_by text (Some form) = if declares text form.first then None else Some (blanked text form)

-- The text in which the search continues after a fault at this place: the text without the form that is open there.
-- There is none if no form is open, or if that form declares something, which the forms after it may need.
abbrev pub text_after : List ℕ → ℕ → Option (List ℕ)
text_after text at = text_by text (form_at text at)

abbrev pub found_in : (List ℕ → List PlacedFault) → Option (List ℕ) → List PlacedFault
found_in search None = []
found_in search (Some text) = search text

abbrev pub found_by : (List ℕ → List PlacedFault) → List ℕ → Option PlacedFault → List PlacedFault
found_by search text None = []
found_by search text (Some f) = f ∷ found_in search (text_after text f.at)

-- at most this many faults of a text: its first one, and those of the text in which the search continues after it
abbrev pub faults_of : ℕ → List ℕ → List PlacedFault
faults_of zero text = []
faults_of (suc n) text = found_by (faults_of n) text (fault_of_text text)
