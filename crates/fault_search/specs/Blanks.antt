-- A text without one of its forms.
use Rattle.std.specs.Prelude.{ℕ, ◌==◌, List, ◌++◌, map, take, drop, slice_range, if◌then◌else◌}
use Rattle.fault_search.specs.declared.forms.Span.{Span}

-- an LF stays, and a space replaces any other byte
abbrev pub blank : ℕ → ℕ
blank b = if b == 10 then 10 else 32

-- each byte of the part is blanked
abbrev pub blanked : List ℕ → Span → List ℕ
blanked text part = take part.first text ++ map blank (slice_range text part.first part.past) ++ drop part.past text
