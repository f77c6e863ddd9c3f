-- The contents of files, as far as they are known, and which load failed.
use Rattle.std.specs.Prelude.{ℕ, ◌-◌, nat_lt, List, [], ◌∷◌, length, if◌then◌else◌, Option, Some, None}

-- P holds for the content of a file if it is known, and otherwise for some content.
abbrev pub OfContent : Option (Option (List ℕ)) → (Option (List ℕ) → Type 0) → Type 0
OfContent (Some content) P = P content
OfContent None P = (content : Option (List ℕ)) × P content

-- P holds for some contents of these files, in order, in which each content that is known is the known one.
abbrev pub OfContents : (List ℕ → Option (Option (List ℕ))) → List (List ℕ) → (List (Option (List ℕ)) → Type 0) → Type 0
OfContents told [] P = P []
OfContents told (name ∷ names) P = OfContent (told name) (λ content. OfContents told names (λ contents. P (content ∷ contents)))

-- Which load of a call failed, counted from 1: the last one, if the count of failures rose.
abbrev pub broken_load : (old new : List (List ℕ)) → (before now : ℕ) → Option ℕ
broken_load old new before now = if nat_lt before now then Some (length new - length old) else None
