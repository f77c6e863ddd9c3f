-- One more production among those that have the conditions of an earlier one.
use Rattle.std.proofs.Common.{◌≡◌, ℕ, List, ◌∷◌, ◌++◌, Option, sym, ap, ◌∙◌, append_assoc}
use Rattle.ops_base.specs.declared.values.Sym.{Sym}
use Rattle.ops_base.specs.declared.rules.Rule.{Rule}
use Rattle.program_slips.specs.declared.alike.Twin.{Twin}
use Rattle.program_slips.specs.Texts.{met_at, with_text}
use Rattle.program_slips.specs.Alike.{left_text, twins_of, names_after, twins_by}

pub one_added : (found new : List Twin) (names after : List Sym) (texts later : List (List ℕ)) (r : Rule) (text : List ℕ) (place : Option ℕ) (rest : List Rule)
    → text ≡ left_text r → place ≡ met_at texts text → later ≡ with_text texts text → new ≡ found ++ twins_of names r place → after ≡ names_after names r place
    → found ++ twins_by texts names (r ∷ rest) ≡ new ++ twins_by later after rest
one_added found new names after texts later r text place rest is at puts adds calls =
    let T : Option ℕ → List Twin = λ o. found ++ (twins_of names r o ++ twins_by (with_text texts (left_text r)) (names_after names r o) rest) in
    let met : met_at texts (left_text r) ≡ place = ap (λ s. met_at texts s) (sym is) ∙ sym at in
    let next : with_text texts (left_text r) ≡ later = ap (λ s. with_text texts s) (sym is) ∙ sym puts in
    ap T met ∙ sym (append_assoc found (twins_of names r place) (twins_by (with_text texts (left_text r)) (names_after names r place) rest))
    ∙ ap (λ xs. xs ++ twins_by (with_text texts (left_text r)) (names_after names r place) rest) (sym adds)
    ∙ ap (λ ns. new ++ twins_by (with_text texts (left_text r)) ns rest) (sym calls)
    ∙ ap (λ ts. new ++ twins_by ts after rest) next
