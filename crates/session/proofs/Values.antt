-- The values of an element from a field on.
use Rattle.std.proofs.Common.{◌≡◌, ◌∙◌, ap, sym, ℕ, suc, ◌+◌, ◌<◌, List, drop, get_or, length, Bool, ◌&&◌, unwrap_or, slice_get, arith}
use Rattle.std.proofs.lemmas.List.{drop_more, get_or-drop}
use Rattle.std.proofs.lemmas.Option.{unwrap_or-slice_get}
use Rattle.ops_base.specs.declared.elements.Element.{Element}
use Rattle.ops_base.specs.declared.values.Value.{Value}
use Rattle.ops_base.specs.Values.{are_same, nil}
use Rattle.ops_base.specs.WorkingMemory.{field_of}
use Rattle.ops_meaning.specs.Running.{has_values}

-- a value of the fields from one on
field_from : (e : Element) (field i : ℕ) → unwrap_or (slice_get (drop field e.fields) i) nil ≡ field_of e (field + i)
field_from e field i =
    unwrap_or-slice_get (drop field e.fields) i nil ∙ get_or-drop field e.fields i nil ∙ sym (unwrap_or-slice_get e.fields (field + i) nil)

-- the values from a place on stand there where the one there does and those after it do
pub values_here : (e : Element) (field : ℕ) (fields values : List Value) (i : ℕ) (d v : Value) (same : Bool) → fields ≡ drop field e.fields → v ≡ unwrap_or (slice_get fields i) nil → same ≡ are_same v (get_or values i d) → i < length values
    → has_values e (field + i) (drop i values) ≡ (same && has_values e (field + (i + 1)) (drop (i + 1) values))
values_here e field fields values i d v same from at test within =
    let next : suc (field + i) ≡ field + (i + 1) = omega arith in
    let behind = drop (i + 1) values in
    let here : v ≡ field_of e (field + i) = at ∙ ap (λ (vs : List Value). unwrap_or (slice_get vs i) nil) from ∙ field_from e field i in
    ap (has_values e (field + i)) (drop_more values i d within)
    ∙ ap (λ n. are_same (field_of e (field + i)) (get_or values i d) && has_values e n behind) next
    ∙ ap (λ b. b && has_values e (field + (i + 1)) behind) (ap (λ w. are_same w (get_or values i d)) (sym here) ∙ sym test)
