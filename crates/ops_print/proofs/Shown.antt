-- The pieces that elements and instantiations are put in.
use Rattle.std.proofs.Common.{◌≡◌, ℕ, suc, ◌+◌, ◌<◌, List, [], ◌∷◌, ◌++◌, length, drop, get_or, decimal, codes, ◌==◌, Bool, true, false, refl, ap, sym, ◌∙◌, append_assoc, arith}
use Rattle.std.specs.Prelude.{nat_lt, slice_get, unwrap_or, Option, None}
use Rattle.std.proofs.lemmas.Bool.{ltb-false}
use Rattle.std.proofs.lemmas.List.{append-nil, drop_more}
use Rattle.std.proofs.lemmas.Option.{slice_get_past}
use Rattle.ops_base.specs.declared.elements.Class.{Class}
use Rattle.ops_base.specs.declared.elements.Element.{Element}
use Rattle.ops_base.specs.declared.values.Sym.{Sym}
use Rattle.ops_base.specs.declared.values.Value.{Value}
use Rattle.ops_base.specs.Names.{Spellings}
use Rattle.ops_base.specs.Valid.{no_class}
use Rattle.ops_meaning.specs.Layout.{symbol_text, shown_value, shown_values, attribute_text, attributes_text, values_shown, element_text, tags_text}

-- ---- one more

-- the values from a place on begin with the value there
pub values_here : (names : Spellings) (vs : List Value) (i : ℕ) (d : Value) → i < length vs → shown_values names (drop i vs) ≡ (32 ∷ shown_value names (get_or vs i d)) ++ shown_values names (drop (i + 1) vs)
values_here names vs i d within = ap (shown_values names) (drop_more vs i d within)

-- the tags from a place on begin with the tag there
pub tags_here : (ts : List ℕ) (i d : ℕ) → i < length ts → tags_text (drop i ts) ≡ (codes " " ++ decimal (get_or ts i d) ++ []) ++ tags_text (drop (i + 1) ts)
tags_here ts i d within =
    ap tags_text (drop_more ts i d within) ∙ ap (λ tag. (32 ∷ tag) ++ tags_text (drop (i + 1) ts)) (sym (append-nil (decimal (get_or ts i d))))

-- the attributes from a place on begin with the attribute there
pub attributes_here : (names : Spellings) (c : Class) (e : Element) (as_ : List Sym) (i : ℕ) (d : Sym) (vs : List Value) → i < length as_ → vs ≡ values_shown c e i
    → attributes_text names c e i (drop i as_) ≡ attribute_text names (get_or as_ i d) vs ++ attributes_text names c e (i + 1) (drop (i + 1) as_)
attributes_here names c e as_ i d vs within same =
    let more : suc i ≡ i + 1 = omega arith in
    ap (attributes_text names c e i) (drop_more as_ i d within)
    ∙ ap (λ n. attribute_text names (get_or as_ i d) (values_shown c e i) ++ attributes_text names c e n (drop (i + 1) as_)) more
    ∙ ap (λ vs. attribute_text names (get_or as_ i d) vs ++ attributes_text names c e (i + 1) (drop (i + 1) as_)) (sym same)

-- ---- pieces

-- an attribute that has values
pub attribute_pieces : (names : Spellings) (a : Sym) (vs : List Value) → (length vs == 0) ≡ false → attribute_text names a vs ≡ (codes " ^" ++ symbol_text names a ++ []) ++ shown_values names vs
attribute_pieces names a [] some = cc
attribute_pieces names a (v ∷ vs) some = ap (λ name. (codes " ^" ++ name) ++ shown_values names (v ∷ vs)) (sym (append-nil (symbol_text names a)))

-- an element
pub element_pieces : (name attributes : List ℕ) → codes "(" ++ name ++ attributes ++ codes ")" ≡ (codes "(" ++ name ++ []) ++ (attributes ++ codes ")")
element_pieces name attributes = by (codes "(" ++ name) attributes
  where
    by : (a b : List ℕ) → (a ++ b) ++ codes ")" ≡ (a ++ []) ++ (b ++ codes ")")
    by a b = simp (append_assoc, append-nil)

-- an element of no class
pub nameless_pieces : (names : Spellings) (classes : List Class) (e : Element) → nat_lt e.class (length classes) ≡ false → element_text names classes e ≡ codes "(" ++ symbol_text names (record { 0 = 0 }) ++ codes ")"
nameless_pieces names classes e past =
    let none : slice_get classes e.class ≡ None = slice_get_past classes e.class (ltb-false _ _ past) in
    ap (λ (o : Option Class). let c = unwrap_or o no_class in codes "(" ++ symbol_text names c.name ++ attributes_text names c e 0 c.attrs ++ codes ")") none
    ∙ ap (λ text. text ++ codes ")") (append-nil (codes "(" ++ symbol_text names (record { 0 = 0 })))

-- the line of an element
pub element_line_pieces : (fresh before tag element : List ℕ) → fresh ++ ((before ++ (tag ++ codes ": " ++ element)) ++ 10 ∷ []) ≡ fresh ++ ((before ++ tag ++ codes ": ") ++ (element ++ 10 ∷ []))
element_line_pieces fresh before tag element = simp append_assoc

-- the line of a firing
pub firing_pieces : (fresh firing inst : List ℕ) → fresh ++ ((firing ++ codes ". " ++ inst) ++ 10 ∷ []) ≡ fresh ++ ((firing ++ codes ". ") ++ (inst ++ 10 ∷ []))
firing_pieces fresh firing inst = simp append_assoc

-- the line of a partial match
pub partial_pieces : (fresh name parts tags : List ℕ) → fresh ++ ((name ++ codes " " ++ parts ++ codes ":" ++ tags) ++ 10 ∷ []) ≡ fresh ++ (name ++ ((codes " " ++ parts ++ codes ":") ++ (tags ++ 10 ∷ [])))
partial_pieces fresh name parts tags = simp append_assoc
