-- Which of two instantiations dominates.
use Rattle.std.specs.Prelude.{ℕ, List, [], ◌∷◌, Bool, true, false, nat_le, if◌then◌else◌, unwrap_or, option_map, slice_get}
use Rattle.std.specs.declared.cmp.Ordering.{Ordering}
use Rattle.std.specs.declared.cmp.Ordering.TheVariants.{Less, Equal, Greater}
use Rattle.std.specs.Ordering.{nat_cmp, ordering_then}
use Rattle.std.specs.Cmp.Lexicographic.{slice_cmp}
use Rattle.ops_base.specs.declared.rules.Rule.{Rule}
use Rattle.ops_base.specs.declared.rules.Inst.{Inst}
use Rattle.ops_base.specs.declared.commands.Strategy.{Strategy}
use Rattle.ops_base.specs.declared.commands.Strategy.TheVariants.{Lex, Mea}

-- puts a tag before the first that is not above it
abbrev pub insert_down : ℕ → List ℕ → List ℕ
insert_down x [] = x ∷ []
insert_down x (y ∷ ys) = if nat_le y x then x ∷ y ∷ ys else y ∷ insert_down x ys

-- the tags from the greatest down
abbrev pub downwards : List ℕ → List ℕ
downwards [] = []
downwards (x ∷ xs) = insert_down x (downwards xs)

abbrev pub specificity_of : List Rule → ℕ → ℕ
specificity_of rules n = unwrap_or (option_map (λ r. r.specificity) (slice_get rules n)) 0

abbrev pub first_tag : Inst → ℕ
first_tag i = unwrap_or (slice_get i.tags 0) 0

-- Under LEX the tags sorted downwards decide first, then the specificity, then the earlier production, then the tags in
-- condition order. Of two lists of tags the first difference decides; where one is the beginning of the other, the longer
-- is greater.
abbrev pub compare_lex : List Rule → Inst → Inst → Ordering
compare_lex rules i j =
    ordering_then (slice_cmp nat_cmp (downwards i.tags) (downwards j.tags))
    (ordering_then (nat_cmp (specificity_of rules i.rule) (specificity_of rules j.rule))
    (ordering_then (nat_cmp j.rule i.rule) (slice_cmp nat_cmp i.tags j.tags)))

-- Under MEA the tag of the first condition decides before all else.
abbrev pub compare_insts : Strategy → List Rule → Inst → Inst → Ordering
compare_insts Lex rules i j = compare_lex rules i j
compare_insts Mea rules i j = ordering_then (nat_cmp (first_tag i) (first_tag j)) (compare_lex rules i j)

abbrev pub is_greater : Ordering → Bool
is_greater Less = false
is_greater Equal = false
is_greater Greater = true

-- the first dominates the second
abbrev pub dominates : Strategy → List Rule → Inst → Inst → Bool
dominates strategy rules i j = is_greater (compare_insts strategy rules i j)
