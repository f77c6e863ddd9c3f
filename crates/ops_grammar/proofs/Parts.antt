-- What is valid where one more test, condition or action stands at the end.
use Rattle.std.proofs.Common.{◌≡◌, ℕ, zero, suc, ◌<◌, ◌≤◌, Bool, true, false, cond, List, [], ◌∷◌, ◌++◌, length, take, Some, refl, ap, sym, ◌∙◌, slice_get, arith, ◌+◌, true≢false, length-append, append_assoc, append-nil, not, ◌&&◌}
use Rattle.std.specs.List.{list_any}
use Rattle.std.proofs.lemmas.Bool.{and_parts, and_from, or_parts, not-true, not_from_false}
use Rattle.ops_base.specs.declared.elements.Class.{Class}
use Rattle.ops_base.specs.declared.conditions.Test.{Test}
use Rattle.ops_base.specs.declared.conditions.Condition.{Condition}
use Rattle.ops_base.specs.declared.conditions.Part.{Part}
use Rattle.ops_base.specs.declared.conditions.Part.TheVariants.{One, Group}
use Rattle.ops_base.specs.declared.actions.Action.{Action}
use Rattle.ops_base.specs.Valid.{Sight, test_is_valid, sight_after, tests_are_valid, sight_after_tests, part_is_valid, sight_after_part, parts_are_valid, sight_after_parts, elements_of, cells_of, Known, action_is_valid, known_after, actions_are_valid, known_after_actions, first_is_positive, members_are_valid, sight_after_members, condition_is_valid}
use Rattle.ops_grammar.specs.Grammar.{is_absent}

pub tests_push : (c : Class) (s : Sight) (ts : List Test) (t : Test) → tests_are_valid c s ts ≡ true → test_is_valid c (sight_after_tests s ts) t ≡ true → tests_are_valid c s (ts ++ t ∷ []) ≡ true
tests_push c s [] t h e = and_from _ _ e refl
tests_push c s (u ∷ ts) t h e =
    let parts = and_parts (test_is_valid c s u) (tests_are_valid c (sight_after s u) ts) h in
    and_from _ _ parts.0 (tests_push c (sight_after s u) ts t parts.1 e)

pub sight_push : (s : Sight) (ts : List Test) (t : Test) → sight_after_tests s (ts ++ t ∷ []) ≡ sight_after (sight_after_tests s ts) t
sight_push s [] t = refl
sight_push s (u ∷ ts) t = sight_push (sight_after s u) ts t

pub conditions_push : (classes : List Class) (s : Sight) (cs : List Part) (c : Part) → parts_are_valid classes s cs ≡ true → part_is_valid classes (sight_after_parts s cs) c ≡ true → parts_are_valid classes s (cs ++ c ∷ []) ≡ true
conditions_push classes s [] c h e = and_from _ _ e refl
conditions_push classes s (d ∷ cs) c h e =
    let parts = and_parts (part_is_valid classes s d) (parts_are_valid classes (sight_after_part s d) cs) h in
    and_from _ _ parts.0 (conditions_push classes (sight_after_part s d) cs c parts.1 e)

pub sight_conditions_push : (s : Sight) (cs : List Part) (c : Part) → sight_after_parts s (cs ++ c ∷ []) ≡ sight_after_part (sight_after_parts s cs) c
sight_conditions_push s [] c = refl
sight_conditions_push s (d ∷ cs) c = sight_conditions_push (sight_after_part s d) cs c

pub actions_push : (classes : List Class) (k : Known) (xs : List Action) (a : Action) → actions_are_valid classes k xs ≡ true → action_is_valid classes (known_after_actions k xs) a ≡ true → actions_are_valid classes k (xs ++ a ∷ []) ≡ true
actions_push classes k [] a h e = and_from _ _ e refl
actions_push classes k (b ∷ xs) a h e =
    let parts = and_parts (action_is_valid classes k b) (actions_are_valid classes (known_after k b) xs) h in
    and_from _ _ parts.0 (actions_push classes (known_after k b) xs a parts.1 e)

pub known_push : (k : Known) (xs : List Action) (a : Action) → known_after_actions k (xs ++ a ∷ []) ≡ known_after (known_after_actions k xs) a
known_push k [] a = refl
known_push k (b ∷ xs) a = known_push (known_after k b) xs a

-- one more condition after others leaves the first as it is
pub first_push : (cs : List Part) (c : Condition) → (0 < length cs → first_is_positive cs ≡ true) → (length cs ≡ 0 → c.negated ≡ false) → first_is_positive (cs ++ One c ∷ []) ≡ true
first_push [] c h e = not_from_false _ (e refl)
first_push (One d ∷ cs) c h e = h (omega arith)
first_push (Group ds ∷ cs) c h e = h (omega arith)

-- a positive condition after positive ones has the cell with its number
pub has_cell : (cs : List Part) (k : ℕ) (c : Part) → slice_get cs k ≡ Some c → is_absent c ≡ false → list_any is_absent (take k cs) ≡ false → k < length (cells_of cs)
has_cell [] k c at positive plain = absurd (cc)
has_cell (One d ∷ cs) zero c at positive plain =
    let same : One d ≡ c = cc in
    let here : d.negated ≡ false = ap is_absent same ∙ positive in
    rw here (omega arith)
has_cell (Group ds ∷ cs) zero c at positive plain =
    let same : Group ds ≡ c = cc in
    absurd (true≢false (ap is_absent same ∙ positive))
has_cell (Group ds ∷ cs) (suc k) c at positive plain = absurd (true≢false plain)
has_cell (One d ∷ cs) (suc k) c at positive plain =
    let parts = or_parts d.negated (list_any is_absent (take k cs)) plain in
    let rest = has_cell cs k c at positive parts.1 in
    rw parts.0 (omega (arith, rest))

-- where the first condition is positive there is a cell
pub some_cell : (cs : List Part) → first_is_positive cs ≡ true → 0 < length (cells_of cs)
some_cell [] e = absurd (cc)
some_cell (Group ds ∷ cs) e = absurd (true≢false (sym e))
some_cell (One c ∷ cs) e = rw (not-true c.negated e) (omega arith)

cells_by : (b : Bool) (class : ℕ) (xs ys : List ℕ) → length xs ≤ length ys → length (cond b xs (class ∷ xs)) ≤ length (cond b ys (class ∷ ys))
cells_by true class xs ys le = le
cells_by false class xs ys le = omega arith

-- one more condition takes no cell away
pub cells_push : (cs : List Part) (c : Part) → length (cells_of cs) ≤ length (cells_of (cs ++ c ∷ []))
cells_push [] c = omega arith
cells_push (Group ds ∷ cs) c = cells_push cs c
cells_push (One d ∷ cs) c = cells_by d.negated d.class (cells_of cs) (cells_of (cs ++ c ∷ [])) (cells_push cs c)

-- the conditions of parts after others
pub elements-append : (cs ds : List Part) → elements_of (cs ++ ds) ≡ elements_of cs ++ elements_of ds
elements-append [] ds = refl
elements-append (One c ∷ cs) ds = ap (λ (xs : List Condition). c ∷ xs) (elements-append cs ds)
elements-append (Group ms ∷ cs) ds =
    ap (λ (xs : List Condition). ms ++ xs) (elements-append cs ds) ∙ sym (append_assoc ms (elements_of cs) (elements_of ds))

-- one more condition is one more
pub elements_push : (cs : List Part) (c : Condition) → length (elements_of (cs ++ One c ∷ [])) ≡ length (elements_of cs) + 1
elements_push cs c = ap length (elements-append cs (One c ∷ [])) ∙ length-append (elements_of cs) (c ∷ [])

-- where no part is, no condition is
pub no_elements : (cs : List Part) → length cs ≡ 0 → length (elements_of cs) ≡ 0
no_elements [] none = refl
no_elements (p ∷ ps) none = absurd (omega (arith, none))

pub members_push : (classes : List Class) (s : Sight) (cs : List Condition) (c : Condition) → members_are_valid classes s cs ≡ true → (not c.negated && condition_is_valid classes (sight_after_members s cs) c) ≡ true → members_are_valid classes s (cs ++ c ∷ []) ≡ true
members_push classes s [] c h e = and_from _ _ e refl
members_push classes s (d ∷ cs) c h e =
    let parts = and_parts (not d.negated && condition_is_valid classes s d) (members_are_valid classes (sight_after_tests s d.tests) cs) h in
    and_from _ _ parts.0 (members_push classes (sight_after_tests s d.tests) cs c parts.1 e)

pub sight_members_push : (s : Sight) (cs : List Condition) (c : Condition) → sight_after_members s (cs ++ c ∷ []) ≡ sight_after_tests (sight_after_members s cs) c.tests
sight_members_push s [] c = refl
sight_members_push s (d ∷ cs) c = sight_members_push (sight_after_tests s d.tests) cs c

-- a group after others leaves the first as it is
pub first_push_group : (ps : List Part) (cs : List Condition) → 0 < length ps → first_is_positive ps ≡ true → first_is_positive (ps ++ Group cs ∷ []) ≡ true
first_push_group [] cs some h = absurd (omega (arith, some))
first_push_group (One d ∷ ps) cs some h = h
first_push_group (Group ds ∷ ps) cs some h = h

-- a group more is its members more
pub elements_push_group : (ps : List Part) (cs : List Condition) → length (elements_of (ps ++ Group cs ∷ [])) ≡ length (elements_of ps) + length cs
elements_push_group ps cs =
    ap length (elements-append ps (Group cs ∷ [])) ∙ length-append (elements_of ps) (cs ++ []) ∙ ap (λ (xs : List Condition). length (elements_of ps) + length xs) (append-nil cs)
