-- The productions that commands add.
use Rattle.std.proofs.Common.{◌≡◌, ℕ, ◌≤◌, ◌+◌, Bool, true, false, not, ◌&&◌, ◌||◌, ◌==◌, List, [], ◌∷◌, ◌++◌, length, map, refl, sym, ap, ◌∙◌, arith, true≢false, append-nil, append_assoc, length-append}
use Rattle.std.specs.Prelude.{if◌then◌else◌}
use Rattle.std.specs.List.{list_all}
use Rattle.std.proofs.lemmas.Bool.{and_parts, and_from, or_parts, or_from, not-true, not_from_false}
use Rattle.std.proofs.lemmas.Grind.{flat_map-append}
use Rattle.std.proofs.lemmas.List.Folds.{list_any-append}
use Rattle.ops_base.specs.declared.rules.Rule.{Rule}
use Rattle.ops_base.specs.declared.commands.Command.{Command}
use Rattle.ops_base.specs.declared.commands.Command.TheVariants as command
use Rattle.ops_base.specs.Valid.{is_in, are_distinct, command_builds_from}
use Rattle.ops_grammar.specs.Grammar.{precedes_rules, added, added_by, has_title, rules_with, commands_with}
use Rattle.ops_grammar.specs.Spelling.{titles_are_distinct, is_add, adds_late}
use Rattle.ops_grammar.proofs.Lists.{cond_alike, named_apart}

-- ---- what is added

none_before : (c : Command) → precedes_rules c ≡ true → added c ≡ []
none_before (command.Add r) e = absurd (true≢false (sym e))
none_before _ e = refl

-- before the first `make` and the first `run` none is added
pub none_added : (cs : List Command) → list_all precedes_rules cs ≡ true → added_by cs ≡ []
none_added [] e = refl
none_added (c ∷ cs) e =
    let parts = and_parts (precedes_rules c) (list_all precedes_rules cs) e in
    ap (λ (rs : List Rule). rs ++ added_by cs) (none_before c parts.0) ∙ none_added cs parts.1

none_by : (c : Command) → not (is_add c) ≡ true → added c ≡ []
none_by (command.Add r) e = absurd (true≢false (sym e))
none_by _ e = refl

-- another command builds nothing
pub other_builds : (n : ℕ) (c : Command) → not (is_add c) ≡ true → command_builds_from n c ≡ true
other_builds n (command.Add r) e = absurd (true≢false (sym e))
other_builds n _ e = refl

pub added_other : (cs : List Command) (c : Command) → not (is_add c) ≡ true → added_by (cs ++ c ∷ []) ≡ added_by cs
added_other cs c e =
    flat_map-append added cs (c ∷ []) ∙ ap (λ (rs : List Rule). added_by cs ++ (rs ++ [])) (none_by c e) ∙ append-nil (added_by cs)

pub added_rule : (cs : List Command) (r : Rule) → added_by (cs ++ command.Add r ∷ []) ≡ added_by cs ++ r ∷ []
added_rule cs r = flat_map-append added cs (command.Add r ∷ [])

-- ---- after a `make` or a `run`

still_late : (b : Bool) {x y : Bool} → (x ≡ true → y ≡ true) → (if b then x else true) ≡ true → (if b then y else true) ≡ true
still_late true f h = f h
still_late false f h = refl

pub late_other : (cs : List Command) (c : Command) → adds_late cs ≡ true → not (is_add c) ≡ true → adds_late (cs ++ c ∷ []) ≡ true
late_other [] c h e = and_from _ _ e (cond_alike (precedes_rules c) refl refl)
late_other (d ∷ ds) c h e =
    let parts = and_parts (not (is_add d)) (if precedes_rules d then adds_late ds else true) h in
    and_from _ _ parts.0 (still_late (precedes_rules d) (λ late. late_other ds c late e) parts.1)

late_behind : (b z : Bool) {x y : Bool} → (b && z) ≡ false → (x ≡ true → z ≡ false → y ≡ true) → (if b then x else true) ≡ true → (if b then y else true) ≡ true
late_behind true z e f h = f h e
late_behind false z e f h = refl

pub late_rule : (cs : List Command) (r : Rule) → adds_late cs ≡ true → list_all precedes_rules cs ≡ false → adds_late (cs ++ command.Add r ∷ []) ≡ true
late_rule [] r h e = absurd (true≢false e)
late_rule (d ∷ ds) r h e =
    let parts = and_parts (not (is_add d)) (if precedes_rules d then adds_late ds else true) h in
    and_from _ _ parts.0 (late_behind (precedes_rules d) (list_all precedes_rules ds) e (λ late some. late_rule ds r late some) parts.1)

late_here : (b : Bool) {x z : Bool} → (x ≡ true → z ≡ false) → (if b then x else true) ≡ true → (b && z) ≡ false
late_here true f h = f h
late_here false f h = refl

-- a `make` or a `run` stands before a production that is added
pub late_at : (ds : List Command) (r : Rule) (cs : List Command) → adds_late (ds ++ command.Add r ∷ cs) ≡ true → list_all precedes_rules ds ≡ false
late_at [] r cs h = absurd (true≢false (sym h))
late_at (d ∷ ds) r cs h =
    let parts = and_parts (not (is_add d)) (if precedes_rules d then adds_late (ds ++ command.Add r ∷ cs) else true) h in
    late_here (precedes_rules d) (λ late. late_at ds r cs late) parts.1

-- ---- names of productions

absent_front : {X : Type 0} (f : X → ℕ) (k : ℕ) (xs ys : List X) → is_in k (map f (xs ++ ys)) ≡ false → is_in k (map f xs) ≡ false
absent_front f k [] ys e = refl
absent_front f k (x ∷ xs) ys e =
    let parts = or_parts (f x == k) (is_in k (map f (xs ++ ys))) e in or_from _ _ parts.0 (absent_front f k xs ys parts.1)

pub distinct_front : {X : Type 0} (f : X → ℕ) (xs ys : List X) → are_distinct (map f (xs ++ ys)) ≡ true → are_distinct (map f xs) ≡ true
distinct_front f [] ys h = refl
distinct_front f (x ∷ xs) ys h =
    let parts = and_parts (not (is_in (f x) (map f (xs ++ ys)))) (are_distinct (map f (xs ++ ys))) h in
    and_from _ _ (not_from_false _ (absent_front f (f x) xs ys (not-true _ parts.0))) (distinct_front f xs ys parts.1)

abbrev pub title : Rule → ℕ
title r = r.name.0

-- one more of the beginning
pub titles_front : (rules : List Rule) (cs : List Command) (r : Rule) → list_all precedes_rules cs ≡ true → titles_are_distinct rules cs ≡ true → (has_title r.name rules || has_title r.name (added_by cs)) ≡ false → titles_are_distinct (rules ++ r ∷ []) cs ≡ true
titles_front rules cs r e h new =
    let parts = or_parts (has_title r.name rules) (has_title r.name (added_by cs)) new in
    ap (λ (rs : List Rule). are_distinct (map title ((rules ++ r ∷ []) ++ rs))) (none_added cs e)
    ∙ ap (λ (rs : List Rule). are_distinct (map title rs)) (append-nil (rules ++ r ∷ []))
    ∙ named_apart title rules r (distinct_front title rules (added_by cs) h) parts.0

-- one more that is added
pub titles_behind : (rules : List Rule) (cs : List Command) (r : Rule) → titles_are_distinct rules cs ≡ true → (has_title r.name rules || has_title r.name (added_by cs)) ≡ false → titles_are_distinct rules (cs ++ command.Add r ∷ []) ≡ true
titles_behind rules cs r h new =
    ap (λ (rs : List Rule). are_distinct (map title (rules ++ rs))) (added_rule cs r)
    ∙ ap (λ (rs : List Rule). are_distinct (map title rs)) (sym (append_assoc rules (added_by cs) (r ∷ [])))
    ∙ named_apart title (rules ++ added_by cs) r h (list_any-append (λ s. s.name.0 == r.name.0) rules (added_by cs) ∙ new)

-- one more command that adds none
pub titles_other : (rules : List Rule) (cs : List Command) (c : Command) → titles_are_distinct rules cs ≡ true → not (is_add c) ≡ true → titles_are_distinct rules (cs ++ c ∷ []) ≡ true
titles_other rules cs c h e = ap (λ (rs : List Rule). are_distinct (map title (rules ++ rs))) (added_other cs c e) ∙ h

-- ---- one production more makes no list longer by more than one

pub rules_longer : (b : Bool) (rules : List Rule) (r : Rule) → length (rules_with b rules r) ≤ length rules + 1
rules_longer true rules r = omega (arith, length-append rules (r ∷ []))
rules_longer false rules r = omega arith

pub commands_longer : (b : Bool) (commands : List Command) (r : Rule) → length (commands_with b commands r) ≤ length commands + 1
commands_longer true commands r = omega arith
commands_longer false commands r = omega (arith, length-append commands (command.Add r ∷ []))
