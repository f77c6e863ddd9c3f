-- A program that has only the first of its productions is valid.
use Rattle.std.proofs.Common.{◌≡◌, ℕ, zero, suc, List, [], ◌∷◌, length, take, map, Bool, true, false, not, ◌||◌, ◌==◌, refl, sym, subst, IsTrue, true≢false}
use Rattle.std.specs.List.{list_all}
use Rattle.std.proofs.lemmas.Bool.{and_parts, and_from}
use Rattle.ops_base.specs.declared.commands.Command.{Command}
use Rattle.ops_base.specs.declared.elements.Class.{Class}
use Rattle.ops_base.specs.declared.programs.Program.{Program}
use Rattle.ops_base.specs.declared.rules.Rule.{Rule}
use Rattle.ops_base.specs.Valid.{is_in, are_distinct, rule_is_valid, rule_builds_from, is_valid}

-- what all pass, the first pass
all_first : {X : Type 0} (p : X → Bool) (n : ℕ) (xs : List X) → list_all p xs ≡ true → list_all p (take n xs) ≡ true
all_first p zero xs h = refl
all_first p (suc n) [] h = refl
all_first p (suc n) (x ∷ xs) h =
    let parts = and_parts (p x) (list_all p xs) h in and_from _ _ parts.0 (all_first p n xs parts.1)

not_true : (b : Bool) → not b ≡ true → b ≡ false
not_true true h = absurd (true≢false (sym h))
not_true false h = refl

not_false : (b : Bool) → b ≡ false → not b ≡ true
not_false true h = absurd (true≢false h)
not_false false h = refl

neither : (a b : Bool) → (a || b) ≡ false → (a ≡ false) × (b ≡ false)
neither true b h = absurd (true≢false h)
neither false b h = (refl, h)

both_false : (a b : Bool) → a ≡ false → b ≡ false → (a || b) ≡ false
both_false true b h k = absurd (true≢false h)
both_false false b h k = k

-- a name that none has, none of the first has
absent_first : (x n : ℕ) (rules : List Rule) → is_in x (map (λ r. r.name.0) rules) ≡ false → is_in x (map (λ r. r.name.0) (take n rules)) ≡ false
absent_first x zero rules h = refl
absent_first x (suc n) [] h = refl
absent_first x (suc n) (r ∷ rules) h =
    let parts = neither (r.name.0 == x) (is_in x (map (λ r. r.name.0) rules)) h in
    both_false _ _ parts.0 (absent_first x n rules parts.1)

distinct_first : (n : ℕ) (rules : List Rule) → are_distinct (map (λ r. r.name.0) rules) ≡ true → are_distinct (map (λ r. r.name.0) (take n rules)) ≡ true
distinct_first zero rules h = refl
distinct_first (suc n) [] h = refl
distinct_first (suc n) (r ∷ rules) h =
    let parts = and_parts (not (is_in r.name.0 (map (λ r. r.name.0) rules))) (are_distinct (map (λ r. r.name.0) rules)) h in
    and_from _ _ (not_false _ (absent_first r.name.0 n rules (not_true _ parts.0))) (distinct_first n rules parts.1)

valid_first : (classes : List Class) (rules templates : List Rule) (cs : List Command) (text n : ℕ) → is_valid classes rules templates cs text ≡ true → is_valid classes (take n rules) templates cs text ≡ true
valid_first classes rules templates cs text n h =
    let tenth = and_parts _ _ h in
    let ninth = and_parts _ _ tenth.0 in
    let eighth = and_parts _ _ ninth.0 in
    let seventh = and_parts _ _ eighth.0 in
    let sixth = and_parts _ _ seventh.0 in
    let fifth = and_parts _ _ sixth.0 in
    let fourth = and_parts _ _ fifth.0 in
    and_from _ _
    (and_from _ _
    (and_from _ _
    (and_from _ _
    (and_from _ _
    (and_from _ _ (and_from _ _ fourth.0 (all_first (rule_is_valid classes text) n rules fourth.1)) fifth.1)
    sixth.1)
    (all_first (rule_builds_from (length templates)) n rules seventh.1))
    eighth.1)
    ninth.1)
    (distinct_first n rules tenth.1)

-- so it is where the first are given as a list of their own
pub valid_beginning : (p : Program) (n : ℕ) (rules : List Rule) → rules ≡ take n p.rules → IsTrue (is_valid p.classes rules p.templates p.commands (length p.text))
valid_beginning p n rules is =
    let P : List Rule → Type 0 = λ rs. IsTrue (is_valid p.classes rs p.templates p.commands (length p.text)) in
    subst P (sym is) (valid_first p.classes p.rules p.templates p.commands (length p.text) n p.valid)
