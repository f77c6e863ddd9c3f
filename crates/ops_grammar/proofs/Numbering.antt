-- The numbers of variables in sight and of those that were given, and the cells of conditions.
use Rattle.std.proofs.Common.{◌≡◌, ℕ, zero, suc, ◌<◌, ◌≤◌, Bool, true, false, ◌||◌, ◌==◌, cond, List, [], ◌∷◌, ◌++◌, refl, sym, ap, ◌∙◌, arith, nat_lt, inl, inr, ◌⊎◌, append-nil, append_assoc}
use Rattle.std.specs.List.{list_all}
use Rattle.std.proofs.lemmas.Bool.{or_from, or_left, or_right, lt-ltb, ltb-true, ne_eqb, eq-eqb, cases_eq, cases_order}
use Rattle.std.proofs.lemmas.List.Folds.{list_any-append}
use Rattle.ops_base.specs.declared.conditions.Test.{Test}
use Rattle.ops_base.specs.declared.conditions.Condition.{Condition}
use Rattle.ops_base.specs.declared.conditions.Part.{Part}
use Rattle.ops_base.specs.declared.conditions.Part.TheVariants.{One, Group}
use Rattle.ops_base.specs.declared.actions.Action.{Action}
use Rattle.ops_base.specs.declared.actions.Action.TheVariants as action
use Rattle.ops_base.specs.Valid.{is_in, cells_of}
use Rattle.ops_grammar.specs.Spelling.{Numbered, after_test, after_tests, after_condition, after_conditions, InSight, after_action, after_actions, after_members, after_part}
use Rattle.ops_grammar.proofs.Lists.{all_push, all_weaker, not_below}

-- ---- numbers

-- each number in sight was given
abbrev pub are_given : Numbered → Bool
are_given k = list_all (λ n. nat_lt n k.given) k.sight

-- the next number is not in sight
pub next_apart : (k : Numbered) → are_given k ≡ true → is_in k.given k.sight ≡ false
next_apart k h = not_below k.sight k.given h

given_more : (ns : List ℕ) (m n : ℕ) → m ≤ n → list_all (λ i. nat_lt i m) ns ≡ true → list_all (λ i. nat_lt i n) ns ≡ true
given_more ns m n le h =
    all_weaker (λ i. nat_lt i m) (λ i. nat_lt i n) ns (λ i lt. let below : i < m = ltb-true i m lt in lt-ltb i n (omega (arith, below, le))) h

bound_given : (b : Bool) (k : Numbered) → are_given k ≡ true → are_given (cond b (record { sight = k.sight ++ k.given ∷ []; given = suc k.given }) k) ≡ true
bound_given true k h =
    all_push (λ n. nat_lt n (suc k.given)) k.sight k.given (given_more k.sight k.given (suc k.given) (omega arith) h) (lt-ltb k.given (suc k.given) (omega arith))
bound_given false k h = h

pub after_test-given : (k : Numbered) (t : Test) → are_given k ≡ true → are_given (after_test k t) ≡ true
after_test-given k t h = bound_given t.binds k h

pub after_tests-given : (ts : List Test) (k : Numbered) → are_given k ≡ true → are_given (after_tests k ts) ≡ true
after_tests-given [] k h = h
after_tests-given (t ∷ ts) k h = after_tests-given ts (after_test k t) (after_test-given k t h)

bound_up : (b : Bool) (k : Numbered) → k.given ≤ (let n : Numbered = cond b (record { sight = k.sight ++ k.given ∷ []; given = suc k.given }) k in n.given)
bound_up true k = omega arith
bound_up false k = omega arith

given_up : (ts : List Test) (k : Numbered) → k.given ≤ (after_tests k ts).given
given_up [] k = omega arith
given_up (t ∷ ts) k =
    let one : k.given ≤ (after_test k t).given = bound_up t.binds k in let rest = given_up ts (after_test k t) in omega (arith, one, rest)

closed_given : (b : Bool) (k after : Numbered) → k.given ≤ after.given → are_given k ≡ true → are_given after ≡ true → are_given (cond b (record { sight = k.sight; given = after.given }) after) ≡ true
closed_given true k after le h e = given_more k.sight k.given after.given le h
closed_given false k after le h e = e

pub after_condition-given : (k : Numbered) (c : Condition) → are_given k ≡ true → are_given (after_condition k c) ≡ true
after_condition-given k c h = closed_given c.negated k (after_tests k c.tests) (given_up c.tests k) h (after_tests-given c.tests k h)

members_up : (cs : List Condition) (k : Numbered) → k.given ≤ (after_members k cs).given
members_up [] k = omega arith
members_up (c ∷ cs) k = let one = given_up c.tests k in let rest = members_up cs (after_tests k c.tests) in omega (arith, one, rest)

pub after_group-given : (k : Numbered) (cs : List Condition) → are_given k ≡ true → are_given (after_part k (Group cs)) ≡ true
after_group-given k cs h = given_more k.sight k.given (after_members k cs).given (members_up cs k) h

pub after_conditions-given : (cs : List Part) (k : Numbered) → are_given k ≡ true → are_given (after_conditions k cs) ≡ true
after_conditions-given [] k h = h
after_conditions-given (One c ∷ cs) k h = after_conditions-given cs (after_condition k c) (after_condition-given k c h)
after_conditions-given (Group ms ∷ cs) k h = after_conditions-given cs (after_part k (Group ms)) (given_more k.sight k.given (after_members k ms).given (members_up ms k) h)

bind_given : (b : Bool) (k : InSight) → are_given k.variables ≡ true
    → (let m : InSight = cond b k (record k { variables = record { sight = k.variables.sight ++ k.variables.given ∷ []; given = suc k.variables.given } }) in are_given m.variables ≡ true)
bind_given true k h = h
bind_given false k h = bound_given true k.variables h

after_action-given : (k : InSight) (a : Action) → are_given k.variables ≡ true → are_given (after_action k a).variables ≡ true
after_action-given k (action.Bind n t) h = bind_given (is_in n k.variables.sight) k h
after_action-given k (action.Make class puts) h = h
after_action-given k (action.Modify cell puts) h = h
after_action-given k (action.Remove cells) h = h
after_action-given k (action.Write items) h = h
after_action-given k (action.Cbind cell) h = h
after_action-given k action.Halt h = h
after_action-given k (action.Build template holes) h = h

pub after_actions-given : (xs : List Action) (k : InSight) → are_given k.variables ≡ true → are_given (after_actions k xs).variables ≡ true
after_actions-given [] k h = h
after_actions-given (a ∷ xs) k h = after_actions-given xs (after_action k a) (after_action-given k a h)

bound_prefix : (b : Bool) (k : Numbered) → (more : List ℕ) × ((let n : Numbered = cond b (record { sight = k.sight ++ k.given ∷ []; given = suc k.given }) k in n.sight) ≡ k.sight ++ more)
bound_prefix true k = (k.given ∷ [], refl)
bound_prefix false k = ([], sym (append-nil k.sight))

-- what is in sight stays in front
pub sight_prefix : (ts : List Test) (k : Numbered) → (more : List ℕ) × ((after_tests k ts).sight ≡ k.sight ++ more)
sight_prefix [] k = ([], sym (append-nil k.sight))
sight_prefix (t ∷ ts) k =
    let one : (more : List ℕ) × ((after_test k t).sight ≡ k.sight ++ more) = bound_prefix t.binds k in
    let rest = sight_prefix ts (after_test k t) in
    (one.0 ++ rest.0, rest.1 ∙ ap (λ (xs : List ℕ). xs ++ rest.0) one.1 ∙ append_assoc k.sight one.0 rest.0)

-- ---- cells

-- the numbers below this one
abbrev pub below : ℕ → List ℕ
below zero = []
below (suc n) = below n ++ n ∷ []

-- the next cell is none of those before it
pub below_apart : (n m : ℕ) → n ≤ m → is_in m (below n) ≡ false
below_apart zero m le = refl
below_apart (suc n) m le =
    list_any-append (λ c. c == m) (below n) (n ∷ []) ∙ or_from _ _ (below_apart n m (omega arith)) (or_from _ _ (ne_eqb n m (λ same. absurd (omega arith))) refl)

below_last : (n c : ℕ) → (n ≡ c) ⊎ (n ≡ c → ⊥) → (c < n → is_in c (below n) ≡ true) → c < suc n → (is_in c (below n) || is_in c (n ∷ [])) ≡ true
below_last n c (inl same) ih lt = or_right _ _ (or_left _ _ (eq-eqb n c same))
below_last n c (inr other) ih lt = or_left _ _ (ih (by (cases_order c n)))
  where
    by : (c ≡ n) ⊎ ((c < n) ⊎ (n < c)) → c < n
    by (inl same) = absurd (other (sym same))
    by (inr (inl less)) = less
    by (inr (inr more)) = absurd (omega (arith, lt, more))

pub below_there : (n c : ℕ) → c < n → is_in c (below n) ≡ true
below_there zero c lt = absurd (omega arith)
below_there (suc n) c lt = list_any-append (λ m. m == c) (below n) (n ∷ []) ∙ below_last n c (cases_eq n c) (below_there n c) lt

cell_more : (b : Bool) (c : ℕ) (cells all more : List ℕ) → all ≡ cells ++ more → cond b all (c ∷ all) ≡ cond b cells (c ∷ cells) ++ more
cell_more true c cells all more e = e
cell_more false c cells all more e = ap (λ (xs : List ℕ). c ∷ xs) e

-- the cells of conditions after others
pub cells-append : (cs ds : List Part) → cells_of (cs ++ ds) ≡ cells_of cs ++ cells_of ds
cells-append [] ds = refl
cells-append (Group ms ∷ cs) ds = cells-append cs ds
cells-append (One c ∷ cs) ds = cell_more c.negated c.class (cells_of cs) (cells_of (cs ++ ds)) (cells_of ds) (cells-append cs ds)
