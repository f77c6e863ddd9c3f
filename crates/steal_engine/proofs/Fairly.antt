-- A round of a worker keeps it fair.
use Rattle.std.proofs.Common.{◌≡◌, ℕ, ◌+◌, List, [], ◌∷◌, ◌++◌, ap, ◌∙◌, sum_by, arith}
use Rattle.std.proofs.lemmas.List.Sums.{sum_by-append}
use Rattle.net_base.specs.declared.tasks.Task.{Task}
use Rattle.steal_engine.specs.declared.rounds.Round.{Round}
use Rattle.steal_engine.specs.Sums.{AreFair, children_in, round, tasks_in}

tasks_more : (rs : List Round) (r : Round) → tasks_in (rs ++ r ∷ []) ≡ tasks_in rs ++ r.task ∷ []
tasks_more [] r = ap (λ (x : List Task). x) (ap (λ (t : Task). t ∷ []) (λ i. r.task))
tasks_more (q ∷ qs) r = ap (λ (x : List Task). q.task ∷ x) (tasks_more qs r)

children_more : (h : Task → ℕ) (rs : List Round) (r : Round) → sum_by h (children_in (rs ++ r ∷ [])) ≡ sum_by h (children_in rs) + sum_by h r.children
children_more h [] r = let e = sum_by-append h r.children [] in omega (arith, e)
children_more h (q ∷ qs) r =
    let e = children_more h qs r in
    let a = sum_by-append h q.children (children_in (qs ++ r ∷ [])) in
    let b = sum_by-append h q.children (children_in qs) in
    omega (arith, e, a, b)

-- a task of the list, of a deque or of the victim's was done, its children came to the list, and some went from there to the deque
pub one_more : (rows rows' : List Round) (task : Task) (children dealt pushed pushed' popped popped' stolen stolen' list0 list1 list2 list3 : List Task)
    → rows' ≡ rows ++ round task children ∷ [] → list2 ≡ list1 ++ children
    → ((h : Task → ℕ) → (sum_by h popped' + sum_by h stolen') + sum_by h list0 ≡ ((sum_by h popped + sum_by h stolen) + sum_by h list1) + sum_by h (task ∷ []))
    → ((h : Task → ℕ) → sum_by h pushed' + sum_by h list3 ≡ sum_by h pushed + sum_by h list2)
    → AreFair rows dealt pushed popped stolen list0 → AreFair rows' dealt pushed' popped' stolen' list3
one_more rows rows' task children dealt pushed pushed' popped popped' stolen stolen' list0 list1 list2 list3 is grown took moved fair h =
    let a : sum_by h (tasks_in rows') ≡ sum_by h (tasks_in rows) + sum_by h (task ∷ []) = ap (λ rs. sum_by h (tasks_in rs)) is ∙ (ap (sum_by h) (tasks_more rows (round task children)) ∙ sum_by-append h (tasks_in rows) (task ∷ [])) in
    let b : sum_by h (children_in rows') ≡ sum_by h (children_in rows) + sum_by h children = ap (λ rs. sum_by h (children_in rs)) is ∙ children_more h rows (round task children) in
    let c : sum_by h list2 ≡ sum_by h list1 + sum_by h children = ap (sum_by h) grown ∙ sum_by-append h list1 children in
    let d = took h in
    let e = moved h in
    let f = fair h in
    omega (arith, a, b, c, d, e, f)
