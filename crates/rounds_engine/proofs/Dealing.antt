-- One task more is dealt to its shard.
use Rattle.std.proofs.Common.{◌≡◌, ℕ, zero, suc, ◌+◌, ◌<◌, ◌⊎◌, ◌↔◌, List, [], ◌∷◌, ◌++◌, All, inl, inr, get_or, length, refl, set, ap, ap₂, subst, sum_by, sym, ◌∙◌, arith, slice_get, Some}
use Rattle.std.proofs.lemmas.List.{length-set}
use Rattle.std.proofs.lemmas.List.Elements.{All-get_or, All-nil, All-push, All-set, All-head, All-tail, All-cons, All-weaker}
use Rattle.std.proofs.lemmas.List.Sums.{sum_by-append, sum_by-cons, sum_by-set}
use Rattle.std.proofs.lemmas.List.{map-append}
use Rattle.std.proofs.lemmas.Option.{slice_get-get_or}
use Rattle.work_store.specs.Stored.{Stored}
use Rattle.net_base.specs.declared.nodes.Node.{Node}
use Rattle.net_base.specs.declared.tasks.Task.{Task}
use Rattle.token_line.specs.Held.{TaskFits}
use Rattle.step_core.specs.Phases.{AreSame}
use Rattle.rounds_engine.specs.declared.shards.Placed.{Placed}
use Rattle.rounds_engine.specs.declared.shards.Shard.{Shard}
use Rattle.rounds_engine.specs.Sharing.{AreDealt, FollowOn, HasLine, HasOwn, IsPlacedAt, lines_of, shard_of, tasks_in, tasks_of_shards}

-- shards that have the tasks dealt so far
pub record HaveDealt (nodes : List Node) (store : Stored) (s lines : ℕ) (todo : List Task) (xs : List Shard) : Type 0 where
  pub follow : FollowOn 0 xs
  pub all_lines : lines_of xs ≡ lines
  pub count : length xs ≡ s
  pub dealt : AreDealt s lines xs
  pub tasks : AreSame todo (tasks_of_shards xs)
  pub own : All (TaskFits nodes store) todo → All (HasOwn nodes store lines) xs

-- ---- one shard in the place of another

get_set : {X : Type 0} (xs : List X) (k : ℕ) (y : X) (j : ℕ) (z : X) → slice_get (set xs k y) j ≡ Some z → (slice_get xs j ≡ Some z) ⊎ ((j ≡ k) × (y ≡ z))
get_set [] k y j z at = inl at
get_set (x ∷ xs) zero y zero z at = inr (refl, cc)
get_set (x ∷ xs) zero y (suc j) z at = inl at
get_set (x ∷ xs) (suc k) y zero z at = inl at
get_set (x ∷ xs) (suc k) y (suc j) z at = elim (get_set xs k y j z at) [ inl p ↦ inl p | inr q ↦ inr (ap suc q.0, q.1) ]

FollowOn-set : (i : ℕ) (xs : List Shard) (k : ℕ) (x y : Shard) → x ≡ get_or xs k x → k < length xs → y.first ≡ x.first → y.count ≡ x.count → FollowOn i xs → FollowOn i (set xs k y)
FollowOn-set i [] k x y at low first count follow = tt
FollowOn-set i (z ∷ xs) zero x y at low first count follow = (
  first ∙ (ap (λ (w : Shard). w.first) at ∙ follow.0),
  subst (λ n. FollowOn (i + n) xs) (sym (count ∙ ap (λ (w : Shard). w.count) at)) follow.1,
)
FollowOn-set i (z ∷ xs) (suc k) x y at low first count follow = (follow.0, FollowOn-set (i + z.count) xs k x y at (omega arith) first count follow.1)

pub HasLine-same : (x y : Shard) → y.first ≡ x.first → y.count ≡ x.count → (i : ℕ) → HasLine x i → HasLine y i
HasLine-same x y first count i has = (omega (arith, first, has.0), omega (arith, first, count, has.1))

AreDealt-set : (s lines : ℕ) (xs : List Shard) (k : ℕ) (x y : Shard) → x ≡ get_or xs k x → k < length xs → y.first ≡ x.first → y.count ≡ x.count → AreDealt s lines xs → AreDealt s lines (set xs k y)
AreDealt-set s lines xs k x y at low first count dealt j i z is = elim (get_set xs k y j z is) [
  | inl p ↦ dealt j i z p
  | inr q ↦
      let was = dealt k i x (slice_get-get_or xs k x low ∙ ap Some (sym at)) in
      let both : HasLine y i ↔ (shard_of s lines i ≡ k) = (λ h. was.0 (HasLine-same y x (sym first) (sym count) i h), λ h. HasLine-same x y first count i (was.1 h)) in
      subst (λ (w : Shard). HasLine w i ↔ (shard_of s lines i ≡ j)) q.1 (subst (λ n. HasLine y i ↔ (shard_of s lines i ≡ n)) (sym q.0) both)
]

pub shard_weight : (h : Task → ℕ) (xs : List Shard) → sum_by h (tasks_of_shards xs) ≡ sum_by (λ x. sum_by h (tasks_in x.tasks.items)) xs
shard_weight h [] = refl
shard_weight h (x ∷ xs) =
    let a = sum_by-append h (tasks_in x.tasks.items) (tasks_of_shards xs) in
    let b = sum_by-cons (λ (y : Shard). sum_by h (tasks_in y.tasks.items)) x xs in
    let c = shard_weight h xs in omega (arith, a, b, c)

weight_add : (h : Task → ℕ) (ts : List Task) (t : Task) → sum_by h (ts ++ t ∷ []) ≡ sum_by h ts + h t
weight_add h ts t =
    let a = sum_by-append h ts (t ∷ []) in
    let b = sum_by-cons h t [] in omega (arith, a, b)

weight_push : (h : Task → ℕ) (ps : List Placed) (p : Placed) → sum_by h (tasks_in (ps ++ p ∷ [])) ≡ sum_by h (tasks_in ps) + h p.task
weight_push h ps p =
    let a = ap (sum_by h) (map-append (λ (q : Placed). q.task) ps (p ∷ [])) in
    let b = sum_by-append h (tasks_in ps) (p.task ∷ []) in
    let c = sum_by-cons h p.task [] in omega (arith, a, b, c)

-- ---- one task more

front : {X : Type 0} (P : X → Type 0) (xs : List X) (y : X) → All P (xs ++ y ∷ []) → All P xs × P y
front P [] y all = (All-nil P, All-head P y [] all)
front P (x ∷ xs) y all = let r = front P xs y (All-tail P x (xs ++ y ∷ []) all) in (All-cons P x xs (All-head P x (xs ++ y ∷ []) all) r.0, r.1)

pub deal_one : (nodes : List Node) (store : Stored) (s lines : ℕ) (todo : List Task) (xs : List Shard) (p : Placed) (x y : Shard)
    → (TaskFits nodes store p.task → IsPlacedAt nodes store lines p) → HaveDealt nodes store s lines todo xs → shard_of s lines p.line < length xs → x ≡ get_or xs (shard_of s lines p.line) x → y.first ≡ x.first → y.count ≡ x.count
    → y.tasks.items ≡ x.tasks.items ++ p ∷ [] → HaveDealt nodes store s lines (todo ++ p.task ∷ []) (set xs (shard_of s lines p.line) y)
deal_one nodes store s lines todo xs p x y is have low at first count tasks = record {
  follow = FollowOn-set 0 xs k x y at low first count have.follow;
  all_lines = (let a = sum_by-set (λ (z : Shard). z.count) xs k y x low in let b = ap (λ (z : Shard). z.count) at in let c = have.all_lines in omega (arith, a, b, c, count));
  count = length-set xs k y ∙ have.count;
  dealt = AreDealt-set s lines xs k x y at low first count have.dealt;
  tasks = λ h.
      let w : Shard → ℕ = λ z. sum_by h (tasks_in z.tasks.items) in
      let a = have.tasks h in
      let b = weight_add h todo p.task in
      let c = shard_weight h xs in
      let d = shard_weight h (set xs k y) in
      let e = sum_by-set w xs k y x low in
      let f = ap w at in
      let g = ap (λ ps. sum_by h (tasks_in ps)) tasks in
      let i = weight_push h x.tasks.items p in omega (arith, a, b, c, d, e, f, g, i);
  own = λ all.
      let parts = front (TaskFits nodes store) todo p.task all in
      let others = have.own parts.0 in
      let was : HasOwn nodes store lines x = subst (HasOwn nodes store lines) (sym at) (All-get_or (HasOwn nodes store lines) xs k x low others) in
      let its = (have.dealt k p.line x (slice_get-get_or xs k x low ∙ ap Some (sym at))).1 refl in
      All-set (HasOwn nodes store lines) xs k y
      (record {
        placed = subst (All (IsPlacedAt nodes store lines)) (sym tasks) (All-push (IsPlacedAt nodes store lines) x.tasks.items p was.placed (is parts.1));
        own = subst (All (λ q. HasLine y q.line)) (sym tasks)
            (All-push (λ q. HasLine y q.line) x.tasks.items p (λ j d in'. HasLine-same x y first count (get_or x.tasks.items j d).line (was.own j d in')) (HasLine-same x y first count p.line its));
      })
      others;
}
  where
    k : ℕ
    k = shard_of s lines p.line

-- ---- at the start

no_tasks : (xs : List Shard) → All (λ (x : Shard). x.tasks.items ≡ []) xs → tasks_of_shards xs ≡ []
no_tasks [] bare = refl
no_tasks (x ∷ xs) bare =
    ap₂ (λ (a : List Task) (b : List Task). a ++ b) (ap tasks_in (All-head (λ (y : Shard). y.tasks.items ≡ []) x xs bare)) (no_tasks xs (All-tail (λ (y : Shard). y.tasks.items ≡ []) x xs bare))

pub none_dealt : (nodes : List Node) (store : Stored) (s lines : ℕ) (xs : List Shard) → FollowOn 0 xs → lines_of xs ≡ lines → length xs ≡ s → AreDealt s lines xs → All (λ (x : Shard). x.tasks.items ≡ []) xs → HaveDealt nodes store s lines [] xs
none_dealt nodes store s lines xs follow sum count dealt bare = record {
  follow = follow;
  all_lines = sum;
  count = count;
  dealt = dealt;
  tasks = λ h. sym (ap (sum_by h) (no_tasks xs bare));
  own = λ all.
      All-weaker (λ (x : Shard). x.tasks.items ≡ []) (HasOwn nodes store lines)
      (λ x none. record {
        placed = subst (All (IsPlacedAt nodes store lines)) (sym none) (All-nil (IsPlacedAt nodes store lines));
        own = subst (All (λ p. HasLine x p.line)) (sym none) (All-nil (λ (p : Placed). HasLine x p.line));
      })
      xs bare;
}
