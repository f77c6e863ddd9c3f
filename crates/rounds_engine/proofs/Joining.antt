-- Shards with the tasks of others after their own.
use Rattle.std.proofs.Common.{◌≡◌, ℕ, zero, suc, ◌+◌, List, [], ◌∷◌, ◌++◌, All, get_or, length, refl, ap, subst, sum_by, sym, ◌∙◌, arith, slice_get, Some}
use Rattle.std.specs.List.{zip}
use Rattle.std.proofs.lemmas.List.{map-append}
use Rattle.std.proofs.lemmas.List.Elements.{All-append, All-head, All-tail}
use Rattle.std.proofs.lemmas.List.Sums.{sum_by-append, sum_by-cons}
use Rattle.std.proofs.lemmas.Option.{slice_get-get_or}
use Rattle.work_store.specs.Stored.{Stored}
use Rattle.net_base.specs.declared.nodes.Node.{Node}
use Rattle.net_base.specs.declared.tasks.Task.{Task}
use Rattle.step_core.specs.Phases.{AreSame}
use Rattle.rounds_engine.specs.declared.shards.Placed.{Placed}
use Rattle.rounds_engine.specs.declared.shards.Shard.{Shard}
use Rattle.rounds_engine.specs.Sharing.{AreAllShards, AreBoth, AreDealt, FollowOn, HasLine, HasOwn, IsBoth, IsPlacedAt, lines_of, tasks_in, tasks_of_shards}
use Rattle.rounds_engine.proofs.Dealing.{HasLine-same}

-- ---- one pair more

pub more_both : (ps : List (Shard × Shard)) (zs : List Shard) (p : Shard × Shard) (z : Shard) → AreBoth ps zs → IsBoth p.0 p.1 z → AreBoth (ps ++ p ∷ []) (zs ++ z ∷ [])
more_both [] [] p z both is = (is, refl)
more_both [] (y ∷ zs) p z both is = absurd (cc)
more_both (q ∷ ps) [] p z both is = absurd both
more_both (q ∷ ps) (y ∷ zs) p z both is = (both.0, more_both ps zs p z both.1 is)

-- ---- what is known of all pairs

all_at : {X : Type 0} (P : X → Type 0) (xs : List X) (k : ℕ) (x : X) → All P xs → slice_get xs k ≡ Some x → P x
all_at P [] k x all at = absurd (cc)
all_at P (y ∷ xs) zero x all at = subst P (cc) (All-head P y xs all)
all_at P (y ∷ xs) (suc k) x all at = all_at P xs k x (All-tail P y xs all) at

both_count : (ms ns zs : List Shard) → length ms ≡ length ns → AreBoth (zip ms ns) zs → length zs ≡ length ms
both_count [] ns zs same both = ap length both
both_count (x ∷ ms) [] zs same both = absurd (omega arith)
both_count (x ∷ ms) (y ∷ ns) [] same both = absurd both
both_count (x ∷ ms) (y ∷ ns) (z ∷ zs) same both = ap suc (both_count ms ns zs (omega arith) both.1)

both_lines : (ms ns zs : List Shard) → length ms ≡ length ns → AreBoth (zip ms ns) zs → lines_of zs ≡ lines_of ms
both_lines [] ns zs same both = ap lines_of both
both_lines (x ∷ ms) [] zs same both = absurd (omega arith)
both_lines (x ∷ ms) (y ∷ ns) [] same both = absurd both
both_lines (x ∷ ms) (y ∷ ns) (z ∷ zs) same both =
    let a = sum_by-cons (λ (w : Shard). w.count) z zs in
    let b = sum_by-cons (λ (w : Shard). w.count) x ms in
    let c = both_lines ms ns zs (omega arith) both.1 in
    let d = both.0.count in omega (arith, a, b, c, d)

both_follow : (i : ℕ) (ms ns zs : List Shard) → length ms ≡ length ns → AreBoth (zip ms ns) zs → FollowOn i ms → FollowOn i zs
both_follow i [] ns zs same both follow = subst (FollowOn i) (sym both) tt
both_follow i (x ∷ ms) [] zs same both follow = absurd (omega arith)
both_follow i (x ∷ ms) (y ∷ ns) [] same both follow = absurd both
both_follow i (x ∷ ms) (y ∷ ns) (z ∷ zs) same both follow = (
  both.0.first ∙ follow.0,
  subst (λ n. FollowOn (i + n) zs) (sym both.0.count) (both_follow (i + x.count) ms ns zs (omega arith) both.1 follow.1),
)

both_weight : (h : Task → ℕ) (ms ns zs : List Shard) → length ms ≡ length ns → AreBoth (zip ms ns) zs → sum_by h (tasks_of_shards zs) ≡ sum_by h (tasks_of_shards ms) + sum_by h (tasks_of_shards ns)
both_weight h [] [] zs same both = ap (λ ys. sum_by h (tasks_of_shards ys)) both
both_weight h [] (y ∷ ns) zs same both = absurd (omega arith)
both_weight h (x ∷ ms) [] zs same both = absurd (omega arith)
both_weight h (x ∷ ms) (y ∷ ns) [] same both = absurd both
both_weight h (x ∷ ms) (y ∷ ns) (z ∷ zs) same both =
    let a = sum_by-append h (tasks_in z.tasks.items) (tasks_of_shards zs) in
    let b = sum_by-append h (tasks_in x.tasks.items) (tasks_of_shards ms) in
    let c = sum_by-append h (tasks_in y.tasks.items) (tasks_of_shards ns) in
    let d = both_weight h ms ns zs (omega arith) both.1 in
    let e = ap (λ ps. sum_by h (tasks_in ps)) both.0.tasks in
    let f = ap (sum_by h) (map-append (λ (p : Placed). p.task) x.tasks.items y.tasks.items) in
    let g = sum_by-append h (tasks_in x.tasks.items) (tasks_in y.tasks.items) in omega (arith, a, b, c, d, e, f, g)

-- the pair of which the shard at a place is both
record IsOf (ms ns : List Shard) (k : ℕ) (z : Shard) : Type 0 where
  pub x : Shard
  pub y : Shard
  pub at_x : slice_get ms k ≡ Some x
  pub at_y : slice_get ns k ≡ Some y
  pub both : IsBoth x y z

both_at : (ms ns zs : List Shard) → length ms ≡ length ns → AreBoth (zip ms ns) zs → (k : ℕ) (z : Shard) → slice_get zs k ≡ Some z → IsOf ms ns k z
both_at [] ns zs same both k z at = absurd (let none : slice_get [] k ≡ Some z = subst (λ (ys : List Shard). slice_get ys k ≡ Some z) both at in cc)
both_at (x ∷ ms) [] zs same both k z at = absurd (omega arith)
both_at (x ∷ ms) (y ∷ ns) [] same both k z at = absurd both
both_at (x ∷ ms) (y ∷ ns) (w ∷ zs) same both zero z at = record { x = x; y = y; at_x = refl; at_y = refl; both = subst (IsBoth x y) (cc) both.0 }
both_at (x ∷ ms) (y ∷ ns) (w ∷ zs) same both (suc k) z at =
    let r = both_at ms ns zs (omega arith) both.1 k z at in record { x = r.x; y = r.y; at_x = r.at_x; at_y = r.at_y; both = r.both }

both_dealt : (s lines : ℕ) (ms ns zs : List Shard) → length ms ≡ length ns → AreBoth (zip ms ns) zs → AreDealt s lines ms → AreDealt s lines zs
both_dealt s lines ms ns zs same both dealt k i z at =
    let r = both_at ms ns zs same both k z at in
    let was = dealt k i r.x r.at_x in (
      λ h. was.0 (HasLine-same z r.x (sym r.both.first) (sym r.both.count) i h),
      λ e. HasLine-same r.x z r.both.first r.both.count i (was.1 e),
    )

both_own : (nodes : List Node) (store : Stored) (s lines : ℕ) (ms ns zs : List Shard) → length ms ≡ length ns → AreBoth (zip ms ns) zs → AreDealt s lines ms → AreDealt s lines ns
    → All (HasOwn nodes store lines) ms → All (HasOwn nodes store lines) ns → All (HasOwn nodes store lines) zs
both_own nodes store s lines ms ns zs same both dealt_ms dealt_ns own_ms own_ns k d low =
    let z : Shard = get_or zs k d in
    let r = both_at ms ns zs same both k z (slice_get-get_or zs k d low) in
    let low_has : HasOwn nodes store lines r.x = all_at (HasOwn nodes store lines) ms k r.x own_ms r.at_x in
    let high_has : HasOwn nodes store lines r.y = all_at (HasOwn nodes store lines) ns k r.y own_ns r.at_y in
    let from_x : (i : ℕ) → HasLine r.x i → HasLine z i = HasLine-same r.x z r.both.first r.both.count in
    record {
      placed = subst (All (IsPlacedAt nodes store lines)) (sym r.both.tasks) (All-append (IsPlacedAt nodes store lines) r.x.tasks.items r.y.tasks.items low_has.placed high_has.placed);
      own = subst (All (λ p. HasLine z p.line)) (sym r.both.tasks)
          (All-append (λ p. HasLine z p.line) r.x.tasks.items r.y.tasks.items
          (λ j e in'. from_x (get_or r.x.tasks.items j e).line (low_has.own j e in'))
          (λ j e in'. let i = (get_or r.y.tasks.items j e).line in from_x i ((dealt_ms k i r.x r.at_x).1 ((dealt_ns k i r.y r.at_y).0 (high_has.own j e in')))));
    }

-- ---- all shards

pub both_shards : (nodes : List Node) (store : Stored) (lines s : ℕ) (ms ns zs : List Shard) → AreAllShards nodes store lines s ms → AreAllShards nodes store lines s ns → AreBoth (zip ms ns) zs
    → AreAllShards nodes store lines s zs
both_shards nodes store lines s ms ns zs low high both =
    let same : length ms ≡ length ns = low.count ∙ sym high.count in
    record {
      count = both_count ms ns zs same both ∙ low.count;
      whole = both_lines ms ns zs same both ∙ low.whole;
      dealt = both_dealt s lines ms ns zs same both low.dealt;
      each = record {
        follow = both_follow 0 ms ns zs same both low.each.follow;
        own = both_own nodes store s lines ms ns zs same both low.dealt high.dealt low.each.own high.each.own;
      };
    }

pub both_tasks : (nodes : List Node) (store : Stored) (lines s : ℕ) (ms ns zs : List Shard) → AreAllShards nodes store lines s ms → AreAllShards nodes store lines s ns → AreBoth (zip ms ns) zs
    → AreSame (tasks_of_shards ms ++ tasks_of_shards ns) (tasks_of_shards zs)
both_tasks nodes store lines s ms ns zs low high both h =
    let same : length ms ≡ length ns = low.count ∙ sym high.count in
    sum_by-append h (tasks_of_shards ms) (tasks_of_shards ns) ∙ sym (both_weight h ms ns zs same both)
