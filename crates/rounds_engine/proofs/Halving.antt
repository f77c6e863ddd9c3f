-- Shards in two parts, each with its lines, and what the parts did put together.
use Rattle.std.proofs.Common.{◌≡◌, ℕ, ◌+◌, ◌<◌, ◌≤◌, List, [], ◌∷◌, ◌++◌, All, Err, Global, IfOk, Ok, Result, Vec, drop, get_or, length, map, refl, ap, ap₂, subst, sym, take, ◌∙◌, arith, length-append}
use Rattle.std.specs.List.{zip}
use Rattle.std.proofs.lemmas.Grind.{flat_map-append}
use Rattle.std.proofs.lemmas.List.{length-map, map-append}
use Rattle.std.proofs.lemmas.List.Elements.{All-append, All-drop, All-same, All-take}
use Rattle.std.proofs.Math.Seq.{drop-append_seam, take-append_seam}
use Rattle.std.proofs.lemmas.List.Sums.{sum_by-append, sum_by-cons}
use Rattle.ops_base.specs.declared.memory.OutOfMemory.{OutOfMemory}
use Rattle.work_store.specs.Stored.{Stored, held_of}
use Rattle.net_base.specs.declared.nodes.Node.{Node}
use Rattle.net_base.specs.declared.tasks.Task.{Task}
use Rattle.net_base.specs.Tokens.{Elements}
use Rattle.token_line.specs.declared.line.Line.{Line}
use Rattle.activation.specs.Acting.{IsCounted}
use Rattle.step_core.specs.Machine.{Placing}
use Rattle.step_core.specs.Phases.{AreSame}
use Rattle.step_core.specs.Rounds.{HaveDone, ShardLaw}
use Rattle.step_core.specs.Worlds.{placed, seen}
use Rattle.rounds_engine.specs.declared.shards.Shard.{Shard}
use Rattle.rounds_engine.specs.Sharing.{AreAllShards, AreBoth, AreDeeper, AreJoined, AreKept, AreShards, CanShare, FollowOn, HasOwn, HaveShared, first_of, lines_of, tasks_in, tasks_of_shards}
use Rattle.rounds_engine.proofs.Joining.{both_shards, both_tasks}
use Rattle.rounds_engine.proofs.Sharing.{same_deeper, same_made}

-- ---- shards in two parts

All-parts : {X : Type 0} (P : X → Type 0) (a b : List X) → All P (a ++ b) → All P a × All P b
All-parts P a b all = (
  All-same P a (take (length a) (a ++ b)) (sym (take-append_seam a b)) (All-take P (length a) (a ++ b) all),
  All-same P b (drop (length a) (a ++ b)) (sym (drop-append_seam a b)) (All-drop P (length a) (a ++ b) all),
)

lines_append : (a b : List Shard) → lines_of (a ++ b) ≡ lines_of a + lines_of b
lines_append a b = sum_by-append (λ (x : Shard). x.count) a b

FollowOn-parts : (i : ℕ) (a b : List Shard) → FollowOn i (a ++ b) → FollowOn i a × FollowOn (i + lines_of a) b
FollowOn-parts i [] b follow = (tt, subst (λ j. FollowOn j b) (omega arith) follow)
FollowOn-parts i (x ∷ a) b follow =
    let r = FollowOn-parts (i + x.count) a b follow.1 in
    let e = sum_by-cons (λ (y : Shard). y.count) x a in ((follow.0, r.0), subst (λ j. FollowOn j b) (omega (arith, e)) r.1)

pub first_is : (i : ℕ) (xs : List Shard) → 1 ≤ length xs → FollowOn i xs → first_of xs ≡ i
first_is i [] some follow = absurd (omega arith)
first_is i (x ∷ xs) some follow = follow.0

-- the first line of the first shard is known once there is one
first_append : (a b : List Shard) → 1 ≤ length a → first_of (a ++ b) ≡ first_of a
first_append [] b some = absurd (omega arith)
first_append (x ∷ a) b some = refl

module _ (nodes : List Node) (s : Stored) (lines half : ℕ) (xs a b : List Shard) (ls front back : List Line) where
  -- each part has its lines, and begins where the other one ends
  pub record AreParts : Type 0 where
    pub low : CanShare nodes s lines a front
    pub high : CanShare nodes s lines b back
    pub follow : first_of b ≡ first_of a + length front

  pub in_parts : CanShare nodes s lines xs ls → xs ≡ a ++ b → length a ≡ half → 1 ≤ half → half < length xs
      → ls ≡ front ++ back → length front ≡ lines_of a → AreParts
  in_parts can is count some less lines_are front_count = record {
    low = record {
      some = omega (arith, count, some);
      shards = record { follow = subst (λ i. FollowOn i a) (sym a_first) parts.0; own = own.0 };
      count = sym front_count;
      counted = counted.0;
    };
    high = record {
      some = omega (arith, both, count, less);
      shards = record { follow = subst (λ i. FollowOn i b) (sym b_first) parts.1; own = own.1 };
      count = (let c = can.count in let d = ap length lines_are in let e = length-append front back in let f = ap lines_of is in let g = lines_append a b in omega (arith, c, d, e, f, g, front_count));
      counted = counted.1;
    };
    follow = b_first ∙ (ap (λ i. i + lines_of a) (sym a_first) ∙ ap (λ n. first_of a + n) (sym front_count));
  }
    where
      both : length xs ≡ length a + length b
      both = ap length is ∙ length-append a b

      parts : FollowOn (first_of xs) a × FollowOn (first_of xs + lines_of a) b
      parts = FollowOn-parts (first_of xs) a b (subst (FollowOn (first_of xs)) is can.shards.follow)

      a_first : first_of a ≡ first_of xs
      a_first = first_is (first_of xs) a (omega (arith, count, some)) parts.0

      b_first : first_of b ≡ first_of xs + lines_of a
      b_first = first_is (first_of xs + lines_of a) b (omega (arith, both, count, less)) parts.1

      own : All (HasOwn nodes s lines) a × All (HasOwn nodes s lines) b
      own = All-parts (HasOwn nodes s lines) a b (subst (All (HasOwn nodes s lines)) is can.shards.own)

      counted : All (IsCounted nodes s) front × All (IsCounted nodes s) back
      counted = All-parts (IsCounted nodes s) front back (subst (All (IsCounted nodes s)) lines_are can.counted)

-- all shards can do a round on all lines
pub all_can : (nodes : List Node) (s : Stored) (lines shards : ℕ) (xs : List Shard) (ls : List Line) → 1 ≤ shards → AreAllShards nodes s lines shards xs → length ls ≡ lines → All (IsCounted nodes s) ls → CanShare nodes s lines xs ls
all_can nodes s lines shards xs ls few all count counted =
    let some : 1 ≤ length xs = (let a = all.count in omega (arith, a, few)) in
    record {
      some = some;
      shards = subst (λ n. AreShards nodes s lines n xs) (sym (first_is 0 xs some all.each.follow)) all.each;
      count = all.whole ∙ sym count;
      counted = counted;
    }

-- ---- what two parts did

AreDeeper-append : (a b c d : List Task) → AreDeeper a c → AreDeeper b d → AreDeeper (a ++ b) (c ++ d)
AreDeeper-append a b c d low high level all =
    let P : Task → Type 0 = λ x. level ≤ x.node in
    let parts = All-parts P a b all in
    All-append (λ x. level + 1 ≤ x.node) c d (low level parts.0) (high level parts.1)

module _ (law : ShardLaw) (nodes : List Node) (s : Stored) (lines shards : ℕ) (a b : List Shard) (front front' back back' : List Line) (m n made : List Shard) where
  pub both_shared : 1 ≤ length a → first_of b ≡ first_of a + length front → HaveShared nodes s lines shards a front front' m → HaveShared nodes s lines shards b back back' n → AreBoth (zip m n) made
      → HaveShared nodes s lines shards (a ++ b) (front ++ back) (front' ++ back') made
  both_shared some follow low high both = record {
    did = same_made elements nodes line (first_of (a ++ b)) (map seen (front ++ back)) (map seen (front' ++ back')) (tasks_of_shards (a ++ b)) children (tasks_of_shards made)
        (subst (λ i. HaveDone elements nodes line i (map seen (front ++ back)) (map seen (front' ++ back')) (tasks_of_shards (a ++ b)) children) (sym (first_append a b some))
        (subst (λ ts. HaveDone elements nodes line (first_of a) (map seen (front ++ back)) (map seen (front' ++ back')) ts children) (sym (flat_map-append (λ (x : Shard). tasks_in x.tasks.items) a b))
        (subst (λ ls. HaveDone elements nodes line (first_of a) (map seen (front ++ back)) ls (tasks_of_shards a ++ tasks_of_shards b) children) (sym (map-append seen front' back'))
        (subst (λ ls. HaveDone elements nodes line (first_of a) ls (map seen front' ++ map seen back') (tasks_of_shards a ++ tasks_of_shards b) children) (sym (map-append seen front back))
        (law elements nodes line (first_of a) (map seen front) (map seen front') (map seen back) (map seen back') (tasks_of_shards a) (tasks_of_shards m) (tasks_of_shards b) (tasks_of_shards n) low.did next)))))
        same;
    deeper = same_deeper (tasks_of_shards (a ++ b)) children (tasks_of_shards made)
        (subst (λ ts. AreDeeper ts children) (sym (flat_map-append (λ (x : Shard). tasks_in x.tasks.items) a b))
        (AreDeeper-append (tasks_of_shards a) (tasks_of_shards b) (tasks_of_shards m) (tasks_of_shards n) low.deeper high.deeper))
        same;
    dealt = both_shards nodes s lines shards m n made low.dealt high.dealt both;
  }
    where
      elements : Elements
      elements = held_of s

      line : Placing
      line = placed (held_of s) nodes lines

      children : List Task
      children = tasks_of_shards m ++ tasks_of_shards n

      same : AreSame children (tasks_of_shards made)
      same = both_tasks nodes s lines shards m n made low.dealt high.dealt both

      next : HaveDone elements nodes line (first_of a + length (map seen front)) (map seen back) (map seen back') (tasks_of_shards b) (tasks_of_shards n)
      next = subst (λ i. HaveDone elements nodes line i (map seen back) (map seen back') (tasks_of_shards b) (tasks_of_shards n)) (follow ∙ ap (λ k. first_of a + k) (sym (length-map front seen))) high.did

-- where both parts were answered
pub joined_shared : ShardLaw → (nodes : List Node) (s : Stored) (lines shards : ℕ) (xs a b : List Shard) (ls front front' back back' : List Line) (lower upper joined : Result (Vec Shard Global) OutOfMemory)
    → 1 ≤ length a → first_of b ≡ first_of a + length front → xs ≡ a ++ b → ls ≡ front ++ back
    → IfOk lower (λ v. HaveShared nodes s lines shards a front front' v.items) → IfOk upper (λ v. HaveShared nodes s lines shards b back back' v.items) → IfOk joined (λ v. AreJoined lower upper v.items)
    → IfOk joined (λ v. HaveShared nodes s lines shards xs ls (front' ++ back') v.items)
joined_shared law nodes s lines shards xs a b ls front front' back back' lower upper (Err e) some follow is lines_are low high both = tt
joined_shared law nodes s lines shards xs a b ls front front' back back' lower upper (Ok v) some follow is lines_are low high both =
    let f = subst (λ r. IfOk r (λ (w : Vec Shard Global). HaveShared nodes s lines shards a front front' w.items)) both.low_is low in
    let g = subst (λ r. IfOk r (λ (w : Vec Shard Global). HaveShared nodes s lines shards b back back' w.items)) both.high_is high in
    let h = both_shared law nodes s lines shards a b front front' back back' both.front.items both.back.items v.items some follow f g both.both in
    subst (λ zs. HaveShared nodes s lines shards zs ls (front' ++ back') v.items) (sym is)
    (subst (λ zs. HaveShared nodes s lines shards (a ++ b) zs (front' ++ back') v.items) (sym lines_are) h)

-- one shard alone
pub one_shard : (xs : List Shard) (x : Shard) → length xs ≡ 1 → x ≡ get_or xs 0 x → x ∷ [] ≡ xs
one_shard [] x one at = absurd (omega arith)
one_shard (y ∷ []) x one at = ap (λ z. z ∷ []) at
one_shard (y ∷ (z ∷ xs)) x one at = absurd (omega arith)

-- its lines are all lines
pub only_lines : (xs : List Shard) (x : Shard) → x ∷ [] ≡ xs → x.count ≡ lines_of xs
only_lines xs x one = (let a = sum_by-cons (λ (y : Shard). y.count) x [] in omega (arith, a)) ∙ ap lines_of one

-- the lines of two parts are kept
pub both_kept : (nodes : List Node) (s : Stored) (front front' back back' : List Line) → AreKept nodes s front front' → AreKept nodes s back back' → AreKept nodes s (front ++ back) (front' ++ back')
both_kept nodes s front front' back back' low high = record {
  counted = All-append (IsCounted nodes s) front' back' low.counted high.counted;
  numbers = map-append (λ (l : Line). l.number) front' back' ∙ (ap₂ (λ (xs : List ℕ) (ys : List ℕ). xs ++ ys) low.numbers high.numbers ∙ sym (map-append (λ (l : Line). l.number) front back));
}
