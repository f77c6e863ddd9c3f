-- What a shard did: one task after another.
use Rattle.std.proofs.Common.{◌≡◌, append-nil, ℕ, zero, suc, ◌+◌, ◌-◌, ◌<◌, ◌≤◌, List, [], ◌∷◌, ◌++◌, All, get_or, length, map, set, ap, ap₂, subst, sym, ◌∙◌, arith}
use Rattle.std.proofs.Math.Seq.{map-set_same}
use Rattle.std.proofs.lemmas.List.{length-map, map-append}
use Rattle.std.proofs.lemmas.List.Elements.{All-append, All-cons, All-head, All-nil, All-set, All-tail, All-weaker}
use Rattle.std.proofs.lemmas.List.Sums.{sum_by-append}
use Rattle.work_store.specs.Stored.{Stored, held_of}
use Rattle.net_base.specs.declared.nodes.Alpha.{Alpha}
use Rattle.net_base.specs.declared.nodes.Node.{Node}
use Rattle.net_base.specs.declared.tasks.Side.{Side}
use Rattle.net_base.specs.declared.tasks.Task.{Task}
use Rattle.net_base.specs.Sound.{IsSound}
use Rattle.net_base.specs.Tokens.{Elements}
use Rattle.token_line.specs.declared.line.Entry.{Entry}
use Rattle.token_line.specs.declared.line.Line.{Line}
use Rattle.token_line.specs.Bags.{Bag, after}
use Rattle.token_line.specs.Held.{TaskFits}
use Rattle.token_line.specs.Lawful.{IsChildOf, IsLawful}
use Rattle.token_line.specs.Lines.{sum_in}
use Rattle.activation.specs.Acting.{Acts, IsCounted}
use Rattle.step_core.specs.Machine.{Placing, Seen, add_entry, place_of, sums_at, with_entry}
use Rattle.step_core.specs.Phases.{AreSame, children_of, entries_of}
use Rattle.step_core.specs.Rounds.{HaveDone, OneLaw}
use Rattle.step_core.specs.Settling.{ChildLaw}
use Rattle.step_core.specs.Worlds.{placed, seen}
use Rattle.rounds_engine.specs.declared.shards.Placed.{Placed}
use Rattle.rounds_engine.specs.declared.shards.Shard.{Shard}
use Rattle.rounds_engine.specs.Sharing.{ActsAt, AreAllShards, AreDeeper, AreKept, HasOwn, HaveShared, IsPlacedAt, tasks_in, tasks_of_shards}
use Rattle.rounds_engine.proofs.Carried.{same_level}
use mathlib.Core.Path.{fun_ext}

-- ---- one line in the place of another

bag_same : (a b : Bag) → ((n : ℕ) (s : Side) (t : List ℕ) → a n s t ≡ b n s t) → a ≡ b
bag_same a b h = fun_ext (λ n. fun_ext (λ s. fun_ext (λ t. h n s t)))

seen_is : (l : Line) (b : Bag) (es : List Entry) → ((n : ℕ) (s : Side) (t : List ℕ) → sum_in l n s t ≡ b n s t) → l.entries.items ≡ es → seen l ≡ record { sums = b; entries = es }
seen_is l b es sums entries = let make : Bag → List Entry → Seen = λ c xs. record { sums = c; entries = xs } in ap₂ make (bag_same (sum_in l) b sums) entries

seen_entry : (ls : List Line) (k : ℕ) (old new : Line) (e : Entry) → k < length ls → old ≡ get_or ls k old → seen new ≡ with_entry (seen old) e → map seen (set ls k new) ≡ add_entry k e (map seen ls)
seen_entry [] k old new e low at is = absurd (omega arith)
seen_entry (l ∷ ls) zero old new e low at is = ap (λ x. x ∷ map seen ls) (is ∙ ap (λ x. with_entry (seen x) e) at)
seen_entry (l ∷ ls) (suc k) old new e low at is = ap (λ xs. seen l ∷ xs) (seen_entry ls k old new e (omega arith) at is)

sums_seen : (ls : List Line) (k : ℕ) (old : Line) → k < length ls → old ≡ get_or ls k old → (n : ℕ) (s : Side) (t : List ℕ) → sums_at k (map seen ls) n s t ≡ sum_in old n s t
sums_seen [] k old low at n s t = absurd (omega arith)
sums_seen (l ∷ ls) zero old low at n s t = ap (λ x. sum_in x n s t) (sym at)
sums_seen (l ∷ ls) (suc k) old low at n s t = sums_seen ls k old (omega arith) at n s t

-- ---- the task on its line

pub acts_at : (nodes : List Node) (s : Stored) (x : Task) (old new : Line) (before now : List Task) → Acts nodes s x old new before now
    → (ls : List Line) (k : ℕ) → k < length ls → old ≡ get_or ls k old → ActsAt nodes s k x ls (set ls k new) before now
acts_at nodes s x old new before now acts ls k low at = record {
  entry = acts.entry;
  task = acts.task;
  lawful = subst (λ b. IsLawful (held_of s) nodes b acts.entry) (sym (bag_same (sums_at k (map seen ls)) (sum_in old) (sums_seen ls k old low at))) (acts.lawful (held_of s) (λ tag e h. h));
  joins = seen_entry ls k old new acts.entry low at
      (seen_is new (after (sum_in old) acts.entry.task) (old.entries.items ++ acts.entry ∷ []) (λ n side t. acts.sums n side t ∙ ap (λ y. after (sum_in old) y n side t) (sym acts.task)) acts.entries);
  fit = acts.fit;
  given = acts.given;
}

pub kept_set : (nodes : List Node) (s : Stored) (ls : List Line) (k : ℕ) (old new : Line) → All (IsCounted nodes s) ls → old ≡ get_or ls k old → IsCounted nodes s new → new.number ≡ old.number
    → AreKept nodes s ls (set ls k new)
kept_set nodes s ls k old new all at counted number = record {
  counted = All-set (IsCounted nodes s) ls k new counted all;
  numbers = map-set_same (λ (l : Line). l.number) ls k new old (number ∙ ap (λ (l : Line). l.number) at);
}

-- ---- the shard on its way

-- the shard did these of its tasks, and their children fit
pub record HaveWorked (nodes : List Node) (s : Stored) (lines first : ℕ) (todo : List Placed) (old new : List Line) (made : List Task) : Type 0 where
  pub did : HaveDone (held_of s) nodes (placed (held_of s) nodes lines) first (map seen old) (map seen new) (tasks_in todo) made
  pub fit : All (TaskFits nodes s) made
  pub deeper : AreDeeper (tasks_in todo) made

back_of : {X : Type 0} (P : X → Type 0) (xs : List X) (y : X) → All P (xs ++ y ∷ []) → All P xs × P y
back_of P [] y all = (All-nil P, All-head P y [] all)
back_of P (x ∷ xs) y all =
    let r = back_of P xs y (All-tail P x (xs ++ y ∷ []) all) in (λ k d in'. (elim k as (λ j. j < length (x ∷ xs) → P (get_or (x ∷ xs) j d)) [ zero ↦ λ h. All-head P x (xs ++ y ∷ []) all | suc j ↦ λ h. r.0 j d (omega arith) ]) in', r.1)

pub one_worked : OneLaw → ChildLaw → (nodes : List Node) (alphas : List Alpha) (s : Stored) (lines first : ℕ) (todo : List Placed) (old mid new : List Line) (p : Placed) (made now : List Task)
    → IsSound alphas nodes → HaveWorked nodes s lines first todo old mid made → IsPlacedAt nodes s lines p → first ≤ p.line → p.line - first < length mid
    → ActsAt nodes s (p.line - first) p.task mid new made now → HaveWorked nodes s lines first (todo ++ p ∷ []) old new now
one_worked one child nodes alphas s lines first todo old mid new p made now sound have is from low acts = record {
  did = subst (λ ts. HaveDone elements nodes line first (map seen old) (map seen new) (tasks_in (todo ++ p ∷ [])) ts) (sym acts.given)
      (subst (λ ts. HaveDone elements nodes line first (map seen old) (map seen new) ts (made ++ e.children)) (sym pushed)
      (subst (λ ls. HaveDone elements nodes line first (map seen old) ls (tasks_in todo ++ e.task ∷ []) (made ++ e.children)) (sym acts.joins)
      (one elements nodes line first (map seen old) (map seen mid) (tasks_in todo) made k e have.did (omega (arith, low, length-seen)) on acts.lawful)));
  fit = subst (All (TaskFits nodes s)) (sym acts.given) (All-append (TaskFits nodes s) made e.children have.fit acts.fit);
  deeper = λ level all.
      let parts = back_of (λ (x : Task). level ≤ x.node) (tasks_in todo) p.task (subst (All (λ (x : Task). level ≤ x.node)) (map-append (λ (q : Placed). q.task) todo (p ∷ [])) all) in
      subst (All (λ (x : Task). level + 1 ≤ x.node)) (sym acts.given)
      (All-append (λ (x : Task). level + 1 ≤ x.node) made e.children (have.deeper level parts.0)
      (All-weaker (IsChildOf nodes e.task.node) (λ (x : Task). level + 1 ≤ x.node)
      (λ x of_it. let a = (child alphas nodes e.task.node x sound of_it).0 in let b = parts.1 in let c = ap (λ (y : Task). y.node) acts.task in omega (arith, a, b, c)) e.children acts.lawful.below));
}
  where
    elements : Elements
    elements = held_of s

    line : Placing
    line = placed (held_of s) nodes lines

    k : ℕ
    k = p.line - first

    e : Entry
    e = acts.entry

    length-seen : length (map seen mid) ≡ length mid
    length-seen = length-map mid seen

    on : place_of line e.task ≡ first + k
    on = ap (place_of line) acts.task ∙ (sym is.line ∙ omega (arith, from))

    pushed : tasks_in (todo ++ p ∷ []) ≡ tasks_in todo ++ e.task ∷ []
    pushed = map-append (λ (q : Placed). q.task) todo (p ∷ []) ∙ ap (λ x. tasks_in todo ++ x ∷ []) (sym acts.task)

-- ---- all tasks of a shard

-- children in another order are as good
pub same_made : (elements : Elements) (nodes : List Node) (line : Placing) (first : ℕ) (old new : List Seen) (todo made dealt : List Task)
    → HaveDone elements nodes line first old new todo made → AreSame made dealt → HaveDone elements nodes line first old new todo dealt
same_made elements nodes line first old new todo made dealt did same = record {
  count = did.count;
  begins = did.begins;
  phases = did.phases;
  tasks = did.tasks;
  children = λ h.
      let a = did.children h in
      let b = sum_by-append h (children_of (entries_of old)) made in
      let c = sum_by-append h (children_of (entries_of old)) dealt in
      let d = same h in omega (arith, a, b, c, d);
}

pub same_deeper : (todo made dealt : List Task) → AreDeeper todo made → AreSame made dealt → AreDeeper todo dealt
same_deeper todo made dealt deeper same level all = same_level (level + 1) made dealt same (deeper level all)

pub shard_shared : (nodes : List Node) (s : Stored) (lines shards : ℕ) (x : Shard) (old new : List Line) (made : List Task) (xs : List Shard)
    → HaveWorked nodes s lines x.first x.tasks.items old new made → AreSame made (tasks_of_shards xs) → AreAllShards nodes s lines shards xs → HaveShared nodes s lines shards (x ∷ []) old new xs
shard_shared nodes s lines shards x old new made xs have same all = record {
  did = subst (λ ts. HaveDone (held_of s) nodes (placed (held_of s) nodes lines) x.first (map seen old) (map seen new) ts (tasks_of_shards xs)) (sym (append-nil (tasks_in x.tasks.items)))
      (same_made (held_of s) nodes (placed (held_of s) nodes lines) x.first (map seen old) (map seen new) (tasks_in x.tasks.items) made (tasks_of_shards xs) have.did same);
  deeper = subst (λ ts. AreDeeper ts (tasks_of_shards xs)) (sym (append-nil (tasks_in x.tasks.items))) (same_deeper (tasks_in x.tasks.items) made (tasks_of_shards xs) have.deeper same);
  dealt = all;
}

-- ---- what is known of all shards

pub fit_all : (nodes : List Node) (s : Stored) (lines : ℕ) (xs : List Shard) → All (HasOwn nodes s lines) xs → All (TaskFits nodes s) (tasks_of_shards xs)
fit_all nodes s lines [] own = All-nil (TaskFits nodes s)
fit_all nodes s lines (x ∷ xs) own =
    All-append (TaskFits nodes s) (tasks_in x.tasks.items) (tasks_of_shards xs)
    (fit_in x.tasks.items (All-head (HasOwn nodes s lines) x xs own).placed) (fit_all nodes s lines xs (All-tail (HasOwn nodes s lines) x xs own))
  where
    fit_in : (ps : List Placed) → All (IsPlacedAt nodes s lines) ps → All (TaskFits nodes s) (tasks_in ps)
    fit_in [] all = All-nil (TaskFits nodes s)
    fit_in (p ∷ ps) all = All-cons (TaskFits nodes s) p.task (tasks_in ps) (All-head (IsPlacedAt nodes s lines) p ps all).fits (fit_in ps (All-tail (IsPlacedAt nodes s lines) p ps all))
