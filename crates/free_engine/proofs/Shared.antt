-- What all workers did together.
use Rattle.std.proofs.Common.{◌≡◌, ℕ, ◌+◌, ◌<◌, List, [], ◌∷◌, ◌++◌, length, map, sum_by, refl, sym, ap, ap₂, ◌∙◌, subst, suc, zero, arith, append-nil, slice_get, Some, option_map}
use Rattle.std.proofs.lemmas.Option.{slice_get-map}
use Rattle.std.proofs.lemmas.List.Sums.{sum_by-append}
use mathlib.Core.Option.{some, some-injective, some-ne-none}
use lib.ListN.{get_elem?}
use Rattle.work_store.specs.Stored.{Stored, held_of}
use Rattle.net_base.specs.declared.nodes.Node.{Node}
use Rattle.net_base.specs.declared.tasks.Task.{Task}
use Rattle.step_core.specs.Machine.{Seen}
use Rattle.step_core.specs.Phases.{tasks_of, children_of, before, entries_of, IsPhase}
use Rattle.step_core.specs.Worlds.{placed, seen}
use Rattle.step_core.proofs.Adding.{bag_ext}
use Rattle.turn_table.specs.declared.views.Row.{Row}
use Rattle.turn_table.specs.declared.views.Share.{Share}
use Rattle.turn_table.specs.declared.views.Sight.{Sight}
use Rattle.turn_table.specs.declared.views.View.{View}
use Rattle.turn_table.specs.Log.{IsAt, Begins, given_to, rows_of, weigh, sum_below}
use Rattle.turn_table.specs.Ends.{Accounts}
use Rattle.turn_table.proofs.Lists.{all_at}
use Rattle.task_pool.specs.declared.pool.PoolEntry.{PoolEntry}
use Rattle.task_pool.specs.Pools.{IsRun, begun, played, IsQuiet}
use Rattle.task_pool.proofs.PoolLaws.{balance, quiet_law}
use Rattle.free_engine.specs.declared.slots.Slot.{Slot}
use Rattle.free_engine.specs.declared.slots.Slot.TheVariants.{Pool as InPool, Line as InLine}
use Rattle.free_engine.specs.declared.slots.SlotEntry.{SlotEntry}
use Rattle.free_engine.specs.declared.slots.SlotEntry.TheVariants.{OfPool}
use Rattle.free_engine.specs.Slots.{IsFresh, entries, name, signature}
use Rattle.free_engine.specs.Phased.{KeepsPhase}
use Rattle.free_engine.specs.Tables.{IsRowOf, BeganWith, seen_in, lines_in, IsTable}
use Rattle.free_engine.specs.Counts.{HasWorked, HaveWorked, SawQuiet, AreFresh, ShareLaw}
use Rattle.free_engine.specs.Drained.{AreDrained}
use Rattle.free_engine.proofs.Weights.{entered, made, taken, given, at, spread, pool_taken, pool_given, lines_entered, lines_made, one_cell, many_cells, rounds_entered, rounds_made}

-- ---- lists

same_below : (n : ℕ) (f g : ℕ → ℕ) → ((p : ℕ) → p < n → f p ≡ g p) → sum_below n f ≡ sum_below n g
same_below zero f g e = refl
same_below (suc n) f g e = let h = same_below n f g (λ p low. e p (omega arith)) in let k = e n (omega arith) in omega (arith, h, k)

to_at : {A : Type 0} (xs : List A) (i : ℕ) (x : A) → slice_get xs i ≡ Some x → get_elem? xs i ≡ some x
to_at [] i x e = absurd (cc)
to_at (y ∷ ys) zero x e = let same : y ≡ x = cc in ap some same
to_at (y ∷ ys) (suc i) x e = to_at ys i x e

from_at : {A : Type 0} (xs : List A) (i : ℕ) (x : A) → get_elem? xs i ≡ some x → slice_get xs i ≡ Some x
from_at [] i x e = absurd (some-ne-none x (sym e))
from_at (y ∷ ys) zero x e = ap Some (some-injective y x e)
from_at (y ∷ ys) (suc i) x e = from_at ys i x e

at_same : {A B : Type 0} (xs : List A) (ys : List B) (c : ℕ) (y : B) → length ys ≡ length xs → get_elem? ys c ≡ some y → (x : A) × (get_elem? xs c ≡ some x)
at_same xs [] c y len e = absurd (some-ne-none y (sym e))
at_same [] (z ∷ ys) c y len e = absurd (omega arith)
at_same (x ∷ xs) (z ∷ ys) zero y len e = (x, refl)
at_same (x ∷ xs) (z ∷ ys) (suc c) y len e = at_same xs ys c y (omega arith) e

parts : {A : Type 0} (xs : List A) (n : ℕ) → length xs ≡ suc n → (y : A) × (ys : List A) × (xs ≡ y ∷ ys) × (length ys ≡ n)
parts [] n e = absurd (omega arith)
parts (y ∷ ys) n e = (y, ys, refl, omega arith)

-- a list of a pool's entries that goes on as entries of slots goes on as a pool's
of_pool : (list es : List PoolEntry) (rest : List SlotEntry) → map OfPool list ++ rest ≡ map OfPool es → (more : List PoolEntry) × (list ++ more ≡ es)
of_pool [] es rest e = (es, refl)
of_pool (x ∷ list) [] rest e = absurd (cc)
of_pool (x ∷ list) (y ∷ es) rest e =
    let head : x ≡ y = cc in
    let tail : map OfPool list ++ rest ≡ map OfPool es = cc in
    let r = of_pool list es rest tail in (r.0, ap₂ (λ (z : PoolEntry) (zs : List PoolEntry). z ∷ zs) head r.1)

-- the lists are of one length, and at each place related
same_map : {A : Type 0} (f : Slot → A) (xs ys : List Slot) → length ys ≡ length xs
    → ((k : ℕ) (x y : Slot) → get_elem? xs k ≡ some x → get_elem? ys k ≡ some y → f y ≡ f x) → map f ys ≡ map f xs
same_map f [] [] len is = refl
same_map f [] (y ∷ ys) len is = absurd (omega arith)
same_map f (x ∷ xs) [] len is = absurd (omega arith)
same_map {A = A} f (x ∷ xs) (y ∷ ys) len is = ap₂ (λ (b : A) (bs : List A). b ∷ bs) (is zero x y refl refl) (same_map f xs ys (omega arith) (λ k u w a b. is (suc k) u w a b))

map_twice : {A B : Type 0} (f : A → B) (g : Slot → A) (xs : List Slot) → map f (map g xs) ≡ map (λ x. f (g x)) xs
map_twice f g [] = refl
map_twice {B = B} f g (x ∷ xs) = ap (λ (bs : List B). f (g x) ∷ bs) (map_twice f g xs)

at_map : (xs : List Slot) (i : ℕ) (l : Seen) → slice_get (map seen_in xs) i ≡ Some l → (x : Slot) × (slice_get xs i ≡ Some x) × (seen_in x ≡ l)
at_map [] i l e = absurd (cc)
at_map (x ∷ xs) zero l e = (x, refl, cc)
at_map (x ∷ xs) (suc i) l e = at_map xs i l e

-- ---- slots of one name

same_before : (y x : Slot) → name y ≡ name x → before (seen_in y) ≡ before (seen_in x)
same_before (InPool q) (InPool r) e = refl
same_before (InPool q) (InLine m) e = absurd (cc)
same_before (InLine l) (InPool r) e = absurd (cc)
same_before (InLine l) (InLine m) e =
    let first : l.value.first ≡ m.value.first = cc in
    bag_ext (before (seen l.value.line)) (before (seen m.value.line)) (λ n s t. l.value.begins n s t ∙ (ap (λ f. before (seen f.value) n s t) first ∙ sym (m.value.begins n s t)))

pool_kind : (first : List Task) (y x : Slot) → name y ≡ name x → BeganWith first x → BeganWith first y
pool_kind first (InPool q) (InPool r) e is = let f : q.value.pool.first ≡ r.value.pool.first = cc in ap (λ z. z.value.items) f ∙ is
pool_kind first (InPool q) (InLine m) e is = absurd is
pool_kind first (InLine l) (InPool r) e is = absurd (cc)
pool_kind first (InLine l) (InLine m) e is = is

no_entries : (first : List Task) (x : Slot) → BeganWith first x → IsFresh x → entries x ≡ []
no_entries first (InPool q) began fresh = ap (map OfPool) fresh
no_entries first (InLine l) began fresh = absurd began

module _ (nodes : List Node) (s : Stored) (lines : ℕ) where
  row_kind : (i : ℕ) (y x : Slot) → name y ≡ name x → IsRowOf nodes s lines i x → IsRowOf nodes s lines i y
  row_kind i (InPool q) (InPool r) e is = is
  row_kind i (InPool q) (InLine m) e is = absurd (cc)
  row_kind i (InLine l) (InPool r) e is = absurd is
  row_kind i (InLine l) (InLine m) e is =
      let net : l.value.net ≡ m.value.net = cc in
      let store : l.value.store ≡ m.value.store = cc in
      let count : l.value.lines ≡ m.value.lines = cc in
      let number : l.value.line.number ≡ m.value.line.number = cc in record {
        has_nodes = ap (λ z. z.value.nodes) net ∙ is.has_nodes;
        has_store = ap (λ z. z.value) store ∙ is.has_store;
        of_lines = count ∙ is.of_lines;
        number = number ∙ is.number;
      }

  abbrev phase : ℕ → Seen → Type 0
  phase i l = IsPhase (held_of s) nodes (placed (held_of s) nodes lines) i l

  row_kept : (i : ℕ) (y x : Slot) → name y ≡ name x → IsFresh x → IsRowOf nodes s lines i y → phase i (seen_in x) → phase i (seen_in y)
  row_kept i (InPool q) x e fresh is was = absurd is
  row_kept i (InLine l) (InPool r) e fresh is was = absurd (cc)
  row_kept i (InLine l) (InLine m) e fresh is was =
      let first : l.value.first ≡ m.value.first = cc in
      let from : seen l.value.first.value ≡ seen m.value.line = ap (λ f. seen f.value) first ∙ ap seen fresh in
      let keeps = subst (λ k. KeepsPhase nodes s lines k l.value.first.value l.value.line) is.number
      (subst (λ k. KeepsPhase nodes s k l.value.line.number l.value.first.value l.value.line) is.of_lines
      (subst (λ z. KeepsPhase nodes z l.value.lines l.value.line.number l.value.first.value l.value.line) is.has_store
      (subst (λ ns. KeepsPhase ns l.value.store.value l.value.lines l.value.line.number l.value.first.value l.value.line) is.has_nodes l.value.phased))) in
      keeps (subst (λ f. phase i f) (sym from) was)

-- ---- the pool at the end

pool_balance : (first : List Task) (y : Slot) → BeganWith first y → (list : List PoolEntry) → IsQuiet first list → (rest : List SlotEntry) → map OfPool list ++ rest ≡ entries y
    → (h : Task → ℕ) → weigh (taken h) (entries y) ≡ sum_by h first + weigh (given h) (entries y)
pool_balance first (InLine l) began list quiet rest e h = absurd began
pool_balance first (InPool q) began list quiet rest e h =
    let es = q.value.pool.entries.items in
    let m = of_pool list es rest e in
    let run : IsRun (begun first) es = subst (λ f. IsRun (begun f) es) began q.value.pool.played.run in
    let none : m.0 ≡ [] = quiet_law first list m.0 quiet (subst (IsRun (begun first)) (sym m.1) run) in
    let same : list ≡ es = sym (append-nil list) ∙ (ap (λ l. list ++ l) (sym none) ∙ m.1) in
    let drained : (played first es).queue ≡ [] = subst (λ l. (played first l).queue ≡ []) same quiet.queue in
    let b = balance h (begun first) es run in
    let d = ap (sum_by h) drained in
    let f = pool_taken h es in
    let g = pool_given h es in omega (arith, b, d, f, g)

-- ---- all together

module _ (nodes : List Node) (s : Stored) (lines workers : ℕ) (first : List Task) (v : View Slot SlotEntry) (lasts : List Slot) (log : List (Row SlotEntry))
    (table : IsTable nodes s lines first v.values) (fresh : AreFresh v.values)
    (accounts : Accounts entries name signature v lasts log) (worked : HaveWorked lines workers v) (saw : SawQuiet first v.seen) where
  -- what agrees in each worker's rows agrees in the log
  agree : (f g : Row SlotEntry → ℕ) → ((w : ℕ) (rows : List (Row SlotEntry)) → HasWorked lines w rows → weigh f rows ≡ weigh g rows) → weigh f log ≡ weigh g log
  agree f g same = accounts.weights f ∙ (same_below (v.splits + 1) (λ p. weigh f (rows_of p log)) (λ p. weigh g (rows_of p log)) each ∙ sym (accounts.weights g))
    where
      each : (p : ℕ) → p < v.splits + 1 → weigh f (rows_of p log) ≡ weigh g (rows_of p log)
      each zero low = let none = accounts.own ∙ worked.own in ap (weigh f) none ∙ sym (ap (weigh g) none)
      each (suc w) low =
          let below : w < workers = (let z = worked.splits in omega (arith, z)) in
          let r = worked.each w below in
          let is : rows_of r.1.pass log ≡ r.1.rows = all_at (λ (share : Share SlotEntry). rows_of share.pass log ≡ share.rows) v.joined r.0 r.1 accounts.joined r.2 in
          let number : suc w ≡ r.1.pass = (let z = r.3 in omega (arith, z)) in
          let rows : rows_of (suc w) log ≡ r.1.rows = ap (λ p. rows_of p log) number ∙ is in
          ap (weigh f) rows ∙ (same w r.1.rows r.4 ∙ sym (ap (weigh g) rows))

  cells_at : (c : ℕ) (x y : Slot) → get_elem? v.values c ≡ some x → get_elem? lasts c ≡ some y → (entries y ≡ entries x ++ given_to c log) × (name y ≡ name x)
  cells_at c x y a b =
      let z = accounts.cells c x a in
      let same : z.0 ≡ y = some-injective z.0 y (sym z.1 ∙ b) in
      (ap entries (sym same) ∙ z.2, ap name (sym same) ∙ z.3)

  module _ (last : Slot) (rows : List Slot) (are : lasts ≡ last ∷ rows) (count : length rows ≡ lines) where
    row_cells : (k : ℕ) (x y : Slot) → get_elem? table.rows k ≡ some x → get_elem? rows k ≡ some y → (entries y ≡ entries x ++ given_to (k + 1) log) × (name y ≡ name x)
    row_cells k x y a b =
        let next : k + 1 ≡ suc k = omega arith in
        cells_at (k + 1) x y
        (ap (λ l. get_elem? l (k + 1)) table.is ∙ (ap (λ n. get_elem? (table.pool ∷ table.rows) n) next ∙ a))
        (ap (λ l. get_elem? l (k + 1)) are ∙ (ap (λ n. get_elem? (last ∷ rows) n) next ∙ b))

    pool_at : get_elem? v.values 0 ≡ some table.pool
    pool_at = ap (λ l. get_elem? l 0) table.is

    last_at : get_elem? lasts 0 ≡ some last
    last_at = ap (λ l. get_elem? l 0) are

    pool_cell : (entries last ≡ given_to 0 log) × (name last ≡ name table.pool)
    pool_cell = let r = cells_at 0 table.pool last pool_at last_at in (r.0 ∙ ap (λ l. l ++ given_to 0 log) (no_entries first table.pool table.began (fresh 0 table.pool pool_at)), r.1)

    began : BeganWith first last
    began = pool_kind first last table.pool pool_cell.1 table.began

    begins : Begins (map OfPool saw.list) (entries last)
    begins =
        let z = all_at (λ (sight : Sight SlotEntry). (x : Slot) × IsAt lasts sight.cell x × Begins sight.list (entries x)) v.seen saw.place saw.sight accounts.seen saw.at in
        let same : z.0 ≡ last = some-injective z.0 last (sym z.1 ∙ (ap (λ c. get_elem? lasts c) saw.cell ∙ last_at)) in
        (z.2.0, ap (λ l. l ++ z.2.0) (sym saw.list_is) ∙ (z.2.1 ∙ ap entries same))

    row_at : (i : ℕ) (x : Slot) → get_elem? table.rows i ≡ some x → get_elem? v.values (i + 1) ≡ some x
    row_at i x e =
        let next : i + 1 ≡ suc i = omega arith in
        ap (λ l. get_elem? l (i + 1)) table.is ∙ (ap (λ n. get_elem? (table.pool ∷ table.rows) n) next ∙ e)

    lengths : length rows ≡ length table.rows
    lengths = count ∙ sym table.count

    pub at_end : IsTable nodes s lines first lasts
    at_end = record {
      pool = last;
      rows = rows;
      is = are;
      began = began;
      count = count;
      each = λ i y e.
          let x = at_same table.rows rows i y lengths (to_at rows i y e) in
          row_kind nodes s lines i y x.0 (row_cells i x.0 y x.1 (to_at rows i y e)).1 (table.each i x.0 (from_at table.rows i x.0 x.1));
    }

    olds : lines_in v.values ≡ map seen_in table.rows
    olds = ap lines_in table.is

    news : lines_in lasts ≡ map seen_in rows
    news = ap lines_in are

    in_lines : (f : SlotEntry → ℕ) → weigh (λ (y : Slot). weigh f (entries y)) rows ≡ weigh (λ (x : Slot). weigh f (entries x)) table.rows + weigh (spread f 1 lines) log
    in_lines f =
        let a = many_cells f log 1 table.rows rows lengths (λ k x y p q. (row_cells k x y p q).0) in
        let b = ap (λ n. weigh (spread f 1 n) log) table.count in omega (arith, a, b)

    in_pool : (f : SlotEntry → ℕ) → weigh f (entries last) ≡ weigh (at f 0) log
    in_pool f = ap (weigh f) pool_cell.0 ∙ one_cell f 0 log

    drained : AreDrained (held_of s) nodes (placed (held_of s) nodes lines) (map seen_in table.rows) (map seen_in rows) first
    unfolding at_end
    drained = record {
      begins = map_twice before seen_in rows ∙ (same_map (λ x. before (seen_in x)) table.rows rows lengths (λ k x y p q. same_before y x (row_cells k x y p q).1) ∙ sym (map_twice before seen_in table.rows));
      phases = λ i l e.
          let y = at_map rows i l e in
          let x = at_same table.rows rows i y.0 lengths (to_at rows i y.0 y.1) in
          let old = from_at table.rows i x.0 x.1 in record {
            was = seen_in x.0;
            at = slice_get-map seen_in table.rows i ∙ ap (option_map seen_in) old;
            phase = λ was. subst (phase nodes s lines i) y.2
                (row_kept nodes s lines i y.0 x.0 (row_cells i x.0 y.0 x.1 (to_at rows i y.0 y.1)).1 (fresh (i + 1) x.0 (row_at i x.0 x.1)) (at_end.each i y.0 y.1) was);
          };
      tasks = λ h.
          let a = lines_entered h rows in
          let b = lines_entered h table.rows in
          let c = in_lines (entered h) in
          let d = agree (spread (entered h) 1 lines) (at (taken h) 0) (λ w own has. ap (weigh (spread (entered h) 1 lines)) has.own_is ∙ (rounds_entered lines w h has.rounds has.inside ∙ sym (ap (weigh (at (taken h) 0)) has.own_is))) in
          let e = in_pool (taken h) in
          let a' = lines_made h rows in
          let b' = lines_made h table.rows in
          let c' = in_lines (made h) in
          let d' = agree (spread (made h) 1 lines) (at (given h) 0) (λ w own has. ap (weigh (spread (made h) 1 lines)) has.own_is ∙ (rounds_made lines w h has.rounds has.inside ∙ sym (ap (weigh (at (given h) 0)) has.own_is))) in
          let e' = in_pool (given h) in
          let p = pool_balance first last began saw.list saw.quiet begins.0 begins.1 h in
          let x = sum_by-append h (tasks_of (entries_of (map seen_in rows))) (children_of (entries_of (map seen_in table.rows))) in
          let y = sum_by-append h (tasks_of (entries_of (map seen_in table.rows))) (first ++ children_of (entries_of (map seen_in rows))) in
          let z = sum_by-append h first (children_of (entries_of (map seen_in rows))) in omega (arith, a, b, c, d, e, a', b', c', d', e', p, x, y, z);
    }

    pub both : IsTable nodes s lines first lasts × AreDrained (held_of s) nodes (placed (held_of s) nodes lines) (lines_in v.values) (lines_in lasts) first
    both = (
      at_end,
      subst (λ ls. AreDrained (held_of s) nodes (placed (held_of s) nodes lines) ls (lines_in lasts) first) (sym olds)
          (subst (λ ls. AreDrained (held_of s) nodes (placed (held_of s) nodes lines) (map seen_in table.rows) ls first) (sym news) drained),
    )

pub share_law : ShareLaw
share_law nodes s lines workers first v lasts log table fresh accounts worked saw =
    let long : length lasts ≡ suc lines = (let a = accounts.count in let b = ap length table.is in let c = table.count in omega (arith, a, b, c)) in
    let p = parts lasts lines long in
    both nodes s lines workers first v lasts log table fresh accounts worked saw p.0 p.1 p.2 p.3
