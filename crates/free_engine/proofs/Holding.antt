-- What a claim tells of a slot, and of what the worker holds.
use Rattle.std.proofs.Common.{◌≡◌, ◌≢◌, ℕ, ◌+◌, ◌<◌, ◌^◌, eq-eqb, ne_eqb, Bool, true, false, List, [], ◌∷◌, ◌++◌, map, length, Some, refl, sym, ap, subst, ◌∙◌, arith, append-nil}
use mathlib.Core.Logic.{dite}
use native.Mathlib.Decide.{ℕ_discrete}
use Rattle.turn_table.proofs.Bounds.{length-map}
use Rattle.work_store.specs.Stored.{Stored, held_of}
use Rattle.token_line.specs.declared.line.Entry.{Entry}
use Rattle.token_line.specs.Numbers.{line_number}
use Rattle.net_base.specs.declared.net.Net.{Net}
use Rattle.net_base.specs.declared.tasks.Task.{Task}
use Rattle.turn_table.specs.declared.views.Row.{Row}
use Rattle.turn_table.specs.declared.views.Sight.{Sight}
use Rattle.turn_table.specs.declared.views.View.{View}
use Rattle.turn_table.specs.Log.{IsAt, given_to, signed_by}
use Rattle.turn_table.specs.Steps.{Comes}
use Rattle.turn_table.proofs.Rows.{given_to-append}
use Rattle.task_pool.specs.declared.pool.PoolEntry.{PoolEntry}
use Rattle.task_pool.specs.declared.pool.PoolEntry.TheVariants.{Take, Finish, Stop}
use Rattle.task_pool.specs.Pools.{holds_after, holds_from, holds, IsQuiet, first_stop}
use Rattle.free_engine.specs.declared.slots.Slot.{Slot}
use Rattle.free_engine.specs.declared.slots.Slot.TheVariants.{Pool as InPool, Line as InLine}
use Rattle.free_engine.specs.declared.slots.SlotEntry.{SlotEntry}
use Rattle.free_engine.specs.declared.slots.SlotEntry.TheVariants.{OfPool, OfLine}
use Rattle.free_engine.specs.Slots.{entries, name, signature, worker_of, pool_list, IsPool, IsSlotFor, workers_in, nodes_in, store_in, first_in}
use Rattle.free_engine.specs.Turns.{HasPool, HasRow, IsSetUp, holds_slots, has_taken, a_row}
use Rattle.free_engine.specs.Counts.{SawQuiet, SawStop}

-- ---- who holds a task

slots_pool : (w : ℕ) (b : Bool) (es : List PoolEntry) → holds_slots w b (map OfPool es) ≡ holds_from w b es
slots_pool w b [] = refl
slots_pool w b (e ∷ es) = slots_pool w (holds_after w b e) es

other : (w : ℕ) (b : Bool) (e : PoolEntry) → worker_of e ≢ w → holds_after w b e ≡ b
other w b (Take q t) ne = rw (ne_eqb q w ne) refl
other w b (Finish q cs) ne = rw (ne_eqb q w ne) refl
other w b (Stop q) ne = rw (ne_eqb q w ne) refl

-- the entries that the worker signed tell it
slots_signed : (w : ℕ) (b : Bool) (es : List SlotEntry) → holds_slots w b (signed_by signature (w + 1) es) ≡ holds_slots w b es
slots_signed w b [] = refl
slots_signed w b (OfLine e ∷ es) = slots_signed w b es
slots_signed w b (OfPool e ∷ es) = dite (ℕ_discrete (worker_of e) w)
    (λ (y : worker_of e ≡ w). rw (eq-eqb (worker_of e + 1) (w + 1) (ap (λ n. n + 1) y)) (slots_signed w (holds_after w b e) es))
    (λ (n : worker_of e ≢ w). rw (ne_eqb (worker_of e + 1) (w + 1) (λ z. n (omega arith))) (slots_signed w b es ∙ ap (λ c. holds_slots w c es) (sym (other w b e n))))

slots-snoc : (w : ℕ) (b : Bool) (es : List SlotEntry) (e : SlotEntry) → holds_slots w b (es ++ e ∷ []) ≡ holds_slots w (holds_slots w b es) (e ∷ [])
slots-snoc w b [] e = refl
slots-snoc w b (OfPool x ∷ es) e = slots-snoc w (holds_after w b x) es e
slots-snoc w b (OfLine x ∷ es) e = slots-snoc w b es e

pub comes_holds : (w : ℕ) (y : Slot) (own : List (Row SlotEntry)) → IsPool y → signed_by signature (w + 1) (entries y) ≡ signed_by signature (w + 1) (given_to 0 own) → holds w (pool_list y) ≡ has_taken w own
comes_holds w (InPool q) own is mine =
    sym (slots_pool w false q.value.pool.entries.items) ∙ (sym (slots_signed w false (entries (InPool q))) ∙ (ap (holds_slots w false) mine ∙ slots_signed w false (given_to 0 own)))
comes_holds w (InLine l) own is mine = absurd is

-- the row of a take, of a line's entry, of a finish
pub took : (w : ℕ) (t : Task) (own own' : List (Row SlotEntry)) → own' ≡ own ++ a_row w 0 (OfPool (Take w t)) → has_taken w own' ≡ true
took w t own own' is = ap (has_taken w) is ∙ (ap (holds_slots w false) (given_to-append 0 own (a_row w 0 (OfPool (Take w t)))) ∙ (slots-snoc w false (given_to 0 own) (OfPool (Take w t)) ∙ rw (eq-eqb w w refl) refl))

pub still_holds : (w c : ℕ) (e : SlotEntry) (own own' : List (Row SlotEntry)) → own' ≡ own ++ a_row w (c + 1) e → has_taken w own' ≡ has_taken w own
still_holds w c e own own' is =
    let none : given_to 0 (a_row w (c + 1) e) ≡ [] = (let ne : c + 1 ≢ 0 = (λ z. omega arith) in rw (ne_eqb (c + 1) 0 ne) refl) in
    ap (has_taken w) is ∙ ap (holds_slots w false) (given_to-append 0 own (a_row w (c + 1) e) ∙ (ap (λ l. given_to 0 own ++ l) none ∙ append-nil (given_to 0 own)))

pub let_go : (w : ℕ) (cs : List Task) (own own' : List (Row SlotEntry)) → own' ≡ own ++ a_row w 0 (OfPool (Finish w cs)) → has_taken w own' ≡ false
let_go w cs own own' is = ap (has_taken w) is ∙ (ap (holds_slots w false) (given_to-append 0 own (a_row w 0 (OfPool (Finish w cs)))) ∙ (slots-snoc w false (given_to 0 own) (OfPool (Finish w cs)) ∙ rw (eq-eqb w w refl) refl))

-- ---- slots of one name

pool_same : (net : Net) (s : Stored) (workers : ℕ) (first : List Task) (y x : Slot) → name y ≡ name x → HasPool net s workers first x → HasPool net s workers first y
pool_same net s workers first (InPool q) (InLine m) e has = absurd has
pool_same net s workers first (InLine l) (InPool r) e has = absurd (cc)
pool_same net s workers first (InLine l) (InLine m) e has = has
pool_same net s workers first (InPool q) (InPool r) e has =
    let a : q.value.net ≡ r.value.net = cc in
    let b : q.value.store ≡ r.value.store = cc in
    let c : q.value.pool.workers ≡ r.value.pool.workers = cc in
    let d : q.value.pool.first ≡ r.value.pool.first = cc in record {
      has_net = ap (λ z. z.value) a ∙ has.has_net;
      has_store = ap (λ z. z.value) b ∙ has.has_store;
      of_workers = ap (λ z. z.value) c ∙ has.of_workers;
      began = ap (λ z. z.value.items) d ∙ has.began;
    }

row_same : (net : Net) (s : Stored) (lines i : ℕ) (y x : Slot) → name y ≡ name x → HasRow net s lines i x → HasRow net s lines i y
row_same net s lines i (InLine l) (InPool r) e has = absurd has
row_same net s lines i (InPool q) (InLine m) e has = absurd (cc)
row_same net s lines i (InPool q) (InPool r) e has = has
row_same net s lines i (InLine l) (InLine m) e has =
    let a : l.value.net ≡ m.value.net = cc in
    let b : l.value.store ≡ m.value.store = cc in
    let c : l.value.lines ≡ m.value.lines = cc in
    let d : l.value.line.number ≡ m.value.line.number = cc in record {
      has_net = ap (λ z. z.value) a ∙ has.has_net;
      has_store = ap (λ z. z.value) b ∙ has.has_store;
      of_lines = c ∙ has.of_lines;
      is_number = d ∙ has.is_number;
    }

module _ (net : Net) (s : Stored) (lines workers : ℕ) (first : List Task) (values : List Slot) (cells : IsSetUp net s lines workers first values) (v : View Slot SlotEntry) (same : v.values ≡ values) (y : Slot) where
  pub comes_pool : Comes entries name signature v 0 y → HasPool net s workers first y
  comes_pool came = pool_same net s workers first y came.first came.same_name (cells.pool came.first (subst (λ l. IsAt l 0 came.first) same came.begins))

  pub comes_row : (i : ℕ) → Comes entries name signature v (i + 1) y → HasRow net s lines i y
  comes_row i came = row_same net s lines i y came.first came.same_name (cells.rows i came.first (subst (λ l. IsAt l (i + 1) came.first) same came.begins))

pub is_pool : (net : Net) (s : Stored) (workers : ℕ) (first : List Task) (y : Slot) → HasPool net s workers first y → IsPool y
is_pool net s workers first (InPool q) has = tt
is_pool net s workers first (InLine l) has = has

pub pool_facts : (net : Net) (s : Stored) (workers : ℕ) (first : List Task) (y : Slot) → HasPool net s workers first y → (workers_in y ≡ workers) × (nodes_in y ≡ net.nodes) × (store_in y ≡ s) × (first_in y ≡ first)
pool_facts net s workers first (InPool q) has = (has.of_workers, ap (λ n. n.nodes) has.has_net, has.has_store, has.began)
pool_facts net s workers first (InLine l) has = absurd has

pub is_slot : (net : Net) (s : Stored) (lines i : ℕ) (x : Task) (y : Slot) → HasRow net s lines i y → line_number (held_of s) net.nodes lines x.node x.side x.token ≡ i → IsSlotFor net s x y
is_slot net s lines i x (InPool q) has at = has
is_slot net s lines i x (InLine l) has at = record {
  has_net = has.has_net;
  has_store = has.has_store;
  here = ap (λ n. line_number (held_of s) net.nodes n x.node x.side x.token) has.of_lines ∙ (at ∙ sym has.is_number);
}

-- a list of entries in memory is not longer than memory
pub few : (y : Slot) → length (entries y) < 2 ^ 63
few (InPool q) = let v = q.value.pool.entries in let a = v.ok.0 in let b = v.ok.1 in let c = v.small in let d = length-map (λ (e : PoolEntry). OfPool e) v.items in omega (arith, a, b, c, d)
few (InLine l) = let v = l.value.line.entries in let a = v.ok.0 in let b = v.ok.1 in let c = v.small in let d = length-map (λ (e : Entry). OfLine e) v.items in omega (arith, a, b, c, d)

at_end : {A : Type 0} (xs : List A) (x : A) → IsAt (xs ++ x ∷ []) (length xs) x
at_end [] x = refl
at_end (y ∷ ys) x = at_end ys x

-- the last that was seen is the pool
pub sees_now : (before old seen : List (Sight SlotEntry)) (c : ℕ) (es : List SlotEntry) → seen ≡ before ++ record { cell = c; list = es } ∷ [] → before ≡ old → c ≡ 0
    → (list : List PoolEntry) → es ≡ map OfPool list → seen ≡ old ++ record { cell = 0; list = map OfPool list } ∷ []
sees_now before old seen c es is same here list are =
    is ∙ (ap (λ l. l ++ record { cell = c; list = es } ∷ []) same ∙ (ap (λ k. old ++ record { cell = k; list = es } ∷ []) here ∙ ap (λ l. old ++ record { cell = 0; list = l } ∷ []) are))

pub saw_stop_now : (by : ℕ) (before seen : List (Sight SlotEntry)) (c : ℕ) (es : List SlotEntry) → seen ≡ before ++ record { cell = c; list = es } ∷ [] → c ≡ 0
    → (list : List PoolEntry) → es ≡ map OfPool list → first_stop list ≡ Some by → SawStop by seen
saw_stop_now by before seen c es is here list are stopped = record {
  place = length before;
  sight = record { cell = c; list = es };
  at = subst (λ l. IsAt l (length before) (record { cell = c; list = es })) (sym is) (at_end before (record { cell = c; list = es }));
  cell = here;
  list = list;
  list_is = are;
  stopped = stopped;
}

pub saw_now : (first : List Task) (before seen : List (Sight SlotEntry)) (c : ℕ) (es : List SlotEntry) → seen ≡ before ++ record { cell = c; list = es } ∷ [] → c ≡ 0
    → (list : List PoolEntry) → es ≡ map OfPool list → IsQuiet first list → SawQuiet first seen
saw_now first before seen c es is here list are quiet = record {
  place = length before;
  sight = record { cell = c; list = es };
  at = subst (λ l. IsAt l (length before) (record { cell = c; list = es })) (sym is) (at_end before (record { cell = c; list = es }));
  cell = here;
  list = list;
  list_is = are;
  quiet = quiet;
}
