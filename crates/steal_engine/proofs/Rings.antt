-- Passes that are joined one after another, and seats at which workers can begin.
use Rattle.std.proofs.Common.{◌≡◌, ℕ, ◌+◌, suc, List, [], ◌∷◌, ◌++◌, length, map, sum_by, refl, ap, ◌∙◌, arith, length-append}
use Rattle.std.specs.List.{All, AllZip}
use Rattle.std.proofs.lemmas.List.Elements.{All-nil, All-cons, All-head, All-tail, All-push}
use Rattle.std.proofs.lemmas.List.Sums.{sum_by-cons}
use Rattle.work_store.specs.Stored.{Stored}
use Rattle.net_base.specs.declared.net.Net.{Net}
use Rattle.net_base.specs.declared.tasks.Task.{Task}
use Rattle.token_line.specs.declared.line.Entry.{Entry}
use Rattle.turn_table.specs.declared.cells.Cells.{Cells}
use Rattle.turn_table.specs.declared.passes.Pass.{Pass}
use Rattle.turn_table.specs.declared.views.Row.{Row as ARow}
use Rattle.turn_table.specs.declared.views.Share.{Share}
use Rattle.turn_table.specs.declared.views.View.{View}
use Rattle.turn_table.specs.Log.{weigh}
use Rattle.turn_table.specs.Turns.{IsPassOf, knows, number}
use Rattle.task_deque.specs.declared.handles.OwnEnd.{OwnEnd}
use Rattle.task_deque.specs.declared.handles.ThiefEnd.{ThiefEnd}
use Rattle.steal_engine.specs.declared.seats.Seat.{Seat}
use Rattle.steal_engine.specs.declared.seats.Worked.{Worked}
use Rattle.steal_engine.specs.Ring.{turned}
use Rattle.steal_engine.specs.Seats.{CanBegin, HasEnded}
use Rattle.steal_engine.specs.Sums.{children_in, tasks_in}
use Rattle.task_deque.specs.Ends.{of, thief_of}
use Rattle.steal_engine.specs.Team.{AreOf, HasPoppedNone, HasStolenNone, weigh_pushed}
use Rattle.steal_engine.specs.declared.rows.Row.{Row}
use Rattle.steal_engine.specs.declared.rows.RowName.{RowName}
use Rattle.steal_engine.specs.Rows.{IsReady, rounds_in, rounds_of}
use Rattle.token_line.specs.Held.{TaskFits}
use Rattle.turn_table.specs.Turns.{first_values}
use Rattle.steal_engine.specs.Rows.{IsSetUp}
use Rattle.steal_engine.specs.Logged.{AreJoined, AreNew, AreNext, AreReadyFrom, Balanced, BalancesAll}
use Rattle.steal_engine.proofs.Logging.{rows_done, rows_made}
use Rattle.steal_engine.proofs.Balanced.{log_by_pass}

pub joined_more : (n : ℕ) (ps : List (Pass Row Entry RowName)) (xs : List (Share Entry)) (p : Pass Row Entry RowName) (x : Share Entry) → AreJoined n ps xs → x.pass ≡ n + length ps → x.rows ≡ (knows p).own
    → AreJoined n (ps ++ p ∷ []) (xs ++ x ∷ [])
joined_more n [] [] p x j num rows = (let e : x.pass ≡ n = omega (arith, num) in e, rows, tt)
joined_more n [] (y ∷ ys) p x j num rows = absurd j
joined_more n (q ∷ ps) [] p x j num rows = absurd j
joined_more n (q ∷ ps) (y ∷ ys) p x j num rows = (j.0, j.1, joined_more (suc n) ps ys p x j.2 (let e : x.pass ≡ suc n + length ps = omega (arith, num) in e) rows)

pub turned_all : {A : Type 0} (P : A → Type 0) (xs : List A) → All P xs → All P (turned xs)
turned_all P [] all = all
turned_all P (x ∷ xs) all = All-push P xs x (All-tail P x xs all) (All-head P x xs all)

abbrev PlaceOf : Type 0 → Type 0
PlaceOf J = Seat J (Pass Row Entry RowName)

abbrev BackOf : Type 0 → Type 0
BackOf J = Worked J (Pass Row Entry RowName)

module _ {J : Type 0} (fits : Task → Type 0) (cells : Cells Row Entry RowName) (net : Net) (s : Stored) (lines : ℕ) where
  pub can_begin : (n : ℕ) (ss : List (PlaceOf J)) → AreReadyFrom fits cells net s lines n (map (λ (x : PlaceOf J). x.pass) ss) → All HasPoppedNone (map (λ (x : PlaceOf J). x.own) ss) → All HasStolenNone (map (λ (x : PlaceOf J). x.thief) ss)
      → All (CanBegin (IsReady fits cells net s lines) number rounds_in) ss
  can_begin n [] ready popped stolen = All-nil (CanBegin (IsReady fits cells net s lines) number rounds_in)
  can_begin n (x ∷ xs) ready popped stolen =
      All-cons (CanBegin (IsReady fits cells net s lines) number rounds_in) x xs
      (record {
        is_ready = ready.0;
        fresh = ap rounds_of ready.2;
        popped_none = All-head HasPoppedNone x.own (map (λ (y : PlaceOf J). y.own) xs) popped;
        stolen_none = All-head HasStolenNone x.thief (map (λ (y : PlaceOf J). y.thief) xs) stolen;
      })
      (can_begin (suc n) xs ready.3 (All-tail HasPoppedNone x.own (map (λ (y : PlaceOf J). y.own) xs) popped) (All-tail HasStolenNone x.thief (map (λ (y : PlaceOf J). y.thief) xs) stolen))

  pub are_next : (n : ℕ) (ss : List (PlaceOf J)) (es : List (BackOf J)) → AllZip (HasEnded (IsReady fits cells net s lines) number rounds_in) ss es → AreReadyFrom fits cells net s lines n (map (λ (x : PlaceOf J). x.pass) ss)
      → AreNext cells n (map (λ (e : BackOf J). e.pass) es)
  are_next n [] [] z ready = tt
  are_next n [] (e ∷ es) z ready = absurd z
  are_next n (x ∷ xs) [] z ready = absurd z
  are_next n (x ∷ xs) (e ∷ es) z ready = (z.0.is_ready.pass, z.0.same_number ∙ ready.1, are_next (suc n) xs es z.1 ready.3)

module _ {J : Type 0} (h : Task → ℕ) where
  done_by : (es : List (Worked J (Pass Row Entry RowName))) → weigh (λ (p : Pass Row Entry RowName). weigh (λ (r : ARow Entry). h r.entry.task) (knows p).own) (map (λ (e : Worked J (Pass Row Entry RowName)). e.pass) es)
      ≡ sum_by (λ (e : Worked J (Pass Row Entry RowName)). sum_by h (tasks_in (rounds_in e.pass))) es
  done_by [] = refl
  done_by (e ∷ es) = let i = done_by es in let a = rows_done h (knows e.pass).own in
      let b = sum_by-cons (λ (y : Worked J (Pass Row Entry RowName)). sum_by h (tasks_in (rounds_in y.pass))) e es in omega (arith, i, a, b)

  made_by : (es : List (Worked J (Pass Row Entry RowName))) → weigh (λ (p : Pass Row Entry RowName). weigh (λ (r : ARow Entry). sum_by h r.entry.children) (knows p).own) (map (λ (e : Worked J (Pass Row Entry RowName)). e.pass) es)
      ≡ sum_by (λ (e : Worked J (Pass Row Entry RowName)). sum_by h (children_in (rounds_in e.pass))) es
  made_by [] = refl
  made_by (e ∷ es) = let i = made_by es in let a = rows_made h (knows e.pass).own in
      let b = sum_by-cons (λ (y : Worked J (Pass Row Entry RowName)). sum_by h (children_in (rounds_in y.pass))) e es in omega (arith, i, a, b)

-- what the team did balances any log of it
pub balanced : {J : Type 0} (owns : List (OwnEnd J)) (left : List Task) (v : View Row Entry) (es : List (Worked J (Pass Row Entry RowName)))
    → v.own ≡ [] → v.splits ≡ length (map (λ (e : Worked J (Pass Row Entry RowName)). e.pass) es) → AreJoined 1 (map (λ (e : Worked J (Pass Row Entry RowName)). e.pass) es) v.joined
    → ((h : Task → ℕ) → sum_by (λ (e : Worked J (Pass Row Entry RowName)). sum_by h (tasks_in (rounds_in e.pass))) es + sum_by h left ≡ sum_by (λ (e : Worked J (Pass Row Entry RowName)). sum_by h (children_in (rounds_in e.pass))) es + weigh_pushed h owns)
    → Balanced owns left v
balanced {J = J} owns left v es own splits joined team lasts log accounts h =
    let ps = map (λ (e : Worked J (Pass Row Entry RowName)). e.pass) es in
    let a = log_by_pass (λ (r : ARow Entry). h r.entry.task) log v lasts accounts own ps splits joined in
    let b = log_by_pass (λ (r : ARow Entry). sum_by h r.entry.children) log v lasts accounts own ps splits joined in
    let c = done_by h es in
    let d = made_by h es in
    let e = team h in omega (arith, a, b, c, d, e)

map_length : {A B : Type 0} (f : A → B) (xs : List A) → length (map f xs) ≡ length xs
map_length f [] = refl
map_length f (x ∷ xs) = let i = map_length f xs in omega (arith, i)

turned_length : {A : Type 0} (xs : List A) → length (turned xs) ≡ length xs
turned_length [] = refl
turned_length (x ∷ xs) = let a = length-append xs (x ∷ []) in omega (arith, a)

zip_length : {A B : Type 0} (R : A → B → Type 0) (xs : List A) (ys : List B) → AllZip R xs ys → length ys ≡ length xs
zip_length R [] [] z = refl
zip_length R [] (y ∷ ys) z = absurd z
zip_length R (x ∷ xs) [] z = absurd z
zip_length R (x ∷ xs) (y ∷ ys) z = let i = zip_length R xs ys z.1 in omega (arith, i)

pub turned_count : {J : Type 0} (owns : List (OwnEnd J)) (thieves thieves' : List (ThiefEnd J)) (n m : ℕ) → AreOf owns thieves → thieves' ≡ turned thieves → length owns ≡ n → n ≡ m → length thieves' ≡ m
turned_count owns thieves thieves' n m are is count same =
    let a = ap length are in
    let b = map_length of owns in
    let c = map_length thief_of thieves in
    let d = ap length is in
    let e = turned_length thieves in omega (arith, a, b, c, d, e, count, same)

pub seated_count : {J : Type 0} (ss : List (PlaceOf J)) (es : List (BackOf J)) (ps : List (Pass Row Entry RowName)) → map (λ (x : PlaceOf J). x.pass) ss ≡ ps → length es ≡ length ss → length ps ≡ length (map (λ (e : BackOf J). e.pass) es)
seated_count {J = J} ss es ps is count =
    let a = ap length is in
    let b = map_length (λ (x : PlaceOf J). x.pass) ss in
    let c = map_length (λ (e : BackOf J). e.pass) es in omega (arith, a, b, c, count)

-- ---- passes that have made nothing

pub new_more : (cells : Cells Row Entry RowName) (n : ℕ) (ps : List (Pass Row Entry RowName)) (p : Pass Row Entry RowName) → AreNew cells n ps → IsPassOf cells p → number p ≡ n + length ps → (knows p).own ≡ [] → AreNew cells n (ps ++ p ∷ [])
new_more cells n [] p are of is none = (of, (let e : number p ≡ n = omega (arith, is) in e), none, tt)
new_more cells n (q ∷ ps) p are of is none = (are.0, are.1, are.2, new_more cells (suc n) ps p are.3 of (let e : number p ≡ suc n + length ps = omega (arith, is) in e) none)

pub ready_from : (fits : Task → Type 0) (cells : Cells Row Entry RowName) (net : Net) (s : Stored) (lines n : ℕ) (ps : List (Pass Row Entry RowName)) → AreNew cells n ps → IsSetUp net s lines (first_values cells)
    → ((x : Task) → fits x → TaskFits net.nodes s x) → ((x : Task) → TaskFits net.nodes s x → fits x) → AreReadyFrom fits cells net s lines n ps
ready_from fits cells net s lines n [] are set means meant = tt
ready_from fits cells net s lines n (p ∷ ps) are set means meant =
    (record { pass = are.0; cells_are = set; means = means; meant = meant }, are.1, are.2, ready_from fits cells net s lines (suc n) ps are.3 set means meant)

-- what was dealt are the tasks that waited
pub balances_all : {J : Type 0} (owns owns' : List (OwnEnd J)) (first left : List Task) (v : View Row Entry) → ((h : Task → ℕ) → weigh_pushed h owns ≡ 0) → ((h : Task → ℕ) → weigh_pushed h owns' ≡ weigh_pushed h owns + sum_by h first)
    → Balanced owns' left v → BalancesAll first left v
balances_all owns owns' first left v none dealt balanced lasts log accounts h =
    let a = balanced lasts log accounts h in
    let b = dealt h in
    let c = none h in omega (arith, a, b, c)
