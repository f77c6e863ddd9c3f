-- Values and items that are put one after another.
use Rattle.std.proofs.Common.{◌≡◌, ℕ, ◌+◌, ◌<◌, List, [], ◌∷◌, ◌++◌, length, drop, get_or, Result, Ok, Err, refl, ap, sym, ◌∙◌, subst, IsTrue}
use Rattle.std.specs.Prelude.{IsErrAnd}
use Rattle.std.proofs.lemmas.List.{drop_more}
use Rattle.ops_base.specs.declared.actions.Item.{Item}
use Rattle.ops_base.specs.declared.actions.Item.TheVariants as item
use Rattle.ops_base.specs.declared.actions.Term.{Term}
use Rattle.ops_base.specs.declared.elements.Class.{Class}
use Rattle.ops_base.specs.declared.values.Value.{Value}
use Rattle.ops_base.specs.Names.{Spellings}
use Rattle.ops_io.specs.Coming.{Coming}
use Rattle.ops_io.specs.Output.{column_after}
use Rattle.ops_io.specs.Ports.{Port, Put, Stopped}
use Rattle.ops_io.specs.declared.stop.Stop.TheVariants as stop
use Rattle.ops_meaning.specs.Acting.{ActionError as Missed, ActState as Meant, Valued, evaluated, printed, item_done, items_done, lead_after}
use Rattle.ops_meaning.specs.Effects.{Effect, writes, silent, and_then}
use Rattle.ops_meaning.specs.Layout.{Lead, Apart, value_bytes, values_bytes, tab_bytes}
use Rattle.act_phase.specs.Deeds.{Scene, Acts, StillDoes}
use Rattle.act_phase.specs.State.{State, doing_of, values_in, valued_of}
use Rattle.act_phase.specs.declared.outcome.ActionError.{ActionError}
use Rattle.act_phase.specs.declared.outcome.ActionError.TheVariants as mishap
use Rattle.act_phase.specs.declared.values.Values.{Values}
use Rattle.act_phase.proofs.Deeds.{does_put, does_nothing, still_all, still_same, still_then, still_fails, still_last, still_refused}

-- the values from a place on begin with the value there
pub values_here : (names : Spellings) (lead : Lead) (column next : ℕ) (vs : List Value) (i : ℕ) (d : Value) → i < length vs → next ≡ column_after column (value_bytes names lead column (get_or vs i d)) → values_bytes names lead column (drop i vs) ≡ value_bytes names lead column (get_or vs i d) ++ values_bytes names Apart next (drop (i + 1) vs)
values_here names lead column next vs i d within at =
    ap (values_bytes names lead column) (drop_more vs i d within)
    ∙ ap (λ n. value_bytes names lead column (get_or vs i d) ++ values_bytes names Apart n (drop (i + 1) vs)) (sym at)

-- ---- bytes that are all that is left

module _ {T : Type 0} {a b : Scene} {whole : Coming → Effect Missed T} (s : Coming → T) (bytes : List ℕ) (p : StillDoes a b whole (λ d. writes bytes (s d))) where
  pub bytes_put : {X : Type 0} (x : X) (port : Port) → Put b.port port bytes → Acts (λ _ d. s d) (Ok x) a (record b { port = port }) whole
  bytes_put x port put = still_last p (does_put x b port (λ d. writes bytes (s d)) (λ d. (refl, put)) (record { whole = put.whole; faults = put.faults }))

  pub bytes_refused : {X : Type 0} {view : X → Coming → T} (r : Result X ActionError) (port : Port) → IsErrAnd r (λ f. f ≡ mishap.Write) → Stopped stop.Write b.port port bytes → Acts view r a (record b { port = port }) whole
  bytes_refused r port h stopped = still_refused stop.Write r mishap.Write port h refl refl p (λ d. stopped)

-- ---- the values of a term

abbrev shows : Lead → ℕ → Valued → Effect Missed Meant
shows lead column v = writes (values_bytes v.doing.names lead column v.values) v.doing

printed_then : (lead : Lead) (column : ℕ) (r : Result Valued Missed) → printed lead column r ≡ and_then column (silent r) (shows lead)
printed_then lead column (Ok v) = refl
printed_then lead column (Err m) = refl

module _ (classes : List Class) (doing : State) (t : Term) (lead : Lead) {a b : Scene} (w : IsTrue a.port.out.whole) where
  pub value_found : (v : Values) (vs : List Value) → vs ≡ values_in v → Acts (λ v d. valued_of v (doing_of doing b.names d)) (Ok v) a b (λ d. silent (evaluated classes t (doing_of doing a.names d)))
      → StillDoes a b (λ d. item_done classes lead a.port.out.column (item.Print t) (doing_of doing a.names d)) (λ d. writes (values_bytes b.names lead b.port.out.column vs) (doing_of doing b.names d))
  value_found v vs same p =
      still_same _
      (still_then (shows lead) (still_all a (λ d. item_done classes lead a.port.out.column (item.Print t) (doing_of doing a.names d)) w) p (λ d. printed_then lead a.port.out.column (evaluated classes t (doing_of doing a.names d))))
      (λ d. ap (λ vs. writes (values_bytes b.names lead b.port.out.column vs) (doing_of doing b.names d)) (sym same))

  pub value_failed : {X Y : Type 0} {view : X → Coming → Valued} (seen : Y → Coming → Meant) (r : Result Y ActionError) (f : ActionError) → IsErrAnd r (λ g. g ≡ f) → Acts view (Err f) a b (λ d. silent (evaluated classes t (doing_of doing a.names d)))
      → Acts seen r a b (λ d. item_done classes lead a.port.out.column (item.Print t) (doing_of doing a.names d))
  value_failed seen r f h p =
      still_fails seen r (shows lead) h (still_all a (λ d. item_done classes lead a.port.out.column (item.Print t) (doing_of doing a.names d)) w) p
      (λ d. printed_then lead a.port.out.column (evaluated classes t (doing_of doing a.names d)))

-- ---- one item after another

module _ (classes : List Class) (doing : State) (lead : Lead) (items : List Item) (i : ℕ) (x : Item) (within : i < length items) (is : x ≡ get_or items i x) where
  abbrev behind_item : ℕ → Meant → Effect Missed Meant
  behind_item n d = items_done classes (lead_after x) n (drop (i + 1) items) d

  items_here : (column : ℕ) (d : Meant) → items_done classes lead column (drop i items) d ≡ and_then column (item_done classes lead column x d) behind_item
  items_here column d = ap (λ xs. items_done classes lead column xs d) (drop_more items i x within ∙ ap (λ y. y ∷ drop (i + 1) items) (sym is))

  module _ {a b c : Scene} {whole : Coming → Effect Missed Meant} (p : StillDoes a b whole (λ d. items_done classes lead b.port.out.column (drop i items) (doing_of doing b.names d))) where
    pub item_put : {X : Type 0} {y : X} → Acts (λ _ d. doing_of doing c.names d) (Ok y) b c (λ d. item_done classes lead b.port.out.column x (doing_of doing b.names d))
        → StillDoes a c whole (λ d. items_done classes (lead_after x) c.port.out.column (drop (i + 1) items) (doing_of doing c.names d))
    item_put q = still_then behind_item p q (λ d. items_here b.port.out.column (doing_of doing b.names d))

    pub item_failed : {X Y : Type 0} {view : X → Coming → Meant} (seen : Y → Coming → Meant) (r : Result Y ActionError) (f : ActionError) → IsErrAnd r (λ g. g ≡ f) → Acts view (Err f) b c (λ d. item_done classes lead b.port.out.column x (doing_of doing b.names d)) → Acts seen r a c whole
    item_failed seen r f h q = still_fails seen r behind_item h p q (λ d. items_here b.port.out.column (doing_of doing b.names d))

-- ---- tabs and widths

pub tab_left : (classes : List Class) (doing : State) (lead : Lead) (n m : ℕ) (x : Item) (a : Scene) → IsTrue a.port.out.whole → x ≡ item.TabTo n → m ≡ n
    → StillDoes a a (λ d. item_done classes lead a.port.out.column x (doing_of doing a.names d)) (λ d. writes (tab_bytes m a.port.out.column) (doing_of doing a.names d))
tab_left classes doing lead n m x a w is same =
    still_same _ (still_all a (λ d. item_done classes lead a.port.out.column x (doing_of doing a.names d)) w)
    (λ d. ap (λ x. item_done classes lead a.port.out.column x (doing_of doing a.names d)) is ∙ ap (λ n. writes (tab_bytes n a.port.out.column) (doing_of doing a.names d)) (sym same))

pub width_done : {X : Type 0} (classes : List Class) (doing : State) (lead : Lead) (n : ℕ) (x : Item) (a : Scene) (y : X) → IsTrue a.port.out.whole → x ≡ item.RightIn n
    → Acts (λ _ d. doing_of doing a.names d) (Ok y) a a (λ d. item_done classes lead a.port.out.column x (doing_of doing a.names d))
width_done classes doing lead n x a y w is = does_nothing y a _ w (λ d. ap (λ x. item_done classes lead a.port.out.column x (doing_of doing a.names d)) is)

-- ---- an item of a known kind

pub same_item : {X : Type 0} {view : X → Coming → Meant} {r : Result X ActionError} {a b : Scene} (classes : List Class) (doing : State) (lead : Lead) (x y : Item) → x ≡ y
    → Acts view r a b (λ d. item_done classes lead a.port.out.column y (doing_of doing a.names d)) → Acts view r a b (λ d. item_done classes lead a.port.out.column x (doing_of doing a.names d))
same_item {view = view} {r = r} {a = a} {b = b} classes doing lead x y is p =
    let P : Item → Type 0 = λ x. Acts view r a b (λ d. item_done classes lead a.port.out.column x (doing_of doing a.names d)) in subst P (sym is) p

pub line_left : (classes : List Class) (doing : State) (lead : Lead) (x : Item) (a : Scene) → IsTrue a.port.out.whole → x ≡ item.Crlf
    → StillDoes a a (λ d. item_done classes lead a.port.out.column x (doing_of doing a.names d)) (λ d. writes (10 ∷ []) (doing_of doing a.names d))
line_left classes doing lead x a w is =
    still_same _ (still_all a (λ d. item_done classes lead a.port.out.column x (doing_of doing a.names d)) w)
    (λ d. ap (λ x. item_done classes lead a.port.out.column x (doing_of doing a.names d)) is)
