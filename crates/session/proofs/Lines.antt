-- How lines that are put one after another add up.
use Rattle.std.proofs.Common.{◌≡◌, ◌∙◌, ap, sym, subst, refl, ℕ, ◌+◌, ◌<◌, List, [], ◌∷◌, ◌++◌, length, map, drop, get_or, filter, Bool, true, false, cond, Option, Some, None, append_assoc, IsTrue}
use Rattle.std.specs.List.{filter_map, cons_option}
use Rattle.std.proofs.lemmas.List.{append-nil, map-append, drop_more}
use Rattle.ops_io.specs.Output.{column_after}
use Rattle.ops_io.specs.Ports.{Port, Put, Stopped, Underway}
use Rattle.ops_io.specs.declared.stop.Stop.{Stop}
use Rattle.ops_io.specs.declared.stop.Stop.TheVariants as stop
use Rattle.ops_io.proofs.Known.{column-append}
use Rattle.ops_io.proofs.PortLemmas.{put_nothing, put_short, underway_step, underway_stop, underway_done}
use Rattle.ops_meaning.specs.Layout.{fresh_line, line_at, lines_at}

-- after a line the column is 0
line_column : (column : ℕ) (text : List ℕ) → column_after column (line_at column text) ≡ 0
line_column column text =
    ap (column_after column) (sym (append_assoc (fresh_line column) text (10 ∷ [])))
    ∙ column-append column (fresh_line column ++ text) (10 ∷ [])

-- lines, and more lines after them
pub lines-append : (column : ℕ) (xs ys : List (List ℕ)) → lines_at column (xs ++ ys) ≡ lines_at column xs ++ lines_at (column_after column (lines_at column xs)) ys
lines-append column [] ys = refl
lines-append column (x ∷ xs) ys =
    let first = line_at column x in
    let rest = lines_at 0 xs in
    let behind : column_after 0 rest ≡ column_after column (first ++ rest) = ap (λ n. column_after n rest) (sym (line_column column x)) ∙ sym (column-append column first rest) in
    ap (λ w. first ++ w) (lines-append 0 xs ys)
    ∙ sym (append_assoc first rest (lines_at (column_after 0 rest) ys))
    ∙ ap (λ n. (first ++ rest) ++ lines_at n ys) behind

-- one line
pub one_line : (column : ℕ) (text : List ℕ) → lines_at column (text ∷ []) ≡ line_at column text
one_line column text = append-nil (line_at column text)

-- Of all these lines the rest is still to come, and what comes before it was put.
abbrev pub LinesLeft : Port → Port → List (List ℕ) → List (List ℕ) → Type 0
LinesLeft start now all rest = Underway start now (lines_at start.out.column all) (lines_at now.out.column rest)

module _ (start now next : Port) (all rest some more : List (List ℕ)) (left : LinesLeft start now all rest) (is : rest ≡ some ++ more) where
  -- some lines more
  pub lines_step : Put now next (lines_at now.out.column some) → LinesLeft start next all more
  lines_step put =
      let column = now.out.column in
      let split : lines_at column rest ≡ lines_at column some ++ lines_at next.out.column more =
      ap (lines_at column) is ∙ lines-append column some more ∙ ap (λ n. lines_at column some ++ lines_at n more) (sym put.column) in
      underway_step start now next (lines_at start.out.column all) (lines_at column rest) (lines_at column some) (lines_at next.out.column more) left split put

  -- they are refused
  pub lines_stop : {why : Stop} → Stopped why now next (lines_at now.out.column some) → Stopped why start next (lines_at start.out.column all)
  lines_stop {why = why} stopped =
      let column = now.out.column in
      let behind = column_after column (lines_at column some) in
      underway_stop why start now next (lines_at start.out.column all) (lines_at column rest) (lines_at column some) (lines_at behind more) left
      (ap (lines_at column) is ∙ lines-append column some more) stopped

module _ (start now next : Port) (all rest more : List (List ℕ)) (one : List ℕ) (left : LinesLeft start now all rest) (is : rest ≡ one ∷ more) where
  -- one line more
  pub line_step : Put now next (line_at now.out.column one) → LinesLeft start next all more
  line_step put =
      let P : List ℕ → Type 0 = Put now next in
      lines_step start now next all rest (one ∷ []) more left is (subst P (sym (one_line now.out.column one)) put)

  -- it is refused
  pub line_stop : Stopped stop.Write now next (line_at now.out.column one) → Stopped stop.Write start next (lines_at start.out.column all)
  line_stop stopped =
      let P : List ℕ → Type 0 = Stopped stop.Write now next in
      lines_stop start now next all rest (one ∷ []) more left is (subst P (sym (one_line now.out.column one)) stopped)

-- all lines are still to come
pub lines_begin : (start : Port) (all rest : List (List ℕ)) → IsTrue start.out.whole → all ≡ rest → LinesLeft start start all rest
lines_begin start all rest w is =
    let P : List (List ℕ) → Type 0 = LinesLeft start start all in
    subst P is (record { sofar = []; split = refl; put = put_nothing start w })

-- no line is still to come
pub lines_end : (start now : Port) (all rest : List (List ℕ)) → LinesLeft start now all rest → rest ≡ [] → Put start now (lines_at start.out.column all)
lines_end start now all rest left none =
    let P : List (List ℕ) → Type 0 = LinesLeft start now all in
    underway_done start now (lines_at start.out.column all) (subst P none left)

-- memory runs out before the rest
pub lines_short : (start now : Port) (all rest : List (List ℕ)) → LinesLeft start now all rest → Stopped stop.OutOfMemory start now (lines_at start.out.column all)
lines_short start now all rest left =
    let P : List ℕ → Type 0 = Stopped stop.OutOfMemory start now in
    subst P (sym left.split) (put_short start now left.sofar (lines_at now.out.column rest) left.put)

-- ---- lists of lines

-- the items from a place on begin with the item there
map_here : {X : Type 0} (f : X → List ℕ) (xs : List X) (i : ℕ) (d x : X) → i < length xs → x ≡ get_or xs i d → map f (drop i xs) ≡ f x ∷ map f (drop (i + 1) xs)
map_here f xs i d x within is =
    ap (map f) (drop_more xs i d within) ∙ ap (λ y. f y ∷ map f (drop (i + 1) xs)) (sym is)

-- a line for each item of a slice
module _ {X : Type 0} (f : X → List ℕ) (xs : List X) (i : ℕ) (d x : X) (within : i < length xs) (is : x ≡ get_or xs i d) (start now next : Port) (left : LinesLeft start now (map f xs) (map f (drop i xs))) where
  pub item_step : Put now next (line_at now.out.column (f x)) → LinesLeft start next (map f xs) (map f (drop (i + 1) xs))
  item_step =
      line_step start now next (map f xs) (map f (drop i xs)) (map f (drop (i + 1) xs)) (f x) left (map_here f xs i d x within is)

  pub item_stop : Stopped stop.Write now next (line_at now.out.column (f x)) → Stopped stop.Write start next (lines_at start.out.column (map f xs))
  item_stop =
      line_stop start now next (map f xs) (map f (drop i xs)) (map f (drop (i + 1) xs)) (f x) left (map_here f xs i d x within is)

-- what passes a test of one item, and of those after it
filter_first : {X : Type 0} (p : X → Bool) (x : X) (xs : List X) → filter p (x ∷ xs) ≡ filter p (x ∷ []) ++ filter p xs
filter_first p x xs = by (p x)
  where
    by : (b : Bool) → cond b (x ∷ filter p xs) (filter p xs) ≡ cond b (x ∷ []) [] ++ filter p xs
    by true = refl
    by false = refl

-- the lines of what passes a test, of one item and of those after it
pub filtered_first : {X : Type 0} (f : X → List ℕ) (p : X → Bool) (x : X) (xs : List X) → map f (filter p (x ∷ xs)) ≡ map f (filter p (x ∷ [])) ++ map f (filter p xs)
filtered_first f p x xs = ap (map f) (filter_first p x xs) ∙ map-append f (filter p (x ∷ [])) (filter p xs)

-- a line for each item of a slice that passes a test
module _ {X : Type 0} (f : X → List ℕ) (p : X → Bool) (xs : List X) (i : ℕ) (d : X) (within : i < length xs) (start now next : Port) (left : LinesLeft start now (map f (filter p xs)) (map f (filter p (drop i xs)))) where
  tested_here : map f (filter p (drop i xs)) ≡ map f (filter p (get_or xs i d ∷ [])) ++ map f (filter p (drop (i + 1) xs))
  tested_here =
      ap (λ ys. map f (filter p ys)) (drop_more xs i d within) ∙ filtered_first f p (get_or xs i d) (drop (i + 1) xs)

  pub tested_step : Put now next (lines_at now.out.column (map f (filter p (get_or xs i d ∷ [])))) → LinesLeft start next (map f (filter p xs)) (map f (filter p (drop (i + 1) xs)))
  tested_step =
      lines_step start now next (map f (filter p xs)) (map f (filter p (drop i xs))) (map f (filter p (get_or xs i d ∷ []))) (map f (filter p (drop (i + 1) xs))) left tested_here

  pub tested_stop : Stopped stop.Write now next (lines_at now.out.column (map f (filter p (get_or xs i d ∷ [])))) → Stopped stop.Write start next (lines_at start.out.column (map f (filter p xs)))
  tested_stop =
      lines_stop start now next (map f (filter p xs)) (map f (filter p (drop i xs))) (map f (filter p (get_or xs i d ∷ []))) (map f (filter p (drop (i + 1) xs))) left tested_here

-- a line for each item of a slice for which something is found
module _ {X Y : Type 0} (f : Y → List ℕ) (h : X → Option Y) (xs : List X) (i : ℕ) (d : X) (within : i < length xs) (start now next : Port) (left : LinesLeft start now (map f (filter_map h xs)) (map f (filter_map h (drop i xs)))) where
  cons_first : (o : Option Y) (ys : List Y) → cons_option o ys ≡ cons_option o [] ++ ys
  cons_first None ys = refl
  cons_first (Some y) ys = refl

  found_here : map f (filter_map h (drop i xs)) ≡ map f (cons_option (h (get_or xs i d)) []) ++ map f (filter_map h (drop (i + 1) xs))
  found_here =
      ap (λ ys. map f (filter_map h ys)) (drop_more xs i d within)
      ∙ ap (map f) (cons_first (h (get_or xs i d)) (filter_map h (drop (i + 1) xs)))
      ∙ map-append f (cons_option (h (get_or xs i d)) []) (filter_map h (drop (i + 1) xs))

  pub found_step : Put now next (lines_at now.out.column (map f (cons_option (h (get_or xs i d)) []))) → LinesLeft start next (map f (filter_map h xs)) (map f (filter_map h (drop (i + 1) xs)))
  found_step =
      lines_step start now next (map f (filter_map h xs)) (map f (filter_map h (drop i xs))) (map f (cons_option (h (get_or xs i d)) [])) (map f (filter_map h (drop (i + 1) xs))) left found_here

  pub found_stop : Stopped stop.Write now next (lines_at now.out.column (map f (cons_option (h (get_or xs i d)) []))) → Stopped stop.Write start next (lines_at start.out.column (map f (filter_map h xs)))
  found_stop =
      lines_stop start now next (map f (filter_map h xs)) (map f (filter_map h (drop i xs))) (map f (cons_option (h (get_or xs i d)) [])) (map f (filter_map h (drop (i + 1) xs))) left found_here
