-- What is spelled of the actions of a production is read back.
use Rattle.std.proofs.Common.{◌≡◌, ℕ, suc, ◌+◌, ◌<◌, Bool, true, false, ◌&&◌, ◌||◌, ◌==◌, cond, List, [], ◌∷◌, ◌++◌, length, map, refl, sym, ap, subst, ◌∙◌, arith, Option, Some, None, nat_lt, unwrap_or, slice_get, take, append-nil, append_assoc, length-append, true≢false}
use Rattle.std.specs.Prelude.{is_some}
use Rattle.std.specs.List.{list_all}
use Rattle.std.proofs.lemmas.Bool.{and_parts, and_from, ltb-true, eqb-true}
use Rattle.ops_base.specs.declared.values.Sym.{Sym}
use Rattle.ops_base.specs.declared.elements.Class.{Class}
use Rattle.ops_base.specs.declared.actions.Term.{Term}
use Rattle.ops_base.specs.declared.actions.Term.TheVariants as term
use Rattle.ops_base.specs.declared.actions.Put.{Put}
use Rattle.ops_base.specs.declared.actions.Item.{Item}
use Rattle.ops_base.specs.declared.actions.Item.TheVariants as item
use Rattle.ops_base.specs.declared.actions.Hole.{Hole}
use Rattle.ops_base.specs.declared.actions.Action.{Action}
use Rattle.ops_base.specs.declared.actions.Action.TheVariants as action
use Rattle.ops_base.specs.declared.rules.Rule.{Rule}
use Rattle.ops_base.specs.Filling.{in_term, in_put, in_item, in_action, total}
use Rattle.ops_base.specs.Valid.{is_in, class_of, cells_of}
use Rattle.ops_grammar.specs.declared.words.Word.{Word}
use Rattle.ops_grammar.specs.declared.words.Named.{Named}
use Rattle.ops_grammar.specs.declared.words.Keyword.TheVariants as keyword
use Rattle.ops_grammar.specs.Grammar.{InPut, Wanted, ClassName, Terms, BoundValue, Actions, Cell, Cells, Items, State, number_of, renumbered, no_formula, with_bind, with_action, put_action, named_cell, with_modified, with_cell, with_remove, with_write, step, after, goes}
use Rattle.ops_grammar.specs.Spelling.{Numbered, InSight, opening, closing, spelled_keyword, spelled_variable, spelled_name, spelled_counted, spelled_attribute, spelled_term, spelled_put, spelled_puts, spelled_item, spelled_action, spelled_actions, class_of_cell, after_action, after_actions, cell_is_plain, term_is_plain, put_is_plain, action_is_plain, actions_are_plain, template_of, templates_in, are_next}
use Rattle.ops_grammar.proofs.Holed.{upto, AreHeld, counted_at}
use Rattle.ops_grammar.proofs.Places.{numbered, numbered-push, number_out, number_there, renumbered-new}
use Rattle.ops_grammar.proofs.Numbering.{below, below_apart}
use Rattle.ops_grammar.proofs.ReadsBack.{by_word}
use Rattle.ops_grammar.proofs.ReadsFacts.{AreNamed, class_step, element_closed}
use Rattle.ops_grammar.proofs.ReadsActions.{cell_found, IsSighted, sourced, whole_closed, puts_read, remove_read, items_read, bind_read}

-- what actions leave: the element of the last `make` or `modify`, the variable of the last `bind`, the classes of the
-- cells of each `cbind`, and the cell and the field of the last `substr`
pub record Trail : Type 0 where
  pub class : ℕ
  pub modified : Option ℕ
  pub variable : Sym
  pub further : List ℕ
  pub source : ℕ
  pub source_field : ℕ

-- after these actions, where so much is in sight, and so many constants and these templates were read
abbrev pub acted : State → List Hole → ℕ → List Rule → Trail → InSight → List Action → State
acted s hs c ts t k done =
    record s {
      templates = ts;
      class = t.class;
      modified = t.modified;
      variable = t.variable;
      further = t.further;
      source = t.source;
      source_field = t.source_field;
      made = k.made;
      values = numbered k.variables.sight;
      variables = k.variables.given;
      elements = numbered (below (length k.cells));
      puts = [];
      cells = [];
      items = [];
      terms = [];
      constants = [];
      formula = no_formula;
      actions = done;
      begun = 0;
      counted = c;
      holes = upto hs c;
    }

-- The cells are those of the conditions and of each `cbind`.
abbrev pub AreCells : State → Trail → InSight → Type 0
AreCells s t k = k.cells ≡ cells_of s.conditions ++ t.further

-- how many constants were read after an action: after one that builds none
abbrev pub count_after : ℕ → Action → ℕ
count_after c (action.Make class puts) = c + total in_put puts
count_after c (action.Modify cell puts) = c + total in_put puts
count_after c (action.Remove cells) = c
count_after c (action.Write items) = c + total in_item items
count_after c (action.Bind variable x) = c + in_term x
count_after c (action.Cbind cell) = c
count_after c action.Halt = c
count_after c (action.Build template holes) = 0

abbrev pub count_behind : ℕ → List Action → ℕ
count_behind c [] = c
count_behind c (a ∷ xs) = count_behind (count_after c a) xs

-- and how many templates
abbrev pub made_after : ℕ → Action → ℕ
made_after m (action.Make class puts) = m
made_after m (action.Modify cell puts) = m
made_after m (action.Remove cells) = m
made_after m (action.Write items) = m
made_after m (action.Bind variable x) = m
made_after m (action.Cbind cell) = m
made_after m action.Halt = m
made_after m (action.Build template holes) = suc m

abbrev pub made_behind : ℕ → List Action → ℕ
made_behind m [] = m
made_behind m (a ∷ xs) = made_behind (made_after m a) xs

-- The words lead after further actions, whatever these leave.
abbrev pub ActsOn : List Hole → Bool → List Word → List Word → List Wanted → State → ℕ → List Rule → Trail → InSight → List Action → ℕ → List Rule → InSight → List Action → Type 0
ActsOn hs b words more ws s c ts t k done c' ts' k' done' =
    (t' : Trail) × AreCells s t' k' × (goes (words ++ more) (Actions b ∷ ws) (acted s hs c ts t k done) ≡ goes more (Actions b ∷ ws) (acted s hs c' ts' t' k' done'))

bind_cells : (b : Bool) (k : InSight) (m : Numbered) → (let after : InSight = cond b k (record k { variables = m }) in after.cells ≡ k.cells)
bind_cells true k m = refl
bind_cells false k m = refl

module _ (b : Bool) (ws : List Wanted) (s : State) where
  make_begun : (words : List Word) → goes (opening ∷ spelled_keyword keyword.Make ∷ words) (Actions b ∷ ws) s ≡ goes words (ClassName ∷ Terms InPut ∷ Actions b ∷ ws) (record s { begun = 0; puts = []; modified = None })
  unfolding goes step
  make_begun words = refl

  modify_begun : (cell : ℕ) (words : List Word)
      → goes (opening ∷ spelled_keyword keyword.Modify ∷ spelled_variable cell ∷ words) (Actions b ∷ ws) s
      ≡ after (goes words) (spelled_variable cell) (with_modified (named_cell (number_of (record { 0 = cell }) s.elements)) (Terms InPut ∷ Actions b ∷ ws) (record s { begun = 0; puts = [] }))
  unfolding goes step
  modify_begun cell words = refl

  remove_begun : (words : List Word) → goes (opening ∷ spelled_keyword keyword.Remove ∷ words) (Actions b ∷ ws) s ≡ goes words (Cell ∷ Cells ∷ Actions b ∷ ws) (record s { begun = 0; cells = [] })
  unfolding goes step
  remove_begun words = refl

  remove_closed : (words : List Word) → goes (closing ∷ words) (Cells ∷ ws) s ≡ goes words ws (with_remove s)
  unfolding goes step
  remove_closed words = refl

  write_begun : (words : List Word) → goes (opening ∷ spelled_keyword keyword.Write ∷ words) (Actions b ∷ ws) s ≡ goes words (Items ∷ Actions b ∷ ws) (record s { begun = 0; items = [] })
  unfolding goes step
  write_begun words = refl

  write_closed : (words : List Word) → goes (closing ∷ words) (Items ∷ ws) s ≡ goes words ws (with_write s)
  unfolding goes step
  write_closed words = refl

  bind_begun : (n : ℕ) (words : List Word)
      → goes (opening ∷ spelled_keyword keyword.Bind ∷ spelled_variable n ∷ words) (Actions b ∷ ws) s ≡ goes words (BoundValue ∷ Actions b ∷ ws) (record s { begun = 0; variable = record { 0 = n } })
  unfolding goes step
  bind_begun n words = refl

  cbind_begun : (class : ℕ) (name : ℕ) (words : List Word) → s.made ≡ Some class
      → goes (opening ∷ spelled_keyword keyword.Cbind ∷ spelled_variable name ∷ closing ∷ words) (Actions b ∷ ws) s ≡ goes words (Actions b ∷ ws) (with_cell (record s { begun = 0 }) class (record { 0 = name }))
  unfolding goes step
  cbind_begun class name words made = rw made refl

  halt_read : (words : List Word) → goes (opening ∷ spelled_keyword keyword.Halt ∷ closing ∷ words) (Actions b ∷ ws) s ≡ goes words (Actions b ∷ ws) (with_action (record s { begun = 0 }) action.Halt)
  unfolding goes step
  halt_read words = refl

-- a variable that is bound keeps its number where it is in sight, and has the next one otherwise
bound_state : (hs : List Hole) (c : ℕ) (ts : List Rule) (b : Bool) (s : State) (t : Trail) (k : InSight) (done : List Action) (n : ℕ) (value : Term) → is_in n k.variables.sight ≡ b → (b || (n == k.variables.given)) ≡ true
    → with_bind (number_of (record { 0 = n }) (numbered k.variables.sight)) (acted s hs c ts (record t { variable = record { 0 = n } }) k done) value
    ≡ acted s hs c ts (record t { variable = record { 0 = n } }) (cond b k (record k { variables = record { sight = k.variables.sight ++ k.variables.given ∷ []; given = suc k.variables.given } })) (done ++ action.Bind n value ∷ [])
bound_state hs c ts true s t k done n value there can =
    ap (λ (o : Option ℕ). with_bind o (acted s hs c ts (record t { variable = record { 0 = n } }) k done) value) (number_there k.variables.sight n there)
bound_state hs c ts false s t k done n value out can =
    let given = k.variables.given in
    let same : n ≡ given = eqb-true n given can in
    let next : given + 1 ≡ suc given = omega arith in
    let from : State = acted s hs c ts (record t { variable = record { 0 = n } }) k done in
    let to : List Named → ℕ → ℕ → State = λ vs m v. record from { values = vs; variables = m; actions = done ++ action.Bind v value ∷ [] } in
    ap (λ (o : Option ℕ). with_bind o from value) (number_out k.variables.sight n out)
    ∙ ap (λ (m : ℕ). to (numbered k.variables.sight ++ record { name = record { 0 = m }; number = given } ∷ []) (given + 1) given) same
    ∙ ap (λ (vs : List Named). to vs (given + 1) given) (sym (numbered-push k.variables.sight given))
    ∙ ap (λ (m : ℕ). to (numbered (k.variables.sight ++ given ∷ [])) m given) next
    ∙ ap (λ (v : ℕ). to (numbered (k.variables.sight ++ given ∷ [])) (suc given) v) (sym same)

-- The cell that is named is the next one.
celled_state : (hs : List Hole) (c : ℕ) (ts : List Rule) (s : State) (t : Trail) (k : InSight) (done : List Action) (class : ℕ) → AreCells s t k
    → with_cell (acted s hs c ts t k done) class (record { 0 = length k.cells })
    ≡ acted s hs c ts (record t { further = t.further ++ class ∷ [] }) (record k { cells = k.cells ++ class ∷ [] }) (done ++ action.Cbind (length k.cells) ∷ [])
celled_state hs c ts s t k done class e =
    let n = length k.cells in
    let all : length (cells_of s.conditions ++ t.further) ≡ n = ap (λ (xs : List ℕ). length xs) (sym e) in
    let more : suc n ≡ length (k.cells ++ class ∷ []) = omega (arith, length-append k.cells (class ∷ [])) in
    let to : List Named → ℕ → State = λ vs m. record (acted s hs c ts t k done) { elements = vs; further = t.further ++ class ∷ []; actions = done ++ action.Cbind m ∷ [] } in
    ap (λ (m : ℕ). to (renumbered (record { 0 = n }) m (numbered (below n))) m) all
    ∙ ap (λ (vs : List Named). to vs n) (renumbered-new (below n) n n (below_apart n n (omega arith)))
    ∙ ap (λ (vs : List Named). to vs n) (sym (numbered-push (below n) n))
    ∙ ap (λ (m : ℕ). to (numbered (below m)) n) more

-- one action that builds nothing, or builds as is told
bind_after : (b : Bool) (k : InSight) (m : Numbered) → (let after : InSight = cond b k (record k { variables = m }) in after.built ≡ k.built)
bind_after true k m = refl
bind_after false k m = refl

built_stays : (k : InSight) (a : Action) → (after_action k a).built ≡ k.built
built_stays k (action.Bind n x) = bind_after (is_in n k.variables.sight) k (record { sight = k.variables.sight ++ k.variables.given ∷ []; given = suc k.variables.given })
built_stays k (action.Make class puts) = refl
built_stays k (action.Modify cell puts) = refl
built_stays k (action.Remove cells) = refl
built_stays k (action.Write items) = refl
built_stays k (action.Cbind cell) = refl
built_stays k action.Halt = refl
built_stays k (action.Build template holes) = refl

-- ---- the actions but `build`

module _ (hs : List Hole) (b : Bool) (build : ℕ → List Hole → List Word) (builds : InSight → ℕ → List Hole → Bool) (c : ℕ) (ts : List Rule) (t : Trail) (k : InSight) (more : List Word) (ws : List Wanted) (s : State) (done : List Action)
    (h : AreHeld hs s.outer) (names : AreNamed s.classes) (in_cells : AreCells s t k) (built_is : k.built ≡ is_some s.outer) where
  -- what is in sight is so where more is noted, but for the cells of each `cbind`
  sighted : IsSighted hs k s.classes (numbered k.variables.sight) (numbered (below (length k.cells))) (cells_of s.conditions ++ t.further) no_formula s.outer
  sighted = record { names = names; values_are = refl; elements_are = refl; cells_are = in_cells; none_read = refl; built_is = built_is; holes_held = h }

  abbrev Acts : Action → Type 0
  Acts a = ActsOn hs b (spelled_action build hs s.classes k c a) more ws s c ts t k done (count_after c a) ts (after_action k a) (done ++ a ∷ [])

  -- the values of an action `make` or `modify`
  puts_of : (class : ℕ) (modified : Option ℕ) (puts : List Put) → class < length s.classes → list_all (put_is_plain s.classes k (class_of s.classes class)) puts ≡ true
      → (x : ℕ × ℕ) × (goes (spelled_puts hs s.classes k (class_of s.classes class) c puts ++ closing ∷ [] ++ more) (Terms InPut ∷ Actions b ∷ ws) (acted s hs c ts (record t { class = class; modified = modified }) k done)
      ≡ goes more (Actions b ∷ ws) (acted s hs (c + total in_put puts) ts (record t { class = class; modified = modified; source = x.0; source_field = x.1 }) (record k { made = Some class }) (done ++ put_action modified class puts ∷ [])))
  puts_of class modified puts lt plain =
      let from : State = acted s hs c ts (record t { class = class; modified = modified }) k done in
      let read = puts_read hs c puts k (closing ∷ more) (Actions b ∷ ws) from sighted lt refl plain in (
        read.0,
        ap (λ (x : List Word). goes x (Terms InPut ∷ Actions b ∷ ws) from) (append_assoc (spelled_puts hs s.classes k (class_of s.classes class) c puts) (closing ∷ []) more)
            ∙ read.1
            ∙ element_closed InPut more (Actions b ∷ ws) (sourced (counted_at hs (c + total in_put puts) (record from { puts = puts })) read.0),
      )

  make_read : (class : ℕ) (puts : List Put) → action_is_plain builds s.classes k (action.Make class puts) ≡ true → Acts (action.Make class puts)
  make_read class puts plain =
      let parts = and_parts (nat_lt class (length s.classes)) (list_all (put_is_plain s.classes k (class_of s.classes class)) puts) plain in
      let lt : class < length s.classes = ltb-true _ _ parts.0 in
      let name = spelled_name (class_of s.classes class).name in
      let words = spelled_puts hs s.classes k (class_of s.classes class) c puts ++ closing ∷ [] ++ more in
      let wanted : List Wanted = Terms InPut ∷ Actions b ∷ ws in
      let from : State = record (acted s hs c ts t k done) { modified = None } in
      let read = puts_of class None puts lt parts.1 in (
        record t { class = class; modified = None; source = read.0.0; source_field = read.0.1 },
        in_cells,
        make_begun b ws (acted s hs c ts t k done) (name ∷ words)
            ∙ by_word name words (ClassName ∷ wanted) wanted from (record from { class = class }) (class_step class wanted from names lt)
            ∙ read.1,
      )

  modify_read : (cell : ℕ) (puts : List Put) → action_is_plain builds s.classes k (action.Modify cell puts) ≡ true → Acts (action.Modify cell puts)
  modify_read cell puts plain =
      let class = class_of_cell k cell in
      let parts = and_parts (cell_is_plain s.classes k cell) (list_all (put_is_plain s.classes k (class_of s.classes class)) puts) plain in
      let first = and_parts (nat_lt cell (length k.cells)) (nat_lt class (length s.classes)) parts.0 in
      let words = spelled_puts hs s.classes k (class_of s.classes class) c puts ++ closing ∷ [] ++ more in
      let wanted : List Wanted = Terms InPut ∷ Actions b ∷ ws in
      let read = puts_of class (Some cell) puts (ltb-true _ _ first.1) parts.1 in (
        record t { class = class; modified = Some cell; source = read.0.0; source_field = read.0.1 },
        in_cells,
        modify_begun b ws (acted s hs c ts t k done) cell words
            ∙ ap (λ (o : Option ℕ). after (goes words) (spelled_variable cell) (with_modified (named_cell o) wanted (acted s hs c ts t k done))) (cell_found (length k.cells) cell (acted s hs c ts t k done) refl first.0)
            ∙ ap (λ (xs : List ℕ). goes words wanted (acted s hs c ts (record t { class = unwrap_or (slice_get xs cell) 0; modified = Some cell }) k done)) (sym in_cells)
            ∙ read.1,
      )

  remove_of : (cells : List ℕ) → action_is_plain builds s.classes k (action.Remove cells) ≡ true → Acts (action.Remove cells)
  remove_of cells plain =
      let n = length k.cells in
      let parts = and_parts (nat_lt 0 (length cells)) (list_all (λ c. nat_lt c n) cells) plain in
      let from : State = acted s hs c ts t k done in
      let body = map spelled_variable cells in (
        t,
        in_cells,
        remove_begun b ws from (body ++ closing ∷ [] ++ more)
            ∙ ap (λ (x : List Word). goes x (Cell ∷ Cells ∷ Actions b ∷ ws) from) (append_assoc body (closing ∷ []) more)
            ∙ remove_read n cells (closing ∷ more) (Actions b ∷ ws) from refl (ltb-true _ _ parts.0) parts.1
            ∙ remove_closed b (Actions b ∷ ws) (record from { cells = cells }) more,
      )

  write_of : (items : List Item) → action_is_plain builds s.classes k (action.Write items) ≡ true → Acts (action.Write items)
  write_of items plain =
      let body = spelled_counted in_item (spelled_item hs s.classes k) c items in
      let from : State = acted s hs c ts t k done in
      let read = items_read hs c items k (closing ∷ more) (Actions b ∷ ws) from sighted plain in (
        record t { source = read.0.0; source_field = read.0.1 },
        in_cells,
        write_begun b ws from (body ++ closing ∷ [] ++ more)
            ∙ ap (λ (x : List Word). goes x (Items ∷ Actions b ∷ ws) from) (append_assoc body (closing ∷ []) more)
            ∙ read.1
            ∙ write_closed b (Actions b ∷ ws) (sourced (counted_at hs (c + total in_item items) (record from { items = items })) read.0) more,
      )

  bind_of : (n : ℕ) (value : Term) → action_is_plain builds s.classes k (action.Bind n value) ≡ true → Acts (action.Bind n value)
  bind_of n value plain =
      let parts = and_parts (is_in n k.variables.sight || (n == k.variables.given)) (term_is_plain s.classes k false value) plain in
      let words = spelled_term hs s.classes k c value in
      let d = c + in_term value in
      let from : State = acted s hs c ts (record t { variable = record { 0 = n } }) k done in
      let read = bind_read hs c value k (closing ∷ more) (Actions b ∷ ws) from sighted parts.1 in
      let sourced_trail : Trail = record t { source = read.0.0; source_field = read.0.1 } in (
        record sourced_trail { variable = record { 0 = n } },
        bind_cells (is_in n k.variables.sight) k (record { sight = k.variables.sight ++ k.variables.given ∷ []; given = suc k.variables.given }) ∙ in_cells,
        bind_begun b ws (acted s hs c ts t k done) n (words ++ closing ∷ [] ++ more)
            ∙ ap (λ (x : List Word). goes x (BoundValue ∷ Actions b ∷ ws) from) (append_assoc words (closing ∷ []) more)
            ∙ read.1
            ∙ whole_closed more (Actions b ∷ ws) (with_bind (number_of (record { 0 = n }) (numbered k.variables.sight)) (sourced (counted_at hs d from) read.0) value)
            ∙ ap (λ (x : State). goes more (Actions b ∷ ws) x) (bound_state hs d ts (is_in n k.variables.sight) s sourced_trail k done n value refl parts.0),
      )

  cbind_read : (made : Option ℕ) → k.made ≡ made → (cell : ℕ) → (is_some made && (cell == length k.cells)) ≡ true
      → ActsOn hs b (spelled_action build hs s.classes k c (action.Cbind cell)) more ws s c ts t k done c ts (record k { cells = k.cells ++ unwrap_or made 0 ∷ [] }) (done ++ action.Cbind cell ∷ [])
  cbind_read None e cell plain = absurd (true≢false (sym plain))
  cbind_read (Some class) e cell plain = (
    record t { further = t.further ++ class ∷ [] },
    ap (λ (xs : List ℕ). xs ++ class ∷ []) in_cells ∙ append_assoc (cells_of s.conditions) t.further (class ∷ []),
    subst (λ (m : ℕ). goes (spelled_action build hs s.classes k c (action.Cbind m) ++ more) (Actions b ∷ ws) (acted s hs c ts t k done)
        ≡ goes more (Actions b ∷ ws) (acted s hs c ts (record t { further = t.further ++ class ∷ [] }) (record k { cells = k.cells ++ class ∷ [] }) (done ++ action.Cbind m ∷ []))) (sym (eqb-true cell (length k.cells) plain))
        (cbind_begun b ws (acted s hs c ts t k done) class (length k.cells) more e ∙ ap (λ (x : State). goes more (Actions b ∷ ws) x) (celled_state hs c ts s t k done class in_cells)),
  )

-- ---- the actions of a production

-- Where nothing is a hole, the number of a constant does not matter.
module _ {X : Type 0} (count : X → ℕ) (spelled : ℕ → X → List Word) (same : (i j : ℕ) (x : X) → spelled i x ≡ spelled j x) where
  counted_alike : (i j : ℕ) (xs : List X) → spelled_counted count spelled i xs ≡ spelled_counted count spelled j xs
  counted_alike i j [] = refl
  counted_alike i j (x ∷ xs) =
      ap (λ (ws : List Word). ws ++ spelled_counted count spelled (i + count x) xs) (same i j x) ∙ ap (λ (ws : List Word). spelled j x ++ ws) (counted_alike (i + count x) (j + count x) xs)

module _ (build : ℕ → List Hole → List Word) (classes : List Class) where
  term_alike : (k : InSight) (i j : ℕ) (x : Term) → spelled_term [] classes k i x ≡ spelled_term [] classes k j x
  term_alike k i j (term.Constant v) = refl
  term_alike k i j (term.Variable v) = refl
  term_alike k i j (term.One cell field) = refl
  term_alike k i j (term.Rest cell) = refl
  term_alike k i j (term.Compute f) = refl
  term_alike k i j term.Fresh = refl
  term_alike k i j term.Accept = refl

  put_alike : (k : InSight) (d : Class) (i j : ℕ) (p : Put) → spelled_put [] classes k d i p ≡ spelled_put [] classes k d j p
  put_alike k d i j p = ap (λ (ws : List Word). spelled_attribute d p.field ws) (counted_alike in_term (spelled_term [] classes k) (term_alike k) i j p.terms)

  item_alike : (k : InSight) (i j : ℕ) (x : Item) → spelled_item [] classes k i x ≡ spelled_item [] classes k j x
  item_alike k i j (item.Print x) = term_alike k i j x
  item_alike k i j item.Crlf = refl
  item_alike k i j (item.TabTo m) = refl
  item_alike k i j (item.RightIn m) = refl

  action_alike : (k : InSight) (i j : ℕ) (a : Action) → spelled_action build [] classes k i a ≡ spelled_action build [] classes k j a
  action_alike k i j (action.Make class puts) =
      let d = class_of classes class in
      ap (λ (ws : List Word). opening ∷ spelled_keyword keyword.Make ∷ spelled_name d.name ∷ ws ++ closing ∷ []) (counted_alike in_put (spelled_put [] classes k d) (put_alike k d) i j puts)
  action_alike k i j (action.Modify cell puts) =
      let d = class_of classes (class_of_cell k cell) in
      ap (λ (ws : List Word). opening ∷ spelled_keyword keyword.Modify ∷ spelled_variable cell ∷ ws ++ closing ∷ []) (counted_alike in_put (spelled_put [] classes k d) (put_alike k d) i j puts)
  action_alike k i j (action.Remove cells) = refl
  action_alike k i j (action.Write items) =
      ap (λ (ws : List Word). opening ∷ spelled_keyword keyword.Write ∷ ws ++ closing ∷ []) (counted_alike in_item (spelled_item [] classes k) (item_alike k) i j items)
  action_alike k i j (action.Bind variable x) =
      ap (λ (ws : List Word). opening ∷ spelled_keyword keyword.Bind ∷ spelled_variable variable ∷ ws ++ closing ∷ []) (term_alike k i j x)
  action_alike k i j (action.Cbind cell) = refl
  action_alike k i j action.Halt = refl
  action_alike k i j (action.Build template holes) = refl

  actions_alike : (k : InSight) (i j : ℕ) (xs : List Action) → spelled_actions build [] classes k i xs ≡ spelled_actions build [] classes k j xs
  actions_alike k i j [] = refl
  actions_alike k i j (a ∷ xs) =
      let next = after_action k a in
      ap (λ (ws : List Word). ws ++ spelled_actions build [] classes next (i + in_action a) xs) (action_alike k i j a)
      ∙ ap (λ (ws : List Word). spelled_action build [] classes k j a ++ ws) (actions_alike next (i + in_action a) (j + in_action a) xs)

-- what builds next is the first template that was not read
next_parts : (m : ℕ) (a : Action) (ns : List ℕ) → are_next m (template_of a ++ ns) ≡ true → (are_next m (template_of a) ≡ true) × (are_next (made_after m a) ns ≡ true)
next_parts m (action.Build template holes) ns e = let parts = and_parts (template == m) (are_next (suc m) ns) e in (and_from _ _ parts.0 refl, parts.1)
next_parts m (action.Make class puts) ns e = (refl, e)
next_parts m (action.Modify cell puts) ns e = (refl, e)
next_parts m (action.Remove cells) ns e = (refl, e)
next_parts m (action.Write items) ns e = (refl, e)
next_parts m (action.Bind variable x) ns e = (refl, e)
next_parts m (action.Cbind cell) ns e = (refl, e)
next_parts m action.Halt ns e = (refl, e)

-- a `build` is read so, where this many templates were read before it
abbrev pub ReadsBuild : (ℕ → List Hole → List Word) → (InSight → ℕ → List Hole → Bool) → List Hole → Bool → List Rule → State → Type 0
ReadsBuild build builds hs b all s =
    (m : ℕ) (holes : List Hole) (more : List Word) (ws : List Wanted) (c : ℕ) (t : Trail) (k : InSight) (done : List Action) → AreCells s t k → builds k m holes ≡ true
    → ActsOn hs b (build m holes) more ws s c (take m all) t k done 0 (take (suc m) all) k (done ++ action.Build m holes ∷ [])

module _ (build : ℕ → List Hole → List Word) (builds : InSight → ℕ → List Hole → Bool) (hs : List Hole) (b : Bool) (all : List Rule) (s : State) (h : AreHeld hs s.outer) (names : AreNamed s.classes)
    (reads_build : ReadsBuild build builds hs b all s) (text : (k : InSight) (template : ℕ) (holes : List Hole) → builds k template holes ≡ true → hs ≡ []) where
  -- An action is read back.
  pub action-read : (a : Action) (c m : ℕ) (t : Trail) (k : InSight) (more : List Word) (ws : List Wanted) (done : List Action) → AreCells s t k → k.built ≡ is_some s.outer → action_is_plain builds s.classes k a ≡ true → are_next m (template_of a) ≡ true
      → ActsOn hs b (spelled_action build hs s.classes k c a) more ws s c (take m all) t k done (count_after c a) (take (made_after m a) all) (after_action k a) (done ++ a ∷ [])
  action-read (action.Make class puts) c m t k more ws done in_cells is plain next = make_read hs b build builds c (take m all) t k more ws s done h names in_cells is class puts plain
  action-read (action.Modify cell puts) c m t k more ws done in_cells is plain next = modify_read hs b build builds c (take m all) t k more ws s done h names in_cells is cell puts plain
  action-read (action.Remove cells) c m t k more ws done in_cells is plain next = remove_of hs b build builds c (take m all) t k more ws s done h names in_cells is cells plain
  action-read (action.Write items) c m t k more ws done in_cells is plain next = write_of hs b build builds c (take m all) t k more ws s done h names in_cells is items plain
  action-read (action.Bind n value) c m t k more ws done in_cells is plain next = bind_of hs b build builds c (take m all) t k more ws s done h names in_cells is n value plain
  action-read (action.Cbind cell) c m t k more ws done in_cells is plain next = cbind_read hs b build builds c (take m all) t k more ws s done h names in_cells is k.made refl cell plain
  action-read action.Halt c m t k more ws done in_cells is plain next = (t, in_cells, halt_read b ws (acted s hs c (take m all) t k done) more)
  action-read (action.Build template holes) c m t k more ws done in_cells is plain next =
      let same : template ≡ m = eqb-true template m (and_parts (template == m) true next).0 in
      subst (λ (i : ℕ). ActsOn hs b (build i holes) more ws s c (take m all) t k done 0 (take (suc m) all) k (done ++ action.Build i holes ∷ [])) (sym same)
      (reads_build m holes more ws c t k done in_cells (ap (λ (i : ℕ). builds k i holes) (sym same) ∙ plain))

  -- the words behind an action are spelled with the constants that were read before them
  words_behind : (a : Action) (c : ℕ) (k next : InSight) (xs : List Action) → action_is_plain builds s.classes k a ≡ true → spelled_actions build hs s.classes next (c + in_action a) xs ≡ spelled_actions build hs s.classes next (count_after c a) xs
  words_behind (action.Make class puts) c k next xs plain = refl
  words_behind (action.Modify cell puts) c k next xs plain = refl
  words_behind (action.Write items) c k next xs plain = refl
  words_behind (action.Bind variable x) c k next xs plain = refl
  words_behind (action.Remove cells) c k next xs plain = let none : c + 0 ≡ c = omega arith in ap (λ (i : ℕ). spelled_actions build hs s.classes next i xs) none
  words_behind (action.Cbind cell) c k next xs plain = let none : c + 0 ≡ c = omega arith in ap (λ (i : ℕ). spelled_actions build hs s.classes next i xs) none
  words_behind action.Halt c k next xs plain = let none : c + 0 ≡ c = omega arith in ap (λ (i : ℕ). spelled_actions build hs s.classes next i xs) none
  words_behind (action.Build template holes) c k next xs plain =
      subst (λ (gs : List Hole). spelled_actions build gs s.classes next (c + 0) xs ≡ spelled_actions build gs s.classes next 0 xs) (sym (text k template holes plain)) (actions_alike build s.classes next (c + 0) 0 xs)

  -- The actions of a rule are read back.
  pub actions-read : (xs : List Action) (c m : ℕ) (t : Trail) (k : InSight) (more : List Word) (ws : List Wanted) (done : List Action) → AreCells s t k → k.built ≡ is_some s.outer → actions_are_plain builds s.classes k xs ≡ true → are_next m (templates_in xs) ≡ true
      → ActsOn hs b (spelled_actions build hs s.classes k c xs) more ws s c (take m all) t k done (count_behind c xs) (take (made_behind m xs) all) (after_actions k xs) (done ++ xs)
  actions-read [] c m t k more ws done in_cells is plain next = (t, in_cells, ap (λ (ys : List Action). goes more (Actions b ∷ ws) (acted s hs c (take m all) t k ys)) (sym (append-nil done)))
  actions-read (a ∷ xs) c m t k more ws done in_cells is plain next =
      let k' = after_action k a in
      let each = and_parts (action_is_plain builds s.classes k a) (actions_are_plain builds s.classes k' xs) plain in
      let parts = next_parts m a (templates_in xs) next in
      let d = count_after c a in
      let n = made_after m a in
      let here = spelled_action build hs s.classes k c a in
      let others = spelled_actions build hs s.classes k' d xs in
      let first = action-read a c m t k (others ++ more) ws done in_cells is each.0 parts.0 in
      let rest = actions-read xs d n first.0 k' more ws (done ++ a ∷ []) first.1 (built_stays k a ∙ is) each.1 parts.1 in (
        rest.0,
        rest.1,
        ap (λ (x : List Word). goes ((here ++ x) ++ more) (Actions b ∷ ws) (acted s hs c (take m all) t k done)) (words_behind a c k k' xs each.0)
            ∙ ap (λ (x : List Word). goes x (Actions b ∷ ws) (acted s hs c (take m all) t k done)) (append_assoc here others more)
            ∙ first.2
            ∙ rest.2
            ∙ ap (λ (ys : List Action). goes more (Actions b ∷ ws) (acted s hs (count_behind d xs) (take (made_behind n xs) all) rest.0 (after_actions k' xs) ys)) (append_assoc done (a ∷ []) xs),
      )
