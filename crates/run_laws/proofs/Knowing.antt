-- What the validity of a right side assumes as known is true in each state that is reached.
use Rattle.std.proofs.Common.{◌≡◌, ℕ, zero, suc, ◌<◌, List, [], ◌∷◌, ◌++◌, map, length, fold, Bool, true, false, cond, ◌==◌, ◌&&◌, ◌||◌, Option, Some, None, is_some, Ok, IfOk, refl, ap, sym, ◌∙◌, subst, nat_lt, slice_get, unwrap_or, arith}
use Rattle.std.specs.Prelude.{slice_set}
use Rattle.std.specs.List.{list_all, list_any}
use Rattle.std.proofs.lemmas.Bool.{and_parts, and_from, ltb-true}
use Rattle.std.proofs.lemmas.List.{map-append, length-map}
use Rattle.std.proofs.lemmas.List.Folds.{list_any-append, list_all-append}
use Rattle.std.proofs.lemmas.List.Sums.{fold-append}
use Rattle.ops_base.specs.declared.actions.Action.{Action}
use Rattle.ops_base.specs.declared.actions.Hole.{Hole}
use Rattle.ops_base.specs.declared.actions.Action.TheVariants as action
use Rattle.ops_base.specs.declared.actions.Item.{Item}
use Rattle.ops_base.specs.declared.actions.Item.TheVariants as item
use Rattle.ops_base.specs.declared.actions.Put.{Put}
use Rattle.ops_base.specs.declared.actions.Term.{Term}
use Rattle.ops_base.specs.declared.actions.Term.TheVariants as term
use Rattle.ops_base.specs.declared.elements.Change.{Change}
use Rattle.ops_base.specs.declared.elements.Change.TheVariants as change
use Rattle.ops_base.specs.declared.elements.Class.{Class}
use Rattle.ops_base.specs.declared.elements.Element.{Element}
use Rattle.ops_base.specs.declared.matching.Binding.{Binding}
use Rattle.ops_base.specs.declared.rules.Rule.{Rule}
use Rattle.ops_base.specs.declared.values.Value.{Value}
use Rattle.ops_base.specs.Expression.{Formula, number, variable, apply, all_variables}
use Rattle.ops_base.specs.Matching.{value_of}
use Rattle.ops_base.specs.Valid.{Known, is_in, is_cell, class_of, class_of_cell, is_attribute, is_vector, fits, term_is_valid, put_is_valid, puts_are_valid, item_is_valid, action_is_valid, actions_are_valid, builds_from, known_after}
use Rattle.ops_base.proofs.Bound.{value_of_last}
use Rattle.ops_io.specs.Output.{column_after}
use Rattle.ops_meaning.specs.Acting.{Setting, ActState, no_element, evaluated, made_fields, modified_fields, has_tag, cell_of, changed, next_element, added, removed, modified, made_by, made_last, cell_bound, bound, first_of, changes_told, action_done}
use Rattle.ops_meaning.specs.Effects.{followed_by}
use Rattle.ops_meaning.specs.Layout.{Apart}
use Rattle.run_laws.specs.Finding.{is_bound, is_class, is_held, held_class, is_add, has_made, term_finds, is_single, put_finds, item_finds, action_finds, AllFind}
use Rattle.run_laws.proofs.Evaluating.{KeepsValued, KeepsFilled, evaluated_keeps, made_keeps, over_keeps, items_keep}
use Rattle.run_laws.proofs.Parts.{ok_behind, ok_on, ok_more, all_such}
use Rattle.run_laws.proofs.Rooms.{single}

-- ---- lists

abbrev class_numbers : List Element → List ℕ
class_numbers es = map (λ e. e.class) es

cell_class : (es : List Element) (n : ℕ) → unwrap_or (slice_get (class_numbers es) n) 0 ≡ (unwrap_or (slice_get es n) no_element).class
cell_class [] n = refl
cell_class (e ∷ es) zero = refl
cell_class (e ∷ es) (suc n) = cell_class es n

class_set : (es : List Element) (n : ℕ) (e : Element) → e.class ≡ (unwrap_or (slice_get es n) no_element).class → class_numbers (slice_set es n e) ≡ class_numbers es
class_set [] n e same = refl
class_set (x ∷ es) zero e same = ap (λ c. c ∷ class_numbers es) same
class_set (x ∷ es) (suc n) e same = ap (λ cs. x.class ∷ cs) (class_set es n e same)

-- an index within a list has an item
there_within : {X : Type 0} (xs : List X) (n : ℕ) → n < length xs → is_some (slice_get xs n) ≡ true
there_within [] n h = absurd (omega arith)
there_within (x ∷ xs) zero h = refl
there_within (x ∷ xs) (suc n) h = there_within xs n (omega arith)

pub there : {X : Type 0} (xs : List X) (n : ℕ) → nat_lt n (length xs) ≡ true → is_some (slice_get xs n) ≡ true
there xs n h = there_within xs n (ltb-true n (length xs) h)

cell_there : (es : List Element) (n : ℕ) → nat_lt n (length (class_numbers es)) ≡ true → is_some (slice_get es n) ≡ true
cell_there es n h = there_within es n (let lt = ltb-true n (length (class_numbers es)) h in omega (arith, length-map es (λ (e : Element). e.class)))

all_within : {X : Type 0} (p : X → Bool) (xs : List X) (n : ℕ) (d : X) → list_all p xs ≡ true → n < length xs → p (unwrap_or (slice_get xs n) d) ≡ true
all_within p [] n d h w = absurd (omega arith)
all_within p (x ∷ xs) zero d h w = (and_parts (p x) (list_all p xs) h).0
all_within p (x ∷ xs) (suc n) d h w = all_within p xs n d (and_parts (p x) (list_all p xs) h).1 (omega arith)

pub all_at : {X : Type 0} (p : X → Bool) (xs : List X) (n : ℕ) (d : X) → list_all p xs ≡ true → nat_lt n (length xs) ≡ true → p (unwrap_or (slice_get xs n) d) ≡ true
all_at p xs n d h w = all_within p xs n d h (ltb-true n (length xs) w)

variables_such : (p q : ℕ → Bool) → ((v : ℕ) → p v ≡ true → q v ≡ true) → (f : Formula) → all_variables p f ≡ true → all_variables q f ≡ true
variables_such p q f (number n) h = refl
variables_such p q f (variable v) h = f v h
variables_such p q f (apply op left right) h =
    let parts = and_parts (all_variables p right) (all_variables p left) h in
    and_from (all_variables q right) (all_variables q left) (variables_such p q f right parts.0) (variables_such p q f left parts.1)

-- ---- variables in sight

-- each of these variables is bound
abbrev pub AreBound : List ℕ → List Binding → Type 0
AreBound vs bindings = (v : ℕ) → is_in v vs ≡ true → is_some (value_of bindings v) ≡ true

-- one more
pub bound_more : (vs : List ℕ) (bindings : List Binding) (b : Binding) → AreBound vs bindings → AreBound (vs ++ b.variable ∷ []) (bindings ++ b ∷ [])
bound_more vs bindings b h v m =
    ap is_some (value_of_last bindings b v) ∙ by (is_in v vs) (b.variable == v) refl refl (sym (list_any-append (λ y. y == v) vs (b.variable ∷ [])) ∙ m)
  where
    by : (l r : Bool) → is_in v vs ≡ l → (b.variable == v) ≡ r → (is_in v vs || ((b.variable == v) || false)) ≡ true → is_some (cond (b.variable == v) (Some b.value) (value_of bindings v)) ≡ true
    by l true il ir or = ap (λ t. is_some (cond t (Some b.value) (value_of bindings v))) ir
    by true false il ir or = ap (λ t. is_some (cond t (Some b.value) (value_of bindings v))) ir ∙ h v il
    by false false il ir or = absurd (cc)

-- ---- what is known

-- The element that was made last, if one was made, is of this class, which exists.
pub record IsMade (classes : List Class) (changes : List Change) (c : ℕ) : Type 0 where
  pub one : list_any is_add changes ≡ true
  pub class : (made_last changes).class ≡ c
  pub exists : nat_lt c (length classes) ≡ true

-- The variables in sight are bound, the cells hold elements of these classes, all of which exist, and the element that
-- was made last is of the class that is known.
pub record Holds (classes : List Class) (k : Known) (bindings : List Binding) (elements : List Element) (changes : List Change) : Type 0 where
  pub variables : AreBound k.bound bindings
  pub cells : class_numbers elements ≡ k.cells
  pub exist : list_all (λ c. nat_lt c (length classes)) k.cells ≡ true
  pub made : (c : ℕ) → k.made ≡ Some c → IsMade classes changes c

made_more : (classes : List Class) (changes : List Change) (e : Element) → nat_lt e.class (length classes) ≡ true → IsMade classes (changes ++ change.Add e ∷ []) e.class
made_more classes changes e exists = record {
  one = list_any-append is_add changes (change.Add e ∷ []) ∙ or_true (list_any is_add changes);
  class = ap (λ (x : Element). x.class) (fold-append made_by no_element changes (change.Add e ∷ []));
  exists = exists;
}
  where
    or_true : (b : Bool) → (b || true) ≡ true
    or_true true = refl
    or_true false = refl

made_still : (classes : List Class) (changes : List Change) (tag c : ℕ) → IsMade classes changes c → IsMade classes (changes ++ change.Remove tag ∷ []) c
made_still classes changes tag c p = record {
  one = list_any-append is_add changes (change.Remove tag ∷ []) ∙ ap (λ b. b || false) p.one;
  class = ap (λ (x : Element). x.class) (fold-append made_by no_element changes (change.Remove tag ∷ [])) ∙ p.class;
  exists = p.exists;
}

module _ (classes : List Class) where
  abbrev pub Knows : Known → ActState → Type 0
  Knows k d = Holds classes k d.bindings d.cells d.changes

  -- ---- a valid action finds what it names

  module _ (k : Known) (d : ActState) (p : Knows k d) where
    pub holds_there : (cell : ℕ) → is_cell k cell ≡ true → is_held classes d cell ≡ true
    holds_there cell within =
        let P : List ℕ → Type 0 = λ cs. nat_lt cell (length cs) ≡ true in
        let exists : nat_lt (unwrap_or (slice_get k.cells cell) 0) (length classes) ≡ true = all_at (λ c. nat_lt c (length classes)) k.cells cell 0 p.exist within in
        let Q : List ℕ → Type 0 = λ cs. nat_lt (unwrap_or (slice_get cs cell) 0) (length classes) ≡ true in
        let R : ℕ → Type 0 = λ c. nat_lt c (length classes) ≡ true in
        and_from (is_some (slice_get d.cells cell)) (is_class classes (cell_of d cell).class) (cell_there d.cells cell (subst P (sym p.cells) within))
        (there classes (cell_of d cell).class (subst R (cell_class d.cells cell) (subst Q (sym p.cells) exists)))

    pub same_class : (cell : ℕ) → class_of_cell classes k cell ≡ held_class classes d cell
    same_class cell =
        ap (λ cs. class_of classes (unwrap_or (slice_get cs cell) 0)) (sym p.cells) ∙ ap (class_of classes) (cell_class d.cells cell)

    term_found : (several : Bool) (t : Term) → term_is_valid classes k several t ≡ true → term_finds classes d t ≡ true
    term_found several (term.Constant v) h = refl
    term_found several (term.Variable v) h = p.variables v h
    term_found several (term.Compute f) h = variables_such (λ v. is_in v k.bound) (is_bound d) p.variables f h
    term_found several (term.One cell field) h =
        let parts = and_parts (is_cell k cell) (is_attribute (class_of_cell classes k cell) field) h in
        and_from (is_held classes d cell) (is_attribute (held_class classes d cell) field) (holds_there cell parts.0)
        (ap (λ c. is_attribute c field) (sym (same_class cell)) ∙ parts.1)
    term_found several (term.Rest cell) h =
        let whole = and_parts (several && is_cell k cell) (class_of_cell classes k cell).vector h in
        let front = and_parts several (is_cell k cell) whole.0 in
        and_from (is_held classes d cell) (held_class classes d cell).vector (holds_there cell front.1)
        (ap (λ (c : Class). c.vector) (sym (same_class cell)) ∙ whole.1)
    term_found several term.Fresh h = refl
    term_found several term.Accept h = refl

    put_found : (c : Class) (x : Put) → put_is_valid classes k c x ≡ true → put_finds classes d c x ≡ true
    put_found c x h =
        let whole = and_parts (is_attribute c x.field && cond (is_vector c x.field) (fits x.terms) (length x.terms == 1)) (list_all (term_is_valid classes k (is_vector c x.field)) x.terms) h in
        let front = and_parts (is_attribute c x.field) (cond (is_vector c x.field) (fits x.terms) (length x.terms == 1)) whole.0 in
        and_from (is_attribute c x.field) (list_all (term_finds classes d) x.terms) front.0
        (all_such (term_is_valid classes k (is_vector c x.field)) (term_finds classes d) (term_found (is_vector c x.field)) x.terms whole.1)

    puts_found : (c : Class) (puts : List Put) → puts_are_valid classes k c puts ≡ true → list_all (put_finds classes d c) puts ≡ true
    puts_found c puts h =
        all_such (put_is_valid classes k c) (put_finds classes d c) (put_found c) puts (and_parts (fits puts) (list_all (put_is_valid classes k c) puts) h).1

    item_found : (x : Item) → item_is_valid classes k x ≡ true → item_finds classes d x ≡ true
    item_found (item.Print t) h = term_found true t h
    item_found item.Crlf h = refl
    item_found (item.TabTo n) h = refl
    item_found (item.RightIn n) h = refl

    made_found : (o : Option ℕ) → k.made ≡ o → is_some o ≡ true → has_made d ≡ true
    made_found None is h = absurd (cc)
    made_found (Some c) is h = (p.made c is).one

    pub action_found : (templates : List Rule) (a : Action) → action_is_valid classes k a ≡ true → builds_from (length templates) a ≡ true → action_finds classes templates d a ≡ true
    action_found templates (action.Make class puts) h b =
        let parts = and_parts (nat_lt class (length classes)) (puts_are_valid classes k (class_of classes class) puts) h in
        and_from (is_class classes class) (list_all (put_finds classes d (class_of classes class)) puts) (there classes class parts.0) (puts_found (class_of classes class) puts parts.1)
    action_found templates (action.Modify cell puts) h b =
        let parts = and_parts (is_cell k cell) (puts_are_valid classes k (class_of_cell classes k cell) puts) h in
        let P : Class → Type 0 = λ c. list_all (put_finds classes d c) puts ≡ true in
        and_from (is_held classes d cell) (list_all (put_finds classes d (held_class classes d cell)) puts) (holds_there cell parts.0)
        (subst P (same_class cell) (puts_found (class_of_cell classes k cell) puts parts.1))
    action_found templates (action.Remove cells) h b =
        let whole = and_parts (nat_lt 0 (length cells) && fits cells) (list_all (is_cell k) cells) h in
        all_such (is_cell k) (is_held classes d) holds_there cells whole.1
    action_found templates (action.Write items) h b =
        all_such (item_is_valid classes k) (item_finds classes d) item_found items (and_parts (fits items) (list_all (item_is_valid classes k) items) h).1
    action_found templates (action.Bind v t) h b = and_from (term_finds classes d t) (is_single t) (term_found false t h) (single classes k t h)
    action_found templates (action.Cbind cell) h b = made_found k.made refl (and_parts (is_some k.made) (cell == length k.cells) h).0
    action_found templates action.Halt h b = refl
    action_found templates (action.Build template holes) h b =
        and_from (is_some (slice_get templates template)) (list_all (λ (w : Hole). is_bound d w.variable) holes) (there templates template b)
        (all_such (λ (w : Hole). is_in w.variable k.bound) (λ (w : Hole). is_bound d w.variable) (λ w e. p.variables w.variable e) holes h)

  -- ---- what a valid action leaves

  module _ (k : Known) where
    removed_knows : (tag : ℕ) (d : ActState) → Knows k d → Knows k (removed d tag)
    removed_knows tag d p = by (has_tag d.wm tag)
      where
        by : (b : Bool) → Knows k (cond b (changed d (change.Remove tag)) d)
        by true = record {
          variables = p.variables;
          cells = p.cells;
          exist = p.exist;
          made = λ c is. made_still classes d.changes tag c (p.made c is);
        }
        by false = p

    all_removed : (cells : List ℕ) (d : ActState) → Knows k d → Knows k (fold (λ d c. removed d (cell_of d c).tag) d cells)
    all_removed [] d p = p
    all_removed (c ∷ cells) d p = all_removed cells (removed d (cell_of d c).tag) (removed_knows (cell_of d c).tag d p)

    -- an element was made, of a class that exists
    added_knows : (d : ActState) (class : ℕ) (fields : List Value) → nat_lt class (length classes) ≡ true → Knows k d → Knows (record k { made = Some class }) (added d class fields)
    added_knows d class fields exists p = record {
      variables = p.variables;
      cells = p.cells;
      exist = p.exist;
      made = λ c is. (let same : class ≡ c = cc in subst (IsMade classes (d.changes ++ change.Add (next_element d class fields) ∷ [])) same (made_more classes d.changes (next_element d class fields) exists));
    }

    -- an element took the place of the one in a cell, of the same class
    modified_knows : (d : ActState) (cell : ℕ) (fields : List Value) → is_cell k cell ≡ true → Knows k d → Knows (record k { made = slice_get k.cells cell }) (modified d cell fields)
    modified_knows d cell fields within p =
        let e = cell_of d cell in
        let r = removed_knows e.tag d p in
        let before = removed d e.tag in
        let R : ℕ → Type 0 = λ c. nat_lt c (length classes) ≡ true in
        let same : unwrap_or (slice_get k.cells cell) 0 ≡ e.class = ap (λ cs. unwrap_or (slice_get cs cell) 0) (sym p.cells) ∙ cell_class d.cells cell in
        let exists : nat_lt e.class (length classes) ≡ true = subst R same (all_at (λ c. nat_lt c (length classes)) k.cells cell 0 p.exist within) in
        record {
          variables = r.variables;
          cells = class_set d.cells cell (next_element d e.class fields) refl ∙ p.cells;
          exist = r.exist;
          made = λ c is. (let is_class : e.class ≡ c = sym same ∙ ap (λ o. unwrap_or o 0) is in subst (IsMade classes (before.changes ++ change.Add (next_element before e.class fields) ∷ [])) is_class (made_more classes before.changes (next_element before e.class fields) exists));
        }

    bound_knows : (d : ActState) (v : ℕ) (value : Value) → Knows k d → Knows (record k { bound = k.bound ++ v ∷ []; given = k.given ++ v ∷ [] }) (bound d v value)
    bound_knows d v value p = record {
      variables = bound_more k.bound d.bindings (record { variable = v; value = value }) p.variables;
      cells = p.cells;
      exist = p.exist;
      made = p.made;
    }

    cbound_knows : (d : ActState) (o : Option ℕ) → k.made ≡ o → is_some o ≡ true → Knows k d → Knows (record k { cells = k.cells ++ unwrap_or o 0 ∷ [] }) (cell_bound d)
    cbound_knows d None is some p = absurd (cc)
    cbound_knows d (Some c) is some p =
        let m = p.made c is in record {
          variables = p.variables;
          cells = map-append (λ (e : Element). e.class) d.cells (made_last d.changes ∷ []) ∙ ap (λ cs. cs ++ (made_last d.changes).class ∷ []) p.cells ∙ ap (λ n. k.cells ++ n ∷ []) m.class;
          exist = list_all-append (λ c. nat_lt c (length classes)) k.cells (c ∷ []) ∙ and_from _ _ p.exist (and_from _ _ m.exists refl);
          made = p.made;
        }

-- the same for any working memory
abbrev HoldsIn : List Class → Known → List Binding → List Element → List Change → List Element → Type 0
HoldsIn classes k bindings elements changes wm = Holds classes k bindings elements changes

-- after a valid action, what is known of it is true
pub action_knows : (s : Setting) (column : ℕ) (k : Known) (a : Action) (d : ActState) → Knows s.classes k d → action_is_valid s.classes k a ≡ true → IfOk (action_done s column a d).outcome (Knows s.classes (known_after k a))
action_knows s column k (action.Make class puts) d p h =
    let parts = and_parts (nat_lt class (length s.classes)) (puts_are_valid s.classes k (class_of s.classes class) puts) h in
    let After : ActState → Type 0 = Knows s.classes (record k { made = Some class }) in
    ok_on After After [] (followed_by (made_fields s.classes (class_of s.classes class) puts d) (λ f. Ok (added f.doing class f.fields))) (changes_told s d (column_after column []))
    (ok_behind (KeepsFilled (HoldsIn s.classes k) s.classes) After (made_fields s.classes (class_of s.classes class) puts d) (λ f. Ok (added f.doing class f.fields))
    (made_keeps (HoldsIn s.classes k) s.classes (class_of s.classes class) puts _ p) (λ f q. added_knows s.classes k f.doing class f.fields parts.0 q))
    (λ d q. q)
action_knows s column k (action.Modify cell puts) d p h =
    let parts = and_parts (is_cell k cell) (puts_are_valid s.classes k (class_of_cell s.classes k cell) puts) h in
    let After : ActState → Type 0 = Knows s.classes (record k { made = slice_get k.cells cell }) in
    ok_on After After [] (followed_by (modified_fields s.classes puts cell d) (λ f. Ok (modified f.doing cell f.fields))) (changes_told s d (column_after column []))
    (ok_behind (KeepsFilled (HoldsIn s.classes k) s.classes) After (modified_fields s.classes puts cell d) (λ f. Ok (modified f.doing cell f.fields))
    (over_keeps (HoldsIn s.classes k) s.classes puts _ p) (λ f q. modified_knows s.classes k f.doing cell f.fields parts.0 q))
    (λ d q. q)
action_knows s column k (action.Remove cells) d p h = all_removed s.classes k cells d p
action_knows s column k (action.Write items) d p h = items_keep (HoldsIn s.classes k) s.classes Apart column items d p
action_knows s column k (action.Bind v t) d p h =
    ok_behind (KeepsValued (HoldsIn s.classes k) s.classes) (Knows s.classes (known_after k (action.Bind v t))) (evaluated s.classes t d) (λ w. Ok (bound w.doing v (first_of w.values)))
    (evaluated_keeps (HoldsIn s.classes k) s.classes t d p) (λ w q. bound_knows s.classes k w.doing v (first_of w.values) q)
action_knows s column k (action.Cbind cell) d p h =
    cbound_knows s.classes k d k.made refl (and_parts (is_some k.made) (cell == length k.cells) h).0 p
action_knows s column k action.Halt d p h = record { variables = p.variables; cells = p.cells; exist = p.exist; made = p.made }
action_knows s column k (action.Build template holes) d p h = record { variables = p.variables; cells = p.cells; exist = p.exist; made = p.made }

-- So valid actions find everything that they name, one after another.
pub actions_find : (s : Setting) (column : ℕ) (k : Known) (actions : List Action) (d : ActState) → Knows s.classes k d → actions_are_valid s.classes k actions ≡ true
    → list_all (builds_from (length s.templates)) actions ≡ true → AllFind s column actions d
actions_find s column k [] d p h b = tt
actions_find s column k (a ∷ rest) d p h b =
    let parts = and_parts (action_is_valid s.classes k a) (actions_are_valid s.classes (known_after k a) rest) h in
    let builds = and_parts (builds_from (length s.templates) a) (list_all (builds_from (length s.templates)) rest) b in
    let e = action_done s column a d in (
      action_found s.classes k d p s.templates a parts.0 builds.0,
      ok_more (Knows s.classes (known_after k a)) (AllFind s (column_after column e.bytes) rest) e.outcome (action_knows s column k a d p parts.0)
          (λ next q. actions_find s (column_after column e.bytes) (known_after k a) rest next q parts.1 builds.1),
    )
