-- The state of a right side after one action more.
use Rattle.std.proofs.Common.{◌≡◌, ℕ, ◌+◌, List, [], ◌∷◌, ◌++◌, Bool, true, false, cond, map, length, Option, Some, None, slice_get, unwrap_or, refl, ap, sym, ◌∙◌, subst}
use Rattle.std.specs.Prelude.{slice_set, option_map}
use Rattle.std.specs.Borrow.{Bor}
use Rattle.std.specs.List.{list_all}
use Rattle.std.specs.Slice.{IsItemAt}
use Rattle.std.proofs.lemmas.List.{append-nil, map-append, map-set}
use Rattle.std.proofs.lemmas.Option.{slice_get_read, slice_get_past}
use Rattle.ops_base.specs.Filling.{rule_filled}
use Rattle.ops_base.specs.Names.{Spellings}
use Rattle.ops_base.specs.declared.elements.Element.{Element}
use Rattle.ops_base.specs.declared.elements.Change.{Change}
use Rattle.ops_base.specs.declared.elements.Change.TheVariants as change
use Rattle.ops_base.specs.declared.actions.Hole.{Hole}
use Rattle.ops_base.specs.declared.filling.Filling.{Filling}
use Rattle.ops_base.specs.declared.matching.Binding.{Binding}
use Rattle.ops_base.specs.declared.rules.Rule.{Rule}
use Rattle.ops_base.specs.declared.values.Value.{Value}
use Rattle.ops_io.specs.Coming.{Coming}
use Rattle.ops_meaning.specs.Acting.{ActState as Meant, Setting, has_tag, cell_of, next_element, added, removed, modified, changed, cell_bound, made_last, fillings, rule_built}
use Rattle.ops_base.proofs.Changes.{done_push}
use Rattle.act_phase.specs.Changed.{Changed, GoesOnTo, memory_of, with_change, with_removed, with_added}
use Rattle.act_phase.specs.State.{State, made_at, held_by, is_there, doing_of}
use Rattle.act_phase.specs.declared.state.Cell.{Cell}
use Rattle.act_phase.specs.declared.state.Cell.TheVariants as cell
use Rattle.act_phase.proofs.Cells.{made_at_end, still_held}

removed-cells : (d : Meant) (tag : ℕ) → (removed d tag).cells ≡ d.cells
removed-cells d tag = by (has_tag d.wm tag)
  where
    by : (b : Bool) → (cond b (changed d (change.Remove tag)) d).cells ≡ d.cells
    by true = refl
    by false = refl

removed-last : (d : Meant) (tag : ℕ) → (removed d tag).last ≡ d.last
removed-last d tag = by (has_tag d.wm tag)
  where
    by : (b : Bool) → (cond b (changed d (change.Remove tag)) d).last ≡ d.last
    by true = refl
    by false = refl

-- the state where the code keeps this
abbrev pub state_of : Setting → Changed → List Binding → List Cell → Bool → List Rule → State
state_of setting w bindings cells halted built = record { setting = setting; working = w; bindings = bindings; cells = map (held_by w.changes) cells; halted = halted; built = built }

-- another cell in the place of one
pub state_set : (setting : Setting) (w : Changed) (bindings : List Binding) (cells : List Cell) (halted : Bool) (built : List Rule) (s : State) → state_of setting w bindings cells halted built ≡ s → (at place : ℕ)
    → state_of setting w bindings (slice_set cells at (cell.Made place)) halted built ≡ record s { cells = slice_set s.cells at (made_at s.working.changes place) }
state_set setting w bindings cells halted built s view_is at place =
    let with_cells : List Element → State = λ cs. record (state_of setting w bindings cells halted built) { cells = cs } in
    ap with_cells (map-set (held_by w.changes) cells at (cell.Made place))
    ∙ ap (λ (s : State). record s { cells = slice_set s.cells at (made_at s.working.changes place) }) view_is

-- with these names in use, and this input still to come
module _ (names : Spellings) (coming : Coming) where
  abbrev seen : State → Meant
  seen d = doing_of d names coming

  one_change : (d : State) (last : ℕ) (c : Change) → seen (record d { working = with_change (record d.working { last = last }) c }) ≡ changed (record (seen d) { last = last }) c
  one_change d last c =
      let with_memory : List Element → Meant = λ wm. record (seen d) { wm = wm; changes = d.working.changes ++ c ∷ []; last = last } in
      ap with_memory (done_push d.working.start d.working.changes c)

  pub doing_added : (d : State) (w : Changed) (class : ℕ) (fields : List Value) → (let e : Element = record { tag = d.working.last + 1; class = class; fields = fields } in w ≡ with_added d.working e) → seen (record d { working = w }) ≡ added (seen d) class fields
  doing_added d w class fields is =
      ap (λ (w : Changed). seen (record d { working = w })) is ∙ one_change d (d.working.last + 1) (change.Add (next_element (seen d) class fields))

  pub doing_removed : (d : State) (w : Changed) (tag t : ℕ) → w ≡ with_removed d.working tag → tag ≡ t → seen (record d { working = w }) ≡ removed (seen d) t
  doing_removed d w tag t is same =
      ap (λ (w : Changed). seen (record d { working = w })) is ∙ by (has_tag (memory_of d.working) tag) ∙ ap (removed (seen d)) same
    where
      by : (b : Bool) → seen (record d { working = cond b (with_change d.working (change.Remove tag)) d.working }) ≡ cond b (changed (seen d) (change.Remove tag)) (seen d)
      by true = one_change d d.working.last (change.Remove tag)
      by false = refl

  -- an element was removed and another made, which the cell holds now
  pub doing_modified : (d : Meant) (g m n : State) (at place : ℕ) (fields : List Value) → seen g ≡ removed d (cell_of d at).tag → seen m ≡ added (seen g) (cell_of d at).class fields → place ≡ length g.working.changes
      → n ≡ record m { cells = slice_set m.cells at (made_at m.working.changes place) } → seen n ≡ modified d at fields
  doing_modified d g m n at place fields gone is here new =
      let old = cell_of d at in
      let class = old.class in
      let holding : ℕ → Meant → Meant = λ place x. record x { cells = slice_set x.cells at (made_at x.changes place) } in
      let with_new : Meant → Element → Meant = λ x e. record (added x class fields) { cells = slice_set x.cells at e } in
      let with_both : List Element → ℕ → Meant = λ cs last. record (added (removed d old.tag) class fields) { cells = slice_set cs at (record { tag = last + 1; class = class; fields = fields }) } in
      ap seen new ∙ ap (holding place) is ∙ ap (λ place. holding place (added (seen g) class fields)) here
      ∙ ap (with_new (seen g)) (made_at_end g.working.changes (change.Add (next_element (seen g) class fields)))
      ∙ ap (λ x. with_new x (next_element x class fields)) gone
      ∙ ap (λ cs. with_both cs (removed d old.tag).last) (removed-cells d old.tag)
      ∙ ap (with_both d.cells) (removed-last d old.tag)

  -- ---- with the cells as the code keeps them

  module _ (setting : Setting) (w v : Changed) (bindings : List Binding) (cells : List Cell) (halted : Bool) (built : List Rule) (s : State) (view_is : state_of setting w bindings cells halted built ≡ s) (p : GoesOnTo w v) (there : list_all (is_there (length w.changes)) cells ≡ true) where
    cells_as : seen (state_of setting v bindings cells halted built) ≡ seen (record (state_of setting w bindings cells halted built) { working = v })
    cells_as =
        let with_cells : List Element → Meant = λ cs. seen (record (state_of setting v bindings cells halted built) { cells = cs }) in
        ap with_cells (still_held w v cells p there)

    pub state_added : (class : ℕ) (fields : List Value) → (let e : Element = record { tag = w.last + 1; class = class; fields = fields } in v ≡ with_added w e) → seen (state_of setting v bindings cells halted built) ≡ added (seen s) class fields
    state_added class fields is =
        cells_as ∙ doing_added (state_of setting w bindings cells halted built) v class fields is ∙ ap (λ (s : State). added (seen s) class fields) view_is

    pub state_removed : (tag t : ℕ) → v ≡ with_removed w tag → tag ≡ t → seen (state_of setting v bindings cells halted built) ≡ removed (seen s) t
    state_removed tag t is same =
        cells_as ∙ doing_removed (state_of setting w bindings cells halted built) v tag t is same ∙ ap (λ (s : State). removed (seen s) t) view_is

  -- a cell more
  pub state_bound : (setting : Setting) (w : Changed) (bindings : List Binding) (cells : List Cell) (halted : Bool) (built : List Rule) (s : State) → state_of setting w bindings cells halted built ≡ s → (c : Cell) → held_by w.changes c ≡ made_last w.changes
      → seen (state_of setting w bindings (cells ++ c ∷ []) halted built) ≡ cell_bound (seen s)
  state_bound setting w bindings cells halted built s view_is c is =
      let with_cells : List Element → Meant = λ cs. seen (record (state_of setting w bindings cells halted built) { cells = cs }) in
      ap with_cells (map-append (held_by w.changes) cells (c ∷ []) ∙ ap (λ e. map (held_by w.changes) cells ++ e ∷ []) is)
      ∙ ap (λ (s : State). cell_bound (seen s)) view_is

-- ---- productions that are built

-- what the code's look-up of a template found
pub template_there : (ts : List Rule) (n : ℕ) (r : Option (Bor Rule)) → IsItemAt ts n r → (x : Bor Rule) → r ≡ Some x → slice_get ts n ≡ Some x.now
template_there ts n r got x is =
    let w = subst (IsItemAt ts n) is got in
    slice_get_read ts (length ts) n x.now refl w.3.0 w.1

pub no_template : (ts : List Rule) (n : ℕ) (r : Option (Bor Rule)) → IsItemAt ts n r → r ≡ None → slice_get ts n ≡ None
no_template ts n r got is = slice_get_past ts n (subst (IsItemAt ts n) is got).3

-- there is no such template
pub none_built : (templates : List Rule) (n : ℕ) (holes : List Hole) (d : Meant) → slice_get templates n ≡ None → d ≡ rule_built templates n holes d
none_built templates n holes d none =
    let with_built : List Rule → Meant = λ b. record d { built = b } in
    ap with_built (sym (append-nil d.built))
    ∙ ap (λ o. with_built (d.built ++ unwrap_or (option_map (λ r. rule_filled (fillings d.bindings holes) r ∷ []) o) [])) (sym none)

-- one more was built
pub state_built : (names : Spellings) (coming : Coming) (setting : Setting) (w : Changed) (bindings : List Binding) (cells : List Cell) (halted : Bool) (built : List Rule) (s : State) → state_of setting w bindings cells halted built ≡ s
    → (n : ℕ) (holes : List Hole) (template rule : Rule) (fs : List Filling) → slice_get setting.templates n ≡ Some template → fs ≡ fillings bindings holes → rule ≡ rule_filled fs template
    → doing_of (state_of setting w bindings cells halted (built ++ rule ∷ [])) names coming ≡ rule_built s.setting.templates n holes (doing_of s names coming)
state_built names coming setting w bindings cells halted built s view_is n holes template rule fs there filled is =
    let with_built : List Rule → Meant = λ b. doing_of (state_of setting w bindings cells halted b) names coming in
    let from : Option Rule → List Filling → List Rule = λ o fs. unwrap_or (option_map (λ r. rule_filled fs r ∷ []) o) [] in
    ap (λ r. with_built (built ++ r ∷ [])) is
    ∙ ap (λ o. with_built (built ++ from o fs)) (sym there)
    ∙ ap (λ fs. with_built (built ++ from (slice_get setting.templates n) fs)) filled
    ∙ ap (λ (s : State). rule_built s.setting.templates n holes (doing_of s names coming)) view_is
