-- Each word of a right side leads from what is sound to what is sound.
use Rattle.std.proofs.Common.{◌≡◌, ℕ, ◌-◌, ◌<◌, ◌≤◌, Bool, true, false, cond, List, [], ◌∷◌, ◌++◌, length, refl, sym, ap, subst, ◌∙◌, arith, Option, Some, None, Result, Ok, Err, pos, length-append, unwrap_or, slice_get, is_some, take}
use Rattle.std.specs.List.{list_all, list_any}
use Rattle.std.proofs.lemmas.Bool.{and_from, cond_both, eq-eqb, lt-ltb}
use Rattle.ops_base.specs.declared.conditions.Part.{Part}
use Rattle.ops_base.specs.declared.actions.Put.{Put}
use Rattle.ops_base.specs.declared.actions.Item.{Item}
use Rattle.ops_base.specs.declared.actions.Item.TheVariants as item
use Rattle.ops_base.specs.declared.actions.Action.{Action}
use Rattle.ops_base.specs.declared.actions.Action.TheVariants as action
use Rattle.ops_base.specs.declared.endings.Fault.{Fault}
use Rattle.ops_base.specs.Valid.{longest_list, class_of, fits, puts_are_valid, action_is_valid, is_column, Known, known_after, is_cell, cells_of, put_is_valid, item_is_valid, builds_from}
use Rattle.ops_tokens.specs.declared.token.TokenKind.{TokenKind}
use Rattle.ops_tokens.specs.declared.token.TokenKind.TheVariants as kind
use Rattle.ops_grammar.specs.declared.words.Word.{Word}
use Rattle.ops_grammar.specs.declared.words.Keyword.{Keyword}
use Rattle.ops_grammar.specs.declared.words.Keyword.TheVariants as keyword
use Rattle.ops_grammar.specs.Grammar.{InPut, EndsHalt, EndsCrlf, EndsWhole, Column, ToTab, ToRight, Forms, Terms, Actions, BoundValue, Cells, Items, Closes, State, Next, is_left, is_right, is_variable, natural_of, small_of, number_of, classes_of_cells, put_action, renumbered, actions, action_word, designated, numbered_cell, named_cell, cell_of, with_designated, cell, with_modified, modified, bound_name, cell_bound, cell_name, cells, items, item_word, column_item, columns_at, closes, is_absent, is_beginning, rule_of, with_rule, Outer, outer_of, with_template, build_ended, side_ended, build_word, built_name, FirstPattern, Patterns, is_name}
use Rattle.ops_grammar.proofs.Lists.{all_push}
use Rattle.ops_grammar.proofs.Parts.{has_cell}
use Rattle.ops_grammar.proofs.Sound.{IsShort, IsBody, known_in, Knows, IsNamed, HasCells, HasItems, Program, Body, Bare, variables_of, side_of, at_forms, at_class_name, at_terms, InWrite, at_value_end, at_actions, at_action_word, at_modified, at_bound_name, at_bound_value, at_cell_name, at_action_end, at_cell, at_cells, at_items, at_item_word, at_columns, at_crlf, at_halt, Leads, IsOuter, Stands, IsNew, allowed, Head, first_around, actions_around, below, sides, at_built_name, at_first_pattern}
use Rattle.ops_grammar.proofs.Grown.{fits_below, rule_added, element_known, cell_known, template_added, built_begun, head_renamed}
use Rattle.ops_grammar.proofs.ValueSteps.{IsPlaced, added, value_leads, function_leads}
use Rattle.ops_grammar.proofs.Added.{rules_longer, commands_longer}

module _ (text : ℕ) where
  pub put_action_valid : (s : State) (o : Option ℕ) → IsNamed s.classes (known_in s) s.class o → fits s.puts ≡ true
      → list_all (put_is_valid s.classes (known_in s) (class_of s.classes s.class)) s.puts ≡ true → action_is_valid s.classes (known_in s) (put_action o s.class s.puts) ≡ true
  put_action_valid s None named short fields = and_from _ _ (lt-ltb _ _ named) (and_from _ _ short fields)
  put_action_valid s (Some cell) named short fields =
      and_from _ _ named.0 (subst (λ (c : ℕ). puts_are_valid s.classes (known_in s) (class_of s.classes c) s.puts ≡ true) named.1 (and_from _ _ short fields))

  pub put_action_builds : (o : Option ℕ) (class : ℕ) (puts : List Put) → builds_from 0 (put_action o class puts) ≡ true
  put_action_builds None class puts = refl
  put_action_builds (Some cell) class puts = refl

module _ (text n : ℕ) (w : Word) (fit : text ≤ longest_list) (placed : IsPlaced text n w) where
  place_fits : n ≤ longest_list
  place_fits = omega arith

  -- ---- the actions

  rule_leads : (s : State) → s.outer ≡ None → IsShort n s → Body text s → Program text (with_rule s w.past)
  rule_leads s alone short h =
      rule_added text s.classes s.rules s.templates s.commands s.name (variables_of s) s.conditions (side_of s) s.actions s.first w.past alone h (fits_below s.actions n short.9 place_fits) (omega arith) placed.within (is_beginning s) refl

  -- the production ends that another one builds
  template_leads : (s : State) (o : Outer) → s.outer ≡ Some o → IsShort n s → Body text s → Body text (with_template o s (rule_of s w.past))
  template_leads s o inside short h =
      template_added text s.classes s.rules s.templates s.commands s.name (variables_of s) o s.conditions (side_of s) s.actions s.first w.past inside h (fits_below s.actions n short.9 place_fits) (omega arith) placed.within

  -- so much was read of the production around
  around_short : (o : Option Outer) (p : Outer) → o ≡ Some p → first_around o ≤ n → actions_around o ≤ n → (p.first ≤ n) × (length p.actions ≤ n)
  around_short None p e f g = absurd (cc)
  around_short (Some o) p e f g = let same : o ≡ p = cc in subst (λ (x : Outer). (x.first ≤ n) × (length x.actions ≤ n)) same (f, g)

  ended_leads : (s : State) (o : Option Outer) → s.outer ≡ o → IsShort n s → Body text s → Leads text w.past (Next (below o) (side_ended (is_some o) s w.past))
  ended_leads s None alone short g =
      let rules = rules_longer (is_beginning s) s.rules (rule_of s w.past) in
      let commands = commands_longer (is_beginning s) s.commands (rule_of s w.past) in
      let none : (first_around s.outer ≡ 0) × (actions_around s.outer ≡ 0) = (ap first_around alone, ap actions_around alone) in
      (omega (arith, rules, commands, none.0, none.1), at_forms (rule_leads s alone short g))
  ended_leads s (Some o) inside short g =
      let around = around_short s.outer o inside short.15 short.16 in
      let ended : State = with_template o s (rule_of s w.past) in
      let leads : Leads text w.past (Next (Actions false ∷ Forms ∷ []) ended) = (omega (arith, around.0, around.1, length-append o.actions (action.Build (length s.templates) s.holes ∷ [])), at_actions (template_leads s o inside short g)) in
      subst (λ (x : Option Outer). Leads text w.past (Next (Actions false ∷ Forms ∷ []) (build_ended x s (rule_of s w.past)))) (sym inside) leads

  pub actions_leads : (s : State) → IsShort n s → (Body text s) → Leads text w.past (actions (is_some s.outer) w (below s.outer) s)
  actions_leads s short g =
      cond_both (is_right w.kind) _ _ (Leads text w.past) (λ _. ended_leads s s.outer refl short g)
      (λ _. cond_both (is_left w.kind) _ _ (Leads text w.past) (λ _. (omega arith, at_action_word g)) (λ _. tt))

  -- what is kept of the production around the one that begins
  outer_is : (s : State) → Body text s → IsNew s.name s.rules s.commands → list_all (builds_from (length s.templates)) s.actions ≡ true → IsOuter s.classes s.rules s.templates s.commands (outer_of s) []
  outer_is s g new builds =
      record {
        is_new = new;
        few = g.few;
        left = g.left;
        some = g.some;
        valid = g.valid;
        builds = builds;
        knows = record { bound = g.knows.bound; given = g.knows.given; counted = g.knows.counted; cells = g.knows.cells; elements = g.knows.elements; made = g.knows.made };
        bound = refl;
      }

  build_leads : (s : State) (o : Option Outer) → s.outer ≡ o → IsShort n s → Body text s → Leads text w.past (build_word (is_some o) (sides o) s)
  build_leads s (Some o) inside short g = tt
  build_leads s None alone short g =
      let new = subst (λ (x : Option Outer). Stands s.classes s.rules s.templates s.commands s.name x s.holes) alone g.is_new in
      let builds = subst (λ (x : Option Outer). list_all (builds_from (allowed x (length s.templates))) s.actions ≡ true) alone g.builds in
      (omega arith, at_built_name (built_begun text s.classes s.rules s.templates s.commands s.name (outer_of s) g.program (outer_is s g new builds), refl, refl, refl, refl, refl))

  pub built_name_leads : (s : State) → IsShort n s → Head text s × (s.tests ≡ []) × (length s.conditions ≡ 0) × (s.negated ≡ false) × (s.grouped ≡ false) × (is_some s.outer ≡ true)
      → Leads text w.past (built_name w (FirstPattern ∷ Patterns ∷ sides s.outer) s)
  built_name_leads s short g =
      cond_both (is_name w.kind) _ _ (Leads text w.past) (λ _. (omega arith, at_first_pattern (head_renamed text s.classes s.rules s.templates s.commands s.name w.name (variables_of s) s.conditions s.tests g.5 g.0, g.1, g.2, g.3, g.4))) (λ _. tt)

  pub action_word_leads : (s : State) → IsShort n s → (Body text s) → (k : Keyword) → Leads text w.past (action_word (is_some s.outer) k (sides s.outer) s)
  action_word_leads s short g keyword.Make = (omega arith, at_class_name Bare InPut (g, refl, refl))
  action_word_leads s short g keyword.Modify = (omega arith, at_modified (g, refl))
  action_word_leads s short g keyword.Bind = (omega arith, at_bound_name g)
  action_word_leads s short g keyword.Cbind = (omega arith, at_cell_name g)
  action_word_leads s short g keyword.Remove = (omega arith, at_cell ((g, refl)))
  action_word_leads s short g keyword.Write = (omega arith, at_items ((g, refl)))
  action_word_leads s short g keyword.Halt = (omega arith, at_halt g)
  action_word_leads s short g keyword.Build = build_leads s s.outer refl short g
  action_word_leads s short g _ = tt

  -- ---- designators

  -- what is designated is a cell
  abbrev IsCell : State → Result ℕ Fault → Type 0
  IsCell s (Ok c) = is_cell (known_in s) c ≡ true
  IsCell s (Err f) = Unit {0}

  designated_cell : (s : State) → Body text s → (k : ℕ) (o : Option Part) → slice_get s.conditions k ≡ o → IsCell s (designated k o s)
  designated_cell s g k None at = tt
  designated_cell s g k (Some c) at =
      cond_both (is_absent c) _ _ (IsCell s) (λ _. tt)
      (λ positive. cond_both (list_any is_absent (take k s.conditions)) _ _ (IsCell s) (λ _. tt)
      (λ plain.
      let lt = has_cell s.conditions k c at positive plain in
      let same = ap length g.knows.cells in
      lt-ltb _ _ (omega (arith, lt, same, length-append (cells_of s.conditions) s.further))))

  numbered_is_cell : (s : State) → Body text s → (o : Option ℕ) → IsCell s (numbered_cell o s)
  numbered_is_cell s g None = tt
  numbered_is_cell s g (Some m) = designated_cell s g (m - 1) (slice_get s.conditions (m - 1)) refl

  -- an element variable names the cell of a condition, or one that was named after them
  named_is_cell : (s : State) → Body text s → (o : Option ℕ) → number_of w.name s.elements ≡ o → IsCell s (named_cell o)
  named_is_cell s g None e = tt
  named_is_cell s g (Some c) e = element_known w.name c g.knows e

  is_cell_of : (s : State) → Body text s → (k : TokenKind) → IsCell s (cell_of k w.name s)
  is_cell_of s g (kind.Whole z) = numbered_is_cell s g (natural_of z)
  is_cell_of s g kind.Variable = named_is_cell s g (number_of w.name s.elements) refl
  is_cell_of s g _ = tt

  with_designated_leads : (s : State) → IsShort n s → HasCells text s → (r : Result ℕ Fault) → IsCell s r → Leads text w.past (with_designated r (Cells ∷ sides s.outer) s)
  with_designated_leads s short g (Err f) is = tt
  with_designated_leads s short g (Ok c) is =
      (omega (arith, length-append {A = ℕ}), at_cells ((g.0, all_push (is_cell (known_in s)) s.cells c g.1 is), omega (arith, length-append s.cells (c ∷ []))))

  pub cell_leads : (s : State) → IsShort n s → HasCells text s → Leads text w.past (cell w.kind w.name (Cells ∷ sides s.outer) s)
  cell_leads s short g = with_designated_leads s short g (cell_of w.kind w.name s) (is_cell_of s g.0 w.kind)

  with_modified_leads : (s : State) → IsShort n s → Body text s × (s.puts ≡ []) → (r : Result ℕ Fault) → IsCell s r → Leads text w.past (with_modified r (Terms InPut ∷ sides s.outer) s)
  with_modified_leads s short g (Err f) is = tt
  with_modified_leads s short g (Ok c) is =
      let class = unwrap_or (slice_get (classes_of_cells s) c) 0 in (
        omega arith,
        at_terms Bare InPut (
            record {
              around = g.0;
              class = (is, ap (λ (cs : List ℕ). unwrap_or (slice_get cs c) 0) (sym g.0.knows.cells));
              fields = ap (list_all (put_is_valid s.classes (known_in s) (class_of s.classes class))) g.1;
            }
            ),
      )

  pub modified_leads : (s : State) → IsShort n s → Body text s × (s.puts ≡ []) → Leads text w.past (modified w (Terms InPut ∷ sides s.outer) s)
  modified_leads s short g = with_modified_leads s short g (cell_of w.kind w.name s) (is_cell_of s g.0 w.kind)

  -- ---- bind, cbind

  pub bound_name_leads : (s : State) → IsShort n s → Body text s → Leads text w.past (bound_name w (BoundValue ∷ sides s.outer) s)
  bound_name_leads s short g = cond_both (is_variable w.kind) _ _ (Leads text w.past) (λ _. (omega arith, at_bound_value g)) (λ _. tt)

  cell_bound_leads : (s : State) → IsShort n s → Body text s → (o : Option ℕ) → s.made ≡ o → Leads text w.past (cell_bound o w.name (Closes EndsWhole ∷ sides s.outer) s)
  cell_bound_leads s short g None e = tt
  cell_bound_leads s short g (Some class) e =
      let cell = length (classes_of_cells s) in (
        omega (arith, length-append {A = Action}),
        at_action_end (added text s (action.Cbind cell) s.values (renumbered w.name cell s.elements) s.variables (record { made = s.made; further = s.further ++ class ∷ [] }) g
            (and_from _ _ (ap is_some (g.knows.made ∙ e)) (eq-eqb _ _ (ap length (sym g.knows.cells)))) refl
            (cell_known (known_in s) (variables_of s) s.conditions (side_of s) g.knows w.name class e)),
      )

  pub cell_name_leads : (s : State) → IsShort n s → Body text s → Leads text w.past (cell_name w (Closes EndsWhole ∷ sides s.outer) s)
  cell_name_leads s short g = cond_both (is_variable w.kind) _ _ (Leads text w.past) (λ _. cell_bound_leads s short g s.made refl) (λ _. tt)

  pub action_end_leads : (s : State) → IsShort n s → Body text s → Leads text w.past (closes EndsWhole w (sides s.outer) s)
  action_end_leads s short g = cond_both (is_right w.kind) _ _ (Leads text w.past) (λ _. (omega arith, at_actions g)) (λ _. tt)

  -- ---- remove, write, halt, run

  -- an action that leaves what is known as it is
  known_kept : (s : State) (a : Action) → Body text s → action_is_valid s.classes (known_in s) a ≡ true → builds_from 0 a ≡ true → known_after (known_in s) a ≡ known_in s
      → IsBody text s.classes s.rules s.templates s.commands s.name (variables_of s) s.conditions (side_of s) (s.actions ++ a ∷ [])
  known_kept s a g valid builds same = added text s a s.values s.elements s.variables (side_of s) g valid builds (subst (λ (k : Known). Knows k (variables_of s) s.conditions (side_of s)) (sym same) g.knows)

  pub cells_leads : (s : State) → IsShort n s → HasCells text s × (0 < length s.cells) → Leads text w.past (cells w (sides s.outer) s)
  cells_leads s short g =
      cond_both (is_right w.kind) _ _ (Leads text w.past)
      (λ _. (
        omega (arith, length-append {A = Action}),
        at_actions (known_kept s (action.Remove s.cells) g.0.0 (and_from _ _ (and_from _ _ (lt-ltb _ _ g.1) (fits_below s.cells n short.7 place_fits)) g.0.1) refl refl),
      ))
      (λ _. cell_leads s short g.0)

  item_added : (s : State) (i : Item) → IsShort n s → HasItems text s → (item_is_valid s.classes (known_in s) i ≡ true) → Leads text w.past (Next (Items ∷ sides s.outer) (record s { items = s.items ++ i ∷ [] }))
  item_added s i short g valid =
      (omega (arith, length-append {A = Item}), at_items ((g.0, all_push (item_is_valid s.classes (known_in s)) s.items i g.1 valid)))

  pub items_leads : (s : State) → IsShort n s → HasItems text s → Leads text w.past (items w (sides s.outer) s)
  items_leads s short g =
      cond_both (is_right w.kind) _ _ (Leads text w.past)
      (λ _. (
        omega (arith, length-append {A = Action}),
        at_actions (known_kept s (action.Write s.items) g.0 (and_from _ _ (fits_below s.items n short.8 place_fits) g.1) refl refl),
      ))
      (λ _. cond_both (is_left w.kind) _ _ (Leads text w.past) (λ _. (omega arith, at_item_word g)) (λ _. value_leads text n w fit placed InWrite s short g))

  pub item_word_leads : (s : State) → IsShort n s → HasItems text s → (k : Keyword) → Leads text w.past (item_word k (Items ∷ sides s.outer) s)
  item_word_leads s short g keyword.Crlf = (omega arith, at_crlf g)
  item_word_leads s short g keyword.Tabto = (omega arith, at_columns ToTab g)
  item_word_leads s short g keyword.Rjust = (omega arith, at_columns ToRight g)
  item_word_leads s short g keyword.Substr = function_leads text n w fit placed InWrite s short g keyword.Substr
  item_word_leads s short g keyword.Compute = function_leads text n w fit placed InWrite s short g keyword.Compute
  item_word_leads s short g keyword.Genatom = function_leads text n w fit placed InWrite s short g keyword.Genatom
  item_word_leads s short g keyword.Accept = function_leads text n w fit placed InWrite s short g keyword.Accept
  item_word_leads s short g _ = tt

  small_by : (b : Bool) (m k : ℕ) → is_column m ≡ b → cond b (Some m) None ≡ Some k → is_column k ≡ true
  small_by true m k is e = let same : m ≡ k = cc in ap is_column (sym same) ∙ is
  small_by false m k is e = absurd (cc)

  small_column : (t : TokenKind) (k : ℕ) → small_of t ≡ Some k → is_column k ≡ true
  small_column (kind.Whole (pos m)) k e = small_by (is_column m) m k refl e
  small_column _ k e = absurd (cc)

  column_valid : (s : State) (c : Column) (k : ℕ) → is_column k ≡ true → item_is_valid s.classes (known_in s) (column_item c k) ≡ true
  column_valid s ToTab k e = e
  column_valid s ToRight k e = e

  pub columns_leads : (s : State) → IsShort n s → HasItems text s → (c : Column) (o : Option ℕ) → small_of w.kind ≡ o → Leads text w.past (columns_at c o (Closes EndsWhole ∷ Items ∷ sides s.outer) s)
  columns_leads s short g c (Some k) e = (
    omega (arith, length-append {A = Item}),
    at_value_end InWrite ((g.0, all_push (item_is_valid s.classes (known_in s)) s.items (column_item c k) g.1 (column_valid s c k (small_column w.kind k e)))),
  )
  columns_leads s short g c None e = tt

  pub crlf_leads : (s : State) → IsShort n s → HasItems text s → Leads text w.past (closes EndsCrlf w (Items ∷ sides s.outer) s)
  crlf_leads s short g = cond_both (is_right w.kind) _ _ (Leads text w.past) (λ _. item_added s item.Crlf short g refl) (λ _. tt)

  pub halt_leads : (s : State) → IsShort n s → (Body text s) → Leads text w.past (closes EndsHalt w (sides s.outer) s)
  halt_leads s short g =
      cond_both (is_right w.kind) _ _ (Leads text w.past)
      (λ _. (omega (arith, length-append {A = Action}), at_actions (known_kept s action.Halt g refl refl refl)))
      (λ _. tt)
