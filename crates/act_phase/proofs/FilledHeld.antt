-- A production holds only symbols that are held where that is so of the template that gives it, and of what its holes are
-- filled with.
use Rattle.std.proofs.Common.{◌≡◌, ℕ, zero, suc, ◌+◌, ◌==◌, ◌&&◌, Bool, true, List, [], ◌∷◌, Option, Some, None, refl, slice_get, unwrap_or}
use Rattle.std.specs.Prelude.{find, option_map}
use Rattle.std.specs.List.{list_all}
use Rattle.std.proofs.lemmas.Bool.{and_parts, and_from}
use Rattle.ops_base.specs.declared.filling.Filling.{Filling}
use Rattle.ops_base.specs.declared.values.Value.{Value}
use Rattle.ops_base.specs.declared.conditions.Operand.{Operand}
use Rattle.ops_base.specs.declared.conditions.Operand.TheVariants as operand
use Rattle.ops_base.specs.declared.conditions.Test.{Test}
use Rattle.ops_base.specs.declared.conditions.Condition.{Condition}
use Rattle.ops_base.specs.declared.conditions.Part.{Part}
use Rattle.ops_base.specs.declared.conditions.Part.TheVariants as part
use Rattle.ops_base.specs.declared.actions.Term.{Term}
use Rattle.ops_base.specs.declared.actions.Term.TheVariants as term
use Rattle.ops_base.specs.declared.actions.Put.{Put}
use Rattle.ops_base.specs.declared.actions.Item.{Item}
use Rattle.ops_base.specs.declared.actions.Item.TheVariants as item
use Rattle.ops_base.specs.declared.actions.Action.{Action}
use Rattle.ops_base.specs.declared.actions.Action.TheVariants as action
use Rattle.ops_base.specs.declared.rules.Rule.{Rule}
use Rattle.ops_base.specs.Filling.{each, total, one, value_filled, in_operand, operand_filled, in_test, test_filled, in_condition, condition_filled, in_part, part_filled, in_term, term_filled, in_put, put_filled, in_item, item_filled, in_action, action_filled, rule_filled}
use Rattle.ops_base.specs.Symbols.{symbol_held, value_held, operand_held, condition_held, part_held, term_held, put_held, item_held, action_held, rule_held}
use Rattle.ops_meaning.specs.Acting.{filled_from}
use Rattle.act_phase.proofs.Held.{all_found, HoldsOf}

each_held : {X : Type 0} (p : X → Bool) (count : X → ℕ) (fill : ℕ → X → X) → ((k : ℕ) (x : X) → p x ≡ true → p (fill k x) ≡ true) → (k : ℕ) (xs : List X) → list_all p xs ≡ true → list_all p (each count fill k xs) ≡ true
each_held p count fill f k [] h = refl
each_held p count fill f k (x ∷ xs) h =
    let parts = and_parts (p x) (list_all p xs) h in and_from _ _ (f k x parts.0) (each_held p count fill f (k + count x) xs parts.1)

-- what a value is filled with is held
abbrev pub filling_held : ℕ → Filling → Bool
filling_held n f = value_held n f.value

module _ (n : ℕ) (fs : List Filling) (held : list_all (filling_held n) fs ≡ true) where
  value_still : (k : ℕ) (v : Value) → value_held n v ≡ true → value_held n (value_filled fs k v) ≡ true
  value_still k v h = by (find (λ (f : Filling). f.number == k) fs) (all_found (filling_held n) (λ (f : Filling). f.number == k) fs held)
    where
      by : (o : Option Filling) → HoldsOf (filling_held n) o → value_held n (unwrap_or (option_map (λ (f : Filling). f.value) o) v) ≡ true
      by None q = h
      by (Some f) q = q

  operand_still : (k : ℕ) (o : Operand) → operand_held n o ≡ true → operand_held n (operand_filled fs k o) ≡ true
  operand_still k (operand.Constant v) h = value_still k v h
  operand_still k (operand.OneOf vs) h = each_held (value_held n) one (value_filled fs) value_still k vs h
  operand_still k (operand.Variable v) h = refl

  test_still : (k : ℕ) (t : Test) → operand_held n t.operand ≡ true → operand_held n (test_filled fs k t).operand ≡ true
  test_still k t h = operand_still k t.operand h

  condition_still : (k : ℕ) (c : Condition) → condition_held n c ≡ true → condition_held n (condition_filled fs k c) ≡ true
  condition_still k c h = each_held (λ (t : Test). operand_held n t.operand) in_test (test_filled fs) test_still k c.tests h

  part_still : (k : ℕ) (p : Part) → part_held n p ≡ true → part_held n (part_filled fs k p) ≡ true
  part_still k (part.One c) h = condition_still k c h
  part_still k (part.Group cs) h = each_held (condition_held n) in_condition (condition_filled fs) condition_still k cs h

  term_still : (k : ℕ) (t : Term) → term_held n t ≡ true → term_held n (term_filled fs k t) ≡ true
  term_still k (term.Constant v) h = value_still k v h
  term_still k (term.Variable v) h = refl
  term_still k (term.Compute f) h = refl
  term_still k (term.One cell field) h = refl
  term_still k (term.Rest cell) h = refl
  term_still k term.Fresh h = refl
  term_still k term.Accept h = refl

  put_still : (k : ℕ) (p : Put) → put_held n p ≡ true → put_held n (put_filled fs k p) ≡ true
  put_still k p h = each_held (term_held n) in_term (term_filled fs) term_still k p.terms h

  item_still : (k : ℕ) (i : Item) → item_held n i ≡ true → item_held n (item_filled fs k i) ≡ true
  item_still k (item.Print t) h = term_still k t h
  item_still k item.Crlf h = refl
  item_still k (item.TabTo c) h = refl
  item_still k (item.RightIn c) h = refl

  action_still : (k : ℕ) (a : Action) → action_held n a ≡ true → action_held n (action_filled fs k a) ≡ true
  action_still k (action.Make class puts) h = each_held (put_held n) in_put (put_filled fs) put_still k puts h
  action_still k (action.Modify cell puts) h = each_held (put_held n) in_put (put_filled fs) put_still k puts h
  action_still k (action.Remove cells) h = refl
  action_still k (action.Write items) h = each_held (item_held n) in_item (item_filled fs) item_still k items h
  action_still k (action.Bind variable t) h = term_still k t h
  action_still k (action.Cbind cell) h = refl
  action_still k action.Halt h = refl
  action_still k (action.Build template holes) h = refl

  pub rule_still : (r : Rule) → rule_held n r ≡ true → rule_held n (rule_filled fs r) ≡ true
  rule_still r h =
      let whole = and_parts (symbol_held n r.name && list_all (part_held n) r.conditions) (list_all (action_held n) r.actions) h in
      let front = and_parts (symbol_held n r.name) (list_all (part_held n) r.conditions) whole.0 in
      and_from _ _ (and_from _ _ front.0 (each_held (part_held n) in_part (part_filled fs) part_still 0 r.conditions front.1))
      (each_held (action_held n) in_action (action_filled fs) action_still (total in_part r.conditions) r.actions whole.1)

  -- what the template with a number gives
  pub from_still : (templates : List Rule) (at : ℕ) → list_all (rule_held n) templates ≡ true → list_all (rule_held n) (filled_from templates at fs) ≡ true
  from_still [] at h = refl
  from_still (r ∷ templates) zero h =
      let parts = and_parts (rule_held n r) (list_all (rule_held n) templates) h in and_from _ _ (rule_still r parts.0) refl
  from_still (r ∷ templates) (suc at) h = from_still templates at (and_parts (rule_held n r) (list_all (rule_held n) templates) h).1
