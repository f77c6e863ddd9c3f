-- Symbols that are held, in lists, and held still where more are.
use Rattle.std.proofs.Common.{◌≡◌, ℕ, zero, suc, ◌<◌, ◌≤◌, Bool, true, not, ◌==◌, ◌&&◌, List, [], ◌∷◌, ◌++◌, length, take, drop, Option, Some, None, refl, sym, ◌∙◌, arith, slice_get, unwrap_or, inl, inr, ◌⊎◌}
use Rattle.std.specs.Prelude.{slice_set, replicate, find, filter}
use Rattle.std.specs.List.{list_all}
use Rattle.std.proofs.lemmas.Bool.{and_parts, and_from, cases_lt, cond_both, lt-ltb, ltb-true}
use Rattle.std.proofs.lemmas.List.Folds.{list_all-append}
use Rattle.std.proofs.lemmas.Option.{slice_get-get_or, slice_get_past}
use Rattle.ops_base.specs.declared.values.Value.{Value}
use Rattle.ops_base.specs.declared.values.Value.TheVariants as value
use Rattle.ops_base.specs.declared.elements.Change.{Change}
use Rattle.ops_base.specs.declared.elements.Change.TheVariants as change
use Rattle.ops_base.specs.declared.elements.Class.{Class}
use Rattle.ops_base.specs.declared.elements.Element.{Element}
use Rattle.ops_base.specs.declared.conditions.Operand.{Operand}
use Rattle.ops_base.specs.declared.conditions.Operand.TheVariants as operand
use Rattle.ops_base.specs.declared.conditions.Test.{Test}
use Rattle.ops_base.specs.declared.conditions.Condition.{Condition}
use Rattle.ops_base.specs.declared.conditions.Part.{Part}
use Rattle.ops_base.specs.declared.conditions.Part.TheVariants as part
use Rattle.ops_base.specs.declared.actions.Term.{Term}
use Rattle.ops_base.specs.declared.actions.Term.TheVariants as term
use Rattle.ops_base.specs.declared.actions.Put.{Put}
use Rattle.ops_base.specs.declared.actions.Item.{Item}
use Rattle.ops_base.specs.declared.actions.Item.TheVariants as item
use Rattle.ops_base.specs.declared.actions.Action.{Action}
use Rattle.ops_base.specs.declared.actions.Action.TheVariants as action
use Rattle.ops_base.specs.declared.programs.Program.{Program}
use Rattle.ops_base.specs.declared.rules.Rule.{Rule}
use Rattle.ops_base.specs.declared.commands.Fixed.{Fixed}
use Rattle.ops_base.specs.declared.commands.Command.{Command}
use Rattle.ops_base.specs.declared.commands.Command.TheVariants as command
use Rattle.ops_base.specs.declared.values.Sym.{Sym}
use Rattle.ops_base.specs.Names.{Spellings}
use Rattle.ops_base.specs.Symbols.{symbol_held, value_held, class_held, operand_held, condition_held, part_held, term_held, put_held, item_held, action_held, rule_held, fixed_held, pattern_held, command_held, is_held}
use Rattle.ops_base.specs.WorkingMemory.{done, without_tag}
use Rattle.ops_meaning.specs.Kept.{KeepsNames}
use Rattle.act_phase.specs.Held.{element_held, change_held, HoldsProgram, HoldsElements}

-- ---- lists

pub all_weaken : {X : Type 0} (p q : X → Bool) → ((x : X) → p x ≡ true → q x ≡ true) → (xs : List X) → list_all p xs ≡ true → list_all q xs ≡ true
all_weaken p q f [] h = refl
all_weaken p q f (x ∷ xs) h =
    let parts = and_parts (p x) (list_all p xs) h in and_from _ _ (f x parts.0) (all_weaken p q f xs parts.1)

module _ {X : Type 0} (p : X → Bool) where
  pub all_push : (xs : List X) (x : X) → list_all p xs ≡ true → p x ≡ true → list_all p (xs ++ x ∷ []) ≡ true
  all_push xs x h e = list_all-append p xs (x ∷ []) ∙ and_from _ _ h (and_from _ _ e refl)

  pub all_both : (xs ys : List X) → list_all p xs ≡ true → list_all p ys ≡ true → list_all p (xs ++ ys) ≡ true
  all_both xs ys h e = list_all-append p xs ys ∙ and_from _ _ h e

  pub all_set : (xs : List X) (i : ℕ) (x : X) → list_all p xs ≡ true → p x ≡ true → list_all p (slice_set xs i x) ≡ true
  all_set [] i x h e = refl
  all_set (y ∷ xs) zero x h e = and_from _ _ e (and_parts (p y) (list_all p xs) h).1
  all_set (y ∷ xs) (suc i) x h e =
      let parts = and_parts (p y) (list_all p xs) h in and_from _ _ parts.0 (all_set xs i x parts.1 e)

  pub all_take : (n : ℕ) (xs : List X) → list_all p xs ≡ true → list_all p (take n xs) ≡ true
  all_take zero xs h = refl
  all_take (suc n) [] h = refl
  all_take (suc n) (x ∷ xs) h =
      let parts = and_parts (p x) (list_all p xs) h in and_from _ _ parts.0 (all_take n xs parts.1)

  pub all_drop : (n : ℕ) (xs : List X) → list_all p xs ≡ true → list_all p (drop n xs) ≡ true
  all_drop zero xs h = h
  all_drop (suc n) [] h = refl
  all_drop (suc n) (x ∷ xs) h = all_drop n xs (and_parts (p x) (list_all p xs) h).1

  pub all_replicate : (n : ℕ) (x : X) → p x ≡ true → list_all p (replicate n x) ≡ true
  all_replicate zero x e = refl
  all_replicate (suc n) x e = and_from _ _ e (all_replicate n x e)

  -- the one at a place, or this one
  pub all_got : (xs : List X) (i : ℕ) (d : X) → list_all p xs ≡ true → p d ≡ true → p (unwrap_or (slice_get xs i) d) ≡ true
  all_got [] i d h e = e
  all_got (x ∷ xs) zero d h e = (and_parts (p x) (list_all p xs) h).0
  all_got (x ∷ xs) (suc i) d h e = all_got xs i d (and_parts (p x) (list_all p xs) h).1 e

  -- of one that is there
  abbrev pub HoldsOf : Option X → Type 0
  HoldsOf None = Unit {0}
  HoldsOf (Some x) = p x ≡ true

  pub all_found : (q : X → Bool) (xs : List X) → list_all p xs ≡ true → HoldsOf (find q xs)
  all_found q [] h = tt
  all_found q (x ∷ xs) h =
      let parts = and_parts (p x) (list_all p xs) h in cond_both (q x) (Some x) (find q xs) HoldsOf (λ _. parts.0) (λ _. all_found q xs parts.1)

  pub all_filter : (q : X → Bool) (xs : List X) → list_all p xs ≡ true → list_all p (filter q xs) ≡ true
  all_filter q [] h = refl
  all_filter q (x ∷ xs) h =
      let parts = and_parts (p x) (list_all p xs) h in
      let rest = all_filter q xs parts.1 in
      cond_both (q x) (x ∷ filter q xs) (filter q xs) (λ ys. list_all p ys ≡ true) (λ _. and_from _ _ parts.0 rest) (λ _. rest)

pub of_found : {X : Type 0} (p : X → Bool) (o : Option X) (d : X) → HoldsOf p o → p d ≡ true → p (unwrap_or o d) ≡ true
of_found p None d h e = e
of_found p (Some x) d h e = h

-- ---- more symbols

module _ (m n : ℕ) (le : m ≤ n) where
  symbol_more : (s : Sym) → symbol_held m s ≡ true → symbol_held n s ≡ true
  symbol_more s h = lt-ltb s.0 n (let lt = ltb-true s.0 m h in omega (arith, le))

  pub value_more : (v : Value) → value_held m v ≡ true → value_held n v ≡ true
  value_more (value.Symbol s) h = symbol_more s h
  value_more (value.Whole z) h = refl

  pub values_more : (vs : List Value) → list_all (value_held m) vs ≡ true → list_all (value_held n) vs ≡ true
  values_more vs h = all_weaken (value_held m) (value_held n) value_more vs h

  pub element_more : (e : Element) → element_held m e ≡ true → element_held n e ≡ true
  element_more e h = values_more e.fields h

  pub elements_more : (es : List Element) → list_all (element_held m) es ≡ true → list_all (element_held n) es ≡ true
  elements_more es h = all_weaken (element_held m) (element_held n) element_more es h

  change_more : (c : Change) → change_held m c ≡ true → change_held n c ≡ true
  change_more (change.Add e) h = element_more e h
  change_more (change.Remove tag) h = refl

  pub changes_more : (cs : List Change) → list_all (change_held m) cs ≡ true → list_all (change_held n) cs ≡ true
  changes_more cs h = all_weaken (change_held m) (change_held n) change_more cs h

  class_more : (c : Class) → class_held m c ≡ true → class_held n c ≡ true
  class_more c h =
      let parts = and_parts (symbol_held m c.name) (list_all (symbol_held m) c.attrs) h in
      and_from _ _ (symbol_more c.name parts.0) (all_weaken (symbol_held m) (symbol_held n) symbol_more c.attrs parts.1)

  operand_more : (o : Operand) → operand_held m o ≡ true → operand_held n o ≡ true
  operand_more (operand.Constant v) h = value_more v h
  operand_more (operand.OneOf vs) h = values_more vs h
  operand_more (operand.Variable v) h = refl

  condition_more : (c : Condition) → condition_held m c ≡ true → condition_held n c ≡ true
  condition_more c h =
      all_weaken (λ (t : Test). operand_held m t.operand) (λ (t : Test). operand_held n t.operand) (λ t. operand_more t.operand) c.tests h

  part_more : (p : Part) → part_held m p ≡ true → part_held n p ≡ true
  part_more (part.One c) h = condition_more c h
  part_more (part.Group cs) h = all_weaken (condition_held m) (condition_held n) condition_more cs h

  pub term_more : (t : Term) → term_held m t ≡ true → term_held n t ≡ true
  term_more (term.Constant v) h = value_more v h
  term_more (term.Variable v) h = refl
  term_more (term.One cell field) h = refl
  term_more (term.Rest cell) h = refl
  term_more (term.Compute f) h = refl
  term_more term.Fresh h = refl
  term_more term.Accept h = refl

  put_more : (p : Put) → put_held m p ≡ true → put_held n p ≡ true
  put_more p h = all_weaken (term_held m) (term_held n) term_more p.terms h

  item_more : (i : Item) → item_held m i ≡ true → item_held n i ≡ true
  item_more (item.Print t) h = term_more t h
  item_more item.Crlf h = refl
  item_more (item.TabTo c) h = refl
  item_more (item.RightIn w) h = refl

  action_more : (a : Action) → action_held m a ≡ true → action_held n a ≡ true
  action_more (action.Make c puts) h = all_weaken (put_held m) (put_held n) put_more puts h
  action_more (action.Modify c puts) h = all_weaken (put_held m) (put_held n) put_more puts h
  action_more (action.Remove cells) h = refl
  action_more (action.Write items) h = all_weaken (item_held m) (item_held n) item_more items h
  action_more (action.Bind v t) h = term_more t h
  action_more (action.Cbind c) h = refl
  action_more action.Halt h = refl
  action_more (action.Build template holes) h = refl

  rule_more : (r : Rule) → rule_held m r ≡ true → rule_held n r ≡ true
  rule_more r h =
      let whole = and_parts (symbol_held m r.name && list_all (part_held m) r.conditions) (list_all (action_held m) r.actions) h in
      let front = and_parts (symbol_held m r.name) (list_all (part_held m) r.conditions) whole.0 in
      and_from _ _ (and_from _ _ (symbol_more r.name front.0) (all_weaken (part_held m) (part_held n) part_more r.conditions front.1))
      (all_weaken (action_held m) (action_held n) action_more r.actions whole.1)

  fixed_more : (f : Fixed) → fixed_held m f ≡ true → fixed_held n f ≡ true
  fixed_more f h = values_more f.values h

  pattern_more : (p : Option (ℕ × List Fixed)) → pattern_held m p ≡ true → pattern_held n p ≡ true
  pattern_more (Some p) h = all_weaken (fixed_held m) (fixed_held n) fixed_more p.1 h
  pattern_more None h = refl

  pub command_more : (c : Command) → command_held m c ≡ true → command_held n c ≡ true
  command_more (command.Make c puts) h = all_weaken (fixed_held m) (fixed_held n) fixed_more puts h
  command_more (command.Remove tags) h = refl
  command_more command.RemoveAll h = refl
  command_more (command.Run count) h = refl
  command_more (command.Wm tags) h = refl
  command_more (command.Ppwm p) h = pattern_more p h
  command_more command.Cs h = refl
  command_more (command.Pm names) h = all_weaken (symbol_held m) (symbol_held n) symbol_more names h
  command_more (command.Strategy set) h = refl
  command_more (command.Watch set) h = refl
  command_more (command.Pbreak names) h = all_weaken (symbol_held m) (symbol_held n) symbol_more names h
  command_more (command.Add r) h = rule_more r h
  command_more (command.Excise names) h = all_weaken (symbol_held m) (symbol_held n) symbol_more names h
  command_more (command.Back count) h = refl
  command_more (command.Matches names) h = all_weaken (symbol_held m) (symbol_held n) symbol_more names h
  command_more command.Exit h = refl

  pub rules_more : (rules : List Rule) → list_all (rule_held m) rules ≡ true → list_all (rule_held n) rules ≡ true
  rules_more rules h = all_weaken (rule_held m) (rule_held n) rule_more rules h

  pub program_more : (classes : List Class) (rules templates : List Rule) (commands : List Command) → is_held m classes rules templates commands ≡ true → is_held n classes rules templates commands ≡ true
  program_more classes rules templates commands h =
      let whole = and_parts (list_all (class_held m) classes && list_all (rule_held m) rules && list_all (rule_held m) templates) (list_all (command_held m) commands) h in
      let middle = and_parts (list_all (class_held m) classes && list_all (rule_held m) rules) (list_all (rule_held m) templates) whole.0 in
      let front = and_parts (list_all (class_held m) classes) (list_all (rule_held m) rules) middle.0 in
      and_from _ _ (and_from _ _ (and_from _ _ (all_weaken (class_held m) (class_held n) class_more classes front.0) (rules_more rules front.1)) (rules_more templates middle.1))
      (all_weaken (command_held m) (command_held n) command_more commands whole.1)

-- each symbol keeps its spelling, so that as many are held at least
pub keeps_as_many : (old new : Spellings) → KeepsNames old new → length old.held ≤ length new.held
keeps_as_many old new keeps = by (cases_lt (length new.held) (length old.held))
  where
    none_some : (s : List ℕ) → (let a : Option (List ℕ) = None in let b : Option (List ℕ) = Some s in a ≡ b) → ⊥
    none_some s e = cc

    by : (length new.held < length old.held) ⊎ (length old.held ≤ length new.held) → length old.held ≤ length new.held
    by (inr le) = le
    by (inl lt) =
        let there = slice_get-get_or old.held (length new.held) [] lt in
        absurd (none_some _ (sym (slice_get_past new.held (length new.held) (omega arith)) ∙ keeps (length new.held) _ there))

pub holds_program : (old new : Spellings) (p : Program) → KeepsNames old new → HoldsProgram old p → HoldsProgram new p
holds_program old new p keeps h =
    let le = keeps_as_many old new keeps in
    record { nil = omega (arith, le, h.nil); symbols = program_more (length old.held) (length new.held) le p.classes p.rules p.templates p.commands h.symbols }

pub holds_elements : (old new : Spellings) (wm : List Element) → KeepsNames old new → HoldsElements old wm → HoldsElements new wm
holds_elements old new wm keeps h = elements_more (length old.held) (length new.held) (keeps_as_many old new keeps) wm h

pub rules_of_program : (n : ℕ) (p : Program) → is_held n p.classes p.rules p.templates p.commands ≡ true → list_all (rule_held n) p.rules ≡ true
rules_of_program n p h =
    let whole = and_parts (list_all (class_held n) p.classes && list_all (rule_held n) p.rules && list_all (rule_held n) p.templates) (list_all (command_held n) p.commands) h in
    let front = and_parts (list_all (class_held n) p.classes && list_all (rule_held n) p.rules) (list_all (rule_held n) p.templates) whole.0 in
    (and_parts (list_all (class_held n) p.classes) (list_all (rule_held n) p.rules) front.0).1

pub templates_of_program : (n : ℕ) (p : Program) → is_held n p.classes p.rules p.templates p.commands ≡ true → list_all (rule_held n) p.templates ≡ true
templates_of_program n p h =
    let whole = and_parts (list_all (class_held n) p.classes && list_all (rule_held n) p.rules && list_all (rule_held n) p.templates) (list_all (command_held n) p.commands) h in
    (and_parts (list_all (class_held n) p.classes && list_all (rule_held n) p.rules) (list_all (rule_held n) p.templates) whole.0).1

-- ---- changes done

pub done_held : (n : ℕ) (wm : List Element) (cs : List Change) → list_all (element_held n) wm ≡ true → list_all (change_held n) cs ≡ true → list_all (element_held n) (done wm cs) ≡ true
done_held n wm [] h k = h
done_held n wm (change.Add e ∷ cs) h k =
    let parts = and_parts (element_held n e) (list_all (change_held n) cs) k in
    done_held n (wm ++ e ∷ []) cs (all_push (element_held n) wm e h parts.0) parts.1
done_held n wm (change.Remove tag ∷ cs) h k = done_held n (without_tag tag wm) cs (all_filter (element_held n) (λ (e : Element). not (e.tag == tag)) wm h) k
