-- How many constants of a production were read, and from which templates it builds.
use Rattle.std.proofs.Common.{◌≡◌, ℕ, zero, suc, ◌+◌, ◌≤◌, Bool, true, false, ◌==◌, List, [], ◌∷◌, ◌++◌, length, refl, sym, ap, ◌∙◌, subst, arith, Option, Some, None, slice_get, append-nil, append_assoc, length-append, true≢false}
use Rattle.std.specs.List.{list_all}
use Rattle.std.proofs.lemmas.Bool.{and_parts, and_from, lt-ltb, le-leb, eq-eqb}
use Rattle.std.proofs.lemmas.Grind.{flat_map-append}
use Rattle.ops_base.specs.declared.values.Sym.{Sym}
use Rattle.ops_base.specs.declared.elements.Class.{Class}
use Rattle.ops_base.specs.declared.actions.Hole.{Hole}
use Rattle.ops_base.specs.declared.actions.Action.{Action}
use Rattle.ops_base.specs.declared.actions.Action.TheVariants as action
use Rattle.ops_base.specs.declared.rules.Rule.{Rule}
use Rattle.ops_base.specs.declared.commands.Command.{Command}
use Rattle.ops_base.specs.declared.commands.Command.TheVariants as command
use Rattle.ops_base.specs.Filling.{in_part, in_action, total}
use Rattle.ops_base.specs.Valid.{is_in, specificity}
use Rattle.ops_grammar.specs.Grammar.{Outer, State, number_of, values_around, precedes_rules, added_by, rules_with, commands_with}
use Rattle.ops_grammar.specs.Spelling.{InSight, at_arrow, after_action, after_actions, action_is_plain, actions_are_plain, rule_is_plain_by, holes_are_plain, template_is_plain, build_is_plain, rule_is_plain, command_is_plain, template_of, templates_in, templates_by, are_next}
use Rattle.ops_grammar.proofs.Lists.{all_weaker}
use Rattle.ops_grammar.proofs.Added.{none_added, added_rule}
use Rattle.ops_grammar.proofs.Holed.{first_of}
use Rattle.ops_grammar.proofs.Plain.{numbers_in, IsBase, Counted, IsSet, built_around, built_so_far, right_count, RightSet, number_sighted}

-- ---- constants

total-append : {X : Type 0} (f : X → ℕ) (xs ys : List X) → total f (xs ++ ys) ≡ total f xs + total f ys
total-append f [] ys = omega arith
total-append f (x ∷ xs) ys = omega (arith, total-append f xs ys)

pub total-push : {X : Type 0} (f : X → ℕ) (xs : List X) (x : X) → total f (xs ++ x ∷ []) ≡ total f xs + f x
total-push f xs x = omega (arith, total-append f xs (x ∷ []))

pub recounted : (o : Option Outer) (hs : List Hole) (c m n : ℕ) → m ≡ n → Counted o hs c m → Counted o hs c n
recounted o hs c m n e h = subst (λ (i : ℕ). Counted o hs c i) e h

holes_more : (sight : List ℕ) (hs : List Hole) (lo c d : ℕ) → c ≤ d → holes_are_plain sight lo c hs ≡ true → holes_are_plain sight lo d hs ≡ true
holes_more sight [] lo c d le plain = refl
holes_more sight (h ∷ hs) lo c d le plain =
    let is = first_of sight lo c h hs plain in
    and_from _ _ (and_from _ _ (and_from _ _ (le-leb _ _ is.from) (lt-ltb h.number d (omega (arith, is.under, le)))) is.seen) (holes_more sight hs (suc h.number) c d le is.others)

holes_push : (sight : List ℕ) (hs : List Hole) (lo c n : ℕ) → lo ≤ c → is_in n sight ≡ true → holes_are_plain sight lo c hs ≡ true → holes_are_plain sight lo (suc c) (hs ++ record { number = c; variable = n } ∷ []) ≡ true
holes_push sight [] lo c n le there plain = and_from _ _ (and_from _ _ (and_from _ _ (le-leb lo c le) (lt-ltb c (suc c) (omega arith))) there) refl
holes_push sight (h ∷ hs) lo c n le there plain =
    let is = first_of sight lo c h hs plain in
    and_from _ _ (and_from _ _ (and_from _ _ (le-leb _ _ is.from) (lt-ltb h.number (suc c) (omega (arith, is.under)))) is.seen) (holes_push sight hs (suc h.number) c n (omega (arith, is.under)) there is.others)

-- With so many constants more these are the holes, and so many were read.
abbrev pub Grows : Option Outer → List Hole → ℕ → ℕ → List Hole → ℕ → Type 0
Grows o hs c k hs' c' = (m : ℕ) → Counted o hs c m → Counted o hs' c' (m + k)

pub still_grows : (o : Option Outer) (hs : List Hole) (c : ℕ) → Grows o hs c 0 hs c
still_grows o hs c m h = recounted o hs c m (m + 0) (omega arith) h

pub constant_grows : (o : Option Outer) (hs : List Hole) (c : ℕ) → Grows o hs c 1 hs (suc c)
constant_grows None hs c m h = tt
constant_grows (Some o) hs c m h = let e = h.0 in (omega (arith, e), holes_more (numbers_in o.values) hs 0 c (suc c) (omega arith) h.1)

pub hole_grows : (o : Option Outer) (hs : List Hole) (c : ℕ) (variable : Sym) (n : ℕ) → number_of variable (values_around o) ≡ Some n → Grows o hs c 1 (hs ++ record { number = c; variable = n } ∷ []) (suc c)
hole_grows None hs c variable n found m h = tt
hole_grows (Some o) hs c variable n found m h = let e = h.0 in (omega (arith, e), holes_push (numbers_in o.values) hs 0 c n (omega arith) (number_sighted variable o.values n found) h.1)

-- ---- templates

pub base_as : (vectors : List Sym) (classes : List Class) (rules templates : List Rule) (commands : List Command) (ms ns : List ℕ) → ms ≡ ns → IsBase vectors classes rules templates commands ms → IsBase vectors classes rules templates commands ns
base_as vectors classes rules templates commands ms ns e g = subst (λ (xs : List ℕ). IsBase vectors classes rules templates commands xs) e g

-- before the first action
pub so_far_begun : (o : Option Outer) → built_around o ≡ built_so_far o []
so_far_begun None = refl
so_far_begun (Some o) = refl

-- an action that builds nothing
so_far_push : (o : Option Outer) (xs : List Action) (a : Action) → template_of a ≡ [] → built_so_far o xs ≡ built_so_far o (xs ++ a ∷ [])
so_far_push None xs a e =
    sym (flat_map-append template_of xs (a ∷ []) ∙ ap (λ (ns : List ℕ). templates_in xs ++ (ns ++ [])) e ∙ append-nil (templates_in xs))
so_far_push (Some o) xs a e = refl

pub right_pushed : (s : State) (a : Action) (c : ℕ) (hs : List Hole) (n m : ℕ) → template_of a ≡ [] → RightSet n s → Counted s.outer hs c (right_count s + in_action a + m)
    → IsSet s.vectors s.classes s.rules s.templates s.commands (built_so_far s.outer (s.actions ++ a ∷ [])) s.outer hs c (total in_part s.conditions + total in_action (s.actions ++ a ∷ []) + m)
right_pushed s a c hs n m none g h =
    let more = total-push in_action s.actions a in
    record {
      base = base_as s.vectors s.classes s.rules s.templates s.commands (built_so_far s.outer s.actions) (built_so_far s.outer (s.actions ++ a ∷ [])) (so_far_push s.outer s.actions a none) g.base;
      outside = g.outside;
      counts = recounted s.outer hs c _ _ (omega (arith, more)) h;
    }

-- an action ends, whose constants were read
pub right_done : (s : State) (a : Action) (n : ℕ) → template_of a ≡ [] → in_action a ≡ n → RightSet n s
    → IsSet s.vectors s.classes s.rules s.templates s.commands (built_so_far s.outer (s.actions ++ a ∷ [])) s.outer s.holes s.counted (total in_part s.conditions + total in_action (s.actions ++ a ∷ []) + 0)
right_done s a n none e g =
    right_pushed s a s.counted s.holes n 0 none g (recounted s.outer s.holes s.counted (right_count s + n) (right_count s + in_action a + 0) (omega (arith, e)) g.counts)

-- ---- a template more

pub get_more : (ts : List Rule) (q r : Rule) (i : ℕ) → slice_get ts i ≡ Some q → slice_get (ts ++ r ∷ []) i ≡ Some q
get_more [] q r i e = absurd (cc)
get_more (t ∷ ts) q r zero e = e
get_more (t ∷ ts) q r (suc i) e = get_more ts q r i e

pub get_last : (ts : List Rule) (r : Rule) → slice_get (ts ++ r ∷ []) (length ts) ≡ Some r
get_last [] r = refl
get_last (t ∷ ts) r = get_last ts r

pub build_more : (classes : List Class) (ts : List Rule) (r : Rule) (k : InSight) (i : ℕ) (hs : List Hole) → build_is_plain classes ts k i hs ≡ true → build_is_plain classes (ts ++ r ∷ []) k i hs ≡ true
build_more classes ts r k i hs h = by (slice_get ts i) refl h
  where
    by : (o : Option Rule) → slice_get ts i ≡ o → template_is_plain classes k.variables.sight hs o ≡ true → build_is_plain classes (ts ++ r ∷ []) k i hs ≡ true
    by None e plain = absurd (true≢false (sym plain))
    by (Some q) e plain = ap (template_is_plain classes k.variables.sight hs) (get_more ts q r i e) ∙ plain

module _ (classes : List Class) (one other : InSight → ℕ → List Hole → Bool) (weaker : (k : InSight) (i : ℕ) (hs : List Hole) → one k i hs ≡ true → other k i hs ≡ true) where
  action_weaker : (k : InSight) (a : Action) → action_is_plain one classes k a ≡ true → action_is_plain other classes k a ≡ true
  action_weaker k (action.Build template holes) h = weaker k template holes h
  action_weaker k (action.Make class puts) h = h
  action_weaker k (action.Modify cell puts) h = h
  action_weaker k (action.Remove cells) h = h
  action_weaker k (action.Write items) h = h
  action_weaker k (action.Bind variable x) h = h
  action_weaker k (action.Cbind cell) h = h
  action_weaker k action.Halt h = h

  pub actions_weaker : (xs : List Action) (k : InSight) → actions_are_plain one classes k xs ≡ true → actions_are_plain other classes k xs ≡ true
  actions_weaker [] k h = refl
  actions_weaker (a ∷ xs) k h =
      let each = and_parts (action_is_plain one classes k a) (actions_are_plain one classes (after_action k a) xs) h in
      and_from _ _ (action_weaker k a each.0) (actions_weaker xs (after_action k a) each.1)

  rule_weaker : (b : Bool) (r : Rule) → rule_is_plain_by one b classes r ≡ true → rule_is_plain_by other b classes r ≡ true
  rule_weaker b r h =
      let to = after_actions (at_arrow b r.conditions) r.actions in
      let p1 = and_parts _ (r.cells == length to.cells) h in
      let p2 = and_parts _ (r.specificity == specificity r.conditions) p1.0 in
      let p3 = and_parts _ (r.variables == to.variables.given) p2.0 in
      let p4 = and_parts _ (actions_are_plain one classes (at_arrow b r.conditions) r.actions) p3.0 in
      and_from _ _ (and_from _ _ (and_from _ _ (and_from _ _ p4.0 (actions_weaker r.actions (at_arrow b r.conditions) p4.1)) p3.1) p2.1) p1.1

rule_more : (classes : List Class) (ts : List Rule) (q r : Rule) → rule_is_plain classes ts r ≡ true → rule_is_plain classes (ts ++ q ∷ []) r ≡ true
rule_more classes ts q r h = rule_weaker classes (build_is_plain classes ts) (build_is_plain classes (ts ++ q ∷ [])) (build_more classes ts q) false r h

command_more : (classes : List Class) (ts : List Rule) (q : Rule) (c : Command) → command_is_plain classes ts c ≡ true → command_is_plain classes (ts ++ q ∷ []) c ≡ true
command_more classes ts q (command.Add r) h = rule_more classes ts q r h
command_more classes ts q (command.Make class puts) h = h
command_more classes ts q (command.Remove tags) h = h
command_more classes ts q (command.Run None) h = h
command_more classes ts q (command.Run (Some n)) h = h
command_more classes ts q (command.Wm tags) h = h
command_more classes ts q (command.Ppwm None) h = h
command_more classes ts q (command.Ppwm (Some p)) h = h
command_more classes ts q (command.Pm names) h = h
command_more classes ts q (command.Watch None) h = h
command_more classes ts q (command.Watch (Some n)) h = h
command_more classes ts q command.RemoveAll h = h
command_more classes ts q command.Cs h = h
command_more classes ts q (command.Strategy set) h = h
command_more classes ts q (command.Pbreak names) h = h
command_more classes ts q command.Exit h = h
command_more classes ts q (command.Excise names) h = h
command_more classes ts q (command.Matches names) h = h
command_more classes ts q (command.Back count) h = h

next_push : (m : ℕ) (xs : List ℕ) → are_next m xs ≡ true → are_next m (xs ++ (m + length xs) ∷ []) ≡ true
next_push m [] h = and_from _ _ (eq-eqb (m + 0) m (omega arith)) refl
next_push m (x ∷ xs) h =
    let parts = and_parts (x == m) (are_next (suc m) xs) h in
    let same : suc m + length xs ≡ m + suc (length xs) = omega arith in
    and_from _ _ parts.0 (ap (λ (i : ℕ). are_next (suc m) (xs ++ i ∷ [])) (sym same) ∙ next_push (suc m) xs parts.1)

-- a production builds from one more
pub template_made : (vectors : List Sym) (classes : List Class) (rules templates : List Rule) (commands : List Command) (xs : List Action) (r : Rule) (holes : List Hole) → IsBase vectors classes rules templates commands (templates_in xs)
    → IsBase vectors classes rules (templates ++ r ∷ []) commands (templates_in (xs ++ action.Build (length templates) holes ∷ []))
template_made vectors classes rules templates commands xs r holes g =
    let a : Action = action.Build (length templates) holes in
    let before = templates_by (rules ++ added_by commands) in
    let n = length templates in
    let all : templates_in (xs ++ a ∷ []) ≡ templates_in xs ++ n ∷ [] = flat_map-append template_of xs (a ∷ []) in
    let whole : before ++ templates_in (xs ++ a ∷ []) ≡ (before ++ templates_in xs) ++ n ∷ [] = ap (λ (ns : List ℕ). before ++ ns) all ∙ sym (append_assoc before (templates_in xs) (n ∷ [])) in
    let size = g.size in
    let last : 0 + length (before ++ templates_in xs) ≡ n = omega (arith, size) in
    record {
      arranged = g.arranged;
      rules_plain = all_weaker (rule_is_plain classes templates) (rule_is_plain classes (templates ++ r ∷ [])) rules (rule_more classes templates r) g.rules_plain;
      commands_plain = all_weaker (command_is_plain classes templates) (command_is_plain classes (templates ++ r ∷ [])) commands (command_more classes templates r) g.commands_plain;
      order = ap (are_next 0) whole ∙ ap (λ (i : ℕ). are_next 0 ((before ++ templates_in xs) ++ i ∷ [])) (sym last) ∙ next_push 0 (before ++ templates_in xs) g.order;
      size = omega (arith, size, ap (λ (ns : List ℕ). length ns) whole, length-append (before ++ templates_in xs) (n ∷ []), length-append templates (r ∷ []));
    }

-- a production more
pub made_all : (rules : List Rule) (commands : List Command) (r : Rule) (b : Bool) → list_all precedes_rules commands ≡ b
    → templates_by (rules_with b rules r ++ added_by (commands_with b commands r)) ≡ templates_by (rules ++ added_by commands) ++ templates_in r.actions
made_all rules commands r true e =
    let none = none_added commands e in
    let f : Rule → List ℕ = λ r. templates_in r.actions in
    ap (λ (rs : List Rule). templates_by ((rules ++ r ∷ []) ++ rs)) none
    ∙ ap templates_by (append-nil (rules ++ r ∷ []))
    ∙ flat_map-append f rules (r ∷ [])
    ∙ ap (λ (ns : List ℕ). templates_by rules ++ ns) (append-nil (templates_in r.actions))
    ∙ ap (λ (rs : List Rule). templates_by rs ++ templates_in r.actions) (sym (append-nil rules))
    ∙ ap (λ (rs : List Rule). templates_by (rules ++ rs) ++ templates_in r.actions) (sym none)
made_all rules commands r false e =
    let f : Rule → List ℕ = λ r. templates_in r.actions in
    ap (λ (rs : List Rule). templates_by (rules ++ rs)) (added_rule commands r)
    ∙ ap templates_by (sym (append_assoc rules (added_by commands) (r ∷ [])))
    ∙ flat_map-append f (rules ++ added_by commands) (r ∷ [])
    ∙ ap (λ (ns : List ℕ). templates_by (rules ++ added_by commands) ++ ns) (append-nil (templates_in r.actions))
