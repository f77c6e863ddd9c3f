-- What is spelled of both sides of a production is read back, and of one that is built.
use Rattle.std.proofs.Common.{◌≡◌, ℕ, zero, suc, ◌+◌, ◌≤◌, Bool, true, false, ◌==◌, List, [], ◌∷◌, ◌++◌, length, take, refl, sym, ap, ◌∙◌, arith, Option, Some, None, nat_le, slice_get, append-nil, append_assoc, true≢false}
use Rattle.std.specs.Prelude.{is_some}
use Rattle.std.proofs.lemmas.Bool.{and_parts, leb-true, eqb-true, not-true}
use Rattle.std.proofs.lemmas.List.{length-take-le}
use Rattle.std.proofs.lemmas.Option.{slice_get_within}
use Rattle.ops_base.specs.declared.elements.Class.{Class}
use Rattle.ops_base.specs.declared.conditions.Part.{Part}
use Rattle.ops_base.specs.declared.conditions.Part.TheVariants.{One, Group}
use Rattle.ops_base.specs.declared.actions.Hole.{Hole}
use Rattle.ops_base.specs.declared.actions.Action.{Action}
use Rattle.ops_base.specs.declared.actions.Action.TheVariants as action
use Rattle.ops_base.specs.declared.rules.Rule.{Rule}
use Rattle.ops_base.specs.Filling.{in_condition, in_part, in_action, total}
use Rattle.ops_base.specs.Valid.{most_conditions, first_is_positive, cells_of, specificity, elements_of}
use Rattle.ops_grammar.specs.declared.words.Word.{Word}
use Rattle.ops_grammar.specs.declared.words.Keyword.TheVariants as keyword
use Rattle.ops_grammar.specs.Grammar.{Wanted, FirstPattern, Patterns, Actions, State, left_ended, right_begun, build_begun, side_ended, step, goes}
use Rattle.ops_grammar.specs.Spelling.{opening, closing, arrow, spelled_keyword, spelled_name, spelled_actions, spelled_condition, spelled_conditions, spelled_no_build, spelled_template, spelled_build, InSight, at_arrow, after_action, after_actions, action_is_plain, actions_are_plain, nothing_numbered, after_condition, condition_is_plain, conditions_are_plain, after_conditions, rule_is_plain_by, builds_none, constants_of, holes_are_plain, template_is_plain, build_is_plain, template_of, templates_in, are_next}
use Rattle.ops_grammar.proofs.Holed.{upto, upto_none, upto_all, AreHeld, plain_held}
use Rattle.ops_grammar.proofs.Places.{numbered, number_there}
use Rattle.ops_grammar.proofs.Numbering.{after_condition-given, below}
use Rattle.ops_grammar.proofs.ReadsFacts.{AreNamed}
use Rattle.ops_grammar.proofs.ReadsRight.{Trail, acted, AreCells, ActsOn, ReadsBuild, count_after, count_behind, made_after, made_behind, actions-read}
use Rattle.ops_grammar.proofs.ReadsRules.{Left, left_after, left_behind, matched, cells_behind, first-read, conditions-read}

-- what the conditions of a rule find
abbrev pub at_rule : Left
at_rule = record { class = 0; around = 0; element = record { 0 = 0 }; cell = 0 }

-- and what its actions find
abbrev pub at_actions : Trail
at_actions = record { class = 0; modified = None; variable = record { 0 = 0 }; further = []; source = 0; source_field = 0 }

arrow_read : (words : List Word) (ws : List Wanted) (s : State) → goes (arrow ∷ words) (Patterns ∷ ws) s ≡ goes words ws (right_begun (left_ended s))
unfolding goes step
arrow_read words ws s = refl

side_closed : (b : Bool) (past : ℕ) (words : List Word) (ws : List Wanted) (s : State) → goes (record closing { past = past } ∷ words) (Actions b ∷ ws) s ≡ goes words ws (side_ended b s past)
unfolding goes step
side_closed b past words ws s = refl

-- ---- both sides

-- what is plain of a production, in parts
pub record IsPlainRule (builds : InSight → ℕ → List Hole → Bool) (b : Bool) (classes : List Class) (r : Rule) : Type 0 where
  pub positive : first_is_positive r.conditions ≡ true
  pub few : length (elements_of r.conditions) ≤ most_conditions
  pub left : conditions_are_plain classes nothing_numbered r.conditions ≡ true
  pub right : actions_are_plain builds classes (at_arrow b r.conditions) r.actions ≡ true
  pub variables : r.variables ≡ (after_actions (at_arrow b r.conditions) r.actions).variables.given
  pub specific : r.specificity ≡ specificity r.conditions
  pub cells : r.cells ≡ length (after_actions (at_arrow b r.conditions) r.actions).cells

pub rule_parts : (builds : InSight → ℕ → List Hole → Bool) (b : Bool) (classes : List Class) (r : Rule) → rule_is_plain_by builds b classes r ≡ true → IsPlainRule builds b classes r
rule_parts builds b classes r plain =
    let to = after_actions (at_arrow b r.conditions) r.actions in
    let p1 = and_parts _ (r.cells == length to.cells) plain in
    let p2 = and_parts _ (r.specificity == specificity r.conditions) p1.0 in
    let p3 = and_parts _ (r.variables == to.variables.given) p2.0 in
    let p4 = and_parts _ (actions_are_plain builds classes (at_arrow b r.conditions) r.actions) p3.0 in
    let p5 = and_parts _ (conditions_are_plain classes nothing_numbered r.conditions) p4.0 in
    let p6 = and_parts (first_is_positive r.conditions) (nat_le (length (elements_of r.conditions)) most_conditions) p5.0 in
    record {
      positive = p6.0;
      few = leb-true _ _ p6.1;
      left = p5.1;
      right = p4.1;
      variables = eqb-true _ _ p3.1;
      specific = eqb-true _ _ p2.1;
      cells = eqb-true _ _ p1.1;
    }

module _ (hs : List Hole) (s : State) (h : AreHeld hs s.outer) (names : AreNamed s.classes) where
  left_read : (cs : List Part) (words : List Word) (ws : List Wanted) → first_is_positive cs ≡ true → length (elements_of cs) ≤ most_conditions → conditions_are_plain s.classes nothing_numbered cs ≡ true
      → goes (spelled_conditions hs 0 s.classes 0 cs ++ words) (FirstPattern ∷ Patterns ∷ ws) (matched s hs 0 at_rule nothing_numbered [])
      ≡ goes words (Patterns ∷ ws) (matched s hs (total in_part cs) (left_behind at_rule nothing_numbered cs) (after_conditions nothing_numbered cs) cs)
  left_read [] words ws positive few plain = absurd (true≢false (sym positive))
  left_read (Group ms ∷ cs) words ws positive few plain = absurd (true≢false (sym positive))
  left_read (One c ∷ cs) words ws positive few plain =
      let each = and_parts (condition_is_plain s.classes nothing_numbered c) (conditions_are_plain s.classes (after_condition nothing_numbered c) cs) plain in
      let after : Left = left_after at_rule nothing_numbered c in
      let next = after_condition nothing_numbered c in
      let m = 0 + in_condition c in
      let others = spelled_conditions hs m s.classes after.cell cs in
      let wanted : List Wanted = Patterns ∷ ws in
      let all : m + total in_part cs ≡ in_condition c + total in_part cs = omega arith in
      ap (λ (x : List Word). goes x (FirstPattern ∷ wanted) (matched s hs 0 at_rule nothing_numbered [])) (append_assoc (spelled_condition hs 0 s.classes 0 c) others words)
      ∙ first-read hs 0 c.class c.tests (others ++ words) wanted s at_rule nothing_numbered [] h names refl c.negated (not-true _ positive) refl each.0
      ∙ conditions-read hs m cs words ws s after next (One c ∷ []) h names (after_condition-given nothing_numbered c refl) (cells_behind (One c ∷ []) at_rule nothing_numbered [] refl) few each.1
      ∙ ap (λ (i : ℕ). goes words wanted (matched s hs i (left_behind after next cs) (after_conditions next cs) (One c ∷ cs))) all

-- where the right side of a production begins
abbrev pub at_right : List Hole → State → Rule → State
at_right hs s r = left_ended (matched s hs (total in_part r.conditions) (left_behind at_rule nothing_numbered r.conditions) (after_conditions nothing_numbered r.conditions) r.conditions)

-- and where it ends, before the bracket
abbrev pub at_right_end : List Hole → State → List Rule → ℕ → Bool → Rule → Trail → State
at_right_end hs s all m b r t =
    acted (at_right hs s r) hs (count_behind (total in_part r.conditions) r.actions) (take (made_behind m r.actions) all) t (after_actions (at_arrow b r.conditions) r.actions) r.actions

module _ (build : ℕ → List Hole → List Word) (builds : InSight → ℕ → List Hole → Bool) (hs : List Hole) (b : Bool) (all : List Rule) (m : ℕ) (s : State) (h : AreHeld hs s.outer) (names : AreNamed s.classes)
    (is : b ≡ is_some s.outer) (templates : s.templates ≡ take m all) (text : (k : InSight) (template : ℕ) (holes : List Hole) → builds k template holes ≡ true → hs ≡ []) where
  -- Both sides are read back.
  pub sides-read : (r : Rule) (more : List Word) (ws : List Wanted) → ReadsBuild build builds hs b all (at_right hs s r) → IsPlainRule builds b s.classes r → are_next m (templates_in r.actions) ≡ true
      → (t : Trail) × AreCells (at_right hs s r) t (after_actions (at_arrow b r.conditions) r.actions)
      × (goes (spelled_conditions hs 0 s.classes 0 r.conditions ++ (arrow ∷ spelled_actions build hs s.classes (at_arrow b r.conditions) (total in_part r.conditions) r.actions ++ (record closing { past = r.past } ∷ more))) (FirstPattern ∷ Patterns ∷ Actions b ∷ ws) (matched s hs 0 at_rule nothing_numbered [])
      ≡ goes more ws (side_ended b (at_right_end hs s all m b r t) r.past))
  sides-read r more ws reads_build plain next =
      let k = after_conditions nothing_numbered r.conditions in
      let l : Left = left_behind at_rule nothing_numbered r.conditions in
      let from = at_arrow b r.conditions in
      let n = total in_part r.conditions in
      let right = spelled_actions build hs s.classes from n r.actions in
      let end : Word = record closing { past = r.past } in
      let body : State = matched s hs n l k r.conditions in
      let acts = actions-read build builds hs b all (left_ended body) h names reads_build text r.actions n m at_actions from (end ∷ more) ws [] (sym (append-nil (cells_of r.conditions))) is plain.right next in (
        acts.0,
        acts.1,
        left_read hs s h names r.conditions (arrow ∷ right ++ (end ∷ more)) (Actions b ∷ ws) plain.positive plain.few plain.left
            ∙ arrow_read (right ++ (end ∷ more)) (Actions b ∷ ws) body
            ∙ ap (λ (i : ℕ). goes (right ++ (end ∷ more)) (Actions b ∷ ws) (record (right_begun (left_ended body)) { elements = numbered (below i) })) (sym (cells_behind r.conditions at_rule nothing_numbered [] refl))
            ∙ ap (λ (ts : List Rule). goes (right ++ (end ∷ more)) (Actions b ∷ ws) (record (right_begun (left_ended body)) { elements = numbered (below (length (cells_of r.conditions))); templates = ts })) templates
            ∙ acts.2
            ∙ side_closed b r.past more ws (at_right_end hs s all m b r acts.0),
      )

-- the production that was read, where its numbers are those of the parts
abbrev pub with_numbers : Rule → ℕ → ℕ → ℕ → Rule
with_numbers r v p c = record { name = r.name; conditions = r.conditions; actions = r.actions; specificity = p; variables = v; cells = c; first = r.first; past = r.past }

pub rule_numbers : (builds : InSight → ℕ → List Hole → Bool) (b : Bool) (classes : List Class) (r : Rule) (further : List ℕ) → IsPlainRule builds b classes r → (after_actions (at_arrow b r.conditions) r.actions).cells ≡ cells_of r.conditions ++ further
    → with_numbers r (after_actions (at_arrow b r.conditions) r.actions).variables.given (specificity r.conditions) (length (cells_of r.conditions ++ further)) ≡ r
rule_numbers builds b classes r further plain cells =
    let to = after_actions (at_arrow b r.conditions) r.actions in
    let counted : length (cells_of r.conditions ++ further) ≡ r.cells = ap (λ (xs : List ℕ). length xs) (sym cells) ∙ sym plain.cells in
    ap (λ (n : ℕ). with_numbers r to.variables.given (specificity r.conditions) n) counted
    ∙ ap (λ (n : ℕ). with_numbers r n (specificity r.conditions) r.cells) (sym plain.variables)
    ∙ ap (λ (n : ℕ). with_numbers r r.variables n r.cells) (sym plain.specific)

-- ---- one that is built

-- it builds none
module _ (classes : List Class) where
  count_one : (a : Action) (k : InSight) (c : ℕ) → action_is_plain builds_none classes k a ≡ true → count_after c a ≡ c + in_action a
  count_one (action.Make class puts) k c plain = refl
  count_one (action.Modify cell puts) k c plain = refl
  count_one (action.Remove cells) k c plain = omega arith
  count_one (action.Write items) k c plain = refl
  count_one (action.Bind variable x) k c plain = refl
  count_one (action.Cbind cell) k c plain = omega arith
  count_one action.Halt k c plain = omega arith
  count_one (action.Build template holes) k c plain = absurd (true≢false (sym plain))

  count_whole : (xs : List Action) (k : InSight) (c : ℕ) → actions_are_plain builds_none classes k xs ≡ true → count_behind c xs ≡ c + total in_action xs
  count_whole [] k c plain = omega arith
  count_whole (a ∷ xs) k c plain =
      let each = and_parts (action_is_plain builds_none classes k a) (actions_are_plain builds_none classes (after_action k a) xs) plain in
      let one = count_one a k c each.0 in
      let rest = count_whole xs (after_action k a) (count_after c a) each.1 in
      omega (arith, one, rest)

  none_one : (a : Action) (k : InSight) (m : ℕ) (xs : List Action) → action_is_plain builds_none classes k a ≡ true → (made_behind m xs ≡ m) × (are_next m (templates_in xs) ≡ true)
      → (made_behind (made_after m a) xs ≡ m) × (are_next m (template_of a ++ templates_in xs) ≡ true)
  none_one (action.Make class puts) k m xs plain rest = rest
  none_one (action.Modify cell puts) k m xs plain rest = rest
  none_one (action.Remove cells) k m xs plain rest = rest
  none_one (action.Write items) k m xs plain rest = rest
  none_one (action.Bind variable x) k m xs plain rest = rest
  none_one (action.Cbind cell) k m xs plain rest = rest
  none_one action.Halt k m xs plain rest = rest
  none_one (action.Build template holes) k m xs plain rest = absurd (true≢false (sym plain))

  none_made : (xs : List Action) (k : InSight) (m : ℕ) → actions_are_plain builds_none classes k xs ≡ true → (made_behind m xs ≡ m) × (are_next m (templates_in xs) ≡ true)
  none_made [] k m plain = (refl, refl)
  none_made (a ∷ xs) k m plain =
      let each = and_parts (action_is_plain builds_none classes k a) (actions_are_plain builds_none classes (after_action k a) xs) plain in
      none_one a k m xs each.0 (none_made xs (after_action k a) m each.1)

take_more : (all : List Rule) (m : ℕ) (r : Rule) → slice_get all m ≡ Some r → take m all ++ r ∷ [] ≡ take (suc m) all
take_more [] m r e = absurd (cc)
take_more (x ∷ all) zero r e = let same : x ≡ r = cc in ap (λ (y : Rule). y ∷ []) (sym same)
take_more (x ∷ all) (suc m) r e = ap (λ (ys : List Rule). x ∷ ys) (take_more all m r e)

take_size : (all : List Rule) (m : ℕ) (r : Rule) → slice_get all m ≡ Some r → length (take m all) ≡ m
take_size all m r e = let lt = slice_get_within all m r e in length-take-le m all (omega (arith, lt))

build_begins : (r : Rule) (words : List Word) (ws : List Wanted) (s : State)
    → goes (record opening { first = r.first } ∷ spelled_keyword keyword.Build ∷ spelled_name r.name ∷ words) (Actions false ∷ ws) s
    ≡ goes words (FirstPattern ∷ Patterns ∷ Actions true ∷ Actions false ∷ ws) (record (build_begun (record s { begun = r.first })) { name = r.name })
unfolding goes step
build_begins r words ws s = refl

-- in the right side of a production of the text
abbrev pub at_text : State → State
at_text s = left_ended (record s { outer = None })

module _ (all : List Rule) (s : State) (names : AreNamed s.classes) where
  template_read : (m : ℕ) (r : Rule) (holes : List Hole) (more : List Word) (ws : List Wanted) (c : ℕ) (t : Trail) (k : InSight) (done : List Action) → slice_get all m ≡ Some r → AreCells (at_text s) t k
      → template_is_plain s.classes k.variables.sight holes (Some r) ≡ true
      → ActsOn [] false (spelled_template s.classes holes (Some r)) more ws (at_text s) c (take m all) t k done 0 (take (suc m) all) k (done ++ action.Build m holes ∷ [])
  template_read m r holes more ws c t k done e in_cells plain =
      let parts = and_parts (rule_is_plain_by builds_none true s.classes r) (holes_are_plain k.variables.sight 0 (constants_of r) holes) plain in
      let is = rule_parts builds_none true s.classes r parts.0 in
      let from : State = acted (at_text s) [] c (take m all) t k done in
      let base : State = record (build_begun (record from { begun = r.first })) { name = r.name } in
      let h : AreHeld holes base.outer = plain_held k.variables.sight (constants_of r) holes base.outer parts.1 (λ n there. number_there k.variables.sight n there) in
      let none = none_made s.classes r.actions (at_arrow true r.conditions) m is.right in
      let both = sides-read spelled_no_build builds_none holes true all m base h names refl refl (λ k i gs e. absurd (true≢false (sym e))) r more (Actions false ∷ ws) (λ i gs more ws c t k done cells e. absurd (true≢false (sym e))) is none.1 in
      let n = total in_part r.conditions in
      let left = spelled_conditions holes 0 s.classes 0 r.conditions in
      let right = spelled_actions spelled_no_build holes s.classes (at_arrow true r.conditions) n r.actions in
      let end : Word = record closing { past = r.past } in
      let head : List Word = record opening { first = r.first } ∷ spelled_keyword keyword.Build ∷ spelled_name r.name ∷ left in
      let words = left ++ (arrow ∷ right ++ (end ∷ more)) in
      let wanted : List Wanted = Actions true ∷ Actions false ∷ ws in
      let trail : Trail = record { class = 0; modified = None; variable = record { 0 = 0 }; further = t.further; source = 0; source_field = 0 } in
      let to : List Rule → ℕ → List Hole → State = λ ts i gs. acted (at_text s) [] 0 ts trail k (done ++ action.Build i gs ∷ []) in
      let i = made_behind m r.actions in
      let d = count_behind n r.actions in
      let whole : upto holes d ≡ holes = ap (upto holes) (count_whole s.classes r.actions (at_arrow true r.conditions) n is.right) ∙ upto_all k.variables.sight (constants_of r) holes 0 parts.1 in (
        trail,
        in_cells,
        ap (λ (x : List Word). goes x (Actions false ∷ ws) from) (append_assoc (head ++ arrow ∷ right) (end ∷ []) more ∙ append_assoc head (arrow ∷ right) (end ∷ more))
            ∙ build_begins r words ws from
            ∙ ap (λ (gs : List Hole). goes words (FirstPattern ∷ Patterns ∷ wanted) (record base { holes = gs })) (sym (upto_none holes))
            ∙ both.2
            ∙ ap (λ (q : Rule). goes more (Actions false ∷ ws) (to (take i all ++ q ∷ []) (length (take i all)) (upto holes d))) (rule_numbers builds_none true s.classes r both.0.further is both.1)
            ∙ ap (λ (j : ℕ). goes more (Actions false ∷ ws) (to (take j all ++ r ∷ []) (length (take j all)) (upto holes d))) none.0
            ∙ ap (λ (j : ℕ). goes more (Actions false ∷ ws) (to (take m all ++ r ∷ []) j (upto holes d))) (take_size all m r e)
            ∙ ap (λ (gs : List Hole). goes more (Actions false ∷ ws) (to (take m all ++ r ∷ []) m gs)) whole
            ∙ ap (λ (ts : List Rule). goes more (Actions false ∷ ws) (to ts m holes)) (take_more all m r e),
      )

  -- A `build` is read back.
  pub build-read : ReadsBuild (spelled_build s.classes all) (build_is_plain s.classes all) [] false all (at_text s)
  build-read m holes more ws c t k done in_cells plain = by (slice_get all m) refl plain
    where
      by : (o : Option Rule) → slice_get all m ≡ o → template_is_plain s.classes k.variables.sight holes o ≡ true
          → ActsOn [] false (spelled_template s.classes holes o) more ws (at_text s) c (take m all) t k done 0 (take (suc m) all) k (done ++ action.Build m holes ∷ [])
      by None e is = absurd (true≢false (sym is))
      by (Some r) e is = template_read m r holes more ws c t k done e in_cells is
