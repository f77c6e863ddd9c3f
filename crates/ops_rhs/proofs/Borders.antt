-- Where a right side begins and ends among its words and its tokens.
use Rattle.std.proofs.Common.{◌≡◌, ℕ, ◌+◌, ◌-◌, ◌≤◌, List, [], ◌∷◌, ◌++◌, length, take, drop, true, false, Option, is_some, None, Some, Ok, refl, sym, ap, ◌∙◌, subst, append_assoc, arith}
use Rattle.ops_base.specs.declared.elements.Class.{Class}
use Rattle.ops_base.specs.declared.actions.Action.{Action}
use Rattle.ops_tokens.specs.declared.token.Token.{Token}
use Rattle.ops_grammar.specs.declared.words.Word.{Word}
use Rattle.ops_grammar.specs.Words.{names_from}
use Rattle.ops_grammar.specs.Grammar.{Outer, State, Wanted, Actions, goes, values_around, step, is_right, right_begun, nothing_read, with_rule}
use Rattle.ops_forms.specs.Forms.{past_last}
use Rattle.ops_forms.specs.PlaceWalks.{IsBehind, IsPlaced, Onward, goes_onward, words_of_scope, fault_of}
use Rattle.ops_forms.specs.declared.refusals.Refusal.{Refusal}
use Rattle.ops_forms.specs.declared.refusals.Refusal.TheVariants as refusal
use Rattle.ops_forms.specs.declared.scope.Scope.{Scope}
use Rattle.ops_forms.proofs.Borders.{behind_is, begins, rest_is, last_is}
use Rattle.ops_forms.proofs.Walks.{goes_split, taken_goes}
use Rattle.ops_rhs.specs.declared.right.Around.{Around}
use Rattle.ops_rhs.specs.declared.right.Right.{Right}
use Rattle.ops_rhs.specs.declared.sides.Sight.{Sight}
use Rattle.ops_rhs.specs.RightSides.{right_way, right_read, HasNamed, Sees, IsBracket, ReadsRight, RefusesRight, IsRightSide, IsRefused, at_word, at_end, sight_of}
use Rattle.ops_rhs.specs.Taking.{seen, view, IsAround, IsClosing}
use Rattle.ops_rhs.proofs.Operands.{as_in}

-- ---- of words

-- the state in which a right side begins
abbrev begun_with : Sight → State
begun_with sight = record (right_begun nothing_read) { values = sight.values; elements = sight.elements; variables = sight.variables; counted = sight.counted; holes = sight.holes.items; templates = sight.templates.items }

begun_is : (classes : List Class) (sight : Sight) (begun : Right) → view begun ≡ begun_with sight → (s : State) → Sees classes sight s → right_begun s ≡ seen s begun
begun_is classes sight begun started s v =
    let here : right_begun s ≡ as_in s (begun_with sight) = rw (v.constants_are, v.values_are, v.elements_are, v.variables_are, v.counted_are, v.holes_are, v.templates_are) refl in
    here ∙ ap (as_in s) (sym started)

closed : (more : List Word) (w : Word) (ws : List Wanted) (s : State) → is_right w.kind ≡ true → goes (w ∷ more) (Actions false ∷ ws) s ≡ goes more ws (with_rule s w.past)
unfolding goes step
closed more w ws s is = rw is refl

module _ (classes : List Class) (sight : Sight) (words : List Word) (around : Around) (begun new : Right) (place : ℕ) where
  pub right_side_is : (cells : List ℕ) → around.values.now ≡ [] → around.built ≡ false → view begun ≡ begun_with sight → around.classes.now ≡ classes → around.cells.now ≡ sight.cells → around.conditions.now ≡ sight.conditions → ((n : ℕ) → place ≤ n → (on : Onward) (ws : List Wanted) (s : State) → IsAround around s → goes_onward on (take n words) (Actions false ∷ ws) (seen s begun) ≡ goes_onward on (drop place (take n words)) (Actions false ∷ ws) (seen s new)) → IsClosing words place → cells ≡ sight.cells ++ new.further.items → ReadsRight classes sight words (take (length words - (place + 1)) (drop (place + 1) words)) new.actions.items (record { values = new.values; elements = new.elements; cells = cells; conditions = sight.conditions; variables = new.variables; counted = new.counted; holes = new.holes; templates = new.templates })
  right_side_is cells none plain started declared filled placed reads closing grown =
      let behind : IsBehind IsBracket words (place + 1) = record { before = place; last = closing.bracket; there = closing.there; is = closing.is; within = closing.within } in
      let up_to_bracket : (on : Onward) (ws : List Wanted) (s : State) → Sees classes sight s → goes_onward on (take place words) (Actions false ∷ ws) (right_begun s) ≡ on (Actions false ∷ ws) (seen s new) = λ on ws s v.
      ap (goes_onward on (take place words) (Actions false ∷ ws)) (begun_is classes sight begun started s v)
      ∙ reads place (omega arith) on ws s (record { classes = v.classes_are ∙ sym declared; values = ap values_around v.outer_is ∙ sym none; built = ap (λ (o : Option Outer). is_some o) v.outer_is ∙ sym plain; over = v.over; cells = v.cells_are ∙ sym filled; conditions = v.conditions_are ∙ sym placed })
      ∙ taken_goes on place words (Actions false ∷ ws) (seen s new) in
      record {
        behind = behind_is IsBracket words (place + 1) behind;
        further = new.further.items;
        named = λ s v. subst (HasNamed new.further.items) (sym (up_to_bracket (λ ws t. Ok t) [] s v)) refl;
        cells = grown;
        conditions = refl;
        reads = λ s v more ws.
            ap (λ (all : List Word). goes all (Actions false ∷ ws) (right_begun s)) (append_assoc (take place words) (closing.bracket ∷ []) more)
            ∙ goes_split (take place words) (closing.bracket ∷ more) (Actions false ∷ ws) (right_begun s)
            ∙ up_to_bracket (goes (closing.bracket ∷ more)) ws s v
            ∙ closed more closing.bracket ws (seen s new) closing.is
            ∙ ap (λ xs. goes more ws (with_rule (record (seen s new) { constants = xs }) closing.bracket.past)) (sym v.constants_are);
      }

-- the words that stand after a right side go on as the words
pub right_goes : (classes : List Class) (old : Sight) (words rest : List Word) (actions : List Action) (new : Sight) (r : ReadsRight classes old words rest actions new) (s : State) → Sees classes old s → (more : List Word) (ws : List Wanted) → right_way words s more ws ≡ goes (rest ++ more) ws (with_rule (right_read s actions new r.further) r.behind.last.past)
right_goes classes old words rest actions new r s v more ws =
    let read = r.behind.before ++ r.behind.last ∷ [] in
    ap (λ (all : List Word). goes (all ++ more) (Actions false ∷ ws) (right_begun s)) (r.behind.split ∙ sym (append_assoc r.behind.before (r.behind.last ∷ []) rest))
    ∙ ap (λ (all : List Word). goes all (Actions false ∷ ws) (right_begun s)) (append_assoc read rest more)
    ∙ r.reads s v (rest ++ more) ws

-- ---- of tokens

pub right_side_at : (scope new : Scope) (tokens : List Token) (from : ℕ) (rest : List Word) (actions : List Action) → from ≤ length tokens → ReadsRight scope.classes (sight_of scope) (words_of_scope scope tokens from) rest actions (sight_of new) → new.names ≡ names_from scope.text.items scope.names (drop from tokens) → IsRightSide scope new tokens from actions (length tokens - length rest - 1)
right_side_at scope new tokens from rest actions le r names =
    let found = last_is IsBracket scope tokens from rest le r.behind in
    record {
      begins = begins IsBracket scope tokens from rest le r.behind;
      bracket = record { token = found.token; there = found.there; is = ap is_right found.kind ∙ r.behind.is };
      reads = subst (λ (more : List Word). ReadsRight scope.classes (sight_of scope) (words_of_scope scope tokens from) more actions (sight_of new)) (sym (rest_is IsBracket scope tokens from rest le r.behind)) r;
      names = names;
    }

pub refused_is : (scope : Scope) (tokens : List Token) (from : ℕ) (e : Refusal) → IsPlaced e → RefusesRight scope.classes (sight_of scope) (words_of_scope scope tokens from) e → IsRefused scope tokens from (fault_of e (past_last 0 tokens))
refused_is scope tokens from refusal.OutOfMemory placed h = tt
refused_is scope tokens from (refusal.At f (Some w)) placed h = at_word f w h
refused_is scope tokens from (refusal.At f None) placed h = rw placed (at_end (rw placed at h))
