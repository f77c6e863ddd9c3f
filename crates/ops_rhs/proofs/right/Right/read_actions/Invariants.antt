use Rattle.std.proofs.Common.{◌≡◌, ℕ, List, length, ◌∷◌, ◌++◌, ◌≤◌, ◌-◌, take, drop, false}
use Rattle.ops_grammar.specs.declared.words.Word.{Word}
use Rattle.ops_grammar.specs.Grammar.{State, Wanted, Actions, goes}
use Rattle.ops_forms.specs.PlaceWalks.{Onward, goes_onward}
use Rattle.ops_rhs.specs.Taking.{seen, IsAround}
use Rattle.ops_rhs.proofs.right.Right.read_actions.Given as goal

abbrev pub invariant-actions : goal.invariant-actions
invariant-actions l = record {
  same : (more : List Word) (ws : List Wanted) (s : State) → IsAround l.around s → goes (drop l.fn.at l.words ++ more) (Actions false ∷ ws) (seen s l.fn.self) ≡ goes (drop l.rest l.words ++ more) (Actions false ∷ ws) (seen s l.self);
  cut : (n : ℕ) → l.rest ≤ n → (on : Onward) (ws : List Wanted) (s : State) → IsAround l.around s → goes_onward on (drop l.fn.at (take n l.words)) (Actions false ∷ ws) (seen s l.fn.self) ≡ goes_onward on (drop l.rest (take n l.words)) (Actions false ∷ ws) (seen s l.self);
  from : l.fn.at ≤ l.rest;
}

abbrev pub decreases-actions : goal.decreases-actions
decreases-actions l = length l.words - l.rest
