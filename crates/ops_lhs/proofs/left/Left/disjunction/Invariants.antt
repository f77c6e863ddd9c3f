use Rattle.std.proofs.Common.{◌≡◌, ℕ, ◌<◌, List, length, ◌∷◌, ◌++◌, ◌≤◌, ◌-◌, take, drop}
use Rattle.ops_grammar.specs.declared.words.Word.{Word}
use Rattle.ops_grammar.specs.Grammar.{State, Wanted, Choice, goes}
use Rattle.ops_forms.specs.PlaceWalks.{Onward, goes_onward}
use Rattle.ops_lhs.specs.Taking.{seen, IsAround}
use Rattle.ops_lhs.proofs.left.Left.disjunction.Given as goal

abbrev pub invariant-choices : goal.invariant-choices
invariant-choices l = record {
  same : (more : List Word) (ws : List Wanted) (s : State) → IsAround l.around s → goes (drop l.fn.at l.words ++ more) (Choice l.field ∷ ws) (seen s l.fn.self) ≡ goes (drop l.rest l.words ++ more) (Choice l.field ∷ ws) (seen s l.self);
  cut : (n : ℕ) → l.rest < n → (on : Onward) (ws : List Wanted) (s : State) → IsAround l.around s → goes_onward on (drop l.fn.at (take n l.words)) (Choice l.field ∷ ws) (seen s l.fn.self) ≡ goes_onward on (drop l.rest (take n l.words)) (Choice l.field ∷ ws) (seen s l.self);
  from : l.fn.at ≤ l.rest;
}

abbrev pub decreases-choices : goal.decreases-choices
decreases-choices l = length l.words - l.rest
