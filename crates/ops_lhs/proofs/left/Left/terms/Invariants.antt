use Rattle.std.proofs.Common.{◌≡◌, ℕ, ◌<◌, List, length, ◌∷◌, ◌++◌, ◌≤◌, ◌-◌, take, drop}
use Rattle.ops_grammar.specs.declared.words.Word.{Word}
use Rattle.ops_grammar.specs.Grammar.{State, Wanted, InPattern, Terms, goes}
use Rattle.ops_forms.specs.PlaceWalks.{Onward, goes_onward}
use Rattle.ops_lhs.specs.Taking.{seen, IsAround}
use Rattle.ops_lhs.proofs.left.Left.terms.Given as goal

abbrev pub invariant-terms : goal.invariant-terms
invariant-terms l = record {
  same : (more : List Word) (ws : List Wanted) (s : State) → IsAround l.around s → goes (drop l.fn.at l.words ++ more) (Terms InPattern ∷ ws) (seen s l.fn.self) ≡ goes (drop l.rest l.words ++ more) (Terms InPattern ∷ ws) (seen s l.self);
  cut : (n : ℕ) → l.rest < n → (on : Onward) (ws : List Wanted) (s : State) → IsAround l.around s → goes_onward on (drop l.fn.at (take n l.words)) (Terms InPattern ∷ ws) (seen s l.fn.self) ≡ goes_onward on (drop l.rest (take n l.words)) (Terms InPattern ∷ ws) (seen s l.self);
  from : l.fn.at ≤ l.rest;
}

abbrev pub decreases-terms : goal.decreases-terms
decreases-terms l = length l.words - l.rest
