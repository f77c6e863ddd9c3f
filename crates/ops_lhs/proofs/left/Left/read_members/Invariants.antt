use Rattle.std.proofs.Common.{◌≡◌, ℕ, ◌<◌, List, length, ◌∷◌, ◌++◌, ◌≤◌, ◌-◌, take, drop}
use Rattle.ops_grammar.specs.declared.words.Word.{Word}
use Rattle.ops_grammar.specs.Grammar.{State, Wanted, Members, goes}
use Rattle.ops_forms.specs.PlaceWalks.{Onward, goes_onward}
use Rattle.ops_lhs.specs.Taking.{seen, IsAround}
use Rattle.ops_lhs.proofs.left.Left.read_members.Given as goal

abbrev pub invariant-members : goal.invariant-members
invariant-members l = record {
  same : (more : List Word) (ws : List Wanted) (s : State) → IsAround l.around s → goes (drop l.fn.at l.words ++ more) (Members 0 ∷ ws) (seen s l.fn.self) ≡ goes (drop l.rest l.words ++ more) (Members l.count ∷ ws) (seen s l.self);
  cut : (n : ℕ) → l.rest < n → (on : Onward) (ws : List Wanted) (s : State) → IsAround l.around s → goes_onward on (drop l.fn.at (take n l.words)) (Members 0 ∷ ws) (seen s l.fn.self) ≡ goes_onward on (drop l.rest (take n l.words)) (Members l.count ∷ ws) (seen s l.self);
  from : l.fn.at ≤ l.rest;
}

abbrev pub decreases-members : goal.decreases-members
decreases-members l = length l.words - l.rest
