use Rattle.std.proofs.Common.{◌≡◌, ℕ, ◌<◌, List, [], ◌∷◌, ◌++◌, length, take, drop, Option, ◌+◌, ◌-◌, ◌*◌, ◌≤◌}
use Rattle.ops_base.specs.Expression.{Formula}
use Rattle.ops_grammar.specs.declared.words.Word.{Word}
use Rattle.ops_grammar.specs.Grammar.{State, Wanted, ExpressionUnit, ExpressionRest, goes, with_formula}
use Rattle.ops_forms.specs.PlaceWalks.{Onward, goes_onward}
use Rattle.ops_rhs.specs.declared.right.Target.{Target}
use Rattle.ops_rhs.specs.Taking.{seen, into, newest_first}
use Rattle.ops_rhs.proofs.right.Right.+expressions.Given as goal

abbrev pub decreases-expression : goal.decreases-expression
decreases-expression l = 3 * (33 - l.depth) + 2

abbrev pub decreases-unit : goal.decreases-unit
decreases-unit l = 3 * (33 - l.depth) + 1

abbrev pub decreases-bracket : goal.decreases-bracket
decreases-bracket l = 3 * (33 - l.depth)

abbrev pub invariant-expression-operations : goal.invariant-expression-operations
invariant-expression-operations l = record {
  same : (t : Option Target) (f : Formula) (more : List Word) (ws : List Wanted) (s : State) → goes (drop l.fn.at l.words ++ more) (ExpressionUnit l.depth ∷ ExpressionRest l.depth [] (into t) ∷ ws) (with_formula (seen s l.self) f) ≡ goes (drop l.rest l.words ++ more) (ExpressionRest l.depth (newest_first l.waiting.items) (into t) ∷ ws) (with_formula (seen s l.self) l.operand);
  cut : (n : ℕ) → l.rest < n → (t : Option Target) (f : Formula) (on : Onward) (ws : List Wanted) (s : State) → goes_onward on (drop l.fn.at (take n l.words)) (ExpressionUnit l.depth ∷ ExpressionRest l.depth [] (into t) ∷ ws) (with_formula (seen s l.self) f) ≡ goes_onward on (drop l.rest (take n l.words)) (ExpressionRest l.depth (newest_first l.waiting.items) (into t) ∷ ws) (with_formula (seen s l.self) l.operand);
  from : l.fn.at ≤ l.rest;
}

abbrev pub decreases-expression-operations : goal.decreases-expression-operations
decreases-expression-operations l = length l.words - l.rest
