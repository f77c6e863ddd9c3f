-- Expressions that have a spelling, and what waits around the one that is read.
use Rattle.std.proofs.Common.{◌≡◌, ℕ, suc, ◌<◌, Bool, true, false, ◌&&◌, List, [], ◌∷◌, refl, arith, Some, None, nat_lt}
use Rattle.std.proofs.lemmas.Bool.{and_parts, and_from, lt-ltb, ltb-true}
use Rattle.ops_base.specs.Expression.{Formula, all_variables}
use Rattle.ops_base.specs.Expression as formula
use Rattle.ops_base.specs.Valid.{is_in}
use Rattle.ops_grammar.specs.Grammar.{Target, Waiting, Wanted, ExpressionRest, most_brackets, completed}
use Rattle.ops_grammar.specs.Spelling.{nests_within}

-- ---- brackets

-- What nests deep inside nests outside too.
nests_outside : (f : Formula) (d : ℕ) (is_left : Bool) → nests_within (suc d) is_left f ≡ true → nests_within d is_left f ≡ true
nests_outside (formula.number n) d is_left h = refl
nests_outside (formula.variable n) d is_left h = refl
nests_outside (formula.apply o left right) d true h =
    let p1 = and_parts (nat_lt (suc d) most_brackets && nests_within (suc (suc d)) true left) (nests_within (suc (suc d)) false right) h in
    let p2 = and_parts (nat_lt (suc d) most_brackets) (nests_within (suc (suc d)) true left) p1.0 in
    let lt : suc d < most_brackets = ltb-true _ _ p2.0 in
    and_from _ _ (and_from _ _ (lt-ltb d most_brackets (omega (arith, lt))) (nests_outside left (suc d) true p2.1)) (nests_outside right (suc d) false p1.1)
nests_outside (formula.apply o left right) d false h =
    let parts = and_parts (nests_within (suc d) true left) (nests_within (suc d) false right) h in
    and_from _ _ (nests_outside left d true parts.0) (nests_outside right d false parts.1)

-- A left operand may stand alone.
nests_alone : (f : Formula) (d : ℕ) → nests_within d true f ≡ true → nests_within d false f ≡ true
nests_alone (formula.number n) d h = refl
nests_alone (formula.variable n) d h = refl
nests_alone (formula.apply o left right) d h =
    let p1 = and_parts (nat_lt d most_brackets && nests_within (suc d) true left) (nests_within (suc d) false right) h in
    let p2 = and_parts (nat_lt d most_brackets) (nests_within (suc d) true left) p1.0 in
    and_from _ _ (nests_outside left d true p2.1) (nests_outside right d false p1.1)

-- What stands in brackets may be a left operand.
nests_bracketed : (f : Formula) (d : ℕ) → nat_lt d most_brackets ≡ true → nests_within (suc d) false f ≡ true → nests_within d true f ≡ true
nests_bracketed (formula.number n) d lt h = refl
nests_bracketed (formula.variable n) d lt h = refl
nests_bracketed (formula.apply o left right) d lt h =
    let parts = and_parts (nests_within (suc d) true left) (nests_within (suc d) false right) h in and_from _ _ (and_from _ _ lt parts.0) parts.1

-- ---- operands

-- it nests within the limit where this many brackets are open, and its variables are in sight
abbrev pub IsOperand : List ℕ → ℕ → Bool → Formula → Type 0
IsOperand sight d is_left f = (nests_within d is_left f ≡ true) × (all_variables (λ n. is_in n sight) f ≡ true)

-- the left operands that wait are such
abbrev pub AreOperands : List ℕ → ℕ → List Waiting → Type 0
AreOperands sight d [] = Unit {0}
AreOperands sight d (w ∷ waiting) = IsOperand sight d true w.left × AreOperands sight d waiting

-- This many brackets are open around what is wanted, in a function for this target where so many are open at its top: an
-- expression goes on in each.
pub data AreOpen (sight : List ℕ) (top : ℕ) (t : Target) (behind : List Wanted) : ℕ → List Wanted → Type 0 where
  outermost : (waiting : List Waiting) → AreOperands sight top waiting → AreOpen sight top t behind top (ExpressionRest top waiting (Some t) ∷ behind)
  bracket : (d : ℕ) → (waiting : List Waiting) → (ws : List Wanted) → nat_lt d most_brackets ≡ true → AreOperands sight (suc d) waiting → AreOpen sight top t behind d ws
      → AreOpen sight top t behind (suc d) (ExpressionRest (suc d) waiting None ∷ ws)

module _ (sight : List ℕ) (d : ℕ) where
  completed_operand : (waiting : List Waiting) (f : Formula) → IsOperand sight d false f → AreOperands sight d waiting → IsOperand sight d false (completed f waiting)
  completed_operand [] f g waits = g
  completed_operand (w ∷ waiting) f g waits = completed_operand waiting (formula.apply w.op w.left f) (and_from _ _ waits.0.0 g.0, and_from _ _ g.1 waits.0.1) waits.1

  -- an operand is the last one of what waits
  pub operand_completed : (waiting : List Waiting) (f : Formula) → IsOperand sight d true f → AreOperands sight d waiting → IsOperand sight d false (completed f waiting)
  operand_completed waiting f g waits = completed_operand waiting f (nests_alone f d g.0, g.1) waits

-- and what is done in brackets is an operand outside
pub operand_bracketed : (sight : List ℕ) (d : ℕ) (f : Formula) → nat_lt d most_brackets ≡ true → IsOperand sight (suc d) false f → IsOperand sight d true f
operand_bracketed sight d f lt g = (nests_bracketed f d lt g.0, g.1)
