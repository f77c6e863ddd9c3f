-- What is spelled of an expression is read back.
use Rattle.std.proofs.Common.{◌≡◌, ℕ, suc, Bool, true, false, ◌&&◌, List, [], ◌∷◌, ◌++◌, refl, sym, ap, ◌∙◌, Option, Some, None, ℤ, nat_lt, append_assoc}
use Rattle.std.proofs.lemmas.Bool.{and_parts}
use Rattle.ops_base.specs.declared.values.Value.TheVariants as value
use Rattle.ops_base.specs.declared.expression.Op.{Op}
use Rattle.ops_base.specs.declared.expression.Op.TheVariants as op
use Rattle.ops_base.specs.Expression.{Formula, all_variables}
use Rattle.ops_base.specs.Expression as formula
use Rattle.ops_base.specs.Valid.{is_in}
use Rattle.ops_grammar.specs.declared.words.Word.{Word}
use Rattle.ops_grammar.specs.declared.words.Named.{Named}
use Rattle.ops_grammar.specs.Grammar.{Target, Waiting, Wanted, ExpressionUnit, ExpressionRest, Bracketed, State, Next, number_of, most_brackets, with_formula, completed, unit_bound, expression_ended, step, after, goes}
use Rattle.ops_grammar.specs.Spelling.{opening, closing, spelled_value, spelled_variable, spelled_operation, spelled_formula, nests_within}
use Rattle.ops_grammar.proofs.Places.{numbered, number_there}
use Rattle.ops_grammar.proofs.ReadsBack.{by_word}

-- ---- words

module _ (d : ℕ) (ws : List Wanted) (s : State) where
  number_step : (n : ℤ) → step (spelled_value (value.Whole n)) (ExpressionUnit d ∷ ws) s ≡ Next ws (with_formula s (formula.number n))
  unfolding step
  number_step n = refl

  variable_step : (n : ℕ) → step (spelled_variable n) (ExpressionUnit d ∷ ws) s ≡ unit_bound (number_of (record { 0 = n }) s.values) ws s
  unfolding step
  variable_step n = refl

  bracket_read : (words : List Word) → nat_lt d most_brackets ≡ true → goes (opening ∷ words) (ExpressionUnit d ∷ ws) s ≡ goes words (Bracketed (suc d) ∷ ws) s
  unfolding goes step
  bracket_read words lt = rw lt refl

  bracketed_opening : (words : List Word) → goes (opening ∷ words) (Bracketed d ∷ ws) s ≡ goes (opening ∷ words) (ExpressionUnit d ∷ ExpressionRest d [] None ∷ ws) s
  unfolding goes step
  bracketed_opening words = refl

  bracketed_number : (n : ℤ) (words : List Word) → goes (spelled_value (value.Whole n) ∷ words) (Bracketed d ∷ ws) s ≡ goes (spelled_value (value.Whole n) ∷ words) (ExpressionUnit d ∷ ExpressionRest d [] None ∷ ws) s
  unfolding goes step
  bracketed_number n words = refl

  bracketed_variable : (n : ℕ) (words : List Word) → goes (spelled_variable n ∷ words) (Bracketed d ∷ ws) s ≡ goes (spelled_variable n ∷ words) (ExpressionUnit d ∷ ExpressionRest d [] None ∷ ws) s
  unfolding goes step
  bracketed_variable n words = refl

  module _ (waiting : List Waiting) (into : Option Target) (words : List Word) where
    operation_read : (o : Op) → goes (spelled_operation o ∷ words) (ExpressionRest d waiting into ∷ ws) s ≡ goes words (ExpressionUnit d ∷ ExpressionRest d (record { left = s.formula; op = o } ∷ waiting) into ∷ ws) s
    unfolding goes step
    operation_read op.Add = refl
    operation_read op.Sub = refl
    operation_read op.Mul = refl
    operation_read op.Div = refl
    operation_read op.Rem = refl

    expression_closed : goes (closing ∷ words) (ExpressionRest d waiting into ∷ ws) s ≡ after (goes words) closing (expression_ended into (completed s.formula waiting) ws s)
    unfolding goes step
    expression_closed = refl

-- The operand that was read last does not matter where an expression has ended.
ended_alike : (into : Option Target) (f g : Formula) (ws : List Wanted) (s : State) → expression_ended into f ws (with_formula s g) ≡ expression_ended into f ws s
ended_alike (Some t) f g ws s = refl
ended_alike None f g ws s = refl

-- An expression in brackets begins with no keyword.
bracketed_read : (f : Formula) (is_left : Bool) (d : ℕ) (words : List Word) (ws : List Wanted) (s : State)
    → goes (spelled_formula is_left f ++ words) (Bracketed d ∷ ws) s ≡ goes (spelled_formula is_left f ++ words) (ExpressionUnit d ∷ ExpressionRest d [] None ∷ ws) s
bracketed_read (formula.number n) is_left d words ws s = bracketed_number d ws s n words
bracketed_read (formula.variable n) is_left d words ws s = bracketed_variable d ws s n words
bracketed_read (formula.apply o left right) true d words ws s = bracketed_opening d ws s (spelled_formula true left ++ spelled_operation o ∷ spelled_formula false right ++ closing ∷ [] ++ words)
bracketed_read (formula.apply o left right) false d words ws s =
    let others = spelled_operation o ∷ spelled_formula false right in
    let same = append_assoc (spelled_formula true left) others words in
    ap (λ (x : List Word). goes x (Bracketed d ∷ ws) s) same
    ∙ bracketed_read left true d (others ++ words) ws s
    ∙ ap (λ (x : List Word). goes x (ExpressionUnit d ∷ ExpressionRest d [] None ∷ ws) s) (sym same)

-- ---- expressions

module _ (sight : List ℕ) where
  -- its variables are in sight
  abbrev pub are_seen : Formula → Bool
  are_seen f = all_variables (λ n. is_in n sight) f

  -- As a left operand it is read as a unit.
  abbrev IsUnit : Formula → Type 0
  IsUnit f =
      (d : ℕ) (more : List Word) (ws : List Wanted) (s : State) → s.values ≡ numbered sight → nests_within d true f ≡ true → are_seen f ≡ true
      → goes (spelled_formula true f ++ more) (ExpressionUnit d ∷ ws) s ≡ goes more ws (with_formula s f)

  -- Up to a closing bracket it is read as the right operand of what waits.
  abbrev pub IsWhole : Formula → Type 0
  IsWhole f =
      (d : ℕ) (waiting : List Waiting) (into : Option Target) (more : List Word) (ws : List Wanted) (s : State) → s.values ≡ numbered sight → nests_within d false f ≡ true → are_seen f ≡ true
      → goes (spelled_formula false f ++ closing ∷ more) (ExpressionUnit d ∷ ExpressionRest d waiting into ∷ ws) s ≡ after (goes more) closing (expression_ended into (completed f waiting) ws s)

  variable_read : (n : ℕ) (d : ℕ) (more : List Word) (ws : List Wanted) (s : State) → s.values ≡ numbered sight → is_in n sight ≡ true → goes (spelled_variable n ∷ more) (ExpressionUnit d ∷ ws) s ≡ goes more ws (with_formula s (formula.variable n))
  variable_read n d more ws s e there =
      let found = ap (λ (vs : List Named). number_of (record { 0 = n }) vs) e ∙ number_there sight n there in
      by_word (spelled_variable n) more (ExpressionUnit d ∷ ws) ws s (with_formula s (formula.variable n)) (variable_step d ws s n ∙ ap (λ (o : Option ℕ). unit_bound o ws s) found)

  number_read : (n : ℤ) (d : ℕ) (more : List Word) (ws : List Wanted) (s : State) → goes (spelled_value (value.Whole n) ∷ more) (ExpressionUnit d ∷ ws) s ≡ goes more ws (with_formula s (formula.number n))
  number_read n d more ws s = by_word (spelled_value (value.Whole n)) more (ExpressionUnit d ∷ ws) ws s (with_formula s (formula.number n)) (number_step d ws s n)

  unit_closed : (f : Formula) (d : ℕ) (waiting : List Waiting) (into : Option Target) (more : List Word) (ws : List Wanted) (s : State)
      → goes (closing ∷ more) (ExpressionRest d waiting into ∷ ws) (with_formula s f) ≡ after (goes more) closing (expression_ended into (completed f waiting) ws s)
  unit_closed f d waiting into more ws s = expression_closed d ws (with_formula s f) waiting into more ∙ ap (after (goes more) closing) (ended_alike into (completed f waiting) f ws s)

  module _ (o : Op) (left right : Formula) (left_unit : IsUnit left) (right_whole : IsWhole right) where
    applied_whole : (d : ℕ) (waiting : List Waiting) (into : Option Target) (more : List Word) (ws : List Wanted) (s : State) → s.values ≡ numbered sight → nests_within d true left ≡ true → nests_within d false right ≡ true → are_seen (formula.apply o left right) ≡ true
        → goes (spelled_formula false (formula.apply o left right) ++ closing ∷ more) (ExpressionUnit d ∷ ExpressionRest d waiting into ∷ ws) s
        ≡ after (goes more) closing (expression_ended into (completed (formula.apply o left right) waiting) ws s)
    applied_whole d waiting into more ws s e first second seen =
        let vars = and_parts (are_seen right) (are_seen left) seen in
        let others = spelled_operation o ∷ spelled_formula false right in
        let wanted : List Wanted = ExpressionRest d waiting into ∷ ws in
        ap (λ (x : List Word). goes x (ExpressionUnit d ∷ wanted) s) (append_assoc (spelled_formula true left) others (closing ∷ more))
        ∙ left_unit d (others ++ closing ∷ more) wanted s e first vars.1
        ∙ operation_read d ws (with_formula s left) waiting into (spelled_formula false right ++ closing ∷ more) o
        ∙ right_whole d (record { left = left; op = o } ∷ waiting) into more ws (with_formula s left) e second vars.0
        ∙ ap (after (goes more) closing) (ended_alike into (completed (formula.apply o left right) waiting) left ws s)

    applied_unit : IsUnit (formula.apply o left right)
    applied_unit d more ws s e nests seen =
        let n1 = and_parts (nat_lt d most_brackets && nests_within (suc d) true left) (nests_within (suc d) false right) nests in
        let n2 = and_parts (nat_lt d most_brackets) (nests_within (suc d) true left) n1.0 in
        let body = spelled_formula false (formula.apply o left right) in
        bracket_read d ws s ((body ++ closing ∷ []) ++ more) n2.0
        ∙ ap (λ (x : List Word). goes x (Bracketed (suc d) ∷ ws) s) (append_assoc body (closing ∷ []) more)
        ∙ bracketed_read (formula.apply o left right) false (suc d) (closing ∷ more) ws s
        ∙ applied_whole (suc d) [] None more ws s e n2.1 n1.1 seen

  -- Either way it is read back.
  both_read : (f : Formula) → IsUnit f × IsWhole f
  both_read (formula.number n) = (
    λ d more ws s e nests seen. number_read n d more ws s,
    λ d waiting into more ws s e nests seen. number_read n d (closing ∷ more) (ExpressionRest d waiting into ∷ ws) s ∙ unit_closed (formula.number n) d waiting into more ws s,
  )
  both_read (formula.variable n) = (
    λ d more ws s e nests seen. variable_read n d more ws s e seen,
    λ d waiting into more ws s e nests seen. variable_read n d (closing ∷ more) (ExpressionRest d waiting into ∷ ws) s e seen ∙ unit_closed (formula.variable n) d waiting into more ws s,
  )
  both_read (formula.apply o left right) =
      let l = both_read left in
      let r = both_read right in (
        applied_unit o left right l.0 r.1,
        λ d waiting into more ws s e nests seen.
            let n = and_parts (nests_within d true left) (nests_within d false right) nests in applied_whole o left right l.0 r.1 d waiting into more ws s e n.0 n.1 seen,
      )

  -- An expression is read back, with what waits for it.
  pub formula-read : (f : Formula) → IsWhole f
  formula-read f = (both_read f).1
