-- Steps of the walk over expressions, and where their values go.
use Rattle.std.proofs.Common.{◌≡◌, ℕ, suc, Bool, true, false, nat_lt, List, [], ◌∷◌, ◌++◌, take, drop, Option, Some, None, Result, Ok, Err, refl, sym, ap, ◌∙◌, subst, arith}
use Rattle.ops_base.specs.Expression.{Formula, apply}
use Rattle.ops_base.specs.declared.expression.Op.{Op}
use Rattle.ops_base.specs.declared.actions.Term.{Term}
use Rattle.ops_base.specs.declared.actions.Term.TheVariants as term
use Rattle.ops_base.specs.declared.values.Value.{Value}
use Rattle.ops_grammar.specs.declared.words.Keyword.{Keyword}
use Rattle.ops_grammar.specs.declared.words.Keyword.TheVariants as keyword
use Rattle.ops_grammar.specs.declared.words.Word.{Word}
use Rattle.ops_grammar.specs.Grammar.{Target as Goal, Waiting as Waits, Wanted, State, Step, Next, Atom, Bracketed, ExpressionUnit, ExpressionRest, after, goes, step, bracket_at, completed, function, function_depth, is_left, is_right, most_brackets, number_of, operation_of, term_at, with_bind, with_constant, counting, constant_by, value_for, value_of, atom_of, is_literal, with_formula}
use Rattle.ops_forms.specs.PlaceWalks.{Way, Fails, FailsAmong, GoesOn, GoesAmong, CutGoesOn, Onward, goes_onward}
use Rattle.ops_forms.specs.declared.refusals.Refusal.{Refusal}
use Rattle.ops_forms.specs.declared.refusals.Refusal.TheVariants as refusal
use Rattle.ops_forms.proofs.Walks.{fails_as, fails_anywhere, goes_as_among}
use Rattle.ops_rhs.specs.declared.expressions.Waiting.{Waiting}
use Rattle.ops_rhs.specs.declared.right.Around.{Around}
use Rattle.ops_rhs.specs.declared.right.Right.{Right}
use Rattle.ops_rhs.specs.declared.right.Target.{Target}
use Rattle.ops_rhs.specs.declared.right.Target.TheVariants as target
use Rattle.ops_rhs.specs.Taking.{seen, view, IsAround, Acts, CutActs, BeginsConstant, target_of, with_term, newest_first, GoesToOperand, ActsOperand, ReadsExpression, OpensExpression, CutActsOperand, CutReadsExpression, PeekOpensExpression, IsFromOperand}

-- ---- what waits

newest_push : (ws : List Waiting) (w : Waiting) → newest_first (ws ++ w ∷ []) ≡ record { left = w.left; op = w.op } ∷ newest_first ws
newest_push [] w = refl
newest_push (x ∷ ws) w = ap (λ (more : List Waits). more ++ record { left = x.left; op = x.op } ∷ []) (newest_push ws w)

pub newest_grown : (all ws : List Waiting) (w : Waiting) → all ≡ ws ++ w ∷ [] → newest_first all ≡ record { left = w.left; op = w.op } ∷ newest_first ws
newest_grown all ws w e = rw (e, newest_push ws w) refl

-- the one that was read last gets its right operand
pub completed_once : (all ws : List Waiting) (w : Waiting) (value : Formula) → all ≡ ws ++ w ∷ [] → completed (apply w.op w.left value) (newest_first ws) ≡ completed value (newest_first all)
completed_once all ws w value e = rw (e, newest_push ws w) refl

-- ---- refusals

-- what fails in every state fails in each of these
fails_in : (by : Way) (state : State → State) (e : Refusal) → Fails by e → Fails (λ more ws s. by more ws (state s)) e
fails_in by state refusal.OutOfMemory h = tt
fails_in by state (refusal.At f None) h = λ ws s. h ws (state s)
fails_in by state (refusal.At f (Some w)) h = λ more ws s. h more ws (state s)

-- what goes on in every state does in each state of a kind
pub goes_anywhere : (holds : State → Type 0) (from by : Way) → ((more : List Word) (ws : List Wanted) (s : State) → from more ws s ≡ by more ws s) → (words : List Word) (new : State → State) (r : Result ℕ Refusal) → GoesOn by words new r → GoesAmong holds from words new r
goes_anywhere holds from by same words new (Ok next) h = λ more ws s _. same more ws s ∙ h more ws s
goes_anywhere holds from by same words new (Err e) h = fails_anywhere holds from by (λ more ws s _. same more ws s) e h

-- ---- compute

-- how it goes on with an expression in a function of a production that is built or of one of the text
abbrev expression_goes : Goal → Bool → List Wanted → List Wanted
expression_goes t built ws = ExpressionUnit (function_depth built) ∷ ExpressionRest (function_depth built) [] (Some t) ∷ ws

module _ (a : Around) (t : Goal) (w : Word) (old new : Right) (words : List Word) (at : ℕ) (is : w.keyword ≡ keyword.Compute) where
  pub computes : (r : Result ℕ Refusal) → GoesOn (λ more ws s. goes (drop at words ++ more) (expression_goes t a.built ws) (seen s old)) words (λ s. seen s new) r → Acts a (λ ws s. function t w.keyword ws s) w old new words at r
  computes r h =
      goes_as_among (IsAround a) (λ more ws s. after (goes (drop at words ++ more)) w (function t w.keyword ws (seen s old))) (λ more ws s. goes (drop at words ++ more) (expression_goes t a.built ws) (seen s old))
      (λ more ws s i.
      ap (λ (k : Keyword). after (goes (drop at words ++ more)) w (function t k ws (seen s old))) is
      ∙ ap (λ (b : Bool). goes (drop at words ++ more) (expression_goes t b ws) (seen s old)) i.built)
      words (λ s. seen s new) r
      (goes_anywhere (IsAround a) (λ more ws s. goes (drop at words ++ more) (expression_goes t a.built ws) (seen s old)) (λ more ws s. goes (drop at words ++ more) (expression_goes t a.built ws) (seen s old)) (λ more ws s. refl) words (λ s. seen s new) r h)

  pub computes_cut : (r : Result ℕ Refusal) → CutGoesOn (λ cut on ws s. goes_onward on (drop at cut) (expression_goes t a.built ws) (seen s old)) words (λ s. seen s new) r → CutActs a (λ ws s. function t w.keyword ws s) w old new words at r
  computes_cut (Ok next) h = λ n le on ws s i.
      ap (λ (k : Keyword). after (goes_onward on (drop at (take n words))) w (function t k ws (seen s old))) is
      ∙ ap (λ (b : Bool). goes_onward on (drop at (take n words)) (expression_goes t b ws) (seen s old)) i.built
      ∙ h n le on ws s
  computes_cut (Err e) h = tt

-- ---- operands

pub operand_as : (from by : Formula → Way) → ((f : Formula) (more : List Word) (ws : List Wanted) (s : State) → from f more ws s ≡ by f more ws s) → (r : Right) (words : List Word) (result : Result (Formula × ℕ) Refusal) → GoesToOperand by r words result → GoesToOperand from r words result
operand_as from by same r words (Ok x) h = λ f more ws s. same f more ws s ∙ h f more ws s
operand_as from by same r words (Err e) h = λ f. fails_as (from f) (by f) (same f) e (h f)

pub unit_opens : (depth : ℕ) (words rest more : List Word) (w : Word) (ws : List Wanted) (s : State) → words ≡ w ∷ rest → is_left w.kind ≡ true → goes (words ++ more) (ExpressionUnit depth ∷ ws) s ≡ after (goes (rest ++ more)) w (bracket_at depth ws s)
unfolding goes step
unit_opens depth words rest more w ws s e left = rw (e, left) refl

module _ (depth deeper at : ℕ) (w : Word) (r : Right) (words : List Word) (fits : nat_lt depth most_brackets ≡ true) where
  pub bracket_read : (rest : ℕ) (result : Result (Formula × ℕ) Refusal) → deeper ≡ suc depth → OpensExpression words at (Ok rest) → ReadsExpression deeper r words rest result → ActsOperand (λ ws s. bracket_at depth ws s) w r words at result
  bracket_read rest (Ok x) e opens reads = λ f more ws s. rw (fits, ← e) (opens deeper more ws (with_formula (seen s r) f) ∙ reads None f more ws s)
  bracket_read rest (Err x) e opens reads =
      λ f. rw (fits, ← e) (fails_as (λ more ws s. goes (drop at words ++ more) (Bracketed deeper ∷ ws) (with_formula (seen s r) f)) (λ more ws s. goes (drop rest words ++ more) (ExpressionUnit deeper ∷ ExpressionRest deeper [] None ∷ ws) (with_formula (seen s r) f)) (λ more ws s. opens deeper more ws (with_formula (seen s r) f)) x (reads None f))

  pub bracket_cut : (rest : ℕ) (result : Result (Formula × ℕ) Refusal) → deeper ≡ suc depth → IsFromOperand rest result → PeekOpensExpression words at (Ok rest) → CutReadsExpression deeper r words rest result → CutActsOperand (λ ws s. bracket_at depth ws s) w r words at result
  bracket_cut rest (Ok x) e le opens reads = λ n lt f on ws s. rw (fits, ← e) (opens n (omega (arith, le, lt)) deeper on ws (with_formula (seen s r) f) ∙ reads n lt None f on ws s)
  bracket_cut rest (Err x) e le opens reads = tt

  pub bracket_fails : (e : Refusal) → OpensExpression words at (Err e) → (f : Formula) → Fails (λ more ws s. after (goes (drop at words ++ more)) w (bracket_at depth ws (with_formula (seen s r) f))) e
  bracket_fails e opens f = rw fits (fails_in (λ more ws s. goes (drop at words ++ more) (Bracketed (suc depth) ∷ ws) s) (λ s. with_formula (seen s r) f) e (opens (suc depth)))

-- ---- operations

pub rest_operation : (depth : ℕ) (waiting : List Waits) (t : Option Goal) (words rest more : List Word) (w : Word) (op : Op) (ws : List Wanted) (s : State) → words ≡ w ∷ rest → is_right w.kind ≡ false → operation_of w.keyword ≡ Some op → goes (words ++ more) (ExpressionRest depth waiting t ∷ ws) s ≡ goes (rest ++ more) (ExpressionUnit depth ∷ ExpressionRest depth (record { left = s.formula; op = op } ∷ waiting) t ∷ ws) s
unfolding goes step
rest_operation depth waiting t words rest more w op ws s e other is = rw (e, other, is) refl

pub rest_operation_onward : (depth : ℕ) (waiting : List Waits) (t : Option Goal) (on : Onward) (words rest : List Word) (w : Word) (op : Op) (ws : List Wanted) (s : State) → words ≡ w ∷ rest → is_right w.kind ≡ false → operation_of w.keyword ≡ Some op → goes_onward on words (ExpressionRest depth waiting t ∷ ws) s ≡ goes_onward on rest (ExpressionUnit depth ∷ ExpressionRest depth (record { left = s.formula; op = op } ∷ waiting) t ∷ ws) s
unfolding goes_onward step
rest_operation_onward depth waiting t on words rest w op ws s e other is = rw (e, other, is) refl

-- ---- where values go

pub term_goes : (t : Target) (x : Term) (ws : List Wanted) (s : State) → term_at (target_of t) x ws s ≡ Next ws (with_term t s x)
term_goes (target.Put f) x ws s = refl
term_goes target.Terms x ws s = refl
term_goes target.Item x ws s = refl
term_goes target.Bind x ws s = refl

-- what is read of a right side, in that state, as it is in this one
abbrev pub as_in : State → State → State
as_in s x =
    record s {
      class = x.class;
      terms = x.terms;
      constants = x.constants;
      puts = x.puts;
      cells = x.cells;
      items = x.items;
      values = x.values;
      elements = x.elements;
      variables = x.variables;
      actions = x.actions;
      modified = x.modified;
      made = x.made;
      further = x.further;
      variable = x.variable;
      source = x.source;
      source_field = x.source_field;
      formula = x.formula;
      begun = x.begun;
      counted = x.counted;
      holes = x.holes;
      templates = x.templates;
    }

bound_in : (o : Option ℕ) (old : Right) (x : Term) (s : State) → as_in s (with_bind o (view old) x) ≡ with_bind o (seen s old) x
bound_in (Some n) old x s = refl
bound_in None old x s = refl

term_in : (t : Target) (old : Right) (x : Term) (s : State) → as_in s (with_term t (view old) x) ≡ with_term t (seen s old) x
term_in (target.Put f) old x s = refl
term_in target.Terms old x s = refl
term_in target.Item old x s = refl
term_in target.Bind old x s = bound_in (number_of old.variable old.values) old x s

-- a value goes there in every state
pub added : (t : Target) (old new : Right) (x : Term) → view new ≡ with_term t (view old) x → (s : State) → seen s new ≡ with_term t (seen s old) x
added t old new x e s = ap (as_in s) e ∙ term_in t old x s

-- a constant goes there in every state
bound_constant_in : (o : Option ℕ) (old : Right) (v : Value) (s : State) → as_in s (counting (with_bind o (view old) (term.Constant v))) ≡ counting (with_bind o (seen s old) (term.Constant v))
bound_constant_in (Some n) old v s = refl
bound_constant_in None old v s = refl

constant_in : (t : Target) (old : Right) (v : Value) (s : State) → as_in s (with_constant (target_of t) (view old) v) ≡ with_constant (target_of t) (seen s old) v
constant_in (target.Put f) old v s = refl
constant_in target.Terms old v s = refl
constant_in target.Item old v s = refl
constant_in target.Bind old v s = bound_constant_in (number_of old.variable old.values) old v s

pub constant_added : (t : Target) (old new : Right) (v : Value) → view new ≡ with_constant (target_of t) (view old) v → (s : State) → seen s new ≡ with_constant (target_of t) (seen s old) v
constant_added t old new v e s = ap (as_in s) e ∙ constant_in t old v s

-- ---- constants, which may be holes

-- the constant is refused
pub constant_fails : (X : Type 0) (a : Around) (w : Word) (old new : Right) (e : Refusal) (r : Result X Refusal) → r ≡ Err e → BeginsConstant a w old new r
    → (rest : List Word) (next : List Wanted → State → Step) → FailsAmong (IsAround a) (λ more ws s. after (goes (rest ++ more)) w (constant_by w.keyword (next ws) (seen s old))) e
constant_fails X a w old new refusal.OutOfMemory r is h rest next = tt
constant_fails X a w old new (refusal.At f None) r is h rest next = absurd (subst (λ (r : Result X Refusal). BeginsConstant a w old new r) is h)
constant_fails X a w old new (refusal.At f (Some v)) r is h rest next =
    let said = subst (λ (r : Result X Refusal). BeginsConstant a w old new r) is h in
    λ more ws s i. ap (after (goes (rest ++ more)) w) (said.1 (next ws) s i) ∙ ap (λ (x : Word). Err (f, Some x)) (sym said.0)

pub value_constant : (t : Target) (w : Word) (v : Value) (ws : List Wanted) (s : State) → is_literal w.keyword ≡ false → is_left w.kind ≡ false → value_of w.kind w.name ≡ Some v → value_for (target_of t) w ws s ≡ constant_by w.keyword (λ r. Next ws (with_constant (target_of t) r v)) s
value_constant t w v ws s plain other is = rw (plain, other, is) refl

pub atom_first : (t : Goal) (words rest more : List Word) (w : Word) (v : Value) (ws : List Wanted) (s : State) → words ≡ w ∷ rest → atom_of w.kind w.name ≡ Some v → goes (words ++ more) (Atom t ∷ ws) s ≡ after (goes (rest ++ more)) w (constant_by w.keyword (λ r. Next ws (with_constant t r v)) s)
unfolding goes step
atom_first t words rest more w v ws s e is = rw (e, is) refl

pub atom_onward : (t : Goal) (on : Onward) (words rest : List Word) (w : Word) (v : Value) (ws : List Wanted) (s : State) → words ≡ w ∷ rest → atom_of w.kind w.name ≡ Some v → goes_onward on words (Atom t ∷ ws) s ≡ after (goes_onward on rest) w (constant_by w.keyword (λ r. Next ws (with_constant t r v)) s)
unfolding goes_onward step
atom_onward t on words rest w v ws s e is = rw (e, is) refl
