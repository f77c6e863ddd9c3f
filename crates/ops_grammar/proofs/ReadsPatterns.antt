-- What is spelled of a left side is read back.
use Rattle.std.proofs.Common.{◌≡◌, ℕ, zero, suc, ◌+◌, ◌-◌, ◌<◌, ◌≤◌, Bool, true, false, ◌&&◌, ◌||◌, ◌==◌, cond, List, [], ◌∷◌, ◌++◌, length, take, refl, sym, ap, subst, ◌∙◌, arith, Option, Some, None, nat_lt, inl, inr, ◌⊎◌, append-nil, append_assoc, true≢false}
use Rattle.std.specs.Prelude.{find}
use Rattle.std.proofs.lemmas.Bool.{and_parts, and_from, ltb-true, ltb-false, lt-ltb, eqb-true, eq-eqb, cond-true, cond-false}
use Rattle.std.proofs.lemmas.List.{map-append, take_at}
use Rattle.ops_base.specs.declared.values.Value.{Value}
use Rattle.ops_base.specs.declared.values.Value.TheVariants as value
use Rattle.ops_base.specs.declared.values.Pred.{Pred}
use Rattle.ops_base.specs.declared.values.Pred.TheVariants as pred
use Rattle.ops_base.specs.declared.elements.Class.{Class}
use Rattle.ops_base.specs.declared.conditions.Operand.{Operand}
use Rattle.ops_base.specs.declared.conditions.Operand.TheVariants as operand
use Rattle.ops_base.specs.declared.conditions.Test.{Test}
use Rattle.ops_base.specs.declared.conditions.Condition.{Condition}
use Rattle.ops_base.specs.declared.conditions.Part.TheVariants.{One}
use Rattle.ops_base.specs.declared.actions.Hole.{Hole}
use Rattle.ops_base.specs.Filling.{in_operand, in_test, in_condition, one, total}
use Rattle.ops_base.specs.Valid.{most_fields, class_is_valid, class_of, is_attribute, is_vector, is_field, is_in}
use Rattle.ops_grammar.specs.declared.words.Word.{Word}
use Rattle.ops_grammar.specs.declared.words.Named.{Named}
use Rattle.ops_grammar.specs.declared.words.Keyword.{Keyword}
use Rattle.ops_grammar.specs.declared.words.Keyword.TheVariants as keyword
use Rattle.ops_grammar.specs.Grammar.{InPattern, ToTest, Wanted, ClassName, Terms, Several, Place, Tests, Tested, Choice, State, Next, number_of, constant_by, with_constant, variable_tested, with_choice, with_choice_of, with_condition, step, after, goes}
use Rattle.ops_grammar.specs.Spelling.{Numbered, closing, spelled_name, spelled_value, spelled_variable, marked, spelled_constant, spelled_values, spelled_counted, spelled_operator, keyword_of_pred, spelled_operand, opening_brace, closing_brace, untested, last_field, attribute_of, spelled_attribute, spelled_test, spelled_pattern, operand_is_plain, test_is_plain, after_test, tests_are_plain, after_tests, after_condition, condition_is_plain, after_members}
use Rattle.ops_grammar.proofs.Holed.{upto, AreHeld, counted_at, held}
use Rattle.ops_grammar.proofs.Places.{numbered, numbered-push, number_out, number_there}
use Rattle.ops_grammar.proofs.Numbering.{are_given, next_apart, after_test-given, sight_prefix}
use Rattle.ops_grammar.proofs.ReadsBack.{by_word, class_parts}
use Rattle.ops_grammar.proofs.ReadsFacts.{AreNamed, class_step, scalar_read, vector_read, EndValues, several_ended, element_closed}

-- with these variables in sight and this many given, after these tests and so many constants
abbrev pub tests_at : State → List Hole → ℕ → Numbered → List Test → State
tests_at s hs n k ts = record s { values = numbered k.sight; variables = k.given; tests = ts; choice = []; terms = []; constants = []; counted = n; holes = upto hs n }

predicate_step : (f : ℕ) (p : Pred) (ws : List Wanted) (s : State) → step (spelled_operator (keyword_of_pred p)) (Place f ∷ ws) s ≡ Next (Tested f p ∷ ws) s
unfolding step
predicate_step f pred.Eq ws s = refl
predicate_step f pred.Ne ws s = refl
predicate_step f pred.Lt ws s = refl
predicate_step f pred.Le ws s = refl
predicate_step f pred.Gt ws s = refl
predicate_step f pred.Ge ws s = refl
predicate_step f pred.SameKind ws s = refl

constant_step : (f : ℕ) (p : Pred) (v : Value) (o : Option Hole) (ws : List Wanted) (s : State)
    → step (marked o (spelled_value v)) (Tested f p ∷ ws) s ≡ constant_by (marked o (spelled_value v)).keyword (λ t. Next ws (with_constant (ToTest f p) t v)) s
unfolding step
constant_step f p (value.Whole n) None ws s = refl
constant_step f p (value.Symbol name) None ws s = refl
constant_step f p (value.Whole n) (Some h) ws s = refl
constant_step f p (value.Symbol name) (Some h) ws s = refl

variable_step : (f : ℕ) (p : Pred) (n : ℕ) (ws : List Wanted) (s : State) → step (spelled_variable n) (Tested f p ∷ ws) s ≡ variable_tested f p (number_of (record { 0 = n }) s.values) (record { 0 = n }) ws s
unfolding step
variable_step f p n ws s = refl

-- ---- a disjunction

choice_begun : (f : ℕ) (words : List Word) (ws : List Wanted) (s : State) → goes (spelled_operator keyword.OpenChoice ∷ words) (Place f ∷ ws) s ≡ goes words (Choice f ∷ ws) (record s { choice = [] })
unfolding goes step
choice_begun f words ws s = refl

choice_step : (f : ℕ) (v : Value) (o : Option Hole) (ws : List Wanted) (s : State)
    → step (marked o (spelled_value v)) (Choice f ∷ ws) s ≡ constant_by (marked o (spelled_value v)).keyword (λ t. Next (Choice f ∷ ws) (with_choice_of t v)) s
unfolding step
choice_step f (value.Whole n) None ws s = refl
choice_step f (value.Symbol name) None ws s = refl
choice_step f (value.Whole n) (Some h) ws s = refl
choice_step f (value.Symbol name) (Some h) ws s = refl

choice_closed : (f : ℕ) (words : List Word) (ws : List Wanted) (s : State) → goes (spelled_operator keyword.CloseChoice ∷ words) (Choice f ∷ ws) s ≡ goes words ws (with_choice s f)
unfolding goes step
choice_closed f words ws s = refl

choices_read : (hs : List Hole) (n : ℕ) (f : ℕ) (vs : List Value) (more : List Word) (ws : List Wanted) (s : State) → AreHeld hs s.outer
    → goes (spelled_values hs n vs ++ more) (Choice f ∷ ws) (counted_at hs n s) ≡ goes more (Choice f ∷ ws) (counted_at hs (n + total one vs) (record s { choice = s.choice ++ vs }))
choices_read hs n f [] more ws s h =
    let none : n ≡ n + 0 = omega arith in
    ap (λ (xs : List Value). goes more (Choice f ∷ ws) (counted_at hs n (record s { choice = xs }))) (sym (append-nil s.choice))
    ∙ ap (λ (m : ℕ). goes more (Choice f ∷ ws) (counted_at hs m (record s { choice = s.choice ++ [] }))) none
choices_read hs n f (v ∷ vs) more ws s h =
    let next : State = record s { choice = s.choice ++ v ∷ [] } in
    let rest = spelled_values hs (n + 1) vs ++ more in
    let up : suc n ≡ n + 1 = omega arith in
    let all : n + 1 + total one vs ≡ n + (1 + total one vs) = omega arith in
    by_word (spelled_constant hs n v) rest (Choice f ∷ ws) (Choice f ∷ ws) (counted_at hs n s) (counted_at hs (suc n) next)
    (choice_step f v (find (λ (h : Hole). h.number == n) hs) ws (counted_at hs n s) ∙ held hs n v (λ t. Next (Choice f ∷ ws) (with_choice_of t v)) s h)
    ∙ ap (λ (m : ℕ). goes rest (Choice f ∷ ws) (counted_at hs m next)) up
    ∙ choices_read hs (n + 1) f vs more ws next h
    ∙ ap (λ (xs : List Value). goes more (Choice f ∷ ws) (counted_at hs (n + 1 + total one vs) (record s { choice = xs }))) (append_assoc s.choice (v ∷ []) vs)
    ∙ ap (λ (m : ℕ). goes more (Choice f ∷ ws) (counted_at hs m (record s { choice = s.choice ++ v ∷ vs }))) all

-- ---- tests

module _ (hs : List Hole) (n : ℕ) (f : ℕ) (k : Numbered) (ts : List Test) (more : List Word) (ws : List Wanted) (s : State) where
  predicate_read : (p : Pred) (words : List Word) → goes (spelled_operator (keyword_of_pred p) ∷ words) (Place f ∷ ws) (tests_at s hs n k ts) ≡ goes words (Tested f p ∷ ws) (tests_at s hs n k ts)
  predicate_read p words = by_word (spelled_operator (keyword_of_pred p)) words (Place f ∷ ws) (Tested f p ∷ ws) (tests_at s hs n k ts) (tests_at s hs n k ts) (predicate_step f p ws (tests_at s hs n k ts))

  -- a variable that is bound here
  bound_read : are_given k ≡ true → goes (spelled_variable k.given ∷ more) (Tested f pred.Eq ∷ ws) (tests_at s hs n k ts) ≡ goes more ws (tests_at s hs n (record { sight = k.sight ++ k.given ∷ []; given = suc k.given }) (ts ++ record { field = f; pred = pred.Eq; operand = operand.Variable k.given; binds = true } ∷ []))
  bound_read given =
      let next : k.given + 1 ≡ suc k.given = omega arith in
      by_word (spelled_variable k.given) more (Tested f pred.Eq ∷ ws) ws (tests_at s hs n k ts) _
      (variable_step f pred.Eq k.given ws (tests_at s hs n k ts)
      ∙ ap (λ (o : Option ℕ). variable_tested f pred.Eq o (record { 0 = k.given }) ws (tests_at s hs n k ts)) (number_out k.sight k.given (next_apart k given))
      ∙ ap (λ (vs : List Named). Next ws (record s { values = vs; variables = k.given + 1; choice = []; terms = []; constants = []; counted = n; holes = upto hs n; tests = ts ++ record { field = f; pred = pred.Eq; operand = operand.Variable k.given; binds = true } ∷ [] })) (sym (numbered-push k.sight k.given))
      ∙ ap (λ (m : ℕ). Next ws (record s { values = numbered (k.sight ++ k.given ∷ []); variables = m; choice = []; terms = []; constants = []; counted = n; holes = upto hs n; tests = ts ++ record { field = f; pred = pred.Eq; operand = operand.Variable k.given; binds = true } ∷ [] })) next)

  -- a variable that is in sight
  known_read : (p : Pred) (v : ℕ) → is_in v k.sight ≡ true → goes (spelled_variable v ∷ more) (Tested f p ∷ ws) (tests_at s hs n k ts) ≡ goes more ws (tests_at s hs n k (ts ++ record { field = f; pred = p; operand = operand.Variable v; binds = false } ∷ []))
  known_read p v there =
      by_word (spelled_variable v) more (Tested f p ∷ ws) ws (tests_at s hs n k ts) _
      (variable_step f p v ws (tests_at s hs n k ts)
      ∙ ap (λ (o : Option ℕ). variable_tested f p o (record { 0 = v }) ws (tests_at s hs n k ts)) (number_there k.sight v there))

  -- a constant, or the hole in its place
  constant_read : (p : Pred) (v : Value) → AreHeld hs s.outer → goes (spelled_constant hs n v ∷ more) (Tested f p ∷ ws) (tests_at s hs n k ts) ≡ goes more ws (tests_at s hs (n + 1) k (ts ++ record { field = f; pred = p; operand = operand.Constant v; binds = false } ∷ []))
  constant_read p v h =
      let up : suc n ≡ n + 1 = omega arith in
      by_word (spelled_constant hs n v) more (Tested f p ∷ ws) ws (tests_at s hs n k ts) (tests_at s hs (suc n) k (ts ++ record { field = f; pred = p; operand = operand.Constant v; binds = false } ∷ []))
      (constant_step f p v (find (λ (h : Hole). h.number == n) hs) ws (tests_at s hs n k ts) ∙ held hs n v (λ t. Next ws (with_constant (ToTest f p) t v)) (tests_at s hs n k ts) h)
      ∙ ap (λ (m : ℕ). goes more ws (tests_at s hs m k (ts ++ record { field = f; pred = p; operand = operand.Constant v; binds = false } ∷ []))) up

  -- a disjunction
  choice_read : (vs : List Value) → AreHeld hs s.outer → goes (spelled_operand hs n pred.Eq (operand.OneOf vs) ++ more) (Place f ∷ ws) (tests_at s hs n k ts) ≡ goes more ws (tests_at s hs (n + total one vs) k (ts ++ record { field = f; pred = pred.Eq; operand = operand.OneOf vs; binds = false } ∷ []))
  choice_read vs h =
      let body = spelled_values hs n vs in
      choice_begun f (body ++ spelled_operator keyword.CloseChoice ∷ [] ++ more) ws (tests_at s hs n k ts)
      ∙ ap (λ (x : List Word). goes x (Choice f ∷ ws) (tests_at s hs n k ts)) (append_assoc body (spelled_operator keyword.CloseChoice ∷ []) more)
      ∙ choices_read hs n f vs (spelled_operator keyword.CloseChoice ∷ more) ws (tests_at s hs n k ts) h
      ∙ choice_closed f more ws (record (tests_at s hs (n + total one vs) k ts) { choice = vs })

  operand_read : (p : Pred) (o : Operand) (b : Bool) → AreHeld hs s.outer → are_given k ≡ true → operand_is_plain k p b o ≡ true
      → goes (spelled_operand hs n p o ++ more) (Place f ∷ ws) (tests_at s hs n k ts)
      ≡ goes more ws (tests_at s hs (n + in_operand o) (cond b (record { sight = k.sight ++ k.given ∷ []; given = suc k.given }) k) (ts ++ record { field = f; pred = p; operand = o; binds = b } ∷ []))
  operand_read p (operand.Constant v) false h given plain = predicate_read p (spelled_constant hs n v ∷ more) ∙ constant_read p v h
  operand_read p (operand.Constant v) true h given plain = absurd (true≢false (sym plain))
  operand_read p (operand.Variable v) false h given plain =
      let none : n ≡ n + 0 = omega arith in
      predicate_read p (spelled_variable v ∷ more)
      ∙ known_read p v plain
      ∙ ap (λ (m : ℕ). goes more ws (tests_at s hs m k (ts ++ record { field = f; pred = p; operand = operand.Variable v; binds = false } ∷ []))) none
  operand_read pred.Eq (operand.Variable v) true h given plain =
      let none : n ≡ n + 0 = omega arith in
      let next : Numbered = record { sight = k.sight ++ k.given ∷ []; given = suc k.given } in
      predicate_read pred.Eq (spelled_variable v ∷ more)
      ∙ subst (λ (m : ℕ). goes (spelled_variable m ∷ more) (Tested f pred.Eq ∷ ws) (tests_at s hs n k ts) ≡ goes more ws (tests_at s hs n next (ts ++ record { field = f; pred = pred.Eq; operand = operand.Variable m; binds = true } ∷ [])))
      (sym (eqb-true v k.given plain)) (bound_read given)
      ∙ ap (λ (m : ℕ). goes more ws (tests_at s hs m next (ts ++ record { field = f; pred = pred.Eq; operand = operand.Variable v; binds = true } ∷ []))) none
  operand_read _ (operand.Variable v) true h given plain = absurd (true≢false (sym plain))
  operand_read pred.Eq (operand.OneOf vs) false h given plain = choice_read vs h
  operand_read _ (operand.OneOf vs) false h given plain = absurd (true≢false (sym plain))
  operand_read _ (operand.OneOf vs) true h given plain = absurd (true≢false (sym plain))

-- ---- the places of a vector attribute

-- a field of a scalar attribute
record IsScalar (c : Class) (f : ℕ) : Type 0 where
  pub attribute : is_attribute c f ≡ true
  pub scalar : is_vector c f ≡ false
  pub named : attribute_of c f ≡ f
  pub first : f - last_field c ≡ 0

-- a place of the vector attribute
record IsAmongVector (c : Class) (f : ℕ) : Type 0 where
  pub attribute : is_attribute c (last_field c) ≡ true
  pub vector : is_vector c (last_field c) ≡ true
  pub named : attribute_of c f ≡ last_field c
  pub behind : last_field c + (f - last_field c) ≡ f
  pub few : f < most_fields

field_cases : (c : Class) (f : ℕ) (a v : Bool) → is_attribute c f ≡ a → is_vector c f ≡ v → class_is_valid c ≡ true → is_field c f ≡ true → IsScalar c f ⊎ IsAmongVector c f
field_cases c f true false a v valid is =
    let lt : f < length c.attrs = ltb-true _ _ a in inl (record { attribute = a; scalar = v; named = cond-true _ _ _ a; first = omega (arith, lt) })
field_cases c f true true a v valid is =
    let parts = class_parts c valid in
    let lt : f < length c.attrs = ltb-true _ _ a in
    let ends : f + 1 ≡ length c.attrs = eqb-true _ _ (and_parts c.vector (f + 1 == length c.attrs) v).1 in
    let last : f ≡ last_field c = omega (arith, ends) in
    inr (
    record {
      attribute = subst (λ (n : ℕ). is_attribute c n ≡ true) last a;
      vector = subst (λ (n : ℕ). is_vector c n ≡ true) last v;
      named = cond-true _ _ _ a ∙ last;
      behind = omega (arith, ends);
      few = omega (arith, lt, parts.0);
    }
    )
field_cases c f false v a is_v valid is =
    let parts = class_parts c valid in
    let le : length c.attrs ≤ f = ltb-false _ _ a in
    let field : (c.vector && nat_lt f most_fields) ≡ true = subst (λ (b : Bool). (b || (c.vector && nat_lt f most_fields)) ≡ true) a is in
    let two = and_parts c.vector (nat_lt f most_fields) field in
    let some : 0 < length c.attrs = parts.2 two.0 in
    inr (
    record {
      attribute = lt-ltb _ _ (omega (arith, some));
      vector = and_from _ _ two.0 (eq-eqb (last_field c + 1) (length c.attrs) (omega (arith, some)));
      named = cond-false _ _ _ a;
      behind = omega (arith, some, le);
      few = ltb-true _ _ two.1;
    }
    )

brace_opened : (f : ℕ) (ws : List Wanted) (s : State) → f < most_fields → step opening_brace (Several InPattern f ∷ ws) s ≡ Next (Tests f ∷ Several InPattern (f + 1) ∷ ws) s
unfolding step
brace_opened f ws s few = rw (lt-ltb _ _ few) refl

brace_closed : (f : ℕ) (ws : List Wanted) (s : State) → step closing_brace (Tests f ∷ ws) s ≡ Next ws s
unfolding step
brace_closed f ws s = refl

-- places that test nothing
untested_read : (n f : ℕ) (more : List Word) (ws : List Wanted) (s : State) → f + n ≤ most_fields → goes (untested n ++ more) (Several InPattern f ∷ ws) s ≡ goes more (Several InPattern (f + n) ∷ ws) s
untested_read zero f more ws s few = let none : f ≡ f + 0 = omega arith in ap (λ (m : ℕ). goes more (Several InPattern m ∷ ws) s) none
untested_read (suc n) f more ws s few =
    let sum : f + 1 + n ≡ f + suc n = omega arith in
    by_word opening_brace (closing_brace ∷ untested n ++ more) (Several InPattern f ∷ ws) (Tests f ∷ Several InPattern (f + 1) ∷ ws) s s (brace_opened f ws s (omega (arith, few)))
    ∙ by_word closing_brace (untested n ++ more) (Tests f ∷ Several InPattern (f + 1) ∷ ws) (Several InPattern (f + 1) ∷ ws) s s (brace_closed f (Several InPattern (f + 1) ∷ ws) s)
    ∙ untested_read n (f + 1) more ws s (omega (arith, few))
    ∙ ap (λ (m : ℕ). goes more (Several InPattern m ∷ ws) s) sum

operator_step : (k : Keyword) (f : ℕ) (ws : List Wanted) (s : State) → f < most_fields → step (spelled_operator k) (Several InPattern f ∷ ws) s ≡ step (spelled_operator k) (Place f ∷ Several InPattern (f + 1) ∷ ws) s
unfolding step
operator_step k f ws s few = rw (lt-ltb _ _ few) refl

-- an operand stands at a place of the vector attribute as at one of a scalar attribute
place_read : (hs : List Hole) (n : ℕ) (p : Pred) (o : Operand) (f : ℕ) (more : List Word) (ws : List Wanted) (s : State) → f < most_fields
    → goes (spelled_operand hs n p o ++ more) (Several InPattern f ∷ ws) s ≡ goes (spelled_operand hs n p o ++ more) (Place f ∷ Several InPattern (f + 1) ∷ ws) s
unfolding goes
place_read hs n p (operand.Constant v) f more ws s few = ap (after (goes (spelled_constant hs n v ∷ more)) (spelled_operator (keyword_of_pred p))) (operator_step (keyword_of_pred p) f ws s few)
place_read hs n p (operand.Variable v) f more ws s few = ap (after (goes (spelled_variable v ∷ more)) (spelled_operator (keyword_of_pred p))) (operator_step (keyword_of_pred p) f ws s few)
place_read hs n p (operand.OneOf vs) f more ws s few =
    ap (after (goes (spelled_values hs n vs ++ spelled_operator keyword.CloseChoice ∷ [] ++ more)) (spelled_operator keyword.OpenChoice)) (operator_step keyword.OpenChoice f ws s few)

-- ---- patterns

tests_end : (hs : List Hole) (n : ℕ) (c : Class) (tests : List Test) (more : List Word) → EndValues more → EndValues (spelled_counted in_test (spelled_test hs c) n tests ++ more)
tests_end hs n c [] more h = h
tests_end hs n c (t ∷ ts) more h = refl

module _ (hs : List Hole) (n : ℕ) (t : Test) (k : Numbered) (ts : List Test) (more : List Word) (ws : List Wanted) (s : State) (h : AreHeld hs s.outer) (names : AreNamed s.classes) (lt : s.class < length s.classes) (given : are_given k ≡ true) (ends : EndValues more) where
  test_read : (IsScalar (class_of s.classes s.class) t.field ⊎ IsAmongVector (class_of s.classes s.class) t.field) → operand_is_plain k t.pred t.binds t.operand ≡ true
      → goes (spelled_test hs (class_of s.classes s.class) n t ++ more) (Terms InPattern ∷ ws) (tests_at s hs n k ts) ≡ goes more (Terms InPattern ∷ ws) (tests_at s hs (n + in_test t) (after_test k t) (ts ++ t ∷ []))
  test_read (inl is) plain =
      let c = class_of s.classes s.class in
      let body = spelled_operand hs n t.pred t.operand in
      ap (λ (f : ℕ). goes (spelled_attribute c f (untested (t.field - last_field c) ++ body) ++ more) (Terms InPattern ∷ ws) (tests_at s hs n k ts)) is.named
      ∙ ap (λ (m : ℕ). goes (spelled_attribute c t.field (untested m ++ body) ++ more) (Terms InPattern ∷ ws) (tests_at s hs n k ts)) is.first
      ∙ scalar_read InPattern t.field body more ws (tests_at s hs n k ts) names lt is.attribute is.scalar
      ∙ operand_read hs n t.field k ts more (Terms InPattern ∷ ws) s t.pred t.operand t.binds h given plain
  test_read (inr is) plain =
      let c = class_of s.classes s.class in
      let last = last_field c in
      let m = t.field - last in
      let body = spelled_operand hs n t.pred t.operand in
      let sum : last + m ≤ most_fields = omega (arith, is.behind, is.few) in
      ap (λ (f : ℕ). goes (spelled_attribute c f (untested m ++ body) ++ more) (Terms InPattern ∷ ws) (tests_at s hs n k ts)) is.named
      ∙ vector_read InPattern last (untested m ++ body) more ws (tests_at s hs n k ts) names lt is.attribute is.vector
      ∙ ap (λ (x : List Word). goes x (Several InPattern last ∷ ws) (tests_at s hs n k ts)) (append_assoc (untested m) body more)
      ∙ untested_read m last (body ++ more) ws (tests_at s hs n k ts) sum
      ∙ ap (λ (f : ℕ). goes (body ++ more) (Several InPattern f ∷ ws) (tests_at s hs n k ts)) is.behind
      ∙ place_read hs n t.pred t.operand t.field more ws (tests_at s hs n k ts) is.few
      ∙ operand_read hs n t.field k ts more (Several InPattern (t.field + 1) ∷ ws) s t.pred t.operand t.binds h given plain
      ∙ several_ended InPattern (t.field + 1) more ws (tests_at s hs (n + in_test t) (after_test k t) (ts ++ t ∷ [])) ends

-- The tests of a pattern are read back.
pub tests-read : (hs : List Hole) (n : ℕ) (tests : List Test) (k : Numbered) (ts : List Test) (more : List Word) (ws : List Wanted) (s : State) → AreHeld hs s.outer → AreNamed s.classes → s.class < length s.classes → are_given k ≡ true → EndValues more
    → tests_are_plain (class_of s.classes s.class) k tests ≡ true
    → goes (spelled_counted in_test (spelled_test hs (class_of s.classes s.class)) n tests ++ more) (Terms InPattern ∷ ws) (tests_at s hs n k ts) ≡ goes more (Terms InPattern ∷ ws) (tests_at s hs (n + total in_test tests) (after_tests k tests) (ts ++ tests))
tests-read hs n [] k ts more ws s h names lt given ends plain =
    let none : n ≡ n + 0 = omega arith in
    ap (λ (xs : List Test). goes more (Terms InPattern ∷ ws) (tests_at s hs n k xs)) (sym (append-nil ts)) ∙ ap (λ (m : ℕ). goes more (Terms InPattern ∷ ws) (tests_at s hs m k (ts ++ []))) none
tests-read hs n (t ∷ tests) k ts more ws s h names lt given ends plain =
    let c = class_of s.classes s.class in
    let each = and_parts (test_is_plain c k t) (tests_are_plain c (after_test k t) tests) plain in
    let parts = and_parts (is_field c t.field) (operand_is_plain k t.pred t.binds t.operand) each.0 in
    let where_it_is = field_cases c t.field (is_attribute c t.field) (is_vector c t.field) refl refl (names.classes_valid s.class) parts.0 in
    let next = n + in_test t in
    let rest = spelled_counted in_test (spelled_test hs c) next tests in
    let all : next + total in_test tests ≡ n + (in_test t + total in_test tests) = omega arith in
    ap (λ (x : List Word). goes x (Terms InPattern ∷ ws) (tests_at s hs n k ts)) (append_assoc (spelled_test hs c n t) rest more)
    ∙ test_read hs n t k ts (rest ++ more) ws s h names lt given (tests_end hs next c tests more ends) where_it_is parts.1
    ∙ tests-read hs next tests (after_test k t) (ts ++ t ∷ []) more ws s h names lt (after_test-given k t given) ends each.1
    ∙ ap (λ (xs : List Test). goes more (Terms InPattern ∷ ws) (tests_at s hs (next + total in_test tests) (after_tests (after_test k t) tests) xs)) (append_assoc ts (t ∷ []) tests)
    ∙ ap (λ (m : ℕ). goes more (Terms InPattern ∷ ws) (tests_at s hs m (after_tests (after_test k t) tests) (ts ++ t ∷ tests))) all

-- what is in sight around a condition stands in front
around_kept : (k : Numbered) (tests : List Test) → take (length (numbered k.sight)) (numbered (after_tests k tests).sight) ≡ numbered k.sight
around_kept k tests =
    let more = sight_prefix tests k in
    ap (λ (ns : List ℕ). take (length (numbered k.sight)) (numbered ns)) more.1
    ∙ ap (take (length (numbered k.sight))) (map-append (λ n. record { name = record { 0 = n }; number = n }) k.sight more.0)
    ∙ take_at (numbered k.sight) (numbered more.0) (length (numbered k.sight)) refl

-- after a pattern, positive or negated
behind_pattern : (hs : List Hole) (n : ℕ) (b : Bool) (class : ℕ) (tests : List Test) (k : Numbered) (s : State) → (b ≡ true → s.around ≡ length (numbered k.sight))
    → with_condition (tests_at (record s { class = class; negated = b; grouped = false }) hs n (after_tests k tests) tests)
    ≡ record (tests_at s hs n (after_condition k (record { class = class; negated = b; tests = tests })) []) { class = class; negated = false; grouped = false; conditions = s.conditions ++ One (record { class = class; negated = b; tests = tests }) ∷ [] }
behind_pattern hs n false class tests k s around = refl
behind_pattern hs n true class tests k s around =
    ap (λ (vs : List Named). record (tests_at s hs n (after_tests k tests) []) { class = class; negated = false; grouped = false; values = vs; conditions = s.conditions ++ One (record { class = class; negated = true; tests = tests }) ∷ [] })
    (ap (λ (m : ℕ). take m (numbered (after_tests k tests).sight)) (around refl) ∙ around_kept k tests)

-- A pattern is read back.
pub pattern-read : (hs : List Hole) (n : ℕ) (c : Condition) (k : Numbered) (more : List Word) (ws : List Wanted) (s : State) → AreHeld hs s.outer → AreNamed s.classes → are_given k ≡ true → (c.negated ≡ true → s.around ≡ length (numbered k.sight))
    → condition_is_plain s.classes k c ≡ true
    → goes (spelled_pattern hs n (class_of s.classes c.class) c.tests ++ more) (ClassName ∷ Terms InPattern ∷ ws) (tests_at (record s { negated = c.negated; grouped = false }) hs n k [])
    ≡ goes more ws (record (tests_at s hs (n + in_condition c) (after_condition k c) []) { class = c.class; negated = false; grouped = false; conditions = s.conditions ++ One c ∷ [] })
pattern-read hs n c k more ws s h names given around plain =
    let d = class_of s.classes c.class in
    let parts = and_parts (nat_lt c.class (length s.classes)) (tests_are_plain d k c.tests) plain in
    let lt : c.class < length s.classes = ltb-true _ _ parts.0 in
    let begun : State = record s { negated = c.negated; grouped = false } in
    let named : State = record s { class = c.class; negated = c.negated; grouped = false } in
    let body = spelled_counted in_test (spelled_test hs d) n c.tests in
    by_word (spelled_name d.name) (body ++ closing ∷ [] ++ more) (ClassName ∷ Terms InPattern ∷ ws) (Terms InPattern ∷ ws) (tests_at begun hs n k []) (tests_at named hs n k []) (class_step c.class (Terms InPattern ∷ ws) (tests_at begun hs n k []) names lt)
    ∙ ap (λ (x : List Word). goes x (Terms InPattern ∷ ws) (tests_at named hs n k [])) (append_assoc body (closing ∷ []) more)
    ∙ tests-read hs n c.tests k [] (closing ∷ more) ws named h names lt given refl parts.1
    ∙ element_closed InPattern more ws (tests_at named hs (n + in_condition c) (after_tests k c.tests) c.tests)
    ∙ ap (goes more ws) (behind_pattern hs (n + in_condition c) c.negated c.class c.tests k s around)

-- what is in sight around a group stands in front
members_prefix : (cs : List Condition) (k : Numbered) → (more : List ℕ) × ((after_members k cs).sight ≡ k.sight ++ more)
members_prefix [] k = ([], sym (append-nil k.sight))
members_prefix (c ∷ cs) k =
    let here = sight_prefix c.tests k in
    let rest = members_prefix cs (after_tests k c.tests) in
    (here.0 ++ rest.0, rest.1 ∙ ap (λ (ns : List ℕ). ns ++ rest.0) here.1 ∙ append_assoc k.sight here.0 rest.0)

pub around_members : (k : Numbered) (cs : List Condition) → take (length (numbered k.sight)) (numbered (after_members k cs).sight) ≡ numbered k.sight
around_members k cs =
    let more = members_prefix cs k in
    ap (λ (ns : List ℕ). take (length (numbered k.sight)) (numbered ns)) more.1
    ∙ ap (take (length (numbered k.sight))) (map-append (λ n. record { name = record { 0 = n }; number = n }) k.sight more.0)
    ∙ take_at (numbered k.sight) (numbered more.0) (length (numbered k.sight)) refl

-- A member of a group is read back.
pub member-read : (hs : List Hole) (n : ℕ) (class : ℕ) (tests : List Test) (k : Numbered) (more : List Word) (ws : List Wanted) (s : State) → AreHeld hs s.outer → AreNamed s.classes → are_given k ≡ true
    → condition_is_plain s.classes k (record { class = class; negated = false; tests = tests }) ≡ true
    → goes (spelled_pattern hs n (class_of s.classes class) tests ++ more) (ClassName ∷ Terms InPattern ∷ ws) (tests_at (record s { grouped = true }) hs n k [])
    ≡ goes more ws (record (tests_at s hs (n + total in_test tests) (after_tests k tests) []) { class = class; grouped = true; members = s.members ++ record { class = class; negated = false; tests = tests } ∷ [] })
member-read hs n class tests k more ws s h names given plain =
    let d = class_of s.classes class in
    let parts = and_parts (nat_lt class (length s.classes)) (tests_are_plain d k tests) plain in
    let lt : class < length s.classes = ltb-true _ _ parts.0 in
    let begun : State = record s { grouped = true } in
    let named : State = record s { class = class; grouped = true } in
    let body = spelled_counted in_test (spelled_test hs d) n tests in
    by_word (spelled_name d.name) (body ++ closing ∷ [] ++ more) (ClassName ∷ Terms InPattern ∷ ws) (Terms InPattern ∷ ws) (tests_at begun hs n k []) (tests_at named hs n k []) (class_step class (Terms InPattern ∷ ws) (tests_at begun hs n k []) names lt)
    ∙ ap (λ (x : List Word). goes x (Terms InPattern ∷ ws) (tests_at named hs n k [])) (append_assoc body (closing ∷ []) more)
    ∙ tests-read hs n tests k [] (closing ∷ more) ws named h names lt given refl parts.1
    ∙ element_closed InPattern more ws (tests_at named hs (n + total in_test tests) (after_tests k tests) tests)
