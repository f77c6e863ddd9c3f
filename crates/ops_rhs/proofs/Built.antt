-- The production that is built, in the state of the one around it.
use Rattle.std.proofs.Common.{◌≡◌, ℕ, suc, ◌+◌, ◌<◌, ◌≤◌, Bool, true, false, true≢false, List, [], ◌∷◌, ◌++◌, length, take, drop, get_or, zero, Option, is_some, Some, None, Result, Ok, Err, refl, sym, ap, ◌∙◌, subst}
use Rattle.ops_base.specs.declared.elements.Class.{Class}
use Rattle.ops_base.specs.declared.values.Sym.{Sym}
use Rattle.ops_base.specs.Valid.{cells_of}
use Rattle.ops_grammar.specs.declared.words.Word.{Word}
use Rattle.ops_grammar.specs.Grammar.{Outer, Wanted, Actions, BuiltName, State, goes, step, is_name, is_right, nothing_read, build_begun, outer_of, right_begun, rule_of, side_ended, with_template}
use Rattle.ops_forms.specs.Sights.{cells_from}
use Rattle.ops_forms.specs.PlaceWalks.{Way, FailsAmong, GoesAmong, CutWay, CutGoesAmong, Onward, goes_onward}
use Rattle.ops_forms.specs.declared.refusals.Refusal.{Refusal}
use Rattle.ops_forms.specs.declared.refusals.Refusal.TheVariants as refusal
use Rattle.ops_lhs.specs.declared.around.Around.{Around as LeftAround}
use Rattle.ops_lhs.specs.declared.sides.LeftSide.{LeftSide}
use Rattle.ops_lhs.specs.LeftSides.{left_started, left_behind}
use Rattle.ops_lhs.specs.Taking.{IsAround as IsLeftAround}
use Rattle.ops_rhs.specs.declared.right.Around.{Around}
use Rattle.ops_rhs.specs.declared.right.Right.{Right}
use Rattle.ops_rhs.specs.Taking.{seen, view, IsAround, MayBuild, left_over, built_rule}
use Rattle.ops_rhs.proofs.Operands.{as_in}

-- ---- of every kind of state

pub goes_weaker : (strong holds : State → Type 0) → ((s : State) → strong s → holds s) → (from : Way) (words : List Word) (new : State → State) (r : Result ℕ Refusal) → GoesAmong holds from words new r → GoesAmong strong from words new r
goes_weaker strong holds to from words new (Ok next) h = λ more ws s i. h more ws s (to s i)
goes_weaker strong holds to from words new (Err refusal.OutOfMemory) h = tt
goes_weaker strong holds to from words new (Err (refusal.At f None)) h = λ ws s i. h ws s (to s i)
goes_weaker strong holds to from words new (Err (refusal.At f (Some w))) h = λ more ws s i. h more ws s (to s i)

pub cut_weaker : (strong holds : State → Type 0) → ((s : State) → strong s → holds s) → (from : CutWay) (words : List Word) (new : State → State) (r : Result ℕ Refusal) → CutGoesAmong holds from words new r → CutGoesAmong strong from words new r
cut_weaker strong holds to from words new (Ok next) h = λ n le on ws s i. h n le on ws s (to s i)
cut_weaker strong holds to from words new (Err e) h = tt

-- what fails in these states fails in those that lead to them, also where more is wanted
pub fails_inside : (strong holds : State → Type 0) (by : Way) (state : State → State) (under : List Wanted → List Wanted) → ((s : State) → strong s → holds (state s)) → (e : Refusal) → FailsAmong holds by e → FailsAmong strong (λ more ws s. by more (under ws) (state s)) e
fails_inside strong holds by state under to refusal.OutOfMemory h = tt
fails_inside strong holds by state under to (refusal.At f None) h = λ ws s i. h (under ws) (state s) (to s i)
fails_inside strong holds by state under to (refusal.At f (Some w)) h = λ more ws s i. h more (under ws) (state s) (to s i)

-- ---- where it begins

-- the state in which the left side of a production of this name begins that is built
abbrev pub begun_of : Sym → State → State
begun_of name s = record (build_begun s) { name = name }

none_is : (o : Option Outer) → is_some o ≡ false → o ≡ None
none_is None e = refl
none_is (Some o) e = absurd (true≢false e)

pub may_build : (a : Around) → a.built ≡ false → (s : State) → IsAround a s → MayBuild a.classes.now s
may_build a plain s i = record { classes_are = i.classes; outer_is = none_is s.outer (i.built ∙ plain); over = i.over }

pub left_around : (a : LeftAround) (old : Right) (name : Sym) (s : State) → s.classes ≡ a.classes.now → a.values.now ≡ old.values → IsLeftAround a (begun_of name (seen s old))
left_around a old name s declared values = record { classes = declared; values = sym values }

pub left_starts : (old : Right) (name : Sym) (s : State) → begun_of name (seen s old) ≡ left_started (begun_of name (seen s old))
left_starts old name s = refl

pub name_first : (words rest more : List Word) (w : Word) (ws : List Wanted) (s : State) → words ≡ w ∷ rest → is_name w.kind ≡ true → goes (words ++ more) (BuiltName ∷ ws) s ≡ goes (rest ++ more) ws (record s { name = w.name })
unfolding goes step
name_first words rest more w ws s e is = rw (e, is) refl

pub name_onward : (on : Onward) (words rest : List Word) (w : Word) (ws : List Wanted) (s : State) → words ≡ w ∷ rest → is_name w.kind ≡ true → goes_onward on words (BuiltName ∷ ws) s ≡ goes_onward on rest ws (record s { name = w.name })
unfolding goes_onward step
name_onward on words rest w ws s e is = rw (e, is) refl

-- ---- its right side

module _ (old right begun new : Right) (left : LeftSide) (name : Sym) (s : State) where
  -- the state after its left side
  abbrev pub after_left : State
  after_left = left_behind left (begun_of name (seen s old))

  pub right_begins : view begun ≡ record (right_begun nothing_read) { values = left.values; elements = left.elements; variables = left.variables; counted = left.counted; holes = left.holes.items; templates = old.templates.items } → after_left ≡ seen after_left begun
  right_begins started = sym (ap (as_in after_left) started)

  pub inner_around : (a : Around) → MayBuild a.classes.now s → a.values.now ≡ old.values → a.built ≡ true → a.cells.now ≡ cells_of left.conditions.items → a.conditions.now ≡ cells_from 0 left.conditions.items → IsAround a after_left
  inner_around a may values built cells conditions =
      record { classes = may.classes_are; values = sym values; built = sym built; over = refl; cells = sym cells; conditions = sym conditions }

  template_of : (count past : ℕ) → as_in (record (left_over s) { outer = None }) (with_template (outer_of (view old)) (view right) (built_rule name left.conditions.items right (length (cells_of left.conditions.items ++ right.further.items)) old.begun past))
      ≡ side_ended true (seen (left_behind left (begun_of name (seen (record (left_over s) { outer = None }) old))) right) past
  template_of count past = refl

  pub template_is : (classes : List Class) (count past : ℕ) → MayBuild classes s → count ≡ length (cells_of left.conditions.items ++ right.further.items) → view new ≡ with_template (outer_of (view old)) (view right) (built_rule name left.conditions.items right count old.begun past) → seen s new ≡ side_ended true (seen after_left right) past
  template_is classes count past may counted e =
      let same : s ≡ record (left_over s) { outer = None } = may.over ∙ ap (λ (o : Option Outer). record (left_over s) { outer = o }) may.outer_is in
      ap (as_in s) e
      ∙ ap (λ (n : ℕ). as_in s (with_template (outer_of (view old)) (view right) (built_rule name left.conditions.items right n old.begun past))) counted
      ∙ subst (λ (x : State). as_in x (with_template (outer_of (view old)) (view right) (built_rule name left.conditions.items right (length (cells_of left.conditions.items ++ right.further.items)) old.begun past)) ≡ side_ended true (seen (left_behind left (begun_of name (seen x old))) right) past) (sym same) (template_of count past)

pub side_closed : (words rest more : List Word) (w : Word) (ws : List Wanted) (s : State) → words ≡ w ∷ rest → is_right w.kind ≡ true → goes (words ++ more) (Actions true ∷ ws) s ≡ goes (rest ++ more) ws (side_ended true s w.past)
unfolding goes step
side_closed words rest more w ws s e is = rw (e, is) refl

pub side_closed_onward : (on : Onward) (words rest : List Word) (w : Word) (ws : List Wanted) (s : State) → words ≡ w ∷ rest → is_right w.kind ≡ true → goes_onward on words (Actions true ∷ ws) s ≡ goes_onward on rest ws (side_ended true s w.past)
unfolding goes_onward step
side_closed_onward on words rest w ws s e is = rw (e, is) refl

-- the word at a place
pub at_place : (words : List Word) (place : ℕ) (w : Word) (rest : List Word) (d : Word) → drop place words ≡ w ∷ rest → get_or words place d ≡ w
at_place [] zero w rest d e = absurd (cc)
at_place [] (suc n) w rest d e = absurd (cc)
at_place (x ∷ xs) zero w rest d e = cc
at_place (x ∷ xs) (suc n) w rest d e = at_place xs n w rest d e
