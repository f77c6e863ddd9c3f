-- Steps of the walk over a right side, in every state around it.
use Rattle.std.proofs.Common.{◌≡◌, ℕ, ◌==◌, ◌||◌, true, false, true≢false, sym, ap, List, ◌∷◌, ◌++◌, position, None, Some, Err, refl}
use Rattle.ops_base.specs.declared.endings.Fault.TheVariants as fault
use Rattle.ops_grammar.specs.declared.words.Word.{Word}
use Rattle.ops_grammar.specs.declared.words.Keyword.{Keyword}
use Rattle.ops_grammar.specs.declared.words.Keyword.TheVariants as keyword
use Rattle.ops_grammar.specs.Grammar.{Target, Wanted, SourceAttribute, SourceEnd, Function, ItemWord, BoundValue, Closes, EndsWhole, ToItem, ToBind, ToTerms, InPut, Several, ActionWord, BuiltName, FirstPattern, Patterns, Actions, action_word, build_begun, State, after, goes, step, is_name, is_right, is_caret, function, item_word, value_for, source_class as class_read}
use Rattle.ops_forms.specs.PlaceWalks.{Onward, goes_onward}
use Rattle.ops_rhs.specs.declared.right.Around.{Around}
use Rattle.ops_rhs.specs.declared.right.Right.{Right}
use Rattle.ops_rhs.specs.Taking.{seen, is_build, IsAround, source_class}

-- ---- substr

pub source_is : (a : Around) (r : Right) (s : State) → IsAround a s → class_read (seen s r) ≡ source_class a r
source_is a r s i = rw (i.classes, i.cells) refl

module _ (t : Target) (words rest more : List Word) (w : Word) (ws : List Wanted) (s : State) (e : words ≡ w ∷ rest) (named : is_name w.kind ≡ true) where
  pub source_unknown : position (λ a. a.0 == w.name.0) (class_read s).attrs ≡ None → goes (words ++ more) (SourceAttribute t ∷ ws) s ≡ Err (fault.UnknownAttribute, Some w)
  unfolding goes step
  source_unknown none = rw (e, named, none) refl

  pub source_found : (f : ℕ) → position (λ a. a.0 == w.name.0) (class_read s).attrs ≡ Some f → goes (words ++ more) (SourceAttribute t ∷ ws) s ≡ goes (rest ++ more) (SourceEnd t w.name ∷ Closes EndsWhole ∷ ws) (record s { source_field = f })
  unfolding goes step
  source_found f at = rw (e, named, at) refl

pub source_found_onward : (t : Target) (on : Onward) (words rest : List Word) (w : Word) (ws : List Wanted) (s : State) → words ≡ w ∷ rest → is_name w.kind ≡ true → (f : ℕ) → position (λ a. a.0 == w.name.0) (class_read s).attrs ≡ Some f → goes_onward on words (SourceAttribute t ∷ ws) s ≡ goes_onward on rest (SourceEnd t w.name ∷ Closes EndsWhole ∷ ws) (record s { source_field = f })
unfolding goes_onward step
source_found_onward t on words rest w ws s e named f at = rw (e, named, at) refl

-- ---- functions, items and values of `bind`

pub function_first : (t : Target) (words rest more : List Word) (w : Word) (ws : List Wanted) (s : State) → words ≡ w ∷ rest → goes (words ++ more) (Function t ∷ ws) s ≡ after (goes (rest ++ more)) w (function t w.keyword ws s)
unfolding goes step
function_first t words rest more w ws s e = rw e refl

pub item_first : (words rest more : List Word) (w : Word) (ws : List Wanted) (s : State) → words ≡ w ∷ rest → goes (words ++ more) (ItemWord ∷ ws) s ≡ after (goes (rest ++ more)) w (item_word w.keyword ws s)
unfolding goes step
item_first words rest more w ws s e = rw e refl

-- what is no item of `write` alone is a function, or nothing
pub item_otherwise : (k : Keyword) (ws : List Wanted) (s : State) → (k ≡ keyword.Crlf → ⊥) → (k ≡ keyword.Tabto → ⊥) → (k ≡ keyword.Rjust → ⊥) → item_word k ws s ≡ function ToItem k ws s
item_otherwise keyword.Crlf ws s crlf tabto rjust = absurd (crlf refl)
item_otherwise keyword.Tabto ws s crlf tabto rjust = absurd (tabto refl)
item_otherwise keyword.Rjust ws s crlf tabto rjust = absurd (rjust refl)
item_otherwise _ ws s crlf tabto rjust = refl

-- ---- actions

action_same : (k : Keyword) (ws : List Wanted) (s : State) → is_build k ≡ false → action_word false k ws s ≡ action_word true k ws s
action_same keyword.Build ws s e = absurd (true≢false e)
action_same _ ws s e = refl

build_is : (k : Keyword) → is_build k ≡ true → k ≡ keyword.Build
build_is keyword.Build e = refl
build_is _ e = absurd (true≢false (sym e))

module _ (words rest : List Word) (w : Word) (ws : List Wanted) (s : State) (e : words ≡ w ∷ rest) where
  pub built_first : (more : List Word) → goes (words ++ more) (ActionWord true ∷ ws) s ≡ after (goes (rest ++ more)) w (action_word true w.keyword ws s)
  unfolding goes step
  built_first more = rw e refl

  pub built_onward : (on : Onward) → goes_onward on words (ActionWord true ∷ ws) s ≡ after (goes_onward on rest) w (action_word true w.keyword ws s)
  unfolding goes_onward step
  built_onward on = rw e refl

  pub action_first : (more : List Word) → is_build w.keyword ≡ false → goes (words ++ more) (ActionWord false ∷ ws) s ≡ after (goes (rest ++ more)) w (action_word true w.keyword ws s)
  unfolding goes step
  action_first more other = rw e (ap (after (goes (rest ++ more)) w) (action_same w.keyword ws s other))

  pub action_onward : (on : Onward) → is_build w.keyword ≡ false → goes_onward on words (ActionWord false ∷ ws) s ≡ after (goes_onward on rest) w (action_word true w.keyword ws s)
  unfolding goes_onward step
  action_onward on other = rw e (ap (after (goes_onward on rest) w) (action_same w.keyword ws s other))

  pub build_first : (more : List Word) → is_build w.keyword ≡ true → goes (words ++ more) (ActionWord false ∷ ws) s ≡ goes (rest ++ more) (BuiltName ∷ FirstPattern ∷ Patterns ∷ Actions true ∷ ws) (build_begun s)
  unfolding goes step
  build_first more is = rw e (ap (λ (k : Keyword). after (goes (rest ++ more)) w (action_word false k ws s)) (build_is w.keyword is))

  pub build_onward : (on : Onward) → is_build w.keyword ≡ true → goes_onward on words (ActionWord false ∷ ws) s ≡ goes_onward on rest (BuiltName ∷ FirstPattern ∷ Patterns ∷ Actions true ∷ ws) (build_begun s)
  unfolding goes_onward step
  build_onward on is = rw e (ap (λ (k : Keyword). after (goes_onward on rest) w (action_word false k ws s)) (build_is w.keyword is))

pub bound_first : (words rest more : List Word) (w : Word) (ws : List Wanted) (s : State) → words ≡ w ∷ rest → is_right w.kind ≡ false → goes (words ++ more) (BoundValue ∷ ws) s ≡ after (goes (rest ++ more)) w (value_for ToBind w (Closes EndsWhole ∷ ws) s)
unfolding goes step
bound_first words rest more w ws s e other = rw (e, other) refl

pub bound_onward : (on : Onward) (words rest : List Word) (w : Word) (ws : List Wanted) (s : State) → words ≡ w ∷ rest → is_right w.kind ≡ false → goes_onward on words (BoundValue ∷ ws) s ≡ after (goes_onward on rest) w (value_for ToBind w (Closes EndsWhole ∷ ws) s)
unfolding goes_onward step
bound_onward on words rest w ws s e other = rw (e, other) refl

pub several_onward : (f : ℕ) (on : Onward) (words rest : List Word) (w : Word) (ws : List Wanted) (s : State) → words ≡ w ∷ rest → (is_right w.kind || is_caret w.kind) ≡ false → goes_onward on words (Several InPut f ∷ ws) s ≡ after (goes_onward on rest) w (value_for ToTerms w (Several InPut f ∷ ws) s)
unfolding goes_onward step
several_onward f on words rest w ws s e other = rw (e, other) refl
