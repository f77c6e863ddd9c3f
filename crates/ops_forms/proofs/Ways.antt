-- Steps of the walk over words, with more words after.
use Rattle.std.proofs.Common.{◌≡◌, ℕ, suc, ◌==◌, ◌&&◌, nat_le, true, false, slice_get, position, ◌||◌, List, [], ◌∷◌, ◌++◌, None, Some, Result, Ok, Err, refl, ◌∙◌, if◌then◌else◌}
use Rattle.std.specs.Borrow.{Bor}
use Rattle.ops_base.specs.declared.elements.Class.{Class}
use Rattle.ops_base.specs.declared.values.Pred.{Pred}
use Rattle.ops_base.specs.declared.endings.Fault.TheVariants as fault
use Rattle.ops_base.specs.Valid.{is_vector}
use Rattle.ops_grammar.specs.declared.words.Word.{Word}
use Rattle.ops_grammar.specs.Grammar.{Use, Target, Wanted, VectorName, VectorNames, Patterns, Pattern, Braced, ElementName, ClosesBrace, Terms, ClassName, Attribute, Several, Cell, Cells, Items, ItemWord, Place, Tests, Tested, ValueFor, ToItem, State, Next, after, step, goes, is_left, is_right, is_right_brace, is_caret, is_arrow, is_name, behind_attribute, vector_name, more_patterns, element_name, place, test, tested, value_for, one_of_several, cell, Members, member}
use Rattle.ops_forms.specs.declared.refusals.Refusal.{Refusal}
use Rattle.ops_forms.specs.declared.refusals.Refusal.TheVariants as refusal
use Rattle.ops_forms.specs.WordWalks.{Way, Fails, Goes}
use Rattle.ops_forms.specs.PlaceWalks.{Onward, goes_onward}

-- what fails on one way fails on a way that is the same
pub fails_as : (from by : Way) → ((more : List Word) (ws : List Wanted) → from more ws ≡ by more ws) → (e : Refusal) → Fails by e → Fails from e
fails_as from by same refusal.OutOfMemory h = tt
fails_as from by same (refusal.At f None) h = λ ws. same [] ws ∙ h ws
fails_as from by same (refusal.At f (Some w)) h = λ more ws. same more ws ∙ h more ws

-- what fails whatever is wanted afterwards fails where more is
pub fails_under : (by : Way) (under : List Wanted → List Wanted) (e : Refusal) → Fails by e → Fails (λ more ws. by more (under ws)) e
fails_under by under refusal.OutOfMemory h = tt
fails_under by under (refusal.At f None) h = λ ws. h (under ws)
fails_under by under (refusal.At f (Some w)) h = λ more ws. h more (under ws)

pub goes_as : (from by : Way) → ((more : List Word) (ws : List Wanted) → from more ws ≡ by more ws) → (new : State) (r : Result (Bor (List Word)) Refusal) → Goes by new r → Goes from new r
goes_as from by same new (Ok rest) h = λ more ws. same more ws ∙ h more ws
goes_as from by same new (Err e) h = fails_as from by same e h

pub cell_first : (words rest more : List Word) (w : Word) (ws : List Wanted) (s : State) → words ≡ w ∷ rest → goes (words ++ more) (Cell ∷ ws) s ≡ after (goes (rest ++ more)) w (cell w.kind w.name ws s)
unfolding goes step
cell_first words rest more w ws s e = rw e refl

pub cells_first : (words rest more : List Word) (w : Word) (ws : List Wanted) (s : State) → words ≡ w ∷ rest → is_right w.kind ≡ false → goes (words ++ more) (Cells ∷ ws) s ≡ after (goes (rest ++ more)) w (cell w.kind w.name (Cells ∷ ws) s)
unfolding goes step
cells_first words rest more w ws s e other = rw (e, other) refl

pub items_first : (words rest more : List Word) (w : Word) (ws : List Wanted) (s : State) → words ≡ w ∷ rest → is_right w.kind ≡ false → goes (words ++ more) (Items ∷ ws) s ≡ after (goes (rest ++ more)) w (if is_left w.kind then Next (ItemWord ∷ Items ∷ ws) s else value_for ToItem w (Items ∷ ws) s)
unfolding goes step
items_first words rest more w ws s e other = rw (e, other) refl

pub tests_first : (f : ℕ) (words rest more : List Word) (w : Word) (ws : List Wanted) (s : State) → words ≡ w ∷ rest → is_right_brace w.kind ≡ false → goes (words ++ more) (Tests f ∷ ws) s ≡ after (goes (rest ++ more)) w (test f w (Tests f ∷ ws) s)
unfolding goes step
tests_first f words rest more w ws s e other = rw (e, other) refl

pub place_first : (f : ℕ) (words rest more : List Word) (w : Word) (ws : List Wanted) (s : State) → words ≡ w ∷ rest → goes (words ++ more) (Place f ∷ ws) s ≡ after (goes (rest ++ more)) w (place f w ws s)
unfolding goes step
place_first f words rest more w ws s e = rw e refl

pub vector_first : (words rest more : List Word) (w : Word) (ws : List Wanted) (s : State) → words ≡ w ∷ rest → goes (words ++ more) (VectorName ∷ ws) s ≡ after (goes (rest ++ more)) w (vector_name w ws s)
unfolding goes step
vector_first words rest more w ws s e = rw e refl

pub vectors_first : (words rest more : List Word) (w : Word) (ws : List Wanted) (s : State) → words ≡ w ∷ rest → is_right w.kind ≡ false → goes (words ++ more) (VectorNames ∷ ws) s ≡ after (goes (rest ++ more)) w (vector_name w (VectorNames ∷ ws) s)
unfolding goes step
vectors_first words rest more w ws s e other = rw (e, other) refl

pub element_first : (words rest more : List Word) (w : Word) (ws : List Wanted) (s : State) → words ≡ w ∷ rest → goes (words ++ more) (ElementName ∷ ws) s ≡ after (goes (rest ++ more)) w (element_name w ws s)
unfolding goes step
element_first words rest more w ws s e = rw e refl

-- an element variable in front of its pattern
pub braced_named : (words rest more : List Word) (w : Word) (ws : List Wanted) (s : State) → words ≡ w ∷ rest → is_left w.kind ≡ false → goes (words ++ more) (Braced ∷ ws) s ≡ after (goes (rest ++ more)) w (element_name w (Pattern ∷ ClosesBrace ∷ ws) s)
unfolding goes step
braced_named words rest more w ws s e other = rw (e, other) refl

-- one place or value more of the vector attribute
pub several_first : (u : Use) (f : ℕ) (words rest more : List Word) (w : Word) (ws : List Wanted) (s : State) → words ≡ w ∷ rest → (is_right w.kind || is_caret w.kind) ≡ false → goes (words ++ more) (Several u f ∷ ws) s ≡ after (goes (rest ++ more)) w (one_of_several u f w ws s)
unfolding goes step
several_first u f words rest more w ws s e other = rw (e, other) refl

pub tested_first : (f : ℕ) (p : Pred) (words rest more : List Word) (w : Word) (ws : List Wanted) (s : State) → words ≡ w ∷ rest → goes (words ++ more) (Tested f p ∷ ws) s ≡ after (goes (rest ++ more)) w (tested f p w ws s)
unfolding goes step
tested_first f p words rest more w ws s e = rw e refl

pub value_first : (t : Target) (words rest more : List Word) (w : Word) (ws : List Wanted) (s : State) → words ≡ w ∷ rest → goes (words ++ more) (ValueFor t ∷ ws) s ≡ after (goes (rest ++ more)) w (value_for t w ws s)
unfolding goes step
value_first t words rest more w ws s e = rw e refl

pub patterns_first : (words rest more : List Word) (w : Word) (ws : List Wanted) (s : State) → words ≡ w ∷ rest → is_arrow w.keyword ≡ false → goes (words ++ more) (Patterns ∷ ws) s ≡ after (goes (rest ++ more)) w (more_patterns w (Patterns ∷ ws) s)
unfolding goes step
patterns_first words rest more w ws s e other = rw (e, other) refl

-- one member more
pub members_first : (n : ℕ) (words rest more : List Word) (w : Word) (ws : List Wanted) (s : State) → words ≡ w ∷ rest → (is_right_brace w.kind && nat_le 2 n) ≡ false → goes (words ++ more) (Members n ∷ ws) s ≡ after (goes (rest ++ more)) w (member w (Members (suc n) ∷ ws) s)
unfolding goes step
members_first n words rest more w ws s e other = rw (e, other) refl

-- ---- classes and attributes

pub class_unknown : (words rest more : List Word) (w : Word) (ws : List Wanted) (s : State) → words ≡ w ∷ rest → is_name w.kind ≡ true → position (λ c. c.name.0 == w.name.0) s.classes ≡ None → goes (words ++ more) (ClassName ∷ ws) s ≡ Err (fault.UnknownClass, Some w)
unfolding goes step
class_unknown words rest more w ws s e named none = rw (e, named, none) refl

module _ (u : Use) (class : Class) (words rest more : List Word) (w : Word) (ws : List Wanted) (s : State) (e : words ≡ w ∷ rest) (named : is_name w.kind ≡ true) (there : slice_get s.classes s.class ≡ Some class) where
  pub attribute_unknown : position (λ a. a.0 == w.name.0) class.attrs ≡ None → goes (words ++ more) (Attribute u ∷ ws) s ≡ Err (fault.UnknownAttribute, Some w)
  unfolding goes step
  attribute_unknown none = rw (e, named, there, none) refl

  pub attribute_several : (f : ℕ) → position (λ a. a.0 == w.name.0) class.attrs ≡ Some f → is_vector class f ≡ true → goes (words ++ more) (Attribute u ∷ ws) s ≡ goes (rest ++ more) (Several u f ∷ ws) (record s { terms = []; constants = [] })
  unfolding goes step
  attribute_several f at vector = rw (e, named, there, at, there, vector) refl

  pub attribute_one : (f : ℕ) → position (λ a. a.0 == w.name.0) class.attrs ≡ Some f → is_vector class f ≡ false → goes (words ++ more) (Attribute u ∷ ws) s ≡ goes (rest ++ more) (behind_attribute u f ∷ Terms u ∷ ws) s
  unfolding goes step
  attribute_one f at scalar = rw (e, named, there, at, there, scalar) refl

module _ (u : Use) (class : Class) (on : Onward) (words rest : List Word) (w : Word) (ws : List Wanted) (s : State) (e : words ≡ w ∷ rest) (named : is_name w.kind ≡ true) (there : slice_get s.classes s.class ≡ Some class) where
  pub attribute_several_onward : (f : ℕ) → position (λ a. a.0 == w.name.0) class.attrs ≡ Some f → is_vector class f ≡ true → goes_onward on words (Attribute u ∷ ws) s ≡ goes_onward on rest (Several u f ∷ ws) (record s { terms = []; constants = [] })
  unfolding goes_onward step
  attribute_several_onward f at vector = rw (e, named, there, at, there, vector) refl

  pub attribute_one_onward : (f : ℕ) → position (λ a. a.0 == w.name.0) class.attrs ≡ Some f → is_vector class f ≡ false → goes_onward on words (Attribute u ∷ ws) s ≡ goes_onward on rest (behind_attribute u f ∷ Terms u ∷ ws) s
  unfolding goes_onward step
  attribute_one_onward f at scalar = rw (e, named, there, at, there, scalar) refl
