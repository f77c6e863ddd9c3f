-- Where the machine is after some words, all of which it takes.
use Rattle.std.proofs.Common.{◌≡◌, true, List, [], ◌∷◌, ◌++◌, refl, sym, ap, subst, ◌∙◌, Option, Some, Err, unwrap_or}
use Rattle.std.specs.List.{list_all}
use Rattle.std.proofs.lemmas.Bool.{and_parts}
use Rattle.ops_base.specs.declared.endings.Fault.{Fault}
use Rattle.ops_grammar.specs.declared.words.Word.{Word}
use Rattle.ops_grammar.specs.Grammar.{Wanted, Forms, State, Step, Next, Refuses, step, ends, after, goes}
use Rattle.ops_grammar.specs.Derivation.{Derives}
use Rattle.ops_grammar.specs.Standing.{IsTaken}
use Rattle.ops_grammar.proofs.Arranged.{AreArranged}
use Rattle.ops_grammar.proofs.Derived.{forms_last, taken_derives, taken_last, taken_arranged}
use Rattle.ops_grammar.proofs.Proper.{is_proper}
use Rattle.ops_grammar.proofs.Follows.{derived_behind}

-- these words lead to what is wanted there, and to that state
pub data Reached (to : List Wanted) (at : State) : List Word → List Wanted → State → Type 0 where
  at_once : Reached to at [] to at
  by_word : {w : Word} {words : List Word} {ws ws' : List Wanted} {s s' : State} → step w ws s ≡ Next ws' s' → Reached to at words ws' s' → Reached to at (w ∷ words) ws s

-- a word that is refused after some words
pub record Stopped (words : List Word) (ws : List Wanted) (s : State) (f : Fault) (w : Word) : Type 0 where
  pub before : List Word
  pub behind : List Word
  pub to : List Wanted
  pub at : State
  pub words_are : words ≡ before ++ w ∷ behind
  pub reached : Reached to at before ws s
  pub refused : step w to at ≡ Refuses f

-- ---- what holds after the words

module _ (to : List Wanted) (at : State) where
  pub goes_behind : (before : List Word) (ws : List Wanted) (s : State) → Reached to at before ws s → (more : List Word) → goes (before ++ more) ws s ≡ goes more to at
  unfolding goes
  goes_behind before ws s at_once more = refl
  goes_behind before ws s (by_word {w = w} {words = words} {ws' = ws'} {s' = s'} e r) more =
      ap (after (goes (words ++ more)) w) e ∙ goes_behind words ws' s' r more

  pub derives_before : (before : List Word) (ws : List Wanted) (s : State) → Reached to at before ws s → AreArranged ws s → (ts : List Word) → Derives at.vectors to ts → Derives s.vectors ws (before ++ ts)
  derives_before before ws s at_once arranged ts d = d
  derives_before before ws s (by_word {w = w} {words = words} {ws' = ws'} {s' = s'} e r) arranged ts d =
      taken_derives w ws s arranged ws' s' e (words ++ ts) (derives_before words ws' s' r (taken_arranged w ws s arranged ws' s' e) ts d)

  pub derives_behind : (before : List Word) (ws : List Wanted) (s : State) → Reached to at before ws s → AreArranged ws s → forms_last ws ≡ true → list_all is_proper before ≡ true → (ts : List Word) → Derives s.vectors ws (before ++ ts) → Derives at.vectors to ts
  derives_behind before ws s at_once arranged last proper ts d = d
  derives_behind before ws s (by_word {w = w} {words = words} {ws' = ws'} {s' = s'} e r) arranged last proper ts d =
      let each = and_parts (is_proper w) (list_all is_proper words) proper in
      derives_behind words ws' s' r (taken_arranged w ws s arranged ws' s' e) (taken_last w ws s arranged ws' s' e last) each.1 ts
      (derived_behind w ws s arranged last ws' s' e each.0 (words ++ ts) d)

  pub last_behind : (before : List Word) (ws : List Wanted) (s : State) → Reached to at before ws s → AreArranged ws s → forms_last ws ≡ true → forms_last to ≡ true
  last_behind before ws s at_once arranged last = last
  last_behind before ws s (by_word {w = w} {words = words} {ws' = ws'} {s' = s'} e r) arranged last =
      last_behind words ws' s' r (taken_arranged w ws s arranged ws' s' e) (taken_last w ws s arranged ws' s' e last)

  pub arranged_behind : (before : List Word) (ws : List Wanted) (s : State) → Reached to at before ws s → AreArranged ws s → AreArranged to at
  arranged_behind before ws s at_once arranged = arranged
  arranged_behind before ws s (by_word {w = w} {words = words} {ws' = ws'} {s' = s'} e r) arranged =
      arranged_behind words ws' s' r (taken_arranged w ws s arranged ws' s' e)

-- ---- words that are taken

-- The end refuses no word.
ends_taken : (ws : List Wanted) (s : State) → IsTaken (ends ws s)
unfolding ends
ends_taken [] s = tt
ends_taken (Forms ∷ ws) s = ends_taken ws s
ends_taken (w ∷ ws) s = tt

module _ (to : List Wanted) (at : State) where
  pub taken_before : (before : List Word) (ws : List Wanted) (s : State) → Reached to at before ws s → IsTaken (goes before ws s)
  unfolding goes
  taken_before before ws s at_once = ends_taken ws s
  taken_before before ws s (by_word {w = w} {words = words} {ws' = ws'} {s' = s'} e r) =
      subst (λ (x : Step). IsTaken (after (goes words) w x)) (sym e) (taken_before words ws' s' r)

abbrev pub Somewhere : List Word → List Wanted → State → Type 0
Somewhere words ws s = (to : List Wanted) × (at : State) × Reached to at words ws s

taken_by : (w : Word) (words : List Word) (ws : List Wanted) (s : State) → ((ws' : List Wanted) (s' : State) → IsTaken (goes words ws' s') → Somewhere words ws' s') → (r : Step) → step w ws s ≡ r
    → IsTaken (after (goes words) w r) → Somewhere (w ∷ words) ws s
taken_by w words ws s ih (Next ws' s') e taken = let r = ih ws' s' taken in (r.0, r.1, by_word e r.2)
taken_by w words ws s ih (Refuses f) e taken = absurd taken

pub taken_reached : (words : List Word) (ws : List Wanted) (s : State) → IsTaken (goes words ws s) → Somewhere words ws s
unfolding goes
taken_reached [] ws s taken = (ws, s, at_once)
taken_reached (w ∷ words) ws s taken = taken_by w words ws s (taken_reached words) (step w ws s) refl taken

-- ---- the word that is refused

stopped_by : (v : Word) (words : List Word) (ws : List Wanted) (s : State) (f : Fault) (w : Word)
    → ((ws' : List Wanted) (s' : State) → goes words ws' s' ≡ Err (f, Some w) → Stopped words ws' s' f w)
    → (r : Step) → step v ws s ≡ r → after (goes words) v r ≡ Err (f, Some w) → Stopped (v ∷ words) ws s f w
stopped_by v words ws s f w ih (Next ws' s') is e =
    let more = ih ws' s' e in
    record {
      before = v ∷ more.before;
      behind = more.behind;
      to = more.to;
      at = more.at;
      words_are = ap (λ (x : List Word). v ∷ x) more.words_are;
      reached = by_word is more.reached;
      refused = more.refused;
    }
stopped_by v words ws s f w ih (Refuses g) is e =
    let same : (let x : Fault × Option Word = (g, Some v) in x ≡ (f, Some w)) = cc in
    let same_fault : g ≡ f = ap (λ (x : Fault × Option Word). x.0) same in
    let same_word : v ≡ w = ap (λ (x : Fault × Option Word). unwrap_or x.1 v) same in
    record {
      before = [];
      behind = words;
      to = ws;
      at = s;
      words_are = ap (λ (x : Word). x ∷ words) same_word;
      reached = at_once;
      refused = subst (λ (x : Word). step x ws s ≡ Refuses f) same_word (is ∙ ap Refuses same_fault);
    }

pub stopped : (words : List Word) (ws : List Wanted) (s : State) (f : Fault) (w : Word) → goes words ws s ≡ Err (f, Some w) → Stopped words ws s f w
unfolding goes
stopped [] ws s f w e = absurd (subst IsTaken e (ends_taken ws s))
stopped (v ∷ words) ws s f w e = stopped_by v words ws s f w (λ ws' s' e'. stopped words ws' s' f w e') (step v ws s) refl e
