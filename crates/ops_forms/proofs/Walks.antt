-- Steps of a walk by places in words, in every state of a kind.
use Rattle.std.proofs.Common.{◌≡◌, ℕ, zero, suc, ◌+◌, ◌<◌, ◌≤◌, List, [], ◌∷◌, ◌++◌, take, drop, None, Some, Result, Ok, Err, refl, ◌∙◌, arith}
use Rattle.ops_base.specs.declared.endings.Fault.{Fault}
use Rattle.ops_grammar.specs.declared.words.Word.{Word}
use Rattle.ops_grammar.specs.Grammar.{Wanted, State, Step, Next, Refuses, after, step, goes}
use Rattle.ops_forms.specs.declared.refusals.Refusal.{Refusal}
use Rattle.ops_forms.specs.declared.refusals.Refusal.TheVariants as refusal
use Rattle.ops_forms.specs.PlaceWalks.{Way, Fails, GoesOn, FailsAmong, GoesAmong, GoesToAmong, CutGoesAmong, PeekGoesToAmong, CutWay, Onward, goes_onward, IsFrom}

-- a word is taken also where the words are cut after it
pub cut_taken : (words : List Word) (at next n : ℕ) (w : Word) → drop at words ≡ w ∷ drop next words → next ≡ at + 1 → at < n → drop at (take n words) ≡ w ∷ drop next (take n words)
cut_taken words at next n w e is lt = let here : next ≡ suc at = omega (arith, is) in rw here (by words at n (rw here at e) lt)
  where
    by : (words : List Word) (at n : ℕ) → drop at words ≡ w ∷ drop (suc at) words → at < n → drop at (take n words) ≡ w ∷ drop (suc at) (take n words)
    by [] zero n e lt = absurd (cc)
    by [] (suc at) n e lt = absurd (cc)
    by (x ∷ words) at zero e lt = absurd (omega (arith, lt))
    by (x ∷ words) zero (suc n) e lt = grind arith
    by (x ∷ words) (suc at) (suc n) e lt = by words at n e (omega (arith, lt))

-- the words go on to what goes on after them
pub goes_split : (words more : List Word) (ws : List Wanted) (s : State) → goes (words ++ more) ws s ≡ goes_onward (goes more) words ws s
unfolding goes goes_onward
goes_split [] more ws s = refl
goes_split (w ∷ words) more ws s = by (goes_split words more) (step w ws s)
  where
    by : ((ws : List Wanted) (s : State) → goes (words ++ more) ws s ≡ goes_onward (goes more) words ws s) → (r : Step) → after (goes (words ++ more)) w r ≡ after (goes_onward (goes more) words) w r
    by same (Next ws s) = same ws s
    by same (Refuses f) = refl

-- after the words that were taken none is left
pub taken_all : (n : ℕ) (words : List Word) → drop n (take n words) ≡ []
taken_all zero words = refl
taken_all (suc n) [] = refl
taken_all (suc n) (w ∷ words) = taken_all n words

-- what is done where the words end is done there
pub taken_goes : (on : Onward) (n : ℕ) (words : List Word) (ws : List Wanted) (s : State) → goes_onward on (drop n (take n words)) ws s ≡ on ws s
unfolding goes_onward
taken_goes on n words ws s = rw (taken_all n words) refl

-- what fails on one way fails on a way that is the same
pub fails_as : (from by : Way) → ((more : List Word) (ws : List Wanted) (s : State) → from more ws s ≡ by more ws s) → (e : Refusal) → Fails by e → Fails from e
fails_as from by same refusal.OutOfMemory h = tt
fails_as from by same (refusal.At f None) h = λ ws s. same [] ws s ∙ h ws s
fails_as from by same (refusal.At f (Some w)) h = λ more ws s. same more ws s ∙ h more ws s

-- what fails whatever is wanted afterwards fails where more is
pub fails_under : (by : Way) (under : List Wanted → List Wanted) (e : Refusal) → Fails by e → Fails (λ more ws s. by more (under ws) s) e
fails_under by under refusal.OutOfMemory h = tt
fails_under by under (refusal.At f None) h = λ ws. h (under ws)
fails_under by under (refusal.At f (Some w)) h = λ more ws. h more (under ws)

pub goes_as : (from by : Way) → ((more : List Word) (ws : List Wanted) (s : State) → from more ws s ≡ by more ws s) → (words : List Word) (new : State → State) (r : Result ℕ Refusal) → GoesOn by words new r → GoesOn from words new r
goes_as from by same words new (Ok next) h = λ more ws s. same more ws s ∙ h more ws s
goes_as from by same words new (Err e) h = fails_as from by same e h

module _ (holds : State → Type 0) where
  pub fails_as_among : (from by : Way) → ((more : List Word) (ws : List Wanted) (s : State) → holds s → from more ws s ≡ by more ws s) → (e : Refusal) → FailsAmong holds by e → FailsAmong holds from e
  fails_as_among from by same refusal.OutOfMemory h = tt
  fails_as_among from by same (refusal.At f None) h = λ ws s i. same [] ws s i ∙ h ws s i
  fails_as_among from by same (refusal.At f (Some w)) h = λ more ws s i. same more ws s i ∙ h more ws s i

  pub fails_under_among : (by : Way) (under : List Wanted → List Wanted) (e : Refusal) → FailsAmong holds by e → FailsAmong holds (λ more ws s. by more (under ws) s) e
  fails_under_among by under refusal.OutOfMemory h = tt
  fails_under_among by under (refusal.At f None) h = λ ws. h (under ws)
  fails_under_among by under (refusal.At f (Some w)) h = λ more ws. h more (under ws)

  pub goes_as_among : (from by : Way) → ((more : List Word) (ws : List Wanted) (s : State) → holds s → from more ws s ≡ by more ws s) → (words : List Word) (new : State → State) (r : Result ℕ Refusal) → GoesAmong holds by words new r → GoesAmong holds from words new r
  goes_as_among from by same words new (Ok next) h = λ more ws s i. same more ws s i ∙ h more ws s i
  goes_as_among from by same words new (Err e) h = fails_as_among from by same e h

  -- what a call fails in that is refused at a word
  pub refused_among : (from : Way) (f : Fault) (w : Word) → ((more : List Word) (ws : List Wanted) (s : State) → holds s → from more ws s ≡ Err (f, Some w)) → (words : List Word) (new : State → State) (r : Result ℕ Refusal) → r ≡ Err (refusal.At f (Some w)) → GoesAmong holds from words new r
  refused_among from f w h words new r e = rw e h

  -- the same, up to where that is wanted
  pub goes_to_as_among : (wanted : Wanted) (from by : Way) → ((more : List Word) (ws : List Wanted) (s : State) → holds s → from more ws s ≡ by more ws s) → (words : List Word) (new : State → State) (r : Result ℕ Refusal) → GoesToAmong holds wanted by words new r → GoesToAmong holds wanted from words new r
  goes_to_as_among wanted from by same words new (Ok next) h = λ more ws s i. same more ws s i ∙ h more ws s i
  goes_to_as_among wanted from by same words new (Err e) h = fails_as_among from by same e h

  pub to_refused_among : (wanted : Wanted) (from : Way) (f : Fault) (w : Word) → ((more : List Word) (ws : List Wanted) (s : State) → holds s → from more ws s ≡ Err (f, Some w)) → (words : List Word) (new : State → State) (r : Result ℕ Refusal) → r ≡ Err (refusal.At f (Some w)) → GoesToAmong holds wanted from words new r
  to_refused_among wanted from f w h words new r e = rw e h

  -- what is read whatever is wanted afterwards is read up to what is
  pub goes_to_among : (wanted : Wanted) (by : Way) (words : List Word) (new : State → State) (r : Result ℕ Refusal) → GoesAmong holds by words new r → GoesToAmong holds wanted (λ more ws s. by more (wanted ∷ ws) s) words new r
  goes_to_among wanted by words new (Ok next) h = λ more ws. h more (wanted ∷ ws)
  goes_to_among wanted by words new (Err e) h = fails_under_among by (λ ws. wanted ∷ ws) e h

  -- a refusal in every state
  pub fails_anywhere : (from by : Way) → ((more : List Word) (ws : List Wanted) (s : State) → holds s → from more ws s ≡ by more ws s) → (e : Refusal) → Fails by e → FailsAmong holds from e
  fails_anywhere from by same refusal.OutOfMemory h = tt
  fails_anywhere from by same (refusal.At f None) h = λ ws s i. same [] ws s i ∙ h ws s
  fails_anywhere from by same (refusal.At f (Some w)) h = λ more ws s i. same more ws s i ∙ h more ws s

  -- ---- where the words are cut

  pub cut_goes_as_among : (from by : CutWay) (words : List Word) (at : ℕ) → ((n : ℕ) → at ≤ n → (on : Onward) (ws : List Wanted) (s : State) → holds s → from (take n words) on ws s ≡ by (take n words) on ws s) → (new : State → State) (r : Result ℕ Refusal) → IsFrom at r → CutGoesAmong holds by words new r → CutGoesAmong holds from words new r
  cut_goes_as_among from by words at same new (Ok next) le h = λ n lt on ws s i. same n (omega (arith, le, lt)) on ws s i ∙ h n lt on ws s i
  cut_goes_as_among from by words at same new (Err e) le h = tt

  pub peek_goes_to_as_among : (wanted : Wanted) (from by : CutWay) (words : List Word) (at : ℕ) → ((n : ℕ) → at ≤ n → (on : Onward) (ws : List Wanted) (s : State) → holds s → from (take n words) on ws s ≡ by (take n words) on ws s) → (new : State → State) (r : Result ℕ Refusal) → IsFrom at r → PeekGoesToAmong holds wanted by words new r → PeekGoesToAmong holds wanted from words new r
  peek_goes_to_as_among wanted from by words at same new (Ok next) le h = λ n lt on ws s i. same n (omega (arith, le, lt)) on ws s i ∙ h n lt on ws s i
  peek_goes_to_as_among wanted from by words at same new (Err e) le h = tt

  pub peek_goes_to_among : (wanted : Wanted) (by : CutWay) (words : List Word) (new : State → State) (r : Result ℕ Refusal) → CutGoesAmong holds by words new r → PeekGoesToAmong holds wanted (λ cut on ws s. by cut on (wanted ∷ ws) s) words new r
  peek_goes_to_among wanted by words new (Ok next) h = λ n lt on ws. h n (omega (arith, lt)) on (wanted ∷ ws)
  peek_goes_to_among wanted by words new (Err e) h = tt
