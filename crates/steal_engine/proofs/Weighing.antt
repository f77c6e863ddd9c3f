-- Weights of deques.
use Rattle.std.proofs.Common.{◌≡◌, ℕ, ◌+◌, List, [], ◌∷◌, ◌++◌, ap, sym, refl, subst, ◌∙◌, sum_by, arith, map, length, drop, All}
use Rattle.std.proofs.lemmas.List.Sums.{sum_by-append, sum_by-cons}
use Rattle.std.proofs.lemmas.List.Elements.{All-nil, All-cons, All-append, All-head, All-tail, All-push}
use Rattle.std.proofs.lemmas.List.{map-append, length-append}
use Rattle.task_deque.specs.declared.handles.OwnEnd.{OwnEnd}
use Rattle.task_deque.specs.declared.handles.ThiefEnd.{ThiefEnd}
use Rattle.task_deque.specs.Ends.{pushed, popped, of, thief_of, thief_stolen}
use Rattle.net_base.specs.declared.tasks.Task.{Task}
use Rattle.steal_engine.specs.Team.{AreOf, IsFresh}

pub none_there : {A : Type 0} (xs : List A) → length xs ≡ 0 → xs ≡ []
none_there [] e = refl
none_there (x ∷ xs) e = absurd (omega (arith, e))

pub more : {A : Type 0} (P : A → Type 0) (old new : List A) (x : A) → new ≡ old ++ x ∷ [] → All P old → P x → All P new
more P old new x is all one = subst (All P) (sym is) (All-push P old x all one)

pub first_of : {A : Type 0} (P : A → Type 0) (old rest : List A) (x : A) → old ≡ x ∷ rest → All P old → P x
first_of P old rest x is all = All-head P x rest (subst (All P) is all)

pub others_of : {A : Type 0} (P : A → Type 0) (old rest : List A) (x : A) → old ≡ x ∷ rest → All P old → All P rest
others_of P old rest x is all = All-tail P x rest (subst (All P) is all)

module _ {J : Type 0} where
  pub fresh_more : (old new : List (OwnEnd J)) (e : OwnEnd J) → new ≡ old ++ e ∷ [] → All IsFresh old → IsFresh e → All IsFresh new
  fresh_more old new e is all one = subst (All IsFresh) (sym is) (All-append IsFresh old (e ∷ []) all (All-cons IsFresh e [] one (All-nil IsFresh)))

  pub rest_of : (old rest : List (OwnEnd J)) (old' rest' : List (ThiefEnd J)) (own : OwnEnd J) (thief : ThiefEnd J) → old ≡ own ∷ rest → old' ≡ thief ∷ rest' → AreOf old old' → AreOf rest rest'
  rest_of old rest old' rest' own thief is is' are =
      let e : map of (own ∷ rest) ≡ map thief_of (thief ∷ rest') = ap (map of) (sym is) ∙ (are ∙ ap (map thief_of) is') in ap (drop 1) e

module _ {J : Type 0} (h : Task → ℕ) where
  abbrev w : OwnEnd J → ℕ
  w e = sum_by h (pushed e)

  abbrev p : OwnEnd J → ℕ
  p e = sum_by h (popped e)

  abbrev s : ThiefEnd J → ℕ
  s e = sum_by h (thief_stolen e)

  pub dealt : (old rest new : List (OwnEnd J)) (first own : OwnEnd J) (x : Task) → old ≡ first ∷ rest → new ≡ rest ++ own ∷ [] → pushed own ≡ pushed first ++ x ∷ []
      → sum_by w new ≡ sum_by w old + sum_by h (x ∷ [])
  dealt old rest new first own x is_old is_new more =
      let a : sum_by w old ≡ w first + sum_by w rest = ap (sum_by w) is_old ∙ sum_by-cons w first rest in
      let b : sum_by w new ≡ sum_by w rest + sum_by w (own ∷ []) = ap (sum_by w) is_new ∙ sum_by-append w rest (own ∷ []) in
      let c : sum_by w (own ∷ []) ≡ w own + sum_by w [] = sum_by-cons w own [] in
      let d : w own ≡ w first + sum_by h (x ∷ []) = ap (sum_by h) more ∙ sum_by-append h (pushed first) (x ∷ []) in
      omega (arith, a, b, c, d)

  pub one_empty : (old new : List (OwnEnd J)) (e : OwnEnd J) → new ≡ old ++ e ∷ [] → pushed e ≡ [] → sum_by w old ≡ 0 → sum_by w new ≡ 0
  one_empty old new e is none zero_old =
      let b : sum_by w new ≡ sum_by w old + sum_by w (e ∷ []) = ap (sum_by w) is ∙ sum_by-append w old (e ∷ []) in
      let c : sum_by w (e ∷ []) ≡ w e + sum_by w [] = sum_by-cons w e [] in
      let d : w e ≡ sum_by h [] = ap (sum_by h) none in
      omega (arith, b, c, d, zero_old)

  pub one_taken : (all popped_all stolen_all left left' : ℕ) (old rest : List (OwnEnd J)) (old' rest' : List (ThiefEnd J)) (own : OwnEnd J) (thief : ThiefEnd J)
      → old ≡ own ∷ rest → old' ≡ thief ∷ rest'
      → all + (sum_by p old + sum_by s old') ≡ ((popped_all + stolen_all) + left) + sum_by w old
      → w own + left ≡ (p own + s thief) + left'
      → all + (sum_by p rest + sum_by s rest') ≡ ((popped_all + stolen_all) + left') + sum_by w rest
  one_taken all popped_all stolen_all left left' old rest old' rest' own thief is is' inv took =
      let a : sum_by w old ≡ w own + sum_by w rest = ap (sum_by w) is ∙ sum_by-cons w own rest in
      let b : sum_by p old ≡ p own + sum_by p rest = ap (sum_by p) is ∙ sum_by-cons p own rest in
      let c : sum_by s old' ≡ s thief + sum_by s rest' = ap (sum_by s) is' ∙ sum_by-cons s thief rest' in
      omega (arith, inv, took, a, b, c)

  none_stolen : (old' : List (ThiefEnd J)) → AreOf {J = J} [] old' → sum_by s old' ≡ 0
  none_stolen [] are = refl
  none_stolen (t ∷ ts) are = absurd (let e = ap length are in omega (arith, e))

  pub all_taken : (all popped_all stolen_all left : ℕ) (old : List (OwnEnd J)) (old' : List (ThiefEnd J)) → old ≡ [] → AreOf old old'
      → all + (sum_by p old + sum_by s old') ≡ ((popped_all + stolen_all) + left) + sum_by w old
      → all ≡ (popped_all + stolen_all) + left
  all_taken all popped_all stolen_all left old old' is are inv =
      let a : sum_by w old ≡ 0 = ap (sum_by w) is in
      let b : sum_by p old ≡ 0 = ap (sum_by p) is in
      let c = none_stolen old' (subst (λ o. AreOf o old') is are) in
      omega (arith, inv, a, b, c)

  -- one goes from the first row to the second, and its weight stays
  pub one_lent : (all : ℕ) (left rest lent lent' : List (OwnEnd J)) (first own : OwnEnd J) → left ≡ first ∷ rest → lent' ≡ lent ++ own ∷ [] → pushed own ≡ pushed first
      → sum_by w lent + sum_by w left ≡ all → sum_by w lent' + sum_by w rest ≡ all
  one_lent all left rest lent lent' first own is is' same inv =
      let a : sum_by w left ≡ w first + sum_by w rest = ap (sum_by w) is ∙ sum_by-cons w first rest in
      let b : sum_by w lent' ≡ sum_by w lent + sum_by w (own ∷ []) = ap (sum_by w) is' ∙ sum_by-append w lent (own ∷ []) in
      let c : sum_by w (own ∷ []) ≡ w own + sum_by w [] = sum_by-cons w own [] in
      let d : w own ≡ w first = ap (sum_by h) same in
      omega (arith, inv, a, b, c, d)

  pub all_lent : (all : ℕ) (left lent : List (OwnEnd J)) → left ≡ [] → sum_by w lent + sum_by w left ≡ all → sum_by w lent ≡ all
  all_lent all left lent none inv = let a : sum_by w left ≡ 0 = ap (sum_by w) none in omega (arith, inv, a)

module _ {J : Type 0} where
  pub of_more : (owns owns' : List (OwnEnd J)) (thieves thieves' : List (ThiefEnd J)) (own : OwnEnd J) (thief : ThiefEnd J)
      → owns' ≡ owns ++ own ∷ [] → thieves' ≡ thieves ++ thief ∷ [] → thief_of thief ≡ of own → AreOf owns thieves → AreOf owns' thieves'
  of_more owns owns' thieves thieves' own thief is is' same are =
      ap (map of) is ∙ (map-append of owns (own ∷ []) ∙ (ap (λ l. l ++ of own ∷ []) are ∙ (ap (λ d. map thief_of thieves ++ d ∷ []) (sym same) ∙ (sym (map-append thief_of thieves (thief ∷ [])) ∙ ap (map thief_of) (sym is')))))

pub count_lent : {A : Type 0} (all : ℕ) (left rest lent lent' : List A) (first own : A) → left ≡ first ∷ rest → lent' ≡ lent ++ own ∷ [] → length lent + length left ≡ all → length lent' + length rest ≡ all
count_lent all left rest lent lent' first own is is' inv =
    let a : length left ≡ length (first ∷ rest) = ap length is in
    let b : length lent' ≡ length lent + length (own ∷ []) = ap length is' ∙ length-append lent (own ∷ []) in
    omega (arith, inv, a, b)
