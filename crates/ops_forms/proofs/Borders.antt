-- Where what is read begins and ends among its words and its tokens.
use Rattle.std.proofs.Common.{◌≡◌, ℕ, zero, suc, ◌+◌, ◌-◌, ◌≤◌, List, [], ◌∷◌, ◌++◌, length, take, drop, slice_get, None, Some, Ok, Err, refl, sym, ap, ◌∙◌, subst, arith}
use Rattle.std.proofs.lemmas.List.{take-append-drop, take_all, length-drop}
use Rattle.std.proofs.Math.Seq.{drop-append-add}
use Rattle.std.proofs.Math.ListN.{length-append}
use Rattle.ops_base.specs.declared.endings.Fault.{Fault}
use Rattle.ops_base.specs.declared.endings.Fault.TheVariants as fault
use Rattle.ops_base.specs.Names.{Spellings}
use Rattle.ops_tokens.specs.declared.token.Token.{Token}
use Rattle.ops_tokens.specs.Tokens.{spelling}
use Rattle.ops_grammar.specs.declared.words.Word.{Word}
use Rattle.ops_grammar.specs.Words.{keyword_in, names_with, words_from, names_from, keyword_before}
use Rattle.ops_grammar.specs.Grammar.{Wanted, Forms, State, Step, Next, Refuses, Outcome, after, step, ends, goes}
use Rattle.ops_forms.specs.Forms.{past_last}
use Rattle.ops_forms.specs.PlaceWalks.{AreBehind, IsBehind, words_of_scope}
use Rattle.ops_forms.specs.declared.scope.Scope.{Scope}

-- ---- of words

abbrev pub behind_is : (is_it : Word → Type 0) (words : List Word) (next : ℕ) → IsBehind is_it words next → AreBehind is_it words (take (length words - next) (drop next words))
behind_is is_it words next b =
    let whole = take_all (length words - next) (drop next words) (omega (arith, length-drop next words)) in
    record {
      before = take b.before words;
      last = b.last;
      split = sym (take-append-drop b.before words) ∙ ap (λ (more : List Word). take b.before words ++ more) (b.there ∙ ap (λ (more : List Word). b.last ∷ more) (sym whole));
      is = b.is;
    }

-- where the words end too early, a form is open
abbrev IsOpen : Outcome → Type 0
IsOpen (Ok s) = Unit {0}
IsOpen (Err (f, None)) = f ≡ fault.Unclosed
IsOpen (Err (f, Some w)) = Unit {0}

ends_open : (ws : List Wanted) (s : State) → IsOpen (ends ws s)
unfolding ends
ends_open [] s = tt
ends_open (Forms ∷ ws) s = ends_open ws s
ends_open (w ∷ ws) s = refl

step_open : (rest : List Wanted → State → Outcome) (w : Word) → ((ws : List Wanted) (s : State) → IsOpen (rest ws s)) → (r : Step) → IsOpen (after rest w r)
step_open rest w ih (Next ws s) = ih ws s
step_open rest w ih (Refuses f) = tt

goes_open : (words : List Word) (ws : List Wanted) (s : State) → IsOpen (goes words ws s)
unfolding goes
goes_open [] ws s = ends_open ws s
goes_open (w ∷ words) ws s = step_open (goes words) w (goes_open words) (step w ws s)

-- a refusal without a word is that of a form that is open
pub is_unclosed : (words : List Word) (ws : List Wanted) (s : State) (f : Fault) → goes words ws s ≡ Err (f, None) → f ≡ fault.Unclosed
is_unclosed words ws s f e = subst IsOpen e (goes_open words ws s)

-- ---- of tokens

pub past_at_last : (from : ℕ) (ts : List Token) (t : Token) → slice_get ts (length ts - 1) ≡ Some t → past_last from ts ≡ t.past
past_at_last from [] t e = absurd (cc)
past_at_last from (u ∷ []) t e = ap (λ (x : Token). x.past) (let same : u ≡ t = cc in same)
past_at_last from (u ∷ v ∷ ts) t e =
    let one : length (u ∷ v ∷ ts) - 1 ≡ suc (length (v ∷ ts) - 1) = omega arith in
    past_at_last u.past (v ∷ ts) t (rw one at e)

words_length : (text : List ℕ) (names : Spellings) (ts : List Token) → length (words_from text names ts) ≡ length ts
words_length text names [] = refl
words_length text names (t ∷ ts) = ap suc (words_length text (names_with names t.kind (spelling text t)) ts)

-- the tokens from a place on, as a slice has them
pub whole_tokens : (tokens : List Token) (from : ℕ) → take (length tokens - from) (drop from tokens) ≡ drop from tokens
whole_tokens tokens from = take_all (length tokens - from) (drop from tokens) (omega (arith, length-drop from tokens))

module _ (scope : Scope) (tokens : List Token) (from : ℕ) (text : List ℕ) (same : text ≡ scope.text.items) where
  pub words_made : words_from text scope.names (take (length tokens - from) (drop from tokens)) ≡ words_of_scope scope tokens from
  words_made = rw (same, whole_tokens tokens from) refl

  pub names_made : names_from text scope.names (take (length tokens - from) (drop from tokens)) ≡ names_from scope.text.items scope.names (drop from tokens)
  names_made = rw (same, whole_tokens tokens from) refl

-- the token of a word
pub record IsTokenOf (text : List ℕ) (ts : List Token) (place : ℕ) (w : Word) : Type 0 where
  pub token : Token
  pub there : slice_get ts place ≡ Some token
  pub kind : token.kind ≡ w.kind
  pub names : Spellings
  pub after : List Token
  pub keyword : keyword_before (keyword_in text names token) after ≡ w.keyword

token_of : (text : List ℕ) (names : Spellings) (ts : List Token) (before rest : List Word) (w : Word) → words_from text names ts ≡ before ++ w ∷ rest → IsTokenOf text ts (length before) w
token_of text names [] [] rest w e = absurd (cc)
token_of text names [] (b ∷ before) rest w e = absurd (cc)
token_of text names (t ∷ ts) [] rest w e = record { token = t; there = refl; kind = cc; names = names; after = ts; keyword = cc }
token_of text names (t ∷ ts) (b ∷ before) rest w e =
    let found = token_of text (names_with names t.kind (spelling text t)) ts before rest w (cc) in
    record { token = found.token; there = found.there; kind = found.kind; names = found.names; after = found.after; keyword = found.keyword }

get_behind : (from k : ℕ) (ts : List Token) → from ≤ length ts → slice_get (drop from ts) k ≡ slice_get ts (from + k)
get_behind zero k ts le =
    let same : k ≡ 0 + k = omega arith in
    ap (slice_get ts) same
get_behind (suc from) k [] le = absurd (omega arith)
get_behind (suc from) k (t ∷ ts) le =
    let more : suc from + k ≡ suc (from + k) = omega arith in
    get_behind from k ts (omega arith) ∙ sym (ap (slice_get (t ∷ ts)) more)

module _ (is_it : Word → Type 0) (scope : Scope) (tokens : List Token) (from : ℕ) (rest : List Word) (le : from ≤ length tokens) (b : AreBehind is_it (words_of_scope scope tokens from) rest) where
  -- as many tokens as words
  pub counted : length tokens ≡ from + (length b.before + (1 + length rest))
  counted =
      let words = words_length scope.text.items scope.names (drop from tokens) in
      let split = ap (λ (ws : List Word). length ws) b.split ∙ length-append b.before (b.last ∷ rest) in
      omega (arith, words, split, length-drop from tokens)

  place_is : length tokens - length rest - 1 ≡ from + length b.before
  place_is = omega (arith, counted)

  pub begins : from ≤ length tokens - length rest - 1
  begins = omega (arith, counted)

  -- the words after the place
  pub rest_is : drop (length tokens - length rest - 1 + 1 - from) (words_of_scope scope tokens from) ≡ rest
  rest_is =
      let next : length tokens - length rest - 1 + 1 - from ≡ length b.before + 1 = omega (arith, counted) in
      ap (λ (n : ℕ). drop n (words_of_scope scope tokens from)) next ∙ ap (drop (length b.before + 1)) b.split ∙ drop-append-add b.before (b.last ∷ rest) 1

  -- the token at the place
  pub last_is : IsTokenOf scope.text.items tokens (length tokens - length rest - 1) b.last
  last_is =
      let found = token_of scope.text.items scope.names (drop from tokens) b.before rest b.last b.split in
      record {
        token = found.token;
        there = ap (slice_get tokens) place_is ∙ sym (get_behind from (length b.before) tokens le) ∙ found.there;
        kind = found.kind;
        names = found.names;
        after = found.after;
        keyword = found.keyword;
      }
