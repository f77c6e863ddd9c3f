-- Tokens that are put together, where the brackets are.
use Rattle.std.proofs.Common.{◌≡◌, ℕ, suc, ◌+◌, ◌-◌, ◌<◌, ◌≤◌, ◌==◌, ◌&&◌, not, Bool, true, false, cond, true≢false, arith, List, [], ◌∷◌, ◌++◌, length, refl, sym, ap, ◌∙◌, subst}
use Rattle.std.proofs.lemmas.Bool.{and_parts, cond_both, eqb-true, eqb-false}
use Rattle.std.proofs.lemmas.Grind.{common_steps}
use Rattle.ops_tokens.specs.Tokens.{spelling}
use Rattle.ops_tokens.specs.declared.token.Token.{Token}
use Rattle.ops_tokens.specs.declared.token.TokenKind.{TokenKind}
use Rattle.ops_tokens.specs.declared.token.TokenKind.TheVariants as kind
use Rattle.ops_grammar.specs.declared.words.Keyword.{Keyword}
use Rattle.ops_grammar.specs.declared.words.Keyword.TheVariants as keyword
use Rattle.ops_grammar.specs.declared.words.Region.{Region}
use Rattle.ops_grammar.specs.Words.{keyword_of, outside, closed, region_behind, region_after, takes_holes, is_remainder, is_pair, pair, joined}
use Rattle.ops_grammar.specs.Grammar.{is_left, is_variable}
use Rattle.ops_forms.specs.Forms.{open_behind, is_last, closes_last, stays_open, opens}

-- ---- how many brackets are open

deep : (r : Region) (k : TokenKind) (w : Keyword) → (region_behind r k w).depth ≡ open_behind r.depth k
deep r k w = grind (arith, common_steps)

-- the two that are put together are no brackets
first_keeps : (k : TokenKind) (s : List ℕ) (n : ℕ) → is_remainder (keyword_of k s) ≡ true → open_behind n k ≡ n
first_keeps kind.Symbol s n e = refl
first_keeps kind.Operator s n e = refl
first_keeps _ s n e = absurd (true≢false (sym e))

second_keeps : (k : TokenKind) (n : ℕ) → is_variable k ≡ true → open_behind n k ≡ n
second_keeps kind.Variable n e = refl
second_keeps _ n e = absurd (true≢false (sym e))

record IsPair (text : List ℕ) (t u : Token) : Type 0 where
  first : (n : ℕ) → open_behind n t.kind ≡ n
  second : (n : ℕ) → open_behind n u.kind ≡ n

pair_keeps : (text : List ℕ) (r : Region) (t u : Token) → is_pair text r t u ≡ true → IsPair text t u
pair_keeps text r t u e =
    let first = is_remainder (keyword_of t.kind (spelling text t)) in
    let parts = and_parts (takes_holes r.within && first) (is_variable u.kind) e in
    let both = and_parts (takes_holes r.within) first parts.0 in
    record { first = λ n. first_keeps t.kind (spelling text t) n both.1; second = λ n. second_keeps u.kind n parts.1 }

-- a bracket is put together with nothing
no_pair : (text : List ℕ) (r : Region) (t u : Token) → open_behind 1 t.kind ≡ 0 → is_pair text r t u ≡ false
no_pair text r t u e = by (is_pair text r t u) refl
  where
    by : (b : Bool) → is_pair text r t u ≡ b → b ≡ false
    by true is = absurd (let p = pair_keeps text r t u is in omega (arith, p.first 1, e))
    by false is = refl

-- ---- where the last bracket closes

pub still_open : (b : Bool) (m : ℕ) (v : Token) (ts : List Token) → (m == 0) ≡ b → cond b false (closes_last m (v ∷ ts)) ≡ true → (1 ≤ m) × (closes_last m (v ∷ ts) ≡ true)
still_open true m v ts is c = absurd (true≢false (sym c))
still_open false m v ts is c = let apart : m ≡ 0 → ⊥ = eqb-false m 0 is in (omega arith, c)

pub all_closed : (b : Bool) (m : ℕ) → (m == 0) ≡ b → cond b true false ≡ true → m ≡ 0
all_closed true m is c = eqb-true m 0 is
all_closed false m is c = absurd (true≢false (sym c))

-- a token after which as many brackets are open closes none
goes_past : (n m : ℕ) (ts : List Token) (b : Bool) → m ≡ n → 1 ≤ n → (m == 0) ≡ b → cond b (is_last ts) (closes_last m ts) ≡ true → closes_last n ts ≡ true
goes_past n m ts true same some is c = absurd (let none = eqb-true m 0 is in omega (arith, none, same, some))
goes_past n m ts false same some is c = subst (λ (k : ℕ). closes_last k ts ≡ true) same c

put_past : (n m : ℕ) (ts : List Token) (b : Bool) → m ≡ n → 1 ≤ n → (m == 0) ≡ b → closes_last n ts ≡ true → cond b (is_last ts) (closes_last m ts) ≡ true
put_past n m ts true same some is c = absurd (let none = eqb-true m 0 is in omega (arith, none, same, some))
put_past n m ts false same some is c = subst (λ (k : ℕ). closes_last k ts ≡ true) (sym same) c

shut : (r : Region) (k : TokenKind) (w : Keyword) → 1 ≤ r.depth → open_behind r.depth k ≡ 0 → region_behind r k w ≡ outside
shut r k w some none = grind (arith, common_steps)

joined_apart : (text : List ℕ) (r : Region) (ts us : List Token) (n : ℕ) → r.depth ≡ n → 1 ≤ n → closes_last n ts ≡ true → joined text r (ts ++ us) ≡ joined text r ts ++ joined text outside us
joined_apart text r [] us n same some c = absurd (true≢false (sym c))
joined_apart text r (t ∷ []) [] n same some c = refl
joined_apart text r (t ∷ []) (u ∷ us) n same some c =
    let none : open_behind n t.kind ≡ 0 = all_closed (open_behind n t.kind == 0) (open_behind n t.kind) refl c in
    let here : open_behind r.depth t.kind ≡ 0 = ap (λ (m : ℕ). open_behind m t.kind) same ∙ none in
    let out : region_after text r t ≡ outside = shut r t.kind (keyword_of t.kind (spelling text t)) (omega (arith, same, some)) here in
    cond_both (is_pair text r t u) _ _ (λ x. x ≡ t ∷ joined text outside (u ∷ us))
    (λ is. absurd (let p = pair_keeps text r t u is in omega (arith, p.first n, none, some)))
    (λ _. ap (λ (x : Region). t ∷ joined text x (u ∷ us)) out)
joined_apart text r (t ∷ u ∷ ts) us n same some c =
    let on = still_open (open_behind n t.kind == 0) (open_behind n t.kind) u ts refl c in
    let next : Region = region_after text r t in
    let one : next.depth ≡ open_behind n t.kind = deep r t.kind (keyword_of t.kind (spelling text t)) ∙ ap (λ (m : ℕ). open_behind m t.kind) same in
    let last : Region = region_after text next u in
    let two : last.depth ≡ open_behind (open_behind n t.kind) u.kind = deep next u.kind (keyword_of u.kind (spelling text u)) ∙ ap (λ (m : ℕ). open_behind m u.kind) one in
    both (is_pair text r t u) refl
    (λ is.
    let p = pair_keeps text r t u is in
    let kept : open_behind (open_behind n t.kind) u.kind ≡ n = p.second (open_behind n t.kind) ∙ p.first n in
    ap (λ (xs : List Token). pair t u ∷ xs) (joined_apart text last ts us n (two ∙ kept) some
    (goes_past n (open_behind (open_behind n t.kind) u.kind) ts (open_behind (open_behind n t.kind) u.kind == 0) kept some refl on.1)))
    (λ _. ap (λ (xs : List Token). t ∷ xs) (joined_apart text next (u ∷ ts) us (open_behind n t.kind) one on.0 on.1))
  where
    both : (b : Bool) → is_pair text r t u ≡ b
        → (is_pair text r t u ≡ true → pair t u ∷ joined text (region_after text (region_after text r t) u) (ts ++ us) ≡ (pair t u ∷ joined text (region_after text (region_after text r t) u) ts) ++ joined text outside us)
        → (is_pair text r t u ≡ false → t ∷ joined text (region_after text r t) (u ∷ ts ++ us) ≡ (t ∷ joined text (region_after text r t) (u ∷ ts)) ++ joined text outside us)
        → joined text r (t ∷ u ∷ ts ++ us) ≡ joined text r (t ∷ u ∷ ts) ++ joined text outside us
    both true is paired single = rw is (paired is)
    both false is paired single = rw is (single is)

joined_closes : (text : List ℕ) (r : Region) (ts : List Token) (n : ℕ) → 1 ≤ n → closes_last n ts ≡ true → closes_last n (joined text r ts) ≡ true
joined_closes text r [] n some c = c
joined_closes text r (t ∷ []) n some c = c
joined_closes text r (t ∷ u ∷ ts) n some c =
    let on = still_open (open_behind n t.kind == 0) (open_behind n t.kind) u ts refl c in
    cond_both (is_pair text r t u) _ _ (λ xs. closes_last n xs ≡ true)
    (λ is.
    let p = pair_keeps text r t u is in
    let kept : open_behind (open_behind n t.kind) u.kind ≡ n = p.second (open_behind n t.kind) ∙ p.first n in
    let more = goes_past n (open_behind (open_behind n t.kind) u.kind) ts (open_behind (open_behind n t.kind) u.kind == 0) kept some refl on.1 in
    put_past n n (joined text (region_after text (region_after text r t) u) ts) (n == 0) refl some refl (joined_closes text (region_after text (region_after text r t) u) ts n some more))
    (λ _. put_on (open_behind n t.kind) (joined text (region_after text r t) (u ∷ ts)) (open_behind n t.kind == 0) on.0 refl (joined_closes text (region_after text r t) (u ∷ ts) (open_behind n t.kind) on.0 on.1))
  where
    put_on : (m : ℕ) (xs : List Token) (b : Bool) → 1 ≤ m → (m == 0) ≡ b → closes_last m xs ≡ true → cond b (is_last xs) (closes_last m xs) ≡ true
    put_on m xs true some is c = absurd (let none = eqb-true m 0 is in omega (arith, none, some))
    put_on m xs false some is c = c

-- ---- where a bracket stays open

open_on : (b : Bool) (m : ℕ) (ts : List Token) → (m == 0) ≡ b → (not b && stays_open m ts) ≡ true → (1 ≤ m) × (stays_open m ts ≡ true)
open_on true m ts is c = absurd (true≢false (sym c))
open_on false m ts is c = let apart : m ≡ 0 → ⊥ = eqb-false m 0 is in (omega arith, c)

keep_open : (b : Bool) (m : ℕ) (ts : List Token) → (m == 0) ≡ b → 1 ≤ m → stays_open m ts ≡ true → (not b && stays_open m ts) ≡ true
keep_open true m ts is some c = absurd (let none = eqb-true m 0 is in omega (arith, none, some))
keep_open false m ts is some c = c

joined_stays : (text : List ℕ) (r : Region) (ts : List Token) (n : ℕ) → stays_open n ts ≡ true → stays_open n (joined text r ts) ≡ true
joined_stays text r [] n c = c
joined_stays text r (t ∷ []) n c = c
joined_stays text r (t ∷ u ∷ ts) n c =
    let on = open_on (open_behind n t.kind == 0) (open_behind n t.kind) (u ∷ ts) refl c in
    let more = open_on (open_behind (open_behind n t.kind) u.kind == 0) (open_behind (open_behind n t.kind) u.kind) ts refl on.1 in
    cond_both (is_pair text r t u) _ _ (λ xs. stays_open n xs ≡ true)
    (λ is.
    let p = pair_keeps text r t u is in
    let kept : open_behind (open_behind n t.kind) u.kind ≡ n = p.second (open_behind n t.kind) ∙ p.first n in
    let rest = joined_stays text (region_after text (region_after text r t) u) ts n (subst (λ (k : ℕ). stays_open k ts ≡ true) kept more.1) in
    keep_open (n == 0) n (joined text (region_after text (region_after text r t) u) ts) refl (omega (arith, more.0, kept)) rest)
    (λ _. keep_open (open_behind n t.kind == 0) (open_behind n t.kind) (joined text (region_after text r t) (u ∷ ts)) refl on.0 (joined_stays text (region_after text r t) (u ∷ ts) (open_behind n t.kind) on.1))

-- ---- a form

pub joined_opens : (text : List ℕ) (ts : List Token) → opens ts ≡ true → opens (joined text outside ts) ≡ true
joined_opens text [] o = o
joined_opens text (t ∷ []) o = o
joined_opens text (t ∷ u ∷ ts) o = o

pub form_stays : (text : List ℕ) (ts : List Token) → stays_open 0 ts ≡ true → stays_open 0 (joined text outside ts) ≡ true
form_stays text ts c = joined_stays text outside ts 0 c

opened_one : (k : TokenKind) → is_left k ≡ true → open_behind 0 k ≡ 1
opened_one kind.Left e = refl
opened_one _ e = absurd (true≢false (sym e))

-- the tokens of a form that is closed, and more
pub record IsApart (text : List ℕ) (ts us : List Token) : Type 0 where
  pub closes : closes_last 0 (joined text outside ts) ≡ true
  pub split : joined text outside (ts ++ us) ≡ joined text outside ts ++ joined text outside us

pub form_joined : (text : List ℕ) (ts us : List Token) → opens ts ≡ true → closes_last 0 ts ≡ true → IsApart text ts us
form_joined text [] us o c = absurd (true≢false (sym o))
form_joined text (t ∷ []) us o c = absurd (let one = opened_one t.kind o in let none = all_closed (open_behind 0 t.kind == 0) (open_behind 0 t.kind) refl c in omega (arith, one, none))
form_joined text (t ∷ u ∷ ts) us o c =
    let on = still_open (open_behind 0 t.kind == 0) (open_behind 0 t.kind) u ts refl c in
    let next : Region = region_after text outside t in
    let one : next.depth ≡ open_behind 0 t.kind = deep outside t.kind (keyword_of t.kind (spelling text t)) in
    record {
      closes = put_closed (open_behind 0 t.kind) (joined text next (u ∷ ts)) (open_behind 0 t.kind == 0) on.0 refl (joined_closes text next (u ∷ ts) (open_behind 0 t.kind) on.0 on.1);
      split = ap (λ (xs : List Token). t ∷ xs) (joined_apart text next (u ∷ ts) us (open_behind 0 t.kind) one on.0 on.1);
    }
  where
    put_closed : (m : ℕ) (xs : List Token) (b : Bool) → 1 ≤ m → (m == 0) ≡ b → closes_last m xs ≡ true → cond b (is_last xs) (closes_last m xs) ≡ true
    put_closed m xs true some is c = absurd (let none = eqb-true m 0 is in omega (arith, none, some))
    put_closed m xs false some is c = c

-- the first token of a form is not put together with another
abbrev rest_joined : List ℕ → Token → List Token → List Token
rest_joined text t [] = []
rest_joined text t (u ∷ ts) = joined text (region_after text outside t) (u ∷ ts)

pub joined_first : (text : List ℕ) (t : Token) (ts : List Token) → joined text outside (t ∷ ts) ≡ t ∷ rest_joined text t ts
joined_first text t [] = refl
joined_first text t (u ∷ ts) = refl
