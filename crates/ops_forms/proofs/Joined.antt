-- Tokens that are put together, one by one, and the form of them.
use Rattle.std.proofs.Common.{◌≡◌, ℕ, suc, ◌+◌, ◌≤◌, ◌&&◌, ◌||◌, Bool, true, false, if◌then◌else◌, List, [], ◌∷◌, ◌++◌, length, All, refl, sym, ap, ◌∙◌, subst, arith, Some, None, Vec}
use Rattle.std.proofs.lemmas.Bool.{and_parts, cond_both}
use Rattle.std.proofs.lemmas.Grind.{common_steps}
use Rattle.std.proofs.lemmas.List.Elements.{All-append}
use Rattle.std.specs.declared.alloc.Global.{Global}
use Rattle.ops_tokens.specs.declared.token.Token.{Token}
use Rattle.ops_tokens.specs.declared.token.TokenKind.{TokenKind}
use Rattle.ops_tokens.specs.declared.token.TokenKind.TheVariants as kind
use Rattle.ops_tokens.specs.Tokens.{LiesIn, spelling}
use Rattle.ops_grammar.specs.declared.words.Keyword.{Keyword}
use Rattle.ops_grammar.specs.declared.words.Keyword.TheVariants as keyword
use Rattle.ops_grammar.specs.declared.words.Region.{Region}
use Rattle.ops_grammar.specs.Grammar.{is_variable}
use Rattle.ops_grammar.specs.Words.{Lexed, lexed_at, keyword_of, outside, followed, region_behind, region_after, takes_holes, is_remainder, is_pair, pair, joined}
use Rattle.ops_grammar.proofs.ReadsValid.{ArePlaced, lexed_placed}
use Rattle.ops_forms.specs.Forms.{past_last, Ends, IsRaw, IsForm}
use Rattle.ops_forms.specs.Pairs.{has_hole, is_hole, variable_behind}
use Rattle.ops_forms.specs.declared.form.Form.{Form}
use Rattle.ops_forms.specs.declared.form.FormEnd.{FormEnd}
use Rattle.ops_forms.specs.declared.form.FormEnd.TheVariants as end

-- ---- one by one

pub alone : (text : List ℕ) (r : Region) (t : Token) (ts : List Token) → variable_behind r (keyword_of t.kind (spelling text t)) ts ≡ None → joined text r (t ∷ ts) ≡ t ∷ joined text (region_after text r t) ts
alone text r t [] e = refl
alone text r t (u ∷ ts) e = by (is_pair text r t u) e
  where
    by : (b : Bool) → (if b then Some u else None) ≡ None → (if b then pair t u ∷ joined text (region_after text (region_after text r t) u) ts else t ∷ joined text (region_after text r t) (u ∷ ts)) ≡ t ∷ joined text (region_after text r t) (u ∷ ts)
    by true e = absurd cc
    by false e = refl

-- after a variable
behind_variable : (r : Region) (k : TokenKind) (s : List ℕ) → is_variable k ≡ true → region_behind r k (keyword_of k s) ≡ followed r keyword.Other
behind_variable r kind.Variable s e = refl
behind_variable r kind.Left s e = absurd cc
behind_variable r kind.Right s e = absurd cc
behind_variable r kind.LeftBrace s e = absurd cc
behind_variable r kind.RightBrace s e = absurd cc
behind_variable r kind.Caret s e = absurd cc
behind_variable r kind.Operator s e = absurd cc
behind_variable r (kind.Whole n) s e = absurd cc
behind_variable r kind.Symbol s e = absurd cc
behind_variable r kind.Quoted s e = absurd cc

-- what is put together with a token
pub record IsPaired (text : List ℕ) (r : Region) (t u : Token) (ts : List Token) : Type 0 where
  pub rest : List Token
  pub first : ts ≡ u ∷ rest
  pub made : joined text r (t ∷ ts) ≡ pair t u ∷ joined text (followed (region_after text r t) keyword.Other) rest

pub paired : (text : List ℕ) (r : Region) (t u : Token) (ts : List Token) → variable_behind r (keyword_of t.kind (spelling text t)) ts ≡ Some u → IsPaired text r t u ts
paired text r t u [] e = absurd cc
paired text r t u (v ∷ ts) e = by (is_pair text r t v) refl e
  where
    by : (b : Bool) → b ≡ is_pair text r t v → (if b then Some v else None) ≡ Some u → IsPaired text r t u (v ∷ ts)
    by false is e = absurd cc
    by true is e =
        let same : v ≡ u = cc in
        let kind_is : is_variable v.kind ≡ true = (and_parts _ (is_variable v.kind) (sym is)).1 in
        record {
          rest = ts;
          first = ap (λ (x : Token). x ∷ ts) same;
          made =
              ap (λ (b : Bool). if b then pair t v ∷ joined text (region_after text (region_after text r t) v) ts else t ∷ joined text (region_after text r t) (v ∷ ts)) (sym is)
              ∙ ap (λ (x : Region). pair t v ∷ joined text x ts) (behind_variable (region_after text r t) v.kind (spelling text v) kind_is)
              ∙ ap (λ (x : Token). pair t x ∷ joined text (followed (region_after text r t) keyword.Other) ts) same;
        }

-- where nothing stands that could be put together, all tokens stay
not_paired : (text : List ℕ) (r : Region) (t u : Token) (ts : List Token) → is_hole text t (u ∷ ts) ≡ false → is_pair text r t u ≡ false
not_paired text r t u ts = by (takes_holes r.within) (is_remainder (keyword_of t.kind (spelling text t))) (is_variable u.kind)
  where
    by : (a b c : Bool) → (c && b) ≡ false → (a && b && c) ≡ false
    by false b c e = refl
    by true true true e = e
    by true true false e = refl
    by true false c e = refl

neither : (a b : Bool) → (a || b) ≡ false → (a ≡ false) × (b ≡ false)
neither true b e = cc
neither false b e = (refl, e)

pub as_they_are : (text : List ℕ) (r : Region) (ts : List Token) → has_hole text ts ≡ false → joined text r ts ≡ ts
as_they_are text r [] e = refl
as_they_are text r (t ∷ []) e = refl
as_they_are text r (t ∷ u ∷ ts) e =
    let parts = neither (is_hole text t (u ∷ ts)) (has_hole text (u ∷ ts)) e in
    ap (λ (b : Bool). if b then pair t u ∷ joined text (region_after text (region_after text r t) u) ts else t ∷ joined text (region_after text r t) (u ∷ ts)) (not_paired text r t u ts parts.0)
    ∙ ap (λ (us : List Token). t ∷ us) (as_they_are text (region_after text r t) (u ∷ ts) parts.1)

-- one bracket more is open at most
pub deeper : (r : Region) (k : TokenKind) (w : Keyword) → (region_behind r k w).depth ≤ r.depth + 1
deeper r k w = grind (arith, common_steps)

pub as_deep : (r : Region) → (followed r keyword.Other).depth ≡ r.depth
as_deep r = refl

-- ---- all of them

one_lies : (text : List ℕ) (t : Token) → LiesIn text t → All (λ t. LiesIn text t) (t ∷ [])
one_lies text t lies = grind (arith, common_steps)

joined_lie : (text : List ℕ) (r : Region) (n : ℕ) (ts : List Token) → ArePlaced (length text) n ts → All (λ t. LiesIn text t) ts → All (λ t. LiesIn text t) (joined text r ts)
joined_lie text r n [] p lie = lie
joined_lie text r n (t ∷ []) p lie = lie
joined_lie text r n (t ∷ u ∷ ts) p lie =
    let behind : All (λ t. LiesIn text t) (u ∷ ts) = λ k d lt. lie (suc k) d (omega (arith, lt)) in
    let last : All (λ t. LiesIn text t) ts = λ k d lt. lie (suc (suc k)) d (omega (arith, lt)) in
    let both : LiesIn text (pair t u) = record { ordered = omega (arith, p.1, p.3.0, p.3.1); within = p.3.2; bars = λ _. omega (arith, p.1, p.3.0, p.3.1) } in
    cond_both (is_pair text r t u) _ _ (λ ts. All (λ t. LiesIn text t) ts)
    (λ _. All-append (λ t. LiesIn text t) (pair t u ∷ []) _ (one_lies text (pair t u) both) (joined_lie text (region_after text (region_after text r t) u) u.past ts p.3.3 last))
    (λ _. All-append (λ t. LiesIn text t) (t ∷ []) _ (one_lies text t (lie 0 t (omega arith))) (joined_lie text (region_after text r t) t.past (u ∷ ts) p.3 behind))

pub joined_past : (text : List ℕ) (r : Region) (n : ℕ) (ts : List Token) → past_last n (joined text r ts) ≡ past_last n ts
joined_past text r n [] = refl
joined_past text r n (t ∷ []) = refl
joined_past text r n (t ∷ u ∷ ts) =
    cond_both (is_pair text r t u) _ _ (λ x. past_last n x ≡ past_last u.past ts)
    (λ _. joined_past text (region_after text (region_after text r t) u) u.past ts)
    (λ _. joined_past text (region_after text r t) t.past (u ∷ ts))

-- ---- the form

placed_within : (text n : ℕ) (ts : List Token) → ArePlaced text n ts → n ≤ text
placed_within text n [] p = p
placed_within text n (t ∷ ts) p = omega (arith, p.0, p.1, p.2)

placed_front : (text n : ℕ) (ts us : List Token) → ArePlaced text n (ts ++ us) → ArePlaced text n ts
placed_front text n [] us p = placed_within text n us p
placed_front text n (t ∷ ts) us p = (p.0, p.1, p.2, placed_front text t.past ts us p.3)

form_placed : (text : List ℕ) (from : ℕ) (ts more : List Token) → from ≤ length text → (lexed_at text from).tokens ≡ ts ++ more → ArePlaced (length text) from ts
form_placed text from ts more le e = placed_front (length text) from ts more (subst (ArePlaced (length text) from) e (lexed_placed (suc (length text)) text from le))

ends_placed : (text : List ℕ) (from : ℕ) (ts : List Token) (past : ℕ) (how : FormEnd) → from ≤ length text → Ends text from ts past how → ArePlaced (length text) from ts
ends_placed text from ts past end.Closed le h = form_placed text from ts (lexed_at text past).tokens le (ap (λ (l : Lexed). l.tokens) h.1)
ends_placed text from ts past (end.Fault f) le h = form_placed text from ts [] le (ap (λ (l : Lexed). l.tokens) h.1)
ends_placed text from ts past end.Text le h = form_placed text from ts [] le (ap (λ (l : Lexed). l.tokens) h.1)

pub form_is : (text : List ℕ) (from : ℕ) (form : Form) (tokens : Vec Token Global) → from ≤ length text → tokens.items ≡ joined text outside form.tokens.items → IsRaw text from form → IsForm text from (record { tokens = tokens; past = form.past; end = form.end })
form_is text from form tokens le e r =
    let placed = ends_placed text from form.tokens.items form.past form.end le r.ends in
    record {
      raw = form.tokens.items;
      joined = e;
      opens = r.opens;
      ends = r.ends;
      past = r.past ∙ sym (joined_past text outside from form.tokens.items) ∙ ap (past_last from) (sym e);
      begins = r.begins;
      within = r.within;
      lie = subst (λ (ts : List Token). All (λ t. LiesIn text t) ts) (sym e) (joined_lie text outside from form.tokens.items placed r.lie);
    }
