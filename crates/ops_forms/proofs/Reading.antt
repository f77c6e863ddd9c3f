-- A form of which some tokens were read.
use Rattle.std.proofs.Common.{◌≡◌, ℕ, suc, zero, ◌+◌, ◌-◌, ◌<◌, ◌≤◌, ◌==◌, ◌&&◌, not, Bool, true, false, cond, if◌then◌else◌, List, [], ◌∷◌, ◌++◌, length, All, refl, sym, ap, ◌∙◌, arith, append_assoc, Some, None, Ok, Err, IfOk, IfSome, Vec, subst}
use Rattle.std.proofs.lemmas.Grind.{common_steps}
use Rattle.std.specs.declared.alloc.Global.{Global}
use Rattle.std.proofs.lemmas.Bool.{ne_eqb}
use Rattle.std.proofs.lemmas.List.Elements.{All-append}
use Rattle.ops_tokens.specs.declared.token.Token.{Token}
use Rattle.ops_tokens.specs.declared.token.TokenKind.{TokenKind}
use Rattle.ops_tokens.specs.declared.token.TokenKind.TheVariants as kind
use Rattle.ops_tokens.specs.declared.token.LexFault.{LexFault}
use Rattle.ops_tokens.specs.Tokens.{Next, token_at, LiesIn, StandsFrom}
use Rattle.ops_tokens.proofs.Clauses.{token-place}
use Rattle.ops_grammar.specs.Words.{Lexed, lexed_at, lexed_from, lexed_after, led_by}
use Rattle.ops_grammar.specs.Grammar.{is_left}
use Rattle.ops_grammar.specs.Reads.{is_numeric}
use Rattle.ops_forms.specs.Forms.{open_behind, is_last, closes_last, stays_open, opens, led, none_by, past_last, Ends, IsRaw, IsStray, IsNext, token, atom}
use Rattle.ops_forms.specs.declared.form.FormFault.TheVariants as fault
use Rattle.ops_forms.specs.declared.form.Form.{Form}
use Rattle.ops_forms.specs.declared.form.FormEnd.TheVariants as end

-- ---- the fuel does not matter

after_same : (text : List ℕ) (from : ℕ) (f g : ℕ → Lexed) (r : Next) → IfOk r (λ found. IfSome found (StandsFrom text from)) → ((past : ℕ) → from < past → past ≤ length text → f past ≡ g past) → lexed_after f r ≡ lexed_after g r
after_same text from f g (Ok None) stands same = refl
after_same text from f g (Ok (Some t)) stands same = ap (led_by t) (same t.past (omega (arith, stands.begins, stands.some)) stands.lies.within)
after_same text from f g (Err e) stands same = refl

lexed_same : (n m : ℕ) (text : List ℕ) (from : ℕ) → from ≤ length text → length text - from < n → length text - from < m → lexed_from n text from ≡ lexed_from m text from
lexed_same zero m text from le more more' = absurd (omega arith)
lexed_same (suc n) zero text from le more more' = absurd (omega arith)
lexed_same (suc n) (suc m) text from le more more' =
    after_same text from (lexed_from n text) (lexed_from m text) (token_at text from) (token-place text from le)
    (λ past behind within. lexed_same n m text past within (omega arith) (omega arith))

-- ---- one token more

pub lexed_token : (text : List ℕ) (from : ℕ) (t : Token) → from ≤ length text → token_at text from ≡ Ok (Some t) → lexed_at text from ≡ led_by t (lexed_at text t.past)
lexed_token text from t le is =
    let stands : StandsFrom text from t = rw is at (token-place text from le) in
    ap (lexed_after (lexed_from (length text) text)) is
    ∙ ap (led_by t) (lexed_same (length text) (suc (length text)) text t.past stands.lies.within (omega (arith, stands.begins, stands.some, stands.lies.within)) (omega arith))

pub lexed_none : (text : List ℕ) (from : ℕ) → token_at text from ≡ Ok None → lexed_at text from ≡ none_by None
lexed_none text from is = ap (lexed_after (lexed_from (length text) text)) is

pub lexed_fault : (text : List ℕ) (from : ℕ) (f : LexFault) → token_at text from ≡ Err f → lexed_at text from ≡ none_by (Some f)
lexed_fault text from f is = ap (lexed_after (lexed_from (length text) text)) is

led_more : (ts : List Token) (t : Token) (l : Lexed) → led ts (led_by t l) ≡ led (ts ++ t ∷ []) l
led_more ts t l = ap (λ (tokens : List Token). record { tokens = tokens; stop = l.stop }) (sym (append_assoc ts (t ∷ []) l.tokens))

-- how many brackets are open after the tokens
abbrev pub depth_of : ℕ → List Token → ℕ
depth_of n [] = n
depth_of n (t ∷ ts) = depth_of (open_behind n t.kind) ts

depth_more : (n : ℕ) (ts : List Token) (t : Token) → depth_of n (ts ++ t ∷ []) ≡ open_behind (depth_of n ts) t.kind
depth_more n [] t = refl
depth_more n (u ∷ ts) t = depth_more (open_behind n u.kind) ts t

stays_more : (n : ℕ) (ts : List Token) (t : Token) → stays_open n ts ≡ true → (open_behind (depth_of n ts) t.kind == 0) ≡ false → stays_open n (ts ++ t ∷ []) ≡ true
stays_more n [] t stays not_last = by (open_behind n t.kind == 0) not_last
  where
    by : (b : Bool) → b ≡ false → (not b && true) ≡ true
    by true e = absurd cc
    by false e = refl
stays_more n (u ∷ ts) t stays not_last = by (open_behind n u.kind == 0) stays (λ e. stays_more (open_behind n u.kind) ts t e not_last)
  where
    by : (b : Bool) → (not b && stays_open (open_behind n u.kind) ts) ≡ true → (stays_open (open_behind n u.kind) ts ≡ true → stays_open (open_behind n u.kind) (ts ++ t ∷ []) ≡ true) → (not b && stays_open (open_behind n u.kind) (ts ++ t ∷ [])) ≡ true
    by true e more = absurd cc
    by false e more = more e

closes_more : (n : ℕ) (ts : List Token) (t : Token) → stays_open n ts ≡ true → (open_behind (depth_of n ts) t.kind == 0) ≡ true → closes_last n (ts ++ t ∷ []) ≡ true
closes_more n [] t stays last = by (open_behind n t.kind == 0) last
  where
    by : (b : Bool) → b ≡ true → cond b true false ≡ true
    by true e = refl
    by false e = absurd cc
closes_more n (u ∷ ts) t stays last = by (open_behind n u.kind == 0) stays (λ e. closes_more (open_behind n u.kind) ts t e last)
  where
    by : (b : Bool) → (not b && stays_open (open_behind n u.kind) ts) ≡ true → (stays_open (open_behind n u.kind) ts ≡ true → closes_last (open_behind n u.kind) (ts ++ t ∷ []) ≡ true) → cond b (is_last (ts ++ t ∷ [])) (closes_last (open_behind n u.kind) (ts ++ t ∷ [])) ≡ true
    by true e more = absurd cc
    by false e more = more e

past_more : (from : ℕ) (ts : List Token) (t : Token) → past_last from (ts ++ t ∷ []) ≡ t.past
past_more from [] t = refl
past_more from (u ∷ ts) t = past_more u.past ts t

opens_more : (ts us : List Token) → opens ts ≡ true → opens (ts ++ us) ≡ true
opens_more [] us e = absurd cc
opens_more (t ∷ ts) us e = e

-- ---- the tokens so far

one_lies : (text : List ℕ) (t : Token) → LiesIn text t → All (λ t. LiesIn text t) (t ∷ [])
one_lies text t lies = grind (arith, common_steps)

more_lie : (text : List ℕ) (ts : List Token) (t : Token) → All (λ t. LiesIn text t) ts → LiesIn text t → All (λ t. LiesIn text t) (ts ++ t ∷ [])
more_lie text ts t lie lies = All-append (λ t. LiesIn text t) ts (t ∷ []) lie (one_lies text t lies)

-- the tokens from `from` up to `at` begin a form, whatever closes it
pub record IsBegun (text : List ℕ) (from : ℕ) (tokens : List Token) (at : ℕ) : Type 0 where
  pub opens : opens tokens ≡ true
  pub lexed : lexed_at text from ≡ led tokens (lexed_at text at)
  pub past : at ≡ past_last from tokens
  pub begins : from < at
  pub within : at ≤ length text
  pub lie : All (λ t. LiesIn text t) tokens

begun_first : (text : List ℕ) (from : ℕ) (t : Token) → from ≤ length text → token_at text from ≡ Ok (Some t) → is_left t.kind ≡ true → IsBegun text from (t ∷ []) t.past
begun_first text from t le is left =
    let stands : StandsFrom text from t = rw is at (token-place text from le) in
    record {
      opens = left;
      lexed = lexed_token text from t le is;
      past = refl;
      begins = omega (arith, stands.begins, stands.some);
      within = stands.lies.within;
      lie = one_lies text t stands.lies;
    }

begun_more : (text : List ℕ) (from : ℕ) (ts : List Token) (at : ℕ) (t : Token) → IsBegun text from ts at → token_at text at ≡ Ok (Some t) → IsBegun text from (ts ++ t ∷ []) t.past
begun_more text from ts at t b is =
    let stands : StandsFrom text at t = rw is at (token-place text at b.within) in
    record {
      opens = opens_more ts (t ∷ []) b.opens;
      lexed = b.lexed ∙ ap (led ts) (lexed_token text at t b.within is) ∙ led_more ts t (lexed_at text t.past);
      past = sym (past_more from ts t);
      begins = omega (arith, b.begins, stands.begins, stands.some);
      within = stands.lies.within;
      lie = more_lie text ts t b.lie stands.lies;
    }

-- after the bracket `left`, at each place from which it is the next token, these tokens leave this many brackets open
pub record IsOpen (text : List ℕ) (left : Token) (tokens : List Token) (at depth : ℕ) : Type 0 where
  pub begun : (from : ℕ) → from ≤ length text → token_at text from ≡ Ok (Some left) → IsBegun text from tokens at
  pub stays : stays_open 0 tokens ≡ true
  pub count : depth ≡ depth_of 0 tokens
  pub inside : 0 < depth
  pub fits : depth ≤ at
  pub within : at ≤ length text
  pub lie : All (λ t. LiesIn text t) tokens

left_opens : (k : TokenKind) (n : ℕ) → is_left k ≡ true → open_behind n k ≡ n + 1
left_opens k n e = grind (arith, common_steps)

one_more_at_most : (k : TokenKind) (n : ℕ) → open_behind n k ≤ n + 1
one_more_at_most k n = grind (arith, common_steps)

pub open_first : (text : List ℕ) (left : Token) → is_left left.kind ≡ true → left.first < left.past → LiesIn text left → IsOpen text left (left ∷ []) left.past 1
open_first text left is some lies =
    let one : open_behind 0 left.kind ≡ 1 = left_opens left.kind 0 is in
    record {
      begun = λ from le next. begun_first text from left le next is;
      stays = ap (λ (n : ℕ). not (n == 0) && true) one;
      count = sym one;
      inside = omega arith;
      fits = omega arith;
      within = lies.within;
      lie = one_lies text left lies;
    }

pub open_more : (text : List ℕ) (left : Token) (ts : List Token) (at depth : ℕ) (t : Token) → IsOpen text left ts at depth → token_at text at ≡ Ok (Some t) → 0 < open_behind depth t.kind → IsOpen text left (ts ++ t ∷ []) t.past (open_behind depth t.kind)
open_more text left ts at depth t o is some =
    let stands : StandsFrom text at t = rw is at (token-place text at o.within) in
    let count : open_behind depth t.kind ≡ open_behind (depth_of 0 ts) t.kind = ap (λ (n : ℕ). open_behind n t.kind) o.count in
    record {
      begun = λ from le next. begun_more text from ts at t (o.begun from le next) is;
      stays = stays_more 0 ts t o.stays (ne_eqb (open_behind (depth_of 0 ts) t.kind) 0 (λ e. omega (arith, count, e)));
      count = count ∙ sym (depth_more 0 ts t);
      inside = some;
      fits = omega (arith, one_more_at_most t.kind depth, o.fits, stands.begins, stands.some);
      within = stands.lies.within;
      lie = more_lie text ts t o.lie stands.lies;
    }

-- ---- the end of a form

formed : (text : List ℕ) (from : ℕ) (form : Form) → IsBegun text from form.tokens.items form.past → Ends text from form.tokens.items form.past form.end → IsRaw text from form
formed text from form b ends = record { opens = b.opens; ends = ends; past = b.past; begins = b.begins; within = b.within; lie = b.lie }

-- the tokens lie in the text, and they are this form at each place from which `left` is the next token
abbrev pub IsFormOf : List ℕ → Token → Form → Type 0
IsFormOf text left form = All (λ t. LiesIn text t) form.tokens.items × ((from : ℕ) → from ≤ length text → token_at text from ≡ Ok (Some left) → IsRaw text from form)

pub closed_form : (text : List ℕ) (left : Token) (tokens : Vec Token Global) (ts : List Token) (at depth : ℕ) (t : Token) → tokens.items ≡ ts ++ t ∷ [] → IsOpen text left ts at depth → token_at text at ≡ Ok (Some t) → open_behind depth t.kind ≡ 0 → IsFormOf text left (record { tokens = tokens; past = t.past; end = end.Closed })
closed_form text left tokens ts at depth t grown o is none =
    let stands : StandsFrom text at t = rw is at (token-place text at o.within) in (
      subst (λ (x : List Token). All (λ t. LiesIn text t) x) (sym grown) (more_lie text ts t o.lie stands.lies),
      λ from le next.
          let b : IsBegun text from tokens.items t.past = subst (λ (x : List Token). IsBegun text from x t.past) (sym grown) (begun_more text from ts at t (o.begun from le next) is) in
          let last : (open_behind (depth_of 0 ts) t.kind == 0) ≡ true = ap (λ (n : ℕ). open_behind n t.kind == 0) (sym o.count) ∙ ap (λ (n : ℕ). n == 0) none in
          formed text from _ b (ap (closes_last 0) grown ∙ closes_more 0 ts t o.stays last, b.lexed),
    )

pub open_form : (text : List ℕ) (left : Token) (tokens : Vec Token Global) (at depth : ℕ) → IsOpen text left tokens.items at depth → token_at text at ≡ Ok None → IsFormOf text left (record { tokens = tokens; past = at; end = end.Text })
open_form text left tokens at depth o is = (
  o.lie,
  λ from le next.
      let b : IsBegun text from tokens.items at = o.begun from le next in
      formed text from _ b (o.stays, b.lexed ∙ ap (led tokens.items) (lexed_none text at is)),
)

pub cut_form : (text : List ℕ) (left : Token) (tokens : Vec Token Global) (at depth : ℕ) (f : LexFault) → IsOpen text left tokens.items at depth → token_at text at ≡ Err f → IsFormOf text left (record { tokens = tokens; past = at; end = end.Fault f })
cut_form text left tokens at depth f o is = (
  o.lie,
  λ from le next.
      let b : IsBegun text from tokens.items at = o.begun from le next in
      formed text from _ b (o.stays, b.lexed ∙ ap (led tokens.items) (lexed_fault text at f is)),
)

-- ---- what begins no form

not_left : (k : TokenKind) → (k ≡ kind.Left → ⊥) → is_left k ≡ false
not_left k n = grind (arith, common_steps)

pub stray_token : (text : List ℕ) (from : ℕ) (t : Token) → from ≤ length text → token_at text from ≡ Ok (Some t) → (t.kind ≡ kind.Left → ⊥) → IsStray text from t.first
stray_token text from t le is apart = token t (lexed_at text t.past).tokens (lexed_at text t.past).stop (lexed_token text from t le is) (not_left t.kind apart) refl

pub no_token : (text : List ℕ) (from : ℕ) (f : LexFault) → token_at text from ≡ Err f → IsNext text from (Err (if is_numeric f then fault.Stray f.at else fault.Lex f))
no_token text from f is = by (is_numeric f) refl
  where
    by : (b : Bool) → b ≡ is_numeric f → IsNext text from (Err (cond b (fault.Stray f.at) (fault.Lex f)))
    by true e = atom f (lexed_fault text from f is) (sym e) refl
    by false e = (lexed_fault text from f is, sym e)
