-- What a text is read as, form by form.
use Rattle.std.proofs.Common.{◌≡◌, ℕ, ◌<◌, ◌≤◌, ◌==◌, Bool, true, false, cond, true≢false, arith, List, [], ◌∷◌, ◌++◌, length, Option, None, Some, Result, Ok, Err, refl, sym, ap, ◌∙◌}
use Rattle.std.proofs.lemmas.List.{append-nil}
use Rattle.std.proofs.lemmas.Bool.{lt-ltb, le-ltb, eqb-true, eqb-false}
use Rattle.ops_base.specs.Valid.{longest_list}
use Rattle.ops_base.specs.declared.endings.Fault.{Fault}
use Rattle.ops_base.specs.declared.endings.Fault.TheVariants as fault
use Rattle.ops_base.specs.Names.{Spellings, only_nil}
use Rattle.ops_tokens.specs.Tokens.{spelling}
use Rattle.ops_tokens.specs.declared.token.Token.{Token}
use Rattle.ops_tokens.specs.declared.token.TokenKind.{TokenKind}
use Rattle.ops_tokens.specs.declared.token.TokenKind.TheVariants as kind
use Rattle.ops_tokens.specs.declared.token.LexFault.{LexFault}
use Rattle.ops_grammar.specs.declared.words.Word.{Word}
use Rattle.ops_grammar.specs.declared.words.Keyword.{Keyword}
use Rattle.ops_grammar.specs.declared.words.Keyword.TheVariants as keyword
use Rattle.ops_grammar.specs.Words.{Lexed, lexed_at, outside, joined, words_from, names_from, names_with, word_of, keyword_in, keyword_before}
use Rattle.ops_grammar.specs.Grammar.{Forms, is_left, State, Outcome, ends, step, goes, nothing_read}
use Rattle.ops_grammar.specs.Reads.{Read, Placed, reads, stands_at, is_numeric, fault_of, between_forms, cut_off}
use Rattle.ops_forms.specs.Forms.{IsForm, IsStray, token, atom, led, none_by, opens, open_behind, is_last, closes_last, Ends}
use Rattle.ops_forms.specs.declared.form.Form.{Form}
use Rattle.ops_forms.specs.declared.form.FormEnd.{FormEnd}
use Rattle.ops_forms.specs.declared.form.FormEnd.TheVariants as end
use Rattle.ops_forms.specs.declared.refusals.Refusal.{Refusal}
use Rattle.ops_forms.specs.declared.refusals.Refusal.TheVariants as refused
use Rattle.ops_check.specs.Walks.{ReadsAll}
use Rattle.ops_check.specs.Answered.{rest_by, rest_of, stop_of, fault_at, Comes, Continues, IsAnswer}
use Rattle.ops_check.specs.declared.faults.TextFault.{TextFault}
use Rattle.ops_check.specs.declared.faults.TextFault.TheVariants as answer
use Rattle.ops_check.proofs.Apart.{IsApart, joined_first, still_open, all_closed, joined_opens, form_joined, form_stays}
use Rattle.ops_check.proofs.Balance.{NotCut, NotDone, closed_reads, open_form_goes_on}

-- ---- words of tokens and more

abbrev is_bracket : TokenKind → Bool
is_bracket kind.Left = true
is_bracket kind.Right = true
is_bracket _ = false

-- these words are followed by those, whatever stands last in front and first behind
abbrev AreApart : List Token → List Token → Type 0
AreApart ts us = (text : List ℕ) (names : Spellings) → words_from text names (ts ++ us) ≡ words_from text names ts ++ words_from text (names_from text names ts) us

none_behind : (ts : List Token) → AreApart ts []
none_behind ts text names = ap (words_from text names) (append-nil ts) ∙ sym (append-nil (words_from text names ts))

-- a bracket is one whatever stands behind it
bracket_word : (text : List ℕ) (names : Spellings) (t : Token) (k : TokenKind) → t.kind ≡ k → is_bracket k ≡ true → (us : List Token) → keyword_before (keyword_in text names t) us ≡ keyword_in text names t
bracket_word text names t kind.Left e is us = rw e refl
bracket_word text names t kind.Right e is us = rw e refl
bracket_word text names t _ e is us = absurd (true≢false (sym is))

closing_is : (k : TokenKind) (n : ℕ) → 1 ≤ n → open_behind n k ≡ 0 → is_bracket k ≡ true
closing_is kind.Right n some e = refl
closing_is kind.Left n some e = refl
closing_is _ n some e = absurd (omega (arith, some, e))

opening_is : (k : TokenKind) → is_left k ≡ true → is_bracket k ≡ true
opening_is kind.Left e = refl
opening_is _ e = absurd (true≢false (sym e))

same_before : (k : Keyword) (v : Token) (ts us : List Token) → keyword_before k (v ∷ ts ++ us) ≡ keyword_before k (v ∷ ts)
same_before keyword.Minus v ts us = refl
same_before _ v ts us = refl

-- the words of tokens that end with the bracket that closes them
closed_apart : (ts us : List Token) (n : ℕ) → 1 ≤ n → closes_last n ts ≡ true → AreApart ts us
closed_apart [] us n some c text names = absurd (true≢false (sym c))
closed_apart (t ∷ []) us n some c text names =
    let s = spelling text t in
    let shut = all_closed (open_behind n t.kind == 0) (open_behind n t.kind) refl c in
    let is = closing_is t.kind n some shut in
    ap (λ (k : Keyword). record (word_of text names t) { keyword = k } ∷ words_from text (names_with names t.kind s) us)
    (bracket_word text names t t.kind refl is us ∙ sym (bracket_word text names t t.kind refl is []))
closed_apart (t ∷ (v ∷ ts)) us n some c text names =
    let s = spelling text t in
    let names' = names_with names t.kind s in
    let on = still_open (open_behind n t.kind == 0) (open_behind n t.kind) v ts refl c in
    ap (λ (k : Keyword). record (word_of text names t) { keyword = k } ∷ words_from text names' (v ∷ ts ++ us)) (same_before (keyword_in text names t) v ts us)
    ∙ ap (λ (ws : List Word). record (word_of text names t) { keyword = keyword_before (keyword_in text names t) (v ∷ ts) } ∷ ws) (closed_apart (v ∷ ts) us (open_behind n t.kind) on.0 on.1 text names')

-- the words of a form that is closed
closed_behind : (k : TokenKind) (ts : List Token) → is_left k ≡ true → cond (open_behind 0 k == 0) (is_last ts) (closes_last (open_behind 0 k) ts) ≡ true → closes_last 1 ts ≡ true
closed_behind kind.Left ts is c = c
closed_behind _ ts is c = absurd (true≢false (sym is))

form_apart : (ts us : List Token) → opens ts ≡ true → closes_last 0 ts ≡ true → AreApart ts us
form_apart [] us o c text names = absurd (true≢false (sym o))
form_apart (t ∷ ts) us o c text names =
    let s = spelling text t in
    let names' = names_with names t.kind s in
    let is = opening_is t.kind o in
    ap (λ (k : Keyword). record (word_of text names t) { keyword = k } ∷ words_from text names' (ts ++ us))
    (bracket_word text names t t.kind refl is (ts ++ us) ∙ sym (bracket_word text names t t.kind refl is ts))
    ∙ ap (λ (ws : List Word). record (word_of text names t) { keyword = keyword_before (keyword_in text names t) ts } ∷ ws) (closed_apart ts us 1 (omega arith) (closed_behind t.kind ts o c) text names')

names_append : (text : List ℕ) (names : Spellings) (ts us : List Token) → names_from text names (ts ++ us) ≡ names_from text (names_from text names ts) us
names_append text names [] us = refl
names_append text names (t ∷ ts) us = names_append text (names_with names t.kind (spelling text t)) ts us

-- ---- the beginning

pub reads_long : (text : List ℕ) → longest_list < length text → reads text ≡ Err (record { fault = fault.TooLong; at = 0 })
unfolding reads
reads_long text long = rw (lt-ltb longest_list (length text) long) refl

pub reads_first : (text : List ℕ) → length text ≤ longest_list → reads text ≡ rest_of text only_nil 0 nothing_read
unfolding reads
reads_first text short = rw (le-ltb longest_list (length text) short) refl

-- the fault in a text that is not too long, where nothing was read before
pub answered : (text : List ℕ) (names : Spellings) (s : State) (new : Result Read Placed) (f : TextFault) → names ≡ only_nil → s ≡ nothing_read → length text ≤ longest_list
    → Continues (rest_of text names 0 s) new (Err f) → IsAnswer (reads text) (Err f)
answered text names s new (answer.At f at) named empty short h =
    reads_first text short ∙ sym (ap (λ n. rest_of text n 0 s) named ∙ ap (rest_of text only_nil 0) empty) ∙ h
answered text names s new answer.OutOfMemory named empty short h = tt

-- ---- where no form stands next

pub nothing_more : (text : List ℕ) (names : Spellings) (from : ℕ) (s : State) → lexed_at text from ≡ none_by None → rest_of text names from s ≡ Ok (record { classes = s.classes; rules = s.rules; templates = s.templates; commands = s.commands; names = names })
unfolding goes ends
nothing_more text names from s e = ap (rest_by text names s) e

pub stopped : (text : List ℕ) (names : Spellings) (from : ℕ) (s : State) (f : LexFault) → lexed_at text from ≡ none_by (Some f) → rest_of text names from s ≡ Err (between_forms f)
unfolding goes ends
stopped text names from s f e = ap (rest_by text names s) e

pub lex_fault : (text : List ℕ) (names : Spellings) (from : ℕ) (s : State) (f : LexFault) → lexed_at text from ≡ none_by (Some f) → is_numeric f ≡ false → rest_of text names from s ≡ Err (record { fault = fault_of f; at = f.at })
lex_fault text names from s f e no_number = rw no_number at (stopped text names from s f e)

pub stray_fault : (text : List ℕ) (names : Spellings) (from at : ℕ) (s : State) → IsStray text from at → rest_of text names from s ≡ Err (record { fault = fault.Stray; at = at })
unfolding goes step
stray_fault text names from at s (token t ts stop e apart place) = rw place (ap (rest_by text names s) e ∙ rw (joined_first text t ts, apart) refl)
stray_fault text names from at s (atom f e numeric place) = rw place (rw numeric at (stopped text names from s f e))

-- the fault that comes next, whatever was read before
pub fault_comes : (text : List ℕ) (from : ℕ) (old new : Result Read Placed) (names : Spellings) (s : State) (f : TextFault) → old ≡ rest_of text names from s → Comes text from (Err f) → Continues old new (Err f)
fault_comes text from old new names s (answer.At f at) so_far comes = so_far ∙ comes names s
fault_comes text from old new names s answer.OutOfMemory so_far comes = tt

-- ---- a form

-- the text is read on from after the tokens, which are those put together
led_reads : (text : List ℕ) (names : Spellings) (from : ℕ) (s new : State) (raw ts : List Token) (l : Lexed) → joined text outside (raw ++ l.tokens) ≡ ts ++ joined text outside l.tokens → AreApart ts (joined text outside l.tokens) → lexed_at text from ≡ led raw l → ((more : List Word) → goes (words_from text names ts ++ more) (Forms ∷ []) s ≡ goes more (Forms ∷ []) new) → rest_of text names from s ≡ rest_by text (names_from text names ts) new l
led_reads text names from s new raw ts l split apart e goes_on =
    let us = joined text outside l.tokens in
    ap (rest_by text names s) e ∙ rw (split, apart text names, names_append text names ts us, goes_on (words_from text (names_from text names ts) us)) refl

-- a word of the tokens is refused
led_refused : (text : List ℕ) (names : Spellings) (from : ℕ) (s : State) (raw ts : List Token) (l : Lexed) (f : Fault) (w : Word) → joined text outside (raw ++ l.tokens) ≡ ts ++ joined text outside l.tokens → AreApart ts (joined text outside l.tokens) → lexed_at text from ≡ led raw l → ((more : List Word) → goes (words_from text names ts ++ more) (Forms ∷ []) s ≡ Err (f, Some w)) → rest_of text names from s ≡ Err (record { fault = f; at = stands_at f w })
led_refused text names from s raw ts l f w split apart e fails =
    let us = joined text outside l.tokens in
    ap (rest_by text names s) e ∙ rw (split, apart text names, fails (words_from text (names_from text names ts) us)) refl

-- no tokens follow
none_joined : (text : List ℕ) (raw ts : List Token) (stop : Option LexFault) → ts ≡ joined text outside raw → joined text outside (raw ++ (none_by stop).tokens) ≡ ts ++ joined text outside (none_by stop).tokens
none_joined text raw ts stop e = ap (joined text outside) (append-nil raw) ∙ sym e ∙ sym (append-nil ts)

-- the tokens are all, and the form is open after them
led_cut : (text : List ℕ) (names : Spellings) (from : ℕ) (s : State) (raw ts : List Token) (stop : Option LexFault) (f : Fault) → ts ≡ joined text outside raw → lexed_at text from ≡ led raw (none_by stop) → goes (words_from text names ts ++ []) (Forms ∷ []) s ≡ Err (f, None) → rest_of text names from s ≡ Err (cut_off (length text) stop)
led_cut text names from s raw ts stop f same e cut =
    ap (rest_by text names s) e ∙ rw (none_joined text raw ts stop same, none_behind ts text names, cut) refl

abbrev is_at_word : Outcome → Bool
is_at_word (Err (f, Some w)) = true
is_at_word _ = false

not_cut : (o : Outcome) (f : Fault) → NotCut o → o ≡ Err (f, None) → ⊥
not_cut (Ok s) f h e = absurd (cc)
not_cut (Err (g, Some w)) f h e = absurd (true≢false (ap is_at_word e))
not_cut (Err (g, None)) f h e = h

not_done : (o : Outcome) (s : State) → NotDone o → o ≡ Ok s → ⊥
not_done (Ok r) s h e = h
not_done (Err g) s h e = absurd (cc)

-- the tokens of a form are read, however they end
form_read_by : (text : List ℕ) (names : Spellings) (from past : ℕ) (s new : State) (raw ts : List Token) (e : FormEnd) → ts ≡ joined text outside raw → opens raw ≡ true → Ends text from raw past e → ((more : List Word) → goes (words_from text names ts ++ more) (Forms ∷ []) s ≡ goes more (Forms ∷ []) new) → rest_of text names from s ≡ rest_of text (names_from text names ts) past new
unfolding goes ends
form_read_by text names from past s new raw ts end.Closed same o h goes_on =
    let us = (lexed_at text past).tokens in
    let a : IsApart text raw us = form_joined text raw us o h.0 in
    led_reads text names from s new raw ts (lexed_at text past) (a.split ∙ ap (λ (xs : List Token). xs ++ joined text outside us) (sym same))
    (form_apart ts (joined text outside us) (rw same (joined_opens text raw o)) (rw same a.closes)) h.1 goes_on
form_read_by text names from past s new raw ts (end.Fault f) same o h goes_on =
    absurd (not_done _ new (open_form_goes_on text ts names s (rw same (joined_opens text raw o)) (rw same (form_stays text raw h.0))) (ap (λ (ws : List Word). goes ws (Forms ∷ []) s) (sym (append-nil (words_from text names ts))) ∙ goes_on []))
form_read_by text names from past s new raw ts end.Text same o h goes_on =
    absurd (not_done _ new (open_form_goes_on text ts names s (rw same (joined_opens text raw o)) (rw same (form_stays text raw h.0))) (ap (λ (ws : List Word). goes ws (Forms ∷ []) s) (sym (append-nil (words_from text names ts))) ∙ goes_on []))

pub form_read : (text : List ℕ) (names later : Spellings) (from : ℕ) (s new : State) (form : Form) (words : List Word) → IsForm text from form → words ≡ words_from text names form.tokens.items → later ≡ names_from text names form.tokens.items
    → ((more : List Word) → goes (words ++ more) (Forms ∷ []) s ≡ goes more (Forms ∷ []) new) → rest_of text names from s ≡ rest_of text later form.past new
form_read text names later from s new form words h made held goes_on =
    rw held (form_read_by text names from form.past s new h.raw form.tokens.items form.end h.joined h.opens h.ends (λ more. ap (λ (ws : List Word). goes (ws ++ more) (Forms ∷ []) s) (sym made) ∙ goes_on more))

form_refused_by : (text : List ℕ) (names : Spellings) (from past : ℕ) (s : State) (raw ts : List Token) (e : FormEnd) (f : Fault) (w : Word) → ts ≡ joined text outside raw → opens raw ≡ true → Ends text from raw past e → ((more : List Word) → goes (words_from text names ts ++ more) (Forms ∷ []) s ≡ Err (f, Some w)) → rest_of text names from s ≡ Err (record { fault = f; at = stands_at f w })
form_refused_by text names from past s raw ts end.Closed f w same o h fails =
    let us = (lexed_at text past).tokens in
    let a : IsApart text raw us = form_joined text raw us o h.0 in
    led_refused text names from s raw ts (lexed_at text past) f w (a.split ∙ ap (λ (xs : List Token). xs ++ joined text outside us) (sym same))
    (form_apart ts (joined text outside us) (rw same (joined_opens text raw o)) (rw same a.closes)) h.1 fails
form_refused_by text names from past s raw ts (end.Fault x) f w same o h fails = led_refused text names from s raw ts (none_by (Some x)) f w (none_joined text raw ts (Some x) same) (none_behind ts) h.1 fails
form_refused_by text names from past s raw ts end.Text f w same o h fails = led_refused text names from s raw ts (none_by None) f w (none_joined text raw ts None same) (none_behind ts) h.1 fails

form_refused : (text : List ℕ) (names : Spellings) (from : ℕ) (s : State) (form : Form) (words : List Word) (f : Fault) (w : Word) → IsForm text from form → words ≡ words_from text names form.tokens.items
    → ((more : List Word) → goes (words ++ more) (Forms ∷ []) s ≡ Err (f, Some w)) → rest_of text names from s ≡ Err (record { fault = f; at = stands_at f w })
form_refused text names from s form words f w h made fails =
    form_refused_by text names from form.past s h.raw form.tokens.items form.end f w h.joined h.opens h.ends (λ more. ap (λ (ws : List Word). goes (ws ++ more) (Forms ∷ []) s) (sym made) ∙ fails more)

form_cut_by : (text : List ℕ) (names : Spellings) (from past : ℕ) (s : State) (raw ts : List Token) (e : FormEnd) (f : Fault) → ts ≡ joined text outside raw → opens raw ≡ true → Ends text from raw past e → goes (words_from text names ts ++ []) (Forms ∷ []) s ≡ Err (f, None) → rest_of text names from s ≡ Err (cut_off (length text) (stop_of e))
form_cut_by text names from past s raw ts end.Closed f same o h cut =
    absurd (not_cut _ f (closed_reads text ts names 0 (Forms ∷ []) s refl refl (rw same (form_joined text raw [] o h.0).closes)) (ap (λ (ws : List Word). goes ws (Forms ∷ []) s) (sym (append-nil (words_from text names ts))) ∙ cut))
form_cut_by text names from past s raw ts (end.Fault x) f same o h cut = led_cut text names from s raw ts (Some x) f same h.1 cut
form_cut_by text names from past s raw ts end.Text f same o h cut = led_cut text names from s raw ts None f same h.1 cut

form_cut : (text : List ℕ) (names : Spellings) (from : ℕ) (s : State) (form : Form) (words : List Word) (f : Fault) → IsForm text from form → words ≡ words_from text names form.tokens.items
    → goes (words ++ []) (Forms ∷ []) s ≡ Err (f, None) → rest_of text names from s ≡ Err (cut_off (length text) (stop_of form.end))
form_cut text names from s form words f h made cut =
    form_cut_by text names from form.past s h.raw form.tokens.items form.end f h.joined h.opens h.ends (ap (λ (ws : List Word). goes (ws ++ []) (Forms ∷ []) s) (sym made) ∙ cut)

pub form_failed : (text : List ℕ) (names : Spellings) (from : ℕ) (s new : State) (later : Result Read Placed) (form : Form) (words : List Word) (r : Refusal) → IsForm text from form → words ≡ words_from text names form.tokens.items
    → ReadsAll s new words (Err r) → Continues (rest_of text names from s) later (Err (fault_at r form.end (length text)))
form_failed text names from s new later form words refused.OutOfMemory h made failed = tt
form_failed text names from s new later form words (refused.At f None) h made failed = form_cut text names from s form words f h made failed
form_failed text names from s new later form words (refused.At f (Some w)) h made failed = form_refused text names from s form words f w h made failed
