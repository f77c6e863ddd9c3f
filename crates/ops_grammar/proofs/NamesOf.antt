-- The names that are read are nil and those of the text.
use Rattle.std.proofs.Common.{◌≡◌, ◌⊎◌, ℕ, suc, ◌+◌, ◌<◌, Bool, true, false, not, cond, List, [], ◌∷◌, ◌++◌, length, refl, sym, ap, subst, ◌∙◌, arith, inl, inr, Option, Some, None, Result, Ok, Err, nat_lt}
use Rattle.std.specs.Prelude.{codes, bytes_eq, Contains}
use Rattle.std.proofs.lemmas.Bool.{cond_both, ltb-true}
use Rattle.std.proofs.lemmas.List.Elements.{Contains-append_left, Contains-append_right, Contains-push, Contains-push_cases, Contains-append_cases}
use Rattle.std.proofs.lemmas.Slice.Eq.{bytes_eq-Decides}
use Rattle.ops_base.specs.declared.endings.Fault.TheVariants as fault
use Rattle.ops_base.specs.Names.{Spellings, place_of, with_spelling, only_nil}
use Rattle.ops_base.specs.Valid.{longest_list}
use Rattle.ops_tokens.specs.declared.token.LexFault.{LexFault}
use Rattle.ops_tokens.specs.declared.token.Token.{Token}
use Rattle.ops_tokens.specs.declared.token.TokenKind.{TokenKind}
use Rattle.ops_tokens.specs.Tokens.{spelling}
use Rattle.ops_grammar.specs.Words.{lexed, has_name, names_with, names_from, tokens_of}
use Rattle.ops_grammar.specs.Grammar.{Outcome}
use Rattle.ops_grammar.specs.Reads.{Read, Placed, verdict, reads, read_tokens}
use Rattle.ops_grammar.specs.Standing.{words_of, outcome_of}
use Rattle.ops_grammar.specs.TextNames.{IsNameIn, AreNamesOf}

-- ---- what is held with one spelling more

one_alone : {X : Type 0} (y x : X) → Contains (y ∷ []) x → y ≡ x
one_alone y x c = elim (Contains-push_cases [] y x c) [ inl none ↦ absurd (omega (arith, none.1)) | inr same ↦ same ]

-- a spelling that has a place is held
placed_by : (s x : List ℕ) (xs : List (List ℕ)) (b : Bool) → bytes_eq s x ≡ b → (place_of xs s < length xs → Contains xs s) → cond (not b) (1 + place_of xs s) 0 < suc (length xs) → Contains (x ∷ xs) s
placed_by s x xs true is ih lt = (0, omega arith, sym ((bytes_eq-Decides s x).0 is))
placed_by s x xs false is ih lt = Contains-append_right (x ∷ []) xs s (ih (omega (arith, lt)))

placed : (held : List (List ℕ)) (s : List ℕ) → place_of held s < length held → Contains held s
placed [] s lt = absurd (omega (arith, lt))
placed (x ∷ xs) s lt = placed_by s x xs (bytes_eq s x) refl (placed xs s) lt

spelling_new : (held : List (List ℕ)) (s : List ℕ) → Contains (with_spelling held s) s
spelling_new held s =
    cond_both (nat_lt (place_of held s) (length held)) held (held ++ s ∷ []) (λ new. Contains new s) (λ lt. placed held s (ltb-true _ _ lt)) (λ _. Contains-push held s)

spelling_kept : (held : List (List ℕ)) (s t : List ℕ) → Contains held t → Contains (with_spelling held s) t
spelling_kept held s t c =
    cond_both (nat_lt (place_of held s) (length held)) held (held ++ s ∷ []) (λ new. Contains new t) (λ _. c) (λ _. Contains-append_left held (s ∷ []) t c)

spelling_cases : (held : List (List ℕ)) (s t : List ℕ) → Contains (with_spelling held s) t → Contains held t ⊎ (s ≡ t)
spelling_cases held s t =
    cond_both (nat_lt (place_of held s) (length held)) held (held ++ s ∷ []) (λ new. Contains new t → Contains held t ⊎ (s ≡ t)) (λ _ c. inl c) (λ _ c. Contains-push_cases held s t c)

-- ---- the names after a token

token_kept : (names : Spellings) (k : TokenKind) (s t : List ℕ) → Contains names.held t → Contains (names_with names k s).held t
token_kept names k s t c =
    cond_both (has_name k) (record names { held = with_spelling names.held s }) names (λ new. Contains new.held t) (λ _. spelling_kept names.held s t c) (λ _. c)

token_cases : (names : Spellings) (k : TokenKind) (s t : List ℕ) → Contains (names_with names k s).held t → Contains names.held t ⊎ ((has_name k ≡ true) × (s ≡ t))
token_cases names k s t =
    cond_both (has_name k) (record names { held = with_spelling names.held s }) names (λ new. Contains new.held t → Contains names.held t ⊎ ((has_name k ≡ true) × (s ≡ t)))
    (λ named c. elim (spelling_cases names.held s t c) [ inl old ↦ inl old | inr same ↦ inr (named, same) ]) (λ _ c. inl c)

named_by : (names : Spellings) (s : List ℕ) (b : Bool) → b ≡ true → Contains (cond b (record names { held = with_spelling names.held s }) names).held s
named_by names s true e = spelling_new names.held s
named_by names s false e = absurd (cc)

token_made : (names : Spellings) (k : TokenKind) (s : List ℕ) → (names_with names k s).made ≡ names.made
token_made names k s = cond_both (has_name k) (record names { held = with_spelling names.held s }) names (λ new. new.made ≡ names.made) (λ _. refl) (λ _. refl)

-- ---- the names after tokens

-- one of the tokens has a name that is spelled so
abbrev IsNameOf : List ℕ → List Token → List ℕ → Type 0
IsNameOf text ts s = (t : Token) × Contains ts t × (has_name t.kind ≡ true) × (spelling text t ≡ s)

names_kept : (text : List ℕ) (names : Spellings) (ts : List Token) (s : List ℕ) → Contains names.held s → Contains (names_from text names ts).held s
names_kept text names [] s c = c
names_kept text names (t ∷ ts) s c =
    names_kept text (names_with names t.kind (spelling text t)) ts s (token_kept names t.kind (spelling text t) s c)

-- each of the names was held before, or a token has it
names_cases : (text : List ℕ) (names : Spellings) (ts : List Token) (s : List ℕ) → Contains (names_from text names ts).held s → Contains names.held s ⊎ IsNameOf text ts s
names_cases text names [] s c = inl c
names_cases text names (t ∷ ts) s c =
    elim (names_cases text (names_with names t.kind (spelling text t)) ts s c) [
      | inl held ↦ elim (token_cases names t.kind (spelling text t) s held) [ inl old ↦ inl old | inr own ↦ inr (t, (0, omega arith, refl), own.0, own.1) ]
      | inr later ↦ inr (later.0, Contains-append_right (t ∷ []) ts later.0 later.1, later.2, later.3)
    ]

-- each token's name is held
names_named : (text : List ℕ) (names : Spellings) (ts : List Token) (u : Token) → has_name u.kind ≡ true → Contains ts u → Contains (names_from text names ts).held (spelling text u)
names_named text names [] u named c = absurd (omega (arith, c.1))
names_named text names (t ∷ ts) u named c =
    let after = names_with names t.kind (spelling text t) in
    elim (Contains-append_cases (t ∷ []) ts u c) [
      | inl here ↦ names_kept text after ts (spelling text u)
          (let same : t ≡ u = one_alone t u here in
          subst (λ (v : Token). Contains (names_with names v.kind (spelling text v)).held (spelling text u)) (sym same) (named_by names (spelling text u) (has_name u.kind) named))
      | inr later ↦ names_named text after ts u named later
    ]

names_made : (text : List ℕ) (names : Spellings) (ts : List Token) → (names_from text names ts).made ≡ names.made
names_made text names [] = refl
names_made text names (t ∷ ts) =
    names_made text (names_with names t.kind (spelling text t)) ts ∙ token_made names t.kind (spelling text t)

-- ---- the law

name_from : (text s : List ℕ) → Contains (names_from text only_nil (tokens_of text)).held s → (s ≡ codes "nil") ⊎ IsNameIn text s
name_from text s c =
    elim (names_cases text only_nil (tokens_of text) s c) [
      | inl nil ↦ inl (sym (one_alone (codes "nil") s nil))
      | inr n ↦ inr (record { token = n.0; stands = n.1; named = n.2; spelled = n.3 })
    ]

name_held : (text s : List ℕ) → (s ≡ codes "nil") ⊎ IsNameIn text s → Contains (names_from text only_nil (tokens_of text)).held s
name_held text s (inl nil) = names_kept text only_nil (tokens_of text) s (0, omega arith, sym nil)
name_held text s (inr n) =
    subst (Contains (names_from text only_nil (tokens_of text)).held) n.spelled (names_named text only_nil (tokens_of text) n.token n.named n.stands)

text_names : (text : List ℕ) → AreNamesOf text (names_from text only_nil (tokens_of text))
text_names text = record { all = λ s. (name_from text s, name_held text s); none_made = names_made text only_nil (tokens_of text) }

verdict_names : (end : ℕ) (names : Spellings) (stop : Option LexFault) (o : Outcome) (r : Read) → verdict end names stop o ≡ Ok r → names ≡ r.names
verdict_names end names stop (Err (f, Some w)) r e = absurd (cc)
verdict_names end names stop (Err (f, None)) r e = absurd (cc)
verdict_names end names (Some f) (Ok s) r e = absurd (cc)
verdict_names end names None (Ok s) r e =
    let same : record { classes = s.classes; rules = s.rules; templates = s.templates; commands = s.commands; names = names } ≡ r = cc in ap (λ (q : Read). q.names) same

by_length : (text : List ℕ) (r : Read) (long : Bool) → (let x : Result Read Placed = cond long (Err (record { fault = fault.TooLong; at = 0 })) (read_tokens text (lexed text).stop (tokens_of text)) in x ≡ Ok r) → names_from text only_nil (tokens_of text) ≡ r.names
by_length text r true e = absurd (cc)
by_length text r false e = verdict_names (length text) (names_from text only_nil (tokens_of text)) (lexed text).stop (outcome_of (words_of text)) r e

-- The names of what is read are nil and those of the text, and none was made.
pub reads-names : (text : List ℕ) (r : Read) → reads text ≡ Ok r → AreNamesOf text r.names
unfolding reads
reads-names text r e = subst (AreNamesOf text) (by_length text r (nat_lt longest_list (length text)) e) (text_names text)
