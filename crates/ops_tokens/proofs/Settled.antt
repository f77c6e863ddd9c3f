-- What stands next is what is answered, so that no two things do.
use Rattle.std.proofs.Common.{◌≡◌, ℕ, ◌+◌, ◌-◌, ◌<◌, ◌≤◌, Bool, true, false, List, [], ◌∷◌, length, drop, take, get_or, Option, Some, None, Ok, Err, refl, sym, ap, ◌∙◌, arith, inl, inr}
use Rattle.std.specs.Prelude.{◌||◌, ◌&&◌, not, is_some, position, slice_index, slice_range, ℤ}
use Rattle.std.specs.List.{AllPass, AllByRecursion, position_or_len}
use Rattle.std.proofs.lemmas.Bool.{cond-true, cond-false, eqb-true, lt-ltb, le-ltb, cases_order, and_parts, not-true, false_from_ne_true}
use Rattle.std.proofs.lemmas.List.{get_or-take, get_or-drop, length-drop, length-take}
use Rattle.std.proofs.lemmas.List.Sums.{prefix_len_is, position_or_len_is}
use Rattle.ops_tokens.specs.Bytes.{is_bad, is_bar, is_plain}
use Rattle.ops_tokens.specs.Following.{IsGapTo, IsRunTo, AreBars, Reaches, IsHeld, StandsNext, IsFaultAt, bad_byte, bad_between, unclosed, fraction, range, FaultStandsNext, IsSettled}
use Rattle.ops_tokens.specs.Meanings.{IsSpelled, is_quotable}
use Rattle.ops_tokens.specs.Numbers.{whole_value, is_in_range}
use Rattle.ops_tokens.specs.Spellings.{is_operator, is_whole, is_fraction, is_variable}
use Rattle.ops_tokens.specs.Tokens.{Next, token, fault, gap_end, bracket_of, closed, quoted, number, atom, run_at, begun, standing, token_at, spelling}
use Rattle.ops_tokens.specs.declared.token.Token.{Token}
use Rattle.ops_tokens.specs.declared.token.TokenKind.{TokenKind}
use Rattle.ops_tokens.specs.declared.token.TokenKind.TheVariants as kind
use Rattle.ops_tokens.specs.declared.token.LexFault.{LexFault}
use Rattle.ops_tokens.specs.declared.token.TheConstants.{BAD_BYTE, FRACTION_NUMBER}
use Rattle.ops_tokens.proofs.Atoms.{standing-begun}
use Rattle.ops_tokens.proofs.Below.{all_below, all_below-at}
use Rattle.ops_tokens.proofs.Clauses.{operator-means, whole-means, fraction-means, variable-means, rest_of, one_byte, token-end}
use Rattle.ops_tokens.proofs.Following.{gap-is, rest-at}
use Rattle.ops_tokens.proofs.Program.{are_apart, atoms_apart}
use Rattle.ops_tokens.proofs.Runs.{IsBytes, IsBytes-prefix, all_bytes}

-- ---- a gap ends at one place

same_place : (text : List ℕ) (from a b : ℕ) → IsGapTo text from a → IsGapTo text from b → a ≡ b
same_place text from a b x y =
    elim (cases_order a b) [
      | inl e ↦ e
      | inr h ↦ elim h [ inl lt ↦ absurd (x.longest b lt y.within y.is) | inr lt ↦ absurd (y.longest a lt x.within x.is) ]
    ]

-- what begins at the end of the gap is what is answered
answered : (text : List ℕ) (from first : ℕ) → from ≤ length text → IsBytes text → IsGapTo text from first → first < length text → token_at text from ≡ begun text first (slice_index text first) (bracket_of (slice_index text first))
unfolding token_at
answered text from first le bytes gap lt =
    ap (standing text) (same_place text from (gap_end text from) first (gap-is text from le bytes) gap) ∙ sym (standing-begun text first (λ e. absurd (omega arith)))

-- ---- the bytes of a part of the text

range-size : (text : List ℕ) (first last : ℕ) → first ≤ last → last ≤ length text → length (slice_range text first last) ≡ last - first
range-size text first last ordered within = omega (arith, length-take (last - first) (drop first text), length-drop first text)

range-at : (text : List ℕ) (first last k : ℕ) → first ≤ k → k < last → get_or (slice_range text first last) (k - first) 0 ≡ slice_index text k
range-at text first last k low high =
    let below : k - first < last - first = omega arith in
    let place : first + (k - first) ≡ k = omega arith in
    get_or-take (last - first) (drop first text) (k - first) 0 below ∙ get_or-drop first text (k - first) 0 ∙ ap (slice_index text) place

pass-at : (test : ℕ → Bool) (text : List ℕ) (first last k : ℕ) → AllPass test (slice_range text first last) → first ≤ k → k < last → last ≤ length text → test (slice_index text k) ≡ true
pass-at test text first last k passes low high within =
    sym (ap test (range-at text first last k low high)) ∙ passes (k - first) 0 (omega (arith, range-size text first last (omega arith) within))

-- ---- the kinds of bytes

none-is : (o : Option TokenKind) → is_some o ≡ false → o ≡ None
none-is None e = refl
none-is (Some k) e = absurd cc

bar-begins : (b : ℕ) → is_bar b ≡ true → bracket_of b ≡ None
bar-begins b e = ap bracket_of (eqb-true b 124 e)

only_plain : all_below (λ b. not (is_plain b) || (not (is_some (bracket_of b)) && not (is_bar b))) 256 ≡ true
unfolding all_below
only_plain = refl

only_bad : all_below (λ b. not (is_bad b) || (not (is_some (bracket_of b)) && (not (is_bar b) && not (is_plain b)))) 256 ≡ true
unfolding all_below
only_bad = refl

then_rest : (a c : Bool) → (not a || c) ≡ true → a ≡ true → c ≡ true
then_rest true c e is = e
then_rest false c e is = absurd cc

plain-begins : (b : ℕ) → b < 256 → is_plain b ≡ true → (bracket_of b ≡ None) × (is_bar b ≡ false)
plain-begins b lt plain =
    let h = and_parts (not (is_some (bracket_of b))) (not (is_bar b)) (then_rest (is_plain b) _ (all_below-at (λ b. not (is_plain b) || (not (is_some (bracket_of b)) && not (is_bar b))) 256 b only_plain lt) plain) in
    (none-is (bracket_of b) (not-true _ h.0), not-true _ h.1)

bad-begins : (b : ℕ) → b < 256 → is_bad b ≡ true → (bracket_of b ≡ None) × (is_bar b ≡ false) × (is_plain b ≡ false)
bad-begins b lt bad =
    let h = and_parts (not (is_some (bracket_of b))) (not (is_bar b) && not (is_plain b)) (then_rest (is_bad b) _ (all_below-at (λ b. not (is_bad b) || (not (is_some (bracket_of b)) && (not (is_bar b) && not (is_plain b)))) 256 b only_bad lt) bad) in
    let k = and_parts (not (is_bar b)) (not (is_plain b)) h.1 in
    (none-is (bracket_of b) (not-true _ h.0), not-true _ k.0, not-true _ k.1)

-- ---- what begins, and where it begins

abbrev Begun : List ℕ → ℕ → Next → Type 0
Begun text first r = (first < length text) × (begun text first (slice_index text first) (bracket_of (slice_index text first)) ≡ r)

-- ---- the tokens of one byte

bracket-begun : (text : List ℕ) (first past : ℕ) (k : TokenKind) (c : ℕ) → past ≡ first + 1 → slice_range text first past ≡ c ∷ [] → bracket_of c ≡ Some k → Begun text first (token k first past)
bracket-begun text first past k c size spelled is =
    let lt : first < length text = omega (arith, ap (λ (xs : List ℕ). length xs) spelled, length-take (past - first) (drop first text), length-drop first text) in
    let whole : slice_index text first ∷ [] ≡ c ∷ [] = sym (one_byte text first lt) ∙ ap (λ (n : ℕ). slice_range text first n) (sym size) ∙ spelled in
    let byte : slice_index text first ≡ c = cc in
    (lt, ap (begun text first (slice_index text first)) (ap bracket_of byte ∙ is) ∙ ap (token k first) (sym size))

-- ---- plain atoms

run-at : (text : List ℕ) (first past : ℕ) → IsRunTo text first past → run_at text first ≡ slice_range text first past
run-at text first past run =
    let some = run.some in
    let within = run.within in
    let place : first + (past - first) ≡ past = omega arith in
    ap (λ (k : ℕ). take k (drop first text)) (prefix_len_is is_plain (drop first text) (past - first) 0 (omega (arith, length-drop first text))
    (λ k h. ap is_plain (get_or-drop first text k 0) ∙ pass-at is_plain text first past (first + k) run.plain (omega arith) (omega arith) within)
    (λ lt. elim run.ends [
      | inl e ↦ absurd (omega (arith, length-drop first text))
      | inr stops ↦ ap is_plain (get_or-drop first text (past - first) 0 ∙ ap (slice_index text) place) ∙ stops
    ]))

-- a run begins an atom of its spelling
run-begun : (text : List ℕ) (first past : ℕ) → IsBytes text → IsRunTo text first past → Begun text first (atom first (slice_range text first past))
run-begun text first past bytes run =
    let some = run.some in
    let within = run.within in
    let plain : is_plain (slice_index text first) ≡ true = pass-at is_plain text first past first run.plain (omega arith) some within in
    let h = plain-begins (slice_index text first) (bytes first) plain in (
      omega arith,
      ap (begun text first (slice_index text first)) h.0 ∙ cond-false (is_bar (slice_index text first)) _ _ h.1 ∙ cond-true (is_plain (slice_index text first)) _ _ plain ∙ ap (atom first) (run-at text first past run),
    )

run-bytes : (text : List ℕ) (first past : ℕ) → IsBytes text → AllByRecursion (λ b. b < 256) (slice_range text first past)
run-bytes text first past bytes = all_bytes _ (IsBytes-prefix text first (past - first) bytes)

run-past : (text : List ℕ) (first past : ℕ) → IsRunTo text first past → first + length (slice_range text first past) ≡ past
run-past text first past run =
    let some = run.some in
    let within = run.within in
    omega (arith, range-size text first past (omega arith) within)

whole-apart : (o w f v : Bool) → are_apart o w f v ≡ true → w ≡ true → o ≡ false
whole-apart false w f v e is = refl
whole-apart true true f v e is = absurd cc
whole-apart true false f v e is = absurd cc

fraction-apart : (o w f v : Bool) → are_apart o w f v ≡ true → f ≡ true → (o ≡ false) × (w ≡ false)
fraction-apart false false f v e is = (refl, refl)
fraction-apart true true f v e is = absurd cc
fraction-apart true false true v e is = absurd cc
fraction-apart true false false v e is = absurd cc
fraction-apart false true true v e is = absurd cc
fraction-apart false true false v e is = absurd cc

variable-apart : (o w f v : Bool) → are_apart o w f v ≡ true → v ≡ true → (w ≡ false) × (f ≡ false)
variable-apart o false false v e is = (refl, refl)
variable-apart o w f false e is = absurd cc
variable-apart true true f true e is = absurd cc
variable-apart false true true true e is = absurd cc
variable-apart false true false true e is = absurd cc
variable-apart true false true true e is = absurd cc
variable-apart false false true true e is = absurd cc

-- an atom of each kind, where the run is its spelling
operator-begun : (text : List ℕ) (first past : ℕ) → IsBytes text → IsRunTo text first past → is_operator (slice_range text first past) ≡ true → Begun text first (token kind.Operator first past)
operator-begun text first past bytes run is =
    let b = run-begun text first past bytes run in
    (b.0, b.1 ∙ cond-true (is_operator (slice_range text first past)) _ _ is ∙ ap (token kind.Operator first) (run-past text first past run))

whole-begun : (text : List ℕ) (first past : ℕ) → IsBytes text → IsRunTo text first past → is_whole (slice_range text first past) ≡ true → Begun text first (number (whole_value (slice_range text first past)) first past)
whole-begun text first past bytes run is =
    let b = run-begun text first past bytes run in
    let no_operator = whole-apart (is_operator (slice_range text first past)) _ _ _ (atoms_apart (slice_range text first past) (run-bytes text first past bytes)) is in
    (b.0, b.1 ∙ cond-false (is_operator (slice_range text first past)) _ _ no_operator ∙ cond-true (is_whole (slice_range text first past)) _ _ is ∙ ap (number (whole_value (slice_range text first past)) first) (run-past text first past run))

fraction-begun : (text : List ℕ) (first past : ℕ) → IsBytes text → IsRunTo text first past → is_fraction (slice_range text first past) ≡ true → Begun text first (fault FRACTION_NUMBER first)
fraction-begun text first past bytes run is =
    let b = run-begun text first past bytes run in
    let none = fraction-apart (is_operator (slice_range text first past)) _ _ _ (atoms_apart (slice_range text first past) (run-bytes text first past bytes)) is in
    (b.0, b.1 ∙ cond-false (is_operator (slice_range text first past)) _ _ none.0 ∙ cond-false (is_whole (slice_range text first past)) _ _ none.1 ∙ cond-true (is_fraction (slice_range text first past)) _ _ is)

variable-begun : (text : List ℕ) (first past : ℕ) → IsBytes text → IsRunTo text first past → is_operator (slice_range text first past) ≡ false → is_variable (slice_range text first past) ≡ true → Begun text first (token kind.Variable first past)
variable-begun text first past bytes run no_operator is =
    let b = run-begun text first past bytes run in
    let none = variable-apart (is_operator (slice_range text first past)) _ _ _ (atoms_apart (slice_range text first past) (run-bytes text first past bytes)) is in (
      b.0,
      b.1 ∙ cond-false (is_operator (slice_range text first past)) _ _ no_operator ∙ cond-false (is_whole (slice_range text first past)) _ _ none.0 ∙ cond-false (is_fraction (slice_range text first past)) _ _ none.1
          ∙ cond-true (is_variable (slice_range text first past)) _ _ is ∙ ap (token kind.Variable first) (run-past text first past run),
    )

symbol-begun : (text : List ℕ) (first past : ℕ) → IsBytes text → IsRunTo text first past → is_operator (slice_range text first past) ≡ false → is_whole (slice_range text first past) ≡ false → is_fraction (slice_range text first past) ≡ false → is_variable (slice_range text first past) ≡ false
    → Begun text first (token kind.Symbol first past)
symbol-begun text first past bytes run no_operator no_whole no_fraction no_variable =
    let b = run-begun text first past bytes run in (
      b.0,
      b.1 ∙ cond-false (is_operator (slice_range text first past)) _ _ no_operator ∙ cond-false (is_whole (slice_range text first past)) _ _ no_whole ∙ cond-false (is_fraction (slice_range text first past)) _ _ no_fraction
          ∙ cond-false (is_variable (slice_range text first past)) _ _ no_variable ∙ ap (token kind.Symbol first) (run-past text first past run),
    )

-- ---- bars

position-is : (test : ℕ → Bool) (xs : List ℕ) (n : ℕ) → n < length xs → test (get_or xs n 0) ≡ true → ((k : ℕ) → k < n → test (get_or xs k 0) ≡ false) → position test xs ≡ Some n
position-is test xs n lt passes fails =
    let e : position_or_len test xs ≡ n = position_or_len_is test xs n 0 (omega arith) fails (λ _. passes) in
    cond-true _ _ _ (lt-ltb (position_or_len test xs) (length xs) (omega arith)) ∙ ap Some e

position-none : (test : ℕ → Bool) (xs : List ℕ) → ((k : ℕ) → k < length xs → test (get_or xs k 0) ≡ false) → position test xs ≡ None
position-none test xs fails =
    let e : position_or_len test xs ≡ length xs = position_or_len_is test xs (length xs) 0 (omega arith) fails (λ lt. absurd (omega arith)) in
    cond-false _ _ _ (le-ltb (position_or_len test xs) (length xs) (omega arith))

-- what a bar begins
bar-begun : (text : List ℕ) (first : ℕ) (o : Option ℕ) → first < length text → is_bar (slice_index text first) ≡ true → position is_bar (rest_of text first) ≡ o → Begun text first (quoted first (rest_of text first) o)
bar-begun text first o lt opens e = (
  lt,
  ap (begun text first (slice_index text first)) (bar-begins (slice_index text first) opens) ∙ cond-true (is_bar (slice_index text first)) _ _ opens ∙ ap (quoted first (rest_of text first)) e,
)

bars-begun : (text : List ℕ) (first last : ℕ) (o : Option ℕ) → AreBars text first last → position is_bad (slice_range text (first + 1) last) ≡ o → Begun text first (closed first (last - (first + 1)) o)
bars-begun text first last o bars e =
    let apart = bars.apart in
    let within = bars.within in
    let place : first + 1 + (last - (first + 1)) ≡ last = omega arith in
    let second : position is_bar (rest_of text first) ≡ Some (last - (first + 1)) =
    position-is is_bar (rest_of text first) (last - (first + 1)) (omega (arith, length-drop (first + 1) text))
    (ap is_bar (rest-at text first (last - (first + 1)) ∙ ap (slice_index text) place) ∙ bars.closes)
    (λ k h. not-true _ (ap (λ (b : ℕ). not (is_bar b)) (rest-at text first k) ∙ pass-at (λ b. not (is_bar b)) text (first + 1) last (first + 1 + k) bars.between (omega arith) (omega arith) (omega arith))) in
    let b = bar-begun text first (Some (last - (first + 1))) (omega arith) bars.opens second in
    (b.0, b.1 ∙ ap (closed first (last - (first + 1))) e)

-- none of these bytes is bad
quotable-none : (xs : List ℕ) → AllPass is_quotable xs → position is_bad xs ≡ None
quotable-none xs all = position-none is_bad xs (λ k h. not-true _ (and_parts (not (is_bar (get_or xs k 0))) (not (is_bad (get_or xs k 0))) (all k 0 h)).1)

-- the first of them is the bad one that stands at the place
bad-position : (text : List ℕ) (first last at : ℕ) → first < at → at < last → last < length text → AllPass is_quotable (slice_range text (first + 1) at) → is_bad (slice_index text at) ≡ true → position is_bad (slice_range text (first + 1) last) ≡ Some (at - (first + 1))
bad-position text first last at low high within quotable bad =
    position-is is_bad (slice_range text (first + 1) last) (at - (first + 1)) (omega (arith, range-size text (first + 1) last (omega arith) (omega arith)))
    (ap is_bad (range-at text (first + 1) last at (omega arith) high) ∙ bad)
    (λ k h.
    let place : first + 1 + k - (first + 1) ≡ k = omega arith in
    let one : is_quotable (slice_index text (first + 1 + k)) ≡ true = pass-at is_quotable text (first + 1) at (first + 1 + k) quotable (omega arith) (omega arith) (omega arith) in
    let both = and_parts (not (is_bar (slice_index text (first + 1 + k)))) (not (is_bad (slice_index text (first + 1 + k)))) one in
    ap is_bad (ap (λ (j : ℕ). get_or (slice_range text (first + 1) last) j 0) (sym place) ∙ range-at text (first + 1) last (first + 1 + k) (omega arith) (omega arith)) ∙ not-true _ both.1)

-- ---- any token, and the faults

fails : (b : Bool) (P : Type 0) → (b ≡ true → P) → ¬ P → b ≡ false
fails b P means not_so = false_from_ne_true b (λ e. not_so (means e))

token-begun : (text : List ℕ) (first past : ℕ) (k : TokenKind) → IsBytes text → Reaches k text first past → IsSpelled k (spelling text (record { kind = k; first = first; past = past })) → IsHeld k → Begun text first (token k first past)
token-begun text first past kind.Left bytes reaches spelled held = bracket-begun text first past kind.Left 40 reaches spelled refl
token-begun text first past kind.Right bytes reaches spelled held = bracket-begun text first past kind.Right 41 reaches spelled refl
token-begun text first past kind.LeftBrace bytes reaches spelled held = bracket-begun text first past kind.LeftBrace 123 reaches spelled refl
token-begun text first past kind.RightBrace bytes reaches spelled held = bracket-begun text first past kind.RightBrace 125 reaches spelled refl
token-begun text first past kind.Caret bytes reaches spelled held = bracket-begun text first past kind.Caret 94 reaches spelled refl
token-begun text first past kind.Operator bytes run spelled held = operator-begun text first past bytes run ((operator-means _).1 spelled)
token-begun text first past (kind.Whole value) bytes run spelled held =
    let b = whole-begun text first past bytes run ((whole-means _).1 spelled.0) in
    (b.0, b.1 ∙ ap (λ (z : ℤ). number z first past) spelled.1 ∙ cond-true (is_in_range value) _ _ held)
token-begun text first past kind.Variable bytes run spelled held = variable-begun text first past bytes run (fails _ _ (operator-means _).0 spelled.1) ((variable-means _).1 spelled.0)
token-begun text first past kind.Symbol bytes run spelled held =
    symbol-begun text first past bytes run (fails _ _ (operator-means _).0 spelled.no_operator) (fails _ _ (whole-means _).0 spelled.no_whole) (fails _ _ (fraction-means _).0 spelled.no_fraction) (fails _ _ (variable-means _).0 spelled.no_variable)
token-begun text first past kind.Quoted bytes reaches spelled held =
    let wide = reaches.0 in
    let end : first + (past - 1 - (first + 1)) + 2 ≡ past = omega arith in
    let b = bars-begun text first (past - 1) None reaches.1 (quotable-none _ spelled) in
    (b.0, b.1 ∙ ap (token kind.Quoted first) end)

fault-begun : (text : List ℕ) (first : ℕ) (f : LexFault) → IsBytes text → IsFaultAt text first f → Begun text first (Err f)
fault-begun text first f bytes (bad_byte lt bad) =
    let h = bad-begins (slice_index text first) (bytes first) bad in
    (lt, ap (begun text first (slice_index text first)) h.0 ∙ cond-false (is_bar (slice_index text first)) _ _ h.1 ∙ cond-false (is_plain (slice_index text first)) _ _ h.2)
fault-begun text first f bytes (bad_between last at bars low high quotable bad) =
    let within = bars.within in
    let place : first + 1 + (at - (first + 1)) ≡ at = omega arith in
    let b = bars-begun text first last (Some (at - (first + 1))) bars (bad-position text first last at low high within quotable bad) in
    (b.0, b.1 ∙ ap (fault BAD_BYTE) place)
fault-begun text first f bytes (unclosed lt opens free) =
    bar-begun text first None lt opens (position-none is_bar (rest_of text first) (λ k h. not-true _ (free k 0 h)))
fault-begun text first f bytes (fraction past run is) = fraction-begun text first past bytes run ((fraction-means _).1 is)
fault-begun text first f bytes (range past run is large) =
    let b = whole-begun text first past bytes run ((whole-means _).1 is) in
    (b.0, b.1 ∙ cond-false (is_in_range (whole_value (slice_range text first past))) _ _ large)

token-stands : (text : List ℕ) (from : ℕ) → from ≤ length text → IsBytes text → (t : Token) → StandsNext text from t → token_at text from ≡ Ok (Some t)
token-stands text from le bytes t stands =
    let b = token-begun text t.first t.past t.kind bytes stands.reaches stands.spelled stands.held in
    answered text from t.first le bytes stands.gap b.0 ∙ b.1

fault-stands : (text : List ℕ) (from : ℕ) → from ≤ length text → IsBytes text → (f : LexFault) → FaultStandsNext text from f → token_at text from ≡ Err f
fault-stands text from le bytes f stands =
    let b = fault-begun text stands.first f bytes stands.fault in
    answered text from stands.first le bytes stands.gap b.0 ∙ b.1

pub settled : (text : List ℕ) (from : ℕ) → from ≤ length text → IsBytes text → IsSettled text from
settled text from le bytes =
    let is_token = token-stands text from le bytes in
    let is_fault = fault-stands text from le bytes in (
      λ t u x y. let one = is_token t x in let other = is_token u y in cc,
      λ t f x y. let one = is_token t x in let other = is_fault f y in absurd cc,
      λ f g x y. let one = is_fault f x in let other = is_fault g y in cc,
      λ gap. let end = (token-end text from le bytes).1 gap in (λ t x. let one = is_token t x in absurd cc, λ f x. let one = is_fault f x in absurd cc),
    )
