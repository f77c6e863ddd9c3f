-- What the next token is like.
use Rattle.std.proofs.Common.{◌≡◌, ◌≢◌, ℕ, ◌+◌, ◌-◌, ◌<◌, ◌≤◌, Bool, true, false, List, [], ◌∷◌, length, drop, take, get_or, Option, Some, None, Ok, Err, refl, sym, ap, ◌∙◌, arith, subst, drop-cons, inl, inr}
use Rattle.std.specs.Prelude.{◌↔◌, ◌==◌, IfOk, IfErr, IfSome, MatchResult, IsSomeAnd, position, slice_index, slice_range, nat_lt}
use Rattle.std.specs.List.{AllPass, prefix_len, position_or_len}
use Rattle.std.proofs.lemmas.Bool.{cond_both, cond-true, cond-false, eqb-true, eqb-false, lt-ltb, both_ways, and_from, not_from_false, cases_lt}
use Rattle.std.proofs.lemmas.List.{get_or-take, get_or_default, length-drop, length-take}
use Rattle.std.proofs.lemmas.List.Quantifiers.{position-Some}
use Rattle.std.proofs.lemmas.List.Sums.{prefix_len_passes, prefix_len-le-length, prefix_len-drop_yes, fails_before_first}
use Rattle.ops_tokens.specs.Bytes.{is_bad, is_bar, is_plain}
use Rattle.ops_tokens.specs.Gaps.{IsGap}
use Rattle.ops_tokens.specs.Meanings.{IsSpelled, IsOperator, IsWhole, IsFraction, IsVariable, is_quotable}
use Rattle.ops_tokens.specs.Numbers.{whole_value, is_in_range}
use Rattle.ops_tokens.specs.Spellings.{operator, whole, fraction, variable, is_operator, is_whole, is_fraction, is_variable}
use Rattle.ops_tokens.specs.Tokens.{Next, gap_end, bracket_of, closed, quoted, atom, run_at, begun, standing, token_at, is_quoted, spelling, LiesIn, StandsFrom}
use Rattle.ops_tokens.specs.declared.token.Token.{Token}
use Rattle.ops_tokens.specs.declared.token.TokenKind.{TokenKind}
use Rattle.ops_tokens.specs.declared.token.TokenKind.TheVariants as kind
use Rattle.ops_tokens.proofs.Atoms.{slice-run}
use Rattle.ops_tokens.proofs.Gaps.{gap-end, gap-le}
use Rattle.ops_tokens.proofs.Meaning.{matches-is}
use Rattle.ops_tokens.proofs.Runs.{IsBytes, IsBytes-drop, all_bytes}

-- the token stands at `first` and is spelled as its kind asks
record IsBegun (text : List ℕ) (at : ℕ) (t : Token) : Type 0 where
  begins : t.first ≡ at
  some : at < t.past
  lies : LiesIn text t
  spelled : IsSpelled t.kind (spelling text t)

-- a token or a fault, and never the end
abbrev Begins : List ℕ → ℕ → Next → Type 0
Begins text first r = MatchResult r (λ found. IsSomeAnd found (IsBegun text first)) (λ fault. (first ≤ fault.at) × (fault.at < length text))

pub operator-means : (s : List ℕ) → (is_operator s ≡ true → IsOperator s) × (IsOperator s → is_operator s ≡ true)
unfolding is_operator IsOperator
operator-means s = matches-is s operator

pub whole-means : (s : List ℕ) → (is_whole s ≡ true → IsWhole s) × (IsWhole s → is_whole s ≡ true)
unfolding is_whole IsWhole
whole-means s = matches-is s whole

pub fraction-means : (s : List ℕ) → (is_fraction s ≡ true → IsFraction s) × (IsFraction s → is_fraction s ≡ true)
unfolding is_fraction IsFraction
fraction-means s = matches-is s fraction

pub variable-means : (s : List ℕ) → (is_variable s ≡ true → IsVariable s) × (IsVariable s → is_variable s ≡ true)
unfolding is_variable IsVariable
variable-means s = matches-is s variable

-- a token without bars
unbarred : (text : List ℕ) (first past : ℕ) (k : TokenKind) (s : List ℕ) → is_quoted k ≡ false → first < past → past ≤ length text → slice_range text first past ≡ s → IsSpelled k s → IsBegun text first (record { kind = k; first = first; past = past })
unbarred text first past k s plain some within is spelled =
    record {
      begins = refl;
      some = some;
      lies = record { ordered = omega arith; within = within; bars = λ e. absurd (both_ways _ plain e) };
      spelled = subst (IsSpelled k) (sym (cond-false (is_quoted k) _ _ plain ∙ is)) spelled;
    }

-- ---- the tokens of one byte

bracket-spelled : (b : ℕ) → IfSome (bracket_of b) (λ k. (is_quoted k ≡ false) × IsSpelled k (b ∷ []))
bracket-spelled b =
    let P : Option TokenKind → Type 0 = λ o. IfSome o (λ k. (is_quoted k ≡ false) × IsSpelled k (b ∷ [])) in
    cond_both (b == 40) _ _ P (λ e. (refl, ap (λ (x : ℕ). x ∷ []) (eqb-true b 40 e))) (λ _.
    cond_both (b == 41) _ _ P (λ e. (refl, ap (λ (x : ℕ). x ∷ []) (eqb-true b 41 e))) (λ _.
    cond_both (b == 123) _ _ P (λ e. (refl, ap (λ (x : ℕ). x ∷ []) (eqb-true b 123 e))) (λ _.
    cond_both (b == 125) _ _ P (λ e. (refl, ap (λ (x : ℕ). x ∷ []) (eqb-true b 125 e))) (λ _.
    cond_both (b == 94) _ _ P (λ e. (refl, ap (λ (x : ℕ). x ∷ []) (eqb-true b 94 e))) (λ _. tt)))))

pub one_byte : (text : List ℕ) (first : ℕ) → first < length text → slice_range text first (first + 1) ≡ slice_index text first ∷ []
one_byte text first lt =
    let n : first + 1 - first ≡ 1 = omega arith in
    ap (λ (k : ℕ). take k (drop first text)) n ∙ ap (λ (xs : List ℕ). take 1 xs) (drop-cons text first 0 lt)

-- ---- quoted atoms

abbrev pub rest_of : List ℕ → ℕ → List ℕ
rest_of text first = drop (first + 1) text

pub none_pass : (test : ℕ → Bool) (xs : List ℕ) → None ≡ position test xs → (k : ℕ) → k < length xs → test (get_or xs k 0) ≡ false
none_pass test xs none k lt =
    elim (cases_lt (position_or_len test xs) (length xs)) [
      | inl below ↦ absurd (let e = none ∙ cond-true (nat_lt (position_or_len test xs) (length xs)) (Some (position_or_len test xs)) None (lt-ltb _ _ below) in cc)
      | inr above ↦ fails_before_first test xs k 0 (omega arith)
    ]

-- bytes at the front of which none is a bar, and none is bad
pub quotable_before : (xs : List ℕ) (n : ℕ) → ((k : ℕ) → k < n → is_bar (get_or xs k 0) ≡ false) → ((k : ℕ) → k < n → is_bad (get_or xs k 0) ≡ false) → AllPass is_quotable (take n xs)
quotable_before xs n bars bad k d h =
    let below : k < n = omega (arith, length-take n xs) in
    ap is_quotable (get_or-take n xs k d below ∙ get_or_default xs k d 0 (omega (arith, length-take n xs)))
    ∙ and_from _ _ (not_from_false _ (bars k below)) (not_from_false _ (bad k below))

closed-begins : (text : List ℕ) (first n : ℕ) → n < length (rest_of text first) → ((k : ℕ) → k < n → is_bar (get_or (rest_of text first) k 0) ≡ false) → (o : Option ℕ) → o ≡ position is_bad (take n (rest_of text first)) → Begins text first (closed first n o)
closed-begins text first n lt bars None e =
    let size : first + n + 2 - 1 - (first + 1) ≡ n = omega arith in
    record {
      begins = refl;
      some = omega arith;
      lies = record { ordered = omega arith; within = omega (arith, length-drop (first + 1) text); bars = λ _. omega arith };
      spelled = subst (λ (k : ℕ). AllPass is_quotable (take k (rest_of text first))) (sym size) (quotable_before (rest_of text first) n bars (λ k h. sym (ap is_bad (get_or-take n (rest_of text first) k 0 h)) ∙ none_pass is_bad (take n (rest_of text first)) e k (omega (arith, length-take n (rest_of text first)))));
    }
closed-begins text first n lt bars (Some bad) e =
    let is = position-Some is_bad (take n (rest_of text first)) bad 0 (sym e) in
    (omega arith, omega (arith, is.0, length-take n (rest_of text first), length-drop (first + 1) text))

quoted-begins : (text : List ℕ) (first : ℕ) → first < length text → (o : Option ℕ) → o ≡ position is_bar (rest_of text first) → Begins text first (quoted first (rest_of text first) o)
quoted-begins text first lt None e = (omega arith, lt)
quoted-begins text first lt (Some n) e =
    let is = position-Some is_bar (rest_of text first) n 0 (sym e) in
    closed-begins text first n is.0 is.2 _ refl

-- ---- plain atoms

pub run_le : (text : List ℕ) (first : ℕ) → first ≤ length text → first + length (run_at text first) ≤ length text
run_le text first le = omega (arith, length-take (prefix_len is_plain (drop first text)) (drop first text), prefix_len-le-length is_plain (drop first text), length-drop first text)

pub run_some : (text : List ℕ) (first : ℕ) → first < length text → is_plain (slice_index text first) ≡ true → 0 < length (run_at text first)
run_some text first lt plain = omega (arith, length-take (prefix_len is_plain (drop first text)) (drop first text), prefix_len-le-length is_plain (drop first text), prefix_len-drop_yes is_plain text first 0 lt plain)

pub run_plain : (text : List ℕ) (first : ℕ) → AllPass is_plain (run_at text first)
run_plain text first k d lt =
    let below : k < prefix_len is_plain (drop first text) = omega (arith, length-take (prefix_len is_plain (drop first text)) (drop first text)) in
    ap is_plain (get_or-take (prefix_len is_plain (drop first text)) (drop first text) k d below) ∙ prefix_len_passes is_plain (drop first text) k d below

atom-begins : (text : List ℕ) (first : ℕ) → first < length text → is_plain (slice_index text first) ≡ true → Begins text first (atom first (run_at text first))
atom-begins text first lt plain =
    let s : List ℕ = run_at text first in
    let some : 0 < length (run_at text first) = run_some text first lt plain in
    let past : ℕ = first + length (run_at text first) in
    let made : (k : TokenKind) → is_quoted k ≡ false → IsSpelled k s → IsBegun text first (record { kind = k; first = first; past = past }) =
    λ k quoted spelled. unbarred text first past k s quoted (omega arith) (run_le text first (omega arith)) (slice-run text first past refl) spelled in
    let P : Next → Type 0 = Begins text first in
    cond_both (is_operator s) _ _ P (λ yes_operator. made kind.Operator refl ((operator-means s).0 yes_operator)) (λ no_operator.
    cond_both (is_whole s) _ _ P
    (λ yes_whole. cond_both (is_in_range (whole_value s)) _ _ P (λ _. made (kind.Whole (whole_value s)) refl ((whole-means s).0 yes_whole, refl)) (λ _. (omega arith, lt)))
    (λ no_whole.
    cond_both (is_fraction s) _ _ P (λ _. (omega arith, lt)) (λ no_fraction.
    cond_both (is_variable s) _ _ P
    (λ yes_variable. made kind.Variable refl ((variable-means s).0 yes_variable, λ m. both_ways _ no_operator ((operator-means s).1 m)))
    (λ no_variable. made kind.Symbol refl (record {
      some = some;
      plain = run_plain text first;
      no_operator = λ m. both_ways _ no_operator ((operator-means s).1 m);
      no_whole = λ m. both_ways _ no_whole ((whole-means s).1 m);
      no_fraction = λ m. both_ways _ no_fraction ((fraction-means s).1 m);
      no_variable = λ m. both_ways _ no_variable ((variable-means s).1 m);
    })))))

-- ---- any token

begun-begins : (text : List ℕ) (first : ℕ) → first < length text → (o : Option TokenKind) → o ≡ bracket_of (slice_index text first) → Begins text first (begun text first (slice_index text first) o)
begun-begins text first lt (Some k) e =
    let is = subst (λ (o : Option TokenKind). IfSome o (λ k. (is_quoted k ≡ false) × IsSpelled k (slice_index text first ∷ []))) (sym e) (bracket-spelled (slice_index text first)) in
    unbarred text first (first + 1) k (slice_index text first ∷ []) is.0 (omega arith) (omega arith) (one_byte text first lt) is.1
begun-begins text first lt None e =
    cond_both (is_bar (slice_index text first)) _ _ (Begins text first) (λ _. quoted-begins text first lt _ refl) (λ _.
    cond_both (is_plain (slice_index text first)) _ _ (Begins text first) (λ plain. atom-begins text first lt plain) (λ _. (omega arith, lt)))

pub gap_end-le : (text : List ℕ) (from : ℕ) → from ≤ length text → gap_end text from ≤ length text
gap_end-le text from le = omega (arith, gap-le (drop from text) false, length-drop from text)

-- at the end, or something begins
data Stands (text : List ℕ) (first : ℕ) (r : Next) : Type 0 where
  ended : first ≡ length text → r ≡ Ok None → Stands text first r
  begins : first < length text → Begins text first r → Stands text first r

stands : (text : List ℕ) (first : ℕ) → first ≤ length text → Stands text first (standing text first)
stands text first le =
    cond_both (first == length text) (Ok None) (begun text first (slice_index text first) (bracket_of (slice_index text first))) (Stands text first)
    (λ e. ended (eqb-true first (length text) e) refl)
    (λ e. let ne : first ≢ length text = eqb-false first (length text) e in let lt : first < length text = omega arith in begins lt (begun-begins text first lt _ refl))

place-of : (text : List ℕ) (from first : ℕ) → from ≤ first → (r : Next) → Stands text first r → IfOk r (λ found. IfSome found (StandsFrom text from))
place-of text from first low r (ended e is) = rw is tt
place-of text from first low (Ok None) (begins lt b) = absurd b
place-of text from first low (Ok (Some t)) (begins lt b) = record { begins = omega (arith, b.begins); some = omega (arith, b.begins, b.some); lies = b.lies }
place-of text from first low (Err f) (begins lt b) = tt

pub token-place : (text : List ℕ) (from : ℕ) → from ≤ length text → IfOk (token_at text from) (λ found. IfSome found (StandsFrom text from))
unfolding token_at
token-place text from le = place-of text from (gap_end text from) (omega arith) _ (stands text (gap_end text from) (gap_end-le text from le))

spelled-of : (text : List ℕ) (first : ℕ) (r : Next) → Stands text first r → IfOk r (λ found. IfSome found (λ t. IsSpelled t.kind (spelling text t)))
spelled-of text first r (ended e is) = rw is tt
spelled-of text first (Ok None) (begins lt b) = absurd b
spelled-of text first (Ok (Some t)) (begins lt b) = b.spelled
spelled-of text first (Err f) (begins lt b) = tt

pub token-spelled : (text : List ℕ) (from : ℕ) → from ≤ length text → IfOk (token_at text from) (λ found. IfSome found (λ t. IsSpelled t.kind (spelling text t)))
unfolding token_at
token-spelled text from le = spelled-of text (gap_end text from) _ (stands text (gap_end text from) (gap_end-le text from le))

ended-of : (text : List ℕ) (first : ℕ) (r : Next) → Stands text first r → (r ≡ Ok None → first ≡ length text) × (first ≡ length text → r ≡ Ok None)
ended-of text first r (ended e is) = (λ _. e, λ _. is)
ended-of text first (Ok None) (begins lt b) = absurd b
ended-of text first (Ok (Some t)) (begins lt b) = (λ e. absurd cc, λ e. absurd (omega arith))
ended-of text first (Err f) (begins lt b) = (λ e. absurd cc, λ e. absurd (omega arith))

pub token-end : (text : List ℕ) (from : ℕ) → from ≤ length text → IsBytes text → (token_at text from ≡ Ok None) ↔ IsGap (drop from text)
unfolding token_at
token-end text from le bytes =
    let end = ended-of text (gap_end text from) _ (stands text (gap_end text from) (gap_end-le text from le)) in
    let whole = gap-end (drop from text) (all_bytes _ (IsBytes-drop from text bytes)) in (
      λ e. whole.0 (let at : gap_end text from ≡ length text = end.0 e in omega (arith, length-drop from text)),
      λ g. end.1 (omega (arith, whole.1 g, length-drop from text)),
    )

fault-of : (text : List ℕ) (from first : ℕ) → from ≤ first → (r : Next) → Stands text first r → IfErr r (λ fault. (from ≤ fault.at) × (fault.at < length text))
fault-of text from first low r (ended e is) = rw is tt
fault-of text from first low (Ok None) (begins lt b) = absurd b
fault-of text from first low (Ok (Some t)) (begins lt b) = tt
fault-of text from first low (Err f) (begins lt b) = (omega (arith, b.0), b.1)

pub token-fault : (text : List ℕ) (from : ℕ) → from ≤ length text → IfErr (token_at text from) (λ fault. (from ≤ fault.at) × (fault.at < length text))
unfolding token_at
token-fault text from le = fault-of text from (gap_end text from) (omega arith) _ (stands text (gap_end text from) (gap_end-le text from le))
