-- What the next token is, by what the bytes match.
use Rattle.std.proofs.Common.{◌≡◌, ℕ, zero, suc, ◌+◌, ◌-◌, ◌<◌, ◌≤◌, Bool, true, false, cond, List, [], ◌∷◌, length, drop, take, get_or, min, Option, Some, None, Ok, Err, refl, sym, ap, ◌∙◌, arith, subst, inl, inr}
use Rattle.std.specs.Prelude.{◌==◌, ◌⊎◌, ◌||◌, not, is_some, IfOk, IfErr, IfSome, MatchResult, IsSomeAnd, position, slice_index, slice_range}
use Rattle.std.specs.List.{AllPass, prefix_len}
use Rattle.std.proofs.lemmas.Bool.{cond_both, cond-true, cond-false, eq-eqb, ne_eqb, cases_lt, cases_eq, not_from_false}
use Rattle.std.proofs.lemmas.List.{get_or-take, get_or-drop, get_or_default, length-drop, length-take}
use Rattle.std.proofs.lemmas.List.Quantifiers.{position-Some}
use Rattle.std.proofs.lemmas.List.Sums.{prefix_len-le-length, prefix_len_stops}
use Rattle.ops_tokens.specs.Bytes.{is_white, is_bad, is_bar, is_plain}
use Rattle.ops_tokens.specs.Following.{IsGapTo, IsRunTo, AreBars, Reaches, IsHeld, StandsNext, IsFaultAt, bad_byte, bad_between, unclosed, fraction, range, FaultStandsNext}
use Rattle.ops_tokens.specs.Meanings.{IsSpelled, IsFraction, IsWhole, is_quotable}
use Rattle.ops_tokens.specs.Numbers.{whole_value, is_in_range}
use Rattle.ops_tokens.specs.Spellings.{is_operator, is_whole, is_fraction, is_variable}
use Rattle.ops_tokens.specs.Tokens.{Next, gap, gap_end, bracket_of, closed, quoted, atom, run_at, begun, standing, token_at, spelling}
use Rattle.ops_tokens.specs.declared.token.Token.{Token}
use Rattle.ops_tokens.specs.declared.token.TokenKind.{TokenKind}
use Rattle.ops_tokens.proofs.Atoms.{slice-run}
use Rattle.ops_tokens.proofs.Below.{all_below, all_below-at}
use Rattle.ops_tokens.proofs.Clauses.{whole-means, fraction-means, rest_of, none_pass, quotable_before, run_le, run_some, run_plain, gap_end-le, token-spelled}
use Rattle.ops_tokens.proofs.Gaps.{gap-end, gap-le}
use Rattle.ops_tokens.proofs.Runs.{IsBytes, IsBytes-prefix, all_bytes}

-- ---- the gap

take-byte : (inside w c l : Bool) (s : List ℕ) (k : ℕ) → ((i : Bool) → gap i (take k s) ≡ min k (gap i s))
    → cond inside (suc (gap l (take k s))) (cond w (suc (gap false (take k s))) (cond c (suc (gap true (take k s))) 0)) ≡ min (suc k) (cond inside (suc (gap l s)) (cond w (suc (gap false s)) (cond c (suc (gap true s)) 0)))
take-byte true w c l s k rest = omega (arith, rest l)
take-byte false true c l s k rest = omega (arith, rest false)
take-byte false false true l s k rest = omega (arith, rest true)
take-byte false false false l s k rest = omega arith

-- of the bytes at the front as many belong to the gap
gap-take : (s : List ℕ) (k : ℕ) (inside : Bool) → gap inside (take k s) ≡ min k (gap inside s)
gap-take s zero inside = omega arith
gap-take [] (suc k) inside = omega arith
gap-take (b ∷ s) (suc k) inside = take-byte inside (is_white b) (b == 59) (not (b == 10)) s k (gap-take s k)

pub gap-is : (text : List ℕ) (from : ℕ) → from ≤ length text → IsBytes text → IsGapTo text from (gap_end text from)
gap-is text from le bytes =
    let size : gap_end text from - from ≡ gap false (drop from text) = omega arith in
    let all = λ (n : ℕ). gap-end (take n (drop from text)) (all_bytes _ (IsBytes-prefix text from n bytes)) in
    record {
      begins = omega arith;
      within = gap_end-le text from le;
      is = (all (gap_end text from - from)).0 (omega (arith, gap-take (drop from text) (gap_end text from - from) false, length-take (gap_end text from - from) (drop from text), gap-le (drop from text) false));
      longest = λ n above within is. absurd (omega (arith, (all (n - from)).1 is, gap-take (drop from text) (n - from) false, length-take (n - from) (drop from text), length-drop from text));
    }

-- a byte at which no gap goes on
abbrev IsStop : ℕ → Type 0
IsStop b = (is_white b ≡ false) × ((b == 59) ≡ false)

stop-byte : (inside w c l : Bool) (b : ℕ) (s : List ℕ) → is_white b ≡ w → (b == 59) ≡ c → ((i : Bool) → gap i s < length s → IsStop (get_or s (gap i s) 0))
    → cond inside (suc (gap l s)) (cond w (suc (gap false s)) (cond c (suc (gap true s)) 0)) < suc (length s) → IsStop (get_or (b ∷ s) (cond inside (suc (gap l s)) (cond w (suc (gap false s)) (cond c (suc (gap true s)) 0))) 0)
stop-byte true w c l b s white colon rest lt = rest l (omega arith)
stop-byte false true c l b s white colon rest lt = rest false (omega arith)
stop-byte false false true l b s white colon rest lt = rest true (omega arith)
stop-byte false false false l b s white colon rest lt = (white, colon)

gap_stops : (s : List ℕ) (inside : Bool) → gap inside s < length s → IsStop (get_or s (gap inside s) 0)
gap_stops [] inside lt = absurd (omega arith)
gap_stops (b ∷ s) inside lt = stop-byte inside (is_white b) (b == 59) (not (b == 10)) b s refl refl (gap_stops s) lt

-- ---- what stands after it

-- the token stands at the place, and reaches as far as its kind does
record IsFollowing (text : List ℕ) (at : ℕ) (t : Token) : Type 0 where
  begins : t.first ≡ at
  reaches : Reaches t.kind text t.first t.past
  held : IsHeld t.kind

-- such a token, or a fault that stands there, and never the end
abbrev Follows : List ℕ → ℕ → Next → Type 0
Follows text first r = MatchResult r (λ found. IsSomeAnd found (IsFollowing text first)) (IsFaultAt text first)

-- the byte is a token by itself, begins another one or a gap, or is bad
some_or_bad : all_below (λ b. is_some (bracket_of b) || (is_bar b || (is_plain b || (is_white b || ((b == 59) || is_bad b))))) 256 ≡ true
unfolding all_below
some_or_bad = refl

or_next : (a c : Bool) → (a || c) ≡ true → a ≡ false → c ≡ true
or_next true c e fails = absurd cc
or_next false c e fails = e

bad-at : (b : ℕ) → b < 256 → None ≡ bracket_of b → is_bar b ≡ false → is_plain b ≡ false → IsStop b → is_bad b ≡ true
bad-at b lt no_bracket no_bar no_plain stop =
    let any = all_below-at (λ b. is_some (bracket_of b) || (is_bar b || (is_plain b || (is_white b || ((b == 59) || is_bad b))))) 256 b some_or_bad lt in
    or_next (b == 59) _ (or_next (is_white b) _ (or_next (is_plain b) _ (or_next (is_bar b) _ (or_next (is_some (bracket_of b)) _ any (sym (ap (λ (o : Option TokenKind). is_some o) no_bracket))) no_bar) no_plain) stop.0) stop.1

bracket-reaches : (b : ℕ) → IfSome (bracket_of b) (λ k. ((text : List ℕ) (first : ℕ) → Reaches k text first (first + 1)) × IsHeld k)
bracket-reaches b =
    let P : Option TokenKind → Type 0 = λ o. IfSome o (λ k. ((text : List ℕ) (first : ℕ) → Reaches k text first (first + 1)) × IsHeld k) in
    cond_both (b == 40) _ _ P (λ _. (λ _ _. refl, tt)) (λ _.
    cond_both (b == 41) _ _ P (λ _. (λ _ _. refl, tt)) (λ _.
    cond_both (b == 123) _ _ P (λ _. (λ _ _. refl, tt)) (λ _.
    cond_both (b == 125) _ _ P (λ _. (λ _ _. refl, tt)) (λ _.
    cond_both (b == 94) _ _ P (λ _. (λ _ _. refl, tt)) (λ _. tt)))))

-- ---- bars

pub rest-at : (text : List ℕ) (first k : ℕ) → get_or (rest_of text first) k 0 ≡ slice_index text (first + 1 + k)
rest-at text first k = get_or-drop (first + 1) text k 0

not_bars : (xs : List ℕ) → ((k : ℕ) → k < length xs → is_bar (get_or xs k 0) ≡ false) → AllPass (λ b. not (is_bar b)) xs
not_bars xs free k d lt = ap (λ (b : ℕ). not (is_bar b)) (get_or_default xs k d 0 lt) ∙ not_from_false _ (free k lt)

bars-are : (text : List ℕ) (first n : ℕ) → is_bar (slice_index text first) ≡ true → n < length (rest_of text first) → is_bar (get_or (rest_of text first) n 0) ≡ true → ((k : ℕ) → k < n → is_bar (get_or (rest_of text first) k 0) ≡ false) → AreBars text first (first + n + 1)
bars-are text first n opens lt closes free =
    let size : first + n + 1 - (first + 1) ≡ n = omega arith in
    let place : first + 1 + n ≡ first + n + 1 = omega arith in
    record {
      apart = omega arith;
      within = omega (arith, length-drop (first + 1) text);
      opens = opens;
      between = subst (λ (k : ℕ). AllPass (λ b. not (is_bar b)) (take k (rest_of text first))) (sym size)
          (not_bars (take n (rest_of text first)) (λ k h. let below : k < n = omega (arith, length-take n (rest_of text first)) in ap is_bar (get_or-take n (rest_of text first) k 0 below) ∙ free k below));
      closes = sym (ap is_bar (rest-at text first n ∙ ap (slice_index text) place)) ∙ closes;
    }

closed-follows : (text : List ℕ) (first n : ℕ) → is_bar (slice_index text first) ≡ true → n < length (rest_of text first) → is_bar (get_or (rest_of text first) n 0) ≡ true → ((k : ℕ) → k < n → is_bar (get_or (rest_of text first) k 0) ≡ false)
    → (o : Option ℕ) → o ≡ position is_bad (take n (rest_of text first)) → Follows text first (closed first n o)
closed-follows text first n opens lt closes free None e =
    let last : first + n + 1 ≡ first + n + 2 - 1 = omega arith in
    record { begins = refl; reaches = (omega arith, subst (λ (k : ℕ). AreBars text first k) last (bars-are text first n opens lt closes free)); held = tt }
closed-follows text first n opens lt closes free (Some bad) e =
    let is = position-Some is_bad (take n (rest_of text first)) bad 0 (sym e) in
    let below : bad < n = omega (arith, is.0, length-take n (rest_of text first)) in
    let size : first + 1 + bad - (first + 1) ≡ bad = omega arith in
    bad_between (first + n + 1) (first + 1 + bad) (bars-are text first n opens lt closes free) (omega arith) (omega arith)
    (subst (λ (k : ℕ). AllPass is_quotable (take k (rest_of text first))) (sym size)
    (quotable_before (rest_of text first) bad (λ k h. free k (omega arith)) (λ k h. sym (ap is_bad (get_or-take n (rest_of text first) k 0 (omega arith))) ∙ is.2 k h)))
    (sym (ap is_bad (get_or-take n (rest_of text first) bad 0 below ∙ rest-at text first bad)) ∙ is.1)

quoted-follows : (text : List ℕ) (first : ℕ) → first < length text → is_bar (slice_index text first) ≡ true → (o : Option ℕ) → o ≡ position is_bar (rest_of text first) → Follows text first (quoted first (rest_of text first) o)
quoted-follows text first lt opens None e = unclosed lt opens (not_bars (rest_of text first) (none_pass is_bar (rest_of text first) e))
quoted-follows text first lt opens (Some n) e =
    let is = position-Some is_bar (rest_of text first) n 0 (sym e) in
    closed-follows text first n opens is.0 is.1 is.2 _ refl

-- ---- plain atoms

run-is : (text : List ℕ) (first : ℕ) → first < length text → is_plain (slice_index text first) ≡ true → IsRunTo text first (first + length (run_at text first))
run-is text first lt plain =
    let n : length (run_at text first) ≡ prefix_len is_plain (drop first text) = omega (arith, length-take (prefix_len is_plain (drop first text)) (drop first text), prefix_len-le-length is_plain (drop first text)) in
    let within : first + length (run_at text first) ≤ length text = run_le text first (omega arith) in
    record {
      some = omega (arith, run_some text first lt plain);
      within = within;
      plain = subst (λ (s : List ℕ). AllPass is_plain s) (sym (slice-run text first _ refl)) (run_plain text first);
      ends = elim (cases_lt (first + length (run_at text first)) (length text)) [
        | inl below ↦ inr (ap is_plain (ap (slice_index text) (let e : first + length (run_at text first) ≡ first + prefix_len is_plain (drop first text) = omega arith in e) ∙ sym (get_or-drop first text (prefix_len is_plain (drop first text)) 0))
            ∙ prefix_len_stops is_plain (drop first text) 0 (omega (arith, length-drop first text)))
        | inr past ↦ inl (omega arith)
      ];
    }

atom-follows : (text : List ℕ) (first : ℕ) → first < length text → is_plain (slice_index text first) ≡ true → Follows text first (atom first (run_at text first))
atom-follows text first lt plain =
    let s : List ℕ = run_at text first in
    let past : ℕ = first + length (run_at text first) in
    let run : IsRunTo text first past = run-is text first lt plain in
    let cut : slice_range text first past ≡ s = slice-run text first past refl in
    let P : Next → Type 0 = Follows text first in
    cond_both (is_operator s) _ _ P (λ _. record { begins = refl; reaches = run; held = tt }) (λ _.
    cond_both (is_whole s) _ _ P
    (λ yes_whole. cond_both (is_in_range (whole_value s)) _ _ P (λ fits. record { begins = refl; reaches = run; held = fits })
    (λ too_large. range past run (subst IsWhole (sym cut) ((whole-means s).0 yes_whole)) (ap (λ (x : List ℕ). is_in_range (whole_value x)) cut ∙ too_large)))
    (λ _.
    cond_both (is_fraction s) _ _ P (λ yes_fraction. fraction past run (subst IsFraction (sym cut) ((fraction-means s).0 yes_fraction))) (λ _.
    cond_both (is_variable s) _ _ P (λ _. record { begins = refl; reaches = run; held = tt }) (λ _. record { begins = refl; reaches = run; held = tt }))))

-- ---- any token, and the faults

begun-follows : (text : List ℕ) (first : ℕ) → first < length text → slice_index text first < 256 → IsStop (slice_index text first) → (o : Option TokenKind) → o ≡ bracket_of (slice_index text first) → Follows text first (begun text first (slice_index text first) o)
begun-follows text first lt byte stop (Some k) e =
    let is = subst (λ (o : Option TokenKind). IfSome o (λ k. ((text : List ℕ) (first : ℕ) → Reaches k text first (first + 1)) × IsHeld k)) (sym e) (bracket-reaches (slice_index text first)) in
    record { begins = refl; reaches = is.0 text first; held = is.1 }
begun-follows text first lt byte stop None e =
    cond_both (is_bar (slice_index text first)) _ _ (Follows text first) (λ opens. quoted-follows text first lt opens _ refl) (λ no_bar.
    cond_both (is_plain (slice_index text first)) _ _ (Follows text first) (λ plain. atom-follows text first lt plain) (λ no_plain.
    bad_byte lt (bad-at (slice_index text first) byte e no_bar no_plain stop)))

gap_end-stops : (text : List ℕ) (from : ℕ) → from ≤ length text → gap_end text from < length text → IsStop (slice_index text (gap_end text from))
gap_end-stops text from le lt =
    subst IsStop (get_or-drop from text (gap false (drop from text)) 0) (gap_stops (drop from text) false (omega (arith, length-drop from text)))

-- at the end, or something stands there
standing-follows : (text : List ℕ) (first : ℕ) → first ≤ length text → IsBytes text → (first < length text → IsStop (slice_index text first)) → (standing text first ≡ Ok None) ⊎ Follows text first (standing text first)
standing-follows text first le bytes stop =
    elim (cases_eq first (length text)) [
      | inl e ↦ inl (cond-true _ _ _ (eq-eqb first (length text) e))
      | inr ne ↦
          let lt : first < length text = omega arith in
          inr (subst (Follows text first) (sym (cond-false _ _ _ (ne_eqb first (length text) ne))) (begun-follows text first lt (bytes first) (stop lt) _ refl))
    ]

next-of : (text : List ℕ) (from first : ℕ) → IsGapTo text from first → (r : Next) → IfOk r (λ found. IfSome found (λ t. IsSpelled t.kind (spelling text t))) → (r ≡ Ok None) ⊎ Follows text first r → IfOk r (λ found. IfSome found (StandsNext text from))
next-of text from first gap (Err f) spelled h = tt
next-of text from first gap (Ok None) spelled h = tt
next-of text from first gap (Ok (Some t)) spelled (inl e) = absurd cc
next-of text from first gap (Ok (Some t)) spelled (inr is) =
    record { gap = subst (λ (n : ℕ). IsGapTo text from n) (sym is.begins) gap; reaches = is.reaches; spelled = spelled; held = is.held }

pub token-next : (text : List ℕ) (from : ℕ) → from ≤ length text → IsBytes text → IfOk (token_at text from) (λ found. IfSome found (StandsNext text from))
unfolding token_at
token-next text from le bytes =
    next-of text from (gap_end text from) (gap-is text from le bytes) _ (token-spelled text from le)
    (standing-follows text (gap_end text from) (gap_end-le text from le) bytes (gap_end-stops text from le))

next_fault-of : (text : List ℕ) (from first : ℕ) → IsGapTo text from first → (r : Next) → (r ≡ Ok None) ⊎ Follows text first r → IfErr r (FaultStandsNext text from)
next_fault-of text from first gap (Ok found) h = tt
next_fault-of text from first gap (Err f) (inl e) = absurd cc
next_fault-of text from first gap (Err f) (inr is) = record { first = first; gap = gap; fault = is }

pub token-next_fault : (text : List ℕ) (from : ℕ) → from ≤ length text → IsBytes text → IfErr (token_at text from) (FaultStandsNext text from)
unfolding token_at
token-next_fault text from le bytes =
    next_fault-of text from (gap_end text from) (gap-is text from le bytes) _
    (standing-follows text (gap_end text from) (gap_end-le text from le) bytes (gap_end-stops text from le))
