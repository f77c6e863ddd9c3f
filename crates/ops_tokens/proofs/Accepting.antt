-- What is accepted of bytes whose front is known: white space, a run, or what stands after a bar.
use Rattle.std.proofs.Common.{◌≡◌, ℕ, ◌+◌, ◌<◌, ◌≤◌, Bool, true, false, not, cond, eqb, List, [], ◌∷◌, ◌++◌, length, drop, map, take_while, codes, Result, Ok, Err, refl, sym, ap, ◌∙◌, subst, arith, inl, inr, ◌⊎◌}
use Rattle.std.specs.Prelude.{nat_lt, ◌&&◌, ◌||◌, ◌==◌}
use Rattle.std.specs.List.{list_all, list_any}
use Rattle.std.specs.Io.BufRead.{take_through}
use Rattle.std.proofs.lemmas.Bool.{cond-true, cond-false, cond_both, and_parts, and_left, and_right, not-true, not_from_false, lt-ltb, le-ltb, eq-eqb, ne_eqb, cases_eq}
use Rattle.std.proofs.lemmas.List.{append-nil, append_assoc, length-append, length_push}
use Rattle.std.proofs.lemmas.List.Sums.{take_while-cons}
use Rattle.ops_base.specs.Names.{Spellings}
use Rattle.ops_io.specs.Coming.{Coming, preceded_by}
use Rattle.ops_tokens.specs.Bytes.{is_white, is_bar}
use Rattle.ops_tokens.specs.Accepting.{most_accepted, space_before, behind_space, is_of_run, atom_bytes, bytes_taken, is_closed, asks_further, Atom, Spelled, shown, atom_of_run, atom_at_front, Accepted, accepted_as, behind_atom, accepted}
use Rattle.ops_tokens.specs.Taking.{accepted_behind}
use Rattle.ops_tokens.specs.declared.accept.AcceptFault.{AcceptFault}
use Rattle.ops_tokens.specs.declared.accept.AcceptFault.TheVariants as fault

-- ---- lists

-- bytes that all pass are taken whole
pub take_while-append : (p : ℕ → Bool) (a x : List ℕ) → list_all p a ≡ true → take_while p (a ++ x) ≡ a ++ take_while p x
take_while-append p [] x all = refl
take_while-append p (b ∷ a) x all =
    let h = and_parts (p b) (list_all p a) all in
    take_while-cons p b (a ++ x) ∙ cond-true (p b) _ _ h.0 ∙ ap (λ (w : List ℕ). b ∷ w) (take_while-append p a x h.1)

-- nothing is taken where the first byte does not pass
pub take_while_stops : (p : ℕ → Bool) (b : ℕ) (x : List ℕ) → p b ≡ false → take_while p (b ∷ x) ≡ []
take_while_stops p b x fails = take_while-cons p b x ∙ cond-false (p b) _ _ fails

drop_past : (w y x : List ℕ) → drop (length (w ++ y)) (w ++ x) ≡ drop (length y) x
drop_past [] y x = refl
drop_past (b ∷ w) y x = drop_past w y x

drop_front : (w x : List ℕ) → drop (length w) (w ++ x) ≡ x
drop_front [] x = refl
drop_front (b ∷ w) x = drop_front w x

same_length : (w y x : List ℕ) → eqb (length (w ++ y)) (length (w ++ x)) ≡ eqb (length y) (length x)
same_length w y x =
    let a = length-append w y in
    let b = length-append w x in
    elim (cases_eq (length y) (length x)) [
      | inl e ↦ eq-eqb (length (w ++ y)) (length (w ++ x)) (omega arith) ∙ sym (eq-eqb (length y) (length x) e)
      | inr ne ↦ ne_eqb (length (w ++ y)) (length (w ++ x)) (λ e. ne (omega arith)) ∙ sym (ne_eqb (length y) (length x) ne)
    ]

-- ---- what is accepted, by its parts

-- of this many bytes, where one more is asked for or not, before this rest
abbrev answer : ℕ → Bool → Spellings → Coming → Atom → Result Accepted AcceptFault
answer size ask names rest atom =
    cond (nat_lt most_accepted size) (Err fault.TooLong) (cond ask (Err fault.Read) (Ok (accepted_as names rest atom)))

answer_long : (size : ℕ) (ask : Bool) (names : Spellings) (rest : Coming) (atom : Atom) → most_accepted < size → answer size ask names rest atom ≡ Err fault.TooLong
answer_long size ask names rest atom lt = cond-true (nat_lt most_accepted size) _ _ (lt-ltb most_accepted size lt)

answer_short : (size : ℕ) (ask : Bool) (names : Spellings) (rest : Coming) (atom : Atom) → size ≤ most_accepted → answer size ask names rest atom ≡ cond ask (Err fault.Read) (Ok (accepted_as names rest atom))
answer_short size ask names rest atom le = cond-false (nat_lt most_accepted size) _ _ (le-ltb most_accepted size le)

-- ---- white space

space_all : (w x : List ℕ) → list_all is_white w ≡ true → space_before (w ++ x) ≡ w ++ space_before x
space_all w x white = take_while-append is_white w x white

behind_all : (w x : List ℕ) → list_all is_white w ≡ true → behind_space (w ++ x) ≡ behind_space x
behind_all w x white = ap (λ (s : List ℕ). drop (length s) (w ++ x)) (space_all w x white) ∙ drop_past w (space_before x) x

taken_all : (w x : List ℕ) → list_all is_white w ≡ true → bytes_taken (w ++ x) ≡ w ++ bytes_taken x
taken_all w x white =
    ap (λ (s : List ℕ). s ++ atom_bytes (behind_space (w ++ x))) (space_all w x white)
    ∙ ap (λ (s : List ℕ). (w ++ space_before x) ++ atom_bytes s) (behind_all w x white)
    ∙ append_assoc w (space_before x) (atom_bytes (behind_space x))

asks_all : (w x : List ℕ) → list_all is_white w ≡ true → asks_further (w ++ x) ≡ asks_further x
asks_all w x white =
    ap (λ (s : List ℕ). (length s == length (w ++ x)) && not (is_closed (behind_space (w ++ x)))) (taken_all w x white)
    ∙ ap (λ (s : List ℕ). (length (w ++ bytes_taken x) == length (w ++ x)) && not (is_closed s)) (behind_all w x white)
    ∙ ap (λ (b : Bool). b && not (is_closed (behind_space x))) (same_length w (bytes_taken x) x)

-- White space counts, and has no other meaning.
pub accepted-space : (w : List ℕ) (names : Spellings) (c : Coming) → list_all is_white w ≡ true → accepted names (preceded_by w c) ≡ accepted_behind (length w) names c
accepted-space w names c white =
    let rest : List ℕ → Coming = λ s. record c { bytes = s } in
    let size : length (bytes_taken (w ++ c.bytes)) ≡ length w + length (bytes_taken c.bytes) = ap length (taken_all w c.bytes white) ∙ length-append w (bytes_taken c.bytes) in
    ap (λ (n : ℕ). answer n (c.fails && asks_further (w ++ c.bytes)) names (behind_atom (preceded_by w c)) (atom_at_front (behind_space (w ++ c.bytes)))) size
    ∙ ap (λ (b : Bool). answer (length w + length (bytes_taken c.bytes)) (c.fails && b) names (behind_atom (preceded_by w c)) (atom_at_front (behind_space (w ++ c.bytes)))) (asks_all w c.bytes white)
    ∙ ap (λ (s : List ℕ). answer (length w + length (bytes_taken c.bytes)) (c.fails && asks_further c.bytes) names (rest s) (atom_at_front (behind_space (w ++ c.bytes)))) (ap (λ (s : List ℕ). drop (length s) (w ++ c.bytes)) (taken_all w c.bytes white) ∙ drop_past w (bytes_taken c.bytes) c.bytes)
    ∙ ap (λ (s : List ℕ). answer (length w + length (bytes_taken c.bytes)) (c.fails && asks_further c.bytes) names (behind_atom c) (atom_at_front s)) (behind_all w c.bytes white)

-- white space that goes on past the limit
pub space-too_long : (n : ℕ) (names : Spellings) (c : Coming) (b : ℕ) (rest : List ℕ) → most_accepted ≤ n → c.bytes ≡ b ∷ rest → is_white b ≡ true → accepted_behind n names c ≡ Err fault.TooLong
space-too_long n names c b rest le e white =
    let front : bytes_taken c.bytes ≡ b ∷ bytes_taken rest = ap bytes_taken e ∙ taken_all (b ∷ []) rest (ap (λ (x : Bool). x && true) white) in
    answer_long (n + length (bytes_taken c.bytes)) _ names _ _ (omega (arith, ap length front))

-- a failure where no byte of an atom was taken
pub nothing-read : (n : ℕ) (names : Spellings) → n ≤ most_accepted → accepted_behind n names (record { bytes = []; fails = true }) ≡ Err fault.Read
nothing-read n names le = answer_short (n + 0) true names (record { bytes = []; fails = true }) (Spelled (codes "end-of-file")) (omega arith)

-- the end of the input
pub nothing-more : (n : ℕ) (names : Spellings) (c : Coming) → n ≤ most_accepted → c.bytes ≡ [] → c.fails ≡ false → accepted_behind n names c ≡ Ok (accepted_as names c (Spelled (codes "end-of-file")))
nothing-more n names c le none whole =
    let is : c ≡ record { bytes = []; fails = false } = ap (λ (s : List ℕ). record c { bytes = s }) none ∙ ap (λ (f : Bool). record { bytes = []; fails = f }) whole in
    ap (accepted_behind n names) is ∙ answer_short (n + 0) false names (record { bytes = []; fails = false }) (Spelled (codes "end-of-file")) (omega arith) ∙ ap (λ (d : Coming). Ok (accepted_as names d (Spelled (codes "end-of-file")))) (sym is)

-- ---- atoms

-- an atom that no white space stands before
behind_none : (b : ℕ) (x : List ℕ) → is_white b ≡ false → behind_space (b ∷ x) ≡ b ∷ x
behind_none b x other = ap (λ (s : List ℕ). drop (length s) (b ∷ x)) (take_while_stops is_white b x other)

taken_none : (b : ℕ) (x : List ℕ) → is_white b ≡ false → bytes_taken (b ∷ x) ≡ atom_bytes (b ∷ x)
taken_none b x other =
    ap (λ (s : List ℕ). s ++ atom_bytes (behind_space (b ∷ x))) (take_while_stops is_white b x other) ∙ ap atom_bytes (behind_none b x other)

-- What is accepted where the first byte is no white space.
accepted-atom : (n : ℕ) (names : Spellings) (c : Coming) (b : ℕ) (x taken : List ℕ) → c.bytes ≡ b ∷ x → is_white b ≡ false → atom_bytes (b ∷ x) ≡ taken
    → accepted_behind n names c ≡ answer (n + length taken) (c.fails && ((length taken == length c.bytes) && not (is_closed (b ∷ x)))) names (record c { bytes = drop (length taken) c.bytes }) (atom_at_front (b ∷ x))
accepted-atom n names c b x taken e other is =
    let front : bytes_taken c.bytes ≡ taken = ap bytes_taken e ∙ taken_none b x other ∙ is in
    let behind : behind_space c.bytes ≡ b ∷ x = ap behind_space e ∙ behind_none b x other in
    ap (λ (s : List ℕ). answer (n + length s) (c.fails && ((length s == length c.bytes) && not (is_closed (behind_space c.bytes)))) names (record c { bytes = drop (length s) c.bytes }) (atom_at_front (behind_space c.bytes))) front
    ∙ ap (λ (s : List ℕ). answer (n + length taken) (c.fails && ((length taken == length c.bytes) && not (is_closed s))) names (record c { bytes = drop (length taken) c.bytes }) (atom_at_front s)) behind

-- it is short enough
accepted-short : (n : ℕ) (names : Spellings) (c : Coming) (b : ℕ) (x taken : List ℕ) → c.bytes ≡ b ∷ x → is_white b ≡ false → atom_bytes (b ∷ x) ≡ taken → n + length taken ≤ most_accepted
    → accepted_behind n names c ≡ cond (c.fails && ((length taken == length c.bytes) && not (is_closed (b ∷ x)))) (Err fault.Read) (Ok (accepted_as names (record c { bytes = drop (length taken) c.bytes }) (atom_at_front (b ∷ x))))
accepted-short n names c b x taken e other is le =
    accepted-atom n names c b x taken e other is
    ∙ answer_short (n + length taken) (c.fails && ((length taken == length c.bytes) && not (is_closed (b ∷ x)))) names (record c { bytes = drop (length taken) c.bytes }) (atom_at_front (b ∷ x)) le

-- it is too long
accepted-long : (n : ℕ) (names : Spellings) (c : Coming) (b : ℕ) (x taken : List ℕ) → c.bytes ≡ b ∷ x → is_white b ≡ false → atom_bytes (b ∷ x) ≡ taken → most_accepted < n + length taken → accepted_behind n names c ≡ Err fault.TooLong
accepted-long n names c b x taken e other is lt =
    accepted-atom n names c b x taken e other is
    ∙ answer_long (n + length taken) (c.fails && ((length taken == length c.bytes) && not (is_closed (b ∷ x)))) names (record c { bytes = drop (length taken) c.bytes }) (atom_at_front (b ∷ x)) lt

-- ---- runs

run_byte : (b : ℕ) → is_of_run b ≡ true → (is_white b ≡ false) × (is_bar b ≡ false)
run_byte b is = let h = and_parts (not (is_white b)) (not (is_bar b)) is in (not-true (is_white b) h.0, not-true (is_bar b) h.1)

run_front : (b : ℕ) (r y : List ℕ) → list_all is_of_run (b ∷ r) ≡ true → atom_bytes ((b ∷ r) ++ y) ≡ (b ∷ r) ++ take_while is_of_run y
run_front b r y all =
    cond-false (is_bar b) _ _ (run_byte b (and_parts (is_of_run b) (list_all is_of_run r) all).0).1 ∙ take_while-append is_of_run (b ∷ r) y all

-- the first byte after a run
abbrev pub EndsRun : Coming → Type 0
EndsRun c = ((c.bytes ≡ []) × (c.fails ≡ false)) ⊎ ((b : ℕ) × (x : List ℕ) × (c.bytes ≡ b ∷ x) × (is_of_run b ≡ false))

ends_run_taken : (c : Coming) → EndsRun c → take_while is_of_run c.bytes ≡ []
ends_run_taken c (inl end) = ap (take_while is_of_run) end.0
ends_run_taken c (inr (b, x, e, other)) = ap (take_while is_of_run) e ∙ take_while_stops is_of_run b x other

-- where it ends no byte more is asked for
ends_run_asks : (r : List ℕ) (shut : Bool) (c : Coming) → EndsRun c → (c.fails && ((length r == length (r ++ c.bytes)) && shut)) ≡ false
ends_run_asks r shut c (inl end) = and_left c.fails _ end.1
ends_run_asks r shut c (inr (b, x, e, other)) =
    let longer : length r ≡ length (r ++ c.bytes) → ⊥ = λ same. absurd (omega (arith, ap length e, length-append r c.bytes)) in
    and_right c.fails _ (and_left (length r == length (r ++ c.bytes)) shut (ne_eqb (length r) (length (r ++ c.bytes)) longer))

-- A run of one byte or more is an atom where it ends.
pub accepted-run : (n : ℕ) (names : Spellings) (c : Coming) (b : ℕ) (r : List ℕ) → n + length (b ∷ r) ≤ most_accepted → list_all is_of_run (b ∷ r) ≡ true → EndsRun c
    → accepted_behind n names (preceded_by (b ∷ r) c) ≡ Ok (accepted_as names c (atom_of_run (b ∷ r)))
accepted-run n names c b r le all end =
    let run : List ℕ = b ∷ r in
    let byte = run_byte b (and_parts (is_of_run b) (list_all is_of_run r) all).0 in
    let whole : (b ∷ r) ++ take_while is_of_run c.bytes ≡ b ∷ r = ap (λ (s : List ℕ). run ++ s) (ends_run_taken c end) ∙ append-nil (b ∷ r) in
    let spelled : take_while is_of_run ((b ∷ r) ++ c.bytes) ≡ b ∷ r = take_while-append is_of_run (b ∷ r) c.bytes all ∙ whole in
    let rest : Coming = record c { bytes = drop (length (b ∷ r)) ((b ∷ r) ++ c.bytes) } in
    let is = atom_at_front ((b ∷ r) ++ c.bytes) in
    accepted-short n names (preceded_by (b ∷ r) c) b (r ++ c.bytes) (b ∷ r) refl byte.0 (run_front b r c.bytes all ∙ whole) le
    ∙ cond-false _ _ _ (ends_run_asks (b ∷ r) _ c end)
    ∙ ap (λ (s : List ℕ). Ok (accepted_as names (record c { bytes = s }) is)) (drop_front (b ∷ r) c.bytes)
    ∙ ap (λ (a : Atom). Ok (accepted_as names c a)) (cond-false (is_bar b) _ _ byte.1 ∙ ap atom_of_run spelled)

-- A failure after a run.
pub run-read : (n : ℕ) (names : Spellings) (r : List ℕ) → n + length r ≤ most_accepted → list_all is_of_run r ≡ true → accepted_behind n names (preceded_by r (record { bytes = []; fails = true })) ≡ Err fault.Read
run-read n names [] le all = nothing-read n names (omega arith)
run-read n names (b ∷ r) le all =
    let byte = run_byte b (and_parts (is_of_run b) (list_all is_of_run r) all).0 in
    let asks : ((length ((b ∷ r) ++ []) == length ((b ∷ r) ++ [])) && not (is_closed ((b ∷ r) ++ []))) ≡ true =
    ap (λ (x : Bool). x && not (is_closed ((b ∷ r) ++ []))) (eq-eqb (length ((b ∷ r) ++ [])) (length ((b ∷ r) ++ [])) refl) ∙ not_from_false (is_closed ((b ∷ r) ++ [])) (and_left (is_bar b) (list_any is_bar (r ++ [])) byte.1) in
    accepted-short n names (record { bytes = (b ∷ r) ++ []; fails = true }) b (r ++ []) ((b ∷ r) ++ []) refl byte.0 (run_front b r [] all) (omega (arith, ap length (append-nil (b ∷ r))))
    ∙ cond-true _ _ _ asks

-- A run that goes on past the limit.
pub run-too_long : (n : ℕ) (names : Spellings) (c : Coming) (r : List ℕ) (b : ℕ) (x : List ℕ) → n + length r ≡ most_accepted → list_all is_of_run r ≡ true → c.bytes ≡ b ∷ x → is_of_run b ≡ true → accepted_behind n names (preceded_by r c) ≡ Err fault.TooLong
run-too_long n names c [] b x size all e is =
    let front : atom_bytes (b ∷ x) ≡ b ∷ take_while is_of_run x = run_front b [] x (ap (λ (t : Bool). t && true) is) in
    accepted-long n names c b x (b ∷ take_while is_of_run x) e (run_byte b is).0 front (omega arith)
run-too_long n names c (d ∷ r) b x size all e is =
    let byte = run_byte d (and_parts (is_of_run d) (list_all is_of_run r) all).0 in
    let more : take_while is_of_run c.bytes ≡ b ∷ take_while is_of_run x = ap (take_while is_of_run) e ∙ take_while-cons is_of_run b x ∙ cond-true (is_of_run b) _ _ is in
    let long = length-append (d ∷ r) (take_while is_of_run c.bytes) in
    accepted-long n names (preceded_by (d ∷ r) c) d (r ++ c.bytes) ((d ∷ r) ++ take_while is_of_run c.bytes) refl byte.0 (run_front d r c.bytes all) (omega (arith, ap length more))

-- ---- atoms between bars

abbrev pub no_bar : ℕ → Bool
no_bar b = not (is_bar b)

through_front : (q y : List ℕ) → list_all no_bar q ≡ true → take_through 124 (q ++ y) ≡ q ++ take_through 124 y
through_front [] y all = refl
through_front (b ∷ q) y all =
    let h = and_parts (no_bar b) (list_all no_bar q) all in
    cond-false (is_bar b) _ _ (not-true (is_bar b) h.0) ∙ ap (λ (w : List ℕ). b ∷ w) (through_front q y h.1)

any_front : (q y : List ℕ) → list_all no_bar q ≡ true → list_any is_bar (q ++ y) ≡ list_any is_bar y
any_front [] y all = refl
any_front (b ∷ q) y all =
    let h = and_parts (no_bar b) (list_all no_bar q) all in
    ap (λ (x : Bool). x || list_any is_bar (q ++ y)) (not-true (is_bar b) h.0) ∙ any_front q y h.1

-- what stands between a bar and the next one, or the end
between : (q y : List ℕ) → list_all no_bar q ≡ true → take_while no_bar y ≡ [] → take_while no_bar (q ++ y) ≡ q
between q y all stops = take_while-append no_bar q y all ∙ ap (λ (w : List ℕ). q ++ w) stops ∙ append-nil q

-- An atom between two bars.
pub accepted-quoted : (n : ℕ) (names : Spellings) (c : Coming) (q : List ℕ) → n + 2 + length q ≤ most_accepted → list_all no_bar q ≡ true
    → accepted_behind n names (preceded_by (124 ∷ (q ++ 124 ∷ [])) c) ≡ Ok (accepted_as names c (Spelled (map shown q)))
accepted-quoted n names c q le all =
    let joined : (q ++ 124 ∷ []) ++ c.bytes ≡ q ++ 124 ∷ c.bytes = append_assoc q (124 ∷ []) c.bytes in
    let taken : List ℕ = 124 ∷ (q ++ 124 ∷ []) in
    let front : take_through 124 ((q ++ 124 ∷ []) ++ c.bytes) ≡ q ++ 124 ∷ [] = ap (take_through 124) joined ∙ through_front q (124 ∷ c.bytes) all in
    let shut : list_any is_bar ((q ++ 124 ∷ []) ++ c.bytes) ≡ true = ap (list_any is_bar) joined ∙ any_front q (124 ∷ c.bytes) all in
    let spelled : take_while no_bar ((q ++ 124 ∷ []) ++ c.bytes) ≡ q = ap (take_while no_bar) joined ∙ between q (124 ∷ c.bytes) all (take_while_stops no_bar 124 c.bytes refl) in
    let asks : (c.fails && ((length (124 ∷ (q ++ 124 ∷ [])) == length ((124 ∷ (q ++ 124 ∷ [])) ++ c.bytes)) && not (list_any is_bar ((q ++ 124 ∷ []) ++ c.bytes)))) ≡ false =
    and_right c.fails _ (and_right (length (124 ∷ (q ++ 124 ∷ [])) == length ((124 ∷ (q ++ 124 ∷ [])) ++ c.bytes)) _ (ap not shut)) in
    accepted-short n names (preceded_by (124 ∷ (q ++ 124 ∷ [])) c) 124 ((q ++ 124 ∷ []) ++ c.bytes) (124 ∷ (q ++ 124 ∷ [])) refl refl (ap (λ (w : List ℕ). 124 ∷ w) front) (omega (arith, length_push q 124))
    ∙ cond-false _ _ _ asks
    ∙ ap (λ (s : List ℕ). Ok (accepted_as names (record c { bytes = s }) (Spelled (map shown (take_while no_bar ((q ++ 124 ∷ []) ++ c.bytes)))))) (drop_front (124 ∷ (q ++ 124 ∷ [])) c.bytes)
    ∙ ap (λ (s : List ℕ). Ok (accepted_as names c (Spelled (map shown s)))) spelled

-- An atom that begins with a bar, and that the end of the input ends.
pub accepted-unclosed : (n : ℕ) (names : Spellings) (c : Coming) (q : List ℕ) → n + 1 + length q ≤ most_accepted → list_all no_bar q ≡ true → c.bytes ≡ [] → c.fails ≡ false
    → accepted_behind n names (preceded_by (124 ∷ q) c) ≡ Ok (accepted_as names c (Spelled (map shown q)))
accepted-unclosed n names c q le all none whole =
    let front : take_through 124 (q ++ c.bytes) ≡ q = through_front q c.bytes all ∙ ap (λ (w : List ℕ). q ++ take_through 124 w) none ∙ append-nil q in
    let spelled : take_while no_bar (q ++ c.bytes) ≡ q = between q c.bytes all (ap (take_while no_bar) none) in
    accepted-short n names (preceded_by (124 ∷ q) c) 124 (q ++ c.bytes) (124 ∷ q) refl refl (ap (λ (w : List ℕ). 124 ∷ w) front) (omega arith)
    ∙ cond-false _ _ _ (and_left c.fails _ whole)
    ∙ ap (λ (s : List ℕ). Ok (accepted_as names (record c { bytes = s }) (Spelled (map shown (take_while no_bar (q ++ c.bytes)))))) (drop_front (124 ∷ q) c.bytes)
    ∙ ap (λ (s : List ℕ). Ok (accepted_as names c (Spelled (map shown s)))) spelled

-- A failure after a bar.
pub quoted-read : (n : ℕ) (names : Spellings) (q : List ℕ) → n + 1 + length q ≤ most_accepted → list_all no_bar q ≡ true → accepted_behind n names (preceded_by (124 ∷ q) (record { bytes = []; fails = true })) ≡ Err fault.Read
quoted-read n names q le all =
    let front : take_through 124 (q ++ []) ≡ q ++ [] = through_front q [] all in
    let asks : ((length (124 ∷ (q ++ [])) == length (124 ∷ (q ++ []))) && not (list_any is_bar (q ++ []))) ≡ true =
    ap (λ (x : Bool). x && not (list_any is_bar (q ++ []))) (eq-eqb (length (124 ∷ (q ++ []))) (length (124 ∷ (q ++ []))) refl) ∙ ap not (any_front q [] all) in
    accepted-short n names (record { bytes = 124 ∷ (q ++ []); fails = true }) 124 (q ++ []) (124 ∷ (q ++ [])) refl refl (ap (λ (w : List ℕ). 124 ∷ w) front) (omega (arith, ap length (append-nil q)))
    ∙ cond-true _ _ _ asks

-- An atom after a bar that goes on past the limit.
pub quoted-too_long : (n : ℕ) (names : Spellings) (c : Coming) (q : List ℕ) (b : ℕ) (x : List ℕ) → n + 1 + length q ≡ most_accepted → list_all no_bar q ≡ true → c.bytes ≡ b ∷ x → accepted_behind n names (preceded_by (124 ∷ q) c) ≡ Err fault.TooLong
quoted-too_long n names c q b x size all e =
    let taken : List ℕ = 124 ∷ (q ++ take_through 124 c.bytes) in
    let some : 0 < length (take_through 124 c.bytes) = subst (λ (s : List ℕ). 0 < length (take_through 124 s)) (sym e) (through_some b x) in
    let long = length-append q (take_through 124 c.bytes) in
    accepted-long n names (preceded_by (124 ∷ q) c) 124 (q ++ c.bytes) (124 ∷ (q ++ take_through 124 c.bytes)) refl refl (ap (λ (w : List ℕ). 124 ∷ w) (through_front q c.bytes all)) (omega arith)
  where
    through_some : (b : ℕ) (x : List ℕ) → 0 < length (take_through 124 (b ∷ x))
    through_some b x = cond_both (b == 124) (b ∷ []) (b ∷ take_through 124 x) (λ (s : List ℕ). 0 < length s) (λ _. omega arith) (λ _. omega arith)

-- A bar past the limit.
pub bar-too_long : (n : ℕ) (names : Spellings) (c : Coming) (x : List ℕ) → most_accepted ≤ n → c.bytes ≡ 124 ∷ x → accepted_behind n names c ≡ Err fault.TooLong
bar-too_long n names c x le e =
    accepted-long n names c 124 x (124 ∷ take_through 124 x) e refl refl (omega arith)
