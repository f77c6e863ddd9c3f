-- The longest prefix that the table accepts is the run of plain bytes.
use Rattle.std.proofs.Common.{◌≡◌, ◌≢◌, ℕ, suc, ◌+◌, ◌-◌, ◌<◌, ◌≤◌, Bool, true, false, cond, List, [], ◌∷◌, length, take, drop, fold, refl, sym, ap, ◌∙◌, get_or, arith, inl, inr, Option, Some, None, subst}
use Rattle.std.proofs.lemmas.Bool.{eq-eqb, ne_eqb, cases_Bool, cases_lt, false≢true, not-true, not-false}
use Rattle.std.proofs.lemmas.List.{get_or-drop, get_or-take, get_or_past, length-drop, length-take}
use Rattle.std.proofs.lemmas.List.Sums.{prefix_len_is, prefix_len_passes}
use Rattle.std.proofs.lemmas.List.Folds.{list_all_more, list_all_at}
use Rattle.std.specs.Prelude.{◌&&◌, ◌||◌, ◌==◌, not, slice_index, slice_range}
use Rattle.std.specs.List.{AllByRecursion, list_all, prefix_len}
use Rattle.scan_table.specs.Table.{step_of, state_after, accepted, IsLongest}
use Rattle.ops_tokens.specs.Bytes.{is_plain}
use Rattle.ops_tokens.specs.Spellings.{row_of, is_operator, is_whole, is_fraction, is_variable, is_atom}
use Rattle.ops_tokens.specs.Runs.{kind_of, IsRun}
use Rattle.ops_tokens.specs.declared.table.AtomKind.{AtomKind}
use Rattle.ops_tokens.specs.Program.{program_table}
use Rattle.ops_tokens.specs.Tokens.{run_at}
use Rattle.ops_tokens.proofs.Program.{accepted-row, step-stays, step-plain, kind-some}

or-false : (x : Bool) → x ≡ (x || false)
or-false true = refl
or-false false = refl

or-not : (x y z : Bool) → ((x || not y) || not z) ≡ (x || not (y && z))
or-not true y z = refl
or-not false true z = refl
or-not false false z = refl

-- where bytes lead to from a state that is not the start: to state 1 where one of them is not plain
walk : (s : List ℕ) (q : ℕ) → q < 22 → q ≢ 0 → AllByRecursion (λ b. b < 256) s
    → (fold (step_of program_table) q s < 22) × (fold (step_of program_table) q s ≢ 0) × ((fold (step_of program_table) q s == 1) ≡ (q == 1 || not (list_all is_plain s)))
walk [] q lt some bytes = (lt, some, or-false (q == 1))
walk (b ∷ s) q lt some bytes =
    let step = step-stays q b lt bytes.0 in
    let rest = walk s (step_of program_table q b) step.0 step.1 bytes.1 in
    (rest.0, rest.1, rest.2 ∙ ap (λ (x : Bool). x || not (list_all is_plain s)) (step-plain q b lt bytes.0) ∙ or-not (q == 1) (is_plain b) (list_all is_plain s))

-- one byte or more are accepted where each of them is plain
accepted-plain : (s : List ℕ) → AllByRecursion (λ b. b < 256) s → 0 < length s → (accepted program_table s == 0) ≡ not (list_all is_plain s)
accepted-plain [] bytes some = absurd (omega arith)
accepted-plain (b ∷ s) bytes some =
    let step = step-stays 0 b (omega arith) bytes.0 in
    let rest = walk s (step_of program_table 0 b) step.0 step.1 bytes.1 in
    kind-some (state_after program_table (b ∷ s)) rest.0
    ∙ ap (λ (x : Bool). x || (state_after program_table (b ∷ s) == 1)) (ne_eqb _ _ rest.1)
    ∙ rest.2
    ∙ ap (λ (x : Bool). x || not (list_all is_plain s)) (step-plain 0 b (omega arith) bytes.0)
    ∙ or-not false (is_plain b) (list_all is_plain s)

abbrev pub IsBytes : List ℕ → Type 0
IsBytes bytes = (i : ℕ) → get_or bytes i 0 < 256

pub IsBytes-drop : (n : ℕ) (bytes : List ℕ) → IsBytes bytes → IsBytes (drop n bytes)
IsBytes-drop n bytes h i = rw get_or-drop (h (n + i))

pub IsBytes-take : (n : ℕ) (bytes : List ℕ) → IsBytes bytes → IsBytes (take n bytes)
IsBytes-take n bytes h i =
    elim (cases_lt i n) [
      | inl lt ↦ rw (get_or-take n bytes i 0 lt) (h i)
      | inr le ↦ rw (get_or_past (take n bytes) i 0 (omega (arith, length-take n bytes))) (omega arith)
    ]

pub all_bytes : (s : List ℕ) → IsBytes s → AllByRecursion (λ b. b < 256) s
all_bytes [] h = tt
all_bytes (b ∷ s) h = (h 0, all_bytes s (λ i. h (suc i)))

-- what is accepted is plain, and the other way round
plain-all : (s : List ℕ) → IsBytes s → 0 < length s → accepted program_table s ≢ 0 → list_all is_plain s ≡ true
plain-all s bytes some ne = not-false _ (sym (accepted-plain s (all_bytes s bytes) some) ∙ ne_eqb _ _ ne)

plain-not_all : (s : List ℕ) → IsBytes s → 0 < length s → accepted program_table s ≡ 0 → list_all is_plain s ≡ false
plain-not_all s bytes some e = not-true _ (sym (accepted-plain s (all_bytes s bytes) some) ∙ eq-eqb _ _ e)

plain-at : (s : List ℕ) (k : ℕ) → k < length s → list_all is_plain s ≡ true → is_plain (get_or s k 0) ≡ true
plain-at s k lt e =
    elim (cases_Bool (is_plain (get_or s k 0))) [
      | inl is ↦ is
      | inr not_plain ↦ absurd (false≢true (sym (list_all_at is_plain s k 0 lt not_plain) ∙ e))
    ]

-- the byte after plain ones is not plain where it makes them all not plain
plain-next : (s : List ℕ) (n : ℕ) → n < length s → list_all is_plain (take n s) ≡ true → list_all is_plain (take (n + 1) s) ≡ false → is_plain (get_or s n 0) ≡ false
plain-next s n lt before after =
    let e : list_all is_plain (take (n + 1) s) ≡ (list_all is_plain (take n s) && is_plain (get_or s n 0)) = list_all_more is_plain s n 0 lt in
    sym (ap (λ (x : Bool). x && is_plain (get_or s n 0)) before) ∙ sym e ∙ after

-- a prefix of what begins at `first`
pub IsBytes-prefix : (text : List ℕ) (first n : ℕ) → IsBytes text → IsBytes (take n (drop first text))
IsBytes-prefix text first n bytes = IsBytes-take n (drop first text) (IsBytes-drop first text bytes)

ends_at : (text : List ℕ) (first n : ℕ) → first + n < length text → IsBytes text → list_all is_plain (take n (drop first text)) ≡ true → accepted program_table (slice_range text first (first + n + 1)) ≡ 0 → is_plain (get_or (drop first text) n 0) ≡ false
ends_at text first n lt bytes before none =
    let k : first + n + 1 - first ≡ n + 1 = omega arith in
    let none_more : accepted program_table (take (n + 1) (drop first text)) ≡ 0 = sym (ap (λ (m : ℕ). accepted program_table (take m (drop first text))) k) ∙ none in
    let long : n < length (drop first text) = omega (arith, length-drop first text) in
    plain-next (drop first text) n long before
    (plain-not_all (take (n + 1) (drop first text)) (IsBytes-prefix text first (n + 1) bytes) (omega (arith, length-take (n + 1) (drop first text))) none_more)

run_ends : (text : List ℕ) (first n row : ℕ) → 0 < n → first + n ≤ length text → IsBytes text → row ≢ 0 → accepted program_table (take n (drop first text)) ≡ row
    → ((end : ℕ) → first + n < end → end ≤ length text → accepted program_table (slice_range text first end) ≡ 0) → prefix_len is_plain (drop first text) ≡ n
run_ends text first n row some le bytes ne is none =
    let long : n ≤ length (drop first text) = omega (arith, length-drop first text) in
    let size : length (take n (drop first text)) ≡ n = omega (arith, length-take n (drop first text)) in
    let plain : list_all is_plain (take n (drop first text)) ≡ true = plain-all (take n (drop first text)) (IsBytes-prefix text first n bytes) (omega arith) (λ e. ne (sym is ∙ e)) in
    prefix_len_is is_plain (drop first text) n 0 long
    (λ k lt. sym (ap is_plain (get_or-take n (drop first text) k 0 lt)) ∙ plain-at (take n (drop first text)) k (omega arith) plain)
    (λ lt. ends_at text first n (omega (arith, length-drop first text)) bytes plain (none (first + n + 1) (omega arith) (omega (arith, length-drop first text))))

pub head_is : (text : List ℕ) (first : ℕ) → get_or (drop first text) 0 0 ≡ get_or text first 0
head_is text first = get_or-drop first text 0 0 ∙ ap (λ (k : ℕ). get_or text k 0) (let e : first + 0 ≡ first = omega arith in e)

-- the run of plain bytes at `first` ends there and is of that row, which is one of the table
pub record HasRow (text : List ℕ) (first past row : ℕ) : Type 0 where
  pub plain : is_plain (slice_index text first) ≡ true
  pub end : past ≡ first + length (run_at text first)
  pub row_is : row ≡ row_of (run_at text first)
  pub some : row ≢ 0

abbrev pub FindsRow : List ℕ → ℕ → Option (ℕ × ℕ) → Type 0
FindsRow text first None = is_plain (slice_index text first) ≡ false
FindsRow text first (Some (past, row)) = HasRow text first past row

run_is : (text : List ℕ) (first n row : ℕ) → first < length text → 0 < n → first + n ≤ length text → IsBytes text → row ≢ 0 → accepted program_table (take n (drop first text)) ≡ row → prefix_len is_plain (drop first text) ≡ n → HasRow text first (first + n) row
run_is text first n row lt some le bytes ne is size =
    let same : run_at text first ≡ take n (drop first text) = ap (λ (k : ℕ). take k (drop first text)) size in
    record {
      plain = sym (ap is_plain (head_is text first)) ∙ prefix_len_passes is_plain (drop first text) 0 0 (omega arith);
      end = sym (ap (λ (s : List ℕ). first + length s) same ∙ (let e : first + length (take n (drop first text)) ≡ first + n = omega (arith, length-take n (drop first text), length-drop first text) in e));
      row_is = sym is ∙ accepted-row (take n (drop first text)) (all_bytes _ (IsBytes-prefix text first n bytes)) ∙ ap row_of (sym same);
      some = ne;
    }

pub finds_row : (text : List ℕ) (first : ℕ) → first < length text → IsBytes text → (r : Option (ℕ × ℕ)) → IsLongest program_table text first r → FindsRow text first r
finds_row text first lt bytes None none =
    sym (ap is_plain (head_is text first)) ∙ ends_at text first 0 (omega arith) bytes refl (none (first + 0 + 1) (omega arith) (omega arith))
finds_row text first lt bytes (Some (past, row)) found =
    let low : first < past = found.0 in
    let high : past ≤ length text = found.1 in
    let some : 0 < past - first = omega arith in
    let end : first + (past - first) ≡ past = omega arith in
    let size : prefix_len is_plain (drop first text) ≡ past - first =
    run_ends text first (past - first) row some (omega arith) bytes found.2 found.3 (λ other above below. found.4 other (omega arith) below) in
    subst (λ (p : ℕ). HasRow text first p row) end (run_is text first (past - first) row lt some (omega arith) bytes found.2 found.3 size)

-- a row of the table is one of a kind
kind_none : (a b c d e : Bool) (row : ℕ) → row ≡ cond a 1 (cond b 2 (cond c 3 (cond d 4 (cond e 5 0)))) → kind_of row ≡ None → row ≡ 0
kind_none a b c d e row is none = is ∙ by a b c d e (sym (ap kind_of is) ∙ none)
  where
    by : (a b c d e : Bool) → kind_of (cond a 1 (cond b 2 (cond c 3 (cond d 4 (cond e 5 0))))) ≡ None → ◌≡◌ {A = ℕ} (cond a 1 (cond b 2 (cond c 3 (cond d 4 (cond e 5 0))))) 0
    by true b c d e h = absurd cc
    by false true c d e h = absurd cc
    by false false true d e h = absurd cc
    by false false false true e h = absurd cc
    by false false false false true h = absurd cc
    by false false false false false h = refl

pub has_kind : (text : List ℕ) (first past row : ℕ) → HasRow text first past row → kind_of row ≡ None → ⊥
has_kind text first past row run none =
    let s : List ℕ = run_at text first in
    run.some (kind_none (is_operator s) (is_whole s) (is_fraction s) (is_variable s) (is_atom s) row run.row_is none)

pub kind-run : (text : List ℕ) (first past row : ℕ) (k : AtomKind) → HasRow text first past row → kind_of row ≡ Some k → IsRun text first past k
kind-run text first past row k run is = record { plain = run.plain; end = run.end; kind_is = sym (ap kind_of run.row_is) ∙ is }
