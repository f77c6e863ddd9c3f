-- What is ranked is each of the instantiations once, the dominant one first, and at each place the one that this many
-- of them dominate.
use Rattle.std.proofs.Common.{◌≡◌, ℕ, zero, suc, ◌+◌, ◌≤◌, List, [], ◌∷◌, map, length, drop, Bool, true, false, cond, not, Option, Some, None, option_map, unwrap_or, refl, ap, sym, ◌∙◌, subst, inl, inr, ◌⊎◌, arith}
use Rattle.std.specs.Prelude.{◌≢◌, ◌↔◌, filter, count_by, slice_get, IsTrue, Contains, AllPairs}
use Rattle.std.specs.Bool.{Decides}
use Rattle.std.specs.List.{slice_index_or}
use Rattle.std.specs.Option.{MatchOption}
use Rattle.std.proofs.lemmas.Bool.{false≢true}
use Rattle.std.proofs.lemmas.Bool.Decides.{Decides-not}
use Rattle.std.proofs.lemmas.List.{drop_all, drop_more, length-map}
use Rattle.std.proofs.lemmas.List.Kept.{AllPairs-filter}
use Rattle.std.proofs.lemmas.List.Sums.{sum_by-cons, length-filter}
use Rattle.std.proofs.lemmas.Option.{slice_get_within, get_or_from_slice_get}
use Rattle.ops_base.specs.declared.commands.Strategy.{Strategy}
use Rattle.ops_base.specs.declared.rules.Inst.{Inst}
use Rattle.ops_base.specs.declared.rules.Rule.{Rule}
use Rattle.ops_base.specs.Dominance.{is_greater, dominates}
use Rattle.ops_base.specs.Instances.{Before, IsInOrder}
use Rattle.ops_base.specs.Refraction.{IsDominant, dominant, is_same_inst}
use Rattle.ops_base.proofs.InstOrder.{before_itself}
use Rattle.ops_base.proofs.DominanceLaws.{dominates-less, dominates_itself, dominant_is}
use Rattle.ops_base.proofs.InOrder.{AllBefore, before_from_all_pairs, all_pairs_from_before}
use Rattle.ops_base.proofs.Members.{IsMember, member_from_contains, contains_from_member, member-map}
use Rattle.ops_base.proofs.RefractionLaws.{is_same_inst-Decides}
use Rattle.ops_base.proofs.Filtered.{Contains-filter}
use Rattle.ops_meaning.specs.Running.{without_inst, ranked}

-- ---- each is there once

abbrev Differ : Inst → Inst → Type 0
Differ i j = i ≢ j

-- no instantiation stands twice
abbrev pub AreDistinct : List Inst → Type 0
AreDistinct insts = AllPairs (λ i j. i ≢ j) insts

-- what stands in the order of rule and tags stands there once
pub in_order_distinct : (insts : List Inst) → IsInOrder insts → AreDistinct insts
in_order_distinct insts order i j d before within same =
    let P : Inst → Type 0 = Before (slice_index_or insts i d) in
    before_itself (slice_index_or insts i d) (subst P (sym same) (order i j d before within))

same_or_other : (i j : Inst) → (i ≡ j) ⊎ (i ≢ j)
same_or_other i j = by (is_same_inst i j) (is_same_inst-Decides i j)
  where
    by : (b : Bool) → Decides b (i ≡ j) → (i ≡ j) ⊎ (i ≢ j)
    by true h = inl (h.0 refl)
    by false h = inr (λ e. false≢true (h.1 e))

not_same : (i j : Inst) → i ≢ j → is_same_inst i j ≡ false
not_same i j differ = by (is_same_inst i j) (is_same_inst-Decides i j)
  where
    by : (b : Bool) → Decides b (i ≡ j) → b ≡ false
    by true h = absurd (differ (h.0 refl))
    by false h = refl

-- ---- all but one

-- what is not the one is there as before
other_member : (d i : Inst) (insts : List Inst) → IsMember i (without_inst d insts) ↔ (IsMember i insts × (d ≢ i))
other_member d i insts =
    let kept = Contains-filter (λ j. not (is_same_inst d j)) (λ j. d ≢ j) (λ j. Decides-not (is_same_inst d j) (is_same_inst-Decides d j)) i insts in (
      λ m. (let h = kept.0 (contains_from_member i (without_inst d insts) m) in (member_from_contains i insts h.0, h.1)),
      λ h. member_from_contains i (without_inst d insts) (kept.1 (contains_from_member i insts h.0, h.1)),
    )

-- where the one is not there, all stay
none_taken : (d : Inst) (insts : List Inst) → ((i : Inst) → IsMember i insts → d ≢ i) → without_inst d insts ≡ insts
none_taken d [] h = refl
none_taken d (x ∷ xs) h =
    ap (λ b. cond (not b) (x ∷ without_inst d xs) (without_inst d xs)) (not_same d x (h x (inl refl)))
    ∙ ap (λ ys. x ∷ ys) (none_taken d xs (λ i m. h i (inr m)))

-- what passes a test counts as one
abbrev tally : Bool → ℕ
tally b = cond b 1 0

count-cons : (p : Inst → Bool) (x : Inst) (xs : List Inst) → count_by p (x ∷ xs) ≡ tally (p x) + count_by p xs
count-cons p x xs = sum_by-cons (λ y. tally (p y)) x xs

-- the one counts once
count_one : (p : Inst → Bool) (d : Inst) (insts : List Inst) → AllBefore Differ insts → IsMember d insts → count_by p insts ≡ count_by p (without_inst d insts) + tally (p d)
count_one p d [] a m = absurd m
count_one p d (x ∷ xs) a (inl e) =
    let taken : without_inst d (x ∷ xs) ≡ without_inst d xs = ap (λ b. cond (not b) (x ∷ without_inst d xs) (without_inst d xs)) ((is_same_inst-Decides d x).1 e) in
    let others : without_inst d xs ≡ xs = none_taken d xs (λ i m same. a.0 i m (sym e ∙ same)) in
    let left : count_by p (without_inst d (x ∷ xs)) ≡ count_by p xs = ap (count_by p) (taken ∙ others) in
    let alike : tally (p d) ≡ tally (p x) = ap (λ i. tally (p i)) e in
    omega (arith, left, alike, count-cons p x xs)
count_one p d (x ∷ xs) a (inr m) =
    let stays : without_inst d (x ∷ xs) ≡ x ∷ without_inst d xs = ap (λ b. cond (not b) (x ∷ without_inst d xs) (without_inst d xs)) (not_same d x (λ same. a.0 d m (sym same))) in
    let left : count_by p (without_inst d (x ∷ xs)) ≡ count_by p (x ∷ without_inst d xs) = ap (count_by p) stays in
    omega (arith, left, count-cons p x xs, count-cons p x (without_inst d xs), count_one p d xs a.1 m)

count_none : (p : Inst → Bool) (xs : List Inst) → ((i : Inst) → IsMember i xs → p i ≡ false) → count_by p xs ≡ 0
count_none p [] h = refl
count_none p (x ∷ xs) h =
    let first : tally (p x) ≡ 0 = ap tally (h x (inl refl)) in
    omega (arith, first, count-cons p x xs, count_none p xs (λ i m. h i (inr m)))

count_each : (xs : List Inst) → count_by (λ i. true) xs ≡ length xs
count_each [] = refl
count_each (x ∷ xs) = omega (arith, count-cons (λ i. true) x xs, count_each xs)

-- one less is left
one_taken : (d : Inst) (insts : List Inst) → AllBefore Differ insts → IsMember d insts → length insts ≡ length (without_inst d insts) + 1
one_taken d insts a m =
    omega (arith, count_one (λ i. true) d insts a m, count_each insts, count_each (without_inst d insts))

got_member : (xs : List Inst) (k : ℕ) (i : Inst) → slice_get xs k ≡ Some i → IsMember i xs
got_member [] k i e = absurd (cc)
got_member (x ∷ xs) zero i e = let same : i ≡ x = cc in inl same
got_member (x ∷ xs) (suc k) i e = inr (got_member xs k i e)

-- ---- the ranking

-- The list has just these instantiations, as many as there are. Each dominates all after it, and at each place stands
-- the one that this many of them dominate.
pub record IsRanking (strategy : Strategy) (rules : List Rule) (insts list : List Inst) : Type 0 where
  pub long : length list ≡ length insts
  pub members : (i : Inst) → Contains list i ↔ Contains insts i
  pub order : AllPairs (λ i j. IsTrue (dominates strategy rules i j)) list
  pub place : (k : ℕ) (i : Inst) → slice_get list k ≡ Some i → count_by (λ j. dominates strategy rules j i) insts ≡ k
  pub at : (i : Inst) → Contains insts i → slice_get list (count_by (λ j. dominates strategy rules j i) insts) ≡ Some i

module _ (g : Strategy) (rules : List Rule) where
  abbrev Dominates : Inst → Inst → Type 0
  Dominates i j = IsTrue (dominates g rules i j)

  -- how many of them dominate it
  abbrev above : List Inst → Inst → ℕ
  above insts i = count_by (λ j. dominates g rules j i) insts

  -- the same, by members
  record Ranks (insts list : List Inst) : Type 0 where
    long : length list ≡ length insts
    listed : (i : Inst) → IsMember i list → IsMember i insts
    all_listed : (i : Inst) → IsMember i insts → IsMember i list
    order : AllBefore Dominates list
    place : (k : ℕ) (i : Inst) → slice_get list k ≡ Some i → above insts i ≡ k
    at : (i : Inst) → IsMember i insts → slice_get list (above insts i) ≡ Some i

  ranks_nothing : Ranks [] []
  ranks_nothing = record {
    long = refl;
    listed = λ i m. m;
    all_listed = λ i m. m;
    order = tt;
    place = λ k i e. absurd (cc);
    at = λ i m. absurd m;
  }

  none_above : (insts : List Inst) (d : Inst) → IsDominant g rules insts d → above insts d ≡ 0
  none_above insts d p =
      count_none (λ j. dominates g rules j d) insts (λ j m. by j m (same_or_other d j))
    where
      by : (j : Inst) → IsMember j insts → (d ≡ j) ⊎ (d ≢ j) → dominates g rules j d ≡ false
      by j m (inl e) =
          let P : Inst → Type 0 = λ w. dominates g rules w d ≡ false in subst P e (dominates_itself g rules d)
      by j m (inr n) =
          ap is_greater (dominates-less g rules d j (p.above j (contains_from_member j insts m) (λ e. n (sym e))))

  module _ (insts : List Inst) (d : Inst) (rest : List Inst) (apart : AllBefore Differ insts) (p : IsDominant g rules insts d) (r : Ranks (without_inst d insts) rest) where
    there : IsMember d insts
    there = member_from_contains d insts p.member

    one_above : (i : Inst) → IsMember i insts → d ≢ i → above insts i ≡ suc (above (without_inst d insts) i)
    one_above i m n =
        let over : dominates g rules d i ≡ true = p.above i (contains_from_member i insts m) (λ e. n (sym e)) in
        let counts : tally (dominates g rules d i) ≡ 1 = ap tally over in
        omega (arith, counts, count_one (λ j. dominates g rules j i) d insts apart there)

    led_listed : (i : Inst) → IsMember i (d ∷ rest) → IsMember i insts
    led_listed i (inl e) = let P : Inst → Type 0 = λ w. IsMember w insts in subst P (sym e) there
    led_listed i (inr m) = ((other_member d i insts).0 (r.listed i m)).0

    led_all : (i : Inst) → IsMember i insts → (d ≡ i) ⊎ (d ≢ i) → IsMember i (d ∷ rest)
    led_all i m (inl e) = inl (sym e)
    led_all i m (inr n) = inr (r.all_listed i ((other_member d i insts).1 (m, n)))

    led_over : (j : Inst) → IsMember j rest → Dominates d j
    led_over j m =
        let other = (other_member d j insts).0 (r.listed j m) in
        p.above j (contains_from_member j insts other.0) (λ e. other.1 (sym e))

    led_place : (k : ℕ) (i : Inst) → slice_get (d ∷ rest) k ≡ Some i → above insts i ≡ k
    led_place zero i e =
        let same : d ≡ i = cc in
        let P : Inst → Type 0 = λ w. above insts w ≡ 0 in
        subst P same (none_above insts d p)
    led_place (suc k) i e =
        let other = (other_member d i insts).0 (r.listed i (got_member rest k i e)) in
        one_above i other.0 other.1 ∙ ap suc (r.place k i e)

    led_at : (i : Inst) → IsMember i insts → (d ≡ i) ⊎ (d ≢ i) → slice_get (d ∷ rest) (above insts i) ≡ Some i
    led_at i m (inl e) =
        let P : Inst → Type 0 = λ w. slice_get (d ∷ rest) (above insts w) ≡ Some w in
        subst P e (ap (slice_get (d ∷ rest)) (none_above insts d p))
    led_at i m (inr n) =
        ap (slice_get (d ∷ rest)) (one_above i m n) ∙ r.at i ((other_member d i insts).1 (m, n))

    -- the dominant one, and the others ranked after it
    ranks_led : Ranks insts (d ∷ rest)
    ranks_led = record {
      long = omega (arith, r.long, one_taken d insts apart there);
      listed = led_listed;
      all_listed = λ i m. led_all i m (same_or_other d i);
      order = (led_over, r.order);
      place = led_place;
      at = λ i m. led_at i m (same_or_other d i);
    }

  ranks_from : (n : ℕ) (insts : List Inst) → AreDistinct insts → length insts ≤ n → Ranks insts (ranked n g rules insts)
  ranks_from zero [] distinct within = ranks_nothing
  ranks_from zero (x ∷ xs) distinct within = absurd (omega arith)
  ranks_from (suc n) insts distinct within =
      by (dominant g rules insts) (dominant_is g rules insts) (λ d p.
      let one_less = one_taken d insts apart (member_from_contains d insts p.member) in
      ranks_from n (without_inst d insts) (AllPairs-filter Differ (λ j. not (is_same_inst d j)) insts distinct) (omega (arith, within, one_less)))
    where
      apart : AllBefore Differ insts
      apart = before_from_all_pairs Differ insts distinct

      by : (o : Option Inst) → MatchOption o (insts ≡ []) (λ d. IsDominant g rules insts d) → ((d : Inst) → IsDominant g rules insts d → Ranks (without_inst d insts) (ranked n g rules (without_inst d insts)))
          → Ranks insts (unwrap_or (option_map (λ d. d ∷ ranked n g rules (without_inst d insts)) o) [])
      by None e later = let P : List Inst → Type 0 = λ xs. Ranks xs [] in subst P (sym e) ranks_nothing
      by (Some d) p later =
          ranks_led insts d (ranked n g rules (without_inst d insts)) apart p (later d p)

-- This many places, or more, rank distinct instantiations.
pub ranked_is : (strategy : Strategy) (rules : List Rule) (n : ℕ) (insts : List Inst) → AreDistinct insts → length insts ≤ n → IsRanking strategy rules insts (ranked n strategy rules insts)
ranked_is strategy rules n insts distinct within =
    let r = ranks_from strategy rules n insts distinct within in
    let list = ranked n strategy rules insts in
    record {
      long = r.long;
      members = λ i. (λ h. contains_from_member i insts (r.listed i (member_from_contains i list h)), λ h. contains_from_member i list (r.all_listed i (member_from_contains i insts h)));
      order = all_pairs_from_before (Dominates strategy rules) list r.order;
      place = r.place;
      at = λ i h. r.at i (member_from_contains i insts h);
    }

-- of two neighbours the earlier dominates
pub ranked_neighbours : (strategy : Strategy) (rules : List Rule) (n : ℕ) (insts : List Inst) → AreDistinct insts → length insts ≤ n
    → (k : ℕ) (i j : Inst) → slice_get (ranked n strategy rules insts) k ≡ Some i → slice_get (ranked n strategy rules insts) (k + 1) ≡ Some j
    → IsTrue (dominates strategy rules i j)
ranked_neighbours strategy rules n insts distinct within k i j e f =
    let list = ranked n strategy rules insts in
    let r = ranked_is strategy rules n insts distinct within in
    let over : IsTrue (dominates strategy rules (slice_index_or list k i) (slice_index_or list (k + 1) i)) = r.order k (k + 1) i (omega arith) (slice_get_within list (k + 1) j f) in
    let P : Inst → Inst → Type 0 = λ v w. IsTrue (dominates strategy rules v w) in
    subst (λ v. P v j) (get_or_from_slice_get list k i i e) (subst (P (slice_index_or list k i)) (get_or_from_slice_get list (k + 1) j i f) over)

-- ---- found by counting

-- Things that are kept for instantiations, of which some are before others just where the instantiations dominate.
module _ {M : Type 0} (inst : M → Inst) (beats : M → M → Bool) (strategy : Strategy) (rules : List Rule) (ms : List M) where
  abbrev Beats : M → Type 0
  Beats m = (x : M) → Contains ms x → beats x m ≡ dominates strategy rules (inst x) (inst m)

  count_through : (m : M) (xs : List M) → ((x : M) → IsMember x xs → beats x m ≡ dominates strategy rules (inst x) (inst m))
      → count_by (λ x. beats x m) xs ≡ count_by (λ j. dominates strategy rules j (inst m)) (map inst xs)
  count_through m [] h = refl
  count_through m (x ∷ xs) h =
      let first : tally (beats x m) ≡ tally (dominates strategy rules (inst x) (inst m)) = ap tally (h x (inl refl)) in
      let one : count_by (λ x. beats x m) (x ∷ xs) ≡ tally (beats x m) + count_by (λ x. beats x m) xs = sum_by-cons (λ y. tally (beats y m)) x xs in
      omega (arith, first, one, count-cons (λ j. dominates strategy rules j (inst m)) (inst x) (map inst xs), count_through m xs (λ y k. h y (inr k)))

  -- what this many of them beat stands at that place
  pub ranked_at : (n k : ℕ) (m : M) → AreDistinct (map inst ms) → length ms ≤ n → Beats m → Contains ms m → length (filter (λ x. beats x m) ms) ≡ k
      → slice_get (ranked n strategy rules (map inst ms)) k ≡ Some (inst m)
  ranked_at n k m distinct within same h e =
      let insts = map inst ms in
      let r = ranked_is strategy rules n insts distinct (omega (arith, within, length-map ms inst)) in
      let place = length-filter (λ x. beats x m) ms in
      let count = count_through m ms (λ x k. same x (contains_from_member x ms k)) in
      ap (slice_get (ranked n strategy rules insts)) (sym e ∙ place ∙ count)
      ∙ r.at (inst m) (contains_from_member (inst m) insts (member-map inst m ms (member_from_contains m ms h)))

  -- and what is left from there begins with it
  pub ranked_from : (n k : ℕ) (m : M) → AreDistinct (map inst ms) → length ms ≤ n → Beats m → Contains ms m → length (filter (λ x. beats x m) ms) ≡ k
      → drop k (ranked n strategy rules (map inst ms)) ≡ inst m ∷ drop (k + 1) (ranked n strategy rules (map inst ms))
  ranked_from n k m distinct within same h e =
      let list = ranked n strategy rules (map inst ms) in
      let there = ranked_at n k m distinct within same h e in
      drop_more list k (inst m) (slice_get_within list k (inst m) there)
      ∙ ap (λ i. i ∷ drop (k + 1) list) (get_or_from_slice_get list k (inst m) (inst m) there)

  -- nothing is left after as many as there are
  pub ranked_over : (n k : ℕ) → AreDistinct (map inst ms) → length ms ≤ n → length ms ≤ k → drop k (ranked n strategy rules (map inst ms)) ≡ []
  ranked_over n k distinct within past =
      let insts = map inst ms in
      let r = ranked_is strategy rules n insts distinct (omega (arith, within, length-map ms inst)) in
      drop_all k (ranked n strategy rules insts) (omega (arith, past, r.long, length-map ms inst))
