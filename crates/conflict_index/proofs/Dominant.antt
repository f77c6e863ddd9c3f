-- The order of dominance: which members stand above which, and which stands at a place.
use Rattle.std.proofs.Common.{◌≡◌, ◌≢◌, ℕ, ◌+◌, ◌≤◌, ◌<◌, List, [], ◌∷◌, ◌++◌, map, length, slice_get, reverse, Bool, true, false, cond, not, Option, Some, None, refl, ap, sym, ◌∙◌, subst, inl, inr, arith}
use Rattle.std.specs.Prelude.{filter}
use Rattle.std.specs.Option.{MatchOption, unwrap_or}
use Rattle.std.specs.declared.cmp.Ordering.{Ordering}
use Rattle.std.specs.declared.cmp.Ordering.TheVariants.{Less, Equal, Greater}
use Rattle.std.specs.Map.{values_of}
use Rattle.std.specs.Ordering.{nat_cmp, ordering_then, ordering_reverse}
use Rattle.std.proofs.lemmas.Cmp.{tied_itself, nat_cmp_total}
use Rattle.std.proofs.lemmas.Bool.{false≢true, cases_order}
use Rattle.std.proofs.lemmas.List.{length-append, length-map, map-append, length-reverse, reverse-append, get_or_append_left}
use Rattle.std.proofs.lemmas.Option.{slice_get_past, slice_get_within, slice_get-get_or, get_or_from_slice_get}
use Rattle.std.proofs.Math.Seq.{get_or-append_seam}
use Rattle.ops_base.specs.declared.commands.Strategy.{Strategy}
use Rattle.ops_base.specs.declared.commands.Strategy.TheVariants.{Lex, Mea}
use Rattle.ops_base.specs.declared.rules.Inst.{Inst}
use Rattle.ops_base.specs.Dominance.{is_greater}
use Rattle.ops_base.proofs.Filtered.{filter_member, member-filter, all_before-filter}
use Rattle.ops_base.proofs.InOrder.{AllBefore}
use Rattle.ops_base.proofs.Members.{IsMember, contains_from_member, member_left, member_right, member-map, map_member}
use Rattle.resolution.specs.Keys.{Key, compare_keys}
use Rattle.resolution.proofs.KeyLaws.{compare_keys_total}
use Rattle.resolution.proofs.SameKeys.{tied_keys}
use Rattle.conflict_index.specs.declared.rank.Held.{Held}
use Rattle.conflict_index.specs.Indexed.{Member, waiting, outranks, key_with}
use Rattle.conflict_index.specs.Ranking.{under, compare_ranks, compare_ranks_total}
use Rattle.conflict_index.specs.Keeping.{held_member, in_order, all_members, members_of, rank_with, unfired_insts, IsKept}
use Rattle.conflict_index.specs.Selecting.{IsAt}
use Rattle.conflict_index.proofs.Kept.{Entry, Mark, all_member, held_among, kept_one, same_by_inst}
use Rattle.conflict_index.proofs.Members.{MemberBefore}
use Rattle.conflict_index.proofs.Placing.{IsOne, in_order_is, sorted, in_order_member, member_in_order, length-filter_in_order}
use Rattle.conflict_index.proofs.Ranks.{outranks_itself}
use Rattle.conflict_index.proofs.Restoring.{EntryBefore}
use Rattle.conflict_index.proofs.Sorted.{entries_before}

-- ---- which outranks which

under_one : (s : Strategy) (o : Ordering) → under s s o ≡ o
under_one Lex o = refl
under_one Mea o = refl

less_of_first : (k l : Key) (o : Ordering) → (o ≡ Equal → k.first ≡ l.first) → ordering_then o (nat_cmp k.first l.first) ≡ Less → o ≡ Less
less_of_first k l Less tied e = refl
less_of_first k l Equal tied e =
    let P : ℕ → Type 0 = λ n. nat_cmp k.first n ≡ Equal in
    let none : nat_cmp k.first l.first ≡ Equal = subst P (tied refl) (tied_itself nat_cmp_total k.first) in
    cc
less_of_first k l Greater tied e = cc

keys_less : (s : Strategy) (i j : Inst) (m n : ℕ) → compare_ranks (rank_with s i m) (rank_with s j n) ≡ Less → compare_keys s (key_with i m) (key_with j n) ≡ Less
keys_less s i j m n e =
    less_of_first (key_with i m) (key_with j n) (compare_keys s (key_with i m) (key_with j n))
    (λ t. ap (λ (ts : List ℕ). unwrap_or (slice_get ts 0) 0) (tied_keys s (key_with i m) (key_with j n) t).tags)
    (ap (λ o. ordering_then o (nat_cmp (key_with i m).first (key_with j n).first)) (sym (under_one s (compare_keys s (key_with i m) (key_with j n)))) ∙ e)

members_less : (strategy : Strategy) (waiting : List Entry) (fired : List Mark) (spare : ℕ) → IsKept strategy waiting fired spare → (d e : Entry) → IsMember d waiting → IsMember e waiting → EntryBefore d e
    → compare_keys strategy (key_with d.1.inst d.0.key.specificity) (key_with e.1.inst e.0.key.specificity) ≡ Less
members_less strategy waiting fired spare k d e h l b =
    keys_less strategy d.1.inst e.1.inst d.0.key.specificity e.0.key.specificity
    ((λ i. compare_ranks (sym (k.ranked d (contains_from_member d waiting h)) i) (sym (k.ranked e (contains_from_member e waiting l)) i)) ∙ b)

below : (strategy : Strategy) (waiting : List Entry) (fired : List Mark) (spare : ℕ) → IsKept strategy waiting fired spare → (d e : Entry) → IsMember d waiting → IsMember e waiting → EntryBefore d e
    → outranks strategy (held_member d) (held_member e) ≡ false
below strategy waiting fired spare k d e h l b = ap is_greater (members_less strategy waiting fired spare k d e h l b)

above : (strategy : Strategy) (waiting : List Entry) (fired : List Mark) (spare : ℕ) → IsKept strategy waiting fired spare → (d e : Entry) → IsMember d waiting → IsMember e waiting → EntryBefore d e
    → outranks strategy (held_member e) (held_member d) ≡ true
above strategy waiting fired spare k d e h l b =
    ap is_greater ((compare_keys_total strategy).antisymm (key_with e.1.inst e.0.key.specificity) (key_with d.1.inst d.0.key.specificity)
    ∙ ap ordering_reverse (members_less strategy waiting fired spare k d e h l b))

-- ---- those that have not fired

abbrev pub unfired : List Entry → List Entry
unfired es = filter (λ (e : Entry). not e.1.fired) es

unfired_values : (es : List Entry) → unfired_insts (values_of es) ≡ map (λ (e : Entry). e.1.inst) (unfired es)
unfired_values [] = refl
unfired_values (e ∷ es) = by_mark e.1.fired (unfired_values es)
  where
    by_mark : (b : Bool) → unfired_insts (values_of es) ≡ map (λ (e : Entry). e.1.inst) (unfired es)
        → map (λ (h : Held). h.inst) (cond (not b) (e.1 ∷ filter (λ h. not h.fired) (values_of es)) (filter (λ h. not h.fired) (values_of es)))
        ≡ map (λ (e : Entry). e.1.inst) (cond (not b) (e ∷ unfired es) (unfired es))
    by_mark true same = same
    by_mark false same = ap (λ is. e.1.inst ∷ is) same

waiting_is : (strategy : Strategy) (es : List Entry) (fired : List Mark) (spare : ℕ) → IsKept strategy es fired spare → in_order (map held_member (unfired es)) ≡ waiting (members_of es fired)
waiting_is strategy es fired spare k =
    in_order_is (map held_member (unfired es)) (waiting (members_of es fired))
    (λ m n h l e. kept_one strategy es fired spare k m n (there m h) (there n l) e)
    (all_before-filter MemberBefore (λ m. not m.fired) (members_of es fired) (sorted (all_members es fired)))
    forward backward
  where
    there : (m : Member) → IsMember m (map held_member (unfired es)) → IsMember m (all_members es fired)
    there m h =
        let f = map_member held_member m (unfired es) h in
        let P : Member → Type 0 = λ w. IsMember w (all_members es fired) in
        subst P (sym f.2) (held_among es fired f.0 (filter_member (λ (e : Entry). not e.1.fired) f.0 es f.1).0)

    forward : (m : Member) → IsMember m (map held_member (unfired es)) → IsMember m (waiting (members_of es fired))
    forward m h =
        let f = map_member held_member m (unfired es) h in
        member-filter (λ (w : Member). not w.fired) m (members_of es fired)
        (member_in_order m (all_members es fired) (kept_one strategy es fired spare k) (there m h))
        (ap (λ (w : Member). not w.fired) f.2 ∙ (filter_member (λ (e : Entry). not e.1.fired) f.0 es f.1).1)

    backward : (m : Member) → IsMember m (waiting (members_of es fired)) → IsMember m (map held_member (unfired es))
    backward m h =
        let f = filter_member (λ (w : Member). not w.fired) m (members_of es fired) h in
        let P : Member → Type 0 = λ w. IsMember w (map held_member (unfired es)) in
        elim (all_member es fired m (in_order_member m (all_members es fired) f.0)) [
          | inl e ↦ subst P (sym e.2) (member-map held_member e.0 (unfired es) (member-filter (λ (w : Entry). not w.1.fired) e.0 es e.1 (sym (ap (λ (w : Member). not w.fired) e.2) ∙ f.1)))
          | inr d ↦ absurd (false≢true (sym (ap (λ (w : Member). not w.fired) d.2) ∙ f.1))
        ]

pub apart_insts : (strategy : Strategy) (waiting : List Entry) (fired : List Mark) (spare : ℕ) → IsKept strategy waiting fired spare → (es : List Entry) → ((e : Entry) → IsMember e es → IsMember e waiting) → AllBefore EntryBefore es
    → AllBefore (λ (m n : Member). m.inst ≢ n.inst) (map held_member es)
apart_insts strategy waiting fired spare k [] there a = tt
apart_insts strategy waiting fired spare k (e ∷ es) there a = (first, apart_insts strategy waiting fired spare k es (λ d h. there d (inr h)) a.1)
  where
    first : (n : Member) → IsMember n (map held_member es) → e.1.inst ≢ n.inst
    first n h same =
        let f = map_member held_member n es h in
        let is : e ≡ f.0 = same_by_inst strategy waiting fired spare k e f.0 (there e (inl refl)) (there f.0 (inr f.1)) (same ∙ ap (λ (w : Member). w.inst) f.2) in
        let P : Entry → Type 0 = λ w. compare_ranks e.0 w.0 ≡ Less in
        let less : compare_ranks e.0 e.0 ≡ Less = subst P (sym is) (a.0 f.0 f.1) in
        let tied : compare_ranks e.0 e.0 ≡ Equal = tied_itself compare_ranks_total e.0 in
        cc

-- ---- counting

none_pass : (p : Member → Bool) (ms : List Member) → ((m : Member) → IsMember m ms → p m ≡ false) → length (filter p ms) ≡ 0
none_pass p [] h = refl
none_pass p (m ∷ ms) h = by_test (p m) (h m (inl refl)) (none_pass p ms (λ n g. h n (inr g)))
  where
    by_test : (b : Bool) → b ≡ false → length (filter p ms) ≡ 0 → length (cond b (m ∷ filter p ms) (filter p ms)) ≡ 0
    by_test true e later = cc
    by_test false e later = later

all_pass : (p : Member → Bool) (ms : List Member) → ((m : Member) → IsMember m ms → p m ≡ true) → length (filter p ms) ≡ length ms
all_pass p [] h = refl
all_pass p (m ∷ ms) h = by_test (p m) (h m (inl refl)) (all_pass p ms (λ n g. h n (inr g)))
  where
    by_test : (b : Bool) → b ≡ true → length (filter p ms) ≡ length ms → length (cond b (m ∷ filter p ms) (filter p ms)) ≡ length (m ∷ ms)
    by_test true e later = omega (arith, later)
    by_test false e later = cc

joined : (p : Member → Bool) (ms ns : List Member) → length (filter p (ms ++ ns)) ≡ length (filter p ms) + length (filter p ns)
joined p [] ns = omega arith
joined p (m ∷ ms) ns = by_test (p m) (joined p ms ns)
  where
    by_test : (b : Bool) → length (filter p (ms ++ ns)) ≡ length (filter p ms) + length (filter p ns)
        → length (cond b (m ∷ filter p (ms ++ ns)) (filter p (ms ++ ns))) ≡ length (cond b (m ∷ filter p ms) (filter p ms)) + length (filter p ns)
    by_test true e = omega (arith, e)
    by_test false e = e

-- ---- the entry at a place from the end

record FromEnd (es : List Entry) (place : ℕ) (i : Inst) : Type 0 where
  front : List Entry
  one : Entry
  back : List Entry
  is : es ≡ front ++ one ∷ back
  number : length back ≡ place
  of : one.1.inst ≡ i

abbrev inst_of : Entry → Inst
inst_of e = e.1.inst

-- one more place
get_left : {X : Type 0} (xs : List X) (y x : X) (n : ℕ) → slice_get xs n ≡ Some x → slice_get (xs ++ y ∷ []) n ≡ Some x
get_left xs y x n e =
    let within : n < length xs = slice_get_within xs n x e in
    slice_get-get_or (xs ++ y ∷ []) n x (omega (arith, length-append xs (y ∷ [])))
    ∙ ap Some (get_or_append_left xs (y ∷ []) x n within ∙ get_or_from_slice_get xs n x x e)

get_seam : {X : Type 0} (xs : List X) (y : X) (n : ℕ) → n ≡ length xs → slice_get (xs ++ y ∷ []) n ≡ Some y
get_seam xs y n e =
    ap (λ k. slice_get (xs ++ y ∷ []) k) e
    ∙ slice_get-get_or (xs ++ y ∷ []) (length xs) y (omega (arith, length-append xs (y ∷ [])))
    ∙ ap Some (get_or-append_seam xs y [] y)

abbrev turned : List Entry → List Inst
turned es = reverse (map inst_of es)

from_end : (es : List Entry) (place : ℕ) → MatchOption (slice_get (reverse (map inst_of es)) place) (length es ≤ place) (FromEnd es place)
from_end [] place = omega arith
from_end (e ∷ es) place =
    let Q : List Inst → Type 0 = λ is. MatchOption (slice_get is place) (length (e ∷ es) ≤ place) (FromEnd (e ∷ es) place) in
    subst Q (sym (reverse-append (e.1.inst ∷ []) (map inst_of es))) (longer (from_end es place))
  where
    length_turned : length (turned es) ≡ length es
    length_turned = length-reverse (map inst_of es) ∙ length-map es inst_of

    nearer : (o : Option Inst) → slice_get (turned es) place ≡ o → place < length (turned es) → MatchOption o (length es ≤ place) (FromEnd es place)
        → MatchOption (slice_get ((turned es) ++ e.1.inst ∷ []) place) (length (e ∷ es) ≤ place) (FromEnd (e ∷ es) place)
    nearer None t within h = absurd (omega (arith, length_turned, within, h))
    nearer (Some i) t within h =
        let P : Option Inst → Type 0 = λ o. MatchOption o (length (e ∷ es) ≤ place) (FromEnd (e ∷ es) place) in
        subst P (sym (get_left (turned es) e.1.inst i place t))
        (record { front = e ∷ h.front; one = h.one; back = h.back; is = ap (λ ds. e ∷ ds) h.is; number = h.number; of = h.of })

    longer : MatchOption (slice_get (turned es) place) (length es ≤ place) (FromEnd es place) → MatchOption (slice_get (turned es ++ e.1.inst ∷ []) place) (length (e ∷ es) ≤ place) (FromEnd (e ∷ es) place)
    longer h = elim (cases_order place (length (turned es))) [
      | inl here ↦ (
          let P : Option Inst → Type 0 = λ o. MatchOption o (length (e ∷ es) ≤ place) (FromEnd (e ∷ es) place) in
          subst P (sym (get_seam (turned es) e.1.inst place here)) (record { front = []; one = e; back = es; is = refl; number = sym length_turned ∙ sym here; of = refl })
          )
      | inr k ↦ elim k [
        | inl within ↦ nearer (slice_get (turned es) place) refl within h
        | inr past ↦ (
            let P : Option Inst → Type 0 = λ o. MatchOption o (length (e ∷ es) ≤ place) (FromEnd (e ∷ es) place) in
            subst P (sym (slice_get_past ((turned es) ++ e.1.inst ∷ []) place (omega (arith, length-append (turned es) (e.1.inst ∷ []), past))))
            (omega (arith, length_turned, past))
            )
      ]
    ]

-- ---- what stands at a place

abbrev above_it : Strategy → Member → Member → Bool
above_it strategy m n = outranks strategy n m

module _ (strategy : Strategy) (es : List Entry) (fired : List Mark) (spare : ℕ) (k : IsKept strategy es fired spare) where
  there : (e : Entry) → IsMember e (unfired es) → IsMember e es
  there e h = (filter_member (λ (w : Entry). not w.1.fired) e es h).0

  in_turn : AllBefore EntryBefore (unfired es)
  in_turn = all_before-filter EntryBefore (λ (w : Entry). not w.1.fired) es (entries_before compare_ranks es k.ordered)

  count : (p : Member → Bool) → length (filter p (waiting (members_of es fired))) ≡ length (filter p (map held_member (unfired es)))
  count p =
      ap (λ ms. length (filter p ms)) (sym (waiting_is strategy es fired spare k))
      ∙ length-filter_in_order p (map held_member (unfired es)) (apart_insts strategy es fired spare k (unfired es) there in_turn)

  number : length (waiting (members_of es fired)) ≡ length (unfired es)
  number =
      sym (all_pass (λ m. true) (waiting (members_of es fired)) (λ m h. refl))
      ∙ count (λ m. true)
      ∙ all_pass (λ m. true) (map held_member (unfired es)) (λ m h. refl)
      ∙ length-map (unfired es) held_member

  is_at : (place : ℕ) (i : Inst) → FromEnd (unfired es) place i → IsAt strategy (members_of es fired) place i
  is_at place i f = record {
    member = (
      held_member f.one,
      contains_from_member (held_member f.one) (waiting (members_of es fired)) waits,
      f.of,
      count (above_it strategy (held_member f.one)) ∙ ap (λ ds. length (filter (above_it strategy (held_member f.one)) (map held_member ds))) f.is
          ∙ ap (λ ms. length (filter (above_it strategy (held_member f.one)) ms)) (map-append held_member f.front (f.one ∷ f.back))
          ∙ joined (above_it strategy (held_member f.one)) (map held_member f.front) (held_member f.one ∷ map held_member f.back)
          ∙ sums (none_pass (above_it strategy (held_member f.one)) (map held_member f.front) fronts) (backs (outranks strategy (held_member f.one) (held_member f.one)) (outranks_itself strategy (held_member f.one))),
    );
  }
    where
      within : (e : Entry) → IsMember e (f.front ++ f.one ∷ f.back) → IsMember e es
      within e h = let P : List Entry → Type 0 = IsMember e in there e (subst P (sym f.is) h)

      one_within : IsMember f.one es
      one_within = within f.one (member_right f.one f.front (f.one ∷ f.back) (inl refl))

      waits : IsMember (held_member f.one) (waiting (members_of es fired))
      waits =
          let P : List Member → Type 0 = IsMember (held_member f.one) in
          let Q : List Entry → Type 0 = IsMember f.one in
          subst P (waiting_is strategy es fired spare k)
          (member_in_order (held_member f.one) (map held_member (unfired es)) one (member-map held_member f.one (unfired es) (subst Q (sym f.is) (member_right f.one f.front (f.one ∷ f.back) (inl refl)))))
        where
          one : IsOne (map held_member (unfired es))
          one m n h g e =
              let a = map_member held_member m (unfired es) h in
              let b = map_member held_member n (unfired es) g in
              a.2 ∙ ap held_member (same_by_inst strategy es fired spare k a.0 b.0 (there a.0 a.1) (there b.0 b.1) (sym (ap (λ (w : Member). w.inst) a.2) ∙ e ∙ ap (λ (w : Member). w.inst) b.2)) ∙ sym b.2

      order : AllBefore EntryBefore (f.front ++ f.one ∷ f.back)
      order = subst (AllBefore EntryBefore) f.is in_turn

      before_one : (ds : List Entry) → AllBefore EntryBefore (ds ++ f.one ∷ f.back) → (e : Entry) → IsMember e ds → EntryBefore e f.one
      before_one [] a e h = absurd h
      before_one (d ∷ ds) a e (inl s) =
          let P : Entry → Type 0 = λ w. EntryBefore w f.one in subst P (sym s) (a.0 f.one (member_right f.one ds (f.one ∷ f.back) (inl refl)))
      before_one (d ∷ ds) a e (inr h) = before_one ds a.1 e h

      after_one : (ds : List Entry) → AllBefore EntryBefore (ds ++ f.one ∷ f.back) → (e : Entry) → IsMember e f.back → EntryBefore f.one e
      after_one [] a e h = a.0 e h
      after_one (d ∷ ds) a e h = after_one ds a.1 e h

      fronts : (m : Member) → IsMember m (map held_member f.front) → (above_it strategy (held_member f.one)) m ≡ false
      fronts m h =
          let a = map_member held_member m f.front h in
          ap (above_it strategy (held_member f.one)) a.2 ∙ below strategy es fired spare k a.0 f.one (within a.0 (member_left a.0 f.front (f.one ∷ f.back) a.1)) one_within (before_one f.front order a.0 a.1)

      lasts : (m : Member) → IsMember m (map held_member f.back) → (above_it strategy (held_member f.one)) m ≡ true
      lasts m h =
          let a = map_member held_member m f.back h in
          ap (above_it strategy (held_member f.one)) a.2 ∙ above strategy es fired spare k f.one a.0 one_within (within a.0 (member_right a.0 f.front (f.one ∷ f.back) (inr a.1))) (after_one f.front order a.0 a.1)

      backs : (b : Bool) → b ≡ false → length (cond b (held_member f.one ∷ filter (above_it strategy (held_member f.one)) (map held_member f.back)) (filter (above_it strategy (held_member f.one)) (map held_member f.back))) ≡ place
      backs true e = cc
      backs false e = all_pass (above_it strategy (held_member f.one)) (map held_member f.back) lasts ∙ length-map f.back held_member ∙ f.number

      sums : {a b : ℕ} → a ≡ 0 → b ≡ place → a + b ≡ place
      sums {a} {b} x y = omega (arith, x, y)

  pub at_place : (values : List Held) → values ≡ values_of es → (place : ℕ)
      → MatchOption (slice_get (reverse (unfired_insts values)) place) (length (waiting (members_of es fired)) ≤ place) (λ i. IsAt strategy (members_of es fired) place i)
  at_place values is place =
      let list : unfired_insts values ≡ map inst_of (unfired es) = ap unfired_insts is ∙ unfired_values es in
      let P : List Inst → Type 0 = λ is. MatchOption (slice_get (reverse is) place) (length (waiting (members_of es fired)) ≤ place) (λ i. IsAt strategy (members_of es fired) place i) in
      subst P (sym list) (by_answer (slice_get (reverse (map inst_of (unfired es))) place) (from_end (unfired es) place))
    where
      by_answer : (o : Option Inst) → MatchOption o (length (unfired es) ≤ place) (FromEnd (unfired es) place)
          → MatchOption o (length (waiting (members_of es fired)) ≤ place) (λ i. IsAt strategy (members_of es fired) place i)
      by_answer None h = omega (arith, number, h)
      by_answer (Some i) h = is_at place i h
