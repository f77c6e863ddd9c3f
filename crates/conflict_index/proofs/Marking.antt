-- What becomes of the members where one is marked.
use Rattle.std.proofs.Common.{◌≡◌, ◌≢◌, ℕ, ◌+◌, ◌≤◌, List, [], ◌∷◌, ◌++◌, map, length, Bool, true, false, cond, Option, Some, None, refl, ap, sym, ◌∙◌, subst, inl, inr, ◌⊎◌, arith}
use Rattle.std.specs.Prelude.{Contains}
use Rattle.std.specs.Bool.{Decides}
use Rattle.std.specs.HashMap as hash
use Rattle.std.specs.HashMap.{HashMap}
use Rattle.std.specs.declared.cmp.Ordering.{Ordering}
use Rattle.std.specs.declared.cmp.Ordering.TheVariants.{Less, Equal, Greater}
use Rattle.std.specs.List.{IsDistinct}
use Rattle.std.specs.List.Sorted.{IsStrictlySortedBy}
use Rattle.std.specs.Map.{keys_of}
use Rattle.std.specs.Ordering.{match_ordering}
use Rattle.std.proofs.lemmas.Cmp.{tied_itself}
use Rattle.std.proofs.lemmas.List.{map-append, length-append, length-map}
use Rattle.ops_base.specs.declared.commands.Strategy.{Strategy}
use Rattle.ops_base.specs.declared.rules.Inst.{Inst}
use Rattle.ops_base.specs.Instances.{by_rule_and_tags}
use Rattle.ops_base.specs.Refraction.{is_same_inst}
use Rattle.ops_base.proofs.InOrder.{AllBefore}
use Rattle.ops_base.proofs.Members.{IsMember, member_from_contains, contains_from_member, member_left, member_right, member_cases, member-map, map_member}
use Rattle.ops_base.proofs.RefractionLaws.{is_same_inst-Decides}
use Rattle.resolution.specs.Keys.{Key, same_keys}
use Rattle.conflict_index.specs.declared.rank.Held.{Held}
use Rattle.conflict_index.specs.Rank.{Rank}
use Rattle.conflict_index.specs.Applying.{marked}
use Rattle.conflict_index.specs.Indexed.{Member, insts_of, key_with}
use Rattle.conflict_index.specs.Ranking.{compare_ranks, compare_ranks_total}
use Rattle.conflict_index.specs.Keeping.{held_member, fired_member, put_in, in_order, all_members, members_of, rank_with, marked_held, IsKept, Gains}
use Rattle.conflict_index.proofs.Kept.{Entry, Mark, all_member, held_among, fired_among, kept_one, one_kept, ranked_inst, keyed_inst, same_by_inst}
use Rattle.conflict_index.proofs.Lookups.{fired_has}
use Rattle.conflict_index.proofs.Placing.{IsOne, in_order_is, sorted, in_order_member, member_in_order}
use Rattle.conflict_index.proofs.Sorted.{entries_before}

abbrev with_mark : Member → Member
with_mark m = record m { fired = true }

abbrev mark_at : Inst → Member → Member
mark_at i m = cond (is_same_inst m.inst i) (with_mark m) m

pub insts_of_marked : (i : Inst) (members : List Member) → insts_of (marked i members) ≡ insts_of members
insts_of_marked i [] = refl
insts_of_marked i (m ∷ members) = by_test (is_same_inst m.inst i) (insts_of_marked i members)
  where
    by_test : (b : Bool) → insts_of (marked i members) ≡ insts_of members → (cond b (with_mark m) m).inst ∷ insts_of (marked i members) ≡ m.inst ∷ insts_of members
    by_test true e = ap (λ is. m.inst ∷ is) e
    by_test false e = ap (λ is. m.inst ∷ is) e

same_inst_marked : (i : Inst) (m : Member) → (mark_at i m).inst ≡ m.inst
same_inst_marked i m = by_test (is_same_inst m.inst i)
  where
    by_test : (b : Bool) → (cond b (with_mark m) m).inst ≡ m.inst
    by_test true = refl
    by_test false = refl

put_marked : (i : Inst) (m : Member) (members : List Member) → put_in (mark_at i m) (marked i members) ≡ marked i (put_in m members)
put_marked i m [] = refl
put_marked i m (n ∷ members) =
    ap (λ o. match_ordering o (mark_at i m ∷ mark_at i n ∷ marked i members) (mark_at i m ∷ marked i members) (mark_at i n ∷ put_in (mark_at i m) (marked i members)))
    (λ k. by_rule_and_tags (same_inst_marked i m k) (same_inst_marked i n k))
    ∙ by_order (by_rule_and_tags m.inst n.inst) (put_marked i m members)
  where
    by_order : (o : Ordering) → put_in (mark_at i m) (marked i members) ≡ marked i (put_in m members)
        → match_ordering o (mark_at i m ∷ mark_at i n ∷ marked i members) (mark_at i m ∷ marked i members) (mark_at i n ∷ put_in (mark_at i m) (marked i members))
        ≡ marked i (match_ordering o (m ∷ n ∷ members) (m ∷ members) (n ∷ put_in m members))
    by_order Less e = refl
    by_order Equal e = refl
    by_order Greater e = ap (λ ms. mark_at i n ∷ ms) e

-- marking and putting in order may be done either way round
pub in_order_marked : (i : Inst) (members : List Member) → in_order (marked i members) ≡ marked i (in_order members)
in_order_marked i [] = refl
in_order_marked i (m ∷ members) =
    ap (λ ms. put_in (mark_at i m) ms) (in_order_marked i members) ∙ put_marked i m (in_order members)

-- ---- in its place

abbrev pub marked_entry : Inst → Entry → Entry
marked_entry i e = (e.0, marked_held i e.1)

held_marked : (i : Inst) (e : Entry) → held_member (marked_entry i e) ≡ mark_at i (held_member e)
held_marked i e = by_test (is_same_inst e.1.inst i)
  where
    by_test : (b : Bool) → held_member (e.0, cond b (record e.1 { fired = true }) e.1) ≡ cond b (with_mark (held_member e)) (held_member e)
    by_test true = refl
    by_test false = refl

fired_marked : (i : Inst) (d : Mark) → fired_member d ≡ mark_at i (fired_member d)
fired_marked i d = by_test (is_same_inst d.1 i)
  where
    by_test : (b : Bool) → fired_member d ≡ cond b (with_mark (fired_member d)) (fired_member d)
    by_test true = refl
    by_test false = refl

map_held : (i : Inst) (waiting : List Entry) → map held_member (map (marked_entry i) waiting) ≡ marked i (map held_member waiting)
map_held i [] = refl
map_held i (e ∷ waiting) = λ k. held_marked i e k ∷ map_held i waiting k

map_fired : (i : Inst) (fired : List Mark) → map fired_member fired ≡ marked i (map fired_member fired)
map_fired i [] = refl
map_fired i (d ∷ fired) = λ k. fired_marked i d k ∷ map_fired i fired k

all_marked : (i : Inst) (waiting : List Entry) (fired : List Mark) → all_members (map (marked_entry i) waiting) fired ≡ marked i (all_members waiting fired)
all_marked i waiting fired =
    (λ k. map_held i waiting k ++ map_fired i fired k)
    ∙ sym (map-append (mark_at i) (map held_member waiting) (map fired_member fired))

pub marked_view : (i : Inst) (waiting next : List Entry) (fired : List Mark) → next ≡ map (marked_entry i) waiting → members_of next fired ≡ marked i (members_of waiting fired)
marked_view i waiting next fired is =
    ap (λ es. members_of es fired) is ∙ ap in_order (all_marked i waiting fired) ∙ in_order_marked i (all_members waiting fired)

same_inst_held : (i : Inst) (h : Held) → (marked_held i h).inst ≡ h.inst
same_inst_held i h = by_test (is_same_inst h.inst i)
  where
    by_test : (b : Bool) → (cond b (record h { fired = true }) h).inst ≡ h.inst
    by_test true = refl
    by_test false = refl

was_marked : (i : Inst) (waiting next : List Entry) → next ≡ map (marked_entry i) waiting → (e : Entry) → Contains next e → (d : Entry) × Contains waiting d × (e ≡ marked_entry i d)
was_marked i waiting next is e h =
    let P : List Entry → Type 0 = IsMember e in
    let f = map_member (marked_entry i) e waiting (subst P is (member_from_contains e next h)) in
    (f.0, contains_from_member f.0 waiting f.1, f.2)

pub marked_kept : (strategy : Strategy) (i : Inst) (waiting next : List Entry) (fired : List Mark) (spare : ℕ) → IsKept strategy waiting fired spare → next ≡ map (marked_entry i) waiting
    → IsStrictlySortedBy compare_ranks (keys_of next) → IsKept strategy next fired spare
marked_kept strategy i waiting next fired spare k is o = record {
  ordered = o;
  unique = k.unique;
  ranked = λ e h. (
      let f = was_marked i waiting next is e h in
      let P : Entry → Type 0 = λ w. w.0 ≡ rank_with strategy w.1.inst w.0.key.specificity in
      subst P (sym f.2) (k.ranked f.0 f.1 ∙ ap (λ (j : Inst). rank_with strategy j f.0.0.key.specificity) (sym (same_inst_held i f.0.1)))
      );
  keyed = k.keyed;
  one = one_kept next fired one;
  apart = λ e d h g same. (
      let f = was_marked i waiting next is e h in
      k.apart f.0 d f.1 g (sym (same_inst_held i f.0.1) ∙ ap (λ (w : Entry). w.1.inst) (sym f.2) ∙ same)
      );
  room = omega (arith, ap length is, length-map {A = Entry} {B = Entry}, k.room);
}
  where
    found : (m : Member) → IsMember m (all_members next fired) → (n : Member) × IsMember n (all_members waiting fired) × (m ≡ mark_at i n)
    found m h =
        let P : List Member → Type 0 = IsMember m in
        map_member (mark_at i) m (all_members waiting fired) (subst P (ap (λ es. all_members es fired) is ∙ all_marked i waiting fired) h)

    one : IsOne (all_members next fired)
    one m n h g e =
        let f = found m h in
        let l = found n g in
        let same : f.0.inst ≡ l.0.inst =
        sym (same_inst_marked i f.0) ∙ sym (ap (λ (w : Member). w.inst) f.2) ∙ e ∙ ap (λ (w : Member). w.inst) l.2 ∙ same_inst_marked i l.0 in
        f.2 ∙ ap (mark_at i) (kept_one strategy waiting fired spare k f.0 l.0 f.1 l.1 same) ∙ sym l.2

-- ---- one that goes over to the marks

-- no mark is on the key of one that stands in the order of dominance
pub no_mark : {S : Type 0} (strategy : Strategy) (waiting : List Entry) (m : HashMap Key Inst S) (spare : ℕ) → IsKept strategy waiting m.entries spare → (p : Entry) → IsMember p waiting → hash.get same_keys m p.0.key ≡ None
no_mark strategy waiting m spare k p h = by_answer (hash.get same_keys m p.0.key) refl
  where
    by_answer : (o : Option Inst) → hash.get same_keys m p.0.key ≡ o → o ≡ None
    by_answer None e = refl
    by_answer (Some v) e =
        let d : Mark = (p.0.key, v) in
        let c = (fired_has m k.unique p.0.key v).0 e in
        absurd (k.apart p d (contains_from_member p waiting h) c
        (ranked_inst strategy waiting k.ranked p h ∙ sym (keyed_inst m.entries k.keyed d (member_from_contains d m.entries c))))

module _ (strategy : Strategy) (i : Inst) (waiting left : List Entry) (p : Entry) (fired marks : List Mark) (spare : ℕ) (k : IsKept strategy waiting fired spare) (was : waiting ≡ left ++ p ∷ []) (of : p.1.inst ≡ i)
    (gains : Gains ((p.0.key, p.1.inst) ∷ []) fired marks) where
  abbrev New : Mark
  New = (p.0.key, p.1.inst)

  left_was : (e : Entry) → IsMember e left → IsMember e waiting
  left_was e h = let P : List Entry → Type 0 = IsMember e in subst P (sym was) (member_left e left (p ∷ []) h)

  pub last_was : IsMember p waiting
  last_was = let P : List Entry → Type 0 = IsMember p in subst P (sym was) (member_right p left (p ∷ []) (inl refl))

  split : (e : Entry) → IsMember e waiting → IsMember e left ⊎ (e ≡ p)
  split e h =
      let P : List Entry → Type 0 = IsMember e in
      elim (member_cases e left (p ∷ []) (subst P was h)) [
        | inl l ↦ inl l
        | inr r ↦ elim r [ inl e ↦ inr e | inr none ↦ absurd none ]
      ]

  -- none of the others is of the instantiation
  others : (e : Entry) → IsMember e left → e.1.inst ≢ i
  others e h same =
      let e_is : e ≡ p = same_by_inst strategy waiting fired spare k e p (left_was e h) last_was (same ∙ sym of) in
      let P : List Entry → Type 0 = λ es. IsStrictlySortedBy compare_ranks (keys_of es) in
      let before = before_last left (entries_before compare_ranks (left ++ p ∷ []) (subst P was k.ordered)) e h in
      let Q : Entry → Type 0 = λ w. compare_ranks w.0 p.0 ≡ Less in
      let less : compare_ranks p.0 p.0 ≡ Less = subst Q e_is before in
      let tied : compare_ranks p.0 p.0 ≡ Equal = tied_itself compare_ranks_total p.0 in
      cc
    where
      before_last : (es : List Entry) → AllBefore (λ (d e : Entry). compare_ranks d.0 e.0 ≡ Less) (es ++ p ∷ []) → (e : Entry) → IsMember e es → compare_ranks e.0 p.0 ≡ Less
      before_last [] a e h = absurd h
      before_last (d ∷ es) a e (inl s) =
          let Q : Entry → Type 0 = λ w. compare_ranks w.0 p.0 ≡ Less in
          subst Q (sym s) (a.0 p (member_right p es (p ∷ []) (inl refl)))
      before_last (d ∷ es) a e (inr h) = before_last es a.1 e h

  unmarked : (m : Member) → m.inst ≢ i → mark_at i m ≡ m
  unmarked m differ = by_test (is_same_inst m.inst i) (is_same_inst-Decides m.inst i)
    where
      by_test : (b : Bool) → Decides b (m.inst ≡ i) → cond b (with_mark m) m ≡ m
      by_test true d = absurd (differ (d.0 refl))
      by_test false d = refl

  now_marked : mark_at i (held_member p) ≡ fired_member New
  now_marked = by_test (is_same_inst p.1.inst i) (is_same_inst-Decides p.1.inst i)
    where
      by_test : (b : Bool) → Decides b (p.1.inst ≡ i) → cond b (with_mark (held_member p)) (held_member p) ≡ fired_member New
      by_test true d = refl
      by_test false d = absurd (false_true (d.1 of))
        where
          false_true : false ≡ true → ⊥
          false_true e = cc

  mark_cases : (d : Mark) → IsMember d marks → IsMember d fired ⊎ (d ≡ New)
  mark_cases d h = elim ((gains d).0 (contains_from_member d marks h)) [
    | inl o ↦ inl (member_from_contains d fired o)
    | inr n ↦ elim (member_from_contains d (New ∷ []) n) [ inl e ↦ inr e | inr none ↦ absurd none ]
  ]

  old_mark : (d : Mark) → IsMember d fired → IsMember d marks
  old_mark d h = member_from_contains d marks ((gains d).1 (inl (contains_from_member d fired h)))

  new_mark : IsMember New marks
  new_mark = member_from_contains New marks ((gains New).1 (inr (contains_from_member New (New ∷ []) (inl refl))))

  moved_forward : (m : Member) → IsMember m (all_members left marks) → IsMember m (marked i (all_members waiting fired))
  moved_forward m h =
      let P : Member → Type 0 = λ w. IsMember w (marked i (all_members waiting fired)) in
      elim (all_member left marks m h) [
        | inl e ↦ subst P (unmarked (held_member e.0) (others e.0 e.1) ∙ sym e.2) (member-map (mark_at i) (held_member e.0) (all_members waiting fired) (held_among waiting fired e.0 (left_was e.0 e.1)))
        | inr d ↦ elim (mark_cases d.0 d.1) [
          | inl o ↦ subst P (sym (fired_marked i d.0) ∙ sym d.2) (member-map (mark_at i) (fired_member d.0) (all_members waiting fired) (fired_among waiting fired d.0 o))
          | inr n ↦ subst P (now_marked ∙ ap fired_member (sym n) ∙ sym d.2) (member-map (mark_at i) (held_member p) (all_members waiting fired) (held_among waiting fired p last_was))
        ]
      ]

  moved_backward : (m : Member) → IsMember m (marked i (all_members waiting fired)) → IsMember m (all_members left marks)
  moved_backward m h =
      let P : Member → Type 0 = λ w. IsMember w (all_members left marks) in
      let f = map_member (mark_at i) m (all_members waiting fired) h in
      elim (all_member waiting fired f.0 f.1) [
        | inl e ↦ elim (split e.0 e.1) [
          | inl l ↦ subst P (sym (f.2 ∙ ap (mark_at i) e.2 ∙ unmarked (held_member e.0) (others e.0 l))) (held_among left marks e.0 l)
          | inr s ↦ subst P (sym (f.2 ∙ ap (mark_at i) (e.2 ∙ ap held_member s) ∙ now_marked)) (fired_among left marks New new_mark)
        ]
        | inr d ↦ subst P (sym (f.2 ∙ ap (mark_at i) d.2 ∙ sym (fired_marked i d.0))) (fired_among left marks d.0 (old_mark d.0 d.1))
      ]

  moved_one : IsOne (all_members left marks)
  moved_one m n h g e =
      let f = map_member (mark_at i) m (all_members waiting fired) (moved_forward m h) in
      let l = map_member (mark_at i) n (all_members waiting fired) (moved_forward n g) in
      let same : f.0.inst ≡ l.0.inst =
      sym (same_inst_marked i f.0) ∙ sym (ap (λ (w : Member). w.inst) f.2) ∙ e ∙ ap (λ (w : Member). w.inst) l.2 ∙ same_inst_marked i l.0 in
      f.2 ∙ ap (mark_at i) (kept_one strategy waiting fired spare k f.0 l.0 f.1 l.1 same) ∙ sym l.2

  pub moved_view : members_of left marks ≡ marked i (members_of waiting fired)
  moved_view =
      in_order_is (all_members left marks) (in_order (marked i (all_members waiting fired))) moved_one (sorted (marked i (all_members waiting fired)))
      (λ m h. member_in_order m (marked i (all_members waiting fired)) marked_one (moved_forward m h))
      (λ m h. moved_backward m (in_order_member m (marked i (all_members waiting fired)) h))
      ∙ in_order_marked i (all_members waiting fired)
    where
      marked_one : IsOne (marked i (all_members waiting fired))
      marked_one m n h g e = moved_one m n (moved_backward m h) (moved_backward n g) e

  pub moved_kept : (room : ℕ) → IsStrictlySortedBy compare_ranks (keys_of left) → IsDistinct same_keys (keys_of marks) → spare ≤ room + 1 → IsKept strategy left marks room
  moved_kept room o u l = record {
    ordered = o;
    unique = u;
    ranked = λ e h. k.ranked e (contains_from_member e waiting (left_was e (member_from_contains e left h)));
    keyed = λ d h. elim (mark_cases d (member_from_contains d marks h)) [
      | inl old ↦ k.keyed d (contains_from_member d fired old)
      | inr new ↦ (
          let P : Mark → Type 0 = λ w. w.0 ≡ key_with w.1 w.0.specificity in
          subst P (sym new) (ap (λ (r : Rank). r.key) (k.ranked p (contains_from_member p waiting last_was)))
          )
    ];
    one = one_kept left marks moved_one;
    apart = λ e d h g same. elim (mark_cases d (member_from_contains d marks g)) [
      | inl old ↦ k.apart e d (contains_from_member e waiting (left_was e (member_from_contains e left h))) (contains_from_member d fired old) same
      | inr new ↦ others e (member_from_contains e left h) (same ∙ ap (λ (w : Mark). w.1) new ∙ of)
    ];
    room = omega (arith, ap length was, length-append left (p ∷ []), k.room, l);
  }
