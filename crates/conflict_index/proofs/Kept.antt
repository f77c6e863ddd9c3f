-- The members of an index, from the two maps that keep them.
use Rattle.std.proofs.Common.{◌≡◌, ◌≢◌, ℕ, ◌≤◌, List, [], map, length, ap, sym, ◌∙◌, subst, inl, inr, ◌⊎◌, arith}
use Rattle.std.specs.Prelude.{Contains}
use Rattle.std.specs.List.{IsDistinct}
use Rattle.std.specs.List.Sorted.{IsStrictlySortedBy}
use Rattle.std.specs.Map.{keys_of}
use Rattle.std.specs.List.Sorted.{IsPermutation}
use Rattle.std.proofs.lemmas.List.Sorted.{Contains-permutation, IsPermutation-sym}
use Rattle.ops_base.specs.declared.commands.Strategy.{Strategy}
use Rattle.ops_base.specs.declared.rules.Inst.{Inst}
use Rattle.ops_base.specs.Instances.{IsInOrder}
use Rattle.ops_base.proofs.Members.{IsMember, member_from_contains, contains_from_member, member_left, member_right, member_cases, member-map, map_member}
use Rattle.resolution.specs.Keys.{Key, same_keys}
use Rattle.conflict_index.specs.declared.rank.Held.{Held}
use Rattle.conflict_index.specs.Rank.{Rank}
use Rattle.conflict_index.specs.Indexed.{Member, Indexed, insts_of, key_with}
use Rattle.conflict_index.specs.Ranking.{compare_ranks}
use Rattle.conflict_index.specs.Keeping.{held_member, fired_member, all_members, members_of, rank_with, ranked_anew, AreToldApart, AreRanked, AreKeyed, IsKept, HasSame}
use Rattle.conflict_index.proofs.Members.{insts_in_order}
use Rattle.conflict_index.proofs.Placing.{IsOne, sorted, in_order_is, in_order_member, member_in_order}

abbrev pub Entry : Type 0
Entry = Rank × Held

abbrev pub Mark : Type 0
Mark = Key × Inst

-- ---- which members there are

pub all_member : (waiting : List Entry) (fired : List Mark) (m : Member) → IsMember m (all_members waiting fired)
    → ((e : Entry) × IsMember e waiting × (m ≡ held_member e)) ⊎ ((d : Mark) × IsMember d fired × (m ≡ fired_member d))
all_member waiting fired m h = elim (member_cases m (map held_member waiting) (map fired_member fired) h) [
  | inl k ↦ inl (map_member held_member m waiting k)
  | inr k ↦ inr (map_member fired_member m fired k)
]

pub held_among : (waiting : List Entry) (fired : List Mark) (e : Entry) → IsMember e waiting → IsMember (held_member e) (all_members waiting fired)
held_among waiting fired e h =
    member_left (held_member e) (map held_member waiting) (map fired_member fired) (member-map held_member e waiting h)

pub fired_among : (waiting : List Entry) (fired : List Mark) (d : Mark) → IsMember d fired → IsMember (fired_member d) (all_members waiting fired)
fired_among waiting fired d h =
    member_right (fired_member d) (map held_member waiting) (map fired_member fired) (member-map fired_member d fired h)

pub kept_one : (strategy : Strategy) (waiting : List Entry) (fired : List Mark) (spare : ℕ) → IsKept strategy waiting fired spare → IsOne (all_members waiting fired)
kept_one strategy waiting fired spare k m n h l e =
    k.one m n (contains_from_member m (all_members waiting fired) h) (contains_from_member n (all_members waiting fired) l) e

pub one_kept : (waiting : List Entry) (fired : List Mark) → IsOne (all_members waiting fired) → (m n : Member) → Contains (all_members waiting fired) m → Contains (all_members waiting fired) n → m.inst ≡ n.inst → m ≡ n
one_kept waiting fired one m n h l e =
    one m n (member_from_contains m (all_members waiting fired) h) (member_from_contains n (all_members waiting fired) l) e

pub viewed_in_order : (strategy : Strategy) (waiting : List Entry) (fired : List Mark) (now : Indexed) → record { strategy = strategy; members = members_of waiting fired } ≡ now → IsInOrder (insts_of now.members)
viewed_in_order strategy waiting fired now e =
    let P : Indexed → Type 0 = λ v. IsInOrder (insts_of v.members) in
    subst P e (insts_in_order (members_of waiting fired) (sorted (all_members waiting fired)))

-- maps of the same members have the same view
pub same_view : (waiting next : List Entry) (fired marks : List Mark) → IsOne (all_members waiting fired)
    → ((m : Member) → IsMember m (all_members next marks) → IsMember m (all_members waiting fired))
    → ((m : Member) → IsMember m (all_members waiting fired) → IsMember m (all_members next marks))
    → members_of next marks ≡ members_of waiting fired
same_view waiting next fired marks one f g =
    in_order_is (all_members next marks) (members_of waiting fired) (λ m n h l e. one m n (f m h) (f n l) e) (sorted (all_members waiting fired))
    (λ m h. member_in_order m (all_members waiting fired) one (f m h))
    (λ m h. g m (in_order_member m (all_members waiting fired) h))

-- ---- keys and instantiations

abbrev pub inst_of_key : Key → Inst
inst_of_key k = record { rule = k.rule; tags = k.tags }

pub ranked_inst : (strategy : Strategy) (waiting : List Entry) → AreRanked strategy waiting → (e : Entry) → IsMember e waiting → e.1.inst ≡ inst_of_key e.0.key
ranked_inst strategy waiting r e h =
    ap (λ (k : Rank). inst_of_key k.key) (sym (r e (contains_from_member e waiting h)))

pub keyed_inst : (fired : List Mark) → AreKeyed fired → (d : Mark) → IsMember d fired → d.1 ≡ inst_of_key d.0
keyed_inst fired k d h = ap inst_of_key (sym (k d (contains_from_member d fired h)))

same_held : (h k : Held) → h.inst ≡ k.inst → h.fired ≡ k.fired → h ≡ k
same_held h k e f = λ i. record { inst = e i; fired = f i }

-- of two with one instantiation what stands at their ranks is the same
pub same_by_inst : (strategy : Strategy) (waiting : List Entry) (fired : List Mark) (spare : ℕ) → IsKept strategy waiting fired spare → (d e : Entry) → IsMember d waiting → IsMember e waiting → d.1.inst ≡ e.1.inst → d ≡ e
same_by_inst strategy waiting fired spare k d e h l same =
    let m : held_member d ≡ held_member e = kept_one strategy waiting fired spare k (held_member d) (held_member e) (held_among waiting fired d h) (held_among waiting fired e l) same in
    let r : d.0 ≡ e.0 =
    k.ranked d (contains_from_member d waiting h) ∙ (λ i. rank_with strategy (m i).inst (m i).specificity) ∙ sym (k.ranked e (contains_from_member e waiting l)) in
    λ i. (r i, same_held d.1 e.1 same (ap (λ (w : Member). w.fired) m) i)

pub same_by_key : (strategy : Strategy) (waiting : List Entry) (fired : List Mark) (spare : ℕ) → IsKept strategy waiting fired spare → (d e : Entry) → IsMember d waiting → IsMember e waiting → d.0.key ≡ e.0.key → d ≡ e
same_by_key strategy waiting fired spare k d e h l same =
    same_by_inst strategy waiting fired spare k d e h l
    (ranked_inst strategy waiting k.ranked d h ∙ ap inst_of_key same ∙ sym (ranked_inst strategy waiting k.ranked e l))

-- ---- another strategy

abbrev anew : Strategy → Entry → Entry
anew strategy e = (record { strategy = strategy; key = e.0.key }, e.1)

-- one of the new order is one of the old
was_ranked : (strategy : Strategy) (waiting next : List Entry) → HasSame (ranked_anew strategy waiting) next → (e : Entry) → IsMember e next → (d : Entry) × IsMember d waiting × (e ≡ anew strategy d)
was_ranked strategy waiting next s e h =
    map_member (anew strategy) e waiting (member_from_contains e (ranked_anew strategy waiting) ((s e).0 (contains_from_member e next h)))

is_ranked : (strategy : Strategy) (waiting next : List Entry) → HasSame (ranked_anew strategy waiting) next → (d : Entry) → IsMember d waiting → IsMember (anew strategy d) next
is_ranked strategy waiting next s d h =
    member_from_contains (anew strategy d) next
    ((s (anew strategy d)).1 (contains_from_member (anew strategy d) (ranked_anew strategy waiting) (member-map (anew strategy) d waiting h)))

pub told_anew : (old strategy : Strategy) (waiting : List Entry) (fired : List Mark) (spare : ℕ) → IsKept old waiting fired spare → AreToldApart [] (ranked_anew strategy waiting)
told_anew old strategy waiting fired spare k d e h l same =
    let f = found d h in
    let g = found e l in
    let key : f.0.0.key ≡ g.0.0.key =
    sym (ap (λ (w : Entry). w.0.key) f.2) ∙ ap (λ (w : Rank). w.key) same ∙ ap (λ (w : Entry). w.0.key) g.2 in
    f.2 ∙ ap (anew strategy) (same_by_key old waiting fired spare k f.0 g.0 f.1 g.1 key) ∙ sym g.2
  where
    found : (x : Entry) → Contains [] x ⊎ Contains (ranked_anew strategy waiting) x → (y : Entry) × IsMember y waiting × (x ≡ anew strategy y)
    found x (inl none) = absurd (member_from_contains x [] none)
    found x (inr c) = map_member (anew strategy) x waiting (member_from_contains x (ranked_anew strategy waiting) c)

anew_forward : (strategy : Strategy) (waiting next : List Entry) (fired : List Mark) → HasSame (ranked_anew strategy waiting) next → (m : Member) → IsMember m (all_members next fired) → IsMember m (all_members waiting fired)
anew_forward strategy waiting next fired s m h = elim (all_member next fired m h) [
  | inl e ↦ (
      let f = was_ranked strategy waiting next s e.0 e.1 in
      let P : Member → Type 0 = λ w. IsMember w (all_members waiting fired) in
      subst P (sym (e.2 ∙ ap held_member f.2)) (held_among waiting fired f.0 f.1)
      )
  | inr d ↦ (let P : Member → Type 0 = λ w. IsMember w (all_members waiting fired) in subst P (sym d.2) (fired_among waiting fired d.0 d.1))
]

anew_backward : (strategy : Strategy) (waiting next : List Entry) (fired : List Mark) → HasSame (ranked_anew strategy waiting) next → (m : Member) → IsMember m (all_members waiting fired) → IsMember m (all_members next fired)
anew_backward strategy waiting next fired s m h = elim (all_member waiting fired m h) [
  | inl e ↦ (let P : Member → Type 0 = λ w. IsMember w (all_members next fired) in subst P (sym e.2) (held_among next fired (anew strategy e.0) (is_ranked strategy waiting next s e.0 e.1)))
  | inr d ↦ (let P : Member → Type 0 = λ w. IsMember w (all_members next fired) in subst P (sym d.2) (fired_among next fired d.0 d.1))
]

pub anew_view : (old strategy : Strategy) (waiting next : List Entry) (fired : List Mark) (spare : ℕ) → IsKept old waiting fired spare → HasSame (ranked_anew strategy waiting) next → members_of next fired ≡ members_of waiting fired
anew_view old strategy waiting next fired spare k s =
    same_view waiting next fired fired (kept_one old waiting fired spare k) (anew_forward strategy waiting next fired s) (anew_backward strategy waiting next fired s)

pub anew_kept : (old strategy : Strategy) (waiting next : List Entry) (fired : List Mark) (spare : ℕ) → IsKept old waiting fired spare → HasSame (ranked_anew strategy waiting) next
    → IsStrictlySortedBy compare_ranks (keys_of next) → length next ≤ length waiting → IsKept strategy next fired spare
anew_kept old strategy waiting next fired spare k s o l = record {
  ordered = o;
  unique = k.unique;
  ranked = ranked;
  keyed = k.keyed;
  one = one_kept next fired (λ m n h g e. kept_one old waiting fired spare k m n (anew_forward strategy waiting next fired s m h) (anew_forward strategy waiting next fired s n g) e);
  apart = apart;
  room = omega (arith, k.room, l);
}
  where
    ranked : AreRanked strategy next
    ranked e h =
        let f = was_ranked strategy waiting next s e (member_from_contains e next h) in
        let r : f.0.0.key ≡ key_with f.0.1.inst f.0.0.key.specificity = ap (λ (w : Rank). w.key) (k.ranked f.0 (contains_from_member f.0 waiting f.1)) in
        let P : Entry → Type 0 = λ w. w.0 ≡ rank_with strategy w.1.inst w.0.key.specificity in
        subst P (sym f.2) (λ i. record { strategy = strategy; key = r i })

    apart : (e : Entry) (d : Mark) → Contains next e → Contains fired d → e.1.inst ≢ d.1
    apart e d h g same =
        let f = was_ranked strategy waiting next s e (member_from_contains e next h) in
        k.apart f.0 d (contains_from_member f.0 waiting f.1) g (ap (λ (w : Entry). w.1.inst) (sym f.2) ∙ same)

-- ---- the marks in another order

pub same_from_permutation : {X : Type 0} (xs ys : List X) → IsPermutation xs ys → HasSame xs ys
same_from_permutation xs ys p x = (Contains-permutation ys xs x (IsPermutation-sym xs ys p), Contains-permutation xs ys x p)

moved_member : (waiting next : List Entry) (fired moved : List Mark) → next ≡ waiting → HasSame fired moved → (m : Member) → IsMember m (all_members next moved) → IsMember m (all_members waiting fired)
moved_member waiting next fired moved is s m h = elim (all_member next moved m h) [
  | inl e ↦ (
      let P : Member → Type 0 = λ w. IsMember w (all_members waiting fired) in
      let Q : List Entry → Type 0 = IsMember e.0 in
      subst P (sym e.2) (held_among waiting fired e.0 (subst Q is e.1))
      )
  | inr d ↦ (
      let P : Member → Type 0 = λ w. IsMember w (all_members waiting fired) in
      subst P (sym d.2) (fired_among waiting fired d.0 (member_from_contains d.0 fired ((s d.0).0 (contains_from_member d.0 moved d.1))))
      )
]

other_way : {X : Type 0} (xs ys : List X) → HasSame xs ys → HasSame ys xs
other_way xs ys s x = ((s x).1, (s x).0)

pub moved_view : (strategy : Strategy) (waiting next : List Entry) (fired moved : List Mark) (spare : ℕ) → IsKept strategy waiting fired spare → next ≡ waiting → HasSame fired moved → members_of next moved ≡ members_of waiting fired
moved_view strategy waiting next fired moved spare k is s =
    same_view waiting next fired moved (kept_one strategy waiting fired spare k) (moved_member waiting next fired moved is s)
    (moved_member next waiting moved fired (sym is) (other_way fired moved s))

pub moved_kept : (strategy : Strategy) (waiting next : List Entry) (fired moved : List Mark) (spare room : ℕ) → IsKept strategy waiting fired spare → next ≡ waiting → HasSame fired moved
    → IsDistinct same_keys (keys_of moved) → spare ≤ room → IsKept strategy next moved room
moved_kept strategy waiting next fired moved spare room k is s u l = record {
  ordered = (let P : List Entry → Type 0 = λ es. IsStrictlySortedBy compare_ranks (keys_of es) in subst P (sym is) k.ordered);
  unique = u;
  ranked = (let P : List Entry → Type 0 = AreRanked strategy in subst P (sym is) k.ranked);
  keyed = λ d h. k.keyed d ((s d).0 h);
  one = one_kept next moved (λ m n h g e. kept_one strategy waiting fired spare k m n (moved_member waiting next fired moved is s m h) (moved_member waiting next fired moved is s n g) e);
  apart = λ e d h g same. (let P : List Entry → Type 0 = λ es. Contains es e in k.apart e d (subst P is h) ((s d).0 g) same);
  room = omega (arith, ap length is, k.room, l);
}
