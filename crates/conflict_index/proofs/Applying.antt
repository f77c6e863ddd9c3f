-- What becomes of the members where some ranks leave the two maps of an index and others come.
use Rattle.std.proofs.Common.{◌≡◌, ◌≢◌, ℕ, ◌≤◌, List, map, length, refl, ap, sym, ◌∙◌, subst, inl, inr, ◌⊎◌}
use Rattle.std.specs.Prelude.{Contains}
use Rattle.std.specs.List.{IsDistinct}
use Rattle.std.specs.List.Sorted.{IsStrictlySortedBy}
use Rattle.std.specs.Map.{keys_of}
use Rattle.std.proofs.lemmas.List.Elements.{All-contains}
use Rattle.ops_base.specs.declared.commands.Strategy.{Strategy}
use Rattle.ops_base.specs.declared.rules.Inst.{Inst}
use Rattle.ops_base.specs.declared.rules.Rule.{Rule}
use Rattle.ops_base.specs.Dominance.{specificity_of}
use Rattle.ops_base.proofs.Members.{IsMember, member_from_contains, contains_from_member, member-map, map_member, all_from_members}
use Rattle.resolution.specs.Keys.{Key, same_keys}
use Rattle.conflict_index.specs.Rank.{Rank}
use Rattle.conflict_index.specs.Indexed.{Member, Indexed, insts_of, key_with, KeepsSpecificities}
use Rattle.conflict_index.specs.Applying.{newcomer, Stays, Comes, IsApplied, IsPart, IsApart}
use Rattle.conflict_index.specs.Ranking.{compare_ranks}
use Rattle.conflict_index.specs.Keeping.{held_member, fired_member, all_members, members_of, rank_with, rank_in, arrival, AreToldApart, IsKept, HasSame, Gains, Loses}
use Rattle.conflict_index.proofs.Members.{insts_in_order}
use Rattle.conflict_index.proofs.Placing.{IsOne, sorted, in_order_member, member_in_order}
use Rattle.conflict_index.proofs.Kept.{Entry, Mark, all_member, held_among, fired_among, kept_one, one_kept, inst_of_key, ranked_inst, same_by_key}

abbrev inst_of : Member → Inst
inst_of m = m.inst

abbrev key_of : Rank → Key
key_of r = r.key

-- what is known where some go and some come
pub record CanApply (strategy : Strategy) (rules : List Rule) (gone come : List Inst) (waiting : List Entry) (fired : List Mark) (spare : ℕ) : Type 0 where
  pub kept : IsKept strategy waiting fired spare
  pub part : IsPart gone (insts_of (members_of waiting fired))
  pub apart : IsApart come (insts_of (members_of waiting fired))
  pub specificities : KeepsSpecificities rules (members_of waiting fired)

-- what was done to the two maps
pub record IsChanged (strategy : Strategy) (rules : List Rule) (gone come : List Inst) (waiting more left : List Entry) (fired moved rest : List Mark) : Type 0 where
  pub gains : Gains (map (arrival strategy rules) come) waiting more
  pub loses : Loses (map (rank_in strategy rules) gone) more left
  pub same : HasSame fired moved
  pub loses_marks : Loses (map key_of (map (rank_in strategy rules) gone)) moved rest

module _ (strategy : Strategy) (rules : List Rule) (gone come : List Inst) (waiting : List Entry) (fired : List Mark) (spare : ℕ) (can : CanApply strategy rules gone come waiting fired spare) where
  here : (m : Member) → IsMember m (all_members waiting fired) → IsMember m (members_of waiting fired)
  here m h = member_in_order m (all_members waiting fired) (kept_one strategy waiting fired spare can.kept) h

  known : (m : Member) → IsMember m (all_members waiting fired) → Contains (insts_of (members_of waiting fired)) m.inst
  known m h =
      contains_from_member m.inst (insts_of (members_of waiting fired)) (member-map inst_of m (members_of waiting fired) (here m h))

  specific : (m : Member) → IsMember m (all_members waiting fired) → m.specificity ≡ specificity_of rules m.inst.rule
  specific m h =
      All-contains (λ (w : Member). w.specificity ≡ specificity_of rules w.inst.rule) (members_of waiting fired) m can.specificities
      (contains_from_member m (members_of waiting fired) (here m h))

  -- none that comes is there
  absent : (m : Member) (i : Inst) → IsMember m (all_members waiting fired) → Contains come i → m.inst ≡ i → ⊥
  absent m i h c e =
      let P : Inst → Type 0 = λ j. Contains (insts_of (members_of waiting fired)) j in
      All-contains (λ (j : Inst). ¬ Contains (insts_of (members_of waiting fired)) j) come i can.apart c (subst P e (known m h))

  -- each that goes is there
  not_come : (i : Inst) → Contains gone i → Contains come i → ⊥
  not_come i g c =
      All-contains (λ (j : Inst). ¬ Contains (insts_of (members_of waiting fired)) j) come i can.apart c
      (All-contains (Contains (insts_of (members_of waiting fired))) gone i can.part g)

  rank_is : (e : Entry) → IsMember e waiting → e.0 ≡ rank_in strategy rules e.1.inst
  rank_is e h =
      can.kept.ranked e (contains_from_member e waiting h)
      ∙ ap (λ (n : ℕ). rank_with strategy e.1.inst n) (specific (held_member e) (held_among waiting fired e h))

  key_is : (d : Mark) → IsMember d fired → d.0 ≡ (rank_in strategy rules d.1).key
  key_is d h =
      can.kept.keyed d (contains_from_member d fired h)
      ∙ ap (λ (n : ℕ). key_with d.1 n) (specific (fired_member d) (fired_among waiting fired d h))

  abbrev Ranks : List Rank
  Ranks = map (rank_in strategy rules) gone

  rank_gone : (e : Entry) → e.0 ≡ rank_in strategy rules e.1.inst → Contains Ranks e.0 → Contains gone e.1.inst
  rank_gone e r h =
      let f = map_member (rank_in strategy rules) e.0 gone (member_from_contains e.0 Ranks h) in
      let same : f.0 ≡ e.1.inst = ap (λ (w : Rank). inst_of_key w.key) (sym f.2 ∙ r) in
      subst (Contains gone) same (contains_from_member f.0 gone f.1)

  gone_rank : (e : Entry) → e.0 ≡ rank_in strategy rules e.1.inst → Contains gone e.1.inst → Contains Ranks e.0
  gone_rank e r h =
      subst (Contains Ranks) (sym r)
      (contains_from_member (rank_in strategy rules e.1.inst) Ranks (member-map (rank_in strategy rules) e.1.inst gone (member_from_contains e.1.inst gone h)))

  key_gone : (d : Mark) → d.0 ≡ (rank_in strategy rules d.1).key → Contains (map key_of Ranks) d.0 → Contains gone d.1
  key_gone d r h =
      let f = map_member key_of d.0 Ranks (member_from_contains d.0 (map key_of Ranks) h) in
      let g = map_member (rank_in strategy rules) f.0 gone f.1 in
      let same : g.0 ≡ d.1 = ap inst_of_key (sym (f.2 ∙ ap key_of g.2) ∙ r) in
      subst (Contains gone) same (contains_from_member g.0 gone g.1)

  gone_key : (d : Mark) → d.0 ≡ (rank_in strategy rules d.1).key → Contains gone d.1 → Contains (map key_of Ranks) d.0
  gone_key d r h =
      subst (Contains (map key_of Ranks)) (sym r)
      (contains_from_member (rank_in strategy rules d.1).key (map key_of Ranks)
      (member-map key_of (rank_in strategy rules d.1) Ranks (member-map (rank_in strategy rules) d.1 gone (member_from_contains d.1 gone h))))

  -- ---- what `add` asks

  came : (e : Entry) → Contains (map (arrival strategy rules) come) e → (i : Inst) × Contains come i × (e ≡ arrival strategy rules i)
  came e h =
      let f = map_member (arrival strategy rules) e come (member_from_contains e (map (arrival strategy rules) come) h) in
      (f.0, contains_from_member f.0 come f.1, f.2)

  pub come_apart : (e : Entry) → Contains waiting e → ¬ Contains come e.1.inst
  come_apart e h c = absent (held_member e) e.1.inst (held_among waiting fired e (member_from_contains e waiting h)) c refl

  pub come_among : (e : Entry) → Contains (map (arrival strategy rules) come) e → Contains come e.1.inst
  come_among e h = let f = came e h in subst (Contains come) (sym (ap (λ (w : Entry). w.1.inst) f.2)) f.1

  old_not_new : (e d : Entry) → Contains waiting e → Contains (map (arrival strategy rules) come) d → e.0 ≡ d.0 → ⊥
  old_not_new e d h g same =
      let f = came d g in
      let m = member_from_contains e waiting h in
      let i : e.1.inst ≡ f.0 = ranked_inst strategy waiting can.kept.ranked e m ∙ ap (λ (w : Rank). inst_of_key w.key) (same ∙ ap (λ (w : Entry). w.0) f.2) in
      absent (held_member e) f.0 (held_among waiting fired e m) f.1 i

  pub told_apart : AreToldApart waiting (map (arrival strategy rules) come)
  told_apart d e (inl h) (inl g) same =
      same_by_key strategy waiting fired spare can.kept d e (member_from_contains d waiting h) (member_from_contains e waiting g) (ap key_of same)
  told_apart d e (inl h) (inr g) same = absurd (old_not_new d e h g same)
  told_apart d e (inr h) (inl g) same = absurd (old_not_new e d g h (sym same))
  told_apart d e (inr h) (inr g) same =
      let f = came d h in
      let l = came e g in
      let i : f.0 ≡ l.0 = ap (λ (w : Rank). inst_of_key w.key) (sym (ap (λ (w : Entry). w.0) f.2) ∙ same ∙ ap (λ (w : Entry). w.0) l.2) in
      f.2 ∙ ap (arrival strategy rules) i ∙ sym l.2

  -- one that waits and one that has fired have two keys, also once others came
  pub keys_apart : (more : List Entry) (moved : List Mark) → Gains (map (arrival strategy rules) come) waiting more → HasSame fired moved
      → (e : Entry) (d : Mark) → Contains more e → Contains moved d → e.0.key ≢ d.0
  keys_apart more moved gains same e d h g keys = elim ((gains e).0 h) [
    | inl o ↦
        let m = member_from_contains e waiting o in
        can.kept.apart e d o fired_there (ranked_inst strategy waiting can.kept.ranked e m ∙ by_key)
    | inr n ↦
        let f = came e n in
        absent (fired_member d) f.0 (fired_among waiting fired d mark) f.1 (sym (ap (λ (w : Entry). inst_of_key w.0.key) (sym f.2) ∙ by_key))
  ]
    where
      fired_there : Contains fired d
      fired_there = (same d).0 g

      mark : IsMember d fired
      mark = member_from_contains d fired fired_there

      by_key : inst_of_key e.0.key ≡ d.1
      by_key = ap inst_of_key (keys ∙ key_is d mark)

  -- ---- what is left

  module _ (more left : List Entry) (moved rest : List Mark) (ch : IsChanged strategy rules gone come waiting more left fired moved rest) where
    left_entry : (e : Entry) → IsMember e left → (IsMember e waiting ⊎ ((i : Inst) × Contains come i × (e ≡ arrival strategy rules i))) × ¬ Contains Ranks e.0
    left_entry e h =
        let l = (ch.loses e).0 (contains_from_member e left h) in
        (elim ((ch.gains e).0 l.0) [ inl o ↦ inl (member_from_contains e waiting o) | inr n ↦ inr (came e n) ], l.1)

    left_mark : (d : Mark) → IsMember d rest → IsMember d fired × ¬ Contains (map key_of Ranks) d.0
    left_mark d h =
        let l = (ch.loses_marks d).0 (contains_from_member d rest h) in
        (member_from_contains d fired ((ch.same d).0 l.0), l.1)

    left_rank : (e : Entry) → IsMember e left → e.0 ≡ rank_in strategy rules e.1.inst
    left_rank e h = elim (left_entry e h).0 [
      | inl o ↦ rank_is e o
      | inr n ↦ (let P : Entry → Type 0 = λ w. w.0 ≡ rank_in strategy rules w.1.inst in subst P (sym n.2) refl)
    ]

    -- a member that is left was there or comes
    left_member : (m : Member) → IsMember m (all_members left rest) → (IsMember m (all_members waiting fired) ⊎ Comes rules come m) × ¬ Contains gone m.inst
    left_member m h = elim (all_member left rest m h) [
      | inl e ↦ (
          let f = left_entry e.0 e.1 in
          let stays : ¬ Contains gone m.inst = λ g. f.1 (gone_rank e.0 (left_rank e.0 e.1) (subst (Contains gone) (ap inst_of e.2) g)) in
          let P : Member → Type 0 = λ w. IsMember w (all_members waiting fired) in (
            elim f.0 [
              | inl o ↦ inl (subst P (sym e.2) (held_among waiting fired e.0 o))
              | inr n ↦ inr (n.0, n.1, e.2 ∙ ap held_member n.2)
            ],
            stays,
          )
          )
      | inr d ↦ (
          let f = left_mark d.0 d.1 in
          let P : Member → Type 0 = λ w. IsMember w (all_members waiting fired) in
          (inl (subst P (sym d.2) (fired_among waiting fired d.0 f.0)), λ g. f.1 (gone_key d.0 (key_is d.0 f.0) (subst (Contains gone) (ap inst_of d.2) g)))
          )
    ]

    member_left_there : (m : Member) → IsMember m (all_members waiting fired) → ¬ Contains gone m.inst → IsMember m (all_members left rest)
    member_left_there m h stays = elim (all_member waiting fired m h) [
      | inl e ↦ (
          let P : Member → Type 0 = λ w. IsMember w (all_members left rest) in
          let c = (ch.gains e.0).1 (inl (contains_from_member e.0 waiting e.1)) in
          let n : ¬ Contains Ranks e.0.0 = λ r. stays (subst (Contains gone) (sym (ap inst_of e.2)) (rank_gone e.0 (rank_is e.0 e.1) r)) in
          subst P (sym e.2) (held_among left rest e.0 (member_from_contains e.0 left ((ch.loses e.0).1 (c, n))))
          )
      | inr d ↦ (
          let P : Member → Type 0 = λ w. IsMember w (all_members left rest) in
          let c = (ch.same d.0).1 (contains_from_member d.0 fired d.1) in
          let n : ¬ Contains (map key_of Ranks) d.0.0 = λ r. stays (subst (Contains gone) (sym (ap inst_of d.2)) (key_gone d.0 (key_is d.0 d.1) r)) in
          subst P (sym d.2) (fired_among left rest d.0 (member_from_contains d.0 rest ((ch.loses_marks d.0).1 (c, n))))
          )
    ]

    member_comes : (m : Member) → Comes rules come m → IsMember m (all_members left rest)
    member_comes m s =
        let e = arrival strategy rules s.0 in
        let P : Member → Type 0 = λ w. IsMember w (all_members left rest) in
        let c = (ch.gains e).1 (inr (contains_from_member e (map (arrival strategy rules) come) (member-map (arrival strategy rules) s.0 come (member_from_contains s.0 come s.1)))) in
        subst P (sym s.2)
        (held_among left rest e (member_from_contains e left ((ch.loses e).1 (c, λ r. not_come s.0 (rank_gone e refl r) s.1))))

    left_one : IsOne (all_members left rest)
    left_one m n h g e = elim (left_member m h).0 [
      | inl a ↦ elim (left_member n g).0 [
        | inl b ↦ kept_one strategy waiting fired spare can.kept m n a b e
        | inr b ↦ absurd (absent m b.0 a b.1 (e ∙ ap inst_of b.2))
      ]
      | inr a ↦ elim (left_member n g).0 [
        | inl b ↦ absurd (absent n a.0 b a.1 (sym e ∙ ap inst_of a.2))
        | inr b ↦ a.2 ∙ ap (newcomer rules) (sym (ap inst_of a.2) ∙ e ∙ ap inst_of b.2) ∙ sym b.2
      ]
    ]

    pub changed_kept : (room : ℕ) → IsStrictlySortedBy compare_ranks (keys_of left) → IsDistinct same_keys (keys_of rest) → length left ≤ room → IsKept strategy left rest room
    changed_kept room o u l = record {
      ordered = o;
      unique = u;
      ranked = λ e h. ranked e (member_from_contains e left h);
      keyed = λ d h. can.kept.keyed d (contains_from_member d fired (left_mark d (member_from_contains d rest h)).0);
      one = one_kept left rest left_one;
      apart = λ e d h g same. apart e d (left_entry e (member_from_contains e left h)).0 (left_mark d (member_from_contains d rest g)).0 same;
      room = l;
    }
      where
        ranked : (e : Entry) → IsMember e left → e.0 ≡ rank_with strategy e.1.inst e.0.key.specificity
        ranked e h =
            let r = left_rank e h in
            r ∙ ap (λ (n : ℕ). rank_with strategy e.1.inst n) (ap (λ (w : Rank). w.key.specificity) (sym r))

        apart : (e : Entry) (d : Mark) → IsMember e waiting ⊎ ((i : Inst) × Contains come i × (e ≡ arrival strategy rules i)) → IsMember d fired → e.1.inst ≢ d.1
        apart e d (inl h) g same = can.kept.apart e d (contains_from_member e waiting h) (contains_from_member d fired g) same
        apart e d (inr n) g same =
            absent (fired_member d) n.0 (fired_among waiting fired d g) n.1 (sym same ∙ ap (λ (w : Entry). w.1.inst) n.2)

    pub changed_is : IsApplied rules gone come (record { strategy = strategy; members = members_of waiting fired }) (record { strategy = strategy; members = members_of left rest })
    changed_is = record {
      strategy = refl;
      in_order = insts_in_order (members_of left rest) (sorted (all_members left rest));
      members = λ m. (forward m, backward m);
    }
      where
        forward : (m : Member) → Contains (members_of left rest) m → Stays gone (members_of waiting fired) m ⊎ Comes rules come m
        forward m h =
            let f = left_member m (in_order_member m (all_members left rest) (member_from_contains m (members_of left rest) h)) in
            elim f.0 [
              | inl a ↦ inl (contains_from_member m (members_of waiting fired) (here m a), f.1)
              | inr b ↦ inr b
            ]

        backward : (m : Member) → Stays gone (members_of waiting fired) m ⊎ Comes rules come m → Contains (members_of left rest) m
        backward m h =
            contains_from_member m (members_of left rest) (member_in_order m (all_members left rest) left_one (elim h [
              | inl s ↦ member_left_there m (in_order_member m (all_members waiting fired) (member_from_contains m (members_of waiting fired) s.0)) s.1
              | inr s ↦ member_comes m s
            ]))

    pub changed_keeps : KeepsSpecificities rules (members_of left rest)
    changed_keeps =
        all_from_members (λ (m : Member). m.specificity ≡ specificity_of rules m.inst.rule) (members_of left rest)
        (λ m h. elim (left_member m (in_order_member m (all_members left rest) h)).0 [
          | inl a ↦ specific m a
          | inr b ↦ (let P : Member → Type 0 = λ w. w.specificity ≡ specificity_of rules w.inst.rule in subst P (sym b.2) refl)
        ])

pub can_apply : (strategy : Strategy) (rules : List Rule) (gone come : List Inst) (waiting : List Entry) (fired : List Mark) (spare : ℕ) (now : Indexed)
    → record { strategy = strategy; members = members_of waiting fired } ≡ now → IsKept strategy waiting fired spare
    → IsPart gone (insts_of now.members) → IsApart come (insts_of now.members) → KeepsSpecificities rules now.members → CanApply strategy rules gone come waiting fired spare
can_apply strategy rules gone come waiting fired spare now e kept part apart specificities =
    let P : Indexed → Type 0 = λ v. IsPart gone (insts_of v.members) in
    let Q : Indexed → Type 0 = λ v. IsApart come (insts_of v.members) in
    let R : Indexed → Type 0 = λ v. KeepsSpecificities rules v.members in
    record {
      kept = kept;
      part = subst P (sym e) part;
      apart = subst Q (sym e) apart;
      specificities = subst R (sym e) specificities;
    }
