-- What becomes of the members where an instantiation is put among those that wait, or among the marks.
use Rattle.std.proofs.Common.{◌≡◌, ◌≢◌, ℕ, List, [], ◌∷◌, Option, Some, None, length, true, false, refl, ap, sym, ◌∙◌, subst, inl, inr, ◌⊎◌, arith}
use Rattle.std.specs.Prelude.{Contains}
use Rattle.std.specs.BTreeMap as tree
use Rattle.std.specs.BTreeMap.{BTreeMap}
use Rattle.std.specs.HashMap as hash
use Rattle.std.specs.HashMap.{HashMap}
use Rattle.std.specs.List.{IsDistinct}
use Rattle.std.specs.List.Sorted.{IsStrictlySortedBy}
use Rattle.std.specs.Map.{keys_of}
use Rattle.ops_base.specs.declared.commands.Strategy.{Strategy}
use Rattle.ops_base.specs.declared.rules.Inst.{Inst}
use Rattle.ops_base.proofs.Members.{IsMember, member_from_contains, contains_from_member}
use Rattle.resolution.specs.Keys.{Key, same_keys}
use Rattle.conflict_index.specs.Indexed.{Member, key_with}
use Rattle.conflict_index.specs.Keeping.{held_member, fired_member, all_members, rank_with, Gains, IsKept}
use Rattle.conflict_index.specs.Rank.{Rank}
use Rattle.conflict_index.specs.Ranking.{compare_ranks}
use Rattle.conflict_index.specs.declared.rank.Held.{Held}
use Rattle.conflict_index.proofs.Kept.{Entry, Mark, all_member, held_among, fired_among, kept_one, one_kept, inst_of_key, ranked_inst, keyed_inst}
use Rattle.conflict_index.proofs.Lookups.{fired_has, waiting_gains}
use Rattle.conflict_index.proofs.Placing.{IsOne}

abbrev inst_of : Member → Inst
inst_of m = m.inst

-- what a list with one more has is what it had, or that one
one_more : {X : Type 0} (x : X) (old new : List X) → Gains (x ∷ []) old new → (y : X) → IsMember y new → IsMember y old ⊎ (y ≡ x)
one_more x old new gains y h = elim ((gains y).0 (contains_from_member y new h)) [
  | inl o ↦ inl (member_from_contains y old o)
  | inr n ↦ elim (member_from_contains y (x ∷ []) n) [ inl e ↦ inr e | inr none ↦ absurd none ]
]

still_there : {X : Type 0} (x : X) (old new : List X) → Gains (x ∷ []) old new → (y : X) → IsMember y old → IsMember y new
still_there x old new gains y h = member_from_contains y new ((gains y).1 (inl (contains_from_member y old h)))

new_there : {X : Type 0} (x : X) (old new : List X) → Gains (x ∷ []) old new → IsMember x new
new_there x old new gains =
    member_from_contains x new ((gains x).1 (inr (contains_from_member x (x ∷ []) (inl refl))))

gains_one : {X : Type 0} (x : X) (old new : List X) → ((y : X) → IsMember y new → IsMember y old ⊎ (y ≡ x)) → ((y : X) → IsMember y old → IsMember y new) → IsMember x new → Gains (x ∷ []) old new
gains_one {X} x old new cases old_in new_in y = (
  λ h. elim (cases y (member_from_contains y new h)) [
    | inl o ↦ inl (contains_from_member y old o)
    | inr e ↦ inr (contains_from_member y (x ∷ []) (inl e))
  ],
  λ h. elim h [
    | inl o ↦ contains_from_member y new (old_in y (member_from_contains y old o))
    | inr n ↦ elim (member_from_contains y (x ∷ []) n) [
      | inl e ↦ (let P : X → Type 0 = Contains new in subst P (sym e) (contains_from_member x new new_in))
      | inr none ↦ absurd none
    ]
  ],
)

module _ (strategy : Strategy) (waiting : List Entry) (fired : List Mark) (n : ℕ) (k : IsKept strategy waiting fired n) (rank : Rank) (inst : Inst) (is : rank ≡ rank_with strategy inst rank.key.specificity)
    (apart : (m : Member) → Contains (all_members waiting fired) m → m.inst ≢ inst) where
  not_there : (m : Member) → IsMember m (all_members waiting fired) → m.inst ≢ inst
  not_there m h = apart m (contains_from_member m (all_members waiting fired) h)

  of_rank : inst_of_key rank.key ≡ inst
  of_rank = ap (λ (r : Rank). inst_of_key r.key) is

  -- no entry has this rank, and no mark has its key
  pub no_entry : (e : Entry) → IsMember e waiting → e.0.key ≢ rank.key
  no_entry e h same =
      not_there (held_member e) (held_among waiting fired e h)
      (ranked_inst strategy waiting k.ranked e h ∙ ap inst_of_key same ∙ of_rank)

  no_mark : (d : Mark) → IsMember d fired → d.0 ≢ rank.key
  no_mark d h same =
      not_there (fired_member d) (fired_among waiting fired d h)
      (keyed_inst fired k.keyed d h ∙ ap inst_of_key same ∙ of_rank)

  all_one : (ms : List Member) (m : Member) → m.inst ≡ inst → ((y : Member) → IsMember y ms → IsMember y (all_members waiting fired) ⊎ (y ≡ m)) → IsOne ms
  all_one ms m of cases x y h l e = elim (cases x h) [
    | inl a ↦ elim (cases y l) [
      | inl b ↦ kept_one strategy waiting fired n k x y a b e
      | inr b ↦ absurd (not_there x a (e ∙ ap inst_of b ∙ of))
    ]
    | inr a ↦ elim (cases y l) [
      | inl b ↦ absurd (not_there y b (sym e ∙ ap inst_of a ∙ of))
      | inr b ↦ a ∙ sym b
    ]
  ]

  -- ---- among those that wait

  pub waits : (m next : BTreeMap Rank Held) → m.entries ≡ waiting → tree.IsOrdered compare_ranks m → tree.IsOrdered compare_ranks next → tree.Updates compare_ranks m next rank (Some (record { inst = inst; fired = false }))
      → Gains ((rank, record { inst = inst; fired = false }) ∷ []) m.entries next.entries
  waits m next are o p u =
      waiting_gains m next rank (record { inst = inst; fired = false }) o p u
      (λ e h same.
      let P : List Entry → Type 0 = λ es. Contains es e in
      absurd (no_entry e (member_from_contains e waiting (subst P are h)) (ap (λ (r : Rank). r.key) (sym same))))

  module _ (next : List Entry) (gains : Gains ((rank, record { inst = inst; fired = false }) ∷ []) waiting next) where
    abbrev New : Entry
    New = (rank, record { inst = inst; fired = false })

    waits_cases : (m : Member) → IsMember m (all_members next fired) → IsMember m (all_members waiting fired) ⊎ (m ≡ held_member New)
    waits_cases m h =
        let P : Member → Type 0 = λ w. IsMember w (all_members waiting fired) in
        elim (all_member next fired m h) [
          | inl e ↦ elim (one_more New waiting next gains e.0 e.1) [
            | inl o ↦ inl (subst P (sym e.2) (held_among waiting fired e.0 o))
            | inr s ↦ inr (e.2 ∙ ap held_member s)
          ]
          | inr d ↦ inl (subst P (sym d.2) (fired_among waiting fired d.0 d.1))
        ]

    waits_old : (m : Member) → IsMember m (all_members waiting fired) → IsMember m (all_members next fired)
    waits_old m h =
        let P : Member → Type 0 = λ w. IsMember w (all_members next fired) in
        elim (all_member waiting fired m h) [
          | inl e ↦ subst P (sym e.2) (held_among next fired e.0 (still_there New waiting next gains e.0 e.1))
          | inr d ↦ subst P (sym d.2) (fired_among next fired d.0 d.1)
        ]

    pub waits_gains : Gains (record { inst = inst; specificity = rank.key.specificity; fired = false } ∷ []) (all_members waiting fired) (all_members next fired)
    waits_gains =
        gains_one (held_member New) (all_members waiting fired) (all_members next fired) waits_cases waits_old
        (held_among next fired New (new_there New waiting next gains))

    pub waits_kept : IsStrictlySortedBy compare_ranks (keys_of next) → IsKept strategy next fired (length next)
    waits_kept o = record {
      ordered = o;
      unique = k.unique;
      ranked = λ e h. elim (one_more New waiting next gains e (member_from_contains e next h)) [
        | inl old ↦ k.ranked e (contains_from_member e waiting old)
        | inr new ↦ (let P : Entry → Type 0 = λ w. w.0 ≡ rank_with strategy w.1.inst w.0.key.specificity in subst P (sym new) is)
      ];
      keyed = k.keyed;
      one = one_kept next fired (all_one (all_members next fired) (held_member New) refl waits_cases);
      apart = λ e d h g same. elim (one_more New waiting next gains e (member_from_contains e next h)) [
        | inl old ↦ k.apart e d (contains_from_member e waiting old) g same
        | inr new ↦ not_there (fired_member d) (fired_among waiting fired d (member_from_contains d fired g)) (sym same ∙ ap (λ (w : Entry). w.1.inst) new)
      ];
      room = omega arith;
    }

  -- ---- among the marks

  -- no mark is on its key
  pub unmarked : {S : Type 0} (m : HashMap Key Inst S) → m.entries ≡ fired → hash.IsUnique same_keys m → hash.get same_keys m rank.key ≡ None
  unmarked m are u = by_answer (hash.get same_keys m rank.key) refl
    where
      by_answer : (o : Option Inst) → hash.get same_keys m rank.key ≡ o → o ≡ None
      by_answer None e = refl
      by_answer (Some v) e =
          let d : Mark = (rank.key, v) in
          let P : List Mark → Type 0 = λ ds. Contains ds d in
          absurd (no_mark d (member_from_contains d fired (subst P are ((fired_has m u rank.key v).0 e))) refl)

  module _ (marks : List Mark) (gains : Gains ((rank.key, inst) ∷ []) fired marks) where
    abbrev NewMark : Mark
    NewMark = (rank.key, inst)

    marked_cases : (m : Member) → IsMember m (all_members waiting marks) → IsMember m (all_members waiting fired) ⊎ (m ≡ fired_member NewMark)
    marked_cases m h =
        let P : Member → Type 0 = λ w. IsMember w (all_members waiting fired) in
        elim (all_member waiting marks m h) [
          | inl e ↦ inl (subst P (sym e.2) (held_among waiting fired e.0 e.1))
          | inr d ↦ elim (one_more NewMark fired marks gains d.0 d.1) [
            | inl o ↦ inl (subst P (sym d.2) (fired_among waiting fired d.0 o))
            | inr s ↦ inr (d.2 ∙ ap fired_member s)
          ]
        ]

    marked_old : (m : Member) → IsMember m (all_members waiting fired) → IsMember m (all_members waiting marks)
    marked_old m h =
        let P : Member → Type 0 = λ w. IsMember w (all_members waiting marks) in
        elim (all_member waiting fired m h) [
          | inl e ↦ subst P (sym e.2) (held_among waiting marks e.0 e.1)
          | inr d ↦ subst P (sym d.2) (fired_among waiting marks d.0 (still_there NewMark fired marks gains d.0 d.1))
        ]

    pub marked_gains : Gains (record { inst = inst; specificity = rank.key.specificity; fired = true } ∷ []) (all_members waiting fired) (all_members waiting marks)
    marked_gains =
        gains_one (fired_member NewMark) (all_members waiting fired) (all_members waiting marks) marked_cases marked_old
        (fired_among waiting marks NewMark (new_there NewMark fired marks gains))

    pub now_kept : IsDistinct same_keys (keys_of marks) → IsKept strategy waiting marks (length waiting)
    now_kept u = record {
      ordered = k.ordered;
      unique = u;
      ranked = k.ranked;
      keyed = λ d h. elim (one_more NewMark fired marks gains d (member_from_contains d marks h)) [
        | inl old ↦ k.keyed d (contains_from_member d fired old)
        | inr new ↦ (
            let P : Mark → Type 0 = λ w. w.0 ≡ key_with w.1 w.0.specificity in
            subst P (sym new) (ap (λ (r : Rank). r.key) is)
            )
      ];
      one = one_kept waiting marks (all_one (all_members waiting marks) (fired_member NewMark) refl marked_cases);
      apart = λ e d h g same. elim (one_more NewMark fired marks gains d (member_from_contains d marks g)) [
        | inl old ↦ k.apart e d h (contains_from_member d fired old) same
        | inr new ↦ not_there (held_member e) (held_among waiting fired e (member_from_contains e waiting h)) (same ∙ ap (λ (w : Mark). w.1) new)
      ];
      room = omega arith;
    }
