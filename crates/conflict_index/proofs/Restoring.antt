-- What is added in part and taken back leaves what was there.
use Rattle.std.proofs.Common.{◌≡◌, List, Bool, true, false, not, ap, sym, ◌∙◌, subst, ◌⊎◌, inl, inr}
use Rattle.std.specs.Prelude.{Contains, filter}
use Rattle.std.specs.Bool.{Decides}
use Rattle.std.specs.declared.cmp.Ordering.TheVariants.{Less, Greater}
use Rattle.std.specs.List.Sorted.{IsStrictlySortedBy}
use Rattle.std.specs.Map.{keys_of}
use Rattle.std.specs.Ordering.{ordering_reverse}
use Rattle.std.proofs.lemmas.Bool.{false≢true}
use Rattle.ops_base.specs.declared.rules.Inst.{Inst}
use Rattle.ops_base.specs.Refraction.{is_among}
use Rattle.ops_base.proofs.Filtered.{filter_member, member-filter}
use Rattle.ops_base.proofs.Members.{IsMember, member_from_contains, contains_from_member}
use Rattle.ops_base.proofs.RefractionLaws.{is_among-Decides}
use Rattle.conflict_index.specs.declared.rank.Held.{Held}
use Rattle.conflict_index.specs.Rank.{Rank}
use Rattle.conflict_index.specs.Ranking.{compare_ranks, compare_ranks_total}
use Rattle.conflict_index.proofs.Sorted.{same_in_order, entries_before}

abbrev pub EntryBefore : Rank × Held → Rank × Held → Type 0
EntryBefore d e = compare_ranks d.0 e.0 ≡ Less

pub entries_apart : (d e : Rank × Held) → EntryBefore d e → EntryBefore e d → ⊥
entries_apart d e a b =
    let g : compare_ranks d.0 e.0 ≡ Greater = compare_ranks_total.antisymm d.0 e.0 ∙ ap ordering_reverse b in cc

pub same_entries : (old new : List (Rank × Held)) → IsStrictlySortedBy compare_ranks (keys_of old) → IsStrictlySortedBy compare_ranks (keys_of new)
    → ((e : Rank × Held) → IsMember e new → IsMember e old) → ((e : Rank × Held) → IsMember e old → IsMember e new) → new ≡ old
same_entries old new o p f g =
    same_in_order EntryBefore entries_apart new old (entries_before compare_ranks new p) (entries_before compare_ranks old o) f g

not_false : (b : Bool) → not b ≡ true → b ≡ false
not_false true e = cc
not_false false e = λ i. false

pub decided_false : (b : Bool) (P : Type 0) → Decides b P → (P → ⊥) → b ≡ false
decided_false true P d h = absurd (h (d.0 (λ i. true)))
decided_false false P d h = λ i. false

pub restored : (insts : List Inst) (old added mid new : List (Rank × Held)) → new ≡ filter (λ (e : Rank × Held). not (is_among insts e.1.inst)) mid
    → ((e : Rank × Held) → Contains old e → Contains mid e) → ((e : Rank × Held) → Contains mid e → Contains old e ⊎ Contains added e)
    → ((e : Rank × Held) → Contains old e → ¬ Contains insts e.1.inst) → ((e : Rank × Held) → Contains added e → Contains insts e.1.inst)
    → IsStrictlySortedBy compare_ranks (keys_of old) → IsStrictlySortedBy compare_ranks (keys_of new) → new ≡ old
restored insts old added mid new is kept other apart among o p = same_entries old new o p forward backward
  where
    forward : (e : Rank × Held) → IsMember e new → IsMember e old
    forward e h =
        let P : List (Rank × Held) → Type 0 = IsMember e in
        let f = filter_member (λ (e : Rank × Held). not (is_among insts e.1.inst)) e mid (subst P is h) in
        elim (other e (contains_from_member e mid f.0)) [
          | inl c ↦ member_from_contains e old c
          | inr c ↦ absurd (false≢true (sym (not_false (is_among insts e.1.inst) f.1) ∙ (is_among-Decides insts e.1.inst).1 (among e c)))
        ]

    backward : (e : Rank × Held) → IsMember e old → IsMember e new
    backward e h =
        let P : List (Rank × Held) → Type 0 = IsMember e in
        let c = contains_from_member e old h in
        subst P (sym is)
        (member-filter (λ (e : Rank × Held). not (is_among insts e.1.inst)) e mid (member_from_contains e mid (kept e c))
        (ap not (decided_false (is_among insts e.1.inst) (Contains insts e.1.inst) (is_among-Decides insts e.1.inst) (apart e c))))
