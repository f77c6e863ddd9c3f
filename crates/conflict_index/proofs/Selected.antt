-- A member that none outranks is the one that fires.
use Rattle.std.proofs.Common.{◌≡◌, ◌≢◌, ◌≤◌, Bor, Option, None, slice_get, List, [], ◌∷◌, length, Bool, true, false, cond, not, Some, refl, sym, ◌∙◌, subst, inl, inr, arith}
use Rattle.std.specs.Prelude.{IsTrue, Contains, filter}
use Rattle.std.specs.Option.{MatchOption, option_copied}
use Rattle.std.proofs.lemmas.List.Elements.{All-contains}
use Rattle.ops_base.specs.declared.commands.Strategy.{Strategy}
use Rattle.ops_base.specs.declared.rules.Inst.{Inst}
use Rattle.ops_base.specs.declared.rules.Rule.{Rule}
use Rattle.ops_base.specs.Dominance.{dominates, specificity_of}
use Rattle.ops_base.specs.Refraction.{dominant}
use Rattle.ops_base.proofs.DominanceLaws.{dominant_only}
use Rattle.ops_base.proofs.Members.{IsMember, member_from_contains, contains_from_member, member-map, map_member}
use Rattle.ops_base.proofs.Filtered.{filter_member, all_before-filter}
use Rattle.conflict_index.specs.Indexed.{Member, insts_of, waiting, outranks, KeepsSpecificities}
use Rattle.conflict_index.specs.Selecting.{IsFirst, IsAt}
use Rattle.conflict_index.proofs.Members.{MemberBefore, InOrder, one_member}
use Rattle.conflict_index.proofs.Ranks.{other_outranks, outranks-dominates}

-- it is one of these, and none of them outranks it
pub record IsUnsurpassed (strategy : Strategy) (members : List Member) (m : Member) : Type 0 where
  pub member : IsMember m members
  pub none : (n : Member) → IsMember n members → outranks strategy n m ≡ false

abbrev waits : Member → Bool
waits m = not m.fired

pub is_first : (strategy : Strategy) (members : List Member) (b : Member) → InOrder members → IsUnsurpassed strategy (waiting members) b → IsFirst strategy members b.inst
is_first strategy members b order u = record {
  member = (b, contains_from_member b (waiting members) u.member, refl);
  above = above;
}
  where
    above : (m n : Member) → Contains (waiting members) m → m.inst ≡ b.inst → Contains (waiting members) n → n.inst ≢ b.inst → IsTrue (outranks strategy m n)
    above m n h e k differ =
        let same : m ≡ b = one_member (waiting members) m b (all_before-filter MemberBefore waits members order) (member_from_contains m (waiting members) h) u.member e in
        let P : Member → Type 0 = λ w. outranks strategy w n ≡ true in
        subst P (sym same) (other_outranks strategy n b (u.none n (member_from_contains n (waiting members) k)) differ)

-- where specificities are kept, the one that none outranks is the dominant one
pub is_dominant : (strategy : Strategy) (rules : List Rule) (members : List Member) (b : Member) → KeepsSpecificities rules members → IsUnsurpassed strategy (waiting members) b
    → dominant strategy rules (insts_of (waiting members)) ≡ Some b.inst
is_dominant strategy rules members b kept u =
    dominant_only strategy rules (insts_of (waiting members)) b.inst (record { member = member; above = above })
  where
    member : Contains (insts_of (waiting members)) b.inst
    member =
        contains_from_member b.inst (insts_of (waiting members)) (member-map (λ (m : Member). m.inst) b (waiting members) u.member)

    keeps : (m : Member) → IsMember m (waiting members) → m.specificity ≡ specificity_of rules m.inst.rule
    keeps m h =
        let P : Member → Type 0 = λ w. w.specificity ≡ specificity_of rules w.inst.rule in
        All-contains P members m kept (contains_from_member m members (filter_member waits m members h).0)

    above : (j : Inst) → Contains (insts_of (waiting members)) j → j ≢ b.inst → IsTrue (dominates strategy rules b.inst j)
    above j h differ =
        let f = map_member (λ (m : Member). m.inst) j (waiting members) (member_from_contains j (insts_of (waiting members)) h) in
        let P : Inst → Type 0 = λ i. dominates strategy rules b.inst i ≡ true in
        subst P (sym f.2)
        (sym (outranks-dominates strategy rules b f.0 (keeps b u.member) (keeps f.0 f.1))
        ∙ other_outranks strategy f.0 b (u.none f.0 f.1) (λ e. differ (f.2 ∙ e)))

none_of : (p : Member → Bool) (members : List Member) → length (filter p members) ≡ 0 → (m : Member) → IsMember m members → p m ≡ false
none_of p [] e m h = absurd h
none_of p (x ∷ members) e m h = by_test (p x) refl e h (λ f g. none_of p members f m g)
  where
    by_test : (b : Bool) → p x ≡ b → length (cond b (x ∷ filter p members) (filter p members)) ≡ 0 → IsMember m (x ∷ members)
        → (length (filter p members) ≡ 0 → IsMember m members → p m ≡ false) → p m ≡ false
    by_test true t e h later = absurd (omega (arith, e))
    by_test false t e (inl same) later = (λ i. p (same i)) ∙ t
    by_test false t e (inr g) later = later e g

-- the member at the first place is outranked by none
pub first_unsurpassed : (strategy : Strategy) (members : List Member) (i : Inst) → IsAt strategy members 0 i → (m : Member) × (m.inst ≡ i) × IsUnsurpassed strategy (waiting members) m
first_unsurpassed strategy members i a = (
  a.member.0,
  a.member.2,
  record {
    member = member_from_contains a.member.0 (waiting members) a.member.1;
    none = none_of (λ n. outranks strategy n a.member.0) (waiting members) a.member.3;
  },
)

pub none_waits : (members : List Member) → length members ≤ 0 → members ≡ []
none_waits [] l = refl
none_waits (m ∷ members) l = absurd (omega (arith, l))

abbrev Selects : Strategy → List Member → Option (Bor Inst) → Type 0
Selects strategy members o =
    MatchOption o (waiting members ≡ []) (λ i. (m : Member) × (m.inst ≡ i.now) × IsUnsurpassed strategy (waiting members) m)

-- the first of those in the order of dominance
pub selected : (strategy : Strategy) (members : List Member) (list rest : List Inst) (o : Option (Bor Inst)) → MatchOption o ((list ≡ []) × (rest ≡ [])) (λ x. list ≡ x.now ∷ rest)
    → MatchOption (slice_get list 0) (length (waiting members) ≤ 0) (λ i. IsAt strategy members 0 i) → Selects strategy members o
selected strategy members list rest None h a =
    let P : List Inst → Type 0 = λ is. MatchOption (slice_get is 0) (length (waiting members) ≤ 0) (λ i. IsAt strategy members 0 i) in
    none_waits (waiting members) (subst P h.0 a)
selected strategy members list rest (Some x) h a =
    let P : List Inst → Type 0 = λ is. MatchOption (slice_get is 0) (length (waiting members) ≤ 0) (λ i. IsAt strategy members 0 i) in
    first_unsurpassed strategy members x.now (subst P h a)

pub selects_first : (strategy : Strategy) (members : List Member) (o : Option (Bor Inst)) → InOrder members → Selects strategy members o
    → MatchOption o (waiting members ≡ []) (λ i. IsFirst strategy members i.now)
selects_first strategy members None order s = s
selects_first strategy members (Some x) order s = subst (IsFirst strategy members) s.1 (is_first strategy members s.0 order s.2)

pub selects_dominant : (strategy : Strategy) (rules : List Rule) (members : List Member) (o : Option (Bor Inst)) → KeepsSpecificities rules members → Selects strategy members o
    → option_copied o ≡ dominant strategy rules (insts_of (waiting members))
selects_dominant strategy rules members None kept s = sym (λ i. dominant strategy rules (insts_of (s i)))
selects_dominant strategy rules members (Some x) kept s =
    sym (is_dominant strategy rules members s.0 kept s.2 ∙ (λ i. Some (s.1 i)))
