-- The walk that keeps its bindings, beside the walk that does not and beside the matches that are computed.
use Rattle.std.proofs.Common.{◌≡◌, ℕ, List, [], ◌∷◌, ◌++◌, Bool, true, false, cond, not, Some, None, refl, ap, sym, ◌∙◌, subst, inl, inr, append_assoc}
use Rattle.std.proofs.lemmas.List.{append-nil}
use Rattle.std.specs.List.{flat_map, Contains}
use Rattle.std.specs.Bool.{MatchBool}
use Rattle.ops_base.specs.declared.conditions.Condition.{Condition}
use Rattle.ops_base.specs.declared.conditions.Part.{Part}
use Rattle.ops_base.specs.declared.conditions.Part.TheVariants.{One, Group}
use Rattle.ops_base.specs.declared.direct.Partial.{Partial}
use Rattle.ops_base.specs.declared.elements.Element.{Element}
use Rattle.ops_base.specs.declared.matching.Binding.{Binding}
use Rattle.ops_base.specs.ConflictSet.{extended, some_meets, some_extend, at_part, walk, empty_partial, matches_of}
use Rattle.ops_base.specs.Instances.{Meets}
use Rattle.ops_base.specs.Matching.{match_of}
use Rattle.ops_base.proofs.Members.{IsMember, flat_map_member, member_from_contains, contains_from_member}
use Rattle.ops_base.proofs.WalkFinds.{none_meets, some_extend-from, lengthened_is, negated_is}
use Rattle.why.specs.Bindings.{MeetsWith}

-- no element of working memory meets the condition
abbrev pub NoneMeets : List Element → Condition → List Binding → Type 0
NoneMeets wm c bindings = (e : Element) → Contains wm e → match_of c e bindings ≡ None

-- the walk takes an element for a positive condition
abbrev pub Takes : List Element → Condition → List Part → List Binding → List ℕ → Type 0
Takes wm c ps bindings tags =
    (e : Element) × (next : List Binding) × (rest : List ℕ) × Contains wm e × (match_of c e bindings ≡ Some next) × (tags ≡ e.tag ∷ rest) × Meets wm ps next rest

-- the same, with the bindings at the end
abbrev pub TakesWith : List Element → Condition → List Part → List Binding → List ℕ → List Binding → Type 0
TakesWith wm c ps bindings tags final =
    (e : Element) × (next : List Binding) × (rest : List ℕ) × Contains wm e × (match_of c e bindings ≡ Some next) × (tags ≡ e.tag ∷ rest) × MeetsWith wm ps next rest final

-- ---- with and without the bindings at the end

pub meets_with-meets : (wm : List Element) (ps : List Part) (bindings : List Binding) (tags : List ℕ) (final : List Binding) → MeetsWith wm ps bindings tags final → Meets wm ps bindings tags
meets_with-meets wm [] bindings tags final m = m.0
meets_with-meets wm (Group cs ∷ ps) bindings tags final m = (m.0, meets_with-meets wm ps bindings tags final m.1)
meets_with-meets wm (One c ∷ ps) bindings tags final m = by (λ b t r. meets_with-meets wm ps b t final r) c.negated m
  where
    by : ((b : List Binding) (t : List ℕ) → MeetsWith wm ps b t final → Meets wm ps b t) → (n : Bool)
        → MatchBool n (NoneMeets wm c bindings × MeetsWith wm ps bindings tags final) (TakesWith wm c ps bindings tags final)
        → MatchBool n (NoneMeets wm c bindings × Meets wm ps bindings tags) (Takes wm c ps bindings tags)
    by rest true m = (m.0, rest bindings tags m.1)
    by rest false m = (m.0, m.1, m.2, m.3, m.4, m.5, rest m.1 m.2 m.6)

pub meets-meets_with : (wm : List Element) (ps : List Part) (bindings : List Binding) (tags : List ℕ) → Meets wm ps bindings tags → (final : List Binding) × MeetsWith wm ps bindings tags final
meets-meets_with wm [] bindings tags m = (bindings, (m, refl))
meets-meets_with wm (Group cs ∷ ps) bindings tags m =
    let r = meets-meets_with wm ps bindings tags m.1 in (r.0, (m.0, r.1))
meets-meets_with wm (One c ∷ ps) bindings tags m = by (λ b t r. meets-meets_with wm ps b t r) c.negated m
  where
    by : ((b : List Binding) (t : List ℕ) → Meets wm ps b t → (final : List Binding) × MeetsWith wm ps b t final) → (n : Bool)
        → MatchBool n (NoneMeets wm c bindings × Meets wm ps bindings tags) (Takes wm c ps bindings tags)
        → (final : List Binding) × MatchBool n (NoneMeets wm c bindings × MeetsWith wm ps bindings tags final) (TakesWith wm c ps bindings tags final)
    by rest true m = let r = rest bindings tags m.1 in (r.0, (m.0, r.1))
    by rest false m = let r = rest m.1 m.2 m.6 in (r.0, (m.0, m.1, m.2, m.3, m.4, m.5, r.1))

-- ---- the matches that are computed

-- A partial match q that a step gives from p at one part: q has the tags of p and maybe one more. What meets the further
-- parts from q, put after that, meets this one and them from p, and ends with the same bindings.
record StepWith (wm : List Element) (part : Part) (ps : List Part) (p q : Partial) (rest : List ℕ) (final : List Binding) : Type 0 where
  pub front : List ℕ
  pub tags : q.tags ≡ p.tags ++ front
  pub meets : MeetsWith wm (part ∷ ps) p.bindings (front ++ rest) final

step_with : (wm : List Element) (part : Part) (ps : List Part) (p q : Partial) (rest : List ℕ) (final : List Binding) → IsMember q (at_part wm part p) → MeetsWith wm ps q.bindings rest final → StepWith wm part ps p q rest final
step_with wm (Group cs) ps p q rest final m i =
    let n = negated_is p q (some_extend wm cs p.bindings) m in
    let P : Partial → Type 0 = λ w. MeetsWith wm ps w.bindings rest final in
    record {
      front = [];
      tags = ap (λ (w : Partial). w.tags) n.1 ∙ sym (append-nil p.tags);
      meets = (λ x. (let bad : true ≡ false = sym (some_extend-from wm cs p.bindings x) ∙ n.0 in cc), subst P n.1 i);
    }
step_with wm (One c) ps p q rest final m i = let r = by c.negated m in record { front = r.0; tags = r.1; meets = r.2 }
  where
    by : (b : Bool)
        → IsMember q (cond b (cond (not (some_meets wm c p.bindings)) (p ∷ []) []) (flat_map (extended c p) wm))
        → (front : List ℕ) × (q.tags ≡ p.tags ++ front) × MatchBool b
        (NoneMeets wm c p.bindings × MeetsWith wm ps p.bindings (front ++ rest) final)
        (TakesWith wm c ps p.bindings (front ++ rest) final)
    by true m =
        let n = negated_is p q (some_meets wm c p.bindings) m in
        let P : Partial → Type 0 = λ w. MeetsWith wm ps w.bindings rest final in
        ([], ap (λ (w : Partial). w.tags) n.1 ∙ sym (append-nil p.tags), (λ e h. none_meets wm c p.bindings n.0 e (member_from_contains e wm h), subst P n.1 i))
    by false m =
        let f = flat_map_member (extended c p) q wm m in
        let l = lengthened_is p q f.0.tag (match_of c f.0 p.bindings) f.2 in
        (f.0.tag ∷ [], l.1, (f.0, q.bindings, rest, contains_from_member f.0 wm f.1, l.0, refl, i))

-- what the walk gives from these partial matches goes on from one of them, and ends with its own bindings
record FoundWith (wm : List Element) (ps : List Part) (from_these : List Partial) (q : Partial) : Type 0 where
  pub from : Partial
  pub begun : IsMember from from_these
  pub rest : List ℕ
  pub tags : q.tags ≡ from.tags ++ rest
  pub meets : MeetsWith wm ps from.bindings rest q.bindings

found_with : (wm : List Element) (ps : List Part) (from_these : List Partial) (q : Partial) → IsMember q (walk wm ps from_these) → FoundWith wm ps from_these q
found_with wm [] from_these q m =
    record { from = q; begun = m; rest = []; tags = sym (append-nil q.tags); meets = (refl, refl) }
found_with wm (part ∷ ps) from_these q m =
    let r = found_with wm ps (flat_map (at_part wm part) from_these) q m in
    let b = flat_map_member (at_part wm part) r.from from_these r.begun in
    let s = step_with wm part ps b.0 r.from r.rest q.bindings b.2 r.meets in record {
      from = b.0;
      begun = b.1;
      rest = s.front ++ r.rest;
      tags = r.tags ∙ ap (λ w. w ++ r.rest) s.tags ∙ append_assoc b.0.tags s.front r.rest;
      meets = s.meets;
    }

-- each match that is computed meets the conditions, and its bindings are those at the end
pub matches_of-meets_with : (wm : List Element) (ps : List Part) (q : Partial) → IsMember q (matches_of wm ps) → MeetsWith wm ps [] q.tags q.bindings
matches_of-meets_with wm ps q m =
    let r = found_with wm ps (empty_partial ∷ []) q m in begun_empty r.from r.begun r.rest r.tags r.meets
  where
    begun_empty : (from : Partial) → IsMember from (empty_partial ∷ []) → (rest : List ℕ) → q.tags ≡ from.tags ++ rest → MeetsWith wm ps from.bindings rest q.bindings → MeetsWith wm ps [] q.tags q.bindings
    begun_empty from (inl is) rest t i =
        let Q : List Binding → Type 0 = λ w. MeetsWith wm ps w rest q.bindings in
        let R : List ℕ → Type 0 = λ w. MeetsWith wm ps [] w q.bindings in
        subst R (sym (t ∙ ap (λ (w : Partial). w.tags ++ rest) is)) (subst Q (ap (λ (w : Partial). w.bindings) is) i)
    begun_empty from (inr m) rest t i = absurd m
