-- The test of an instantiation and its values holds exactly where they are right.
use Rattle.std.proofs.Common.{◌≡◌, ℕ, ◌<◌, List, [], ◌∷◌, Bool, true, false, cond, not, ◌&&◌, ◌==◌, Option, Some, None, refl, ap, sym, ◌∙◌, subst, inl, inr, arith}
use Rattle.std.proofs.lemmas.Bool.{eqb-true, eq-eqb}
use Rattle.std.proofs.lemmas.Bool.Decides.{Decides-eqb, Decides-int_eq}
use Rattle.std.specs.Prelude.{Decides, Contains}
use Rattle.std.specs.Bool.{MatchBool}
use Rattle.std.specs.Option.{option_map_or}
use Rattle.ops_base.specs.declared.conditions.Condition.{Condition}
use Rattle.ops_base.specs.declared.conditions.Part.{Part}
use Rattle.ops_base.specs.declared.conditions.Part.TheVariants.{One, Group}
use Rattle.ops_base.specs.declared.elements.Element.{Element}
use Rattle.ops_base.specs.declared.matching.Binding.{Binding}
use Rattle.ops_base.specs.declared.values.Sym.{Sym}
use Rattle.ops_base.specs.declared.values.Value.{Value}
use Rattle.ops_base.specs.declared.values.Value.TheVariants.{Symbol, Whole}
use Rattle.ops_base.specs.ConflictSet.{some_meets, some_extend}
use Rattle.ops_base.specs.Instances.{Extends}
use Rattle.ops_base.specs.Matching.{match_of}
use Rattle.ops_base.specs.Values.{are_same}
use Rattle.ops_base.proofs.InOrder.{AllBefore, TagBelow}
use Rattle.ops_base.proofs.Members.{IsMember, member_from_contains, contains_from_member}
use Rattle.ops_base.proofs.WalkFinds.{none_meets, some_meets-none, some_extend-from, some_extend-to}
use Rattle.why.specs.Bindings.{MeetsWith, values_in}
use Rattle.why.specs.Checking.{rest_after, is_none_left, with_tag, agrees}
use Rattle.why.proofs.Walks.{NoneMeets, TakesWith}

-- ---- values

same_symbols : (a b : Sym) → a.0 ≡ b.0 → Symbol a ≡ Symbol b
same_symbols a b e = λ k. Symbol (record { 0 = e k })

value_Decides : (a b : Value) → Decides (are_same a b) (a ≡ b)
value_Decides (Symbol a) (Symbol b) =
    (λ e. same_symbols a b ((Decides-eqb a.0 b.0).0 e), λ e. (let q : a ≡ b = cc in (Decides-eqb a.0 b.0).1 (ap (λ (s : Sym). s.0) q)))
value_Decides (Symbol a) (Whole y) = (λ e. cc, λ e. cc)
value_Decides (Whole x) (Symbol b) = (λ e. cc, λ e. cc)
value_Decides (Whole x) (Whole y) = (λ e. ap Whole ((Decides-int_eq x y).0 e), λ e. (Decides-int_eq x y).1 (cc))

-- nothing is left after exactly these values
none_left : (vs bound : List Value) → is_none_left (rest_after vs bound) ≡ true → bound ≡ vs
none_left [] [] h = refl
none_left [] (b ∷ bound) h = cc
none_left (v ∷ vs) [] h = cc
none_left (v ∷ vs) (b ∷ bound) h = by (λ r. none_left vs bound r) (are_same b v) refl h
  where
    by : (is_none_left (rest_after vs bound) ≡ true → bound ≡ vs) → (s : Bool) → are_same b v ≡ s → is_none_left (cond s (rest_after vs bound) None) ≡ true → b ∷ bound ≡ v ∷ vs
    by ih true e h = let first : b ≡ v = (value_Decides b v).0 e in let more : bound ≡ vs = ih h in cc
    by ih false e h = cc

none_left_after : (vs : List Value) → is_none_left (rest_after vs vs) ≡ true
none_left_after [] = refl
none_left_after (v ∷ vs) =
    let P : Bool → Type 0 = λ s. is_none_left (cond s (rest_after vs vs) None) ≡ true in
    subst P (sym ((value_Decides v v).1 refl)) (none_left_after vs)

-- ---- tags

found_is : (wm : List Element) (tag : ℕ) (e : Element) → with_tag wm tag ≡ Some e → IsMember e wm × (tag ≡ e.tag)
found_is [] tag e h = absurd (cc)
found_is (x ∷ wm) tag e h = by (λ r. found_is wm tag e r) (x.tag == tag) refl h
  where
    by : (with_tag wm tag ≡ Some e → IsMember e wm × (tag ≡ e.tag)) → (s : Bool) → (x.tag == tag) ≡ s → cond s (Some x) (with_tag wm tag) ≡ Some e → IsMember e (x ∷ wm) × (tag ≡ e.tag)
    by ih true q h =
        let same : x ≡ e = cc in
        (inl (sym same), sym (eqb-true x.tag tag q) ∙ ap (λ (w : Element). w.tag) same)
    by ih false q h = let r = ih h in (inr r.0, r.1)

is_found : (wm : List Element) (e : Element) → AllBefore TagBelow wm → IsMember e wm → with_tag wm e.tag ≡ Some e
is_found [] e rising m = absurd m
is_found (x ∷ wm) e rising (inl is) =
    let P : Bool → Type 0 = λ s. cond s (Some x) (with_tag wm e.tag) ≡ Some e in
    subst P (sym (eq-eqb x.tag e.tag (ap (λ (w : Element). w.tag) (sym is)))) (ap Some (sym is))
is_found (x ∷ wm) e rising (inr m) = by (is_found wm e rising.1 m) (x.tag == e.tag) refl
  where
    by : with_tag wm e.tag ≡ Some e → (s : Bool) → (x.tag == e.tag) ≡ s → cond s (Some x) (with_tag wm e.tag) ≡ Some e
    by ih true q =
        let below : x.tag < e.tag = rising.0 e m in
        let same : x.tag ≡ e.tag = eqb-true x.tag e.tag q in
        absurd (omega arith)
    by ih false q = ih

-- ---- the walk

both_true : (a b : Bool) → (a && b) ≡ true → (a ≡ true) × (b ≡ true)
both_true true b h = (refl, h)
both_true false b h = absurd (cc)

not_true : (a : Bool) → not a ≡ true → a ≡ false
not_true true h = cc
not_true false h = refl

not_any : (a : Bool) → (a ≡ true → ⊥) → not a ≡ true
not_any true h = absurd (h refl)
not_any false h = refl

and_then : (a b : Bool) → a ≡ true → b ≡ true → (a && b) ≡ true
and_then true b h k = k
and_then false b h k = cc

-- some bindings at the end have these values
abbrev Leads : List Element → List Part → List Binding → List ℕ → List Value → Type 0
Leads wm ps bindings tags bound = (final : List Binding) × MeetsWith wm ps bindings tags final × (bound ≡ values_in final)

-- what the test does with the element of a tag at a positive condition
abbrev taken : List Element → Condition → List Part → List Binding → List ℕ → List Value → Option Element → Bool
taken wm c ps bindings tags bound o =
    option_map_or (λ e. option_map_or (λ next. agrees wm ps next tags bound) (match_of c e bindings) false) o false

pub agrees-leads : (wm : List Element) (ps : List Part) (bindings : List Binding) (tags : List ℕ) (bound : List Value) → agrees wm ps bindings tags bound ≡ true → Leads wm ps bindings tags bound
agrees-leads wm [] bindings [] bound h = (bindings, (refl, refl), none_left (values_in bindings) bound h)
agrees-leads wm [] bindings (tag ∷ tags) bound h = absurd (cc)
agrees-leads wm (Group cs ∷ ps) bindings tags bound h =
    let both = both_true (not (some_extend wm cs bindings)) (agrees wm ps bindings tags bound) h in
    let no : some_extend wm cs bindings ≡ false = not_true (some_extend wm cs bindings) both.0 in
    let r = agrees-leads wm ps bindings tags bound both.1 in
    (r.0, (λ x. (let bad : true ≡ false = sym (some_extend-from wm cs bindings x) ∙ no in cc), r.1), r.2)
agrees-leads wm (One c ∷ ps) bindings [] bound h = by (λ r. agrees-leads wm ps bindings [] bound r) c.negated h
  where
    by : (agrees wm ps bindings [] bound ≡ true → Leads wm ps bindings [] bound) → (n : Bool)
        → cond n (not (some_meets wm c bindings) && agrees wm ps bindings [] bound) false ≡ true
        → (final : List Binding) × MatchBool n (NoneMeets wm c bindings × MeetsWith wm ps bindings [] final) (TakesWith wm c ps bindings [] final) × (bound ≡ values_in final)
    by ih true h =
        let both = both_true (not (some_meets wm c bindings)) (agrees wm ps bindings [] bound) h in
        let no : some_meets wm c bindings ≡ false = not_true (some_meets wm c bindings) both.0 in
        let r = ih both.1 in
        (r.0, (λ e m. none_meets wm c bindings no e (member_from_contains e wm m), r.1), r.2)
    by ih false h = absurd (cc)
agrees-leads wm (One c ∷ ps) bindings (tag ∷ tags) bound h =
    by (λ r. agrees-leads wm ps bindings (tag ∷ tags) bound r) (λ next r. agrees-leads wm ps next tags bound r) c.negated h
  where
    matched : ((next : List Binding) → agrees wm ps next tags bound ≡ true → Leads wm ps next tags bound) → (e : Element) → with_tag wm tag ≡ Some e → (o : Option (List Binding)) → match_of c e bindings ≡ o
        → option_map_or (λ next. agrees wm ps next tags bound) o false ≡ true
        → (final : List Binding) × TakesWith wm c ps bindings (tag ∷ tags) final × (bound ≡ values_in final)
    matched ih e is None m h = absurd (cc)
    matched ih e is (Some next) m h =
        let r = ih next h in
        let f = found_is wm tag e is in
        (r.0, (e, next, tags, contains_from_member e wm f.0, m, ap (λ w. w ∷ tags) f.1, r.1), r.2)

    looked : ((next : List Binding) → agrees wm ps next tags bound ≡ true → Leads wm ps next tags bound) → (o : Option Element) → with_tag wm tag ≡ o → taken wm c ps bindings tags bound o ≡ true
        → (final : List Binding) × TakesWith wm c ps bindings (tag ∷ tags) final × (bound ≡ values_in final)
    looked ih None is h = absurd (cc)
    looked ih (Some e) is h = matched ih e is (match_of c e bindings) refl h

    by : (agrees wm ps bindings (tag ∷ tags) bound ≡ true → Leads wm ps bindings (tag ∷ tags) bound) → ((next : List Binding) → agrees wm ps next tags bound ≡ true → Leads wm ps next tags bound) → (n : Bool)
        → cond n (not (some_meets wm c bindings) && agrees wm ps bindings (tag ∷ tags) bound) (taken wm c ps bindings tags bound (with_tag wm tag)) ≡ true
        → (final : List Binding) × MatchBool n (NoneMeets wm c bindings × MeetsWith wm ps bindings (tag ∷ tags) final) (TakesWith wm c ps bindings (tag ∷ tags) final) × (bound ≡ values_in final)
    by ih on true h =
        let both = both_true (not (some_meets wm c bindings)) (agrees wm ps bindings (tag ∷ tags) bound) h in
        let no : some_meets wm c bindings ≡ false = not_true (some_meets wm c bindings) both.0 in
        let r = ih both.1 in
        (r.0, (λ e m. none_meets wm c bindings no e (member_from_contains e wm m), r.1), r.2)
    by ih on false h = looked on (with_tag wm tag) refl h

-- where the walk takes an element, the test goes on as the walk does
takes-agree : (wm : List Element) (c : Condition) (ps : List Part) (bindings : List Binding) (tag : ℕ) (tags : List ℕ) (bound : List Value) (final : List Binding) → AllBefore TagBelow wm
    → ((next : List Binding) (rest : List ℕ) → MeetsWith wm ps next rest final → agrees wm ps next rest bound ≡ true)
    → TakesWith wm c ps bindings (tag ∷ tags) final → taken wm c ps bindings tags bound (with_tag wm tag) ≡ true
takes-agree wm c ps bindings tag tags bound final rising on t =
    let first : tag ≡ t.0.tag = cc t.5 in
    let more : tags ≡ t.2 = cc t.5 in
    let is : with_tag wm tag ≡ Some t.0 = ap (with_tag wm) first ∙ is_found wm t.0 rising (member_from_contains t.0 wm t.3) in
    let P : List ℕ → Type 0 = λ w. agrees wm ps t.1 w bound ≡ true in
    ap (taken wm c ps bindings tags bound) is
    ∙ ap (λ (o : Option (List Binding)). option_map_or (λ next. agrees wm ps next tags bound) o false) t.4
    ∙ subst P (sym more) (on t.1 t.2 t.6)

no_tag : (wm : List Element) (c : Condition) (ps : List Part) (bindings : List Binding) (final : List Binding) → TakesWith wm c ps bindings [] final → ⊥
no_tag wm c ps bindings final t = let bad : [] ≡ t.0.tag ∷ t.2 = t.5 in cc

pub leads-agrees : (wm : List Element) → AllBefore TagBelow wm → (ps : List Part) (bindings : List Binding) (tags : List ℕ) (bound : List Value) (final : List Binding) → bound ≡ values_in final → MeetsWith wm ps bindings tags final → agrees wm ps bindings tags bound ≡ true
leads-agrees wm rising [] bindings [] bound final is m =
    let P : List Value → Type 0 = λ w. is_none_left (rest_after (values_in bindings) w) ≡ true in
    subst P (sym (is ∙ ap values_in m.1)) (none_left_after (values_in bindings))
leads-agrees wm rising [] bindings (tag ∷ tags) bound final is m = let bad : tag ∷ tags ≡ [] = m.0 in absurd (cc)
leads-agrees wm rising (Group cs ∷ ps) bindings tags bound final is m =
    and_then (not (some_extend wm cs bindings)) (agrees wm ps bindings tags bound)
    (not_any (some_extend wm cs bindings) (λ e. m.0 (some_extend-to wm cs bindings e)))
    (leads-agrees wm rising ps bindings tags bound final is m.1)
leads-agrees wm rising (One c ∷ ps) bindings [] bound final is m =
    by (λ r. leads-agrees wm rising ps bindings [] bound final is r) c.negated m
  where
    by : (MeetsWith wm ps bindings [] final → agrees wm ps bindings [] bound ≡ true) → (n : Bool)
        → MatchBool n (NoneMeets wm c bindings × MeetsWith wm ps bindings [] final) (TakesWith wm c ps bindings [] final)
        → cond n (not (some_meets wm c bindings) && agrees wm ps bindings [] bound) false ≡ true
    by ih true m =
        and_then (not (some_meets wm c bindings)) (agrees wm ps bindings [] bound)
        (ap not (some_meets-none wm c bindings (λ e k. m.0 e (contains_from_member e wm k)))) (ih m.1)
    by ih false m = absurd (no_tag wm c ps bindings final m)
leads-agrees wm rising (One c ∷ ps) bindings (tag ∷ tags) bound final is m =
    by (λ next rest r. leads-agrees wm rising ps next rest bound final is r) c.negated m
  where
    by : ((next : List Binding) (rest : List ℕ) → MeetsWith wm ps next rest final → agrees wm ps next rest bound ≡ true) → (n : Bool)
        → MatchBool n (NoneMeets wm c bindings × MeetsWith wm ps bindings (tag ∷ tags) final) (TakesWith wm c ps bindings (tag ∷ tags) final)
        → cond n (not (some_meets wm c bindings) && agrees wm ps bindings (tag ∷ tags) bound) (taken wm c ps bindings tags bound (with_tag wm tag)) ≡ true
    by ih true m =
        and_then (not (some_meets wm c bindings)) (agrees wm ps bindings (tag ∷ tags) bound)
        (ap not (some_meets-none wm c bindings (λ e k. m.0 e (contains_from_member e wm k)))) (ih bindings (tag ∷ tags) m.1)
    by ih false m = takes-agree wm c ps bindings tag tags bound final rising ih m
