-- The walk of a rule with bindings and the walk of its steps accept the same tags.
use Rattle.std.proofs.Common.{◌≡◌, ◌≢◌, ℕ, zero, suc, ◌*◌, ◌<◌, ◌≤◌, ◌^◌, Bool, true, false, cond, ◌==◌, ◌&&◌, List, [], ◌∷◌, ◌++◌, Option, Some, None, refl, sym, ap, ap₂, subst, ◌∙◌, arith, length, length-append, inl, inr}
use Rattle.std.proofs.lemmas.Bool.{eqb-true, eqb-false, eq-eqb, ne_eqb}
use Rattle.std.proofs.lemmas.List.Elements.{All-contains}
use Rattle.std.specs.Prelude.{Contains}
use Rattle.std.specs.Bool.{MatchBool}
use Rattle.std.specs.List.{list_all}
use Rattle.ops_base.specs.declared.elements.Element.{Element}
use Rattle.ops_base.specs.declared.conditions.Condition.{Condition}
use Rattle.ops_base.specs.declared.conditions.Part.{Part}
use Rattle.ops_base.specs.declared.conditions.Part.TheVariants.{One, Group}
use Rattle.ops_base.specs.declared.matching.Binding.{Binding}
use Rattle.ops_base.specs.Matching.{match_of, after_tests}
use Rattle.ops_base.specs.Instances.{Extends, Meets}
use Rattle.ops_base.proofs.Members.{IsMember, member_from_contains, contains_from_member}
use Rattle.ops_base.proofs.InOrder.{AllBefore, TagBelow, tags_in_order}
use Rattle.net_base.specs.declared.nodes.Alpha.{Alpha}
use Rattle.net_base.specs.declared.normal.Binder.{Binder}
use Rattle.net_base.specs.Normal.{AreBelow, binders_after, normal_tests, normal_members, normal_parts, alpha_tests, join_tests}
use Rattle.net_base.specs.Tokens.{Elements, Tokens, elements_of, alpha_test_holds, passes_alpha, join_test_holds, joins_hold, sum_to, times_passed, memory_gives, root_gives}
use Rattle.net_base.specs.Network.{IsWm}
use Rattle.net_base.proofs.Variables.{bindings_at, AreBound, MembersBound, HaveBound, below_up, below_after}
use Rattle.net_base.proofs.OneElement.{after_tests_is}
use Rattle.net_base.proofs.TwoParts.{at_other, at_own, two_parts}
use Rattle.net_base.proofs.Steps.{Single, Step, Alone, Many, none_joins, none_takes, take_one, takes, matches, singles_of, steps_of}
use Rattle.net_base.proofs.Tuples.{AreSmall, tuples_none, tuples_each}

-- a further tag changes no value of the binders before
grown : (el : Elements) (t : List ℕ) (x : ℕ) (bs : List Binder) → AreBelow (length t) bs → bindings_at el t bs ≡ bindings_at el (t ++ x ∷ []) bs
grown el t x [] h = refl
grown el t x (b ∷ bs) h =
    let lt = h.0 in
    let ne : b.origin.place ≢ length t = omega arith in
    ap₂ (λ y ys. record { variable = b.variable; value = Rattle.net_base.specs.Tokens.field_in (el y) b.origin.field } ∷ ys) (sym (at_other t x b.origin.place ne)) (grown el t x bs h.1)

-- ---- elements by their tags

found_in : (wm : List Element) → AllBefore TagBelow wm → (e : Element) → IsMember e wm → elements_of wm e.tag ≡ Some e
found_in [] w e m = absurd m
found_in (f ∷ es) w e (inl q) =
    let same = eq-eqb f.tag e.tag (ap (λ (w : Element). w.tag) (sym q)) in
    ap (λ b. cond b (Some f) (elements_of es e.tag)) same ∙ ap Some (sym q)
found_in (f ∷ es) w e (inr m) =
    let lt = w.0 e m in
    let other = ne_eqb f.tag e.tag (λ q. absurd (omega (arith, q))) in
    ap (λ b. cond b (Some f) (elements_of es e.tag)) other ∙ found_in es w.1 e m

pub found_of : (wm : List Element) → IsWm wm → (e : Element) → Contains wm e → elements_of wm e.tag ≡ Some e
found_of wm w e m = found_in wm (tags_in_order wm w.rising) e (member_from_contains e wm m)

member_in : (wm : List Element) (tag : ℕ) (e : Element) → elements_of wm tag ≡ Some e → IsMember e wm × (e.tag ≡ tag)
member_in [] tag e q = cc
member_in (f ∷ es) tag e q = by_tag (λ r. member_in es tag e r) (f.tag == tag) refl q
  where
    by_tag : (elements_of es tag ≡ Some e → IsMember e es × (e.tag ≡ tag)) → (b : Bool) → (f.tag == tag) ≡ b → cond b (Some f) (elements_of es tag) ≡ Some e → IsMember e (f ∷ es) × (e.tag ≡ tag)
    by_tag ih true h r = let same : e ≡ f = cc in (inl same, ap (λ (w : Element). w.tag) same ∙ eqb-true f.tag tag h)
    by_tag ih false h r = let m = ih r in (inr m.0, m.1)

pub member_of : (wm : List Element) (tag : ℕ) (e : Element) → elements_of wm tag ≡ Some e → Contains wm e × (e.tag ≡ tag)
member_of wm tag e q = let m = member_in wm tag e q in (contains_from_member e wm m.0, m.1)

pub tag_below : (wm : List Element) → IsWm wm → (e : Element) → Contains wm e → e.tag < 2 ^ 64
tag_below wm w e m = All-contains (λ (e : Element). e.tag < 2 ^ 64) wm e w.small m

-- ---- sums below a bound

abbrev count_below : ℕ → (ℕ → Bool) → Tokens → ℕ
count_below n test right = sum_to n (λ k. cond (test k) (right (k ∷ [])) 0)

count_none : (n : ℕ) (p : ℕ → Bool) (r : Tokens) → ((k : ℕ) → p k ≡ true → r (k ∷ []) ≡ 0) → count_below n p r ≡ 0
unfolding sum_to
count_none zero p r h = refl
count_none (suc k) p r h = let a = by_test (p k) refl in let b = count_none k p r h in omega arith
  where
    by_test : (b : Bool) → p k ≡ b → cond b (r (k ∷ [])) 0 ≡ 0
    by_test true e = h k e
    by_test false e = refl

count_each : (n : ℕ) (p : ℕ → Bool) (r : Tokens) → count_below n p r ≡ 0 → (k : ℕ) → k < n → p k ≡ true → r (k ∷ []) ≡ 0
unfolding sum_to
count_each zero p r h k lt t = absurd (omega arith)
count_each (suc n) p r h k lt t = by_same (λ g l. count_each n p r g k l t) (k == n) refl
  where
    by_same : (count_below n p r ≡ 0 → k < n → r (k ∷ []) ≡ 0) → (b : Bool) → (k == n) ≡ b → r (k ∷ []) ≡ 0
    by_same ih true e =
        let q = eqb-true k n e in
        let a = ap (λ c. cond c (r (n ∷ [])) 0) (sym (ap p q) ∙ t) in
        ap (λ z. r (z ∷ [])) q ∙ (let z : r (n ∷ []) ≡ 0 = omega arith in z)
    by_same ih false e = let ne = eqb-false k n e in ih (omega arith) (omega (arith, ne))

-- ---- one condition

-- the alpha of a condition at this place
abbrev alpha_at : ℕ → Condition → List Binder → Alpha
alpha_at m c bs = record { class = c.class; tests = alpha_tests m (normal_tests m c.tests bs) }

-- the condition's own alpha and join tests after m positive ones
abbrev own : ℕ → Condition → List Binder → Single
own m c bs = record { alpha = Some (alpha_at m c bs); tests = join_tests m (normal_tests m c.tests bs) }

-- the match of one element: its alpha tests, and its join tests with the tags before
match_is : (wm : List Element) (c : Condition) (bs : List Binder) (t : List ℕ) (x : ℕ) (e : Element) → AreBelow (length t) bs → AreBound (length t) c.tests bs → elements_of wm x ≡ Some e
    → match_of c e (bindings_at (elements_of wm) t bs)
    ≡ cond (passes_alpha (alpha_at (length t) c bs) e && joins_hold (own (length t) c bs).tests (elements_of wm) t x)
    (Some (bindings_at (elements_of wm) (t ++ x ∷ []) (binders_after (length t) c.tests bs))) None
match_is wm c bs t x e low bound is =
    let el : Elements = elements_of wm in
    let ns = normal_tests (length t) c.tests bs in
    let a = after_tests_is el (t ++ x ∷ []) e (length t) c.tests bs (ap el (at_own t x) ∙ is) bound in
    let g = grown el t x bs low in
    let s = two_parts el t x e ns is in
    let next = Some (bindings_at el (t ++ x ∷ []) (binders_after (length t) c.tests bs)) in
    let one : after_tests c.tests e (bindings_at el t bs) ≡ cond (list_all (alpha_test_holds e) (alpha_tests (length t) ns) && list_all (join_test_holds el t x) (join_tests (length t) ns)) next None =
    ap (after_tests c.tests e) g ∙ (a ∙ ap (λ b. cond b next None) s) in
    in_class (e.class == c.class) (list_all (alpha_test_holds e) (alpha_tests (length t) ns)) (list_all (join_test_holds el t x) (join_tests (length t) ns)) (after_tests c.tests e (bindings_at el t bs)) next one
  where
    in_class : (b a j : Bool) (o next : Option (List Binding)) → o ≡ cond (a && j) next None → cond b o None ≡ cond ((b && a) && j) next None
    in_class true a j o next h = h
    in_class false a j o next h = refl

both : (a b : Bool) (m n : List Binding) → cond (a && b) (Some m) None ≡ Some n → (a ≡ true) × (b ≡ true) × (m ≡ n)
both true true m n h = (refl, refl, cc)
both true false m n h = cc
both false b m n h = cc

neither : (a b : Bool) (m : List Binding) → cond (a && b) (Some m) None ≡ None → b ≡ true → a ≡ false
neither true b m h t = cc
neither false b m h t = refl

take_is_one : (j : Bool) (r g : ℕ) → j ≡ true → r ≡ 1 → g ≡ 1 → cond j (r * g) 0 ≡ 1
take_is_one j r g a b c = ap₂ (λ x y. cond x (y * g) 0) a b ∙ ap (λ z. 1 * z) c

abbrev pub steps_from : ℕ → List Part → List Binder → List Step
steps_from m ps bs = steps_of m (normal_parts m ps bs)

-- the members of a group after m positive conditions
abbrev members_from : ℕ → List Condition → List Binder → List Single
members_from m cs bs = singles_of m (normal_members m cs bs)

abbrev joined : List Element → Condition → List Binder → List ℕ → ℕ → Bool
joined wm c bs t x = joins_hold (own (length t) c bs).tests (elements_of wm) t x

none_to : (wm : List Element) (c : Condition) (bs : List Binder) (t : List ℕ) → AreBelow (length t) bs → AreBound (length t) c.tests bs → ((e : Element) → Contains wm e → match_of c e (bindings_at (elements_of wm) t bs) ≡ None) → none_joins (2 ^ 64) (elements_of wm) wm (own (length t) c bs) t ≡ true
none_to wm c bs t low bound h =
    eq-eqb (count_below (2 ^ 64) (joined wm c bs t) (memory_gives wm (own (length t) c bs).alpha)) 0
    (count_none (2 ^ 64) (joined wm c bs t) (memory_gives wm (own (length t) c bs).alpha) (λ k j. each k j (elements_of wm k) refl))
  where
    each : (k : ℕ) → joined wm c bs t k ≡ true → (o : Option Element) → elements_of wm k ≡ o → times_passed (own (length t) c bs).alpha o ≡ 0
    each k j None is = refl
    each k j (Some e) is =
        let m = member_of wm k e is in
        let q = sym (match_is wm c bs t k e low bound is) ∙ h e m.0 in
        ap (λ b. cond b 1 0) (neither (passes_alpha (alpha_at (length t) c bs) e) (joined wm c bs t k) (bindings_at (elements_of wm) (t ++ k ∷ []) (binders_after (length t) c.tests bs)) q j)

none_from : (wm : List Element) → IsWm wm → (c : Condition) (bs : List Binder) (t : List ℕ) → AreBelow (length t) bs → AreBound (length t) c.tests bs → none_joins (2 ^ 64) (elements_of wm) wm (own (length t) c bs) t ≡ true → (e : Element) → Contains wm e → match_of c e (bindings_at (elements_of wm) t bs) ≡ None
none_from wm w c bs t low bound h e m =
    let is = found_of wm w e m in
    let z = eqb-true (count_below (2 ^ 64) (joined wm c bs t) (memory_gives wm (own (length t) c bs).alpha)) 0 h in
    match_is wm c bs t e.tag e low bound is
    ∙ by_tests (passes_alpha (alpha_at (length t) c bs) e) (joined wm c bs t e.tag) refl
    (λ j. ap (times_passed (own (length t) c bs).alpha) (sym is) ∙ count_each (2 ^ 64) (joined wm c bs t) (memory_gives wm (own (length t) c bs).alpha) z e.tag (tag_below wm w e m) j)
  where
    by_tests : (a j : Bool) → joined wm c bs t e.tag ≡ j → (joined wm c bs t e.tag ≡ true → ◌≡◌ {A = ℕ} (cond a 1 0) 0)
        → cond (a && j) (Some (bindings_at (elements_of wm) (t ++ e.tag ∷ []) (binders_after (length t) c.tests bs))) None ≡ None
    by_tests true true q h = absurd (omega (arith, h q))
    by_tests true false q h = refl
    by_tests false j q h = refl

-- ---- the walk

-- the steps after those of the condition c, which is negated where b says so
abbrev more_steps : Bool → ℕ → Condition → List Part → List Binder → List Step
more_steps b m c cs bs =
    cond b (steps_of m (cond b (normal_parts m cs bs) (normal_parts (suc m) cs (binders_after m c.tests bs))))
    (steps_of (suc m) (cond b (normal_parts m cs bs) (normal_parts (suc m) cs (binders_after m c.tests bs))))

abbrev pub matched : List Element → List Step → List ℕ → Tokens
matched wm ss t tags = matches (2 ^ 64) (elements_of wm) wm ss t tags

-- one step of the walk, which is negated where b says so
abbrev one_step : Bool → List Element → Single → List Step → List ℕ → Tokens
one_step b wm s ss t tags =
    cond b (cond (none_joins (2 ^ 64) (elements_of wm) wm s t) (matched wm ss t tags) 0)
    (take_one (elements_of wm) wm s (λ u ys. matched wm ss u ys) t tags)

abbrev pub valued : List Element → List ℕ → List Binder → List Binding
valued wm t bs = bindings_at (elements_of wm) t bs

abbrev MeetsNegated : List Element → Condition → List Part → List Binding → List ℕ → Type 0
MeetsNegated wm c cs bindings tags = ((e : Element) → Contains wm e → match_of c e bindings ≡ None) × Meets wm cs bindings tags

abbrev MeetsPositive : List Element → Condition → List Part → List Binding → List ℕ → Type 0
MeetsPositive wm c cs bindings tags = (e : Element) × (next : List Binding) × (rest : List ℕ) × Contains wm e × (match_of c e bindings ≡ Some next) × (tags ≡ e.tag ∷ rest) × Meets wm cs next rest

abbrev MoreBound : Bool → ℕ → Condition → List Part → List Binder → Type 0
MoreBound b m c cs bs = MatchBool b (HaveBound m cs bs) (HaveBound (suc m) cs (binders_after m c.tests bs))

length_push : (t : List ℕ) (x : ℕ) → length (t ++ x ∷ []) ≡ suc (length t)
length_push t x = omega (arith, length-append t (x ∷ []))

-- the binders after a positive condition, below the longer token
below_next : (t : List ℕ) (x : ℕ) (c : Condition) (bs : List Binder) → AreBelow (length t) bs → AreBelow (length (t ++ x ∷ [])) (binders_after (length t) c.tests bs)
below_next t x c bs low = subst (λ m. AreBelow m (binders_after (length t) c.tests bs)) (sym (length_push t x)) (below_after (length t) c.tests bs (below_up (length t) bs low))

have_next : (t : List ℕ) (x : ℕ) (c : Condition) (cs : List Part) (bs : List Binder) → HaveBound (suc (length t)) cs (binders_after (length t) c.tests bs) → HaveBound (length (t ++ x ∷ [])) cs (binders_after (length t) c.tests bs)
have_next t x c cs bs have = subst (λ m. HaveBound m cs (binders_after (length t) c.tests bs)) (sym (length_push t x)) have

-- a positive step that is taken once
one_taken : (j : Bool) (r g : ℕ) → cond j (r * g) 0 ≡ 1 → r ≤ 1 → (j ≡ true) × (r ≡ 1) × (g ≡ 1)
one_taken true zero g h le = absurd (omega arith)
one_taken true (suc zero) g h le = (refl, refl, omega arith)
one_taken true (suc (suc r)) g h le = absurd (omega arith)
one_taken false r g h le = absurd (omega arith)

none_taken : (b : Bool) (g : ℕ) → cond b g 0 ≡ 1 → (b ≡ true) × (g ≡ 1)
none_taken true g h = (refl, h)
none_taken false g h = absurd (omega arith)

at_most_one : (b : Bool) → ◌≤◌ (cond b 1 0) 1
at_most_one true = omega arith
at_most_one false = omega arith

is_one : (b : Bool) → ◌≡◌ {A = ℕ} (cond b 1 0) 1 → b ≡ true
is_one true h = refl
is_one false h = absurd (omega arith)

pub times_least : (a : Option Alpha) (o : Option Element) → times_passed a o ≤ 1
times_least None o = omega arith
times_least (Some a) None = omega arith
times_least (Some a) (Some e) = at_most_one (passes_alpha a e)

-- ---- the members of a group

members_next : (t : List ℕ) (x : ℕ) (c : Condition) (cs : List Condition) (bs : List Binder) → MembersBound (suc (length t)) cs (binders_after (length t) c.tests bs) → MembersBound (length (t ++ x ∷ [])) cs (binders_after (length t) c.tests bs)
members_next t x c cs bs have = subst (λ m. MembersBound m cs (binders_after (length t) c.tests bs)) (sym (length_push t x)) have

abbrev taken : List Element → List Single → List ℕ → Tokens
taken wm ss t v = takes (elements_of wm) wm ss t v

count_members : (m : ℕ) (cs : List Condition) (bs : List Binder) → length (members_from m cs bs) ≡ length cs
count_members m [] bs = refl
count_members m (c ∷ cs) bs = ap suc (count_members (suc m) cs (binders_after m c.tests bs))

-- tags that the members take
record Taken (wm : List Element) (cs : List Condition) (bs : List Binder) (t : List ℕ) : Type 0 where
  tags : List ℕ
  count : length tags ≡ length cs
  small : AreSmall (2 ^ 64) tags
  once : taken wm (members_from (length t) cs bs) t tags ≡ 1

-- where the bindings can be extended, the members take tags
members_accept : (wm : List Element) → IsWm wm → (cs : List Condition) (bs : List Binder) (t : List ℕ) → AreBelow (length t) bs → MembersBound (length t) cs bs → Extends wm cs (valued wm t bs) → Taken wm cs bs t
members_accept wm w [] bs t low have i = record { tags = []; count = refl; small = tt; once = refl }
members_accept wm w (c ∷ cs) bs t low have i =
    let e = i.0 in
    let is = found_of wm w e i.2 in
    let p = both (passes_alpha (alpha_at (length t) c bs) e) (joined wm c bs t e.tag) (valued wm (t ++ e.tag ∷ []) (binders_after (length t) c.tests bs)) i.1 (sym (match_is wm c bs t e.tag e low have.0 is) ∙ i.3) in
    let right : memory_gives wm (own (length t) c bs).alpha (e.tag ∷ []) ≡ 1 = ap (times_passed (own (length t) c bs).alpha) is ∙ ap (λ b. cond b 1 0) p.0 in
    let meets : Extends wm cs (valued wm (t ++ e.tag ∷ []) (binders_after (length t) c.tests bs)) = subst (λ b. Extends wm cs b) (sym p.2) i.4 in
    let go = members_accept wm w cs (binders_after (length t) c.tests bs) (t ++ e.tag ∷ []) (below_next t e.tag c bs low) (members_next t e.tag c cs bs have.1) meets in
    let go' : taken wm (members_from (suc (length t)) cs (binders_after (length t) c.tests bs)) (t ++ e.tag ∷ []) go.tags ≡ 1 =
    ap (λ m. taken wm (members_from m cs (binders_after (length t) c.tests bs)) (t ++ e.tag ∷ []) go.tags) (sym (length_push t e.tag)) ∙ go.once in
    record {
      tags = e.tag ∷ go.tags;
      count = ap suc go.count;
      small = (tag_below wm w e i.2, go.small);
      once = take_is_one (joined wm c bs t e.tag) (memory_gives wm (own (length t) c bs).alpha (e.tag ∷ [])) (taken wm (members_from (suc (length t)) cs (binders_after (length t) c.tests bs)) (t ++ e.tag ∷ []) go.tags) p.1 right go';
    }

-- where the members take tags, the bindings can be extended
members_accepted : (wm : List Element) → IsWm wm → (cs : List Condition) (bs : List Binder) (t v : List ℕ) → AreBelow (length t) bs → MembersBound (length t) cs bs → taken wm (members_from (length t) cs bs) t v ≡ 1 → Extends wm cs (valued wm t bs)
members_accepted wm w [] bs t v low have h = tt
members_accepted wm w (c ∷ cs) bs t [] low have h = absurd (omega arith)
members_accepted wm w (c ∷ cs) bs t (x ∷ xs) low have h =
    let p = one_taken (joined wm c bs t x) (memory_gives wm (own (length t) c bs).alpha (x ∷ [])) (taken wm (members_from (suc (length t)) cs (binders_after (length t) c.tests bs)) (t ++ x ∷ []) xs) h (times_least (own (length t) c bs).alpha (elements_of wm x)) in
    by_element (λ bs' t' l v j. members_accepted wm w cs bs' t' xs l v j) (elements_of wm x) refl p.0 p.1 p.2
  where
    by_element : ((bs' : List Binder) (t' : List ℕ) → AreBelow (length t') bs' → MembersBound (length t') cs bs' → taken wm (members_from (length t') cs bs') t' xs ≡ 1 → Extends wm cs (valued wm t' bs'))
        → (o : Option Element) → elements_of wm x ≡ o → joined wm c bs t x ≡ true → times_passed (own (length t) c bs).alpha o ≡ 1
        → taken wm (members_from (suc (length t)) cs (binders_after (length t) c.tests bs)) (t ++ x ∷ []) xs ≡ 1
        → Extends wm (c ∷ cs) (valued wm t bs)
    by_element ih None is j p g = absurd (omega arith)
    by_element ih (Some e) is j p g =
        let m = member_of wm x e is in
        let a = is_one (passes_alpha (alpha_at (length t) c bs) e) p in
        let q = match_is wm c bs t x e low have.0 is ∙ ap₂ (λ y z. cond (y && z) (Some (valued wm (t ++ x ∷ []) (binders_after (length t) c.tests bs))) None) a j in
        let g' = ap (λ m. taken wm (members_from m cs (binders_after (length t) c.tests bs)) (t ++ x ∷ []) xs) (length_push t x) ∙ g in
        (e, valued wm (t ++ x ∷ []) (binders_after (length t) c.tests bs), m.0, q, ih (binders_after (length t) c.tests bs) (t ++ x ∷ []) (below_next t x c bs low) (members_next t x c cs bs have.1) g')

product_least : (j : Bool) (r g : ℕ) → r ≤ 1 → g ≤ 1 → cond j (r * g) 0 ≤ 1
product_least true zero g a b = omega arith
product_least true (suc zero) g a b = omega arith
product_least true (suc (suc r)) g a b = absurd (omega arith)
product_least false r g a b = omega arith

taken_least : (wm : List Element) (ss : List Single) (t v : List ℕ) → taken wm ss t v ≤ 1
taken_least wm [] t [] = omega arith
taken_least wm [] t (x ∷ xs) = omega arith
taken_least wm (s ∷ ss) t [] = omega arith
taken_least wm (s ∷ ss) t (x ∷ xs) =
    product_least (joins_hold s.tests (elements_of wm) t x) (memory_gives wm s.alpha (x ∷ [])) (taken wm ss (t ++ x ∷ []) xs) (times_least s.alpha (elements_of wm x)) (taken_least wm ss (t ++ x ∷ []) xs)

not_one : (n : ℕ) → n ≤ 1 → (n ≡ 1 → ⊥) → n ≡ 0
not_one zero le h = refl
not_one (suc zero) le h = absurd (h refl)
not_one (suc (suc n)) le h = absurd (omega arith)

abbrev group_count : List Element → List Single → List ℕ → ℕ
group_count wm ss t = Rattle.net_base.specs.Tokens.count_from (2 ^ 64) (length ss) (λ v. true) (λ v. takes (elements_of wm) wm ss t v) []

group_to : (wm : List Element) → IsWm wm → (cs : List Condition) (bs : List Binder) (t : List ℕ) → AreBelow (length t) bs → MembersBound (length t) cs bs → (Extends wm cs (valued wm t bs) → ⊥) → none_takes (2 ^ 64) (elements_of wm) wm (members_from (length t) cs bs) t ≡ true
group_to wm w cs bs t low have h =
    let ss = members_from (length t) cs bs in
    eq-eqb (group_count wm ss t) 0
    (tuples_none (2 ^ 64) (length ss) (λ v. true) (λ v. takes (elements_of wm) wm ss t v) []
    (λ v e s p. not_one (taken wm ss t v) (taken_least wm ss t v) (λ one. h (members_accepted wm w cs bs t v low have one))))

group_from : (wm : List Element) → IsWm wm → (cs : List Condition) (bs : List Binder) (t : List ℕ) → AreBelow (length t) bs → MembersBound (length t) cs bs → none_takes (2 ^ 64) (elements_of wm) wm (members_from (length t) cs bs) t ≡ true → Extends wm cs (valued wm t bs) → ⊥
group_from wm w cs bs t low have h i =
    let ss = members_from (length t) cs bs in
    let k = members_accept wm w cs bs t low have i in
    let z = tuples_each (2 ^ 64) (length ss) (λ v. true) (λ v. takes (elements_of wm) wm ss t v) [] k.tags (eqb-true (group_count wm ss t) 0 h) (k.count ∙ sym (count_members (length t) cs bs)) k.small refl in
    absurd (omega (arith, z, k.once))

-- what the rule accepts its steps accept once
pub accepts : (wm : List Element) → IsWm wm → (cs : List Part) (bs : List Binder) (t tags : List ℕ) → AreBelow (length t) bs → HaveBound (length t) cs bs → Meets wm cs (valued wm t bs) tags → matched wm (steps_from (length t) cs bs) t tags ≡ 1
accepts wm w [] bs t tags low have i = ap root_gives i
accepts wm w (Group ms ∷ cs) bs t tags low have i =
    ap (λ b. cond b (matched wm (steps_from (length t) cs bs) t tags) 0) (group_to wm w ms bs t low have.0 i.0) ∙ accepts wm w cs bs t tags low have.1 i.1
accepts wm w (One c ∷ cs) bs t tags low have i = by_sign (λ bs' t' tags' l h j. accepts wm w cs bs' t' tags' l h j) c.negated have.1 i
  where
    by_sign : ((bs' : List Binder) (t' tags' : List ℕ) → AreBelow (length t') bs' → HaveBound (length t') cs bs' → Meets wm cs (valued wm t' bs') tags' → matched wm (steps_from (length t') cs bs') t' tags' ≡ 1)
        → (b : Bool) → MoreBound b (length t) c cs bs → MatchBool b (MeetsNegated wm c cs (valued wm t bs) tags) (MeetsPositive wm c cs (valued wm t bs) tags)
        → one_step b wm (own (length t) c bs) (more_steps b (length t) c cs bs) t tags ≡ 1
    by_sign ih true more i = ap (λ b. cond b (matched wm (steps_from (length t) cs bs) t tags) 0) (none_to wm c bs t low have.0 i.0) ∙ ih bs t tags low more i.1
    by_sign ih false more i =
        let e = i.0 in
        let is = found_of wm w e i.3 in
        let p = both (passes_alpha (alpha_at (length t) c bs) e) (joined wm c bs t e.tag) (valued wm (t ++ e.tag ∷ []) (binders_after (length t) c.tests bs)) i.1 (sym (match_is wm c bs t e.tag e low have.0 is) ∙ i.4) in
        let right : memory_gives wm (own (length t) c bs).alpha (e.tag ∷ []) ≡ 1 = ap (times_passed (own (length t) c bs).alpha) is ∙ ap (λ b. cond b 1 0) p.0 in
        let meets : Meets wm cs (valued wm (t ++ e.tag ∷ []) (binders_after (length t) c.tests bs)) i.2 = subst (λ b. Meets wm cs b i.2) (sym p.2) i.6 in
        let go = ih (binders_after (length t) c.tests bs) (t ++ e.tag ∷ []) i.2 (below_next t e.tag c bs low) (have_next t e.tag c cs bs more) meets in
        let go' : matched wm (steps_from (suc (length t)) cs (binders_after (length t) c.tests bs)) (t ++ e.tag ∷ []) i.2 ≡ 1 =
        ap (λ m. matched wm (steps_from m cs (binders_after (length t) c.tests bs)) (t ++ e.tag ∷ []) i.2) (sym (length_push t e.tag)) ∙ go in
        ap (λ ys. take_one (elements_of wm) wm (own (length t) c bs) (λ u zs. matched wm (more_steps false (length t) c cs bs) u zs) t ys) i.5
        ∙ take_is_one (joined wm c bs t e.tag) (memory_gives wm (own (length t) c bs).alpha (e.tag ∷ [])) (matched wm (more_steps false (length t) c cs bs) (t ++ e.tag ∷ []) i.2) p.1 right go'

-- what the steps accept the rule accepts
pub accepted : (wm : List Element) → IsWm wm → (cs : List Part) (bs : List Binder) (t tags : List ℕ) → AreBelow (length t) bs → HaveBound (length t) cs bs → matched wm (steps_from (length t) cs bs) t tags ≡ 1 → Meets wm cs (valued wm t bs) tags
accepted wm w [] bs t [] low have h = refl
accepted wm w [] bs t (x ∷ xs) low have h = absurd (omega arith)
accepted wm w (Group ms ∷ cs) bs t tags low have h =
    let p = none_taken (none_takes (2 ^ 64) (elements_of wm) wm (members_from (length t) ms bs) t) (matched wm (steps_from (length t) cs bs) t tags) h in
    (λ i. group_from wm w ms bs t low have.0 p.0 i, accepted wm w cs bs t tags low have.1 p.1)
accepted wm w (One c ∷ cs) bs t tags low have h = by_sign (λ bs' t' tags' l v j. accepted wm w cs bs' t' tags' l v j) c.negated have.1 h
  where
    by_element : ((bs' : List Binder) (t' tags' : List ℕ) → AreBelow (length t') bs' → HaveBound (length t') cs bs' → matched wm (steps_from (length t') cs bs') t' tags' ≡ 1 → Meets wm cs (valued wm t' bs') tags')
        → HaveBound (suc (length t)) cs (binders_after (length t) c.tests bs)
        → (x : ℕ) (xs : List ℕ) (o : Option Element) → elements_of wm x ≡ o → joined wm c bs t x ≡ true → times_passed (own (length t) c bs).alpha o ≡ 1
        → matched wm (steps_from (suc (length t)) cs (binders_after (length t) c.tests bs)) (t ++ x ∷ []) xs ≡ 1
        → MeetsPositive wm c cs (valued wm t bs) (x ∷ xs)
    by_element ih more x xs None is j p g = absurd (omega arith)
    by_element ih more x xs (Some e) is j p g =
        let m = member_of wm x e is in
        let a = is_one (passes_alpha (alpha_at (length t) c bs) e) p in
        let q = match_is wm c bs t x e low have.0 is ∙ ap₂ (λ y z. cond (y && z) (Some (valued wm (t ++ x ∷ []) (binders_after (length t) c.tests bs))) None) a j in
        let g' = ap (λ m. matched wm (steps_from m cs (binders_after (length t) c.tests bs)) (t ++ x ∷ []) xs) (length_push t x) ∙ g in
        (e, valued wm (t ++ x ∷ []) (binders_after (length t) c.tests bs), xs, m.0, q, ap (λ z. z ∷ xs) (sym m.1), ih (binders_after (length t) c.tests bs) (t ++ x ∷ []) xs (below_next t x c bs low) (have_next t x c cs bs more) g')

    by_tags : ((bs' : List Binder) (t' tags' : List ℕ) → AreBelow (length t') bs' → HaveBound (length t') cs bs' → matched wm (steps_from (length t') cs bs') t' tags' ≡ 1 → Meets wm cs (valued wm t' bs') tags')
        → HaveBound (suc (length t)) cs (binders_after (length t) c.tests bs)
        → (ys : List ℕ) → take_one (elements_of wm) wm (own (length t) c bs) (λ u zs. matched wm (more_steps false (length t) c cs bs) u zs) t ys ≡ 1 → MeetsPositive wm c cs (valued wm t bs) ys
    by_tags ih more [] g = absurd (omega arith)
    by_tags ih more (x ∷ xs) g =
        let p = one_taken (joined wm c bs t x) (memory_gives wm (own (length t) c bs).alpha (x ∷ [])) (matched wm (more_steps false (length t) c cs bs) (t ++ x ∷ []) xs) g (times_least (own (length t) c bs).alpha (elements_of wm x)) in
        by_element ih more x xs (elements_of wm x) refl p.0 p.1 p.2

    by_sign : ((bs' : List Binder) (t' tags' : List ℕ) → AreBelow (length t') bs' → HaveBound (length t') cs bs' → matched wm (steps_from (length t') cs bs') t' tags' ≡ 1 → Meets wm cs (valued wm t' bs') tags')
        → (b : Bool) → MoreBound b (length t) c cs bs → one_step b wm (own (length t) c bs) (more_steps b (length t) c cs bs) t tags ≡ 1
        → MatchBool b (MeetsNegated wm c cs (valued wm t bs) tags) (MeetsPositive wm c cs (valued wm t bs) tags)
    by_sign ih true more g =
        let p = none_taken (none_joins (2 ^ 64) (elements_of wm) wm (own (length t) c bs) t) (matched wm (steps_from (length t) cs bs) t tags) g in
        (none_from wm w c bs t low have.0 p.0, ih bs t tags low more p.1)
    by_sign ih false more g = by_tags ih more tags g

-- ---- at most once

kept_least : (b : Bool) (g : ℕ) → g ≤ 1 → cond b g 0 ≤ 1
kept_least true g h = h
kept_least false g h = omega arith

pub matched_least : (wm : List Element) (ss : List Step) (t tags : List ℕ) → matched wm ss t tags ≤ 1
matched_least wm [] t [] = omega arith
matched_least wm [] t (x ∷ xs) = omega arith
matched_least wm (Many width ms ∷ ss) t tags = kept_least (none_takes (2 ^ 64) (elements_of wm) wm ms t) (matched wm ss t tags) (matched_least wm ss t tags)
matched_least wm (Alone b s ∷ ss) t tags = by_sign (λ u ys. matched_least wm ss u ys) b
  where
    by_tags : ((u ys : List ℕ) → matched wm ss u ys ≤ 1) → (ys : List ℕ) → take_one (elements_of wm) wm s (λ u zs. matched wm ss u zs) t ys ≤ 1
    by_tags ih [] = omega arith
    by_tags ih (x ∷ ys) = product_least (joins_hold s.tests (elements_of wm) t x) (memory_gives wm s.alpha (x ∷ [])) (matched wm ss (t ++ x ∷ []) ys) (times_least s.alpha (elements_of wm x)) (ih (t ++ x ∷ []) ys)

    by_sign : ((u ys : List ℕ) → matched wm ss u ys ≤ 1) → (b : Bool) → one_step b wm s ss t tags ≤ 1
    by_sign ih true = kept_least (none_joins (2 ^ 64) (elements_of wm) wm s t) (matched wm ss t tags) (ih t tags)
    by_sign ih false = by_tags ih tags
