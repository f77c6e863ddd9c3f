-- Working memory by the tags of its elements, and what a change does to it.
use Rattle.std.proofs.Common.{◌≡◌, ◌≢◌, ◌≤◌, ◌<◌, ℕ, Bool, true, false, cond, not, ◌==◌, List, [], ◌∷◌, ◌++◌, refl, sym, ap, subst, ◌∙◌, arith, Option, Some, None, inl, inr}
use Rattle.std.specs.List.{All, AllByRecursion, Contains}
use Rattle.std.proofs.lemmas.List.Elements.{recursion_from_All}
use native.Mathlib.Decide.{ℕ_discrete}
use Rattle.std.proofs.lemmas.Bool.{eqb-true}
use Rattle.std.proofs.lemmas.Bool.Decides.{nat_tests}
use Rattle.ops_base.specs.declared.elements.Element.{Element}
use Rattle.ops_base.specs.declared.elements.Change.{Change}
use Rattle.ops_base.specs.declared.elements.Change.TheVariants.{Add, Remove}
use Rattle.ops_base.specs.WorkingMemory.{tags_of, without_tag, change_done, done, last_after, Lawful}
use Rattle.ops_base.proofs.Changes.{first_lawful, rest_lawful}
use Rattle.ops_base.proofs.Members.{IsMember, member_from_contains, contains_from_member}
use Rattle.net_base.specs.Tokens.{Elements, elements_of}
use Rattle.net_base.proofs.Instantiations.{member_of}
use Rattle.step_core.specs.Laws.{NamesWm, NamesAdded}
use Rattle.step_core.proofs.Named.{NameWm}

-- ---- the element of a tag

pub find_other : (wm : List Element) (e : Element) (tag : ℕ) → (e.tag == tag) ≡ false → elements_of (wm ++ e ∷ []) tag ≡ elements_of wm tag
find_other [] e tag other = ap (λ b. cond b (Some e) None) other
find_other (x ∷ xs) e tag other = ap (λ o. cond (x.tag == tag) (Some x) o) (find_other xs e tag other)

pub find_new : (wm : List Element) (e : Element) → elements_of wm e.tag ≡ None → elements_of (wm ++ e ∷ []) e.tag ≡ Some e
find_new [] e none = let same : (e.tag == e.tag) ≡ true = grind (arith, nat_tests) in ap (λ b. cond b (Some e) None) same
find_new (x ∷ xs) e none = by (find_new xs e) (x.tag == e.tag) none
  where
    by : (elements_of xs e.tag ≡ None → elements_of (xs ++ e ∷ []) e.tag ≡ Some e)
        → (b : Bool) → ◌≡◌ {A = Option Element} (cond b (Some x) (elements_of xs e.tag)) None → ◌≡◌ {A = Option Element} (cond b (Some x) (elements_of (xs ++ e ∷ []) e.tag)) (Some e)
    by ih true n = absurd (cc)
    by ih false n = ih n

pub find_low : (wm : List Element) (last tag : ℕ) → AllByRecursion (λ t. t ≤ last) (tags_of wm) → last < tag → elements_of wm tag ≡ None
find_low [] last tag low lt = refl
find_low (x ∷ xs) last tag low lt =
    let other : (x.tag == tag) ≡ false = grind (arith, nat_tests, low.0) in
    ap (λ b. cond b (Some x) (elements_of xs tag)) other ∙ find_low xs last tag low.1 lt

pub find_gone : (wm : List Element) (tag : ℕ) → elements_of (without_tag tag wm) tag ≡ None
find_gone [] tag = refl
find_gone (x ∷ xs) tag = by (find_gone xs tag) (x.tag == tag) refl
  where
    by : elements_of (without_tag tag xs) tag ≡ None → (b : Bool) → (x.tag == tag) ≡ b → elements_of (cond (not b) (x ∷ without_tag tag xs) (without_tag tag xs)) tag ≡ None
    by ih true at = ih
    by ih false at = ap (λ b. cond b (Some x) (elements_of (without_tag tag xs) tag)) at ∙ ih

pub find_kept : (wm : List Element) (tag k : ℕ) → tag ≢ k → elements_of (without_tag tag wm) k ≡ elements_of wm k
find_kept [] tag k ne = refl
find_kept (x ∷ xs) tag k ne = by (find_kept xs tag k ne) (x.tag == tag) refl
  where
    by : elements_of (without_tag tag xs) k ≡ elements_of xs k → (b : Bool) → (x.tag == tag) ≡ b
        → elements_of (cond (not b) (x ∷ without_tag tag xs) (without_tag tag xs)) k ≡ cond (x.tag == k) (Some x) (elements_of xs k)
    by ih true at =
        let same : x.tag ≡ tag = eqb-true x.tag tag at in
        let other : (x.tag == k) ≡ false = grind (arith, nat_tests) in
        ih ∙ sym (ap (λ b. cond b (Some x) (elements_of xs k)) other)
    by ih false at = ap (λ o. cond (x.tag == k) (Some x) o) ih

pub find_there : (wm : List Element) (tag : ℕ) → Contains (tags_of wm) tag → (e : Element) × (elements_of wm tag ≡ Some e)
find_there wm tag c = by wm (member_from_contains tag (tags_of wm) c)
  where
    by : (xs : List Element) → IsMember tag (tags_of xs) → (e : Element) × (elements_of xs tag ≡ Some e)
    by [] m = absurd m
    by (x ∷ xs) (inl e) =
        let same : (x.tag == tag) ≡ true = grind (arith, nat_tests) in
        (x, ap (λ b. cond b (Some x) (elements_of xs tag)) same)
    by (x ∷ xs) (inr m) = either (by xs m) (x.tag == tag)
      where
        either : (e : Element) × (elements_of xs tag ≡ Some e) → (b : Bool) → (e : Element) × ◌≡◌ {A = Option Element} (cond b (Some x) (elements_of xs tag)) (Some e)
        either later true = (x, refl)
        either later false = later

-- ---- a working memory whose tags name its elements, none of them above the last

pub record IsKnown (elements : Elements) (last : ℕ) (wm : List Element) : Type 0 where
  pub low : AllByRecursion (λ t. t ≤ last) (tags_of wm)
  pub name : NameWm elements wm

pub known : (elements : Elements) (last : ℕ) (wm : List Element) → All (λ t. t ≤ last) (tags_of wm) → NamesWm elements wm → IsKnown elements last wm
known elements last wm low name = record {
  low = recursion_from_All (λ t. t ≤ last) (tags_of wm) low;
  name = λ tag e is. let m = member_of wm tag e is in subst (λ k. elements k ≡ Some e) m.1 (name e m.0);
}

pub low_push : (wm : List Element) (e : Element) (last : ℕ) → last < e.tag → AllByRecursion (λ t. t ≤ last) (tags_of wm) → AllByRecursion (λ t. t ≤ e.tag) (tags_of (wm ++ e ∷ []))
low_push [] e last lt low = (omega arith, tt)
low_push (x ∷ xs) e last lt low = (omega (arith, low.0), low_push xs e last lt low.1)

pub low_without : (wm : List Element) (tag last : ℕ) → AllByRecursion (λ t. t ≤ last) (tags_of wm) → AllByRecursion (λ t. t ≤ last) (tags_of (without_tag tag wm))
low_without [] tag last low = tt
low_without (x ∷ xs) tag last low = by (low_without xs tag last low.1) (not (x.tag == tag))
  where
    by : AllByRecursion (λ t. t ≤ last) (tags_of (without_tag tag xs)) → (b : Bool) → AllByRecursion (λ t. t ≤ last) (tags_of (cond b (x ∷ without_tag tag xs) (without_tag tag xs)))
    by ih true = (low.0, ih)
    by ih false = ih

pub added_name : (elements : Elements) (e : Element) (cs : List Change) → NamesAdded elements (Add e ∷ cs) → elements e.tag ≡ Some e
added_name elements e cs names = names e (contains_from_member (Add e) (Add e ∷ cs) (inl refl))

pub first_names : (elements : Elements) (c : Change) (cs : List Change) → NamesAdded elements (c ∷ cs) → NamesAdded elements (c ∷ [])
first_names elements c cs names e has = by (member_from_contains (Add e) (c ∷ []) has)
  where
    by : IsMember (Add e) (c ∷ []) → elements e.tag ≡ Some e
    by (inl same) = names e (contains_from_member (Add e) (c ∷ cs) (inl same))
    by (inr m) = absurd m

pub later_names : (elements : Elements) (c : Change) (cs : List Change) → NamesAdded elements (c ∷ cs) → NamesAdded elements cs
later_names elements c cs names e has = names e (contains_from_member (Add e) (c ∷ cs) (inr (member_from_contains (Add e) cs has)))

pub known_after : (elements : Elements) (last : ℕ) (wm : List Element) (c : Change) → IsKnown elements last wm → Lawful wm last (c ∷ []) → NamesAdded elements (c ∷ [])
    → IsKnown elements (last_after last (c ∷ [])) (change_done wm c)
known_after elements last wm (Add e) k lawful names = record {
  low = low_push wm e last lawful.0 k.low;
  name = λ tag x is. by tag x is (e.tag == tag) refl;
}
  where
    by : (tag : ℕ) (x : Element) → elements_of (wm ++ e ∷ []) tag ≡ Some x → (b : Bool) → (e.tag == tag) ≡ b → elements tag ≡ Some x
    by tag x is true at =
        let same : e.tag ≡ tag = eqb-true e.tag tag at in
        let new = find_new wm e (find_low wm last e.tag k.low lawful.0) in
        let one : elements_of (wm ++ e ∷ []) e.tag ≡ Some x = ap (elements_of (wm ++ e ∷ [])) same ∙ is in
        ap elements (sym same) ∙ (added_name elements e [] names ∙ (sym new ∙ one))
    by tag x is false at = k.name tag x (sym (find_other wm e tag at) ∙ is)
known_after elements last wm (Remove gone) k lawful names = record {
  low = low_without wm gone last k.low;
  name = λ tag x is. by tag x is (ℕ_discrete gone tag);
}
  where
    by : (tag : ℕ) (x : Element) → elements_of (without_tag gone wm) tag ≡ Some x → Dec (gone ≡ tag) → elements tag ≡ Some x
    by tag x is (yes same) =
        let none = find_gone wm gone in
        let here : elements_of (without_tag gone wm) gone ≡ Some x = ap (elements_of (without_tag gone wm)) same ∙ is in
        absurd (cc)
    by tag x is (no other) = k.name tag x (sym (find_kept wm gone tag other) ∙ is)

pub known_done : (elements : Elements) (last : ℕ) (wm : List Element) (cs : List Change) → IsKnown elements last wm → Lawful wm last cs → NamesAdded elements cs → IsKnown elements (last_after last cs) (done wm cs)
known_done elements last wm [] k lawful names = k
known_done elements last wm (c ∷ cs) k lawful names =
    subst (λ l. IsKnown elements l (done (change_done wm c) cs)) (sym (one_more c))
    (known_done elements (last_after last (c ∷ [])) (change_done wm c) cs
    (known_after elements last wm c k (first_lawful wm last c cs lawful) (first_names elements c cs names)) (rest_lawful wm last c cs lawful) (later_names elements c cs names))
  where
    one_more : (d : Change) → last_after last (d ∷ cs) ≡ last_after (last_after last (d ∷ [])) cs
    one_more (Add e) = refl
    one_more (Remove tag) = refl
