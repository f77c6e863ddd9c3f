-- Lawful changes keep working memory in the order of its tags.
use Rattle.std.proofs.Common.{◌≡◌, ℕ, ◌+◌, ◌<◌, ◌≤◌, List, [], ◌∷◌, ◌++◌, map, filter, length, Bool, true, false, cond, not, ◌==◌, ◌||◌, refl, ap, sym, ◌∙◌, subst, inl, inr, ◌⊎◌, arith, get_or}
use Rattle.std.specs.Prelude.{◌≢◌, Contains}
use Rattle.std.specs.List.{All, list_any}
use Rattle.std.specs.List.Sorted.{IsStrictlyIncreasing}
use Rattle.std.proofs.lemmas.Bool.{cases_lt, eqb-true}
use Rattle.std.proofs.lemmas.Bool.Decides.{Decides-eqb, Decides-not}
use Rattle.std.proofs.lemmas.List.{length_push, get_or_append_left, get_or_push, map-append}
use Rattle.std.proofs.lemmas.List.Elements.{All-nil, All-cons, All-append, All-filter}
use Rattle.std.proofs.lemmas.List.Kept.{IsStrictlyIncreasing-filter}
use Rattle.std.proofs.lemmas.Map.Views.{Contains-from_any}
use Rattle.ops_base.specs.declared.elements.Element.{Element}
use Rattle.ops_base.specs.declared.elements.Change.{Change}
use Rattle.ops_base.specs.declared.elements.Change.TheVariants.{Add, Remove}
use Rattle.ops_base.specs.WorkingMemory.{tags_of, HasRisingTags, without_tag, done, last_after, Lawful}
use Rattle.ops_base.proofs.InOrder.{AllBefore, TagBelow, tags_in_order}
use Rattle.ops_base.proofs.Members.{IsMember, contains_from_member, member-map}
use Rattle.ops_base.proofs.Filtered.{Contains-filter}
use Rattle.ops_meaning.specs.Acting.{has_tag}
use Rattle.ops_meaning.specs.Kept.{WellKept}
use Rattle.ops_meaning.specs.Running.{removals}

-- ---- lists of tags

-- a number above all others goes last
rising_push : (xs : List ℕ) (x : ℕ) → IsStrictlyIncreasing xs → All (λ t. t < x) xs → IsStrictlyIncreasing (xs ++ x ∷ [])
rising_push xs x rising below k within =
    let long = length_push xs x in
    let at : k < length xs = omega arith in
    rw (get_or_append_left xs (x ∷ []) 0 k at) (by (cases_lt (k + 1) (length xs)) at)
  where
    by : (k + 1 < length xs) ⊎ (length xs ≤ k + 1) → k < length xs → get_or xs k 0 < get_or (xs ++ x ∷ []) (k + 1) 0
    by (inl inside) at = rw (get_or_append_left xs (x ∷ []) 0 (k + 1) inside) (rising k inside)
    by (inr past) at = rw (get_or_push xs x 0 (k + 1) (omega arith)) (below k 0 at)

tags_push : (wm : List Element) (e : Element) → tags_of (wm ++ e ∷ []) ≡ tags_of wm ++ e.tag ∷ []
tags_push wm e = map-append (λ e. e.tag) wm (e ∷ [])

tags_without : (tag : ℕ) (wm : List Element) → tags_of (without_tag tag wm) ≡ filter (λ t. not (t == tag)) (tags_of wm)
tags_without tag [] = refl
tags_without tag (e ∷ wm) = by (not (e.tag == tag)) (tags_without tag wm)
  where
    by : (b : Bool) → tags_of (without_tag tag wm) ≡ filter (λ t. not (t == tag)) (tags_of wm) → tags_of (cond b (e ∷ without_tag tag wm) (without_tag tag wm)) ≡ cond b (e.tag ∷ filter (λ t. not (t == tag)) (tags_of wm)) (filter (λ t. not (t == tag)) (tags_of wm))
    by true ih = ap (λ ts. e.tag ∷ ts) ih
    by false ih = ih

any_tag : (wm : List Element) (tag : ℕ) → has_tag wm tag ≡ list_any (λ t. t == tag) (tags_of wm)
any_tag [] tag = refl
any_tag (e ∷ wm) tag = ap (λ b. e.tag == tag || b) (any_tag wm tag)

-- a tag that is found is there
pub has_tag-Contains : (wm : List Element) (tag : ℕ) → has_tag wm tag ≡ true → Contains (tags_of wm) tag
has_tag-Contains wm tag h =
    Contains-from_any {eq = λ x y. y == x} (λ x y e. sym (eqb-true y x e)) tag (tags_of wm) (sym (any_tag wm tag) ∙ h)

-- ---- one change

abbrev Tags : List ℕ → ℕ → Type 0
Tags tags last = IsStrictlyIncreasing tags × All (λ t. t ≤ last) tags

-- an element with a tag above the last one is added
pub added_kept : (wm : List Element) (last : ℕ) (e : Element) → last < e.tag → WellKept wm last → WellKept (wm ++ e ∷ []) e.tag
added_kept wm last e above p =
    let P : List ℕ → Type 0 = λ ts. Tags ts e.tag in
    subst P (sym (tags_push wm e)) (
      rising_push (tags_of wm) e.tag p.0 (λ k d within. let le = p.1 k d within in omega (arith, above)),
      All-append (λ t. t ≤ e.tag) (tags_of wm) (e.tag ∷ []) (λ k d within. let le = p.1 k d within in omega (arith, above))
          (All-cons (λ t. t ≤ e.tag) e.tag [] (omega arith) (All-nil (λ t. t ≤ e.tag))),
    )

-- the element of a tag is taken out
removed_kept : (wm : List Element) (last tag : ℕ) → WellKept wm last → WellKept (without_tag tag wm) last
removed_kept wm last tag p =
    let P : List ℕ → Type 0 = λ ts. Tags ts last in
    subst P (sym (tags_without tag wm))
    (IsStrictlyIncreasing-filter (λ t. not (t == tag)) (tags_of wm) p.0, All-filter (λ t. not (t == tag)) (λ t. t ≤ last) (tags_of wm) p.1)

-- ---- changes

-- lawful changes keep working memory well
pub lawful_kept : (wm : List Element) (last : ℕ) (cs : List Change) → WellKept wm last → Lawful wm last cs → WellKept (done wm cs) (last_after last cs)
lawful_kept wm last [] p q = p
lawful_kept wm last (Add e ∷ cs) p q = lawful_kept (wm ++ e ∷ []) e.tag cs (added_kept wm last e q.0 p) q.1
lawful_kept wm last (Remove tag ∷ cs) p q = lawful_kept (without_tag tag wm) last cs (removed_kept wm last tag p) q.1

-- the last tag that was given never falls
pub lawful_risen : (wm : List Element) (last : ℕ) (cs : List Change) → Lawful wm last cs → last ≤ last_after last cs
lawful_risen wm last [] q = omega arith
lawful_risen wm last (Add e ∷ cs) q = let le = lawful_risen (wm ++ e ∷ []) e.tag cs q.1 in omega (arith, q.0)
lawful_risen wm last (Remove tag ∷ cs) q = lawful_risen (without_tag tag wm) last cs q.1

-- ---- one change more

pub lawful_push : (wm : List Element) (last : ℕ) (cs : List Change) (c : Change) → Lawful wm last cs → Lawful (done wm cs) (last_after last cs) (c ∷ []) → Lawful wm last (cs ++ c ∷ [])
lawful_push wm last [] c p q = q
lawful_push wm last (Add e ∷ cs) c p q = (p.0, lawful_push (wm ++ e ∷ []) e.tag cs c p.1 q)
lawful_push wm last (Remove tag ∷ cs) c p q = (p.0, lawful_push (without_tag tag wm) last cs c p.1 q)

-- ---- what commands remove

-- changes that give no tag leave working memory well kept
pub kept_after : (wm : List Element) (last : ℕ) (cs : List Change) → WellKept wm last → Lawful wm last cs → last_after last cs ≡ last → WellKept (done wm cs) last
kept_after wm last cs p q e = let P : ℕ → Type 0 = WellKept (done wm cs) in subst P e (lawful_kept wm last cs p q)

-- removals by tags are lawful, since an absent one is none
pub removals_lawful : (wm : List Element) (last : ℕ) (tags : List ℕ) → Lawful wm last (removals wm tags)
removals_lawful wm last [] = tt
removals_lawful wm last (t ∷ ts) =
    by (has_tag wm t) refl (removals_lawful (without_tag t wm) last ts) (removals_lawful wm last ts)
  where
    by : (b : Bool) → has_tag wm t ≡ b → Lawful (without_tag t wm) last (removals (without_tag t wm) ts) → Lawful wm last (removals wm ts)
        → Lawful wm last (cond b (Remove t ∷ removals (without_tag t wm) ts) (removals wm ts))
    by true is one none = (has_tag-Contains wm t is, one)
    by false is one none = none

-- and give no tag
pub removals_last : (wm : List Element) (last : ℕ) (tags : List ℕ) → last_after last (removals wm tags) ≡ last
removals_last wm last [] = refl
removals_last wm last (t ∷ ts) =
    by (has_tag wm t) (removals_last (without_tag t wm) last ts) (removals_last wm last ts)
  where
    by : (b : Bool) → last_after last (removals (without_tag t wm) ts) ≡ last → last_after last (removals wm ts) ≡ last
        → last_after last (cond b (Remove t ∷ removals (without_tag t wm) ts) (removals wm ts)) ≡ last
    by true one none = one
    by false one none = none

-- a greater tag stays there
stays_there : (wm : List Element) (tag other : ℕ) → tag < other → Contains (tags_of wm) other → Contains (tags_of (without_tag tag wm)) other
stays_there wm tag other below h =
    let P : List ℕ → Type 0 = λ ts. Contains ts other in
    let kept = Contains-filter (λ t. not (t == tag)) (λ t. t ≢ tag) (λ t. Decides-not (t == tag) (Decides-eqb t tag)) other (tags_of wm) in
    subst P (sym (tags_without tag wm)) (kept.1 (h, λ same. absurd (omega arith)))

each_lawful : (wm : List Element) (last : ℕ) (es : List Element) → AllBefore TagBelow es → ((e : Element) → IsMember e es → Contains (tags_of wm) e.tag) → Lawful wm last (map Remove (tags_of es))
each_lawful wm last [] a h = tt
each_lawful wm last (e ∷ es) a h =
    (h e (inl refl), each_lawful (without_tag e.tag wm) last es a.1 (λ f m. stays_there wm e.tag f.tag (a.0 f m) (h f (inr m))))

-- the removals of all elements are lawful
pub clearing_lawful : (wm : List Element) (last : ℕ) → HasRisingTags wm → Lawful wm last (map Remove (tags_of wm))
clearing_lawful wm last rising =
    each_lawful wm last wm (tags_in_order wm rising) (λ e m. contains_from_member e.tag (tags_of wm) (member-map (λ (f : Element). f.tag) e wm m))

-- and give no tag
pub clearing_last : (last : ℕ) (tags : List ℕ) → last_after last (map Remove tags) ≡ last
clearing_last last [] = refl
clearing_last last (t ∷ ts) = clearing_last last ts
