-- Working memory that is made anew is what it was, and so is the last tag.
use Rattle.std.proofs.Common.{◌≡◌, ◌≢◌, ℕ, zero, suc, ◌+◌, ◌<◌, ◌≤◌, List, [], ◌∷◌, ◌++◌, length, map, filter, not, ◌==◌, Bool, true, false, cond, refl, ap, sym, ◌∙◌, subst, arith, inl}
use Rattle.std.specs.Prelude.{get_or, Contains}
use Rattle.std.specs.Bool.{Decides}
use Rattle.std.specs.List.Sorted.{IsStrictlyIncreasing}
use Rattle.std.proofs.lemmas.Bool.{false≢true}
use Rattle.std.proofs.lemmas.Bool.Decides.{Decides-eqb}
use Rattle.std.proofs.lemmas.List.{append-nil, append_assoc}
use Rattle.ops_base.specs.declared.elements.Element.{Element}
use Rattle.ops_base.specs.declared.elements.Change.{Change}
use Rattle.ops_base.specs.declared.elements.Change.TheVariants.{Add, Remove}
use Rattle.ops_base.specs.WorkingMemory.{tags_of, HasRisingTags, change_done, done, last_after, Lawful, without_tag}
use Rattle.ops_base.specs.Feeding.{Rises, of_no_class, tag_given, fed_again}
use Rattle.ops_base.proofs.Members.{IsMember, contains_from_member, member_right, member-map}

abbrev pub StartsAbove : ℕ → List Element → Type 0
StartsAbove l [] = Unit {0}
StartsAbove l (e ∷ es) = l < e.tag

later : (x : ℕ) (xs : List ℕ) → IsStrictlyIncreasing (x ∷ xs) → IsStrictlyIncreasing xs
later x xs inc k d =
    let e : suc k + 1 ≡ suc (k + 1) = omega arith in
    let P : ℕ → Type 0 = λ j. get_or (x ∷ xs) (suc k) 0 < get_or (x ∷ xs) j 0 in subst P e (inc (suc k) (omega (arith, d)))

pub rises : (l : ℕ) (es : List Element) → StartsAbove l es → HasRisingTags es → Rises l es
rises l [] above inc = tt
rises l (e ∷ []) above inc = (above, tt)
rises l (e ∷ f ∷ es) above inc =
    (above, rises e.tag (f ∷ es) (inc 0 (omega arith)) (later e.tag (tags_of (f ∷ es)) inc))

-- ---- the elements

fed_done : (wm es : List Element) → done wm (map Add es) ≡ wm ++ es
fed_done wm [] = sym (append-nil wm)
fed_done wm (e ∷ es) = fed_done (wm ++ e ∷ []) es ∙ append_assoc wm (e ∷ []) es

done_append : (wm : List Element) (cs ds : List Change) → done wm (cs ++ ds) ≡ done (done wm cs) ds
done_append wm [] ds = refl
done_append wm (c ∷ cs) ds = done_append (change_done wm c) cs ds

last_append : (l : ℕ) (cs ds : List Change) → last_after l (cs ++ ds) ≡ last_after (last_after l cs) ds
last_append l [] ds = refl
last_append l (Add e ∷ cs) ds = last_append e.tag cs ds
last_append l (Remove t ∷ cs) ds = last_append l cs ds

lawful_append : (wm : List Element) (l : ℕ) (cs ds : List Change) → Lawful wm l cs → Lawful (done wm cs) (last_after l cs) ds → Lawful wm l (cs ++ ds)
lawful_append wm l [] ds p q = q
lawful_append wm l (Add e ∷ cs) ds p q = (p.0, lawful_append (wm ++ e ∷ []) e.tag cs ds p.1 q)
lawful_append wm l (Remove t ∷ cs) ds p q = (p.0, lawful_append (without_tag t wm) l cs ds p.1 q)

fed_lawful : (wm : List Element) (l : ℕ) (es : List Element) → Rises l es → Lawful wm l (map Add es)
fed_lawful wm l [] p = tt
fed_lawful wm l (e ∷ es) p = (p.0, fed_lawful (wm ++ e ∷ []) e.tag es p.1)

-- ---- the last tag

-- no tag of these is this one
abbrev AreBelow : ℕ → List Element → Type 0
AreBelow t [] = Unit {0}
AreBelow t (e ∷ es) = (e.tag < t) × AreBelow t es

below_last : (l t : ℕ) (es : List Element) → Rises l es → last_after l (map Add es) < t → AreBelow t es × (l < t)
below_last l t [] p h = (tt, h)
below_last l t (e ∷ es) p h =
    let r = below_last e.tag t es p.1 h in ((r.1, r.0), omega (arith, p.0, r.1))

goes_again : (t : ℕ) (es : List Element) (d : Element) → d.tag ≡ t → AreBelow t es → without_tag t (es ++ d ∷ []) ≡ es
goes_again t [] d is p = at (d.tag == t) (Decides-eqb d.tag t)
  where
    at : (b : Bool) → Decides b (d.tag ≡ t) → cond (not b) (d ∷ []) [] ≡ []
    at true q = refl
    at false q = absurd (false≢true (q.1 is))
goes_again t (e ∷ es) d is p =
    at (e.tag == t) (Decides-eqb e.tag t) (goes_again t es d is p.1)
  where
    at : (b : Bool) → Decides b (e.tag ≡ t) → without_tag t (es ++ d ∷ []) ≡ es → cond (not b) (e ∷ without_tag t (es ++ d ∷ [])) (without_tag t (es ++ d ∷ [])) ≡ e ∷ es
    at true q rest = (let same = q.0 refl in absurd (omega (arith, p.0, same)))
    at false q rest = ap (λ xs. e ∷ xs) rest

-- ---- all of it

pub record IsFedAgain (classes : ℕ) (wm : List Element) (last : ℕ) : Type 0 where
  pub lawful : Lawful [] 0 (fed_again classes wm last)
  pub elements : done [] (fed_again classes wm last) ≡ wm
  pub tag : last_after 0 (fed_again classes wm last) ≡ last

-- Where the tags rise from 1 on and the last one of them is at most that which was given last.
pub fed_anew : (classes : ℕ) (wm : List Element) (last : ℕ) → Rises 0 wm → last_after 0 (map Add wm) ≤ last → IsFedAgain classes wm last
fed_anew classes wm last rise within = record { lawful = lawful; elements = elements; tag = tag }
  where
    given : ℕ
    given = last_after 0 (map Add wm)

    d : Element
    d = of_no_class classes last

    -- what the last two changes do to what was fed
    end_lawful : (b : Bool) → Decides b (given ≡ last) → Lawful wm given (cond b [] (Add d ∷ Remove last ∷ []))
    end_lawful true q = tt
    end_lawful false q =
        let differs : given ≢ last = λ e. false≢true (q.1 e) in
        let below : given < last = omega (arith, within, differs) in
        (below, (contains_from_member last (tags_of (wm ++ d ∷ [])) (member-map (λ (e : Element). e.tag) d (wm ++ d ∷ []) (member_right d wm (d ∷ []) (inl refl))), tt))

    end_done : (b : Bool) → Decides b (given ≡ last) → done wm (cond b [] (Add d ∷ Remove last ∷ [])) ≡ wm
    end_done true q = refl
    end_done false q =
        let differs : given ≢ last = λ e. false≢true (q.1 e) in
        let below : given < last = omega (arith, within, differs) in goes_again last wm d refl (below_last 0 last wm rise below).0

    end_last : (b : Bool) → Decides b (given ≡ last) → last_after given (cond b [] (Add d ∷ Remove last ∷ [])) ≡ last
    end_last true q = q.0 refl
    end_last false q = refl

    decides : Decides (given == last) (given ≡ last)
    decides = Decides-eqb given last

    lawful : Lawful [] 0 (fed_again classes wm last)
    lawful =
        let P : List Element → Type 0 = λ w. Lawful w given (tag_given classes given last) in
        lawful_append [] 0 (map Add wm) (tag_given classes given last) (fed_lawful [] 0 wm rise) (subst P (sym (fed_done [] wm)) (end_lawful (given == last) decides))

    elements : done [] (fed_again classes wm last) ≡ wm
    elements =
        done_append [] (map Add wm) (tag_given classes given last)
        ∙ ap (λ w. done w (tag_given classes given last)) (fed_done [] wm) ∙ end_done (given == last) decides

    tag : last_after 0 (fed_again classes wm last) ≡ last
    tag = last_append 0 (map Add wm) (tag_given classes given last) ∙ end_last (given == last) decides
