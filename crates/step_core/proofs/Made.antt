-- Lawful changes make a working memory of an empty one.
use Rattle.std.proofs.Common.{◌≡◌, ◌^◌, ℕ, ◌+◌, ◌<◌, ◌≤◌, List, [], ◌∷◌, ◌++◌, filter, length, Bool, true, false, cond, not, ◌==◌, refl, ap, sym, subst, inl, inr, ◌⊎◌, arith, get_or}
use Rattle.std.specs.List.{All, AllByRecursion}
use Rattle.std.specs.List.Sorted.{IsStrictlyIncreasing}
use Rattle.std.proofs.lemmas.Bool.{cases_lt}
use Rattle.std.proofs.lemmas.List.{length_push, get_or_append_left, get_or_push, map-append}
use Rattle.std.proofs.lemmas.List.Elements.{All-from_recursion}
use Rattle.std.proofs.lemmas.List.Kept.{IsStrictlyIncreasing-filter}
use Rattle.ops_base.specs.declared.elements.Element.{Element}
use Rattle.ops_base.specs.declared.elements.Change.{Change}
use Rattle.ops_base.specs.declared.elements.Change.TheVariants.{Add, Remove}
use Rattle.ops_base.specs.WorkingMemory.{tags_of, without_tag, HasRisingTags, done, Lawful}
use Rattle.ops_base.proofs.Members.{member_from_contains, contains_from_member}
use Rattle.net_base.specs.Network.{IsWm}
use Rattle.step_core.specs.Laws.{AreSmall}
use Rattle.step_core.proofs.Memory.{low_push, low_without}

-- a number above all others goes last
rising_push : (xs : List ℕ) (x : ℕ) → IsStrictlyIncreasing xs → All (λ t. t < x) xs → IsStrictlyIncreasing (xs ++ x ∷ [])
rising_push xs x rising below k within =
    let long = length_push xs x in
    let at : k < length xs = omega arith in
    rw (get_or_append_left xs (x ∷ []) 0 k at) (by (cases_lt (k + 1) (length xs)) at)
  where
    by : (k + 1 < length xs) ⊎ (length xs ≤ k + 1) → k < length xs → get_or xs k 0 < get_or (xs ++ x ∷ []) (k + 1) 0
    by (inl inside) at = rw (get_or_append_left xs (x ∷ []) 0 (k + 1) inside) (rising k inside)
    by (inr past) at = rw (get_or_push xs x 0 (k + 1) (omega arith)) (below k 0 at)

below_all : (last x : ℕ) → last < x → (xs : List ℕ) → AllByRecursion (λ t. t ≤ last) xs → AllByRecursion (λ t. t < x) xs
below_all last x lt [] low = tt
below_all last x lt (y ∷ ys) low = (omega (arith, low.0), below_all last x lt ys low.1)

tags_without : (tag : ℕ) (wm : List Element) → tags_of (without_tag tag wm) ≡ filter (λ t. not (t == tag)) (tags_of wm)
tags_without tag [] = refl
tags_without tag (e ∷ wm) = by (not (e.tag == tag)) (tags_without tag wm)
  where
    by : (b : Bool) → tags_of (without_tag tag wm) ≡ filter (λ t. not (t == tag)) (tags_of wm)
        → tags_of (cond b (e ∷ without_tag tag wm) (without_tag tag wm)) ≡ cond b (e.tag ∷ filter (λ t. not (t == tag)) (tags_of wm)) (filter (λ t. not (t == tag)) (tags_of wm))
    by true ih = ap (λ ts. e.tag ∷ ts) ih
    by false ih = ih

abbrev pub IsSmall : Element → Type 0
IsSmall e = e.tag < 2 ^ 64

small_push : (wm : List Element) (e : Element) → AllByRecursion IsSmall wm → IsSmall e → AllByRecursion IsSmall (wm ++ e ∷ [])
small_push [] e small new = (new, tt)
small_push (x ∷ xs) e small new = (small.0, small_push xs e small.1 new)

small_without : (tag : ℕ) (wm : List Element) → AllByRecursion IsSmall wm → AllByRecursion IsSmall (without_tag tag wm)
small_without tag [] small = tt
small_without tag (x ∷ xs) small = by (small_without tag xs small.1) (not (x.tag == tag))
  where
    by : AllByRecursion IsSmall (without_tag tag xs) → (b : Bool) → AllByRecursion IsSmall (cond b (x ∷ without_tag tag xs) (without_tag tag xs))
    by ih true = (small.0, ih)
    by ih false = ih

later_small : (c : Change) (cs : List Change) → AreSmall (c ∷ cs) → AreSmall cs
later_small c cs small e has = small e (contains_from_member (Add e) (c ∷ cs) (inr (member_from_contains (Add e) cs has)))

-- a working memory all of whose tags are at most the last one
record IsMade (wm : List Element) (last : ℕ) : Type 0 where
  pub rising : HasRisingTags wm
  pub low : AllByRecursion (λ t. t ≤ last) (tags_of wm)
  pub small : AllByRecursion IsSmall wm

made_more : (wm : List Element) (last : ℕ) (cs : List Change) → IsMade wm last → Lawful wm last cs → AreSmall cs → IsWm (done wm cs)
made_more wm last [] made lawful small = record { rising = made.rising; small = All-from_recursion IsSmall wm made.small }
made_more wm last (Add e ∷ cs) made lawful small =
    made_more (wm ++ e ∷ []) e.tag cs (record {
      rising = subst IsStrictlyIncreasing (sym (map-append (λ (x : Element). x.tag) wm (e ∷ [])))
          (rising_push (tags_of wm) e.tag made.rising (All-from_recursion (λ t. t < e.tag) (tags_of wm) (below_all last e.tag lawful.0 (tags_of wm) made.low)));
      low = low_push wm e last lawful.0 made.low;
      small = small_push wm e made.small (small e (contains_from_member (Add e) (Add e ∷ cs) (inl refl)));
    }) lawful.1 (later_small (Add e) cs small)
made_more wm last (Remove tag ∷ cs) made lawful small =
    made_more (without_tag tag wm) last cs (record {
      rising = subst IsStrictlyIncreasing (sym (tags_without tag wm)) (IsStrictlyIncreasing-filter (λ t. not (t == tag)) (tags_of wm) made.rising);
      low = low_without wm tag last made.low;
      small = small_without tag wm made.small;
    }) lawful.1 (later_small (Remove tag) cs small)

pub made_wm : (last : ℕ) (cs : List Change) → Lawful [] last cs → AreSmall cs → IsWm (done [] cs)
made_wm last cs lawful small = made_more [] last cs (record { rising = λ k within. absurd (omega arith); low = tt; small = tt }) lawful small
