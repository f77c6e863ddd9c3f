-- What a store holds once changes are done to it.
use Rattle.std.proofs.Common.{inl, inr, ◌≡◌, ℕ, ◌<◌, ◌≤◌, ◌==◌, true, false, cond, List, [], ◌∷◌, ◌++◌, refl, sym, ap, subst, ◌∙◌, arith, Some, None, IsSome}
use Rattle.std.specs.List.{AllByRecursion}
use Rattle.std.specs.Option.{option_or}
use Rattle.std.proofs.lemmas.Bool.Decides.{Decides-eqb, nat_tests}
use Rattle.std.proofs.lemmas.List.Elements.{recursion_from_All, All-from_recursion}
use Rattle.ops_base.specs.declared.elements.Element.{Element}
use Rattle.ops_base.specs.declared.elements.Change.{Change}
use Rattle.ops_base.specs.declared.elements.Change.TheVariants.{Add, Remove}
use Rattle.ops_base.specs.WorkingMemory.{tags_of, without_tag, Lawful}
use Rattle.ops_base.proofs.InOrder.{AllBefore, TagBelow, tags_in_order}
use Rattle.ops_base.proofs.Members.{IsMember, member_from_contains}
use Rattle.work_store.specs.Stored.{Stored, held_of, of_tag, added_by, HoldsAlso, IsStored}
use Rattle.step_core.specs.Feeding.{IsKnown}
use Rattle.step_core.specs.Laws.{NamesAdded}
use Rattle.step_core.proofs.Memory.{find_low, find_there, known_after, first_names, later_names, added_name}
use Rattle.step_core.proofs.Memory
use Rattle.step_core.specs.Settling.{HoldsWm, StoreLaw}

-- the store without what it kept
abbrev pub forgot : Stored → Stored
forgot s = record s { kept = [] }

abbrev pub low_tags : ℕ → List Element → Type 0
low_tags last wm = AllByRecursion (λ t. t ≤ last) (tags_of wm)

pub low_elements : (es more : List Element) (last : ℕ) → low_tags last (es ++ more) → low_tags last es
low_elements [] more last low = tt
low_elements (e ∷ es) more last low = (low.0, low_elements es more last low.1)

pub stored_low : (s : Stored) → IsStored s → low_tags s.last s.elements
stored_low s is = low_elements s.elements s.kept s.last (recursion_from_All (λ t. t ≤ s.last) (tags_of (s.elements ++ s.kept)) is.below)

pub holds_own : (s : Stored) → HoldsWm s.elements s
holds_own s tag e at = ap (λ o. option_or o (of_tag s.kept tag)) at

-- an added element is the first of its tag, and its tag is above the last
pub record IsNew (last : ℕ) (cs : List Change) (e : Element) : Type 0 where
  pub above : last < e.tag
  pub first : of_tag (added_by cs) e.tag ≡ Some e

added_new : (wm : List Element) (last : ℕ) (cs : List Change) → Lawful wm last cs → (e : Element) → IsMember (Add e) cs → IsNew last cs e
added_new wm last [] lawful e m = absurd m
added_new wm last (Add x ∷ cs) lawful e (inl is) =
    let same : e ≡ x = cc in
    let own : (x.tag == x.tag) ≡ true = grind (arith, nat_tests) in
    subst (IsNew last (Add x ∷ cs)) (sym same) (record { above = lawful.0; first = ap (λ b. cond b (Some x) (of_tag (added_by cs) x.tag)) own })
added_new wm last (Add x ∷ cs) lawful e (inr m) =
    let r = added_new (wm ++ x ∷ []) x.tag cs lawful.1 e m in
    let low = r.above in
    let up = lawful.0 in
    let other : (x.tag == e.tag) ≡ false = grind (arith, nat_tests, low) in
    record { above = omega (arith, low, up); first = ap (λ b. cond b (Some x) (of_tag (added_by cs) e.tag)) other ∙ r.first }
added_new wm last (Remove tag ∷ cs) lawful e (inl is) = absurd (cc)
added_new wm last (Remove tag ∷ cs) lawful e (inr m) =
    let r = added_new (without_tag tag wm) last cs lawful.1 e m in record { above = r.above; first = r.first }

module _ (s s' : Stored) (cs : List Change) (low : low_tags s.last s.elements) (lawful : Lawful s.elements s.last cs) (kept : HoldsAlso (forgot s) s' (added_by cs)) where
  pub holds_before : HoldsWm s.elements s'
  holds_before tag e at = kept tag ∙ ap (λ o. option_or (option_or o None) (of_tag (added_by cs) tag)) at

  pub names_added : NamesAdded (held_of s') cs
  names_added e c =
      let is = added_new s.elements s.last cs lawful e (member_from_contains (Add e) cs c) in
      kept e.tag ∙ (ap (λ o. option_or (option_or o None) (of_tag (added_by cs) e.tag)) (find_low s.elements s.last e.tag low is.above) ∙ is.first)

  pub known_before : Memory.IsKnown (held_of s') s.last s.elements
  known_before = record { low = low; name = holds_before }

all_known : (s : Stored) (last : ℕ) (wm : List Element) (cs : List Change) → Memory.IsKnown (held_of s) last wm → Lawful wm last cs → NamesAdded (held_of s) cs → AllByRecursion (IsKnown s) cs
all_known s last wm [] k lawful names = tt
all_known s last wm (Add e ∷ cs) k lawful names = (
  added_name (held_of s) e cs names,
  all_known s e.tag (wm ++ e ∷ []) cs (known_after (held_of s) last wm (Add e) k (lawful.0, tt) (first_names (held_of s) (Add e) cs names)) lawful.1 (later_names (held_of s) (Add e) cs names),
)
all_known s last wm (Remove tag ∷ cs) k lawful names = (
  (let f = find_there wm tag lawful.0 in subst IsSome (sym (k.name tag f.0 f.1)) refl),
  all_known s last (without_tag tag wm) cs (known_after (held_of s) last wm (Remove tag) k (lawful.0, tt) (first_names (held_of s) (Remove tag) cs names)) lawful.1 (later_names (held_of s) (Remove tag) cs names),
)

-- a member is the first of its tag
first_of : (wm : List Element) → AllBefore TagBelow wm → (e : Element) → IsMember e wm → of_tag wm e.tag ≡ Some e
first_of [] a e m = absurd m
first_of (x ∷ xs) a e (inl is) =
    let tags = ap (λ (y : Element). y.tag) is in
    let own : (x.tag == e.tag) ≡ true = (Decides-eqb x.tag e.tag).1 (sym tags) in
    ap (λ b. cond b (Some x) (of_tag xs e.tag)) own ∙ ap Some (sym is)
first_of (x ∷ xs) a e (inr m) =
    let low = a.0 e m in
    let other : (x.tag == e.tag) ≡ false = grind (arith, nat_tests, low) in
    ap (λ b. cond b (Some x) (of_tag xs e.tag)) other ∙ first_of xs a.1 e m

pub store_law : StoreLaw
store_law s s' cs is lawful kept =
    let low = stored_low s is in record {
      low = All-from_recursion (λ t. t ≤ s.last) (tags_of s.elements) low;
      holds = holds_before s s' cs low lawful kept;
      names = λ e c. holds_before s s' cs low lawful kept e.tag e (first_of s.elements (tags_in_order s.elements is.rising) e (member_from_contains e s.elements c));
      known = All-from_recursion (IsKnown s') cs (all_known s' s.last s.elements cs (known_before s s' cs low lawful kept) lawful (names_added s s' cs low lawful kept));
      added = names_added s s' cs low lawful kept;
    }
