-- Where productions stand, what becomes of marks, and a working memory that is made anew.
use Rattle.std.proofs.Common.{◌≡◌, ℕ, zero, suc, ◌+◌, ◌<◌, ◌≤◌, List, [], ◌∷◌, ◌++◌, map, length, Option, Some, None, refl, ap, sym, ◌∙◌, subst, inl, inr, arith}
use Rattle.std.specs.Prelude.{slice_get, option_map, option_and_then, Contains, ◌↔◌, Result, Ok, Err, IfOk}
use Rattle.std.specs.List.{filter_map, cons_option, All, AllByRecursion}
use Rattle.std.specs.declared.cmp.Ordering.TheVariants.{Less}
use Rattle.std.specs.Ordering.{nat_cmp}
use Rattle.std.specs.Cmp.{nat_cmp_is}
use Rattle.std.proofs.lemmas.Cmp.{ranked}
use Rattle.std.proofs.lemmas.List.Elements.{recursion_from_All}
use Rattle.std.proofs.lemmas.Option.{slice_get-map}
use Rattle.ops_base.specs.declared.elements.Element.{Element}
use Rattle.ops_base.specs.declared.elements.Change.{Change}
use Rattle.ops_base.specs.declared.elements.Change.TheVariants.{Add}
use Rattle.ops_base.specs.declared.rules.Inst.{Inst}
use Rattle.ops_base.specs.declared.rules.Rule.{Rule}
use Rattle.ops_base.specs.ConflictSet.{conflict_set}
use Rattle.ops_base.specs.Feeding.{fed_again}
use Rattle.ops_base.specs.Instances.{AreOf, Before, IsConflictSet, IsInOrder, IsInst, Meets, TagsBefore}
use Rattle.ops_base.specs.Live.{without, moved, renumbered}
use Rattle.ops_base.specs.Names.{Spellings}
use Rattle.ops_base.specs.Refraction.{is_among, still_fired}
use Rattle.ops_base.specs.WorkingMemory.{tags_of, HasRisingTags, done, last_after, Lawful}
use Rattle.ops_base.proofs.ConflictSetLaws.{conflict_set-is, conflict_set_only, computed_of, same_members}
use Rattle.ops_base.proofs.FeedingLaws.{StartsAbove, rises, IsFedAgain, fed_anew}
use Rattle.ops_base.proofs.Filtered.{all_before-filter}
use Rattle.ops_base.proofs.InOrder.{AllBefore, before_from_all_pairs, all_pairs_from_before}
use Rattle.ops_base.proofs.LiveLaws.{without_get, moved_order}
use Rattle.ops_base.proofs.Members.{IsMember, member_from_contains, contains_from_member}
use Rattle.ops_base.proofs.RefractionLaws.{member-still_fired}
use Rattle.ops_io.specs.Coming.{Coming}
use Rattle.ops_meaning.specs.Kept.{WellKept}
use Rattle.work_store.specs.Stored.{Stored}
use Rattle.conflict_index.specs.Indexed.{Indexed, Member, insts_of, fired_of}
use Rattle.cycle.specs.States.{Held, state_course}
use Rattle.cycle.proofs.Marks.{fired_member, member_inst}
use Rattle.live_rules.specs.Moves.{Places, numbered_from, unmoved, places_moved, place_of, inst_moved, insts_moved, Leads, stays, goes, comes}
use Rattle.live_rules.specs.Renewing.{moved_course}

-- ---- the new numbers

pub some_is : {X : Type 0} (x y : X) → Some x ≡ Some y → x ≡ y
some_is x y e = cc

-- what was found in a list is found once one comes after it
get_more : {X : Type 0} (xs ys : List X) (n : ℕ) (x : X) → slice_get xs n ≡ Some x → slice_get (xs ++ ys) n ≡ Some x
get_more [] ys n x e = cc
get_more (y ∷ xs) ys zero x e = e
get_more (y ∷ xs) ys (suc n) x e = get_more xs ys n x e

get_within : {X : Type 0} (xs : List X) (n : ℕ) → n < length xs → (x : X) × (slice_get xs n ≡ Some x)
get_within [] n h = absurd (omega (arith, h))
get_within (x ∷ xs) zero h = (x, refl)
get_within (x ∷ xs) (suc n) h = get_within xs n (omega (arith, h))

numbered_place : (first count n m : ℕ) → place_of (numbered_from first count) n ≡ Some m → (m ≡ first + n) × (n < count)
numbered_place first zero n m e = cc
numbered_place first (suc count) zero m e =
    let same : first ≡ m = some_is first m e in (omega (arith, same), omega arith)
numbered_place first (suc count) (suc n) m e =
    let h = numbered_place (suc first) count n m e in (omega (arith, h.0), omega (arith, h.1))

place_of_moved : (k n : ℕ) (places : Places) → place_of (places_moved k places) n ≡ option_and_then (moved k) (place_of places n)
place_of_moved k n places =
    ap (option_and_then (λ (o : Option ℕ). o)) (slice_get-map (λ (o : Option ℕ). option_and_then (moved k) o) places n)
    ∙ by (slice_get places n)
  where
    by : (o : Option (Option ℕ)) → option_and_then (λ (p : Option ℕ). p) (option_map (λ (p : Option ℕ). option_and_then (moved k) p) o)
        ≡ option_and_then (moved k) (option_and_then (λ (p : Option ℕ). p) o)
    by None = refl
    by (Some p) = refl

-- a production that is still there had a number before the last one went
was_place : (k m : ℕ) (o : Option ℕ) → option_and_then (moved k) o ≡ Some m → (j : ℕ) × (o ≡ Some j) × (moved k j ≡ Some m)
was_place k m None e = cc
was_place k m (Some j) e = (j, refl, e)

-- Each production that is still there stands at its new number, and the numbers keep their order.
pub record IsPlaced (places : Places) (old new : List Rule) : Type 0 where
  pub same : (n m : ℕ) → place_of places n ≡ Some m → (r : Rule) × (slice_get old n ≡ Some r) × (slice_get new m ≡ Some r)
  pub order : (n m i j : ℕ) → place_of places n ≡ Some i → place_of places m ≡ Some j → n < m → i < j

stays_placed : (rules : List Rule) → IsPlaced (unmoved (length rules)) rules rules
stays_placed rules = record { same = same; order = order }
  where
    same : (n m : ℕ) → place_of (unmoved (length rules)) n ≡ Some m → (r : Rule) × (slice_get rules n ≡ Some r) × (slice_get rules m ≡ Some r)
    same n m e =
        let h = numbered_place 0 (length rules) n m e in
        let is : n ≡ m = omega (arith, h.0) in
        let f = get_within rules n h.1 in
        (f.0, f.1, ap (slice_get rules) (sym is) ∙ f.1)

    order : (n m i j : ℕ) → place_of (unmoved (length rules)) n ≡ Some i → place_of (unmoved (length rules)) m ≡ Some j → n < m → i < j
    order n m i j e f h =
        let a = (numbered_place 0 (length rules) n i e).0 in
        let b = (numbered_place 0 (length rules) m j f).0 in
        omega (arith, a, b, h)

goes_placed : (k : ℕ) (places : Places) (old new : List Rule) → IsPlaced places old new → IsPlaced (places_moved k places) old (without k new)
goes_placed k places old new before = record { same = same; order = order }
  where
    same : (n m : ℕ) → place_of (places_moved k places) n ≡ Some m → (r : Rule) × (slice_get old n ≡ Some r) × (slice_get (without k new) m ≡ Some r)
    same n m e =
        let w = was_place k m (place_of places n) (sym (place_of_moved k n places) ∙ e) in
        let f = before.same n w.0 w.1 in
        (f.0, f.1, without_get k w.0 m new w.2 ∙ f.2)

    order : (n m i j : ℕ) → place_of (places_moved k places) n ≡ Some i → place_of (places_moved k places) m ≡ Some j → n < m → i < j
    order n m i j e f h =
        let v = was_place k i (place_of places n) (sym (place_of_moved k n places) ∙ e) in
        let w = was_place k j (place_of places m) (sym (place_of_moved k m places) ∙ f) in
        let less : v.0 < w.0 = before.order n m v.0 w.0 v.1 w.1 h in
        let compared : nat_cmp i j ≡ Less = moved_order k v.0 w.0 i j v.2 w.2 ∙ sym (nat_cmp_is v.0 w.0 Less less) in
        ranked i j Less (sym compared)

comes_placed : (r : Rule) (places : Places) (old new : List Rule) → IsPlaced places old new → IsPlaced places old (new ++ r ∷ [])
comes_placed r places old new before = record {
  same = λ n m e. (let f = before.same n m e in (f.0, f.1, get_more new (r ∷ []) m f.0 f.2));
  order = before.order;
}

pub placed : {places : Places} {old new : List Rule} → Leads places old new → IsPlaced places old new
placed (stays rules) = stays_placed rules
placed (goes {places} {old} {new} k leads) = goes_placed k places old new (placed leads)
placed (comes {places} {old} {new} r leads) = comes_placed r places old new (placed leads)

-- ---- the marks

moved_member : (h : Inst → Option Inst) (j : Inst) (insts : List Inst) → IsMember j (filter_map h insts) → (i : Inst) × IsMember i insts × (h i ≡ Some j)
moved_member h j [] m = absurd m
moved_member h j (i ∷ insts) m = by (h i) refl (λ l. moved_member h j insts l) m
  where
    by : (o : Option Inst) → h i ≡ o → (IsMember j (filter_map h insts) → (k : Inst) × IsMember k insts × (h k ≡ Some j)) → IsMember j (cons_option o (filter_map h insts))
        → (k : Inst) × IsMember k (i ∷ insts) × (h k ≡ Some j)
    by None e later l = let f = later l in (f.0, inr f.1, f.2)
    by (Some k) e later (inl is) = (i, inl refl, e ∙ ap Some (sym is))
    by (Some k) e later (inr l) = let f = later l in (f.0, inr f.1, f.2)

-- where an instantiation has moved to
moved_to : (places : Places) (i j : Inst) → inst_moved places i ≡ Some j → (place_of places i.rule ≡ Some j.rule) × (j.tags ≡ i.tags)
moved_to places i j e = by (place_of places i.rule) refl e
  where
    by : (o : Option ℕ) → place_of places i.rule ≡ o → option_map (renumbered i) o ≡ Some j → (place_of places i.rule ≡ Some j.rule) × (j.tags ≡ i.tags)
    by None p f = cc
    by (Some n) p f =
        let same : renumbered i n ≡ j = some_is (renumbered i n) j f in
        (p ∙ ap (λ (w : Inst). Some w.rule) same, ap (λ (w : Inst). w.tags) (sym same))

module _ (places : Places) (old new : List Rule) (is : IsPlaced places old new) where
  before_moved : (i j k l : Inst) → inst_moved places i ≡ Some k → inst_moved places j ≡ Some l → Before i j → Before k l
  before_moved i j k l e f (inl h) =
      inl (is.order i.rule j.rule k.rule l.rule (moved_to places i k e).0 (moved_to places j l f).0 h)
  before_moved i j k l e f (inr h) =
      let a = moved_to places i k e in
      let b = moved_to places j l f in
      let same : k.rule ≡ l.rule = some_is k.rule l.rule (sym a.0 ∙ ap (place_of places) h.0 ∙ b.0) in
      let P : List ℕ → Type 0 = λ w. TagsBefore w l.tags in
      let Q : List ℕ → Type 0 = λ w. TagsBefore i.tags w in
      inr (same, subst P (sym a.1) (subst Q (sym b.1) h.1))

  moved_before : (insts : List Inst) → AllBefore Before insts → AllBefore Before (insts_moved places insts)
  moved_before [] a = tt
  moved_before (i ∷ insts) a = by (inst_moved places i) refl (moved_before insts a.1)
    where
      by : (o : Option Inst) → inst_moved places i ≡ o → AllBefore Before (insts_moved places insts) → AllBefore Before (cons_option o (insts_moved places insts))
      by None e later = later
      by (Some k) e later = (
        λ l h. (let f = moved_member (inst_moved places) l insts h in before_moved i f.0 k l e f.2 (a.0 f.0 f.1)),
        later,
      )

  pub moved_in_order : (insts : List Inst) → IsInOrder insts → IsInOrder (insts_moved places insts)
  moved_in_order insts h =
      all_pairs_from_before Before (insts_moved places insts) (moved_before insts (before_from_all_pairs Before insts h))

  -- an instantiation of the old productions is one of the new, under its new number
  inst_stays : (wm : List Element) (i j : Inst) → inst_moved places i ≡ Some j → IsInst old wm i → IsInst new wm j
  inst_stays wm i j e h =
      let a = moved_to places i j e in
      let f = is.same i.rule j.rule a.0 in
      let same : h.0 ≡ f.0 = some_is h.0 f.0 (sym h.1 ∙ f.1) in
      let P : Rule → Type 0 = λ r. Meets wm r.conditions [] i.tags in
      let Q : List ℕ → Type 0 = Meets wm f.0.conditions [] in
      (f.0, f.2, subst Q (sym a.1) (subst P same h.2))

  -- so no mark of a production that stays is lost
  pub marks_stay : (wm : List Element) → HasRisingTags wm → (marks : List Inst) → IsInOrder marks → ((i : Inst) → Contains marks i → Contains (conflict_set old wm) i)
      → still_fired (conflict_set new wm) (insts_moved places marks) ≡ insts_moved places marks
  marks_stay wm rising marks order within =
      same_members (still_fired (conflict_set new wm) (insts_moved places marks)) (insts_moved places marks)
      (all_before-filter Before (λ i. is_among (insts_moved places marks) i) (conflict_set new wm) (before_from_all_pairs Before (conflict_set new wm) (conflict_set-is new wm rising).in_order))
      (moved_before marks (before_from_all_pairs Before marks order)) to from
    where
      to : (i : Inst) → IsMember i (still_fired (conflict_set new wm) (insts_moved places marks)) → IsMember i (insts_moved places marks)
      to i h =
          member_from_contains i (insts_moved places marks)
          ((member-still_fired (conflict_set new wm) (insts_moved places marks) i).0 (contains_from_member i (still_fired (conflict_set new wm) (insts_moved places marks)) h)).1

      from : (i : Inst) → IsMember i (insts_moved places marks) → IsMember i (still_fired (conflict_set new wm) (insts_moved places marks))
      from i h =
          let f = moved_member (inst_moved places) i marks h in
          let there = (conflict_set-is old wm rising).sound f.0 (within f.0 (contains_from_member f.0 marks f.1)) in
          let here = (conflict_set-is new wm rising).complete i (inst_stays wm f.0 i f.2 there) in
          member_from_contains i (still_fired (conflict_set new wm) (insts_moved places marks))
          ((member-still_fired (conflict_set new wm) (insts_moved places marks) i).1 (here, contains_from_member i (insts_moved places marks) h))

-- ---- working memory

starts_above : (wm : List Element) → All (λ t. 0 < t) (tags_of wm) → StartsAbove 0 wm
starts_above [] a = tt
starts_above (e ∷ wm) a = (recursion_from_All (λ t. 0 < t) (tags_of (e ∷ wm)) a).0

last_within : (l last : ℕ) (wm : List Element) → l ≤ last → AllByRecursion (λ t. t ≤ last) (tags_of wm) → last_after l (map Add wm) ≤ last
last_within l last [] h a = h
last_within l last (e ∷ wm) h a = last_within e.tag last wm a.0 a.1

none_below_zero : (last : ℕ) → 0 ≤ last
none_below_zero last = omega arith

-- a working memory that is well kept can be made anew
pub fed_as_before : (classes : ℕ) (wm : List Element) (last : ℕ) → WellKept wm last → All (λ t. 0 < t) (tags_of wm) → IsFedAgain classes wm last
fed_as_before classes wm last kept above =
    fed_anew classes wm last (rises 0 wm (starts_above wm above) kept.0)
    (last_within 0 last wm (none_below_zero last) (recursion_from_All (λ t. t ≤ last) (tags_of wm) kept.1))

-- the changes that make it anew, whatever they are called
pub record Feeds (cs : List Change) (wm : List Element) (last : ℕ) : Type 0 where
  pub lawful : Lawful [] 0 cs
  pub elements : done [] cs ≡ wm
  pub tag : last_after 0 cs ≡ last

pub feeds : (classes : ℕ) (wm : List Element) (last : ℕ) (cs : List Change) → cs ≡ fed_again classes wm last → WellKept wm last → All (λ t. 0 < t) (tags_of wm) → Feeds cs wm last
feeds classes wm last cs is kept above =
    let f = fed_as_before classes wm last kept above in
    let P : List Change → Type 0 = λ ds. Feeds ds wm last in
    subst P (sym is) (record { lawful = f.lawful; elements = f.elements; tag = f.tag })

-- ---- the new conflict set

-- what came where nothing was is the conflict set
pub came_all : (rules : List Rule) (wm now : List Element) (found come slice : List Inst) → now ≡ wm → HasRisingTags wm → IsConflictSet rules now found → ((i : Inst) → Contains come i ↔ (Contains found i × ¬ Contains [] i)) → IsInOrder come → slice ≡ come
    → slice ≡ conflict_set rules wm
came_all rules wm now found come slice is rising set same order are =
    let P : List Element → Type 0 = λ w. IsConflictSet rules w found in
    let here = subst P is set in
    are ∙ conflict_set_only rules wm (conflict_set rules wm) come (conflict_set-is rules wm rising)
    (record { sound = λ i h. here.sound i ((same i).0 h).0; complete = λ i h. (same i).1 (here.complete i h, λ n. absurd (member_from_contains i [] n)); in_order = order })

pub came_of : (rules : List Rule) (wm : List Element) (slice : List Inst) → slice ≡ conflict_set rules wm → AreOf rules slice
came_of rules wm slice is = computed_of rules wm slice is

-- the members of the new index are what the new matcher has found
pub same_found : (found come slice insts : List Inst) → insts ≡ slice → slice ≡ come → ((i : Inst) → Contains come i ↔ (Contains found i × ¬ Contains [] i)) → (i : Inst) → Contains insts i ↔ Contains found i
same_found found come slice insts e f same i =
    let P : List Inst → Type 0 = λ is. Contains is i in (
      λ h. ((same i).0 (subst P (e ∙ f) h)).0,
      λ h. subst P (sym (e ∙ f)) ((same i).1 (h, λ n. absurd (member_from_contains i [] n))),
    )

-- ---- the state

pub fired_within : (ms : List Member) (i : Inst) → Contains (fired_of ms) i → Contains (insts_of ms) i
fired_within ms i h = let f = fired_member ms i h in member_inst ms f.0 i f.1 f.3

-- the marks of the new index are those that have moved
pub marks_again : (places : Places) (old new : List Rule) → IsPlaced places old new → (wm : List Element) → HasRisingTags wm → (ms : List Member) → IsInOrder (fired_of ms) → insts_of ms ≡ conflict_set old wm
    → (come marks fired : List Inst) → come ≡ conflict_set new wm → marks ≡ insts_moved places (fired_of ms) → fired ≡ still_fired come marks → fired ≡ insts_moved places (fired_of ms)
marks_again places old new is wm rising ms order set come marks fired came moved are =
    let P : Inst → List Inst → Type 0 = λ i insts. Contains insts i in
    are ∙ ap (λ insts. still_fired insts marks) came ∙ ap (still_fired (conflict_set new wm)) moved
    ∙ marks_stay places old new is wm rising (fired_of ms) order (λ i h. subst (P i) set (fired_within ms i h))

pub course_again : {M : Type 0} (stored : M → Stored) (places : Places) (k s : Held M) (m : M) (x : Indexed) (f : ℕ) → s ≡ record { matcher = m; index = x; firings = f }
    → (stored m).elements ≡ (stored k.matcher).elements → (stored m).last ≡ (stored k.matcher).last → x.strategy ≡ k.index.strategy → f ≡ k.firings → fired_of x.members ≡ insts_moved places (fired_of k.index.members)
    → (names : Spellings) (coming : Coming) → state_course stored s names coming ≡ moved_course places (state_course stored k names coming)
course_again {M} stored places k s m x f is elements last strategy firings fired names coming =
    ap (λ (h : Held M). state_course stored h names coming) is
    ∙ (λ i. record { wm = elements i; strategy = strategy i; fired = fired i; firings = firings i; last = last i; names = names; coming = coming })

pub ok_so : {T E : Type 0} (P Q : T → Type 0) (r : Result T E) → ((x : T) → P x → Q x) → IfOk r P → IfOk r Q
ok_so P Q (Ok x) f h = f x h
ok_so P Q (Err e) f h = tt
