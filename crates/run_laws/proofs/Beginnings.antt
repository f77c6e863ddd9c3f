-- A right side begins with the bindings with which the walk over its conditions finished.
use Rattle.std.proofs.Common.{◌≡◌, ℕ, ◌<◌, List, [], ◌∷◌, ◌++◌, map, Bool, true, false, cond, not, ◌==◌, Some, None, option_map, refl, ap, sym, ◌∙◌, subst, inl, inr, append_assoc, arith}
use Rattle.std.specs.Prelude.{Contains, slice_get, unwrap_or}
use Rattle.std.specs.List.{flat_map}
use Rattle.std.proofs.lemmas.Bool.{eqb-true}
use Rattle.std.proofs.lemmas.Bool.Decides.{nat_tests}
use Rattle.std.proofs.lemmas.List.{append-nil}
use Rattle.ops_base.specs.declared.conditions.Condition.{Condition}
use Rattle.ops_base.specs.declared.conditions.Part.{Part}
use Rattle.ops_base.specs.declared.conditions.Part.TheVariants.{One, Group}
use Rattle.ops_base.specs.declared.direct.Partial.{Partial}
use Rattle.ops_base.specs.declared.elements.Element.{Element}
use Rattle.ops_base.specs.declared.matching.Binding.{Binding}
use Rattle.ops_base.specs.declared.rules.Inst.{Inst}
use Rattle.ops_base.specs.declared.rules.Rule.{Rule}
use Rattle.ops_base.specs.ConflictSet.{extended, some_meets, some_extend, at_part, walk, empty_partial, matches_of, conflict_set}
use Rattle.ops_base.specs.Matching.{after_tests, match_of}
use Rattle.ops_base.specs.Valid.{cells_of}
use Rattle.ops_base.specs.WorkingMemory.{HasRisingTags, tags_of}
use Rattle.ops_base.proofs.ConflictSetLaws.{conflict_set-is}
use Rattle.ops_base.proofs.InOrder.{AllBefore, TagBelow, tags_in_order}
use Rattle.ops_base.proofs.Members.{IsMember, flat_map_member, member_from_contains, contains_from_member, all_from_members}
use Rattle.ops_base.proofs.WalkFinds.{lengthened_is, negated_is, meets-matches_of}
use Rattle.ops_meaning.specs.Acting.{Setting, Given, bindings_of, matched_by, element_of, elements_of, no_element, conditions_of, begun}
use Rattle.run_laws.specs.Beginning.{begun_match, BeginsAsMatched}

-- ---- the element of a tag

found_in : (wm : List Element) (e : Element) → AllBefore TagBelow wm → IsMember e wm → element_of wm e.tag ≡ Some e
found_in [] e a m = absurd m
found_in (x ∷ wm) e a (inl is) =
    let P : Element → Type 0 = λ w. element_of (x ∷ wm) w.tag ≡ Some w in
    let itself : (x.tag == x.tag) ≡ true = grind (arith, nat_tests) in
    subst P (sym is) (ap (λ b. cond b (Some x) (element_of wm x.tag)) itself)
found_in (x ∷ wm) e a (inr m) =
    let below : x.tag < e.tag = a.0 e m in
    let apart : (x.tag == e.tag) ≡ false = grind (arith, nat_tests) in
    ap (λ b. cond b (Some x) (element_of wm e.tag)) apart ∙ found_in wm e a.1 m

-- an element of working memory is found by its tag
pub element_found : (wm : List Element) (e : Element) → HasRisingTags wm → IsMember e wm → element_of wm e.tag ≡ Some e
element_found wm e rising m = found_in wm e (tags_in_order wm rising) m

-- ---- the walk

none_left : (wm : List Element) (parts : List Part) (bindings : List Binding) → bindings_of wm parts [] bindings ≡ bindings
none_left wm [] bindings = refl
none_left wm (part ∷ parts) bindings = refl

-- a group takes no tag
past_group : (wm : List Element) (cs : List Condition) (parts : List Part) (tags : List ℕ) (bindings : List Binding) → bindings_of wm (Group cs ∷ parts) tags bindings ≡ bindings_of wm parts tags bindings
past_group wm cs parts [] bindings = sym (none_left wm parts bindings)
past_group wm cs parts (t ∷ ts) bindings = refl

-- a negated condition takes no tag
past_negated : (wm : List Element) (c : Condition) (parts : List Part) (tags : List ℕ) (bindings : List Binding) → c.negated ≡ true → bindings_of wm (One c ∷ parts) tags bindings ≡ bindings_of wm parts tags bindings
past_negated wm c parts [] bindings negated = sym (none_left wm parts bindings)
past_negated wm c parts (t ∷ ts) bindings negated =
    ap (λ b. cond b (bindings_of wm parts (t ∷ ts) bindings) (bindings_of wm parts ts (matched_by c (element_of wm t) bindings))) negated

-- a positive one takes the next tag, and binds as its element matches
past_positive : (wm : List Element) (c : Condition) (parts : List Part) (e : Element) (ts : List ℕ) (bindings next : List Binding) → c.negated ≡ false → element_of wm e.tag ≡ Some e → match_of c e bindings ≡ Some next
    → bindings_of wm (One c ∷ parts) (e.tag ∷ ts) bindings ≡ bindings_of wm parts ts next
past_positive wm c parts e ts bindings next positive found matched =
    ap (λ b. cond b (bindings_of wm parts (e.tag ∷ ts) bindings) (bindings_of wm parts ts (matched_by c (element_of wm e.tag) bindings))) positive
    ∙ ap (λ o. bindings_of wm parts ts (matched_by c o bindings)) found
    ∙ ap (λ o. bindings_of wm parts ts (unwrap_or o bindings)) matched

abbrev pub classes_in : List Element → List ℕ
classes_in es = map (λ e. e.class) es

-- an element that meets a condition is of its class
matched_class : (c : Condition) (e : Element) (bindings next : List Binding) → match_of c e bindings ≡ Some next → e.class ≡ c.class
matched_class c e bindings next is = by (e.class == c.class) refl is
  where
    by : (b : Bool) → (e.class == c.class) ≡ b → cond b (after_tests c.tests e bindings) None ≡ Some next → e.class ≡ c.class
    by true same is = eqb-true e.class c.class same
    by false same is = absurd (cc)

-- Each result of the walk continues one of these partial matches, with the bindings that the further tags give. The
-- elements of these tags are in working memory.
pub record Followed (wm : List Element) (parts : List Part) (ps : List Partial) (q : Partial) : Type 0 where
  pub from : Partial
  pub begun : IsMember from ps
  pub rest : List ℕ
  pub tags : q.tags ≡ from.tags ++ rest
  pub bindings : bindings_of wm parts rest from.bindings ≡ q.bindings
  pub cells : tags_of (elements_of wm rest) ≡ rest
  pub classes : classes_in (elements_of wm rest) ≡ cells_of parts
  pub elements : (e : Element) → IsMember e (elements_of wm rest) → IsMember e wm

module _ (wm : List Element) (rising : HasRisingTags wm) where
  stepped : (part : Part) (parts : List Part) (p q : Partial) (rest : List ℕ) → IsMember q (at_part wm part p) → tags_of (elements_of wm rest) ≡ rest → classes_in (elements_of wm rest) ≡ cells_of parts → ((e : Element) → IsMember e (elements_of wm rest) → IsMember e wm)
      → (front : List ℕ) × (q.tags ≡ p.tags ++ front) × (bindings_of wm (part ∷ parts) (front ++ rest) p.bindings ≡ bindings_of wm parts rest q.bindings)
      × (tags_of (elements_of wm (front ++ rest)) ≡ front ++ rest) × (classes_in (elements_of wm (front ++ rest)) ≡ cells_of (part ∷ parts)) × ((e : Element) → IsMember e (elements_of wm (front ++ rest)) → IsMember e wm)
  stepped (Group members) parts p q rest m cells classes elements =
      let n = negated_is p q (some_extend wm members p.bindings) m in (
        [],
        ap (λ (w : Partial). w.tags) n.1 ∙ sym (append-nil p.tags),
        past_group wm members parts rest p.bindings ∙ ap (λ (w : Partial). bindings_of wm parts rest w.bindings) (sym n.1),
        cells,
        classes,
        elements,
      )
  stepped (One c) parts p q rest m cells classes elements = by c.negated refl m
    where
      by : (b : Bool) → c.negated ≡ b → IsMember q (cond b (cond (not (some_meets wm c p.bindings)) (p ∷ []) []) (flat_map (extended c p) wm))
          → (front : List ℕ) × (q.tags ≡ p.tags ++ front) × (bindings_of wm (One c ∷ parts) (front ++ rest) p.bindings ≡ bindings_of wm parts rest q.bindings)
          × (tags_of (elements_of wm (front ++ rest)) ≡ front ++ rest) × (classes_in (elements_of wm (front ++ rest)) ≡ cond b (cells_of parts) (c.class ∷ cells_of parts)) × ((e : Element) → IsMember e (elements_of wm (front ++ rest)) → IsMember e wm)
      by true is m =
          let n = negated_is p q (some_meets wm c p.bindings) m in (
            [],
            ap (λ (w : Partial). w.tags) n.1 ∙ sym (append-nil p.tags),
            past_negated wm c parts rest p.bindings is ∙ ap (λ (w : Partial). bindings_of wm parts rest w.bindings) (sym n.1),
            cells,
            classes,
            elements,
          )
      by false is m =
          let f = flat_map_member (extended c p) q wm m in
          let l = lengthened_is p q f.0.tag (match_of c f.0 p.bindings) f.2 in
          let found = element_found wm f.0 rising f.1 in (
            f.0.tag ∷ [],
            l.1,
            past_positive wm c parts f.0 rest p.bindings q.bindings is found l.0,
            ap (λ o. (unwrap_or o no_element).tag ∷ tags_of (elements_of wm rest)) found ∙ ap (λ ts. f.0.tag ∷ ts) cells,
            ap (λ o. (unwrap_or o no_element).class ∷ classes_in (elements_of wm rest)) found ∙ ap (λ n. n ∷ classes_in (elements_of wm rest)) (matched_class c f.0 p.bindings q.bindings l.0) ∙ ap (λ ns. c.class ∷ ns) classes,
            one_more f.0 f.1 found,
          )
        where
          one_more : (x : Element) → IsMember x wm → element_of wm x.tag ≡ Some x → (e : Element) → IsMember e (elements_of wm (x.tag ∷ rest)) → IsMember e wm
          one_more x there found e (inl same) =
              let P : Element → Type 0 = λ w. IsMember w wm in
              subst P (sym (same ∙ ap (λ o. unwrap_or o no_element) found)) there
          one_more x there found e (inr m) = elements e m

  pub followed : (parts : List Part) (ps : List Partial) (q : Partial) → IsMember q (walk wm parts ps) → Followed wm parts ps q
  followed [] ps q m = record { from = q; begun = m; rest = []; tags = sym (append-nil q.tags); bindings = refl; cells = refl; classes = refl; elements = λ e m. absurd m }
  followed (part ∷ parts) ps q m =
      let r = followed parts (flat_map (at_part wm part) ps) q m in
      let b = flat_map_member (at_part wm part) r.from ps r.begun in
      let s = stepped part parts b.0 r.from r.rest b.2 r.cells r.classes r.elements in record {
        from = b.0;
        begun = b.1;
        rest = s.0 ++ r.rest;
        tags = r.tags ∙ ap (λ w. w ++ r.rest) s.1 ∙ append_assoc b.0.tags s.0 r.rest;
        bindings = s.2 ∙ r.bindings;
        cells = s.3;
        classes = s.4;
        elements = s.5;
      }

  -- a whole match has the bindings that its tags give
  pub record Whole (parts : List Part) (q : Partial) : Type 0 where
    pub bindings : bindings_of wm parts q.tags [] ≡ q.bindings
    pub cells : tags_of (elements_of wm q.tags) ≡ q.tags
    pub classes : classes_in (elements_of wm q.tags) ≡ cells_of parts
    pub elements : (e : Element) → IsMember e (elements_of wm q.tags) → IsMember e wm

  pub whole_match : (parts : List Part) (q : Partial) → IsMember q (matches_of wm parts) → Whole parts q
  whole_match parts q m = let r = followed parts (empty_partial ∷ []) q m in by r.from r.begun r.rest r.tags r.bindings r.cells r.classes r.elements
    where
      by : (from : Partial) → IsMember from (empty_partial ∷ []) → (rest : List ℕ) → q.tags ≡ from.tags ++ rest → bindings_of wm parts rest from.bindings ≡ q.bindings
          → tags_of (elements_of wm rest) ≡ rest → classes_in (elements_of wm rest) ≡ cells_of parts → ((e : Element) → IsMember e (elements_of wm rest) → IsMember e wm) → Whole parts q
      by from (inl is) rest t b k n l =
          let same : q.tags ≡ rest = t ∙ ap (λ (w : Partial). w.tags ++ rest) is in
          let P : List ℕ → Type 0 = λ ts. tags_of (elements_of wm ts) ≡ ts in
          let Q : List ℕ → Type 0 = λ ts. (e : Element) → IsMember e (elements_of wm ts) → IsMember e wm in
          record {
            bindings = ap (λ ts. bindings_of wm parts ts []) same ∙ ap (λ (w : Partial). bindings_of wm parts rest w.bindings) (sym is) ∙ b;
            cells = subst P (sym same) k;
            classes = ap (λ ts. classes_in (elements_of wm ts)) same ∙ n;
            elements = subst Q (sym same) l;
          }
      by from (inr m) rest t b k n l = absurd m

-- ---- an instantiation of the conflict set

conditions_there : (rules : List Rule) (n : ℕ) (r : Rule) → slice_get rules n ≡ Some r → conditions_of rules n ≡ r.conditions
conditions_there rules n r there = ap (λ o. unwrap_or (option_map (λ (r : Rule). r.conditions) o) []) there

partial_is : (p : Partial) (tags : List ℕ) (bindings : List Binding) → p.tags ≡ tags → p.bindings ≡ bindings → (let q : Partial = record { tags = tags; bindings = bindings } in p ≡ q)
partial_is p tags bindings t b =
    let with_tags : List ℕ → Partial = λ ts. record { tags = ts; bindings = p.bindings } in
    let with_bindings : List Binding → Partial = λ bs. record { tags = tags; bindings = bs } in
    ap with_tags t ∙ ap with_bindings b

-- a right side begins with the bindings of the whole match at its tags
pub bindings_begun : (s : Setting) (g : Given) (i : Inst) (r : Rule) → HasRisingTags g.wm → conditions_of s.rules i.rule ≡ r.conditions → (p : Partial) → IsMember p (matches_of g.wm r.conditions) → p.tags ≡ i.tags
    → p.bindings ≡ (begun s i g).bindings
bindings_begun s g i r rising same p m t =
    let w = whole_match g.wm rising r.conditions p m in
    sym w.bindings ∙ ap (λ ts. bindings_of g.wm r.conditions ts []) t ∙ ap (λ cs. bindings_of g.wm cs i.tags []) (sym same)

pub begins_as_matched : (s : Setting) (g : Given) (i : Inst) → HasRisingTags g.wm → Contains (conflict_set s.rules g.wm) i → BeginsAsMatched s g i
begins_as_matched s g i rising in_set =
    let is = (conflict_set-is s.rules g.wm rising).sound i in_set in
    let r = is.0 in
    let same = conditions_there s.rules i.rule r is.1 in
    let f = meets-matches_of g.wm r.conditions i.tags is.2 in
    let w = whole_match g.wm rising r.conditions f.0 f.1 in
    let P : List ℕ → Type 0 = λ ts. tags_of (elements_of g.wm ts) ≡ ts in
    let Q : List ℕ → Type 0 = λ ts. (e : Element) → IsMember e (elements_of g.wm ts) → IsMember e g.wm in
    let among = subst Q f.2 w.elements in
    record {
      rule = r;
      there = is.1;
      accepted = contains_from_member (begun_match s g i) (matches_of g.wm r.conditions) (let M : Partial → Type 0 = λ p. IsMember p (matches_of g.wm r.conditions) in subst M (alike r same f.0 f.1 f.2) f.1);
      only = λ p m t. alike r same p (member_from_contains p (matches_of g.wm r.conditions) m) t;
      cells = subst P f.2 w.cells;
      elements = all_from_members (Contains g.wm) (elements_of g.wm i.tags) (λ e m. contains_from_member e g.wm (among e m));
    }
  where
    alike : (r : Rule) → conditions_of s.rules i.rule ≡ r.conditions → (p : Partial) → IsMember p (matches_of g.wm r.conditions) → p.tags ≡ i.tags → p ≡ begun_match s g i
    alike r same p m t = partial_is p i.tags (begun s i g).bindings t (bindings_begun s g i r rising same p m t)
