-- What is computed explains why a rule does not fire.
use Rattle.std.proofs.Common.{◌≡◌, ℕ, zero, suc, ◌+◌, ◌-◌, ◌==◌, ◌<◌, ◌≤◌, Bool, true, false, cond, List, [], ◌∷◌, map, take, length, refl, ap, sym, ◌∙◌, subst, inl, inr, arith, below_more}
use Rattle.std.specs.Prelude.{Contains}
use Rattle.std.proofs.lemmas.Bool.{eqb-true}
use Rattle.ops_base.specs.declared.conditions.Part.{Part}
use Rattle.ops_base.specs.declared.direct.Partial.{Partial}
use Rattle.ops_base.specs.declared.elements.Element.{Element}
use Rattle.ops_base.specs.declared.rules.Inst.{Inst}
use Rattle.ops_base.specs.declared.rules.Rule.{Rule}
use Rattle.ops_base.specs.ConflictSet.{matches_of, insts_of}
use Rattle.ops_base.specs.Instances.{Meets, Before, IsInOrder}
use Rattle.ops_base.specs.WorkingMemory.{HasRisingTags}
use Rattle.ops_base.proofs.ConflictSetLaws.{insts_of-rule, member-insts_of}
use Rattle.ops_base.proofs.InOrder.{PartialBefore, all_before-map, all_pairs_from_before, matches_in_order}
use Rattle.ops_base.proofs.Members.{IsMember, member_from_contains, contains_from_member, map_member}
use Rattle.ops_base.proofs.WalkFinds.{matches_of-meets, meets-matches_of}
use Rattle.why.specs.declared.explaining.BoundInst.{BoundInst}
use Rattle.why.specs.declared.explaining.Why.TheVariants.{Found, Missing}
use Rattle.why.specs.Bindings.{Binds}
use Rattle.why.specs.Explaining.{AreBoundInsts, Explains, IsInstOf, IsMissing, bound_inst, insts_in, place_from, missing_place, explained, explanation}
use Rattle.why.specs.Partials.{parts_of, IsPartialMatch}
use Rattle.why.proofs.Instantiations.{inst-from_parts, inst-meets, take-all}
use Rattle.why.proofs.Walks.{matches_of-meets_with}

abbrev inst : ℕ → List ℕ → Inst
inst n tags = record { rule = n; tags = tags }

insts_in-map : (rule : ℕ) (ps : List Partial) → insts_in (map (bound_inst rule) ps) ≡ insts_of rule ps
insts_in-map rule [] = refl
insts_in-map rule (p ∷ ps) = ap (λ w. inst rule p.tags ∷ w) (insts_in-map rule ps)

some-map : (rule : ℕ) (ps : List Partial) → (ps ≡ [] → ⊥) → 0 < length (map (bound_inst rule) ps)
some-map rule [] h = absurd (h refl)
some-map rule (p ∷ ps) h = omega arith

module _ (rules : List Rule) (wm : List Element) (rule : ℕ) (there : rule < length rules) where
  inst-sound : (i : Inst) → IsMember i (insts_of rule (matches_of wm (parts_of rules rule))) → IsInstOf rules wm rule i
  inst-sound i m =
      let r = insts_of-rule rule (matches_of wm (parts_of rules rule)) i m in
      let P : List ℕ → Type 0 = Meets wm (parts_of rules rule) [] in
      let Q : ℕ → Type 0 = λ w. w < length rules in
      let R : ℕ → Type 0 = λ w. Meets wm (parts_of rules w) [] i.tags in
      (r.2, inst-from_parts rules wm i (subst Q (sym r.2) there) (subst R (sym r.2) (subst P (sym r.3) (matches_of-meets wm (parts_of rules rule) r.0 r.1))))

  inst-complete : (i : Inst) → IsInstOf rules wm rule i → IsMember i (insts_of rule (matches_of wm (parts_of rules rule)))
  inst-complete i is =
      let R : ℕ → Type 0 = λ w. Meets wm (parts_of rules w) [] i.tags in
      let r = meets-matches_of wm (parts_of rules rule) i.tags (subst R is.0 (inst-meets rules wm i is.1)) in
      let Q : ℕ → Type 0 = λ w. IsMember (inst w i.tags) (insts_of rule (matches_of wm (parts_of rules rule))) in
      subst Q (sym is.0) (member-insts_of rule (matches_of wm (parts_of rules rule)) r.0 i.tags r.1 r.2)

  insts-in_order : HasRisingTags wm → IsInOrder (insts_of rule (matches_of wm (parts_of rules rule)))
  insts-in_order rising =
      all_pairs_from_before Before (insts_of rule (matches_of wm (parts_of rules rule)))
      (all_before-map PartialBefore Before (λ (p : Partial). inst rule p.tags) (matches_of wm (parts_of rules rule)) (λ p q b. inr (refl, b)) (matches_in_order wm (parts_of rules rule) rising))

  inst-bound : (b : BoundInst) → IsMember b (map (bound_inst rule) (matches_of wm (parts_of rules rule))) → Binds rules wm b.inst b.values
  inst-bound b m =
      let r = map_member (bound_inst rule) b (matches_of wm (parts_of rules rule)) m in
      let P : BoundInst → Type 0 = λ w. Binds rules wm w.inst w.values in
      subst P (sym r.2) (there, r.0.bindings, matches_of-meets_with wm (parts_of rules rule) r.0 r.1, refl)

-- a list that is what is computed has the instantiations
pub are_bound : (rules : List Rule) (wm : List Element) (rule : ℕ) (found : List BoundInst) → rule < length rules → HasRisingTags wm → (matches_of wm (parts_of rules rule) ≡ [] → ⊥) → found ≡ map (bound_inst rule) (matches_of wm (parts_of rules rule)) → AreBoundInsts rules wm rule found
are_bound rules wm rule found there rising some is =
    let ms = matches_of wm (parts_of rules rule) in
    let e : insts_in (map (bound_inst rule) ms) ≡ insts_of rule ms = insts_in-map rule ms in
    let P : List BoundInst → Type 0 = AreBoundInsts rules wm rule in
    let Q : List Inst → Type 0 = IsInOrder in
    subst P (sym is) (record {
      some = some-map rule ms some;
      sound = λ i m. (let R : List Inst → Type 0 = λ w. Contains w i in
          inst-sound rules wm rule there i (member_from_contains i (insts_of rule ms) (subst R e m)));
      complete = λ i is. (let R : List Inst → Type 0 = λ w. Contains w i in
          subst R (sym e) (contains_from_member i (insts_of rule ms) (inst-complete rules wm rule there i is)));
      in_order = subst Q (sym e) (insts-in_order rules wm rule there rising);
      bound = λ b m. inst-bound rules wm rule there b (member_from_contains b (map (bound_inst rule) ms) m);
    })

-- where nothing is computed, no tags meet the parts
none_meet : (wm : List Element) (ps : List Part) → matches_of wm ps ≡ [] → (tags : List ℕ) → Meets wm ps [] tags → ⊥
none_meet wm ps none tags meets =
    let r = meets-matches_of wm ps tags meets in
    let P : List Partial → Type 0 = IsMember r.0 in
    subst P none r.1

-- where something is, some do
some_meet : (wm : List Element) (ps : List Part) → (matches_of wm ps ≡ [] → ⊥) → (tags : List ℕ) × Meets wm ps [] tags
some_meet wm ps some = by (matches_of wm ps) refl
  where
    by : (found : List Partial) → matches_of wm ps ≡ found → (tags : List ℕ) × Meets wm ps [] tags
    by [] is = absurd (some is)
    by (p ∷ found) is =
        let P : List Partial → Type 0 = IsMember p in
        (p.tags, matches_of-meets wm ps p (subst P (sym is) (inl refl)))

-- the first place up to which nothing is computed is what is missing
pub is_missing : (rules : List Rule) (wm : List Element) (rule place : ℕ) → rule < length rules → 1 ≤ place → place ≤ length (parts_of rules rule) → matches_of wm (parts_of rules rule) ≡ [] → matches_of wm (take place (parts_of rules rule)) ≡ []
    → ((k : ℕ) → k < place → matches_of wm (take k (parts_of rules rule)) ≡ [] → ⊥) → IsMissing rules wm rule place
is_missing rules wm rule place there first last all none before = record {
  first = first;
  last = last;
  none = λ tags is. none_meet wm (take place (parts_of rules rule)) none tags is.1;
  before = λ k lt. (let r = some_meet wm (take k (parts_of rules rule)) (before k lt) in (r.0, (there, r.1)));
  no_inst = λ i is. (let R : ℕ → Type 0 = λ w. Meets wm (parts_of rules w) [] i.tags in
      none_meet wm (parts_of rules rule) all i.tags (subst R is.0 (inst-meets rules wm i is.1)));
}

-- the same of a list of parts that is the rule's
pub parts_missing : (rules : List Rule) (wm : List Element) (rule place : ℕ) (ps : List Part) → ps ≡ parts_of rules rule → rule < length rules → 1 ≤ place → place ≤ length ps → matches_of wm ps ≡ [] → matches_of wm (take place ps) ≡ []
    → ((k : ℕ) → k < place → matches_of wm (take k ps) ≡ [] → ⊥) → IsMissing rules wm rule place
parts_missing rules wm rule place ps e there first =
    let P : List Part → Type 0 = λ w. place ≤ length w → matches_of wm w ≡ [] → matches_of wm (take place w) ≡ [] → ((k : ℕ) → k < place → matches_of wm (take k w) ≡ [] → ⊥) → IsMissing rules wm rule place in
    subst P (sym e) (is_missing rules wm rule place there first)

-- the same of a list of parts that is the rule's, of which something is found
pub parts_bound : (rules : List Rule) (wm : List Element) (rule : ℕ) (ps : List Part) (ms : List Partial) (found : List BoundInst) → ps ≡ parts_of rules rule → rule < length rules → HasRisingTags wm → ms ≡ matches_of wm ps → (ms ≡ [] → ⊥) → found ≡ map (bound_inst rule) ms → AreBoundInsts rules wm rule found
parts_bound rules wm rule ps ms found e there rising computed some is =
    let same : ms ≡ matches_of wm (parts_of rules rule) = computed ∙ ap (matches_of wm) e in
    are_bound rules wm rule found there rising (λ none. some (same ∙ none)) (is ∙ ap (map (bound_inst rule)) same)

-- before the first part nothing is missing
pub first_is_met : (wm : List Element) (ps : List Part) (k : ℕ) → k < 1 → matches_of wm (take k ps) ≡ [] → ⊥
first_is_met wm ps zero lt none = cc
first_is_met wm ps (suc k) lt none = absurd (omega arith)

-- parts that nothing meets are some
pub some_parts : (wm : List Element) (ps : List Part) → matches_of wm ps ≡ [] → 1 ≤ length ps
some_parts wm [] none = cc
some_parts wm (p ∷ ps) none = omega arith

-- ---- the place, as it is computed

-- one place further
pub place_on : (wm : List Element) (ps : List Part) (place : ℕ) → place < length ps → (length (matches_of wm (take place ps)) == 0) ≡ false → place_from wm ps place (length ps - place) ≡ place_from wm ps (place + 1) (length ps - (place + 1))
place_on wm ps place lt some =
    let left : length ps - place ≡ suc (length ps - (place + 1)) = omega arith in
    ap (place_from wm ps place) left ∙ ap (λ b. cond b place (place_from wm ps (place + 1) (length ps - (place + 1)))) some

-- here it is
pub place_here : (wm : List Element) (ps : List Part) (place : ℕ) → place < length ps → (length (matches_of wm (take place ps)) == 0) ≡ true → place_from wm ps place (length ps - place) ≡ place
place_here wm ps place lt none =
    let left : length ps - place ≡ suc (length ps - (place + 1)) = omega arith in
    ap (place_from wm ps place) left ∙ ap (λ b. cond b place (place_from wm ps (place + 1) (length ps - (place + 1)))) none

-- it is the last one
pub place_last : (wm : List Element) (ps : List Part) (place : ℕ) → length ps ≤ place → place_from wm ps place (length ps - place) ≡ place
place_last wm ps place past =
    let left : length ps - place ≡ 0 = omega arith in
    ap (place_from wm ps place) left

none_where : (ms : List Partial) → (length ms == 0) ≡ true → ms ≡ []
none_where [] e = refl
none_where (m ∷ ms) e =
    let zero : length (m ∷ ms) ≡ 0 = eqb-true (length (m ∷ ms)) 0 e in
    absurd (omega arith)

some_where : (ms : List Partial) → (length ms == 0) ≡ false → ms ≡ [] → ⊥
some_where [] e none = cc
some_where (m ∷ ms) e none = cc

-- what the first place up to which nothing is computed is
record IsPlace (wm : List Element) (ps : List Part) (place : ℕ) : Type 0 where
  first : 1 ≤ place
  last : place ≤ length ps
  none : matches_of wm (take place ps) ≡ []
  before : (k : ℕ) → k < place → matches_of wm (take k ps) ≡ [] → ⊥

module _ (wm : List Element) (ps : List Part) (all : matches_of wm ps ≡ []) where
  whole_none : (place : ℕ) → place ≡ length ps → matches_of wm (take place ps) ≡ []
  whole_none place is = ap (λ n. matches_of wm (take n ps)) is ∙ ap (matches_of wm) (take-all ps) ∙ all

  place_is : (place left : ℕ) → 1 ≤ place → place + left ≡ length ps → ((k : ℕ) → k < place → matches_of wm (take k ps) ≡ [] → ⊥) → IsPlace wm ps (place_from wm ps place left)
  place_is place zero first sum before = record { first = first; last = omega arith; none = whole_none place (omega arith); before = before }
  place_is place (suc left) first sum before = by (λ b. place_is (place + 1) left (omega arith) (omega arith) b) (length (matches_of wm (take place ps)) == 0) refl
    where
      by : (((k : ℕ) → k < place + 1 → matches_of wm (take k ps) ≡ [] → ⊥) → IsPlace wm ps (place_from wm ps (place + 1) left)) → (b : Bool) → (length (matches_of wm (take place ps)) == 0) ≡ b
          → IsPlace wm ps (cond b place (place_from wm ps (place + 1) left))
      by ih true e = record { first = first; last = omega arith; none = none_where (matches_of wm (take place ps)) e; before = before }
      by ih false e = ih (below_more _ _ before (some_where (matches_of wm (take place ps)) e))

-- what is computed explains the rule
pub computed_explains : (rules : List Rule) (wm : List Element) (rule : ℕ) → rule < length rules → HasRisingTags wm → Explains rules wm rule (explanation rules wm rule)
computed_explains rules wm rule there rising = by (matches_of wm (parts_of rules rule)) refl
  where
    by : (ms : List Partial) → matches_of wm (parts_of rules rule) ≡ ms → Explains rules wm rule (explained rule (missing_place wm (parts_of rules rule)) ms)
    by [] none =
        let ps = parts_of rules rule in
        let some = some_parts wm ps none in
        let is = place_is wm ps none 1 (length ps - 1) (omega arith) (omega arith) (λ k. first_is_met wm ps k) in
        is_missing rules wm rule (missing_place wm ps) there is.first is.last none is.none is.before
    by (p ∷ ms) are =
        are_bound rules wm rule (map (bound_inst rule) (p ∷ ms)) there rising (λ none. (let bad : p ∷ ms ≡ [] = sym are ∙ none in cc)) (ap (map (bound_inst rule)) (sym are))

-- the same of a list of parts that is the rule's
pub parts_explained : (rules : List Rule) (wm : List Element) (rule place : ℕ) (ps : List Part) → ps ≡ parts_of rules rule → matches_of wm ps ≡ [] → place ≡ missing_place wm ps → Missing place ≡ explanation rules wm rule
parts_explained rules wm rule place ps e all is =
    ap Missing (is ∙ ap (missing_place wm) e)
    ∙ sym (ap (explained rule (missing_place wm (parts_of rules rule))) (sym (ap (matches_of wm) e) ∙ all))

pub parts_found : (rules : List Rule) (wm : List Element) (rule : ℕ) (ps : List Part) (ms : List Partial) (found : List BoundInst) → ps ≡ parts_of rules rule → ms ≡ matches_of wm ps → (ms ≡ [] → ⊥) → found ≡ map (bound_inst rule) ms → Found found ≡ explanation rules wm rule
parts_found rules wm rule ps ms found e computed some is =
    ap Found is ∙ sym (by ms some) ∙ ap (explained rule (missing_place wm (parts_of rules rule))) (computed ∙ ap (matches_of wm) e)
  where
    by : (ms : List Partial) → (ms ≡ [] → ⊥) → explained rule (missing_place wm (parts_of rules rule)) ms ≡ Found (map (bound_inst rule) ms)
    by [] some = absurd (some refl)
    by (m ∷ ms) some = refl
