-- The instantiations that have not fired, the dominant one first, found by their places.
use Rattle.std.proofs.Common.{◌≡◌, ◌∙◌, ap, sym, subst, ℕ, ◌+◌, ◌≤◌, suc, List, [], ◌∷◌, length, slice_get, drop, not, true, Option, Some, None, arith}
use Rattle.std.specs.Prelude.{Contains}
use Rattle.std.specs.Option.{MatchOption}
use Rattle.std.proofs.lemmas.List.{length-map}
use Rattle.std.proofs.lemmas.List.Elements.{All-contains}
use Rattle.std.proofs.lemmas.List.Kept.{AllPairs-filter}
use Rattle.ops_base.specs.declared.elements.Element.{Element}
use Rattle.ops_base.specs.declared.rules.Inst.{Inst}
use Rattle.ops_base.specs.declared.rules.Rule.{Rule}
use Rattle.ops_base.specs.ConflictSet.{conflict_set}
use Rattle.ops_base.specs.Dominance.{specificity_of}
use Rattle.ops_base.specs.Instances.{Before, IsInOrder}
use Rattle.ops_base.specs.Refraction.{is_among, unfired}
use Rattle.ops_base.proofs.Filtered.{Contains-filter}
use Rattle.ops_meaning.specs.Running.{ranked}
use Rattle.ops_meaning.proofs.Ranked.{AreDistinct, in_order_distinct, ranked_from, ranked_over}
use Rattle.conflict_index.specs.Indexed.{Indexed, Member, insts_of, fired_of, waiting, outranks, KeepsSpecificities}
use Rattle.conflict_index.specs.Selecting.{IsAt}
use Rattle.conflict_index.proofs.Ranks.{outranks-dominates}
use Rattle.cycle.proofs.Marks.{waiting_are}
use Rattle.session.specs.Courses.{standing_in}

-- they are those of the conflict set that have not fired
pub standing_is : (rules : List Rule) (x : Indexed) (wm : List Element) → insts_of x.members ≡ conflict_set rules wm
    → standing_in rules x ≡ (let insts = unfired (conflict_set rules wm) (fired_of x.members) in ranked (length insts) x.strategy rules insts)
standing_is rules x wm set =
    ap (λ found. let insts = unfired found (fired_of x.members) in ranked (length insts) x.strategy rules insts) set

-- a list that has at each place what stands there among others is those others
from_place_of : (all rest : List Inst) (k : ℕ) → ((j : ℕ) → MatchOption (slice_get rest j) (drop (k + j) all ≡ []) (λ i. drop (k + j) all ≡ i ∷ drop (k + j + 1) all)) → rest ≡ drop k all
from_place_of all [] k h =
    let here : k ≡ k + 0 = omega arith in sym (ap (λ n. drop n all) here ∙ h 0)
from_place_of all (i ∷ rest) k h =
    let here : k ≡ k + 0 = omega arith in
    let next : k + 0 + 1 ≡ k + 1 = omega arith in
    let first : drop k all ≡ i ∷ drop (k + 1) all = ap (λ n. drop n all) here ∙ h 0 ∙ ap (λ n. i ∷ drop n all) next in
    let later : rest ≡ drop (k + 1) all =
    from_place_of all rest (k + 1) (λ j.
    let P : ℕ → Type 0 = λ n. MatchOption (slice_get rest j) (drop n all ≡ []) (λ i. drop n all ≡ i ∷ drop (n + 1) all) in
    let same : k + suc j ≡ (k + 1) + j = omega arith in
    subst P same (h (suc j))) in
    sym (first ∙ ap (λ is. i ∷ is) (sym later))

module _ (rules : List Rule) (x : Indexed) (order : IsInOrder (insts_of x.members)) where
  abbrev waits : List Member
  waits = waiting x.members

  -- those that wait are those that have not fired
  waits_are : insts_of waits ≡ unfired (insts_of x.members) (fired_of x.members)
  waits_are = waiting_are x.members order

  abbrev ranking : List Inst
  ranking = ranked (length waits) x.strategy rules (insts_of waits)

  ranking_is : ranking ≡ standing_in rules x
  ranking_is =
      ap (λ n. ranked n x.strategy rules (insts_of waits)) (sym (length-map waits (λ m. m.inst)))
      ∙ ap (λ insts. ranked (length insts) x.strategy rules insts) waits_are

  distinct : AreDistinct (insts_of waits)
  distinct =
      let P : List Inst → Type 0 = IsInOrder in
      in_order_distinct (insts_of waits)
      (subst P (sym waits_are) (AllPairs-filter Before (λ i. not (is_among (fired_of x.members) i)) (insts_of x.members) order))

  -- nothing stands after as many as wait
  pub standing_over : (place : ℕ) → length waits ≤ place → drop place (standing_in rules x) ≡ []
  standing_over place past =
      ap (drop place) (sym ranking_is)
      ∙ ranked_over (λ (m : Member). m.inst) (outranks x.strategy) x.strategy rules waits (length waits) place distinct (omega arith) past

  module _ (kept : KeepsSpecificities rules x.members) where
    keeps : (m : Member) → Contains waits m → m.specificity ≡ specificity_of rules m.inst.rule
    keeps m h =
        let P : Member → Type 0 = λ w. w.specificity ≡ specificity_of rules w.inst.rule in
        All-contains P x.members m kept ((Contains-filter (λ (w : Member). not w.fired) (λ w. not w.fired ≡ true) (λ w. (λ e. e, λ e. e)) m x.members).0 h).0

    -- what stands from a place on begins with what the index has there
    pub standing_here : (place : ℕ) (i : Inst) → IsAt x.strategy x.members place i → drop place (standing_in rules x) ≡ i ∷ drop (place + 1) (standing_in rules x)
    standing_here place i at =
        let m = at.member.0 in
        let there = at.member.1 in
        let beats = λ (n : Member) (h : Contains waits n). outranks-dominates x.strategy rules n m (keeps n h) (keeps m there) in
        ap (drop place) (sym ranking_is)
        ∙ ranked_from (λ (m : Member). m.inst) (outranks x.strategy) x.strategy rules waits (length waits) place m distinct (omega arith) beats there at.member.3
        ∙ ap (λ j. j ∷ drop (place + 1) ranking) at.member.2
        ∙ ap (λ list. i ∷ drop (place + 1) list) ranking_is

    -- a list that has at each place what the index has there is the ranking
    pub standing_list : (list : List Inst) → ((place : ℕ) → MatchOption (slice_get list place) (length waits ≤ place) (λ i. IsAt x.strategy x.members place i)) → list ≡ standing_in rules x
    standing_list list h =
        from_place_of (standing_in rules x) list 0 (λ j.
        let P : ℕ → Type 0 = λ n. MatchOption (slice_get list j) (drop n (standing_in rules x) ≡ []) (λ i. drop n (standing_in rules x) ≡ i ∷ drop (n + 1) (standing_in rules x)) in
        let same : j ≡ 0 + j = omega arith in
        subst P same (at_each (slice_get list j) j (h j)))
      where
        at_each : (o : Option Inst) (place : ℕ) → MatchOption o (length waits ≤ place) (λ i. IsAt x.strategy x.members place i)
            → MatchOption o (drop place (standing_in rules x) ≡ []) (λ i. drop place (standing_in rules x) ≡ i ∷ drop (place + 1) (standing_in rules x))
        at_each None place past = standing_over place past
        at_each (Some i) place at = standing_here place i at
