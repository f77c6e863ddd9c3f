-- The matches of the first parts are the partial matches.
use Rattle.std.proofs.Common.{◌≡◌, ℕ, ◌<◌, List, [], map, take, length, refl, ap, sym, ◌∙◌, subst}
use Rattle.std.specs.Prelude.{Contains, AllPairs}
use Rattle.ops_base.specs.declared.conditions.Part.{Part}
use Rattle.ops_base.specs.declared.direct.Partial.{Partial}
use Rattle.ops_base.specs.declared.elements.Element.{Element}
use Rattle.ops_base.specs.declared.rules.Rule.{Rule}
use Rattle.ops_base.specs.ConflictSet.{matches_of}
use Rattle.ops_base.specs.Instances.{Meets, TagsBefore}
use Rattle.ops_base.specs.WorkingMemory.{HasRisingTags}
use Rattle.ops_base.proofs.InOrder.{PartialBefore, all_before-map, all_pairs_from_before, matches_in_order}
use Rattle.ops_base.proofs.Members.{IsMember, member_from_contains, contains_from_member, map_member, member-map}
use Rattle.ops_base.proofs.WalkFinds.{matches_of-meets, meets-matches_of}
use Rattle.why.specs.Partials.{parts_of, IsPartialMatch, AreUpTo}

abbrev tags_in : List Partial → List (List ℕ)
tags_in found = map (λ p. p.tags) found

module _ (wm : List Element) (ps : List Part) where
  tags-sound : (tags : List ℕ) → Contains (tags_in (matches_of wm ps)) tags → Meets wm ps [] tags
  tags-sound tags m =
      let r = map_member (λ (p : Partial). p.tags) tags (matches_of wm ps) (member_from_contains tags (tags_in (matches_of wm ps)) m) in
      let P : List ℕ → Type 0 = Meets wm ps [] in
      subst P (sym r.2) (matches_of-meets wm ps r.0 r.1)

  tags-complete : (tags : List ℕ) → Meets wm ps [] tags → Contains (tags_in (matches_of wm ps)) tags
  tags-complete tags meets =
      let r = meets-matches_of wm ps tags meets in
      let P : List ℕ → Type 0 = λ w. IsMember w (tags_in (matches_of wm ps)) in
      contains_from_member tags (tags_in (matches_of wm ps)) (subst P r.2 (member-map (λ (p : Partial). p.tags) r.0 (matches_of wm ps) r.1))

  tags-in_order : HasRisingTags wm → AllPairs TagsBefore (tags_in (matches_of wm ps))
  tags-in_order rising =
      all_pairs_from_before TagsBefore (tags_in (matches_of wm ps))
      (all_before-map PartialBefore TagsBefore (λ (p : Partial). p.tags) (matches_of wm ps) (λ p q b. b) (matches_in_order wm ps rising))

-- a list that is what is computed has the partial matches
pub up_to : (rules : List Rule) (wm : List Element) (rule k : ℕ) (found : List (List ℕ)) → rule < length rules → HasRisingTags wm → found ≡ map (λ p. p.tags) (matches_of wm (take k (parts_of rules rule))) → AreUpTo rules wm rule k found
up_to rules wm rule k found there rising is =
    let ps = take k (parts_of rules rule) in
    let P : List (List ℕ) → Type 0 = AreUpTo rules wm rule k in
    subst P (sym is) (record {
      sound = λ tags m. (there, tags-sound wm ps tags m);
      complete = λ tags is. tags-complete wm ps tags is.1;
      in_order = tags-in_order wm ps rising;
    })
