-- The links of the rules so far.
use Rattle.std.proofs.Common.{◌≡◌, ℕ, ◌+◌, ◌<◌, List, [], ◌∷◌, ◌++◌, length, map, slice_get, get_or, Some, ap, subst, sym, ◌∙◌, arith, inl, inr, length-append}
use Rattle.ops_base.specs.declared.conditions.Part.{Part}
use Rattle.ops_base.specs.declared.rules.Rule.{Rule}
use Rattle.net_base.specs.Shape.{IsPath}
use Rattle.beta_net.specs.declared.links.Link.{Link}
use Rattle.beta_net.specs.declared.links.Links.{Links}
use Rattle.beta_net.specs.declared.paths.End.{End}
use Rattle.beta_net.specs.Linked.{path_to, AreLinks, IsLinked, IsEndOf, AddsRule, link_code}
use Rattle.beta_net.specs.Built.{HaveEnds, ArePaths}
use Rattle.beta_net.proofs.Lists.{same_some, get_lt, get_of, get_push}
use Rattle.beta_net.proofs.PathLemmas.{path_to_grown, depth_to_grown, parent_within}

-- no links
pub no_links : (t : Links) → t.list.items ≡ [] → t.chains ≡ [] → IsLinked t
no_links t e codes = record {
  links = subst AreLinks (sym e) (record {
    each = λ n l at. (let lt = get_lt [] n l at in absurd (omega arith));
    distinct = λ n m l k at. (let lt = get_lt [] n l at in absurd (omega arith));
  });
  codes = codes ∙ ap (map link_code) (sym e);
}

pub none_ended : (links : List Link) (ends : List End) (rules : List Rule) → ends ≡ [] → HaveEnds links ends rules
none_ended links ends rules e k r x at to = let lt = get_lt [] k x (ap (λ es. slice_get es k) (sym e) ∙ to) in absurd (omega arith)

pub no_paths : (links : List Link) (rules : List Rule) → links ≡ [] → ArePaths links rules
no_paths links rules e m l at = let lt = get_lt [] m l (ap (λ ls. slice_get ls m) (sym e) ∙ at) in absurd (omega arith)

end_stays : (links more : List Link) (cs : List Part) (e : End) → AreLinks links → IsEndOf links cs e → IsEndOf (links ++ more) cs e
end_stays links more cs e a h =
    let same = path_to_grown links more a e.parent h.within in
    record {
      within = λ p q. (let lt = h.within p q in omega (arith, length-append links more));
      down = same ∙ h.down;
      depth = h.depth ∙ ap (λ d. d + 1) (sym (depth_to_grown links more e.parent h.within));
    }

pub ends_next : (old new : Links) (ends ends' : List End) (rules : List Rule) (i : ℕ) (r : Rule) (e : End) → IsLinked old → i < length rules → r ≡ get_or rules i r → length ends ≡ i → ends' ≡ ends ++ e ∷ [] → AddsRule old new r.conditions e
    → HaveEnds old.list.items ends rules → HaveEnds new.list.items ends' rules
ends_next old new ends ends' rules i r e t lt is count grown a h k q x at to = elim (get_push ends e k x (ap (λ es. slice_get es k) (sym grown) ∙ to)) [
  | inl g ↦ subst (λ ls. IsEndOf ls q.conditions x) (sym a.grows.grown) (end_stays old.list.items a.grows.more q.conditions x t.links (h k q x at g))
  | inr g ↦
      let here = get_of rules i r lt is in
      let same = same_some r q (sym here ∙ (ap (slice_get rules) (sym count ∙ sym g.0) ∙ at)) in
      subst (λ (z : End). IsEndOf new.list.items q.conditions z) (sym g.1) (subst (λ (z : Rule). IsEndOf new.list.items z.conditions e) same a.ends)
]

path_stays : (links more : List Link) (rules : List Rule) (n : ℕ) (l : Link) → AreLinks links → slice_get links n ≡ Some l → IsPath rules (path_to links l.parent) l.part → IsPath rules (path_to (links ++ more) l.parent) l.part
path_stays links more rules n l a at h =
    subst (λ q. IsPath rules q l.part) (sym (path_to_grown links more a l.parent (parent_within links a n l at))) h

pub paths_build : (old new : Links) (rules : List Rule) (i : ℕ) (r : Rule) (e : End) → IsLinked old → i < length rules → r ≡ get_or rules i r → AddsRule old new r.conditions e → ArePaths old.list.items rules → ArePaths new.list.items rules
paths_build old new rules i r e t lt is a h m l at = elim (a.grows.only m l at) [
  | inl g ↦ subst (λ ls. IsPath rules (path_to ls l.parent) l.part) (sym a.grows.grown) (path_stays old.list.items a.grows.more rules m l t.links g (h m l g))
  | inr g ↦ (i, r, get_of rules i r lt is, g)
]

pub count_next : {X : Type 0} (xs ys : List X) (x : X) (i : ℕ) → length xs ≡ i → ys ≡ xs ++ x ∷ [] → length ys ≡ i + 1
count_next xs ys x i e q = omega (arith, e, ap length q, length-append xs (x ∷ []))
