-- What a network tells over a working memory stands in order, and is just what stands at its terminals.
use Rattle.std.proofs.Common.{◌≡◌, ◌≢◌, ℕ, zero, suc, ◌<◌, ◌==◌, Bool, true, false, cond, List, [], ◌∷◌, ◌++◌, map, filter, length, refl, sym, ap, subst, ◌∙◌, arith, inl, inr, slice_get, Option, Some, None}
use Rattle.std.specs.List.{AllByRecursion}
use Rattle.std.proofs.lemmas.Bool.Decides.{Decides-eqb}
use Rattle.std.proofs.lemmas.Option.{slice_get_within}
use Rattle.ops_base.specs.declared.elements.Element.{Element}
use Rattle.ops_base.specs.declared.rules.Inst.{Inst}
use Rattle.ops_base.specs.Instances.{TagsBefore, Before}
use Rattle.ops_base.specs.WorkingMemory.{tags_of, HasRisingTags}
use Rattle.ops_base.proofs.Members.{IsMember, member_cases, member_left, member_right, member-flat_map, map_member, member-map, member_from_contains, contains_from_member}
use Rattle.ops_base.proofs.Filtered.{filter_member, member-filter, all_before-filter}
use Rattle.ops_base.proofs.InOrder.{AllBefore, TagBelow, all_before-append, all_before-flat_map, all_before-map, all_pairs_from_before, tags_in_order}
use Rattle.net_base.specs.declared.nodes.Kind.{Kind}
use Rattle.net_base.specs.declared.nodes.Kind.TheVariants.{Join, Negated, Group, Terminal}
use Rattle.net_base.specs.declared.nodes.Node.{Node}
use Rattle.net_base.specs.declared.nodes.Alpha.{Alpha}
use Rattle.net_base.specs.Sound.{IsSound, left_width}
use Rattle.net_base.specs.Tokens.{left_tokens, elements_of}
use Rattle.step_core.proofs.Named.{IsIn, IsToken, left_are_tokens}
use Rattle.step_core.specs.Found.{tag_lists, is_of, inst, found_at, found_of, found_below, past_rule, past_rules, found_over}
use Rattle.step_core.specs.Settling.{IsFound, FoundLaw}

-- ---- lists of tags

rising : (wm : List Element) → HasRisingTags wm → AllBefore (λ x y. x < y) (tags_of wm)
rising wm h = all_before-map TagBelow (λ x y. x < y) (λ (e : Element). e.tag) wm (λ x z lt. lt) (tags_in_order wm h)

lists_in_order : (k : ℕ) (tags : List ℕ) → AllBefore (λ x y. x < y) tags → AllBefore TagsBefore (tag_lists k tags)
lists_in_order zero tags a = ((λ y m. absurd m), tt)
lists_in_order (suc k) tags a =
    all_before-flat_map (λ x y. x < y) TagsBefore (λ x. map (λ t. x ∷ t) (tag_lists k tags)) tags a
    (λ x m. all_before-map TagsBefore TagsBefore (λ t. x ∷ t) (tag_lists k tags) (λ t u h. inr (refl, h)) (lists_in_order k tags a))
    (λ x z l m lt y w my mw.
    let p = map_member (λ t. x ∷ t) y (tag_lists k tags) my in
    let q = map_member (λ t. z ∷ t) w (tag_lists k tags) mw in
    subst (λ u. TagsBefore u w) (sym p.2) (subst (λ v. TagsBefore (x ∷ p.0) v) (sym q.2) (inl lt)))

lists_have : (k : ℕ) (tags t : List ℕ) → length t ≡ k → AllByRecursion (λ tag. IsMember tag tags) t → IsMember t (tag_lists k tags)
lists_have zero tags [] e a = inl refl
lists_have zero tags (x ∷ t) e a = absurd (omega arith)
lists_have (suc k) tags [] e a = absurd (omega arith)
lists_have (suc k) tags (x ∷ t) e a =
    member-flat_map (λ y. map (λ u. y ∷ u) (tag_lists k tags)) (x ∷ t) x tags a.0 (member-map (λ u. x ∷ u) t (tag_lists k tags) (lists_have k tags t (omega arith) a.1))

in_tags : (wm : List Element) (tag : ℕ) (e : Element) → elements_of wm tag ≡ Some e → IsMember tag (tags_of wm)
in_tags [] tag e at = absurd (cc)
in_tags (x ∷ xs) tag e at = by (λ later. in_tags xs tag e later) (x.tag == tag) refl at
  where
    by : (elements_of xs tag ≡ Some e → IsMember tag (tags_of xs)) → (b : Bool) → (x.tag == tag) ≡ b → cond b (Some x) (elements_of xs tag) ≡ Some e → IsMember tag (x.tag ∷ tags_of xs)
    by ih true q h = inl (sym ((Decides-eqb x.tag tag).0 q))
    by ih false q h = inr (ih h)

all_in_tags : (wm : List Element) (t : List ℕ) → AllByRecursion (IsIn wm) t → AllByRecursion (λ tag. IsMember tag (tags_of wm)) t
all_in_tags wm [] a = tt
all_in_tags wm (x ∷ t) a = (in_tags wm x a.0.0 a.0.1, all_in_tags wm t a.1)

-- ---- terminals

is_of-true : (k : ℕ) (q : Kind) → is_of k q ≡ true → q ≡ Terminal k
is_of-true k Join e = absurd (cc)
is_of-true k Negated e = absurd (cc)
is_of-true k (Group giver width members) e = absurd (cc)
is_of-true k (Terminal rule) e = ap Terminal ((Decides-eqb rule k).0 e)

is_of-itself : (k : ℕ) (q : Kind) → q ≡ Terminal k → is_of k q ≡ true
is_of-itself k q e = ap (is_of k) e ∙ (Decides-eqb k k).1 refl

past : (nodes : List Node) (n : ℕ) (x : Node) (k : ℕ) → slice_get nodes n ≡ Some x → x.kind ≡ Terminal k → k < past_rules nodes
past [] n x k at kind = absurd (cc)
past (y ∷ ys) zero x k at kind = let same : y ≡ x = cc in let a = ap (λ (z : Node). past_rule z.kind) same in let b = ap past_rule kind in omega (arith, a, b)
past (y ∷ ys) (suc n) x k at kind = let r = past ys n x k at kind in omega (arith, r)

module _ (alphas : List Alpha) (nodes : List Node) (wm : List Element) (sound : IsSound alphas nodes) (rise : HasRisingTags wm) where
  stands : ℕ → List ℕ → Bool
  stands n t = left_tokens wm alphas nodes n t == 1

  -- a member of what is found at a node
  record IsAt (k n : ℕ) (o : Option Node) (i : Inst) : Type 0 where
    pub node : Node
    pub at : o ≡ Some node
    pub kind : node.kind ≡ Terminal k
    pub rule : i.rule ≡ k
    pub stands : left_tokens wm alphas nodes n i.tags ≡ 1

  of_at : (k n : ℕ) (o : Option Node) (i : Inst) → IsMember i (found_at alphas nodes wm k n o) → IsAt k n o i
  of_at k n None i m = absurd m
  of_at k n (Some x) i m = by (is_of k x.kind) refl m
    where
      by : (b : Bool) → is_of k x.kind ≡ b → IsMember i (cond b (map (inst k) (filter (λ t. left_tokens wm alphas nodes n t == 1) (tag_lists (left_width nodes x.parent) (tags_of wm)))) []) → IsAt k n (Some x) i
      by false q h = absurd h
      by true q h =
          let p = map_member (inst k) i (filter (λ t. left_tokens wm alphas nodes n t == 1) (tag_lists (left_width nodes x.parent) (tags_of wm))) h in
          let f = filter_member (λ t. left_tokens wm alphas nodes n t == 1) p.0 (tag_lists (left_width nodes x.parent) (tags_of wm)) p.1 in
          record {
            node = x;
            at = refl;
            kind = is_of-true k x.kind q;
            rule = ap (λ (j : Inst). j.rule) p.2;
            stands = ap (λ (j : Inst). left_tokens wm alphas nodes n j.tags) p.2 ∙ (Decides-eqb (left_tokens wm alphas nodes n p.0) 1).0 f.1;
          }

  at_in_order : (k n : ℕ) (o : Option Node) → AllBefore Before (found_at alphas nodes wm k n o)
  at_in_order k n None = tt
  at_in_order k n (Some x) = by (is_of k x.kind)
    where
      by : (b : Bool) → AllBefore Before (cond b (map (inst k) (filter (λ t. left_tokens wm alphas nodes n t == 1) (tag_lists (left_width nodes x.parent) (tags_of wm)))) [])
      by false = tt
      by true =
          all_before-map TagsBefore Before (inst k) (filter (λ t. left_tokens wm alphas nodes n t == 1) (tag_lists (left_width nodes x.parent) (tags_of wm))) (λ t u h. inr (refl, h))
          (all_before-filter TagsBefore (λ t. left_tokens wm alphas nodes n t == 1) (tag_lists (left_width nodes x.parent) (tags_of wm)) (lists_in_order (left_width nodes x.parent) (tags_of wm) (rising wm rise)))

  record IsOf (k bound : ℕ) (i : Inst) : Type 0 where
    pub n : ℕ
    pub low : n < bound
    pub is : IsAt k n (slice_get nodes n) i

  of_rule : (k bound : ℕ) (i : Inst) → IsMember i (found_of alphas nodes wm k bound) → IsOf k bound i
  of_rule k zero i m = absurd m
  of_rule k (suc b) i m =
      elim (member_cases i (found_of alphas nodes wm k b) (found_at alphas nodes wm k b (slice_get nodes b)) m) [
        | inl l ↦ (let r = of_rule k b i l in record { n = r.n; low = omega (arith, r.low); is = r.is })
        | inr h ↦ record { n = b; low = omega arith; is = of_at k b (slice_get nodes b) i h }
      ]

  rule_in_order : (k bound : ℕ) → AllBefore Before (found_of alphas nodes wm k bound)
  rule_in_order k zero = tt
  rule_in_order k (suc b) =
      all_before-append Before (found_of alphas nodes wm k b) (found_at alphas nodes wm k b (slice_get nodes b)) (rule_in_order k b) (at_in_order k b (slice_get nodes b))
      (λ i j l m.
      let p = of_rule k b i l in
      let q = of_at k b (slice_get nodes b) j m in
      let same = sound.one p.n b k p.is.node q.node p.is.at q.at p.is.kind q.kind in
      absurd (omega (arith, same, p.low)))

  record IsBelow (bound : ℕ) (i : Inst) : Type 0 where
    pub k : ℕ
    pub low : k < bound
    pub is : IsOf k (length nodes) i

  of_below : (bound : ℕ) (i : Inst) → IsMember i (found_below alphas nodes wm bound) → IsBelow bound i
  of_below zero i m = absurd m
  of_below (suc b) i m =
      elim (member_cases i (found_below alphas nodes wm b) (found_of alphas nodes wm b (length nodes)) m) [
        | inl l ↦ (let r = of_below b i l in record { k = r.k; low = omega (arith, r.low); is = r.is })
        | inr h ↦ record { k = b; low = omega arith; is = of_rule b (length nodes) i h }
      ]

  below_in_order : (bound : ℕ) → AllBefore Before (found_below alphas nodes wm bound)
  below_in_order zero = tt
  below_in_order (suc b) =
      all_before-append Before (found_below alphas nodes wm b) (found_of alphas nodes wm b (length nodes)) (below_in_order b) (rule_in_order b (length nodes))
      (λ i j l m.
      let p = of_below b i l in
      let q = of_rule b (length nodes) j m in
      let c = p.is.is.rule in
      let d = q.is.rule in
      inl (omega (arith, c, d, p.low)))

  -- the other way
  in_at : (k n : ℕ) (x : Node) (t : List ℕ) → slice_get nodes n ≡ Some x → x.kind ≡ Terminal k → left_tokens wm alphas nodes n t ≡ 1 → IsMember (inst k t) (found_at alphas nodes wm k n (Some x))
  in_at k n x t at kind one =
      subst (λ b. IsMember (inst k t) (cond b (map (inst k) (filter (λ u. left_tokens wm alphas nodes n u == 1) (tag_lists (left_width nodes x.parent) (tags_of wm)))) [])) (sym (is_of-itself k x.kind kind))
      (member-map (inst k) t (filter (λ u. left_tokens wm alphas nodes n u == 1) (tag_lists (left_width nodes x.parent) (tags_of wm)))
      (member-filter (λ u. left_tokens wm alphas nodes n u == 1) t (tag_lists (left_width nodes x.parent) (tags_of wm)) (lists_have (left_width nodes x.parent) (tags_of wm) t is.long (all_in_tags wm t is.all))
      ((Decides-eqb (left_tokens wm alphas nodes n t) 1).1 one)))
    where
      is : IsToken wm (left_width nodes x.parent) t
      is = left_are_tokens wm alphas nodes n x at t (λ z. absurd (omega (arith, one, z)))

  in_rule : (k bound n : ℕ) (i : Inst) → n < bound → IsMember i (found_at alphas nodes wm k n (slice_get nodes n)) → IsMember i (found_of alphas nodes wm k bound)
  in_rule k zero n i lt m = absurd (omega arith)
  in_rule k (suc b) n i lt m = by (λ low. in_rule k b n i low m) (n == b) refl
    where
      by : (n < b → IsMember i (found_of alphas nodes wm k b)) → (c : Bool) → (n == b) ≡ c → IsMember i (found_of alphas nodes wm k b ++ found_at alphas nodes wm k b (slice_get nodes b))
      by ih true q = member_right i (found_of alphas nodes wm k b) (found_at alphas nodes wm k b (slice_get nodes b)) (subst (λ z. IsMember i (found_at alphas nodes wm k z (slice_get nodes z))) ((Decides-eqb n b).0 q) m)
      by ih false q = member_left i (found_of alphas nodes wm k b) (found_at alphas nodes wm k b (slice_get nodes b)) (ih less)
        where
          less : n < b
          less = let ne : n ≢ b = (λ e. let h = (Decides-eqb n b).1 e in absurd (cc)) in omega (arith, ne)

  in_below : (bound k : ℕ) (i : Inst) → k < bound → IsMember i (found_of alphas nodes wm k (length nodes)) → IsMember i (found_below alphas nodes wm bound)
  in_below zero k i lt m = absurd (omega arith)
  in_below (suc b) k i lt m = by (λ low. in_below b k i low m) (k == b) refl
    where
      by : (k < b → IsMember i (found_below alphas nodes wm b)) → (c : Bool) → (k == b) ≡ c → IsMember i (found_below alphas nodes wm b ++ found_of alphas nodes wm b (length nodes))
      by ih true q = member_right i (found_below alphas nodes wm b) (found_of alphas nodes wm b (length nodes)) (subst (λ z. IsMember i (found_of alphas nodes wm z (length nodes))) ((Decides-eqb k b).0 q) m)
      by ih false q = member_left i (found_below alphas nodes wm b) (found_of alphas nodes wm b (length nodes)) (ih less)
        where
          less : k < b
          less = let ne : k ≢ b = (λ e. let h = (Decides-eqb k b).1 e in absurd (cc)) in omega (arith, ne)

  found_is : (i : Inst) → IsMember i (found_over alphas nodes wm) → IsFound alphas nodes wm i
  found_is i m =
      let p = of_below (past_rules nodes) i m in
      let q = p.is.is in
      record { n = p.is.n; node = q.node; at = q.at; kind = q.kind ∙ ap Terminal (sym q.rule); stands = q.stands }

  is_found : (i : Inst) → IsFound alphas nodes wm i → IsMember i (found_over alphas nodes wm)
  is_found i f =
      in_below (past_rules nodes) i.rule i (past nodes f.n f.node i.rule f.at f.kind)
      (in_rule i.rule (length nodes) f.n i (slice_get_within nodes f.n f.node f.at)
      (subst (λ o. IsMember i (found_at alphas nodes wm i.rule f.n o)) (sym f.at) (in_at i.rule f.n f.node i.tags f.at f.kind f.stands)))

pub found_law : FoundLaw
found_law alphas nodes wm sound rise = (
  (λ i. (λ h. found_is alphas nodes wm sound rise i (member_from_contains i (found_over alphas nodes wm) h), λ f. contains_from_member i (found_over alphas nodes wm) (is_found alphas nodes wm sound rise i f))),
  all_pairs_from_before Before (found_over alphas nodes wm) (below_in_order alphas nodes wm sound rise (past_rules nodes)),
)
