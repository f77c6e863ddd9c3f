-- What `cs` lists is ranked.
use Rattle.std.proofs.Common.{Bool, true, false, true≢false, is_some, inl, inr, ◌≡◌, ℕ, zero, suc, ◌≤◌, List, [], ◌∷◌, length, not, Option, Some, None, option_map, unwrap_or, refl, ap, sym, ◌∙◌, subst, arith}
use Rattle.std.specs.Prelude.{◌≢◌, slice_get, Contains, IsTrue}
use Rattle.std.specs.Bool.{MatchBool}
use Rattle.std.proofs.lemmas.Bool.{and_parts, eqb-true}
use Rattle.std.proofs.lemmas.List.Kept.{AllPairs-filter}
use Rattle.ops_base.specs.declared.commands.Strategy.{Strategy}
use Rattle.ops_base.specs.declared.commands.Command.{Command}
use Rattle.ops_base.specs.declared.conditions.Part.{Part}
use Rattle.ops_base.specs.declared.conditions.Part.TheVariants.{One, Group}
use Rattle.ops_base.specs.declared.elements.Element.{Element}
use Rattle.ops_base.specs.declared.matching.Binding.{Binding}
use Rattle.ops_base.specs.declared.rules.Inst.{Inst}
use Rattle.ops_base.specs.declared.rules.Rule.{Rule}
use Rattle.ops_base.specs.ConflictSet.{conflict_set}
use Rattle.ops_base.specs.Dominance.{dominates}
use Rattle.ops_base.specs.Instances.{Meets}
use Rattle.ops_base.specs.Matching.{match_of}
use Rattle.ops_base.specs.Valid.{first_is_positive, specificity}
use Rattle.run_laws.specs.Programs.{AreValid}
use Rattle.ops_base.specs.Refraction.{is_among, unfired, dominant}
use Rattle.ops_base.specs.WorkingMemory.{HasRisingTags}
use Rattle.ops_base.proofs.ConflictSetLaws.{conflict_set-is}
use Rattle.ops_base.proofs.DominanceLaws.{dominates_itself, dominates_trans}
use Rattle.ops_base.proofs.InOrder.{AllBefore, before_from_all_pairs}
use Rattle.ops_base.proofs.Members.{IsMember, member_from_contains, contains_from_member}
use Rattle.ops_base.proofs.RefractionLaws.{member-unfired}
use Rattle.ops_meaning.specs.Acting.{Setting}
use Rattle.ops_meaning.specs.Running.{Course, ranked, standing_by, without_inst}
use Rattle.ops_meaning.proofs.Ranked.{AreDistinct, in_order_distinct, ranked_is}
use Rattle.run_laws.specs.Ranking.{HasRank, IsRanking}
use Rattle.run_laws.proofs.Sights.{rule_valid}

-- the first is the dominant one
first_ranked : (n : ℕ) (g : Strategy) (rules : List Rule) (insts : List Inst) → length insts ≤ n → slice_get (ranked n g rules insts) 0 ≡ dominant g rules insts
first_ranked zero g rules [] within = refl
first_ranked zero g rules (i ∷ insts) within = absurd (omega arith)
first_ranked (suc n) g rules insts within = by (dominant g rules insts)
  where
    by : (o : Option Inst) → slice_get (unwrap_or (option_map (λ i. i ∷ ranked n g rules (without_inst i insts)) o) []) 0 ≡ o
    by None = refl
    by (Some i) = refl

pub distinct_unfired : (rules : List Rule) (m : Course) → HasRisingTags m.wm → AreDistinct (unfired (conflict_set rules m.wm) m.fired)
distinct_unfired rules m rising =
    AllPairs-filter (λ i j. i ≢ j) (λ i. not (is_among m.fired i)) (conflict_set rules m.wm)
    (in_order_distinct (conflict_set rules m.wm) (conflict_set-is rules m.wm rising).in_order)

pub standing_ranked : (rules : List Rule) (m : Course) → HasRisingTags m.wm → IsRanking rules m (standing_by (conflict_set rules) rules m)
standing_ranked rules m rising =
    let insts = unfired (conflict_set rules m.wm) m.fired in
    let r = ranked_is m.strategy rules (length insts) insts (distinct_unfired rules m rising) (omega arith) in record {
      members = λ i. (let u = member-unfired (conflict_set rules m.wm) m.fired i in let l = r.members i in (λ h. u.0 (l.0 h), λ h. l.1 (u.1 h)));
      order = r.order;
      first = first_ranked (length insts) m.strategy rules insts (omega arith);
    }

-- ---- no other list is ranked so

module _ (g : Strategy) (rules : List Rule) where
  abbrev pub Over : Inst → Inst → Type 0
  Over i j = IsTrue (dominates g rules i j)

  not_itself : (i : Inst) → Over i i → ⊥
  not_itself i h = true≢false (sym h ∙ dominates_itself g rules i)

  not_both : (i j : Inst) → Over i j → Over j i → ⊥
  not_both i j a b = not_itself i (dominates_trans g rules i j i a b)

  pub same_ranked : (xs ys : List Inst) → AllBefore Over xs → AllBefore Over ys → ((i : Inst) → IsMember i xs → IsMember i ys) → ((i : Inst) → IsMember i ys → IsMember i xs) → xs ≡ ys
  same_ranked [] [] a b to from = refl
  same_ranked [] (y ∷ ys) a b to from = absurd (from y (inl refl))
  same_ranked (x ∷ xs) [] a b to from = absurd (to x (inl refl))
  same_ranked (x ∷ xs) (y ∷ ys) a b to from =
      let e = heads (to x (inl refl)) (from y (inl refl)) in
      let t = same_ranked xs ys a.1 b.1 (λ i m. tail_to e i m (to i (inr m))) (λ i m. tail_from e i m (from i (inr m))) in
      cc
    where
      heads : IsMember x (y ∷ ys) → IsMember y (x ∷ xs) → x ≡ y
      heads (inl e) n = e
      heads (inr m) (inl e) = sym e
      heads (inr m) (inr n) = absurd (not_both x y (a.0 y n) (b.0 x m))

      tail_to : x ≡ y → (i : Inst) → IsMember i xs → IsMember i (y ∷ ys) → IsMember i ys
      tail_to e i m (inl is) = let P : Inst → Type 0 = Over x in absurd (not_itself x (subst P (is ∙ sym e) (a.0 i m)))
      tail_to e i m (inr n) = n

      tail_from : x ≡ y → (i : Inst) → IsMember i ys → IsMember i (x ∷ xs) → IsMember i xs
      tail_from e i m (inl is) = let P : Inst → Type 0 = Over y in absurd (not_itself y (subst P (is ∙ e) (b.0 i m)))
      tail_from e i m (inr n) = n

pub only_ranking : (rules : List Rule) (m : Course) (other : List Inst) → HasRisingTags m.wm → IsRanking rules m other → other ≡ standing_by (conflict_set rules) rules m
only_ranking rules m other rising p =
    let list = standing_by (conflict_set rules) rules m in
    let q = standing_ranked rules m rising in
    same_ranked m.strategy rules other list
    (before_from_all_pairs (Over m.strategy rules) other p.order) (before_from_all_pairs (Over m.strategy rules) list q.order)
    (λ i k. member_from_contains i list ((q.members i).1 ((p.members i).0 (contains_from_member i other k))))
    (λ i k. member_from_contains i other ((p.members i).1 ((q.members i).0 (contains_from_member i list k))))

-- ---- what dominance examines

-- an instantiation has a first tag if the first condition is positive
first_tag_there : (wm : List Element) (parts : List Part) (tags : List ℕ) → first_is_positive parts ≡ true → Meets wm parts [] tags → is_some (slice_get tags 0) ≡ true
first_tag_there wm [] tags h i = absurd (cc)
first_tag_there wm (Group cs ∷ parts) tags h i = absurd (cc)
first_tag_there wm (One c ∷ parts) tags h i = by c.negated h i
  where
    by : (b : Bool) → not b ≡ true
        → MatchBool b (((e : Element) → Contains wm e → match_of c e [] ≡ None) × Meets wm parts [] tags)
        ((e : Element) × (next : List Binding) × (rest : List ℕ) × Contains wm e × (match_of c e [] ≡ Some next) × (tags ≡ e.tag ∷ rest) × Meets wm parts next rest)
        → is_some (slice_get tags 0) ≡ true
    by true h i = absurd (cc)
    by false h i = ap (λ ts. is_some (slice_get ts 0)) i.5

pub ranks_found : (s : Setting) (commands : List Command) (wm : List Element) (i : Inst) → AreValid s commands → HasRisingTags wm → Contains (conflict_set s.rules wm) i → HasRank s.rules i
ranks_found s commands wm i h rising in_set =
    let is = (conflict_set-is s.rules wm rising).sound i in_set in
    let r = is.0 in
    let v = rule_valid s.classes s.rules s.templates commands (length s.text) i.rule r h is.1 in
    let sixth = (and_parts _ _ (and_parts _ _ (and_parts _ _ (and_parts _ _ v).0).0).0).0 in
    let third = (and_parts _ _ (and_parts _ _ (and_parts _ _ sixth).0).0).0 in
    let first = (and_parts _ _ (and_parts _ _ third).0).0 in
    record {
      rule = r;
      there = is.1;
      specific = eqb-true r.specificity (specificity r.conditions) (and_parts _ _ sixth).1;
      first = first_tag_there wm r.conditions i.tags first is.2;
    }
