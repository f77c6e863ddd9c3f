-- The tests of a normal condition look at places before it, or at its own.
use Rattle.std.proofs.Common.{◌≡◌, ℕ, suc, ◌+◌, ◌<◌, ◌≤◌, Bool, true, false, cond, ◌==◌, List, [], ◌∷◌, ◌++◌, length, fold, Option, Some, None, option_map, refl, sym, ap, subst, arith}
use Rattle.std.proofs.lemmas.Bool.{eqb-false}
use Rattle.std.specs.List.{AllByRecursion, cons_option}
use Rattle.ops_base.specs.declared.conditions.Operand.{Operand}
use Rattle.ops_base.specs.declared.conditions.Operand.TheVariants.{Constant, OneOf, Variable}
use Rattle.ops_base.specs.declared.conditions.Test.{Test}
use Rattle.ops_base.specs.declared.conditions.Condition.{Condition}
use Rattle.ops_base.specs.declared.conditions.Part.{Part}
use Rattle.ops_base.specs.declared.conditions.Part.TheVariants.{One, Group}
use Rattle.net_base.specs.declared.nodes.JoinTest.{JoinTest}
use Rattle.net_base.specs.declared.normal.Origin.{Origin}
use Rattle.net_base.specs.declared.normal.Binder.{Binder}
use Rattle.net_base.specs.declared.normal.NormalOperand.{NormalOperand}
use Rattle.net_base.specs.declared.normal.NormalOperand.TheVariants as normal
use Rattle.net_base.specs.declared.normal.NormalTest.{NormalTest}
use Rattle.net_base.specs.declared.normal.NormalCondition.{NormalCondition}
use Rattle.net_base.specs.declared.normal.NormalPart.{NormalPart}
use Rattle.net_base.specs.declared.normal.NormalPart.TheVariants as part
use Rattle.net_base.specs.Normal.{AreBelow, origin_of, binders_with, binders_after, normal_operand, normal_test, normal_tests, normal_of, normal_member, normal_members, normal_parts, joined_origin, join_tests}
use Rattle.net_base.specs.Shape.{positives}
use Rattle.net_base.proofs.Variables.{below_up, below_with, below_after, at_place}

abbrev IsLowOrigin : ℕ → Option Origin → Type 0
IsLowOrigin place None = Unit {0}
IsLowOrigin place (Some o) = o.place < suc place

abbrev pub IsLow : ℕ → NormalOperand → Type 0
IsLow place (normal.Constant c) = Unit {0}
IsLow place (normal.OneOf cs) = Unit {0}
IsLow place (normal.Bound o) = o.place < suc place

abbrev pub AreLow : ℕ → List NormalTest → Type 0
AreLow place ns = AllByRecursion (λ (n : NormalTest). IsLow place n.operand) ns

origin_low : (place v : ℕ) (bs : List Binder) (start : Option Origin) → AreBelow (suc place) bs → IsLowOrigin place start → IsLowOrigin place (fold (λ (found : Option Origin) (b : Binder). cond (b.variable == v) (Some b.origin) found) start bs)
origin_low place v [] start h low = low
origin_low place v (b ∷ bs) start h low = by_test (λ s g. origin_low place v bs s h.1 g) (b.variable == v)
  where
    by_test : ((s : Option Origin) → IsLowOrigin place s → IsLowOrigin place (fold (λ (found : Option Origin) (b : Binder). cond (b.variable == v) (Some b.origin) found) s bs)) → (c : Bool)
        → IsLowOrigin place (fold (λ (found : Option Origin) (b : Binder). cond (b.variable == v) (Some b.origin) found) (cond c (Some b.origin) start) bs)
    by_test ih true = ih (Some b.origin) h.0
    by_test ih false = ih start low

cons_low : (place : ℕ) (t : Test) (bs : List Binder) (ns : List NormalTest) (o : Operand) → AreBelow (suc place) bs → AreLow place ns → AreLow place (cons_option (normal_test t (normal_operand bs o)) ns)
cons_low place t bs ns (Constant c) h low = (tt, low)
cons_low place t bs ns (OneOf cs) h low = (tt, low)
cons_low place t bs ns (Variable v) h low = by_origin (origin_of bs v) (origin_low place v bs None h tt)
  where
    by_origin : (o : Option Origin) → IsLowOrigin place o → AreLow place (cons_option (normal_test t (option_map (λ p. normal.Bound p) o)) ns)
    by_origin None g = low
    by_origin (Some o) g = (g, low)

tests_low : (place : ℕ) (ts : List Test) (bs : List Binder) → AreBelow (suc place) bs → AreLow place (normal_tests place ts bs)
tests_low place [] bs h = tt
tests_low place (t ∷ ts) bs h = by_binds (λ cs g. tests_low place ts cs g) t.binds
  where
    by_binds : ((cs : List Binder) → AreBelow (suc place) cs → AreLow place (normal_tests place ts cs)) → (b : Bool)
        → AreLow place (cond b (normal_tests place ts (binders_with bs t.operand (at_place place t))) (cons_option (normal_test t (normal_operand bs t.operand)) (normal_tests place ts bs)))
    by_binds ih true = ih (binders_with bs t.operand (at_place place t)) (below_with place t.field bs t.operand h)
    by_binds ih false = cons_low place t bs (normal_tests place ts bs) t.operand h (ih bs h)

-- the join tests look at places in the left token
pub joins_low : (place : ℕ) (ns : List NormalTest) → AreLow place ns → AllByRecursion (λ (j : JoinTest). j.place < place) (join_tests place ns)
joins_low place [] h = tt
joins_low place (n ∷ ns) h = by_operand (joins_low place ns h.1) n.operand h.0
  where
    by_place : AllByRecursion (λ (j : JoinTest). j.place < place) (join_tests place ns) → (o : Origin) (b : Bool) → (o.place == place) ≡ b → o.place < suc place
        → AllByRecursion (λ (j : JoinTest). j.place < place) (cons_option (option_map (λ (z : Origin). record { field = n.field; pred = n.pred; place = z.place; other = z.field }) (cond b None (Some o))) (join_tests place ns))
    by_place ih o true e lt = ih
    by_place ih o false e lt = let ne = eqb-false o.place place e in ((let z : o.place < place = omega (arith, ne) in z), ih)

    by_operand : AllByRecursion (λ (j : JoinTest). j.place < place) (join_tests place ns) → (o : NormalOperand) → IsLow place o
        → AllByRecursion (λ (j : JoinTest). j.place < place) (cons_option (option_map (λ (z : Origin). record { field = n.field; pred = n.pred; place = z.place; other = z.field }) (joined_origin place o)) (join_tests place ns))
    by_operand ih (normal.Constant c) l = ih
    by_operand ih (normal.OneOf cs) l = ih
    by_operand ih (normal.Bound o) l = by_place ih o (o.place == place) refl l

head_same : {X : Type 0} (x y : X) (xs ys : List X) → x ∷ xs ≡ y ∷ ys → x ≡ y
head_same x y xs ys e = cc

tail_same : {X : Type 0} (x y : X) (xs ys : List X) → x ∷ xs ≡ y ∷ ys → xs ≡ ys
tail_same x y xs ys e = cc

abbrev pub normal_part : ℕ → Part → List Binder → NormalPart
normal_part place (One c) bs = part.One (normal_of place c bs)
normal_part place (Group cs) bs = part.Group (normal_members place cs bs)

-- a group has two members or more
abbrev pub IsGroupOfTwo : Part → Type 0
IsGroupOfTwo (One c) = Unit {0}
IsGroupOfTwo (Group cs) = 2 ≤ length cs

abbrev pub AreGroupsOfTwo : List Part → Type 0
AreGroupsOfTwo ps = AllByRecursion IsGroupOfTwo ps

-- p is the normal form of a part at this place
pub record IsNormalOf (place : ℕ) (p : NormalPart) (two : Type 0) : Type 0 where
  pub of : Part
  pub binders : List Binder
  pub below : AreBelow place binders
  pub is : normal_part place of binders ≡ p
  pub wide : two → IsGroupOfTwo of

-- each part of a rule's normal form is that of one of its parts
pub part_found : (place : ℕ) (ps : List Part) (bs : List Binder) (q : List NormalPart) (p : NormalPart) (rest : List NormalPart) → AreBelow place bs → normal_parts place ps bs ≡ q ++ p ∷ rest → IsNormalOf (place + positives q) p (AreGroupsOfTwo ps)
part_found place [] bs [] p rest h e = cc
part_found place [] bs (x ∷ q) p rest h e = cc
part_found place (One d ∷ ps) bs [] p rest h e =
    let z : place ≡ place + 0 = omega arith in
    record { of = One d; binders = bs; below = subst (λ k. AreBelow k bs) z h; is = subst (λ k. normal_part k (One d) bs ≡ p) z (head_same _ _ _ _ e); wide = λ w. tt }
part_found place (Group ds ∷ ps) bs [] p rest h e =
    let z : place ≡ place + 0 = omega arith in
    record { of = Group ds; binders = bs; below = subst (λ k. AreBelow k bs) z h; is = subst (λ k. normal_part k (Group ds) bs ≡ p) z (head_same _ _ _ _ e); wide = λ w. w.0 }
part_found place (Group ds ∷ ps) bs (x ∷ q) p rest h e =
    let same : part.Group (normal_members place ds bs) ≡ x = head_same _ _ _ _ e in
    let g = part_found place ps bs q p rest h (tail_same _ _ _ _ e) in
    subst (λ (z : NormalPart). IsNormalOf (place + positives (z ∷ q)) p (IsGroupOfTwo (Group ds) × AreGroupsOfTwo ps)) same
    (record { of = g.of; binders = g.binders; below = g.below; is = g.is; wide = λ w. g.wide w.1 })
part_found place (One d ∷ ps) bs (x ∷ q) p rest h e =
    subst (λ (z : NormalPart). IsNormalOf (place + positives (z ∷ q)) p (Unit {0} × AreGroupsOfTwo ps)) (head_same _ _ _ _ e)
    (by_sign (λ k ds g f. part_found k ps ds q p rest g f) d.negated (tail_same _ _ _ _ e))
  where
    again : (k m : ℕ) → k ≡ m → IsNormalOf k p (AreGroupsOfTwo ps) → IsNormalOf m p (Unit {0} × AreGroupsOfTwo ps)
    again k m z g =
        subst (λ j. IsNormalOf j p (Unit {0} × AreGroupsOfTwo ps)) z (record { of = g.of; binders = g.binders; below = g.below; is = g.is; wide = λ w. g.wide w.1 })

    by_sign : ((k : ℕ) (ds : List Binder) → AreBelow k ds → normal_parts k ps ds ≡ q ++ p ∷ rest → IsNormalOf (k + positives q) p (AreGroupsOfTwo ps)) → (b : Bool)
        → cond b (normal_parts place ps bs) (normal_parts (suc place) ps (binders_after place d.tests bs)) ≡ q ++ p ∷ rest → IsNormalOf (place + cond b (positives q) (suc (positives q))) p (Unit {0} × AreGroupsOfTwo ps)
    by_sign ih true f = again (place + positives q) (place + positives q) refl (ih place bs h f)
    by_sign ih false f =
        again (suc place + positives q) (place + suc (positives q)) (omega arith) (ih (suc place) (binders_after place d.tests bs) (below_after place d.tests bs (below_up place bs h)) f)

-- each condition of a rule's normal form looks at places up to its own
pub condition_low : (place : ℕ) (c : NormalCondition) (two : Type 0) → IsNormalOf place (part.One c) two → AreLow place c.tests
condition_low place c two g = by_part g.of g.is
  where
    by_part : (d : Part) → normal_part place d g.binders ≡ part.One c → AreLow place c.tests
    by_part (One d) e =
        let same : normal_of place d g.binders ≡ c = cc in
        subst (λ (z : NormalCondition). AreLow place z.tests) same (tests_low place d.tests g.binders (below_up place g.binders g.below))
    by_part (Group ds) e = cc

-- the members of a group are positive, and each looks at places up to its own
pub members_positive : (place : ℕ) (cs : List Condition) (bs : List Binder) → AllByRecursion (λ (c : NormalCondition). c.negated ≡ false) (normal_members place cs bs)
members_positive place [] bs = tt
members_positive place (c ∷ cs) bs = (refl, members_positive (suc place) cs (binders_after place c.tests bs))

members_low : (place : ℕ) (cs : List Condition) (bs : List Binder) (front : List NormalCondition) (c : NormalCondition) (behind : List NormalCondition) → AreBelow place bs → normal_members place cs bs ≡ front ++ c ∷ behind → AreLow (place + length front) c.tests
members_low place [] bs [] c behind h e = cc
members_low place [] bs (x ∷ front) c behind h e = cc
members_low place (d ∷ cs) bs [] c behind h e =
    let same : normal_member place d bs ≡ c = head_same _ _ _ _ e in
    subst (λ (z : NormalCondition). AreLow (place + 0) z.tests) same (subst (λ k. AreLow k (normal_tests place d.tests bs)) (let z : place ≡ place + 0 = omega arith in z) (tests_low place d.tests bs (below_up place bs h)))
members_low place (d ∷ cs) bs (x ∷ front) c behind h e =
    subst (λ k. AreLow k c.tests) (let z : suc place + length front ≡ place + suc (length front) = omega arith in z)
    (members_low (suc place) cs (binders_after place d.tests bs) front c behind (below_after place d.tests bs (below_up place bs h)) (tail_same _ _ _ _ e))

-- a group of a rule's normal form: its members are positive, look at places up to their own, and are two or more
pub record IsGroupOf (place : ℕ) (cs : List NormalCondition) (two : Type 0) : Type 0 where
  pub positive : AllByRecursion (λ (c : NormalCondition). c.negated ≡ false) cs
  pub low : (front : List NormalCondition) (c : NormalCondition) (behind : List NormalCondition) → cs ≡ front ++ c ∷ behind → AreLow (place + length front) c.tests
  pub wide : two → 2 ≤ length cs

length-members : (place : ℕ) (cs : List Condition) (bs : List Binder) → length (normal_members place cs bs) ≡ length cs
length-members place [] bs = refl
length-members place (c ∷ cs) bs = ap suc (length-members (suc place) cs (binders_after place c.tests bs))

pub group_of : (place : ℕ) (cs : List NormalCondition) (two : Type 0) → IsNormalOf place (part.Group cs) two → IsGroupOf place cs two
group_of place cs two g = by_part g.of g.is g.wide
  where
    by_part : (d : Part) → normal_part place d g.binders ≡ part.Group cs → (two → IsGroupOfTwo d) → IsGroupOf place cs two
    by_part (One d) e w = cc
    by_part (Group ds) e w =
        let same : normal_members place ds g.binders ≡ cs = cc in
        subst (λ (z : List NormalCondition). IsGroupOf place z two) same (record {
          positive = members_positive place ds g.binders;
          low = λ front c behind f. members_low place ds g.binders front c behind g.below f;
          wide = λ t. subst (λ k. 2 ≤ k) (sym (length-members place ds g.binders)) (w t);
        })
