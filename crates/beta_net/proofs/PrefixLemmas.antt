-- Links and the paths of rules' parts are one to one.
use Rattle.std.proofs.Common.{◌≡◌, ℕ, zero, suc, ◌<◌, ◌≤◌, List, [], ◌∷◌, ◌++◌, length, length-append, slice_get, Option, Some, None, refl, ap, ap₂, subst, sym, ◌∙◌, arith, append_assoc, ◌⊎◌, inl, inr}
use Rattle.net_base.specs.declared.normal.NormalCondition.{NormalCondition}
use Rattle.net_base.specs.declared.normal.NormalPart.{NormalPart}
use Rattle.net_base.specs.declared.normal.NormalPart.TheVariants.{One, Group}
use Rattle.net_base.specs.Shape.{as_parts, IsIn}
use Rattle.beta_net.specs.declared.links.Link.{Link}
use Rattle.beta_net.specs.Linked.{path, path_to, StandsBelow, ArePositive, IsWithin, AreLinks}
use Rattle.beta_net.proofs.Lists.{get_at}
use Rattle.beta_net.proofs.PathLemmas.{path_is, parent_within, above_within}

tail_same : {X : Type 0} (x y : X) (xs ys : List X) → x ∷ xs ≡ y ∷ ys → xs ≡ ys
tail_same x y xs ys e = cc

head_same : {X : Type 0} (x y : X) (xs ys : List X) → x ∷ xs ≡ y ∷ ys → x ≡ y
head_same x y xs ys e = cc

pub not_nil : {X : Type 0} (q rest : List X) (c : X) → [] ≡ q ++ c ∷ rest → ⊥
not_nil q rest c e = let z : 0 ≡ length (q ++ c ∷ rest) = ap length e in absurd (omega (arith, z, length-append q (c ∷ rest)))

-- where a list and one more is cut before c
snoc_split : {X : Type 0} (xs : List X) (x : X) (q : List X) (c : X) (rest : List X) → xs ++ x ∷ [] ≡ q ++ c ∷ rest → ((xs ≡ q) × (x ≡ c)) ⊎ ((more : List X) × (xs ≡ q ++ c ∷ more))
snoc_split [] x [] c rest e = inl (refl, head_same x c [] rest e)
snoc_split [] x (y ∷ q) c rest e = absurd (not_nil q rest c (tail_same x y [] (q ++ c ∷ rest) e))
snoc_split (z ∷ xs) x [] c rest e = inr (xs, ap (λ h. h ∷ xs) (head_same z c (xs ++ x ∷ []) rest e))
snoc_split (z ∷ xs) x (y ∷ q) c rest e =
    let h = head_same z y (xs ++ x ∷ []) (q ++ c ∷ rest) e in
    elim (snoc_split xs x q c rest (tail_same z y (xs ++ x ∷ []) (q ++ c ∷ rest) e)) [ inl g ↦ inl (ap₂ (λ a b. a ∷ b) h g.0, g.1) | inr g ↦ inr (g.0, ap₂ (λ a b. a ∷ b) h g.1) ]

pub snoc_same : {X : Type 0} (xs ys : List X) (x y : X) → xs ++ x ∷ [] ≡ ys ++ y ∷ [] → (xs ≡ ys) × (x ≡ y)
snoc_same xs ys x y e = elim (snoc_split xs x ys y [] e) [
  | inl g ↦ g
  | inr g ↦ absurd (omega (arith, ap length e, ap length g.1, length-append xs (x ∷ []), length-append ys (y ∷ []), length-append ys (y ∷ g.0)))
]

-- two links of the same path are one
pub path_same : (links : List Link) → AreLinks links → (k n m : ℕ) (l x : Link) → n < k → slice_get links n ≡ Some l → slice_get links m ≡ Some x → path links n ≡ path links m → n ≡ m
path_same links a zero n m l x lt at to e = absurd (omega arith)
path_same links a (suc k) n m l x lt at to e =
    let g = snoc_same (path_to links l.parent) (path_to links x.parent) l.part x.part (sym (path_is links a n l at) ∙ (e ∙ path_is links a m x to)) in
    let small : n ≤ k = omega arith in
    let p = parents (λ p q y z lt' here there f. path_same links a k p q y z lt' here there f) small l.parent x.parent refl refl g.0 in
    a.distinct n m l x at to (sym p, sym g.1)
  where
    parents : ((p q : ℕ) (y z : Link) → p < k → slice_get links p ≡ Some y → slice_get links q ≡ Some z → path links p ≡ path links q → p ≡ q) → n ≤ k → (o u : Option ℕ) → l.parent ≡ o → x.parent ≡ u → path_to links o ≡ path_to links u → o ≡ u
    parents ih le None None i j f = refl
    parents ih le None (Some q) i j f =
        let g = get_at links q (parent_within links a m x to q j) in
        absurd (not_nil (path_to links g.0.parent) [] g.0.part (f ∙ path_is links a q g.0 g.1))
    parents ih le (Some p) None i j f =
        let g = get_at links p (parent_within links a n l at p i) in
        absurd (not_nil (path_to links g.0.parent) [] g.0.part (sym f ∙ path_is links a p g.0 g.1))
    parents ih le (Some p) (Some q) i j f =
        let lt' = (a.each n l at).parent p i in
        let g = get_at links p (parent_within links a n l at p i) in
        let h = get_at links q (parent_within links a m x to q j) in
        ap Some (ih p q g.0 h.0 (omega arith) g.1 h.1 f)

-- a link of what stands before and of the part
pub record IsLinkOf (links : List Link) (q : List NormalPart) (c : NormalPart) (m : ℕ) : Type 0 where
  pub link : Link
  pub at : slice_get links m ≡ Some link
  pub before : path_to links link.parent ≡ q
  pub part_is : link.part ≡ c

-- every part of a link's path has its link
pub prefix_found : (links : List Link) → AreLinks links → (k n : ℕ) (l : Link) (q rest : List NormalPart) (c : NormalPart) → n < k → slice_get links n ≡ Some l → path links n ≡ q ++ c ∷ rest → (m : ℕ) × IsLinkOf links q c m
prefix_found links a zero n l q rest c lt at e = absurd (omega arith)
prefix_found links a (suc k) n l q rest c lt at e = elim (snoc_split (path_to links l.parent) l.part q c rest (sym (path_is links a n l at) ∙ e)) [
  | inl g ↦ (n, record { link = l; at = at; before = g.0; part_is = g.1 })
  | inr g ↦ up (λ p y more lt' here f. prefix_found links a k p y q more c lt' here f) (let small : n ≤ k = omega arith in small) l.parent refl g.0 g.1
]
  where
    up : ((p : ℕ) (y : Link) (more : List NormalPart) → p < k → slice_get links p ≡ Some y → path links p ≡ q ++ c ∷ more → (m : ℕ) × IsLinkOf links q c m) → n ≤ k → (o : Option ℕ) → l.parent ≡ o → (more : List NormalPart) → path_to links o ≡ q ++ c ∷ more → (m : ℕ) × IsLinkOf links q c m
    up ih le None i more f = absurd (not_nil q more c f)
    up ih le (Some p) i more f =
        let lt' = (a.each n l at).parent p i in
        let g = get_at links p (parent_within links a n l at p i) in ih p g.0 more (omega arith) g.1 f

-- every part of what stands down to a parent has its link
pub prefix_of_path : (links : List Link) → AreLinks links → (o : Option ℕ) → IsWithin o (length links) → (q rest : List NormalPart) (c : NormalPart) → path_to links o ≡ q ++ c ∷ rest → (m : ℕ) × IsLinkOf links q c m
prefix_of_path links a None w q rest c e = absurd (not_nil q rest c e)
prefix_of_path links a (Some p) w q rest c e = let g = get_at links p (w p refl) in prefix_found links a (suc p) p g.0 q rest c (omega arith) g.1 e

pub append-parts : (cs ds : List NormalCondition) → as_parts (cs ++ ds) ≡ as_parts cs ++ as_parts ds
append-parts [] ds = refl
append-parts (c ∷ cs) ds = ap (λ r. One c ∷ r) (append-parts cs ds)

-- what a group's link stands below
pub group_below : (links : List Link) → AreLinks links → (n : ℕ) (l : Link) (cs : List NormalCondition) → slice_get links n ≡ Some l → l.part ≡ Group cs → ArePositive cs × (path_to links l.above ≡ path_to links l.parent ++ as_parts cs)
group_below links a n l cs at e = subst (StandsBelow links l.parent l.above) e (a.each n l at).below

-- every path of the parts down to a parent has its link
pub in_found : (links : List Link) → AreLinks links → (o : Option ℕ) → IsWithin o (length links) → (all : List NormalPart) → path_to links o ≡ all → (q : List NormalPart) (p : NormalPart) → IsIn all q p → (m : ℕ) × IsLinkOf links q p m
in_found links a o w all e q p (inl h) = prefix_of_path links a o w q h.0 p (e ∙ h.1)
in_found links a o w all e q p (inr h) =
    let g = prefix_of_path links a o w h.outer h.group.0 (Group (h.front ++ h.member ∷ h.behind)) (e ∙ h.group.1) in
    let down = (group_below links a g.0 g.1.link (h.front ++ h.member ∷ h.behind) g.1.at g.1.part_is).1 in
    let whole : path_to links g.1.link.above ≡ q ++ One h.member ∷ as_parts h.behind =
    down ∙ (ap₂ (λ x y. x ++ y) g.1.before (append-parts h.front (h.member ∷ h.behind))
    ∙ (sym (append_assoc h.outer (as_parts h.front) (One h.member ∷ as_parts h.behind)) ∙ ap (λ x. x ++ One h.member ∷ as_parts h.behind) (sym h.before_is))) in
    let f = prefix_of_path links a g.1.link.above (above_within links a g.0 g.1.link g.1.at) q (as_parts h.behind) (One h.member) whole in
    (f.0, record { link = f.1.link; at = f.1.at; before = f.1.before; part_is = f.1.part_is ∙ sym h.part_is })
