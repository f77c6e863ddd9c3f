-- The parts down to a link stay as links are added.
use Rattle.std.proofs.Common.{◌≡◌, ℕ, zero, suc, ◌+◌, ◌<◌, ◌≤◌, List, [], ◌∷◌, ◌++◌, length, slice_get, Option, Some, None, refl, ap, ap₂, subst, sym, ◌∙◌, arith, ◌⊎◌, inl, inr, append-nil}
use Rattle.net_base.specs.declared.normal.NormalPart.{NormalPart}
use Rattle.net_base.specs.declared.normal.NormalPart.TheVariants.{One, Group}
use Rattle.net_base.specs.Shape.{positives, as_parts}
use Rattle.beta_net.specs.declared.links.Link.{Link}
use Rattle.beta_net.specs.Linked.{path_above, path_at, path_below, path, path_to, depth_in, depth_to, IsWithin, StandsBelow, IsFit, IsOf, AreLinks, Stands, IsNew}
use Rattle.beta_net.proofs.Lists.{get_left, get_lt, get_at, get_push}

-- with a bound above the number, links added later and a greater bound change nothing
pub path_stays : (links more : List Link) → AreLinks links → (k j n : ℕ) → n < k → n < j → n < length links → path_below k (links ++ more) n ≡ path_below j links n
path_stays links more a zero j n lt lt' low = absurd (omega arith)
path_stays links more a (suc k) zero n lt lt' low = absurd (omega arith)
path_stays links more a (suc k) (suc j) n lt lt' low =
    let g = get_at links n low in
    ap (path_at (path_below k (links ++ more))) (get_left links more n g.0 g.1)
    ∙ (ap (λ r. r ++ g.0.part ∷ []) (above g.0.parent (λ p e. (a.each n g.0 g.1).parent p e) (λ p low'. path_stays links more a k j p (omega arith) (omega arith) (omega arith)))
    ∙ ap (path_at (path_below j links)) (sym g.1))
  where
    above : (o : Option ℕ) → IsWithin o n → ((p : ℕ) → p < n → path_below k (links ++ more) p ≡ path_below j links p) → path_above (path_below k (links ++ more)) o ≡ path_above (path_below j links) o
    above None w ih = refl
    above (Some p) w ih = ih p (w p refl)

pub path_grown : (links more : List Link) → AreLinks links → (n : ℕ) → n < length links → path (links ++ more) n ≡ path links n
path_grown links more a n low = path_stays links more a (suc n) (suc n) n (omega arith) (omega arith) low

pub path_to_grown : (links more : List Link) → AreLinks links → (o : Option ℕ) → IsWithin o (length links) → path_to (links ++ more) o ≡ path_to links o
path_to_grown links more a None w = refl
path_to_grown links more a (Some p) w = path_grown links more a p (w p refl)

-- the bound that the paths above a link are given with does not matter
pub path_above_is : (links : List Link) → AreLinks links → (k n : ℕ) → n < suc k → n < length links → (o : Option ℕ) → IsWithin o n → path_above (path_below k links) o ≡ path_to links o
path_above_is links a k n lt low None w = refl
path_above_is links a k n lt low (Some p) w =
    let lt' = w p refl in
    sym (ap (λ ls. path_below k ls p) (append-nil links)) ∙ path_stays links [] a k (suc p) p (omega arith) (omega arith) (omega arith)

-- a link's own path is that of its parent and its own part
pub path_is : (links : List Link) → AreLinks links → (n : ℕ) (l : Link) → slice_get links n ≡ Some l → path links n ≡ path_to links l.parent ++ l.part ∷ []
path_is links a n l at =
    ap (path_at (path_below n links)) at
    ∙ ap (λ r. r ++ l.part ∷ []) (path_above_is links a n n (omega arith) (get_lt links n l at) l.parent (λ p e. (a.each n l at).parent p e))

pub parent_within : (links : List Link) → AreLinks links → (n : ℕ) (l : Link) → slice_get links n ≡ Some l → IsWithin l.parent (length links)
parent_within links a n l at p e = let lt = (a.each n l at).parent p e in let low = get_lt links n l at in omega arith

pub above_within : (links : List Link) → AreLinks links → (n : ℕ) (l : Link) → slice_get links n ≡ Some l → IsWithin l.above (length links)
above_within links a n l at p e = let lt = (a.each n l at).above p e in let low = get_lt links n l at in omega arith

pub depth_to_grown : (links more : List Link) (o : Option ℕ) → IsWithin o (length links) → depth_to (links ++ more) o ≡ depth_to links o
depth_to_grown links more None w = refl
depth_to_grown links more (Some p) w = let g = get_at links p (w p refl) in ap depth_in (get_left links more p g.0 g.1 ∙ sym g.1)

below_grown : (links more : List Link) → AreLinks links → (parent above : Option ℕ) (p : NormalPart) → IsWithin parent (length links) → IsWithin above (length links) → StandsBelow links parent above p → StandsBelow (links ++ more) parent above p
below_grown links more a parent above (One c) w v h = h
below_grown links more a parent above (Group cs) w v h =
    (h.0, path_to_grown links more a above v ∙ (h.1 ∙ ap (λ q. q ++ as_parts cs) (sym (path_to_grown links more a parent w))))

fit_grown : (links more : List Link) → AreLinks links → (n : ℕ) (l : Link) → IsWithin l.parent (length links) → IsWithin l.above (length links) → IsFit links n l → IsFit (links ++ more) n l
fit_grown links more a n l w v h = record {
  parent = h.parent;
  above = h.above;
  place = h.place ∙ ap positives (sym (path_to_grown links more a l.parent w));
  depth = h.depth ∙ ap (λ d. d + 1) (sym (depth_to_grown links more l.above v));
  below = below_grown links more a l.parent l.above l.part w v h.below;
}

-- one link more
pub links_push : (links : List Link) (l : Link) → AreLinks links → IsFit links (length links) l → IsNew links l.parent l.part → AreLinks (links ++ l ∷ [])
links_push links l a fit fresh = record {
  each = λ n x at. elim (get_push links l n x at) [
    | inl h ↦ fit_grown links (l ∷ []) a n x (parent_within links a n x h) (above_within links a n x h) (a.each n x h)
    | inr h ↦
        subst (λ (z : Link). IsFit (links ++ l ∷ []) n z) (sym h.1)
        (subst (λ m. IsFit (links ++ l ∷ []) m l) (sym h.0) (fit_grown links (l ∷ []) a (length links) l fit.parent fit.above fit))
  ];
  distinct = λ n m x y at to of. by_places n m x y (get_push links l n x at) (get_push links l m y to) of;
}
  where
    by_places : (n m : ℕ) (x y : Link) → ((slice_get links n ≡ Some x) ⊎ ((n ≡ length links) × (x ≡ l))) → ((slice_get links m ≡ Some y) ⊎ ((m ≡ length links) × (y ≡ l))) → IsOf x.parent x.part y → n ≡ m
    by_places n m x y (inl g) (inl h) of = a.distinct n m x y g h of
    by_places n m x y (inl g) (inr h) of =
        absurd (fresh n (record { link = x; at = g; of = subst (λ (z : Link). IsOf z.parent z.part x) h.1 (sym of.0, sym of.1) }))
    by_places n m x y (inr g) (inl h) of =
        absurd (fresh m (record { link = y; at = h; of = subst (λ (z : Link). IsOf z.parent z.part y) g.1 of }))
    by_places n m x y (inr g) (inr h) of = g.0 ∙ sym h.0

-- a link is no deeper than the links up to it
pub depth_least : (links : List Link) → AreLinks links → (k n : ℕ) (l : Link) → n < k → slice_get links n ≡ Some l → l.depth < n + 2
depth_least links a zero n l lt at = absurd (omega arith)
depth_least links a (suc k) n l lt at = by_above (λ p x lt' here. depth_least links a k p x lt' here) (let small : n ≤ k = omega arith in small) l.above refl
  where
    by_above : ((p : ℕ) (x : Link) → p < k → slice_get links p ≡ Some x → x.depth < p + 2) → n ≤ k → (o : Option ℕ) → l.above ≡ o → l.depth < n + 2
    by_above ih le None e = let d = (a.each n l at).depth ∙ ap (λ z. depth_to links z + 1) e in omega (arith, d)
    by_above ih le (Some p) e =
        let lt' = (a.each n l at).above p e in
        let low = get_lt links n l at in
        let g = get_at links p (omega arith) in
        let d = (a.each n l at).depth ∙ (ap (λ z. depth_to links z + 1) e ∙ ap (λ z. depth_in z + 1) g.1) in
        let h = ih p g.0 (omega arith) g.1 in omega (arith, d, h)

-- what stands has its parent's parts and its own
pub stands_down : (links : List Link) (parent : Option ℕ) (c : NormalPart) (n : ℕ) → AreLinks links → Stands links parent c n → path links n ≡ path_to links parent ++ c ∷ []
stands_down links parent c n a s =
    path_is links a n s.link s.at ∙ ap₂ (λ o z. path_to links o ++ z ∷ []) s.of.0 s.of.1
