-- One part more of a rule.
use Rattle.std.proofs.Common.{◌≡◌, ℕ, zero, suc, ◌+◌, ◌<◌, ◌≤◌, List, [], ◌∷◌, ◌++◌, take, drop, get_or, length, slice_get, Option, Some, None, refl, ap, ap₂, subst, sym, ◌∙◌, arith, length-append, append_assoc, append-nil, Bool, true, false, cond, not, inl, inr}
use Rattle.std.proofs.Math.Seq.{drop-cons}
use Rattle.ops_base.specs.declared.conditions.Operand.{Operand}
use Rattle.ops_base.specs.declared.conditions.Operand.TheVariants.{Constant, OneOf, Variable}
use Rattle.ops_base.specs.declared.conditions.Test.{Test}
use Rattle.ops_base.specs.declared.conditions.Condition.{Condition}
use Rattle.ops_base.specs.declared.conditions.Part.{Part}
use Rattle.ops_base.specs.declared.conditions.Part.TheVariants as part
use Rattle.net_base.specs.declared.normal.Origin.{Origin}
use Rattle.net_base.specs.declared.normal.Binder.{Binder}
use Rattle.net_base.specs.declared.normal.NormalCondition.{NormalCondition}
use Rattle.net_base.specs.declared.normal.NormalPart.{NormalPart}
use Rattle.net_base.specs.declared.normal.NormalPart.TheVariants.{One, Group}
use Rattle.net_base.specs.Normal.{binders_with, binders_after, normal_of, normal_member, normal_members, normal_parts}
use Rattle.net_base.specs.Shape.{positives, as_parts, is_negative, IsIn}
use Rattle.net_base.proofs.Variables.{at_place}
use Rattle.net_base.proofs.Places.{members_positive}
use Rattle.beta_net.specs.declared.links.Link.{Link}
use Rattle.beta_net.specs.declared.links.Links.{Links}
use Rattle.beta_net.specs.declared.paths.End.{End}
use Rattle.beta_net.specs.Linked.{path, path_to, depth_to, normal_part, is_positive, binders_past, binders_past_members, IsWithin, IsFit, ArePositive, AreLinks, IsLinked, Adds, Grows, IsMemberAfter, AddsMembers, IsPartAfter, AddsPart, AddsRule}
use Rattle.beta_net.proofs.Lists.{same_some, get_lt, get_at}
use Rattle.beta_net.proofs.PathLemmas.{path_is, path_to_grown, parent_within, stands_down}
use Rattle.beta_net.proofs.PrefixLemmas.{append-parts}

-- ---- the binders of a negated condition, and of a group

take_front : {X : Type 0} (xs ys : List X) → take (length xs) (xs ++ ys) ≡ xs
take_front [] ys = refl
take_front (x ∷ xs) ys = ap (λ r. x ∷ r) (take_front xs ys)

more_with : (bs : List Binder) (o : Operand) (p : Origin) → (more : List Binder) × (binders_with bs o p ≡ bs ++ more)
more_with bs (Constant c) p = ([], sym (append-nil bs))
more_with bs (OneOf cs) p = ([], sym (append-nil bs))
more_with bs (Variable v) p = (record { variable = v; origin = p } ∷ [], refl)

more_after : (m : ℕ) (ts : List Test) (bs : List Binder) → (more : List Binder) × (binders_after m ts bs ≡ bs ++ more)
more_after m [] bs = ([], sym (append-nil bs))
more_after m (t ∷ ts) bs = by_binds (λ cs. more_after m ts cs) t.binds
  where
    by_binds : ((cs : List Binder) → (more : List Binder) × (binders_after m ts cs ≡ cs ++ more)) → (b : Bool) → (more : List Binder) × (cond b (binders_after m ts (binders_with bs t.operand (at_place m t))) (binders_after m ts bs) ≡ bs ++ more)
    by_binds ih true =
        let p = more_with bs t.operand (at_place m t) in
        let q = ih (binders_with bs t.operand (at_place m t)) in
        (p.0 ++ q.0, q.1 ∙ (ap (λ r. r ++ q.0) p.1 ∙ append_assoc bs p.0 q.0))
    by_binds ih false = ih bs

take_after : (m : ℕ) (ts : List Test) (bs : List Binder) → take (length bs) (binders_after m ts bs) ≡ bs
take_after m ts bs = let q = more_after m ts bs in ap (take (length bs)) q.1 ∙ take_front bs q.0

pub dropped : (m : ℕ) (ts : List Test) (bs known after left : List Binder) → known ≡ bs → after ≡ binders_after m ts bs → left ≡ take (length known) after → left ≡ bs
dropped m ts bs known after left p q r = r ∙ (ap₂ (λ x y. take (length x) y) p q ∙ take_after m ts bs)

more_past : (m : ℕ) (cs : List Condition) (bs : List Binder) → (more : List Binder) × (binders_past_members m cs bs ≡ bs ++ more)
more_past m [] bs = ([], sym (append-nil bs))
more_past m (c ∷ cs) bs =
    let p = more_after m c.tests bs in
    let q = more_past (suc m) cs (binders_after m c.tests bs) in
    (p.0 ++ q.0, q.1 ∙ (ap (λ r. r ++ q.0) p.1 ∙ append_assoc bs p.0 q.0))

pub dropped_members : (m : ℕ) (cs : List Condition) (bs known after left : List Binder) → known ≡ bs → after ≡ binders_past_members m cs bs → left ≡ take (length known) after → left ≡ bs
dropped_members m cs bs known after left p q r =
    let g = more_past m cs bs in
    r ∙ (ap₂ (λ x y. take (length x) y) p q ∙ (ap (take (length bs)) g.1 ∙ take_front bs g.0))

-- ---- how many positive conditions

pub positives-append : (cs ds : List NormalPart) → positives (cs ++ ds) ≡ positives cs + positives ds
positives-append [] ds = omega arith
positives-append (Group ms ∷ cs) ds = positives-append cs ds
positives-append (One c ∷ cs) ds = by_sign (positives-append cs ds) c.negated
  where
    by_sign : positives (cs ++ ds) ≡ positives cs + positives ds → (b : Bool) → cond b (positives (cs ++ ds)) (suc (positives (cs ++ ds))) ≡ cond b (positives cs) (suc (positives cs)) + positives ds
    by_sign ih true = ih
    by_sign ih false = omega arith

pub positives-push : (cs : List NormalPart) (p : NormalPart) → positives (cs ++ p ∷ []) ≡ cond (is_negative p) (positives cs) (positives cs + 1)
positives-push cs (One c) = positives-append cs (One c ∷ []) ∙ by_sign c.negated
  where
    by_sign : (b : Bool) → positives cs + cond b 0 1 ≡ cond b (positives cs) (positives cs + 1)
    by_sign true = omega arith
    by_sign false = refl
positives-push cs (Group ms) = positives-append cs (Group ms ∷ []) ∙ omega arith

-- no more positive conditions stand on a path than there are links
place_least : (links : List Link) → AreLinks links → (k n : ℕ) (l : Link) → n < k → slice_get links n ≡ Some l → positives (path links n) ≤ n + 1
place_least links a zero n l lt at = absurd (omega arith)
place_least links a (suc k) n l lt at = by_parent (λ p x lt' here. place_least links a k p x lt' here) (let small : n ≤ k = omega arith in small) l.parent refl
  where
    one_more : (b : Bool) (m : ℕ) → cond b m (m + 1) ≤ m + 1
    one_more true m = omega arith
    one_more false m = omega arith

    here : positives (path links n) ≤ positives (path_to links l.parent) + 1
    here =
        subst (λ m. m ≤ positives (path_to links l.parent) + 1) (sym (ap positives (path_is links a n l at) ∙ positives-push (path_to links l.parent) l.part))
        (one_more (is_negative l.part) (positives (path_to links l.parent)))

    by_parent : ((p : ℕ) (x : Link) → p < k → slice_get links p ≡ Some x → positives (path links p) ≤ p + 1) → n ≤ k → (o : Option ℕ) → l.parent ≡ o → positives (path links n) ≤ n + 1
    by_parent ih le None e = let z = ap (λ o. positives (path_to links o)) e in let h = here in omega (arith, z, h)
    by_parent ih le (Some p) e =
        let z = ap (λ o. positives (path_to links o)) e in
        let lt' = (a.each n l at).parent p e in
        let low = get_lt links n l at in
        let g = get_at links p (omega arith) in
        let i = ih p g.0 (omega arith) g.1 in
        let h = here in omega (arith, z, h, i)

pub place_fits : (links : List Link) → AreLinks links → (o : Option ℕ) → IsWithin o (length links) → positives (path_to links o) ≤ length links
place_fits links a None w = omega arith
place_fits links a (Some p) w =
    let lt = w p refl in
    let g = get_at links p lt in
    let h = place_least links a (suc p) p g.0 (omega arith) g.1 in omega arith

cut : {X : Type 0} (i : ℕ) (c : X) (cs : List X) → i < length cs → c ≡ get_or cs i c → drop i cs ≡ c ∷ drop (i + 1) cs
cut i c cs lt is = drop-cons cs i c lt ∙ ap₂ (λ x k. x ∷ drop k cs) (sym is) (let z : suc i ≡ i + 1 = omega arith in z)

drop_none : {X : Type 0} (i : ℕ) → drop {A = X} i [] ≡ []
drop_none zero = refl
drop_none (suc i) = refl

drop_past : {X : Type 0} (i : ℕ) (xs : List X) → length xs ≤ i → drop i xs ≡ []
drop_past i [] le = drop_none i
drop_past zero (x ∷ xs) le = absurd (omega arith)
drop_past (suc i) (x ∷ xs) le = drop_past i xs (omega arith)

-- ---- links that grow

-- what one link more is
abbrev IsLast : List NormalPart → NormalPart → List NormalPart → NormalPart → Type 0
IsLast q p before x = (before ≡ q) × (x ≡ p)

same_path : (old new : Links) (parent : Option ℕ) (p : NormalPart) (n : ℕ) → IsLinked old → IsWithin parent (length old.list.items) → Adds old new parent p n → path_to new.list.items parent ≡ path_to old.list.items parent
same_path old new parent p n t w a = ap (λ ls. path_to ls parent) a.grown ∙ path_to_grown old.list.items a.more t.links parent w

pub added_down : (old new : Links) (parent : Option ℕ) (p : NormalPart) (n : ℕ) → IsLinked old → IsWithin parent (length old.list.items) → Adds old new parent p n → path new.list.items n ≡ path_to old.list.items parent ++ p ∷ []
added_down old new parent p n t w a = stands_down new.list.items parent p n a.linked.links a.stands ∙ ap (λ x. x ++ p ∷ []) (same_path old new parent p n t w a)

added_low : (old new : Links) (parent : Option ℕ) (p : NormalPart) (n : ℕ) → Adds old new parent p n → n < length new.list.items
added_low old new parent p n a = get_lt new.list.items n a.stands.link a.stands.at

pub some_within : (n m : ℕ) → n < m → IsWithin (Some n) m
some_within n m lt p e = let q : n ≡ p = cc in omega arith

added_grows : (old new : Links) (parent : Option ℕ) (p : NormalPart) (n : ℕ) → IsLinked old → IsWithin parent (length old.list.items) → Adds old new parent p n → Grows old new (IsLast (path_to old.list.items parent) p)
added_grows old new parent p n t w a = record {
  more = a.more;
  grown = a.grown;
  only = λ m l at. elim (a.only m l at) [
    | inl q ↦
        let same = same_some a.stands.link l (sym a.stands.at ∙ (ap (slice_get new.list.items) (sym q) ∙ at)) in
        inr (ap (λ (z : Link). path_to new.list.items z.parent) (sym same) ∙ (ap (path_to new.list.items) a.stands.of.0 ∙ same_path old new parent p n t w a), ap (λ (z : Link). z.part) (sym same) ∙ a.stands.of.1)
    | inr g ↦ inl g
  ];
  linked = a.linked;
}

pub grows_none : (t : Links) (R : List NormalPart → NormalPart → Type 0) → IsLinked t → Grows t t R
grows_none t R i = record { more = []; grown = sym (append-nil t.list.items); only = λ m l at. inl at; linked = i }

pub grows_then : (old mid new : Links) (P Q R : List NormalPart → NormalPart → Type 0) → Grows old mid P → Grows mid new Q → ((q : List NormalPart) (p : NormalPart) → P q p → R q p) → ((q : List NormalPart) (p : NormalPart) → Q q p → R q p) → Grows old new R
grows_then old mid new P Q R g h f k = record {
  more = g.more ++ h.more;
  grown = h.grown ∙ (ap (λ r. r ++ h.more) g.grown ∙ append_assoc old.list.items g.more h.more);
  only = λ m l at. elim (h.only m l at) [
    | inl here ↦ elim (g.only m l here) [
      | inl first ↦ inl first
      | inr s ↦ inr (subst (λ q. R q l.part) (sym (ap (λ ls. path_to ls l.parent) h.grown ∙ path_to_grown mid.list.items h.more g.linked.links l.parent (parent_within mid.list.items g.linked.links m l here))) (f (path_to mid.list.items l.parent) l.part s))
    ]
    | inr s ↦ inr (k (path_to new.list.items l.parent) l.part s)
  ];
  linked = h.linked;
}

grown_path : (old new : Links) (R : List NormalPart → NormalPart → Type 0) (o : Option ℕ) → IsLinked old → Grows old new R → IsWithin o (length old.list.items) → path_to new.list.items o ≡ path_to old.list.items o
grown_path old new R o t g w = ap (λ ls. path_to ls o) g.grown ∙ path_to_grown old.list.items g.more t.links o w

grown_within : (old new : Links) (R : List NormalPart → NormalPart → Type 0) (o : Option ℕ) → Grows old new R → IsWithin o (length old.list.items) → IsWithin o (length new.list.items)
grown_within old new R o g w p e = let lt = w p e in omega (arith, ap length g.grown, length-append old.list.items g.more)

-- ---- one condition

pub condition_fit : (links : List Link) (parent : Option ℕ) (place depth : ℕ) (c : NormalCondition) → IsWithin parent (length links) → place ≡ positives (path_to links parent) → depth ≡ depth_to links parent + 1
    → IsFit links (length links) (record { parent = parent; above = parent; place = place; depth = depth; part = One c })
condition_fit links parent place depth c w p d = record { parent = w; above = w; place = p; depth = d; below = refl }

pub adds_condition : (old new : Links) (parent : Option ℕ) (c : NormalCondition) (n : ℕ) → IsLinked old → IsWithin parent (length old.list.items) → Adds old new parent (One c) n → AddsPart old new parent (One c) n
adds_condition old new parent c n t w a = record {
  grows = added_grows old new parent (One c) n t w a;
  low = added_low old new parent (One c) n a;
  down = added_down old new parent (One c) n t w a;
}

-- ---- the members of a group

-- the members down to a link after q, and those that are left
pub record MembersDown (links : List Link) (q : List NormalPart) (all : List NormalCondition) (at : Option ℕ) (here : ℕ) (cs : List Condition) (bs : List Binder) : Type 0 where
  pub front : List NormalCondition
  pub all_is : all ≡ front ++ normal_members here cs bs
  pub down : path_to links at ≡ q ++ as_parts front
  pub place_is : here ≡ positives (path_to links at)

pub members_first : (links : List Link) (parent : Option ℕ) (place : ℕ) (cs : List Condition) (bs : List Binder) → place ≡ positives (path_to links parent) → MembersDown links (path_to links parent) (normal_members place cs bs) parent place cs bs
members_first links parent place cs bs p = record { front = []; all_is = refl; down = sym (append-nil (path_to links parent)); place_is = p }

module _ (old new : Links) (q : List NormalPart) (all : List NormalCondition) (at : Option ℕ) (here n i : ℕ) (normal : NormalCondition) (c : Condition) (cs : List Condition) (bs : List Binder)
    (t : IsLinked old) (w : IsWithin at (length old.list.items)) (a : Adds old new at (One normal) n) (k : normal ≡ normal_member here c bs) (lt : i < length cs) (is : c ≡ get_or cs i c)
    (d : MembersDown old.list.items q all at here (drop i cs) bs) where
  whole : all ≡ d.front ++ normal ∷ normal_members (suc here) (drop (i + 1) cs) (binders_after here c.tests bs)
  whole =
      d.all_is ∙ (ap (λ ds. d.front ++ normal_members here ds bs) (cut i c cs lt is)
      ∙ ap (λ z. d.front ++ z ∷ normal_members (suc here) (drop (i + 1) cs) (binders_after here c.tests bs)) (sym k))

  pub members_next : (bs' : List Binder) → bs' ≡ binders_after here c.tests bs → MembersDown new.list.items q all (Some n) (here + 1) (drop (i + 1) cs) bs'
  members_next bs' e = record {
    front = d.front ++ normal ∷ [];
    all_is =
        whole ∙ (sym (append_assoc d.front (normal ∷ []) (normal_members (suc here) (drop (i + 1) cs) (binders_after here c.tests bs)))
        ∙ ap₂ (λ m ds. (d.front ++ normal ∷ []) ++ normal_members m (drop (i + 1) cs) ds) (let z : suc here ≡ here + 1 = omega arith in z) (sym e));
    down =
        added_down old new at (One normal) n t w a
        ∙ (ap (λ x. x ++ One normal ∷ []) d.down
        ∙ (append_assoc q (as_parts d.front) (One normal ∷ []) ∙ ap (λ x. q ++ x) (sym (append-parts d.front (normal ∷ [])))));
    place_is =
        ap (λ m. m + 1) d.place_is
        ∙ sym (ap positives (added_down old new at (One normal) n t w a)
        ∙ (positives-push (path_to old.list.items at) (One normal) ∙ ap (λ b. cond b (positives (path_to old.list.items at)) (positives (path_to old.list.items at) + 1)) (ap (λ (z : NormalCondition). z.negated) k)));
  }

  pub members_grow : (first : Links) → Grows first old (IsMemberAfter q all) → Grows first new (IsMemberAfter q all)
  members_grow first g =
      grows_then first old new (IsMemberAfter q all) (IsLast (path_to old.list.items at) (One normal)) (IsMemberAfter q all) g (added_grows old new at (One normal) n t w a) (λ b p h. h)
      (λ b p h. record { front = d.front; member = normal; behind = normal_members (suc here) (drop (i + 1) cs) (binders_after here c.tests bs); all_is = whole; before_is = h.0 ∙ d.down; part_is = h.1 })

  pub members_within : IsWithin (Some n) (length new.list.items)
  members_within = some_within n (length new.list.items) (added_low old new at (One normal) n a)

-- the binders after the members that are left
pub past_next : (here i : ℕ) (c : Condition) (cs : List Condition) (bs bs' all : List Binder) → i < length cs → c ≡ get_or cs i c → bs' ≡ binders_after here c.tests bs → binders_past_members here (drop i cs) bs ≡ all → binders_past_members (here + 1) (drop (i + 1) cs) bs' ≡ all
past_next here i c cs bs bs' all lt is e h =
    ap₂ (λ m ds. binders_past_members m (drop (i + 1) cs) ds) (let z : here + 1 ≡ suc here = omega arith in z) e
    ∙ (sym (ap (λ ds. binders_past_members here ds bs) (cut i c cs lt is)) ∙ h)

pub past_all : (here i : ℕ) (cs : List Condition) (bs all : List Binder) → length cs ≤ i → binders_past_members here (drop i cs) bs ≡ all → bs ≡ all
past_all here i cs bs all le h = sym (ap (λ ds. binders_past_members here ds bs) (drop_past i cs le)) ∙ h

-- the normal members so far, and those that are left
pub normal_next : (here i : ℕ) (c : Condition) (cs : List Condition) (bs bs' : List Binder) (ms ms' all : List NormalCondition) (normal : NormalCondition) → i < length cs → c ≡ get_or cs i c → normal ≡ normal_member here c bs → bs' ≡ binders_after here c.tests bs → ms' ≡ ms ++ normal ∷ []
    → ms ++ normal_members here (drop i cs) bs ≡ all → ms' ++ normal_members (here + 1) (drop (i + 1) cs) bs' ≡ all
normal_next here i c cs bs bs' ms ms' all normal lt is k e g h =
    let rest = normal_members (suc here) (drop (i + 1) cs) (binders_after here c.tests bs) in
    ap₂ (λ m ds. ms' ++ normal_members m (drop (i + 1) cs) ds) (let z : here + 1 ≡ suc here = omega arith in z) e
    ∙ (ap (λ x. x ++ rest) g ∙ (append_assoc ms (normal ∷ []) rest ∙ (ap (λ z. ms ++ z ∷ rest) k ∙ (sym (ap (λ ds. ms ++ normal_members here ds bs) (cut i c cs lt is)) ∙ h))))

pub normal_all : (here i : ℕ) (cs : List Condition) (bs : List Binder) (ms all : List NormalCondition) → length cs ≤ i → ms ++ normal_members here (drop i cs) bs ≡ all → ms ≡ all
normal_all here i cs bs ms all le h = sym (append-nil ms) ∙ (sym (ap (λ ds. ms ++ normal_members here ds bs) (drop_past i cs le)) ∙ h)

pub adds_members : (old new : Links) (parent at : Option ℕ) (here i : ℕ) (cs : List Condition) (bs : List Binder) (all : List NormalCondition) → length cs ≤ i → IsWithin at (length new.list.items)
    → MembersDown new.list.items (path_to old.list.items parent) all at here (drop i cs) bs → Grows old new (IsMemberAfter (path_to old.list.items parent) all) → AddsMembers old new parent all at
adds_members old new parent at here i cs bs all le w d g =
    let e : all ≡ d.front = d.all_is ∙ (ap (λ ds. d.front ++ normal_members here ds bs) (drop_past i cs le) ∙ append-nil d.front) in
    record { grows = g; within = w; down = d.down ∙ ap (λ z. path_to old.list.items parent ++ as_parts z) (sym e) }

-- ---- a group

count_members : (m : ℕ) (ds : List Condition) (bs : List Binder) → positives (as_parts (normal_members m ds bs)) ≡ length ds
count_members m [] bs = refl
count_members m (c ∷ ds) bs = ap suc (count_members (suc m) ds (binders_after m c.tests bs))

-- the members have links, so there is room for their places
pub members_room : (old mid : Links) (parent above : Option ℕ) (place : ℕ) (ds : List Condition) (bs : List Binder) → place ≡ positives (path_to old.list.items parent) → AddsMembers old mid parent (normal_members place ds bs) above → place + length ds ≤ length mid.list.items
members_room old mid parent above place ds bs p h =
    let fits = place_fits mid.list.items h.grows.linked.links above h.within in
    omega (arith, p, fits, ap positives h.down, positives-append (path_to old.list.items parent) (as_parts (normal_members place ds bs)), count_members place ds bs)

pub group_fit : (old mid : Links) (parent above : Option ℕ) (place depth m : ℕ) (ds : List Condition) (bs : List Binder) (cs : List NormalCondition) → IsLinked old → IsWithin parent (length old.list.items) → place ≡ positives (path_to old.list.items parent)
    → cs ≡ normal_members m ds bs → depth ≡ depth_to mid.list.items above + 1 → AddsMembers old mid parent cs above
    → IsFit mid.list.items (length mid.list.items) (record { parent = parent; above = above; place = place; depth = depth; part = Group cs })
group_fit old mid parent above place depth m ds bs cs t w p e d h =
    let R = IsMemberAfter (path_to old.list.items parent) cs in
    let same = grown_path old mid R parent t h.grows w in
    record {
      parent = grown_within old mid R parent h.grows w;
      above = h.within;
      place = p ∙ ap positives (sym same);
      depth = d;
      below = (subst (λ z. ArePositive z) (sym e) (members_positive m ds bs), h.down ∙ ap (λ x. x ++ as_parts cs) (sym same));
    }

pub adds_group : (old mid new : Links) (parent above : Option ℕ) (cs : List NormalCondition) (n : ℕ) → IsLinked old → IsWithin parent (length old.list.items) → AddsMembers old mid parent cs above → Adds mid new parent (Group cs) n → AddsPart old new parent (Group cs) n
adds_group old mid new parent above cs n t w h a =
    let q = path_to old.list.items parent in
    let R = IsMemberAfter q cs in
    let same = grown_path old mid R parent t h.grows w in
    let within = grown_within old mid R parent h.grows w in
    record {
      grows = grows_then old mid new R (IsLast (path_to mid.list.items parent) (Group cs)) (IsPartAfter q (Group cs)) h.grows (added_grows mid new parent (Group cs) n h.grows.linked within a) (λ b p m. inr m) (λ b p e. inl (e.0 ∙ same, e.1));
      low = added_low mid new parent (Group cs) n a;
      down = added_down mid new parent (Group cs) n h.grows.linked within a ∙ ap (λ x. x ++ Group cs ∷ []) same;
    }

-- ---- down the parts of a rule

-- the parts down to the parent and those that are left make the rule's list
pub record IsDown (links : List Link) (parent : Option ℕ) (place : ℕ) (ps : List Part) (bs : List Binder) (all : List NormalPart) : Type 0 where
  pub down : path_to links parent ++ normal_parts place ps bs ≡ all
  pub place_is : place ≡ positives (path_to links parent)

-- the first part, and the rest
first_part : (place : ℕ) (p : Part) (ps : List Part) (bs : List Binder) → normal_parts place (p ∷ ps) bs ≡ normal_part place p bs ∷ normal_parts (cond (is_positive p) (place + 1) place) ps (binders_past place p bs)
first_part place (part.Group cs) ps bs = refl
first_part place (part.One c) ps bs = ap (λ r. One (normal_of place c bs) ∷ r) (by_sign c.negated)
  where
    by_sign : (b : Bool) → cond b (normal_parts place ps bs) (normal_parts (suc place) ps (binders_after place c.tests bs)) ≡ normal_parts (cond (not b) (place + 1) place) ps (cond b bs (binders_after place c.tests bs))
    by_sign true = refl
    by_sign false = ap (λ m. normal_parts m ps (binders_after place c.tests bs)) (let z : suc place ≡ place + 1 = omega arith in z)

past_positives : (x : List NormalPart) (place : ℕ) (p : Part) (bs : List Binder) → positives (x ++ normal_part place p bs ∷ []) ≡ cond (is_positive p) (positives x + 1) (positives x)
past_positives x place (part.Group cs) bs = positives-push x (Group (normal_members place cs bs))
past_positives x place (part.One c) bs = positives-push x (One (normal_of place c bs)) ∙ by_sign c.negated
  where
    by_sign : (b : Bool) → cond b (positives x) (positives x + 1) ≡ cond (not b) (positives x + 1) (positives x)
    by_sign true = refl
    by_sign false = refl

-- a part in its place in a list, or a member of it
after_in : (all q rest before : List NormalPart) (p x : NormalPart) → all ≡ q ++ p ∷ rest → IsPartAfter q p before x → IsIn all before x
after_in all q rest before (One c) x e h = inl (rest, e ∙ ap₂ (λ a b. a ++ b ∷ rest) (sym h.0) (sym h.1))
after_in all q rest before (Group cs) x e (inl h) = inl (rest, e ∙ ap₂ (λ a b. a ++ b ∷ rest) (sym h.0) (sym h.1))
after_in all q rest before (Group cs) x e (inr h) = inr (record {
  outer = q;
  front = h.front;
  member = h.member;
  behind = h.behind;
  group = (rest, e ∙ ap (λ z. q ++ Group z ∷ rest) h.all_is);
  before_is = h.before_is;
  part_is = h.part_is;
})

module _ (old new : Links) (parent : Option ℕ) (n place i : ℕ) (p : Part) (ps : List Part) (bs : List Binder) (all : List NormalPart)
    (a : AddsPart old new parent (normal_part place p bs) n) (lt : i < length ps) (is : p ≡ get_or ps i p) (d : IsDown old.list.items parent place (drop i ps) bs all) where
  all_here : all ≡ path_to old.list.items parent ++ normal_part place p bs ∷ normal_parts (cond (is_positive p) (place + 1) place) (drop (i + 1) ps) (binders_past place p bs)
  all_here = sym d.down ∙ (ap (λ qs. path_to old.list.items parent ++ normal_parts place qs bs) (cut i p ps lt is) ∙ ap (λ r. path_to old.list.items parent ++ r) (first_part place p (drop (i + 1) ps) bs))

  pub down_next : (place' : ℕ) (bs' : List Binder) → place' ≡ cond (is_positive p) (place + 1) place → bs' ≡ binders_past place p bs → IsDown new.list.items (Some n) place' (drop (i + 1) ps) bs' all
  down_next place' bs' e f = record {
    down =
        ap₂ (λ m ds. path new.list.items n ++ normal_parts m (drop (i + 1) ps) ds) e f
        ∙ (ap (λ x. x ++ normal_parts (cond (is_positive p) (place + 1) place) (drop (i + 1) ps) (binders_past place p bs)) a.down
        ∙ (append_assoc (path_to old.list.items parent) (normal_part place p bs ∷ []) (normal_parts (cond (is_positive p) (place + 1) place) (drop (i + 1) ps) (binders_past place p bs)) ∙ sym all_here));
    place_is =
        e ∙ (ap (λ m. cond (is_positive p) (m + 1) m) d.place_is ∙ sym (ap positives a.down ∙ past_positives (path_to old.list.items parent) place p bs));
  }

  pub rule_grows : (first : Links) → Grows first old (IsIn all) → Grows first new (IsIn all)
  rule_grows first g =
      grows_then first old new (IsIn all) (IsPartAfter (path_to old.list.items parent) (normal_part place p bs)) (IsIn all) g a.grows (λ b x h. h)
      (λ b x h. after_in all (path_to old.list.items parent) (normal_parts (cond (is_positive p) (place + 1) place) (drop (i + 1) ps) (binders_past place p bs)) b (normal_part place p bs) x all_here h)

  pub rule_within : IsWithin (Some n) (length new.list.items)
  rule_within = some_within n (length new.list.items) a.low

-- at the end all parts are taken
pub adds_rule : (first old : Links) (e : End) (parent : Option ℕ) (place i : ℕ) (ps : List Part) (bs : List Binder) → IsWithin parent (length old.list.items) → length ps ≤ i
    → IsDown old.list.items parent place (drop i ps) bs (normal_parts 0 ps []) → Grows first old (IsIn (normal_parts 0 ps [])) → e.parent ≡ parent → e.depth ≡ depth_to old.list.items parent + 1 → AddsRule first old ps e
adds_rule first old e parent place i ps bs w le h g p d =
    let whole : path_to old.list.items parent ≡ normal_parts 0 ps [] = sym (append-nil (path_to old.list.items parent)) ∙ (ap (λ ds. path_to old.list.items parent ++ normal_parts place ds bs) (sym (drop_past i ps le)) ∙ h.down) in
    record {
      grows = g;
      ends = record {
        within = subst (λ o. IsWithin o (length old.list.items)) (sym p) w;
        down = ap (path_to old.list.items) p ∙ whole;
        depth = d ∙ ap (λ o. depth_to old.list.items o + 1) (sym p);
      };
    }
