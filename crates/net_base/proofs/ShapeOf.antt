-- The shape that is computed is the shape of the rules, and there is no other.
use Rattle.std.proofs.Common.{◌≡◌, ℕ, zero, suc, ◌<◌, Bool, true, false, not, cond, eqb, List, [], ◌∷◌, ◌++◌, length, filter, slice_get, Some, refl, sym, ap, ap₂, subst, ◌∙◌, ◌⊎◌, inl, inr, append_assoc}
use Rattle.std.specs.Prelude.{Decides, ◌↔◌}
use Rattle.std.specs.List.{flat_map}
use Rattle.std.proofs.lemmas.List.{append-nil}
use Rattle.std.proofs.lemmas.Bool.Decides.{Decides-eqb}
use Rattle.ops_base.specs.declared.conditions.Test.{Test}
use Rattle.ops_base.specs.declared.rules.Rule.{Rule}
use Rattle.ops_base.proofs.Members.{IsMember, member-flat_map, flat_map_member}
use Rattle.net_base.specs.declared.normal.NormalCondition.{NormalCondition}
use Rattle.net_base.specs.declared.normal.NormalPart.{NormalPart}
use Rattle.net_base.specs.declared.normal.NormalPart.TheVariants.{One, Group}
use Rattle.net_base.specs.declared.counts.Counts.{Counts}
use Rattle.net_base.specs.Normal.{alpha_tests}
use Rattle.net_base.specs.Shape.{normal_form, as_parts, IsIn, IsPath, IsPathOfSign, is_negative, positives, IsAlphaList, IsShape}
use Rattle.net_base.specs.Counting.{Path, member_paths, paths_behind, paths_of, alpha_list, alpha_list_of, are_same_paths, are_same_alpha_lists, shape_of}
use Rattle.net_base.proofs.Sames.{are_same_paths-Decides, are_same_alpha_lists-Decides}
use Rattle.net_base.proofs.Counted.{counted, one_count, below_counted}

-- ---- lists

place_of_member : {X : Type 0} (x : X) (xs : List X) → IsMember x xs → (k : ℕ) × (slice_get xs k ≡ Some x)
place_of_member x [] m = absurd m
place_of_member x (y ∷ ys) (inl e) = (zero, ap Some (sym e))
place_of_member x (y ∷ ys) (inr m) = let r = place_of_member x ys m in (suc r.0, r.1)

member_at_place : {X : Type 0} (x : X) (xs : List X) (k : ℕ) → slice_get xs k ≡ Some x → IsMember x xs
member_at_place x [] k e = absurd (cc)
member_at_place x (y ∷ ys) zero e = let same : x ≡ y = cc in inl same
member_at_place x (y ∷ ys) (suc k) e = inr (member_at_place x ys k e)

member-filter : {X : Type 0} (test : X → Bool) (x : X) (xs : List X) → IsMember x (filter test xs) ↔ (IsMember x xs × (test x ≡ true))
member-filter test x [] = (λ m. absurd m, λ h. absurd h.0)
member-filter {X} test x (y ∷ ys) = by (member-filter test x ys) (test y) refl
  where
    by : IsMember x (filter test ys) ↔ (IsMember x ys × (test x ≡ true)) → (b : Bool) → test y ≡ b
        → IsMember x (cond b (y ∷ filter test ys) (filter test ys)) ↔ (IsMember x (y ∷ ys) × (test x ≡ true))
    by ih true t = (kept, passes)
      where
        kept : IsMember x (y ∷ filter test ys) → IsMember x (y ∷ ys) × (test x ≡ true)
        kept (inl e) = (inl e, ap test e ∙ t)
        kept (inr m) = let r = ih.0 m in (inr r.0, r.1)

        passes : IsMember x (y ∷ ys) × (test x ≡ true) → IsMember x (y ∷ filter test ys)
        passes h = elim h.0 [ inl e ↦ inl e | inr m ↦ inr (ih.1 (m, h.1)) ]
    by ih false t = (kept, passes)
      where
        kept : IsMember x (filter test ys) → IsMember x (y ∷ ys) × (test x ≡ true)
        kept m = let r = ih.0 m in (inr r.0, r.1)

        passes : IsMember x (y ∷ ys) × (test x ≡ true) → IsMember x (filter test ys)
        passes h = let t' = h.1 in elim h.0 [ inl e ↦ (let q = ap test e in absurd (cc)) | inr m ↦ ih.1 (m, t') ]

-- ---- paths

member-append_left : {X : Type 0} (x : X) (xs ys : List X) → IsMember x xs → IsMember x (xs ++ ys)
member-append_left x [] ys m = absurd m
member-append_left x (z ∷ xs) ys (inl e) = inl e
member-append_left x (z ∷ xs) ys (inr m) = inr (member-append_left x xs ys m)

member-append_right : {X : Type 0} (x : X) (xs ys : List X) → IsMember x ys → IsMember x (xs ++ ys)
member-append_right x [] ys m = m
member-append_right x (z ∷ xs) ys m = inr (member-append_right x xs ys m)

append_member : {X : Type 0} (x : X) (xs ys : List X) → IsMember x (xs ++ ys) → IsMember x xs ⊎ IsMember x ys
append_member x [] ys m = inr m
append_member x (z ∷ xs) ys (inl e) = inl (inl e)
append_member x (z ∷ xs) ys (inr m) = elim (append_member x xs ys m) [ inl h ↦ inl (inr h) | inr h ↦ inr h ]

-- what a member's path tells: the members before it, and those behind it
record IsOfMember (before : List NormalPart) (cs : List NormalCondition) (p : Path) : Type 0 where
  front : List NormalCondition
  member : NormalCondition
  behind : List NormalCondition
  all_is : cs ≡ front ++ member ∷ behind
  before_is : p.0 ≡ before ++ as_parts front
  part_is : p.1 ≡ One member

member_tells : (before : List NormalPart) (cs : List NormalCondition) (p : Path) → IsMember p (member_paths before cs) → IsOfMember before cs p
member_tells before [] p m = absurd m
member_tells before (c ∷ cs) p (inl e) = record {
  front = [];
  member = c;
  behind = cs;
  all_is = refl;
  before_is = ap (λ (q : Path). q.0) e ∙ sym (append-nil before);
  part_is = ap (λ (q : Path). q.1) e;
}
member_tells before (c ∷ cs) p (inr m) =
    let r = member_tells (before ++ One c ∷ []) cs p m in
    record {
      front = c ∷ r.front;
      member = r.member;
      behind = r.behind;
      all_is = ap (λ l. c ∷ l) r.all_is;
      before_is = r.before_is ∙ append_assoc before (One c ∷ []) (as_parts r.front);
      part_is = r.part_is;
    }

member_has : (before : List NormalPart) (front : List NormalCondition) (c : NormalCondition) (behind : List NormalCondition) → IsMember (before ++ as_parts front, One c) (member_paths before (front ++ c ∷ behind))
member_has before [] c behind = inl (ap (λ (l : List NormalPart). (l, One c)) (append-nil before))
member_has before (d ∷ front) c behind =
    let P : List NormalPart → Type 0 = λ l. IsMember (l, One c) (member_paths (before ++ One d ∷ []) (front ++ c ∷ behind)) in
    inr (subst P (append_assoc before (One d ∷ []) (as_parts front)) (member_has (before ++ One d ∷ []) front c behind))

-- the path of a part among these, or of a member of a group among them
abbrev IsBehind : List NormalPart → List NormalPart → Path → Type 0
IsBehind before ps p =
    ((front : List NormalPart) × (rest : List NormalPart) × (ps ≡ front ++ p.1 ∷ rest) × (p.0 ≡ before ++ front))
    ⊎ ((front : List NormalPart) × (cs : List NormalCondition) × (rest : List NormalPart) × (ps ≡ front ++ Group cs ∷ rest) × IsOfMember (before ++ front) cs p)

further : (before : List NormalPart) (q : NormalPart) (ps : List NormalPart) (p : Path) → IsBehind (before ++ q ∷ []) ps p → IsBehind before (q ∷ ps) p
further before q ps p (inl r) = inl (q ∷ r.0, r.1, ap (λ l. q ∷ l) r.2, r.3 ∙ append_assoc before (q ∷ []) r.0)
further before q ps p (inr r) =
    let P : List NormalPart → Type 0 = λ l. IsOfMember l r.1 p in
    inr (q ∷ r.0, r.1, r.2, ap (λ l. q ∷ l) r.3, subst P (append_assoc before (q ∷ []) r.0) r.4)

first_behind : (before : List NormalPart) (q : NormalPart) (ps : List NormalPart) (p : Path) → p ≡ (before, q) → IsBehind before (q ∷ ps) p
first_behind before q ps p e = inl ([], ps, ap (λ (w : Path). w.1 ∷ ps) (sym e), ap (λ (w : Path). w.0) e ∙ sym (append-nil before))

behind_tells : (before ps : List NormalPart) (p : Path) → IsMember p (paths_behind before ps) → IsBehind before ps p
behind_tells before [] p m = absurd m
behind_tells before (One c ∷ ps) p (inl e) = first_behind before (One c) ps p e
behind_tells before (One c ∷ ps) p (inr m) = further before (One c) ps p (behind_tells (before ++ One c ∷ []) ps p m)
behind_tells before (Group cs ∷ ps) p m = by (λ n. behind_tells (before ++ Group cs ∷ []) ps p n) (append_member p (member_paths before cs) ((before, Group cs) ∷ paths_behind (before ++ Group cs ∷ []) ps) m)
  where
    by : (IsMember p (paths_behind (before ++ Group cs ∷ []) ps) → IsBehind (before ++ Group cs ∷ []) ps p)
        → IsMember p (member_paths before cs) ⊎ IsMember p ((before, Group cs) ∷ paths_behind (before ++ Group cs ∷ []) ps) → IsBehind before (Group cs ∷ ps) p
    by ih (inl h) =
        let P : List NormalPart → Type 0 = λ l. IsOfMember l cs p in
        inr ([], cs, ps, refl, subst P (sym (append-nil before)) (member_tells before cs p h))
    by ih (inr (inl e)) = first_behind before (Group cs) ps p e
    by ih (inr (inr h)) = further before (Group cs) ps p (ih h)

-- a path of the parts after the first is a path of all
paths_more : (before : List NormalPart) (q : NormalPart) (ps : List NormalPart) (p : Path) → IsMember p (paths_behind (before ++ q ∷ []) ps) → IsMember p (paths_behind before (q ∷ ps))
paths_more before (One c) ps p m = inr m
paths_more before (Group cs) ps p m = member-append_right p (member_paths before cs) ((before, Group cs) ∷ paths_behind (before ++ Group cs ∷ []) ps) (inr m)

paths_first : (before : List NormalPart) (q : NormalPart) (ps : List NormalPart) → IsMember (before, q) (paths_behind before (q ∷ ps))
paths_first before (One c) ps = inl refl
paths_first before (Group cs) ps = member-append_right (before, Group cs) (member_paths before cs) ((before, Group cs) ∷ paths_behind (before ++ Group cs ∷ []) ps) (inl refl)

behind_has : (before front : List NormalPart) (q : NormalPart) (rest : List NormalPart) → IsMember (before ++ front, q) (paths_behind before (front ++ q ∷ rest))
behind_has before [] q rest =
    let P : List NormalPart → Type 0 = λ l. IsMember (l, q) (paths_behind before (q ∷ rest)) in
    subst P (sym (append-nil before)) (paths_first before q rest)
behind_has before (d ∷ front) q rest =
    let P : List NormalPart → Type 0 = λ l. IsMember (l, q) (paths_behind (before ++ d ∷ []) (front ++ q ∷ rest)) in
    paths_more before d (front ++ q ∷ rest) (before ++ d ∷ front, q) (subst P (append_assoc before (d ∷ []) front) (behind_has (before ++ d ∷ []) front q rest))

-- a member's path is among the paths of all
inside_has : (before front : List NormalPart) (cs : List NormalCondition) (rest : List NormalPart) (p : Path) → IsMember p (member_paths (before ++ front) cs) → IsMember p (paths_behind before (front ++ Group cs ∷ rest))
inside_has before [] cs rest p m =
    let P : List NormalPart → Type 0 = λ l. IsMember p (member_paths l cs) in
    member-append_left p (member_paths before cs) ((before, Group cs) ∷ paths_behind (before ++ Group cs ∷ []) rest) (subst P (append-nil before) m)
inside_has before (d ∷ front) cs rest p m =
    let P : List NormalPart → Type 0 = λ l. IsMember p (member_paths l cs) in
    paths_more before d (front ++ Group cs ∷ rest) p (inside_has (before ++ d ∷ []) front cs rest p (subst P (sym (append_assoc before (d ∷ []) front)) m))

abbrev paths_in : Rule → List Path
paths_in r = paths_behind [] (normal_form r)

is_in : (all : List NormalPart) (p : Path) → IsBehind [] all p → IsIn all p.0 p.1
is_in all p (inl b) = inl (b.1, b.2 ∙ ap (λ l. l ++ p.1 ∷ b.1) (sym b.3))
is_in all p (inr b) =
    let m = b.4 in
    inr (record {
      outer = b.0;
      front = m.front;
      member = m.member;
      behind = m.behind;
      group = (b.2, b.3 ∙ ap (λ cs. b.0 ++ Group cs ∷ b.2) m.all_is);
      before_is = m.before_is;
      part_is = m.part_is;
    })

path_tells : (rules : List Rule) (p : Path) → IsMember p (paths_of rules) → IsPath rules p.0 p.1
path_tells rules p m =
    let r = flat_map_member paths_in p rules m in
    let k = place_of_member r.0 rules r.1 in
    (k.0, r.0, k.1, is_in (normal_form r.0) p (behind_tells [] (normal_form r.0) p r.2))

pair_is : (p : Path) (before : List NormalPart) (q : NormalPart) → p.0 ≡ before → p.1 ≡ q → (before, q) ≡ p
pair_is p before q e f = ap₂ (λ x y. (x, y)) (sym e) (sym f)

in_has : (all : List NormalPart) (p : Path) → IsIn all p.0 p.1 → IsMember p (paths_behind [] all)
in_has all p (inl h) =
    let P : List NormalPart → Type 0 = λ l. IsMember p (paths_behind [] l) in
    subst P (sym h.1) (behind_has [] p.0 p.1 h.0)
in_has all p (inr h) =
    let P : List NormalPart → Type 0 = λ l. IsMember p (paths_behind [] l) in
    let Q : Path → Type 0 = λ q. IsMember q (member_paths h.outer (h.front ++ h.member ∷ h.behind)) in
    let here = subst Q (pair_is p (h.outer ++ as_parts h.front) (One h.member) h.before_is h.part_is) (member_has h.outer h.front h.member h.behind) in
    subst P (sym h.group.1) (inside_has [] h.outer (h.front ++ h.member ∷ h.behind) h.group.0 p here)

path_has : (rules : List Rule) (p : Path) → IsPath rules p.0 p.1 → IsMember p (paths_of rules)
path_has rules p h = member-flat_map paths_in p h.1 rules (member_at_place h.1 rules h.0 h.2) (in_has (normal_form h.1) p h.3)

signed : (sign : Bool) (test : Path → Bool) → ((p : Path) → Decides (test p) (is_negative p.1 ≡ sign)) → (rules : List Rule) (p : Path)
    → IsMember p (filter test (paths_of rules)) ↔ IsPathOfSign rules sign p
signed sign test tells rules p = (
  λ m. (let h = (member-filter test p (paths_of rules)).0 m in (path_tells rules p h.0, (tells p).0 h.1)),
  λ h. (member-filter test p (paths_of rules)).1 (path_has rules p h.0, (tells p).1 h.1),
)

not_Decides : (b : Bool) → Decides (not b) (b ≡ false)
not_Decides true = (λ e. cc, λ e. cc)
not_Decides false = (λ e. refl, λ e. refl)

-- ---- alpha lists

list_told : (rules : List Rule) (a : ℕ × List Test) (before : List NormalPart) (q : NormalPart) → IsPath rules before q → IsMember a (alpha_list before q) → IsAlphaList rules a
list_told rules a before (One c) h (inl e) = (before, c, h, ap (λ (w : ℕ × List Test). w.0) e, ap (λ (w : ℕ × List Test). w.1) e)
list_told rules a before (One c) h (inr m) = absurd m
list_told rules a before (Group cs) h m = absurd m

alpha_listed : (rules : List Rule) (a : ℕ × List Test) → IsMember a (flat_map alpha_list_of (paths_of rules)) ↔ IsAlphaList rules a
alpha_listed rules a = (tells, has)
  where
    tells : IsMember a (flat_map alpha_list_of (paths_of rules)) → IsAlphaList rules a
    tells m = let r = flat_map_member alpha_list_of a (paths_of rules) m in list_told rules a r.0.0 r.0.1 (path_tells rules r.0 r.1) r.2

    has : IsAlphaList rules a → IsMember a (flat_map alpha_list_of (paths_of rules))
    has h =
        let is : a ≡ (h.1.class, alpha_tests (positives h.0) h.1.tests) = ap₂ (λ x y. (x, y)) h.3 h.4 in
        member-flat_map alpha_list_of a (h.0, One h.1) (paths_of rules) (path_has rules (h.0, One h.1) h.2) (inl is)

-- ---- the shape

pub shape_is_counted-counted : (rules : List Rule) → IsShape rules (shape_of rules)
shape_is_counted-counted rules = record {
  alpha = counted (ℕ × List Test) are_same_alpha_lists are_same_alpha_lists-Decides (IsAlphaList rules) (flat_map alpha_list_of (paths_of rules)) (alpha_listed rules);
  join = counted Path are_same_paths are_same_paths-Decides (IsPathOfSign rules false) (filter (λ p. not (is_negative p.1)) (paths_of rules))
      (signed false (λ p. not (is_negative p.1)) (λ p. not_Decides (is_negative p.1)) rules);
  negated = counted Path are_same_paths are_same_paths-Decides (IsPathOfSign rules true) (filter (λ p. is_negative p.1) (paths_of rules))
      (signed true (λ p. is_negative p.1) (λ p. (λ e. e, λ e. e)) rules);
  terminal = below_counted (length rules);
}

same_counts : (a b : Counts) → a.alpha ≡ b.alpha → a.join ≡ b.join → a.negated ≡ b.negated → a.terminal ≡ b.terminal → a ≡ b
same_counts a b e f g h = λ k. record { alpha = e k; join = f k; negated = g k; terminal = h k }

pub shape_is_counted-one : (rules : List Rule) (counts : Counts) → IsShape rules counts → counts ≡ shape_of rules
shape_is_counted-one rules counts s =
    let c = shape_is_counted-counted rules in
    let n = shape_of rules in
    same_counts counts n
    (one_count (ℕ × List Test) are_same_alpha_lists are_same_alpha_lists-Decides (IsAlphaList rules) counts.alpha n.alpha s.alpha c.alpha)
    (one_count Path are_same_paths are_same_paths-Decides (IsPathOfSign rules false) counts.join n.join s.join c.join)
    (one_count Path are_same_paths are_same_paths-Decides (IsPathOfSign rules true) counts.negated n.negated s.negated c.negated)
    (one_count ℕ eqb Decides-eqb (λ k. k < length rules) counts.terminal n.terminal s.terminal c.terminal)
