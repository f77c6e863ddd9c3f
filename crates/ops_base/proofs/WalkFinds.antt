-- What the walk over the conditions finds are the instantiations, and all of them.
use Rattle.std.proofs.Common.{◌≡◌, ℕ, List, [], ◌∷◌, ◌++◌, Bool, true, false, cond, not, ◌||◌, Option, Some, None, is_some, refl, ap, sym, ◌∙◌, subst, inl, inr, append_assoc}
use Rattle.std.proofs.lemmas.List.{append-nil}
use Rattle.std.specs.List.{flat_map, list_any, Contains}
use Rattle.std.specs.Option.{option_map_or}
use Rattle.std.specs.Bool.{MatchBool}
use Rattle.ops_base.specs.declared.elements.Element.{Element}
use Rattle.ops_base.specs.declared.conditions.Condition.{Condition}
use Rattle.ops_base.specs.declared.conditions.Part.{Part}
use Rattle.ops_base.specs.declared.conditions.Part.TheVariants.{One, Group}
use Rattle.ops_base.specs.declared.direct.Partial.{Partial}
use Rattle.ops_base.specs.declared.matching.Binding.{Binding}
use Rattle.ops_base.specs.Matching.{match_of}
use Rattle.ops_base.specs.ConflictSet.{lengthened, extended, some_meets, some_extend, at_condition, at_part, walk, empty_partial, matches_of}
use Rattle.ops_base.specs.Instances.{Extends, Meets}
use Rattle.ops_base.proofs.Members.{IsMember, flat_map_member, member-flat_map, member_from_contains, contains_from_member}

-- where the test for some element fails, no element meets the condition
pub none_meets : (wm : List Element) (c : Condition) (bindings : List Binding) → some_meets wm c bindings ≡ false → (e : Element) → IsMember e wm → match_of c e bindings ≡ None
none_meets [] c bindings h e m = absurd m
none_meets (x ∷ xs) c bindings h e (inl is) =
    ap (λ w. match_of c w bindings) is ∙ first_none (match_of c x bindings) (some_meets xs c bindings) h
  where
    first_none : (o : Option (List Binding)) (b : Bool) → (is_some o || b) ≡ false → o ≡ None
    first_none None b h = refl
    first_none (Some x) b h = cc
none_meets (x ∷ xs) c bindings h e (inr m) =
    none_meets xs c bindings (rest_none (match_of c x bindings) (some_meets xs c bindings) h) e m
  where
    rest_none : (o : Option (List Binding)) (b : Bool) → (is_some o || b) ≡ false → b ≡ false
    rest_none None b h = h
    rest_none (Some x) b h = cc

-- where no element meets the condition, the test for some element fails
pub some_meets-none : (wm : List Element) (c : Condition) (bindings : List Binding) → ((e : Element) → IsMember e wm → match_of c e bindings ≡ None) → some_meets wm c bindings ≡ false
some_meets-none [] c bindings h = refl
some_meets-none (x ∷ xs) c bindings h = rw (h x (inl refl)) (some_meets-none xs c bindings (λ e m. h e (inr m)))

-- ---- groups

-- the test for some way on, at an element of which this is the match
abbrev goes_on : List Element → List Condition → Option (List Binding) → Bool
goes_on wm cs o = option_map_or (λ b. some_extend wm cs b) o false

any_of : {X : Type 0} (f : X → Bool) (xs : List X) (x : X) → IsMember x xs → f x ≡ true → list_any f xs ≡ true
any_of f [] x m h = absurd m
any_of f (y ∷ ys) x (inl is) h = ap (λ b. b || list_any f ys) (ap f (sym is) ∙ h)
any_of f (y ∷ ys) x (inr m) h = or_true (f y) (any_of f ys x m h)
  where
    or_true : (b : Bool) → list_any f ys ≡ true → (b || list_any f ys) ≡ true
    or_true true e = refl
    or_true false e = e

any_from : {X : Type 0} (f : X → Bool) (xs : List X) → list_any f xs ≡ true → (x : X) × IsMember x xs × (f x ≡ true)
any_from f [] h = cc
any_from {X} f (y ∷ ys) h = by (λ e. any_from f ys e) (f y) refl h
  where
    by : (list_any f ys ≡ true → (x : X) × IsMember x ys × (f x ≡ true)) → (b : Bool) → f y ≡ b → (b || list_any f ys) ≡ true → (x : X) × IsMember x (y ∷ ys) × (f x ≡ true)
    by ih true is e = (y, inl refl, is)
    by ih false is e = let r = ih e in (r.0, inr r.1, r.2)

-- where elements extend the bindings, the test for some holds
pub some_extend-from : (wm : List Element) (cs : List Condition) (bindings : List Binding) → Extends wm cs bindings → some_extend wm cs bindings ≡ true
some_extend-from wm [] bindings x = refl
some_extend-from wm (c ∷ cs) bindings x =
    any_of (λ e. goes_on wm cs (match_of c e bindings)) wm x.0 (member_from_contains x.0 wm x.2) (ap (goes_on wm cs) x.3 ∙ some_extend-from wm cs x.1 x.4)

-- and the other way round
pub some_extend-to : (wm : List Element) (cs : List Condition) (bindings : List Binding) → some_extend wm cs bindings ≡ true → Extends wm cs bindings
some_extend-to wm [] bindings h = tt
some_extend-to wm (c ∷ cs) bindings h =
    let r = any_from (λ e. goes_on wm cs (match_of c e bindings)) wm h in
    let n = by (match_of c r.0 bindings) r.2 in
    (r.0, n.0, contains_from_member r.0 wm r.1, n.1, some_extend-to wm cs n.0 n.2)
  where
    by : (o : Option (List Binding)) → goes_on wm cs o ≡ true → (next : List Binding) × (o ≡ Some next) × (some_extend wm cs next ≡ true)
    by None e = cc
    by (Some next) e = (next, refl, e)

-- a partial match that an element lengthens has that element's bindings, and its tag as the last
pub lengthened_is : (p q : Partial) (tag : ℕ) (o : Option (List Binding)) → IsMember q (lengthened p tag o) → (o ≡ Some q.bindings) × (q.tags ≡ p.tags ++ tag ∷ [])
lengthened_is p q tag None m = absurd m
lengthened_is p q tag (Some b) (inl e) = (ap Some (sym (ap (λ (w : Partial). w.bindings) e)), ap (λ (w : Partial). w.tags) e)
lengthened_is p q tag (Some b) (inr m) = absurd m

-- at a negated condition a partial match stays as it is, where no element meets the condition
pub negated_is : (p q : Partial) (some : Bool) → IsMember q (cond (not some) (p ∷ []) []) → (some ≡ false) × (q ≡ p)
negated_is p q true m = absurd m
negated_is p q false (inl e) = (refl, e)
negated_is p q false (inr m) = absurd m

-- a partial match q that a step gives from p at one part: q has the tags of p and maybe one more, and what meets the
-- further parts from q, put after that, meets this one and them from p
pub record Step (wm : List Element) (part : Part) (cs : List Part) (p q : Partial) (rest : List ℕ) : Type 0 where
  pub front : List ℕ
  pub tags : q.tags ≡ p.tags ++ front
  pub meets : Meets wm (part ∷ cs) p.bindings (front ++ rest)

step_is : (wm : List Element) (part : Part) (cs : List Part) (p q : Partial) (rest : List ℕ) → IsMember q (at_part wm part p) → Meets wm cs q.bindings rest → Step wm part cs p q rest
step_is wm (Group ms) cs p q rest m i =
    let n = negated_is p q (some_extend wm ms p.bindings) m in
    let P : Partial → Type 0 = λ w. Meets wm cs w.bindings rest in
    record {
      front = [];
      tags = ap (λ (w : Partial). w.tags) n.1 ∙ sym (append-nil p.tags);
      meets = (λ x. (let bad : true ≡ false = sym (some_extend-from wm ms p.bindings x) ∙ n.0 in cc), subst P n.1 i);
    }
step_is wm (One c) cs p q rest m i =
    let r = by_sign c.negated m in record { front = r.0; tags = r.1; meets = r.2 }
  where
    by_sign : (b : Bool)
        → IsMember q (cond b (cond (not (some_meets wm c p.bindings)) (p ∷ []) []) (flat_map (extended c p) wm))
        → (front : List ℕ) × (q.tags ≡ p.tags ++ front) × MatchBool b
        (((e : Element) → Contains wm e → match_of c e p.bindings ≡ None) × Meets wm cs p.bindings (front ++ rest))
        ((e : Element) × (next : List Binding) × (more : List ℕ) × Contains wm e × (match_of c e p.bindings ≡ Some next) × (front ++ rest ≡ e.tag ∷ more) × Meets wm cs next more)
    by_sign true m =
        let n = negated_is p q (some_meets wm c p.bindings) m in
        let P : Partial → Type 0 = λ w. Meets wm cs w.bindings rest in
        ([], ap (λ (w : Partial). w.tags) n.1 ∙ sym (append-nil p.tags), (λ e h. none_meets wm c p.bindings n.0 e (member_from_contains e wm h), subst P n.1 i))
    by_sign false m =
        let f = flat_map_member (extended c p) q wm m in
        let l = lengthened_is p q f.0.tag (match_of c f.0 p.bindings) f.2 in
        (f.0.tag ∷ [], l.1, (f.0, q.bindings, rest, contains_from_member f.0 wm f.1, l.0, refl, i))

-- a whole match that the walk gives from these partial matches goes on from one of them by tags that meet the conditions
pub record Found (wm : List Element) (cs : List Part) (ps : List Partial) (q : Partial) : Type 0 where
  pub from : Partial
  pub begun : IsMember from ps
  pub rest : List ℕ
  pub tags : q.tags ≡ from.tags ++ rest
  pub meets : Meets wm cs from.bindings rest

pub found_is : (wm : List Element) (cs : List Part) (ps : List Partial) (q : Partial) → IsMember q (walk wm cs ps) → Found wm cs ps q
found_is wm [] ps q m = record { from = q; begun = m; rest = []; tags = sym (append-nil q.tags); meets = refl }
found_is wm (c ∷ cs) ps q m =
    let r = found_is wm cs (flat_map (at_part wm c) ps) q m in
    let b = flat_map_member (at_part wm c) r.from ps r.begun in
    let s = step_is wm c cs b.0 r.from r.rest b.2 r.meets in record {
      from = b.0;
      begun = b.1;
      rest = s.front ++ r.rest;
      tags = r.tags ∙ ap (λ w. w ++ r.rest) s.tags ∙ append_assoc b.0.tags s.front r.rest;
      meets = s.meets;
    }

-- the tags of each match that the walk finds meet the conditions
pub matches_of-meets : (wm : List Element) (cs : List Part) (q : Partial) → IsMember q (matches_of wm cs) → Meets wm cs [] q.tags
matches_of-meets wm cs q m =
    let r = found_is wm cs (empty_partial ∷ []) q m in begun_empty r.from r.begun r.rest r.tags r.meets
  where
    begun_empty : (from : Partial) → IsMember from (empty_partial ∷ []) → (rest : List ℕ) → q.tags ≡ from.tags ++ rest → Meets wm cs from.bindings rest → Meets wm cs [] q.tags
    begun_empty from (inl is) rest t i =
        let Q : List Binding → Type 0 = λ w. Meets wm cs w rest in
        let R : List ℕ → Type 0 = Meets wm cs [] in
        subst R (sym (t ∙ ap (λ (w : Partial). w.tags ++ rest) is)) (subst Q (ap (λ (w : Partial). w.bindings) is) i)
    begun_empty from (inr m) rest t i = absurd m

some_is : (p : Partial) (tag : ℕ) (b : List Binding) (o : Option (List Binding)) → o ≡ Some b → IsMember (record { tags = p.tags ++ tag ∷ []; bindings = b }) (lengthened p tag o)
some_is p tag b o e =
    let P : Option (List Binding) → Type 0 = λ w. IsMember (record { tags = p.tags ++ tag ∷ []; bindings = b }) (lengthened p tag w) in
    subst P (sym e) (inl refl)

-- what a step takes from tags that meet this condition and the further ones
pub record Taken (wm : List Element) (part : Part) (cs : List Part) (p : Partial) (tags : List ℕ) : Type 0 where
  pub next : Partial
  pub found : IsMember next (at_part wm part p)
  pub rest : List ℕ
  pub whole : p.tags ++ tags ≡ next.tags ++ rest
  pub meets : Meets wm cs next.bindings rest

taken_is : (wm : List Element) (part : Part) (cs : List Part) (p : Partial) (tags : List ℕ) → Meets wm (part ∷ cs) p.bindings tags → Taken wm part cs p tags
taken_is wm (Group ms) cs p tags i = record { next = p; found = by (some_extend wm ms p.bindings) refl; rest = tags; whole = refl; meets = i.1 }
  where
    by : (b : Bool) → some_extend wm ms p.bindings ≡ b → IsMember p (cond (not b) (p ∷ []) [])
    by true e = absurd (i.0 (some_extend-to wm ms p.bindings e))
    by false e = inl refl
taken_is wm (One c) cs p tags i =
    let r = by_sign c.negated i in record { next = r.0; found = r.1; rest = r.2; whole = r.3; meets = r.4 }
  where
    by_sign : (b : Bool)
        → MatchBool b
        (((e : Element) → Contains wm e → match_of c e p.bindings ≡ None) × Meets wm cs p.bindings tags)
        ((e : Element) × (next : List Binding) × (more : List ℕ) × Contains wm e × (match_of c e p.bindings ≡ Some next) × (tags ≡ e.tag ∷ more) × Meets wm cs next more)
        → (next : Partial) × IsMember next (cond b (cond (not (some_meets wm c p.bindings)) (p ∷ []) []) (flat_map (extended c p) wm)) × (rest : List ℕ) × (p.tags ++ tags ≡ next.tags ++ rest) × Meets wm cs next.bindings rest
    by_sign true i =
        let e : not (some_meets wm c p.bindings) ≡ true = ap not (some_meets-none wm c p.bindings (λ x m. i.0 x (contains_from_member x wm m))) in
        let P : Bool → Type 0 = λ b. IsMember p (cond b (p ∷ []) []) in
        (p, subst P (sym e) (inl refl), tags, refl, i.1)
    by_sign false i =
        let q : Partial = record { tags = p.tags ++ i.0.tag ∷ []; bindings = i.1 } in (
          q,
          member-flat_map (extended c p) q i.0 wm (member_from_contains i.0 wm i.3) (some_is p i.0.tag i.1 (match_of c i.0 p.bindings) i.4),
          i.2,
          ap (λ w. p.tags ++ w) i.5 ∙ sym (append_assoc p.tags (i.0.tag ∷ []) i.2),
          i.6,
        )

-- from a partial match that the walk has, it finds each way on that meets the conditions
pub all_found : (wm : List Element) (cs : List Part) (ps : List Partial) (p : Partial) (tags : List ℕ) → IsMember p ps → Meets wm cs p.bindings tags → (q : Partial) × IsMember q (walk wm cs ps) × (q.tags ≡ p.tags ++ tags)
all_found wm [] ps p tags m i = (p, m, sym (ap (λ w. p.tags ++ w) i ∙ append-nil p.tags))
all_found wm (c ∷ cs) ps p tags m i =
    let t = taken_is wm c cs p tags i in
    let r = all_found wm cs (flat_map (at_part wm c) ps) t.next t.rest (member-flat_map (at_part wm c) t.next p ps m t.found) t.meets in
    (r.0, r.1, r.2 ∙ sym t.whole)

-- each list of tags that meets the conditions is that of a match that the walk finds
pub meets-matches_of : (wm : List Element) (cs : List Part) (tags : List ℕ) → Meets wm cs [] tags → (q : Partial) × IsMember q (matches_of wm cs) × (q.tags ≡ tags)
meets-matches_of wm cs tags i = all_found wm cs (empty_partial ∷ []) empty_partial tags (inl refl) i
