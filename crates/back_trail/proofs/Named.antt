-- What a caller keeps true of a trail: its points are of the names, and its marks in the conflict sets.
use Rattle.std.proofs.Common.{◌≡◌, ℕ, zero, suc, ◌-◌, ◌≤◌, List, [], ◌∷◌, ◌++◌, length, take, drop, Some, refl, ap, subst, arith}
use Rattle.std.specs.Prelude.{slice_get, Contains}
use Rattle.ops_base.specs.declared.elements.Element.{Element}
use Rattle.ops_base.specs.declared.rules.Inst.{Inst}
use Rattle.ops_base.specs.declared.rules.Rule.{Rule}
use Rattle.ops_base.specs.declared.symbols.Point.{Point}
use Rattle.ops_base.specs.ConflictSet.{conflict_set}
use Rattle.ops_base.specs.Names.{Spellings}
use Rattle.ops_base.proofs.Members.{contains_from_member, all_from_members}
use Rattle.ops_meaning.specs.Kept.{KeepsNames}
use Rattle.conflict_index.specs.Indexed.{Member, insts_of, fired_of}
use Rattle.cycle.specs.declared.fired.Fired.{Fired}
use Rattle.cycle.specs.Standing.{Standing}
use Rattle.cycle.proofs.Marks.{fired_member, member_inst}
use Rattle.back_trail.specs.Trails.{Earlier, Trailed, AreMarkedIn, AreNamedBy, AreNamedFrom, IsMarkedIn, names_at, with_firing}

some_is : {X : Type 0} (x y : X) → Some x ≡ Some y → x ≡ y
some_is x y e = cc

-- ---- names

-- the names grow
pub named_grow : (least : ℕ) (old new : Spellings) (es : List Earlier) → length old.held ≤ length new.held → AreNamedFrom least old es → AreNamedFrom least new es
named_grow least old new [] more h = omega (arith, more, h)
named_grow least old new (e ∷ es) more h = (h.0, named_grow e.point.held old new es more h.1)

lower : (less least : ℕ) (names : Spellings) (es : List Earlier) → less ≤ least → AreNamedFrom least names es → AreNamedFrom less names es
lower less least names [] below h = omega (arith, below, h)
lower less least names (e ∷ es) below h = (omega (arith, below, h.0), h.1)

named_drop : (n least : ℕ) (names : Spellings) (es : List Earlier) → AreNamedFrom least names es → AreNamedFrom least names (drop n es)
named_drop zero least names es h = h
named_drop (suc n) least names [] h = h
named_drop (suc n) least names (e ∷ es) h = named_drop n least names es (lower least e.point.held names es h.0 h.1)

named_more : (least : ℕ) (names : Spellings) (s : Standing) (point : Point) (es : List Earlier) → point.held ≡ length names.held → AreNamedFrom least names es → AreNamedFrom least names (es ++ record { standing = s; point = point } ∷ [])
named_more least names s point [] is h = (omega (arith, is, h), omega (arith, is))
named_more least names s point (e ∷ es) is h = (h.0, named_more e.point.held names s point es is h.1)

-- a firing more, before which the names stood at this point
pub named_pushed : (names : Spellings) (s : Standing) (point : Point) (f : Fired) (t : Trailed) → point.held ≡ length names.held → AreNamedBy names t.states → AreNamedBy names (with_firing s point f t).states
named_pushed names s point f t is h =
    let states = t.states ++ record { standing = s; point = point } ∷ [] in
    named_drop (length states - 32) 1 names states (named_more 1 names s point t.states is h)

-- the point of a state is one of these names
pub named_within : (k least : ℕ) (names : Spellings) (es : List Earlier) (e : Earlier) → slice_get es k ≡ Some e → AreNamedFrom least names es → (least ≤ e.point.held) × (e.point.held ≤ length names.held)
named_within k least names [] e is h = cc
named_within zero least names (d ∷ es) e is h =
    let P : Earlier → Type 0 = λ w. (least ≤ w.point.held) × (w.point.held ≤ length names.held) in
    subst P (some_is d e is) (h.0, above d.point.held es h.1)
  where
    above : (n : ℕ) (fs : List Earlier) → AreNamedFrom n names fs → n ≤ length names.held
    above n [] k = k
    above n (f ∷ fs) k = let r = above f.point.held fs k.1 in omega (arith, k.0, r)
named_within (suc k) least names (d ∷ es) e is h =
    let r = named_within k d.point.held names es e is h.1 in (omega (arith, h.0, r.0), r.1)

take_length : {X : Type 0} (n : ℕ) (xs : List X) → n ≤ length xs → length (take n xs) ≡ n
take_length zero xs h = refl
take_length (suc n) [] h = absurd (omega (arith, h))
take_length (suc n) (x ∷ xs) h = ap suc (take_length n xs (omega (arith, h)))

-- the states before one that was gone back to
pub named_back : (k least : ℕ) (names : Spellings) (es : List Earlier) (e : Earlier) → slice_get es k ≡ Some e → AreNamedFrom least names es → AreNamedFrom least (names_at e.point names) (take k es)
named_back k least names [] e is h = cc
named_back zero least names (d ∷ es) e is h =
    let r = named_within zero least names (d ∷ es) e is h in
    let l = take_length e.point.held names.held r.1 in omega (arith, r.0, l)
named_back (suc k) least names (d ∷ es) e is h = (h.0, named_back k d.point.held names es e is h.1)

-- names that grow keep what they were at a point
take_same : {X : Type 0} (n : ℕ) (old new : List X) → ((i : ℕ) (x : X) → slice_get old i ≡ Some x → slice_get new i ≡ Some x) → n ≤ length old → take n new ≡ take n old
take_same zero old new h within = refl
take_same (suc n) [] new h within = absurd (omega (arith, within))
take_same (suc n) (x ∷ old) [] h within = let e = h zero x refl in cc
take_same (suc n) (x ∷ old) (y ∷ new) h within =
    let first : y ≡ x = some_is y x (h zero x refl) in
    let rest = take_same n old new (λ i z e. h (suc i) z e) (omega (arith, within)) in λ j. first j ∷ rest j

pub names_stay : (old new : Spellings) (point : Point) → KeepsNames old new → point.held ≤ length old.held → names_at point new ≡ names_at point old
names_stay old new point keeps within =
    ap (λ (held : List (List ℕ)). let s : Spellings = record { held = held; made = point.fresh } in s) (take_same point.held old.held new.held keeps within)

grown : {X : Type 0} (old new : List X) → ((i : ℕ) (x : X) → slice_get old i ≡ Some x → slice_get new i ≡ Some x) → length old ≤ length new
grown [] new h = omega arith
grown (x ∷ old) [] h = let e = h zero x refl in cc
grown (x ∷ old) (y ∷ new) h = let r = grown old new (λ i z e. h (suc i) z e) in omega (arith, r)

-- names that keep the others have no fewer
pub names_more : (old new : Spellings) → KeepsNames old new → length old.held ≤ length new.held
names_more old new keeps = grown old.held new.held keeps

-- ---- marks

marked_drop : (n : ℕ) (rules : List Rule) (es : List Earlier) → AreMarkedIn rules es → AreMarkedIn rules (drop n es)
marked_drop zero rules es h = h
marked_drop (suc n) rules [] h = h
marked_drop (suc n) rules (e ∷ es) h = marked_drop n rules es h.1

marked_more : (rules : List Rule) (e : Earlier) (es : List Earlier) → IsMarkedIn rules e.standing → AreMarkedIn rules es → AreMarkedIn rules (es ++ e ∷ [])
marked_more rules e [] is h = (is, tt)
marked_more rules e (d ∷ es) is h = (h.0, marked_more rules e es is h.1)

pub marked_pushed : (rules : List Rule) (s : Standing) (point : Point) (f : Fired) (t : Trailed) → IsMarkedIn rules s → AreMarkedIn rules t.states → AreMarkedIn rules (with_firing s point f t).states
marked_pushed rules s point f t is h =
    let e : Earlier = record { standing = s; point = point } in
    let states = t.states ++ e ∷ [] in marked_drop (length states - 32) rules states (marked_more rules e t.states is h)

pub marked_back : (k : ℕ) (rules : List Rule) (es : List Earlier) → AreMarkedIn rules es → AreMarkedIn rules (take k es)
marked_back zero rules es h = tt
marked_back (suc k) rules [] h = tt
marked_back (suc k) rules (e ∷ es) h = (h.0, marked_back k rules es h.1)

pub marked_at : (k : ℕ) (rules : List Rule) (es : List Earlier) (e : Earlier) → slice_get es k ≡ Some e → AreMarkedIn rules es → IsMarkedIn rules e.standing
marked_at k rules [] e is h = cc
marked_at zero rules (d ∷ es) e is h =
    let P : Earlier → Type 0 = λ w. IsMarkedIn rules w.standing in subst P (some_is d e is) h.0
marked_at (suc k) rules (d ∷ es) e is h = marked_at k rules es e is h.1

-- what an index of the conflict set marks is in it
pub marked_in : (rules : List Rule) (wm : List Element) (last : ℕ) (ms : List Member) → insts_of ms ≡ conflict_set rules wm → IsMarkedIn rules (record { wm = wm; fired = fired_of ms; last = last })
marked_in rules wm last ms set =
    all_from_members (Contains (conflict_set rules wm)) (fired_of ms) (λ i m.
    let f = fired_member ms i (contains_from_member i (fired_of ms) m) in
    let P : List Inst → Type 0 = λ is. Contains is i in subst P set (member_inst ms f.0 i f.1 f.3))
