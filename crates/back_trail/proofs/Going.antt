-- The state that is gone back to, and what the caller knows of it.
use Rattle.std.proofs.Common.{◌≡◌, ℕ, zero, suc, ◌-◌, ◌<◌, ◌≤◌, List, [], ◌∷◌, length, Option, Some, None, option_map, refl, ap, sym, ◌∙◌, subst, arith}
use Rattle.std.specs.Prelude.{slice_get, Contains, is_some, true}
use Rattle.std.proofs.lemmas.Bool.{false≢true}
use Rattle.ops_base.specs.declared.commands.Strategy.{Strategy}
use Rattle.ops_base.specs.declared.rules.Inst.{Inst}
use Rattle.ops_base.specs.declared.rules.Rule.{Rule}
use Rattle.ops_base.specs.declared.symbols.Point.{Point}
use Rattle.ops_base.specs.ConflictSet.{conflict_set}
use Rattle.ops_base.specs.Instances.{Before}
use Rattle.ops_base.specs.Names.{Spellings}
use Rattle.ops_base.specs.Refraction.{is_among, still_fired}
use Rattle.std.proofs.lemmas.List.Elements.{All-contains}
use Rattle.ops_base.proofs.ConflictSetLaws.{conflict_set-is, same_members}
use Rattle.ops_base.proofs.Filtered.{all_before-filter}
use Rattle.ops_base.proofs.InOrder.{before_from_all_pairs}
use Rattle.ops_base.proofs.Members.{IsMember, contains_from_member, member_from_contains}
use Rattle.ops_base.proofs.RefractionLaws.{member-still_fired}
use Rattle.ops_io.specs.Coming.{Coming}
use Rattle.ops_meaning.specs.Running.{Course}
use Rattle.work_store.specs.Stored.{Stored}
use Rattle.cycle.specs.Standing.{Standing}
use Rattle.cycle.specs.States.{Held, state_course}
use Rattle.back_trail.specs.Kept.{IsSound, course_over}
use Rattle.back_trail.specs.Trails.{AreNamedBy, Begun, Earlier, IsMarkedIn, Trailed, gone_back, trail_of}
use Rattle.back_trail.proofs.Named.{named_within}

-- the states of a trail that has begun
pub states_are : {X : Type 0} (f : X → Begun) (k : Option X) (b : X) (t : Trailed) → Some b ≡ k → trail_of (option_map f k) ≡ t → (f b).states ≡ t.states
states_are {X} f k b t is view =
    ap (λ (o : Option X). (trail_of (option_map f o)).states) is ∙ ap (λ (w : Trailed). w.states) view

abbrev pub IsThere : List Earlier → ℕ → Earlier → Type 0
IsThere states n e = slice_get states (length states - n) ≡ Some e

pub there_so : (bs states : List Earlier) (n : ℕ) (e : Earlier) → bs ≡ states → IsThere states n e → IsThere bs n e
there_so bs states n e is h = let P : List Earlier → Type 0 = λ w. IsThere w n e in subst P (sym is) h

get_within : {X : Type 0} (xs : List X) (n : ℕ) → n < length xs → (x : X) × (slice_get xs n ≡ Some x)
get_within [] n h = absurd (omega (arith, h))
get_within (x ∷ xs) zero h = (x, refl)
get_within (x ∷ xs) (suc n) h = get_within xs n (omega (arith, h))

-- its point is one of the names
pub point_named : (names : Spellings) (bs states : List Earlier) → bs ≡ states → (n : ℕ) → 0 < n → n ≤ length states → (point : Point) → ((e : Earlier) → IsThere bs n e → point ≡ e.point) → AreNamedBy names states
    → (0 < point.held) × (point.held ≤ length names.held)
point_named names bs states is n some within point at named =
    let f = get_within states (length states - n) (omega (arith, some, within)) in
    let same = at f.0 (there_so bs states n f.0 is f.1) in
    let r = named_within (length states - n) 1 names states f.0 f.1 named in
    let P : Point → Type 0 = λ p. (0 < p.held) × (p.held ≤ length names.held) in subst P (sym same) (omega (arith, r.0), r.1)

-- no mark of it is lost
pub marks_there : (rules : List Rule) (s : Standing) → IsSound s → IsMarkedIn rules s → still_fired (conflict_set rules s.wm) s.fired ≡ s.fired
marks_there rules s sound marked =
    same_members (still_fired (conflict_set rules s.wm) s.fired) s.fired
    (all_before-filter Before (λ i. is_among s.fired i) (conflict_set rules s.wm) (before_from_all_pairs Before (conflict_set rules s.wm) (conflict_set-is rules s.wm sound.well.0).in_order))
    (before_from_all_pairs Before s.fired sound.in_order) to from
  where
    to : (i : Inst) → IsMember i (still_fired (conflict_set rules s.wm) s.fired) → IsMember i s.fired
    to i m =
        member_from_contains i s.fired ((member-still_fired (conflict_set rules s.wm) s.fired i).0 (contains_from_member i (still_fired (conflict_set rules s.wm) s.fired) m)).1

    from : (i : Inst) → IsMember i s.fired → IsMember i (still_fired (conflict_set rules s.wm) s.fired)
    from i m =
        let here = contains_from_member i s.fired m in
        member_from_contains i (still_fired (conflict_set rules s.wm) s.fired)
        ((member-still_fired (conflict_set rules s.wm) s.fired i).1 (All-contains (Contains (conflict_set rules s.wm)) s.fired i marked here, here))

-- what a session has come to in it
pub went_back : {M : Type 0} (stored : M → Stored) (state : Held M) (rules : List Rule) (r : Standing) (e : Earlier) → r ≡ e.standing → IsSound r → IsMarkedIn rules e.standing → (strategy : Strategy) (firings : ℕ) → strategy ≡ state.index.strategy → firings ≡ state.firings
    → (spelled : Spellings) (coming : Coming) (k : Course) → k ≡ course_over rules r strategy firings spelled coming → k ≡ gone_back e (state_course stored state spelled coming)
went_back {M} stored state rules r e same sound marked strategy firings by made spelled coming k is =
    let P : Standing → Type 0 = IsSound in
    let marks = marks_there rules e.standing (subst P same sound) marked in
    is ∙ ap (λ (s : Standing). course_over rules s strategy firings spelled coming) same
    ∙ (λ i. record { wm = e.standing.wm; strategy = by i; fired = marks i; firings = made i; last = e.standing.last; names = spelled; coming = coming })

-- a trail that has begun knows this state
pub known : {X : Type 0} (f : X → Begun) (k : Option X) (t : Trailed) → trail_of (option_map f k) ≡ t → is_some k ≡ true → (x : Standing) → ((s : Standing) → t.now ≡ Some s → s ≡ x) → t ≡ record { states = t.states; now = Some x }
known f None t view some x h = absurd (false≢true some)
known f (Some b) t view some x h =
    let e : t.now ≡ Some (f b).now = ap (λ (w : Trailed). w.now) (sym view) in
    let now = e ∙ ap Some (h (f b).now e) in λ i. record { states = t.states; now = now i }
