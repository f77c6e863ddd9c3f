-- What a firing leaves of a session that may keep its firings.
use Rattle.std.proofs.Common.{◌≡◌, ◌∙◌, ap, sym, subst, ℕ, List, [], ◌∷◌, ◌++◌, length, map, Option, Some, None, Result, Ok, Err, refl}
use Rattle.ops_base.specs.declared.elements.Change.{Change}
use Rattle.ops_base.specs.declared.rules.Rule.{Rule}
use Rattle.ops_base.specs.declared.symbols.Point.{Point}
use Rattle.ops_base.specs.ConflictSet.{conflict_set}
use Rattle.ops_base.specs.Names.{Spellings}
use Rattle.ops_base.specs.WorkingMemory.{Lawful}
use Rattle.ops_io.specs.Coming.{Coming, Inlet}
use Rattle.ops_io.specs.Ports.{Port}
use Rattle.ops_io.specs.declared.stop.Stop.TheVariants as stop
use Rattle.ops_meaning.specs.Effects.{Effect, Failure, OfPort, PerformsOn}
use Rattle.ops_meaning.proofs.InletLemmas.{FailsOn, leaves_on, on_err, short_behind}
use Rattle.ops_meaning.specs.Kept.{KeepsNames}
use Rattle.ops_meaning.specs.Running.{Course, Earlier, Session as Meant, fired_on, last_kept}
use Rattle.conflict_index.specs.Indexed.{insts_of}
use Rattle.cycle.specs.Standing.{Standing, after_firing, standing}
use Rattle.cycle.specs.States.{no_names, no_input, state_course}
use Rattle.cycle.specs.declared.fired.Fired.{Fired}
use Rattle.work_store.specs.Stored.{Stored}
use Rattle.back_trail.specs.Trails.{Trailed, Earlier as Kept, AreMarkedIn, AreNamedFrom, IsMarkedIn, with_firing}
use Rattle.back_trail.proofs.Named.{marked_in, marked_pushed}
use Rattle.session.specs.Trailing.{IsNamedFrom, IsTrailOf, earlier_by, ready_with, standing_of}
use Rattle.session.specs.declared.session.Session.{Session}
use Rattle.session.proofs.Points.{firing_means, named_with}

-- what a trail knows of now, and that each of its states is marked within the productions
pub trail_known : (rules : List Rule) (m : Course) (trail : Option Trailed) (t : Trailed) → trail ≡ Some t → IsTrailOf rules m trail → (s : Standing) → t.now ≡ Some s → s ≡ standing_of m
trail_known rules m trail t is h = let some : IsTrailOf rules m (Some t) = subst (IsTrailOf rules m) is h in some.0

pub trail_marked : (rules : List Rule) (m : Course) (trail : Option Trailed) (t : Trailed) → trail ≡ Some t → IsTrailOf rules m trail → AreMarkedIn rules t.states
trail_marked rules m trail t is h = let some : IsTrailOf rules m (Some t) = subst (IsTrailOf rules m) is h in some.1

-- memory runs out behind a call that performed this
pub performed_short : {X Y F E S : Type 0} (view : X → Coming → S) (seen : Y → Coming → S) (failure : F → Failure E) (f : F) → failure f ≡ OfPort stop.OutOfMemory → (x : X) (i j : Inlet) (a b : Port) (e : Coming → Effect E S) → j.faults ≡ i.faults
    → (let r : Result X F = Ok x in PerformsOn view failure r i j a b e) → (let r : Result Y F = Err f in PerformsOn seen failure r i j a b e)
performed_short {E = E} view seen failure f is x i j a b e steady p =
    let P : Failure E → Type 0 = λ g. FailsOn g i j a b e in
    on_err seen failure f i j a b e (subst P (sym is) (short_behind (view x) i j a b e e (λ z. refl) (leaves_on view failure x i j a b e steady p)))

-- where this is known, it is what is known
known_is : (t u : Trailed) (k s : Standing) → t ≡ record u { now = Some k } → t.now ≡ Some s → k ≡ s
known_is t u k s e is = let one : Some k ≡ Some s = sym (ap (λ (x : Trailed). x.now) e) ∙ is in cc

module _ {M H : Type 0} (stored : M → Stored) (rules : List Rule) where
  -- no firing is kept
  pub fires_alone : (before after : Session M H) (old new : Spellings) (trail : Option Trailed) → trail ≡ None → after ≡ record before { state = after.state } → (z y : Coming)
      → ready_with stored rules (record { session = after; trail = None }) new z ≡ fired_on (state_course stored after.state new z) (ready_with stored rules (record { session = before; trail = trail }) old y)
  fires_alone before after old new trail none kept z y =
      let m = state_course stored after.state new z in
      ap (λ (s : Session M H). let k : Meant = record { course = m; rules = rules; watch = s.watch; breaks = s.breaks; trail = None } in k) kept
      ∙ ap (λ (o : Option Trailed). fired_on m (ready_with stored rules (record { session = before; trail = o }) old y)) (sym none)

  module _ (before : Session M H) (trail : Option Trailed) (t known : Trailed) (is : trail ≡ Some t) (at : Standing) (standing_is : standing stored before.state ≡ at) (begins : known ≡ record t { now = Some at }) where
    -- its changes may be done in what is known
    pub push_lawful : (changes : List Change) → Lawful at.wm at.last changes → (s : Standing) → known.now ≡ Some s → Lawful s.wm s.last changes
    push_lawful changes h s e = subst (λ (x : Standing). Lawful x.wm x.last changes) (known_is known t at s begins e) h

    module _ (after : Session M H) (old new : Spellings) (v : Trailed) (point : Point) (fired : Fired) (pushed : (s : Standing) → known.now ≡ Some s → v ≡ with_firing s point fired known)
        (keeps : KeepsNames old new) (held : point.held ≡ length old.held) where
      pushed_is : v ≡ with_firing at point fired t
      pushed_is = pushed at (ap (λ (x : Trailed). x.now) begins) ∙ ap (λ (x : Trailed). with_firing at point fired x) begins

      -- the trail has what was before the firing
      pub fires_kept : IsNamedFrom 1 old trail → point.fresh ≡ old.made → after ≡ record before { state = after.state } → (z y : Coming)
          → ready_with stored rules (record { session = after; trail = Some v }) new z ≡ fired_on (state_course stored after.state new z) (ready_with stored rules (record { session = before; trail = trail }) old y)
      fires_kept named fresh kept z y =
          let m = state_course stored after.state new z in
          let last : Standing → Earlier = λ s. record { wm = s.wm; fired = s.fired; last = s.last; names = old } in
          let by : List Earlier → Session M H → Meant = λ es s. record { course = m; rules = rules; watch = s.watch; breaks = s.breaks; trail = Some es } in
          ap (λ es. by es after) (ap (λ (x : Trailed). map (earlier_by new) x.states) pushed_is ∙ firing_means 1 old new t.states at point keeps (subst (IsNamedFrom 1 old) is named) held fresh)
          ∙ ap (by (last_kept (map (earlier_by old) t.states ++ last at ∷ []))) kept
          ∙ ap (λ s. by (last_kept (map (earlier_by old) t.states ++ last s ∷ [])) before) (sym standing_is)
          ∙ ap (λ (o : Option Trailed). fired_on m (ready_with stored rules (record { session = before; trail = o }) old y)) (sym is)

      pub named_kept : (least : ℕ) → IsNamedFrom least old trail → IsNamedFrom least new (Some v)
      named_kept least h =
          let e : Kept = record { standing = at; point = point } in
          subst (λ (x : Trailed). AreNamedFrom least new x.states) (sym pushed_is) (named_with least old new t.states e held keeps (subst (IsNamedFrom least old) is h))

      pub trailed_kept : standing stored after.state ≡ after_firing fired at → insts_of before.state.index.members ≡ conflict_set rules (stored before.state.matcher).elements → IsTrailOf rules (state_course stored before.state no_names no_input) trail
          → IsTrailOf rules (state_course stored after.state no_names no_input) (Some v)
      trailed_kept leaves set h =
          let now : v.now ≡ Some (after_firing fired at) = ap (λ (x : Trailed). x.now) pushed_is in
          let marked = marked_in rules (stored before.state.matcher).elements (stored before.state.matcher).last before.state.index.members set in
          let states = trail_marked rules (state_course stored before.state no_names no_input) trail t is h in (
            λ s e. (let one : Some (after_firing fired at) ≡ Some s = sym now ∙ e in
                let same : s ≡ after_firing fired at = cc in same ∙ sym leaves),
            subst (λ (x : Trailed). AreMarkedIn rules x.states) (sym pushed_is) (marked_pushed rules at point fired t (subst (IsMarkedIn rules) standing_is marked) states),
          )
