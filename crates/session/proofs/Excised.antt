-- What `excise` leaves of a session with a trail.
use Rattle.std.proofs.Common.{◌≡◌, ◌∙◌, ap, sym, subst, refl, ℕ, List, [], length, cond, Option, option_map, Result, Ok, Err, inl, inr, ◌⊎◌, nat_lt, arith}
use Rattle.std.proofs.lemmas.Bool.{lt-ltb, le-ltb}
use Rattle.ops_base.specs.declared.endings.Ending.{Ending}
use Rattle.ops_base.specs.declared.programs.Program.{Program}
use Rattle.ops_base.specs.declared.rules.Rule.{Rule}
use Rattle.ops_base.specs.declared.values.Sym.{Sym}
use Rattle.ops_base.specs.Names.{Spellings}
use Rattle.ops_io.specs.Coming.{Coming}
use Rattle.ops_io.specs.Ports.{Port}
use Rattle.ops_meaning.specs.Effects.{Failure, OfPort, OfEffect, Fails, of_ending}
use Rattle.ops_meaning.specs.Running.{Course, Earlier, Session as Meant, excised}
use Rattle.cycle.specs.States.{no_names, no_input}
use Rattle.work_store.specs.Stored.{Stored}
use Rattle.back_trail.specs.Trails.{Trailed}
use Rattle.session.specs.Changing.{Excises}
use Rattle.session.specs.Courses.{course_of, meant_by}
use Rattle.session.specs.Trailing.{DoesWith, IsNamedFrom, IsTrailOf, IsUndoable, standing_of, trail_by}
use Rattle.session.specs.declared.session.Session.{Session}
use Rattle.session.specs.declared.undoable.Undoable.{Undoable}
use Rattle.session.proofs.Trailed.{TakesNone, TakesSome, all_out, emptied_by, emptied_means, emptied_named, emptied_of, none_or_some, trail_moved, trailed, unread_too}

-- what it puts does not depend on the trail
excised_fails : (f : Failure Ending) (column : ℕ) (given : List Sym) (t : Option (List Earlier)) (k : Meant) (a b : Port) → Fails f a b (excised column given k) → Fails f a b (excised column given (trailed t k))
excised_fails (OfPort why) column given t k a b p = p
excised_fails (OfEffect f) column given t k a b p = absurd (let no = p.0 in cc)

same_ok : (j k : Meant) → (let r : Result Meant Ending = Ok j in r ≡ Ok k) → j ≡ k
same_ok j k e = cc

module _ {M H : Type 0} (stored : M → Stored) (stands_for : M → List Rule → Type 0) (old new : Program) (names : Spellings) (given : List Sym) (u : Undoable M H) where
  abbrev before : Coming → Meant
  before z = meant_by stored old.rules u.session names z

  pub excised_err : (a b : Port) (f : Ending) → Excises stored stands_for old new names given u.session (let r : Result (Session M H) Ending = Err f in r) a b
      → (let r : Result (Undoable M H) Ending = Err f in DoesWith stored stands_for old.rules new.rules names u r a b (excised a.out.column given))
  excised_err a b f p = record {
    performs = λ z. excised_fails (of_ending f) a.out.column given (trail_by names u.trail) (before z) a b (p.performs z);
    reads = unread_too (Session M H) (Undoable M H) f p.reads;
    undoable = tt;
    named = tt;
  }

  module _ (kept : IsUndoable stored stands_for old.rules u) (a b : Port) (s : Session M H) (trail : Option Trailed)
      (is : trail ≡ cond (nat_lt (length new.rules) (length old.rules)) (emptied_by u.trail) u.trail)
      (p : Excises stored stands_for old new names given u.session (let r : Result (Session M H) Ending = Ok s in r) a b) where
    abbrev after : Coming → Meant
    after z = meant_by stored new.rules s names z

    left_is : (z : Coming) → all_out given (before z) ≡ after z
    left_is z = same_ok (all_out given (before z)) (after z) (p.performs z).0

    rules_are : (all_out given (before no_input)).rules ≡ new.rules
    rules_are = ap (λ (k : Meant). k.rules) (left_is no_input)

    -- the trail stays, where none is taken out, or is emptied
    trail_is : (z : Coming) → ((all_out given (before z) ≡ before z) × (trail ≡ u.trail)) ⊎ (trail ≡ emptied_by u.trail)
    trail_is z = by (none_or_some given (before z) (trail_by names u.trail))
      where
        by : TakesNone given (before z) (trail_by names u.trail) ⊎ TakesSome given (before z) (trail_by names u.trail) → ((all_out given (before z) ≡ before z) × (trail ≡ u.trail)) ⊎ (trail ≡ emptied_by u.trail)
        by (inl none) =
            let same : old.rules ≡ new.rules = ap (λ (k : Meant). k.rules) (sym none.0 ∙ left_is z) in
            let long = ap (λ (rs : List Rule). length rs) same in
            inl (none.0, is ∙ ap (λ b. cond b (emptied_by u.trail) u.trail) (le-ltb (length new.rules) (length old.rules) (omega (arith, long))))
        by (inr some) =
            let same = ap (λ (k : Meant). length k.rules) (left_is z) in
            inr (is ∙ ap (λ b. cond b (emptied_by u.trail) u.trail) (lt-ltb (length new.rules) (length old.rules) (omega (arith, same, some.0))))

    outcome_is : (z : Coming) → all_out given (trailed (trail_by names u.trail) (before z)) ≡ trailed (trail_by names trail) (after z)
    outcome_is z = by (none_or_some given (before z) (trail_by names u.trail))
      where
        by : TakesNone given (before z) (trail_by names u.trail) ⊎ TakesSome given (before z) (trail_by names u.trail) → all_out given (trailed (trail_by names u.trail) (before z)) ≡ trailed (trail_by names trail) (after z)
        by (inl none) =
            let same : old.rules ≡ new.rules = ap (λ (k : Meant). k.rules) (sym none.0 ∙ left_is z) in
            let long = ap (λ (rs : List Rule). length rs) same in
            let stays : trail ≡ u.trail = is ∙ ap (λ b. cond b (emptied_by u.trail) u.trail) (le-ltb (length new.rules) (length old.rules) (omega (arith, long))) in
            none.1 ∙ ap (trailed (trail_by names u.trail)) (sym none.0 ∙ left_is z) ∙ ap (λ t. trailed (trail_by names t) (after z)) (sym stays)
        by (inr some) =
            let same = ap (λ (k : Meant). length k.rules) (left_is z) in
            let goes : trail ≡ emptied_by u.trail = is ∙ ap (λ b. cond b (emptied_by u.trail) u.trail) (lt-ltb (length new.rules) (length old.rules) (omega (arith, same, some.0))) in
            some.1 ∙ ap (trailed (option_map (λ es. []) (trail_by names u.trail))) (left_is z)
            ∙ ap (λ t. trailed t (after z)) (sym (emptied_means names u.trail)) ∙ ap (λ t. trailed (trail_by names t) (after z)) (sym goes)

    pub excised_ok : (let r : Result (Undoable M H) Ending = Ok (record { session = s; trail = trail }) in DoesWith stored stands_for old.rules new.rules names u r a b (excised a.out.column given))
    excised_ok = record {
      performs = λ z. (ap Ok (outcome_is z), (p.performs z).1);
      reads = refl;
      undoable = record { under_way = p.under_way; trail = of (trail_is no_input) };
      named = λ least h. by least h (trail_is no_input);
    }
      where
        m : Course
        m = course_of stored s no_names no_input

        of : ((all_out given (before no_input) ≡ before no_input) × (trail ≡ u.trail)) ⊎ (trail ≡ emptied_by u.trail) → IsTrailOf new.rules m trail
        of (inl none) =
            let same = sym none.0 ∙ left_is no_input in
            let rules : old.rules ≡ new.rules = ap (λ (k : Meant). k.rules) same in
            let stands : standing_of m ≡ standing_of (course_of stored u.session no_names no_input) = ap (λ (k : Meant). standing_of k.course) (sym same) in
            subst (λ rs. IsTrailOf rs m trail) rules
            (subst (IsTrailOf old.rules m) (sym none.1) (trail_moved old.rules (course_of stored u.session no_names no_input) m u.trail stands kept.trail))
        of (inr some) = subst (IsTrailOf new.rules m) (sym some) (emptied_of new.rules m u.trail)

        by : (least : ℕ) → IsNamedFrom least names u.trail → ((all_out given (before no_input) ≡ before no_input) × (trail ≡ u.trail)) ⊎ (trail ≡ emptied_by u.trail) → IsNamedFrom least names trail
        by least h (inl none) = subst (IsNamedFrom least names) (sym none.1) h
        by least h (inr some) = subst (IsNamedFrom least names) (sym some) (emptied_named least names u.trail h)
