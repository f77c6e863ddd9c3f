-- What a trail keeps, and what `back` leaves.
use Rattle.std.proofs.Common.{◌≡◌, ℕ, ◌-◌, List, [], ◌∷◌, ◌++◌, length, take, Bool, true, false, cond, Option, Some, None, MatchResult, refl, subst, nat_lt, slice_get}
use Rattle.std.specs.Prelude.{option_map, unwrap_or}
use Rattle.std.specs.List.{All}
use Rattle.std.proofs.lemmas.List.Elements.{All-nil, All-push, All-drop, All-take, All-get_or}
use Rattle.std.proofs.lemmas.Option.{get_or_from_slice_get, slice_get_within}
use Rattle.ops_base.specs.declared.endings.Ending.{Ending}
use Rattle.ops_meaning.specs.Running.{Course, Earlier, Session, earlier, most_kept, last_kept, trail_emptied, fired_on, lists, states_kept, restored, gone_back_to, back_given}
use Rattle.ops_meaning.specs.Effects.{Effect, writes}
use Rattle.ops_meaning.specs.Layout.{kept_line}

-- `back` leaves a session as it is, or one of the states of its trail comes back
pub back_leaves : (P : Session → Type 0) (R : Ending → Type 0) (column count : ℕ) (k : Session) → P k
    → ((n : ℕ) (e : Earlier) → slice_get (states_kept k) n ≡ Some e → P (restored n k e)) → MatchResult (back_given column count k).outcome P R
back_leaves P R column count k p q = by (nat_lt (length (states_kept k)) count)
  where
    at : ℕ
    at = length (states_kept k) - count

    gone : (o : Option Earlier) → ((e : Earlier) → o ≡ Some e → P (restored at k e)) → P (unwrap_or (option_map (restored at k) o) k)
    gone None h = p
    gone (Some e) h = h e refl

    by : (few : Bool) → (let e : Effect Ending Session = cond few (lists column (kept_line (length (states_kept k)) ∷ []) k) (writes [] (gone_back_to at k)) in MatchResult e.outcome P R)
    by true = p
    by false = gone (slice_get (states_kept k) at) (q at)

-- What holds of each state on a trail.
module _ (Q : Earlier → Type 0) where
  abbrev pub AreKept : Session → Type 0
  AreKept k = All Q (states_kept k)

  pub none_kept : (k : Session) → AreKept (trail_emptied k)
  none_kept k = by k.trail
    where
      by : (t : Option (List Earlier)) → All Q (unwrap_or (option_map (λ es. []) t) [])
      by None = All-nil Q
      by (Some es) = All-nil Q

  pub firing_kept_too : (m : Course) (k : Session) → Q (earlier k.course) → AreKept k → AreKept (fired_on m k)
  firing_kept_too m k q h = by k.trail h
    where
      by : (t : Option (List Earlier)) → All Q (unwrap_or t []) → All Q (unwrap_or (option_map (λ es. last_kept (es ++ earlier k.course ∷ [])) t) [])
      by None h = All-nil Q
      by (Some es) h =
          let all = es ++ earlier k.course ∷ [] in
          All-drop Q (length all - most_kept) all (All-push Q es (earlier k.course) h q)

  pub those_before : (n : ℕ) (k : Session) (e : Earlier) → AreKept k → AreKept (restored n k e)
  those_before n k e h = by k.trail h
    where
      by : (t : Option (List Earlier)) → All Q (unwrap_or t []) → All Q (unwrap_or (option_map (take n) t) [])
      by None h = All-nil Q
      by (Some es) h = All-take Q n es h

  pub is_kept : (k : Session) (n : ℕ) (e : Earlier) → AreKept k → slice_get (states_kept k) n ≡ Some e → Q e
  is_kept k n e h is =
      subst Q (get_or_from_slice_get (states_kept k) n e e is) (All-get_or Q (states_kept k) n e (slice_get_within (states_kept k) n e is) h)

  -- the states of a trail that begins
  pub none_yet : (keeps : Bool) → All Q (unwrap_or (cond keeps (Some []) None) [])
  none_yet true = All-nil Q
  none_yet false = All-nil Q
