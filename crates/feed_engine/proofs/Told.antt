-- A settle and an action beside it: the fault to report of both is the action's result, or out of memory.
use Rattle.std.proofs.Common.{◌≡◌, ◌∙◌, ℕ, List, [], true, Some, None, Result, Ok, Err, sym, ap, subst}
use Rattle.std.specs.Prelude.{IsErrAnd, OnOk}
use Rattle.std.proofs.lemmas.Bool.{false≢true}
use Rattle.std.proofs.lemmas.List.{append-nil}
use Rattle.ops_io.specs.Coming.{Coming}
use Rattle.ops_io.specs.Ports.{Port, Put, Stopped}
use Rattle.ops_io.specs.declared.stop.Stop.TheVariants as stop
use Rattle.ops_io.proofs.PortLemmas.{put_short}
use Rattle.ops_meaning.specs.Acting.{Misdeed}
use Rattle.ops_meaning.specs.Effects.{Effect}
use Rattle.act_phase.specs.Deeds.{Scene, Does}
use Rattle.act_phase.specs.Outcomes.{failure_of, is_read, fails_by}
use Rattle.act_phase.specs.declared.outcome.ActFault.{ActFault}
use Rattle.act_phase.specs.declared.outcome.ActFault.TheVariants as fault
use Rattle.feed_engine.specs.Feeding.{told_of_both, told_with_short}

put_stopped : (a b : Port) (xs : List ℕ) → Put a b xs → Stopped stop.OutOfMemory a b xs
put_stopped a b xs p = let P : List ℕ → Type 0 = Stopped stop.OutOfMemory a b in subst P (append-nil xs) (put_short a b xs [] p)

module _ {S Z : Type 0} (view : Z → Coming → S) (a b : Scene) (e : Coming → Effect Misdeed S) where
  abbrev Acting : Result Z ActFault → Type 0
  Acting r = Does view failure_of is_read r a b e

  module _ {Y : Type 0} (seen : Y → Coming → S) where
    abbrev Telling : ActFault → Type 0
    Telling f = let r : Result Y ActFault = Err f in Does seen failure_of is_read r a b e

    same_fault : (f : ActFault) → (let r : Result Z ActFault = Err f in Acting r) → Telling f
    same_fault f p = record {
      performs = record { taken = p.performs.taken; took = p.performs.took; performs = p.performs.performs };
      reads = p.reads;
      names = p.names;
      goes_on = tt;
    }

    -- the settle beside it ran out of memory
    short_beside : (acted : Result Z ActFault) → Acting acted → Telling (told_with_short acted)
    short_beside (Ok z) p = record {
      performs = record { taken = p.performs.taken; took = p.performs.took; performs = λ c comes. put_stopped a.port b.port (e _).bytes (p.performs.performs c comes).1 };
      reads = p.reads;
      names = p.names;
      goes_on = tt;
    }
    short_beside (Err (fault.Bad n kind)) p = record {
      performs = record { taken = p.performs.taken; took = p.performs.took; performs = λ c comes. put_stopped a.port b.port (e _).bytes (p.performs.performs c comes).1 };
      reads = p.reads;
      names = p.names;
      goes_on = tt;
    }
    short_beside (Err fault.Read) p = same_fault fault.Read p
    short_beside (Err fault.Write) p = same_fault fault.Write p
    short_beside (Err fault.OutOfMemory) p = same_fault fault.OutOfMemory p

    told_alone : {X W : Type 0} (settled : Result X W) (acted : Result Z ActFault) (f : ActFault) → told_of_both settled acted ≡ Some f → Acting acted → Telling f
    told_alone (Ok x) (Ok z) f is p = absurd (cc)
    told_alone (Ok x) (Err g) f is p = let same : g ≡ f = cc in subst Telling same (same_fault g p)
    told_alone (Err w) acted f is p = let same : told_with_short acted ≡ f = cc in subst Telling same (short_beside acted p)

    -- the fault to report of both is the action's effect, or out of memory
    pub both_err : {X W : Type 0} (r : Result Y ActFault) (settled : Result X W) (acted : Result Z ActFault) (f : ActFault) → IsErrAnd r (λ g. g ≡ f) → told_of_both settled acted ≡ Some f
        → Does view failure_of is_read acted a b e → Does seen failure_of is_read r a b e
    both_err (Ok y) settled acted f h is p = absurd h
    both_err (Err g) settled acted f h is p = subst Telling (sym h) (told_alone settled acted f is p)

  -- there is nothing to report
  pub both_ok : {X W Y : Type 0} (left : Coming → S) (y : Y) (settled : Result X W) (acted : Result Z ActFault) → told_of_both settled acted ≡ None → ((z : Z) (c : Coming) → view z c ≡ left c)
      → Does view failure_of is_read acted a b e → (let r : Result Y ActFault = Ok y in Does (λ _ c. left c) failure_of is_read r a b e)
  both_ok left y (Ok x) (Err g) is same p = absurd (cc)
  both_ok left y (Err w) acted is same p = absurd (cc)
  both_ok left y (Ok x) (Ok z) is same p = record {
    performs = record { taken = p.performs.taken; took = p.performs.took; performs = λ c comes. ((p.performs.performs c comes).0 ∙ ap (λ s. Ok s) (same z c), (p.performs.performs c comes).1) };
    reads = p.reads;
    names = p.names;
    goes_on = p.goes_on;
  }

-- what holds if the action was done
pub both_on_ok : {X W Z : Type 0} {P : Type 0} (settled : Result X W) (acted : Result Z ActFault) → told_of_both settled acted ≡ None → OnOk acted P → P
both_on_ok (Ok x) (Ok z) is p = p
both_on_ok (Ok x) (Err g) is p = absurd (cc)
both_on_ok (Err w) acted is p = absurd (cc)

short_read : {Z : Type 0} (acted : Result Z ActFault) → is_read (told_with_short acted) ≡ true → fails_by is_read acted ≡ true
short_read (Ok z) h = absurd (false≢true h)
short_read (Err (fault.Bad n kind)) h = absurd (false≢true h)
short_read (Err fault.Read) h = h
short_read (Err fault.Write) h = absurd (false≢true h)
short_read (Err fault.OutOfMemory) h = absurd (false≢true h)

-- a failed read that is reported is one of the action
pub both_read : {X W Z : Type 0} (settled : Result X W) (acted : Result Z ActFault) (f : ActFault) → told_of_both settled acted ≡ Some f → is_read f ≡ true → fails_by is_read acted ≡ true
both_read (Ok x) (Ok z) f is h = absurd (cc)
both_read (Ok x) (Err g) f is h = let same : g ≡ f = cc in ap is_read same ∙ h
both_read (Err w) acted f is h = let same : told_with_short acted ≡ f = cc in short_read acted (ap is_read same ∙ h)
