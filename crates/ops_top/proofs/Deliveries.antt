-- What was put and written out is delivered.
use Rattle.std.proofs.Common.{◌≡◌, ℕ, List, [], ◌++◌, Bool, Option, Ok, Err, false, refl, sym, ap, ◌∙◌, subst, nat_lt}
use Rattle.ops_base.specs.Names.{Spellings}
use Rattle.ops_base.specs.declared.endings.Ending.{Ending}
use Rattle.ops_io.specs.Coming.{Coming, Inlet, preceded_by}
use Rattle.ops_io.specs.Outside.{GrewBy, GrewByPrefix}
use Rattle.ops_io.specs.Ports.{Port, Put, Stopped, Flushed, Cause}
use Rattle.ops_io.specs.declared.stop.Stop.{Stop}
use Rattle.ops_io.specs.declared.stop.Stop.TheVariants as stop
use Rattle.ops_io.proofs.Known.{append_known-nothing}
use Rattle.ops_io.proofs.PortLemmas.{put_flushed, put_unflushed}
use Rattle.ops_meaning.specs.declared.statuses.Status.{Status}
use Rattle.ops_meaning.specs.Effects.{Effect}
use Rattle.ops_meaning.specs.Running.{Session as Meant}
use Rattle.ops_top.specs.Whole.{Reply, status_of, told}
use Rattle.ops_top.specs.Calls.{OfInput}
use Rattle.ops_top.specs.Told.{Delivers, TellsOn}
use Rattle.session.proofs.Comings.{some_failing}
use Rattle.ops_top.proofs.Inputs.{over_input}

-- all was put, and then written out
pub delivered : (s : Status) (o : Reply) (a b c : Port) → a.out.held ≡ [] → s ≡ o.status → Put a b o.bytes → Flushed b c → Delivers (Ok s) o a.taken a.faults c.taken c.faults
delivered s o a b c e is p f =
    let P : List ℕ → Type 0 = λ held. GrewBy a.taken c.taken (held ++ o.bytes) in
    (is, subst P e (put_flushed a b c o.bytes p f), f.faults ∙ p.faults)

-- all was put, and then the output refused
pub unflushed : (why : Stop) (o : Reply) (a b c : Port) → a.out.held ≡ [] → Put a b o.bytes → Stopped why b c [] → Delivers (Err why) o a.taken a.faults c.taken c.faults
unflushed why o a b c e p q =
    let P : List ℕ → Type 0 = λ held. GrewByPrefix a.taken c.taken (held ++ o.bytes) in
    let C : ℕ → Type 0 = λ n. Cause why n c.faults in
    (subst P e (put_unflushed why a b c o.bytes p q), subst C p.faults q.cause)

-- a put gave up
pub unput : (why : Stop) (o : Reply) (a b : Port) → a.out.held ≡ [] → Stopped why a b o.bytes → Delivers (Err why) o a.taken a.faults b.taken b.faults
unput why o a b e q =
    let P : List ℕ → Type 0 = λ held. GrewByPrefix a.taken b.taken (held ++ o.bytes) in
    (subst P e q.prefix, q.cause)

-- memory ran out before anything was put
pub untold : (o : Reply) (taken : Option (List ℕ)) (faults : ℕ) → Delivers (Err stop.OutOfMemory) o taken faults taken faults
untold o taken faults = (([], o.bytes, refl, sym (append_known-nothing taken)), refl)

-- ---- a session that is told over an input

module _ {before now : Inlet} {a b : Port} {summed : Bool} {names : Spellings} {e : Coming → Effect Ending Meant} where
  -- what is told was put
  pub put_told : (f : Ending) → TellsOn (Ok f) before now a b summed names e → (xs : List ℕ) × Put a b xs
  put_told f p =
      let z = some_failing before now in ((told summed names (e (preceded_by p.taken z.0))).bytes, (p.tells z.0 z.1).1)

  module _ (empty : before.buffer ≡ record { held = []; ended = false }) (held : a.out.held ≡ []) where
    -- the session was cut
    pub program_cut : (why : Stop) → TellsOn (Err why) before now a b summed names e → OfInput before.left now.left (nat_lt before.faults now.faults) (λ z. Delivers (Err why) (told summed names (e z)) a.taken a.faults b.taken b.faults)
    program_cut why p =
        over_input before now p.taken p.took empty (λ z. Delivers (Err why) (told summed names (e z)) a.taken a.faults b.taken b.faults)
        (λ z h. unput why (told summed names (e (preceded_by p.taken z))) a b held (p.tells z h))

    module _ {c : Port} (f : Ending) (p : TellsOn (Ok f) before now a b summed names e) where
      -- what is told was not written out
      pub program_unflushed : (why : Stop) → Stopped why b c [] → OfInput before.left now.left (nat_lt before.faults now.faults) (λ z. Delivers (Err why) (told summed names (e z)) a.taken a.faults c.taken c.faults)
      program_unflushed why q =
          over_input before now p.taken p.took empty (λ z. Delivers (Err why) (told summed names (e z)) a.taken a.faults c.taken c.faults)
          (λ z h. unflushed why (told summed names (e (preceded_by p.taken z))) a b c held (p.tells z h).1 q)

      pub program_delivered : (s : Status) → s ≡ status_of f → Flushed b c → OfInput before.left now.left (nat_lt before.faults now.faults) (λ z. Delivers (Ok s) (told summed names (e z)) a.taken a.faults c.taken c.faults)
      program_delivered s is q =
          over_input before now p.taken p.took empty (λ z. Delivers (Ok s) (told summed names (e z)) a.taken a.faults c.taken c.faults)
          (λ z h. delivered s (told summed names (e (preceded_by p.taken z))) a b c held (is ∙ ap status_of (p.tells z h).0) (p.tells z h).1 q)
