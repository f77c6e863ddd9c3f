-- Bytes that were put and written out are delivered.
use Rattle.std.proofs.Common.{◌≡◌, ℕ, List, [], ◌++◌, Option, Ok, Err, refl, sym, subst, ◌∙◌}
use Rattle.ops_io.specs.Outside.{GrewBy, GrewByPrefix}
use Rattle.ops_io.specs.Ports.{Port, Put, Stopped, Flushed, Cause}
use Rattle.ops_io.specs.declared.stop.Stop.{Stop}
use Rattle.ops_io.specs.declared.stop.Stop.TheVariants as stop
use Rattle.ops_io.proofs.Known.{append_known-nothing}
use Rattle.ops_io.proofs.PortLemmas.{put_flushed, put_unflushed}
use Rattle.lint_top.specs.declared.statuses.LintStatus.{LintStatus}
use Rattle.lint_top.specs.Report.{Reply}
use Rattle.lint_top.specs.Calls.{Delivers}

-- all was put, and then written out
pub delivered : (s : LintStatus) (o : Reply) (a b c : Port) → a.out.held ≡ [] → s ≡ o.status → Put a b o.bytes → Flushed b c → Delivers (Ok s) o a.taken a.faults c.taken c.faults
delivered s o a b c e is p f =
    let P : List ℕ → Type 0 = λ held. GrewBy a.taken c.taken (held ++ o.bytes) in
    (is, subst P e (put_flushed a b c o.bytes p f), f.faults ∙ p.faults)

-- all was put, and then the output refused
pub unflushed : (why : Stop) (o : Reply) (a b c : Port) → a.out.held ≡ [] → Put a b o.bytes → Stopped why b c [] → Delivers (Err why) o a.taken a.faults c.taken c.faults
unflushed why o a b c e p q =
    let P : List ℕ → Type 0 = λ held. GrewByPrefix a.taken c.taken (held ++ o.bytes) in
    let C : ℕ → Type 0 = λ n. Cause why n c.faults in
    (subst P e (put_unflushed why a b c o.bytes p q), subst C p.faults q.cause)

-- a put gave up
pub unput : (why : Stop) (o : Reply) (a b : Port) → a.out.held ≡ [] → Stopped why a b o.bytes → Delivers (Err why) o a.taken a.faults b.taken b.faults
unput why o a b e q =
    let P : List ℕ → Type 0 = λ held. GrewByPrefix a.taken b.taken (held ++ o.bytes) in
    (subst P e q.prefix, q.cause)

-- memory ran out before anything was put
pub untold : (o : Reply) (taken : Option (List ℕ)) (faults : ℕ) → Delivers (Err stop.OutOfMemory) o taken faults taken faults
untold o taken faults = (([], o.bytes, refl, sym (append_known-nothing taken)), refl)
