-- Something may always come, and so what was put is known whatever comes.
use Rattle.std.proofs.Common.{◌≡◌, ℕ, Bool, true, false, List, [], ◌++◌, Option, Some, None, Result, Ok, refl, nat_lt}
use Rattle.ops_io.specs.Coming.{Coming, Inlet, preceded_by, IsBehind, MayCome, ComesBehind, ComesAfter}
use Rattle.ops_io.specs.Ports.{Port, Put}
use Rattle.ops_meaning.specs.Effects.{Effect, Failure, PendingOn, PerformsOn}

some_behind : (ended : Bool) (left : Option (List ℕ)) → (more : List ℕ) × IsBehind ended false left more
some_behind true left = ([], (refl, refl))
some_behind false None = ([], tt)
some_behind false (Some bytes) = (bytes, refl)

pub some_may : (i : Inlet) → (c : Coming) × MayCome i c
some_may i =
    let behind = some_behind i.buffer.ended i.left in
    (record { bytes = i.buffer.held ++ behind.0; fails = false }, record { more = behind.0; bytes = refl; behind = behind.1 })

-- something may come after a call, which fails where a read did
pub some_failing : (old new : Inlet) → (z : Coming) × ComesAfter old new z × (z.fails ≡ nat_lt old.faults new.faults)
unfolding some_may
some_failing old new = by (nat_lt old.faults new.faults)
  where
    by : (failed : Bool) → (z : Coming) × ComesBehind failed new z × (z.fails ≡ failed)
    by true = (record { bytes = new.buffer.held; fails = true }, refl, refl)
    by false = let z = some_may new in (z.0, z.1, refl)

-- some bytes were put
pub pending_put : {E S : Type 0} (i j : Inlet) (a b : Port) (whole rest : Coming → Effect E S) → PendingOn i j a b whole rest → (xs : List ℕ) × Put a b xs
pending_put i j a b whole rest p = let z = some_may j in let q = p.pending z.0 z.1 in (q.sofar, q.put)

-- a call that went well put some bytes
pub performed_put : {X F E S : Type 0} {view : X → Coming → S} {failure : F → Failure E} {x : X} {i j : Inlet} {a b : Port} {e : Coming → Effect E S} → (let r : Result X F = Ok x in PerformsOn view failure r i j a b e) → (xs : List ℕ) × Put a b xs
performed_put {i = i} {j = j} {e = e} p =
    let z = some_failing i j in ((e (preceded_by p.taken z.0)).bytes, (p.performs z.0 z.1).1)
