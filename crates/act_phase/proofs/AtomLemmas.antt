-- What accepting an atom leaves.
use Rattle.std.proofs.Common.{Result, Ok, refl, ap, subst, IsTrue}
use Rattle.ops_base.specs.declared.values.Value.{Value}
use Rattle.ops_base.specs.Names.{Spellings}
use Rattle.ops_io.specs.Coming.{Inlet, preceded_by}
use Rattle.ops_io.specs.Ports.{Port}
use Rattle.ops_io.proofs.ComingLemmas.{may_end, steady_comes}
use Rattle.ops_io.proofs.PortLemmas.{put_nothing}
use Rattle.ops_meaning.specs.Effects.{silent}
use Rattle.ops_meaning.specs.Kept.{KeepsNames}
use Rattle.ops_meaning.proofs.NamesKept.{AcceptsWell, accepts_well}
use Rattle.ops_tokens.specs.Accepting.{Accepted, accepted, Accepts}
use Rattle.ops_tokens.specs.declared.accept.AcceptFault.{AcceptFault}
use Rattle.act_phase.specs.Deeds.{Scene, Acts, atom_found}

-- names stay since something may always come
accept_keeps : (v : Value) (before now : Spellings) (i j : Inlet) → Accepts (Ok v) before now i j → KeepsNames before now
accept_keeps v before now i j p =
    let end = may_end j in
    let all = preceded_by p.taken end.0 in
    let P : Result Accepted AcceptFault → Type 0 = AcceptsWell before all in
    (subst P (p.answers end.0 (steady_comes i j end.0 p.counts end.1)) (accepts_well before all)).0

-- an atom was accepted
pub accept_ok : (v : Value) (before now : Spellings) (i j : Inlet) (port : Port) → Accepts (Ok v) before now i j → IsTrue port.out.whole
    → (let old : Scene = record { names = before; inlet = i; port = port } in let new : Scene = record { names = now; inlet = j; port = port } in Acts (λ v c. record { value = v; names = now; coming = c }) (Ok v) old new (λ c. silent (atom_found (accepted before c))))
accept_ok v before now i j port p w = record {
  performs = record { taken = p.taken; took = p.took; performs = λ c h. (ap atom_found (p.answers c h), put_nothing port w) };
  reads = p.counts;
  names = accept_keeps v before now i j p;
  goes_on = record { whole = w; faults = refl };
}
