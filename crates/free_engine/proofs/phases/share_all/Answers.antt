-- There are as many lines as before, and no task waits.
use Rattle.std.proofs.Common.{List, sym, subst, arith}
use Rattle.std.specs.List.{All}
use Rattle.std.proofs.lemmas.List.Elements.{All-nil}
use Rattle.net_base.specs.declared.tasks.Task.{Task}
use Rattle.token_line.specs.Held.{TaskFits}
use Rattle.serial_engine.specs.Carrying.{CarriesOn}
use Rattle.serial_engine.proofs.StepLemmas.{same_lines}
use Rattle.free_engine.proofs.phases.share_all.Goals as goal

pub returns : goal.returns
returns g c =
    let net = c.args.net.now in
    let s = c.args.store.now in
    let old = c.args.load.parts in
    let new = c.in_ok-lines.lines.items in
    let none = c.new.ensures.items in
    record {
      carries = subst (λ (ts : List Task). CarriesOn net.alphas net.nodes s old.lines.items old.flight.items new ts) (sym none) c.in_ok-lines.ensures.carries;
      ready = record { flight = subst (All (TaskFits net.nodes s)) (sym none) (All-nil (TaskFits net.nodes s)); lines = c.in_ok-lines.ensures.counted };
      numbers = c.in_ok-lines.ensures.numbers;
      some = (let e = same_lines old.lines.items new c.in_ok-lines.ensures.numbers in let some = c.requires.lines in omega (arith, e, some));
    }
