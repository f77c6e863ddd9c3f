-- The task that is done on its line is the one that leaves the flight, and its children stay. After a refusal it is back.
use Rattle.std.proofs.Common.{List, set, ap₂, ◌≡◌, ◌++◌, ◌-◌, ◌+◌, length, length-append, length-set, map, remove, Some, refl, sym, ap, subst, ◌∙◌, arith}
use Rattle.std.specs.List.{All}
use Rattle.std.proofs.lemmas.List.{length-map}
use Rattle.std.proofs.lemmas.List.Edits.{remove-append_left, length-remove}
use Rattle.std.proofs.lemmas.List.Elements.{All-append}
use Rattle.work_store.specs.Stored.{held_of}
use Rattle.net_base.specs.declared.tasks.Task.{Task}
use Rattle.token_line.specs.Held.{TaskFits}
use Rattle.step_core.specs.inner.Doing.{entry_of}
use Rattle.step_core.proofs.Activating.{All-remove, works}
use Rattle.step_core.specs.Machine.{Seen}
use Rattle.step_core.specs.Worlds.{ActsOn}
use Rattle.step_core.proofs.Lifted.{remove-lifted, set-lifted}
use Rattle.step_core.proofs.ListPlaces.{all_at}
use Rattle.step_core.proofs.Results.{ok_of, on_err_both}
use Rattle.step_core.proofs.world.World.work_at.Goals as goal

pub act_on-acted-requires-clause-fits : goal.act_on-acted-requires-clause-fits
act_on-acted-requires-clause-fits g c =
    all_at (TaskFits c.args.net.now.nodes c.args.store.now) c.args.self.now.flight.items c.args.index c.lift-task.result c.requires.ready.flight c.lift-task.ensures.task

pub returns-then-is_err-clause-err : goal.returns-then-is_err-clause-err
returns-then-is_err-clause-err g c =
    let old = c.args.self.now in
    let flight = old.flight.items in
    let i = c.args.index in
    let x = c.lift-task.result in
    on_err_both _ _ _ c.act_on-acted.result
    (λ lines out.
    ap₂ (λ (ls : List Seen) (fs : List Task). record { lines = ls; flight = fs; done = map entry_of old.done.items; counter = old.counter }) lines
    (ap (λ fs. set fs i x) (out ∙ c.lift-task.ensures.rest.1) ∙ set-lifted flight i x c.lift-task.ensures.rest.0 c.lift-task.ensures.task))
    c.act_on-acted.ensures.same_seen c.act_on-acted.ensures.same_out

pub returns-clause-worked : goal.returns-clause-worked
returns-clause-worked g c =
    let old = c.args.self.now in
    let nodes = c.args.net.now.nodes in
    let s = c.args.store.now in
    let flight = old.flight.items in
    let i = c.args.index in
    let x = c.lift-task.result in
    let task = c.lift-task.ensures.task in
    let fits = all_at (TaskFits nodes s) flight i x c.requires.ready.flight task in
    let lifted = c.lift-task.new.flight.items in
    let acts = ok_of (ActsOn nodes s x old.lines.items c.act_on-acted.new.lines.items lifted c.act_on-acted.new.out.items) c.act_on-acted.result c.is_err.result c.is_err.ensures.value c.if-is_err.false c.act_on-acted.ensures.acts in
    let new = c.remove-blank.new.self.items in
    let long = ap length c.lift-task.ensures.rest.1 ∙ length-set flight i c.lift-task.ensures.rest.0 in
    let is : new ≡ remove flight i ++ acts.entry.children =
    c.remove-blank.ensures.items ∙ (ap (λ ts. remove ts i) acts.given ∙ (remove-append_left lifted acts.entry.children i (omega (arith, long, c.requires.within))
    ∙ ap (λ ts. ts ++ acts.entry.children) (ap (λ ts. remove ts i) c.lift-task.ensures.rest.1 ∙ remove-lifted flight i c.lift-task.ensures.rest.0))) in
    let count : c.len.result + c.len-2.result ≡ old.counter + length acts.entry.children - 1 =
    (let a = c.len.ensures ∙ c.remove-blank.new.self.ok.0 in
    let b = c.len-2.ensures ∙ old.done.ok.0 in
    let d = ap length is ∙ length-append (remove flight i) acts.entry.children in
    let e = length-remove flight i c.requires.within in
    let g = old.counted in
    omega (arith, a, b, d, e, g)) in
    record {
      steps = λ elements agrees.
          works nodes s x fits old.lines.items c.act_on-acted.new.lines.items lifted c.act_on-acted.new.out.items acts elements agrees flight (map entry_of old.done.items) old.counter i (length old.done.items) task
          (sym (length-map old.done.items entry_of)) new (c.len.result + c.len-2.result) is count c.args.net.now.alphas;
      task = acts.entry.task;
      was = task ∙ ap (λ y. Some y) (sym acts.task);
      children = acts.entry.children;
      below = (acts.lawful (held_of s) (λ tag e h. h)).below;
      flight = is;
      done = refl;
    }

pub returns-clause-ready : goal.returns-clause-ready
returns-clause-ready g c =
    let old = c.args.self.now in
    let nodes = c.args.net.now.nodes in
    let s = c.args.store.now in
    let flight = old.flight.items in
    let i = c.args.index in
    let x = c.lift-task.result in
    let lifted = c.lift-task.new.flight.items in
    let acts = ok_of (ActsOn nodes s x old.lines.items c.act_on-acted.new.lines.items lifted c.act_on-acted.new.out.items) c.act_on-acted.result c.is_err.result c.is_err.ensures.value c.if-is_err.false c.act_on-acted.ensures.acts in
    let long = ap length c.lift-task.ensures.rest.1 ∙ length-set flight i c.lift-task.ensures.rest.0 in
    let is =
    c.remove-blank.ensures.items ∙ (ap (λ ts. remove ts i) acts.given ∙ (remove-append_left lifted acts.entry.children i (omega (arith, long, c.requires.within))
    ∙ ap (λ ts. ts ++ acts.entry.children) (ap (λ ts. remove ts i) c.lift-task.ensures.rest.1 ∙ remove-lifted flight i c.lift-task.ensures.rest.0))) in
    record {
      flight =
          subst (All (TaskFits nodes s)) (sym is)
          (All-append (TaskFits nodes s) (remove flight i) acts.entry.children (All-remove (TaskFits nodes s) flight i c.requires.ready.flight) acts.fit);
      done = c.requires.ready.done;
      lines = c.act_on-acted.ensures.counted;
    }
