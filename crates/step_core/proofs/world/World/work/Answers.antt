-- The last task leaves all but the last, and its children come after them.
use Rattle.std.proofs.Common.{◌≡◌, ◌++◌, ◌∷◌, ◌-◌, ◌+◌, [], List, suc, remove, take, map, slice_get, Some, length, length-append, refl, sym, ap, subst, ◌∙◌, arith}
use Rattle.std.specs.List.{All}
use Rattle.std.proofs.lemmas.List.{length-map}
use Rattle.std.proofs.lemmas.List.Edits.{length-remove}
use Rattle.std.proofs.lemmas.List.Elements.{All-append}
use Rattle.work_store.specs.Stored.{held_of}
use Rattle.net_base.specs.declared.tasks.Task.{Task}
use Rattle.token_line.specs.Held.{TaskFits}
use Rattle.step_core.specs.inner.Doing.{entry_of}
use Rattle.step_core.specs.Worlds.{ActsOn}
use Rattle.step_core.proofs.Activating.{All-remove, works}
use Rattle.step_core.proofs.ListPlaces.{all_at, get_last, remove_last}
use Rattle.step_core.proofs.Results.{ok_of}
use Rattle.step_core.proofs.world.World.work.Goals as goal

pub returns-clause-worked : goal.returns-clause-worked
returns-clause-worked g c =
    let old = c.args.self.now in
    let nodes = c.args.net.now.nodes in
    let s = c.args.store.now in
    let flight = old.flight.items in
    let i = length flight - 1 in
    let x = c.in-Some.task in
    let popped = c.pop.new.self.items in
    let long = ap length c.in-Some.ensures.items ∙ length-append popped (x ∷ []) in
    let task : slice_get flight i ≡ Some x = subst (λ (ts : List Task). slice_get ts i ≡ Some x) (sym c.in-Some.ensures.items) (get_last popped x i (omega (arith, long))) in
    let fits = all_at (TaskFits nodes s) flight i x c.requires.ready.flight task in
    let acts = ok_of (ActsOn nodes s x old.lines.items c.act_on-acted.new.lines.items popped c.act_on-acted.new.out.items) c.act_on-acted.result c.is_err.result c.is_err.ensures.value c.if-is_err.false c.act_on-acted.ensures.acts in
    let new = c.act_on-acted.new.out.items in
    let rest : popped ≡ take i flight = c.in-Some.ensures.rest ∙ ap (λ n. take (n - 1) flight) old.flight.ok.0 in
    let whole : suc i ≡ length flight = (let some = c.requires.some in omega (arith, some)) in
    let left : new ≡ take i flight ++ acts.entry.children = acts.given ∙ ap (λ ts. ts ++ acts.entry.children) rest in
    let is : new ≡ remove flight i ++ acts.entry.children = left ∙ ap (λ ts. ts ++ acts.entry.children) (sym (remove_last flight i whole)) in
    let count : c.len.result + c.len-2.result ≡ old.counter + length acts.entry.children - 1 =
    (let a = c.len.ensures ∙ c.act_on-acted.new.out.ok.0 in
    let b = c.len-2.ensures ∙ old.done.ok.0 in
    let d = ap length is ∙ length-append (remove flight i) acts.entry.children in
    let e = length-remove flight i (omega (arith, whole)) in
    let f = old.counted in
    let some = c.requires.some in
    omega (arith, a, b, d, e, f, some)) in
    record {
      steps = λ elements agrees.
          works nodes s x fits old.lines.items c.act_on-acted.new.lines.items popped new acts elements agrees flight (map entry_of old.done.items) old.counter i (length old.done.items) task
          (sym (length-map old.done.items entry_of)) new (c.len.result + c.len-2.result) is count c.args.net.now.alphas;
      task = acts.entry.task;
      was = task ∙ ap (λ y. Some y) (sym acts.task);
      children = acts.entry.children;
      below = (acts.lawful (held_of s) (λ tag e h. h)).below;
      flight = left;
      done = refl;
    }

pub returns-clause-ready : goal.returns-clause-ready
returns-clause-ready g c =
    let old = c.args.self.now in
    let nodes = c.args.net.now.nodes in
    let s = c.args.store.now in
    let flight = old.flight.items in
    let i = length flight - 1 in
    let x = c.in-Some.task in
    let popped = c.pop.new.self.items in
    let acts = ok_of (ActsOn nodes s x old.lines.items c.act_on-acted.new.lines.items popped c.act_on-acted.new.out.items) c.act_on-acted.result c.is_err.result c.is_err.ensures.value c.if-is_err.false c.act_on-acted.ensures.acts in
    let rest : popped ≡ take i flight = c.in-Some.ensures.rest ∙ ap (λ n. take (n - 1) flight) old.flight.ok.0 in
    let whole : suc i ≡ length flight = (let some = c.requires.some in omega (arith, some)) in
    let is : c.act_on-acted.new.out.items ≡ remove flight i ++ acts.entry.children =
    acts.given ∙ ap (λ ts. ts ++ acts.entry.children) (rest ∙ sym (remove_last flight i whole)) in
    record {
      flight =
          subst (All (TaskFits nodes s)) (sym is)
          (All-append (TaskFits nodes s) (remove flight i) acts.entry.children (All-remove (TaskFits nodes s) flight i c.requires.ready.flight) acts.fit);
      done = c.requires.ready.done;
      lines = c.act_on-acted.ensures.counted;
    }
