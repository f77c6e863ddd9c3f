-- The entry that was done fits, and so do its children.
use Rattle.std.proofs.Common.{◌≡◌, ◌++◌, ◌-◌, ◌+◌, ◌<◌, length, map, remove, refl, sym, ap, ap₂, subst, ◌∙◌, arith, vec_len}
use Rattle.std.specs.List.{All}
use Rattle.std.proofs.lemmas.List.Elements.{All-append}
use Rattle.std.proofs.lemmas.Option.{get_or_from_slice_get, slice_get_read}
use Rattle.token_line.specs.Held.{TaskFits}
use Rattle.step_core.specs.declared.done.Done.{Done}
use Rattle.step_core.specs.inner.Doing.{entry_of}
use Rattle.step_core.specs.Worlds.{EntryFits, seen}
use Rattle.step_core.proofs.Activating.{All-remove, world}
use Rattle.step_core.proofs.ListPlaces.{all_at, get_map, map-remove}
use Rattle.step_core.proofs.world.World.finish.Goals as goal

pub returns-clause-steps : goal.returns-clause-steps
returns-clause-steps c =
    let old = c.args.self.now in
    let x = c.remove-finished.result in
    let at = slice_get_read old.done.items (length old.done.items) c.args.index x refl c.requires c.remove-finished.ensures.value in
    let low : c.args.index < length old.done.items = c.requires in
    let flight = c.deliver.ensures ∙ ap (λ a. a ++ x.children.items) c.reserve.ensures.items in
    let done = ap (map entry_of) c.remove-finished.ensures.items ∙ map-remove entry_of old.done.items c.args.index in
    let same = c.index.ensures ∙ get_or_from_slice_get old.done.items c.args.index x c.index.result.now at in
    let added : c.len-added.result ≡ length x.children.items = c.len-added.ensures ∙ (ap (λ (d : Done). vec_len d.children) same ∙ x.children.ok.0) in
    let count : old.counter - 1 + c.len-added.result ≡ old.counter + length x.children.items - 1 = (let is = old.counted in omega (arith, is, low, added)) in
    record {
      entry = entry_of x;
      was = get_map entry_of old.done.items c.args.index x at;
      becomes =
          ap₂ (λ ts es. world (map seen old.lines.items) ts es (old.counter - 1 + c.len-added.result)) flight done
          ∙ ap (λ n. world (map seen old.lines.items) (old.flight.items ++ x.children.items) (remove (map entry_of old.done.items) c.args.index) n) count;
    }

pub returns-clause-ready : goal.returns-clause-ready
returns-clause-ready c nodes s ready =
    let old = c.args.self.now in
    let x = c.remove-finished.result in
    let at = slice_get_read old.done.items (length old.done.items) c.args.index x refl c.requires c.remove-finished.ensures.value in
    let fits : EntryFits nodes s (entry_of x) = all_at (EntryFits nodes s) (map entry_of old.done.items) c.args.index (entry_of x) ready.done (get_map entry_of old.done.items c.args.index x at) in
    let flight : c.deliver.new.flight.items ≡ old.flight.items ++ x.children.items = c.deliver.ensures ∙ ap (λ a. a ++ x.children.items) c.reserve.ensures.items in
    record {
      flight = subst (All (TaskFits nodes s)) (sym flight) (All-append (TaskFits nodes s) old.flight.items x.children.items ready.flight fits.children);
      done = subst (All (EntryFits nodes s)) (sym (ap (map entry_of) c.remove-finished.ensures.items ∙ map-remove entry_of old.done.items c.args.index)) (All-remove (EntryFits nodes s) (map entry_of old.done.items) c.args.index ready.done);
      lines = ready.lines;
    }
