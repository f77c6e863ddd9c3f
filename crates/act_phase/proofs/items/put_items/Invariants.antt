use Rattle.std.proofs.Common.{◌≡◌, false, drop}
use Rattle.std.specs.List.{list_any}
use Rattle.ops_meaning.specs.Acting.{items_done}
use Rattle.ops_meaning.specs.Layout.{Apart}
use Rattle.ops_print.specs.Leads.{lead_of}
use Rattle.act_phase.specs.Asking.{item_asks}
use Rattle.act_phase.specs.Deeds.{StillDoes, scene}
use Rattle.act_phase.specs.State.{doing_of}
use Rattle.act_phase.proofs.items.put_items.Given as goal

abbrev pub invariant-loop-item : goal.invariant-loop-item
invariant-loop-item g l =
    record {
      does :
          StillDoes
          (scene l.fn.names l.fn.input (g.I.Source.left l.fn.source) (g.I.Source.faults l.fn.source) (g.K.Sink.taken l.fn.sink) (g.K.Sink.faults l.fn.sink) l.fn.out)
          (scene l.names l.input (g.I.Source.left l.source) (g.I.Source.faults l.source) (g.K.Sink.taken l.sink) (g.K.Sink.faults l.sink) l.out)
          (λ c. items_done l.doing.setting.classes Apart l.fn.out.column l.items (doing_of l.doing l.fn.names c))
          (λ c. items_done l.doing.setting.classes (lead_of l.lead) l.out.column (drop l.item-index l.items) (doing_of l.doing l.names c));
      untouched : list_any item_asks l.items ≡ false → (l.input ≡ l.fn.input) × (l.source ≡ l.fn.source);
    }
