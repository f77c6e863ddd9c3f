use Rattle.std.proofs.Common.{◌≡◌, false, drop, ◌+◌}
use Rattle.std.specs.List.{list_any}
use Rattle.ops_meaning.specs.Acting.{actions_done}
use Rattle.act_phase.specs.Asking.{action_asks}
use Rattle.act_phase.specs.Deeds.{StillDoes, scene}
use Rattle.act_phase.specs.State.{doing_of}
use Rattle.act_phase.proofs.right_side.act_all.Given as goal

abbrev pub invariant-loop-before : goal.invariant-loop-before
invariant-loop-before g l =
    record {
      does :
          StillDoes
          (scene l.fn.names l.fn.input (g.I.Source.left l.fn.source) (g.I.Source.faults l.fn.source) (g.K.Sink.taken l.fn.sink) (g.K.Sink.faults l.fn.sink) l.fn.out)
          (scene l.names l.input (g.I.Source.left l.source) (g.I.Source.faults l.source) (g.K.Sink.taken l.sink) (g.K.Sink.faults l.sink) l.out)
          (λ c. actions_done l.fn.doing.setting l.fn.out.column 1 l.actions (doing_of l.fn.doing l.fn.names c))
          (λ c. actions_done l.fn.doing.setting l.out.column (l.before + 1) (drop l.before l.actions) (doing_of l.doing l.names c));
      setting : l.doing.setting ≡ l.fn.doing.setting;
      untouched : list_any action_asks l.actions ≡ false → (l.input ≡ l.fn.input) × (l.source ≡ l.fn.source);
    }
