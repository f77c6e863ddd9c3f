use Rattle.std.proofs.Common.{◌≡◌, false, drop}
use Rattle.std.specs.List.{list_any}
use Rattle.ops_base.specs.Valid.{class_of}
use Rattle.ops_meaning.specs.Acting.{made_fields, puts_made}
use Rattle.ops_meaning.specs.Effects.{silent}
use Rattle.act_phase.specs.Asking.{put_asks}
use Rattle.act_phase.specs.Deeds.{StillDoes, scene}
use Rattle.act_phase.specs.State.{doing_of, filled_of}
use Rattle.act_phase.proofs.fields.made_fields.Given as goal

abbrev pub invariant-loop-put : goal.invariant-loop-put
invariant-loop-put g l =
    record {
      does :
          let class = class_of l.doing.setting.classes l.class in
          StillDoes
          (scene l.fn.names l.fn.input (g.I.Source.left l.fn.source) (g.I.Source.faults l.fn.source) (g.K.Sink.taken l.fn.sink) (g.K.Sink.faults l.fn.sink) l.fn.out)
          (scene l.names l.input (g.I.Source.left l.source) (g.I.Source.faults l.source) (g.K.Sink.taken l.sink) (g.K.Sink.faults l.sink) l.out)
          (λ c. silent (made_fields l.doing.setting.classes class l.puts (doing_of l.doing l.fn.names c)))
          (λ c. silent (puts_made l.doing.setting.classes class (drop l.put-index l.puts) (filled_of l.fields.items (doing_of l.doing l.names c))));
      untouched : list_any put_asks l.puts ≡ false → (l.input ≡ l.fn.input) × (l.source ≡ l.fn.source);
    }
