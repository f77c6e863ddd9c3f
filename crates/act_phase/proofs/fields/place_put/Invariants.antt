use Rattle.std.proofs.Common.{◌≡◌, false, drop}
use Rattle.ops_meaning.specs.Acting.{terms_placed}
use Rattle.ops_meaning.specs.Effects.{silent}
use Rattle.act_phase.specs.Asking.{put_asks}
use Rattle.act_phase.specs.Deeds.{StillDoes, scene}
use Rattle.act_phase.specs.State.{doing_of, filled_of}
use Rattle.act_phase.proofs.fields.place_put.Given as goal

abbrev pub invariant-loop-term : goal.invariant-loop-term
invariant-loop-term g l =
    record {
      does :
          StillDoes
          (scene l.fn.names l.fn.input (g.I.Source.left l.fn.source) (g.I.Source.faults l.fn.source) (g.K.Sink.taken l.fn.sink) (g.K.Sink.faults l.fn.sink) l.fn.out)
          (scene l.names l.input (g.I.Source.left l.source) (g.I.Source.faults l.source) (g.K.Sink.taken l.sink) (g.K.Sink.faults l.sink) l.out)
          (λ c. silent (terms_placed l.doing.setting.classes l.put.field l.put.terms (filled_of l.fn.fields.items (doing_of l.doing l.fn.names c))))
          (λ c. silent (terms_placed l.doing.setting.classes l.at (drop l.term-index l.put.terms) (filled_of l.fields.items (doing_of l.doing l.names c))));
      untouched : put_asks l.put ≡ false → (l.input ≡ l.fn.input) × (l.source ≡ l.fn.source);
    }
