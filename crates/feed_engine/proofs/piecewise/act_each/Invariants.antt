use Rattle.std.proofs.Common.{◌≡◌, ◌+◌, drop}
use Rattle.ops_meaning.specs.Acting.{actions_done}
use Rattle.act_phase.specs.Deeds.{StillDoes, scene}
use Rattle.act_phase.specs.State.{doing_of}
use Rattle.feed_engine.specs.Feeding.{GoesOver, IsUpTo}
use Rattle.feed_engine.proofs.piecewise.act_each.Given as goal

abbrev pub invariant-loop-action : goal.invariant-loop-action
invariant-loop-action g l =
    record {
      does :
          StillDoes
          (scene l.fn.names l.fn.input (g.I.Source.left l.fn.source) (g.I.Source.faults l.fn.source) (g.K.Sink.taken l.fn.sink) (g.K.Sink.faults l.fn.sink) l.fn.out)
          (scene l.names l.input (g.I.Source.left l.source) (g.I.Source.faults l.source) (g.K.Sink.taken l.sink) (g.K.Sink.faults l.sink) l.out)
          (λ c. actions_done l.fn.acting.state.setting l.fn.out.column 1 l.fn.acting.actions (doing_of l.fn.acting.state l.fn.names c))
          (λ c. actions_done l.fn.acting.state.setting l.out.column (l.action-index + 1) (drop l.action-index l.fn.acting.actions) (doing_of l.acting.state l.names c));
      done : l.acting.done ≡ l.action-index;
      actions : l.acting.actions ≡ l.fn.acting.actions;
      setting : l.acting.state.setting ≡ l.fn.acting.state.setting;
      over : GoesOver (g.M.Matcher.stored l.fn.matcher).elements (g.M.Matcher.stored l.fn.matcher).last l.acting.state;
      up_to : IsUpTo g.M.Matcher.stored g.M.Matcher.found g.M.Matcher.stands_for l.fn.matcher l.acting.state.working.changes l.settled l.feed;
    }
