use Rattle.std.proofs.Common.{◌-◌, length, ◌∙◌, ap}
use Rattle.conflict_index.specs.Indexed.{Indexed}
use Rattle.back_trail.specs.Trails.{Begun}
use Rattle.back_trail.proofs.Named.{marked_at}
use Rattle.back_trail.proofs.Going.{point_named, states_are, there_so, went_back}
use Rattle.back_trail.proofs.trail.Trail.back.Goals as goal

pub back_to-requires-clause-some : goal.back_to-requires-clause-some
back_to-requires-clause-some g c =
    let states = ap (λ (b : Begun). b.states) c.deref.ensures ∙ states_are (λ b. b.value) c.self.inside.kept c.in-Some.kept.now c.args.self.now c.in-Some.ensures.value c.self.view_is in
    (point_named c.args.names.now c.deref.result.now.states c.args.self.now.states states c.args.n c.requires.some c.requires.within c.point-point.result c.point-point.ensures c.requires.named).0

pub back_to-requires-clause-within : goal.back_to-requires-clause-within
back_to-requires-clause-within g c =
    let states = ap (λ (b : Begun). b.states) c.deref.ensures ∙ states_are (λ b. b.value) c.self.inside.kept c.in-Some.kept.now c.args.self.now c.in-Some.ensures.value c.self.view_is in
    (point_named c.args.names.now c.deref.result.now.states c.args.self.now.states states c.args.n c.requires.some c.requires.within c.point-point.result c.point-point.ensures c.requires.named).1

pub returns-clause-course : goal.returns-clause-course
returns-clause-course g c = λ e there spelled coming.
    let states = ap (λ (b : Begun). b.states) c.deref-2.ensures ∙ states_are (λ b. b.value) c.self.inside.kept c.in-Some.kept.now c.args.self.now c.in-Some.ensures.value c.self.view_is in
    let same = c.in_ok-remade.ensures e (there_so c.deref-2.result.now.states c.args.self.now.states c.args.n e states there) in
    let marked = marked_at (length c.args.self.now.states - c.args.n) c.args.program.now.rules c.args.self.now.states e there c.requires.marked in
    let strategy = c.strategy-strategy.ensures.strategy ∙ ap (λ (w : Indexed). w.strategy) c.index.ensures.index in
    went_back g.B.M.Matcher.stored c.args.state c.args.program.now.rules c.in_ok-remade.remade e same c.in_ok-state.ensures.sound marked c.strategy-strategy.result c.firings-firings.result strategy c.firings-firings.ensures
    spelled coming _ (c.in_ok-state.ensures.course spelled coming)
