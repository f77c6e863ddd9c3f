use Rattle.std.proofs.Common.{◌∙◌, ap, sym, subst, List}
use Rattle.std.specs.List.{flat_map}
use Rattle.std.proofs.lemmas.Result.{err_from_is_err_and}
use Rattle.ops_base.specs.declared.elements.Element.{Element}
use Rattle.ops_base.specs.WorkingMemory.{HasRisingTags, shown}
use Rattle.ops_io.specs.Ports.{port}
use Rattle.ops_meaning.specs.Effects.{Performs, of_ending}
use Rattle.ops_meaning.specs.Running.{lists, matches_told}
use Rattle.ops_meaning.proofs.EffectLemmas.{fails_short}
use Rattle.session.proofs.partials.put_matches.Goals as goal

pub returns-in_err-wm-clause-performs : goal.returns-in_err-wm-clause-performs
returns-in_err-wm-clause-performs g c = λ k.
    let p = err_from_is_err_and c.from_residual.result c.from_residual.ensures.1 in
    rw (p.1, p.2) (fails_short _ (lists c.args.out.now.column (flat_map (matches_told c.args.names.now c.args.program.now.rules c.args.store.now.elements) c.args.given.now) k) c.requires.whole)

pub put_listed-requires-clause-rising : goal.put_listed-requires-clause-rising
put_listed-requires-clause-rising g c =
    let P : List Element → Type 0 = HasRisingTags in
    subst P (sym (ap shown c.as_slice.ensures.value ∙ c.in_ok-wm.ensures.elements)) c.in_ok-wm.ensures.rising

pub returns-clause-performs : goal.returns-clause-performs
returns-clause-performs g c = λ k.
    let P : List Element → Type 0 = λ es. Performs (λ _. k) of_ending c.put_listed.result (port (g.K.Sink.taken c.args.sink.now) (g.K.Sink.faults c.args.sink.now) c.args.out.now) (port (g.K.Sink.taken c.put_listed.new.sink) (g.K.Sink.faults c.put_listed.new.sink) c.put_listed.new.out) (lists c.args.out.now.column (flat_map (matches_told c.args.names.now c.args.program.now.rules es) c.args.given.now) k) in
    subst P (ap shown c.as_slice.ensures.value ∙ c.in_ok-wm.ensures.elements) (c.put_listed.ensures.performs k)
