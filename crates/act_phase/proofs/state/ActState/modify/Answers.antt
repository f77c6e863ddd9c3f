use Rattle.std.proofs.Common.{◌∙◌, length, ap}
use Rattle.ops_meaning.specs.Acting.{added, removed}
use Rattle.act_phase.specs.State.{State, doing_of}
use Rattle.act_phase.proofs.States.{doing_modified}
use Rattle.act_phase.proofs.state.ActState.modify.Goals as goal

pub returns-clause-does : goal.returns-clause-does
returns-clause-does c = λ names coming.
    let gone = c.remove_tag.new.self in
    let fields = c.args.fields.items in
    doing_modified names coming (doing_of c.args.self.now names coming) gone c.make.new.self c.hold.new.self c.args.cell (length c.changes-place.result.now) fields
    (c.in_ok-remove_tag.ensures.does names coming ∙ ap (removed (doing_of c.args.self.now names coming)) c.tag_and_class-tag.ensures.tag)
    (c.in_ok-make.ensures.does names coming ∙ ap (λ class. added (doing_of gone names coming) class fields) c.tag_and_class-tag.ensures.class)
    (ap length (c.changes-place.ensures ∙ ap (λ (s : State). s.working.changes) c.self.view_is))
    c.hold.ensures
