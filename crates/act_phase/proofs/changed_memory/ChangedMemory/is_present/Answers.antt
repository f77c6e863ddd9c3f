use Rattle.std.proofs.Common.{◌<◌, ap, sym, ◌∙◌, arith}
use Rattle.ops_meaning.specs.Acting.{has_tag}
use Rattle.act_phase.specs.Changed.{Changed, memory_of, is_among}
use Rattle.act_phase.proofs.Counts.{present_old}
use Rattle.act_phase.proofs.changed_memory.ChangedMemory.is_present.Goals as goal

pub returns : goal.returns
returns c =
    let fields = c.self.inside in
    let old : c.args.tag < fields.first_tag = omega arith in
    c.is_some.ensures
    ∙ present_old fields.store.now.elements fields.changes.items (is_among fields.gone) fields.first_tag fields.next_tag c.args.tag c.self.invariant (sym c.contains.ensures ∙ c.if-contains.false) old c.get.result c.get.ensures
    ∙ ap (λ (v : Changed). has_tag (memory_of v) c.args.tag) c.self.view_is
