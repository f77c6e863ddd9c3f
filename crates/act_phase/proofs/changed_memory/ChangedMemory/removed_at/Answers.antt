use Rattle.std.proofs.Common.{take, ap, sym, ◌∙◌, arith}
use Rattle.std.specs.Prelude.{slice_get}
use Rattle.std.specs.Option.{option_copied}
use Rattle.std.proofs.lemmas.List.{length-take-le}
use Rattle.std.proofs.lemmas.Option.{slice_get_within}
use Rattle.ops_base.specs.WorkingMemory.{done}
use Rattle.ops_meaning.specs.Acting.{element_of}
use Rattle.act_phase.specs.Changed.{Changed, last_added}
use Rattle.act_phase.proofs.Found.{removed_found, removed_made}
use Rattle.act_phase.proofs.changed_memory.ChangedMemory.removed_at.Goals as goal

pub returns-in-Some : goal.returns-in-Some
returns-in-Some c =
    let fields = c.self.inside in
    let at = ap (λ (v : Changed). slice_get v.changes c.args.place) c.self.view_is ∙ c.requires in
    sym (ap (λ (v : Changed). element_of (done v.start (take c.args.place v.changes)) c.args.tag) c.self.view_is)
    ∙ removed_found fields.store.now.elements fields.changes.items _ fields.first_tag fields.next_tag c.args.tag c.args.place c.self.invariant at c.in-Some.element.now
    (sym c.get.ensures ∙ ap option_copied c.in-Some.is)

pub slice_bounds-last_added-end : goal.slice_bounds-last_added-end
slice_bounds-last_added-end c =
    let fields = c.self.inside in
    let at = ap (λ (v : Changed). slice_get v.changes c.args.place) c.self.view_is ∙ c.requires in
    let within = slice_get_within fields.changes.items c.args.place _ at in
    rw c.as_slice.ensures.value (sym (length-take-le c.args.place fields.changes.items (omega (arith, within))))

pub unreachable-requires : goal.unreachable-requires
unreachable-requires c =
    let fields = c.self.inside in
    let at = ap (λ (v : Changed). slice_get v.changes c.args.place) c.self.view_is ∙ c.requires in
    let made = removed_made fields.store.now.elements fields.changes.items _ fields.first_tag fields.next_tag c.args.tag c.args.place c.self.invariant at
    (sym c.get.ensures ∙ ap option_copied c.in_default.is) in
    let last = ap (λ cs. last_added (take c.args.place cs) c.args.tag) (sym c.as_slice.ensures.value) in
    let none = last ∙ sym c.last_added.ensures ∙ ap option_copied c.in-None.is in
    let both = sym none ∙ made.last in cc

pub returns : goal.returns
returns c =
    let fields = c.self.inside in
    let at = ap (λ (v : Changed). slice_get v.changes c.args.place) c.self.view_is ∙ c.requires in
    let made = removed_made fields.store.now.elements fields.changes.items _ fields.first_tag fields.next_tag c.args.tag c.args.place c.self.invariant at
    (sym c.get.ensures ∙ ap option_copied c.in_default.is) in
    sym (ap (λ (v : Changed). element_of (done v.start (take c.args.place v.changes)) c.args.tag) c.self.view_is)
    ∙ made.there ∙ sym made.last ∙ ap (λ cs. last_added (take c.args.place cs) c.args.tag) (sym c.as_slice.ensures.value)
    ∙ sym c.last_added.ensures ∙ ap option_copied c.in-Some-last_added.is
