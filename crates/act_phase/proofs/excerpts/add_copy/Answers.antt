use Rattle.std.proofs.Common.{ap, sym, ◌∙◌, arith}
use Rattle.std.specs.Option.{option_copied}
use Rattle.ops_base.specs.declared.elements.Element.{Element}
use Rattle.act_phase.proofs.Copied.{tag_found}
use Rattle.act_phase.proofs.excerpts.add_copy.Goals as goal

pub add-requires : goal.add-requires
add-requires c =
    let found = tag_found c.args.store.now.elements c.args.tag c.in-Some.element.now (sym c.get.ensures ∙ ap option_copied c.in-Some.is) in
    let same = ap (λ (e : Element). e.tag) c.in_ok-copy.ensures in
    omega (arith, found, same)
