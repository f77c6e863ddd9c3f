use Rattle.std.proofs.Common.{subst, ap, List, length, slice_range}
use Rattle.ops_base.specs.declared.rules.Rule.{Rule}
use Rattle.beta_net.specs.declared.links.Link.{Link}
use Rattle.beta_net.specs.declared.paths.End.{End}
use Rattle.beta_net.specs.Built.{AreBuilt, IsDraft}
use Rattle.beta_net.proofs.WholeLemmas.{range_valid, draft_ordered, draft_givers, draft_rightless, compiled}
use Rattle.beta_net.proofs.draft_of.Goals as goal

pub add_children-requires-clause-ordered : goal.add_children-requires-clause-ordered
add_children-requires-clause-ordered c =
    let built = subst (λ (z : List Rule). AreBuilt c.in_ok-built.built.links.list.items c.in_ok-built.built.ends.items z) (ap (λ (z : List Rule). slice_range z c.args.first c.args.past) c.as_slice.ensures) c.in_ok-built.ensures in
    let d = subst (λ (z : List Link). IsDraft z c.in_ok-built.built.ends.items c.in_ok-draft.draft.alphas.items c.in_ok-draft.draft.nodes.items) c.as_slice-2.ensures.value
    (subst (λ (z : List End). IsDraft c.as_slice-2.result.now z c.in_ok-draft.draft.alphas.items c.in_ok-draft.draft.nodes.items) c.as_slice-3.ensures.value c.in_ok-draft.ensures.draft) in
    draft_ordered c.in_ok-built.built.links.list.items c.in_ok-built.built.ends.items (slice_range c.args.program.now.rules c.args.first c.args.past) c.in_ok-draft.draft.alphas.items c.in_ok-draft.draft.nodes.items built d

pub add_rights-requires-clause-ordered : goal.add_rights-requires-clause-ordered
add_rights-requires-clause-ordered c =
    let rules = slice_range c.args.program.now.rules c.args.first c.args.past in
    let valid = range_valid c.args.program.now.classes c.args.program.now.rules c.args.program.now.templates c.args.program.now.commands (length c.args.program.now.text) c.args.program.now.valid c.args.first c.args.past in
    let built = subst (λ (z : List Rule). AreBuilt c.in_ok-built.built.links.list.items c.in_ok-built.built.ends.items z) (ap (λ (z : List Rule). slice_range z c.args.first c.args.past) c.as_slice.ensures) c.in_ok-built.ensures in
    let d = subst (λ (z : List Link). IsDraft z c.in_ok-built.built.ends.items c.in_ok-draft.draft.alphas.items c.in_ok-draft.draft.nodes.items) c.as_slice-2.ensures.value
    (subst (λ (z : List End). IsDraft c.as_slice-2.result.now z c.in_ok-draft.draft.alphas.items c.in_ok-draft.draft.nodes.items) c.as_slice-3.ensures.value c.in_ok-draft.ensures.draft) in
    draft_givers c.in_ok-built.built.links.list.items c.in_ok-built.built.ends.items rules c.in_ok-draft.draft.alphas.items c.in_ok-draft.draft.nodes.items c.add_children.new.nodes.items valid built d c.in_ok-add_children.ensures

pub add_rights-requires-clause-rightless : goal.add_rights-requires-clause-rightless
add_rights-requires-clause-rightless c = draft_rightless c.in_ok-draft.draft.nodes.items c.add_children.new.nodes.items c.in_ok-draft.ensures.rightless c.in_ok-add_children.ensures

pub returns : goal.returns
returns c =
    let built = subst (λ (z : List Rule). AreBuilt c.in_ok-built.built.links.list.items c.in_ok-built.built.ends.items z) (ap (λ (z : List Rule). slice_range z c.args.first c.args.past) c.as_slice.ensures) c.in_ok-built.ensures in
    let d = subst (λ (z : List Link). IsDraft z c.in_ok-built.built.ends.items c.in_ok-draft.draft.alphas.items c.in_ok-draft.draft.nodes.items) c.as_slice-2.ensures.value
    (subst (λ (z : List End). IsDraft c.as_slice-2.result.now z c.in_ok-draft.draft.alphas.items c.in_ok-draft.draft.nodes.items) c.as_slice-3.ensures.value c.in_ok-draft.ensures.draft) in
    compiled c.in_ok-built.built.links.list.items c.in_ok-built.built.ends.items (slice_range c.args.program.now.rules c.args.first c.args.past) c.in_ok-draft.draft.alphas.items c.in_ok-draft.draft.nodes.items c.add_children.new.nodes.items c.add_rights.new.nodes.items built d c.in_ok-add_children.ensures c.in_ok-add_rights.ensures
