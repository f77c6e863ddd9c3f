use Rattle.std.proofs.Common.{length, slice_range}
use Rattle.beta_net.proofs.WholeLemmas.{range_valid, compiled_sound, compiled_net, compiled_shape, same_compiled}
use Rattle.beta_net.proofs.net_of.Goals as goal

pub new-requires : goal.new-requires
new-requires c =
    let rules = slice_range c.args.program.now.rules c.args.first c.args.past in
    let valid = range_valid c.args.program.now.classes c.args.program.now.rules c.args.program.now.templates c.args.program.now.commands (length c.args.program.now.text) c.args.program.now.valid c.args.first c.args.past in
    let made = c.in_ok-draft.ensures in
    compiled_sound rules c.from_vec-alphas.result c.from_vec-nodes.result valid (same_compiled rules c.in_ok-draft.draft.alphas.items c.from_vec-alphas.result c.in_ok-draft.draft.nodes.items c.from_vec-nodes.result c.from_vec-alphas.ensures c.from_vec-nodes.ensures made)

pub returns-clause-network : goal.returns-clause-network
returns-clause-network c =
    let rules = slice_range c.args.program.now.rules c.args.first c.args.past in
    let valid = range_valid c.args.program.now.classes c.args.program.now.rules c.args.program.now.templates c.args.program.now.commands (length c.args.program.now.text) c.args.program.now.valid c.args.first c.args.past in
    let made = c.in_ok-draft.ensures in
    let own = same_compiled rules c.in_ok-draft.draft.alphas.items c.from_vec-alphas.result c.in_ok-draft.draft.nodes.items c.from_vec-nodes.result c.from_vec-alphas.ensures c.from_vec-nodes.ensures made in
    compiled_net rules c.in_ok-net.net valid (same_compiled rules c.from_vec-alphas.result c.in_ok-net.net.alphas c.from_vec-nodes.result c.in_ok-net.net.nodes c.in_ok-net.ensures.alphas c.in_ok-net.ensures.nodes own)

pub returns-clause-shape : goal.returns-clause-shape
returns-clause-shape c =
    let rules = slice_range c.args.program.now.rules c.args.first c.args.past in
    let valid = range_valid c.args.program.now.classes c.args.program.now.rules c.args.program.now.templates c.args.program.now.commands (length c.args.program.now.text) c.args.program.now.valid c.args.first c.args.past in
    let made = c.in_ok-draft.ensures in
    let own = same_compiled rules c.in_ok-draft.draft.alphas.items c.from_vec-alphas.result c.in_ok-draft.draft.nodes.items c.from_vec-nodes.result c.from_vec-alphas.ensures c.from_vec-nodes.ensures made in
    compiled_shape rules c.in_ok-net.net.alphas c.in_ok-net.net.nodes valid (same_compiled rules c.from_vec-alphas.result c.in_ok-net.net.alphas c.from_vec-nodes.result c.in_ok-net.net.nodes c.in_ok-net.ensures.alphas c.in_ok-net.ensures.nodes own)
