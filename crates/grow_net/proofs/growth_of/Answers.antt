use Rattle.std.proofs.Common.{◌++◌, List, length, subst, ◌<◌, ◌+◌, ◌^◌}
use Rattle.net_base.specs.declared.nodes.Alpha.{Alpha}
use Rattle.grow_net.specs.Behind.{ArePlaces, HaveNoneInCommon}
use Rattle.grow_net.proofs.Whole.{rooms, nodes_are, whole_sound, whole_apart, whole_net}
use Rattle.grow_net.proofs.growth_of.Goals as goal

pub nodes_behind-requires : goal.nodes_behind-requires
nodes_behind-requires c =
    rooms c.args.added.now.alphas c.args.added.now.nodes (length c.nodes-own.result.now) c.args.rules c.nodes-others.ensures.sound
    (subst (λ z. length c.nodes-own.result.now + length z < 2 ^ 64) c.nodes-others.ensures.nodes c.count_of-all.ensures.fits) c.ranges.rules.fits c.requires.room c.nodes-others.result.now c.nodes-others.ensures.nodes

pub returns-clause-network : goal.returns-clause-network
returns-clause-network c =
    let are = subst (λ (z : List Alpha). ArePlaces (z ++ c.places_of.new.more.items) c.args.added.now.alphas c.in_ok-places.places.items) c.alphas.ensures
    (subst (λ (z : List Alpha). ArePlaces (c.alphas.result.now ++ c.places_of.new.more.items) z c.in_ok-places.places.items) c.alphas-2.ensures c.in_ok-places.ensures.places) in
    let is = nodes_are c.args.net.now.nodes c.nodes-own.result.now c.args.added.now.nodes c.nodes-others.result.now c.args.rules c.in_ok-places.places.items c.as_slice.result.now c.in_ok-nodes.nodes.items
    c.nodes-own.ensures.nodes c.nodes-others.ensures.nodes c.as_slice.ensures.value c.in_ok-nodes.ensures in
    whole_net c.args.net.now c.args.added.now c.args.rules c.in_ok-places.places.items c.places_of.new.more.items c.in_ok-nodes.nodes.items c.nodes-own.ensures.sound c.nodes-others.ensures.sound are c.requires.below is

pub returns-clause-sound : goal.returns-clause-sound
returns-clause-sound c =
    let are = subst (λ (z : List Alpha). ArePlaces (z ++ c.places_of.new.more.items) c.args.added.now.alphas c.in_ok-places.places.items) c.alphas.ensures
    (subst (λ (z : List Alpha). ArePlaces (c.alphas.result.now ++ c.places_of.new.more.items) z c.in_ok-places.places.items) c.alphas-2.ensures c.in_ok-places.ensures.places) in
    let is = nodes_are c.args.net.now.nodes c.nodes-own.result.now c.args.added.now.nodes c.nodes-others.result.now c.args.rules c.in_ok-places.places.items c.as_slice.result.now c.in_ok-nodes.nodes.items
    c.nodes-own.ensures.nodes c.nodes-others.ensures.nodes c.as_slice.ensures.value c.in_ok-nodes.ensures in
    whole_sound c.args.net.now c.args.added.now c.args.rules c.in_ok-places.places.items c.places_of.new.more.items c.in_ok-nodes.nodes.items c.nodes-own.ensures.sound c.nodes-others.ensures.sound are c.requires.below is

pub returns-clause-apart : goal.returns-clause-apart
returns-clause-apart c =
    let are = subst (λ (z : List Alpha). ArePlaces (z ++ c.places_of.new.more.items) c.args.added.now.alphas c.in_ok-places.places.items) c.alphas.ensures
    (subst (λ (z : List Alpha). ArePlaces (c.alphas.result.now ++ c.places_of.new.more.items) z c.in_ok-places.places.items) c.alphas-2.ensures c.in_ok-places.ensures.places) in
    let is = nodes_are c.args.net.now.nodes c.nodes-own.result.now c.args.added.now.nodes c.nodes-others.result.now c.args.rules c.in_ok-places.places.items c.as_slice.result.now c.in_ok-nodes.nodes.items
    c.nodes-own.ensures.nodes c.nodes-others.ensures.nodes c.as_slice.ensures.value c.in_ok-nodes.ensures in
    whole_apart c.args.net.now c.args.added.now c.args.rules c.in_ok-places.places.items c.places_of.new.more.items c.in_ok-nodes.nodes.items c.nodes-own.ensures.sound c.nodes-others.ensures.sound are c.requires.below is

pub returns-clause-fresh : goal.returns-clause-fresh
returns-clause-fresh c = subst (λ (z : List Alpha). HaveNoneInCommon z c.places_of.new.more.items) c.alphas.ensures c.in_ok-places.ensures.fresh
