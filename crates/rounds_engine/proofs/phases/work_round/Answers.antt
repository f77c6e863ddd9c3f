-- The shards do their tasks, which are all that wait.
use Rattle.std.proofs.Common.{◌≤◌, length, map, refl, sym, subst, arith}
use Rattle.work_store.specs.Stored.{held_of}
use Rattle.step_core.specs.Rounds.{HaveDone}
use Rattle.step_core.specs.Worlds.{placed, seen}
use Rattle.rounds_engine.specs.Sharing.{tasks_of_shards}
use Rattle.rounds_engine.proofs.Carried.{by_round}
use Rattle.rounds_engine.proofs.Halving.{all_can, first_is}
use Rattle.rounds_engine.proofs.Results.{if_ok}
use Rattle.rounds_engine.proofs.phases.work_round.Goals as goal

pub do_shards-requires-clause-can : goal.do_shards-requires-clause-can
do_shards-requires-clause-can g c κs within =
    let ground = c.args.ground.now in
    all_can ground.net.now.nodes ground.store.now ground.lines ground.shards c.args.shards.now c.args.lines.now ground.some c.requires.dealt c.requires.lines c.requires.counted

pub returns-clause-carries : goal.returns-clause-carries
returns-clause-carries g c =
    let ground = c.args.ground.now in
    let net = ground.net.now in
    let s = ground.store.now in
    let old = c.args.lines.now in
    let new = c.do_shards.new.lines in
    let xs = c.args.shards.now in
    let dealt = c.requires.dealt in
    let some : 1 ≤ length xs = (let a = dealt.count in let b = ground.some in omega (arith, a, b)) in
    if_ok _ _ c.do_shards.result
    (λ v shared.
    let from_first = subst (λ n. HaveDone (held_of s) net.nodes (placed (held_of s) net.nodes ground.lines) n (map seen old) (map seen new) (tasks_of_shards xs) (tasks_of_shards v.items)) (first_is 0 xs some dealt.each.follow) shared.did in
    let from_all = subst (λ n. HaveDone (held_of s) net.nodes (placed (held_of s) net.nodes n) 0 (map seen old) (map seen new) (tasks_of_shards xs) (tasks_of_shards v.items)) (sym c.requires.lines) from_first in
    by_round net.alphas net.nodes s c.round_laws.ensures.round old new (tasks_of_shards xs) (tasks_of_shards xs) (tasks_of_shards v.items) (λ h. refl) from_all)
    c.do_shards.ensures.shared

pub returns-clause-dealt : goal.returns-clause-dealt
returns-clause-dealt g c = if_ok _ _ c.do_shards.result (λ v shared. shared.dealt) c.do_shards.ensures.shared

pub returns-clause-deeper : goal.returns-clause-deeper
returns-clause-deeper g c = if_ok _ _ c.do_shards.result (λ v shared. shared.deeper) c.do_shards.ensures.shared
