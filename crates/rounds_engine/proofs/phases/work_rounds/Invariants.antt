-- After some rounds the phase is carried on, and the tasks that are left have nodes at least as far down.
use Rattle.std.proofs.Common.{◌≡◌, ◌≤◌, length}
use Rattle.std.specs.List.{All}
use Rattle.net_base.specs.declared.tasks.Task.{Task}
use Rattle.serial_engine.specs.Carrying.{CarriesOn}
use Rattle.rounds_engine.specs.Sharing.{AreAllShards, AreKept, tasks_of_shards}
use Rattle.rounds_engine.proofs.phases.work_rounds.Given as goal

abbrev pub invariant-loop-round : goal.invariant-loop-round
invariant-loop-round g l = record {
  carries : CarriesOn l.ground.net.now.alphas l.ground.net.now.nodes l.ground.store.now l.fn.lines (tasks_of_shards l.fn.shards.items) l.lines (tasks_of_shards l.shards.items);
  dealt : AreAllShards l.ground.net.now.nodes l.ground.store.now l.ground.lines l.ground.shards l.shards.items;
  deep : All (λ (x : Task). l._round ≤ x.node) (tasks_of_shards l.shards.items);
  count : length l.lines ≡ length l.fn.lines;
  kept : AreKept l.ground.net.now.nodes l.ground.store.now l.fn.lines l.lines;
}
