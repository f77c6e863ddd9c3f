-- A line may go to another thread, and what it says of tasks. Of types in which no snapshot stands the compiler shows it.
use denote.Param.Send.{IsSend, sendable}
use Rattle.std.proofs.Crossing.{crosses}
use Rattle.net_base.proofs.tasks.Task.TheSendSync as TaskCrosses
use Rattle.token_line.specs.contracts.ghost_tasks.GhostTasks as GhostTasks
use Rattle.token_line.specs.contracts.ghost_task.GhostTask as GhostTask
use Rattle.token_line.specs.contracts.line.Entry as Entry
use Rattle.token_line.specs.contracts.line.Line as Line
use Rattle.token_line.proofs.memories.NodeMemory.TheSendSync as NodeMemoryCross

pub deed_send : IsSend GhostTask.the_row
deed_send = search (sendable, crosses) depth 80

pub children_send : IsSend GhostTasks.the_row
children_send = search (sendable, crosses) depth 80

entry_send : IsSend Entry.the_row
entry_send = search (deed_send, children_send, sendable, crosses) depth 80

pub line_send : IsSend Line.the_row
line_send = search (NodeMemoryCross.the_send, TaskCrosses.the_send, entry_send, sendable, crosses) depth 80 fits 20000
