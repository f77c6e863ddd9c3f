-- The children that an activation gave fit.
use Rattle.std.proofs.Common.{List, sym, subst, All}
use Rattle.std.proofs.lemmas.List.Elements.{All-append, All-weaker}
use Rattle.work_store.specs.Stored.{Stored}
use Rattle.net_base.specs.declared.nodes.Node.{Node}
use Rattle.net_base.specs.declared.tasks.Task.{Task}
use Rattle.token_line.specs.Held.{TaskFits}
use Rattle.token_line.specs.declared.line.Entry.{Entry}
use Rattle.steal_engine.specs.Phased.{Grows}

pub all_fit : (fits : Task → Type 0) (nodes : List Node) (s : Stored) (x : Task) (old new : List Entry) (before now : List Task)
    → ((y : Task) → TaskFits nodes s y → fits y) → Grows nodes s x old new before now → All fits before → All fits now
all_fit fits nodes s x old new before now meant grown all =
    subst (All fits) (sym grown.2) (All-append fits before grown.0 all (All-weaker (TaskFits nodes s) fits meant grown.0 grown.3))
