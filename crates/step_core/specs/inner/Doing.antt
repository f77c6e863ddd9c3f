-- Tasks that were performed and are not finished yet, as the machine describes them.
use Rattle.token_line.specs.declared.line.Entry.{Entry}
use Rattle.step_core.specs.declared.done.Done.{Done}

-- the entry of a task that was performed
abbrev pub entry_of : Done → Entry
entry_of d = record { task = d.task; children = d.children.items }
