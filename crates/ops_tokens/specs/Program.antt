-- The table of plain atoms.
use Rattle.scan_table.specs.Table.{Table}
use Rattle.ops_tokens.specs.declared.table.TheConstants.{CLASS_OF, NEXT, KINDS}

unfoldable pub program_table : Table
program_table = record { classes = CLASS_OF; next = NEXT; kinds = KINDS }
