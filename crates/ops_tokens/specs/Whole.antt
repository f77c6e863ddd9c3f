-- The table of whole numbers.
use Rattle.scan_table.specs.Table.{Table}
use Rattle.ops_tokens.specs.declared.whole_table.TheConstants.{CLASS_OF, NEXT, KINDS}

unfoldable pub whole_table : Table
whole_table = record { classes = CLASS_OF; next = NEXT; kinds = KINDS }
