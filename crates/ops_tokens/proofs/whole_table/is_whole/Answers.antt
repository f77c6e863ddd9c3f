use Rattle.std.proofs.Common.{◌≡◌, arith, subst}
use Rattle.scan_table.specs.Table.{Table, IsLongest}
use Rattle.ops_tokens.specs.Spellings.{is_whole}
use Rattle.ops_tokens.specs.Whole.{whole_table}
use Rattle.ops_tokens.proofs.Runs.{all_bytes}
use Rattle.ops_tokens.proofs.Whole.{is_table, reaches_end, longest-whole}
use Rattle.ops_tokens.proofs.whole_table.is_whole.Goals.{After-longest}
use Rattle.ops_tokens.proofs.whole_table.is_whole.Goals as goal

pub from_table-table-requires : goal.from_table-table-requires
unfolding whole_table
from_table-table-requires c = (omega arith, (omega arith, (omega arith, (omega arith, is_table))))

told : (c : After-longest) → reaches_end c.args.bytes.now c.longest.result ≡ is_whole c.args.bytes.now
unfolding whole_table
told c =
    let table_is : c.from_table-table.result ≡ whole_table = c.from_table-table.ensures in
    longest-whole c.args.bytes.now (all_bytes c.args.bytes.now (λ i. omega (arith, c.type_inv.bytes i))) c.longest.result
    (subst (λ (t : Table). IsLongest t c.args.bytes.now 0 c.longest.result) table_is c.longest.ensures)

pub returns-in-Some : goal.returns-in-Some
returns-in-Some c = rw c.in-Some.is at (told (goal.at.returns-in-Some c).After-longest)

pub returns-in-None : goal.returns-in-None
returns-in-None c = rw c.in-None.is at (told (goal.at.returns-in-None c).After-longest)
