use Rattle.std.proofs.Common.{arith}
use Rattle.ops_top.proofs.Loads.{long_file}
use Rattle.ops_top.proofs.files.add_file.Goals as goal

pub returns-in-Ok-false-clause-adds : goal.returns-in-Ok-false-clause-adds
returns-in-Ok-false-clause-adds g c =
    long_file _ _ c.args.text.now.items _ (omega arith) (rw c.in-Ok-false.field-0-test at c.in-Ok-false.ensures.bytes)
