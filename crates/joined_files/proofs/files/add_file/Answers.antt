use Rattle.std.proofs.Common.{refl, arith}
use Rattle.joined_files.proofs.Loads.{long_file}
use Rattle.joined_files.proofs.files.add_file.Goals as goal

pub returns-in-Ok-false-clause-adds : goal.returns-in-Ok-false-clause-adds
returns-in-Ok-false-clause-adds g c =
    let long = long_file (g.H.Shelf.told c.args.shelf.now c.args.name.now) _ c.args.text.now.items _ (omega arith) (rw c.in-Ok-false.field-0-test at c.in-Ok-false.ensures.bytes) in
    (long.0, long.1, long.2, refl)
