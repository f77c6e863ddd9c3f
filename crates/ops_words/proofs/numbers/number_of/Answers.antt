use Rattle.std.proofs.Common.{◌<◌, ◌^◌, arith, refl}
use Rattle.ops_words.proofs.Spelled.{not_parsed}
use Rattle.ops_words.proofs.numbers.number_of.Goals as goal

pub returns-in-Err : goal.returns-in-Err
returns-in-Err c =
    let fits : c.args.greatest < 2 ^ 64 = omega arith in
    rw (not_parsed c.args.least c.args.greatest c.args.word.now c.in-Err.field-0 fits c.in-Err.ensures.value.0) refl
