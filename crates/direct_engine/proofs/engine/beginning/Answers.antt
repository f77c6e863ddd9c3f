use Rattle.std.proofs.Common.{◌≡◌, take}
use Rattle.direct_engine.proofs.Beginnings.{valid_beginning}
use Rattle.direct_engine.proofs.engine.beginning.Goals as goal

pub new-requires : goal.new-requires
new-requires c =
    let first : c.from_vec-rules.result ≡ take c.args.count c.in_ok-classes.field-0.rules = cc in
    valid_beginning c.in_ok-classes.field-0 c.args.count c.from_vec-rules.result first
