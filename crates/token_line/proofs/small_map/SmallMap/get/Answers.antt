-- The value at the place of the key is the key's.
use Rattle.std.proofs.Common.{◌∙◌, sym}
use Rattle.token_line.proofs.SmallMapLemmas.{found_value, missing_value}
use Rattle.token_line.proofs.small_map.SmallMap.get.Goals as goal

pub returns-in-Some : goal.returns-in-Some
returns-in-Some g c =
    sym (found_value (g.K.PartialEq.eq c.args.key.now) c.args.self.now c.in-Some.place (c.pair.result.0.now, c.pair.result.1.now) (sym c.find.ensures ∙ c.in-Some.is) c.pair.ensures)

pub returns-in-None : goal.returns-in-None
returns-in-None g c = sym (missing_value (g.K.PartialEq.eq c.args.key.now) c.args.self.now (sym c.find.ensures ∙ c.in-None.is))
