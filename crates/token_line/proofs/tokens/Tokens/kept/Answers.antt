-- The token is at its place, if it has one.
use Rattle.std.proofs.Common.{◌∙◌, sym}
use Rattle.token_line.proofs.PairLemmas.{kept_at, place_missing}
use Rattle.token_line.proofs.tokens.Tokens.kept.Goals as goal

pub returns-in-Some : goal.returns-in-Some
returns-in-Some c =
    kept_at c.args.self.now c.len-pairs.ensures.pairs c.args.token.now c.in-Some.place (sym c.requires ∙ c.in-Some.is) (c.pair.result.0.now, c.pair.result.1) c.pair.ensures.pair

pub returns-in-None : goal.returns-in-None
returns-in-None c = sym (place_missing c.args.self.now c.args.token.now (sym c.requires ∙ c.in-None.is))
