use Rattle.std.proofs.Common.{refl}
use Rattle.feed_engine.proofs.Pieces.{fed_by}
use Rattle.feed_engine.proofs.feed.Feed.settle.Goals as goal

pub returns : goal.returns
returns g c =
    fed_by g.M.Matcher.stored g.M.Matcher.found g.M.Matcher.stands_for _ _ c.requires.settles c.args.self c.args.more _ c.in_ok-matcher.ensures c.in_ok-matcher.field-0 refl _ refl c.in_ok-come.ensures
