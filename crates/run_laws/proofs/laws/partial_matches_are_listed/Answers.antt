use Rattle.std.proofs.Common.{refl}
use Rattle.ops_meaning.specs.Partials.{left_side, partial_tags}
use Rattle.why.proofs.PartialMatches.{up_to}
use Rattle.run_laws.proofs.laws.partial_matches_are_listed.Goals as goal

pub returns : goal.returns
returns c = λ rules wm rule k rising there. up_to rules wm rule k (partial_tags wm (left_side rules rule) k) there rising refl
