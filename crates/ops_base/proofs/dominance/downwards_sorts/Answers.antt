-- Inserting keeps the tags and their order.
use Rattle.ops_base.proofs.DownwardsLaws.{downwards-permutation, downwards-greatest_first, downwards_only}
use Rattle.ops_base.proofs.dominance.downwards_sorts.Goals as goal

pub returns-clause-same_tags : goal.returns-clause-same_tags
returns-clause-same_tags c = λ tags. downwards-permutation tags

pub returns-clause-greatest_first : goal.returns-clause-greatest_first
returns-clause-greatest_first c = λ tags. downwards-greatest_first tags

pub returns-clause-only : goal.returns-clause-only
returns-clause-only c = λ tags other p a. downwards_only tags other p a
