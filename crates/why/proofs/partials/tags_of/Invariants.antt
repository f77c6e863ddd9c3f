use Rattle.std.proofs.Common.{◌≡◌, map}
use Rattle.why.proofs.partials.tags_of.Given as goal

abbrev pub invariant-loop-partial : goal.invariant-loop-partial
invariant-loop-partial l = l.tags.items ≡ map (λ p. p.tags) l.yielded
