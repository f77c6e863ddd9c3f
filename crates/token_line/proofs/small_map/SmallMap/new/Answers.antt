-- No key is there twice where there is none.
use Rattle.std.proofs.Common.{subst, sym}
use Rattle.std.specs.List.{IsDistinct}
use Rattle.std.specs.Map.{keys_of}
use Rattle.token_line.proofs.SmallMapLemmas.{no_keys}
use Rattle.token_line.proofs.small_map.SmallMap.new.Goals as goal

pub invariant_of-result : goal.invariant_of-result
invariant_of-result g c = subst (λ l. IsDistinct g.K.PartialEq.eq (keys_of l)) (sym c.new.ensures.items) (no_keys g.K.PartialEq.eq)
