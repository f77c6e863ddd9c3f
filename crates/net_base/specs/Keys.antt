-- The keys by which alphas are looked up.
use Rattle.std.specs.Prelude.{Bool}
use Rattle.net_base.specs.declared.keys.Key.{Key}
use Rattle.net_base.specs.contracts.keys.KeyPartialEq.TheImpl as key

-- the keys are the same
abbrev pub same_key : Key → Key → Bool
same_key = key.ghosts.eq
