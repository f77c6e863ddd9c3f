-- A key with the strategy by which it is compared.
use Rattle.ops_base.specs.declared.commands.Strategy.{Strategy}
use Rattle.resolution.specs.Keys.{Key}

-- a key, and the strategy by which it is compared
pub record Rank : Type 0 where
  pub strategy : Strategy
  pub key : Key
