-- What a direct engine holds.
use Rattle.std.specs.Prelude.{List}
use Rattle.ops_base.specs.declared.rules.Rule.{Rule}
use Rattle.ops_base.specs.declared.rules.Inst.{Inst}
use Rattle.work_store.specs.Stored.{Stored}

-- the rules that it was made of, what its store holds, and what it found there
pub record Engine : Type 0 where
  pub rules : List Rule
  pub stored : Stored
  pub found : List Inst
