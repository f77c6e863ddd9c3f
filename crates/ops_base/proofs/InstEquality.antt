-- Two instantiations are the same where their productions and their tags are.
use Rattle.std.proofs.Common.{◌≡◌}
use Rattle.ops_base.specs.declared.rules.Inst.{Inst}

-- an instantiation is its production and its tags
pub same_fields : (i j : Inst) → i.rule ≡ j.rule → i.tags ≡ j.tags → i ≡ j
same_fields i j rules tags = λ k. record { rule = rules k; tags = tags k }
