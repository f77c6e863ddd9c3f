use Rattle.std.proofs.Common.{ap, ◌∙◌, length, [], ◌∷◌, ◌++◌, nat_eq}
use Rattle.std.specs.Map.{lookup}
use Rattle.std.specs.HashMap.{get}
use Rattle.beta_net.proofs.ChainLemmas.{chained_same, chain_more}
use Rattle.beta_net.proofs.chains.Chains.add.Goals as goal

pub invariant_of-self-in_err-earlier : goal.invariant_of-self-in_err-earlier
invariant_of-self-in_err-earlier c =
    chained_same c.self.inside.entries.items c.reserve.new.self.items (get nat_eq c.self.inside.newest) (get nat_eq c.insert.new.self) c.self.invariant c.reserve.ensures.items (λ q. ap (lookup (nat_eq q)) c.in_err-earlier.ensures.err)

pub invariant_of-self-2 : goal.invariant_of-self-2
invariant_of-self-2 c =
    chain_more c.self.inside.entries.items c.push_reserved.new.self.items c.args.code (length c.as_slice-n.result.now) c.in_ok-earlier.earlier (get nat_eq c.self.inside.newest) (get nat_eq c.insert.new.self) c.self.invariant
    c.in_ok-earlier.ensures.old (ap length c.as_slice-n.ensures.value) c.in_ok-earlier.ensures.updates.0
    (c.push_reserved.ensures.items ∙ ap (λ es. es ++ record { code = c.args.code; earlier = c.in_ok-earlier.earlier } ∷ []) c.reserve.ensures.items)
