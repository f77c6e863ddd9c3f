-- What the network finds is the conflict set.
use Rattle.std.proofs.Common.{◌≡◌, List, [], ap, subst, ◌∙◌, arith}
use Rattle.ops_base.specs.declared.rules.Rule.{Rule}
use Rattle.ops_base.specs.Instances.{IsConflictSet}
use Rattle.net_base.specs.Network.{NetOf}
use Rattle.step_core.specs.Found.{found_over}
use Rattle.free_engine.specs.declared.engine.Parts.{Parts}
use Rattle.team_phase.specs.Engines.{Engine}
use Rattle.serial_engine.proofs.SettleLemmas.{stored_wm}
use Rattle.free_engine.proofs.engine.FreeEngineMatcher.store.Goals as goal

pub returns-clause-set : goal.returns-clause-set
returns-clause-set g c =
    let parts = c.as_ref-parts.result.now in
    let view : Parts _ → Engine = λ p. record { net = p.net; store = p.store; world = p.world; sharing = p.sharing } in
    subst (λ (e : Engine). (rules : List Rule) → NetOf e.net rules → IsConflictSet rules e.store.elements (found_over e.net.alphas e.net.nodes e.store.elements)) (ap view c.as_ref-parts.ensures ∙ c.self.view_is)
    (λ rules is. c.settle_laws.ensures.set parts.net rules parts.store.elements is
    (stored_wm parts.store c.last-last.ensures.stored (omega (arith, c.last-last.ensures.last, c.last-last.type_inv))))

pub returns-clause-none : goal.returns-clause-none
returns-clause-none g c =
    let parts = c.as_ref-parts.result.now in
    let view : Parts _ → Engine = λ p. record { net = p.net; store = p.store; world = p.world; sharing = p.sharing } in
    subst (λ (e : Engine). e.store.elements ≡ [] → found_over e.net.alphas e.net.nodes e.store.elements ≡ []) (ap view c.as_ref-parts.ensures ∙ c.self.view_is)
    (λ e. ap (found_over parts.net.alphas parts.net.nodes) e ∙ c.settle_laws.ensures.none parts.net.alphas parts.net.nodes c.nodes-nodes.ensures.sound)
