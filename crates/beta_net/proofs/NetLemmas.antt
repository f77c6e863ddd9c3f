-- The network is that of its rules.
use Rattle.std.proofs.Common.{◌≡◌, ℕ, ◌+◌, List, [], length, slice_get, Some, refl, ap, subst, sym, ◌∙◌, arith, ◌↔◌, inl, inr}
use Rattle.ops_base.specs.declared.elements.Element.{Element}
use Rattle.ops_base.specs.declared.rules.Rule.{Rule}
use Rattle.ops_base.specs.Instances.{Meets, IsInst}
use Rattle.net_base.specs.declared.nodes.Node.{Node}
use Rattle.net_base.specs.declared.net.Net.{Net}
use Rattle.net_base.specs.Sound.{HasChildren, HasRights}
use Rattle.net_base.specs.Network.{IsTerminalOf, NetOf}
use Rattle.net_base.proofs.Steps.{steps_of, steps_above}
use Rattle.net_base.proofs.Terminals.{terminal_meets, tokens_least}
use Rattle.beta_net.specs.declared.links.Link.{Link}
use Rattle.beta_net.specs.declared.paths.End.{End}
use Rattle.beta_net.specs.Built.{AreBuilt, IsTerminalNode, IsDraft}
use Rattle.beta_net.proofs.Lists.{same_some, get_lt, get_at}
use Rattle.beta_net.proofs.DownLemmas.{have_nodes, ordered, link_steps, steps_to, are_steps}
use Rattle.beta_net.proofs.SoundLemmas.{AreValidRules, ends_within, twos, terminal_number, one_each}

-- an instantiation of rule k is given by its conditions
inst_is : (rules : List Rule) (wm : List Element) (k : ℕ) (r : Rule) (tags : List ℕ) → slice_get rules k ≡ Some r → (Meets wm r.conditions [] tags) ↔ IsInst rules wm (record { rule = k; tags = tags })
inst_is rules wm k r tags at = (λ m. (r, at, m), λ i. subst (λ (z : Rule). Meets wm z.conditions [] tags) (same_some i.0 r (sym i.1 ∙ at)) i.2)

through : {A B C : Type 0} → (A ↔ B) → (B ↔ C) → A ↔ C
through f g = (λ a. g.0 (f.0 a), λ c. f.1 (g.1 c))

terminal_of : (links : List Link) (ends : List End) (net : Net) (rules : List Rule) → AreValidRules rules → AreBuilt links ends rules → IsDraft links ends net.alphas net.nodes → (n k : ℕ) (e : End) (x : Node) → slice_get net.nodes n ≡ Some x → n ≡ length links + k → slice_get ends k ≡ Some e → IsTerminalNode k e x → IsTerminalOf net rules k n
terminal_of links ends net rules valid b d n k e x at is end t =
    let r = ends_within links ends rules b k e end in
    let have = have_nodes links ends net.alphas net.nodes d.each d.count in
    let order = ordered links ends net.alphas net.nodes b.linked (λ j f here. (ends_within links ends rules b j f here).2.within) d.each in
    let are = are_steps links net.alphas net.nodes b.linked have (twos links ends net.alphas net.nodes rules valid b d) in
    let steps = link_steps links net.alphas net.nodes b.linked have in
    let path = ap (steps_above steps) t.parent ∙ (steps_to links net.alphas net.nodes b.linked have e.parent ∙ ap (steps_of 0) r.2.down) in
    record {
      node = x;
      at = at;
      kind = t.kind;
      meaning = λ wm w tags. through (terminal_meets wm w net.alphas net.nodes order (length links) steps are n k x r.0.conditions (valid k r.0 r.1).bound at t.kind (λ p e. r.2.within p (sym t.parent ∙ e)) path tags) (inst_is rules wm k r.0 tags r.1);
      once = λ wm tags. tokens_least wm net.alphas net.nodes n tags;
    }

pub net_of : (links : List Link) (ends : List End) (net : Net) (rules : List Rule) → AreValidRules rules → AreBuilt links ends rules → IsDraft links ends net.alphas net.nodes → HasChildren net.nodes → HasRights net.nodes → NetOf net rules
net_of links ends net rules valid b d children rights = record {
  each = λ k lt.
      let c = b.count in
      let e = get_at ends k (omega arith) in
      let len = d.count in
      let low = get_lt ends k e.0 e.1 in
      let g = get_at net.nodes (length links + k) (omega arith) in
      elim (d.each (length links + k) g.0 g.1) [
        | inl h ↦ (let bad = get_lt links (length links + k) h.0 h.1 in absurd (omega arith))
        | inr h ↦
            let q = h.2 in
            let same : h.0 ≡ k = omega arith in
            (length links + k, terminal_of links ends net rules valid b d (length links + k) k h.1 g.0 g.1 refl (ap (slice_get ends) (sym same) ∙ h.3) (subst (λ j. IsTerminalNode j h.1 g.0) same h.4))
      ];
  only = λ n k x at t.
      let g = terminal_number links ends net.alphas net.nodes rules valid b d children rights n k x at t in
      let low = get_lt ends k g.0 g.1 in
      let c = b.count in omega arith;
  one = one_each links ends net.alphas net.nodes rules valid b d children rights;
}
