-- One node more.
use Rattle.std.proofs.Common.{◌≡◌, ℕ, zero, suc, ◌+◌, ◌<◌, List, [], ◌∷◌, ◌++◌, length, slice_get, get_or, Option, Some, refl, ap, subst, sym, ◌∙◌, arith, inl, inr, length-append, append-nil}
use Rattle.net_base.specs.declared.nodes.Node.{Node}
use Rattle.net_base.specs.declared.nodes.Alpha.{Alpha}
use Rattle.net_base.specs.declared.normal.NormalCondition.{NormalCondition}
use Rattle.net_base.specs.declared.normal.NormalPart.{NormalPart}
use Rattle.net_base.specs.declared.normal.NormalPart.TheVariants as part
use Rattle.net_base.specs.Normal.{alpha_tests, join_tests}
use Rattle.beta_net.specs.declared.links.Link.{Link}
use Rattle.beta_net.specs.declared.paths.End.{End}
use Rattle.beta_net.specs.declared.alphas.Alphas.{Alphas}
use Rattle.beta_net.specs.Built.{kind_of, AddsAlpha, AreAlphas, IsPartNode, IsGroupNode, IsNodeOf, IsTerminalNode, AddsNode, AddsTerminals, AreNodes, AreUsed, AreDistinct, IsDraft}
use Rattle.beta_net.specs.Children.{AreBare}
use Rattle.beta_net.specs.Rights.{AreRightless}
use Rattle.beta_net.proofs.Lists.{get_left, get_lt, get_of, get_push}

part_stays : (alphas more : List Alpha) (place : ℕ) (above : Option ℕ) (p : NormalPart) (x : Node) → IsPartNode alphas place above p x → IsPartNode (alphas ++ more) place above p x
part_stays alphas more place above (part.One c) x h = record {
  kind = h.kind;
  class = h.class;
  alpha = record { alpha = h.alpha.alpha; at = get_left alphas more x.alpha h.alpha.alpha h.alpha.at; is = h.alpha.is };
  joins = h.joins;
}
part_stays alphas more place above (part.Group cs) x h = h

node_stays : (alphas more : List Alpha) (l : Link) (x : Node) → IsNodeOf alphas l x → IsNodeOf (alphas ++ more) l x
node_stays alphas more l x h = record { parent = h.parent; depth = h.depth; part = part_stays alphas more l.place l.above l.part x h.part }

-- the node of a condition's link
pub condition_node : (old new : Alphas) (l : Link) (c : NormalCondition) (x : Node) → l.part ≡ part.One c → AddsAlpha old new c.class (alpha_tests l.place c.tests) x.alpha → x.kind ≡ kind_of c → x.class ≡ c.class → x.joins ≡ join_tests l.place c.tests
    → x.parent ≡ l.parent → x.depth ≡ l.depth → x.children ≡ [] → x.rights ≡ [] → AddsNode old new l x
condition_node old new l c x e a kind class joins parent depth childless rightless = record {
  more = a.more;
  grown = a.grown;
  node = record {
    parent = parent;
    depth = depth;
    part = subst (λ p. IsPartNode new.list.items l.place l.above p x) (sym e) (record { kind = kind; class = class; alpha = a.has; joins = joins });
  };
  childless = childless;
  rightless = rightless;
  only = λ m b at. elim (a.only m b at) [ inl h ↦ inl h | inr h ↦ inr (record { condition = c; part_is = e; is = h }) ];
  alphas = a.alphas;
}

-- the node of a group's link
pub group_node : (t : Alphas) (l : Link) (cs : List NormalCondition) (x : Node) → AreAlphas t → l.part ≡ part.Group cs → IsGroupNode l.place l.above cs x → x.parent ≡ l.parent → x.depth ≡ l.depth → x.children ≡ [] → x.rights ≡ [] → AddsNode t t l x
group_node t l cs x a e h parent depth childless rightless = record {
  more = [];
  grown = sym (append-nil t.list.items);
  node = record { parent = parent; depth = depth; part = subst (λ p. IsPartNode t.list.items l.place l.above p x) (sym e) h };
  childless = childless;
  rightless = rightless;
  only = λ m b at. inl at;
  alphas = a;
}

pub nodes_next : (links : List Link) (old new : Alphas) (nodes nodes' : List Node) (l : Link) (x : Node) (i : ℕ) → i < length links → l ≡ get_or links i l → length nodes ≡ i → AddsNode old new l x → nodes' ≡ nodes ++ x ∷ [] → AreNodes links old.list.items nodes → AreNodes links new.list.items nodes'
nodes_next links old new nodes nodes' l x i lt is count a e h n y at = elim (get_push nodes x n y (ap (λ ls. slice_get ls n) (sym e) ∙ at)) [
  | inl g ↦ (let q = h n y g in (q.0, q.1, subst (λ as'. IsNodeOf as' q.0 y) (sym a.grown) (node_stays old.list.items a.more q.0 y q.2)))
  | inr g ↦ (l, ap (slice_get links) (g.0 ∙ count) ∙ get_of links i l lt is, subst (IsNodeOf new.list.items l) (sym g.1) a.node)
]

pub used_next : (links : List Link) (old new : Alphas) (l : Link) (x : Node) (i : ℕ) → i < length links → l ≡ get_or links i l → AddsNode old new l x → AreUsed links old.list.items → AreUsed links new.list.items
used_next links old new l x i lt is a h m b at = elim (a.only m b at) [ inl g ↦ h m b g | inr g ↦ (i, l, get_of links i l lt is, g) ]

pub bare_next : (old new : List Node) (x : Node) → AreBare old → new ≡ old ++ x ∷ [] → x.children ≡ [] → AreBare new
bare_next old new x h e none k y at = elim (get_push old x k y (ap (λ ls. slice_get ls k) (sym e) ∙ at)) [ inl g ↦ h k y g | inr g ↦ (ap (λ (z : Node). z.children) g.1 ∙ none) ]

pub no_nodes : (links : List Link) (alphas : List Alpha) (nodes : List Node) → nodes ≡ [] → AreNodes links alphas nodes
no_nodes links alphas nodes e n x at = let lt = get_lt [] n x (ap (λ ls. slice_get ls n) (sym e) ∙ at) in absurd (omega arith)

pub none_used : (links : List Link) (alphas : List Alpha) → alphas ≡ [] → AreUsed links alphas
none_used links alphas e m a at = let lt = get_lt [] m a (ap (λ ls. slice_get ls m) (sym e) ∙ at) in absurd (omega arith)

pub rightless_next : (old new : List Node) (x : Node) → AreRightless old → new ≡ old ++ x ∷ [] → x.rights ≡ [] → AreRightless new
rightless_next old new x h e none k y at = elim (get_push old x k y (ap (λ ls. slice_get ls k) (sym e) ∙ at)) [ inl g ↦ h k y g | inr g ↦ (ap (λ (z : Node). z.rights) g.1 ∙ none) ]

pub none_rightless : (nodes : List Node) → nodes ≡ [] → AreRightless nodes
none_rightless nodes e n x at = let lt = get_lt [] n x (ap (λ ls. slice_get ls n) (sym e) ∙ at) in absurd (omega arith)

pub none_bare : (nodes : List Node) → nodes ≡ [] → AreBare nodes
none_bare nodes e n x at = let lt = get_lt [] n x (ap (λ ls. slice_get ls n) (sym e) ∙ at) in absurd (omega arith)

pub no_terminals : (nodes : List Node) (ends : List End) → AddsTerminals nodes nodes ends 0
no_terminals nodes ends = record { count = omega arith; each = λ n x at. inl at; bare = λ h. h; rightless = λ h. h }

terminals_next : (old now new : List Node) (ends : List End) (k : ℕ) (e : End) (x : Node) → slice_get ends k ≡ Some e → IsTerminalNode k e x → x.children ≡ [] → x.rights ≡ [] → new ≡ now ++ x ∷ [] → AddsTerminals old now ends k → AddsTerminals old new ends (k + 1)
terminals_next old now new ends k e x here t none neither grown h = record {
  count = (let c = h.count in omega (arith, c, ap length grown, length-append now (x ∷ [])));
  each = λ n y at. elim (get_push now x n y (ap (λ ls. slice_get ls n) (sym grown) ∙ at)) [
    | inl g ↦ h.each n y g
    | inr g ↦ inr (k, e, g.0 ∙ h.count, here, subst (IsTerminalNode k e) (sym g.1) t)
  ];
  bare = λ b. bare_next now new x (h.bare b) grown none;
  rightless = λ b. rightless_next now new x (h.rightless b) grown neither;
}

pub lowered : (links : List Link) (ends : List End) (alphas : List Alpha) (old new : List Node) → AreNodes links alphas old → length old ≡ length links → AreDistinct alphas → AreUsed links alphas → AddsTerminals old new ends (length ends) → IsDraft links ends alphas new
lowered links ends alphas old new nodes count distinct used t = record {
  each = λ n x at. elim (t.each n x at) [
    | inl g ↦ inl (nodes n x g)
    | inr g ↦ inr (g.0, g.1, g.2 ∙ ap (λ m. m + g.0) count, g.3, g.4)
  ];
  count = t.count ∙ ap (λ m. m + length ends) count;
  distinct = distinct;
  used = used;
}

get_read : (ends : List End) (i : ℕ) (d : End) → i < length ends → slice_get ends i ≡ Some (get_or ends i d)
get_read [] i d lt = absurd (omega arith)
get_read (e ∷ ends) zero d lt = refl
get_read (e ∷ ends) (suc i) d lt = get_read ends i d (omega arith)

-- the end that was read, whatever would stand past the last one
pub terminal_read : (old now new : List Node) (ends : List End) (k : ℕ) (d : End) (x : Node) → k < length ends → IsTerminalNode k (get_or ends k d) x → x.children ≡ [] → x.rights ≡ [] → new ≡ now ++ x ∷ [] → AddsTerminals old now ends k → AddsTerminals old new ends (k + 1)
terminal_read old now new ends k d x lt t none neither grown h =
    terminals_next old now new ends k (get_or ends k d) x (get_read ends k d lt) t none neither grown h
