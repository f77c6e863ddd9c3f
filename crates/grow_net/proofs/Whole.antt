-- What the whole call asks for and returns.
use Rattle.std.proofs.Common.{◌≡◌, ℕ, zero, suc, ◌+◌, ◌-◌, ◌<◌, ◌^◌, List, [], ◌∷◌, ◌++◌, length, map, slice_get, Option, Some, None, refl, sym, ap, subst, ◌∙◌, arith, Bool, true, false, cond, ◌⊎◌, inl, inr}
use Rattle.std.specs.Prelude.{All}
use Rattle.std.proofs.lemmas.List.{length-map}
use Rattle.std.proofs.lemmas.Option.{slice_get_within, slice_get-get_or}
use Rattle.ops_base.proofs.Members.{IsMember, all_from_members, member_cases}
use Rattle.net_base.specs.declared.nodes.Kind.{Kind}
use Rattle.net_base.specs.declared.nodes.Kind.TheVariants.{Join, Negated, Group, Terminal}
use Rattle.net_base.specs.declared.nodes.Node.{Node}
use Rattle.net_base.specs.declared.nodes.Alpha.{Alpha}
use Rattle.net_base.specs.declared.net.Net.{Net}
use Rattle.net_base.specs.Sound.{is_parent, child_if, children_below, is_giver, right_if, rights_below, IsSound}
use Rattle.grow_net.specs.Behind.{HasRulesBelow, StandApart, IsOfAll, kind_has_room, HasRoom, node_behind, ArePlaces}
use Rattle.grow_net.proofs.Growing.{grown_sound, grown_apart, grown_net}

one_low : (b : Bool) (i y : ℕ) → IsMember y (cond b (i ∷ []) []) → y < suc i
one_low true i y (inl e) = omega (arith, e)
one_low true i y (inr e) = absurd e
one_low false i y e = absurd e

children_low : (nodes : List Node) (i n y : ℕ) → IsMember y (children_below nodes i n) → y < i
children_low nodes zero n y m = absurd m
children_low nodes (suc i) n y m = by (λ h. children_low nodes i n y h) (member_cases y (children_below nodes i n) (child_if (slice_get nodes i) n i) m)
  where
    one : (o : Option Node) → IsMember y (child_if o n i) → y < suc i
    one None h = absurd h
    one (Some x) h = one_low (is_parent x.parent n) i y h

    by : (IsMember y (children_below nodes i n) → y < i) → IsMember y (children_below nodes i n) ⊎ IsMember y (child_if (slice_get nodes i) n i) → y < suc i
    by ih (inl h) = let l = ih h in omega (arith, l)
    by ih (inr h) = one (slice_get nodes i) h

rights_low : (nodes : List Node) (i n y : ℕ) → IsMember y (rights_below nodes i n) → y < i
rights_low nodes zero n y m = absurd m
rights_low nodes (suc i) n y m = by (λ h. rights_low nodes i n y h) (member_cases y (rights_below nodes i n) (right_if (slice_get nodes i) n i) m)
  where
    one : (o : Option Node) → IsMember y (right_if o n i) → y < suc i
    one None h = absurd h
    one (Some x) h = one_low (is_giver x.kind n) i y h

    by : (IsMember y (rights_below nodes i n) → y < i) → IsMember y (rights_below nodes i n) ⊎ IsMember y (right_if (slice_get nodes i) n i) → y < suc i
    by ih (inl h) = let l = ih h in omega (arith, l)
    by ih (inr h) = one (slice_get nodes i) h

module _ (B : List Alpha) (M : List Node) (d rules : ℕ) (sound : IsSound B M) (fits : d + length M < 2 ^ 64) (small : rules < 2 ^ 64) (below : HasRulesBelow M (2 ^ 64 - rules)) where
  room : (n : ℕ) (x : Node) → slice_get M n ≡ Some x → HasRoom d rules x
  room n x at = record {
    kind = by x.kind refl;
    parent = λ p e. (let l = (sound.each n x at).parent p e in omega (arith, l, low, fits));
    children = all_from_members (λ c. d + c < 2 ^ 64) x.children (λ y m. let l = children_low M (length M) n y (subst (IsMember y) (sound.children n x at) m) in omega (arith, l, fits));
    rights = all_from_members (λ c. d + c < 2 ^ 64) x.rights (λ y m. let l = rights_low M (length M) n y (subst (IsMember y) (sound.rights n x at) m) in omega (arith, l, fits));
  }
    where
      low : n < length M
      low = slice_get_within M n x at

      by : (k : Kind) → x.kind ≡ k → kind_has_room d rules x.kind
      by Join e = subst (kind_has_room d rules) (sym e) tt
      by Negated e = subst (kind_has_room d rules) (sym e) tt
      by (Group g w m) e =
          let l = ((sound.each n x at).group g w m e).before in
          let z : d + g < 2 ^ 64 = omega (arith, l, low, fits) in subst (kind_has_room d rules) (sym e) z
      by (Terminal r) e =
          let l = below n r x at e in
          let z : rules + r < 2 ^ 64 = omega (arith, l, small) in subst (kind_has_room d rules) (sym e) z

  pub rooms : (ms : List Node) → ms ≡ M → All (HasRoom d rules) ms
  rooms ms e k x lt = let at = slice_get-get_or ms k x lt in room k _ (sym (ap (λ z. slice_get z k) e) ∙ at)

pub nodes_are : (N ns M ms : List Node) (rules : ℕ) (places ps : List ℕ) (new : List Node) → ns ≡ N → ms ≡ M → ps ≡ places → new ≡ map (node_behind (length ns) rules ps) ms → new ≡ map (node_behind (length N) rules places) M
nodes_are N ns M ms rules places ps new e f g is =
    is ∙ (ap (λ z. map (node_behind (length z) rules ps) ms) e ∙ (ap (λ z. map (node_behind (length N) rules z) ms) g ∙ ap (map (node_behind (length N) rules places)) f))

module _ (net added : Net) (rules : ℕ) (places : List ℕ) (alphas : List Alpha) (nodes : List Node) (a : IsSound net.alphas net.nodes) (b : IsSound added.alphas added.nodes)
    (are : ArePlaces (net.alphas ++ alphas) added.alphas places) (low : HasRulesBelow net.nodes rules) (is : nodes ≡ map (node_behind (length net.nodes) rules places) added.nodes) where
  pub whole_sound : IsSound (net.alphas ++ alphas) (net.nodes ++ nodes)
  whole_sound = subst (λ z. IsSound (net.alphas ++ alphas) (net.nodes ++ z)) (sym is) (grown_sound net.alphas alphas added.alphas net.nodes added.nodes rules places a b are low)

  pub whole_apart : StandApart net.nodes nodes
  whole_apart = subst (StandApart net.nodes) (sym is) (grown_apart net.alphas alphas added.alphas net.nodes added.nodes rules places a b are low)

  pub whole_net : IsOfAll net rules added alphas nodes
  whole_net grown rs ss g count of_old of_small =
      grown_net net.alphas alphas added.alphas net.nodes added.nodes rules places a b are low net added grown rs ss count refl refl refl refl
      g.alphas_are (g.nodes_are ∙ ap (λ z. net.nodes ++ z) is) of_old of_small

  pub whole_count : length nodes ≡ length added.nodes
  whole_count = ap length is ∙ length-map added.nodes (node_behind (length net.nodes) rules places)
