-- What a network of rules tells is their conflict set, and nothing over nothing.
use Rattle.std.proofs.Common.{◌≡◌, ℕ, zero, suc, ◌+◌, ◌<◌, ◌≤◌, ◌^◌, true, List, [], ◌∷◌, length, refl, sym, ap, subst, ◌∙◌, arith, inl, inr, slice_get, Option, Some, None}
use Rattle.std.specs.List.{AllByRecursion}
use Rattle.std.proofs.lemmas.Option.{slice_get_within, slice_get_cases}
use Rattle.ops_base.specs.declared.elements.Element.{Element}
use Rattle.ops_base.specs.declared.rules.Inst.{Inst}
use Rattle.ops_base.specs.declared.rules.Rule.{Rule}
use Rattle.ops_base.specs.Instances.{IsInst, IsConflictSet}
use Rattle.ops_base.specs.WorkingMemory.{HasRisingTags}
use Rattle.ops_base.proofs.Members.{IsMember, contains_from_member}
use Rattle.net_base.specs.declared.nodes.Kind.{Kind}
use Rattle.net_base.specs.declared.nodes.Kind.TheVariants.{Join, Negated, Group, Terminal}
use Rattle.net_base.specs.declared.nodes.Node.{Node}
use Rattle.net_base.specs.declared.nodes.Alpha.{Alpha}
use Rattle.net_base.specs.declared.net.Net.{Net}
use Rattle.net_base.specs.Network.{IsWm, NetOf, IsTerminalOf}
use Rattle.net_base.specs.Sound.{IsSound, width_below, left_width, added_tags, width_above, is_join}
use Rattle.net_base.specs.Tokens.{left_tokens, right_tokens, tokens, out_of, elements_of}
use Rattle.step_core.proofs.Given.{givers_first, tokens_are_out}
use Rattle.step_core.proofs.Named.{IsIn, IsToken, left_are_tokens}
use Rattle.step_core.specs.Found.{found_over}
use Rattle.step_core.specs.Settling.{IsFound}
use Rattle.step_core.proofs.Finding.{found_law}

module _ (net : Net) (rules : List Rule) (wm : List Element) (is : NetOf net rules) (well : IsWm wm) where
  -- at a terminal what stands is what comes
  out_is_left : (n k : ℕ) (x : Node) → slice_get net.nodes n ≡ Some x → x.kind ≡ Terminal k → (t : List ℕ) → tokens wm net.alphas net.nodes n t ≡ left_tokens wm net.alphas net.nodes n t
  out_is_left n k x at kind t =
      tokens_are_out wm net.alphas net.nodes (givers_first net.alphas net.nodes net.sound) n x t at
      ∙ ap (λ (q : Kind). out_of (2 ^ 64) (elements_of wm) q x.joins (left_tokens wm net.alphas net.nodes n) (right_tokens wm net.alphas net.nodes n) t) kind

  here : (n k : ℕ) (x : Node) → slice_get net.nodes n ≡ Some x → x.kind ≡ Terminal k → IsTerminalOf net rules k n
  here n k x at kind =
      let found = is.each k (is.only n k x at kind) in
      subst (IsTerminalOf net rules k) (sym (is.one n found.0 k x found.1.node at found.1.at kind found.1.kind)) found.1

  found_sound : (i : Inst) → IsFound net.alphas net.nodes wm i → IsInst rules wm i
  found_sound i f = ((here f.n i.rule f.node f.at f.kind).meaning wm well i.tags).0 (out_is_left f.n i.rule f.node f.at f.kind i.tags ∙ f.stands)

  found_complete : (i : Inst) → IsInst rules wm i → IsFound net.alphas net.nodes wm i
  found_complete i inst =
      let found = is.each i.rule (slice_get_within rules i.rule inst.0 inst.1) in
      let t = found.1 in
      record { n = found.0; node = t.node; at = t.at; kind = t.kind; stands = sym (out_is_left found.0 i.rule t.node t.at t.kind i.tags) ∙ (t.meaning wm well i.tags).1 inst }

  pub found_set : IsConflictSet rules wm (found_over net.alphas net.nodes wm)
  found_set =
      let law = found_law net.alphas net.nodes wm net.sound well.rising in record {
        sound = λ i c. found_sound i ((law.0 i).0 c);
        complete = λ i inst. (law.0 i).1 (found_complete i inst);
        in_order = law.1;
      }

-- ---- over nothing

there : {X : Type 0} (xs : List X) (i : ℕ) → i < length xs → (x : X) × (slice_get xs i ≡ Some x)
there xs i lt = elim (slice_get_cases xs i).1 [ inl h ↦ (h.0, h.2) | inr h ↦ absurd (omega (arith, h.0)) ]

module _ (alphas : List Alpha) (nodes : List Node) (sound : IsSound alphas nodes) where
  wide : (k n : ℕ) (x : Node) → n < k → slice_get nodes n ≡ Some x → 1 ≤ width_below k nodes n
  wide zero n x lt at = absurd (omega arith)
  wide (suc k) n x lt at = subst (λ o. 1 ≤ of_node o) (sym at) (by (λ p m y low at'. wide k p y (omega (arith, low, lt)) at') x.parent refl)
    where
      of_node : Option Node → ℕ
      of_node None = 0
      of_node (Some y) = width_above (width_below k nodes) y.parent + added_tags y.kind

      joined : (q : Kind) → is_join q ≡ true → 1 ≤ added_tags q
      joined Join e = omega arith
      joined Negated e = absurd (cc)
      joined (Group g w q) e = absurd (cc)
      joined (Terminal rule) e = absurd (cc)

      by : ((p m : ℕ) (y : Node) → p < n → slice_get nodes p ≡ Some y → 1 ≤ width_below k nodes p) → (p : Option ℕ) → x.parent ≡ p → 1 ≤ width_above (width_below k nodes) x.parent + added_tags x.kind
      by ih None e = let j = joined x.kind ((sound.each n x at).root e) in omega (arith, j)
      by ih (Some p) e =
          let low = (sound.each n x at).parent p e in
          let last = slice_get_within nodes n x at in
          let t = there nodes p (omega (arith, low, last)) in
          let r = ih p 0 t.0 low t.1 in
          let q = ap (width_above (width_below k nodes)) e in omega (arith, r, q)

  none_found : (i : Inst) → IsFound alphas nodes [] i → ⊥
  none_found i f = by i.tags is.all is.long (f.node.parent) refl
    where
      is : IsToken [] (left_width nodes f.node.parent) i.tags
      is = left_are_tokens [] alphas nodes f.n f.node f.at i.tags (λ z. absurd (omega (arith, f.stands, z)))

      no_join : (q : Kind) → q ≡ Terminal i.rule → is_join q ≡ true → ⊥
      no_join Join e j = cc
      no_join Negated e j = cc
      no_join (Group g w q) e j = cc
      no_join (Terminal rule) e j = cc

      by : (t : List ℕ) → AllByRecursion (IsIn []) t → length t ≡ left_width nodes f.node.parent → (p : Option ℕ) → f.node.parent ≡ p → ⊥
      by (x ∷ t) all long p e = let bad = all.0.1 in cc
      by [] all long None e = no_join f.node.kind f.kind ((sound.each f.n f.node f.at).root e)
      by [] all long (Some p) e =
          let low = (sound.each f.n f.node f.at).parent p e in
          let last = slice_get_within nodes f.n f.node f.at in
          let t = there nodes p (omega (arith, low, last)) in
          let r = wide (suc p) p t.0 (omega arith) t.1 in
          let q = ap (left_width nodes) e in absurd (omega (arith, r, q, long))

  no_members : (xs : List Inst) → ((i : Inst) → IsMember i xs → ⊥) → xs ≡ []
  no_members [] none = refl
  no_members (i ∷ xs) none = absurd (none i (inl refl))

  pub found_none : found_over alphas nodes [] ≡ []
  found_none = no_members (found_over alphas nodes []) (λ i m. none_found i (((found_law alphas nodes [] sound nothing).0 i).0 (contains_from_member i (found_over alphas nodes []) m)))
    where
      nothing : HasRisingTags []
      nothing = λ k within. absurd (omega arith)
