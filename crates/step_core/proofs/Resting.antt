-- Lines at rest are as well counted, and placed, for any other store that holds working memory.
use Rattle.std.proofs.Common.{◌≡◌, ◌≢◌, ℕ, zero, suc, ◌+◌, ◌^◌, ◌==◌, Bool, true, false, List, [], ◌∷◌, length, map, ℤ, pos, negsuc, refl, sym, ap, subst, ◌∙◌, arith, get_or, slice_get, Option, Some, None, IsSome}
use Rattle.std.specs.List.{AllByRecursion}
use Rattle.std.specs.Option.{option_map, option_or}
use Rattle.std.proofs.lemmas.Int.{ints}
use Rattle.std.proofs.lemmas.Bool.Decides.{Decides-eqb}
use Rattle.std.proofs.lemmas.List.Elements.{All-from_recursion}
use Rattle.std.proofs.lemmas.Option.{slice_get-map, slice_get-get_or}
use Rattle.ops_base.specs.declared.elements.Element.{Element}
use Rattle.work_store.specs.Stored.{Stored, held_of, of_tag}
use Rattle.net_base.specs.declared.nodes.Alpha.{Alpha}
use Rattle.net_base.specs.declared.nodes.Kind.{Kind}
use Rattle.net_base.specs.declared.nodes.Kind.TheVariants.{Join, Negated, Group, Terminal}
use Rattle.net_base.specs.declared.nodes.Node.{Node}
use Rattle.net_base.specs.declared.tasks.Side.{Side}
use Rattle.net_base.specs.declared.tasks.Side.TheVariants.{Left, Right}
use Rattle.net_base.specs.Sound.{IsSound, takes_elements, width}
use Rattle.net_base.specs.Tokens.{given, given_in, giver_of_kind, left_giver, right_giver, memory_gives, tokens, right_tokens, goes_with, right_width}
use Rattle.token_line.specs.declared.line.Line.{Line}
use Rattle.token_line.specs.Bags.{Bag, standing_at}
use Rattle.token_line.specs.Held.{Agrees, Fits, is_right_wide}
use Rattle.token_line.proofs.Fitting.{fits_at, left_is_wide}
use Rattle.token_line.specs.Lines.{sum_in}
use Rattle.token_line.specs.Numbers.{code_of}
use Rattle.token_line.proofs.Filed.{filed_stands}
use Rattle.activation.specs.Acting.{IsCounted, matching}
use Rattle.activation.proofs.Agreed.{IsHeld}
use Rattle.activation.proofs.Acted.{giver_wide}
use Rattle.activation.proofs.AtNode.{both_go}
use Rattle.activation.proofs.CountBelow.{count_same}
use Rattle.activation.proofs.JoinChange.{agreed}
use Rattle.activation.proofs.PutOutLemmas.{standing_some}
use Rattle.step_core.specs.Machine.{Placing}
use Rattle.step_core.specs.Phases.{total, HoldJust, sums_over, now}
use Rattle.step_core.specs.Worlds.{placed, seen}
use Rattle.step_core.proofs.Named.{IsIn, IsToken, group_tokens, left_are_tokens, right_are_tokens}
use Rattle.step_core.proofs.Placed.{one_code, one_place}
use Rattle.step_core.specs.Settling.{HoldsWm, RestLaw}

-- ---- one line alone has what stands

all_none : (n : ℕ) (s : Side) (t : List ℕ) (bags : List Bag) → ((j : ℕ) (d : Bag) → slice_get bags j ≡ Some d → d n s t ≡ pos 0) → total bags n s t ≡ pos 0
all_none n s t [] none = refl
all_none n s t (b ∷ bs) none =
    let z = none zero b refl in
    let r = all_none n s t bs (λ j d at. none (suc j) d at) in omega (arith, ints, z, r)

pub only_here : (n : ℕ) (s : Side) (t : List ℕ) (bags : List Bag) (i : ℕ) (c : Bag) → slice_get bags i ≡ Some c
    → ((j : ℕ) (d : Bag) → slice_get bags j ≡ Some d → j ≢ i → d n s t ≡ pos 0) → total bags n s t ≡ c n s t
only_here n s t [] i c at off = absurd (cc)
only_here n s t (b ∷ bs) zero c at off =
    let same : b ≡ c = cc in
    let a = ap (λ (d : Bag). d n s t) same in
    let z = all_none n s t bs (λ j d at'. off (suc j) d at' (λ e. absurd (omega arith))) in omega (arith, ints, a, z)
only_here n s t (b ∷ bs) (suc i) c at off =
    let z = off zero b refl (λ e. absurd (omega arith)) in
    let r = only_here n s t bs i c at (λ j d at' ne. off (suc j) d at' (λ e. ne (omega arith))) in omega (arith, ints, z, r)

module _ (line : Placing) (b : Bag) (bags : List Bag) (hold : HoldJust line b bags) where
  -- a token that a line has is of that line, and stands so often
  pub record IsHere (i : ℕ) (c : Bag) (n : ℕ) (s : Side) (t : List ℕ) : Type 0 where
    pub home : line n s t ≡ i
    pub stands : b n s t ≡ c n s t

  pub here : (i : ℕ) (c : Bag) → slice_get bags i ≡ Some c → (n : ℕ) (s : Side) (t : List ℕ) → c n s t ≢ pos 0 → IsHere i c n s t
  here i c at n s t some = by (line n s t == i) refl
    where
      by : (v : Bool) → (line n s t == i) ≡ v → IsHere i c n s t
      by false q = absurd (some (hold.apart i c at n s t (λ e. let h = (Decides-eqb (line n s t) i).1 e in absurd (cc))))
      by true q =
          let e : line n s t ≡ i = (Decides-eqb (line n s t) i).0 q in
          record { home = e; stands = sym (hold.all n s t) ∙ only_here n s t bags i c at (λ j d at' ne. hold.apart j d at' n s t (λ f. ne (sym f ∙ e))) }

  pub hold_moves : (other : Placing) → ((n : ℕ) (s : Side) (t : List ℕ) → b n s t ≢ pos 0 → line n s t ≡ other n s t) → HoldJust other b bags
  hold_moves other same = record {
    all = hold.all;
    apart = λ i c at n s t off. by i c at n s t off (c n s t) refl;
  }
    where
      wrong : (i : ℕ) (c : Bag) → slice_get bags i ≡ Some c → (n : ℕ) (s : Side) (t : List ℕ) → other n s t ≢ i → c n s t ≢ pos 0 → ⊥
      wrong i c at n s t off some = let h = here i c at n s t some in off (sym (same n s t (λ z. some (sym h.stands ∙ z))) ∙ h.home)

      by : (i : ℕ) (c : Bag) → slice_get bags i ≡ Some c → (n : ℕ) (s : Side) (t : List ℕ) → other n s t ≢ i → (v : ℤ) → c n s t ≡ v → c n s t ≡ pos 0
      by i c at n s t off (pos zero) e = e
      by i c at n s t off (pos (suc k)) e = absurd (wrong i c at n s t off (λ z. absurd (omega (arith, ints, e, z))))
      by i c at n s t off (negsuc k) e = absurd (wrong i c at n s t off (λ z. absurd (omega (arith, ints, e, z))))

-- ---- what stands fits each store that holds working memory

module _ (alphas : List Alpha) (nodes : List Node) (wm : List Element) where
  module _ (s : Stored) (holds : HoldsWm wm s) where
    held_in : (tag : ℕ) → IsIn wm tag → IsHeld s tag
    held_in tag i = subst IsSome (sym (holds tag i.0 i.1)) refl

    all_held : (t : List ℕ) → AllByRecursion (IsIn wm) t → AllByRecursion (λ tag. IsSome (held_of s tag)) t
    all_held [] a = tt
    all_held (x ∷ t) a = (held_in x a.0, all_held t a.1)

    fits_of : IsSound alphas nodes → (n : ℕ) (side : Side) (t : List ℕ) → sums_over wm alphas nodes n side t ≢ pos 0 → Fits nodes s n side t
    fits_of sound n Left t some = by (slice_get nodes n) refl
      where
        by : (o : Option Node) → slice_get nodes n ≡ o → Fits nodes s n Left t
        by None at = absurd (some (ap (λ o. pos (given_in wm alphas nodes left_giver o t)) at))
        by (Some x) at =
            let is = left_are_tokens wm alphas nodes n x at t (λ z. some (ap pos z)) in
            fits_at nodes s n x at Left t (left_is_wide nodes x t is.long) (All-from_recursion (λ tag. IsSome (held_of s tag)) t (all_held t is.all))
    fits_of sound n Right t some = by (slice_get nodes n) refl
      where
        by : (o : Option Node) → slice_get nodes n ≡ o → Fits nodes s n Right t
        by None at = absurd (some (ap (λ o. pos (given_in wm alphas nodes right_giver o t)) at))
        by (Some x) at = by_kind x.kind refl
          where
            there : right_tokens wm alphas nodes n t ≢ 0
            there z = some (ap pos z)

            fitting : (m : ℕ) → IsToken wm m t → is_right_wide x.kind t ≡ true → Fits nodes s n Right t
            fitting m is wide = fits_at nodes s n x at Right t wide (All-from_recursion (λ tag. IsSome (held_of s tag)) t (all_held t is.all))

            by_kind : (k : Kind) → x.kind ≡ k → Fits nodes s n Right t
            by_kind Join q =
                let is = right_are_tokens wm alphas nodes n x at (ap takes_elements q) t there in
                fitting 1 is (subst (λ k. is_right_wide k t ≡ true) (sym q) ((Decides-eqb (length t) 1).1 is.long))
            by_kind Negated q =
                let is = right_are_tokens wm alphas nodes n x at (ap takes_elements q) t there in
                fitting 1 is (subst (λ k. is_right_wide k t ≡ true) (sym q) ((Decides-eqb (length t) 1).1 is.long))
            by_kind (Group g w m) q =
                let is = group_tokens wm alphas nodes n x at g w m q t there in
                fitting (width nodes g) is (subst (λ k. is_right_wide k t ≡ true) (sym q) ((Decides-eqb (length t) (w + m)).1 (is.long ∙ giver_wide alphas nodes sound n x at g w m q)))
            by_kind (Terminal rule) q = absurd (there (ap (λ o. given_in wm alphas nodes right_giver o t) at ∙ ap (λ k. given (giver_of_kind k) (memory_gives wm (slice_get alphas x.alpha)) (tokens wm alphas nodes) t) q))

  -- the store of working memory alone
  abbrev alone : Stored
  alone = record { elements = wm; kept = []; last = 0 }

  alone_holds : HoldsWm wm alone
  alone_holds tag e at = ap (λ o. option_or o None) at

  alone_has : (tag : ℕ) → held_of alone tag ≡ of_tag wm tag
  alone_has tag = by (of_tag wm tag)
    where
      by : (o : Option Element) → option_or o None ≡ o
      by None = refl
      by (Some e) = refl

  agrees : (s : Stored) → HoldsWm wm s → Agrees alone (held_of s)
  agrees s holds tag e at = holds tag e (sym (alone_has tag) ∙ at)

  module _ (sound : IsSound alphas nodes) where
    places : (s : Stored) → HoldsWm wm s → (lines n : ℕ) (side : Side) (t : List ℕ) → sums_over wm alphas nodes n side t ≢ pos 0
        → placed (held_of s) nodes lines n side t ≡ placed (held_of alone) nodes lines n side t
    places s holds lines n side t some =
        one_place alone (held_of s) (agrees s holds) alphas nodes sound lines (record { node = n; side = side; plus = true; token = t }) (fits_of alone alone_holds sound n side t some)

    codes : (s : Stored) → HoldsWm wm s → (n : ℕ) (side : Side) (t : List ℕ) → sums_over wm alphas nodes n side t ≢ pos 0
        → code_of (held_of s) nodes n side t ≡ code_of (held_of alone) nodes n side t
    codes s holds n side t some =
        one_code alone (held_of s) (agrees s holds) alphas nodes sound (record { node = n; side = side; plus = true; token = t }) (fits_of alone alone_holds sound n side t some)

    module _ (l : Line) (stand : (n : ℕ) (side : Side) (t : List ℕ) → sum_in l n side t ≢ pos 0 → sums_over wm alphas nodes n side t ≢ pos 0) where
      matches : (s : Stored) → HoldsWm wm s → (n : ℕ) (x : Node) (t : List ℕ) → slice_get nodes n ≡ Some x → sum_in l n Left t ≢ pos 0
          → matching (held_of s) x (sum_in l) n t ≡ matching (held_of alone) x (sum_in l) n t
      matches s holds n x t at some =
          count_same (2 ^ 64) (right_width x.kind) (goes_with x.kind x.joins (held_of s) t) (goes_with x.kind x.joins (held_of alone) t) (standing_at (sum_in l) n Right) (standing_at (sum_in l) n Right) []
          (λ v. sym (agreed (goes_with x.kind x.joins (held_of s) t v) (goes_with x.kind x.joins (held_of alone) t v) (standing_at (sum_in l) n Right v)
          (λ stood. both_go nodes alone n x at alphas sound (held_of s) (agrees s holds) t v (fits_of alone alone_holds sound n Left t (stand n Left t some))
          (fits_of alone alone_holds sound n Right v (stand n Right v (standing_some (sum_in l n Right v) stood))))))

      counted_moves : (s s' : Stored) → HoldsWm wm s → HoldsWm wm s' → IsCounted nodes s l → IsCounted nodes s' l
      counted_moves s s' holds holds' counted = record {
        told = counted.told;
        fit = λ n side t some. fits_of s' holds' sound n side t (stand n side t some);
        counts = λ n x t at negated some. counted.counts n x t at negated some ∙ (matches s holds n x t at some ∙ sym (matches s' holds' n x t at some));
        filed = λ n c side t has.
            let some = stand n side t (filed_stands l n c side t has) in
            counted.filed n c side t has ∙ (codes s holds n side t some ∙ sym (codes s' holds' n side t some));
      }

pub rest_law : RestLaw
rest_law alphas nodes wm s s' ls sound lines holds holds' counted hold = (
  (λ i d lt. counted_moves alphas nodes wm sound (get_or ls i d)
      (λ n side t some.
      let h = here (placed (held_of s) nodes (length ls)) (sums_over wm alphas nodes) (map now (map seen ls)) hold i (now (seen (get_or ls i d)))
      (slice_get-map now (map seen ls) i ∙ ap (option_map now) (slice_get-map seen ls i ∙ ap (option_map seen) (slice_get-get_or ls i d lt))) n side t some in
      (λ z. some (sym h.stands ∙ z)))
      s s' holds holds' (counted i d lt)),
  hold_moves (placed (held_of s) nodes (length ls)) (sums_over wm alphas nodes) (map now (map seen ls)) hold (placed (held_of s') nodes (length ls))
      (λ n side t some. places alphas nodes wm sound s holds (length ls) n side t some ∙ sym (places alphas nodes wm sound s' holds' (length ls) n side t some)),
)
