-- The lines that hold what the root gives to all nodes are those of the machine's start.
use Rattle.std.proofs.Common.{◌≡◌, ℕ, zero, suc, ◌%◌, ◌<◌, ◌≤◌, Bool, true, false, cond, ◌&&◌, ◌==◌, nat_lt, List, [], ◌∷◌, ◌++◌, map, take, length, get_or, pos, fold, refl, sym, ap, ap₂, ◌∙◌, arith}
use Rattle.std.specs.List.{All}
use Rattle.std.proofs.lemmas.Bool.Decides.{nat_tests}
use Rattle.std.proofs.lemmas.List.{map-append, take_all}
use Rattle.std.proofs.lemmas.Option.{slice_get_within, slice_get-get_or}
use Rattle.std.proofs.Math.Seq.{take-suc}
use Rattle.work_store.specs.Stored.{Stored}
use Rattle.net_base.specs.declared.nodes.Alpha.{Alpha}
use Rattle.net_base.specs.declared.nodes.Kind.{Kind}
use Rattle.net_base.specs.declared.nodes.Kind.TheVariants.{Join, Negated, Group, Terminal}
use Rattle.net_base.specs.declared.nodes.Node.{Node}
use Rattle.net_base.specs.declared.tasks.Side.{Side}
use Rattle.net_base.specs.declared.tasks.Side.TheVariants.{Left}
use Rattle.net_base.specs.Sound.{IsSound}
use Rattle.net_base.specs.Tokens.{Elements}
use Rattle.token_line.specs.declared.line.Entry.{Entry}
use Rattle.token_line.specs.declared.line.Line.{Line}
use Rattle.token_line.specs.Bags.{Bag}
use Rattle.token_line.specs.Lawful.{giver_of}
use Rattle.token_line.specs.Lines.{sum_in}
use Rattle.token_line.specs.Numbers.{codes_at, mixed, own_codes}
use Rattle.activation.specs.Acting.{IsCounted}
use Rattle.step_core.specs.Machine.{Seen, root_part, sums_at_start, on_line, lines_at_start}
use Rattle.step_core.specs.inner.Starts.{AreBegun, IsBegun, given_below}
use Rattle.step_core.specs.Worlds.{placed, seen}
use Rattle.step_core.proofs.Adding.{bag_ext}
use Rattle.step_core.proofs.Counted.{counted_begun}
use Rattle.step_core.proofs.RootTokens.{IsRootToken, root_tests, root_token}

-- ---- the line of the empty token at a child of the root

no_codes : (elements : Elements) (k : Kind) → own_codes elements k [] Left [] ≡ []
no_codes elements Join = refl
no_codes elements Negated = refl
no_codes elements (Group giver zero members) = refl
no_codes elements (Group giver (suc width) members) = refl
no_codes elements (Terminal rule) = refl

module _ (alphas : List Alpha) (nodes : List Node) (sound : IsSound alphas nodes) (elements : Elements) (lines : ℕ) where
  root_line : (n : ℕ) (s : Side) (t : List ℕ) → IsRootToken nodes n s t → placed elements nodes lines n s t ≡ n % lines
  root_line n s t is =
      ap₂ (λ d u. placed elements nodes lines n d u) is.left is.empty
      ∙ ap (λ codes. fold mixed n codes % lines) (ap (λ o. codes_at elements o Left []) is.at ∙ (ap (λ tests. own_codes elements is.node.kind tests Left []) (root_tests alphas nodes sound n s t is) ∙ no_codes elements is.node.kind))

  -- ---- what a line holds

  all_given : (i n : ℕ) (s : Side) (t : List ℕ) → given_below nodes lines (length nodes) i n s t ≡ on_line (placed elements nodes lines) i (sums_at_start nodes) n s t
  all_given i n s t = by (root_part (giver_of nodes n s) t) refl
    where
      some : (v : ℕ) → root_part (giver_of nodes n s) t ≡ suc v → (nat_lt n (length nodes) && (n % lines == i)) ≡ (placed elements nodes lines n s t == i)
      some v is =
          let token : IsRootToken nodes n s t = root_token alphas nodes sound n s t (λ e. let bad : root_part (giver_of nodes n s) t ≡ 0 = cc in absurd (omega (arith, bad, is))) in
          ap (λ b. b && (n % lines == i)) (yes (slice_get_within nodes n token.node token.at)) ∙ ap (λ j. j == i) (sym (root_line n s t token))
        where
          yes : n < length nodes → nat_lt n (length nodes) ≡ true
          yes low = grind (arith, nat_tests)

      by : (v : ℕ) → root_part (giver_of nodes n s) t ≡ v → given_below nodes lines (length nodes) i n s t ≡ on_line (placed elements nodes lines) i (sums_at_start nodes) n s t
      by zero is = zeros (nat_lt n (length nodes) && (n % lines == i)) (placed elements nodes lines n s t == i) (root_part (giver_of nodes n s) t) is
        where
          zeros : (a b : Bool) (z : ℕ) → z ≡ 0 → cond a (pos z) (pos 0) ≡ cond b (pos z) (pos 0)
          zeros true true z e = refl
          zeros true false z e = ap pos e
          zeros false true z e = ap pos (sym e)
          zeros false false z e = refl
      by (suc v) is = ap (λ b. cond b (pos (root_part (giver_of nodes n s) t)) (pos 0)) (some v is)

  seen_begun : (i : ℕ) (l : Line) → IsBegun nodes lines (length nodes) i l → seen l ≡ record { sums = on_line (placed elements nodes lines) i (sums_at_start nodes); entries = [] }
  seen_begun i l is =
      let make : Bag → List Entry → Seen = λ b es. record { sums = b; entries = es } in
      ap₂ make (bag_ext (sum_in l) (on_line (placed elements nodes lines) i (sums_at_start nodes)) (λ n s t. is.sums n s t ∙ all_given i n s t)) is.bare.0

  -- ---- all lines

  first : (ls : List Line) (d : Line) → AreBegun nodes lines (length nodes) ls → (i : ℕ) → i ≤ length ls → map seen (take i ls) ≡ lines_at_start nodes (placed elements nodes lines) i
  first ls d are zero low = refl
  first ls d are (suc i) low =
      ap (map seen) (take-suc ls i d (omega arith))
      ∙ (map-append seen (take i ls) (get_or ls i d ∷ [])
      ∙ ap₂ (λ a b. a ++ b ∷ []) (first ls d are i (omega arith)) (seen_begun i (get_or ls i d) (are.each i (get_or ls i d) (slice_get-get_or ls i d (omega arith)))))

  pub all_lines : (ls : List Line) → AreBegun nodes lines (length nodes) ls → map seen ls ≡ lines_at_start nodes (placed elements nodes lines) lines
  all_lines [] are = ap (lines_at_start nodes (placed elements nodes lines)) are.count
  all_lines (l ∷ ls) are =
      ap (map seen) (sym (take_all (length (l ∷ ls)) (l ∷ ls) (omega arith)))
      ∙ (first (l ∷ ls) l are (length (l ∷ ls)) (omega arith) ∙ ap (lines_at_start nodes (placed elements nodes lines)) are.count)

pub all_counted : (alphas : List Alpha) (nodes : List Node) → IsSound alphas nodes → (s : Stored) (lines bound : ℕ) (ls : List Line) → AreBegun nodes lines bound ls → All (IsCounted nodes s) ls
all_counted alphas nodes sound s lines bound ls are k d low = counted_begun alphas nodes sound s lines bound k (get_or ls k d) (are.each k (get_or ls k d) (slice_get-get_or ls k d low))
