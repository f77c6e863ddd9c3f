-- What the root gives: the empty token, to the left side of each of its children.
use Rattle.std.proofs.Common.{◌≡◌, ◌≢◌, ℕ, ◌<◌, true, List, [], ◌∷◌, pos, fold, slice_get, Option, Some, None, refl, ap, subst, ◌∙◌, arith}
use Rattle.std.specs.List.{AllByRecursion}
use Rattle.std.proofs.lemmas.List.Elements.{recursion_from_All}
use Rattle.net_base.specs.declared.nodes.Alpha.{Alpha}
use Rattle.net_base.specs.declared.nodes.Kind.{Kind}
use Rattle.net_base.specs.declared.nodes.Kind.TheVariants.{Join, Negated, Group, Terminal}
use Rattle.net_base.specs.declared.nodes.Node.{Node}
use Rattle.net_base.specs.declared.tasks.Side.{Side}
use Rattle.net_base.specs.declared.tasks.Side.TheVariants.{Left, Right}
use Rattle.net_base.specs.declared.nodes.JoinTest.{JoinTest}
use Rattle.net_base.specs.Sound.{IsSound, is_join, left_width}
use Rattle.net_base.specs.Tokens.{Elements, giver_of_parent, giver_of_kind}
use Rattle.token_line.specs.Numbers.{code_of, mixed, kept_at, kept_codes}
use Rattle.token_line.specs.Lawful.{giver_in, giver_of}
use Rattle.step_core.specs.Machine.{root_part}

-- the empty token at the left side of a child of the root, which is a join
pub record IsRootToken (nodes : List Node) (n : ℕ) (side : Side) (t : List ℕ) : Type 0 where
  pub node : Node
  pub at : slice_get nodes n ≡ Some node
  pub parent : node.parent ≡ None
  pub join : is_join node.kind ≡ true
  pub left : side ≡ Left
  pub empty : t ≡ []

-- the root gives nothing else
pub root_token : (alphas : List Alpha) (nodes : List Node) → IsSound alphas nodes → (n : ℕ) (side : Side) (t : List ℕ) → pos (root_part (giver_of nodes n side) t) ≢ pos 0 → IsRootToken nodes n side t
root_token alphas nodes sound n side t some = by (slice_get nodes n) refl side some
  where
    by_kind : (k : Kind) (side : Side) → pos (root_part (giver_of_kind k) t) ≢ pos 0 → IsRootToken nodes n side t
    by_kind Join side some = absurd (some refl)
    by_kind Negated side some = absurd (some refl)
    by_kind (Group giver width members) side some = absurd (some refl)
    by_kind (Terminal rule) side some = absurd (some refl)

    by_parent : (x : Node) → slice_get nodes n ≡ Some x → (p : Option ℕ) → x.parent ≡ p → (t : List ℕ) → pos (root_part (giver_of_parent p) t) ≢ pos 0 → IsRootToken nodes n Left t
    by_parent x at None is [] some = record { node = x; at = at; parent = is; join = (sound.each n x at).root is; left = refl; empty = refl }
    by_parent x at None is (y ∷ ys) some = absurd (some refl)
    by_parent x at (Some p) is t some = absurd (some refl)

    by : (o : Option Node) → slice_get nodes n ≡ o → (side : Side) → pos (root_part (giver_in o side) t) ≢ pos 0 → IsRootToken nodes n side t
    by None at side some = absurd (some refl)
    by (Some x) at Left some = by_parent x at x.parent refl t some
    by (Some x) at Right some = by_kind x.kind Right some

-- ---- its code

pub no_tests : (tests : List JoinTest) → AllByRecursion (λ j. j.place < 0) tests → tests ≡ []
no_tests [] low = refl
no_tests (j ∷ js) low = absurd (omega arith)

module _ (alphas : List Alpha) (nodes : List Node) (sound : IsSound alphas nodes) (n : ℕ) (side : Side) (t : List ℕ) (is : IsRootToken nodes n side t) where
  -- a child of the root has no tests
  pub root_tests : is.node.joins ≡ []
  root_tests =
      no_tests is.node.joins
      (subst (λ w. AllByRecursion (λ j. j.place < w) is.node.joins) (ap (left_width nodes) is.parent) (recursion_from_All _ is.node.joins (sound.each n is.node is.at).places))

  -- so its number is the code
  pub root_code : (elements : Elements) → code_of elements nodes n side t ≡ n
  root_code elements =
      ap (λ codes. fold mixed n codes)
      (ap (λ o. kept_at elements o side t) is.at ∙ (ap (λ tests. kept_codes elements is.node.kind tests side t) root_tests ∙ none is.node.kind is.join))
    where
      none : (k : Kind) → is_join k ≡ true → kept_codes elements k [] side t ≡ []
      none Join e = by side
        where
          by : (d : Side) → kept_codes elements Join [] d t ≡ []
          by Left = refl
          by Right = refl
      none Negated e = absurd (cc)
      none (Group giver width members) e = absurd (cc)
      none (Terminal rule) e = refl
