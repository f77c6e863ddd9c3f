-- A task that fits has its line by the elements that the store holds.
use Rattle.std.proofs.Common.{◌≡◌, ℕ, ◌<◌, ◌%◌, Bool, true, false, cond, List, [], ◌∷◌, map, fold, length, refl, sym, ap, ap₂, subst, ◌∙◌, arith, slice_get, slice_index, Option, Some, None, IsSome}
use Rattle.std.specs.List.{All, AllByRecursion}
use Rattle.std.proofs.lemmas.List.Elements.{All-get_or, recursion_from_All}
use Rattle.ops_base.specs.declared.elements.Element.{Element}
use Rattle.work_store.specs.Stored.{Stored, held_of}
use Rattle.net_base.specs.declared.nodes.Alpha.{Alpha}
use Rattle.net_base.specs.declared.nodes.JoinTest.{JoinTest}
use Rattle.net_base.specs.declared.nodes.Kind.{Kind}
use Rattle.net_base.specs.declared.nodes.Kind.TheVariants.{Join, Negated, Group, Terminal}
use Rattle.net_base.specs.declared.nodes.Node.{Node}
use Rattle.net_base.specs.declared.tasks.Side.{Side}
use Rattle.net_base.specs.declared.tasks.Side.TheVariants.{Left, Right}
use Rattle.net_base.specs.declared.tasks.Task.{Task}
use Rattle.net_base.specs.Sound.{IsSound}
use Rattle.net_base.specs.Tokens.{Elements, field_in}
use Rattle.token_line.specs.Held.{Agrees, TaskFits, is_wide}
use Rattle.token_line.proofs.Fitting.{left_length, node_of, one_length}
use Rattle.token_line.specs.Numbers.{value_code, mixed, is_equal, equalities, own_value, own_codes, codes_at, code_of, line_number, kept_at, kept_codes}

module _ (s : Stored) (elements : Elements) (agrees : Agrees s elements) where
  pub same_element : (tag : ℕ) → IsSome (held_of s tag) → elements tag ≡ held_of s tag
  same_element tag is = by (held_of s tag) refl is
    where
      by : (o : Option Element) → held_of s tag ≡ o → IsSome o → elements tag ≡ o
      by None at some = absurd (cc)
      by (Some e) at some = agrees tag e at

  module _ (t : List ℕ) (held : All (λ tag. IsSome (held_of s tag)) t) where
    at_place : (place : ℕ) → place < length t → elements (slice_index t place) ≡ held_of s (slice_index t place)
    at_place place low = same_element (slice_index t place) (All-get_or (λ tag. IsSome (held_of s tag)) t place 0 low held)

    -- the tests look at places of the token
    left_codes : (tests : List JoinTest) → AllByRecursion (λ j. j.place < length t) tests
        → map (λ j. value_code (own_value elements Left t j)) (equalities tests) ≡ map (λ j. value_code (own_value (held_of s) Left t j)) (equalities tests)
    left_codes [] low = refl
    left_codes (j ∷ js) low = by (left_codes js low.1) (is_equal j.pred)
      where
        codes : Elements → List JoinTest → List ℕ
        codes els tests = map (λ j. value_code (own_value els Left t j)) tests

        by : codes elements (equalities js) ≡ codes (held_of s) (equalities js) → (b : Bool) → codes elements (cond b (j ∷ equalities js) (equalities js)) ≡ codes (held_of s) (cond b (j ∷ equalities js) (equalities js))
        by rest true = ap₂ (λ a b. a ∷ b) (ap (λ e. value_code (field_in e j.other)) (at_place j.place low.0)) rest
        by rest false = rest

    right_codes : (tests : List JoinTest) → 0 < length t
        → map (λ j. value_code (own_value elements Right t j)) tests ≡ map (λ j. value_code (own_value (held_of s) Right t j)) tests
    right_codes [] some = refl
    right_codes (j ∷ js) some = ap₂ (λ a b. a ∷ b) (ap (λ e. value_code (field_in e j.field)) (at_place 0 some)) (right_codes js some)

    own_codes_same : (nodes : List Node) (x : Node) (k : Kind) (side : Side) → is_wide nodes (record x { kind = k }) side t ≡ true → (is_wide nodes (record x { kind = k }) Left t ≡ true → AllByRecursion (λ j. j.place < length t) x.joins)
        → own_codes elements k x.joins side t ≡ own_codes (held_of s) k x.joins side t
    own_codes_same nodes x Join Left width low = left_codes x.joins (low width)
    own_codes_same nodes x Join Right width low = right_codes (equalities x.joins) (omega (arith, one_length Join t refl width))
    own_codes_same nodes x Negated Left width low = left_codes x.joins (low width)
    own_codes_same nodes x Negated Right width low = right_codes (equalities x.joins) (omega (arith, one_length Negated t refl width))
    own_codes_same nodes x (Group giver w members) side width low = refl
    own_codes_same nodes x (Terminal rule) side width low = refl

    kept_codes_same : (nodes : List Node) (x : Node) (k : Kind) (side : Side) → is_wide nodes (record x { kind = k }) side t ≡ true → (is_wide nodes (record x { kind = k }) Left t ≡ true → AllByRecursion (λ j. j.place < length t) x.joins)
        → kept_codes elements k x.joins side t ≡ kept_codes (held_of s) k x.joins side t
    kept_codes_same nodes x Join side width low = own_codes_same nodes x Join side width low
    kept_codes_same nodes x Negated side width low = own_codes_same nodes x Negated side width low
    kept_codes_same nodes x (Group giver w members) side width low = refl
    kept_codes_same nodes x (Terminal rule) side width low = refl

  module _ (alphas : List Alpha) (nodes : List Node) (sound : IsSound alphas nodes) (x : Task) (fits : TaskFits nodes s x) where
    its_node : (node : Node) × (slice_get nodes x.node ≡ Some node)
    its_node = node_of nodes s x.node x.side x.token fits

    low : is_wide nodes its_node.0 Left x.token ≡ true → AllByRecursion (λ j. j.place < length x.token) its_node.0.joins
    low width =
        subst (λ n. AllByRecursion (λ j. j.place < n) its_node.0.joins) (sym (left_length nodes its_node.0 x.token width))
        (recursion_from_All _ its_node.0.joins (sound.each x.node its_node.0 its_node.1).places)

    -- its code is the same
    pub one_code : code_of elements nodes x.node x.side x.token ≡ code_of (held_of s) nodes x.node x.side x.token
    one_code =
        ap (λ codes. fold mixed x.node codes)
        (ap (λ o. kept_at elements o x.side x.token) its_node.1
        ∙ (kept_codes_same x.token fits.held nodes its_node.0 its_node.0.kind x.side (fits.width its_node.0 its_node.1) low ∙ ap (λ o. kept_at (held_of s) o x.side x.token) (sym its_node.1)))

    place_at : (lines : ℕ) → line_number elements nodes lines x.node x.side x.token ≡ line_number (held_of s) nodes lines x.node x.side x.token
    place_at lines =
        ap (λ o. fold mixed x.node (codes_at elements o x.side x.token) % lines) its_node.1
        ∙ (ap (λ codes. fold mixed x.node codes % lines) (own_codes_same x.token fits.held nodes its_node.0 its_node.0.kind x.side (fits.width its_node.0 its_node.1) low)
        ∙ ap (λ o. fold mixed x.node (codes_at (held_of s) o x.side x.token) % lines) (sym its_node.1))

  pub one_place : (alphas : List Alpha) (nodes : List Node) → IsSound alphas nodes → (lines : ℕ) (x : Task) → TaskFits nodes s x
      → line_number elements nodes lines x.node x.side x.token ≡ line_number (held_of s) nodes lines x.node x.side x.token
  one_place alphas nodes sound lines x fits = place_at alphas nodes sound x fits lines
