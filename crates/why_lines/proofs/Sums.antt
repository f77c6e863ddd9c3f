-- How the lines of productions and of instantiations add up.
use Rattle.std.proofs.Common.{◌≡◌, ℕ, zero, suc, ◌+◌, ◌<◌, List, [], ◌∷◌, ◌++◌, length, map, drop, get_or, refl, ap, sym, ◌∙◌, inl, inr, append_assoc, arith}
use Rattle.std.proofs.lemmas.Grind.{flat_map-append}
use Rattle.std.proofs.lemmas.List.{drop_more}
use Rattle.ops_base.specs.declared.elements.Class.{Class}
use Rattle.ops_base.specs.declared.elements.Element.{Element}
use Rattle.ops_base.specs.declared.rules.Rule.{Rule}
use Rattle.ops_base.specs.Names.{Spellings}
use Rattle.ops_base.proofs.Members.{IsMember}
use Rattle.why.specs.Explaining.{explanation}
use Rattle.why_lines.specs.WhyLines.{rule_lines, lines_from, text_of}

some_rule : (rules : List Rule) (n : ℕ) → n < length rules → Rule
some_rule [] n lt = absurd (omega arith)
some_rule (r ∷ rs) n lt = r

text-append : (xs ys : List (List ℕ)) → text_of (xs ++ ys) ≡ text_of xs ++ text_of ys
text-append xs ys = flat_map-append (λ (l : List ℕ). l ++ 10 ∷ []) xs ys

-- one production more
pub rules_here : (names : Spellings) (classes : List Class) (rules : List Rule) (wm : List Element) (rule : ℕ) (text : List ℕ) → rule < length rules
    → text ++ text_of (lines_from names classes rules wm rule (drop rule rules)) ≡ (text ++ text_of (rule_lines names classes rules rule (explanation rules wm rule))) ++ text_of (lines_from names classes rules wm (rule + 1) (drop (rule + 1) rules))
rules_here names classes rules wm rule text lt =
    let here = rule_lines names classes rules rule (explanation rules wm rule) in
    let more = lines_from names classes rules wm (rule + 1) (drop (rule + 1) rules) in
    ap (λ (w : List Rule). text ++ text_of (lines_from names classes rules wm rule w)) (drop_more rules rule (some_rule rules rule lt) lt)
    ∙ ap (λ w. text ++ w) (text-append here more)
    ∙ sym (append_assoc text (text_of here) (text_of more))

module _ {X : Type 0} where
  -- one item more
  pub items_here : (f : X → List ℕ) (xs : List X) (i : ℕ) (x : X) (text : List ℕ) → i < length xs → x ≡ get_or xs i x
      → text ++ text_of (map f (drop i xs)) ≡ (text ++ (f x ++ 10 ∷ [])) ++ text_of (map f (drop (i + 1) xs))
  items_here f xs i x text lt is =
      ap (λ (w : List X). text ++ text_of (map f w)) (drop_more xs i x lt)
      ∙ ap (λ (y : X). text ++ ((f y ++ 10 ∷ []) ++ text_of (map f (drop (i + 1) xs)))) (sym is)
      ∙ sym (append_assoc text (f x ++ 10 ∷ []) (text_of (map f (drop (i + 1) xs))))

  -- an item is a member
  pub member_at : (xs : List X) (i : ℕ) (x : X) → i < length xs → x ≡ get_or xs i x → IsMember x xs
  member_at [] i x lt is = absurd (omega arith)
  member_at (y ∷ xs) zero x lt is = inl is
  member_at (y ∷ xs) (suc i) x lt is = inr (member_at xs i x (omega arith) is)
