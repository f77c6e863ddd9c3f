-- Where no element is present, a valid program has no instantiation.
use Rattle.std.proofs.Common.{◌≡◌, ℕ, zero, suc, List, [], ◌∷◌, Bool, true, false, not, Some, None, refl, ap, sym, ◌∙◌, inl}
use Rattle.std.specs.Prelude.{IsTrue, ◌&&◌, nat_le, length, map, slice_get, Contains}
use Rattle.std.specs.Bool.{MatchBool}
use Rattle.std.specs.List.{list_all}
use Rattle.std.proofs.lemmas.Bool.{and_parts}
use Rattle.ops_base.specs.declared.elements.Class.{Class}
use Rattle.ops_base.specs.declared.elements.Element.{Element}
use Rattle.ops_base.specs.declared.conditions.Part.{Part}
use Rattle.ops_base.specs.declared.conditions.Part.TheVariants.{One, Group}
use Rattle.ops_base.specs.declared.matching.Binding.{Binding}
use Rattle.ops_base.specs.declared.rules.Rule.{Rule}
use Rattle.ops_base.specs.declared.rules.Inst.{Inst}
use Rattle.ops_base.specs.declared.commands.Command.{Command}
use Rattle.ops_base.specs.Matching.{match_of}
use Rattle.ops_base.specs.Instances.{Meets, IsInst, IsConflictSet}
use Rattle.ops_base.specs.Valid.{longest_list, fits, are_distinct, is_valid, class_is_valid, rule_is_valid, template_is_valid, command_is_valid, rule_builds_from, command_builds_from, first_is_positive}
use Rattle.ops_base.proofs.Members.{contains_from_member, member_from_contains}

-- a positive condition is met by no element
first_not_met : (parts : List Part) (tags : List ℕ) → first_is_positive parts ≡ true → Meets [] parts [] tags → ⊥
first_not_met [] tags positive meets = cc
first_not_met (Group cs ∷ parts) tags positive meets = cc
first_not_met (One c ∷ parts) tags positive meets = by c.negated positive meets
  where
    by : (b : Bool) → not b ≡ true
        → MatchBool b (((e : Element) → Contains [] e → match_of c e [] ≡ None) × Meets [] parts [] tags)
        ((e : Element) × (next : List Binding) × (rest : List ℕ) × Contains [] e × (match_of c e [] ≡ Some next) × (tags ≡ e.tag ∷ rest) × Meets [] parts next rest)
        → ⊥
    by true positive meets = cc
    by false positive meets = member_from_contains meets.0 [] meets.3

-- what all pass, the one at a place passes
passes_at : (p : Rule → Bool) (rules : List Rule) (n : ℕ) (r : Rule) → list_all p rules ≡ true → slice_get rules n ≡ Some r → p r ≡ true
passes_at p [] n r all there = cc
passes_at p (s ∷ rules) zero r all there =
    let same : s ≡ r = cc in ap p (sym same) ∙ (and_parts (p s) (list_all p rules) all).0
passes_at p (s ∷ rules) (suc n) r all there = passes_at p rules n r (and_parts (p s) (list_all p rules) all).1 there

-- the part before the last six
before_six : (front part a b c d e f : Bool) → (front && part && a && b && c && d && e && f) ≡ true → part ≡ true
before_six front part a b c d e f h =
    let third = (and_parts (front && part && a && b && c) d (and_parts (front && part && a && b && c && d) e (and_parts (front && part && a && b && c && d && e) f h).0).0).0 in
    (and_parts front part (and_parts (front && part) a (and_parts (front && part && a) b (and_parts (front && part && a && b) c third).0).0).0).1

rules_valid : (classes : List Class) (rules templates : List Rule) (commands : List Command) (text : ℕ) → IsTrue (is_valid classes rules templates commands text) → list_all (rule_is_valid classes text) rules ≡ true
rules_valid classes rules templates commands text valid =
    before_six (fits classes && fits commands && nat_le text longest_list && list_all class_is_valid classes)
    (list_all (rule_is_valid classes text) rules) (list_all (template_is_valid classes text) templates) (list_all (command_is_valid classes text) commands)
    (list_all (rule_builds_from (length templates)) rules) (list_all (command_builds_from (length templates)) commands)
    (are_distinct (map (λ c. c.name.0) classes)) (are_distinct (map (λ r. r.name.0) rules)) valid

begins_positive : (classes : List Class) (text : ℕ) (r : Rule) → rule_is_valid classes text r ≡ true → first_is_positive r.conditions ≡ true
begins_positive classes text r valid = by (first_is_positive r.conditions) refl
  where
    by : (b : Bool) → first_is_positive r.conditions ≡ b → first_is_positive r.conditions ≡ true
    by true e = e
    by false e = let none = rw e at valid in cc

no_inst : (classes : List Class) (rules templates : List Rule) (commands : List Command) (text : ℕ) (i : Inst) → IsTrue (is_valid classes rules templates commands text) → IsInst rules [] i → ⊥
no_inst classes rules templates commands text i valid is =
    let rule = passes_at (rule_is_valid classes text) rules i.rule is.0 (rules_valid classes rules templates commands text valid) is.1 in
    first_not_met is.0.conditions i.tags (begins_positive classes text is.0 rule) is.2

pub nothing_found : (classes : List Class) (rules templates : List Rule) (commands : List Command) (text : ℕ) (found : List Inst) → IsTrue (is_valid classes rules templates commands text)
    → IsConflictSet rules [] found → found ≡ []
nothing_found classes rules templates commands text [] valid is = refl
nothing_found classes rules templates commands text (i ∷ found) valid is =
    absurd (no_inst classes rules templates commands text i valid (is.sound i (contains_from_member i (i ∷ found) (inl refl))))
