-- The number of a variable by its place, and a new number there.
use Rattle.std.proofs.Common.{◌≡◌, ℕ, zero, suc, ◌==◌, Bool, true, false, cond, List, [], ◌∷◌, ◌++◌, Option, Some, None, option_map, refl, ap, sym, ◌∙◌, position, slice_get, slice_set}
use Rattle.std.proofs.lemmas.Bool.{eqb-true}
use Rattle.ops_base.specs.declared.values.Sym.{Sym}
use Rattle.ops_grammar.specs.declared.words.Named.{Named}
use Rattle.ops_grammar.specs.Grammar.{number_of, renumbered}
use Rattle.ops_forms.proofs.Firsts.{position-cons}

pub number_unnamed : (name : Sym) (ns : List Named) → position (λ n. n.name.0 == name.0) ns ≡ None → number_of name ns ≡ None
number_unnamed name [] e = refl
number_unnamed name (n ∷ ns) e = by (n.name.0 == name.0) (position (λ n. n.name.0 == name.0) ns) (sym (position-cons (λ n. n.name.0 == name.0) n ns) ∙ e) (number_unnamed name ns)
  where
    by : (b : Bool) (o : Option ℕ) → cond b (Some 0) (option_map suc o) ≡ None → (o ≡ None → number_of name ns ≡ None) → cond b (Some n.number) (number_of name ns) ≡ None
    by true o e ih = absurd (cc)
    by false (Some k) e ih = absurd (cc)
    by false None e ih = ih refl

named_by : (name : Sym) (n m : Named) (ns : List Named) (b : Bool) (o : Option ℕ) (k : ℕ) → ((j : ℕ) → o ≡ Some j → slice_get ns j ≡ Some m → number_of name ns ≡ Some m.number) → cond b (Some 0) (option_map suc o) ≡ Some k → slice_get (n ∷ ns) k ≡ Some m → cond b (Some n.number) (number_of name ns) ≡ Some m.number
named_by name n m ns true o zero ih e at = ap (option_map (λ (x : Named). x.number)) at
named_by name n m ns true o (suc k) ih e at = absurd (cc)
named_by name n m ns false (Some j) zero ih e at = absurd (cc)
named_by name n m ns false (Some j) (suc k) ih e at = let same : j ≡ k = cc in ih j refl (rw same at)
named_by name n m ns false None k ih e at = absurd (cc)

pub number_named : (name : Sym) (ns : List Named) (k : ℕ) (m : Named) → position (λ n. n.name.0 == name.0) ns ≡ Some k → slice_get ns k ≡ Some m → number_of name ns ≡ Some m.number
number_named name [] k m e at = absurd (cc)
number_named name (n ∷ ns) k m e at =
    named_by name n m ns (n.name.0 == name.0) (position (λ n. n.name.0 == name.0) ns) k (λ j here there. number_named name ns j m here there) (sym (position-cons (λ n. n.name.0 == name.0) n ns) ∙ e) at

-- a name that is not there comes last
pub renumbered_last : (name : Sym) (number : ℕ) (ns : List Named) → position (λ n. n.name.0 == name.0) ns ≡ None → ns ++ record { name = name; number = number } ∷ [] ≡ renumbered name number ns
renumbered_last name number [] e = refl
renumbered_last name number (n ∷ ns) e = by (n.name.0 == name.0) (position (λ n. n.name.0 == name.0) ns) (sym (position-cons (λ n. n.name.0 == name.0) n ns) ∙ e) (renumbered_last name number ns)
  where
    by : (b : Bool) (o : Option ℕ) → cond b (Some 0) (option_map suc o) ≡ None → (o ≡ None → ns ++ record { name = name; number = number } ∷ [] ≡ renumbered name number ns)
        → n ∷ (ns ++ record { name = name; number = number } ∷ []) ≡ cond b (record n { number = number } ∷ ns) (n ∷ renumbered name number ns)
    by true o e ih = absurd (cc)
    by false (Some k) e ih = absurd (cc)
    by false None e ih = ap (λ ms. n ∷ ms) (ih refl)

renumbered_by : (name : Sym) (number : ℕ) (n : Named) (ns : List Named) (b : Bool) (o : Option ℕ) (k : ℕ) → (n.name.0 == name.0) ≡ b → ((j : ℕ) → o ≡ Some j → slice_set ns j (record { name = name; number = number }) ≡ renumbered name number ns)
    → cond b (Some 0) (option_map suc o) ≡ Some k → slice_set (n ∷ ns) k (record { name = name; number = number }) ≡ cond b (record n { number = number } ∷ ns) (n ∷ renumbered name number ns)
renumbered_by name number n ns true o zero is ih e = ap (λ x. record { name = record { 0 = x }; number = number } ∷ ns) (sym (eqb-true n.name.0 name.0 is))
renumbered_by name number n ns true o (suc k) is ih e = absurd (cc)
renumbered_by name number n ns false (Some j) zero is ih e = absurd (cc)
renumbered_by name number n ns false (Some j) (suc k) is ih e = let same : j ≡ k = cc in ap (λ ms. n ∷ ms) (rw (sym same) (ih j refl))
renumbered_by name number n ns false None k is ih e = absurd (cc)

-- a name that is there keeps its place
pub renumbered_at : (name : Sym) (number : ℕ) (ns : List Named) (k : ℕ) → position (λ n. n.name.0 == name.0) ns ≡ Some k → slice_set ns k (record { name = name; number = number }) ≡ renumbered name number ns
renumbered_at name number [] k e = absurd (cc)
renumbered_at name number (n ∷ ns) k e =
    renumbered_by name number n ns (n.name.0 == name.0) (position (λ n. n.name.0 == name.0) ns) k refl (λ j here. renumbered_at name number ns j here) (sym (position-cons (λ n. n.name.0 == name.0) n ns) ∙ e)
