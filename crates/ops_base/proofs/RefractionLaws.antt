-- The tests of refraction say what they are to say.
use Rattle.std.proofs.Common.{◌≡◌, List, [], ◌∷◌, Bool, true, false, not, ◌==◌, refl, ap, inl, inr, ◌⊎◌}
use Rattle.std.specs.Prelude.{bytes_eq, ◌↔◌, Contains}
use Rattle.std.specs.Bool.{Decides}
use Rattle.std.proofs.lemmas.Bool.Decides.{Decides-eqb, Decides-and, Decides-or, Decides-like, Decides-not}
use Rattle.std.proofs.lemmas.Bool.{false≢true}
use Rattle.std.proofs.lemmas.Slice.Eq.{bytes_eq-Decides}
use Rattle.ops_base.specs.declared.rules.Inst.{Inst}
use Rattle.ops_base.specs.Refraction.{is_same_inst, is_among, unfired, still_fired}
use Rattle.ops_base.proofs.Members.{IsMember, member_from_contains, contains_from_member}
use Rattle.ops_base.proofs.InstEquality.{same_fields}
use Rattle.ops_base.proofs.Filtered.{Contains-filter}

-- The test of two instantiations is true exactly where they are equal.
pub is_same_inst-Decides : (i j : Inst) → Decides (is_same_inst i j) (i ≡ j)
is_same_inst-Decides i j =
    Decides-like (is_same_inst i j) (λ h. same_fields i j h.0 h.1)
    (λ e. (ap (λ (w : Inst). w.rule) e, ap (λ (w : Inst). w.tags) e))
    (Decides-and (i.rule == j.rule) (bytes_eq i.tags j.tags) (Decides-eqb i.rule j.rule) (bytes_eq-Decides i.tags j.tags))

is_among-member : (insts : List Inst) (i : Inst) → Decides (is_among insts i) (IsMember i insts)
is_among-member [] i = (λ e. false≢true e, λ m. absurd m)
is_among-member (j ∷ insts) i =
    Decides-or (is_same_inst i j) (is_among insts i) (is_same_inst-Decides i j) (is_among-member insts i)

-- The test of an instantiation among some is true exactly where it is one of them.
pub is_among-Decides : (insts : List Inst) (i : Inst) → Decides (is_among insts i) (Contains insts i)
is_among-Decides insts i =
    Decides-like (is_among insts i) (contains_from_member i insts) (member_from_contains i insts) (is_among-member insts i)

-- An instantiation is among some or not.
pub among_or_not : (insts : List Inst) (i : Inst) → Contains insts i ⊎ ¬ Contains insts i
among_or_not insts i = by_test (is_among insts i) (is_among-Decides insts i)
  where
    by_test : (b : Bool) → Decides b (Contains insts i) → Contains insts i ⊎ ¬ Contains insts i
    by_test true d = inl (d.0 refl)
    by_test false d = inr (λ h. false≢true (d.1 h))

-- What has not fired is what is found less what has.
pub member-unfired : (found fired : List Inst) (i : Inst) → Contains (unfired found fired) i ↔ (Contains found i × ¬ Contains fired i)
member-unfired found fired i =
    Contains-filter (λ j. not (is_among fired j)) (λ j. ¬ Contains fired j) (λ j. Decides-not (is_among fired j) (is_among-Decides fired j)) i found

-- What stays marked is what was marked and is found.
pub member-still_fired : (found fired : List Inst) (i : Inst) → Contains (still_fired found fired) i ↔ (Contains found i × Contains fired i)
member-still_fired found fired i =
    Contains-filter (λ j. is_among fired j) (Contains fired) (λ j. is_among-Decides fired j) i found
