-- The cell that a number of a condition designates, from the cells of the parts.
use Rattle.std.proofs.Common.{◌≡◌, ℕ, zero, suc, ◌+◌, ◌-◌, ◌≤◌, ◌==◌, ◌||◌, not, cond, if◌then◌else◌, Bool, true, false, List, [], ◌∷◌, take, slice_get, Option, None, Some, Result, Ok, Err, refl, ap, ◌∙◌, arith}
use Rattle.std.specs.List.{list_any}
use Rattle.std.proofs.lemmas.Bool.{ne_eqb}
use Rattle.std.proofs.lemmas.Bool.Decides.{nat_tests}
use Rattle.ops_base.specs.declared.conditions.Part.{Part}
use Rattle.ops_base.specs.declared.conditions.Part.TheVariants.{One, Group}
use Rattle.ops_base.specs.declared.endings.Fault.{Fault}
use Rattle.ops_base.specs.declared.endings.Fault.TheVariants as fault
use Rattle.ops_grammar.specs.Grammar.{State, is_absent, designated, numbered_cell}
use Rattle.ops_forms.specs.Sights.{cells_from}
use Rattle.ops_rhs.specs.Taking.{cell_by, numbered_by}

-- what is designated, where a part without a cell stands before it or not
abbrev pick : Bool → Option Part → ℕ → Result ℕ Fault
pick any (Some p) place = if is_absent p then Err fault.BadDesignator else if any then Err fault.AmbiguousDesignator else Ok place
pick any None place = Err fault.BadDesignator

abbrev any_absent : List Part → Bool
any_absent ps = list_any is_absent ps

or_true : (x y z : Bool) → y ≡ true → (x || true) ≡ (y || z)
or_true true y z e = rw e refl
or_true false y z e = rw e refl

same_next : (n m : ℕ) → (n == m) ≡ (n + 1 == m + 1)
same_next n m = grind (arith, nat_tests)

-- n cells and m parts stand before
picked : (ps : List Part) (n m k place : ℕ) → n ≤ m → place ≡ m + k → pick (not (n == m) || any_absent (take k ps)) (slice_get ps k) place ≡ cell_by place (slice_get (cells_from n ps) k)
picked [] n m k place le e = refl
picked (One c ∷ ps) n m zero place le e = let here : place ≡ m = omega (arith, e) in rw here (by c.negated)
  where
    now : (same : Bool) → cond (not same || false) (Err fault.AmbiguousDesignator) (Ok m) ≡ cond same (Ok m) (Err fault.AmbiguousDesignator)
    now true = refl
    now false = refl

    by : (b : Bool) → cond b (Err fault.BadDesignator) (cond (not (n == m) || false) (Err fault.AmbiguousDesignator) (Ok m)) ≡ cell_by m (slice_get (cond b (None ∷ cells_from n ps) (Some n ∷ cells_from (n + 1) ps)) 0)
    by true = refl
    by false = now (n == m)
picked (Group cs ∷ ps) n m zero place le e = refl
picked (One c ∷ ps) n m (suc k) place le e = by c.negated (picked ps n (m + 1) k place (omega arith) (omega (arith, e))) (picked ps (n + 1) (m + 1) k place (omega arith) (omega (arith, e)))
  where
    any : Bool
    any = any_absent (take k ps)

    by : (b : Bool) → pick (not (n == m + 1) || any) (slice_get ps k) place ≡ cell_by place (slice_get (cells_from n ps) k) → pick (not (n + 1 == m + 1) || any) (slice_get ps k) place ≡ cell_by place (slice_get (cells_from (n + 1) ps) k) → pick (not (n == m) || (b || any)) (slice_get ps k) place ≡ cell_by place (slice_get (cond b (None ∷ cells_from n ps) (Some n ∷ cells_from (n + 1) ps)) (suc k))
    by true h g = ap (λ (x : Bool). pick x (slice_get ps k) place) (or_true (not (n == m)) (not (n == m + 1)) any (ap not (ne_eqb n (m + 1) (λ same. omega (arith, same, le))))) ∙ h
    by false h g = ap (λ (x : Bool). pick (not x || any) (slice_get ps k) place) (same_next n m) ∙ g
picked (Group cs ∷ ps) n m (suc k) place le e =
    ap (λ (x : Bool). pick x (slice_get ps k) place) (or_true (not (n == m)) (not (n == m + 1)) (any_absent (take k ps)) (ap not (ne_eqb n (m + 1) (λ same. omega (arith, same, le)))))
    ∙ picked ps n (m + 1) k place (omega arith) (omega (arith, e))

designated_is : (s : State) (k : ℕ) → designated k (slice_get s.conditions k) s ≡ cell_by k (slice_get (cells_from 0 s.conditions) k)
designated_is s k = by (slice_get s.conditions k) ∙ picked s.conditions 0 0 k k (omega arith) (omega arith)
  where
    by : (o : Option Part) → designated k o s ≡ pick (any_absent (take k s.conditions)) o k
    by (Some p) = refl
    by None = refl

pub numbered_is : (o : Option ℕ) (s : State) → numbered_cell o s ≡ numbered_by o (cells_from 0 s.conditions)
numbered_is (Some n) s = designated_is s (n - 1)
numbered_is None s = refl
