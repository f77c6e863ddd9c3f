-- What a constant does, which may be a hole.
use Rattle.std.proofs.Common.{◌≡◌, ℕ, true, not, Option, Some, None, is_some, refl, ap}
use Rattle.ops_base.specs.declared.values.Sym.{Sym}
use Rattle.ops_base.specs.declared.endings.Fault.TheVariants as fault
use Rattle.ops_grammar.specs.declared.words.Keyword.{Keyword}
use Rattle.ops_grammar.specs.declared.words.Keyword.TheVariants as keyword
use Rattle.ops_grammar.specs.Grammar.{State, Step, Refuses, number_of, values_around, with_hole, filled, constant_by}
use Rattle.ops_grammar.specs.Reasons.{is_unfilled}

filled_cases : (variable : Sym) (next : State → Step) (s : State) (P : Step → Type 0) → (number_of variable (values_around s.outer) ≡ None → P (Refuses fault.UnboundVariable))
    → ((n : ℕ) → number_of variable (values_around s.outer) ≡ Some n → P (next (with_hole s n))) → (o : Option ℕ) → number_of variable (values_around s.outer) ≡ o → P (filled o next s)
filled_cases variable next s P unbound hole None e = unbound e
filled_cases variable next s P unbound hole (Some n) e = hole n e

-- It is refused, or it is a constant, or a hole for a variable of the production around.
pub constant_cases : (k : Keyword) (next : State → Step) (s : State) (P : Step → Type 0) → (is_unfilled k s ≡ true → P (Refuses fault.UnboundVariable)) → P (next s)
    → ((variable : Sym) (n : ℕ) → number_of variable (values_around s.outer) ≡ Some n → P (next (with_hole s n))) → P (constant_by k next s)
constant_cases (keyword.Hole variable at) next s P unbound plain hole =
    filled_cases variable next s P (λ e. unbound (ap (λ (o : Option ℕ). not (is_some o)) e)) (hole variable) (number_of variable (values_around s.outer)) refl
constant_cases _ next s P unbound plain hole = plain
