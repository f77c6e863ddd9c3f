-- What a constant does, by the variable of its hole.
use Rattle.std.proofs.Common.{◌≡◌, ℕ, Option, Some, None, refl, ap, ◌∙◌}
use Rattle.ops_base.specs.declared.values.Sym.{Sym}
use Rattle.ops_base.specs.declared.endings.Fault.TheVariants as fault
use Rattle.ops_grammar.specs.declared.words.Keyword.{Keyword}
use Rattle.ops_grammar.specs.declared.words.Keyword.TheVariants as keyword
use Rattle.ops_grammar.specs.Grammar.{State, Step, Refuses, number_of, values_around, with_hole, filled, hole_of, constant_by}

pub no_hole : (k : Keyword) (next : State → Step) (s : State) → hole_of k ≡ None → constant_by k next s ≡ next s
no_hole (keyword.Hole variable at) next s e = absurd cc
no_hole _ next s e = refl

-- it is a hole
filled_by : (k : Keyword) (v : Sym) (next : State → Step) (s : State) → hole_of k ≡ Some v → constant_by k next s ≡ filled (number_of v (values_around s.outer)) next s
filled_by (keyword.Hole variable at) v next s e =
    let same : variable ≡ v = cc in
    ap (λ (x : Sym). filled (number_of x (values_around s.outer)) next s) same
filled_by _ v next s e = absurd cc

pub hole_is : (k : Keyword) (v : Sym) (n : ℕ) (next : State → Step) (s : State) → hole_of k ≡ Some v → number_of v (values_around s.outer) ≡ Some n → constant_by k next s ≡ next (with_hole s n)
hole_is k v n next s e is = filled_by k v next s e ∙ ap (λ (o : Option ℕ). filled o next s) is

pub hole_unbound : (k : Keyword) (v : Sym) (next : State → Step) (s : State) → hole_of k ≡ Some v → number_of v (values_around s.outer) ≡ None → constant_by k next s ≡ Refuses fault.UnboundVariable
hole_unbound k v next s e is = filled_by k v next s e ∙ ap (λ (o : Option ℕ). filled o next s) is
