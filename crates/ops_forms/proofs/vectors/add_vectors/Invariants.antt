use Rattle.std.proofs.Common.{◌≡◌, ◌++◌, filter, drop}
use Rattle.ops_grammar.specs.Grammar.{is_one_of}
use Rattle.ops_forms.proofs.vectors.add_vectors.Given as goal

abbrev pub invariant-loop-attr : goal.invariant-loop-attr
invariant-loop-attr l = l.all.items ++ filter (λ a. is_one_of a l.vectors) (drop l.attr-index l.attrs) ≡ l.fn.all.items ++ filter (λ a. is_one_of a l.vectors) l.attrs
