use Rattle.std.proofs.Common.{◌≡◌, ◌++◌, not, filter, drop}
use Rattle.ops_grammar.specs.Grammar.{is_one_of}
use Rattle.ops_forms.proofs.vectors.scalars_of.Given as goal

abbrev pub invariant-loop-attr : goal.invariant-loop-attr
invariant-loop-attr l = l.scalars.items ++ filter (λ a. not (is_one_of a l.vectors)) (drop l.attr-index l.attrs) ≡ filter (λ a. not (is_one_of a l.vectors)) l.attrs
