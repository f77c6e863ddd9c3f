use Rattle.std.proofs.Common.{◌≡◌, drop, fold}
use Rattle.ops_base.specs.declared.commands.Fixed.{Fixed}
use Rattle.ops_meaning.specs.Running.{fixed_fields, with_values}
use Rattle.session.proofs.elements.fixed_fields.Given as goal

abbrev pub invariant-loop-put : goal.invariant-loop-put
invariant-loop-put l =
    fold (λ fields (p : Fixed). with_values l.class fields p.field p.values) l.fields.items (drop l.put-index l.puts) ≡ fixed_fields l.class l.puts
