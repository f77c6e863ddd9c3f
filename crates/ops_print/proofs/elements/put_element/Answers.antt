use Rattle.std.proofs.Common.{◌∙◌, sym, ap, length}
use Rattle.std.specs.Prelude.{nat_lt}
use Rattle.ops_base.specs.declared.elements.Class.{Class}
use Rattle.ops_print.proofs.Shown.{nameless_pieces}
use Rattle.ops_print.proofs.elements.put_element.Goals as goal

pub returns-in-None-clause-puts : goal.returns-in-None-clause-puts
returns-in-None-clause-puts g c =
    let past = rw c.as_slice.ensures at (sym c.in-None.ensures.lookup.0) in
    rw (nameless_pieces c.args.names.now c.args.program.now.classes c.args.item.now past) c.put_named.ensures.puts
