use Rattle.std.proofs.Common.{decimal}
use Rattle.ops_io.proofs.PortLemmas.{puts_then, puts_refused}
use Rattle.ops_meaning.specs.Layout.{fresh_line, element_text}
use Rattle.ops_print.proofs.Shown.{element_line_pieces}
use Rattle.ops_print.proofs.elements.put_element_line.Goals as goal

pub returns-in_err-fresh_line-clause-puts : goal.returns-in_err-fresh_line-clause-puts
returns-in_err-fresh_line-clause-puts g c =
    rw (element_line_pieces (fresh_line c.args.out.now.column) c.args.before.now (decimal c.args.item.now.tag) (element_text c.args.names.now c.args.program.now.classes c.args.item.now))
    (puts_refused _ _ _ _ _ _ c.from_residual.ensures.1 c.in_err-fresh_line.ensures.puts)

pub returns-in_err-put_numbered-clause-puts : goal.returns-in_err-put_numbered-clause-puts
returns-in_err-put_numbered-clause-puts g c =
    rw (element_line_pieces (fresh_line c.args.out.now.column) c.args.before.now (decimal c.args.item.now.tag) (element_text c.args.names.now c.args.program.now.classes c.args.item.now))
    (puts_then _ _ _ _ _ _ c.in_ok-fresh_line.ensures.puts (puts_refused _ _ _ _ _ _ c.from_residual-in_err-put_numbered.ensures.1 c.in_err-put_numbered.ensures.puts))

pub returns-in_err-put_element-clause-puts : goal.returns-in_err-put_element-clause-puts
returns-in_err-put_element-clause-puts g c =
    rw (element_line_pieces (fresh_line c.args.out.now.column) c.args.before.now (decimal c.args.item.now.tag) (element_text c.args.names.now c.args.program.now.classes c.args.item.now))
    (puts_then _ _ _ _ _ _ c.in_ok-fresh_line.ensures.puts (puts_then _ _ _ _ _ _ c.in_ok-put_numbered.ensures.puts (puts_refused _ _ _ _ _ _ c.from_residual-in_err-put_element.ensures.1 c.in_err-put_element.ensures.puts)))

pub returns-clause-puts : goal.returns-clause-puts
returns-clause-puts g c =
    rw (element_line_pieces (fresh_line c.args.out.now.column) c.args.before.now (decimal c.args.item.now.tag) (element_text c.args.names.now c.args.program.now.classes c.args.item.now))
    (puts_then _ _ _ _ _ _ c.in_ok-fresh_line.ensures.puts (puts_then _ _ _ _ _ _ c.in_ok-put_numbered.ensures.puts (puts_then _ _ _ _ _ _ c.in_ok-put_element.ensures.puts c.put.ensures.puts)))
