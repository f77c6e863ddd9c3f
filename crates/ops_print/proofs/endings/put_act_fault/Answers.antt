use Rattle.std.proofs.Common.{decimal}
use Rattle.ops_io.proofs.PortLemmas.{puts_then, puts_refused}
use Rattle.ops_meaning.specs.Layout.{act_fault_text, fresh_line, symbol_text}
use Rattle.ops_print.proofs.Split.{act_fault_pieces}
use Rattle.ops_print.proofs.endings.put_act_fault.Goals as goal

pub returns-in_err-fresh_line-clause-puts : goal.returns-in_err-fresh_line-clause-puts
returns-in_err-fresh_line-clause-puts g c = puts_refused _ _ _ _ _ _ c.from_residual.ensures.1 c.in_err-fresh_line.ensures.puts

pub returns-in_err-put_numbered-clause-puts : goal.returns-in_err-put_numbered-clause-puts
returns-in_err-put_numbered-clause-puts g c =
    rw (act_fault_pieces (fresh_line c.args.out.now.column) (decimal c.args.firing) (symbol_text c.args.names.now c.args.name) (decimal c.args.action) (act_fault_text c.args.kind))
    (puts_then _ _ _ _ _ _ c.in_ok-fresh_line.ensures.puts (puts_refused _ _ _ _ _ _ c.from_residual-in_err-put_numbered.ensures.1 c.in_err-put_numbered.ensures.puts))

pub returns-in_err-put_symbol-clause-puts : goal.returns-in_err-put_symbol-clause-puts
returns-in_err-put_symbol-clause-puts g c =
    rw (act_fault_pieces (fresh_line c.args.out.now.column) (decimal c.args.firing) (symbol_text c.args.names.now c.args.name) (decimal c.args.action) (act_fault_text c.args.kind))
    (puts_then _ _ _ _ _ _ c.in_ok-fresh_line.ensures.puts
    (puts_then _ _ _ _ _ _ c.in_ok-put_numbered.ensures.puts (puts_refused _ _ _ _ _ _ c.from_residual-in_err-put_symbol.ensures.1 c.in_err-put_symbol.ensures.puts)))

pub returns-in_err-put_numbered-2-clause-puts : goal.returns-in_err-put_numbered-2-clause-puts
returns-in_err-put_numbered-2-clause-puts g c =
    rw (act_fault_pieces (fresh_line c.args.out.now.column) (decimal c.args.firing) (symbol_text c.args.names.now c.args.name) (decimal c.args.action) (act_fault_text c.args.kind))
    (puts_then _ _ _ _ _ _ c.in_ok-fresh_line.ensures.puts
    (puts_then _ _ _ _ _ _ c.in_ok-put_numbered.ensures.puts
    (puts_then _ _ _ _ _ _ c.in_ok-put_symbol.ensures.puts (puts_refused _ _ _ _ _ _ c.from_residual-in_err-put_numbered-2.ensures.1 c.in_err-put_numbered-2.ensures.puts))))

pub returns-clause-puts : goal.returns-clause-puts
returns-clause-puts g c =
    rw (act_fault_pieces (fresh_line c.args.out.now.column) (decimal c.args.firing) (symbol_text c.args.names.now c.args.name) (decimal c.args.action) (act_fault_text c.args.kind))
    (puts_then _ _ _ _ _ _ c.in_ok-fresh_line.ensures.puts
    (puts_then _ _ _ _ _ _ c.in_ok-put_numbered.ensures.puts
    (puts_then _ _ _ _ _ _ c.in_ok-put_symbol.ensures.puts (puts_then _ _ _ _ _ _ c.in_ok-put_numbered-2.ensures.puts (rw c.act_fault_end.ensures at c.put.ensures.puts)))))
