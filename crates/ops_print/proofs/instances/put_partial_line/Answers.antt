use Rattle.std.proofs.Common.{decimal}
use Rattle.ops_io.proofs.PortLemmas.{puts_then, puts_refused}
use Rattle.ops_meaning.specs.Layout.{fresh_line, symbol_text, tags_text}
use Rattle.ops_print.proofs.Shown.{partial_pieces}
use Rattle.ops_print.proofs.instances.put_partial_line.Goals as goal

pub returns-in_err-fresh_line-clause-puts : goal.returns-in_err-fresh_line-clause-puts
returns-in_err-fresh_line-clause-puts g c =
    rw (partial_pieces (fresh_line c.args.out.now.column) (symbol_text c.args.names.now c.args.name.now) (decimal c.args.parts) (tags_text c.args.tags.now))
    (puts_refused _ _ _ _ _ _ c.from_residual.ensures.1 c.in_err-fresh_line.ensures.puts)

pub returns-in_err-put_symbol-clause-puts : goal.returns-in_err-put_symbol-clause-puts
returns-in_err-put_symbol-clause-puts g c =
    rw (partial_pieces (fresh_line c.args.out.now.column) (symbol_text c.args.names.now c.args.name.now) (decimal c.args.parts) (tags_text c.args.tags.now))
    (puts_then _ _ _ _ _ _ c.in_ok-fresh_line.ensures.puts (puts_refused _ _ _ _ _ _ c.from_residual-in_err-put_symbol.ensures.1 c.in_err-put_symbol.ensures.puts))

pub returns-in_err-put_numbered-clause-puts : goal.returns-in_err-put_numbered-clause-puts
returns-in_err-put_numbered-clause-puts g c =
    rw (partial_pieces (fresh_line c.args.out.now.column) (symbol_text c.args.names.now c.args.name.now) (decimal c.args.parts) (tags_text c.args.tags.now))
    (puts_then _ _ _ _ _ _ c.in_ok-fresh_line.ensures.puts (puts_then _ _ _ _ _ _ c.in_ok-put_symbol.ensures.puts (puts_refused _ _ _ _ _ _ c.from_residual-in_err-put_numbered.ensures.1 c.in_err-put_numbered.ensures.puts)))

pub returns-in_err-put_tags-clause-puts : goal.returns-in_err-put_tags-clause-puts
returns-in_err-put_tags-clause-puts g c =
    rw (partial_pieces (fresh_line c.args.out.now.column) (symbol_text c.args.names.now c.args.name.now) (decimal c.args.parts) (tags_text c.args.tags.now))
    (puts_then _ _ _ _ _ _ c.in_ok-fresh_line.ensures.puts (puts_then _ _ _ _ _ _ c.in_ok-put_symbol.ensures.puts (puts_then _ _ _ _ _ _ c.in_ok-put_numbered.ensures.puts (puts_refused _ _ _ _ _ _ c.from_residual-in_err-put_tags.ensures.1 c.in_err-put_tags.ensures.puts))))

pub returns-clause-puts : goal.returns-clause-puts
returns-clause-puts g c =
    rw (partial_pieces (fresh_line c.args.out.now.column) (symbol_text c.args.names.now c.args.name.now) (decimal c.args.parts) (tags_text c.args.tags.now))
    (puts_then _ _ _ _ _ _ c.in_ok-fresh_line.ensures.puts (puts_then _ _ _ _ _ _ c.in_ok-put_symbol.ensures.puts (puts_then _ _ _ _ _ _ c.in_ok-put_numbered.ensures.puts (puts_then _ _ _ _ _ _ c.in_ok-put_tags.ensures.puts c.put.ensures.puts))))
