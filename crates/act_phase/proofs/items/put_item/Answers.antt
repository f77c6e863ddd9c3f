use Rattle.ops_print.specs.Leads.{lead_of}
use Rattle.std.proofs.Common.{ap, sym, refl, ◌∙◌}
use Rattle.ops_base.specs.declared.actions.Item.TheVariants as item
use Rattle.act_phase.specs.Asking.{item_asks}
use Rattle.act_phase.proofs.ItemLemmas.{bytes_put, bytes_refused, line_left, same_item, tab_left, width_done}
use Rattle.act_phase.proofs.items.put_item.Goals as goal

pub returns-in_err-put_tab-in-TabTo-clause-does : goal.returns-in_err-put_tab-in-TabTo-clause-does
returns-in_err-put_tab-in-TabTo-clause-does g c =
    bytes_refused _ _ (tab_left c.args.doing.now.setting.classes c.args.doing.now (lead_of c.args.lead) c.in-TabTo.column c.from.result c.args.item.now _ c.requires.whole c.in-TabTo.is c.from.ensures)
    _ _ c.from_residual-in_err-put_tab-in-TabTo.ensures.1 c.in_err-put_tab-in-TabTo.ensures.puts

pub returns-in_ok-put_tab-in-TabTo-clause-does : goal.returns-in_ok-put_tab-in-TabTo-clause-does
returns-in_ok-put_tab-in-TabTo-clause-does g c =
    bytes_put _ _ (tab_left c.args.doing.now.setting.classes c.args.doing.now (lead_of c.args.lead) c.in-TabTo.column c.from.result c.args.item.now _ c.requires.whole c.in-TabTo.is c.from.ensures)
    _ _ c.in_ok-put_tab-in-TabTo.ensures.puts

pub returns-in-RightIn-clause-does : goal.returns-in-RightIn-clause-does
returns-in-RightIn-clause-does g c = width_done c.args.doing.now.setting.classes c.args.doing.now (lead_of c.args.lead) c.in-RightIn.field-0 c.args.item.now _ _ c.requires.whole c.in-RightIn.is

pub returns-in-Print : goal.returns-in-Print
returns-in-Print g c = record {
  does = same_item c.args.doing.now.setting.classes c.args.doing.now (lead_of c.args.lead) c.args.item.now (item.Print c.in-Print.term) c.in-Print.is c.print.ensures.does;
  written = c.print.ensures.written;
  untouched = λ none. c.print.ensures.untouched (ap item_asks (sym c.in-Print.is) ∙ none);
}

pub returns-in_err-put-in-Crlf-clause-does : goal.returns-in_err-put-in-Crlf-clause-does
returns-in_err-put-in-Crlf-clause-does g c =
    bytes_refused _ _ (line_left c.args.doing.now.setting.classes c.args.doing.now (lead_of c.args.lead) c.args.item.now _ c.requires.whole c.in-Crlf.is)
    _ _ c.from_residual.ensures.1 c.in_err-put-in-Crlf.ensures.puts

pub returns-in_ok-put-in-Crlf-clause-does : goal.returns-in_ok-put-in-Crlf-clause-does
returns-in_ok-put-in-Crlf-clause-does g c =
    bytes_put _ _ (line_left c.args.doing.now.setting.classes c.args.doing.now (lead_of c.args.lead) c.args.item.now _ c.requires.whole c.in-Crlf.is)
    _ _ c.in_ok-put-in-Crlf.ensures.puts

pub returns-in_err-put-in-Crlf-clause-untouched : goal.returns-in_err-put-in-Crlf-clause-untouched
returns-in_err-put-in-Crlf-clause-untouched g c = λ none. (refl, refl)

pub returns-in_ok-put-in-Crlf-clause-untouched : goal.returns-in_ok-put-in-Crlf-clause-untouched
returns-in_ok-put-in-Crlf-clause-untouched g c = λ none. (refl, refl)

pub returns-in_err-put_tab-in-TabTo-clause-untouched : goal.returns-in_err-put_tab-in-TabTo-clause-untouched
returns-in_err-put_tab-in-TabTo-clause-untouched g c = λ none. (refl, refl)

pub returns-in_ok-put_tab-in-TabTo-clause-untouched : goal.returns-in_ok-put_tab-in-TabTo-clause-untouched
returns-in_ok-put_tab-in-TabTo-clause-untouched g c = λ none. (refl, refl)

pub returns-in-RightIn-clause-untouched : goal.returns-in-RightIn-clause-untouched
returns-in-RightIn-clause-untouched g c = λ none. (refl, refl)
