use Rattle.std.proofs.Common.{ap, refl}
use Rattle.std.proofs.lemmas.List.{drop_all}
use Rattle.ops_meaning.specs.Acting.{items_done}
use Rattle.ops_print.specs.Leads.{lead_of}
use Rattle.act_phase.specs.State.{doing_of}
use Rattle.act_phase.proofs.Deeds.{still_all, still_done}
use Rattle.act_phase.proofs.ItemLemmas.{item_put, item_failed}
use Rattle.act_phase.specs.Asking.{item_asks}
use Rattle.act_phase.proofs.Asking.{none_at, both_then}
use Rattle.act_phase.proofs.items.put_items.Goals as goal

pub loop-item-init : goal.loop-item-init
loop-item-init g c = record { does = still_all _ _ c.requires.whole; untouched = λ _. (refl, refl) }

pub returns-in_err-put_item-clause-does : goal.returns-in_err-put_item-clause-does
returns-in_err-put_item-clause-does g c =
    let l = c.loop-item in
    item_failed c.args.doing.now.setting.classes c.args.doing.now (lead_of l.lead) c.args.items.now l.item-index c.item-item.result c.loop-item-test.true c.item-item.is l.invariant.does
    _ _ c.in_err-put_item.field-0.0 c.from_residual.ensures.1 c.in_err-put_item.ensures.does

pub loop-item-preserved : goal.loop-item-preserved
loop-item-preserved g c =
    let l = c.loop-item in
    record {
      does = rw c.lead_after-lead.ensures
          (item_put c.args.doing.now.setting.classes c.args.doing.now (lead_of l.lead) c.args.items.now l.item-index c.item-item.result c.loop-item-test.true c.item-item.is l.invariant.does c.in_ok-put_item.ensures.does);
      untouched = λ none. both_then (l.invariant.untouched none) (c.in_ok-put_item.ensures.untouched (none_at item_asks c.args.items.now l.item-index c.item-item.result c.loop-item-test.true c.item-item.is none));
    }

pub returns-in_err-put_item-clause-untouched : goal.returns-in_err-put_item-clause-untouched
returns-in_err-put_item-clause-untouched g c =
    let l = c.loop-item in
    λ none. both_then (l.invariant.untouched none) (c.in_err-put_item.ensures.untouched (none_at item_asks c.args.items.now l.item-index c.item-item.result c.loop-item-test.true c.item-item.is none))

pub returns-clause-does : goal.returns-clause-does
returns-clause-does g c =
    let l = c.loop-item in
    still_done _ l.invariant.does
    (λ d. ap (λ rest. items_done c.args.doing.now.setting.classes (lead_of l.lead) l.out.column rest (doing_of c.args.doing.now l.names d))
    (drop_all l.item-index c.args.items.now c.loop-item-test.false))

pub returns-clause-untouched : goal.returns-clause-untouched
returns-clause-untouched g c = c.loop-item.invariant.untouched
