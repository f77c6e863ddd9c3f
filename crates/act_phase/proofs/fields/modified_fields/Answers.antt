use Rattle.std.proofs.Common.{ap, sym, refl}
use Rattle.std.proofs.lemmas.List.{drop_all}
use Rattle.ops_base.specs.declared.actions.Put.{Put}
use Rattle.ops_meaning.specs.Acting.{Filled, puts_over, terms_placed}
use Rattle.ops_meaning.specs.Effects.{silent}
use Rattle.act_phase.specs.State.{doing_of, filled_of}
use Rattle.act_phase.specs.declared.outcome.ActionError.TheVariants as mishap
use Rattle.act_phase.proofs.Deeds.{still_all, still_same, still_short, still_done}
use Rattle.act_phase.proofs.Placing.{put_ok, put_err}
use Rattle.act_phase.specs.Asking.{put_asks}
use Rattle.act_phase.proofs.Asking.{none_at, both_then}
use Rattle.act_phase.proofs.fields.modified_fields.Goals as goal

pub returns-in_err-fields-clause-does : goal.returns-in_err-fields-clause-does
returns-in_err-fields-clause-does g c = still_short _ mishap.OutOfMemory c.from_residual.ensures.1 refl refl (still_all _ _ c.requires.whole)

pub loop-put-init : goal.loop-put-init
loop-put-init g c =
    record {
      does =
          still_same _ (still_all _ _ c.requires.whole)
          (λ d. ap (λ fields. silent (puts_over c.args.doing.now.setting.classes c.args.puts.now (filled_of fields (doing_of c.args.doing.now c.args.names.now d)))) (sym c.in_ok-fields.ensures));
      untouched = λ _. (refl, refl);
    }

pub returns-in_err-place_put-clause-does : goal.returns-in_err-place_put-clause-does
returns-in_err-place_put-clause-does g c =
    let l = c.loop-put in
    put_err (puts_over c.args.doing.now.setting.classes) (λ (p : Put) (f : Filled). terms_placed c.args.doing.now.setting.classes p.field p.terms f) (λ p ps f. refl)
    c.args.doing.now c.args.puts.now l.put-index c.put-item.result l.fields.items c.loop-put-test.true c.put-item.is l.invariant.does (λ d. refl)
    _ _ c.in_err-place_put.field-0.0 c.from_residual-in_err-place_put.ensures.1 c.in_err-place_put.ensures.does

pub loop-put-preserved : goal.loop-put-preserved
loop-put-preserved g c =
    let l = c.loop-put in
    record {
      does =
          put_ok (puts_over c.args.doing.now.setting.classes) (λ (p : Put) (f : Filled). terms_placed c.args.doing.now.setting.classes p.field p.terms f) (λ p ps f. refl)
          c.args.doing.now c.args.puts.now l.put-index c.put-item.result l.fields.items c.loop-put-test.true c.put-item.is l.invariant.does (λ d. refl)
          c.place_put.new.fields.items c.in_ok-place_put.ensures.does;
      untouched = λ none. both_then (l.invariant.untouched none) (c.in_ok-place_put.ensures.untouched (none_at put_asks c.args.puts.now l.put-index c.put-item.result c.loop-put-test.true c.put-item.is none));
    }

pub returns-in_err-place_put-clause-untouched : goal.returns-in_err-place_put-clause-untouched
returns-in_err-place_put-clause-untouched g c =
    let l = c.loop-put in
    λ none. both_then (l.invariant.untouched none) (c.in_err-place_put.ensures.untouched (none_at put_asks c.args.puts.now l.put-index c.put-item.result c.loop-put-test.true c.put-item.is none))

pub returns-in_err-fields-clause-untouched : goal.returns-in_err-fields-clause-untouched
returns-in_err-fields-clause-untouched g c = λ none. (refl, refl)

pub returns-clause-does : goal.returns-clause-does
returns-clause-does g c =
    let l = c.loop-put in
    still_done _ l.invariant.does
    (λ d. ap (λ rest. silent (puts_over c.args.doing.now.setting.classes rest (filled_of l.fields.items (doing_of c.args.doing.now l.names d))))
    (drop_all l.put-index c.args.puts.now c.loop-put-test.false))

pub returns-clause-untouched : goal.returns-clause-untouched
returns-clause-untouched g c = c.loop-put.invariant.untouched
