-- Each line that is named is cleared in its turn, and no other has an entry.
use Rattle.std.proofs.Common.{◌++◌, sym, ap, subst, ◌∙◌, arith}
use Rattle.std.specs.Option.{option_to_list}
use Rattle.std.proofs.lemmas.List.{append-nil}
use Rattle.activation.specs.Acting.{lasts_of}
use Rattle.step_core.specs.inner.Worked.{AreWorked}
use Rattle.step_core.proofs.Clearing.{all_kept, one_kept, seen_cleared, numbers_kept, length_kept, counted_kept}
use Rattle.step_core.proofs.WorkedLines.{worked_less, named_within, all_rest}
use Rattle.step_core.proofs.worked.clear_worked.Goals as goal

pub loop-place-init : goal.loop-place-init
loop-place-init c = record { kept = all_kept c.args.lines.now.items; told = c.requires }

pub index_mut-requires : goal.index_mut-requires
index_mut-requires c =
    let named = c.pop.ensures.items ∙ ap (λ o. c.pop.new.self.items ++ option_to_list o) c.in-Some.is in
    let low = named_within c.loop-place.lines.items c.in-Some.place c.loop-place.worked.items c.pop.new.self.items named c.loop-place.invariant.told in
    omega (arith, low, c.loop-place.lines.ok.0)

pub loop-place-preserved : goal.loop-place-preserved
loop-place-preserved c =
    let ls = c.loop-place.lines.items in
    let k = c.in-Some.place in
    let line = c.clear_phase.new.self in
    let named = c.pop.ensures.items ∙ ap (λ o. c.pop.new.self.items ++ option_to_list o) c.in-Some.is in
    let low = named_within ls k c.loop-place.worked.items c.pop.new.self.items named c.loop-place.invariant.told in
    record {
      kept =
          one_kept k c.args.lines.now.items ls c.index_mut.result.now line c.loop-place.invariant.kept low c.index_mut.ensures.value
          (record { sums = c.clear_phase.ensures.sums; blockers = c.clear_phase.ensures.blockers; number = c.clear_phase.ensures.number; filed = c.clear_phase.ensures.filed; told = λ nodes is. c.clear_phase.ensures.told ∙ ap (lasts_of nodes) (sym c.clear_phase.ensures.entries) });
      told = worked_less ls k line c.loop-place.worked.items c.pop.new.self.items named c.loop-place.invariant.told c.clear_phase.ensures.entries;
    }

pub returns-clause-cleared : goal.returns-clause-cleared
returns-clause-cleared c =
    let none = sym c.loop-place.worked.ok.0 ∙ c.in_default.ensures.cases.0 in
    seen_cleared c.args.lines.now.items c.loop-place.lines.items c.loop-place.invariant.kept (all_rest c.loop-place.lines.items c.loop-place.worked.items c.loop-place.invariant.told none)

pub returns-clause-told : goal.returns-clause-told
returns-clause-told c = subst (AreWorked c.loop-place.lines.items) (c.in_default.ensures.items ∙ append-nil c.pop.new.self.items) c.loop-place.invariant.told

pub returns-clause-counted : goal.returns-clause-counted
returns-clause-counted c nodes s all = counted_kept nodes s c.args.lines.now.items c.loop-place.lines.items c.loop-place.invariant.kept all

pub returns-clause-numbers : goal.returns-clause-numbers
returns-clause-numbers c = numbers_kept c.args.lines.now.items c.loop-place.lines.items c.loop-place.invariant.kept

pub returns-clause-count : goal.returns-clause-count
returns-clause-count c = length_kept c.args.lines.now.items c.loop-place.lines.items c.loop-place.invariant.kept
