use Rattle.std.proofs.Common.{◌≡◌, ◌∙◌, ap, sym, subst, refl, ◌∷◌, [], length, List, Some, arith}
use Rattle.std.specs.Vec.Iter.{into_iter_items}
use Rattle.std.proofs.lemmas.List.{nil_from_length}
use Rattle.ops_base.specs.declared.rules.Rule.{Rule}
use Rattle.ops_meaning.specs.Kept.{AreFilledFrom, IsFilledFrom}
use Rattle.ops_meaning.specs.Running.{Session as Meant, all_added, place_after}
use Rattle.act_phase.proofs.FilledAsks.{built_quiet}
use Rattle.cycle.specs.States.{no_names, no_input}
use Rattle.live_rules.proofs.Filled.{filled_builds, filled_valid}
use Rattle.session.specs.Trailing.{meant_with}
use Rattle.session.proofs.Asks.{added_quiet, with_then}
use Rattle.session.proofs.BuiltLemmas.{added_rules, added_step, place_step}
use Rattle.session.proofs.built.add_all.Goals as goal

pub loop-rule-init : goal.loop-rule-init
loop-rule-init g c =
    let p = c.args.live.now.program in
    let gives = c.into_iter-rule-iterator.ensures.into_iter_gives in
    let all : into_iter_items c.into_iter-rule-iterator.result ≡ c.args.built = gives.0 ∙ c.into_vec-rule-items.ensures in
    record {
      meant = λ n z. ap (λ bs. all_added bs (meant_with g.M.Matcher.stored p.rules c.args.undoable n z)) all;
      place = ap (λ bs. place_after p.rules bs (Some c.args.fired)) all;
      undoable = c.requires.undoable;
      named = λ least n h. h;
      program = record { rules_are = refl; commands_are = refl; classes = refl; templates = refl; text = refl };
      filled = subst (AreFilledFrom p.templates) (sym all) c.requires.filled;
      quiet = λ h t. h;
      number = gives.1 ∙ c.into_vec-rule-items.result.ok.0 ∙ sym (ap length gives.0);
    }

pub add_late-requires-clause-valid : goal.add_late-requires-clause-valid
add_late-requires-clause-valid g c =
    let at = c.loop-rule in
    let steps : into_iter_items at.rule-iterator ≡ c.in-Some.rule ∷ into_iter_items c.next.new.self = c.in-Some.ensures.steps.0 in
    let filled = subst (AreFilledFrom c.args.live.now.program.templates) steps at.invariant.filled in
    let P : List Rule → Type 0 = λ ts. IsFilledFrom ts c.in-Some.rule in
    let w = at.invariant.program in
    filled_valid at.live.program c.in-Some.rule (subst P (sym w.templates) filled.0)

pub add_late-requires-clause-builds : goal.add_late-requires-clause-builds
add_late-requires-clause-builds g c =
    let at = c.loop-rule in
    let steps : into_iter_items at.rule-iterator ≡ c.in-Some.rule ∷ into_iter_items c.next.new.self = c.in-Some.ensures.steps.0 in
    let filled = subst (AreFilledFrom c.args.live.now.program.templates) steps at.invariant.filled in
    let P : List Rule → Type 0 = λ ts. IsFilledFrom ts c.in-Some.rule in
    let w = at.invariant.program in
    filled_builds at.live.program c.in-Some.rule (subst P (sym w.templates) filled.0)

pub loop-rule-preserved : goal.loop-rule-preserved
loop-rule-preserved g c =
    let at = c.loop-rule in
    let r = c.in-Some.rule in
    let rest = into_iter_items c.next.new.self in
    let all = into_iter_items at.rule-iterator in
    let steps : all ≡ r ∷ rest = c.in-Some.ensures.steps.0 in
    let new = c.add_late.new.live.program in
    let done = c.in_ok-undoable.ensures in
    let filled = subst (AreFilledFrom c.args.live.now.program.templates) steps at.invariant.filled in
    let more = ap (λ (m : Meant). m.rules) (done.meant no_names no_input) ∙ added_rules r (meant_with g.M.Matcher.stored at.live.program.rules at.undoable no_names no_input) in
    record {
      meant = λ n z. added_step r rest all (meant_with g.M.Matcher.stored at.live.program.rules at.undoable n z) (meant_with g.M.Matcher.stored new.rules c.in_ok-undoable.undoable n z) steps (done.meant n z) ∙ at.invariant.meant n z;
      place = place_step at.live.program.rules new.rules r rest all at.place c.place_beside-place.result steps (rw c.as_slice.ensures at c.place_beside-place.ensures) more ∙ at.invariant.place;
      undoable = done.undoable;
      named = λ least n h. done.named least n (at.invariant.named least n h);
      program = with_then c.args.live.now.program at.live.program c.args.live.now.program.commands at.invariant.program new done.program;
      filled = filled.1;
      quiet = λ h t. added_quiet g.M.Matcher.stored g.M.Matcher.stands_for at.live.program new at.undoable r c.in_ok-undoable.undoable done.meant no_names (at.invariant.quiet h t) (built_quiet c.args.live.now.program.templates r t filled.0);
      number = (let was = at.invariant.number in let gone = c.in-Some.ensures.steps.1 in let short = ap length steps in omega arith);
    }

pub returns : goal.returns
returns g c =
    let at = c.loop-rule in
    let none : into_iter_items at.rule-iterator ≡ [] = nil_from_length (into_iter_items at.rule-iterator) (sym at.invariant.number ∙ c.in-None.ensures.steps.0) in
    record {
      meant = λ n z. ap (λ bs. all_added bs (meant_with g.M.Matcher.stored at.live.program.rules at.undoable n z)) (sym none) ∙ at.invariant.meant n z;
      place = ap (λ bs. place_after at.live.program.rules bs at.place) (sym none) ∙ at.invariant.place;
      undoable = at.invariant.undoable;
      named = at.invariant.named;
      program = at.invariant.program;
      quiet = at.invariant.quiet;
    }
