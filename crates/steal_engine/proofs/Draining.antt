-- Where some is done of what waited, and of what came of it, what is left waits. A round is a case of it.
use Rattle.std.proofs.Common.{◌++◌, sym, subst, arith}
use Rattle.std.proofs.lemmas.List.Sums.{sum_by-append}
use Rattle.step_core.specs.Machine.{fed_by_all}
use Rattle.step_core.specs.Phases.{HoldJust, sums_over, tasks_of, children_of, entries_of}
use Rattle.steal_engine.specs.Rests.{RestLaw}

pub rest_law : RestLaw
rest_law elements alphas nodes line wm changes old new waiting left way did = record {
  start = subst (HoldJust line (sums_over wm alphas nodes)) (sym did.begins) way.start;
  phases = λ i l at. let kept = did.phases i l at in kept.phase (way.phases i kept.was kept.at);
  tasks = λ h.
      let fed = fed_by_all elements alphas nodes changes in
      let a = way.tasks h in
      let b = did.tasks h in
      let c = sum_by-append h (tasks_of (entries_of old)) waiting in
      let d = sum_by-append h fed (children_of (entries_of old)) in
      let e = sum_by-append h fed (children_of (entries_of new)) in
      let f = sum_by-append h (tasks_of (entries_of new) ++ left) (children_of (entries_of old)) in
      let g = sum_by-append h (tasks_of (entries_of old)) (waiting ++ children_of (entries_of new)) in
      let i = sum_by-append h waiting (children_of (entries_of new)) in omega (arith, a, b, c, d, e, f, g, i);
}
