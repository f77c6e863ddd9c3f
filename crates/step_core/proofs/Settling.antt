-- From a bundle to what a settle leaves and answers.
use Rattle.std.proofs.Common.{◌≡◌, ◌≢◌, ℕ, sym, ap, subst, ◌∙◌, map, slice_get, Some}
use Rattle.std.specs.Prelude.{option_map}
use Rattle.std.specs.List.{Contains}
use Rattle.std.proofs.lemmas.List.Elements.{recursion_from_All}
use Rattle.std.proofs.lemmas.Option.{slice_get-map}
use Rattle.ops_base.proofs.Members.{member_from_contains, members_from_each}
use Rattle.work_store.specs.Stored.{held_of}
use Rattle.net_base.specs.declared.tasks.Task.{Task}
use Rattle.step_core.specs.Machine.{Placing, Seen, place_of}
use Rattle.step_core.specs.Phases.{HoldJust, now, sums_over, tasks_of}
use Rattle.step_core.specs.Settling.{HaveOwnLines, SettledLaw}
use Rattle.step_core.specs.Worlds.{placed}
use Rattle.step_core.proofs.Changing.{change_law}
use Rattle.step_core.proofs.LawProofs.{bundle_law}
use Rattle.step_core.proofs.StartPlaced.{is_placed}

pub settled_law : SettledLaw
settled_law alphas nodes s s' changes lines ls sound some rise rise' lawful is phase bundle = record {
  holds = holds;
  own_lines = own;
  settled = λ come gone gathered. change_law alphas nodes s.elements s'.elements line ls come gone sound rise rise' bundle.start holds gathered;
}
  where
    line : Placing
    line = placed (held_of s') nodes lines

    holds : HoldJust (placed (held_of s') nodes lines) (sums_over s'.elements alphas nodes) (map now ls)
    holds =
        subst (λ wm. HoldJust (placed (held_of s') nodes lines) (sums_over wm alphas nodes) (map now ls)) (sym is)
        (bundle_law (held_of s') alphas nodes (placed (held_of s') nodes lines) s.elements s.last changes ls sound (is_placed (held_of s') alphas nodes lines sound some).one_line phase.low phase.names lawful phase.added bundle)

    away : (i j : ℕ) (l : Seen) → slice_get ls i ≡ Some l → j ≢ i → (x : Task) → Contains (tasks_of l.entries) x → placed (held_of s') nodes lines x.node x.side x.token ≢ j
    away i j l at ne x c e =
        let P : Task → Type 0 = λ y. place_of (placed (held_of s') nodes lines) y ≡ i in
        let p = members_from_each P (tasks_of l.entries) (recursion_from_All P (tasks_of l.entries) (bundle.phases i l at).placed) x (member_from_contains x (tasks_of l.entries) c) in
        ne (sym e ∙ p)

    own : HaveOwnLines ls
    own i j l m at at' ne x c = holds.apart j (now m) (slice_get-map now ls j ∙ ap (option_map now) at') x.node x.side x.token (away i j l at ne x c)
