-- The laws over every list of steps, and over every bundle.
use Rattle.std.proofs.Common.{◌≡◌, ◌<◌, ℕ, suc, List, [], ◌∷◌, ◌++◌, refl, sym, ap, ap₂, subst, ◌∙◌, arith, option_map, sum_by, length, map}
use Rattle.std.specs.List.{AllByRecursion}
use Rattle.std.proofs.lemmas.Int.{ints}
use Rattle.std.proofs.lemmas.Option.{slice_get-map}
use Rattle.std.proofs.lemmas.List.Sums.{sum_by-append}
use Rattle.std.proofs.lemmas.List.Elements.{All-from_recursion}
use Rattle.ops_base.specs.declared.elements.Change.{Change}
use Rattle.ops_base.specs.declared.elements.Change.TheVariants.{Add}
use Rattle.ops_base.specs.WorkingMemory.{done, Lawful}
use Rattle.ops_base.proofs.Members.{member_from_contains}
use Rattle.net_base.specs.declared.nodes.Node.{Node}
use Rattle.net_base.specs.declared.nodes.Alpha.{Alpha}
use Rattle.net_base.specs.declared.tasks.Side.{Side}
use Rattle.net_base.specs.declared.tasks.Task.{Task}
use Rattle.net_base.specs.Tokens.{Elements, Memory}
use Rattle.net_base.specs.Sound.{IsSound}
use Rattle.token_line.specs.declared.line.Entry.{Entry}
use Rattle.token_line.specs.Bags.{Bag, signs}
use Rattle.token_line.specs.Lawful.{giver_of}
use Rattle.step_core.specs.Machine.{Placing, Seen, World, start, fed_by_all, changes_of}
use Rattle.step_core.specs.Phases.{total, HoldJust, sums_over, tasks_of, children_of, now, before, AreLawful, entries_of, AreSame}
use Rattle.step_core.specs.Laws.{put_out, NamesAdded, AreEmpty, IsTallied, CounterLaw, BalanceLaw, ZeroLaw, TaskLaw, PhaseLaw, StartLaw, SettleLaw, InstLaw, IsAtRest, BundleLaw}
use Rattle.step_core.proofs.Memory.{IsKnown, known, known_done}
use Rattle.step_core.proofs.Made.{made_wm}
use Rattle.step_core.proofs.Fed.{fed_is_given, nothing_given}
use Rattle.step_core.proofs.Settled.{settled}
use Rattle.step_core.proofs.Fair.{IsOn}
use Rattle.step_core.proofs.Lines.{all_from, at_from, IsLine, AreLines, now_within, hold_just}
use Rattle.step_core.proofs.Bundle.{bundle_settles}
use Rattle.step_core.proofs.Terminals.{terminal_law}
use Rattle.step_core.proofs.Adding.{bag_ext, children_weight}
use Rattle.step_core.proofs.Keeping.{IsCounted, Kept, counted_run, none_under_way, fresh_tally}
use Rattle.step_core.proofs.Runs.{KeptSince, start_are_empty, kept_phase, kept_from_start}

pub counter_law : CounterLaw
counter_law elements alphas nodes line lines ss w run = counted_run elements alphas nodes line ss _ w refl run

pub balance_law : BalanceLaw
balance_law elements alphas nodes line lines ss w placed run = (kept_from_start elements alphas nodes line lines placed ss w run).balance

-- ---- zero

nothing_known : (elements : Elements) (last : ℕ) → IsKnown elements last []
nothing_known elements last = record { low = tt; name = λ tag e is. absurd (cc) }

-- what changes from an empty working memory on have fed
fed_from_nothing : (elements : Elements) (alphas : List Alpha) (nodes : List Node) (last : ℕ) (cs : List Change) → Lawful [] last cs → NamesAdded elements cs
    → (n : ℕ) (s : Side) (t : List ℕ) → giver_of nodes n s ≡ Memory → signs n s t (fed_by_all elements alphas nodes cs) ≡ sums_over (done [] cs) alphas nodes n s t
fed_from_nothing elements alphas nodes last cs lawful names n s t of_memory =
    let a = fed_is_given elements alphas nodes last [] cs (nothing_known elements last) lawful names n s t of_memory in
    let b = nothing_given alphas nodes n s t of_memory in omega (arith, ints, a, b)

-- where nothing is under way
settles : (elements : Elements) (alphas : List Alpha) (nodes : List Node) (line : Placing) (last : ℕ) (cs : List Change) (w : World)
    → IsSound alphas nodes → (k : KeptSince elements nodes line (fed_by_all elements alphas nodes cs) w) → w.counter ≡ 0 → Lawful [] last cs → NamesAdded elements cs
    → HoldJust line (sums_over (done [] cs) alphas nodes) (map now w.lines)
settles elements alphas nodes line last cs w sound k quiet lawful names =
    hold_just line (sums_over (done [] cs) alphas nodes) (map now w.lines)
    (λ n s t. settled elements alphas nodes sound (done [] cs) (known_done elements last [] cs (nothing_known elements last) lawful names).name
    (λ n' s' t'. signs n' s' t' (fed_by_all elements alphas nodes cs)) (total (map now w.lines))
    (fed_from_nothing elements alphas nodes last cs lawful names) balance (suc n) n s t (omega arith))
    (now_within elements nodes line 0 w.lines k.kept.lines)
  where
    balance : (n : ℕ) (s : Side) (t : List ℕ)
        → total (map now w.lines) n s t ≡ put_out elements nodes (λ n' s' t'. signs n' s' t' (fed_by_all elements alphas nodes cs)) (total (map now w.lines)) (giver_of nodes n s) n s t
    balance n s t =
        let none = none_under_way w k.kept.counted quiet in
        let a = k.balance n s t in
        let b = ap₂ (λ (xs : List Task) (es : List Entry). signs n s t (xs ++ children_of es)) none.0 none.1 in omega (arith, ints, a, b)

pub zero_law : ZeroLaw
zero_law elements alphas nodes line lines ss w last placed run lawful names quiet =
    settles elements alphas nodes line last (changes_of ss) w placed.sound (kept_from_start elements alphas nodes line lines placed ss w run) quiet lawful names

pub start_law : StartLaw
start_law elements alphas nodes line lines placed = record {
  counter = refl;
  flight = refl;
  done = refl;
  empty = start_are_empty nodes line lines;
  holds = zero_law elements alphas nodes line lines [] (start nodes line lines) 0 placed refl tt none refl;
}
  where
    none : NamesAdded elements []
    none e has = absurd (member_from_contains (Add e) [] has)

pub inst_law : InstLaw
inst_law net rules elements line lines ss w last is placed run lawful names small quiet =
    terminal_law net rules line (done [] (changes_of ss)) (map now w.lines) is (made_wm last (changes_of ss) lawful small)
    (zero_law elements net.alphas net.nodes line lines ss w last placed run lawful names quiet)

-- ---- phases

pub empty_entries : (ls : List Seen) → AreEmpty ls → entries_of ls ≡ []
empty_entries [] empty = refl
empty_entries (l ∷ ls) empty = ap₂ (λ (xs : List Entry) (ys : List Entry). xs ++ ys) (empty 0 l refl) (empty_entries ls (λ i m at. empty (suc i) m at))

empty-now : (l : Seen) → l.entries ≡ [] → before l ≡ now l
empty-now l none = bag_ext (before l) (now l) (λ n s t. let a = ap (λ es. signs n s t (tasks_of es)) none in omega (arith, ints, a))

pub empty_before : (ls : List Seen) → AreEmpty ls → map before ls ≡ map now ls
empty_before [] empty = refl
empty_before (l ∷ ls) empty = ap₂ (λ (b : Bag) (bs : List Bag). b ∷ bs) (empty-now l (empty 0 l refl)) (empty_before ls (λ i m at. empty (suc i) m at))

-- lines without entries where nothing is under way
kept_at_rest : (elements : Elements) (nodes : List Node) (line : Placing) (w : World) → ((n : ℕ) (s : Side) (t : List ℕ) → line n s t < length w.lines)
    → IsCounted w → w.counter ≡ 0 → AreEmpty w.lines → AreLines elements nodes line 0 w.lines → Kept elements nodes line [] [] w
kept_at_rest elements nodes line w room counted quiet empty are = record {
  room = room;
  counted = counted;
  lines = are;
  tally = fresh_tally w (empty_entries w.lines empty) counted quiet;
}

rest_lines : (elements : Elements) (nodes : List Node) (line : Placing) (b : Bag) (w : World) → IsAtRest line b w → AreLines elements nodes line 0 w.lines
rest_lines elements nodes line b w rest = all_from (IsLine elements nodes line) 0 w.lines (λ i l at. subst (λ j. IsLine elements nodes line j l) (omega arith) (record {
  within = λ n s t off. ap (λ (c : Bag). c n s t) (empty-now l (rest.empty i l at)) ∙ rest.holds.apart i (now l) (slice_get-map now w.lines i ∙ ap (option_map now) at) n s t off;
  placed = subst (λ es. AllByRecursion (IsOn line i) (tasks_of es)) (sym (rest.empty i l at)) tt;
  lawful = subst (λ es. AreLawful elements nodes (before l) es) (sym (rest.empty i l at)) tt;
}))

pub task_law : TaskLaw
task_law elements alphas nodes line lines earlier phase w w' placed run quiet empty clear run' =
    let k = (kept_from_start elements alphas nodes line lines placed earlier w run).kept in
    let p = kept_phase elements alphas nodes line phase [] [] w w' clear (kept_at_rest elements nodes line w k.room k.counted quiet empty k.lines) run' in
    (p.finished, p.kept.tally)

-- at the end of a phase all entries are finished
tasks_at_end : (fed : List Task) (finished : List Entry) (w : World) → IsTallied fed finished w → IsCounted w → w.counter ≡ 0 → AreSame (tasks_of (entries_of w.lines)) (fed ++ children_of (entries_of w.lines))
tasks_at_end fed finished w tally counted quiet g =
    let none = none_under_way w counted quiet in
    let a = tally.tasks g in
    let b = ap (λ (xs : List Task). sum_by g (tasks_of (entries_of w.lines) ++ xs)) none.0 in
    let c = sum_by-append g (tasks_of (entries_of w.lines)) [] in
    let d = tally.entries (λ e. sum_by g e.children) in
    let e = ap (λ (es : List Entry). sum_by (λ x. sum_by g x.children) (finished ++ es)) none.1 in
    let f = sum_by-append (λ (x : Entry). sum_by g x.children) finished [] in
    let h = children_weight g (entries_of w.lines) in
    let i = children_weight g finished in
    let j = sum_by-append g fed (children_of finished) in
    let k = sum_by-append g fed (children_of (entries_of w.lines)) in omega (arith, a, b, c, d, e, f, h, i, j, k)

pub settle_law : SettleLaw
settle_law elements alphas nodes line wm phase w w' room rest clear run quiet =
    let counted : IsCounted w = cc (ap length rest.flight, ap length rest.done, rest.counter) in
    let p = kept_phase elements alphas nodes line phase [] [] w w' clear (kept_at_rest elements nodes line w room counted rest.counter rest.empty (rest_lines elements nodes line (sums_over wm alphas nodes) w rest)) run in
    record {
      start = subst (HoldJust line (sums_over wm alphas nodes)) (sym (p.start ∙ empty_before w.lines rest.empty)) rest.holds;
      phases = λ i l at. let is : IsLine elements nodes line i l = subst (λ j. IsLine elements nodes line j l) (omega arith) (at_from (IsLine elements nodes line) 0 w'.lines p.kept.lines i l at) in record {
        lawful = is.lawful;
        placed = All-from_recursion (IsOn line i) (tasks_of l.entries) is.placed;
      };
      tasks = tasks_at_end (fed_by_all elements alphas nodes (changes_of phase)) p.finished w' p.kept.tally p.kept.counted quiet;
    }

pub phase_law : PhaseLaw
phase_law elements alphas nodes line lines earlier phase w w' last placed run quiet empty lawful names clear run' quiet' =
    let k = kept_from_start elements alphas nodes line lines placed earlier w run in
    let none = none_under_way w k.kept.counted quiet in
    settle_law elements alphas nodes line (done [] (changes_of earlier)) phase w w' k.kept.room (record {
      counter = quiet;
      flight = none.0;
      done = none.1;
      empty = empty;
      holds = settles elements alphas nodes line last (changes_of earlier) w placed.sound k quiet lawful names;
    }) clear run' quiet'

pub bundle_law : BundleLaw
bundle_law elements alphas nodes line wm last changes ls sound one low names lawful added bundle =
    bundle_settles elements alphas nodes line sound one last wm changes ls (known elements last wm low names) lawful added bundle
