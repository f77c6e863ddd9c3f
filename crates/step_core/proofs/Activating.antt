-- A task leaves the flight, and its entry joins its line and those that are done, or is finished at once.
use Rattle.std.proofs.Common.{◌≡◌, ℕ, zero, suc, ◌<◌, ◌+◌, ◌-◌, List, [], ◌∷◌, ◌++◌, map, length, get_or, set, remove, take, drop, refl, sym, ap, ap₂, subst, ◌∙◌, arith, slice_get, Some}
use Rattle.std.specs.List.{All}
use Rattle.std.proofs.lemmas.List.Elements.{All-append, All-drop, All-take}
use Rattle.std.proofs.Math.Seq.{map-set_same}
use Rattle.work_store.specs.Stored.{Stored, held_of}
use Rattle.net_base.specs.declared.nodes.Alpha.{Alpha}
use Rattle.net_base.specs.declared.nodes.Node.{Node}
use Rattle.net_base.specs.declared.tasks.Side.{Side}
use Rattle.net_base.specs.declared.tasks.Task.{Task}
use Rattle.net_base.specs.Sound.{IsSound}
use Rattle.net_base.specs.Tokens.{Elements}
use Rattle.token_line.specs.declared.line.Entry.{Entry}
use Rattle.token_line.specs.declared.line.Line.{Line}
use Rattle.token_line.specs.Bags.{Bag, after}
use Rattle.token_line.specs.Held.{Agrees, TaskFits}
use Rattle.token_line.specs.Lawful.{IsLawful}
use Rattle.token_line.specs.Lines.{sum_in}
use Rattle.token_line.specs.Numbers.{line_number}
use Rattle.activation.specs.Acting.{Acts}
use Rattle.step_core.specs.Machine.{Placing, place_of, Seen, World, with_entry, sums_at, add_entry, Activate, Activates, Finish, Finishes, Run}
use Rattle.step_core.specs.Worlds.{ActsOn, EntryFits, placed, seen}
use Rattle.step_core.proofs.Adding.{bag_ext}
use Rattle.step_core.proofs.ListPlaces.{get_last, remove_pushed}
use Rattle.step_core.proofs.Placed.{one_place}

-- ---- lists

pub All-remove : {X : Type 0} (P : X → Type 0) (xs : List X) (i : ℕ) → All P xs → All P (remove xs i)
All-remove P xs i all = All-append P (take i xs) (drop (suc i) xs) (All-take P i xs all) (All-drop P (suc i) xs all)

seen_is : (l : Line) (b : Bag) (es : List Entry) → ((n : ℕ) (s : Side) (t : List ℕ) → sum_in l n s t ≡ b n s t) → l.entries.items ≡ es → seen l ≡ record { sums = b; entries = es }
seen_is l b es sums entries = let make : Bag → List Entry → Seen = λ c xs. record { sums = c; entries = xs } in ap₂ make (bag_ext (sum_in l) b sums) entries

-- ---- one line in the place of another

pub seen_same : (ls : List Line) (k : ℕ) (old new : Line) → old ≡ get_or ls k old → ((n : ℕ) (s : Side) (t : List ℕ) → sum_in new n s t ≡ sum_in old n s t) → new.entries.items ≡ old.entries.items
    → map seen (set ls k new) ≡ map seen ls
seen_same ls k old new at sums entries = map-set_same seen ls k new old (seen_is new (sum_in old) old.entries.items sums entries ∙ ap seen at)

pub numbers_same : (ls : List Line) (k : ℕ) (old new : Line) → old ≡ get_or ls k old → new.number ≡ old.number → map (λ l. l.number) (set ls k new) ≡ map (λ l. l.number) ls
numbers_same ls k old new at same = map-set_same (λ (l : Line). l.number) ls k new old (same ∙ ap (λ (l : Line). l.number) at)

seen_entry : (ls : List Line) (k : ℕ) (old new : Line) (e : Entry) → k < length ls → old ≡ get_or ls k old → seen new ≡ with_entry (seen old) e → map seen (set ls k new) ≡ add_entry k e (map seen ls)
seen_entry [] k old new e low at is = absurd (omega arith)
seen_entry (l ∷ ls) zero old new e low at is = ap (λ x. x ∷ map seen ls) (is ∙ ap (λ x. with_entry (seen x) e) at)
seen_entry (l ∷ ls) (suc k) old new e low at is = ap (λ xs. seen l ∷ xs) (seen_entry ls k old new e (omega arith) at is)

sums_seen : (ls : List Line) (k : ℕ) (old : Line) → k < length ls → old ≡ get_or ls k old → (n : ℕ) (s : Side) (t : List ℕ) → sums_at k (map seen ls) n s t ≡ sum_in old n s t
sums_seen [] k old low at n s t = absurd (omega arith)
sums_seen (l ∷ ls) zero old low at n s t = ap (λ x. sum_in x n s t) (sym at)
sums_seen (l ∷ ls) (suc k) old low at n s t = sums_seen ls k old (omega arith) at n s t

-- ---- the task on its line

module _ (nodes : List Node) (s : Stored) (x : Task) (fits : TaskFits nodes s x) (old new : Line) (before now : List Task) (acts : Acts nodes s x old new before now) where
  module _ (alphas : List Alpha) (sound : IsSound alphas nodes) (ls : List Line) (k : ℕ) (is : k ≡ line_number (held_of s) nodes (length ls) x.node x.side x.token) (low : k < length ls) (at : old ≡ get_or ls k old) where
    place : (elements : Elements) → Agrees s elements → place_of (placed elements nodes (length ls)) x ≡ k
    place elements agrees = one_place s elements agrees alphas nodes sound (length ls) x fits ∙ sym is

    pub acts_on : ActsOn nodes s x ls (set ls k new) before now
    acts_on = record {
      entry = acts.entry;
      task = acts.task;
      lawful = λ elements agrees. subst (λ b. IsLawful elements nodes b acts.entry) (sym (sums elements agrees)) (acts.lawful elements agrees);
      joins = λ elements agrees. seen_entry ls k old new acts.entry low at seen_new ∙ ap (λ j. add_entry j acts.entry (map seen ls)) (sym (place elements agrees));
      fit = acts.fit;
      given = acts.given;
    }
      where
        sums : (elements : Elements) → Agrees s elements → sums_at (place_of (placed elements nodes (length ls)) x) (map seen ls) ≡ sum_in old
        sums elements agrees = ap (λ j. sums_at j (map seen ls)) (place elements agrees) ∙ bag_ext (sums_at k (map seen ls)) (sum_in old) (sums_seen ls k old low at)

        seen_new : seen new ≡ with_entry (seen old) acts.entry
        seen_new = seen_is new (after (sum_in old) acts.entry.task) (old.entries.items ++ acts.entry ∷ []) (λ n side t. acts.sums n side t ∙ ap (λ y. after (sum_in old) y n side t) (sym acts.task)) acts.entries

-- ---- the steps

abbrev pub world : List Seen → List Task → List Entry → ℕ → World
world lines flight done counter = record { lines = lines; flight = flight; done = done; counter = counter }

module _ (nodes : List Node) (s : Stored) (x : Task) (fits : TaskFits nodes s x) (old new : List Line) (before now : List Task) (acts : ActsOn nodes s x old new before now) where
  pub entry_is : before ≡ [] → record { task = x; children = now } ≡ acts.entry
  entry_is none = let make : Task → List Task → Entry = λ a b. record { task = a; children = b } in ap₂ make (sym acts.task) (acts.given ∙ ap (λ ts. ts ++ acts.entry.children) none)

  pub entry_fits : EntryFits nodes s acts.entry
  entry_fits = record { task = subst (TaskFits nodes s) (sym acts.task) fits; children = acts.fit }

  pub activates : (elements : Elements) → Agrees s elements → (flight : List Task) (done : List Entry) (counter i : ℕ) → slice_get flight i ≡ Some x
      → Activates elements nodes (placed elements nodes (length old)) (world (map seen old) flight done counter) i
      (world (map seen new) (remove flight i) (done ++ acts.entry ∷ []) counter)
  activates elements agrees flight done counter i task = record {
    entry = acts.entry;
    task = task ∙ ap (λ z. Some z) (sym acts.task);
    lawful = subst (λ y. IsLawful elements nodes (sums_at (place_of line y) (map seen old)) acts.entry) (sym acts.task) (acts.lawful elements agrees);
    becomes = ap (λ ls. world ls (remove flight i) (done ++ acts.entry ∷ []) counter) (acts.joins elements agrees ∙ ap (λ y. add_entry (place_of line y) acts.entry (map seen old)) (sym acts.task));
  }
    where
      line : Placing
      line = placed elements nodes (length old)

  -- of a task that is done and finished at once
  pub works : (elements : Elements) → Agrees s elements → (flight : List Task) (done : List Entry) (counter i j : ℕ) → slice_get flight i ≡ Some x → j ≡ length done
      → (left : List Task) (counter' : ℕ) → left ≡ remove flight i ++ acts.entry.children → counter' ≡ counter + length acts.entry.children - 1
      → (alphas : List Alpha) → Run elements alphas nodes (placed elements nodes (length old)) (world (map seen old) flight done counter) (Activate i ∷ Finish j ∷ [])
      (world (map seen new) left done counter')
  works elements agrees flight done counter i j task last left counter' left_is count_is alphas =
      (world lines (remove flight i) (done ++ acts.entry ∷ []) counter, activates elements agrees flight done counter i task, (world lines left done counter', finishes, refl))
    where
      lines : List Seen
      lines = map seen new

      finishes : Finishes (world lines (remove flight i) (done ++ acts.entry ∷ []) counter) j (world lines left done counter')
      finishes = record {
        entry = acts.entry;
        was = get_last done acts.entry j last;
        becomes = ap₂ (λ ts n. world lines ts done n) left_is count_is ∙ ap (λ es. world lines (remove flight i ++ acts.entry.children) es (counter + length acts.entry.children - 1)) (sym (remove_pushed done acts.entry j last));
      }
