-- A line after it got an entry, or stayed as it was.
use Rattle.std.proofs.Common.{◌≡◌, ℕ, List, [], ◌∷◌, ◌++◌, sym, ap, ap₂, subst, ◌∙◌, Result, Ok, Err, OnOk, OnErr}
use Rattle.work_store.specs.Stored.{Stored, held_of}
use Rattle.net_base.specs.declared.nodes.Node.{Node}
use Rattle.net_base.specs.declared.tasks.Side.{Side}
use Rattle.net_base.specs.declared.tasks.Task.{Task}
use Rattle.token_line.specs.declared.line.Entry.{Entry}
use Rattle.token_line.specs.declared.line.Line.{Line}
use Rattle.token_line.specs.Bags.{Bag, after}
use Rattle.token_line.specs.Lines.{sum_in}
use Rattle.token_line.specs.Numbers.{line_number}
use Rattle.activation.specs.Acting.{Acts}
use Rattle.step_core.specs.Machine.{Seen, with_entry, place_of}
use Rattle.step_core.specs.Phases.{before, IsPhase}
use Rattle.step_core.specs.Worlds.{placed, seen}
use Rattle.step_core.proofs.Adding.{bag_ext, before-push, entry_law}
use Rattle.steal_engine.specs.Phased.{Grows, KeepsPhase}

seen_is : (l : Line) (b : Bag) (es : List Entry) → ((n : ℕ) (s : Side) (t : List ℕ) → sum_in l n s t ≡ b n s t) → l.entries.items ≡ es → seen l ≡ record { sums = b; entries = es }
seen_is l b es sums entries = let make : Bag → List Entry → Seen = λ c xs. record { sums = c; entries = xs } in ap₂ make (bag_ext (sum_in l) b sums) entries

module _ (nodes : List Node) (s : Stored) (lines : ℕ) (first old new : Line) (number : new.number ≡ old.number) where
  abbrev phase : ℕ → Seen → Type 0
  phase k l = IsPhase (held_of s) nodes (placed (held_of s) nodes lines) k l

  -- what the old phase comes to under the new number
  with_number : KeepsPhase nodes s lines old.number first old → phase new.number (seen first) → phase old.number (seen old)
  with_number keeps was = keeps (subst (λ k. phase k (seen first)) number was)

  module _ (sums : (n : ℕ) (side : Side) (t : List ℕ) → sum_in new n side t ≡ sum_in old n side t) (entries : new.entries.items ≡ old.entries.items) where
    same_seen : seen new ≡ seen old
    same_seen = seen_is new (sum_in old) old.entries.items sums entries

    pub phased_same : KeepsPhase nodes s lines old.number first old → KeepsPhase nodes s lines new.number first new
    phased_same keeps was =
        subst (λ l. phase new.number l) (sym same_seen)
        (subst (λ k. phase k (seen old)) (sym number) (with_number keeps was))

    pub begins_same : (n : ℕ) (side : Side) (t : List ℕ) → before (seen new) n side t ≡ before (seen old) n side t
    begins_same n side t = ap (λ l. before l n side t) same_seen

  module _ (x : Task) (begun given : List Task) (acts : Acts nodes s x old new begun given) where
    seen_new : seen new ≡ with_entry (seen old) acts.entry
    seen_new = seen_is new (after (sum_in old) acts.entry.task) (old.entries.items ++ acts.entry ∷ []) (λ n side t. acts.sums n side t ∙ ap (λ y. after (sum_in old) y n side t) (sym acts.task)) acts.entries

    pub begins_more : (n : ℕ) (side : Side) (t : List ℕ) → before (seen new) n side t ≡ before (seen old) n side t
    begins_more n side t = ap (λ l. before l n side t) seen_new ∙ before-push (seen old) acts.entry n side t

    pub grows : Grows nodes s x old.entries.items new.entries.items begun given
    grows = let make : Task → List Task → Entry = λ a b. record { task = a; children = b } in
        let is : acts.entry ≡ record { task = x; children = acts.entry.children } = ap (λ a. make a acts.entry.children) acts.task in
        (acts.entry.children, acts.entries ∙ ap (λ e. old.entries.items ++ e ∷ []) is, acts.given, acts.fit)

    pub phased_more : line_number (held_of s) nodes lines x.node x.side x.token ≡ old.number
        → KeepsPhase nodes s lines old.number first old → KeepsPhase nodes s lines new.number first new
    phased_more here keeps was =
        let place : place_of (placed (held_of s) nodes lines) acts.entry.task ≡ old.number = ap (place_of (placed (held_of s) nodes lines)) acts.task ∙ here in
        subst (λ l. phase new.number l) (sym seen_new)
        (subst (λ k. phase k (with_entry (seen old) acts.entry)) (sym number)
        (entry_law (held_of s) nodes (placed (held_of s) nodes lines) old.number (seen old) acts.entry (with_number keeps was) place (acts.lawful (held_of s) (λ tag e is. is))))

-- what holds of a result either way
pub by_result : {T E : Type 0} (r : Result T E) (A B C P : Type 0) → OnOk r A → OnErr r B → OnErr r C → (A → P) → (B → C → P) → P
by_result (Ok x) A B C P a b c f g = f a
by_result (Err e) A B C P a b c f g = g b c
