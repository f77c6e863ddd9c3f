use Rattle.std.proofs.Common.{◌≡◌, ℕ, ◌+◌, ◌<◌, List, [], ◌∷◌, ◌++◌, length, take, drop, get_or, drop-cons, add-one, ap, sym, ◌∙◌, subst}
use Rattle.std.proofs.lemmas.List.{take_more}
use Rattle.ops_base.specs.declared.elements.Change.{Change}
use Rattle.ops_base.specs.declared.elements.Element.{Element}
use Rattle.ops_base.specs.WorkingMemory.{change_done, Lawful}
use Rattle.ops_base.proofs.Changes.{first_lawful, rest_lawful}
use Rattle.work_store.specs.Stored.{AreDone}
use Rattle.work_store.proofs.Holding.{one_more_done}
use Rattle.work_store.proofs.store.Store.make_changes.Goals as goal

-- the change at an index is the first of those that are left
first_left : (cs : List Change) (at : ℕ) (c : Change) → c ≡ get_or cs at c → at < length cs → drop at cs ≡ c ∷ drop (at + 1) cs
first_left cs at c is within = rw add-one (drop-cons cs at c within) ∙ ap (λ d. d ∷ drop (at + 1) cs) (sym is)

pub make_change-requires : goal.make_change-requires
make_change-requires c =
    let here = first_left c.args.changes.now c.loop-change.change-index _ c.change-item.is c.loop-change-test.true in
    let P : List Change → Type 0 = Lawful c.loop-change.self.elements c.loop-change.self.last in
    first_lawful _ _ _ _ (subst P here c.loop-change.invariant.rest)

pub loop-change-preserved : goal.loop-change-preserved
loop-change-preserved c =
    let all = c.args.changes.now in
    let at = c.loop-change.change-index in
    let change = c.change-item.result in
    let before = c.loop-change.self in
    let now = c.make_change.new.store in
    let one = c.in_ok-make_change.ensures.ok in
    let here = first_left all at change c.change-item.is c.loop-change-test.true in
    let taken : take (at + 1) all ≡ take at all ++ change ∷ [] = take_more all at change c.loop-change-test.true ∙ ap (λ d. take at all ++ d ∷ []) (sym c.change-item.is) in
    let P : List Change → Type 0 = Lawful before.elements before.last in
    let Q : List Element → Type 0 = λ wm. Lawful wm now.last (drop (at + 1) all) in
    let R : ℕ → Type 0 = λ last. Lawful (change_done before.elements change) last (drop (at + 1) all) in
    let S : List Change → Type 0 = λ changes. AreDone changes c.args.self.now now in
    record {
      before = subst S (sym taken) (one_more_done (take at all) change c.args.self.now before now c.loop-change.invariant.before one);
      rest = subst Q (sym one.elements) (subst R (sym one.last) (rest_lawful _ _ _ _ (subst P here c.loop-change.invariant.rest)));
    }
