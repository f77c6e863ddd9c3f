use Rattle.std.proofs.Common.{◌≡◌, [], ◌∷◌, Bool, None, length, refl, ap, sym, subst}
use Rattle.std.specs.HashMap.{get}
use Rattle.resolution.specs.Keys.{Key, same_keys}
use Rattle.conflict_index.specs.Keeping.{all_members, Gains}
use Rattle.conflict_index.specs.Rank.{Rank}
use Rattle.conflict_index.proofs.Adding.{waits, waits_gains, waits_kept, unmarked, marked_gains, now_kept}
use Rattle.conflict_index.proofs.marks.add_one.Goals as goal

abbrev key_of : Rank → Key
key_of r = r.key

pub put-requires-clause-absent : goal.put-requires-clause-absent
put-requires-clause-absent c =
    let Q : Key → Type 0 = λ k. get same_keys c.args.fired.now k ≡ None in
    subst Q (sym (ap key_of c.rank.view_is))
    (unmarked c.args.strategy c.args.waiting.now.entries c.args.fired.now.entries (length c.args.waiting.now.entries) c.requires.kept c.args.rank c.args.inst c.requires.rank c.requires.apart c.args.fired.now refl
    c.requires.kept.unique)

-- what became of the marks
gained : (c : goal.After-put) → Gains ((c.args.rank.key, c.args.inst) ∷ []) c.args.fired.now.entries c.put.new.fired.entries
gained c =
    let G : Key → Type 0 = λ k. Gains ((k, c.args.inst) ∷ []) c.args.fired.now.entries c.put.new.fired.entries in
    subst G (ap key_of c.rank.view_is) c.put.ensures.fired

pub returns-then-is_marked-clause-kept : goal.returns-then-is_marked-clause-kept
returns-then-is_marked-clause-kept c =
    now_kept c.args.strategy c.args.waiting.now.entries c.args.fired.now.entries (length c.args.waiting.now.entries) c.requires.kept c.args.rank c.args.inst c.requires.rank c.requires.apart
    c.put.new.fired.entries (gained c) c.put.ensures.unique

pub returns-then-is_marked-clause-members : goal.returns-then-is_marked-clause-members
returns-then-is_marked-clause-members c =
    let G : Bool → Type 0 = λ b.
    Gains (record { inst = c.args.inst; specificity = c.args.rank.key.specificity; fired = b } ∷ []) (all_members c.args.waiting.now.entries c.args.fired.now.entries)
    (all_members c.args.waiting.now.entries c.put.new.fired.entries) in
    subst G (sym c.if-is_marked.true)
    (marked_gains c.args.strategy c.args.waiting.now.entries c.args.fired.now.entries (length c.args.waiting.now.entries) c.requires.kept c.args.rank c.args.inst c.requires.rank c.requires.apart c.put.new.fired.entries
    (gained c))

pub returns-in_ok-insert-clause-kept : goal.returns-in_ok-insert-clause-kept
returns-in_ok-insert-clause-kept c =
    let gains = waits c.args.strategy c.args.waiting.now.entries c.args.fired.now.entries (length c.args.waiting.now.entries) c.requires.kept c.args.rank c.args.inst c.requires.rank c.requires.apart c.args.waiting.now
    c.insert.new.self refl c.insert.ensures.was_ordered c.insert.ensures.ordered c.in_ok-insert.ensures.updates in
    waits_kept c.args.strategy c.args.waiting.now.entries c.args.fired.now.entries (length c.args.waiting.now.entries) c.requires.kept c.args.rank c.args.inst c.requires.rank c.requires.apart
    c.insert.new.self.entries gains c.insert.ensures.ordered

pub returns-in_ok-insert-clause-members : goal.returns-in_ok-insert-clause-members
returns-in_ok-insert-clause-members c =
    let gains = waits c.args.strategy c.args.waiting.now.entries c.args.fired.now.entries (length c.args.waiting.now.entries) c.requires.kept c.args.rank c.args.inst c.requires.rank c.requires.apart c.args.waiting.now
    c.insert.new.self refl c.insert.ensures.was_ordered c.insert.ensures.ordered c.in_ok-insert.ensures.updates in
    let G : Bool → Type 0 = λ b.
    Gains (record { inst = c.args.inst; specificity = c.args.rank.key.specificity; fired = b } ∷ []) (all_members c.args.waiting.now.entries c.args.fired.now.entries)
    (all_members c.insert.new.self.entries c.args.fired.now.entries) in
    subst G (sym c.if-is_marked.false)
    (waits_gains c.args.strategy c.args.waiting.now.entries c.args.fired.now.entries (length c.args.waiting.now.entries) c.requires.kept c.args.rank c.args.inst c.requires.rank c.requires.apart
    c.insert.new.self.entries gains)
