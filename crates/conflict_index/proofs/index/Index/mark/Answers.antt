use Rattle.std.proofs.Common.{◌≡◌, ◌<◌, None, List, [], ◌∷◌, length, ap, sym, ◌∙◌, subst, inl}
use Rattle.std.specs.Prelude.{is_some}
use Rattle.std.proofs.lemmas.Bool.{false≢true}
use Rattle.std.specs.HashMap.{spare, get}
use Rattle.ops_base.proofs.Members.{IsMember, member_right}
use Rattle.conflict_index.specs.declared.rank.Held.{Held}
use Rattle.conflict_index.specs.Rank.{Rank}
use Rattle.conflict_index.specs.Keeping.{Gains}
use Rattle.resolution.specs.Keys.{Key, same_keys}
use Rattle.conflict_index.specs.Indexed.{Member, Indexed}
use Rattle.conflict_index.specs.Applying.{marked}
use Rattle.conflict_index.proofs.Marking.{marked_view, marked_kept, no_mark, moved_view, moved_kept}
use Rattle.conflict_index.proofs.index.Index.mark.Goals as goal

abbrev key_of : Rank → Key
key_of r = r.key

pub invariant_of-self : goal.invariant_of-self
invariant_of-self c =
    marked_kept c.self.inside.strategy c.args.inst.now c.self.inside.waiting.entries c.mark_in_place.new.waiting.entries c.self.inside.fired.entries (spare c.self.inside.fired) c.self.invariant
    c.mark_in_place.ensures.entries c.mark_in_place.ensures.ordered

pub returns-then-not-is_last : goal.returns-then-not-is_last
returns-then-not-is_last c =
    ap (λ (ms : List Member). record { strategy = c.self.inside.strategy; members = ms })
    (marked_view c.args.inst.now c.self.inside.waiting.entries c.mark_in_place.new.waiting.entries c.self.inside.fired.entries c.mark_in_place.ensures.entries)
    ∙ ap (λ (v : Indexed). record v { members = marked c.args.inst.now v.members }) c.self.view_is

pub put-requires-clause-absent : goal.put-requires-clause-absent
put-requires-clause-absent c =
    let P : List (Rank × Held) → Type 0 = IsMember (c.in-Some.rank, c.in-Some.held) in
    let Q : Key → Type 0 = λ k. get same_keys c.self.inside.fired k ≡ None in
    subst Q (sym (ap key_of c.rank.view_is))
    (no_mark c.self.inside.strategy c.self.inside.waiting.entries c.self.inside.fired (spare c.self.inside.fired) c.self.invariant (c.in-Some.rank, c.in-Some.held)
    (subst P (sym c.in-Some.ensures.removal)
    (member_right (c.in-Some.rank, c.in-Some.held) c.pop_last.new.self.entries ((c.in-Some.rank, c.in-Some.held) ∷ []) (inl (λ i. (c.in-Some.rank, c.in-Some.held))))))

pub invariant_of-self-in-Some : goal.invariant_of-self-in-Some
invariant_of-self-in-Some c =
    let G : Key → Type 0 = λ k. Gains ((k, c.in-Some.held.inst) ∷ []) c.self.inside.fired.entries c.put.new.fired.entries in
    moved_kept c.self.inside.strategy c.args.inst.now c.self.inside.waiting.entries c.pop_last.new.self.entries (c.in-Some.rank, c.in-Some.held) c.self.inside.fired.entries c.put.new.fired.entries (spare c.self.inside.fired)
    c.self.invariant c.in-Some.ensures.removal (c.is_last.ensures.last (c.in-Some.rank, c.in-Some.held) c.pop_last.new.self.entries c.if-not-is_last.false c.in-Some.ensures.removal)
    (subst G (ap key_of c.rank.view_is) c.put.ensures.fired)
    (spare c.put.new.fired) c.pop_last.ensures.ordered c.put.ensures.unique c.put.ensures.spare

pub returns-in-Some : goal.returns-in-Some
returns-in-Some c =
    let G : Key → Type 0 = λ k. Gains ((k, c.in-Some.held.inst) ∷ []) c.self.inside.fired.entries c.put.new.fired.entries in
    ap (λ (ms : List Member). record { strategy = c.self.inside.strategy; members = ms })
    (moved_view c.self.inside.strategy c.args.inst.now c.self.inside.waiting.entries c.pop_last.new.self.entries (c.in-Some.rank, c.in-Some.held) c.self.inside.fired.entries c.put.new.fired.entries (spare c.self.inside.fired)
    c.self.invariant c.in-Some.ensures.removal (c.is_last.ensures.last (c.in-Some.rank, c.in-Some.held) c.pop_last.new.self.entries c.if-not-is_last.false c.in-Some.ensures.removal)
    (subst G (ap key_of c.rank.view_is) c.put.ensures.fired))
    ∙ ap (λ (v : Indexed). record v { members = marked c.args.inst.now v.members }) c.self.view_is

pub returns-in_default : goal.returns-in_default
returns-in_default c =
    let some : 0 < length c.self.inside.waiting.entries = c.is_last.ensures.some c.if-not-is_last.false in
    absurd (false≢true (sym (ap is_some c.in_default.is) ∙ c.pop_last.ensures.variant.1 some))
