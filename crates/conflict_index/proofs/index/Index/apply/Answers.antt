use Rattle.std.proofs.Common.{◌≡◌, List, length, take, map, ap, ◌∙◌, subst, arith}
use Rattle.std.specs.Prelude.{Result, Ok, Err, OnErr}
use Rattle.std.specs.HashMap.{spare}
use Rattle.conflict_index.specs.Rank.{Rank}
use Rattle.conflict_index.specs.Applying.{IsApplied}
use Rattle.conflict_index.specs.Indexed.{Member, Indexed}
use Rattle.conflict_index.specs.Keeping.{rank_in, Loses, members_of}
use Rattle.conflict_index.proofs.Kept.{same_from_permutation, moved_view, moved_kept}
use Rattle.conflict_index.proofs.Applying.{CanApply, can_apply, come_apart, come_among, told_apart, keys_apart, IsChanged, changed_kept, changed_is, changed_keeps}
use Rattle.conflict_index.proofs.index.Index.apply.Goals as goal

pub invariant_of-self-in_err-reserve : goal.invariant_of-self-in_err-reserve
invariant_of-self-in_err-reserve c =
    moved_kept c.self.inside.strategy c.self.inside.waiting.entries c.self.inside.waiting.entries c.self.inside.fired.entries c.reserve.new.self.entries (spare c.self.inside.fired) (spare c.reserve.new.self)
    c.self.invariant (λ i. c.self.inside.waiting.entries) (same_from_permutation c.self.inside.fired.entries c.reserve.new.self.entries c.reserve.ensures.entries.0)
    c.reserve.ensures.unique c.reserve.ensures.spare

pub add-requires-clause-told_apart : goal.add-requires-clause-told_apart
add-requires-clause-told_apart c =
    let rules = c.args.program.now.rules in
    let come = c.args.come.now in
    let can = can_apply c.self.inside.strategy rules c.args.gone.now come c.self.inside.waiting.entries c.self.inside.fired.entries (spare c.self.inside.fired) c.args.self.now c.self.view_is c.self.invariant c.requires.part c.requires.apart c.requires.specificities in
    told_apart c.self.inside.strategy rules c.args.gone.now come c.self.inside.waiting.entries c.self.inside.fired.entries (spare c.self.inside.fired) can

pub add-requires-clause-apart : goal.add-requires-clause-apart
add-requires-clause-apart c =
    let rules = c.args.program.now.rules in
    let come = c.args.come.now in
    let can = can_apply c.self.inside.strategy rules c.args.gone.now come c.self.inside.waiting.entries c.self.inside.fired.entries (spare c.self.inside.fired) c.args.self.now c.self.view_is c.self.invariant c.requires.part c.requires.apart c.requires.specificities in
    come_apart c.self.inside.strategy rules c.args.gone.now come c.self.inside.waiting.entries c.self.inside.fired.entries (spare c.self.inside.fired) can

pub add-requires-clause-among : goal.add-requires-clause-among
add-requires-clause-among c =
    let rules = c.args.program.now.rules in
    let come = c.args.come.now in
    let can = can_apply c.self.inside.strategy rules c.args.gone.now come c.self.inside.waiting.entries c.self.inside.fired.entries (spare c.self.inside.fired) c.args.self.now c.self.view_is c.self.invariant c.requires.part c.requires.apart c.requires.specificities in
    come_among c.self.inside.strategy rules c.args.gone.now come c.self.inside.waiting.entries c.self.inside.fired.entries (spare c.self.inside.fired) can

pub remove_all-requires-clause-apart : goal.remove_all-requires-clause-apart
remove_all-requires-clause-apart c =
    let rules = c.args.program.now.rules in
    let come = c.args.come.now in
    let can = can_apply c.self.inside.strategy rules c.args.gone.now come c.self.inside.waiting.entries c.self.inside.fired.entries (spare c.self.inside.fired) c.args.self.now c.self.view_is c.self.invariant c.requires.part c.requires.apart c.requires.specificities in
    keys_apart c.self.inside.strategy rules c.args.gone.now come c.self.inside.waiting.entries c.self.inside.fired.entries (spare c.self.inside.fired) can
    c.add.new.waiting.entries c.reserve.new.self.entries c.in_ok-add.ensures.ok (same_from_permutation c.self.inside.fired.entries c.reserve.new.self.entries c.reserve.ensures.entries.0)

pub invariant_of-self-in_err-add : goal.invariant_of-self-in_err-add
invariant_of-self-in_err-add c =
    moved_kept c.self.inside.strategy c.self.inside.waiting.entries c.add.new.waiting.entries c.self.inside.fired.entries c.reserve.new.self.entries (spare c.self.inside.fired) (spare c.reserve.new.self)
    c.self.invariant c.in_err-add.ensures.err (same_from_permutation c.self.inside.fired.entries c.reserve.new.self.entries c.reserve.ensures.entries.0)
    c.reserve.ensures.unique c.reserve.ensures.spare

on_err : {T E : Type 0} (r : Result T E) (P : Type 0) → P → OnErr r P
on_err (Ok x) P h = tt
on_err (Err e) P h = h

pub returns-in_err-add-clause-err : goal.returns-in_err-add-clause-err
returns-in_err-add-clause-err c =
    on_err c.from_residual-in_err-add.result _
    (ap (λ (ms : List Member). record { strategy = c.self.inside.strategy; members = ms })
    (moved_view c.self.inside.strategy c.self.inside.waiting.entries c.add.new.waiting.entries c.self.inside.fired.entries c.reserve.new.self.entries (spare c.self.inside.fired)
    c.self.invariant c.in_err-add.ensures.err (same_from_permutation c.self.inside.fired.entries c.reserve.new.self.entries c.reserve.ensures.entries.0))
    ∙ c.self.view_is)

-- what was known at the call
can : (c : goal.After-remove_all) → CanApply c.self.inside.strategy c.args.program.now.rules c.args.gone.now c.args.come.now c.self.inside.waiting.entries c.self.inside.fired.entries (spare c.self.inside.fired)
can c =
    can_apply c.self.inside.strategy c.args.program.now.rules c.args.gone.now c.args.come.now c.self.inside.waiting.entries c.self.inside.fired.entries (spare c.self.inside.fired)
    c.args.self.now c.self.view_is c.self.invariant c.requires.part c.requires.apart c.requires.specificities

-- what was done
changed : (c : goal.After-remove_all)
    → IsChanged c.self.inside.strategy c.args.program.now.rules c.args.gone.now c.args.come.now c.self.inside.waiting.entries c.add.new.waiting.entries c.remove_all.new.waiting.entries
    c.self.inside.fired.entries c.reserve.new.self.entries c.remove_all.new.fired.entries
changed c =
    let L : List Rank → Type 0 = λ rs. Loses rs c.add.new.waiting.entries c.remove_all.new.waiting.entries in
    let M : List Rank → Type 0 = λ rs. Loses (map (λ (r : Rank). r.key) rs) c.reserve.new.self.entries c.remove_all.new.fired.entries in
    let ranks : take (length c.args.gone.now) c.as_slice.result.now ≡ map (rank_in c.self.inside.strategy c.args.program.now.rules) c.args.gone.now =
    ap (λ (rs : List Rank). take (length c.args.gone.now) rs) c.as_slice.ensures.value ∙ c.in_ok-rank_each.ensures.ok in
    record {
      gains = c.in_ok-add.ensures.ok;
      loses = subst L ranks c.remove_all.ensures.waiting;
      same = same_from_permutation c.self.inside.fired.entries c.reserve.new.self.entries c.reserve.ensures.entries.0;
      loses_marks = subst M ranks c.remove_all.ensures.fired;
    }

pub invariant_of-self-2 : goal.invariant_of-self-2
invariant_of-self-2 c =
    let rules = c.args.program.now.rules in
    let come = c.args.come.now in
    changed_kept c.self.inside.strategy rules c.args.gone.now come c.self.inside.waiting.entries c.self.inside.fired.entries (spare c.self.inside.fired) (can c)
    c.add.new.waiting.entries c.remove_all.new.waiting.entries c.reserve.new.self.entries c.remove_all.new.fired.entries (changed c) (spare c.remove_all.new.fired)
    c.remove_all.ensures.ordered c.remove_all.ensures.unique
    (omega (arith, c.in_ok-reserve.ensures.ok, c.len.ensures.len, c.add.ensures.number, c.remove_all.ensures.number, c.remove_all.ensures.spare))

pub returns-clause-ok : goal.returns-clause-ok
returns-clause-ok c =
    let rules = c.args.program.now.rules in
    let next : Indexed = record { strategy = c.self.inside.strategy; members = members_of c.remove_all.new.waiting.entries c.remove_all.new.fired.entries } in
    let Q : Indexed → Type 0 = λ v. IsApplied rules c.args.gone.now c.args.come.now v next in
    subst Q c.self.view_is
    (changed_is c.self.inside.strategy rules c.args.gone.now c.args.come.now c.self.inside.waiting.entries c.self.inside.fired.entries (spare c.self.inside.fired) (can c)
    c.add.new.waiting.entries c.remove_all.new.waiting.entries c.reserve.new.self.entries c.remove_all.new.fired.entries (changed c))

pub returns-clause-kept : goal.returns-clause-kept
returns-clause-kept c =
    changed_keeps c.self.inside.strategy c.args.program.now.rules c.args.gone.now c.args.come.now c.self.inside.waiting.entries c.self.inside.fired.entries (spare c.self.inside.fired) (can c)
    c.add.new.waiting.entries c.remove_all.new.waiting.entries c.reserve.new.self.entries c.remove_all.new.fired.entries (changed c)
