-- A rank leaves the map in which it stands, and the other one is as it was.
use Rattle.std.proofs.Common.{◌≡◌, ◌≢◌, ◌≤◌, ◌+◌, ◌++◌, ◌∷◌, [], List, length, true, Option, Some, None, take, map, refl, ap, sym, ◌∙◌, subst, arith}
use Rattle.std.specs.Prelude.{Contains, is_some, ◌↔◌}
use Rattle.std.specs.BTreeMap.{BTreeMap}
use Rattle.std.specs.List.Sorted.{IsStrictlySortedBy}
use Rattle.std.specs.Map.{keys_of}
use Rattle.std.proofs.lemmas.List.{take_all, take_more, map-append}
use Rattle.ops_base.specs.declared.rules.Inst.{Inst}
use Rattle.resolution.specs.Keys.{Key}
use Rattle.conflict_index.specs.declared.rank.Held.{Held}
use Rattle.conflict_index.specs.Rank.{Rank}
use Rattle.conflict_index.specs.Keeping.{Loses}
use Rattle.conflict_index.specs.Ranking.{compare_ranks}
use Rattle.conflict_index.proofs.Lookups.{fired_has, waiting_loses, fired_loses, loses_more}
use Rattle.conflict_index.proofs.standing.remove_all.Goals as goal
use Rattle.conflict_index.proofs.standing.remove_all.Goals.{then-is_none+in-Some-1, then-is_none+in-None-1, else-is_none}

abbrev key_of : Rank → Key
key_of r = r.key

-- the rank has left those that wait
record Leaves (k : Rank) (old new : BTreeMap Rank Held) : Type 0 where
  loses : (e : Rank × Held) → Contains new.entries e ↔ (Contains old.entries e × (k ≢ e.0))
  ordered : IsStrictlySortedBy compare_ranks (keys_of new.entries)
  number : length new.entries ≤ length old.entries

there : (o : Option Inst) → is_some o ≡ true → (i : Inst) × (o ≡ Some i)
there None e = cc
there (Some i) e = (i, refl)

-- one that is not there has left
not_there : (k : Rank) (old : BTreeMap Rank Held) → ((e : Rank × Held) → Contains old.entries e → k ≢ e.0) → IsStrictlySortedBy compare_ranks (keys_of old.entries) → Leaves k old old
not_there k old apart ordered = record { loses = λ e. (λ h. (h, apart e h), λ h. h.0); ordered = ordered; number = omega arith }

pub loop-rank-preserved : goal.loop-rank-preserved
loop-rank-preserved c =
    let ranks = c.args.ranks.now in
    let k = c.loop-rank.rank-index in
    let rank = c.rank-item.result in
    let more : take (k + 1) ranks ≡ take k ranks ++ rank ∷ [] =
    take_more ranks k rank c.loop-rank-test.true ∙ ap (λ (r : Rank). take k ranks ++ r ∷ []) (sym c.rank-item.is) in
    let same : c.rank.inside.key ≡ rank.key = ap key_of c.rank.view_is in
    let K : Key → Type 0 = λ q. (d : Key × Inst) → Contains c.remove.new.self.entries d ↔ (Contains c.loop-rank.fired.entries d × (q ≢ d.0)) in
    let loses = subst K same (fired_loses c.loop-rank.fired c.remove.new.self c.rank.inside.key c.loop-rank.invariant.unique c.remove.ensures.unique c.remove.ensures.updates) in
    let leaves : Leaves rank c.loop-rank.waiting c.if-is_none.waiting = elim c.if-is_none.branch [
      | then-is_none+in-Some-1 w ↦ subst (Leaves rank c.loop-rank.waiting) (sym w.waiting-is) (record {
        loses = waiting_loses c.loop-rank.waiting w.remove-had_waited.new.self rank c.loop-rank.invariant.ordered w.remove-had_waited.ensures.ordered w.remove-had_waited.ensures.updates;
        ordered = w.remove-had_waited.ensures.ordered;
        number = omega (arith, w.remove-had_waited.ensures.len);
      })
      | then-is_none+in-None-1 w ↦ subst (Leaves rank c.loop-rank.waiting) (sym w.waiting-is) (record {
        loses = waiting_loses c.loop-rank.waiting w.remove-had_waited.new.self rank c.loop-rank.invariant.ordered w.remove-had_waited.ensures.ordered w.remove-had_waited.ensures.updates;
        ordered = w.remove-had_waited.ensures.ordered;
        number = omega (arith, w.remove-had_waited.ensures.len);
      })
      | else-is_none w ↦ subst (Leaves rank c.loop-rank.waiting) (sym w.waiting-is)
          (let mark = there c.remove.result w.if-is_none.ensures in
          not_there rank c.loop-rank.waiting
          (λ e h is. c.loop-rank.invariant.apart e (c.rank.inside.key, mark.0) h ((fired_has c.loop-rank.fired c.loop-rank.invariant.unique c.rank.inside.key mark.0).0 (sym c.remove.ensures.value ∙ mark.1)) (sym (same ∙ ap key_of is)))
          c.loop-rank.invariant.ordered)
    ] in
    record {
      waiting = loses_more (take k ranks) (take (k + 1) ranks) rank c.args.waiting.now.entries c.loop-rank.waiting.entries c.if-is_none.waiting.entries c.loop-rank.invariant.waiting leaves.loses more;
      fired = loses_more (map key_of (take k ranks)) (map key_of (take (k + 1) ranks)) rank.key c.args.fired.now.entries c.loop-rank.fired.entries c.remove.new.self.entries c.loop-rank.invariant.fired loses
          (ap (map key_of) more ∙ map-append key_of (take k ranks) (rank ∷ []));
      number = omega (arith, leaves.number, c.loop-rank.invariant.number);
      room = omega (arith, c.remove.ensures.spare, c.loop-rank.invariant.room);
      ordered = leaves.ordered;
      unique = c.remove.ensures.unique;
      apart = λ e d h g. c.loop-rank.invariant.apart e d ((leaves.loses e).0 h).0 ((loses d).0 g).0;
    }

pub returns-clause-waiting : goal.returns-clause-waiting
returns-clause-waiting c =
    let P : List Rank → Type 0 = λ rs. Loses rs c.args.waiting.now.entries c.loop-rank.waiting.entries in
    subst P (take_all c.loop-rank.rank-index c.args.ranks.now (omega arith)) c.loop-rank.invariant.waiting

pub returns-clause-fired : goal.returns-clause-fired
returns-clause-fired c =
    let P : List Rank → Type 0 = λ rs. Loses (map key_of rs) c.args.fired.now.entries c.loop-rank.fired.entries in
    subst P (take_all c.loop-rank.rank-index c.args.ranks.now (omega arith)) c.loop-rank.invariant.fired
