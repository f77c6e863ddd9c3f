use Rattle.std.proofs.Common.{◌≡◌, ◌+◌, ◌∷◌, false, List, drop, map, ap, ap₂, sym, ◌∙◌, subst, inl, arith}
use Rattle.std.specs.Prelude.{Contains, is_some}
use Rattle.std.proofs.lemmas.List.{drop_more, drop_all}
use Rattle.ops_base.specs.declared.rules.Inst.{Inst}
use Rattle.conflict_index.specs.declared.rank.Held.{Held}
use Rattle.conflict_index.specs.Rank.{Rank}
use Rattle.conflict_index.specs.Keeping.{arrival}
use Rattle.conflict_index.proofs.Lookups.{added_one, adds_up, added_all, one_more_at_most}
use Rattle.conflict_index.proofs.standing.add_all.Goals as goal

pub returns-in_err-rank-clause-no_other : goal.returns-in_err-rank-clause-no_other
returns-in_err-rank-clause-no_other c = λ e h. (c.loop-inst.invariant.same e).0 (inl h)

pub returns-in_err-inst-clause-no_other : goal.returns-in_err-inst-clause-no_other
returns-in_err-inst-clause-no_other c = λ e h. (c.loop-inst.invariant.same e).0 (inl h)

pub returns-in_err-insert-clause-kept : goal.returns-in_err-insert-clause-kept
returns-in_err-insert-clause-kept c = λ e h.
    let P : List (Rank × Held) → Type 0 = λ es. Contains es e in
    subst P (sym c.in_err-insert.ensures.err) (c.loop-inst.invariant.kept e h)

pub returns-in_err-insert-clause-no_other : goal.returns-in_err-insert-clause-no_other
returns-in_err-insert-clause-no_other c = λ e h.
    let P : List (Rank × Held) → Type 0 = λ es. Contains es e in
    (c.loop-inst.invariant.same e).0 (inl (subst P c.in_err-insert.ensures.err h))

pub loop-inst-preserved : goal.loop-inst-preserved
loop-inst-preserved c =
    let insts = c.args.insts.now in
    let k = c.loop-inst.inst-index in
    let arrive = arrival c.args.strategy c.args.program.now.rules in
    let old = c.args.waiting.now.entries in
    let added = map arrive insts in
    let rest = map arrive (drop (k + 1) insts) in
    let rank = c.in_ok-rank.rank in
    let held : Held = record { inst = c.in_ok-inst.inst; fired = false } in
    let first : drop k insts ≡ c.inst-item.result ∷ drop (k + 1) insts =
    drop_more insts k c.inst-item.result c.loop-inst-test.true ∙ ap (λ (i : Inst). i ∷ drop (k + 1) insts) (sym c.inst-item.is) in
    let entry : arrive c.inst-item.result ≡ (rank, held) =
    ap₂ (λ (r : Rank) (i : Inst). (r, record { inst = i; fired = false })) (sym c.in_ok-rank.ensures) (sym c.in_ok-inst.ensures) in
    let here : map arrive (drop k insts) ≡ (rank, held) ∷ rest = ap (map arrive) first ∙ ap (λ (e : Rank × Held). e ∷ rest) entry in
    let gains = added_one old added c.loop-inst.waiting c.insert.new.self (map arrive (drop k insts)) rest rank held c.requires.told_apart
    c.loop-inst.invariant.same here c.insert.ensures.was_ordered c.insert.ensures.ordered c.in_ok-insert.ensures.updates in
    record {
      same = adds_up old added c.loop-inst.waiting.entries c.insert.new.self.entries (map arrive (drop k insts)) rest (rank, held) c.loop-inst.invariant.same here gains;
      kept = λ e h. (gains e).1 (inl (c.loop-inst.invariant.kept e h));
      ordered = c.insert.ensures.ordered;
      number = omega (arith, c.in_ok-insert.ensures.len, one_more_at_most (is_some c.in_ok-insert.field-0), c.loop-inst.invariant.number);
    }

pub returns-clause-ok : goal.returns-clause-ok
returns-clause-ok c =
    let insts = c.args.insts.now in
    let k = c.loop-inst.inst-index in
    let arrive = arrival c.args.strategy c.args.program.now.rules in
    added_all c.args.waiting.now.entries (map arrive insts) c.loop-inst.waiting.entries (map arrive (drop k insts)) c.loop-inst.invariant.same (ap (map arrive) (drop_all k insts (omega (arith, c.loop-inst-test.false))))

pub returns-clause-no_other : goal.returns-clause-no_other
returns-clause-no_other c = λ e h. (c.loop-inst.invariant.same e).0 (inl h)
