use Rattle.std.proofs.Common.{◌≡◌, ◌∷◌, [], List, length, ap, sym, ◌∙◌, subst, inl, inr, arith}
use Rattle.std.specs.Prelude.{Contains, is_some}
use Rattle.std.specs.Map.Iter.{deref_pair}
use Rattle.std.proofs.lemmas.Map.Iter.{rest_more, rest_all}
use Rattle.ops_base.proofs.Members.{member_from_contains}
use Rattle.resolution.specs.Keys.{Key}
use Rattle.conflict_index.specs.declared.rank.Held.{Held}
use Rattle.conflict_index.specs.Rank.{Rank}
use Rattle.conflict_index.specs.Keeping.{ranked_anew}
use Rattle.conflict_index.proofs.Lookups.{added_one, adds_up, one_more_at_most}
use Rattle.conflict_index.proofs.standing.ranked_anew.Goals as goal

abbrev key_of : Rank → Key
key_of r = r.key

pub loop-rank-preserved-in_ok-insert : goal.loop-rank-preserved-in_ok-insert
loop-rank-preserved-in_ok-insert c =
    let strategy = c.args.strategy in
    let rank : Rank = c.new.result in
    let held : Held = record { inst = c.in_ok-inst.inst; fired = c.in-Some.held.now.fired } in
    let left = ranked_anew strategy c.loop-rank.rank-iterator in
    let rest = ranked_anew strategy c.next.new.self in
    let first = rest_more deref_pair c.loop-rank.rank-iterator c.next.new.self c.next.result (c.in-Some.rank, c.in-Some.held) c.in-Some.is c.next.ensures.steps in
    let was : Rank = record { strategy = strategy; key = c.in-Some.rank.now.key } in
    let ranked : rank ≡ was =
    c.new.ensures ∙ (λ i. record { strategy = strategy; key = (c.in_ok-key.ensures ∙ ap key_of c.rank.view_is) i }) in
    let stood : c.in-Some.held.now ≡ held =
    λ i. record { inst = sym c.in_ok-inst.ensures i; fired = c.in-Some.held.now.fired } in
    let copied : (was, c.in-Some.held.now) ≡ (rank, held) = λ i. (sym ranked i, stood i) in
    let here : left ≡ (rank, held) ∷ rest = ap (ranked_anew strategy) first ∙ ap (λ (e : Rank × Held). e ∷ rest) copied in
    let gains = added_one [] (ranked_anew strategy c.args.waiting.now.entries) c.loop-rank.ranked c.insert.new.self left rest rank held c.requires
    c.loop-rank.invariant.same here c.insert.ensures.was_ordered c.insert.ensures.ordered c.in_ok-insert.ensures.updates in
    record {
      same = adds_up [] (ranked_anew strategy c.args.waiting.now.entries) c.loop-rank.ranked.entries c.insert.new.self.entries left rest (rank, held) c.loop-rank.invariant.same here gains;
      number = omega (arith, ap length first, c.in_ok-insert.ensures.len, one_more_at_most (is_some c.in_ok-insert.field-0), c.loop-rank.invariant.number);
      ordered = c.insert.ensures.ordered;
    }

pub loop-rank-preserved : goal.loop-rank-preserved
loop-rank-preserved c =
    let strategy = c.args.strategy in
    let rank : Rank = c.new.result in
    let held : Held = record { inst = c.in_ok-inst.inst; fired = c.in-Some.held.now.fired } in
    let left = ranked_anew strategy c.loop-rank.rank-iterator in
    let rest = ranked_anew strategy c.next.new.self in
    let first = rest_more deref_pair c.loop-rank.rank-iterator c.next.new.self c.next.result (c.in-Some.rank, c.in-Some.held) c.in-Some.is c.next.ensures.steps in
    let was : Rank = record { strategy = strategy; key = c.in-Some.rank.now.key } in
    let ranked : rank ≡ was =
    c.new.ensures ∙ (λ i. record { strategy = strategy; key = (c.in_ok-key.ensures ∙ ap key_of c.rank.view_is) i }) in
    let stood : c.in-Some.held.now ≡ held =
    λ i. record { inst = sym c.in_ok-inst.ensures i; fired = c.in-Some.held.now.fired } in
    let copied : (was, c.in-Some.held.now) ≡ (rank, held) = λ i. (sym ranked i, stood i) in
    let here : left ≡ (rank, held) ∷ rest = ap (ranked_anew strategy) first ∙ ap (λ (e : Rank × Held). e ∷ rest) copied in
    let gains = added_one [] (ranked_anew strategy c.args.waiting.now.entries) c.loop-rank.ranked c.insert.new.self left rest rank held c.requires
    c.loop-rank.invariant.same here c.insert.ensures.was_ordered c.insert.ensures.ordered c.in_ok-insert.ensures.updates in
    record {
      same = adds_up [] (ranked_anew strategy c.args.waiting.now.entries) c.loop-rank.ranked.entries c.insert.new.self.entries left rest (rank, held) c.loop-rank.invariant.same here gains;
      number = omega (arith, ap length first, c.in_ok-insert.ensures.len, one_more_at_most (is_some c.in_ok-insert.field-0), c.loop-rank.invariant.number);
      ordered = c.insert.ensures.ordered;
    }

pub returns-clause-same : goal.returns-clause-same
returns-clause-same c = λ e. (
  λ h. elim ((c.loop-rank.invariant.same e).0 (inl h)) [ inl none ↦ absurd (member_from_contains e [] none) | inr a ↦ a ],
  λ a. elim ((c.loop-rank.invariant.same e).1 (inr a)) [
    | inl h ↦ h
    | inr left ↦ (
        let P : List (Rank × Held) → Type 0 = λ es. Contains (ranked_anew c.args.strategy es) e in
        absurd (member_from_contains e [] (subst P (rest_all deref_pair c.loop-rank.rank-iterator c.next.new.self c.next.result c.in-None.is c.next.ensures.steps) left))
        )
  ],
)
