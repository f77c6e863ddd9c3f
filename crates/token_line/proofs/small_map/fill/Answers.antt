-- A pair whose key is not in the map yet goes last, and there is room for it.
use Rattle.std.proofs.Common.{◌≡◌, ◌++◌, [], ◌∙◌, ap, append-nil, arith, length, sym}
use Rattle.std.proofs.lemmas.List.{nil_from_length}
use Rattle.std.proofs.lemmas.Option.{MatchOption-at_none, MatchOption-at_some}
use Rattle.std.specs.Vec.Iter.{into_iter_items}
use Rattle.token_line.proofs.SmallMapLemmas.{fills}
use Rattle.token_line.proofs.small_map.fill.Goals as goal

pub loop-key-init : goal.loop-key-init
loop-key-init g c = record {
  all = sym c.into_iter-rest.ensures.rest ∙ ap (λ l. l ++ into_iter_items c.into_iter-rest.result) (sym c.requires.empty);
  room = omega (arith, ap length c.into_iter-rest.ensures.rest);
}

pub loop-key-smaller : goal.loop-key-smaller
loop-key-smaller g c = let at = MatchOption-at_some _ _ _ c.in-Some.is c.next.ensures.cases in omega (arith, at.1)

pub loop-key-preserved : goal.loop-key-preserved
loop-key-preserved g c =
    let at = MatchOption-at_some _ _ _ c.in-Some.is c.next.ensures.cases in
    let both = fills g.met.K.Eq.laws c.loop-key.map c.insert-none.new.self c.args.list.items (into_iter_items c.loop-key.rest) (into_iter_items c.next.new.self) c.in-Some.key c.in-Some.value c.insert-none.result
    c.requires.apart c.loop-key.invariant.all at.0 c.loop-key.invariant.room c.insert-none.ensures.entries c.insert-none.ensures.succeeds c.insert-none.ensures.spare in
    record { all = both.0; room = both.1 }

pub loop-key-preserved-in-Some : goal.loop-key-preserved-in-Some
loop-key-preserved-in-Some g c =
    let at = MatchOption-at_some _ _ _ c.in-Some.is c.next.ensures.cases in
    let both = fills g.met.K.Eq.laws c.loop-key.map c.insert-none.new.self c.args.list.items (into_iter_items c.loop-key.rest) (into_iter_items c.next.new.self) c.in-Some.key c.in-Some.value c.insert-none.result
    c.requires.apart c.loop-key.invariant.all at.0 c.loop-key.invariant.room c.insert-none.ensures.entries c.insert-none.ensures.succeeds c.insert-none.ensures.spare in
    record { all = both.0; room = both.1 }

pub loop-key-preserved-in-Some-2 : goal.loop-key-preserved-in-Some-2
loop-key-preserved-in-Some-2 g c =
    let at = MatchOption-at_some _ _ _ c.in-Some.is c.next.ensures.cases in
    let both = fills g.met.K.Eq.laws c.loop-key.map c.insert-none.new.self c.args.list.items (into_iter_items c.loop-key.rest) (into_iter_items c.next.new.self) c.in-Some.key c.in-Some.value c.insert-none.result
    c.requires.apart c.loop-key.invariant.all at.0 c.loop-key.invariant.room c.insert-none.ensures.entries c.insert-none.ensures.succeeds c.insert-none.ensures.spare in
    record { all = both.0; room = both.1 }

pub returns : goal.returns
returns g c =
    let at = MatchOption-at_none _ _ c.in_default.is c.next.ensures.cases in
    let none : into_iter_items c.loop-key.rest ≡ [] = nil_from_length _ (omega (arith, at.0, c.loop-key.rest.rest.ok.0)) in
    sym (c.loop-key.invariant.all ∙ (ap (λ l. c.loop-key.map.entries ++ l) none ∙ append-nil c.loop-key.map.entries))
