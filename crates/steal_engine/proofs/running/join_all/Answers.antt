use Rattle.std.proofs.Common.{◌≡◌, ◌+◌, suc, [], ◌∷◌, ◌++◌, length, length-append, ap, sym, subst, refl, ◌∙◌, arith}
use Rattle.std.proofs.lemmas.List.{append_assoc}
use Rattle.steal_engine.specs.Logged.{AreJoined, AreNext}
use Rattle.steal_engine.proofs.Rings.{joined_more}
use Rattle.steal_engine.proofs.running.join_all.Goals as goal

pub loop-pass-init : goal.loop-pass-init
loop-pass-init c = record {
  first = c.requires.first;
  own = refl;
  splits_same = refl;
  done = [];
  are = refl;
  joined = subst (AreJoined 1 []) (sym c.requires.none) tt;
  next = c.requires.next;
  apart = c.requires.apart;
}

pub loop-pass-preserved : goal.loop-pass-preserved
loop-pass-preserved c =
    let i = c.loop-pass.invariant in
    let p = c.in-Some.pass in
    let is = c.in-Some.ensures.items in
    let cells = c.args.cells.now in
    let rest = c.pop_front.new.self.items in
    let view = c.join.ensures.knows in
    let n : AreNext cells (1 + length i.done) (p ∷ rest) = subst (AreNext cells (1 + length i.done)) is i.next in
    let more : length (i.done ++ p ∷ []) ≡ length i.done + 1 = length-append i.done (p ∷ []) ∙ refl in record {
      first = c.join.ensures.first;
      own = ap (λ v. v.own) view ∙ i.own;
      splits_same = c.join.ensures.splits ∙ i.splits_same;
      done = i.done ++ p ∷ [];
      are = append_assoc i.done (p ∷ []) rest ∙ (ap (λ l. i.done ++ l) (sym is) ∙ i.are);
      joined = subst (AreJoined 1 (i.done ++ p ∷ [])) (sym (ap (λ v. v.joined) view)) (joined_more 1 i.done _ p _ i.joined (n.0.0.same_number ∙ n.1) refl);
      next = subst (λ k. AreNext cells k rest) (let e : suc (1 + length i.done) ≡ 1 + length (i.done ++ p ∷ []) = omega (arith, more) in e) n.2;
      apart = (let a = c.join.ensures.split_off in let b = i.apart in let d = ap length is in omega (arith, a, b, d));
    }
