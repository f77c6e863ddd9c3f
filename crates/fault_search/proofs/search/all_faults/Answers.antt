use Rattle.std.proofs.Common.{◌<◌, ◌≤◌, ◌∙◌, [], ◌∷◌, length, List, ℕ, sym, ap, arith, length-append}
use Rattle.std.proofs.lemmas.List.Elements.{All-push}
use Rattle.fault_search.specs.First.{fault_of_text}
use Rattle.fault_search.specs.Search.{text_after}
use Rattle.fault_search.proofs.Searching.{none_left, last_one, one_more}
use Rattle.fault_search.proofs.search.all_faults.Goals as goal

pub returns-in-None-clause-faults : goal.returns-in-None-clause-faults
returns-in-None-clause-faults c =
    let count = c.len.ensures in
    let test = c.faults-test.true in
    let room : length c.faults.found.items < c.args.most = omega (arith, count, test) in
    let rest = c.as_slice-rest.ensures.value in
    let none = sym c.in-None.is ∙ c.in_ok-first.ensures.fault ∙ ap fault_of_text rest in
    none_left c.args.most c.args.text.now c.faults.left.items c.faults.found.items c.faults.invariant.faults room none

pub faults-preserved : goal.faults-preserved
faults-preserved c =
    let text = c.args.text.now in
    let found = c.faults.found.items in
    let f = c.in-Some.fault in
    let count = c.len.ensures in
    let test = c.faults-test.true in
    let room : length found < c.args.most = omega (arith, count, test) in
    let rest = c.as_slice-rest.ensures.value in
    let is = sym c.in-Some.is ∙ c.in_ok-first.ensures.fault ∙ ap fault_of_text rest in
    let adds = c.in_ok-push.ensures.items in
    let after = rw c.in-Some-next.is at c.in_ok-next.ensures.text in
    let low = rw c.in-Some.is at c.in_ok-first.ensures.within in
    let kept = rw c.in-Some-next.is at c.in_ok-next.ensures.length in
    let long = ap (λ (xs : List ℕ). length xs) rest in
    let size = c.faults.invariant.size in
    let here : f.at ≤ length text = omega (arith, low, long, size) in
    let more = ap length adds ∙ length-append found (f ∷ []) in
    record {
      faults = one_more c.args.most text c.faults.left.items found c.faults.invariant.faults room f is c.push.new.self.items adds c.in-Some-next.text.items (after ∙ ap (λ t. text_after t f.at) rest);
      within = rw adds (All-push (λ f. f.at ≤ length text) found f c.faults.invariant.within here);
      size = kept ∙ long ∙ size;
      few = omega (arith, more, room);
    }

pub returns-in-None-next-clause-faults : goal.returns-in-None-next-clause-faults
returns-in-None-next-clause-faults c =
    let found = c.faults.found.items in
    let f = c.in-Some.fault in
    let count = c.len.ensures in
    let test = c.faults-test.true in
    let room : length found < c.args.most = omega (arith, count, test) in
    let rest = c.as_slice-rest.ensures.value in
    let is = sym c.in-Some.is ∙ c.in_ok-first.ensures.fault ∙ ap fault_of_text rest in
    let after = rw c.in-None-next.is at c.in_ok-next.ensures.text in
    last_one c.args.most c.args.text.now c.faults.left.items found c.faults.invariant.faults room f is c.push.new.self.items c.in_ok-push.ensures.items (after ∙ ap (λ t. text_after t f.at) rest)
