use Rattle.std.proofs.Common.{◌≡◌, List, Some, slice_get, sym, Bor}
use Rattle.std.proofs.lemmas.Iterator.Consumers.{nth_from_yields_List, YieldsList-from_first}
use Rattle.ops_base.specs.declared.elements.Element.{Element}
use Rattle.work_store.proofs.store.Store.nth.Goals as goal

pub returns : goal.returns
returns c =
    let chain = YieldsList-from_first (λ (x : Bor Element). x.now) (λ (left : List Element). left) c.args.self.now.elements c.iter.ensures in
    let item : Some c.in-Some.element.now ≡ slice_get c.args.self.now.elements c.args.i =
    nth_from_yields_List (Some c.in-Some.element) c.nth.new.self c.args.i c.in-Some.ensures.ran chain in
    sym item
