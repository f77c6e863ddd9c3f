use Rattle.std.proofs.Common.{◌≡◌, ◌≤◌, List, Option, Some, None, length, slice_get, subst, sym, Bor}
use Rattle.std.specs.Option.{MatchOption, option_map}
use Rattle.std.proofs.lemmas.Iterator.Consumers.{nth_from_yields_List, YieldsList-from_first}
use Rattle.ops_base.specs.declared.rules.Inst.{Inst}
use Rattle.conflict_index.specs.Indexed.{waiting}
use Rattle.conflict_index.specs.Selecting.{IsAt}
use Rattle.conflict_index.proofs.index.Index.nth.Goals as goal

shown : (A : Type 0) (P : Inst → Type 0) (o : Option (Bor Inst)) → MatchOption (option_map (λ (x : Bor Inst). x.now) o) A P → MatchOption o A (λ x. P x.now)
shown A P None h = h
shown A P (Some x) h = h

pub returns : goal.returns
returns c =
    let list : List Inst = c.by_dominance.result in
    let chain = YieldsList-from_first (λ (x : Bor Inst). x.now) (λ (left : List Inst). left) list (λ i. list) in
    let item : option_map (λ (x : Bor Inst). x.now) c.nth.result ≡ slice_get list c.args.i =
    nth_from_yields_List c.nth.result c.nth.new.self c.args.i c.nth.ensures.ran chain in
    let P : Option Inst → Type 0 = λ o. MatchOption o (length (waiting c.args.self.now.members) ≤ c.args.i) (λ i. IsAt c.args.self.now.strategy c.args.self.now.members c.args.i i) in
    shown (length (waiting c.args.self.now.members) ≤ c.args.i) (λ i. IsAt c.args.self.now.strategy c.args.self.now.members c.args.i i) c.nth.result
    (subst P (sym item) (c.by_dominance.ensures.places c.args.i))
