use Rattle.std.proofs.Common.{◌≡◌, ◌≢◌, ℕ, slice_get, Some}
use Rattle.std.specs.Prelude.{All, AllPairs, Contains, IsTrue}
use Rattle.std.proofs.lemmas.Result.{IfOk-weaker}
use Rattle.net_base.specs.declared.nodes.Alpha.{Alpha}
use Rattle.net_base.specs.Tokens.{passes_alpha}
use Rattle.net_base.specs.Feeds.{IsCandidate, found_in}
use Rattle.net_base.proofs.FeedLemmas.{all_able, found_once, found_passed}
use Rattle.net_base.proofs.net.Net.candidates.Goals as goal

pub returns-clause-passed : goal.returns-clause-passed
returns-clause-passed c =
    let net = c.args.self.now in
    let e = c.args.element.now in
    let found = c.find.new.found.items in
    IfOk-weaker c.find.result (λ _. found ≡ found_in net.index e) (λ _. (n : ℕ) (a : Alpha) → slice_get net.alphas n ≡ Some a → IsTrue (passes_alpha a e) → Contains found n)
    (λ _ is. found_passed net.alphas net.index net.indexed e found is) c.find.ensures

pub returns-clause-able : goal.returns-clause-able
returns-clause-able c =
    let net = c.args.self.now in
    let e = c.args.element.now in
    let found = c.find.new.found.items in
    IfOk-weaker c.find.result (λ _. found ≡ found_in net.index e) (λ _. All (IsCandidate net.alphas e) found)
    (λ _ is. all_able net.alphas net.index net.indexed e found is) c.find.ensures

pub returns-clause-once : goal.returns-clause-once
returns-clause-once c =
    let net = c.args.self.now in
    let e = c.args.element.now in
    let found = c.find.new.found.items in
    IfOk-weaker c.find.result (λ _. found ≡ found_in net.index e) (λ _. AllPairs {X = ℕ} (λ n m. n ≢ m) found)
    (λ _ is. found_once net.alphas net.index net.indexed e found is) c.find.ensures
