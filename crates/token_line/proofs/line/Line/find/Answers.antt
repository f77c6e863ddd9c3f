-- The spot is at the place of the node, and in the memory of the code.
use Rattle.std.proofs.Common.{◌≡◌, ◌∙◌, ap, nat_eq, sym}
use Rattle.std.specs.Map.{lookup}
use Rattle.std.specs.Option.{option_copied}
use Rattle.token_line.specs.inner.Codes.{memory_of, tokens_of}
use Rattle.token_line.specs.inner.Pairs.{cell_of, place_of}
use Rattle.token_line.proofs.SmallMapLemmas.{found_value, missing_value}
use Rattle.token_line.proofs.line.Line.find.Goals as goal

pub returns-in-Some-clause-memory : goal.returns-in-Some-clause-memory
returns-in-Some-clause-memory c =
    let memories = c.args.self.now.memories in
    let is = sym c.find.ensures ∙ c.in-Some.is in
    let at = found_value (nat_eq c.args.node) memories c.in-Some.place (c.pair.result.0.now, c.pair.result.1.now) is c.pair.ensures in
    c.memory-memory.ensures ∙ ap (λ o. memory_of o c.args.code) (sym at)

pub returns-in-Some-clause-spot : goal.returns-in-Some-clause-spot
returns-in-Some-clause-spot c =
    let memories = c.args.self.now.memories in
    let of_node = lookup (nat_eq c.args.node) memories in
    let is = sym c.find.ensures ∙ c.in-Some.is in
    let at = found_value (nat_eq c.args.node) memories c.in-Some.place (c.pair.result.0.now, c.pair.result.1.now) is c.pair.ensures in
    let own : option_copied c.memory-memory.result ≡ memory_of of_node c.spot_in.result.code =
    c.memory-memory.ensures ∙ (ap (λ o. memory_of o c.args.code) (sym at) ∙ ap (memory_of of_node) (sym c.spot_in.ensures.code)) in
    record {
      node = c.spot_in.ensures.node ∙ sym is;
      token = c.spot_in.ensures.token ∙ ap (λ o. place_of (tokens_of o c.args.side) c.args.token.now) own;
      kept = c.spot_in.ensures.kept ∙ ap (λ o. cell_of (tokens_of o c.args.side) c.args.token.now) own;
    }

pub returns-in-None-clause-memory : goal.returns-in-None-clause-memory
returns-in-None-clause-memory c =
    ap (λ o. memory_of o c.args.code) (sym (missing_value (nat_eq c.args.node) c.args.self.now.memories (sym c.find.ensures ∙ c.in-None.is)))

pub returns-in-None-clause-spot : goal.returns-in-None-clause-spot
returns-in-None-clause-spot c =
    let is = sym c.find.ensures ∙ c.in-None.is in
    let none = missing_value (nat_eq c.args.node) c.args.self.now.memories is in
    let p = c.spot_in-in-None in
    let own = ap (λ o. memory_of o p.result.code) (sym none) in
    record {
      node = p.ensures.node ∙ sym is;
      token = p.ensures.token ∙ ap (λ o. place_of (tokens_of o c.args.side) c.args.token.now) own;
      kept = p.ensures.kept ∙ ap (λ o. cell_of (tokens_of o c.args.side) c.args.token.now) own;
    }
