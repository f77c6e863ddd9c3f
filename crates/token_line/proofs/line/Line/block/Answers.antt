-- Each token keeps its sum and its code, and the left ones that the right token matches have one blocker more, or one less.
use Rattle.std.proofs.Common.{◌<◌, ◌-◌, ◌^◌, subst}
use Rattle.net_base.specs.Tokens.{goes_with}
use Rattle.net_base.specs.declared.tasks.Side.TheVariants.{Left}
use Rattle.work_store.specs.Stored.{held_of}
use Rattle.token_line.specs.inner.Codes.{filed_among}
use Rattle.token_line.specs.Sums.{blockers_kept}
use Rattle.token_line.proofs.Filed.{block_numbers, block_sums, filed_cell, kept_some}
use Rattle.token_line.proofs.line.Line.block.Goals as goal

pub block-requires : goal.block-requires
block-requires c = record {
  room = λ more t ne.
      let memories = c.args.self.now.memories in
      let some = kept_some (filed_among memories c.args.node c.args.code Left t) ne in
      let is = filed_cell memories c.args.self.now.apart c.args.node c.args.code Left t some in
      subst (λ o. blockers_kept o < 2 ^ 64 - 1) is (c.requires.room more t some);
}

pub returns-clause-blockers : goal.returns-clause-blockers
returns-clause-blockers c =
    block_numbers c.args.plus c.args.self.now.memories c.block.new.memories c.args.self.now.apart c.args.node c.args.code
    (λ t. goes_with c.args.of.now.kind c.args.of.now.joins (held_of c.args.store.now) t c.args.right.now) c.block.ensures c.requires.code

pub returns-clause-sums : goal.returns-clause-sums
returns-clause-sums c =
    block_sums c.args.plus c.args.self.now.memories c.block.new.memories c.args.self.now.apart c.args.node c.args.code
    (λ t. goes_with c.args.of.now.kind c.args.of.now.joins (held_of c.args.store.now) t c.args.right.now) c.block.ensures
