-- What is kept are the first spellings.
use Rattle.std.proofs.Common.{ap, sym, ◌∙◌, take}
use Rattle.std.proofs.lemmas.List.{take-map}
use Rattle.ops_base.specs.Names.{Spellings, spellings}
use Rattle.ops_base.proofs.Earlier.{kept_by_take}
use Rattle.ops_base.proofs.symbols.Names.back_to.Goals as goal

pub invariant_of-self : goal.invariant_of-self
invariant_of-self c =
    kept_by_take c.args.point.now.held (spellings c.self.inside.held.keys) (spellings c.truncate.new.self.keys)
    (ap spellings c.truncate.ensures.keys ∙ sym (take-map (λ v. v.items) c.args.point.now.held c.self.inside.held.keys))
    c.requires.some c.self.invariant

pub returns : goal.returns
returns c =
    ap (λ held. record { held = held; made = c.args.point.now.fresh })
    (ap spellings c.truncate.ensures.keys ∙ sym (take-map (λ v. v.items) c.args.point.now.held c.self.inside.held.keys)
    ∙ ap (λ (names : Spellings). take c.args.point.now.held names.held) c.self.view_is)
