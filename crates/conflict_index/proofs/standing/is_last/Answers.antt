use Rattle.std.proofs.Common.{◌≡◌, ◌-◌, length, slice_get, Some, ap, sym, ◌∙◌}
use Rattle.ops_base.proofs.RefractionLaws.{is_same_inst-Decides}
use Rattle.conflict_index.specs.declared.rank.Held.{Held}
use Rattle.conflict_index.specs.Rank.{Rank}
use Rattle.conflict_index.proofs.Lookups.{last_of}
use Rattle.conflict_index.proofs.standing.is_last.Goals as goal

pub returns-in-Some-clause-last : goal.returns-in-Some-clause-last
returns-in-Some-clause-last c = λ p front t e.
    let there : slice_get c.args.waiting.now.entries (length c.args.waiting.now.entries - 1) ≡ Some (c.in-Some.field-0-0.now, c.in-Some.last.now) = c.in-Some.ensures.last in
    let same : p ≡ (c.in-Some.field-0-0.now, c.in-Some.last.now) =
    last_of front p (c.in-Some.field-0-0.now, c.in-Some.last.now) c.args.waiting.now.entries e there in
    ap (λ (w : Rank × Held). w.1.inst) same ∙ (is_same_inst-Decides c.in-Some.last.now.inst c.args.inst.now).0 (sym c.is_same.ensures ∙ t)
