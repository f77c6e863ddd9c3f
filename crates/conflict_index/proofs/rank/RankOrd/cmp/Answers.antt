use Rattle.std.proofs.Common.{◌≡◌, ◌∙◌, rules}
use Rattle.conflict_index.specs.Rank.{Rank}
use Rattle.conflict_index.specs.Ranking.{compare_ranks}
use Rattle.conflict_index.proofs.Tops.{by_tops}
use Rattle.conflict_index.proofs.rank.RankOrd.cmp.Goals as goal

pub returns-then-eq : goal.returns-then-eq
returns-then-eq c =
    let a : Rank = record { strategy = c.self.inside.strategy; key = c.self.inside.key } in
    let b : Rank = record { strategy = c.other.inside.strategy; key = c.other.inside.key } in
    let same : c.self.inside.strategy ≡ c.other.inside.strategy = search rules in
    c.cmp.ensures
    ∙ by_tops a b c.self.inside.top c.other.inside.top c.self.invariant c.other.invariant same c.if-self-other.true
    ∙ (λ k. compare_ranks (c.self.view_is k) (c.other.view_is k))
