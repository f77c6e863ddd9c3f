-- A new pair goes last.
use Rattle.std.proofs.Common.{◌≡◌, ◌++◌, ◌∷◌, [], ◌∙◌, ap, sym}
use Rattle.std.specs.Map.{lookup}
use Rattle.indexmap.proofs.CallerLemmas.{insert_entry-new}
use Rattle.token_line.specs.inner.SmallMap.{pairs_in}
use Rattle.token_line.proofs.small_map.Room.push.Goals as goal

pub returns-in_ok-insert-in-Many-clause-ok : goal.returns-in_ok-insert-in-Many-clause-ok
returns-in_ok-insert-in-Many-clause-ok g c =
    let eq = g.K.PartialEq.eq in
    let map = c.deref_mut.result.now in
    let is : pairs_in c.args.self.now ≡ map.entries = ap pairs_in c.in-Many.is ∙ ap (λ m. m.entries) (sym c.deref_mut.ensures.value) in
    c.in_ok-insert-in-Many.ensures.entries
    ∙ (insert_entry-new eq map c.args.key c.args.value (ap (lookup (eq c.args.key)) (sym is) ∙ c.requires)
    ∙ ap (λ es. es ++ (c.args.key, c.args.value) ∷ []) (sym is))
