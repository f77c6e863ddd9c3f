use Rattle.std.proofs.Common.{◌+◌, ◌++◌, ◌∷◌, [], None, replicate, append_assoc, ap, ◌∙◌, arith}
use Rattle.std.proofs.lemmas.List.{replicate_more}
use Rattle.work_store.proofs.row.Row.reach.Goals as goal

pub loop-self-preserved : goal.loop-self-preserved
loop-self-preserved g c =
    let before = c.loop-self.invariant in
    record {
      grown = record {
        more = before.grown.more + 1;
        are =
            c.in_ok-push.ensures.items
            ∙ ap (λ os. os ++ None ∷ []) before.grown.are
            ∙ append_assoc c.args.self.now.places.items (replicate before.grown.more None) (None ∷ [])
            ∙ ap (λ os. c.args.self.now.places.items ++ os) (replicate_more before.grown.more None);
      };
      held = before.held;
      within = λ n long below. omega (arith, c.in_ok-push.ensures.len, c.loop-self-test.true);
    }
