use Rattle.std.proofs.Common.{rules, ◌∷◌, sym, ap, ◌∙◌, subst}
use Rattle.std.specs.Prelude.{Some}
use Rattle.std.specs.List.{All}
use Rattle.atomic_table.specs.Table.{rest}
use Rattle.turn_table.specs.Log.{MaySign}
use Rattle.turn_table.specs.Views.{after_turn}
use Rattle.turn_table.proofs.Gives.{lets_go}
use Rattle.turn_table.proofs.cells.Cells.let_go.Goals as goal

pub store-requires : goal.store-requires
store-requires g c = let turn = c.args.turn in let is = c.requires.turn in let now = c.exchange.ensures.3 in
    let new = c.requires.entries in (
      search rules,
      search rules,
      lets_go _ _ _ _ _ _ _ turn.cell c.args.word turn.was.value turn.value new.0 record {
        in_use = ap (λ m. m.0.in_use) now ∙ is.sits.in_use;
        not_ended = ap (λ m. m.0.ended) now ∙ is.sits.not_ended;
        held = ap (λ m. m.0.held) now ∙ is.held;
        longer = new.1;
        same_name = c.requires.name;
        may_sign = subst (λ p. All (MaySign g.T.Kept.signature p) new.0) (sym (ap (λ m. m.0.number) now ∙ is.sits.same_number)) new.2;
        counts = c.requires.word;
      }
          (ap (λ m. m.1) now ∙ ap (λ l. (turn.cell, Some turn.value) ∷ rest l) is.slot),
    )

pub returns-clause-pass : goal.returns-clause-pass
returns-clause-pass g c = let turn = c.args.turn in let is = c.requires.turn in let now = c.exchange.ensures.3 in
    let after = c.store.ensures.2 turn.cell turn.was.value turn.value (ap (λ m. m.0.held) now ∙ is.held) (ap (λ m. m.1) now ∙ ap (λ l. (turn.cell, Some turn.value) ∷ rest l) is.slot) in (
      record {
        at_table = c.store.ensures.0 ∙ (c.exchange.ensures.0 ∙ is.sits.at_table);
        in_use = ap (λ m. m.0.in_use) after ∙ (ap (λ m. m.0.in_use) now ∙ is.sits.in_use);
        not_ended = ap (λ m. m.0.ended) after ∙ (ap (λ m. m.0.ended) now ∙ is.sits.not_ended);
        same_values = ap (λ m. m.0.values) after ∙ (ap (λ m. m.0.values) now ∙ is.sits.same_values);
        same_number = ap (λ m. m.0.number) after ∙ (ap (λ m. m.0.number) now ∙ is.sits.same_number);
        same_splits = ap (λ m. m.0.splits) after ∙ (ap (λ m. m.0.splits) now ∙ is.sits.same_splits);
        same_apart = ap (λ m. m.0.apart) after ∙ (ap (λ m. m.0.apart) now ∙ is.sits.same_apart);
        no_more_apart = is.sits.no_more_apart;
      },
      ap (λ m. m.1) after,
      ap (λ m. m.0.held) after,
    )

pub returns-clause-knows : goal.returns-clause-knows
returns-clause-knows g c = let turn = c.args.turn in let is = c.requires.turn in let now = c.exchange.ensures.3 in
    ap (λ m. m.0) (c.store.ensures.2 turn.cell turn.was.value turn.value (ap (λ m. m.0.held) now ∙ is.held) (ap (λ m. m.1) now ∙ ap (λ l. (turn.cell, Some turn.value) ∷ rest l) is.slot))
    ∙ ap (λ m. after_turn g.T.Kept.entries m.0 turn.cell turn.was.value turn.value) now
