use Rattle.std.proofs.Common.{◌≡◌, ◌∷◌, ◌∙◌, sym, take, arith}
use Rattle.std.proofs.lemmas.List.{take-append-drop, take_rest}
use Rattle.std.proofs.lemmas.Result.{err_from_is_err_and}
use Rattle.ops_grammar.specs.Grammar.{FirstPattern, Patterns, State, goes}
use Rattle.ops_forms.proofs.Borders.{behind_is}
use Rattle.ops_forms.proofs.Walks.{goes_split, taken_goes}
use Rattle.ops_lhs.proofs.Borders.{outermost_fails}
use Rattle.ops_lhs.specs.LeftSides.{IsArrow, left_started, left_behind}
use Rattle.ops_lhs.specs.Taking.{IsAround}
use Rattle.ops_lhs.proofs.reading.left_side.Goals as goal

pub returns-clause-behind : goal.returns-clause-behind
returns-clause-behind c = behind_is IsArrow c.args.words.now c.in_ok-side.next c.in_ok-side.ensures.behind

pub returns-clause-ok : goal.returns-clause-ok
returns-clause-ok c =
    let words = c.args.words.now in
    let next = c.in_ok-side.next in
    record {
      read = take next words;
      split = rw (take_rest words next) (sym (take-append-drop next words));
      reads = λ o s v i more ws.
          let t : State = record s { outer = o } in
          let around : IsAround c.args.around.now t = record { classes = i; values = v } in
          goes_split (take next words) more (FirstPattern ∷ Patterns ∷ ws) (left_started t)
          ∙ c.in_ok-side.ensures.cut next (omega arith) (goes more) ws t around
          ∙ taken_goes (goes more) next words ws (left_behind c.in_ok-side.side t);
    }

pub returns-in_err-side-clause-err : goal.returns-in_err-side-clause-err
returns-in_err-side-clause-err c =
    let p = err_from_is_err_and c.from_residual.result c.from_residual.ensures.1 in
    rw (p.1, p.2) (λ o s v i. outermost_fails c.args.around.now c.args.words.now o s (record { classes = i; values = v }) c.in_err-side.field-0.0 c.in_err-side.ensures.reads)
