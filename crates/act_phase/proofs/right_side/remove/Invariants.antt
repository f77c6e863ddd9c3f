use Rattle.std.proofs.Common.{◌≡◌, drop, fold}
use Rattle.ops_base.specs.Names.{Spellings}
use Rattle.ops_io.specs.Coming.{Coming}
use Rattle.ops_meaning.specs.Acting.{cell_of, removed}
use Rattle.act_phase.specs.Changed.{GoesOnTo}
use Rattle.act_phase.specs.State.{doing_of}
use Rattle.act_phase.proofs.right_side.remove.Given as goal

abbrev pub invariant-loop-cell : goal.invariant-loop-cell
invariant-loop-cell l = record {
  does : (names : Spellings) (coming : Coming) → fold (λ d c. removed d (cell_of d c).tag) (doing_of l.doing names coming) (drop l.cell-index l.cells)
      ≡ fold (λ d c. removed d (cell_of d c).tag) (doing_of l.fn.doing names coming) l.cells;
  goes_on : GoesOnTo l.fn.doing.working l.doing.working;
  setting : l.doing.setting ≡ l.fn.doing.setting;
}
