-- What goes to a worker's thread may cross, and what workers share may be shared.
use denote.RattleType.{RattleType}
use denote.Ref.{NamedLft, ShrRef}
use denote.Param.{param}
use denote.Hole.{as_row}
use denote.Struct.Field.{row_field, shr_ref_field}
use denote.Struct.Tuple.{TupleAt, type_at}
use denote.Param.Send.{IsSend, IsSync, param_sync, sendable, shr_sync}
use denote.Param.SendFields.{as_row_send, as_row_sync, declared_send, declared_sync}
use mathlib.Core.List.{List, [], ◌∷◌}
use mir.Syntax.{Sym}
use Rattle.std.proofs.Crossing.{crosses}
use Rattle.std.specs.contracts.snapshot.Snapshot as Snapshot
use Rattle.net_base.specs.contracts.net.Net as Net
use Rattle.net_base.proofs.net.Net.TheSendSync as NetCrosses
use Rattle.work_store.specs.contracts.store.Store as Store
use Rattle.work_store.proofs.store.Store.TheSendSync as StoreCrosses
use Rattle.token_line.specs.contracts.line.Line as Line
use Rattle.token_line.specs.contracts.line.Entry as Entry
use Rattle.turn_table.specs.contracts.passes.Pass as Pass
use Rattle.turn_table.proofs.passes.Pass.TheSendSync as PassCrosses
use Rattle.turn_table.specs.contracts.cells.Cells as Cells
use Rattle.turn_table.proofs.cells.Cells.TheSendSync as CellsCross
use Rattle.steal_engine.specs.contracts.cells.LineCell as LineCell
use Rattle.steal_engine.specs.contracts.rows.Row as Row
use Rattle.steal_engine.specs.contracts.rows.RowName as RowName
use Rattle.steal_engine.specs.contracts.rows.RowKept.TheImpl.{ghosts}
use Rattle.steal_engine.specs.contracts.phase.Phase as Phase
use Rattle.serial_engine.proofs.Crossing.{line_send}

snapshot_send : (Y : RattleType) → IsSend (Snapshot.the_row Y)
snapshot_send Y = search crosses depth 20

line_cell_send : IsSend LineCell.the_row
line_cell_send = declared_send LineCell.the_type (
  line_send,
  (
    search sendable depth 20,
    (
      as_row_send (Snapshot.the_field Line.the_row) (snapshot_send Line.the_row),
      (as_row_send (Snapshot.the_field Net.the_row) (snapshot_send Net.the_row), (as_row_send (Snapshot.the_field Store.the_row) (snapshot_send Store.the_row), tt)),
    ),
  ),
)

pub row_send : IsSend Row.the_row
row_send = search (line_cell_send, sendable, crosses) depth 80 fits 20000

pub pass_send : IsSend (Pass.the_row Row.the_row Entry.the_row RowName.the_row)
pass_send = PassCrosses.the_send Row.the_row Entry.the_row RowName.the_row row_send

-- ---- all that workers share

cells_sync : IsSync (Cells.the_row Row.the_row Entry.the_row RowName.the_row ghosts)
cells_sync = CellsCross.the_sync Row.the_row Entry.the_row RowName.the_row ghosts row_send

-- a reference that may be copied to another thread
abbrev ref_to : NamedLft → RattleType → RattleType
ref_to a R = ShrRef a.mir a.lft R

ref_sync : (a : NamedLft) (R : RattleType) → IsSync R → IsSync (as_row (row_field (ref_to a R)))
ref_sync a R s = as_row_sync (row_field (ref_to a R)) (shr_sync a.mir a.lft R s)

phase_sync : (d : NamedLft) → IsSync (Phase.the_row d)
phase_sync d = search (cells_sync, NetCrosses.the_sync, StoreCrosses.the_sync, sendable, crosses) depth 80 fits 20000

-- of a closure over the handle, what the phase works over, and the gate
abbrev lent : (R G : RattleType) (a b d e : NamedLft) → List RattleType
lent R G a b d e = (shr_ref_field a (param 0 R) tt).row ∷ (shr_ref_field b (Phase.the_row d) tt).row ∷ (shr_ref_field e (param 1 G) tt).row ∷ []

pub work_sync : (R G : RattleType) → IsSync R → IsSync G → (name : Sym) (a b d e : NamedLft) → IsSync (TupleAt name (lent R G a b d e))
work_sync R G ys zs name a b d e =
    declared_sync (type_at name (lent R G a b d e)) (ref_sync a (param 0 R) (param_sync 0 R ys), (ref_sync b (Phase.the_row d) (phase_sync d), (ref_sync e (param 1 G) (param_sync 1 G zs), tt)))
