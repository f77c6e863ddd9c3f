-- What is lent to another thread may cross.
use denote.RattleType.{RattleType}
use denote.Ref.{NamedLft, ShrRef}
use denote.Param.{param}
use denote.Struct.Field.{mut_slice_field, row_field, shr_ref_field, shr_slice_field}
use denote.Struct.Tuple.{TupleAt, type_at}
use denote.Param.SendFields.{as_row_send, declared_send}
use denote.Param.Send.{IsSend, IsSync, param_sync, sendable, shr_send}
use mir.Syntax.{Sym}
use mathlib.Core.List.{List, [], ◌∷◌}
use Prim.Native.Nat.{ℕ}
use Rattle.token_line.specs.contracts.line.Line as Line
use Rattle.serial_engine.proofs.Crossing.{line_send}
use Rattle.rounds_engine.specs.contracts.ground.Ground as Ground
use Rattle.rounds_engine.proofs.ground.Ground.TheSendSync as GroundCrosses
use Rattle.rounds_engine.specs.contracts.shards.Shard as Shard
use Rattle.rounds_engine.proofs.shards.Shard.TheSendSync as ShardCrosses

-- of a closure over the handle, what the round works over, the gate, shards and lines
abbrev lent : (R G : RattleType) (a b c d e f : NamedLft) → List RattleType
lent R G a b c d e f =
    (shr_ref_field a (param 0 R) tt).row
    ∷ (shr_ref_field b (Ground.the_row c) tt).row
    ∷ (shr_ref_field d (param 1 G) tt).row
    ∷ (shr_slice_field e Shard.the_row tt).row
    ∷ (mut_slice_field f Line.the_row tt).row
    ∷ []

param_lent : (n : ℕ) (a : NamedLft) (R : RattleType) → IsSync R → IsSend (ShrRef a.mir a.lft (param n R))
param_lent n a R ys = shr_send a.mir a.lft (param n R) (param_sync n R ys)

pub round_send : (R G : RattleType) → IsSync R → IsSync G → (name : Sym) (a b c d e f : NamedLft) → IsSend (TupleAt name (lent R G a b c d e f))
round_send R G ys zs name a b c d e f = declared_send (type_at name (lent R G a b c d e f)) (
  as_row_send (row_field (ShrRef a.mir a.lft (param 0 R))) (param_lent 0 a R ys),
  (
    search (GroundCrosses.the_sync c, sendable) depth 80,
    (as_row_send (row_field (ShrRef d.mir d.lft (param 1 G))) (param_lent 1 d G zs), (search (ShardCrosses.the_sync, sendable) depth 80, (search (line_send, sendable) depth 80, tt))),
  ),
)
