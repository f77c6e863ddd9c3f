-- The tokens before the place are copied.
use Rattle.std.proofs.Common.{◌≡◌, take}
use Rattle.token_line.specs.inner.TokenRooms.{tokens_in}
use Rattle.token_line.proofs.token_room.TokenRoom.as_longer.Given as goal

abbrev pub invariant-loop-place : goal.invariant-loop-place
invariant-loop-place l = l.longer ≡ take l.place (tokens_in l.self)
