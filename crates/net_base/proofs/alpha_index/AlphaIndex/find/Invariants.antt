use Rattle.std.proofs.Common.{◌≡◌, ◌++◌, drop}
use Rattle.std.specs.Prelude.{flat_map}
use Rattle.net_base.specs.Feeds.{found_at, found_in}
use Rattle.net_base.proofs.alpha_index.AlphaIndex.find.Given as goal

abbrev pub invariant-loop-field : goal.invariant-loop-field
invariant-loop-field l = l.found.items ++ flat_map (found_at l.self l.element) (drop l.field-index l.field-items) ≡ found_in l.self l.element
