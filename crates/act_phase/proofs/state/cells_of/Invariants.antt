use Rattle.std.proofs.Common.{◌≡◌, [], map, take, true}
use Rattle.std.specs.List.{list_all}
use Rattle.ops_meaning.specs.Acting.{elements_of}
use Rattle.act_phase.specs.State.{held_by, is_there}
use Rattle.act_phase.proofs.state.cells_of.Given as goal

abbrev pub invariant-loop-tag : goal.invariant-loop-tag
invariant-loop-tag l = record {
  held : map (held_by []) l.cells.items ≡ elements_of l.store.elements (take l.tag-index l.tags);
  there : list_all (is_there 0) l.cells.items ≡ true;
}
