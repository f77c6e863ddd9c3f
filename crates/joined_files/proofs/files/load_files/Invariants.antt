use Rattle.std.proofs.Common.{◌≡◌, ℕ, ◌≤◌, List, ◌++◌, take, vec_len}
use Rattle.ops_base.specs.Valid.{longest_list}
use Rattle.ops_jobs.specs.Words.{word_bytes}
use Rattle.joined_files.proofs.Loads.{Loaded}
use Rattle.joined_files.proofs.files.load_files.Given as goal

abbrev pub invariant-loop-name : goal.invariant-loop-name
invariant-loop-name g l = record {
  loaded : Loaded (g.H.Shelf.told l.initial.shelf) (word_bytes l.names) l.name-index l.text.items l.parts.items;
  fits : vec_len l.text ≤ longest_list;
  told : (n : List ℕ) → g.H.Shelf.told l.shelf n ≡ g.H.Shelf.told l.initial.shelf n;
  faults : g.H.Shelf.faults l.shelf ≡ g.H.Shelf.faults l.initial.shelf;
  names : g.H.Shelf.names l.shelf ≡ g.H.Shelf.names l.initial.shelf ++ take l.name-index (word_bytes l.names);
}
