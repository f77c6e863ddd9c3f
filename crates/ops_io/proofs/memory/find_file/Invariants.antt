use Rattle.std.proofs.Common.{◌≡◌, drop}
use Rattle.ops_io.specs.Memory.{content_of, files_of}
use Rattle.ops_io.proofs.memory.find_file.Given as goal

abbrev pub invariant-loop-file : goal.invariant-loop-file
invariant-loop-file l = content_of (files_of (drop l.file-index l.files)) l.name ≡ content_of (files_of l.files) l.name
