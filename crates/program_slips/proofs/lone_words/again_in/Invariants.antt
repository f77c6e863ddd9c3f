use Rattle.std.proofs.Common.{◌≡◌, [], drop}
use Rattle.std.specs.Prelude.{map}
use Rattle.ops_base.specs.Names.{spellings}
use Rattle.program_slips.specs.Lone.{name_in, again_by}
use Rattle.program_slips.proofs.lone_words.again_in.Given as goal

abbrev pub invariant-loop-each : goal.invariant-loop-each
invariant-loop-each l =
    again_by [] [] (map (name_in l.text) l.named)
    ≡ again_by (spellings l.met.keys) (spellings l.again.keys) (map (name_in l.text) (drop l.each-index l.named))
