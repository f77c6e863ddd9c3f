use Rattle.ops_check.proofs.program.program_of.Goals as goal

pub new-requires : goal.new-requires
new-requires c =
    rw (c.from_vec.ensures, c.from_vec-2.ensures, c.from_vec-3.ensures, c.from_vec-4.ensures, c.from_vec-5.ensures, c.into_vec.ensures, c.into_vec-2.ensures, c.into_vec-3.ensures) c.requires
