-- What is printed of a network.
use Rattle.std.specs.Prelude.{ℕ, List, [], ◌∷◌, ◌++◌, codes, decimal}
use Rattle.net_base.specs.declared.counts.Counts.{Counts}

-- a number after its name
abbrev pub count_line : List ℕ → ℕ → List ℕ
count_line name n = name ++ codes " " ++ decimal n ++ 10 ∷ []

-- the numbers of alphas, of joins, of negated nodes and of terminals
abbrev pub net_lines : Counts → List ℕ
net_lines counts =
    count_line (codes "alpha") counts.alpha ++ count_line (codes "join") counts.join ++ count_line (codes "negated") counts.negated
    ++ count_line (codes "terminal") counts.terminal
