-- The text of the generated workload: items that are moved from station to station, along roads that blocks bar at first.
use Rattle.std.specs.Prelude.{ℕ, zero, suc, ◌+◌, ◌*◌, ◌%◌, List, [], ◌∷◌, ◌++◌, codes, decimal}
use Rattle.ops_gen.specs.declared.lines.Lines.{Lines}
use Rattle.ops_gen.specs.declared.lines.Lines.TheVariants.{Moves, Roads, Blocks, Items}

-- pieces, one after another
abbrev pub joined : List (List ℕ) → List ℕ
joined [] = []
joined (piece ∷ pieces) = piece ++ joined pieces

-- a line ends with its LF
abbrev pub ended : List ℕ → List ℕ
ended line = line ++ 10 ∷ []

-- one of the 59 stations
abbrev pub station : ℕ → ℕ
station n = 1 + n % 59

abbrev pub declarations : List ℕ
declarations =
    ended (codes "(literalize item id at left)") ++ ended (codes "(literalize road from to)") ++ ended (codes "(literalize block at)")

-- An item that has moves left goes on from station k along its road, where no block bars the way.
abbrev pub move_line : ℕ → List ℕ
move_line k =
    joined (codes "(p move-" ∷ decimal k ∷ codes " { <i> (item ^at " ∷ decimal k ∷ codes " ^left { <c> > 0 }) } (road ^from " ∷ decimal k
    ∷ ended (codes " ^to <t>) - (block ^at <t>) --> (modify <i> ^at <t> ^left (compute <c> - 1)))") ∷ [])

-- every block is removed in the end
abbrev pub clear_line : List ℕ
clear_line = ended (codes "(p clear { <b> (block) } --> (remove <b>))")

abbrev pub road_line : ℕ → ℕ → List ℕ
road_line seed k =
    joined (codes "(make road ^from " ∷ decimal k ∷ codes " ^to " ∷ decimal (station (seed + k * k)) ∷ ended (codes ")") ∷ [])

abbrev pub block_line : ℕ → ℕ → List ℕ
block_line seed j = joined (codes "(make block ^at " ∷ decimal (station (seed + 7 * j)) ∷ ended (codes ")") ∷ [])

abbrev pub item_line : ℕ → ℕ → List ℕ
item_line seed i =
    joined (codes "(make item ^id " ∷ decimal i ∷ codes " ^at " ∷ decimal (station (31 * seed + 17 * i)) ∷ codes " ^left " ∷ decimal (i % 3)
    ∷ ended (codes ")") ∷ [])

abbrev pub line_of : Lines → ℕ → ℕ → List ℕ
line_of Moves seed n = move_line n
line_of Roads seed n = road_line seed n
line_of Blocks seed n = block_line seed n
line_of Items seed n = item_line seed n

-- the lines of the numbers from 1 to n
abbrev pub lines_to : (ℕ → List ℕ) → ℕ → List ℕ
lines_to line zero = []
lines_to line (suc n) = lines_to line n ++ line (suc n)

abbrev pub commands : List ℕ
commands = ended (codes "(run)") ++ ended (codes "(ppwm item ^id 1)")

-- a rule and a road for each station, ten blocks, and as many items as are asked for
abbrev pub workload : ℕ → ℕ → List ℕ
workload seed size =
    declarations ++ lines_to (line_of Moves seed) 59 ++ clear_line ++ lines_to (line_of Roads seed) 59
    ++ lines_to (line_of Blocks seed) 10 ++ lines_to (line_of Items seed) size ++ commands
