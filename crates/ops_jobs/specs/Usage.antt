-- The usage line, which answers words that do not fit.
use Rattle.std.specs.Prelude.{ℕ, List, codes}

abbrev pub usage_line : List ℕ
usage_line = codes "usage: ops [--match direct|serial|rounds|free|steal] [--workers N] [--lines L] [--limit N] [--overlap] FILE.. | ops --gen SEED SIZE | ops --net FILE.. | ops --why FILE..\n"
