-- The line that sums up a session that came to its end.
use Rattle.std.specs.Prelude.{ℕ, List, ◌++◌, codes, decimal}

abbrev pub summary_line : (firings elements last_tag : ℕ) → List ℕ
summary_line firings elements last_tag =
    codes "summary: firings " ++ decimal firings ++ codes " elements " ++ decimal elements ++ codes " last-tag " ++ decimal last_tag
