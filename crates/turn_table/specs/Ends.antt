-- What is known at the end.
use Rattle.std.specs.Prelude.{◌≡◌, ℕ, ◌+◌, ◌<◌, List, [], ◌++◌, Option, length}
use Rattle.std.specs.List.{All}
use Rattle.turn_table.specs.declared.views.Row.{Row}
use Rattle.turn_table.specs.declared.views.Sight.{Sight}
use Rattle.turn_table.specs.declared.views.Share.{Share}
use Rattle.turn_table.specs.declared.views.View.{View}
use Rattle.turn_table.specs.Log.{IsAt, Begins, IsRow, given_to, rows_of, signed_by, weigh, sum_below}

module _ {X E N : Type 0} (entries : X → List E) (name : X → N) (signature : E → Option ℕ) where
  -- The log accounts for the last values, given what the first pass knows.
  -- Each cell has the entries that it began with, followed by those that were given to it: one row of the log for
  -- each, and no others. The rows of a pass are those that it gave itself, and a number without a pass has no rows.
  -- For every weighting of rows, the weights of the rows of all passes add up to the weight of the log. Each list
  -- that a pass saw in a cell is a prefix of the cell's last list. The entries of a last list that are signed with a
  -- pass's number are exactly those so signed among the entries that the pass gave to the cell.
  pub record Accounts (v : View X E) (lasts : List X) (log : List (Row E)) : Type 0 where
    pub count : length lasts ≡ length v.values
    pub cells : (cell : ℕ) (first : X) → IsAt v.values cell first
        → (last : X) × IsAt lasts cell last × (entries last ≡ entries first ++ given_to cell log) × (name last ≡ name first)
    pub rows : All (IsRow signature (length v.values)) log
    pub own : rows_of 0 log ≡ v.own
    pub joined : All (λ (share : Share E). rows_of share.pass log ≡ share.rows) v.joined
    pub unborn : (pass : ℕ) → v.splits < pass → rows_of pass log ≡ []
    pub weights : (weight : Row E → ℕ) → weigh weight log ≡ sum_below (v.splits + 1) (λ pass. weigh weight (rows_of pass log))
    pub seen : All (λ (sight : Sight E). (last : X) × IsAt lasts sight.cell last × Begins sight.list (entries last)) v.seen
    pub signed : (cell pass : ℕ) (last : X) → IsAt lasts cell last
        → signed_by signature pass (entries last) ≡ signed_by signature pass (given_to cell (rows_of pass log))
