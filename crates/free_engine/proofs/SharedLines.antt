-- From lines that are opened for workers to the lines that come back.
use Rattle.std.proofs.Common.{◌≡◌, ℕ, List, [], length, map, sym, ap, subst, ◌∙◌, None}
use Rattle.std.specs.List.{All}
use Rattle.work_store.specs.Stored.{Stored, held_of}
use Rattle.net_base.specs.declared.net.Net.{Net}
use Rattle.net_base.specs.declared.tasks.Task.{Task}
use Rattle.token_line.specs.declared.line.Line.{Line}
use Rattle.activation.specs.Acting.{IsCounted}
use Rattle.step_core.specs.Worlds.{AreNumbered, placed}
use Rattle.step_core.specs.Rounds.{IsUnderWay}
use Rattle.serial_engine.specs.Carrying.{CarriesOn}
use Rattle.turn_table.specs.declared.views.Row.{Row}
use Rattle.turn_table.specs.declared.views.View.{View}
use Rattle.turn_table.specs.Ends.{Accounts}
use Rattle.turn_table.proofs.Lists.{get_or-at, is_there}
use Rattle.free_engine.specs.declared.slots.Slot.{Slot}
use Rattle.free_engine.specs.declared.slots.SlotEntry.{SlotEntry}
use Rattle.free_engine.specs.Counts.{AreFresh, HaveWorked, SawQuiet}
use Rattle.free_engine.specs.Openings.{IsOpened, rows_in}
use Rattle.free_engine.specs.Slots.{entries, name, signature}
use Rattle.free_engine.specs.Tables.{IsTable, lines_in}
use Rattle.free_engine.specs.Teams.{AllJoined}
use Rattle.free_engine.proofs.Ending.{end_law, set_up_law}
use Rattle.free_engine.proofs.Fresh.{unsigned}
use Rattle.free_engine.proofs.LinesBack.{closed_counted, closed_length, closed_lines, closed_numbered, opened_fresh, opened_lines, opened_set_up, same_numbers}
use Rattle.free_engine.proofs.Shared.{share_law}

pub all_unsigned : (values : List Slot) → AreFresh values → All (λ (x : Slot). All (λ (e : SlotEntry). signature e ≡ None) (entries x)) values
all_unsigned values fresh = λ k d low. (let r = is_there values k low in subst (λ (x : Slot). All (λ (e : SlotEntry). signature e ≡ None) (entries x)) (sym (get_or-at values k r.0 d r.1)) (unsigned r.0 (fresh k r.0 r.1)))

module _ (net : Net) (s : Stored) (workers : ℕ) (first : List Task) (ls : List Line) (values : List Slot) (o : IsOpened net s workers first (length ls) ls values) (numbered : AreNumbered ls)
    (v : View Slot SlotEntry) (same : v.values ≡ values) (own : v.own ≡ []) (splits : v.splits ≡ workers) (joined : AllJoined (length ls) workers v.joined) (saw : SawQuiet first v.seen)
    (lasts : List Slot) (log : List (Row SlotEntry)) (accounts : Accounts entries name signature v lasts log) where
  table : IsTable net.nodes s (length ls) first v.values
  table = subst (IsTable net.nodes s (length ls) first) (sym same) (set_up_law net s (length ls) workers first values (opened_set_up net s workers first ls values o numbered))

  fresh : AreFresh v.values
  fresh = subst AreFresh (sym same) (opened_fresh net s workers first ls values o)

  worked : HaveWorked (length ls) workers v
  worked = record {
    own = own;
    splits = splits;
    each = λ w low. (let j = joined w low in (w, j.0, j.1, j.2, j.3));
  }

  back : IsTable net.nodes s (length ls) first lasts
  back = (share_law net.nodes s (length ls) workers first v lasts log table fresh accounts worked saw).0

  pub lines_carry : CarriesOn net.alphas net.nodes s ls first (rows_in lasts) []
  lines_carry wm changes on =
      let was = ap lines_in same ∙ opened_lines net s workers first ls values o in
      let now = closed_lines net.nodes s (length ls) first lasts back in
      subst (λ seens. IsUnderWay (held_of s) net.alphas net.nodes (placed (held_of s) net.nodes (length ls)) wm changes seens []) now
      (end_law net.alphas net.nodes s (length ls) workers wm changes first v lasts log table fresh
      (subst (λ seens. IsUnderWay (held_of s) net.alphas net.nodes (placed (held_of s) net.nodes (length ls)) wm changes seens first) (sym was) on) accounts worked saw)

  pub lines_counted : All (IsCounted net.nodes s) (rows_in lasts)
  lines_counted = closed_counted net.nodes s (length ls) first lasts back

  pub lines_numbers : map (λ (l : Line). l.number) (rows_in lasts) ≡ map (λ (l : Line). l.number) ls
  lines_numbers = same_numbers ls (rows_in lasts) (closed_length net.nodes s (length ls) first lasts back) numbered (closed_numbered net.nodes s (length ls) first lasts back)
