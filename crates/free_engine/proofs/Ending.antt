-- From the cells as they are set up to closed lines, at which nothing waits.
use Rattle.std.proofs.Common.{◌≡◌, ℕ, suc, ◌+◌, List, [], ◌∷◌, length, ap, ◌∙◌, refl, arith}
use lib.ListN.{get_elem?}
use Rattle.work_store.specs.Stored.{Stored, held_of}
use Rattle.net_base.specs.declared.net.Net.{Net}
use Rattle.net_base.specs.declared.tasks.Task.{Task}
use Rattle.step_core.specs.Worlds.{placed}
use Rattle.turn_table.proofs.Lists.{at-slice_get}
use Rattle.free_engine.specs.declared.slots.Slot.{Slot}
use Rattle.free_engine.specs.declared.slots.Slot.TheVariants.{Pool as InPool, Line as InLine}
use Rattle.free_engine.specs.Tables.{BeganWith, IsRowOf, lines_in}
use Rattle.free_engine.specs.Turns.{HasPool, HasRow}
use Rattle.free_engine.specs.Ends.{SetUpLaw, EndLaw}
use Rattle.free_engine.proofs.Draining.{drain_law}
use Rattle.free_engine.proofs.Shared.{share_law}

began : (net : Net) (s : Stored) (workers : ℕ) (first : List Task) (x : Slot) → HasPool net s workers first x → BeganWith first x
began net s workers first (InPool q) has = has.began
began net s workers first (InLine l) has = has

is_row : (net : Net) (s : Stored) (lines i : ℕ) (x : Slot) → HasRow net s lines i x → IsRowOf net.nodes s lines i x
is_row net s lines i (InPool q) has = has
is_row net s lines i (InLine l) has = record { has_nodes = ap (λ n. n.nodes) has.has_net; has_store = has.has_store; of_lines = has.of_lines; number = has.is_number }

parts : (xs : List Slot) (n : ℕ) → length xs ≡ n + 1 → (y : Slot) × (ys : List Slot) × (xs ≡ y ∷ ys) × (length ys ≡ n)
parts [] n e = absurd (omega arith)
parts (y ∷ ys) n e = (y, ys, refl, omega arith)

pub set_up_law : SetUpLaw
set_up_law net s lines workers first values set =
    let p = parts values lines set.count in record {
      pool = p.0;
      rows = p.1;
      is = p.2;
      began = began net s workers first p.0 (set.pool p.0 (ap (λ l. get_elem? l 0) p.2));
      count = p.3;
      each = λ i x at.
          let next : i + 1 ≡ suc i = omega arith in
          is_row net s lines i x (set.rows i x (ap (λ l. get_elem? l (i + 1)) p.2 ∙ (ap (λ n. get_elem? (p.0 ∷ p.1) n) next ∙ at-slice_get p.1 i x at)));
    }

pub end_law : EndLaw
end_law alphas nodes s lines workers wm changes first v lasts log table fresh way accounts worked saw =
    let r = share_law nodes s lines workers first v lasts log table fresh accounts worked saw in
    drain_law (held_of s) alphas nodes (placed (held_of s) nodes lines) wm changes (lines_in v.values) (lines_in lasts) first way r.1
