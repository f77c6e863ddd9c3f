-- The effect of a command that removes productions.
use Rattle.std.specs.Prelude.{◌≡◌, List, false, Result, IfOk, OnOk}
use Rattle.ops_base.specs.declared.endings.Ending.{Ending}
use Rattle.ops_base.specs.declared.programs.Program.{Program}
use Rattle.ops_base.specs.declared.rules.Rule.{Rule}
use Rattle.ops_base.specs.declared.values.Sym.{Sym}
use Rattle.ops_base.specs.Names.{Spellings}
use Rattle.ops_io.specs.Coming.{Coming}
use Rattle.ops_io.specs.Ports.{Port}
use Rattle.ops_meaning.specs.Effects.{Performs, of_ending}
use Rattle.ops_meaning.specs.Running.{excised}
use Rattle.work_store.specs.Stored.{Stored}
use Rattle.live_rules.specs.Moves.{IsWith}
use Rattle.session.specs.Courses.{IsUnderWay, meant_by, ends_unread}
use Rattle.session.specs.declared.session.Session.{Session}

-- The productions with these names are removed from the old program, which gives the new one. No read fails, and the
-- session is still in progress.
pub record Excises {M H : Type 0} (stored : M → Stored) (stands_for : M → List Rule → Type 0) (old new : Program) (names : Spellings) (given : List Sym) (before : Session M H) (r : Result (Session M H) Ending) (a b : Port) : Type 0 where
  pub performs : (c : Coming) → Performs (λ s. meant_by stored new.rules s names c) of_ending r a b (excised a.out.column given (meant_by stored old.rules before names c))
  pub reads : ends_unread r ≡ false
  pub under_way : IfOk r (IsUnderWay stored stands_for new.rules)
  pub program : OnOk r (IsWith new.rules old.commands old new)
