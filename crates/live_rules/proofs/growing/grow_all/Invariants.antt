use Rattle.std.proofs.Common.{◌≡◌, take}
use Rattle.ops_base.specs.Names.{Spellings}
use Rattle.ops_io.specs.Coming.{Coming}
use Rattle.cycle.specs.States.{state_course}
use Rattle.live_rules.specs.Renewing.{IsOf}
use Rattle.live_rules.proofs.growing.grow_all.Given as goal

abbrev pub invariant-loop-number : goal.invariant-loop-number
invariant-loop-number g l = record {
  course : (names : Spellings) (coming : Coming) → state_course g.B.M.Matcher.stored l.state names coming ≡ state_course g.B.M.Matcher.stored l.fn.state names coming;
  of : IsOf g.B.M.Matcher.stands_for (take l.number l.program.rules) l.state;
}
