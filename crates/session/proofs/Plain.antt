-- Which commands are plain, and the points of a trail that they leave.
use Rattle.std.proofs.Common.{◌≡◌, refl, ℕ, ◌≤◌, Option, true, false, Result, Ok, Err, IfOk}
use Rattle.ops_base.specs.declared.commands.Command.{Command}
use Rattle.ops_base.specs.declared.commands.Command.TheVariants as command
use Rattle.ops_base.specs.declared.endings.Ending.{Ending}
use Rattle.ops_base.specs.Names.{Spellings}
use Rattle.back_trail.specs.Trails.{Trailed}
use Rattle.session.specs.Courses.{changes_productions}
use Rattle.session.specs.Trailing.{IsNamedFrom, is_plain}
use Rattle.session.specs.declared.undoable.Undoable.{Undoable}

-- those that change no production, and do not go back
pub plain_left : (c : Command) → changes_productions c ≡ false → ((count : ℕ) → ¬ (c ≡ command.Back count)) → is_plain c ≡ true
plain_left (command.Make class puts) h back = refl
plain_left (command.Remove tags) h back = refl
plain_left command.RemoveAll h back = refl
plain_left (command.Run count) h back = absurd (cc)
plain_left (command.Wm tags) h back = refl
plain_left (command.Ppwm pattern) h back = refl
plain_left command.Cs h back = refl
plain_left (command.Pm names) h back = refl
plain_left (command.Strategy set) h back = refl
plain_left (command.Watch set) h back = refl
plain_left (command.Pbreak names) h back = refl
plain_left (command.Add r) h back = absurd (cc)
plain_left (command.Excise names) h back = absurd (cc)
plain_left (command.Back count) h back = absurd (back count refl)
plain_left (command.Matches names) h back = refl
plain_left command.Exit h back = refl

-- the points that are left reach as far from any least number, and so from any above 0
pub named_above : {M H : Type 0} (names : Spellings) (trail : Option Trailed) (r : Result (Undoable M H) Ending) → IfOk r (λ u. (least : ℕ) → IsNamedFrom least names trail → IsNamedFrom least names u.trail)
    → IfOk r (λ u. (least : ℕ) → 1 ≤ least → IsNamedFrom least names trail → IsNamedFrom least names u.trail)
named_above names trail (Ok u) h = λ least some k. h least k
named_above names trail (Err f) h = tt
