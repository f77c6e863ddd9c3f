-- Consecutive firings, and how `back` undoes them.
use Rattle.std.specs.Prelude.{◌≡◌, ℕ, zero, suc, [], ◌-◌, length, take, option_map, Bool, true, false, Some, None, Ok}
use Rattle.ops_base.specs.declared.commands.Command.{Command}
use Rattle.ops_base.specs.declared.commands.Command.TheVariants as command
use Rattle.ops_base.specs.declared.rules.Inst.{Inst}
use Rattle.ops_meaning.specs.Acting.{Setting}
use Rattle.ops_meaning.specs.Running.{Session, Turned, fired_on, firing, in_force, next_to_fire, turned_on}

-- This many consecutive firings lead from the one session to the other. Each is of the next instantiation, whatever the
-- column at which it begins, and after it the productions that it built are added.
abbrev pub FireTo : Setting → ℕ → Session → Session → Type 0
FireTo s zero k done = k ≡ done
FireTo s (suc n) k done =
    (column : ℕ) × (i : Inst) × (t : Turned)
    × (next_to_fire k.rules k.course ≡ Some i) × ((firing (in_force s k) column i k.course).outcome ≡ Ok t)
    × FireTo s n (turned_on t k) done

-- the same, of firings that build no production
abbrev pub FireAlone : Setting → ℕ → Session → Session → Type 0
FireAlone s zero k done = k ≡ done
FireAlone s (suc n) k done =
    (column : ℕ) × (i : Inst) × (t : Turned)
    × (next_to_fire k.rules k.course ≡ Some i) × ((firing (in_force s k) column i k.course).outcome ≡ Ok t)
    × (t.built ≡ []) × FireAlone s n (fired_on t.course k) done

-- After firings and a `back` of the last n of them, working memory, the marks, the last tag and the names are as they
-- were before these. The number of firings, the strategy, the input, the productions in force, the trace level and the
-- breaks are as the firings left them, and so is the trail, but for its last n states.
pub record IsUndone (n : ℕ) (before fired after : Session) : Type 0 where
  pub memory : after.course.wm ≡ before.course.wm
  pub marks : after.course.fired ≡ before.course.fired
  pub last_tag : after.course.last ≡ before.course.last
  pub names : after.course.names ≡ before.course.names
  pub firings : after.course.firings ≡ fired.course.firings
  pub strategy : after.course.strategy ≡ fired.course.strategy
  pub coming : after.course.coming ≡ fired.course.coming
  pub rules : after.rules ≡ fired.rules
  pub watch : after.watch ≡ fired.watch
  pub breaks : after.breaks ≡ fired.breaks
  pub trail : after.trail ≡ option_map (λ es. take (length es - n) es) fired.trail

-- After this command no firing before it can be undone. An `excise` is none of these, since it may take out nothing.
abbrev pub ends_the_trail : Command → Bool
ends_the_trail (command.Make class puts) = true
ends_the_trail (command.Remove tags) = true
ends_the_trail command.RemoveAll = true
ends_the_trail (command.Add r) = true
ends_the_trail _ = false

-- the session without its trail
abbrev pub untrailed : Session → Session
untrailed k = record k { trail = None }
