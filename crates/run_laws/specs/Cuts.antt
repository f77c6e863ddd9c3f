-- A session that is cut off after some of its firings.
use Rattle.std.specs.Prelude.{◌≡◌, ◌≢◌, ℕ, suc, ◌<◌, List, [], ◌∷◌, ◌++◌, Option, Some, Ok, IfSome}
use Rattle.ops_base.specs.declared.commands.Command.{Command}
use Rattle.ops_base.specs.declared.commands.Command.TheVariants as command
use Rattle.ops_base.specs.declared.rules.Inst.{Inst}
use Rattle.ops_base.specs.Names.{Spellings}
use Rattle.ops_io.specs.Coming.{Coming}
use Rattle.ops_meaning.specs.Acting.{Setting}
use Rattle.ops_meaning.specs.Running.{Session, next_to_fire, session_of}

-- these commands, followed by a run that ends after this many firings
abbrev pub cut_after : List Command → ℕ → List Command
cut_after before n = before ++ command.Run (Some n) ∷ []

-- a run that is given this number of firings, or none, has more firings than these
abbrev pub HasMore : Option ℕ → ℕ → Type 0
HasMore count n = IfSome count (λ all. n < all)

-- Commands, followed by this many firings of a run, lead to this state, and the run continues with this instantiation:
-- the run and the session may make more firings, this instantiation is the next among those of the productions in
-- force, and with one more firing the session does not end in this state. So neither a break nor a `halt` stopped the
-- run here.
pub record GoesOnWith (s : Setting) (limit : ℕ) (before : List Command) (count : Option ℕ) (n : ℕ) (names : Spellings) (coming : Coming) (k : Session) (i : Inst) : Type 0 where
  pub reached : (session_of s limit (cut_after before n) names coming).outcome ≡ Ok k
  pub run : HasMore count n
  pub session : k.course.firings < limit
  pub next : next_to_fire k.rules k.course ≡ Some i
  pub more : (session_of s limit (cut_after before (suc n)) names coming).outcome ≢ Ok k
