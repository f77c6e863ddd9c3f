-- The meaning of each command.
use Rattle.std.specs.Prelude.{◌≡◌, pos, false, [], ◌∷◌, codes, Some, None}
use Rattle.ops_base.specs.declared.conditions.Part.TheVariants.{One}
use Rattle.ops_base.specs.declared.rules.Rule.{Rule}
use Rattle.ops_base.specs.declared.commands.Command.{Command}
use Rattle.ops_base.specs.declared.commands.Command.TheVariants as command
use Rattle.ops_base.specs.declared.commands.Strategy.TheVariants.{Lex, Mea}
use Rattle.ops_base.specs.declared.values.Sym.{Sym}
use Rattle.ops_base.specs.declared.values.Value.TheVariants.{Whole}
use Rattle.read_laws.specs.Texts.{Text, commands_of}

abbrev pub Does : Text → Command → Type 0
Does text c = commands_of text ≡ c ∷ []

-- the name of the production; nine other words of the text have become symbols before it
abbrev pub name : Sym
name = record { 0 = 10 }

-- the production that comes after a `run`: its name is the fourteenth word of the text that becomes a symbol
abbrev pub later : Rule
later =
    record {
      name = record { 0 = 14 };
      conditions = One (record { class = 0; negated = false; tests = [] }) ∷ [];
      actions = [];
      specificity = 1;
      variables = 0;
      cells = 1;
      first = 78;
      past = 89;
    }

-- A production after a `run` is added at its place among the commands.
abbrev pub CommandsMean : Type 0
CommandsMean =
    Does (codes "(make a ^y 7)") (command.Make 0 (record { field = 1; values = Whole (pos 7) ∷ [] } ∷ []))
    × Does (codes "(remove 3 4)") (command.Remove (3 ∷ 4 ∷ []))
    × Does (codes "(remove *)") command.RemoveAll
    × Does (codes "(run)") (command.Run None)
    × Does (codes "(run 3)") (command.Run (Some 3))
    × Does (codes "(wm)") (command.Wm [])
    × Does (codes "(wm 3 4)") (command.Wm (3 ∷ 4 ∷ []))
    × Does (codes "(ppwm)") (command.Ppwm None)
    × Does (codes "(ppwm l ^u 7)") (command.Ppwm (Some (1, record { field = 0; values = Whole (pos 7) ∷ [] } ∷ [])))
    × Does (codes "(cs)") command.Cs
    × Does (codes "(strategy)") (command.Strategy None)
    × Does (codes "(strategy lex)") (command.Strategy (Some Lex))
    × Does (codes "(strategy mea)") (command.Strategy (Some Mea))
    × Does (codes "(watch)") (command.Watch None)
    × Does (codes "(watch 0)") (command.Watch (Some 0))
    × Does (codes "(watch 1)") (command.Watch (Some 1))
    × Does (codes "(watch 2)") (command.Watch (Some 2))
    × Does (codes "(exit)") command.Exit
    × Does (codes "(pm r)") (command.Pm (name ∷ []))
    × Does (codes "(pbreak r)") (command.Pbreak (name ∷ []))
    × Does (codes "(excise r)") (command.Excise (name ∷ []))
    × Does (codes "(matches r)") (command.Matches (name ∷ []))
    × Does (codes "(back)") (command.Back 1)
    × Does (codes "(back 1)") (command.Back 1)
    × Does (codes "(back 32)") (command.Back 32)
    × (commands_of (codes "(run)(p s(a)-->)") ≡ command.Run None ∷ command.Add later ∷ [])
