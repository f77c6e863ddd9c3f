-- The name of a production that a command adds stands after those that the commands before it add.
use Rattle.std.proofs.Common.{◌≡◌, Bool, List, [], ◌∷◌, ◌++◌, ◌==◌, ◌||◌, map, refl, ap, ◌∙◌, append-nil}
use Rattle.std.specs.List.{list_any}
use Rattle.std.proofs.lemmas.Grind.{flat_map-append}
use Rattle.std.proofs.lemmas.List.{map-append}
use Rattle.ops_base.specs.declared.values.Sym.{Sym}
use Rattle.ops_base.specs.declared.rules.Rule.{Rule}
use Rattle.ops_base.specs.declared.commands.Command.{Command}
use Rattle.ops_base.specs.declared.commands.Command.TheVariants as command
use Rattle.ops_grammar.specs.Grammar.{added, added_by, has_title}
use Rattle.ops_check.specs.Titles.{names_added, name_added, noted}

one_noted : (names : List Sym) (c : Command) → names ++ map (λ r. r.name) (added c) ≡ noted names (name_added c)
one_noted names (command.Add r) = refl
one_noted names _ = append-nil names

none_more : (c : Command) → map (λ r. r.name) (added c ++ []) ≡ map (λ r. r.name) (added c)
none_more c = ap (λ (rs : List Rule). map (λ r. r.name) rs) (append-nil (added c))

pub names_pushed : (cs : List Command) (c : Command) → names_added (cs ++ c ∷ []) ≡ noted (names_added cs) (name_added c)
names_pushed cs c =
    ap (λ (rs : List Rule). map (λ r. r.name) rs) (flat_map-append added cs (c ∷ []))
    ∙ map-append (λ r. r.name) (added_by cs) (added c ++ [])
    ∙ ap (λ (names : List Sym). names_added cs ++ names) (none_more c)
    ∙ one_noted (names_added cs) c

any_named : (name : Sym) (rules : List Rule) → list_any (λ n. n.0 == name.0) (map (λ r. r.name) rules) ≡ has_title name rules
any_named name [] = refl
any_named name (r ∷ rs) = ap (λ (b : Bool). (r.name.0 == name.0) || b) (any_named name rs)

pub name_among : (name : Sym) (cs : List Command) → list_any (λ n. n.0 == name.0) (names_added cs) ≡ has_title name (added_by cs)
name_among name cs = any_named name (added_by cs)
