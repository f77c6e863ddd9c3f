use Rattle.std.proofs.Common.{ap, sym, ◌∙◌, ◌≡◌, []}
use Rattle.std.specs.Option.{option_copied}
use Rattle.std.specs.List.{list_any}
use Rattle.ops_grammar.specs.Grammar.{makes_second}
use Rattle.ops_forms.specs.Noted.{places_of, places_with, is_vector_at}
use Rattle.ops_forms.proofs.Noted.{second_noted}
use Rattle.ops_forms.proofs.classes.Classes.makes_second.Goals as goal

pub returns-in-Some : goal.returns-in-Some
returns-in-Some c =
    let found : c.in-Some.places.now.items ≡ places_with c.args.name.0 c.self.inside.list =
    ap (λ o. places_of (option_copied o)) (sym c.in-Some.is) ∙ ap places_of c.get.ensures.value ∙ c.self.invariant c.args.name.0 in
    c.any_vector.ensures ∙ ap (λ cs. list_any (is_vector_at cs) c.as_slice-in-Some.result.now) c.as_slice.ensures
    ∙ ap (list_any (is_vector_at c.self.inside.list)) (c.as_slice-in-Some.ensures.value ∙ found) ∙ second_noted c.args.name c.self.inside.list ∙ ap (makes_second c.args.name) c.self.view_is

pub returns-in-None : goal.returns-in-None
returns-in-None c =
    let none : [] ≡ places_with c.args.name.0 c.self.inside.list =
    ap (λ o. places_of (option_copied o)) (sym c.in-None.is) ∙ ap places_of c.get.ensures.value ∙ c.self.invariant c.args.name.0 in
    ap (list_any (is_vector_at c.self.inside.list)) none ∙ second_noted c.args.name c.self.inside.list ∙ ap (makes_second c.args.name) c.self.view_is
