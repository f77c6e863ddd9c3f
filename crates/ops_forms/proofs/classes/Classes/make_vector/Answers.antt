use Rattle.std.proofs.Common.{ap, sym, ◌∙◌, ◌≡◌, [], map}
use Rattle.std.proofs.lemmas.Result.{on_ok_weaker}
use Rattle.std.specs.Option.{option_copied}
use Rattle.ops_grammar.specs.Grammar.{with_vector_last}
use Rattle.ops_forms.specs.Noted.{places_of, places_with, arranged_at_all}
use Rattle.ops_forms.proofs.Noted.{all_arranged}
use Rattle.ops_forms.proofs.classes.Classes.make_vector.Goals as goal

pub returns-in-Some : goal.returns-in-Some
returns-in-Some c =
    let found : c.in-Some.places.now.items ≡ places_with c.args.name.0 c.self.inside.list =
    ap (λ o. places_of (option_copied o)) (sym c.in-Some.is) ∙ ap places_of c.get.ensures.value ∙ c.self.invariant c.args.name.0 in
    on_ok_weaker c.arrange_all.result
    (λ e. e ∙ ap (λ ks. arranged_at_all c.args.name ks c.self.inside.list) (c.as_slice.ensures.value ∙ found) ∙ all_arranged c.args.name c.self.inside.list ∙ ap (map (with_vector_last c.args.name)) c.self.view_is)
    c.arrange_all.ensures.ok

pub returns-in-None : goal.returns-in-None
returns-in-None c =
    let none : [] ≡ places_with c.args.name.0 c.self.inside.list =
    ap (λ o. places_of (option_copied o)) (sym c.in-None.is) ∙ ap places_of c.get.ensures.value ∙ c.self.invariant c.args.name.0 in
    sym c.self.view_is ∙ ap (λ ks. arranged_at_all c.args.name ks c.self.inside.list) none ∙ all_arranged c.args.name c.self.inside.list ∙ ap (map (with_vector_last c.args.name)) c.self.view_is
