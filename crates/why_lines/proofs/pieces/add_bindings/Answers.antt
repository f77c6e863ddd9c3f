use Rattle.std.proofs.Common.{◌≡◌, List, [], ◌∷◌, ◌++◌, Bool, drop, refl, ap, sym, ◌∙◌, arith, rules}
use Rattle.std.proofs.lemmas.Grind.{common_steps}
use Rattle.std.proofs.lemmas.List.{append-nil}
use Rattle.ops_base.specs.declared.elements.Class.{Class}
use Rattle.ops_base.specs.declared.values.Value.{Value}
use Rattle.ops_base.specs.Names.{Spellings}
use Rattle.why_lines.specs.declared.spots.Spot.{Spot}
use Rattle.why_lines.specs.WhyLines.{bindings_text}
use Rattle.why_lines.proofs.pieces.add_bindings.Goals as goal

-- where no value is left, nothing is added
no_bindings : (names : Spellings) (classes : List Class) (first : Bool) (spots : List Spot) (left : List Value) → left ≡ [] → bindings_text names classes first spots left ≡ []
no_bindings names classes first [] left none = refl
no_bindings names classes first (s ∷ spots) [] none = refl
no_bindings names classes first (s ∷ spots) (v ∷ left) none = cc

pub returns-in_default : goal.returns-in_default
returns-in_default c =
    let l = c.loop-spot in
    let none : l.left.now ≡ [] = first_of (search rules, grind (arith, common_steps), grind (arith, common_steps, c.in_default.ensures.cases)) in
    sym (append-nil l.text.items)
    ∙ ap (λ w. l.text.items ++ w) (sym (no_bindings c.args.names.now c.args.classes.now l.is_first (drop l.spot-index c.args.spots.now) l.left.now none))
    ∙ l.invariant
