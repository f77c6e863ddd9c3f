-- What the search found is not held, so it is added and is the next.
use Rattle.std.proofs.Common.{sym, subst, ap, ◌∙◌}
use Rattle.std.specs.Prelude.{bytes_eq}
use Rattle.std.specs.List.{list_any}
use Rattle.ops_base.specs.Names.{Spellings, spellings, is_held, fresh_spelling, IsNextFresh}
use Rattle.ops_base.proofs.Fresh.{any-map, next_from_search, fresh_keeps}
use Rattle.ops_base.proofs.symbols.Names.fresh.Goals as goal

pub add-requires : goal.add-requires
add-requires c =
    let keys = c.self.inside.held.keys in
    let spelled = c.as_slice.ensures.value ∙ c.in_ok-number.ensures.spelling in
    ap (λ s. list_any (λ v. bytes_eq s v.items) keys) spelled
    ∙ sym (any-map (λ v. v.items) (bytes_eq (fresh_spelling c.in_ok-number.number)) keys)
    ∙ c.in_ok-number.ensures.free

pub invariant_of-self-2 : goal.invariant_of-self-2
invariant_of-self-2 c =
    let spelled = c.as_slice.ensures.value ∙ c.in_ok-number.ensures.spelling in
    fresh_keeps (spellings c.self.inside.held.keys) _ c.as_slice.result.now c.in_ok-add.ensures.ok
    (ap (is_held (spellings c.self.inside.held.keys)) spelled ∙ c.in_ok-number.ensures.free) c.self.invariant

pub returns-clause-next : goal.returns-clause-next
returns-clause-next c =
    let inside : Spellings = record { held = spellings c.self.inside.held.keys; made = c.self.inside.made } in
    subst (λ (names : Spellings). IsNextFresh names c.in_ok-number.number) c.self.view_is
    (next_from_search inside c.in_ok-number.number c.in_ok-number.ensures.number c.in_ok-number.ensures.free)
