-- What is found is the place, and what is not found goes last.
use Rattle.std.proofs.Common.{◌≡◌, ℕ, List, slice_get, Some, sym, subst, ◌∙◌}
use Rattle.ops_base.specs.Names.{spellings, AreDistinct}
use Rattle.ops_base.proofs.Held.{found_is, absent_is, with-held, with-new, length-map, absent_from_place, distinct-push, kept-push}
use Rattle.ops_base.proofs.symbols.place_in.Goals as goal

pub returns-in-Some-clause-place : goal.returns-in-Some-clause-place
returns-in-Some-clause-place c =
    sym (found_is (λ v. v.items) c.args.spelling.now c.args.held.now.keys c.in-Some.place (sym c.in-Some.ensures.index)).0

pub returns-in-Some-clause-ok : goal.returns-in-Some-clause-ok
returns-in-Some-clause-ok c =
    let found = found_is (λ v. v.items) c.args.spelling.now c.args.held.now.keys c.in-Some.place (sym c.in-Some.ensures.index) in
    sym (with-held (spellings c.args.held.now.keys) c.args.spelling.now (rw found.0 found.1))

pub returns-in_ok-add-in-None-clause-place : goal.returns-in_ok-add-in-None-clause-place
returns-in_ok-add-in-None-clause-place c =
    c.len-place.ensures.len ∙ sym (absent_is (λ v. v.items) c.args.spelling.now c.args.held.now.keys (sym c.in-None.ensures.index))

pub returns-in_ok-add-in-None-clause-ok : goal.returns-in_ok-add-in-None-clause-ok
returns-in_ok-add-in-None-clause-ok c =
    let keys = c.args.held.now.keys in
    c.in_ok-add-in-None.ensures.ok ∙ sym (with-new (spellings keys) c.args.spelling.now
    (absent_is (λ v. v.items) c.args.spelling.now keys (sym c.in-None.ensures.index) ∙ sym (length-map (λ v. v.items) keys)))

pub returns-in_ok-add-in-None-clause-kept : goal.returns-in_ok-add-in-None-clause-kept
returns-in_ok-add-in-None-clause-kept c = λ i s h.
    subst (λ (all : List (List ℕ)). slice_get all i ≡ Some s) (sym c.in_ok-add-in-None.ensures.ok) (kept-push (spellings c.args.held.now.keys) c.args.spelling.now s i h)

pub returns-in_ok-add-in-None-clause-distinct : goal.returns-in_ok-add-in-None-clause-distinct
returns-in_ok-add-in-None-clause-distinct c = λ apart.
    let keys = c.args.held.now.keys in
    let absent = absent_from_place (spellings keys) c.args.spelling.now
    (absent_is (λ v. v.items) c.args.spelling.now keys (sym c.in-None.ensures.index) ∙ sym (length-map (λ v. v.items) keys)) in
    subst AreDistinct (sym c.in_ok-add-in-None.ensures.ok) (distinct-push (spellings keys) c.args.spelling.now apart absent)
