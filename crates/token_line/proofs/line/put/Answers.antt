-- The memories of the node are written, or come new to the line, and those of each other node are as they were.
use Rattle.std.proofs.Common.{◌≡◌, ◌∙◌, ◌&&◌, ◌==◌, ◌++◌, ◌∷◌, [], Bool, List, None, Option, Some, ap, ap₂, bytes_eq, cond, false, length, nat_eq, refl, slice_get, sym, true, ℕ}
use Rattle.std.proofs.lemmas.Bool.Decides.{Decides-eqb}
use Rattle.std.specs.Map.{lookup, values_of}
use Rattle.std.proofs.lemmas.Cmp.{nat_eq_equiv}
use Rattle.indexmap.specs.IndexMap.{set_value_at}
use Rattle.token_line.specs.Bags.{are_same_sides}
use Rattle.net_base.specs.declared.tasks.Side.{Side}
use Rattle.token_line.specs.declared.memories.NodeMemory.{NodeMemory}
use Rattle.token_line.specs.declared.tokens.TokenCount.{TokenCount}
use Rattle.token_line.specs.inner.Codes.{cell_under, filed_among, memory_of, memory_under, tokens_of}
use Rattle.token_line.specs.inner.Pairs.{cell_of, place_of}
use Rattle.token_line.proofs.Filed.{fresh_cells, swapped}
use Rattle.token_line.proofs.LineLemmas.{always_err, bare, put_seen, same_seen}
use Rattle.token_line.proofs.SmallMapLemmas.{found_at, missing_value, push_lookup, set_last, value_last, within_set, written_lookup}
use Rattle.token_line.proofs.line.put.Goals as goal

pub put-requires-clause-token : goal.put-requires-clause-token
put-requires-clause-token c =
    let n = c.args.task.now.node in
    let at = found_at (nat_eq n) c.args.memories.now c.in-Some.place c.value_mut.result.now (sym c.requires.spot.node ∙ c.in-Some.is) c.value_mut.ensures.value in
    c.requires.spot.token ∙ ap (λ o. place_of (tokens_of (memory_of o c.args.spot.now.code) c.args.task.now.side) c.args.task.now.token) at

pub returns-in_err-put-in-Some-clause-err : goal.returns-in_err-put-in-Some-clause-err
returns-in_err-put-in-Some-clause-err c =
    let n = c.args.task.now.node in
    let old = c.args.memories.now in
    let place = c.in-Some.place in
    let was = c.value_mut.result.now in
    let new = c.put.new.self in
    let is = sym c.requires.spot.node ∙ c.in-Some.is in
    let at = found_at (nat_eq n) old place was is c.value_mut.ensures.value in
    always_err c.from_residual.result
    (λ m k s t. same_seen (λ q. lookup (nat_eq q) old) (λ q. lookup (nat_eq q) (set_value_at old place new)) n m (λ o. cell_of (tokens_of (memory_of o k) s) t) was new
    (written_lookup nat_eq_equiv old place n new c.len-apart.ensures.apart is m) at (c.in_err-put-in-Some.ensures.err k s t))

pub returns-in_ok-put-in-Some-clause-ok : goal.returns-in_ok-put-in-Some-clause-ok
returns-in_ok-put-in-Some-clause-ok c = λ m k s t.
    let x = c.args.task.now in
    let old = c.args.memories.now in
    let place = c.in-Some.place in
    let was = c.value_mut.result.now in
    let new = c.put.new.self in
    let is = sym c.requires.spot.node ∙ c.in-Some.is in
    let at = found_at (nat_eq x.node) old place was is c.value_mut.ensures.value in
    let own = are_same_sides s x.side && bytes_eq t x.token in
    c.drop_if_empty.ensures m k s t
    ∙ (put_seen (λ q. lookup (nat_eq q) old) (λ q. lookup (nat_eq q) (set_value_at old place new)) x.node m (λ o. cell_of (tokens_of (memory_of o k) s) t) new
    ((k == c.args.spot.now.code) && own) c.args.cell (written_lookup nat_eq_equiv old place x.node new c.len-apart.ensures.apart is m)
    (c.in_ok-put-in-Some.ensures.ok k s t ∙ ap (λ o. cond ((k == c.args.spot.now.code) && own) c.args.cell (cell_of (tokens_of (memory_of o k) s) t)) (sym at))
    ∙ ap (λ b. cond b c.args.cell (filed_among old m k s t)) (swapped (m == x.node) (k == c.args.spot.now.code) own))

pub drop_if_empty-requires : goal.drop_if_empty-requires
drop_if_empty-requires c = within_set c.args.memories.now c.in-Some.place c.value_mut.result.now c.put.new.self c.value_mut.ensures.value

pub push_within-requires : goal.push_within-requires
push_within-requires c =
    missing_value (nat_eq c.args.task.now.node) c.args.memories.now (sym c.requires.spot.node ∙ c.in-None.is)

-- the memory that is new to the line stands last, and has nothing
module _ (old pushed : List (ℕ × NodeMemory)) (n code place : ℕ) (fresh was : NodeMemory) (is : pushed ≡ old ++ (n, fresh) ∷ []) (last : place ≡ length old)
    (got : slice_get (values_of pushed) place ≡ Some was) (own : fresh.code ≡ code) (left : fresh.first.left ≡ []) (right : fresh.first.right ≡ []) (others : fresh.others ≡ []) where
  was_fresh : was ≡ fresh
  was_fresh = (let same : Some was ≡ Some fresh = sym got ∙ (ap₂ (λ l k. slice_get (values_of l) k) is last ∙ value_last old n fresh) in cc)

  nothing : (k : ℕ) (s : Side) (t : List ℕ) → cell_under was k s t ≡ None
  nothing k s t =
      ap (λ (m : NodeMemory). cell_under m k s t) was_fresh
      ∙ (fresh_cells fresh code fresh.first own refl others k s t ∙ (ap (λ kept. cond (k == code) (cell_of kept t) None) (bare fresh.first left right s) ∙ both (k == code) None))
    where
      both : (b : Bool) (o : Option TokenCount) → cond b o o ≡ o
      both true o = refl
      both false o = refl

  no_tokens : (s : Side) → tokens_of (memory_under was code) s ≡ []
  no_tokens s =
      ap (λ (m : NodeMemory). tokens_of (memory_under m code) s) was_fresh
      ∙ (ap (λ k. tokens_of (cond (code == k) (Some fresh.first) (lookup (nat_eq code) fresh.others)) s) own
      ∙ (ap (λ b. tokens_of (cond b (Some fresh.first) (lookup (nat_eq code) fresh.others)) s) ((Decides-eqb code code).1 refl) ∙ bare fresh.first left right s))

  -- once it is written
  written : (new : NodeMemory) → lookup (nat_eq n) old ≡ None → (m : ℕ) → lookup (nat_eq m) (set_value_at pushed place new) ≡ cond (nat_eq m n) (Some new) (lookup (nat_eq m) old)
  written new none m =
      ap (lookup (nat_eq m)) (ap₂ (λ l k. set_value_at l k new) is last ∙ set_last old n fresh new) ∙ push_lookup nat_eq_equiv old n new none m

never : {R : Type 0} (a : Bool) (x y : R) → cond (a && false) x y ≡ y
never true x y = refl
never false x y = refl

pub put-requires-in-None-clause-token : goal.put-requires-in-None-clause-token
put-requires-in-None-clause-token c =
    let x = c.args.task.now in
    let old = c.args.memories.now in
    let code = c.args.spot.now.code in
    let none = missing_value (nat_eq x.node) old (sym c.requires.spot.node ∙ c.in-None.is) in
    c.requires.spot.token ∙ (ap (λ o. place_of (tokens_of (memory_of o code) x.side) x.token) none
    ∙ ap (λ kept. place_of kept x.token) (sym (no_tokens old c.push_within.new.self x.node code c.len-place.result c.in_ok-fresh-in-None.fresh c.value_mut-in-None.result.now c.in_ok-push_within-in-None.ensures.ok c.len-place.ensures.len
    c.value_mut-in-None.ensures.value c.in_ok-fresh-in-None.ensures.code c.in_ok-fresh-in-None.ensures.left c.in_ok-fresh-in-None.ensures.right c.in_ok-fresh-in-None.ensures.others x.side)))

pub returns-in_err-put-in-None-clause-err : goal.returns-in_err-put-in-None-clause-err
returns-in_err-put-in-None-clause-err c =
    let x = c.args.task.now in
    let old = c.args.memories.now in
    let place = c.len-place.result in
    let new = c.put-in-None.new.self in
    let none = missing_value (nat_eq x.node) old (sym c.requires.spot.node ∙ c.in-None.is) in
    always_err c.from_residual-in_err-put-in-None.result
    (λ m k s t.
    put_seen (λ q. lookup (nat_eq q) old) (λ q. lookup (nat_eq q) (set_value_at c.push_within.new.self place new)) x.node m (λ o. cell_of (tokens_of (memory_of o k) s) t) new false None
    (written old c.push_within.new.self x.node c.args.spot.now.code place c.in_ok-fresh-in-None.fresh c.value_mut-in-None.result.now c.in_ok-push_within-in-None.ensures.ok c.len-place.ensures.len
    c.value_mut-in-None.ensures.value c.in_ok-fresh-in-None.ensures.code c.in_ok-fresh-in-None.ensures.left c.in_ok-fresh-in-None.ensures.right c.in_ok-fresh-in-None.ensures.others new none m)
    (c.in_err-put-in-None.ensures.err k s t
    ∙ (nothing old c.push_within.new.self x.node c.args.spot.now.code place c.in_ok-fresh-in-None.fresh c.value_mut-in-None.result.now c.in_ok-push_within-in-None.ensures.ok c.len-place.ensures.len
    c.value_mut-in-None.ensures.value c.in_ok-fresh-in-None.ensures.code c.in_ok-fresh-in-None.ensures.left c.in_ok-fresh-in-None.ensures.right c.in_ok-fresh-in-None.ensures.others k s t
    ∙ ap (λ o. cell_of (tokens_of (memory_of o k) s) t) (sym none)))
    ∙ never (m == x.node) None (filed_among old m k s t))

pub returns-in_ok-put-in-None-clause-ok : goal.returns-in_ok-put-in-None-clause-ok
returns-in_ok-put-in-None-clause-ok c = λ m k s t.
    let x = c.args.task.now in
    let old = c.args.memories.now in
    let code = c.args.spot.now.code in
    let place = c.len-place.result in
    let new = c.put-in-None.new.self in
    let none = missing_value (nat_eq x.node) old (sym c.requires.spot.node ∙ c.in-None.is) in
    let own = are_same_sides s x.side && bytes_eq t x.token in
    put_seen (λ q. lookup (nat_eq q) old) (λ q. lookup (nat_eq q) (set_value_at c.push_within.new.self place new)) x.node m (λ o. cell_of (tokens_of (memory_of o k) s) t) new ((k == code) && own) c.args.cell
    (written old c.push_within.new.self x.node code place c.in_ok-fresh-in-None.fresh c.value_mut-in-None.result.now c.in_ok-push_within-in-None.ensures.ok c.len-place.ensures.len
    c.value_mut-in-None.ensures.value c.in_ok-fresh-in-None.ensures.code c.in_ok-fresh-in-None.ensures.left c.in_ok-fresh-in-None.ensures.right c.in_ok-fresh-in-None.ensures.others new none m)
    (c.in_ok-put-in-None.ensures.ok k s t
    ∙ (ap (λ o. cond ((k == code) && own) c.args.cell o) (nothing old c.push_within.new.self x.node code place c.in_ok-fresh-in-None.fresh c.value_mut-in-None.result.now c.in_ok-push_within-in-None.ensures.ok c.len-place.ensures.len
    c.value_mut-in-None.ensures.value c.in_ok-fresh-in-None.ensures.code c.in_ok-fresh-in-None.ensures.left c.in_ok-fresh-in-None.ensures.right c.in_ok-fresh-in-None.ensures.others k s t)
    ∙ ap (λ o. cond ((k == code) && own) c.args.cell (cell_of (tokens_of (memory_of o k) s) t)) (sym none)))
    ∙ ap (λ b. cond b c.args.cell (filed_among old m k s t)) (swapped (m == x.node) (k == code) own)
