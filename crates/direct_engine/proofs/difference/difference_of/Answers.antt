-- Each step of the loop is one of both lists; at its end what is left of one of them is left over.
use Rattle.std.proofs.Common.{◌≡◌, ◌+◌, List, [], ◌∷◌, ◌++◌, drop, ap, sym, ◌∙◌, subst, inl, inr, ◌⊎◌, arith, append_assoc}
use Rattle.std.proofs.lemmas.List.{drop_all, take_rest}
use Rattle.ops_base.specs.declared.rules.Inst.{Inst}
use Rattle.work_store.specs.Settling.{IsSettled}
use Rattle.direct_engine.proofs.Differing.{without, first_left, left_in_order, only_in_one, in_both, all_of_the_other, is_settled}
use Rattle.direct_engine.proofs.difference.difference_of.Goals as goal
use Rattle.direct_engine.proofs.difference.difference_of.Goals.{then-both-test+else-now_at-now, else-both-test}

-- one more was added, and it is no longer left
moved : (so_far left rest all more : List Inst) (i copy : Inst) → so_far ++ left ≡ all → left ≡ i ∷ rest → copy ≡ i → more ≡ so_far ++ copy ∷ [] → more ++ rest ≡ all
moved so_far left rest all more i copy e f same is =
    ap (λ xs. xs ++ rest) is ∙ append_assoc so_far (copy ∷ []) rest ∙ ap (λ x. so_far ++ x ∷ rest) same ∙ ap (λ xs. so_far ++ xs) (sym f) ∙ e

pub both-preserved-in-Less : goal.both-preserved-in-Less
both-preserved-in-Less c =
    let before = c.args.before.now in
    let now = c.args.now.now in
    let i = c.both.before_at in
    let j = c.both.now_at in
    let here = first_left before i _ c.index-before-before_at.is c.both-test.true in
    let there = first_left now j _ c.index-now-now_at.is c.if-now_at-now.true in
    let step = only_in_one (drop i before) (drop j now) (drop (i + 1) before) (drop (j + 1) now) _ _ here there (left_in_order j now c.requires.now) c.in-Less.ensures.order in
    record {
      before_within = omega arith;
      now_within = c.both.invariant.now_within;
      gone = moved c.both.gone.items _ _ _ _ _ _ c.both.invariant.gone step.0 c.in_ok-copy-in-Less.ensures c.in_ok-push-in-Less.ensures.items;
      come = ap (λ xs. c.both.come.items ++ xs) (sym step.1) ∙ c.both.invariant.come;
    }

pub both-preserved-in-Equal : goal.both-preserved-in-Equal
both-preserved-in-Equal c =
    let before = c.args.before.now in
    let now = c.args.now.now in
    let i = c.both.before_at in
    let j = c.both.now_at in
    let here = first_left before i _ c.index-before-before_at.is c.both-test.true in
    let there = first_left now j _ c.index-now-now_at.is c.if-now_at-now.true in
    record {
      before_within = omega arith;
      now_within = omega arith;
      gone = ap (λ xs. c.both.gone.items ++ xs)
          (sym (in_both (drop i before) (drop j now) (drop (i + 1) before) (drop (j + 1) now) _ _ here there (left_in_order i before c.requires.before) c.in-Equal.ensures.order))
          ∙ c.both.invariant.gone;
      come = ap (λ xs. c.both.come.items ++ xs)
          (sym (in_both (drop j now) (drop i before) (drop (j + 1) now) (drop (i + 1) before) _ _ there here (left_in_order j now c.requires.now) (sym c.in-Equal.ensures.order)))
          ∙ c.both.invariant.come;
    }

pub both-preserved : goal.both-preserved
both-preserved c =
    let before = c.args.before.now in
    let now = c.args.now.now in
    let i = c.both.before_at in
    let j = c.both.now_at in
    let here = first_left before i _ c.index-before-before_at.is c.both-test.true in
    let there = first_left now j _ c.index-now-now_at.is c.if-now_at-now.true in
    let step = only_in_one (drop j now) (drop i before) (drop (j + 1) now) (drop (i + 1) before) _ _ there here (left_in_order i before c.requires.before) c.in-Greater.ensures.order in
    record {
      before_within = c.both.invariant.before_within;
      now_within = omega arith;
      gone = ap (λ xs. c.both.gone.items ++ xs) (sym step.1) ∙ c.both.invariant.gone;
      come = moved c.both.come.items _ _ _ _ _ _ c.both.invariant.come step.0 c.in_ok-copy-in-Greater.ensures c.in_ok-push-in-Greater.ensures.items;
    }

pub returns : goal.returns
returns c =
    let before = c.args.before.now in
    let now = c.args.now.now in
    let i = c.both.before_at in
    let j = c.both.now_at in
    let ended : (drop i before ≡ []) ⊎ (drop j now ≡ []) = elim c.both-test.branch [
      | then-both-test+else-now_at-now w ↦ inr (drop_all j now w.if-now_at-now.false)
      | else-both-test w ↦ inl (drop_all i before w.both-test.false)
    ] in
    let left = all_of_the_other (drop i before) (drop j now) ended in
    let gone : c.add_copies.new.to.items ≡ without before now = c.in_ok-add_copies.ensures ∙ ap (λ xs. c.both.gone.items ++ xs) (take_rest before i ∙ sym left.0) ∙ c.both.invariant.gone in
    let come : c.add_copies-2.new.to.items ≡ without now before = c.in_ok-add_copies-2.ensures ∙ ap (λ xs. c.both.come.items ++ xs) (take_rest now j ∙ sym left.1) ∙ c.both.invariant.come in
    let P : List Inst → Type 0 = λ xs. IsSettled before now xs (without now before) in
    let Q : List Inst → Type 0 = IsSettled before now c.add_copies.new.to.items in
    subst Q (sym come) (subst P (sym gone) (is_settled before now c.requires.before c.requires.now))
