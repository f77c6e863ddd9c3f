-- One pass more is joined.
use Rattle.std.proofs.Common.{rules, arith, ◌≡◌, ℕ, ◌+◌, List, [], ◌∷◌, ◌++◌, length, length-append, get_or, IsTrue, ap, ap₂, ◌∙◌, sym, subst, refl, suc}
use Rattle.std.specs.Vec.Iter.{into_iter_items, into_iter_len}
use Rattle.std.specs.Prelude.{Bool}
use Rattle.turn_table.specs.Turns.{knows}
use Rattle.free_engine.specs.Teams.{HasEnded, Leads, SlotPass}
use Rattle.free_engine.proofs.Joined.{joined_more, saw_after}
use Rattle.free_engine.proofs.team.join_all.Goals as goal
use Rattle.free_engine.proofs.team.join_all.Goals.{then-not-one, else-not-one}

pub loop-one-init : goal.loop-one-init
loop-one-init c =
    let h = c.into_iter-one-iterator.ensures.into_iter_gives in
    let it = c.into_iter-one-iterator.result in
    let cells = c.args.cells.now in let lines : ℕ = c.args.lines in let tasks = c.args.tasks.now.value.items in
    let long : into_iter_len it ≡ length c.args.ended.items = h.1 ∙ c.args.ended.ok.0 in (
      omega (arith, long),
      λ k d low. subst (λ (n : ℕ). HasEnded lines tasks cells n (get_or (into_iter_items it) k d)) (let e : k + 1 ≡ 0 + k + 1 = omega arith in e)
          (subst (λ (l : List (SlotPass × Bool)). HasEnded lines tasks cells (k + 1) (get_or l k d)) (sym h.0) (c.requires.ended k d (omega (arith, low, long)))),
      subst (λ (n : ℕ). Leads cells (length c.args.ended.items) n c.args.first.now) (sym long) c.requires.leads,
      ap length c.requires.none,
      λ t w low. absurd (omega (arith, low)),
      λ t low. absurd (omega (arith, low)),
    )

pub loop-one-preserved : goal.loop-one-preserved
loop-one-preserved c = let was = c.loop-one.invariant in let n : ℕ = length c.loop-one.yielded in let step = c.in-Some.ensures.steps in
    let cells = c.args.cells.now in let lines : ℕ = c.args.lines in let tasks = c.args.tasks.now.value.items in let more = step.1 in
    let one = c.in-Some.one in
    let next : HasEnded lines tasks cells (n + 1) one =
    subst (λ (t : ℕ × (SlotPass × Bool)). HasEnded lines tasks cells t.0 t.1) (ap₂ (λ a b. (a, b)) (let e : n + 0 + 1 ≡ n + 1 = omega arith in e) (ap (λ l. get_or l 0 one) step.0)) (was.1 0 one (omega arith)) in
    let long : length (c.loop-one.yielded ++ one ∷ []) ≡ n + 1 = length-append c.loop-one.yielded (one ∷ []) ∙ refl in
    let view = c.join.ensures.knows in
    let both : IsTrue c.if-not-one.whole → IsTrue c.loop-one.whole × IsTrue one.1 =
    elim c.if-not-one.branch [ then-not-one w ↦ λ t. absurd (search rules) | else-not-one w ↦ λ t. (search rules, search rules) ] in
    let lead = was.2 in (
      omega arith,
      λ k d low. subst (λ (t : ℕ × (SlotPass × Bool)). HasEnded lines tasks cells t.0 t.1) (ap₂ (λ a b. (a, b)) (let e : n + (k + 1) + 1 ≡ length (c.loop-one.yielded ++ one ∷ []) + k + 1 = omega arith in e) (let s : k + 1 ≡ suc k = omega arith in ap (λ m. get_or (into_iter_items c.loop-one.one-iterator) m d) s ∙ ap (λ l. get_or l (suc k) d) step.0)) (was.1 (k + 1) d (omega arith)),
      record {
        first = c.join.ensures.first;
        own = ap (λ v. v.own) view ∙ lead.own;
        split_is = c.join.ensures.splits ∙ lead.split_is;
        apart_is = (let a = c.join.ensures.split_off in let b = lead.apart_is in omega (arith, a, b, more));
      },
      ap length (ap (λ v. v.joined) view) ∙ (length-append (knows c.loop-one.first).joined _ ∙ (let a = was.3 in omega (arith, a, long))),
      λ t. subst (λ (m : ℕ). Rattle.free_engine.specs.Teams.AllJoined lines m (knows c.join.new.first).joined) (sym long)
          (joined_more lines n (knows c.loop-one.first).joined (knows c.join.new.first).joined (record { pass = (knows one.0).number; rows = (knows one.0).own }) was.3 (ap (λ v. v.joined) view)
          (next.pass.0.same_number ∙ next.number_is) (next.whole n refl (both t).1).0 (was.4 (both t).0)),
      λ t low. saw_after tasks (knows c.loop-one.first).seen (knows one.0).seen (knows c.join.new.first).seen (ap (λ v. v.seen) view) (next.whole n refl (both t).1).1,
    )
