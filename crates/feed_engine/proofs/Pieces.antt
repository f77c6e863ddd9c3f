-- Changes that are settled piece by piece.
use Rattle.std.proofs.Common.{◌≡◌, ◌∙◌, ℕ, ◌+◌, ◌≤◌, List, [], ◌∷◌, ◌++◌, length, take, drop, Result, Ok, Err, IfOk, refl, sym, ap, subst, arith}
use Rattle.std.proofs.lemmas.List.{append-nil, take-append-drop, take-append-le, length-append}
use Rattle.ops_base.specs.declared.elements.Change.{Change}
use Rattle.ops_base.specs.declared.elements.Change.TheVariants.{Add, Remove}
use Rattle.ops_base.specs.declared.elements.Element.{Element}
use Rattle.ops_base.specs.declared.rules.Inst.{Inst}
use Rattle.ops_base.specs.declared.rules.Rule.{Rule}
use Rattle.ops_base.specs.Instances.{Before}
use Rattle.ops_base.specs.WorkingMemory.{Lawful, change_done, done, last_after, without_tag}
use Rattle.ops_base.proofs.InOrder.{all_pairs_from_before}
use Rattle.ops_base.proofs.Members.{member_from_contains}
use Rattle.std.specs.Borrow.{Bor}
use Rattle.ops_base.specs.declared.memory.OutOfMemory.{OutOfMemory}
use Rattle.work_store.specs.declared.matcher.Settled.{Settled}
use Rattle.cycle.specs.Settles.{Settles}
use Rattle.work_store.specs.Settling.{IsSettled}
use Rattle.work_store.specs.Stored.{Stored}
use Rattle.feed_engine.specs.declared.feed.Feed.{Feed}
use Rattle.feed_engine.specs.Feeding.{IsFed, IsFurther, IsUpTo}

if_ok : {X E : Type 0} (r : Result X E) (x : X) (P : X → Type 0) → r ≡ Ok x → IfOk r P → P x
if_ok (Ok y) x P is p = let same : y ≡ x = cc in subst P same p
if_ok (Err e) x P is p = absurd (cc)

pub done_more : (wm : List Element) (xs ys : List Change) → done wm (xs ++ ys) ≡ done (done wm xs) ys
done_more wm [] ys = refl
done_more wm (c ∷ xs) ys = done_more (change_done wm c) xs ys

pub last_more : (last : ℕ) (xs ys : List Change) → last_after last (xs ++ ys) ≡ last_after (last_after last xs) ys
last_more last [] ys = refl
last_more last (Add e ∷ xs) ys = last_more e.tag xs ys
last_more last (Remove t ∷ xs) ys = last_more last xs ys

-- after the first of some lawful changes, the others are lawful
pub lawful_rest : (wm : List Element) (last : ℕ) (xs ys : List Change) → Lawful wm last (xs ++ ys) → Lawful (done wm xs) (last_after last xs) ys
lawful_rest wm last [] ys p = p
lawful_rest wm last (Add e ∷ xs) ys p = lawful_rest (wm ++ e ∷ []) e.tag xs ys p.1
lawful_rest wm last (Remove t ∷ xs) ys p = lawful_rest (without_tag t wm) last xs ys p.1

module _ {M : Type 0} (stored : M → Stored) (found : M → List Inst) (stands_for : M → List Rule → Type 0) (before : M) where
  -- the others are lawful
  pub rest_is_lawful : (changes : List Change) (settled : ℕ) (feed : Feed M) → IsUpTo stored found stands_for before changes settled feed → Lawful (stored before).elements (stored before).last changes
      → Lawful (stored feed.matcher).elements (stored feed.matcher).last (drop settled changes)
  rest_is_lawful changes settled feed up lawful =
      let all : List Change → Type 0 = λ cs. Lawful (stored before).elements (stored before).last cs in
      let rest = lawful_rest (stored before).elements (stored before).last (take settled changes) (drop settled changes) (subst all (sym (take-append-drop settled changes)) lawful) in
      let P : List Element → Type 0 = λ wm. Lawful wm (stored feed.matcher).last (drop settled changes) in
      let Q : ℕ → Type 0 = λ n. Lawful (done (stored before).elements (take settled changes)) n (drop settled changes) in
      subst P (sym up.elements) (subst Q (sym up.last) rest)

  -- more of them are
  pub further_up : (changes : List Change) (settled now : ℕ) (old new : Feed M) → IsUpTo stored found stands_for before changes settled old → IsFurther stored found stands_for changes settled old now new → IsUpTo stored found stands_for before changes now new
  further_up changes settled now old new up f = record {
    within = f.within;
    elements = f.fed.elements ∙ ap (λ wm. done wm f.more) up.elements ∙ sym (done_more (stored before).elements (take settled changes) f.more) ∙ ap (done (stored before).elements) (sym f.first);
    last = f.fed.last ∙ ap (λ n. last_after n f.more) up.last ∙ sym (last_more (stored before).last (take settled changes) f.more) ∙ ap (last_after (stored before).last) (sym f.first);
    changed = f.fed.changed (found before) up.changed;
    stands = λ rules s. f.fed.stands rules (up.stands rules s);
  }

  -- changes that come after them change nothing of that
  pub up_to_grown : (changes more grown : List Change) (settled : ℕ) (feed : Feed M) → grown ≡ changes ++ more → IsUpTo stored found stands_for before changes settled feed → IsUpTo stored found stands_for before grown settled feed
  up_to_grown changes more grown settled feed is up =
      let same : take settled grown ≡ take settled changes = ap (take settled) is ∙ take-append-le settled changes more up.within in
      let longer : length grown ≡ length changes + length more = ap length is ∙ length-append changes more in
      record {
        within = let w = up.within in omega (arith, w, longer);
        elements = up.elements ∙ ap (done (stored before).elements) (sym same);
        last = up.last ∙ ap (last_after (stored before).last) (sym same);
        changed = up.changed;
        stands = up.stands;
      }

-- nothing more is settled
pub no_further : {M : Type 0} (stored : M → Stored) (found : M → List Inst) (stands_for : M → List Rule → Type 0) (changes : List Change) (settled : ℕ) (feed : Feed M) → settled ≤ length changes
    → IsFurther stored found stands_for changes settled feed settled feed
no_further stored found stands_for changes settled feed within =
    record { more = []; first = sym (append-nil (take settled changes)); within = within; fed = record { elements = refl; last = refl; changed = λ before s. s; stands = λ rules s. s } }

-- one more settle
pub fed_by : {M : Type 0} (stored : M → Stored) (found : M → List Inst) (stands_for : M → List Rule → Type 0) (pre : M → Bor (List Change) → Type 0) (post : M → Bor (List Change) → Result (Settled M) OutOfMemory → Type 0)
    → Settles stored found stands_for pre post → (old : Feed M) (more : Bor (List Change)) (r : Result (Settled M) OutOfMemory) → post old.matcher more r → (s : Settled M) → r ≡ Ok s → (new : Feed M) → new.matcher ≡ s.matcher
    → ((before now after : List Inst) → IsSettled before now old.gone.items old.come.items → IsSettled now after s.gone.items s.come.items → IsSettled before after new.gone.items new.come.items)
    → IsFed stored found stands_for more.now old new
fed_by {M = M} stored found stands_for pre post settles old more r did s ok new same combined =
    let P : M → Type 0 = λ m. (stored m).elements ≡ done (stored old.matcher).elements more.now in
    let Q : M → Type 0 = λ m. (stored m).last ≡ last_after (stored old.matcher).last more.now in
    let T : M → Type 0 = λ m. IsSettled (found old.matcher) (found m) s.gone.items s.come.items in
    let U : M → Type 0 = λ m. (rules : List Rule) → stands_for old.matcher rules → stands_for m rules in
    let back = sym same in
    record {
      elements = subst P back (if_ok r s (λ s. (stored s.matcher).elements ≡ done (stored old.matcher).elements more.now) ok (settles.elements old.matcher more r did));
      last = subst Q back (if_ok r s (λ s. (stored s.matcher).last ≡ last_after (stored old.matcher).last more.now) ok (settles.last old.matcher more r did));
      changed = λ before p. combined before (found old.matcher) (found new.matcher) p (subst T back (if_ok r s (λ s. IsSettled (found old.matcher) (found s.matcher) s.gone.items s.come.items) ok (settles.settled old.matcher more r did)));
      stands = subst U back (if_ok r s (λ s. (rules : List Rule) → stands_for old.matcher rules → stands_for s.matcher rules) ok (settles.stands old.matcher more r did));
    }

-- what is found has not changed
settled_none : (insts : List Inst) → IsSettled insts insts [] []
settled_none insts = record {
  gone_is = λ i. (λ h. absurd (member_from_contains i [] h), λ p. absurd (p.1 p.0));
  come_is = λ i. (λ h. absurd (member_from_contains i [] h), λ p. absurd (p.1 p.0));
  gone_in_order = all_pairs_from_before Before [] tt;
  come_in_order = all_pairs_from_before Before [] tt;
}

-- nothing is settled yet
pub begun_up_to : {M : Type 0} (stored : M → Stored) (found : M → List Inst) (stands_for : M → List Rule → Type 0) (before : M) (feed : Feed M) → feed.matcher ≡ before → feed.come.items ≡ [] → feed.gone.items ≡ [] → (changes : List Change)
    → IsUpTo stored found stands_for before changes 0 feed
begun_up_to {M = M} stored found stands_for before feed same no_come no_gone changes =
    let P : M → Type 0 = λ m. IsSettled (found before) (found m) [] [] in
    let Q : List Inst → Type 0 = λ gone. IsSettled (found before) (found feed.matcher) gone [] in
    let R : List Inst → Type 0 = λ come. IsSettled (found before) (found feed.matcher) feed.gone.items come in
    record {
      within = omega arith;
      elements = ap (λ m. (stored m).elements) same;
      last = ap (λ m. (stored m).last) same;
      changed = subst R (sym no_come) (subst Q (sym no_gone) (subst P (sym same) (settled_none (found before))));
      stands = λ rules s. let S : M → Type 0 = λ m. stands_for m rules in subst S (sym same) s;
    }
