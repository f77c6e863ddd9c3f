-- Lines with one entry more or with none, and lists without one of their items.
use Rattle.std.proofs.Common.{◌≡◌, ◌≢◌, ℕ, zero, suc, ◌+◌, ◌<◌, List, [], ◌∷◌, ◌++◌, pos, ◌+ℤ◌, refl, sym, ap, subst, ◌∙◌, arith, get_or, sum_by, length, map, remove, slice_get, Some}
use Rattle.std.specs.List.{All, AllByRecursion}
use Rattle.std.proofs.lemmas.List.Elements.{All-from_recursion, recursion_from_All}
use Rattle.std.proofs.lemmas.Int.{ints}
use Rattle.std.proofs.lemmas.Option.{slice_get_within, slice_get-get_or}
use Rattle.std.proofs.lemmas.List.Edits.{length-remove}
use Rattle.std.proofs.lemmas.List.Sums.{sum_by-append, sum_by-cons, sum_by-remove}
use Rattle.std.proofs.lemmas.List.{map-append}
use mathlib.Core.Path.{fun_ext}
use Rattle.net_base.specs.declared.nodes.Node.{Node}
use Rattle.net_base.specs.declared.tasks.Side.{Side}
use Rattle.net_base.specs.declared.tasks.Task.{Task}
use Rattle.net_base.specs.Tokens.{Elements}
use Rattle.token_line.specs.declared.line.Entry.{Entry}
use Rattle.token_line.specs.Bags.{Bag, sign_at, signs, after}
use Rattle.token_line.specs.Lawful.{IsLawful}
use Rattle.step_core.specs.Machine.{Placing, Seen, with_entry, cleared, sums_at, add_entry}
use Rattle.step_core.specs.Phases.{total, tasks_of, children_of, now, before, AreLawful, entries_of}
use Rattle.step_core.specs.Laws.{EntryLaw}
use Rattle.step_core.proofs.Signs.{signs-append}
use Rattle.step_core.proofs.Fed.{AllByRecursion-append}
use Rattle.step_core.proofs.Fair.{IsOn, signs-off, after_all, after_all_is}
use Rattle.step_core.proofs.Lines.{AreWithin, total-later, IsLine, AreLines}

pub bag_ext : (a b : Bag) → ((n : ℕ) (s : Side) (t : List ℕ) → a n s t ≡ b n s t) → a ≡ b
bag_ext a b h = fun_ext (λ n. fun_ext (λ s. fun_ext (λ t. h n s t)))

-- ---- one line with one entry more

pub AreLawful-push : (elements : Elements) (nodes : List Node) (es : List Entry) (e : Entry) (b : Bag)
    → AreLawful elements nodes b es → IsLawful elements nodes (after_all b es) e → AreLawful elements nodes b (es ++ e ∷ [])
AreLawful-push elements nodes [] e b phase lawful = (lawful, tt)
AreLawful-push elements nodes (x ∷ xs) e b phase lawful = (phase.0, AreLawful-push elements nodes xs e (after b x.task) phase.1 lawful)

after_all_is_now : (l : Seen) → after_all (before l) l.entries ≡ l.sums
after_all_is_now l = bag_ext (after_all (before l) l.entries) l.sums (λ n s t. let a = after_all_is (before l) l.entries n s t in omega (arith, ints, a))

pub before-push : (l : Seen) (e : Entry) (n : ℕ) (s : Side) (t : List ℕ) → before (with_entry l e) n s t ≡ before l n s t
before-push l e n s t =
    let a = ap (signs n s t) (map-append (λ (x : Entry). x.task) l.entries (e ∷ [])) in
    let b = signs-append n s t (tasks_of l.entries) (e.task ∷ []) in omega (arith, ints, a, b)

pub IsLine-push : (elements : Elements) (nodes : List Node) (line : Placing) (i : ℕ) (l : Seen) (e : Entry)
    → IsLine elements nodes line i l → IsOn line i e.task → IsLawful elements nodes l.sums e → IsLine elements nodes line i (with_entry l e)
IsLine-push elements nodes line i l e is on lawful = record {
  within = λ n s t off. before-push l e n s t ∙ is.within n s t off;
  placed = subst (AllByRecursion (IsOn line i)) (sym (map-append (λ (x : Entry). x.task) l.entries (e ∷ []))) (AllByRecursion-append (IsOn line i) (tasks_of l.entries) (e.task ∷ []) is.placed (on, tt));
  lawful =
      subst (λ b. AreLawful elements nodes b (l.entries ++ e ∷ [])) (bag_ext (before l) (before (with_entry l e)) (λ n s t. sym (before-push l e n s t)))
      (AreLawful-push elements nodes l.entries e (before l) is.lawful (subst (λ b. IsLawful elements nodes b e) (sym (after_all_is_now l)) lawful));
}

pub entry_law : EntryLaw
entry_law elements nodes line i l e phase on lawful = record {
  lawful =
      subst (λ b. AreLawful elements nodes b (l.entries ++ e ∷ [])) (bag_ext (before l) (before (with_entry l e)) (λ n s t. sym (before-push l e n s t)))
      (AreLawful-push elements nodes l.entries e (before l) phase.lawful (subst (λ b. IsLawful elements nodes b e) (sym (after_all_is_now l)) lawful));
  placed =
      subst (All (IsOn line i)) (sym (map-append (λ (x : Entry). x.task) l.entries (e ∷ [])))
      (All-from_recursion (IsOn line i) (tasks_of l.entries ++ e.task ∷ [])
      (AllByRecursion-append (IsOn line i) (tasks_of l.entries) (e.task ∷ []) (recursion_from_All (IsOn line i) (tasks_of l.entries) phase.placed) (on, tt)));
}

-- ---- all lines with one entry more at line i, numbered from k on

pub AreLines-add : (elements : Elements) (nodes : List Node) (line : Placing) (k i : ℕ) (ls : List Seen) (e : Entry)
    → AreLines elements nodes line k ls → IsOn line (k + i) e.task → IsLawful elements nodes (sums_at i ls) e → AreLines elements nodes line k (add_entry i e ls)
AreLines-add elements nodes line k i [] e are on lawful = tt
AreLines-add elements nodes line k zero (l ∷ ls) e are on lawful = (IsLine-push elements nodes line k l e are.0 (on ∙ omega arith) lawful, are.1)
AreLines-add elements nodes line k (suc i) (l ∷ ls) e are on lawful = (are.0, AreLines-add elements nodes line (suc k) i ls e are.1 (on ∙ omega arith) lawful)

pub total-add : (i : ℕ) (ls : List Seen) (e : Entry) → i < length ls → (n : ℕ) (s : Side) (t : List ℕ) → total (map now (add_entry i e ls)) n s t ≡ total (map now ls) n s t +ℤ sign_at n s t e.task
total-add i [] e lt n s t = absurd (omega arith)
total-add zero (l ∷ ls) e lt n s t = omega (arith, ints)
total-add (suc i) (l ∷ ls) e lt n s t = let short : i < length ls = omega arith in let a = total-add i ls e short n s t in omega (arith, ints, a)

pub entries_of-add : (h : Entry → ℕ) (i : ℕ) (ls : List Seen) (e : Entry) → i < length ls → sum_by h (entries_of (add_entry i e ls)) ≡ sum_by h (entries_of ls) + h e
entries_of-add h i [] e lt = absurd (omega arith)
entries_of-add h zero (l ∷ ls) e lt =
    let a = sum_by-append h (l.entries ++ e ∷ []) (entries_of ls) in
    let b = sum_by-append h l.entries (e ∷ []) in
    let c = sum_by-cons h e [] in
    let d = sum_by-append h l.entries (entries_of ls) in omega (arith, a, b, c, d)
entries_of-add h (suc i) (l ∷ ls) e lt =
    let short : i < length ls = omega arith in
    let a = sum_by-append h l.entries (entries_of (add_entry i e ls)) in
    let d = sum_by-append h l.entries (entries_of ls) in
    let r = entries_of-add h i ls e short in omega (arith, a, d, r)

pub length-add : (i : ℕ) (ls : List Seen) (e : Entry) → length (add_entry i e ls) ≡ length ls
length-add i [] e = refl
length-add zero (l ∷ ls) e = refl
length-add (suc i) (l ∷ ls) e = ap suc (length-add i ls e)

-- ---- the sums of one line among all

pub total-at : (line : Placing) (k i : ℕ) (ls : List Seen) → AreWithin line k (map now ls) → (n : ℕ) (s : Side) (t : List ℕ) → line n s t ≡ k + i → total (map now ls) n s t ≡ sums_at i ls n s t
total-at line k i [] are n s t e = refl
total-at line k zero (l ∷ ls) are n s t e =
    let less : line n s t < suc k = omega arith in
    let b = total-later line (suc k) (map now ls) are.1 n s t less in omega (arith, ints, b)
total-at line k (suc i) (l ∷ ls) are n s t e =
    let a = are.0 n s t (λ q. absurd (omega arith)) in
    let at : line n s t ≡ suc k + i = omega arith in
    let b = total-at line (suc k) i ls are.1 n s t at in omega (arith, ints, a, b)

pub sums_at-off : (line : Placing) (k i : ℕ) (ls : List Seen) → AreWithin line k (map now ls) → (n : ℕ) (s : Side) (t : List ℕ) → line n s t ≢ k + i → sums_at i ls n s t ≡ pos 0
sums_at-off line k i [] are n s t off = refl
sums_at-off line k zero (l ∷ ls) are n s t off = are.0 n s t (λ q. off (omega arith))
sums_at-off line k (suc i) (l ∷ ls) are n s t off = sums_at-off line (suc k) i ls are.1 n s t (λ q. off (omega arith))

-- ---- a list without one of its items

pub remove_sum : {X : Type 0} (f : X → ℕ) (xs : List X) (i : ℕ) (x : X) → slice_get xs i ≡ Some x → sum_by f (remove xs i) + f x ≡ sum_by f xs
remove_sum f xs i x at =
    let within = slice_get_within xs i x at in
    let here = slice_get-get_or xs i x within in
    let same : get_or xs i x ≡ x = cc in
    ap (λ y. sum_by f (remove xs i) + f y) (sym same) ∙ sum_by-remove f xs i x within

pub remove_length : {X : Type 0} (xs : List X) (i : ℕ) (x : X) → slice_get xs i ≡ Some x → length (remove xs i) + 1 ≡ length xs
remove_length xs i x at = length-remove xs i (slice_get_within xs i x at)

pub remove_signs : (xs : List Task) (i : ℕ) (x : Task) → slice_get xs i ≡ Some x → (n : ℕ) (s : Side) (t : List ℕ) → signs n s t (remove xs i) +ℤ sign_at n s t x ≡ signs n s t xs
remove_signs [] i x e n s t = absurd (cc)
remove_signs (y ∷ ys) zero x e n s t = let same : y ≡ x = cc in let a = ap (sign_at n s t) same in omega (arith, ints, a)
remove_signs (y ∷ ys) (suc i) x e n s t = let a = remove_signs ys i x e n s t in omega (arith, ints, a)

pub remove_children : (es : List Entry) (i : ℕ) (e : Entry) → slice_get es i ≡ Some e → (n : ℕ) (s : Side) (t : List ℕ) → signs n s t (children_of (remove es i)) +ℤ signs n s t e.children ≡ signs n s t (children_of es)
remove_children [] i x e n s t = absurd (cc)
remove_children (y ∷ ys) zero x e n s t =
    let same : y ≡ x = cc in
    let a = ap (λ (z : Entry). signs n s t z.children) same in
    let b = signs-append n s t y.children (children_of ys) in omega (arith, ints, a, b)
remove_children (y ∷ ys) (suc i) x e n s t =
    let a = remove_children ys i x e n s t in
    let b = signs-append n s t y.children (children_of ys) in
    let c = signs-append n s t y.children (children_of (remove ys i)) in omega (arith, ints, a, b, c)

-- ---- weights of tasks and of children

pub tasks_weight : (g : Task → ℕ) (es : List Entry) → sum_by g (tasks_of es) ≡ sum_by (λ e. g e.task) es
tasks_weight g [] = refl
tasks_weight g (e ∷ es) =
    let a = tasks_weight g es in
    let b = sum_by-cons g e.task (tasks_of es) in
    let c = sum_by-cons (λ (x : Entry). g x.task) e es in omega (arith, a, b, c)

pub children_weight : (g : Task → ℕ) (es : List Entry) → sum_by g (children_of es) ≡ sum_by (λ e. sum_by g e.children) es
children_weight g [] = refl
children_weight g (e ∷ es) =
    let a = children_weight g es in
    let b = sum_by-append g e.children (children_of es) in
    let c = sum_by-cons (λ (x : Entry). sum_by g x.children) e es in omega (arith, a, b, c)

-- ---- clearing

pub total-clear : (ls : List Seen) (n : ℕ) (s : Side) (t : List ℕ) → total (map now (map cleared ls)) n s t ≡ total (map now ls) n s t
total-clear [] n s t = refl
total-clear (l ∷ ls) n s t = let a = total-clear ls n s t in omega (arith, ints, a)

pub AreLines-clear : (elements : Elements) (nodes : List Node) (line : Placing) (k : ℕ) (ls : List Seen) → AreLines elements nodes line k ls → AreLines elements nodes line k (map cleared ls)
AreLines-clear elements nodes line k [] are = tt
AreLines-clear elements nodes line k (l ∷ ls) are = (
  record {
    within = λ n s t off.
        let a = are.0.within n s t off in
        let b = signs-off line k n s t off (tasks_of l.entries) are.0.placed in omega (arith, ints, a, b);
    placed = tt;
    lawful = tt;
  },
  AreLines-clear elements nodes line (suc k) ls are.1,
)

pub no_entries : (ls : List Seen) → entries_of (map cleared ls) ≡ []
no_entries [] = refl
no_entries (l ∷ ls) = no_entries ls

pub length-clear : (ls : List Seen) → length (map cleared ls) ≡ length ls
length-clear [] = refl
length-clear (l ∷ ls) = ap suc (length-clear ls)
