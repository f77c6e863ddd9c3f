-- Each step keeps the rule.
use Rattle.std.proofs.Common.{◌≡◌, ◌≢◌, ℕ, zero, suc, true, true≢false, List, [], ◌∷◌, ◌++◌, length, set, sym, refl, ap, ◌∙◌, subst, ⊎_elim, sum_by, arith, All}
use Rattle.std.proofs.lemmas.List.Sums.{sum_by-append}
use Rattle.std.proofs.lemmas.List.Elements.{All-nil, All-cons, All-head, All-tail, All-append}
use mathlib.Core.Option.{some, some-ne-none}
use lib.ListN.{get_elem?}
use Rattle.crossbeam_deque.specs.Tasks.{Pushes, Takes, Finds, Forks, Merges}
use Rattle.crossbeam_deque.proofs.Lists.{at_set, at_snoc}
use Rattle.net_base.specs.declared.tasks.Task.{Task}
use Rattle.task_deque.specs.declared.plays.Known.{Known}
use Rattle.task_deque.specs.Rule.{AreSame, known, Knows, IsFair, no_part, owner_part, thief_part, both_parts, Pushed, Popped, Stolen, Sum}

-- ---- lists in any order

module _ {T : Type 0} where
  -- an item more at the end of both
  pub same_pushed : (pushed popped stolen items xs : List T) → AreSame pushed ((popped ++ stolen) ++ items) → AreSame (pushed ++ xs) ((popped ++ stolen) ++ (items ++ xs))
  same_pushed pushed popped stolen items xs b h =
      let e = b h in
      omega (arith, e, sum_by-append h pushed xs, sum_by-append h (popped ++ stolen) items, sum_by-append h (popped ++ stolen) (items ++ xs), sum_by-append h items xs)

  pub same_popped : (pushed popped stolen items xs : List T) → AreSame pushed ((popped ++ stolen) ++ (xs ++ items)) → AreSame pushed (((popped ++ xs) ++ stolen) ++ items)
  same_popped pushed popped stolen items xs b h =
      let e = b h in
      omega (arith, e, sum_by-append h popped stolen, sum_by-append h popped xs, sum_by-append h (popped ++ xs) stolen, sum_by-append h ((popped ++ xs) ++ stolen) items, sum_by-append h (popped ++ stolen) (xs ++ items), sum_by-append h xs items)

  pub same_stolen : (pushed popped stolen items xs : List T) → AreSame pushed ((popped ++ stolen) ++ (xs ++ items)) → AreSame pushed ((popped ++ (stolen ++ xs)) ++ items)
  same_stolen pushed popped stolen items xs b h =
      let e = b h in
      omega (arith, e, sum_by-append h popped stolen, sum_by-append h stolen xs, sum_by-append h popped (stolen ++ xs), sum_by-append h (popped ++ (stolen ++ xs)) items, sum_by-append h (popped ++ stolen) (xs ++ items), sum_by-append h xs items)

  -- ---- what holds of each task

  pub all_left : (P : T → Type 0) (xs ys : List T) → All P (xs ++ ys) → All P xs
  all_left P [] ys a = All-nil P
  all_left P (x ∷ xs) ys a = All-cons P x xs (All-head P x (xs ++ ys) a) (all_left P xs ys (All-tail P x (xs ++ ys) a))

  pub all_right : (P : T → Type 0) (xs ys : List T) → All P (xs ++ ys) → All P ys
  all_right P [] ys a = a
  all_right P (x ∷ xs) ys a = all_right P xs ys (All-tail P x (xs ++ ys) a)

-- ---- views

at_end : (l : List Known) (a b : Known) (j : ℕ) → get_elem? l j ≢ some b → get_elem? (l ++ a ∷ []) j ≡ some b → j ≡ length l
at_end [] a b zero n e = refl
at_end [] a b (suc j) n e = absurd (some-ne-none b (sym e))
at_end (x ∷ xs) a b zero n e = absurd (n e)
at_end (x ∷ xs) a b (suc j) n e = ap suc (at_end xs a b j n e)

abbrev Each : (ℕ → Known → Type 0) → List Known → Type 0
Each F views = (port : ℕ) (v : Known) → get_elem? views port ≡ some v → F port v

each_set : (F : ℕ → Known → Type 0) (views : List Known) (port : ℕ) (w : Known) → F port w → ((j : ℕ) (u : Known) → j ≢ port → get_elem? views j ≡ some u → F j u) → Each F (set views port w)
each_set F views port w mine others j u e = ⊎_elim (λ (x : (j ≡ port) × (w ≡ u)). subst (λ (y : ℕ × Known). F y.0 y.1) (λ i. (sym x.0 i, x.1 i)) mine)
    (λ (x : (j ≢ port) × (get_elem? views j ≡ some u)). others j u x.0 x.1) (at_set views port j w u e)

-- ---- steps

module _ (fits : Task → Type 0) where
  pub begins : IsFair fits [] (known true true [] [] [] ∷ [])
  begins = record {
    owner = 0;
    thief = 0;
    pushed = [];
    popped = [];
    stolen = [];
    fit = All-nil fits;
    balance = λ h. refl;
    each = each_set (Knows 0 0 [] [] []) (known true true [] [] [] ∷ []) 0 (known true true [] [] []) (record { owns = λ _. (refl, refl, refl); steals = λ _. (refl, refl) }) (λ j u other e. absurd (other (at_end [] _ u j (λ x. some-ne-none u (sym x)) e)));
  }

  pub pushes : (port : ℕ) (v : Known) (xs : List Task) → All fits xs → v.owns ≡ true → Pushes (IsFair fits) port v xs (Pushed v xs)
  pushes port v xs good may items views f at =
      let w : Known = known v.owns v.steals (v.pushed ++ xs) v.popped v.stolen in
      let mine = f.each port v at in
      let own = mine.owns may in
      let pushed = f.pushed ++ xs in (
        w,
        record {
          owner = f.owner;
          thief = f.thief;
          pushed = pushed;
          popped = f.popped;
          stolen = f.stolen;
          fit = All-append fits items xs f.fit good;
          balance = same_pushed f.pushed f.popped f.stolen items xs f.balance;
          each = each_set (Knows f.owner f.thief pushed f.popped f.stolen) views port w
              (record { owns = λ _. (own.0, ap (λ l. l ++ xs) own.1, own.2); steals = mine.steals })
              (λ j u other e. record { owns = λ p. absurd (other (((f.each j u e).owns p).0 ∙ sym own.0)); steals = (f.each j u e).steals });
        },
        refl,
      )

  pub push_one : (port : ℕ) (v : Known) (x : Task) → fits x → v.owns ≡ true → Pushes (IsFair fits) port v (x ∷ []) (Pushed v (x ∷ []))
  push_one port v x good may = pushes port v (x ∷ []) (All-cons fits x [] good (All-nil fits)) may

  pub pops : (port : ℕ) (v : Known) → v.owns ≡ true → Takes (IsFair fits) port v 1 (Popped fits v)
  pops port v may xs items views _ _ f at =
      let w : Known = known v.owns v.steals v.pushed (v.popped ++ xs) v.stolen in
      let mine = f.each port v at in
      let own = mine.owns may in
      let popped = f.popped ++ xs in (
        w,
        record {
          owner = f.owner;
          thief = f.thief;
          pushed = f.pushed;
          popped = popped;
          stolen = f.stolen;
          fit = all_right fits xs items f.fit;
          balance = same_popped f.pushed f.popped f.stolen items xs f.balance;
          each = each_set (Knows f.owner f.thief f.pushed popped f.stolen) views port w
              (record { owns = λ _. (own.0, own.1, ap (λ l. l ++ xs) own.2); steals = mine.steals })
              (λ j u other e. record { owns = λ p. absurd (other (((f.each j u e).owns p).0 ∙ sym own.0)); steals = (f.each j u e).steals });
        },
        (refl, all_left fits xs items f.fit),
      )

  pub steals : (port : ℕ) (v : Known) → v.steals ≡ true → Takes (IsFair fits) port v 1 (Stolen fits v)
  steals port v may xs items views _ _ f at =
      let w : Known = known v.owns v.steals v.pushed v.popped (v.stolen ++ xs) in
      let mine = f.each port v at in
      let own = mine.steals may in
      let stolen = f.stolen ++ xs in (
        w,
        record {
          owner = f.owner;
          thief = f.thief;
          pushed = f.pushed;
          popped = f.popped;
          stolen = stolen;
          fit = all_right fits xs items f.fit;
          balance = same_stolen f.pushed f.popped f.stolen items xs f.balance;
          each = each_set (Knows f.owner f.thief f.pushed f.popped stolen) views port w
              (record { owns = mine.owns; steals = λ _. (own.0, ap (λ l. l ++ xs) own.1) })
              (λ j u other e. record { owns = (f.each j u e).owns; steals = λ p. absurd (other (((f.each j u e).steals p).0 ∙ sym own.0)) });
        },
        (refl, all_left fits xs items f.fit),
      )

  -- ---- an empty deque

  pub sums : (port : ℕ) (v : Known) → v.owns ≡ true → Finds (IsFair fits) port v (Sum v)
  sums port v may views f at also h =
      let mine = f.each port v at in
      let own = mine.owns may in
      let other = mine.steals also in
      let e = f.balance h in
      let a = ap (sum_by h) own.1 in
      let b = ap (sum_by h) own.2 in
      let c = ap (sum_by h) other.1 in
      omega (arith, a, b, c, e, sum_by-append h (f.popped ++ f.stolen) [], sum_by-append h f.popped f.stolen, sum_by-append h v.popped v.stolen)

  -- ---- parts

  pub forks : (port : ℕ) (v : Known) → v.owns ≡ true → v.steals ≡ true → Forks (IsFair fits) port v (owner_part v) (thief_part v)
  forks port v a b items views f at =
      let l : Known = owner_part v in
      let r : Known = thief_part v in
      let mine = f.each port v at in
      let own = mine.owns a in
      let other = mine.steals b in
      let vs : List Known = set views port l in
      let Old : ℕ → Known → Type 0 = λ j u. (u.owns ≡ true → (j ≡ f.owner) × (u.pushed ≡ f.pushed) × (u.popped ≡ f.popped)) × (u.steals ≢ true) in
      let old : Each Old vs = each_set Old views port l (mine.owns, λ p. true≢false (sym p)) (λ j u apart e. ((f.each j u e).owns, λ p. apart (((f.each j u e).steals p).0 ∙ sym other.0))) in
      record {
        owner = f.owner;
        thief = length vs;
        pushed = f.pushed;
        popped = f.popped;
        stolen = f.stolen;
        fit = f.fit;
        balance = f.balance;
        each = λ j u e. ⊎_elim (λ x. record { owns = (old j u x).0; steals = λ p. absurd ((old j u x).1 p) })
            (λ (is : r ≡ u). record {
              owns = λ p. absurd (true≢false (sym (ap (λ (y : Known). y.owns) is ∙ p)));
              steals = λ p. (at_end vs r u j (λ x. (old j u x).1 p) e, ap (λ (y : Known). y.stolen) (sym is) ∙ other.1);
            })
            (at_snoc vs r u j e);
      }

  pub merges : (port : ℕ) (v : Known) (other : ℕ) (u : Known) → v.owns ≡ true → u.steals ≡ true → Merges (IsFair fits) port v other u (both_parts v u) no_part
  merges port v other u a b items views f at two at' =
      let both : Known = both_parts v u in
      let mine = f.each port v at in
      let own = mine.owns a in
      let vs : List Known = set views port both in
      let was : get_elem? views other ≡ some u = ⊎_elim (λ x. absurd (two x.0)) (λ x. x.1) (at_set views port other both u at') in
      let theirs = (f.each other u was).steals b in
      let Now : ℕ → Known → Type 0 = λ j y. j ≢ other → Knows f.owner port f.pushed f.popped f.stolen j y in
      let now : Each Now vs = each_set Now views port both (λ _. record { owns = mine.owns; steals = λ _. (refl, theirs.1) })
      (λ j y _ e apart. record { owns = (f.each j y e).owns; steals = λ p. absurd (apart (((f.each j y e).steals p).0 ∙ sym theirs.0)) }) in
      record {
        owner = f.owner;
        thief = port;
        pushed = f.pushed;
        popped = f.popped;
        stolen = f.stolen;
        fit = f.fit;
        balance = f.balance;
        each = each_set (Knows f.owner port f.pushed f.popped f.stolen) vs other no_part
            (record { owns = λ p. absurd (true≢false (sym p)); steals = λ p. absurd (true≢false (sym p)) })
            (λ j y apart e. now j y e apart);
      }
