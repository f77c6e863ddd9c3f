-- What a firing builds is in force after it.
use Rattle.std.proofs.Common.{◌≡◌, ℕ, zero, suc, ◌+◌, ◌<◌, ◌||◌, ◌==◌, List, [], ◌∷◌, ◌++◌, map, length, Bool, true, false, not, Option, Some, None, is_some, option_map, unwrap_or, IfOk, refl, sym, ap, ◌∙◌, slice_get, length-append, subst, arith}
use Rattle.std.specs.Prelude.{option_and_then}
use Rattle.std.specs.List.{position}
use Rattle.std.proofs.lemmas.Bool.Decides.{Decides-eqb}
use Rattle.ops_base.specs.declared.commands.Command.TheVariants as command
use Rattle.ops_base.specs.declared.rules.Inst.{Inst}
use Rattle.ops_base.specs.declared.rules.Rule.{Rule}
use Rattle.ops_base.specs.declared.values.Sym.{Sym}
use Rattle.ops_base.specs.Live.{moved, without}
use Rattle.ops_base.proofs.LiveLaws.{without_get}
use Rattle.ops_meaning.specs.Acting.{Setting, Acted, acted}
use Rattle.ops_meaning.specs.Effects.{writes}
use Rattle.ops_meaning.specs.Kept.{AreFilledFrom}
use Rattle.ops_meaning.specs.Layout.{rule_name}
use Rattle.ops_meaning.specs.Running.{Course, Session, Turned, added, all_added, commands_done, ended_in, fired_on, firing, given_by, has_break, place_after, place_beside, rule_named, taken_out, trail_emptied, turned_of, turned_on, without_named}
use Rattle.run_laws.specs.Excising.{has_name}
use Rattle.run_laws.specs.Firings.{column_after_line}
use Rattle.run_laws.proofs.Excisions.{position_head, position_next}
use Rattle.run_laws.proofs.Parts.{ok_as}
use Rattle.run_laws.proofs.Sessions.{acted_filled}

-- ---- as late productions

given_late : (s : Setting) (limit column : ℕ) (built : List Rule) (k : Session) → commands_done s limit column (map command.Add built) k ≡ writes [] (all_added built k)
given_late s limit column [] k = refl
given_late s limit column (r ∷ built) k = given_late s limit column built (added r k)

pub built_late : (s : Setting) (limit column : ℕ) (t : Turned) (k : Session) → commands_done s limit column (map command.Add t.built) (fired_on t.course k) ≡ writes [] (turned_on t k)
built_late s limit column t k = given_late s limit column t.built (fired_on t.course k)

-- ---- the number of a production

got_first : {X : Type 0} (xs ys : List X) (n : ℕ) → n < length xs → slice_get (xs ++ ys) n ≡ slice_get xs n
got_first [] ys n h = absurd (omega (arith, h))
got_first (x ∷ xs) ys zero h = refl
got_first (x ∷ xs) ys (suc n) h = got_first xs ys n (omega (arith, h))

within_left : {X : Type 0} (q n m : ℕ) (xs : List X) → moved q n ≡ Some m → n < length xs → m < length (without q xs)
within_left q n m [] is h = absurd (omega (arith, h))
within_left zero zero m (x ∷ xs) is h = absurd (cc)
within_left zero (suc n) m (x ∷ xs) is h = let same : n ≡ m = cc in omega (arith, same, h)
within_left (suc q) zero m (x ∷ xs) is h = let same : zero ≡ m = cc in omega (arith, same)
within_left (suc q) (suc n) m (x ∷ xs) is h = by (moved q n) refl is (λ j e. within_left q n j xs e (omega (arith, h)))
  where
    by : (o : Option ℕ) → moved q n ≡ o → option_map suc o ≡ Some m → ((j : ℕ) → moved q n ≡ Some j → j < length (without q xs)) → m < length (x ∷ without q xs)
    by None e is rest = absurd (cc)
    by (Some j) e is rest =
        let same : suc j ≡ m = cc in
        let low = rest j e in
        omega (arith, same, low)

more_breaks : (breaks : List Bool) (n : ℕ) → has_break (breaks ++ false ∷ []) n ≡ has_break breaks n
more_breaks [] zero = refl
more_breaks [] (suc n) = refl
more_breaks (b ∷ breaks) zero = refl
more_breaks (b ∷ breaks) (suc n) = more_breaks breaks n

none_stays : (rules built : List Rule) → place_after rules built None ≡ None
none_stays rules [] = refl
none_stays rules (r ∷ built) = by (rule_named rules r.name) (without_named rules r.name ++ r ∷ []) (λ left. none_stays left built)
  where
    by : (at : Option ℕ) (left : List Rule) → ((left : List Rule) → place_after left built None ≡ None)
        → place_after left built (unwrap_or (option_map (λ n. option_and_then (moved n) None) at) None) ≡ None
    by None left rest = rest left
    by (Some p) left rest = rest left

-- the number is that of the same production, with the same break
abbrev IsPlace : List Rule → Session → ℕ → ℕ → Type 0
IsPlace built k n m =
    (slice_get (all_added built k).rules m ≡ slice_get k.rules n) × (has_break (all_added built k).breaks m ≡ has_break k.breaks n)

pub place_found : (built : List Rule) (k : Session) (n m : ℕ) → n < length k.rules → place_after k.rules built (Some n) ≡ Some m → IsPlace built k n m
place_found [] k n m within is = let same : n ≡ m = cc in (ap (slice_get k.rules) (sym same), ap (has_break k.breaks) (sym same))
place_found (r ∷ built) k n m within is =
    by (rule_named k.rules r.name) (λ j n low is. place_found built j n m low is) is
  where
    left : Option ℕ → Session
    left at = unwrap_or (option_map (λ n. taken_out n k) at) k

    next : Option ℕ → Session
    next at = record (trail_emptied (left at)) { rules = (left at).rules ++ r ∷ []; breaks = (left at).breaks ++ false ∷ [] }

    by : (at : Option ℕ) → ((j : Session) (n : ℕ) → n < length j.rules → place_after j.rules built (Some n) ≡ Some m → IsPlace built j n m)
        → place_after (unwrap_or (option_map (λ n. without n k.rules) at) k.rules ++ r ∷ []) built (unwrap_or (option_map (λ p. option_and_then (moved p) (Some n)) at) (Some n)) ≡ Some m
        → (slice_get (all_added built (next at)).rules m ≡ slice_get k.rules n) × (has_break (all_added built (next at)).breaks m ≡ has_break k.breaks n)
    by None rest is =
        let long = length-append k.rules (r ∷ []) in
        let found = rest (next None) n (omega (arith, within, long)) is in
        (found.0 ∙ got_first k.rules (r ∷ []) n within, found.1 ∙ more_breaks k.breaks n)
    by (Some p) rest is = moves (moved p n) refl is
      where
        moves : (o : Option ℕ) → moved p n ≡ o → place_after (without p k.rules ++ r ∷ []) built o ≡ Some m
            → (slice_get (all_added built (next (Some p))).rules m ≡ slice_get k.rules n) × (has_break (all_added built (next (Some p))).breaks m ≡ has_break k.breaks n)
        moves None e is = let none = none_stays (without p k.rules ++ r ∷ []) built in absurd (cc)
        moves (Some j) e is =
            let low = within_left p n j k.rules e within in
            let long = length-append (without p k.rules) (r ∷ []) in
            let found = rest (next (Some p)) j (omega (arith, low, long)) is in (
              found.0 ∙ got_first (without p k.rules) (r ∷ []) j low ∙ without_get p n j k.rules e,
              found.1 ∙ more_breaks (without p k.breaks) j ∙ ap (λ o. unwrap_or o false) (without_get p n j k.breaks e),
            )

-- ---- when there is none

moved_self : (n : ℕ) → moved n n ≡ None
moved_self zero = refl
moved_self (suc n) = ap (option_map suc) (moved_self n)

still_first : (p : Rule → Bool) (rules : List Rule) (r : Rule) (n : ℕ) → position p rules ≡ Some n → position p (rules ++ r ∷ []) ≡ Some n
still_first p [] r n is = absurd (cc)
still_first p (x ∷ rules) r n is = by (p x) refl (position p rules) refl (λ m e. still_first p rules r m e)
  where
    by : (b : Bool) → p x ≡ b → (o : Option ℕ) → position p rules ≡ o → ((m : ℕ) → position p rules ≡ Some m → position p (rules ++ r ∷ []) ≡ Some m)
        → position p (x ∷ rules ++ r ∷ []) ≡ Some n
    by true e o f rest = position_head p x (rules ++ r ∷ []) e ∙ sym (position_head p x rules e) ∙ is
    by false e None f rest =
        let none : None ≡ Some n = sym (position_next p x rules e ∙ ap (option_map suc) f) ∙ is in absurd (cc)
    by false e (Some m) f rest =
        position_next p x (rules ++ r ∷ []) e ∙ ap (option_map suc) (rest m f) ∙ sym (position_next p x rules e ∙ ap (option_map suc) f) ∙ is

-- the place of the first that passes p, once the first that passes q is gone
abbrev IsLeft : (Rule → Bool) → List Rule → ℕ → ℕ → Type 0
IsLeft p rules q n = (m : ℕ) × (moved q n ≡ Some m) × (position p (without q rules) ≡ Some m)

left_place : (p q : Rule → Bool) → ((r : Rule) → p r ≡ true → q r ≡ false) → (rules : List Rule) (a n : ℕ) → position q rules ≡ Some a → position p rules ≡ Some n → IsLeft p rules a n
left_place p q apart [] a n at is = absurd (cc)
left_place p q apart (x ∷ rules) a n at is =
    by (q x) (p x) refl refl (position q rules) (position p rules) refl refl (λ b m f g. left_place p q apart rules b m f g)
  where
    by : (t u : Bool) → q x ≡ t → p x ≡ u → (o v : Option ℕ) → position q rules ≡ o → position p rules ≡ v
        → ((b m : ℕ) → position q rules ≡ Some b → position p rules ≡ Some m → IsLeft p rules b m) → IsLeft p (x ∷ rules) a n
    by true true e f o v g h rest = let no = apart x f in absurd (cc)
    by true false e f o None g h rest =
        let none : None ≡ Some n = sym (position_next p x rules f ∙ ap (option_map suc) h) ∙ is in absurd (cc)
    by true false e f o (Some m) g h rest =
        let first : Some 0 ≡ Some a = sym (position_head q x rules e) ∙ at in
        let here : 0 ≡ a = cc in
        let next : Some (suc m) ≡ Some n = sym (position_next p x rules f ∙ ap (option_map suc) h) ∙ is in
        let place : suc m ≡ n = cc in
        subst (λ n. IsLeft p (x ∷ rules) a n) place (subst (λ a. IsLeft p (x ∷ rules) a (suc m)) here (m, refl, h))
    by false u e f None v g h rest =
        let none : None ≡ Some a = sym (position_next q x rules e ∙ ap (option_map suc) g) ∙ at in absurd (cc)
    by false true e f (Some b) v g h rest =
        let next : Some (suc b) ≡ Some a = sym (position_next q x rules e ∙ ap (option_map suc) g) ∙ at in
        let place : suc b ≡ a = cc in
        let first : Some 0 ≡ Some n = sym (position_head p x rules f) ∙ is in
        let here : 0 ≡ n = cc in
        subst (λ n. IsLeft p (x ∷ rules) a n) here
        (subst (λ a. IsLeft p (x ∷ rules) a 0) place (0, refl, position_head p x (without b rules) f))
    by false false e f (Some b) None g h rest =
        let none : None ≡ Some n = sym (position_next p x rules f ∙ ap (option_map suc) h) ∙ is in absurd (cc)
    by false false e f (Some b) (Some m) g h rest =
        let next : Some (suc b) ≡ Some a = sym (position_next q x rules e ∙ ap (option_map suc) g) ∙ at in
        let place : suc b ≡ a = cc in
        let later : Some (suc m) ≡ Some n = sym (position_next p x rules f ∙ ap (option_map suc) h) ∙ is in
        let here : suc m ≡ n = cc in
        let left = rest b m g h in
        subst (λ n. IsLeft p (x ∷ rules) a n) here
        (subst (λ a. IsLeft p (x ∷ rules) a (suc m)) place
        (suc left.0, ap (option_map suc) left.1, position_next p x (without b rules) f ∙ ap (option_map suc) left.2))

pub place_gone : (built rules : List Rule) (name : Sym) (n : ℕ) → rule_named rules name ≡ Some n → is_some (place_after rules built (Some n)) ≡ not (has_name built name)
place_gone [] rules name n is = refl
place_gone (b ∷ built) rules name n is =
    by (b.name.0 == name.0) refl (λ left m e. place_gone built left name m e)
  where
    Later : Type 0
    Later = (left : List Rule) (m : ℕ) → rule_named left name ≡ Some m → is_some (place_after left built (Some m)) ≡ not (has_name built name)

    apart : (b.name.0 == name.0) ≡ false → (r : Rule) → (r.name.0 == name.0) ≡ true → (r.name.0 == b.name.0) ≡ false
    apart other r e = by (r.name.0 == b.name.0) refl
      where
        by : (t : Bool) → (r.name.0 == b.name.0) ≡ t → t ≡ false
        by true f =
            let one : r.name.0 ≡ b.name.0 = (Decides-eqb r.name.0 b.name.0).0 f in
            let two : r.name.0 ≡ name.0 = (Decides-eqb r.name.0 name.0).0 e in
            let same = (Decides-eqb b.name.0 name.0).1 (sym one ∙ two) in
            absurd (cc)
        by false f = refl

    stays : (at : Option ℕ) → rule_named rules b.name ≡ at → (b.name.0 == name.0) ≡ false → Later
        → is_some (place_after (unwrap_or (option_map (λ n. without n rules) at) rules ++ b ∷ []) built (unwrap_or (option_map (λ p. option_and_then (moved p) (Some n)) at) (Some n))) ≡ not (has_name built name)
    stays None at other later = later (rules ++ b ∷ []) n (still_first (λ r. r.name.0 == name.0) rules b n is)
    stays (Some p) at other later =
        let left = left_place (λ r. r.name.0 == name.0) (λ r. r.name.0 == b.name.0) (apart other) rules p n at is in
        ap (λ o. is_some (place_after (without p rules ++ b ∷ []) built o)) left.1
        ∙ later (without p rules ++ b ∷ []) left.0 (still_first (λ r. r.name.0 == name.0) (without p rules) b left.0 left.2)

    by : (t : Bool) → (b.name.0 == name.0) ≡ t → Later → is_some (place_after rules (b ∷ built) (Some n)) ≡ not (t || has_name built name)
    by true same later =
        let number : b.name.0 ≡ name.0 = (Decides-eqb b.name.0 name.0).0 same in
        let here : rule_named rules b.name ≡ Some n = ap (λ m. position (λ (r : Rule). r.name.0 == m) rules) number ∙ is in
        let gone : place_beside rules b (Some n) ≡ None = ap (λ at. unwrap_or (option_map (λ p. option_and_then (moved p) (Some n)) at) (Some n)) here ∙ moved_self n in
        ap (λ o. is_some (place_after (without_named rules b.name ++ b ∷ []) built o)) gone
        ∙ ap is_some (none_stays (without_named rules b.name ++ b ∷ []) built)
    by false other later = stays (rule_named rules b.name) refl other later

-- ---- what is built

pub firing_filled : (s : Setting) (column : ℕ) (i : Inst) (m : Course) → IfOk (firing s column i m).outcome (λ t. AreFilledFrom s.templates t.built)
firing_filled s column i m =
    let a = acted s (column_after_line s column i m) i (given_by m) in
    ok_as (λ (a : Acted). AreFilledFrom s.templates a.built) (λ (t : Turned). AreFilledFrom s.templates t.built) (turned_of s.rules i m) (ended_in (m.firings + 1) i.rule (rule_name s.rules i.rule)) a.outcome
    (acted_filled s (column_after_line s column i m) i m) (λ a q. q)
