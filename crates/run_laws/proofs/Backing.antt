-- `back` after `back`, and the commands after which no firing can be undone.
use Rattle.std.proofs.Common.{◌≡◌, ℕ, zero, suc, ◌+◌, ◌-◌, ◌≤◌, ◌<◌, List, [], ◌∷◌, length, take, true, cond, Option, Some, None, option_map, unwrap_or, IfOk, refl, sym, ap, ◌∙◌, subst, arith, slice_get}
use Rattle.std.proofs.lemmas.Bool.{false≢true, le-ltb}
use Rattle.std.proofs.lemmas.List.{length-take}
use Rattle.ops_base.specs.declared.commands.Command.{Command}
use Rattle.ops_base.specs.declared.commands.Command.TheVariants as command
use Rattle.ops_base.specs.declared.endings.Ending.{Ending}
use Rattle.ops_meaning.specs.Acting.{Setting}
use Rattle.ops_meaning.specs.Effects.{Effect, writes}
use Rattle.ops_meaning.specs.Layout.{kept_line}
use Rattle.ops_meaning.specs.Running.{Earlier, Session, back_given, command_done, gone_back, gone_back_to, lists, restored, states_kept, taken_out_named}
use Rattle.run_laws.specs.Undoing.{ends_the_trail}

-- ---- lists

got : {X : Type 0} (n : ℕ) (xs : List X) → n < length xs → (x : X) × (slice_get xs n ≡ Some x)
got n [] h = absurd (omega (arith, h))
got zero (x ∷ xs) h = (x, refl)
got (suc n) (x ∷ xs) h = got n xs (omega (arith, h))

got_short : {X : Type 0} (k n : ℕ) (xs : List X) (x : X) → slice_get (take k xs) n ≡ Some x → slice_get xs n ≡ Some x
got_short zero n xs x e = absurd (cc)
got_short (suc k) n [] x e = absurd (cc)
got_short (suc k) zero (y ∷ xs) x e = e
got_short (suc k) (suc n) (y ∷ xs) x e = got_short k n xs x e

kept_of : (n : ℕ) (o : Option (List Earlier)) → unwrap_or (option_map (take n) o) [] ≡ take n (unwrap_or o [])
kept_of zero None = refl
kept_of (suc n) None = refl
kept_of n (Some es) = refl

shorter : (n k : ℕ) (o : Option (List Earlier)) → n ≤ k → option_map (take n) (option_map (take k) o) ≡ option_map (take n) o
shorter n k None le = refl
shorter n k (Some es) le = ap Some (taken n k es le)
  where
    taken : (n k : ℕ) (es : List Earlier) → n ≤ k → take n (take k es) ≡ take n es
    taken zero k es le = refl
    taken (suc n) zero es le = absurd (omega (arith, le))
    taken (suc n) (suc k) [] le = refl
    taken (suc n) (suc k) (e ∷ es) le = ap (λ w. e ∷ w) (taken n k es (omega (arith, le)))

-- ---- a `back` of firings that are kept

-- the earliest of the last n states comes back
abbrev IsBack : ℕ → Session → Earlier → Type 0
IsBack n k e =
    let at = length (states_kept k) - n in
    (slice_get (states_kept k) at ≡ Some e) × ((column : ℕ) → back_given column n k ≡ writes [] (restored at k e))

gone : (n : ℕ) (k : Session) → 1 ≤ n → n ≤ length (states_kept k) → (e : Earlier) × IsBack n k e
gone n k some enough =
    let kept = length (states_kept k) in
    let at = kept - n in
    let f = got at (states_kept k) (omega (arith, some, enough)) in
    let back : (column : ℕ) → back_given column n k ≡ writes [] (restored at k f.0) = λ column.
    ap (λ b. cond b (lists column (kept_line kept ∷ []) k) (writes [] (gone_back_to at k))) (le-ltb kept n enough)
    ∙ ap (λ o. let w : Effect Ending Session = writes [] (unwrap_or (option_map (restored at k) o) k) in w) f.1
    in (f.0, (f.1, back))

some_is : {X : Type 0} (x y : X) → Some x ≡ Some y → x ≡ y
some_is x y e = cc

pub back_twice : (s t u : Setting) (limit column m n : ℕ) (k : Session) → 1 ≤ m → 1 ≤ n → m + n ≤ length (states_kept k)
    → IfOk (command_done s limit column (command.Back m) k).outcome (λ once. command_done t limit column (command.Back n) once ≡ command_done u limit column (command.Back (m + n)) k)
back_twice s t u limit column m n k first then enough =
    let Goal : Effect Ending Session → Type 0 = λ f. IfOk f.outcome (λ once. back_given column n once ≡ back_given column (m + n) k) in
    subst Goal (sym (one.1.1 column)) (two.1.1 column ∙ ap (λ w. let f : Effect Ending Session = writes [] w in f) same ∙ sym (both.1.1 column))
  where
    kept : ℕ
    kept = length (states_kept k)

    one : (e : Earlier) × IsBack m k e
    one = gone m k first (omega (arith, enough))

    once : Session
    once = restored (kept - m) k one.0

    left : states_kept once ≡ take (kept - m) (states_kept k)
    left = kept_of (kept - m) k.trail

    long : length (states_kept once) ≡ kept - m
    long = let a = length-take (kept - m) (states_kept k) in omega (arith, ap length left, a)

    two : (e : Earlier) × IsBack n once e
    two = gone n once then (omega (arith, long, enough))

    both : (e : Earlier) × IsBack (m + n) k e
    both = gone (m + n) k (omega (arith, first)) enough

    place : length (states_kept once) - n ≡ kept - (m + n)
    place = omega (arith, long)

    earliest : two.0 ≡ both.0
    earliest =
        let P : List Earlier → Type 0 = λ es. slice_get es (length (states_kept once) - n) ≡ Some two.0 in
        let there = got_short (kept - m) (length (states_kept once) - n) (states_kept k) two.0 (subst P left two.1.0) in
        some_is two.0 both.0 (sym there ∙ ap (slice_get (states_kept k)) place ∙ both.1.0)

    trail : option_map (take (length (states_kept once) - n)) once.trail ≡ option_map (take (kept - (m + n))) k.trail
    trail = shorter (length (states_kept once) - n) (kept - m) k.trail (omega (arith, long)) ∙ ap (λ w. option_map (take w) k.trail) place

    same : restored (length (states_kept once) - n) once two.0 ≡ restored (kept - (m + n)) k both.0
    same = λ i. record k { course = gone_back (earliest i) k.course; trail = trail i }

-- ---- after these commands nothing is kept

pub none_left : (o : Option (List Earlier)) → unwrap_or (option_map (λ (es : List Earlier). let none : List Earlier = [] in none) o) [] ≡ []
none_left None = refl
none_left (Some es) = refl

pub trail_ended : (s : Setting) (limit column : ℕ) (c : Command) (k : Session) → ends_the_trail c ≡ true → IfOk (command_done s limit column c k).outcome (λ after. states_kept after ≡ [])
trail_ended s limit column (command.Make class puts) k is = none_left k.trail
trail_ended s limit column (command.Remove tags) k is = none_left k.trail
trail_ended s limit column command.RemoveAll k is = none_left k.trail
trail_ended s limit column (command.Add r) k is = none_left (taken_out_named r.name k).trail
trail_ended s limit column (command.Run count) k is = absurd (false≢true is)
trail_ended s limit column (command.Wm tags) k is = absurd (false≢true is)
trail_ended s limit column (command.Ppwm pattern) k is = absurd (false≢true is)
trail_ended s limit column command.Cs k is = absurd (false≢true is)
trail_ended s limit column (command.Pm names) k is = absurd (false≢true is)
trail_ended s limit column (command.Strategy set) k is = absurd (false≢true is)
trail_ended s limit column (command.Watch set) k is = absurd (false≢true is)
trail_ended s limit column (command.Pbreak names) k is = absurd (false≢true is)
trail_ended s limit column (command.Excise given) k is = absurd (false≢true is)
trail_ended s limit column (command.Back count) k is = absurd (false≢true is)
trail_ended s limit column (command.Matches given) k is = absurd (false≢true is)
trail_ended s limit column command.Exit k is = absurd (false≢true is)
