-- The names that were in use at the points of a trail.
use Rattle.std.proofs.Common.{◌≡◌, ◌∙◌, ap, sym, subst, refl, ℕ, zero, suc, ◌-◌, ◌<◌, ◌≤◌, List, [], ◌∷◌, ◌++◌, length, map, take, drop, Some, slice_get, arith}
use Rattle.ops_base.specs.declared.symbols.Point.{Point}
use Rattle.ops_base.specs.Names.{Spellings}
use Rattle.ops_meaning.specs.Kept.{KeepsNames}
use Rattle.ops_meaning.specs.Running.{Earlier, last_kept}
use Rattle.back_trail.specs.Trails.{Earlier as Kept, names_at, last_ones, AreNamedFrom}
use Rattle.cycle.specs.Standing.{Standing}
use Rattle.session.specs.Trailing.{earlier_by}

-- ---- lists

take_agree : {X : Type 0} (n : ℕ) (xs ys : List X) → n ≤ length xs → ((i : ℕ) (x : X) → slice_get xs i ≡ Some x → slice_get ys i ≡ Some x) → take n ys ≡ take n xs
take_agree zero xs ys low same = refl
take_agree (suc n) [] ys low same = absurd (omega (arith, low))
take_agree (suc n) (x ∷ xs) [] low same = let no = same 0 x refl in absurd (cc)
take_agree (suc n) (x ∷ xs) (y ∷ ys) low same =
    let one : Some y ≡ Some x = same 0 x refl in
    let first : y ≡ x = cc in
    ap (λ z. z ∷ take n ys) first ∙ ap (λ zs. x ∷ zs) (take_agree n xs ys (omega (arith, low)) (λ i z. same (suc i) z))

map_taken : {X Y : Type 0} (f : X → Y) (n : ℕ) (xs : List X) → map f (take n xs) ≡ take n (map f xs)
map_taken f zero xs = refl
map_taken f (suc n) [] = refl
map_taken f (suc n) (x ∷ xs) = ap (λ ys. f x ∷ ys) (map_taken f n xs)

map_dropped : {X Y : Type 0} (f : X → Y) (n : ℕ) (xs : List X) → map f (drop n xs) ≡ drop n (map f xs)
map_dropped f zero xs = refl
map_dropped f (suc n) [] = refl
map_dropped f (suc n) (x ∷ xs) = map_dropped f n xs

pub map_long : {X Y : Type 0} (f : X → Y) (xs : List X) → length (map f xs) ≡ length xs
map_long f [] = refl
map_long f (x ∷ xs) = ap suc (map_long f xs)

map_pushed : {X Y : Type 0} (f : X → Y) (xs : List X) (x : X) → map f (xs ++ x ∷ []) ≡ map f xs ++ f x ∷ []
map_pushed f [] x = refl
map_pushed f (y ∷ xs) x = ap (λ ys. f y ∷ ys) (map_pushed f xs x)

took_before : {X : Type 0} (n i : ℕ) (xs : List X) (x : X) → i < n → slice_get xs i ≡ Some x → slice_get (take n xs) i ≡ Some x
took_before zero i xs x low e = absurd (omega (arith, low))
took_before (suc n) i [] x low e = absurd (cc)
took_before (suc n) zero (y ∷ xs) x low e = e
took_before (suc n) (suc i) (y ∷ xs) x low e = took_before n i xs x (omega (arith, low)) e

got_low : {X : Type 0} (xs : List X) (i : ℕ) (x : X) → slice_get xs i ≡ Some x → i < length xs
got_low [] i x e = absurd (cc)
got_low (y ∷ xs) zero x e = omega arith
got_low (y ∷ xs) (suc i) x e = let low = got_low xs i x e in omega (arith, low)

pub got_some : {X : Type 0} (xs : List X) (i : ℕ) → i < length xs → (x : X) × (slice_get xs i ≡ Some x)
got_some [] i low = absurd (omega (arith, low))
got_some (x ∷ xs) zero low = (x, refl)
got_some (x ∷ xs) (suc i) low = got_some xs i (omega (arith, low))

-- ---- names that are kept

-- there are no fewer of them
pub no_fewer : (old new : Spellings) → KeepsNames old new → length old.held ≤ length new.held
no_fewer old new keeps = by old.held new.held keeps
  where
    by : (xs ys : List (List ℕ)) → ((i : ℕ) (s : List ℕ) → slice_get xs i ≡ Some s → slice_get ys i ≡ Some s) → length xs ≤ length ys
    by [] ys same = omega arith
    by (x ∷ xs) [] same = let no = same 0 x refl in absurd (cc)
    by (x ∷ xs) (y ∷ ys) same = let rest = by xs ys (λ i s. same (suc i) s) in omega (arith, rest)

-- those that were in use at a point are the same
same_at : (point : Point) (old new : Spellings) → KeepsNames old new → point.held ≤ length old.held → names_at point new ≡ names_at point old
same_at point old new keeps low =
    ap (λ held. let n : Spellings = record { held = held; made = point.fresh } in n) (take_agree point.held old.held new.held low keeps)

-- and keep what was in use before it
pub keeps_at : (point : Point) (first names : Spellings) → KeepsNames first names → length first.held ≤ point.held → KeepsNames first (names_at point names)
keeps_at point first names keeps low i s h =
    let within = got_low first.held i s h in
    took_before point.held i names.held s (omega (arith, within, low)) (keeps i s h)

-- ---- the points of a trail

pub named_bound : (least : ℕ) (names : Spellings) (states : List Kept) → AreNamedFrom least names states → least ≤ length names.held
named_bound least names [] h = h
named_bound least names (e ∷ states) h = let rest = named_bound e.point.held names states h.1 in omega (arith, h.0, rest)

pub named_less : (least less : ℕ) (names : Spellings) (states : List Kept) → less ≤ least → AreNamedFrom least names states → AreNamedFrom less names states
named_less least less names [] le h = omega (arith, le, h)
named_less least less names (e ∷ states) le h = (omega (arith, le, h.0), h.1)

pub named_grown : (least : ℕ) (old new : Spellings) (states : List Kept) → KeepsNames old new → AreNamedFrom least old states → AreNamedFrom least new states
named_grown least old new [] keeps h = let more = no_fewer old new keeps in omega (arith, more, h)
named_grown least old new (e ∷ states) keeps h = (h.0, named_grown e.point.held old new states keeps h.1)

named_dropped : (n least : ℕ) (names : Spellings) (states : List Kept) → AreNamedFrom least names states → AreNamedFrom least names (drop n states)
named_dropped zero least names states h = h
named_dropped (suc n) least names [] h = h
named_dropped (suc n) least names (e ∷ states) h =
    named_less e.point.held least names (drop n states) h.0 (named_dropped n e.point.held names states h.1)

named_pushed : (least : ℕ) (names new : Spellings) (states : List Kept) (e : Kept) → e.point.held ≡ length names.held → length names.held ≤ length new.held → AreNamedFrom least names states → AreNamedFrom least new (states ++ e ∷ [])
named_pushed least names new [] e at more h = (omega (arith, at, h), omega (arith, at, more))
named_pushed least names new (d ∷ states) e at more h = (h.0, named_pushed d.point.held names new states e at more h.1)

-- a firing more is kept, which was made with these names
pub named_with : (least : ℕ) (names new : Spellings) (states : List Kept) (e : Kept) → e.point.held ≡ length names.held → KeepsNames names new → AreNamedFrom least names states → AreNamedFrom least new (last_ones (states ++ e ∷ []))
named_with least names new states e at keeps h =
    named_dropped (length (states ++ e ∷ []) - 32) least new (states ++ e ∷ []) (named_pushed least names new states e at (no_fewer names new keeps) h)

-- the point of a state is within the names
pub within_names : (least : ℕ) (names : Spellings) (states : List Kept) (i : ℕ) (e : Kept) → AreNamedFrom least names states → slice_get states i ≡ Some e → (least ≤ e.point.held) × (e.point.held ≤ length names.held)
within_names least names [] i e h is = absurd (cc)
within_names least names (d ∷ states) zero e h is =
    let same : d ≡ e = cc in
    let P : Kept → Type 0 = λ d. (least ≤ d.point.held) × (d.point.held ≤ length names.held) in
    subst P same (h.0, named_bound d.point.held names states h.1)
within_names least names (d ∷ states) (suc i) e h is =
    let rest = within_names d.point.held names states i e h.1 is in (omega (arith, h.0, rest.0), rest.1)

-- the states before one that comes back
pub named_before : (least : ℕ) (names back : Spellings) (states : List Kept) (i : ℕ) (e : Kept) → AreNamedFrom least names states → slice_get states i ≡ Some e → length back.held ≡ e.point.held → AreNamedFrom least back (take i states)
named_before least names back [] i e h is long = absurd (cc)
named_before least names back (d ∷ states) zero e h is long =
    let w = within_names least names (d ∷ states) zero e h is in omega (arith, w.0, long)
named_before least names back (d ∷ states) (suc i) e h is long = (h.0, named_before d.point.held names back states i e h.1 is long)

-- ---- what the states mean

-- the states mean the same by names that have grown
pub means_same : (least : ℕ) (old new : Spellings) (states : List Kept) → KeepsNames old new → AreNamedFrom least old states → map (earlier_by new) states ≡ map (earlier_by old) states
means_same least old new [] keeps h = refl
means_same least old new (e ∷ states) keeps h =
    let low = named_bound e.point.held old states h.1 in
    let named : Spellings → Earlier = λ n. record { wm = e.standing.wm; fired = e.standing.fired; last = e.standing.last; names = n } in
    ap (λ x. x ∷ map (earlier_by new) states) (ap named (same_at e.point old new keeps low))
    ∙ ap (λ xs. earlier_by old e ∷ xs) (means_same e.point.held old new states keeps h.1)

-- the last of them
last_means : (names : Spellings) (states : List Kept) → map (earlier_by names) (last_ones states) ≡ last_kept (map (earlier_by names) states)
last_means names states =
    map_dropped (earlier_by names) (length states - 32) states
    ∙ ap (λ n. drop (n - 32) (map (earlier_by names) states)) (sym (map_long (earlier_by names) states))

-- all names are in use where they were counted
whole_at : (names : Spellings) (point : Point) → point.held ≡ length names.held → point.fresh ≡ names.made → names_at point names ≡ names
whole_at names point held fresh =
    ap (λ n. let m : Spellings = record { held = take n names.held; made = point.fresh } in m) held
    ∙ ap (λ h. let m : Spellings = record { held = h; made = point.fresh } in m) (take_whole names.held)
    ∙ ap (λ n. let m : Spellings = record { held = names.held; made = n } in m) fresh
  where
    take_whole : {X : Type 0} (xs : List X) → take (length xs) xs ≡ xs
    take_whole [] = refl
    take_whole (x ∷ xs) = ap (λ ys. x ∷ ys) (take_whole xs)

-- A firing more is kept: what was before it, with the names as they were.
pub firing_means : (least : ℕ) (old new : Spellings) (states : List Kept) (s : Standing) (point : Point) → KeepsNames old new → AreNamedFrom least old states → point.held ≡ length old.held → point.fresh ≡ old.made
    → map (earlier_by new) (last_ones (states ++ record { standing = s; point = point } ∷ [])) ≡ last_kept (map (earlier_by old) states ++ record { wm = s.wm; fired = s.fired; last = s.last; names = old } ∷ [])
firing_means least old new states s point keeps h held fresh =
    let e : Kept = record { standing = s; point = point } in
    let low : point.held ≤ length old.held = omega (arith, held) in
    let named : Spellings → Earlier = λ n. record { wm = s.wm; fired = s.fired; last = s.last; names = n } in
    last_means new (states ++ e ∷ [])
    ∙ ap last_kept
    (map_pushed (earlier_by new) states e
    ∙ ap (λ xs. xs ++ earlier_by new e ∷ []) (means_same least old new states keeps h)
    ∙ ap (λ n. map (earlier_by old) states ++ named n ∷ []) (same_at point old new keeps low ∙ whole_at old point held fresh))

pub taken_long : {X : Type 0} (n : ℕ) (xs : List X) → n ≤ length xs → length (take n xs) ≡ n
taken_long zero xs low = refl
taken_long (suc n) [] low = absurd (omega (arith, low))
taken_long (suc n) (x ∷ xs) low = ap suc (taken_long n xs (omega (arith, low)))

-- The states before one that comes back mean the same by the names that come back with it.
pub before_means : (least : ℕ) (names back : Spellings) (states : List Kept) (i : ℕ) (e : Kept) → AreNamedFrom least names states → slice_get states i ≡ Some e → back ≡ names_at e.point names
    → map (earlier_by back) (take i states) ≡ take i (map (earlier_by names) states)
before_means least names back states i e h is same =
    let long : length back.held ≡ e.point.held = ap (λ (n : Spellings). length n.held) same ∙ taken_long e.point.held names.held (within_names least names states i e h is).1 in
    sym (means_same least back names (take i states) (subst (λ n. KeepsNames n names) (sym same) (λ j s g. took_in e.point.held j names.held s g)) (named_before least names back states i e h is long))
    ∙ map_taken (earlier_by names) i states
  where
    took_in : {X : Type 0} (n i : ℕ) (xs : List X) (x : X) → slice_get (take n xs) i ≡ Some x → slice_get xs i ≡ Some x
    took_in zero i xs x g = absurd (cc)
    took_in (suc n) i [] x g = g
    took_in (suc n) zero (y ∷ xs) x g = g
    took_in (suc n) (suc i) (y ∷ xs) x g = took_in n i xs x g
